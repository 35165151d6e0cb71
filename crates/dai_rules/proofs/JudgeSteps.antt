-- The steps of the judge, put together.
use Rattle.std.proofs.Common.{◌≡◌, ℕ, Bool, true, false, not, List, [], ◌∷◌, ◌++◌, Option, drop, map, length, ap, sym, ◌∙◌, refl}
use Rattle.std.specs.Borrow.{Bor}
use Rattle.std.specs.List.{list_any, flat_map, enumerate_from}
use Rattle.dai_syntax.specs.declared.tree.Name.{Name}
use Rattle.dai_syntax.specs.declared.tree.Arg.{Arg}
use Rattle.dai_rules.specs.declared.first.Fault.{Fault}
use Rattle.dai_rules.specs.declared.judge.Role.{Role}
use Rattle.dai_rules.specs.declared.judge.Role.TheVariants.{Value}
use Rattle.dai_syntax.specs.declared.tree.Binder.{Binder}
use Rattle.dai_syntax.specs.declared.tree.Op.{Op}
use Rattle.dai_syntax.specs.Tree.{Formula, implication, quantified, Formulas, with_formula}
use Rattle.dai_rules.specs.Names.{is_among, Kind, kind_in}
use Rattle.dai_rules.specs.Kinds.{type_at_place}
use Rattle.dai_rules.specs.Naming.{Naming, no_variables, Binding, after_term, after_terms, with_binding, bound_with, bound_by, own_number, at_quantifier, entered, left, after_formula, after_formulas}
use Rattle.dai_rules.specs.Types.{Use}
use Rattle.dai_rules.specs.Sites.{Role as Sort, outermost, sites_alone, target_at, arguments_at, places_of, right_output, update_role, update_output, whole_at, Site, Ordering, Output, nothing, both, variable_at, variable_names, compared_at, type_beside, term_output, terms_output, term_number, links, orderings_of, place_of, comparison_output, binder_output, binders_output, bound_at, annotated_at, typed_by, witness_places, Force, negated, within, is_universal_in, quantifier_output, formula_output, formulas_output}
use Rattle.dai_rules.specs.Rules.{at_if, is_variable_of, existentials_of}
use Rattle.dai_rules.specs.Classes.{fault_if, type_faults, labels_of, variable_faults, ordering_faults}
use Rattle.dai_rules.specs.First.{noting_all, numbered}
use Rattle.dai_rules.specs.Views.{View, given, seen, noted, used, ordered, renamed, witnessed, emptied, whole_view, role_in}
use Rattle.dai_rules.proofs.ViewLemmas.{noting_all-append, view_by, variables_among, given-given, seen-seen, seen-given}
use Rattle.dai_rules.proofs.Lists.{append_nil}
use Rattle.dai_rules.proofs.VariableLemmas.{after_formula-bound}

at_one : (b : Bool) (first : Option Fault) (number at : ℕ) → noting_all first (fault_if b number at) ≡ noting_all first (((numbered number (at_if b at) ++ []) ++ []) ++ [])
at_one true first number at = refl
at_one false first number at = refl

pub stands_by : (v w : View) (role : Role) (allowed : Bor (List Arg)) (name : Name) (b : Bool) → role ≡ Value allowed → b ≡ list_any (is_variable_of name.text) allowed.now → w ≡ noted v (fault_if (not b) 30 name.at)
    → w ≡ seen v (variable_at (role_in v.context role) name ∷ [])
stands_by v w role allowed name b is e f =
    f ∙ ap (λ c. noted v (fault_if (not c) 30 name.at)) (e ∙ variables_among name.text allowed.now)
    ∙ ap (λ first. record v { first = first }) (at_one (not (is_among name.text (variable_names allowed.now))) v.first 30 name.at)
    ∙ ap (λ r. seen v (variable_at (role_in v.context r) name ∷ [])) (sym is)

-- sites, then uses, then orderings
pub tail_given : (v : View) (sites : List Site) (uses : List Use) (orderings : List Ordering) → ordered (used (seen v sites) uses) orderings ≡ given v (record nothing { sites = sites; uses = uses; orderings = orderings }) v.naming
tail_given v sites uses orderings = view_by _ _ refl refl refl refl refl (sym (append_nil v.existentials)) (sym (append_nil v.witnesses)) refl

-- three outputs, one after the other
pub three_given : (v : View) (a b c : Output) (n m k : Naming) → given (given (given v a n) b m) c k ≡ given v (both a (both b c)) k
three_given v a b c n m k = given-given (given v a n) b c m k ∙ given-given v a (both b c) n k

abbrev term_step : Role → Option Name → Arg → View → View
term_step role expected t v = given v (term_output v.context (role_in v.context role) v.naming expected t) (after_term v.naming t)

abbrev compared_step : Arg → Op → Arg → Option ℕ → Option ℕ → View → View
compared_step a op b one other v = ordered (used (seen v (compared_at v.context a op b ∷ [])) (links one other)) (orderings_of op (place_of a) one other)

abbrev comparison_tail : View → Arg → Op → Arg → Option ℕ → Option ℕ → Output
comparison_tail v a op b one other = record nothing { sites = compared_at v.context a op b ∷ []; uses = links one other; orderings = orderings_of op (place_of a) one other }

pub comparison_by : (role : Role) (a b : Arg) (op : Op) (x y : Option Name) (one other : Option ℕ) (v0 v1 v2 v3 v4 v5 : View)
    → x ≡ type_beside v0.context a b → y ≡ type_beside v0.context b a
    → v1 ≡ term_step role x a v0 → one ≡ term_number v0.naming a → v2 ≡ term_step role y b v1 → other ≡ term_number v1.naming b
    → v3 ≡ seen v2 (compared_at v2.context a op b ∷ []) → v4 ≡ used v3 (links one other) → v5 ≡ ordered v4 (orderings_of op (place_of a) one other)
    → v5 ≡ given v0 (comparison_output v0.context (role_in v0.context role) v0.naming a op b) (after_term (after_term v0.naming a) b)
comparison_by role a b op x y one other v0 v1 v2 v3 v4 v5 ex ey e1 eo e2 ep e3 e4 e5 =
    let n1 = after_term v0.naming a in
    let A = term_output v0.context (role_in v0.context role) v0.naming x a in
    let B = term_output v0.context (role_in v0.context role) n1 y b in
    let T = comparison_tail v0 a op b one other in
    let second : v2 ≡ given (given v0 A n1) B (after_term n1 b) = e2 ∙ ap (term_step role y b) e1 in
    let last : v5 ≡ compared_step a op b one other v2 = e5 ∙ ap (λ v. ordered v (orderings_of op (place_of a) one other)) e4 ∙ ap (λ v. ordered (used v (links one other)) (orderings_of op (place_of a) one other)) e3 in
    let number : other ≡ term_number n1 b = ep ∙ ap (λ (v : View). term_number v.naming b) e1 in
    last ∙ ap (compared_step a op b one other) second
    ∙ tail_given (given (given v0 A n1) B (after_term n1 b)) (compared_at v0.context a op b ∷ []) (links one other) (orderings_of op (place_of a) one other)
    ∙ three_given v0 A B T n1 (after_term n1 b) (after_term n1 b)
    ∙ ap (λ e. given v0 (both (term_output v0.context (role_in v0.context role) v0.naming e a) (both B T)) (after_term n1 b)) ex
    ∙ ap (λ e. given v0 (both (term_output v0.context (role_in v0.context role) v0.naming (type_beside v0.context a b) a) (both (term_output v0.context (role_in v0.context role) n1 e b) T)) (after_term n1 b)) ey
    ∙ ap (λ o. given v0 (both (term_output v0.context (role_in v0.context role) v0.naming (type_beside v0.context a b) a) (both (term_output v0.context (role_in v0.context role) n1 (type_beside v0.context b a) b) (comparison_tail v0 a op b o other))) (after_term n1 b)) eo
    ∙ ap (λ o. given v0 (both (term_output v0.context (role_in v0.context role) v0.naming (type_beside v0.context a b) a) (both (term_output v0.context (role_in v0.context role) n1 (type_beside v0.context b a) b) (comparison_tail v0 a op b (term_number v0.naming a) o))) (after_term n1 b)) number

-- the first of the terms, and those after it
terms_at : (role : Role) (v : View) (places : List Binder) (t : Arg) (ts : List Arg)
    → terms_output v.context (role_in v.context role) v.naming places (t ∷ ts) ≡ both (term_output v.context (role_in v.context role) v.naming (type_at_place places) t) (terms_output v.context (role_in v.context role) (after_term v.naming t) (drop 1 places) ts)
terms_at role v [] t ts = refl
terms_at role v (p ∷ places) t ts = refl

abbrev pub terms_step : Role → List Binder → List Arg → View → View
terms_step role places ts v = given v (terms_output v.context (role_in v.context role) v.naming places ts) (after_terms v.naming ts)

pub terms_next : (role : Role) (v w : View) (places : List Binder) (expected : Option Name) (t : Arg) (ts : List Arg) → expected ≡ type_at_place places → w ≡ term_step role expected t v → terms_step role (drop 1 places) ts w ≡ terms_step role places (t ∷ ts) v
terms_next role v w places expected t ts e f =
    ap (terms_step role (drop 1 places) ts) (f ∙ ap (λ x. term_step role x t v) e)
    ∙ given-given v (term_output v.context (role_in v.context role) v.naming (type_at_place places) t) (terms_output v.context (role_in v.context role) (after_term v.naming t) (drop 1 places) ts) (after_term v.naming t) (after_terms (after_term v.naming t) ts)
    ∙ ap (λ o. given v o (after_terms (after_term v.naming t) ts)) (sym (terms_at role v places t ts))

-- a variable of a quantifier
pub bound_one_by : (start : ℕ) (n : Naming) (b : Binding) (before : List Binder) (binder : Binder) (witness : Bool) (variable : ℕ) (sort : Option Name) (v0 v1 v2 v3 v4 v5 : View)
    → v1 ≡ seen v0 (bound_at before binder.name ∷ []) → v2 ≡ seen v1 (annotated_at v1.context binder.sort) → v3 ≡ renamed v2 (with_binding n (bound_with b binder))
    → v4 ≡ used v3 (typed_by variable sort) → v5 ≡ witnessed v4 (witness_places witness binder.name.at) → variable ≡ own_number b binder → sort ≡ binder.sort
    → v5 ≡ given v0 (binder_output v0.context witness b before binder) (with_binding n (bound_with b binder))
bound_one_by start n b before binder witness variable sort v0 v1 v2 v3 v4 v5 e1 e2 e3 e4 e5 ev es =
    let uses = typed_by (own_number b binder) binder.sort in
    let places = witness_places witness binder.name.at in
    let m = with_binding n (bound_with b binder) in
    let at : View → View = λ v. witnessed (used (renamed v m) uses) places in
    e5 ∙ ap (λ v. witnessed v places) e4 ∙ ap (λ v. witnessed (used v (typed_by variable sort)) places) e3
    ∙ ap (λ k. witnessed (used (renamed v2 m) (typed_by k sort)) places) ev ∙ ap (λ k. witnessed (used (renamed v2 m) (typed_by (own_number b binder) k)) places) es
    ∙ ap at e2 ∙ ap (λ v. at (seen v (annotated_at v.context binder.sort))) e1
    ∙ ap at (seen-seen v0 (bound_at before binder.name ∷ []) (annotated_at v0.context binder.sort))
    ∙ view_by _ _ refl refl refl refl (sym (append_nil v0.orderings)) (sym (append_nil v0.existentials)) refl refl

-- the next variable of a quantifier, and those after it
abbrev pub binders_step : Bool → Naming → Binding → List Binder → List Binder → View → View
binders_step witness end b before binders v = given v (binders_output v.context witness b before binders) end

pub binders_next : (witness : Bool) (end m : Naming) (b : Binding) (before : List Binder) (binder : Binder) (binders : List Binder) (v w : View)
    → w ≡ given v (binder_output v.context witness b before binder) m → binders_step witness end (bound_with b binder) (before ++ binder ∷ []) binders w ≡ binders_step witness end b before (binder ∷ binders) v
binders_next witness end m b before binder binders v w e =
    ap (binders_step witness end (bound_with b binder) (before ++ binder ∷ []) binders) e
    ∙ given-given v (binder_output v.context witness b before binder) (binders_output v.context witness (bound_with b binder) (before ++ binder ∷ []) binders) m end

-- a formula, several, and the parts of a quantified one
abbrev pub formula_step : Role → Force → Formula → View → View
formula_step role force f v = given v (formula_output v.context (role_in v.context role) force v.naming f) (after_formula v.naming f)

abbrev pub formulas_step : Role → Force → Formulas → View → View
formulas_step role force fs v = given v (formulas_output v.context (role_in v.context role) force v.naming fs) (after_formulas v.naming fs)

pub implies_by : (role : Role) (force : Force) (f g : Formula) (v0 v1 v2 : View) → v1 ≡ formula_step role (negated force) f v0 → v2 ≡ formula_step role force g v1 → v2 ≡ formula_step role force (implication f g) v0
implies_by role force f g v0 v1 v2 e1 e2 =
    e2 ∙ ap (formula_step role force g) e1
    ∙ given-given v0 (formula_output v0.context (role_in v0.context role) (negated force) v0.naming f) (formula_output v0.context (role_in v0.context role) force (after_formula v0.naming f) g) (after_formula v0.naming f) (after_formula (after_formula v0.naming f) g)

pub next_formula : (role : Role) (force : Force) (f : Formula) (fs : Formulas) (v w : View) → w ≡ formula_step role force f v → formulas_step role force fs w ≡ formulas_step role force (with_formula f fs) v
next_formula role force f fs v w e =
    ap (formulas_step role force fs) e
    ∙ given-given v (formula_output v.context (role_in v.context role) force v.naming f) (formulas_output v.context (role_in v.context role) force (after_formula v.naming f) fs) (after_formula v.naming f) (after_formulas (after_formula v.naming f) fs)

abbrev pub quantifier_step : Role → Force → Bool → ℕ → View → View
quantifier_step role force universal at v = given v (quantifier_output (role_in v.context role) force universal at) v.naming

abbrev pub bind_step : Bool → List Binder → View → View
bind_step witness binders v = given v (binders_output v.context witness (at_quantifier v.naming) [] binders) (entered v.naming binders)

pub behind_quantifier : (role : Role) (force : Force) (universal : Bool) (binders : List Binder) (f : Formula) (v0 v1 v2 v3 : View)
    → v1.naming ≡ v0.naming → v2 ≡ bind_step (not (is_universal_in force universal)) binders v1 → v3 ≡ formula_step role (within force universal) f v2 → v3.naming.bound ≡ (bound_by (at_quantifier v0.naming) binders).own ++ v0.naming.bound
behind_quantifier role force universal binders f v0 v1 v2 v3 e1 e2 e3 =
    ap (λ (v : View). v.naming.bound) e3 ∙ after_formula-bound v2.naming f ∙ ap (λ (v : View). v.naming.bound) e2 ∙ ap (λ (n : Naming). (entered n binders).bound) e1

pub quantified_by : (role : Role) (force : Force) (universal : Bool) (binders : List Binder) (f : Formula) (at : ℕ) (v0 v1 v2 v3 v4 : View)
    → v1 ≡ quantifier_step role force universal at v0 → v2 ≡ bind_step (not (is_universal_in force universal)) binders v1 → v3 ≡ formula_step role (within force universal) f v2
    → v4 ≡ renamed v3 (record v3.naming { bound = v0.naming.bound }) → v4 ≡ formula_step role force (quantified universal binders f at) v0
quantified_by role force universal binders f at v0 v1 v2 v3 v4 e1 e2 e3 e4 =
    let w = not (is_universal_in force universal) in
    let leave : View → View = λ v. renamed v (record v.naming { bound = v0.naming.bound }) in
    let inner = entered v0.naming binders in
    e4 ∙ ap leave (e3 ∙ ap (formula_step role (within force universal) f) (e2 ∙ ap (bind_step w binders) e1))
    ∙ three_given v0 (quantifier_output (role_in v0.context role) force universal at) (binders_output v0.context w (at_quantifier v0.naming) [] binders) (formula_output v0.context (role_in v0.context role) (within force universal) inner f)
    v0.naming inner (left v0.naming (after_formula inner f))

-- a whole formula: the existential quantifiers beside free variables, the variables past the limit, the types
whole_faults : (first : Option Fault) (a b c : List Fault) → noting_all (noting_all (noting_all first a) b) c ≡ noting_all first (((a ++ b) ++ c) ++ [])
whole_faults first a b c =
    ap (λ f. noting_all f c) (sym (noting_all-append first a b)) ∙ sym (noting_all-append first (a ++ b) c) ∙ ap (noting_all first) (sym (append_nil ((a ++ b) ++ c)))

abbrev past_limit : View → List Fault
past_limit v = numbered 42 (map (λ (name : Name). name.at) (drop 12 v.naming.variables))

pub whole_by : (role other : Sort) (v0 v1 v2 v3 : View) → v1 ≡ noted v0 (numbered 29 (existentials_of role v0.naming.free v0.existentials)) → v2 ≡ noted v1 (past_limit v1) → v3 ≡ noted v2 (type_faults (whole_view other v2))
    → v3 ≡ seen v0 (whole_at (whole_view role v0) ∷ [])
whole_by role other v0 v1 v2 v3 e1 e2 e3 =
    let a = numbered 29 (existentials_of role v0.naming.free v0.existentials) in
    e3 ∙ ap (λ v. noted v (type_faults (whole_view other v))) (e2 ∙ ap (λ v. noted v (past_limit v)) e1)
    ∙ ap (λ first. record v0 { first = first }) (whole_faults v0.first a (past_limit v0) (type_faults (whole_view role v0)))

-- a sentence from the beginning
abbrev pub whole_step : Role → View → View
whole_step role v = seen v (whole_at (whole_view (role_in v.context role) v) ∷ [])

pub sentence_by : (role : Role) (f : Formula) (v0 v1 v2 v3 : View) → v1 ≡ emptied v0 → v2 ≡ formula_step role outermost f v1 → v3 ≡ whole_step role v2 → v3 ≡ whole_step role (formula_step role outermost f (emptied v0))
sentence_by role f v0 v1 v2 v3 e1 e2 e3 = e3 ∙ ap (whole_step role) (e2 ∙ ap (formula_step role outermost f) e1)

-- an update from the beginning
abbrev pub right_step : Role → Kind → Formula → View → View
right_step role kind f v = given v (right_output v.context (role_in v.context role) v.naming kind f) (after_formula v.naming f)

pub update_by : (args : Bor (List Arg)) (name : Name) (f : Formula) (places : List Binder) (kind : Kind) (v0 v1 v2 v3 v4 v5 : View)
    → v1 ≡ emptied v0 → v2 ≡ seen v1 (target_at v1.context name args.now f ∷ []) → v3 ≡ seen v2 (arguments_at [] args.now) → v4 ≡ terms_step (Value args) places args.now v3 → v5 ≡ right_step (Value args) kind f v4
    → kind ≡ kind_in v0.context name.text → places ≡ places_of kind
    → v5 ≡ given (emptied v0) (update_output v0.context name args.now f) (after_formula (after_terms no_variables args.now) f)
update_by args name f places kind v0 v1 v2 v3 v4 v5 e1 e2 e3 e4 e5 ek ep =
    let role = Value args in
    let k = kind_in v0.context name.text in
    let ts = args.now in
    let n = after_terms no_variables ts in
    let begun : v3 ≡ given (emptied v0) (sites_alone (target_at v0.context name ts f ∷ arguments_at [] ts)) no_variables =
    e3 ∙ ap (λ v. seen v (arguments_at [] ts)) (e2 ∙ ap (λ v. seen v (target_at v.context name ts f ∷ [])) e1)
    ∙ seen-seen (emptied v0) (target_at v0.context name ts f ∷ []) (arguments_at [] ts) ∙ seen-given (emptied v0) (target_at v0.context name ts f ∷ arguments_at [] ts) in
    e5 ∙ ap (right_step role kind f) (e4 ∙ ap (λ ps. terms_step role ps ts v3) (ep ∙ ap places_of ek) ∙ ap (terms_step role (places_of k) ts) begun)
    ∙ ap (λ j. right_step role j f (terms_step role (places_of k) ts (given (emptied v0) (sites_alone (target_at v0.context name ts f ∷ arguments_at [] ts)) no_variables))) ek
    ∙ three_given (emptied v0) (sites_alone (target_at v0.context name ts f ∷ arguments_at [] ts)) (terms_output v0.context (update_role ts) no_variables (places_of k) ts) (right_output v0.context (update_role ts) n k f) no_variables n (after_formula n f)

-- the faults of the types of variables: those of the variables, then those of the comparisons
pub types_by : (role : Sort) (v w : View) (f : Option Fault) (L l5 l7 : List ℕ) (n : ℕ) (us : List Use) (names : List Name)
    → w ≡ noted (record v { first = f }) (flat_map (ordering_faults (whole_view role v) l7) v.orderings) → f ≡ noting_all v.first (flat_map (variable_faults l5 v.uses) (enumerate_from 0 names))
    → names ≡ v.naming.variables → l5 ≡ L → l7 ≡ L → L ≡ labels_of n us → n ≡ length v.naming.variables → us ≡ v.uses → w ≡ noted v (type_faults (whole_view role v))
types_by role v w f L l5 l7 n us names ew ef en e5 e7 value count used =
    let W = whole_view role v in
    let labels = labels_of (length v.naming.variables) v.uses in
    let is : L ≡ labels = value ∙ ap (λ k. labels_of k us) count ∙ ap (labels_of (length v.naming.variables)) used in
    let A = flat_map (variable_faults labels v.uses) (enumerate_from 0 v.naming.variables) in
    let B = flat_map (ordering_faults W labels) v.orderings in
    let first : f ≡ noting_all v.first A =
    ef ∙ ap (λ l. noting_all v.first (flat_map (variable_faults l v.uses) (enumerate_from 0 names))) (e5 ∙ is) ∙ ap (λ vs. noting_all v.first (flat_map (variable_faults labels v.uses) (enumerate_from 0 vs))) en in
    ew ∙ ap (λ l. noted (record v { first = f }) (flat_map (ordering_faults W l) v.orderings)) (e7 ∙ is) ∙ ap (λ g. noted (record v { first = g }) B) first
    ∙ ap (λ g. record v { first = g }) (sym (noting_all-append v.first A B))
