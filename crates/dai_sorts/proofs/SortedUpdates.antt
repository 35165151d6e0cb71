-- An update that breaks no rule is well-sorted.
use Rattle.std.proofs.Common.{◌≡◌, ℕ, zero, suc, Bool, true, false, cond, List, [], ◌∷◌, ◌++◌, length, map, Option, None, Some, ap, sym, ◌∙◌, refl, subst, ⊎_elim, arith}
use Rattle.std.specs.Prelude.{slice_get, slice_index, find, unwrap_or, nat_eq, not, ◌||◌, if◌then◌else◌}
use Rattle.std.specs.Option.{option_map_or}
use Rattle.std.specs.List.{Contains}
use Rattle.std.specs.Cmp.Lexicographic.{other_text as told_other}
use Rattle.std.proofs.lemmas.Bool.Decides.{nat_tests}
use Rattle.std.proofs.lemmas.List.Elements.{Contains-append_left, Contains-append_right, Contains-append_cases, Contains-push, Contains-push_cases}
use Rattle.dai_syntax.specs.declared.tree.Binder.{Binder}
use Rattle.dai_syntax.specs.declared.tree.Name.{Name}
use Rattle.dai_syntax.specs.declared.tree.Arg.{Arg}
use Rattle.dai_syntax.specs.declared.tree.Arg.TheVariants.{Variable, Symbol}
use Rattle.dai_syntax.specs.Tree.{Formula, truth, atom, comparison, negation, conjunction, disjunction, equivalence, implication, quantified, Formulas, no_formulas, with_formula}
use Rattle.dai_model.specs.Formula as Model
use Rattle.dai_model.specs.Protocol.{Protocol, Relation, Individual}
use Rattle.dai_model.specs.WellSorted.{Scope as Sorts, sort_of, HaveSorts, IsWellSorted, target_scope, IsWellSortedStatement}
use Rattle.dai_rules.specs.Names.{same_text, is_among, Context, Kind, a_relation, an_individual, kind_in, type_of}
use Rattle.dai_rules.specs.Naming.{Naming, no_variables, is_called, variable_in, number_of, noticed, noticed_as, at_quantifier, entered, after_term, after_terms, after_formula, after_formulas}
use Rattle.dai_rules.specs.Types.{typed, given}
use Rattle.dai_rules.specs.Sites.{Role, as_value, Force, Whole, both, sites_alone, target_at, arguments_at, variable_at, mention_at, atom_at, term_at, compared_at, quantifier_at, annotated_at, typed_by, term_output, terms_output, type_beside, places_of, binders_output, is_universal_in, negated, within, within_equivalence, formula_output, formulas_output, outermost, right_output, element_output, update_role, update_output, update_sites, variable_names, whole_at, whole_of}
use Rattle.dai_rules.specs.Rules.{takes_others, breaks_23, breaks_30}
use Rattle.dai_rules.proofs.Members.{not_in_nil, in_head, in_tail, in_cases}
use Rattle.dai_rules.proofs.RangeLemmas.{formula_grows, update_within}
use Rattle.dai_sorts.specs.Scopes.{Scope, type_number, relation_number, individual_number, binder_type, symbol_term, terms_in}
use Rattle.dai_sorts.specs.Formulas.{formula_in}
use Rattle.dai_sorts.specs.Statements.{UpdatesRelation, UpdatesIndividual}
use Rattle.dai_sorts.specs.Sound.{AreUnbroken}
use Rattle.dai_sorts.proofs.SortedNames.{same_by, relation_there, individual_there}
use Rattle.dai_sorts.proofs.SortedTerms.{sorts_with, IsFile, Fits, symbol_is, holds_not, term_element, IsPart, part_left, part_right, IsTyped, typed_whole, Covers, IsBefore, before_itself, bound_after, terms_sorted}
use Rattle.dai_sorts.proofs.SortedUses.{AreGiven, given_none, given_both, relation_declared, individual_declared, terms_given, relation_given, formula_given}
use Rattle.dai_sorts.proofs.SortedFormulas.{by_not, equal_by, formula_sorted}
use Rattle.dai_sorts.proofs.SortedSentences.{no_sorts}
use Rattle.dai_sorts.proofs.Unbroken.{unbroken_left, unbroken_right}

-- a name that stands for a variable in scope
abbrev Knows : Naming → List ℕ → Type 0
Knows n x = (v : ℕ) × Contains (n.bound ++ n.free) v × (is_called n.variables x v ≡ true)

get_front : (xs ys : List Name) (i : ℕ) (y : Name) → slice_get xs i ≡ Some y → slice_get (xs ++ ys) i ≡ Some y
get_front [] ys i y h = absurd (let z : ⊥ = cc in z)
get_front (x ∷ xs) ys zero y h = h
get_front (x ∷ xs) ys (suc i) y h = get_front xs ys i y h

get_last : (xs : List Name) (y : Name) → slice_get (xs ++ y ∷ []) (length xs) ≡ Some y
get_last [] y = refl
get_last (x ∷ xs) y = get_last xs y

called_by : (variables more : List Name) (x : List ℕ) (v : ℕ) (o : Option Name) → slice_get variables v ≡ o → option_map_or (λ (name : Name). same_text x name.text) o false ≡ true → is_called (variables ++ more) x v ≡ true
called_by variables more x v None e h = absurd (let z : ⊥ = cc in z)
called_by variables more x v (Some name) e h = ap (λ o. option_map_or (λ (name : Name). same_text x name.text) o false) (get_front variables more v name e) ∙ h

called_more : (variables more : List Name) (x : List ℕ) (v : ℕ) → is_called variables x v ≡ true → is_called (variables ++ more) x v ≡ true
called_more variables more x v h = called_by variables more x v (slice_get variables v) refl h

same_self_by : (x : List ℕ) (b : Bool) → b ≡ same_text x x → b ≡ true
same_self_by x true e = refl
same_self_by x false e = absurd (told_other x x e refl)

pub same_self : (x : List ℕ) → same_text x x ≡ true
same_self x = same_self_by x (same_text x x) refl

find_by : (p : ℕ → Bool) (u : ℕ) (us : List ℕ) (v : ℕ) (b : Bool) → p u ≡ b → cond b (Some u) (find p us) ≡ Some v → (find p us ≡ Some v → Contains us v × (p v ≡ true)) → Contains (u ∷ us) v × (p v ≡ true)
find_by p u us v true e h further = let same : u ≡ v = cc in (subst (Contains (u ∷ us)) same (in_head u us), ap p (sym same) ∙ e)
find_by p u us v false e h further = let k = further h in (in_tail u us v k.0, k.1)

find_is : (p : ℕ → Bool) (us : List ℕ) (v : ℕ) → find p us ≡ Some v → Contains us v × (p v ≡ true)
find_is p [] v h = absurd (let z : ⊥ = cc in z)
find_is p (u ∷ us) v h = find_by p u us v (p u) refl h (find_is p us v)

found_by : (p : ℕ → Bool) (u : ℕ) (us : List ℕ) (v : ℕ) (b : Bool) → p u ≡ b → Contains (u ∷ us) v → p v ≡ true → (Contains us v → (k : ℕ) × (find p us ≡ Some k)) → (k : ℕ) × (find p (u ∷ us) ≡ Some k)
found_by p u us v true e there h further = (u, ap (λ c. cond c (Some u) (find p us)) e)
found_by p u us v false e there h further =
    let k = further (⊎_elim (λ (same : u ≡ v). absurd (let z : true ≡ false = sym h ∙ ap p (sym same) ∙ e in let y : ⊥ = cc in y)) (λ rest. rest) (in_cases u us v there)) in
    (k.0, ap (λ c. cond c (Some u) (find p us)) e ∙ k.1)

found_if : (p : ℕ → Bool) (us : List ℕ) (v : ℕ) → Contains us v → p v ≡ true → (k : ℕ) × (find p us ≡ Some k)
found_if p [] v there h = absurd (not_in_nil v there)
found_if p (u ∷ us) v there h = found_by p u us v (p u) refl there h (λ k. found_if p us v k h)

knows_noticed : (n : Naming) (name : Name) (x : List ℕ) (o : Option ℕ) → Knows n x → Knows (noticed_as n name o) x
knows_noticed n name x (Some k) h = h
knows_noticed n name x None h =
    let more = length n.variables ∷ [] in
    let there = ⊎_elim (λ k. Contains-append_left n.bound (n.free ++ more) h.0 k) (λ k. Contains-append_right n.bound (n.free ++ more) h.0 (Contains-append_left n.free more h.0 k)) (Contains-append_cases n.bound n.free h.0 h.1) in
    (h.0, there, called_more n.variables (name ∷ []) x h.0 h.2)

knows_own : (n : Naming) (name : Name) (o : Option ℕ) → variable_in n name.text ≡ o → Knows (noticed_as n name o) name.text
knows_own n name (Some v) e = let k = find_is (is_called n.variables name.text) (n.bound ++ n.free) v e in (v, k.0, k.1)
knows_own n name None e =
    let v = length n.variables in (
      v,
      Contains-append_right n.bound (n.free ++ v ∷ []) v (Contains-push n.free v),
      ap (λ o. option_map_or (λ (other : Name). same_text name.text other.text) o false) (get_last n.variables name) ∙ same_self name.text,
    )

knows_term : (n : Naming) (x : List ℕ) (t : Arg) → Knows n x → Knows (after_term n t) x
knows_term n x (Variable name type) h = knows_noticed n name x (variable_in n name.text) h
knows_term n x (Symbol name) h = h

knows_terms : (n : Naming) (x : List ℕ) (ts : List Arg) → Knows n x → Knows (after_terms n ts) x
knows_terms n x [] h = h
knows_terms n x (t ∷ ts) h = knows_terms (after_term n t) x ts (knows_term n x t h)

-- the variables of a target are known behind it
target_by : (n : Naming) (name : Name) (ts : List Arg) (x : List ℕ) (b : Bool) → same_text x name.text ≡ b → (b || is_among x (variable_names ts)) ≡ true → (is_among x (variable_names ts) ≡ true → Knows (after_terms (noticed n name) ts) x) → Knows (after_terms (noticed n name) ts) x
target_by n name ts x true e h further =
    let own = knows_own n name (variable_in n name.text) refl in
    knows_terms (noticed n name) x ts (subst (Knows (noticed n name)) (sym (same_by x name.text e)) own)
target_by n name ts x false e h further = further h

target_known : (n : Naming) (ts : List Arg) (x : List ℕ) → is_among x (variable_names ts) ≡ true → Knows (after_terms n ts) x
target_known n [] x h = absurd (let z : ⊥ = cc in z)
target_known n (Variable name type ∷ ts) x h = target_by n name ts x (same_text x name.text) refl h (λ k. target_known (noticed n name) ts x k)
target_known n (Symbol name ∷ ts) x h = target_known n ts x h

-- a right side has no variables of its own
module _ (ctx : Context) (allowed : List (List ℕ)) (m : Naming) (known : (x : List ℕ) → is_among x allowed ≡ true → Knows m x) where
  term_same : (expected : Option Name) (t : Arg) → AreUnbroken (term_output ctx (as_value allowed) m expected t).sites → after_term m t ≡ m
  term_same expected (Symbol name) u = refl
  term_same expected (Variable name type) u =
      let site = variable_at (as_value allowed) name in
      let no = holds_not (not (is_among name.text allowed)) name.at (λ h. u site (in_head site (annotated_at ctx type)) 30 name.at (breaks_30 refl h)) in
      let k = known name.text (by_not (is_among name.text allowed) no) in
      ap (noticed_as m name) (found_if (is_called m.variables name.text) (m.bound ++ m.free) k.0 k.1 k.2).1

  terms_same : (places : List Binder) (ts : List Arg) → AreUnbroken (terms_output ctx (as_value allowed) m places ts).sites → after_terms m ts ≡ m
  terms_same places [] u = refl
  terms_same [] (t ∷ ts) u =
      let one = term_output ctx (as_value allowed) m None t in
      let rest = terms_output ctx (as_value allowed) (after_term m t) [] ts in
      let e = term_same None t (unbroken_left one.sites rest.sites u) in
      ap (λ k. after_terms k ts) e ∙ terms_same [] ts (subst (λ k. AreUnbroken (terms_output ctx (as_value allowed) k [] ts).sites) e (unbroken_right one.sites rest.sites u))
  terms_same (p ∷ places) (t ∷ ts) u =
      let one = term_output ctx (as_value allowed) m (Some (type_of p)) t in
      let rest = terms_output ctx (as_value allowed) (after_term m t) places ts in
      let e = term_same (Some (type_of p)) t (unbroken_left one.sites rest.sites u) in
      ap (λ k. after_terms k ts) e ∙ terms_same places ts (subst (λ k. AreUnbroken (terms_output ctx (as_value allowed) k places ts).sites) e (unbroken_right one.sites rest.sites u))

  mutual
    formula_same : (force : Force) (f : Formula) → AreUnbroken (formula_output ctx (as_value allowed) force m f).sites → after_formula m f ≡ m
    formula_same force (truth b) u = refl
    formula_same force (atom name args) u =
        let first = mention_at ctx (as_value allowed) name ∷ atom_at ctx name args ∷ [] in
        let rest = terms_output ctx (as_value allowed) m (places_of (kind_in ctx name.text)) args in
        terms_same (places_of (kind_in ctx name.text)) args (unbroken_right first rest.sites u)
    formula_same force (comparison a op b) u =
        let one = term_output ctx (as_value allowed) m (type_beside ctx a b) a in
        let two = term_output ctx (as_value allowed) (after_term m a) (type_beside ctx b a) b in
        let last = compared_at ctx a op b ∷ [] in
        let e = term_same (type_beside ctx a b) a (unbroken_left one.sites (two.sites ++ last) u) in
        ap (λ k. after_term k b) e
        ∙ term_same (type_beside ctx b a) b (subst (λ k. AreUnbroken (term_output ctx (as_value allowed) k (type_beside ctx b a) b).sites) e (unbroken_left two.sites last (unbroken_right one.sites (two.sites ++ last) u)))
    formula_same force (negation f) u = formula_same (negated force) f u
    formula_same force (conjunction fs) u = formulas_same force fs u
    formula_same force (disjunction fs) u = formulas_same force fs u
    formula_same force (equivalence fs) u = formulas_same (within_equivalence force) fs u
    formula_same force (implication f g) u =
        let one = formula_output ctx (as_value allowed) (negated force) m f in
        let two = formula_output ctx (as_value allowed) force (after_formula m f) g in
        let e = formula_same (negated force) f (unbroken_left one.sites two.sites u) in
        ap (λ k. after_formula k g) e ∙ formula_same force g (subst (λ k. AreUnbroken (formula_output ctx (as_value allowed) force k g).sites) e (unbroken_right one.sites two.sites u))
    formula_same force (quantified universal binders f at) u =
        let site = quantifier_at (as_value allowed) force universal at in
        let names = binders_output ctx (not (is_universal_in force universal)) (at_quantifier m) [] binders in
        let body = formula_output ctx (as_value allowed) (within force universal) (entered m binders) f in
        absurd (u site (in_head site (names.sites ++ body.sites)) 30 at (breaks_30 refl (in_head at [])))

    formulas_same : (force : Force) (fs : Formulas) → AreUnbroken (formulas_output ctx (as_value allowed) force m fs).sites → after_formulas m fs ≡ m
    formulas_same force no_formulas u = refl
    formulas_same force (with_formula f fs) u =
        let one = formula_output ctx (as_value allowed) force m f in
        let two = formulas_output ctx (as_value allowed) force (after_formula m f) fs in
        let e = formula_same force f (unbroken_left one.sites two.sites u) in
        ap (λ k. after_formulas k fs) e ∙ formulas_same force fs (subst (λ k. AreUnbroken (formulas_output ctx (as_value allowed) force k fs).sites) e (unbroken_right one.sites two.sites u))

-- the target gives its variables the types of their places
record IsTarget (ps cs types free : List ℕ) (S : Sorts) : Type 0 where
  vars : ℕ → Option ℕ
  same : S ≡ sorts_with vars ps cs
  covers : Covers vars types free

no_variable : (P : Protocol) (ps cs : List ℕ) (S : Sorts) (t : Model.Term) (s sort : ℕ) (ts : List Model.Term) (ss : List ℕ) → ((vars : ℕ → Option ℕ) → sort_of P (sorts_with vars ps cs) t ≡ Some s) → target_scope S (t ∷ ts) (sort ∷ ss) ≡ target_scope S ts ss
no_variable P ps cs S (Model.variable v) s sort ts ss h = absurd (let k : None ≡ Some s = h no_sorts in let z : ⊥ = cc in z)
no_variable P ps cs S (Model.individual v) s sort ts ss h = refl
no_variable P ps cs S (Model.parameter v) s sort ts ss h = refl
no_variable P ps cs S (Model.choice v) s sort ts ss h = refl

more_by : (types : List ℕ) (vars : ℕ → Option ℕ) (v sort w : ℕ) (b : Bool) → nat_eq w v ≡ b → slice_index types v ≡ sort → ((v ≡ w → ⊥) → vars w ≡ Some (slice_index types w)) → (if b then Some sort else vars w) ≡ Some (slice_index types w)
more_by types vars v sort w true e is further = ap Some (sym is) ∙ ap (λ k. Some (slice_index types k)) (sym (equal_by w v e))
more_by types vars v sort w false e is further = further (λ same. other_by w v e (sym same))
  where
    self_by : (w v : ℕ) → w ≡ v → nat_eq w v ≡ true
    self_by w v e = grind (arith, nat_tests, e)

    other_by : (w v : ℕ) → nat_eq w v ≡ false → w ≡ v → ⊥
    other_by w v e same = let k = self_by w v same in let z : true ≡ false = sym k ∙ e in let y : ⊥ = cc in y

more_covered : (types : List ℕ) (vars : ℕ → Option ℕ) (n : Naming) (name : Name) (sort : ℕ) (o : Option ℕ) (v : ℕ) → v ≡ number_of n name.text → variable_in n name.text ≡ o → slice_index types v ≡ sort → Covers vars types n.free → Covers (λ w. if nat_eq w v then Some sort else vars w) types (noticed_as n name o).free
more_covered types vars n name sort (Some k) v number e is h = λ w there. more_by types vars v sort w (nat_eq w v) refl is (λ other. h w there)
more_covered types vars n name sort None v number e is h =
    let new : v ≡ length n.variables = number ∙ ap (λ o. unwrap_or o (length n.variables)) e in
    λ w there. more_by types vars v sort w (nat_eq w v) refl is (λ other. ⊎_elim (λ k. h w k) (λ same. absurd (other (new ∙ same))) (Contains-push_cases n.free (length n.variables) w there))

module _ (P : Protocol) (scope : Scope) (ps cs : List ℕ) (role : Role) (w : Whole) (types : List ℕ) (file : IsFile scope.context.declarations P) (fits : Fits P ps cs scope) (typing : IsTyped scope.context.declarations w types) where
  target_covered : (vars : ℕ → Option ℕ) (n : Naming) (places : List Binder) (ts : List Arg) → Covers vars types n.free → length ts ≡ length places → IsPart w (terms_output scope.context role n places ts)
      → IsTarget ps cs types (after_terms n ts).free (target_scope (sorts_with vars ps cs) (terms_in scope n ts) (map (binder_type scope.context.declarations) places))
  target_covered vars n [] [] h count part = record { vars = vars; same = refl; covers = h }
  target_covered vars n (p ∷ places) [] h count part = absurd (omega arith)
  target_covered vars n [] (t ∷ ts) h count part = absurd (omega arith)
  target_covered vars n (p ∷ places) (Variable name own ∷ ts) h count part =
      let v = number_of n name.text in
      let type = (type_of p).text in
      let sort = type_number scope.context.declarations type in
      let one = term_output scope.context role n (Some (type_of p)) (Variable name own) in
      let rest = terms_output scope.context role (noticed n name) places ts in
      let there = Contains-append_right (typed_by v own) (typed_by v (Some (type_of p))) (typed v type) (in_head (typed v type) []) in
      let is = typing.number v type (given ((part_left w one rest part).uses (typed v type) there)) in
      target_covered (λ w. if nat_eq w v then Some sort else vars w) (noticed n name) places ts (more_covered types vars n name sort (variable_in n name.text) v refl refl is h) (omega arith) (part_right w one rest part)
  target_covered vars n (p ∷ places) (Symbol name ∷ ts) h count part =
      let ctx = scope.context in
      let sort = binder_type scope.context.declarations p in
      let others = map (binder_type scope.context.declarations) places in
      let one = term_output ctx role n (Some (type_of p)) (Symbol name) in
      let rest = terms_output ctx role n places ts in
      let k = term_element ctx (Some (type_of p)) name one.sites (part_left w one rest part).unbroken (in_tail (mention_at ctx role name) (term_at ctx (Some (type_of p)) name ∷ []) (term_at ctx (Some (type_of p)) name) (in_head (term_at ctx (Some (type_of p)) name) [])) in
      let is = (symbol_is P scope ps cs name.text k.0 file fits k.1).1 in
      let skip = no_variable P ps cs (sorts_with vars ps cs) (symbol_term scope name.text) (type_number scope.context.declarations k.0.text) sort (terms_in scope n ts) others is in
      let t = target_covered vars n places ts h (omega arith) (part_right w one rest part) in
      record { vars = t.vars; same = skip ∙ t.same; covers = t.covers }

terms_bound : (n : Naming) (ts : List Arg) → (after_terms n ts).bound ≡ n.bound
terms_bound n [] = refl
terms_bound n (t ∷ ts) = terms_bound (after_term n t) ts ∙ bound_after n t

in_update : (ctx : Context) (name : Name) (args : List Arg) (f : Formula) → Contains (update_sites ctx name args f) (whole_at (whole_of ctx (update_role args) (after_formula (after_terms no_variables args) f) (update_output ctx name args f)))
in_update ctx name args f = Contains-push (update_output ctx name args f).sites (whole_at (whole_of ctx (update_role args) (after_formula (after_terms no_variables args) f) (update_output ctx name args f)))

count_by : (k : Kind) (places : List Binder) (args : List Arg) → k ≡ a_relation places → takes_others k args ≡ false → length args ≡ length places
count_by k places args e h =
    let z : not (nat_eq (length args) (length places)) ≡ false = sym (ap (λ k. takes_others k args) e) ∙ h in
    equal_by (length args) (length places) (by_not (nat_eq (length args) (length places)) z)

pub relation_update_sorted : (P : Protocol) (scope : Scope) (ps cs : List ℕ) (name : Name) (args : List Arg) (f : Formula) (places : List Binder) (c : Model.Statement) → IsFile scope.context.declarations P → Fits P ps cs scope
    → AreUnbroken (update_sites scope.context name args f) → kind_in scope.context name.text ≡ a_relation places → UpdatesRelation scope name args f c → IsWellSortedStatement P (sorts_with no_sorts ps cs) c
relation_update_sorted P scope ps cs name args f places c file fits unbroken kind update =
    let ctx = scope.context in
    let ds = scope.context.declarations in
    let role = update_role args in
    let m = after_terms no_variables args in
    let o = update_output ctx name args f in
    let w = whole_of ctx role (after_formula m f) o in
    let types = update.types in
    let first = sites_alone (target_at ctx name args f ∷ arguments_at [] args) in
    let terms = terms_output ctx role no_variables (places_of (kind_in ctx name.text)) args in
    let right = right_output ctx role m (kind_in ctx name.text) f in
    let clean : AreUnbroken o.sites = unbroken_left o.sites (whole_at w ∷ []) unbroken in
    let part : IsPart w o = record { unbroken = clean; uses = λ u h. h; orderings = λ x h. h } in
    let rest = part_right w first (both terms right) part in
    let on_terms = part_left w terms right rest in
    let on_right = subst (λ k. IsPart w (right_output ctx role m k f)) kind (part_right w terms right rest) in
    let on_places = subst (λ k. IsPart w (terms_output ctx role no_variables (places_of k) args)) kind on_terms in
    let typing = typed_whole ds w types (update_sites ctx name args f) refl unbroken (in_update ctx name args f) (update_within ctx name args f).uses update.typed in
    let of_terms = terms_given P scope ps cs role file fits no_variables (places_of (kind_in ctx name.text)) args (relation_given P scope ps cs role file fits name.text) on_terms.unbroken in
    let of_right = subst (λ k. AreUnbroken (right_output ctx role m k f).sites → AreGiven ds (right_output ctx role m k f).uses) (sym kind) (formula_given P scope ps cs role file fits outermost m f) (part_right w terms right rest).unbroken in
    let declared : AreGiven ds w.uses = given_both ds [] (terms.uses ++ right.uses) (given_none ds) (given_both ds terms.uses right.uses of_terms of_right) in
    let site = target_at ctx name args f in
    let count = count_by (kind_in ctx name.text) places args kind (holds_not (takes_others (kind_in ctx name.text) args) name.at (λ h. (part_left w first (both terms right) part).unbroken site (in_head site (arguments_at [] args)) 23 name.at (breaks_23 refl h))) in
    let target = target_covered P scope ps cs role w types file fits typing no_sorts no_variables places args (λ v there. absurd (not_in_nil v there)) count on_places in
    let same = formula_same ctx (variable_names args) m (target_known no_variables args) outermost f on_right.unbroken in
    let R = relation_there ds ds name.text places (relation_declared ctx name.text places kind) in
    let written = terms_in scope no_variables args in
    let g = formula_in scope types m f in
    let have = terms_sorted P scope ps cs role w types m target.vars no_variables places args file fits typing target.covers count (λ v there. absurd (not_in_nil v there)) (before_itself m) on_places in
    let no_bound = subst (Covers target.vars types) (sym (terms_bound no_variables args)) (λ v there. absurd (not_in_nil v there)) in
    let well = formula_sorted P scope ps cs role w types m file fits typing (formula_grows m f) declared outermost m target.vars f target.covers no_bound (subst (λ k. IsBefore k m) (sym same) (before_itself m)) on_right in
    let sorts = map (binder_type ds) places in
    let both_hold = subst (λ S. HaveSorts P S written sorts × IsWellSorted P S g) (sym target.same) (have, well) in
    subst (IsWellSortedStatement P (sorts_with no_sorts ps cs)) (sym update.same) (
      R.0,
      ap (λ (l : List Relation). slice_get l (relation_number ds name.text)) file.relations ∙ R.1,
      subst (λ (l : List ℕ). HaveSorts P (target_scope (sorts_with no_sorts ps cs) written l) written l × IsWellSorted P (target_scope (sorts_with no_sorts ps cs) written l) g) (sym R.2) both_hold,
    )

pub individual_update_sorted : (P : Protocol) (scope : Scope) (ps cs : List ℕ) (name : Name) (args : List Arg) (f : Formula) (type : Name) (c : Model.Statement) → IsFile scope.context.declarations P → Fits P ps cs scope
    → AreUnbroken (update_sites scope.context name args f) → kind_in scope.context name.text ≡ an_individual type → UpdatesIndividual scope name f c → IsWellSortedStatement P (sorts_with no_sorts ps cs) c
individual_update_sorted P scope ps cs name args f type c file fits unbroken kind update =
    let ctx = scope.context in
    let ds = scope.context.declarations in
    let role = update_role args in
    let m = after_terms no_variables args in
    let o = update_output ctx name args f in
    let w = whole_of ctx role (after_formula m f) o in
    let first = target_at ctx name args f ∷ arguments_at [] args in
    let terms = terms_output ctx role no_variables (places_of (kind_in ctx name.text)) args in
    let right = right_output ctx role m (kind_in ctx name.text) f in
    let clean : AreUnbroken o.sites = unbroken_left o.sites (whole_at w ∷ []) unbroken in
    let on_right = unbroken_right terms.sites right.sites (unbroken_right first (terms.sites ++ right.sites) clean) in
    let on_kind = subst (λ k. AreUnbroken (right_output ctx role m k f).sites) kind on_right in
    let on_name = subst (λ (g : Formula). AreUnbroken (right_output ctx role m (an_individual type) g).sites) update.bare on_kind in
    let to = update.to in
    let sites = (element_output ctx role m type (atom to [])).sites in
    let k = term_element ctx (Some type) to sites on_name (in_tail (mention_at ctx role to) (term_at ctx (Some type) to ∷ []) (term_at ctx (Some type) to) (in_head (term_at ctx (Some type) to) [])) in
    let I = individual_there ds ds name.text type (individual_declared ctx name.text type kind) in
    subst (IsWellSortedStatement P (sorts_with no_sorts ps cs)) (sym update.same) (
      I.0,
      ap (λ (l : List Individual). slice_get l (individual_number ds name.text)) file.individuals ∙ I.1,
      (symbol_is P scope ps cs to.text k.0 file fits k.1).1 no_sorts ∙ ap (λ x. Some (type_number ds x)) k.2 ∙ ap Some (sym I.2),
    )
