-- A formula that breaks no rule is well-sorted.
use Rattle.std.proofs.Common.{◌≡◌, ℕ, ◌<◌, ◌≤◌, Bool, true, false, List, [], ◌∷◌, ◌++◌, length, map, Option, None, Some, ap, sym, ◌∙◌, refl, subst, ⊎_elim, arith}
use Rattle.std.specs.Prelude.{slice_get, slice_index, nat_eq, not, ◌&&◌, ◌||◌, if◌then◌else◌}
use Rattle.std.specs.Option.{option_map_or}
use Rattle.std.specs.List.{Contains}
use Rattle.std.proofs.lemmas.Bool.Decides.{nat_tests}
use Rattle.std.proofs.lemmas.List.Elements.{Contains-append_left, Contains-append_right, All-nil, All-contains}
use Rattle.dai_syntax.specs.declared.tree.Binder.{Binder}
use Rattle.dai_syntax.specs.declared.tree.Name.{Name}
use Rattle.dai_syntax.specs.declared.tree.Arg.{Arg}
use Rattle.dai_syntax.specs.declared.tree.Arg.TheVariants.{Variable, Symbol}
use Rattle.dai_syntax.specs.declared.tree.Op.{Op}
use Rattle.dai_syntax.specs.declared.tree.Op.TheVariants.{Equal, Unequal, Less, LessEqual}
use Rattle.dai_syntax.specs.Tree.{Formula, truth, atom, comparison, negation, conjunction, disjunction, equivalence, implication, quantified, Formulas, no_formulas, with_formula, Declaration}
use Rattle.dai_model.specs.Formula as Model
use Rattle.dai_model.specs.Protocol.{Protocol, Sort, Relation}
use Rattle.dai_model.specs.WellSorted.{HasSort, IsOrdered, RelatesWell, IsWellSorted, AreWellSorted}
use Rattle.dai_rules.specs.Names.{Context, Kind, a_relation, an_individual, a_local, neither, element_type, kind_in}
use Rattle.dai_rules.specs.Naming.{Naming, number_of, noticed, bound_by, at_quantifier, entered, after_term, after_terms, after_formula, after_formulas}
use Rattle.dai_rules.specs.Types.{typed, linked, HasType, given, from_right, from_left}
use Rattle.dai_rules.specs.Sites.{Role, Force, Site, Whole, Output, Ordering, both, atom_at, term_at, mention_at, compared_at, typed_by, term_output, terms_output, places_of, ordering_of, orderings_of, is_by_order, comparison_output, binders_output, negated, within, within_equivalence, quantifier_output, is_universal_in, formula_output, formulas_output, sites_alone}
use Rattle.dai_rules.specs.Rules.{is_neither, is_element, takes_others, differ, is_unordered, is_unordered_type, breaks_22, breaks_23, breaks_24, breaks_26}
use Rattle.dai_rules.proofs.Members.{in_head, in_tail, in_cases}
use Rattle.dai_rules.proofs.RangeLemmas.{number_within, term_grows, formula_grows}
use Rattle.dai_rules.proofs.VariableLemmas.{after_formula-bound}
use Rattle.dai_sorts.specs.Scopes.{Scope, type_number, relation_number, term_in, terms_in}
use Rattle.dai_sorts.specs.Formulas.{compared, over_one, over, formula_in, formulas_in}
use Rattle.dai_sorts.specs.Sound.{AreUnbroken}
use Rattle.dai_sorts.proofs.Walking.{own_below}
use Rattle.dai_sorts.proofs.SortedNames.{text_is, type_there, relation_there}
use Rattle.dai_sorts.proofs.SortedTerms.{sorts_with, IsType, IsFile, type_below, Fits, symbol_is, holds_not, term_element, IsPart, part_left, part_right, IsTyped, Covers, IsBefore, before_both, before_term, before_terms, variable_covered, bound_after, terms_sorted}
use Rattle.dai_sorts.proofs.SortedUses.{AreGiven, relation_declared}

-- quantifiers around a formula
abbrev pub adding : List ℕ → List ℕ → (ℕ → Option ℕ) → ℕ → Option ℕ
adding types [] vars = vars
adding types (v ∷ vs) vars = λ w. if nat_eq w v then Some (slice_index types v) else adding types vs vars w

one_sorted : (P : Protocol) (ps cs : List ℕ) (universal : Bool) (v type : ℕ) (vars : ℕ → Option ℕ) (f : Model.Formula) → type < length P.sorts → IsWellSorted P (sorts_with (λ w. if nat_eq w v then Some type else vars w) ps cs) f
    → IsWellSorted P (sorts_with vars ps cs) (over_one universal v type f)
one_sorted P ps cs true v type vars f below h = (below, h)
one_sorted P ps cs false v type vars f below h = (below, h)

pub over_sorted : (P : Protocol) (ps cs : List ℕ) (universal : Bool) (types vs : List ℕ) (vars : ℕ → Option ℕ) (f : Model.Formula) → ((v : ℕ) → Contains vs v → slice_index types v < length P.sorts)
    → IsWellSorted P (sorts_with (adding types vs vars) ps cs) f → IsWellSorted P (sorts_with vars ps cs) (over universal types vs f)
over_sorted P ps cs universal types [] vars f below h = h
over_sorted P ps cs universal types (v ∷ vs) vars f below h =
    over_sorted P ps cs universal types vs vars (over_one universal v (slice_index types v) f) (λ u there. below u (in_tail v vs u there))
    (one_sorted P ps cs universal v (slice_index types v) (adding types vs vars) f (below v (in_head v vs)) h)

equals_itself : (n : ℕ) → nat_eq n n ≡ true
equals_itself n = grind (arith, nat_tests)

pub equal_by : (n m : ℕ) → nat_eq n m ≡ true → n ≡ m
equal_by n m h = grind (arith, nat_tests, h)

added_at : (types : List ℕ) (v w : ℕ) (o : Option ℕ) (b : Bool) → nat_eq w v ≡ b → ((v ≡ w → ⊥) → o ≡ Some (slice_index types w)) → (if b then Some (slice_index types v) else o) ≡ Some (slice_index types w)
added_at types v w o true e further = ap (λ k. Some (slice_index types k)) (sym (equal_by w v e))
added_at types v w o false e further =
    further (λ same. let k : nat_eq w v ≡ true = subst (λ u. nat_eq w u ≡ true) (sym same) (equals_itself w) in let z : true ≡ false = sym k ∙ e in let y : ⊥ = cc in y)

pub adding_covers : (types vs live : List ℕ) (vars : ℕ → Option ℕ) → Covers vars types live → Covers (adding types vs vars) types (vs ++ live)
adding_covers types [] live vars h = h
adding_covers types (v ∷ vs) live vars h = λ w there.
    added_at types v w (adding types vs vars w) (nat_eq w v) refl (λ other. ⊎_elim (λ same. absurd (other same)) (λ k. adding_covers types vs live vars h w k) (in_cases v (vs ++ live) w there))

-- a later naming
mutual
  formula_free : (n : Naming) (f : Formula) (v : ℕ) → Contains n.free v → Contains (after_formula n f).free v
  formula_free n (truth b) v h = h
  formula_free n (atom name args) v h = (before_terms n args).free v h
  formula_free n (comparison a op b) v h = (before_term (after_term n a) b).free v ((before_term n a).free v h)
  formula_free n (negation f) v h = formula_free n f v h
  formula_free n (conjunction fs) v h = formulas_free n fs v h
  formula_free n (disjunction fs) v h = formulas_free n fs v h
  formula_free n (equivalence fs) v h = formulas_free n fs v h
  formula_free n (implication f g) v h = formula_free (after_formula n f) g v (formula_free n f v h)
  formula_free n (quantified universal binders f at) v h = formula_free (entered n binders) f v h

  formulas_free : (n : Naming) (fs : Formulas) (v : ℕ) → Contains n.free v → Contains (after_formulas n fs).free v
  formulas_free n no_formulas v h = h
  formulas_free n (with_formula f fs) v h = formulas_free (after_formula n f) fs v (formula_free n f v h)

pub before_formula : (n : Naming) (f : Formula) → IsBefore n (after_formula n f)
before_formula n f = record { count = formula_grows n f; free = formula_free n f }

before_formulas : (n : Naming) (fs : Formulas) → IsBefore n (after_formulas n fs)
before_formulas n no_formulas = record { count = omega arith; free = λ v h. h }
before_formulas n (with_formula f fs) = before_both n (after_formula n f) (after_formulas (after_formula n f) fs) (before_formula n f) (before_formulas (after_formula n f) fs)

-- an atom names a relation, with as many terms as it has arguments
abbrev pub HasPlaces : Kind → List Arg → Type 0
HasPlaces k args = (places : List Binder) × (k ≡ a_relation places) × (length args ≡ length places)

pub by_not : (b : Bool) → not b ≡ false → b ≡ true
by_not true h = refl
by_not false h = absurd (let z : ⊥ = cc in z)

places_by : (k : Kind) (args : List Arg) → is_neither k ≡ false → is_element k ≡ false → takes_others k args ≡ false → HasPlaces k args
places_by (a_relation places) args known plain count = (places, refl, equal_by (length args) (length places) (by_not (nat_eq (length args) (length places)) count))
places_by (an_individual type) args known plain count = absurd (let z : ⊥ = cc in z)
places_by (a_local type) args known plain count = absurd (let z : ⊥ = cc in z)
places_by neither args known plain count = absurd (let z : ⊥ = cc in z)

pub atom_places : (ctx : Context) (name : Name) (args : List Arg) (sites : List Site) → AreUnbroken sites → Contains sites (atom_at ctx name args) → HasPlaces (kind_in ctx name.text) args
atom_places ctx name args sites unbroken there =
    let k = kind_in ctx name.text in
    places_by (kind_in ctx name.text) args
    (holds_not (is_neither k) name.at (λ h. unbroken (atom_at ctx name args) there 22 name.at (breaks_22 refl h)))
    (holds_not (is_element k) name.at (λ h. unbroken (atom_at ctx name args) there 24 name.at (breaks_24 refl h)))
    (holds_not (takes_others k args) name.at (λ h. unbroken (atom_at ctx name args) there 23 name.at (breaks_23 refl h)))

-- a type that is declared, and not without an order
ordered_is : (P : Protocol) (ds : List Declaration) (x : List ℕ) → IsFile ds P → IsType ds x → is_unordered ds x ≡ false → IsOrdered P (type_number ds x)
ordered_is P ds x file is h =
    let T = type_there ds x is.0 is.1 in
    let k : not is.0 ≡ false = sym (ap (λ o. option_map_or not o false) is.1) ∙ h in
    (T.0, ap (λ (l : List Sort). slice_get l (type_number ds x)) file.types ∙ T.1, T.2 ∙ by_not is.0 k)

-- both sides of a comparison have a type, which is ordered where it is one by order
record AreSides (P : Protocol) (scope : Scope) (vars : ℕ → Option ℕ) (ps cs : List ℕ) (op : Op) (a b : Model.Term) : Type 0 where
  type : List ℕ
  declared : IsType scope.context.declarations type
  one : HasSort P (sorts_with vars ps cs) a (type_number scope.context.declarations type)
  other : HasSort P (sorts_with vars ps cs) b (type_number scope.context.declarations type)
  order : is_by_order op ≡ true → is_unordered scope.context.declarations type ≡ false

sides_sorted : (P : Protocol) (scope : Scope) (vars : ℕ → Option ℕ) (ps cs : List ℕ) (op : Op) (a b : Model.Term) → IsFile scope.context.declarations P → AreSides P scope vars ps cs op a b → IsWellSorted P (sorts_with vars ps cs) (compared op a b)
sides_sorted P scope vars ps cs Equal a b file h = (type_number scope.context.declarations h.type, h.one, h.other)
sides_sorted P scope vars ps cs Unequal a b file h = (type_number scope.context.declarations h.type, h.one, h.other)
sides_sorted P scope vars ps cs Less a b file h = (type_number scope.context.declarations h.type, h.one, h.other, ordered_is P scope.context.declarations h.type file h.declared (h.order refl))
sides_sorted P scope vars ps cs LessEqual a b file h = (type_number scope.context.declarations h.type, h.one, h.other, ordered_is P scope.context.declarations h.type file h.declared (h.order refl))

-- the comparison by order with a variable
ordering_left : (op : Op) (at v : ℕ) (o : Option ℕ) → is_by_order op ≡ true → Contains (orderings_of op at (Some v) o) (record { at = at; variable = v })
ordering_left op at v o e =
    let first : List Ordering = ordering_of at (Some v) in
    subst (λ c. Contains (if c then first ++ ordering_of at o else []) (record { at = at; variable = v })) (sym e) (Contains-append_left first (ordering_of at o) (record { at = at; variable = v }) (in_head (record { at = at; variable = v }) []))

ordering_right : (op : Op) (at v : ℕ) → is_by_order op ≡ true → Contains (orderings_of op at None (Some v)) (record { at = at; variable = v })
ordering_right op at v e =
    subst (λ c. Contains (if c then [] ++ ordering_of at (Some v) else []) (record { at = at; variable = v })) (sym e) (Contains-append_right [] (ordering_of at (Some v)) (record { at = at; variable = v }) (in_head (record { at = at; variable = v }) []))

-- of two names that are compared
by_or : (a b : Bool) → (a || b) ≡ false → a ≡ false
by_or true b h = h
by_or false b h = refl

by_and : (a b : Bool) → (a && b) ≡ false → a ≡ true → b ≡ false
by_and true b h e = h
by_and false b h e = absurd (let z : ⊥ = cc in z)

names_agree : (ctx : Context) (name other : Name) (op : Op) (s t : Name) (sites : List Site) → AreUnbroken sites → Contains sites (compared_at ctx (Symbol name) op (Symbol other)) → element_type (kind_in ctx name.text) ≡ Some s → element_type (kind_in ctx other.text) ≡ Some t
    → (s.text ≡ t.text) × (is_by_order op ≡ true → is_unordered ctx.declarations s.text ≡ false)
names_agree ctx name other op s t sites unbroken there is_s is_t =
    let site = compared_at ctx (Symbol name) op (Symbol other) in
    let same = holds_not (differ (element_type (kind_in ctx name.text)) (element_type (kind_in ctx other.text))) other.at (λ h. unbroken site there 24 other.at (breaks_24 refl h)) in
    let one = is_unordered_type ctx.declarations (element_type (kind_in ctx name.text)) in
    let two = is_unordered_type ctx.declarations (element_type (kind_in ctx other.text)) in
    let order = holds_not (is_by_order op && (one || two)) name.at (λ h. unbroken site there 26 name.at (breaks_26 refl h)) in (
      text_is s.text t.text (sym (λ i. differ (is_s i) (is_t i)) ∙ same),
      λ e. sym (ap (is_unordered_type ctx.declarations) is_s) ∙ by_or one two (by_and (is_by_order op) (one || two) order e),
    )

module _ (P : Protocol) (scope : Scope) (ps cs : List ℕ) (role : Role) (w : Whole) (types : List ℕ) (end : Naming) (file : IsFile scope.context.declarations P) (fits : Fits P ps cs scope)
    (typing : IsTyped scope.context.declarations w types) (counted : length end.variables ≤ length w.variables) (declared : AreGiven scope.context.declarations w.uses) where
  -- a variable has a type of its own
  given_declared : (v : ℕ) (t : List ℕ) → HasType w.uses v t → IsType scope.context.declarations t
  given_declared v t (given {v = u} {t = s} h) = declared u s h
  given_declared v t (from_right {w = u} {t = s} h k) = given_declared u s k
  given_declared v t (from_left {w = u} {t = s} h k) = given_declared u s k

  pub types_below : (v : ℕ) → v < length end.variables → slice_index types v < length P.sorts
  types_below v below =
      let a = typing.each v (omega (arith, below, counted)) in
      subst (λ k. k < length P.sorts) (sym (typing.number v a.0 a.1)) (type_below scope.context.declarations P a.0 file (given_declared v a.0 a.1))

  comparison_sides : (vars : ℕ → Option ℕ) (n : Naming) (a : Arg) (op : Op) (b : Arg) → Covers vars types end.free → Covers vars types n.bound → IsBefore (after_term (after_term n a) b) end
      → IsPart w (comparison_output scope.context role n a op b) → AreSides P scope vars ps cs op (term_in scope n a) (term_in scope (after_term n a) b)
  comparison_sides vars n (Variable name own) op (Variable other own2) free bound before part =
      let m = noticed n name in
      let a = Variable name own in
      let b = Variable other own2 in
      let v = number_of n name.text in
      let u = number_of m other.text in
      let one = term_output scope.context role n None a in
      let two = term_output scope.context role m None b in
      let tail : Output = record { sites = compared_at scope.context a op b ∷ []; uses = linked v u ∷ []; orderings = orderings_of op name.at (Some v) (Some u); existentials = []; witnesses = [] } in
      let last = part_right w two tail (part_right w one (both two tail) part) in
      let in_m = number_within n name in
      let grows = term_grows m b in
      let count = before.count in
      let t = typing.each v (omega arith) in
      let has : HasType w.uses u t.0 = from_left (last.uses (linked v u) (in_head (linked v u) [])) t.1 in
      let bound_m = subst (Covers vars types) (sym (bound_after n a)) bound in
      record {
        type = t.0;
        declared = given_declared v t.0 t.1;
        one = variable_covered vars types n end name bound free (before_both m (after_term m b) end (before_term m b) before) ∙ ap Some (typing.number v t.0 t.1);
        other = variable_covered vars types m end other bound_m free before ∙ ap Some (typing.number u t.0 has);
        order = λ e. typing.order (record { at = name.at; variable = v }) t.0 (last.orderings (record { at = name.at; variable = v }) (ordering_left op name.at v (Some u) e)) t.1;
      }
  comparison_sides vars n (Variable name own) op (Symbol other) free bound before part =
      let ctx = scope.context in
      let m = noticed n name in
      let a = Variable name own in
      let b = Symbol other in
      let v = number_of n name.text in
      let beside = element_type (kind_in ctx other.text) in
      let one = term_output ctx role n beside a in
      let two = term_output ctx role m None b in
      let tail : Output = record { sites = compared_at ctx a op b ∷ []; uses = []; orderings = orderings_of op name.at (Some v) None; existentials = []; witnesses = [] } in
      let rest = part_right w one (both two tail) part in
      let last = part_right w two tail rest in
      let mention = mention_at ctx role other in
      let k = term_element ctx None other two.sites (part_left w two tail rest).unbroken (in_tail mention (term_at ctx None other ∷ []) (term_at ctx None other) (in_head (term_at ctx None other) [])) in
      let there = Contains-append_right (typed_by v own) (typed_by v beside) (typed v k.0.text) (subst (λ o. Contains (typed_by v o) (typed v k.0.text)) (sym k.1) (in_head (typed v k.0.text) [])) in
      let has : HasType w.uses v k.0.text = given ((part_left w one (both two tail) part).uses (typed v k.0.text) there) in
      let symbol = symbol_is P scope ps cs other.text k.0 file fits k.1 in
      record {
        type = k.0.text;
        declared = symbol.0;
        one = variable_covered vars types n end name bound free before ∙ ap Some (typing.number v k.0.text has);
        other = symbol.1 vars;
        order = λ e. typing.order (record { at = name.at; variable = v }) k.0.text (last.orderings (record { at = name.at; variable = v }) (ordering_left op name.at v None e)) has;
      }
  comparison_sides vars n (Symbol other) op (Variable name own) free bound before part =
      let ctx = scope.context in
      let a = Symbol other in
      let b = Variable name own in
      let v = number_of n name.text in
      let beside = element_type (kind_in ctx other.text) in
      let one = term_output ctx role n None a in
      let two = term_output ctx role n beside b in
      let tail : Output = record { sites = compared_at ctx a op b ∷ []; uses = []; orderings = orderings_of op other.at None (Some v); existentials = []; witnesses = [] } in
      let rest = part_right w one (both two tail) part in
      let last = part_right w two tail rest in
      let mention = mention_at ctx role other in
      let k = term_element ctx None other one.sites (part_left w one (both two tail) part).unbroken (in_tail mention (term_at ctx None other ∷ []) (term_at ctx None other) (in_head (term_at ctx None other) [])) in
      let there = Contains-append_right (typed_by v own) (typed_by v beside) (typed v k.0.text) (subst (λ o. Contains (typed_by v o) (typed v k.0.text)) (sym k.1) (in_head (typed v k.0.text) [])) in
      let has : HasType w.uses v k.0.text = given ((part_left w two tail rest).uses (typed v k.0.text) there) in
      let symbol = symbol_is P scope ps cs other.text k.0 file fits k.1 in
      record {
        type = k.0.text;
        declared = symbol.0;
        one = symbol.1 vars;
        other = variable_covered vars types n end name bound free before ∙ ap Some (typing.number v k.0.text has);
        order = λ e. typing.order (record { at = other.at; variable = v }) k.0.text (last.orderings (record { at = other.at; variable = v }) (ordering_right op other.at v e)) has;
      }
  comparison_sides vars n (Symbol name) op (Symbol other) free bound before part =
      let ctx = scope.context in
      let a = Symbol name in
      let b = Symbol other in
      let one = term_output ctx role n None a in
      let two = term_output ctx role n None b in
      let tail : Output = record { sites = compared_at ctx a op b ∷ []; uses = []; orderings = orderings_of op name.at None None; existentials = []; witnesses = [] } in
      let rest = part_right w one (both two tail) part in
      let last = part_right w two tail rest in
      let s = term_element ctx None name one.sites (part_left w one (both two tail) part).unbroken (in_tail (mention_at ctx role name) (term_at ctx None name ∷ []) (term_at ctx None name) (in_head (term_at ctx None name) [])) in
      let t = term_element ctx None other two.sites (part_left w two tail rest).unbroken (in_tail (mention_at ctx role other) (term_at ctx None other ∷ []) (term_at ctx None other) (in_head (term_at ctx None other) [])) in
      let agree = names_agree ctx name other op s.0 t.0 tail.sites last.unbroken (in_head (compared_at ctx a op b) []) s.1 t.1 in
      let first = symbol_is P scope ps cs name.text s.0 file fits s.1 in
      let second = symbol_is P scope ps cs other.text t.0 file fits t.1 in
      record {
        type = s.0.text;
        declared = first.0;
        one = first.1 vars;
        other = second.1 vars ∙ ap (λ x. Some (type_number scope.context.declarations x)) (sym agree.0);
        order = agree.1;
      }

  atom_sorted : (vars : ℕ → Option ℕ) (n : Naming) (name : Name) (args : List Arg) → Covers vars types end.free → Covers vars types n.bound → IsBefore (after_terms n args) end
      → IsPart w (both (sites_alone (mention_at scope.context role name ∷ atom_at scope.context name args ∷ [])) (terms_output scope.context role n (places_of (kind_in scope.context name.text)) args))
      → RelatesWell P (sorts_with vars ps cs) (relation_number scope.context.declarations name.text) (terms_in scope n args)
  atom_sorted vars n name args free bound before part =
      let ctx = scope.context in
      let ds = scope.context.declarations in
      let sites = mention_at ctx role name ∷ atom_at ctx name args ∷ [] in
      let terms = terms_output ctx role n (places_of (kind_in ctx name.text)) args in
      let k = atom_places ctx name args sites (part_left w (sites_alone sites) terms part).unbroken (in_tail (mention_at ctx role name) (atom_at ctx name args ∷ []) (atom_at ctx name args) (in_head (atom_at ctx name args) [])) in
      let R = relation_there ds ds name.text k.0 (relation_declared ctx name.text k.0 k.1) in
      let here = subst (λ (kind : Kind). IsPart w (terms_output ctx role n (places_of kind) args)) k.1 (part_right w (sites_alone sites) terms part) in
      let sorted = terms_sorted P scope ps cs role w types end vars n k.0 args file fits typing free k.2 bound before here in
      (R.0, ap (λ (l : List Relation). slice_get l (relation_number ds name.text)) file.relations ∙ R.1, sorted ∙ ap (map Some) (sym R.2))

  mutual
    pub formula_sorted : (force : Force) (n : Naming) (vars : ℕ → Option ℕ) (f : Formula) → Covers vars types end.free → Covers vars types n.bound → IsBefore (after_formula n f) end → IsPart w (formula_output scope.context role force n f)
        → IsWellSorted P (sorts_with vars ps cs) (formula_in scope types n f)
    formula_sorted force n vars (truth b) free bound before part = tt
    formula_sorted force n vars (atom name args) free bound before part = atom_sorted vars n name args free bound before part
    formula_sorted force n vars (comparison a op b) free bound before part =
        sides_sorted P scope vars ps cs op (term_in scope n a) (term_in scope (after_term n a) b) file (comparison_sides vars n a op b free bound before part)
    formula_sorted force n vars (negation f) free bound before part = formula_sorted (negated force) n vars f free bound before part
    formula_sorted force n vars (conjunction fs) free bound before part = formulas_sorted force n vars fs free bound before part
    formula_sorted force n vars (disjunction fs) free bound before part = formulas_sorted force n vars fs free bound before part
    formula_sorted force n vars (equivalence fs) free bound before part = formulas_sorted (within_equivalence force) n vars fs free bound before part
    formula_sorted force n vars (implication f g) free bound before part =
        let m = after_formula n f in
        let one = formula_output scope.context role (negated force) n f in
        let two = formula_output scope.context role force m g in (
          formula_sorted (negated force) n vars f free bound (before_both m (after_formula m g) end (before_formula m g) before) (part_left w one two part),
          formula_sorted force m vars g free (subst (Covers vars types) (sym (after_formula-bound n f)) bound) before (part_right w one two part),
        )
    formula_sorted force n vars (quantified universal binders f at) free bound before part =
        let own = (bound_by (at_quantifier n) binders).own in
        let inside = entered n binders in
        let first = quantifier_output role force universal at in
        let names = binders_output scope.context (not (is_universal_in force universal)) (at_quantifier n) [] binders in
        let body = formula_output scope.context role (within force universal) inside f in
        let grows = formula_grows inside f in
        let count = before.count in
        let small = own_below (at_quantifier n) binders (All-nil (λ v. v < length n.variables)) in
        over_sorted P ps cs universal types own vars (formula_in scope types inside f)
        (λ v there. let k = All-contains (λ u. u < length (bound_by (at_quantifier n) binders).variables) own v small there in types_below v (omega arith))
        (formula_sorted (within force universal) inside (adding types own vars) f
        (λ v there. adding_covers types own end.free vars free v (Contains-append_right own end.free v there))
        (adding_covers types own n.bound vars bound)
        (record { count = before.count; free = before.free })
        (part_right w names body (part_right w first (both names body) part)))

    formulas_sorted : (force : Force) (n : Naming) (vars : ℕ → Option ℕ) (fs : Formulas) → Covers vars types end.free → Covers vars types n.bound → IsBefore (after_formulas n fs) end → IsPart w (formulas_output scope.context role force n fs)
        → AreWellSorted P (sorts_with vars ps cs) (formulas_in scope types n fs)
    formulas_sorted force n vars no_formulas free bound before part = tt
    formulas_sorted force n vars (with_formula f fs) free bound before part =
        let m = after_formula n f in
        let one = formula_output scope.context role force n f in
        let two = formulas_output scope.context role force m fs in (
          formula_sorted force n vars f free bound (before_both m (after_formulas m fs) end (before_formulas m fs) before) (part_left w one two part),
          formulas_sorted force m vars fs free (subst (Covers vars types) (sym (after_formula-bound n f)) bound) before (part_right w one two part),
        )
