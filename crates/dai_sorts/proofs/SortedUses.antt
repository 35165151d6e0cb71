-- The types that a formula gives its variables are declared.
use Rattle.std.proofs.Common.{◌≡◌, ℕ, Bool, true, false, List, [], ◌∷◌, ◌++◌, Option, None, Some, refl, subst, ⊎_elim}
use Rattle.std.specs.Prelude.{is_none, find, not, if◌then◌else◌}
use Rattle.std.specs.List.{AllByRecursion, Contains}
use Rattle.std.proofs.lemmas.List.Elements.{Contains-append_cases}
use Rattle.dai_syntax.specs.declared.tree.Binder.{Binder}
use Rattle.dai_syntax.specs.declared.tree.Name.{Name}
use Rattle.dai_syntax.specs.declared.tree.Arg.{Arg}
use Rattle.dai_syntax.specs.declared.tree.Arg.TheVariants.{Variable, Symbol}
use Rattle.dai_syntax.specs.declared.tree.Op.{Op}
use Rattle.dai_syntax.specs.Tree.{Formula, truth, atom, comparison, negation, conjunction, disjunction, equivalence, implication, quantified, Formulas, no_formulas, with_formula, Declaration}
use Rattle.dai_model.specs.Protocol.{Protocol}
use Rattle.dai_rules.specs.Names.{Context, Kind, a_relation, an_individual, a_local, neither, element_type, declared_kind, is_named, is_declared_by, kind_beside, kind_in, type_order, type_of}
use Rattle.dai_rules.specs.Naming.{Naming, number_of, Binding, own_number, bound_with, at_quantifier, entered, after_term, after_formula}
use Rattle.dai_rules.specs.Types.{Use, typed, linked}
use Rattle.dai_rules.specs.Sites.{Role, Force, Site, type_at, atom_at, variable_at, mention_at, bound_at, compared_at, annotated_at, typed_by, term_output, term_number, terms_output, places_of, type_beside, links, comparison_output, binder_output, binders_output, negated, within, within_equivalence, quantifier_output, is_universal_in, formula_output, formulas_output}
use Rattle.dai_rules.specs.Rules.{breaks_22}
use Rattle.dai_rules.proofs.Members.{not_in_nil, in_head, in_cases}
use Rattle.dai_sorts.specs.Scopes.{Scope}
use Rattle.dai_sorts.specs.Sound.{AreUnbroken}
use Rattle.dai_sorts.proofs.SortedTerms.{IsType, IsFile, Fits, symbol_is, holds_not}
use Rattle.dai_sorts.proofs.Unbroken.{unbroken_left, unbroken_right, unbroken_tail}

type_by : (ds : List Declaration) (x : List ℕ) (o : Option Bool) → type_order ds x ≡ o → is_none o ≡ false → IsType ds x
type_by ds x None e h = absurd (let z : ⊥ = cc in z)
type_by ds x (Some b) e h = (b, e)

-- a name in a type's place is a type
pub type_declared : (ds : List Declaration) (name : Name) (sites : List Site) → AreUnbroken sites → Contains sites (type_at ds name) → IsType ds name.text
type_declared ds name sites unbroken there =
    type_by ds name.text (type_order ds name.text) refl (holds_not (is_none (type_order ds name.text)) name.at (λ h. unbroken (type_at ds name) there 22 name.at (breaks_22 refl h)))

-- the types that are given to variables
abbrev pub AreGiven : List Declaration → List Use → Type 0
AreGiven ds uses = (v : ℕ) (t : List ℕ) → Contains uses (typed v t) → IsType ds t

abbrev IsGiven : List Declaration → Option Name → Type 0
IsGiven ds None = Unit {0}
IsGiven ds (Some type) = IsType ds type.text

pub given_none : (ds : List Declaration) → AreGiven ds []
given_none ds v t h = absurd (not_in_nil (typed v t) h)

pub given_both : (ds : List Declaration) (a b : List Use) → AreGiven ds a → AreGiven ds b → AreGiven ds (a ++ b)
given_both ds a b h k = λ v t there. ⊎_elim (λ x. h v t x) (λ x. k v t x) (Contains-append_cases a b (typed v t) there)

given_by : (ds : List Declaration) (v : ℕ) (o : Option Name) → IsGiven ds o → AreGiven ds (typed_by v o)
given_by ds v None h = given_none ds
given_by ds v (Some type) h = λ u t there.
    ⊎_elim (λ (e : typed v type.text ≡ typed u t). let k : type.text ≡ t = cc in subst (IsType ds) k h) (λ x. absurd (not_in_nil (typed u t) x)) (in_cases (typed v type.text) [] (typed u t) there)

annotated_given : (ctx : Context) (o : Option Name) → AreUnbroken (annotated_at ctx o) → IsGiven ctx.declarations o
annotated_given ctx None h = tt
annotated_given ctx (Some type) h = type_declared ctx.declarations type (type_at ctx.declarations type ∷ []) h (in_head (type_at ctx.declarations type) [])

links_given : (ds : List Declaration) (one other : Option ℕ) → AreGiven ds (links one other)
links_given ds None other = given_none ds
links_given ds (Some v) None = given_none ds
links_given ds (Some v) (Some w) = λ u t there.
    ⊎_elim (λ (e : linked v w ≡ typed u t). absurd (let z : ⊥ = cc in z)) (λ x. absurd (not_in_nil (typed u t) x)) (in_cases (linked v w) [] (typed u t) there)

-- a relation is one that the file declares
relation_if : (ctx : Context) (x : List ℕ) (b : Binder) (v : Bool) (places : List Binder) → (if v then declared_kind ctx.declarations x else a_local (type_of b)) ≡ a_relation places → declared_kind ctx.declarations x ≡ a_relation places
relation_if ctx x b true places h = h
relation_if ctx x b false places h = absurd (let z : ⊥ = cc in z)

relation_beside : (ctx : Context) (x : List ℕ) (o : Option Binder) (places : List Binder) → kind_beside ctx x o ≡ a_relation places → declared_kind ctx.declarations x ≡ a_relation places
relation_beside ctx x None places h = h
relation_beside ctx x (Some b) places h = relation_if ctx x b (is_declared_by ctx x) places h

pub relation_declared : (ctx : Context) (x : List ℕ) (places : List Binder) → kind_in ctx x ≡ a_relation places → declared_kind ctx.declarations x ≡ a_relation places
relation_declared ctx x places h = relation_beside ctx x (find (is_named x) ctx.inside) places h

individual_if : (ctx : Context) (x : List ℕ) (b : Binder) (v : Bool) (type : Name) → (if v then declared_kind ctx.declarations x else a_local (type_of b)) ≡ an_individual type → declared_kind ctx.declarations x ≡ an_individual type
individual_if ctx x b true type h = h
individual_if ctx x b false type h = absurd (let z : ⊥ = cc in z)

individual_beside : (ctx : Context) (x : List ℕ) (o : Option Binder) (type : Name) → kind_beside ctx x o ≡ an_individual type → declared_kind ctx.declarations x ≡ an_individual type
individual_beside ctx x None type h = h
individual_beside ctx x (Some b) type h = individual_if ctx x b (is_declared_by ctx x) type h

pub individual_declared : (ctx : Context) (x : List ℕ) (type : Name) → kind_in ctx x ≡ an_individual type → declared_kind ctx.declarations x ≡ an_individual type
individual_declared ctx x type h = individual_beside ctx x (find (is_named x) ctx.inside) type h

abbrev pub AreTypesOf : List Declaration → List Binder → Type 0
AreTypesOf ds bs = AllByRecursion (λ (b : Binder). IsType ds (type_of b).text) bs

module _ (P : Protocol) (scope : Scope) (ps cs : List ℕ) (role : Role) (file : IsFile scope.context.declarations P) (fits : Fits P ps cs scope) where
  term_given : (n : Naming) (expected : Option Name) (t : Arg) → IsGiven scope.context.declarations expected → AreUnbroken (term_output scope.context role n expected t).sites → AreGiven scope.context.declarations (term_output scope.context role n expected t).uses
  term_given n expected (Variable name type) h u =
      let v = number_of n name.text in
      given_both scope.context.declarations (typed_by v type) (typed_by v expected)
      (given_by scope.context.declarations v type (annotated_given scope.context type (unbroken_tail (variable_at role name) (annotated_at scope.context type) u)))
      (given_by scope.context.declarations v expected h)
  term_given n expected (Symbol name) h u = given_none scope.context.declarations

  pub terms_given : (n : Naming) (places : List Binder) (ts : List Arg) → AreTypesOf scope.context.declarations places → AreUnbroken (terms_output scope.context role n places ts).sites → AreGiven scope.context.declarations (terms_output scope.context role n places ts).uses
  terms_given n places [] h u = given_none scope.context.declarations
  terms_given n [] (t ∷ ts) h u =
      let one = term_output scope.context role n None t in
      let others = terms_output scope.context role (after_term n t) [] ts in
      given_both scope.context.declarations one.uses others.uses (term_given n None t tt (unbroken_left one.sites others.sites u)) (terms_given (after_term n t) [] ts tt (unbroken_right one.sites others.sites u))
  terms_given n (p ∷ places) (t ∷ ts) h u =
      let one = term_output scope.context role n (Some (type_of p)) t in
      let others = terms_output scope.context role (after_term n t) places ts in
      given_both scope.context.declarations one.uses others.uses (term_given n (Some (type_of p)) t h.0 (unbroken_left one.sites others.sites u)) (terms_given (after_term n t) places ts h.1 (unbroken_right one.sites others.sites u))

  places_given : (x : List ℕ) (k : Kind) → kind_in scope.context x ≡ k → AreTypesOf scope.context.declarations (places_of k)
  places_given x (a_relation places) e = file.places x places (relation_declared scope.context x places e)
  places_given x (an_individual type) e = tt
  places_given x (a_local type) e = tt
  places_given x neither e = tt

  pub relation_given : (x : List ℕ) → AreTypesOf scope.context.declarations (places_of (kind_in scope.context x))
  relation_given x = places_given x (kind_in scope.context x) refl

  element_given : (x : List ℕ) (o : Option Name) → element_type (kind_in scope.context x) ≡ o → IsGiven scope.context.declarations o
  element_given x None e = tt
  element_given x (Some type) e = (symbol_is P scope ps cs x type file fits e).0

  beside_given : (a b : Arg) → IsGiven scope.context.declarations (type_beside scope.context a b)
  beside_given (Variable name type) (Variable other type2) = tt
  beside_given (Variable name type) (Symbol other) = element_given other.text (element_type (kind_in scope.context other.text)) refl
  beside_given (Symbol name) other = tt

  comparison_given : (n : Naming) (a : Arg) (op : Op) (b : Arg) → AreUnbroken (comparison_output scope.context role n a op b).sites → AreGiven scope.context.declarations (comparison_output scope.context role n a op b).uses
  comparison_given n a op b u =
      let m = after_term n a in
      let one = term_output scope.context role n (type_beside scope.context a b) a in
      let other = term_output scope.context role m (type_beside scope.context b a) b in
      let last = compared_at scope.context a op b ∷ [] in
      let tail = links (term_number n a) (term_number m b) in
      given_both scope.context.declarations one.uses (other.uses ++ tail)
      (term_given n (type_beside scope.context a b) a (beside_given a b) (unbroken_left one.sites (other.sites ++ last) u))
      (given_both scope.context.declarations other.uses tail (term_given m (type_beside scope.context b a) b (beside_given b a) (unbroken_left other.sites last (unbroken_right one.sites (other.sites ++ last) u))) (links_given scope.context.declarations (term_number n a) (term_number m b)))

  binders_given : (witness : Bool) (b : Binding) (before binders : List Binder) → AreUnbroken (binders_output scope.context witness b before binders).sites → AreGiven scope.context.declarations (binders_output scope.context witness b before binders).uses
  binders_given witness b before [] u = given_none scope.context.declarations
  binders_given witness b before (binder ∷ binders) u =
      let one = binder_output scope.context witness b before binder in
      let others = binders_output scope.context witness (bound_with b binder) (before ++ binder ∷ []) binders in
      given_both scope.context.declarations one.uses others.uses
      (given_by scope.context.declarations (own_number b binder) binder.sort (annotated_given scope.context binder.sort (unbroken_tail (bound_at before binder.name) (annotated_at scope.context binder.sort) (unbroken_left one.sites others.sites u))))
      (binders_given witness (bound_with b binder) (before ++ binder ∷ []) binders (unbroken_right one.sites others.sites u))

  mutual
    pub formula_given : (force : Force) (n : Naming) (f : Formula) → AreUnbroken (formula_output scope.context role force n f).sites → AreGiven scope.context.declarations (formula_output scope.context role force n f).uses
    formula_given force n (truth b) u = given_none scope.context.declarations
    formula_given force n (atom name args) u =
        let first = mention_at scope.context role name ∷ atom_at scope.context name args ∷ [] in
        let rest = terms_output scope.context role n (places_of (kind_in scope.context name.text)) args in
        given_both scope.context.declarations [] rest.uses (given_none scope.context.declarations) (terms_given n (places_of (kind_in scope.context name.text)) args (relation_given name.text) (unbroken_right first rest.sites u))
    formula_given force n (comparison a op b) u = comparison_given n a op b u
    formula_given force n (negation f) u = formula_given (negated force) n f u
    formula_given force n (conjunction fs) u = formulas_given force n fs u
    formula_given force n (disjunction fs) u = formulas_given force n fs u
    formula_given force n (equivalence fs) u = formulas_given (within_equivalence force) n fs u
    formula_given force n (implication f g) u =
        let one = formula_output scope.context role (negated force) n f in
        let other = formula_output scope.context role force (after_formula n f) g in
        given_both scope.context.declarations one.uses other.uses (formula_given (negated force) n f (unbroken_left one.sites other.sites u)) (formula_given force (after_formula n f) g (unbroken_right one.sites other.sites u))
    formula_given force n (quantified universal binders f at) u =
        let first = quantifier_output role force universal at in
        let own = binders_output scope.context (not (is_universal_in force universal)) (at_quantifier n) [] binders in
        let body = formula_output scope.context role (within force universal) (entered n binders) f in
        let rest = unbroken_right first.sites (own.sites ++ body.sites) u in
        given_both scope.context.declarations [] (own.uses ++ body.uses) (given_none scope.context.declarations)
        (given_both scope.context.declarations own.uses body.uses (binders_given (not (is_universal_in force universal)) (at_quantifier n) [] binders (unbroken_left own.sites body.sites rest)) (formula_given (within force universal) (entered n binders) f (unbroken_right own.sites body.sites rest)))

    formulas_given : (force : Force) (n : Naming) (fs : Formulas) → AreUnbroken (formulas_output scope.context role force n fs).sites → AreGiven scope.context.declarations (formulas_output scope.context role force n fs).uses
    formulas_given force n no_formulas u = given_none scope.context.declarations
    formulas_given force n (with_formula f fs) u =
        let one = formula_output scope.context role force n f in
        let others = formulas_output scope.context role force (after_formula n f) fs in
        given_both scope.context.declarations one.uses others.uses (formula_given force n f (unbroken_left one.sites others.sites u)) (formulas_given force (after_formula n f) fs (unbroken_right one.sites others.sites u))
