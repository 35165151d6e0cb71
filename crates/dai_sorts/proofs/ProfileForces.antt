-- The quantifiers of a formula that breaks no rule, and the force of those of its meaning.
use Rattle.std.proofs.Common.{◌≡◌, ℕ, Bool, true, false, List, [], ◌∷◌, ◌++◌, ap, refl}
use Rattle.std.specs.Prelude.{not, ◌&&◌, ◌||◌, if◌then◌else◌, slice_index}
use Rattle.std.specs.List.{Contains}
use Rattle.std.proofs.lemmas.List.Elements.{Contains-append_left, Contains-append_right}
use Rattle.dai_model.specs.Formula as Model
use Rattle.dai_model.specs.Profile.{has_quantifier, some_have_quantifier, is_universal, are_universal, is_exists_forall, are_exists_forall}
use Rattle.dai_syntax.specs.declared.tree.Op.{Op}
use Rattle.dai_syntax.specs.declared.tree.Op.TheVariants.{Equal, Unequal, Less, LessEqual}
use Rattle.dai_syntax.specs.Tree.{Formula, truth, atom, comparison, negation, conjunction, disjunction, equivalence, implication, quantified, Formulas, no_formulas, with_formula}
use Rattle.dai_rules.specs.Names.{Context}
use Rattle.dai_rules.specs.Naming.{Naming, bound_by, at_quantifier, entered, after_term, after_formula}
use Rattle.dai_rules.specs.Sites.{Role, Force, is_universal_in, negated, within_equivalence, within, Site, quantifier_at, binders_output, formula_output, formulas_output}
use Rattle.dai_rules.proofs.Members.{in_head}
use Rattle.dai_sorts.specs.Scopes.{Scope, term_in}
use Rattle.dai_sorts.specs.Formulas.{compared, over_one, over, formula_in, formulas_in}

-- a property of each quantifier, by where it stands and whether it is a `forall`
abbrev mutual
  pub Each : (Force → Bool → Type 0) → Force → Formula → Type 0
  Each Q force (truth b) = Unit {0}
  Each Q force (atom name args) = Unit {0}
  Each Q force (comparison a op b) = Unit {0}
  Each Q force (negation f) = Each Q (negated force) f
  Each Q force (conjunction fs) = EachOf Q force fs
  Each Q force (disjunction fs) = EachOf Q force fs
  Each Q force (equivalence fs) = EachOf Q (within_equivalence force) fs
  Each Q force (implication f g) = Each Q (negated force) f × Each Q force g
  Each Q force (quantified universal binders f at) = Q force universal × Each Q (within force universal) f

  pub EachOf : (Force → Bool → Type 0) → Force → Formulas → Type 0
  EachOf Q force no_formulas = Unit {0}
  EachOf Q force (with_formula f fs) = Each Q force f × EachOf Q force fs

-- the sites of quantifiers have the property
abbrev pub Shows : Role → (Force → Bool → Type 0) → List Site → Type 0
Shows role Q sites = (force : Force) (u : Bool) (at : ℕ) → Contains sites (quantifier_at role force u at) → Q force u

shows_left : (role : Role) (Q : Force → Bool → Type 0) (xs ys : List Site) → Shows role Q (xs ++ ys) → Shows role Q xs
shows_left role Q xs ys h = λ force u at there. h force u at (Contains-append_left xs ys (quantifier_at role force u at) there)

shows_right : (role : Role) (Q : Force → Bool → Type 0) (xs ys : List Site) → Shows role Q (xs ++ ys) → Shows role Q ys
shows_right role Q xs ys h = λ force u at there. h force u at (Contains-append_right xs ys (quantifier_at role force u at) there)

mutual
  pub each_shown : (ctx : Context) (role : Role) (Q : Force → Bool → Type 0) (force : Force) (n : Naming) (f : Formula) → Shows role Q (formula_output ctx role force n f).sites → Each Q force f
  each_shown ctx role Q force n (truth b) h = tt
  each_shown ctx role Q force n (atom name args) h = tt
  each_shown ctx role Q force n (comparison a op b) h = tt
  each_shown ctx role Q force n (negation f) h = each_shown ctx role Q (negated force) n f h
  each_shown ctx role Q force n (conjunction fs) h = each_of_shown ctx role Q force n fs h
  each_shown ctx role Q force n (disjunction fs) h = each_of_shown ctx role Q force n fs h
  each_shown ctx role Q force n (equivalence fs) h = each_of_shown ctx role Q (within_equivalence force) n fs h
  each_shown ctx role Q force n (implication f g) h =
      let a = (formula_output ctx role (negated force) n f).sites in
      let b = (formula_output ctx role force (after_formula n f) g).sites in
      (each_shown ctx role Q (negated force) n f (shows_left role Q a b h), each_shown ctx role Q force (after_formula n f) g (shows_right role Q a b h))
  each_shown ctx role Q force n (quantified universal binders f at) h =
      let site = quantifier_at role force universal at in
      let own = (binders_output ctx (not (is_universal_in force universal)) (at_quantifier n) [] binders).sites in
      let inner = (formula_output ctx role (within force universal) (entered n binders) f).sites in (
        h force universal at (in_head site (own ++ inner)),
        each_shown ctx role Q (within force universal) (entered n binders) f (shows_right role Q own inner (shows_right role Q (site ∷ []) (own ++ inner) h)),
      )

  each_of_shown : (ctx : Context) (role : Role) (Q : Force → Bool → Type 0) (force : Force) (n : Naming) (fs : Formulas) → Shows role Q (formulas_output ctx role force n fs).sites → EachOf Q force fs
  each_of_shown ctx role Q force n no_formulas h = tt
  each_of_shown ctx role Q force n (with_formula f fs) h =
      let a = (formula_output ctx role force n f).sites in
      let b = (formulas_output ctx role force (after_formula n f) fs).sites in
      (each_shown ctx role Q force n f (shows_left role Q a b h), each_of_shown ctx role Q force (after_formula n f) fs (shows_right role Q a b h))

-- the quantifiers of a formula: none, all universal in force, and none existential in force inside a universal one
abbrev pub IsNone : Force → Bool → Type 0
IsNone force u = ⊥

pub record IsForall (force : Force) (u : Bool) : Type 0 where
  pub holds : is_universal_in force u ≡ true
  pub free : force.under_equivalence ≡ false

pub record IsMixed (force : Force) (u : Bool) : Type 0 where
  pub holds : (not (is_universal_in force u) && force.inside_universal) ≡ false
  pub free : force.under_equivalence ≡ false

-- under `<->` there is none
module _ (Q : Force → Bool → Type 0) (free : (force : Force) (u : Bool) → Q force u → force.under_equivalence ≡ false) where
  mutual
    pub none_under : (force : Force) (f : Formula) → force.under_equivalence ≡ true → Each Q force f → Each IsNone force f
    none_under force (truth b) e h = tt
    none_under force (atom name args) e h = tt
    none_under force (comparison a op b) e h = tt
    none_under force (negation f) e h = none_under (negated force) f e h
    none_under force (conjunction fs) e h = none_of_under force fs e h
    none_under force (disjunction fs) e h = none_of_under force fs e h
    none_under force (equivalence fs) e h = none_of_under (within_equivalence force) fs refl h
    none_under force (implication f g) e h = (none_under (negated force) f e h.0, none_under force g e h.1)
    none_under force (quantified universal binders f at) e h =
        let k = free force universal h.0 in
        absurd (let z : ⊥ = cc in z)

    pub none_of_under : (force : Force) (fs : Formulas) → force.under_equivalence ≡ true → EachOf Q force fs → EachOf IsNone force fs
    none_of_under force no_formulas e h = tt
    none_of_under force (with_formula f fs) e h = (none_under force f e h.0, none_of_under force fs e h.1)

bare_compared : (op : Op) (a b : Model.Term) → has_quantifier (compared op a b) ≡ false
bare_compared Equal a b = refl
bare_compared Unequal a b = refl
bare_compared Less a b = refl
bare_compared LessEqual a b = refl

mutual
  pub bare_formula : (scope : Scope) (types : List ℕ) (n : Naming) (force : Force) (f : Formula) → Each IsNone force f → has_quantifier (formula_in scope types n f) ≡ false
  bare_formula scope types n force (truth b) h = refl
  bare_formula scope types n force (atom name args) h = refl
  bare_formula scope types n force (comparison a op b) h = bare_compared op (term_in scope n a) (term_in scope (after_term n a) b)
  bare_formula scope types n force (negation f) h = bare_formula scope types n (negated force) f h
  bare_formula scope types n force (conjunction fs) h = bare_formulas scope types n force fs h
  bare_formula scope types n force (disjunction fs) h = bare_formulas scope types n force fs h
  bare_formula scope types n force (equivalence fs) h = bare_formulas scope types n (within_equivalence force) fs h
  bare_formula scope types n force (implication f g) h =
      let a = bare_formula scope types n (negated force) f h.0 in
      let b = bare_formula scope types (after_formula n f) force g h.1 in
      λ i. a i || b i
  bare_formula scope types n force (quantified universal binders f at) h = absurd h.0

  pub bare_formulas : (scope : Scope) (types : List ℕ) (n : Naming) (force : Force) (fs : Formulas) → EachOf IsNone force fs → some_have_quantifier (formulas_in scope types n fs) ≡ false
  bare_formulas scope types n force no_formulas h = refl
  bare_formulas scope types n force (with_formula f fs) h =
      let a = bare_formula scope types n force f h.0 in
      let b = bare_formulas scope types (after_formula n f) force fs h.1 in
      λ i. a i || b i

-- universal formulas
universal_compared : (even : Bool) (op : Op) (a b : Model.Term) → is_universal even (compared op a b) ≡ true
universal_compared even Equal a b = refl
universal_compared even Unequal a b = refl
universal_compared even Less a b = refl
universal_compared even LessEqual a b = refl

universal_one : (force : Force) (u : Bool) (v type : ℕ) (g : Model.Formula) → is_universal_in force u ≡ true → is_universal force.even g ≡ true → is_universal force.even (over_one u v type g) ≡ true
universal_one force true v type g e h = λ i. e i && h i
universal_one force false v type g e h = λ i. e i && h i

pub universal_over : (force : Force) (u : Bool) (types vs : List ℕ) (g : Model.Formula) → is_universal_in force u ≡ true → is_universal force.even g ≡ true → is_universal force.even (over u types vs g) ≡ true
universal_over force u types [] g e h = h
universal_over force u types (v ∷ vs) g e h = universal_over force u types vs (over_one u v (slice_index types v) g) e (universal_one force u v (slice_index types v) g e h)

mutual
  pub universal_formula : (scope : Scope) (types : List ℕ) (n : Naming) (force : Force) (f : Formula) → Each IsForall force f → is_universal force.even (formula_in scope types n f) ≡ true
  universal_formula scope types n force (truth b) h = refl
  universal_formula scope types n force (atom name args) h = refl
  universal_formula scope types n force (comparison a op b) h = universal_compared force.even op (term_in scope n a) (term_in scope (after_term n a) b)
  universal_formula scope types n force (negation f) h = universal_formula scope types n (negated force) f h
  universal_formula scope types n force (conjunction fs) h = universal_formulas scope types n force fs h
  universal_formula scope types n force (disjunction fs) h = universal_formulas scope types n force fs h
  universal_formula scope types n force (equivalence fs) h =
      ap not (bare_formulas scope types n (within_equivalence force) fs (none_of_under IsForall (λ o u k. k.free) (within_equivalence force) fs refl h))
  universal_formula scope types n force (implication f g) h =
      let a = universal_formula scope types n (negated force) f h.0 in
      let b = universal_formula scope types (after_formula n f) force g h.1 in
      λ i. a i && b i
  universal_formula scope types n force (quantified universal binders f at) h =
      universal_over force universal types (bound_by (at_quantifier n) binders).own (formula_in scope types (entered n binders) f) h.0.holds (universal_formula scope types (entered n binders) (within force universal) f h.1)

  pub universal_formulas : (scope : Scope) (types : List ℕ) (n : Naming) (force : Force) (fs : Formulas) → EachOf IsForall force fs → are_universal force.even (formulas_in scope types n fs) ≡ true
  universal_formulas scope types n force no_formulas h = refl
  universal_formulas scope types n force (with_formula f fs) h =
      let a = universal_formula scope types n force f h.0 in
      let b = universal_formulas scope types (after_formula n f) force fs h.1 in
      λ i. a i && b i

-- inside a quantifier that is universal in force, each is
must_be : (b c : Bool) → (not b && c) ≡ false → c ≡ true → b ≡ true
must_be true c h e = refl
must_be false c h e = let k : c ≡ false = h in absurd (let z : ⊥ = cc in z)

mutual
  forall_inside : (force : Force) (f : Formula) → force.inside_universal ≡ true → Each IsMixed force f → Each IsForall force f
  forall_inside force (truth b) e h = tt
  forall_inside force (atom name args) e h = tt
  forall_inside force (comparison a op b) e h = tt
  forall_inside force (negation f) e h = forall_inside (negated force) f e h
  forall_inside force (conjunction fs) e h = forall_of_inside force fs e h
  forall_inside force (disjunction fs) e h = forall_of_inside force fs e h
  forall_inside force (equivalence fs) e h = forall_of_inside (within_equivalence force) fs e h
  forall_inside force (implication f g) e h = (forall_inside (negated force) f e h.0, forall_inside force g e h.1)
  forall_inside force (quantified universal binders f at) e h = (
    record { holds = must_be (is_universal_in force universal) force.inside_universal h.0.holds e; free = h.0.free },
    forall_inside (within force universal) f (ap (λ b. b || is_universal_in force universal) e) h.1,
  )

  forall_of_inside : (force : Force) (fs : Formulas) → force.inside_universal ≡ true → EachOf IsMixed force fs → EachOf IsForall force fs
  forall_of_inside force no_formulas e h = tt
  forall_of_inside force (with_formula f fs) e h = (forall_inside force f e h.0, forall_of_inside force fs e h.1)

-- where no quantifier is existential in force, all are universal
nil_left : (xs ys : List ℕ) → xs ++ ys ≡ [] → xs ≡ []
nil_left [] ys e = refl
nil_left (x ∷ xs) ys e = absurd (let k : ⊥ = cc in k)

nil_right : (xs ys : List ℕ) → xs ++ ys ≡ [] → ys ≡ []
nil_right [] ys e = e
nil_right (x ∷ xs) ys e = absurd (let k : ⊥ = cc in k)

no_place : (b : Bool) (at : ℕ) → (if b then [] else at ∷ []) ≡ [] → b ≡ true
no_place true at e = refl
no_place false at e = absurd (let k : ⊥ = cc in k)

mutual
  pub forall_listed : (ctx : Context) (role : Role) (force : Force) (n : Naming) (f : Formula) → (formula_output ctx role force n f).existentials ≡ [] → Each IsMixed force f → Each IsForall force f
  forall_listed ctx role force n (truth b) e h = tt
  forall_listed ctx role force n (atom name args) e h = tt
  forall_listed ctx role force n (comparison a op b) e h = tt
  forall_listed ctx role force n (negation f) e h = forall_listed ctx role (negated force) n f e h
  forall_listed ctx role force n (conjunction fs) e h = forall_of_listed ctx role force n fs e h
  forall_listed ctx role force n (disjunction fs) e h = forall_of_listed ctx role force n fs e h
  forall_listed ctx role force n (equivalence fs) e h = forall_of_listed ctx role (within_equivalence force) n fs e h
  forall_listed ctx role force n (implication f g) e h =
      let a = (formula_output ctx role (negated force) n f).existentials in
      let b = (formula_output ctx role force (after_formula n f) g).existentials in
      (forall_listed ctx role (negated force) n f (nil_left a b e) h.0, forall_listed ctx role force (after_formula n f) g (nil_right a b e) h.1)
  forall_listed ctx role force n (quantified universal binders f at) e h =
      let here : List ℕ = if is_universal_in force universal then [] else at ∷ [] in
      let own = (binders_output ctx (not (is_universal_in force universal)) (at_quantifier n) [] binders).existentials in
      let inner = (formula_output ctx role (within force universal) (entered n binders) f).existentials in (
        record { holds = no_place (is_universal_in force universal) at (nil_left here (own ++ inner) e); free = h.0.free },
        forall_listed ctx role (within force universal) (entered n binders) f (nil_right own inner (nil_right here (own ++ inner) e)) h.1,
      )

  forall_of_listed : (ctx : Context) (role : Role) (force : Force) (n : Naming) (fs : Formulas) → (formulas_output ctx role force n fs).existentials ≡ [] → EachOf IsMixed force fs → EachOf IsForall force fs
  forall_of_listed ctx role force n no_formulas e h = tt
  forall_of_listed ctx role force n (with_formula f fs) e h =
      let a = (formula_output ctx role force n f).existentials in
      let b = (formulas_output ctx role force (after_formula n f) fs).existentials in
      (forall_listed ctx role force n f (nil_left a b e) h.0, forall_of_listed ctx role force (after_formula n f) fs (nil_right a b e) h.1)

-- exists-forall formulas
mixed_compared : (even : Bool) (op : Op) (a b : Model.Term) → is_exists_forall even (compared op a b) ≡ true
mixed_compared even Equal a b = refl
mixed_compared even Unequal a b = refl
mixed_compared even Less a b = refl
mixed_compared even LessEqual a b = refl

choose : (b x y : Bool) → x ≡ true → y ≡ true → (if b then x else y) ≡ true
choose true x y h k = h
choose false x y h k = k

mixed_one : (force : Force) (u : Bool) (v type : ℕ) (g : Model.Formula) → is_universal force.even g ≡ true → is_exists_forall force.even g ≡ true → is_exists_forall force.even (over_one u v type g) ≡ true
mixed_one force true v type g h k = choose force.even (is_universal force.even g) (is_exists_forall force.even g) h k
mixed_one force false v type g h k = choose force.even (is_exists_forall force.even g) (is_universal force.even g) k h

pub mixed_over : (force : Force) (u : Bool) (types vs : List ℕ) (g : Model.Formula) → is_universal_in force u ≡ true → is_universal force.even g ≡ true → is_exists_forall force.even g ≡ true → is_exists_forall force.even (over u types vs g) ≡ true
mixed_over force u types [] g e h k = k
mixed_over force u types (v ∷ vs) g e h k =
    mixed_over force u types vs (over_one u v (slice_index types v) g) e (universal_one force u v (slice_index types v) g e h) (mixed_one force u v (slice_index types v) g h k)

not_first : (b x y : Bool) → b ≡ false → y ≡ true → (if b then x else y) ≡ true
not_first true x y e k = absurd (let z : ⊥ = cc in z)
not_first false x y e k = k

not_second : (b x y : Bool) → not b ≡ false → x ≡ true → (if b then x else y) ≡ true
not_second true x y e k = k
not_second false x y e k = absurd (let z : ⊥ = cc in z)

existential_one : (force : Force) (u : Bool) (v type : ℕ) (g : Model.Formula) → is_universal_in force u ≡ false → is_exists_forall force.even g ≡ true → is_exists_forall force.even (over_one u v type g) ≡ true
existential_one force true v type g e k = not_first force.even (is_universal force.even g) (is_exists_forall force.even g) e k
existential_one force false v type g e k = not_second force.even (is_exists_forall force.even g) (is_universal force.even g) e k

existential_over : (force : Force) (u : Bool) (types vs : List ℕ) (g : Model.Formula) → is_universal_in force u ≡ false → is_exists_forall force.even g ≡ true → is_exists_forall force.even (over u types vs g) ≡ true
existential_over force u types [] g e k = k
existential_over force u types (v ∷ vs) g e k = existential_over force u types vs (over_one u v (slice_index types v) g) e (existential_one force u v (slice_index types v) g e k)

or_second : (a b : Bool) → b ≡ true → (a || b) ≡ true
or_second true b e = refl
or_second false b e = e

mixed_by : (scope : Scope) (types own : List ℕ) (n : Naming) (force : Force) (u b : Bool) (f : Formula) → is_universal_in force u ≡ b → Each IsMixed (within force u) f → is_exists_forall force.even (formula_in scope types n f) ≡ true
    → is_exists_forall force.even (over u types own (formula_in scope types n f)) ≡ true
mixed_by scope types own n force u true f e h k =
    mixed_over force u types own (formula_in scope types n f) e (universal_formula scope types n (within force u) f (forall_inside (within force u) f (or_second force.inside_universal (is_universal_in force u) e) h)) k
mixed_by scope types own n force u false f e h k = existential_over force u types own (formula_in scope types n f) e k

mutual
  pub mixed_formula : (scope : Scope) (types : List ℕ) (n : Naming) (force : Force) (f : Formula) → Each IsMixed force f → is_exists_forall force.even (formula_in scope types n f) ≡ true
  mixed_formula scope types n force (truth b) h = refl
  mixed_formula scope types n force (atom name args) h = refl
  mixed_formula scope types n force (comparison a op b) h = mixed_compared force.even op (term_in scope n a) (term_in scope (after_term n a) b)
  mixed_formula scope types n force (negation f) h = mixed_formula scope types n (negated force) f h
  mixed_formula scope types n force (conjunction fs) h = mixed_formulas scope types n force fs h
  mixed_formula scope types n force (disjunction fs) h = mixed_formulas scope types n force fs h
  mixed_formula scope types n force (equivalence fs) h =
      ap not (bare_formulas scope types n (within_equivalence force) fs (none_of_under IsMixed (λ o u k. k.free) (within_equivalence force) fs refl h))
  mixed_formula scope types n force (implication f g) h =
      let a = mixed_formula scope types n (negated force) f h.0 in
      let b = mixed_formula scope types (after_formula n f) force g h.1 in
      λ i. a i && b i
  mixed_formula scope types n force (quantified universal binders f at) h =
      mixed_by scope types (bound_by (at_quantifier n) binders).own (entered n binders) force universal (is_universal_in force universal) f refl h.1 (mixed_formula scope types (entered n binders) (within force universal) f h.1)

  mixed_formulas : (scope : Scope) (types : List ℕ) (n : Naming) (force : Force) (fs : Formulas) → EachOf IsMixed force fs → are_exists_forall force.even (formulas_in scope types n fs) ≡ true
  mixed_formulas scope types n force no_formulas h = refl
  mixed_formulas scope types n force (with_formula f fs) h =
      let a = mixed_formula scope types n force f h.0 in
      let b = mixed_formulas scope types (after_formula n f) force fs h.1 in
      λ i. a i && b i
