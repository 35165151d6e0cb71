-- The parts of what can be evaluated or run can be.
use Rattle.std.proofs.Common.{◌≡◌, ℕ, ◌<◌, Bool, true, false, List, get_or, length, Some, subst, sym, arith}
use Rattle.std.specs.Prelude.{nat_eq, if◌then◌else◌}
use Rattle.dai_model.specs.Formula.{Term, Formula, same, less, less_or_same, universal, existential, negation, conjunction, disjunction, implication, equivalence, Formulas, with_formula, Statement, requirement, conditional, Statements, with_statement}
use Rattle.dai_model.specs.Protocol.{Protocol}
use Rattle.dai_model.specs.Value.{Environment, bind}
use Rattle.dai_model.specs.WellSorted.{Scope, with_variable}
use Rattle.dai_logic.specs.declared.structure.Structure.{Structure}
use Rattle.dai_logic.proofs.Tuples.{term_place}
use Rattle.dai_logic.specs.Tables.{Fits, Gives, HasPlace, IsEvaluable, AreEvaluable, IsRunnable, IsRunnableStatement}

-- a formula that is equal to this one can be evaluated
pub negation_evaluable : (P : Protocol) (sizes : List ℕ) (env : Environment) (f g : Formula) → f ≡ negation g → IsEvaluable P sizes env f → IsEvaluable P sizes env g
negation_evaluable P sizes env f g e h =
    let k = subst (IsEvaluable P sizes env) e h in
    record { scope = k.scope; sorted = k.sorted; gives = k.gives }

pub conjunction_evaluable : (P : Protocol) (sizes : List ℕ) (env : Environment) (f : Formula) (gs : Formulas) → f ≡ conjunction gs → IsEvaluable P sizes env f → AreEvaluable P sizes env gs
conjunction_evaluable P sizes env f gs e h =
    let k = subst (IsEvaluable P sizes env) e h in
    record { scope = k.scope; sorted = k.sorted; gives = k.gives }

pub disjunction_evaluable : (P : Protocol) (sizes : List ℕ) (env : Environment) (f : Formula) (gs : Formulas) → f ≡ disjunction gs → IsEvaluable P sizes env f → AreEvaluable P sizes env gs
disjunction_evaluable P sizes env f gs e h =
    let k = subst (IsEvaluable P sizes env) e h in
    record { scope = k.scope; sorted = k.sorted; gives = k.gives }

pub equivalence_evaluable : (P : Protocol) (sizes : List ℕ) (env : Environment) (f : Formula) (gs : Formulas) → f ≡ equivalence gs → IsEvaluable P sizes env f → AreEvaluable P sizes env gs
equivalence_evaluable P sizes env f gs e h =
    let k = subst (IsEvaluable P sizes env) e h in
    record { scope = k.scope; sorted = k.sorted; gives = k.gives }

pub left_evaluable : (P : Protocol) (sizes : List ℕ) (env : Environment) (f g h : Formula) → f ≡ implication g h → IsEvaluable P sizes env f → IsEvaluable P sizes env g
left_evaluable P sizes env f g h e w =
    let k = subst (IsEvaluable P sizes env) e w in
    record { scope = k.scope; sorted = k.sorted.0; gives = k.gives }

pub right_evaluable : (P : Protocol) (sizes : List ℕ) (env : Environment) (f g h : Formula) → f ≡ implication g h → IsEvaluable P sizes env f → IsEvaluable P sizes env h
right_evaluable P sizes env f g h e w =
    let k = subst (IsEvaluable P sizes env) e w in
    record { scope = k.scope; sorted = k.sorted.1; gives = k.gives }

pub first_evaluable : (P : Protocol) (sizes : List ℕ) (env : Environment) (fs : Formulas) (g : Formula) (gs : Formulas) → fs ≡ with_formula g gs → AreEvaluable P sizes env fs → IsEvaluable P sizes env g
first_evaluable P sizes env fs g gs e w =
    let k = subst (AreEvaluable P sizes env) e w in
    record { scope = k.scope; sorted = k.sorted.0; gives = k.gives }

pub rest_evaluable : (P : Protocol) (sizes : List ℕ) (env : Environment) (fs : Formulas) (g : Formula) (gs : Formulas) → fs ≡ with_formula g gs → AreEvaluable P sizes env fs → AreEvaluable P sizes env gs
rest_evaluable P sizes env fs g gs e w =
    let k = subst (AreEvaluable P sizes env) e w in
    record { scope = k.scope; sorted = k.sorted.1; gives = k.gives }

pub requirement_evaluable : (P : Protocol) (sizes : List ℕ) (env : Environment) (c : Statement) (f : Formula) → c ≡ requirement f → IsRunnableStatement P sizes env c → IsEvaluable P sizes env f
requirement_evaluable P sizes env c f e w =
    let k = subst (IsRunnableStatement P sizes env) e w in
    record { scope = k.scope; sorted = k.sorted; gives = k.gives }

pub condition_evaluable : (P : Protocol) (sizes : List ℕ) (env : Environment) (c : Statement) (f : Formula) (first second : Statements) → c ≡ conditional f first second → IsRunnableStatement P sizes env c → IsEvaluable P sizes env f
condition_evaluable P sizes env c f first second e w =
    let k = subst (IsRunnableStatement P sizes env) e w in
    record { scope = k.scope; sorted = k.sorted.0; gives = k.gives }

pub then_runnable : (P : Protocol) (sizes : List ℕ) (env : Environment) (c : Statement) (f : Formula) (first second : Statements) → c ≡ conditional f first second → IsRunnableStatement P sizes env c → IsRunnable P sizes env first
then_runnable P sizes env c f first second e w =
    let k = subst (IsRunnableStatement P sizes env) e w in
    record { scope = k.scope; sorted = k.sorted.1; gives = k.gives }

pub else_runnable : (P : Protocol) (sizes : List ℕ) (env : Environment) (c : Statement) (f : Formula) (first second : Statements) → c ≡ conditional f first second → IsRunnableStatement P sizes env c → IsRunnable P sizes env second
else_runnable P sizes env c f first second e w =
    let k = subst (IsRunnableStatement P sizes env) e w in
    record { scope = k.scope; sorted = k.sorted.2; gives = k.gives }

pub first_runnable : (P : Protocol) (sizes : List ℕ) (env : Environment) (cs : Statements) (d : Statement) (ds : Statements) → cs ≡ with_statement d ds → IsRunnable P sizes env cs → IsRunnableStatement P sizes env d
first_runnable P sizes env cs d ds e w =
    let k = subst (IsRunnable P sizes env) e w in
    record { scope = k.scope; sorted = k.sorted.0; gives = k.gives }

pub rest_runnable : (P : Protocol) (sizes : List ℕ) (env : Environment) (cs : Statements) (d : Statement) (ds : Statements) → cs ≡ with_statement d ds → IsRunnable P sizes env cs → IsRunnable P sizes env ds
rest_runnable P sizes env cs d ds e w =
    let k = subst (IsRunnable P sizes env) e w in
    record { scope = k.scope; sorted = k.sorted.1; gives = k.gives }

-- the same formula
pub evaluable_as : (P : Protocol) (sizes : List ℕ) (env : Environment) (f g : Formula) → f ≡ g → IsEvaluable P sizes env f → IsEvaluable P sizes env g
evaluable_as P sizes env f g e h = subst (IsEvaluable P sizes env) e h

-- each side has a value
pub record HavePlaces (s : Structure) (env : Environment) (a b : Term) : Type 0 where
  pub left : HasPlace s env a
  pub right : HasPlace s env b

pub same_places : (P : Protocol) (s : Structure) (env : Environment) (f : Formula) (a b : Term) → f ≡ same a b → Fits P s → IsEvaluable P s.sizes.items env f → HavePlaces s env a b
same_places P s env f a b e fits h =
    let k = subst (IsEvaluable P s.sizes.items env) e h in
    record { left = term_place P k.scope s env a k.sorted.0 fits k.gives k.sorted.1; right = term_place P k.scope s env b k.sorted.0 fits k.gives k.sorted.2 }

pub less_places : (P : Protocol) (s : Structure) (env : Environment) (f : Formula) (a b : Term) → f ≡ less a b → Fits P s → IsEvaluable P s.sizes.items env f → HavePlaces s env a b
less_places P s env f a b e fits h =
    let k = subst (IsEvaluable P s.sizes.items env) e h in
    record { left = term_place P k.scope s env a k.sorted.0 fits k.gives k.sorted.1; right = term_place P k.scope s env b k.sorted.0 fits k.gives k.sorted.2 }

pub less_or_same_places : (P : Protocol) (s : Structure) (env : Environment) (f : Formula) (a b : Term) → f ≡ less_or_same a b → Fits P s → IsEvaluable P s.sizes.items env f → HavePlaces s env a b
less_or_same_places P s env f a b e fits h =
    let k = subst (IsEvaluable P s.sizes.items env) e h in
    record { left = term_place P k.scope s env a k.sorted.0 fits k.gives k.sorted.1; right = term_place P k.scope s env b k.sorted.0 fits k.gives k.sorted.2 }

-- an element of the type may stand for one variable more
pub gives_more : (scope : Scope) (sizes : List ℕ) (env : Environment) (v e sort : ℕ) → e < get_or sizes sort 0 → Gives scope sizes env → Gives (with_variable scope v sort) sizes (bind env v e)
gives_more scope sizes env v e sort below gives = record {
  fits = record {
    variables = λ w t h. here w t (nat_eq w v) h;
    parameters = gives.fits.parameters;
    choices = gives.fits.choices;
  };
  parameters = gives.parameters;
  choices = gives.choices;
}
  where
    here : (w t : ℕ) (b : Bool) → (if b then Some sort else scope.variables w) ≡ Some t → (if b then e else env.variables w) < get_or sizes t 0
    here w t true h = let k : sort ≡ t = cc in subst (λ x. e < get_or sizes x 0) k below
    here w t false h = gives.fits.variables w t h

-- the type of a quantifier has a size
pub universal_sort : (P : Protocol) (s : Structure) (env : Environment) (v sort : ℕ) (f : Formula) → Fits P s → IsEvaluable P s.sizes.items env (universal v sort f) → sort < length s.sizes.items
universal_sort P s env v sort f fits h = let below = h.sorted.0 in let one = fits.one_size_each in omega arith

pub existential_sort : (P : Protocol) (s : Structure) (env : Environment) (v sort : ℕ) (f : Formula) → Fits P s → IsEvaluable P s.sizes.items env (existential v sort f) → sort < length s.sizes.items
existential_sort P s env v sort f fits h = let below = h.sorted.0 in let one = fits.one_size_each in omega arith

-- the body can be evaluated at each element
pub universal_body : (P : Protocol) (sizes : List ℕ) (env inner : Environment) (v sort e : ℕ) (f : Formula) → e < get_or sizes sort 0 → inner ≡ bind env v e → IsEvaluable P sizes env (universal v sort f) → IsEvaluable P sizes inner f
universal_body P sizes env inner v sort e f below is h =
    let own : IsEvaluable P sizes (bind env v e) f = record { scope = with_variable h.scope v sort; sorted = h.sorted.1; gives = gives_more h.scope sizes env v e sort below h.gives } in
    subst (λ a. IsEvaluable P sizes a f) (sym is) own

pub existential_body : (P : Protocol) (sizes : List ℕ) (env inner : Environment) (v sort e : ℕ) (f : Formula) → e < get_or sizes sort 0 → inner ≡ bind env v e → IsEvaluable P sizes env (existential v sort f) → IsEvaluable P sizes inner f
existential_body P sizes env inner v sort e f below is h =
    let own : IsEvaluable P sizes (bind env v e) f = record { scope = with_variable h.scope v sort; sorted = h.sorted.1; gives = gives_more h.scope sizes env v e sort below h.gives } in
    subst (λ a. IsEvaluable P sizes a f) (sym is) own
