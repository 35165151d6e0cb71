-- That a protocol is well-sorted and in the profile has at most one proof, so that it can be taken out of a
-- truncated field.
use Rattle.std.proofs.Common.{◌≡◌, ℕ, Bool, true, List, map, Option, Some, slice_get, sym, ◌∙◌, ap, refl, IsTrue}
use Rattle.std.specs.Prelude.{not, nat_eq}
use Rattle.std.specs.List.{IsDistinct-prop}
use Rattle.std.specs.Cmp.Lexicographic.{pointwise}
use Rattle.std.specs.Coded.{Coded-set, coded_ℕ, coded_bool, coded_list, coded_option, coded×, code_by, le_prop, ×_prop, Unit-prop}
use mathlib.Core.HLevel.{Σ_prop_path}
use Rattle.std.proofs.lemmas.Option.{same_Some}
use Rattle.dai_model.specs.Formula.{Term, Formula, truth, relates, same, less, less_or_same, negation, conjunction, disjunction, implication, equivalence, universal, existential, Formulas, no_formulas, with_formula, Statement, requirement, update_relation, update_individual, conditional, Statements, no_statements, with_statement}
use Rattle.dai_model.specs.Protocol.{Protocol, Sort, Relation, Individual, Block}
use Rattle.dai_model.specs.Profile.{has_quantifier, target_variables, BindsOnce, IsUniversalSentence, IsExistsForallSentence, IsDirect, AreDirect, IsBlockInProfile, declared_names, IsInProfile, IsAccepted}
use Rattle.dai_model.specs.WellSorted.{Scope, sort_of, HasSort, HaveSorts, IsOrdered, UpdatesWell, target_scope, with_variable, IsWellSorted, AreWellSorted, IsWellSortedStatement, IsWellSortedCode, IsWellSortedBlock, IsProtocol}

numbers_set : IsSet (List ℕ)
numbers_set = Coded-set (coded_list coded_ℕ)

bool_set : IsSet Bool
bool_set = Coded-set coded_bool

sort_found_set : IsSet (Option ℕ)
sort_found_set = Coded-set (coded_option coded_ℕ)

sorts_found_set : IsSet (List (Option ℕ))
sorts_found_set = Coded-set (coded_list (coded_option coded_ℕ))

sort_set : IsSet (Option Sort)
sort_set = Coded-set (coded_option (code_by (List ℕ × Bool) (coded× (coded_list coded_ℕ) coded_bool) (λ (T : Sort). (T.name, T.ordered)) (λ p. record { name = p.0; ordered = p.1 }) (λ _. refl)))

relation_set : IsSet (Option Relation)
relation_set = Coded-set (coded_option (code_by (List ℕ × List ℕ) (coded× (coded_list coded_ℕ) (coded_list coded_ℕ)) (λ (R : Relation). (R.name, R.arguments)) (λ p. record { name = p.0; arguments = p.1 }) (λ _. refl)))

individual_set : IsSet (Option Individual)
individual_set = Coded-set (coded_option (code_by (List ℕ × ℕ) (coded× (coded_list coded_ℕ) coded_ℕ) (λ (I : Individual). (I.name, I.sort)) (λ p. record { name = p.0; sort = p.1 }) (λ _. refl)))

-- what is found is one thing
found_one : {A : Type 0} → IsSet (Option A) → (o : Option A) (Q : A → Type 0) → ((a : A) → IsProp (Q a)) → IsProp ((a : A) × (o ≡ Some a) × Q a)
found_one {A} set o Q prop x y =
    let e : x.0 ≡ y.0 = same_Some x.0 y.0 (sym x.1 ∙ y.1) in
    ap (λ (n : (a : A) × ((o ≡ Some a) × Q a)). (n.0, n.1.0, n.1.1))
    (Σ_prop_path {B = λ a. (o ≡ Some a) × Q a} (λ a. ×_prop (set o (Some a)) (prop a)) {u = (x.0, (x.1, x.2))} {v = (y.0, (y.1, y.2))} e)

found_two : {A : Type 0} → IsSet (Option A) → (o : Option A) (Q R : A → Type 0) → ((a : A) → IsProp (Q a)) → ((a : A) → IsProp (R a)) → IsProp ((a : A) × (o ≡ Some a) × Q a × R a)
found_two {A} set o Q R prop also x y =
    let e : x.0 ≡ y.0 = same_Some x.0 y.0 (sym x.1 ∙ y.1) in
    ap (λ (n : (a : A) × ((o ≡ Some a) × (Q a × R a))). (n.0, n.1.0, n.1.1.0, n.1.1.1))
    (Σ_prop_path {B = λ a. (o ≡ Some a) × (Q a × R a)} (λ a. ×_prop (set o (Some a)) (×_prop (prop a) (also a))) {u = (x.0, (x.1, (x.2, x.3)))} {v = (y.0, (y.1, (y.2, y.3)))} e)

HasSort-prop : (P : Protocol) (scope : Scope) (t : Term) (sort : ℕ) → IsProp (HasSort P scope t sort)
HasSort-prop P scope t sort = sort_found_set (sort_of P scope t) (Some sort)

HaveSorts-prop : (P : Protocol) (scope : Scope) (ts : List Term) (sorts : List ℕ) → IsProp (HaveSorts P scope ts sorts)
HaveSorts-prop P scope ts sorts = sorts_found_set (map (sort_of P scope) ts) (map Some sorts)

IsOrdered-prop : (P : Protocol) (sort : ℕ) → IsProp (IsOrdered P sort)
IsOrdered-prop P sort = found_one sort_set (slice_get P.sorts sort) (λ T. IsTrue T.ordered) (λ T. bool_set T.ordered true)

mutual
  pub IsWellSorted-prop : (P : Protocol) (scope : Scope) (f : Formula) → IsProp (IsWellSorted P scope f)
  IsWellSorted-prop P scope (truth b) = Unit-prop
  IsWellSorted-prop P scope (relates r ts) = found_one relation_set (slice_get P.relations r) (λ R. HaveSorts P scope ts R.arguments) (λ R. HaveSorts-prop P scope ts R.arguments)
  IsWellSorted-prop P scope (same a b) = found_one sort_found_set (sort_of P scope a) (HasSort P scope b) (HasSort-prop P scope b)
  IsWellSorted-prop P scope (less a b) = found_two sort_found_set (sort_of P scope a) (HasSort P scope b) (IsOrdered P) (HasSort-prop P scope b) (IsOrdered-prop P)
  IsWellSorted-prop P scope (less_or_same a b) = found_two sort_found_set (sort_of P scope a) (HasSort P scope b) (IsOrdered P) (HasSort-prop P scope b) (IsOrdered-prop P)
  IsWellSorted-prop P scope (negation f) = IsWellSorted-prop P scope f
  IsWellSorted-prop P scope (conjunction fs) = AreWellSorted-prop P scope fs
  IsWellSorted-prop P scope (disjunction fs) = AreWellSorted-prop P scope fs
  IsWellSorted-prop P scope (implication f g) = ×_prop (IsWellSorted-prop P scope f) (IsWellSorted-prop P scope g)
  IsWellSorted-prop P scope (equivalence fs) = AreWellSorted-prop P scope fs
  IsWellSorted-prop P scope (universal v sort f) = ×_prop le_prop (IsWellSorted-prop P (with_variable scope v sort) f)
  IsWellSorted-prop P scope (existential v sort f) = ×_prop le_prop (IsWellSorted-prop P (with_variable scope v sort) f)

  pub AreWellSorted-prop : (P : Protocol) (scope : Scope) (fs : Formulas) → IsProp (AreWellSorted P scope fs)
  AreWellSorted-prop P scope no_formulas = Unit-prop
  AreWellSorted-prop P scope (with_formula f fs) = ×_prop (IsWellSorted-prop P scope f) (AreWellSorted-prop P scope fs)

UpdatesWell-prop : (P : Protocol) (scope : Scope) (target : List Term) (f : Formula) (R : Relation) → IsProp (UpdatesWell P scope target f R)
UpdatesWell-prop P scope target f R =
    let inside = target_scope scope target R.arguments in
    ×_prop (HaveSorts-prop P inside target R.arguments) (IsWellSorted-prop P inside f)

triple_prop : {A B C : Type 0} → IsProp A → IsProp B → IsProp C → IsProp (A × B × C)
triple_prop a b c = hlevel

mutual
  IsWellSortedStatement-prop : (P : Protocol) (scope : Scope) (c : Statement) → IsProp (IsWellSortedStatement P scope c)
  IsWellSortedStatement-prop P scope (requirement f) = IsWellSorted-prop P scope f
  IsWellSortedStatement-prop P scope (update_relation r target f) = found_one relation_set (slice_get P.relations r) (UpdatesWell P scope target f) (UpdatesWell-prop P scope target f)
  IsWellSortedStatement-prop P scope (update_individual i t) = found_one individual_set (slice_get P.individuals i) (λ I. HasSort P scope t I.sort) (λ I. HasSort-prop P scope t I.sort)
  IsWellSortedStatement-prop P scope (conditional f first second) = triple_prop (IsWellSorted-prop P scope f) (IsWellSortedCode-prop P scope first) (IsWellSortedCode-prop P scope second)

  pub IsWellSortedCode-prop : (P : Protocol) (scope : Scope) (cs : Statements) → IsProp (IsWellSortedCode P scope cs)
  IsWellSortedCode-prop P scope no_statements = Unit-prop
  IsWellSortedCode-prop P scope (with_statement c cs) = ×_prop (IsWellSortedStatement-prop P scope c) (IsWellSortedCode-prop P scope cs)

IsWellSortedBlock-prop : (P : Protocol) (block : Block) → IsProp (IsWellSortedBlock P block)
IsWellSortedBlock-prop P block = hlevel (le_prop, IsWellSortedCode-prop)

pub IsProtocol-prop : (P : Protocol) → IsProp (IsProtocol P)
IsProtocol-prop P = hlevel (le_prop, bool_set, numbers_set, IsWellSorted-prop, IsWellSortedBlock-prop)

BindsOnce-prop : (vs : List ℕ) → IsProp (BindsOnce vs)
BindsOnce-prop vs = hlevel (le_prop, IsDistinct-prop nat_eq vs)

IsUniversalSentence-prop : (f : Formula) → IsProp (IsUniversalSentence f)
IsUniversalSentence-prop f = hlevel (bool_set, BindsOnce-prop)

IsExistsForallSentence-prop : (f : Formula) → IsProp (IsExistsForallSentence f)
IsExistsForallSentence-prop f = hlevel (bool_set, BindsOnce-prop)

mutual
  IsDirect-prop : (c : Statement) → IsProp (IsDirect c)
  IsDirect-prop (requirement f) = IsExistsForallSentence-prop f
  IsDirect-prop (update_relation r target f) = ×_prop (bool_set (not (has_quantifier f)) true) (BindsOnce-prop (target_variables target))
  IsDirect-prop (update_individual i t) = Unit-prop
  IsDirect-prop (conditional f first second) = triple_prop (bool_set (not (has_quantifier f)) true) (AreDirect-prop first) (AreDirect-prop second)

  AreDirect-prop : (cs : Statements) → IsProp (AreDirect cs)
  AreDirect-prop no_statements = Unit-prop
  AreDirect-prop (with_statement c cs) = ×_prop (IsDirect-prop c) (AreDirect-prop cs)

IsBlockInProfile-prop : (block : Block) → IsProp (IsBlockInProfile block)
IsBlockInProfile-prop block = hlevel (le_prop, AreDirect-prop)

pub IsInProfile-prop : (P : Protocol) → IsProp (IsInProfile P)
IsInProfile-prop P = hlevel (le_prop, IsDistinct-prop (pointwise nat_eq) (declared_names P), IsUniversalSentence-prop, IsBlockInProfile-prop)

pub IsAccepted-prop : (P : Protocol) → IsProp (IsAccepted P)
IsAccepted-prop P = hlevel (IsProtocol-prop, IsInProfile-prop)
