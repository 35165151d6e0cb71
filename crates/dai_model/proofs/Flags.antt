-- The two flags: both clauses of the answer are inductive, and the first flag does not stay down.
use Rattle.std.proofs.Common.{◌≡◌, ◌<◌, ℕ, zero, suc, Bool, true, false, not, ◌||◌, [], ◌∷◌, Option, Some, None, sym, subst, refl, arith}
use Rattle.std.specs.Prelude.{slice_index, if◌then◌else◌}
use Rattle.std.specs.Option.{option_and_then}
use Rattle.std.specs.List.{All, Contains}
use Rattle.dai_model.specs.Protocol.{Relation, Action, Invariant}
use Rattle.dai_model.specs.Structure.{Structure, IsStructure}
use Rattle.dai_model.specs.Reachable.{IsInitial, IsStepOf, IsStep, IsReachable, initially, by_step}
use Rattle.dai_model.specs.Clause.{atom_number, Clause, Meets}
use Rattle.dai_model.specs.Template.{IsTemplate}
use Rattle.dai_model.specs.Classes.{all_sizes}
use Rattle.dai_model.specs.Inductive.{IsInductive, IsInGreatest}
use Rattle.dai_model.specs.WellSorted.{IsProtocol, IsWellSortedBlock, SparesAxioms, closed_scope, IsWellSorted}
use Rattle.dai_model.specs.TwoFlags.{two_flags, two_literals, swap, some_flag, not_both, first_down}
use Rattle.dai_model.proofs.Induction.{greatest_is_invariant}

required : {A : Type 0} (b : Bool) (s t : A) (next : A → Option A) → option_and_then next (if b then Some s else None) ≡ Some t → next s ≡ Some t
required true s t next h = h
required false s t next h = absurd (let e : ⊥ = cc in e)

is_that : {A : Type 0} (s t : A) → Some s ≡ Some t → s ≡ t
is_that s t h = cc

only_one : {A : Type 0} (x y : A) → Contains (x ∷ []) y → x ≡ y
only_one x y (zero, h, e) = e
only_one x y (suc k, h, e) = absurd (omega arith)

-- a clause that holds wherever a block of the example ends is inductive by itself
alone_inductive : (c : Clause) → ((s : Structure) → IsInitial two_flags s → Meets two_flags s c) → ((s t : Structure) → IsStep two_flags s t → Meets two_flags t c) → IsInductive all_sizes two_flags (c ∷ [])
alone_inductive c first later = record {
  initiation = λ s inside init d h. subst (Meets two_flags s) (only_one c d h) (first s init);
  consecution = λ s t inside st axioms meets step d h. subst (Meets two_flags t) (only_one c d h) (later s t step);
}

some_flag_first : (s : Structure) → IsInitial two_flags s → Meets two_flags s some_flag
some_flag_first s init = subst (λ t. Meets two_flags t some_flag) (is_that _ s init.leaves) (λ elements placed. refl)

not_both_first : (s : Structure) → IsInitial two_flags s → Meets two_flags s not_both
not_both_first s init = subst (λ t. Meets two_flags t not_both) (is_that _ s init.leaves) (λ elements placed. refl)

-- what the action leaves meets both clauses
swapped : (s t : Structure) → IsStepOf two_flags swap.block s t → Meets two_flags t some_flag × Meets two_flags t not_both
swapped s t step =
    let e = is_that _ t (required (not (s.holds 0 [])) s t _ step.leaves) in
    (subst (λ u. Meets two_flags u some_flag) e (λ elements placed. refl), subst (λ u. Meets two_flags u not_both) e (λ elements placed. refl))

step_swaps : (s t : Structure) → IsStep two_flags s t → Meets two_flags t some_flag × Meets two_flags t not_both
step_swaps s t step = swapped s t (subst (λ (a : Action). IsStepOf two_flags a.block s t) (sym (only_one swap step.action step.exported)) step.step)

pub some_flag_inductive : IsInductive all_sizes two_flags (some_flag ∷ [])
some_flag_inductive = alone_inductive some_flag some_flag_first (λ s t step. (step_swaps s t step).0)

pub not_both_inductive : IsInductive all_sizes two_flags (not_both ∷ [])
not_both_inductive = alone_inductive not_both not_both_first (λ s t step. (step_swaps s t step).1)

all_none : {A : Type 0} (P : A → Type 0) → All P []
all_none P k d h = absurd (omega arith)

all_one : {A : Type 0} (P : A → Type 0) (x : A) → P x → All P (x ∷ [])
all_one P x p zero d h = p
all_one P x p (suc k) d h = absurd (omega arith)

all_two : {A : Type 0} (P : A → Type 0) (x y : A) → P x → P y → All P (x ∷ y ∷ [])
all_two P x y p q zero d h = p
all_two P x y p q (suc zero) d h = q
all_two P x y p q (suc (suc k)) d h = absurd (omega arith)

two_in_order : (a b i j : ℕ) → atom_number a < atom_number b → i < j → j < 2 → atom_number (slice_index (a ∷ b ∷ []) i) < atom_number (slice_index (a ∷ b ∷ []) j)
two_in_order a b i zero h k l = absurd (omega arith)
two_in_order a b zero (suc zero) h k l = h
two_in_order a b (suc i) (suc zero) h k l = absurd (omega arith)
two_in_order a b i (suc (suc j)) h k l = absurd (omega arith)

two_literals_template : (a b : ℕ) → a < 4 → b < 4 → atom_number a < atom_number b → IsTemplate two_flags two_literals (record { counts = []; literals = a ∷ b ∷ [] })
two_literals_template a b below_a below_b ordered = record {
  one_count_each = refl;
  few_variables = λ sort. omega arith;
  few_literals = omega arith;
  of_the_shape = all_two (λ l. l < 4) a b below_a below_b;
  each_atom_once = λ i j h k. two_in_order a b i j ordered h k;
}

alone_in_greatest : (c : Clause) → IsTemplate two_flags two_literals c → IsInductive all_sizes two_flags (c ∷ []) → IsInGreatest all_sizes two_flags two_literals c
alone_in_greatest c t i = record {
  witness = c ∷ [];
  templates = λ d h. subst (IsTemplate two_flags two_literals) (only_one c d h) t;
  inductive = i;
  member = (0, omega arith, refl);
}

pub some_flag_in_greatest : IsInGreatest all_sizes two_flags two_literals some_flag
some_flag_in_greatest = alone_in_greatest some_flag (two_literals_template 0 2 (omega arith) (omega arith) (omega arith)) some_flag_inductive

pub not_both_in_greatest : IsInGreatest all_sizes two_flags two_literals not_both
not_both_in_greatest = alone_in_greatest not_both (two_literals_template 1 3 (omega arith) (omega arith) (omega arith)) not_both_inductive

-- both flags down, from which init may start
start : Structure
start = record { sizes = []; holds = λ r es. false; element = λ i. 0 }

start_is_structure : IsStructure two_flags start
unfolding start
start_is_structure = record {
  one_size_each = refl;
  inhabited = all_none _;
  tuples_inside = λ r es h. absurd (let e : ⊥ = cc in e);
  elements_inside = λ i I h. absurd (let e : ⊥ = cc in e);
  nothing_outside = λ i h. refl;
}

pub two_flags_is_protocol : IsProtocol two_flags
two_flags_is_protocol = record {
  relations = all_two (λ (R : Relation). All (λ sort. sort < 0) R.arguments) _ _ (all_none _) (all_none _);
  individuals = all_none _;
  axioms = all_none _;
  init = record { parameters = all_none _; choices = all_none _; code = ((_, refl, (refl, tt)), ((_, refl, (refl, tt)), tt)) };
  no_arguments = refl;
  actions = all_one (λ (a : Action). IsWellSortedBlock two_flags a.block) swap (record { parameters = all_none _; choices = all_none _; code = ((_, refl, refl), ((_, refl, (refl, tt)), ((_, refl, (refl, tt)), tt))) });
  invariants = all_one (λ (f : Invariant). IsWellSorted two_flags closed_scope f.body) _ ((_, refl, refl), ((_, refl, refl), tt));
  init_spares = λ x. all_none _;
  actions_spare = all_one (λ (a : Action). SparesAxioms two_flags a.block) swap (λ x. all_none _);
}

-- init leaves the second flag up, and the action then leaves the first one up
pub reaches_first_up : (t : Structure) × IsReachable two_flags t × (t.holds 0 [] ≡ true)
unfolding start
reaches_first_up =
    let begun = initially (record { before = start; choices = []; structure = start_is_structure; axioms = all_none _; chosen = refl; leaves = refl }) in
    (_, by_step begun (record { action = swap; exported = (0, omega arith, refl); step = record { arguments = []; choices = []; given = refl; chosen = refl; leaves = refl } }), refl)

pub first_down_not_in_greatest : IsInGreatest all_sizes two_flags two_literals first_down → ⊥
first_down_not_in_greatest g =
    let (t, reached, up) = reaches_first_up in
    let meets = greatest_is_invariant all_sizes two_flags two_literals first_down two_flags_is_protocol g t tt reached in
    let value = meets [] (record { one_list_each = refl; each = λ sort T h. absurd (let e : ⊥ = cc in e) }) in
    first_not_down (t.holds 0 []) up value
  where
    first_not_down : (b : Bool) → b ≡ true → (not b || false) ≡ true → ⊥
    first_not_down true up h = cc
    first_not_down false up h = cc
