-- Models in which bits are true, and cores, from what a solver answers.
use Rattle.std.proofs.Common.{◌≡◌, ◌<◌, ◌&&◌, ℕ, zero, suc, Bool, true, false, List, [], ◌∷◌, length, map, get_or, refl, ap, sym, ◌∙◌, subst, arith, Some, Vec, Global}
use Rattle.std.specs.Prelude.{slice_get}
use Rattle.std.specs.List.{All, Contains, range_with_len, list_any}
use Rattle.std.proofs.lemmas.List.{length-map}
use Rattle.std.proofs.lemmas.List.FromFn.{length-map-range_with_len, get_or-map-range_with_len}
use Rattle.std.proofs.lemmas.List.Elements.{All-head, All-tail, All-contains}
use Rattle.dai_trail.specs.declared.cnf.Lit.{Lit}
use Rattle.dai_trail.specs.Formula.{Formula, IsBelow, IsTrueAt, value_at}
use Rattle.dai_sat.specs.declared.answer.Outcome.{Outcome}
use Rattle.dai_sat.specs.declared.answer.Outcome.TheVariants as Outcomes
use Rattle.dai_sat.specs.Under.{IsOutcomeOf}
use Rattle.dai_circuit.specs.declared.bit.Bit.{Bit}
use Rattle.dai_circuit.specs.declared.bit.Bit.TheVariants.{Known, Is}
use Rattle.dai_circuit.specs.declared.circuit.Solved.TheVariants as Solutions
use Rattle.dai_circuit.specs.Circuits.{IsOver, AreBitsBelow, AreLiteralsOf, IsSolved, all_true, all_value, is_known, is_marked, literals_of}
use Rattle.dai_circuit.proofs.Values.{true_same, same_true, all_true_at, all_open, below-literals}
use Rattle.dai_circuit.proofs.Extensions.{AgreeBelow, met_agreeing}

true_each : (bits : List Bool) (lits : List Lit) → All (IsTrueAt bits) lits → all_true lits bits ≡ true
true_each bits [] h = refl
true_each bits (l ∷ lits) h =
    ap (λ v. v && all_true lits bits) (true_same l.positive (value_at bits l.var) (All-head (IsTrueAt bits) l lits h))
    ∙ true_each bits lits (All-tail (IsTrueAt bits) l lits h)

each_true : (bits : List Bool) (lits : List Lit) → all_true lits bits ≡ true → All (IsTrueAt bits) lits
each_true bits lits h = λ k d l. same_true _ _ (all_true_at bits lits k d l h)

-- the literals are true where the bits are
literal_values : (bits : List Bool) (parts : List Bit) (lits : List Lit) → AreLiteralsOf parts lits → all_true lits bits ≡ all_value parts bits
literal_values bits parts lits are = ap (λ ls. all_true ls bits) are.lits_are ∙ all_open bits parts are.none_false

pub model_under : (f : Formula) (parts : List Bit) (lits : List Lit) (outcome : Outcome) (model : Vec Bool Global) → outcome ≡ Outcomes.Model model → AreLiteralsOf parts lits → IsOutcomeOf f lits outcome → IsSolved f parts (Solutions.Model model)
model_under f parts lits outcome model is are o =
    let h = subst (IsOutcomeOf f lits) is o in
    (h.0, sym (literal_values model.items parts lits are) ∙ true_each model.items lits h.1)

-- what a function makes of an item stands at its place
mapped_at : {X Y : Type 0} (g : X → Y) (xs : List X) (i : ℕ) (x : X) → slice_get xs i ≡ Some x → slice_get (map g xs) i ≡ Some (g x)
mapped_at g [] i x h = absurd (let e : ⊥ = cc in e)
mapped_at g (y ∷ xs) zero x h = let same : y ≡ x = cc in ap (λ z. Some (g z)) same
mapped_at g (y ∷ xs) (suc i) x h = mapped_at g xs i x h

-- each literal of bits is that of one of them
literal_found : (parts : List Bit) (i : ℕ) (l : Lit) → i < length (literals_of parts) → get_or (literals_of parts) i l ≡ l → (j : ℕ) × (slice_get parts j ≡ Some (Is l))
literal_found [] i l below is = absurd (omega (arith, below))
literal_found (Known value ∷ parts) i l below is =
    let found = literal_found parts i l below is in
    (suc found.0, found.1)
literal_found (Is m ∷ parts) zero l below is = (zero, ap (λ k. Some (Is k)) is)
literal_found (Is m ∷ parts) (suc i) l below is =
    let found = literal_found parts i l (omega (arith, below)) is in
    (suc found.0, found.1)

known_found : (parts : List Bit) → list_any (is_known false) parts ≡ true → (j : ℕ) × (slice_get parts j ≡ Some (Known false))
known_found [] known = absurd (let e : ⊥ = cc in e)
known_found (Known true ∷ parts) known =
    let found = known_found parts known in
    (suc found.0, found.1)
known_found (Known false ∷ parts) known = (zero, refl)
known_found (Is l ∷ parts) known =
    let found = known_found parts known in
    (suc found.0, found.1)

-- the names that refute are true where the marked bits are
pub core_under : (f : Formula) (parts : List Bit) (lits : List Lit) (outcome : Outcome) (names : Vec Lit Global) (marks : List Bool) (core : Vec Bool Global) → outcome ≡ Outcomes.Unsat names → IsOver f → AreBitsBelow f.vars parts → AreLiteralsOf parts lits → All (λ l. value_at marks l.var ≡ true) names.items → core.items ≡ map (is_marked marks) parts → IsOutcomeOf f lits outcome → IsSolved f parts (Solutions.Core core)
core_under f parts lits outcome names marks core is over below are marked chosen o = (
  ap (λ (flags : List Bool). length flags) chosen ∙ length-map parts (is_marked marks),
  λ bits met on.
      let h = subst (IsOutcomeOf f lits) is o in
      let whole = map (value_at bits) (range_with_len 0 f.vars) in
      let agree : AgreeBelow f.vars whole bits = λ var l. get_or-map-range_with_len (value_at bits) 0 f.vars var var false l (omega arith) in
      let inside : IsBelow f.vars lits = subst (IsBelow f.vars) (sym are.lits_are) (below-literals f.vars parts below) in
      let named : All (IsTrueAt bits) names.items = λ k d l.
      let one = get_or names.items k d in
      let there = subst (λ ls. Contains ls one) are.lits_are (h.0 k d l) in
      let found = literal_found parts there.0 one there.1 there.2 in
      let flag : slice_get core.items found.0 ≡ Some true = ap (λ (flags : List Bool). slice_get flags found.0) chosen ∙ (mapped_at (is_marked marks) parts found.0 (Is one) found.1 ∙ ap Some (marked k d l)) in
      same_true one.positive (value_at bits one.var) (on found.0 (Is one) found.1 flag) in
      let there : All (IsTrueAt whole) names.items = λ k d l.
      let one = get_or names.items k d in
      let own : one.var < f.vars = All-contains (λ m. m.var < f.vars) lits one inside (h.0 k d l) in
      agree one.var own ∙ named k d l in
      h.1 whole (record { whole = length-map-range_with_len (value_at bits) 0 f.vars; meets = met_agreeing f bits whole over agree met }) there,
)

-- a bit that is known to be false is a core
pub known_under : (f : Formula) (parts : List Bit) (marks : List Bool) (core : Vec Bool Global) → list_any (is_known false) parts ≡ true → core.items ≡ map (is_marked marks) parts → IsSolved f parts (Solutions.Core core)
known_under f parts marks core known chosen = (
  ap (λ (flags : List Bool). length flags) chosen ∙ length-map parts (is_marked marks),
  λ bits met on.
      let found = known_found parts known in
      let flag : slice_get core.items found.0 ≡ Some true = ap (λ (flags : List Bool). slice_get flags found.0) chosen ∙ mapped_at (is_marked marks) parts found.0 (Known false) found.1 in
      let k : false ≡ true = on found.0 (Known false) found.1 flag in
      (let e : ⊥ = cc in e),
)
