-- A transition that breaks a goal and starts from a structure that meets the premises answers.
use Rattle.std.proofs.Common.{◌≡◌, ◌↔◌, ℕ, Bool, false, true, not, List, Option, None, Some, ap, sym, ◌∙◌}
use Rattle.std.specs.Prelude.{IsTrue}
use Rattle.std.specs.Option.{is_some}
use Rattle.std.specs.List.{All}
use Rattle.dai_model.specs.Protocol.{Protocol}
use Rattle.dai_model.specs.Clause.{Clause, Meets}
use Rattle.dai_model.specs.Classes.{Class}
use Rattle.dai_model.specs.Formula.{Formula}
use Rattle.dai_model.specs.Structure.{Structure}
use Rattle.dai_model.specs.Value.{Satisfies}
use Rattle.dai_logic.specs.declared.structure.BlockId.{BlockId}
use Rattle.dai_logic.specs.Tables.{structure_of}
use Rattle.dai_logic.proofs.Tuples.{fits_structure}
use Rattle.dai_ground.specs.Turns.{IsFirstUnmet}
use Rattle.dai_weaken.specs.declared.judge.Counterexample.{Counterexample}
use Rattle.dai_weaken.specs.Judging.{IsTransition}
use Rattle.dai_judge.specs.Premises.{AreFormulasOf}
use Rattle.dai_judge.specs.Memory.{Breaks}

untrue : (b : Bool) → b ≡ false → IsTrue b → ⊥
untrue b e t = let x : true ≡ false = sym t ∙ e in cc

pub answering : (C : Class) (P : Protocol) (block : BlockId) (I : List Clause) (fs : List Formula) (c : Clause) (x : Counterexample) (met : Bool) → x.block ≡ block → met ≡ false → (IsTrue met ↔ Meets P (structure_of P x.after) c) → All (Satisfies (structure_of P x.before)) fs → IsTransition C P x → AreFormulasOf P I fs → Breaks C P block I c x
answering C P block I fs c x met by unmet says all transition premises = record {
  by_the_block = by;
  transition = transition;
  premises_met = (premises.exact (structure_of P x.before) (fits_structure P x.before transition.before_fits)).0 all;
  broken = λ meets. untrue met unmet (says.1 meets);
}

pub all_met : (s : Structure) (fs : List Formula) (unmet : Option ℕ) (none : Bool) → is_some unmet ≡ not none → none ≡ true → IsFirstUnmet s fs unmet → All (Satisfies s) fs
all_met s fs None none e on h = h
all_met s fs (Some k) none e on h = absurd (let x : true ≡ not true = e ∙ ap not on in let y : ⊥ = cc in y)
