-- Answers to questions about blocks, before they are answers about clauses.
use Rattle.std.specs.Prelude.{◌≡◌, ℕ, Bool, true, false, List}
use Rattle.dai_model.specs.Protocol.{Protocol}
use Rattle.dai_model.specs.Formula.{Formula}
use Rattle.dai_logic.specs.declared.structure.BlockId.{BlockId}
use Rattle.dai_logic.specs.Protocols.{block_named}
use Rattle.dai_ground.specs.declared.found.Found.{Found}
use Rattle.dai_ground.specs.declared.found.Answer.{Answer}
use Rattle.dai_ground.specs.declared.found.Answer.TheVariants.{Holds, Broken}
use Rattle.dai_ground.specs.Answers.{IsFound}
use Rattle.dai_weaken.specs.declared.judge.Counterexample.{Counterexample}

-- the counterexample without its block
abbrev pub found_in : Counterexample → Found
found_in x = record { before = x.before; args = x.args; choices = x.choices; after = x.after }

-- by the block of this name, from a structure within the sizes that meets the premises, to one in which the formula is
-- false
pub record IsCounterexample (P : Protocol) (block : BlockId) (premises : List Formula) (f : Formula) (sizes : List ℕ) (x : Counterexample) : Type 0 where
  pub by_the_block : x.block ≡ block
  pub found : IsFound P (block_named P block) premises f sizes (found_in x)

abbrev pub is_none_found : Answer → Bool
is_none_found (Holds used) = true
is_none_found (Broken x) = false
