use Rattle.std.proofs.Common.{refl}
use Rattle.dai_logic.proofs.Environments.{block_environment_is}
use Rattle.dai_logic.proofs.environment.Env.new.Goals as goal

pub returns : goal.returns
returns c = block_environment_is _ _ _ _ _ 256 refl c.in_ok-from_slice.ensures.items c.in_ok-from_slice-2.ensures.items
