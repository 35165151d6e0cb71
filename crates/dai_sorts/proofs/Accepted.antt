-- What a file without faults translates to is well-sorted and in the profile.
use Rattle.std.specs.Prelude.{List}
use Rattle.dai_model.specs.Protocol.{Protocol}
use Rattle.dai_model.specs.Profile.{IsAccepted}
use Rattle.dai_syntax.specs.Tree.{Declaration}
use Rattle.dai_rules.specs.Faults.{IsFaultless}
use Rattle.dai_sorts.specs.Protocols.{IsProtocolOf}
use Rattle.dai_sorts.proofs.Sorted.{sorted}
use Rattle.dai_sorts.proofs.Profile.{in_profile}

pub accepted : (ds : List Declaration) (P : Protocol) → IsFaultless ds → IsProtocolOf ds P → IsAccepted P
accepted ds P faultless is = record { sorted = sorted ds P faultless is; profile = in_profile ds P faultless is }
