-- What a protocol's type says of it.
use Rattle.std.proofs.Common.{◌≡◌, ℕ, ◌<◌, length, Some, slice_get, subst}
use Rattle.std.specs.List.{All}
use Rattle.std.proofs.Math.Logic.{∥∥₁_elim}
use Rattle.std.proofs.lemmas.Option.{get_or_from_slice_get}
use Rattle.dai_model.specs.Protocol as Model
use Rattle.dai_model.specs.WellSorted.{IsProtocol}
use Rattle.dai_model.specs.Profile.{IsAccepted}
use Rattle.dai_model.proofs.OneProof.{IsAccepted-prop}
use Rattle.dai_model.proofs.Typed.{slice_get-length}
use Rattle.dai_logic.specs.declared.protocol.Protocol.{Protocol}
use Rattle.dai_logic.specs.Protocols.{protocol_of}

-- every protocol is well-sorted and in the profile
pub is_accepted : (p : Protocol) → IsAccepted (protocol_of p)
is_accepted p = ∥∥₁_elim p.accepted (IsAccepted-prop (protocol_of p)) (λ a. a)

pub is_protocol : (p : Protocol) → IsProtocol (protocol_of p)
is_protocol p = (is_accepted p).sorted

relation_declared : (P : Model.Protocol) (r : ℕ) (R : Model.Relation) → IsProtocol P → slice_get P.relations r ≡ Some R → All (λ sort. sort < length P.sorts) R.arguments
relation_declared P r R protocol found =
    subst (λ (Q : Model.Relation). All (λ sort. sort < length P.sorts) Q.arguments) (get_or_from_slice_get P.relations r R R found) (protocol.relations r R (slice_get-length P.relations r R found))

-- a relation's arguments are of types that are declared
pub relation_sorts : (p : Protocol) (r : ℕ) (R : Model.Relation) → slice_get (protocol_of p).relations r ≡ Some R → All (λ sort. sort < length (protocol_of p).sorts) R.arguments
relation_sorts p r R found = relation_declared (protocol_of p) r R (is_protocol p) found
