use Rattle.std.proofs.Common.{◌≡◌, false, ℕ, length, get_or, map, Some, slice_get, ap, arith}
use Rattle.dai_model.specs.Protocol.{Protocol, Relation}
use Rattle.dai_logic.specs.Trees.{term_of}
use Rattle.dai_logic.specs.Protocols.{protocol_of}
use Rattle.dai_logic.specs.Environments.{environment_of}
use Rattle.dai_logic.proofs.Tuples.{relates_tuple, relates_value}
use Rattle.dai_logic.proofs.places.relates.Goals as goal

same_arguments : (P : Protocol) (r : ℕ) (R Q : Relation) → slice_get P.relations r ≡ Some R → slice_get P.relations r ≡ Some Q → R.arguments ≡ Q.arguments
same_arguments P r R Q h k = let e : R ≡ Q = cc in ap (λ (T : Relation). T.arguments) e

pub bounds-table_of-place : goal.bounds-table_of-place
bounds-table_of-place c =
    let inside = (relates_tuple (protocol_of c.args.protocol.now) c.args.s.now (environment_of c.args.env.now) c.args.rel (map term_of c.args.args.now) c.requires.formula.sorted.0.arguments c.requires.fits c.requires.formula (λ Q found. same_arguments (protocol_of c.args.protocol.now) c.args.rel c.requires.formula.sorted.0 Q c.requires.formula.sorted.1 found)).inside in
    let place = (c.place_of-place.ensures c.requires.formula.sorted.0 c.requires.formula.sorted.1) in
    let table = ap length c.table_of.ensures in
    omega arith

pub returns : goal.returns
returns c =
    relates_value (protocol_of c.args.protocol.now) c.args.s.now (environment_of c.args.env.now) c.args.rel (map term_of c.args.args.now) c.requires.formula.sorted.0 c.place_of-place.result (get_or c.table_of.result.now c.place_of-place.result false) c.requires.formula.sorted.1 (relates_tuple (protocol_of c.args.protocol.now) c.args.s.now (environment_of c.args.env.now) c.args.rel (map term_of c.args.args.now) c.requires.formula.sorted.0.arguments c.requires.fits c.requires.formula (λ Q found. same_arguments (protocol_of c.args.protocol.now) c.args.rel c.requires.formula.sorted.0 Q c.requires.formula.sorted.1 found)).tuple (c.place_of-place.ensures c.requires.formula.sorted.0 c.requires.formula.sorted.1) (ap (λ table. get_or table c.place_of-place.result false) c.table_of.ensures)
