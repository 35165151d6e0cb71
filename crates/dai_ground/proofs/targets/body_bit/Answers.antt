use Rattle.std.proofs.Common.{ℕ, List, map, rules, ap, sym, ◌∙◌}
use Rattle.std.proofs.lemmas.List.{length-map}
use Rattle.dai_logic.specs.Protocols.{protocol_of}
use Rattle.dai_logic.specs.Trees.{term_of, formula_of}
use Rattle.dai_model.specs.Execution.{bind_target}
use Rattle.dai_ground.specs.Grounding.{environment}
use Rattle.dai_ground.proofs.Reaches.{target_length, body_in, body_finds, IsBoundTo}
use Rattle.dai_ground.proofs.targets.body_bit.Goals as goal

pub bind_all-requires-clause-each : goal.bind_all-requires-clause-each
bind_all-requires-clause-each c =
    sym (length-map c.args.update.now.target.now term_of)
    ∙ target_length (protocol_of c.args.scene.now.protocol.now) c.args.scene.now.frame.now c.args.scene.now.picture.now c.args.circuit.now.vars (map term_of c.args.update.now.target.now) c.args.update.now.sorts.now c.args.tuple.now (formula_of c.args.update.now.body.now) c.requires.update (search (rules, c.requires.tuple))

pub ground-requires : goal.ground-requires
ground-requires c =
    let bound : IsBoundTo c.bind_all.new.binding (map term_of c.args.update.now.target.now) c.args.tuple.now =
    λ arguments choices. c.bind_all.ensures arguments choices ∙ ap (λ (b : List ℕ). bind_target (environment b arguments choices) (map term_of c.args.update.now.target.now) c.args.tuple.now) c.new-binding.ensures in
    body_in (protocol_of c.args.scene.now.protocol.now) c.args.scene.now.frame.now c.args.scene.now.picture.now c.args.circuit.now.vars c.bind_all.new.binding (map term_of c.args.update.now.target.now) c.args.update.now.sorts.now c.args.tuple.now (formula_of c.args.update.now.body.now) c.requires.update (search (rules, c.requires.tuple)) bound

pub returns : goal.returns
returns c =
    let bound : IsBoundTo c.bind_all.new.binding (map term_of c.args.update.now.target.now) c.args.tuple.now =
    λ arguments choices. c.bind_all.ensures arguments choices ∙ ap (λ (b : List ℕ). bind_target (environment b arguments choices) (map term_of c.args.update.now.target.now) c.args.tuple.now) c.new-binding.ensures in
    body_finds (protocol_of c.args.scene.now.protocol.now) c.args.scene.now.frame.now c.args.scene.now.picture.now c.bind_all.new.binding (map term_of c.args.update.now.target.now) c.args.update.now.sorts.now c.args.tuple.now (formula_of c.args.update.now.body.now) c.args.circuit.now c.ground.new.circuit c.ground.result bound c.ground.ensures.grounds
