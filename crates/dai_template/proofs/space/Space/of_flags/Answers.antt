use Rattle.std.proofs.Common.{◌≡◌, ◌+◌, [], length, map, sym, ap, ◌∙◌, refl, arith}
use Rattle.std.specs.List.{flat_map}
use Rattle.std.proofs.lemmas.List.{length-map}
use Rattle.dai_model.specs.Protocol.{Sort}
use Rattle.dai_model.specs.Clause.{numbers_below}
use Rattle.dai_model.specs.Shapes.{with_sum, counts_within}
use Rattle.dai_logic.specs.Parts.{relation_of}
use Rattle.dai_logic.specs.Protocols.{protocol_of}
use Rattle.dai_template.specs.Atoms.{lists_of}
use Rattle.dai_template.proofs.Accepted.{few_relations}
use Rattle.dai_template.proofs.SpaceShapes.{few_flags}
use Rattle.dai_template.proofs.space.Space.of_flags.Goals as goal

pub returns : goal.returns
returns c =
    let P = protocol_of c.args.protocol.now in
    let ways : lists_of c.deref.result.now ≡ counts_within [] = ap lists_of c.deref.ensures.value ∙ c.in_ok-ways.ensures in
    let none = c.requires.no_types in
    let types = ap length none in
    record {
      shapes = c.in_ok-shapes.ensures.order ∙ ap (λ ls. flat_map (with_sum ls) (numbers_below (0 + 1))) ways;
      atoms = c.in_ok-shapes.ensures.atoms;
      literals = refl;
      orders = c.new.ensures.items ∙ ap (map (λ (T : Sort). T.ordered)) (sym none);
      few_types = omega (arith, types);
      few_variables = λ k d below. absurd (omega (arith, below));
      each = sym types;
      few_literals = c.requires.literals;
      few_atoms = few_flags P (let k = few_relations c.args.protocol.now in let e = length-map c.args.protocol.now.relations.items relation_of in omega (arith, k, e));
    }
