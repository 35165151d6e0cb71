use Rattle.std.proofs.Common.{map, ap, sym, ◌∙◌, arith}
use Rattle.std.proofs.lemmas.List.{take_all}
use Rattle.dai_template.specs.Spaces.{clause_of}
use Rattle.dai_judge.proofs.premises.keys.Goals as goal

pub key_of-requires : goal.key_of-requires
key_of-requires c =
    (c.requires.1.each c.clause-item.result (c.loop-clause.clause-index, c.loop-clause-test.true, sym c.clause-item.is)).shape

pub returns : goal.returns
returns c =
    let past = c.loop-clause-test.false in
    c.loop-clause.invariant ∙ ap (map (clause_of c.args.space.now)) (take_all c.loop-clause.clause-index c.args.clauses.now (omega (arith, past)))
