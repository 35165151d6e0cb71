use Rattle.std.proofs.Common.{◌≡◌, ◌<◌, List, map, sym, subst, ◌∙◌}
use Rattle.std.proofs.lemmas.List.Elements.{All-cons}
use Rattle.dai_trail.specs.declared.cnf.Lit.{Lit}
use Rattle.dai_trail.specs.Formula.{IsBelow, value_at}
use Rattle.dai_trail.proofs.Resolutions.{ok_map}
use Rattle.dai_circuit.specs.Circuits.{all_true, opposite, variable}
use Rattle.dai_circuit.proofs.Values.{below-opposites, clause_of_converse, converse_implied, converse_value}
use Rattle.dai_circuit.proofs.Extensions.{adds_by, last_met}
use Rattle.dai_circuit.proofs.circuit.Circuit.imply_back.Goals as goal

pub add-requires : goal.add-requires
add-requires c =
    let n = c.args.self.now.vars in
    let P : List Lit → Type 0 = λ clause. IsBelow n clause in
    subst P (sym (c.as_slice.ensures.value ∙ c.in_ok-clause.ensures))
    (All-cons (λ l. l.var < n) (variable c.args.var) (map opposite c.args.lits.now) c.requires.var (below-opposites n c.args.lits.now c.requires.lits))

pub returns-clause-adds : goal.returns-clause-adds
returns-clause-adds c =
    adds_by c.args.self.now c.add.new.self c.as_slice.result.now c.add.result (λ bits. value_at bits c.args.var ≡ all_true c.args.lits.now bits) c.add.ensures.ok c.add.ensures.err
    (λ bits same. converse_value bits c.as_slice.result.now c.args.var c.args.lits.now (c.as_slice.ensures.value ∙ c.in_ok-clause.ensures) ∙ clause_of_converse (value_at bits c.args.var) (all_true c.args.lits.now bits) same)

pub returns-clause-ok : goal.returns-clause-ok
returns-clause-ok c =
    ok_map c.add.result c.add.ensures.ok (λ e bits met.
    converse_implied (value_at bits c.args.var) (all_true c.args.lits.now bits)
    (sym (converse_value bits c.as_slice.result.now c.args.var c.args.lits.now (c.as_slice.ensures.value ∙ c.in_ok-clause.ensures)) ∙ last_met c.args.self.now c.add.new.self c.as_slice.result.now bits e met))
