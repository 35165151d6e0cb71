use Rattle.std.proofs.Common.{◌≡◌, ℕ, ◌++◌, map, sym, ◌∙◌, ap, arith}
use Rattle.std.specs.Prelude.{slice_index}
use Rattle.dai_model.specs.Clause.{numbers_below, is_individual}
use Rattle.dai_model.proofs.Tuples.{variable_at, individual_atoms-numbers}
use Rattle.dai_logic.specs.Parts.{individual_of}
use Rattle.dai_template.specs.Atoms.{atom_of}
use Rattle.dai_template.proofs.atoms.add_equations.Goals as goal

pub returns : goal.returns
returns c =
    let all : c.loop-variable.variable ≡ slice_index c.args.counts.now c.args.individual.now.sort = let past = c.loop-variable-test.false in let most = c.loop-variable.auto in let limit = ap (slice_index c.args.counts.now) c.from.ensures in omega (arith, past, most, limit) in
    c.loop-variable.invariant
    ∙ (ap (λ (n : ℕ). map atom_of c.args.atoms.now.items ++ map (λ k. is_individual (variable_at (c.args.individual.now.sort, k)) c.args.number) (numbers_below n)) all
    ∙ ap (λ more. map atom_of c.args.atoms.now.items ++ more) (sym (individual_atoms-numbers c.args.counts.now c.args.number (individual_of c.args.individual.now))))
