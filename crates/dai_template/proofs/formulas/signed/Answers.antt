use Rattle.std.proofs.Common.{◌∙◌, ap, sym, subst, arith}
use Rattle.dai_model.specs.Formula.{negation}
use Rattle.dai_model.proofs.Below.{IsAtomOf}
use Rattle.dai_model.proofs.Folds.{mapped_at}
use Rattle.dai_logic.specs.Trees.{formula_of}
use Rattle.dai_template.specs.Atoms.{atom_of}
use Rattle.dai_template.specs.ClauseFormulas.{atom_formula}
use Rattle.dai_template.proofs.Written.{atom_below, written_negated, written_plain}
use Rattle.dai_template.proofs.formulas.signed.Goals as goal

pub atom-requires-clause-inside : goal.atom-requires-clause-inside
atom-requires-clause-inside c =
    let atoms = c.args.shape.now.atoms.items in
    let below = atom_below c.args.shape.now.counts.items atoms c.args.literal c.requires in
    let same = c.from.ensures in
    subst (λ counts. IsAtomOf counts (atom_of c.index.result.now)) (sym c.deref.ensures.value)
    (mapped_at (IsAtomOf c.args.shape.now.counts.items) atom_of atoms c.from.result c.index.result.now c.requires.variables (omega (arith, below, same)) c.index.ensures)

pub returns-in_ok-new : goal.returns-in_ok-new
returns-in_ok-new c =
    let atoms = c.args.shape.now.atoms.items in
    let counts = c.args.shape.now.counts.items in
    ap (λ f. negation (formula_of f)) c.in_ok-new.ensures.ok
    ∙ written_negated counts atoms c.args.literal c.from.result c.index.result.now (formula_of c.in_ok-positive.positive) c.from.ensures (atom_below counts atoms c.args.literal c.requires) c.index.ensures
    (c.in_ok-positive.ensures ∙ ap (λ xs. atom_formula xs (atom_of c.index.result.now)) c.deref.ensures.value) c.if-literal-eq1.true

pub returns-else-literal-eq1 : goal.returns-else-literal-eq1
returns-else-literal-eq1 c =
    let atoms = c.args.shape.now.atoms.items in
    let counts = c.args.shape.now.counts.items in
    written_plain counts atoms c.args.literal c.from.result c.index.result.now (formula_of c.in_ok-positive.positive) c.from.ensures (atom_below counts atoms c.args.literal c.requires) c.index.ensures
    (c.in_ok-positive.ensures ∙ ap (λ xs. atom_formula xs (atom_of c.index.result.now)) c.deref.ensures.value) c.if-literal-eq1.false
