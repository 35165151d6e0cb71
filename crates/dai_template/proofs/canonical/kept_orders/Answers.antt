use Rattle.std.proofs.Common.{◌/◌, length, get_or, map, sym, ◌∙◌, subst}
use Rattle.dai_model.specs.Clause.{no_atom}
use Rattle.dai_template.specs.Atoms.{atom_of}
use Rattle.dai_template.specs.Renamings.{AreAsOrdered, AreTypesBelow}
use Rattle.dai_template.proofs.Freed.{one_more, as_ordered_on, literal_atom, types_at}
use Rattle.dai_template.proofs.canonical.kept_orders.Goals as goal

pub free_types-requires-clause-known : goal.free_types-requires-clause-known
free_types-requires-clause-known c =
    types_at (length c.args.ordered.now) c.args.shape.now.atoms.items (get_or c.args.literals.now c.loop-literal.literal-index 0) c.from.result c.index.result.now c.requires.known c.from.ensures (c.requires.inside c.loop-literal.literal-index 0 c.loop-literal-test.true) c.index.ensures

pub free_types-requires-clause-long : goal.free_types-requires-clause-long
free_types-requires-clause-long c =
    subst (λ n. AreTypesBelow n (atom_of c.index.result.now)) (sym c.loop-literal.invariant.long)
    (types_at 8 c.args.shape.now.atoms.items (get_or c.args.literals.now c.loop-literal.literal-index 0) c.from.result c.index.result.now c.requires.few c.from.ensures (c.requires.inside c.loop-literal.literal-index 0 c.loop-literal-test.true) c.index.ensures)

pub loop-literal-preserved : goal.loop-literal-preserved
loop-literal-preserved c =
    let atoms = map atom_of c.args.shape.now.atoms.items in
    record {
      long = c.free_types.ensures.long ∙ c.loop-literal.invariant.long;
      keeps = λ t below own. c.free_types.ensures.keeps t own (c.loop-literal.invariant.keeps t below own);
      freed = λ k h. one_more (λ n. AreAsOrdered c.free_types.new.kept c.args.ordered.now (get_or atoms (get_or c.args.literals.now n 0 / 2) no_atom)) c.loop-literal.literal-index k h
          (λ n l. as_ordered_on c.loop-literal.kept c.free_types.new.kept c.args.ordered.now (get_or atoms (get_or c.args.literals.now n 0 / 2) no_atom) c.free_types.ensures.stays (c.loop-literal.invariant.freed n l))
          (subst (AreAsOrdered c.free_types.new.kept c.args.ordered.now) (sym (literal_atom c.args.shape.now.atoms.items (get_or c.args.literals.now c.loop-literal.literal-index 0) c.from.result c.index.result.now c.from.ensures (c.requires.inside c.loop-literal.literal-index 0 c.loop-literal-test.true) c.index.ensures)) c.free_types.ensures.freed);
    }
