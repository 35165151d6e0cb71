use Rattle.std.proofs.Common.{map}
use Rattle.dai_syntax.specs.Trees.{declaration_of}
use Rattle.dai_sorts.proofs.Unbroken.{faultless_unbroken}
use Rattle.dai_sorts.proofs.Soundness.{few_declared}
use Rattle.dai_sorts.proofs.checker.draft.Goals as goal

pub of-requires-2 : goal.of-requires-2
of-requires-2 c =
    let ds = map declaration_of c.args.decls.now in
    few_declared ds (faultless_unbroken ds c.requires)
