-- the types of the literals so far were let go
use Rattle.std.proofs.Common.{◌≡◌, ◌<◌, ◌/◌, ℕ, true, false, length, get_or, map}
use Rattle.dai_model.specs.Clause.{no_atom}
use Rattle.dai_template.specs.Atoms.{atom_of}
use Rattle.dai_template.specs.Renamings.{AreAsOrdered}
use Rattle.dai_template.proofs.canonical.kept_orders.Given as goal

abbrev pub invariant-loop-literal : goal.invariant-loop-literal
invariant-loop-literal l = record {
  long : length l.kept ≡ 8;
  keeps : (t : ℕ) → t < 8 → get_or l.ordered t false ≡ true → get_or l.kept t false ≡ true;
  freed : (k : ℕ) → k < l.literal-index → AreAsOrdered l.kept l.ordered (get_or (map atom_of l.shape.atoms.items) (get_or l.literals k 0 / 2) no_atom);
}
