use Rattle.std.proofs.Common.{◌≡◌, ◌+◌, ◌-◌, drop, length, map}
use Rattle.dai_logic.specs.Trees.{term_of, formula_of}
use Rattle.dai_logic.specs.Protocols.{protocol_of}
use Rattle.dai_logic.specs.Environments.{environment_of, bound}
use Rattle.dai_logic.specs.Tables.{structure_of}
use Rattle.dai_logic.proofs.Writing.{IsWrittenTo}
use Rattle.dai_logic.proofs.updates.+write.Given as goal

abbrev pub decreases-write : goal.decreases-write
decreases-write l = length l.update.now.target.now - l.number

-- the variable alone is changed, and the tuples with each element so far are written
abbrev pub invariant-loop-element : goal.invariant-loop-element
invariant-loop-element l =
    record {
      back : bound l.env l.var l.before ≡ l.initial.env;
      written : IsWrittenTo (structure_of (protocol_of l.update.protocol.now) l.s) (environment_of l.initial.env) l.var (drop (l.number + 1) (map term_of l.update.target.now)) l.size (drop (l.number + 1) l.update.sorts.now) (formula_of l.update.body.now) l.first l.element l.initial.table l.table;
    }
