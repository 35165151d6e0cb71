-- the clauses so far with those of the rest are all, at most 3^64 for each way
use Rattle.std.proofs.Common.{◌≡◌, ◌≤◌, ◌+◌, ◌*◌, ◌^◌, List, ℕ, length, drop}
use Rattle.std.specs.Prelude.{sum_by, Vec}
use Rattle.std.specs.declared.alloc.Global.{Global}
use Rattle.dai_model.specs.Clause.{atoms_of}
use Rattle.dai_model.specs.Shapes.{clause_count}
use Rattle.dai_logic.specs.Protocols.{protocol_of}
use Rattle.dai_template.specs.Atoms.{lists_of}
use Rattle.dai_template.proofs.counting.template_count.Given as goal

abbrev pub invariant-loop-counts : goal.invariant-loop-counts
invariant-loop-counts l =
    let clauses_of : List ℕ → ℕ = λ counts. clause_count l.lits (length (atoms_of (protocol_of l.protocol) counts)) in
    record {
      whole : l.total + sum_by (λ (v : Vec ℕ Global). clauses_of v.items) (drop l.counts-index l.ways) ≡ sum_by clauses_of (lists_of l.ways);
      fits : l.total ≤ l.counts-index * 3 ^ 64;
    }
