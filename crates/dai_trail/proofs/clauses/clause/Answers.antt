use Rattle.std.proofs.Common.{arith}
use Rattle.dai_trail.proofs.Encodings.{clause_implied}
use Rattle.dai_trail.proofs.clauses.clause.Goals as goal

pub returns-then-name-clause_count : goal.returns-then-name-clause_count
returns-then-name-clause_count c = clause_implied c.args.cnf.now c.args.name c.clause.result.now (omega arith) c.clause.ensures
