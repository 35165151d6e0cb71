use Rattle.std.proofs.Common.{string_bytes}
use Rattle.dai_dimacs.specs.Pieces.{words}
use Rattle.dai_dimacs.proofs.Talks.{question_taken, clause_taken}
use Rattle.dai_dimacs.proofs.ask.take_entry.Goals as goal

pub returns-in-Some : goal.returns-in-Some
returns-in-Some c =
    question_taken c.answer_question.result c.args.line.now (words c.in-Some.rest.now) c.args.solver.now c.answer_question.new.solver (string_bytes c.args.said.now) (string_bytes c.answer_question.new.said)
    c.in-Some.ensures c.answer_question.ensures

pub returns-in-None : goal.returns-in-None
returns-in-None c =
    clause_taken c.add_clause.result c.args.line.now c.args.solver.now c.add_clause.new.solver (string_bytes c.args.said.now) c.in-None.ensures c.add_clause.ensures
