use Rattle.std.proofs.Common.{Some, sym, ◌∙◌, ap, arith}
use Rattle.dai_dimacs.proofs.Drafts.{full_refused, word_refused, variable_refused}
use Rattle.dai_dimacs.proofs.draft.Draft.take.Goals as goal

pub returns-then-self-eq0-clause-takes : goal.returns-then-self-eq0-clause-takes
returns-then-self-eq0-clause-takes c =
    let d = c.args.self.now in
    λ count ws h. full_refused d.cnf.vars count ws c.args.word.now d.cnf d.missing d.clause.items c.if-self-eq0.true h

pub returns-in-None-clause-takes : goal.returns-in-None-clause-takes
returns-in-None-clause-takes c = λ count ws h. word_refused c.args.self.now.cnf.vars count ws c.args.word.now (sym c.in-None.ensures)

pub returns-then-lit-vars-clause-takes : goal.returns-then-lit-vars-clause-takes
returns-then-lit-vars-clause-takes c =
    λ count ws h. variable_refused c.args.self.now.cnf.vars count ws c.args.word.now c.in-Some-Literal.lit (sym c.in-Some-Literal.ensures ∙ ap Some c.in-Some-Literal.field-0-is) (omega (arith, c.vars.ensures))
