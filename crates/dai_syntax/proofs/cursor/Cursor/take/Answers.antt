use Rattle.dai_syntax.proofs.cursor.Cursor.take.Goals as goal

pub returns-clause-yes : goal.returns-clause-yes
returns-clause-yes c = λ yes. record { token = c.pass-token.result; kinds = c.pass-token.ensures.kind; steps = c.pass-token.ensures.steps }
