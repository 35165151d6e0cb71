use Rattle.std.proofs.Common.{◌≡◌, ◌<◌, ℕ, length, get_or, ap, sym, subst, arith}
use Rattle.std.specs.Prelude.{List, []}
use Rattle.std.specs.List.{All}
use Rattle.dai_model.specs.Protocol.{Protocol}
use Rattle.dai_model.specs.Template.{Bounds}
use Rattle.dai_logic.specs.Protocols.{protocol_of}
use Rattle.dai_template.specs.declared.clause.Clause.{Clause}
use Rattle.dai_template.specs.declared.space.Space.{Space}
use Rattle.dai_template.specs.Spaces.{IsClauseOf}
use Rattle.dai_weaken.specs.Questions.{IsGoal}
use Rattle.dai_judge.specs.Premises.{AreSizesFor}
use Rattle.dai_judge.proofs.tests.broken.Goals as goal

-- without types no size is needed
none_needed : (P : Protocol) → P.sorts ≡ [] → AreSizesFor P []
none_needed P is = record { one_each = ap (λ ss. length ss) (sym is); inhabited = λ k d below. absurd (omega arith) }

abbrev pairs : Bounds
pairs = record { variables = []; literals = 2 }

goal_at : (P : Protocol) (space : Space) (clauses : List Clause) (k : ℕ) (c : Clause) → All (IsClauseOf P pairs space) clauses → k < length clauses → c ≡ get_or clauses k c → IsGoal P space c
goal_at P space clauses k c all below is = record { bounds = pairs; is = subst (IsClauseOf P pairs space) (sym is) (all k c below) }

pub initiation-requires-clause-goal : goal.initiation-requires-clause-goal
initiation-requires-clause-goal c =
    let P = protocol_of c.args.protocol.now in
    let counted = c.len.ensures in
    let many = c.if-len-lt3.false in
    goal_at P c.in_ok-space.space c.in_ok-clauses.clauses.items 1 c.index.result.now (c.in_ok-clauses.ensures P pairs c.in_ok-space.ensures).of_the_space (omega (arith, counted, many)) c.index.ensures

pub consecution-requires-clause-goal : goal.consecution-requires-clause-goal
consecution-requires-clause-goal c =
    let P = protocol_of c.args.protocol.now in
    let counted = c.len.ensures in
    let many = c.if-len-lt3.false in
    goal_at P c.in_ok-space.space c.in_ok-clauses.clauses.items 2 c.index-2.result.now (c.in_ok-clauses.ensures P pairs c.in_ok-space.ensures).of_the_space (omega (arith, counted, many)) c.index-2.ensures

pub initiation-requires-clause-judge : goal.initiation-requires-clause-judge
initiation-requires-clause-judge c =
    let P = protocol_of c.args.protocol.now in
    c.in_ok-judge.ensures.ready P (none_needed P c.requires.no_types)
