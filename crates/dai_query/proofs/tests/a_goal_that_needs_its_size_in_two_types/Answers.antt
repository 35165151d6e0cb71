use Rattle.std.proofs.Common.{sym, subst}
use Rattle.dai_cut.specs.Small.{IsUniversalClaim}
use Rattle.dai_query.specs.Marks.{marks}
use Rattle.dai_query.proofs.Marked.{one_of_two_claim}
use Rattle.dai_query.proofs.tests.a_goal_that_needs_its_size_in_two_types.Goals as goal

pub leads-requires-clause-goal : goal.leads-requires-clause-goal
leads-requires-clause-goal g c = subst (IsUniversalClaim marks) (sym c.in_ok-goal.ensures) one_of_two_claim

pub leads_up_to-requires-clause-goal : goal.leads_up_to-requires-clause-goal
leads_up_to-requires-clause-goal g c = subst (IsUniversalClaim marks) (sym c.in_ok-goal.ensures) one_of_two_claim

pub leads_up_to-requires-2-clause-goal : goal.leads_up_to-requires-2-clause-goal
leads_up_to-requires-2-clause-goal g c = subst (IsUniversalClaim marks) (sym c.in_ok-goal.ensures) one_of_two_claim
