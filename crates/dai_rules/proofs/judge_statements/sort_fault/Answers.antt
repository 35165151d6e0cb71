use Rattle.std.proofs.Common.{map, IfOk, MatchOption, subst}
use Rattle.dai_syntax.specs.Trees.{declaration_of}
use Rattle.dai_rules.specs.Faults.{IsFaultless, IsTold}
use Rattle.dai_rules.proofs.judge_statements.sort_fault.Goals as goal

pub returns : goal.returns
returns c =
    subst (λ ds. IfOk c.first_fault.result (λ fault. MatchOption fault (IsFaultless (map declaration_of ds)) (IsTold (map declaration_of ds)))) c.as_slice-decls.ensures.value c.first_fault.ensures
