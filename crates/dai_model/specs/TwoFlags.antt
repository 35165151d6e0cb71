-- A worked example: two flags of which exactly one is up. Init lowers the first and raises the second; the
-- one action asks that the first is down, and swaps them.
use Rattle.std.specs.Prelude.{ℕ, Bool, true, false, [], ◌∷◌, codes}
use Rattle.dai_model.specs.Formula.{Formula, truth, relates, negation, conjunction, no_formulas, with_formula, Statement, requirement, update_relation, no_statements, with_statement}
use Rattle.dai_model.specs.Protocol.{Protocol, Action}
use Rattle.dai_model.specs.Clause.{Clause}
use Rattle.dai_model.specs.Template.{Bounds}

abbrev pub flag : ℕ → Formula
flag r = relates r []

abbrev pub set_flag : ℕ → Bool → Statement
set_flag r b = update_relation r [] (truth b)

abbrev pub swap : Action
swap = record {
  name = codes "t";
  block = record {
    parameters = [];
    choices = [];
    code = with_statement (requirement (negation (flag 0))) (with_statement (set_flag 0 true) (with_statement (set_flag 1 false) no_statements));
  };
}

abbrev pub two_flags : Protocol
two_flags = record {
  sorts = [];
  relations = record { name = codes "a"; arguments = [] } ∷ record { name = codes "b"; arguments = [] } ∷ [];
  individuals = [];
  axioms = [];
  init = record {
    parameters = [];
    choices = [];
    code = with_statement (set_flag 0 false) (with_statement (set_flag 1 true) no_statements);
  };
  actions = swap ∷ [];
  invariants = record { label = codes "excl"; body = negation (conjunction (with_formula (flag 0) (with_formula (flag 1) no_formulas))) } ∷ [];
}

abbrev pub two_literals : Bounds
two_literals = record { variables = []; literals = 2 }

-- `a | b`, `~a | ~b` and `~a`
abbrev pub some_flag : Clause
some_flag = record { counts = []; literals = 0 ∷ 2 ∷ [] }

abbrev pub not_both : Clause
not_both = record { counts = []; literals = 1 ∷ 3 ∷ [] }

abbrev pub first_down : Clause
first_down = record { counts = []; literals = 1 ∷ [] }
