-- A worked example for tests: two types with a mark over each, and an action that asks for a marked element of each and
-- changes nothing.
use Rattle.std.specs.Prelude.{ℕ, false, [], ◌∷◌, codes}
use Rattle.dai_model.specs.Formula.{Term, variable, parameter, Formula, relates, same, disjunction, universal, no_formulas, with_formula, requirement, no_statements, with_statement}
use Rattle.dai_model.specs.Protocol.{Protocol, Relation, Action}

-- the term has the mark of this number
abbrev pub has_mark : ℕ → Term → Formula
has_mark r t = relates r (t ∷ [])

abbrev pub first_mark : Relation
first_mark = record { name = codes "p"; arguments = 0 ∷ [] }

abbrev pub second_mark : Relation
second_mark = record { name = codes "q"; arguments = 1 ∷ [] }

abbrev pub look : Action
look = record {
  name = codes "look";
  block = record {
    parameters = 0 ∷ 1 ∷ [];
    choices = [];
    code = with_statement (requirement (has_mark 0 (parameter 0))) (with_statement (requirement (has_mark 1 (parameter 1))) no_statements);
  };
}

abbrev pub marks : Protocol
marks = record {
  sorts = record { name = codes "s"; ordered = false } ∷ record { name = codes "t"; ordered = false } ∷ [];
  relations = first_mark ∷ second_mark ∷ [];
  individuals = [];
  axioms = [];
  init = record { parameters = []; choices = []; code = no_statements };
  actions = look ∷ [];
  invariants = [];
}

-- at most one element of the first type has no mark
abbrev pub all_but_one : Formula
all_but_one = universal 0 0 (universal 1 0 (disjunction (with_formula (same (variable 0) (variable 1)) (with_formula (has_mark 0 (variable 0)) (with_formula (has_mark 0 (variable 1)) no_formulas)))))

-- of each two elements, one of each type, one has its mark
abbrev pub one_of_two : Formula
one_of_two = universal 0 0 (universal 1 1 (disjunction (with_formula (has_mark 0 (variable 0)) (with_formula (has_mark 1 (variable 1)) no_formulas))))
