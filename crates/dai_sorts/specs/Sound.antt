-- What holds of the parts of a file that breaks no rule of sorts, as the program's reader needs it.
use Rattle.std.specs.Prelude.{ℕ, ◌<◌, ◌++◌, List, []}
use Rattle.std.specs.List.{Contains}
use Rattle.dai_syntax.specs.Tree.{Statement, requirement, assignment, conditional, with_locals, Statements, no_statements, with_statement}
use Rattle.dai_rules.specs.Names.{Context, with_inside}
use Rattle.dai_rules.specs.Types.{Use, HasType}
use Rattle.dai_rules.specs.Sites.{Site, as_requirement, as_value, sentence_sites, update_sites}
use Rattle.dai_rules.specs.Rules.{Breaks}

-- no rule is broken at these sites
abbrev pub AreUnbroken : List Site → Type 0
AreUnbroken sites = (s : Site) → Contains sites s → (number at : ℕ) → Breaks s number at → ⊥

-- no variable is without a type
abbrev pub AreTyped : ℕ → List Use → Type 0
AreTyped count uses = (v : ℕ) → v < count → ((t : List ℕ) → HasType uses v t → ⊥) → ⊥

-- no rule is broken in the formulas and updates of statements
abbrev mutual
  pub IsSound : Context → Statement → Type 0
  IsSound ctx (requirement f) = AreUnbroken (sentence_sites ctx as_requirement f)
  IsSound ctx (assignment name args f) = AreUnbroken (update_sites ctx name args f)
  IsSound ctx (conditional f first second) = AreUnbroken (sentence_sites ctx (as_value []) f) × AreSound ctx first × AreSound ctx second
  IsSound ctx (with_locals binders body) = AreSound (with_inside ctx (ctx.inside ++ binders)) body

  pub AreSound : Context → Statements → Type 0
  AreSound ctx no_statements = Unit {0}
  AreSound ctx (with_statement s ss) = IsSound ctx s × AreSound ctx ss
