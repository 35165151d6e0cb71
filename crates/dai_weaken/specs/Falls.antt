-- The clauses that fell, by the strikes that felled them.
use Rattle.std.specs.Prelude.{◌≡◌, ℕ, List, [], ◌∷◌, ◌++◌}
use Rattle.std.specs.List.{Contains}
use Rattle.dai_model.specs.Protocol.{Protocol}
use Rattle.dai_model.specs.Clause.{Clause, Meets}
use Rattle.dai_model.specs.Template.{Bounds, IsTemplate}
use Rattle.dai_model.specs.Subsumption.{IsRenaming, IsCanonical}
use Rattle.dai_model.specs.Classes.{Class}
use Rattle.dai_logic.specs.Tables.{structure_of}
use Rattle.dai_logic.specs.declared.structure.BlockId.TheVariants.{Act}
use Rattle.dai_template.specs.declared.space.Space.{Space}
use Rattle.dai_template.specs.Lists.{clauses_of}
use Rattle.dai_order.specs.Antichains.{StandsFor}
use Rattle.dai_weaken.specs.declared.rounds.Strike.{Strike}
use Rattle.dai_weaken.specs.Judging.{IsTransition}

-- The clauses that are open: the templates that the start stands for, but for the renamings of those that fell before.
pub record IsOpen (P : Protocol) (B : Bounds) (start fallen : List Clause) (c : Clause) : Type 0 where
  pub template : IsTemplate P B c
  pub stands : StandsFor P start c
  pub no_renaming : (d : Clause) → Contains fallen d → IsRenaming P d c → ⊥

-- a canonical clause that was open, and that the state after doesn't meet
pub record HasFallen (P : Protocol) (B : Bounds) (start fallen : List Clause) (x : Strike) (c : Clause) : Type 0 where
  pub canonical : IsCanonical P B c
  pub was_open : IsOpen P B start fallen c
  pub broken : Meets P (structure_of P x.by.after) c → ⊥

-- init, or a step from a state that meets every clause that is open, leads to a state that doesn't meet these
pub record IsGenuine (C : Class) (P : Protocol) (B : Bounds) (space : Space) (start fallen : List Clause) (x : Strike) : Type 0 where
  pub transition : IsTransition C P x.by
  pub origin : (number : ℕ) → x.by.block ≡ Act number → (c : Clause) → IsOpen P B start fallen c → Meets P (structure_of P x.by.before) c
  pub each : (c : Clause) → Contains (clauses_of space x.clauses.items) c → HasFallen P B start fallen x c

-- each is genuine after those before it
abbrev pub AreGenuine : Class → Protocol → Bounds → Space → List Clause → List Clause → List Strike → Type 0
AreGenuine C P B space start fallen [] = Unit {0}
AreGenuine C P B space start fallen (x ∷ xs) = IsGenuine C P B space start fallen x × AreGenuine C P B space start (fallen ++ clauses_of space x.clauses.items) xs
