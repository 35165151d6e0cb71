-- Going down from an antichain to the answer.
use Rattle.std.specs.Prelude.{◌≡◌, ◌↔◌, ℕ, ◌<◌, true, false, Bool, List, [], Option, Some, None, slice_index_or, length}
use Rattle.std.specs.List.{Contains}
use Rattle.dai_model.specs.Protocol.{Protocol, Action}
use Rattle.dai_model.specs.Clause as Model
use Rattle.dai_model.specs.Template.{Bounds, IsTemplate}
use Rattle.dai_model.specs.Subsumption.{IsRenaming}
use Rattle.dai_model.specs.Classes.{Class}
use Rattle.dai_model.specs.Inductive.{IsInGreatest}
use Rattle.dai_model.specs.Answer.{IsAnswer}
use Rattle.dai_template.specs.declared.clause.Clause.{Clause}
use Rattle.dai_template.specs.declared.space.Space.{Space}
use Rattle.dai_template.specs.Spaces.{IsSpaceOf, clause_of}
use Rattle.dai_template.specs.Lists.{clauses_of}
use Rattle.dai_order.specs.Antichains.{StandsFor, StandForOthers, IsAntichain, member_at}
use Rattle.dai_weaken.specs.declared.rounds.Strike.{Strike}
use Rattle.dai_weaken.specs.Judging.{HoldsAtFirst, HoldsAfter}
use Rattle.dai_weaken.specs.Standing.{StandsForGreatest}
use Rattle.dai_weaken.specs.Strikes.{struck_by}
use Rattle.dai_weaken.specs.Falls.{IsOpen, AreGenuine}

-- an antichain that stands for the greatest inductive set
pub record IsStart (C : Class) (P : Protocol) (B : Bounds) (space : Space) (clauses : List Clause) : Type 0 where
  pub antichain : IsAntichain P B space clauses
  pub covers : StandsForGreatest C P B (clauses_of space clauses)

-- an antichain that is the answer, and stands for the greatest set
pub record IsAnswered (C : Class) (P : Protocol) (B : Bounds) (space : Space) (kept : List Clause) : Type 0 where
  pub antichain : IsAntichain P B space kept
  pub covers : StandsForGreatest C P B (clauses_of space kept)
  pub answer : IsAnswer C P B (clauses_of space kept)

-- the answer is left; what fell was refuted; and what is open still is in the greatest set
pub record IsLeft (C : Class) (P : Protocol) (B : Bounds) (space : Space) (start : List Model.Clause) (kept : List Clause) (strikes : List Strike) : Type 0 where
  pub answered : IsAnswered C P B space kept
  pub genuine : AreGenuine C P B space start [] strikes
  pub complete : (c : Model.Clause) → IsOpen P B start (struck_by space strikes) c → IsInGreatest C P B c

-- an antichain that stands for the greatest set and for what is open still
pub record IsDownTo (C : Class) (P : Protocol) (B : Bounds) (space : Space) (start : List Model.Clause) (kept : List Clause) (strikes : List Strike) : Type 0 where
  pub antichain : IsAntichain P B space kept
  pub covers : StandsForGreatest C P B (clauses_of space kept)
  pub genuine : AreGenuine C P B space start [] strikes
  pub stands : (c : Model.Clause) → IsTemplate P B c → StandsFor P (clauses_of space kept) c ↔ IsOpen P B start (struck_by space strikes) c

-- each of the clauses holds at first and after each action
pub record IsStill (C : Class) (P : Protocol) (clauses : List Model.Clause) : Type 0 where
  pub at_first : (c : Model.Clause) → Contains clauses c → HoldsAtFirst C P c
  pub after : (c : Model.Clause) → Contains clauses c → (action : Action) → Contains P.actions action → HoldsAfter C P clauses action c

-- no renaming of a member before this place that the flags name
abbrev pub IsNoneStruck : Protocol → Space → List Clause → List Bool → ℕ → Model.Clause → Type 0
IsNoneStruck P space members flags n c = (k : ℕ) → k < n → k < length members → slice_index_or flags k false ≡ true → IsRenaming P (member_at space members k) c → ⊥

-- it stands for the same templates, but for the renamings of those members
pub record IsWithoutStruck (P : Protocol) (B : Bounds) (space : Space) (old : List Clause) (flags : List Bool) (n : ℕ) (new : List Clause) : Type 0 where
  pub antichain : IsAntichain P B space new
  pub stands : (c : Model.Clause) → IsTemplate P B c → StandsFor P (clauses_of space new) c ↔ (StandsFor P (clauses_of space old) c × IsNoneStruck P space old flags n c)

-- a clause beside an antichain of which it is a member
pub record IsMemberOf (space : Space) (clauses : List Clause) (c : Clause) : Type 0 where
  pub protocol : Protocol
  pub bounds : Bounds
  pub antichain : IsAntichain protocol bounds space clauses
  pub inside : c.shape < length space.shapes.items
  pub listed : Contains (clauses_of space clauses) (clause_of space c)

-- clauses over shapes of the space
abbrev pub AreInside : Space → List Clause → Type 0
AreInside space clauses = (c : Clause) → Contains clauses c → c.shape < length space.shapes.items

-- the place at which the clause stands, if it does
abbrev pub IsPlaceIn : Space → List Clause → Clause → Option ℕ → Type 0
IsPlaceIn space clauses c None = (P : Protocol) (B : Bounds) → IsSpaceOf P B space → Contains (clauses_of space clauses) (clause_of space c) → ⊥
IsPlaceIn space clauses c (Some k) = (k < length clauses) × ((P : Protocol) (B : Bounds) → IsSpaceOf P B space → member_at space clauses k ≡ clause_of space c)

-- it stands for the same templates, but for the renamings of one
pub record IsWithout (P : Protocol) (B : Bounds) (space : Space) (old : List Clause) (gone : Model.Clause) (new : List Clause) : Type 0 where
  pub antichain : IsAntichain P B space new
  pub others : StandForOthers P B (clauses_of space old) gone (clauses_of space new)
