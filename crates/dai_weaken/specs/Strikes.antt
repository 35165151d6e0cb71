-- What one round strikes.
use Rattle.std.specs.Prelude.{◌≡◌, ℕ, ◌<◌, ◌⊎◌, ◌++◌, true, false, Bool, List, [], ◌∷◌, length, slice_index_or, slice_set}
use Rattle.std.specs.List.{Contains}
use Rattle.dai_model.specs.Protocol.{Protocol}
use Rattle.dai_model.specs.Clause as Model
use Rattle.dai_model.specs.Clause.{Meets, MeetsEach}
use Rattle.dai_model.specs.Classes.{Class}
use Rattle.dai_model.specs.Template.{Bounds}
use Rattle.dai_logic.specs.Tables.{structure_of, Fits}
use Rattle.dai_logic.specs.declared.structure.Structure.{Structure}
use Rattle.dai_logic.specs.declared.structure.BlockId.TheVariants.{Act}
use Rattle.dai_template.specs.declared.clause.Clause.{Clause}
use Rattle.dai_template.specs.declared.space.Space.{Space}
use Rattle.dai_template.specs.Spaces.{clause_of, IsClauseOf}
use Rattle.dai_template.specs.Lists.{clauses_of}
pub use Rattle.dai_order.specs.Antichains.{member_at}
use Rattle.dai_weaken.specs.declared.rounds.Strike.{Strike}
use Rattle.dai_weaken.specs.Judging.{IsTransition, Holds}
use Rattle.dai_weaken.specs.Questions.{ArePremises}

-- clauses of a space of a protocol, of which the structure is one
pub record IsStruckList (space : Space) (s : Structure) (members : List Clause) : Type 0 where
  pub protocol : Protocol
  pub are : ArePremises protocol space members
  pub fits : Fits protocol s

-- a member that wasn't struck before and is now, and that the structure doesn't meet
pub record IsStruckAt (P : Protocol) (space : Space) (s : Structure) (members : List Clause) (old new : List Bool) (k : ℕ) : Type 0 where
  pub was_not : slice_index_or old k false ≡ false
  pub is : slice_index_or new k false ≡ true
  pub broken : Meets P (structure_of P s) (member_at space members k) → ⊥

-- of the members below a number: struck are those that were, and those that the structure doesn't meet, which are these
-- clauses
pub record AreStruckBelow (P : Protocol) (space : Space) (s : Structure) (members : List Clause) (old new : List Bool) (n : ℕ) (clauses : List Clause) : Type 0 where
  pub stay : (k : ℕ) → slice_index_or old k false ≡ true → slice_index_or new k false ≡ true
  pub others_meet : (k : ℕ) → k < n → slice_index_or new k false ≡ false → Meets P (structure_of P s) (member_at space members k)
  pub each : (c : Model.Clause) → Contains (clauses_of space clauses) c → (k : ℕ) × (k < n) × IsStruckAt P space s members old new k × (member_at space members k ≡ c)
  pub listed : (k : ℕ) → k < n → slice_index_or old k false ≡ false → slice_index_or new k false ≡ true → Contains (clauses_of space clauses) (member_at space members k)

abbrev pub AreStruckBy : Protocol → Space → Structure → List Clause → List Bool → List Bool → List Clause → Type 0
AreStruckBy P space s members old new clauses = AreStruckBelow P space s members old new (length members) clauses

abbrev pub AreStruckAfter : Space → Structure → List Clause → List Bool → List Bool → List Clause → Type 0
AreStruckAfter space s members old new clauses = (P : Protocol) → ArePremises P space members → Fits P s → AreStruckBy P space s members old new clauses

-- one member: nothing changes where it was struck or the structure meets it, and else it is struck and put into the list
pub data IsStruckOr (space : Space) (s : Structure) (c : Clause) (place : ℕ) (old new : List Bool) (clauses more : List Clause) : Type 0 where
  is_spared : new ≡ old → more ≡ clauses → (slice_index_or old place false ≡ true) ⊎ ((P : Protocol) (B : Bounds) → IsClauseOf P B space c → Fits P s → Meets P (structure_of P s) (clause_of space c)) → IsStruckOr space s c place old new clauses more
  is_struck : slice_index_or old place false ≡ false → new ≡ slice_set old place true → clauses_of space more ≡ clauses_of space clauses ++ clause_of space c ∷ []
      → ((P : Protocol) (B : Bounds) → IsClauseOf P B space c → Fits P s → Meets P (structure_of P s) (clause_of space c) → ⊥) → IsStruckOr space s c place old new clauses more

-- a transition from a state that meets the premises, where it is by an action, and what its state after doesn't meet:
-- members that were not struck before
pub record IsStrike (C : Class) (P : Protocol) (premises : List Model.Clause) (space : Space) (members struck : List Model.Clause) (x : Strike) : Type 0 where
  pub transition : IsTransition C P x.by
  pub origin : (number : ℕ) → x.by.block ≡ Act number → MeetsEach P (structure_of P x.by.before) premises
  pub are_members : (c : Model.Clause) → Contains (clauses_of space x.clauses.items) c → Contains members c
  pub were_not : (c : Model.Clause) → Contains (clauses_of space x.clauses.items) c → Contains struck c → ⊥
  pub broken : (c : Model.Clause) → Contains (clauses_of space x.clauses.items) c → Meets P (structure_of P x.by.after) c → ⊥

abbrev pub struck_by : Space → List Strike → List Model.Clause
struck_by space [] = []
struck_by space (x ∷ xs) = clauses_of space x.clauses.items ++ struck_by space xs

-- each strikes members that those before it didn't
abbrev pub AreStrikes : Class → Protocol → List Model.Clause → Space → List Model.Clause → List Model.Clause → List Strike → Type 0
AreStrikes C P premises space members struck [] = Unit {0}
AreStrikes C P premises space members struck (x ∷ xs) = IsStrike C P premises space members struck x × AreStrikes C P premises space members (struck ++ clauses_of space x.clauses.items) xs

-- the strikes of a round; each member that none of them struck holds, and the flags say which are struck
pub record AreRoundStrikes (C : Class) (P : Protocol) (premises : List Model.Clause) (space : Space) (members : List Clause) (flags : List Bool) (strikes : List Strike) : Type 0 where
  pub long : length flags ≡ length members
  pub strikes_are : AreStrikes C P premises space (clauses_of space members) [] strikes
  pub flagged : (k : ℕ) → k < length members → slice_index_or flags k false ≡ true → Contains (struck_by space strikes) (member_at space members k)
  pub listed : (c : Model.Clause) → Contains (struck_by space strikes) c → (k : ℕ) × (k < length members) × (slice_index_or flags k false ≡ true) × (member_at space members k ≡ c)
  pub others_hold : (k : ℕ) → k < length members → slice_index_or flags k false ≡ false → Holds C P premises (member_at space members k)

-- each member stands once
abbrev pub AreEachOnce : Space → List Clause → Type 0
AreEachOnce space members = (i j : ℕ) → i < length members → j < length members → member_at space members i ≡ member_at space members j → i ≡ j

-- So many members were asked: the flags say which members are struck, and each member asked that is not struck holds.
pub record IsRoundTo (C : Class) (P : Protocol) (premises : List Model.Clause) (space : Space) (members : List Clause) (n : ℕ) (flags : List Bool) (strikes : List Strike) : Type 0 where
  pub long : length flags ≡ length members
  pub strikes_are : AreStrikes C P premises space (clauses_of space members) [] strikes
  pub flagged : (k : ℕ) → k < length members → slice_index_or flags k false ≡ true → Contains (struck_by space strikes) (member_at space members k)
  pub listed : (c : Model.Clause) → Contains (struck_by space strikes) c → (k : ℕ) × (k < length members) × (slice_index_or flags k false ≡ true) × (member_at space members k ≡ c)
  pub asked : (k : ℕ) → k < n → slice_index_or flags k false ≡ false → Holds C P premises (member_at space members k)
