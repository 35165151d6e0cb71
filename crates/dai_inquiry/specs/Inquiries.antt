-- Inquiries: clauses that show from where a block leaves a structure, and what it leaves.
use Rattle.std.specs.Prelude.{◌≡◌, ℕ, Bool, false, List, [], None, Some}
use Rattle.dai_model.specs.Protocol.{Protocol, Block}
use Rattle.dai_model.specs.Structure.{Structure}
use Rattle.dai_model.specs.Execution.{executes}
use Rattle.dai_trail.specs.Formula.{Formula, AreMetBy}
use Rattle.dai_circuit.specs.Circuits.{Extends}
use Rattle.dai_logic.specs.Protocols.{block_named}
use Rattle.dai_picture.specs.declared.picture.Frame.{Frame}
use Rattle.dai_picture.specs.declared.picture.Picture.{Picture}
use Rattle.dai_picture.specs.Pictures.{Shows, IsFrame, IsPicture}
use Rattle.dai_picture.specs.Worlds.{World, IsWorld, ShowsWorld}
use Rattle.dai_ground.specs.Asking.{Asks, Refutes, Restricts, EachWorld, SomeWorld}
use Rattle.dai_inquiry.specs.declared.inquiry.Inquiry.{Inquiry}
use Rattle.dai_inquiry.specs.declared.inquiry.Pictures.{Pictures}
use Rattle.dai_inquiry.specs.Truths.{AreTruths}

-- the world's structure meets the axioms, and the block leaves something from it
abbrev pub Leaves : Protocol → Block → World → Type 0
Leaves P called w = Refutes P (Some called) None w

-- where an assignment shows a world from which the block leaves a structure, this is shown in the second picture
abbrev pub ShowsAfter : Protocol → Block → Formula → Frame → Picture → Picture → Type 0
ShowsAfter P called clauses frame before after = (bits : List Bool) (w : World) (t : Structure) → AreMetBy clauses bits → IsWorld P called.parameters called.choices false frame.slots.items w → ShowsWorld P frame before bits w → executes P called w.structure w.arguments w.choices ≡ Some t → Shows P frame after bits t

-- clauses were added that the block leaves a structure, and what it leaves is shown in a picture
pub record Follows (P : Protocol) (called : Block) (frame : Frame) (before : Picture) (old new : Formula) (after : Picture) : Type 0 where
  pub restricts : Restricts (EachWorld P called.parameters called.choices false frame before (Leaves P called)) (SomeWorld P called.parameters called.choices false frame before (Leaves P called)) old new
  pub pictured : IsPicture P frame.slots.items new.vars after
  pub shows : ShowsAfter P called new frame before after

-- the worlds within the sizes from which the block leaves a structure are those that are shown
pub record IsOpen (P : Protocol) (called : Block) (sizes : List ℕ) (clauses : Formula) (p : Pictures) : Type 0 where
  pub slots_are : p.frame.slots.items ≡ sizes
  pub drawn : IsFrame P called.parameters called.choices clauses.vars p.frame
  pub pictured : IsPicture P p.frame.slots.items clauses.vars p.before
  pub left : IsPicture P p.frame.slots.items clauses.vars p.after
  pub asks : Asks P called.parameters called.choices false (Leaves P called) (Leaves P called) clauses p.frame p.before
  pub shows : ShowsAfter P called clauses p.frame p.before p.after

-- the same inquiry after questions: definitions were added, and each bit that is kept is its clause's if each was
pub record IsLater (P : Protocol) (old new : Inquiry) : Type 0 where
  pub block : new.block ≡ old.block
  pub pictures : new.pictures ≡ old.pictures
  pub extends : Extends old.circuit new.circuit
  pub premises : AreTruths P old.pictures.frame old.pictures.before old.circuit old.premises.kept.items → AreTruths P old.pictures.frame old.pictures.before new.circuit new.premises.kept.items
  pub goals : AreTruths P old.pictures.frame old.pictures.after old.circuit old.goals.kept.items → AreTruths P old.pictures.frame old.pictures.after new.circuit new.goals.kept.items

-- an inquiry of a block of the protocol
pub record IsInquiry (P : Protocol) (sizes : List ℕ) (q : Inquiry) : Type 0 where
  pub called : Block
  pub named : block_named P q.block ≡ Some called
  pub is_open : IsOpen P called sizes q.circuit q.pictures
  pub premises : AreTruths P q.pictures.frame q.pictures.before q.circuit q.premises.kept.items
  pub goals : AreTruths P q.pictures.frame q.pictures.after q.circuit q.goals.kept.items

-- no clause was grounded for a question
pub record IsFresh (q : Inquiry) : Type 0 where
  pub premises : q.premises.kept.items ≡ []
  pub goals : q.goals.kept.items ≡ []
  pub goal_vars : q.goal_vars ≡ 0
