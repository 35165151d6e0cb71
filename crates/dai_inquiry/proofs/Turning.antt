-- What a model shows, and what a core means.
use Rattle.std.proofs.Common.{◌≡◌, ◌<◌, ℕ, Bool, true, false, List, length, ap, sym, ◌∙◌, subst, Some}
use Rattle.std.specs.Prelude.{IsTrue}
use Rattle.std.specs.List.{All}
use Rattle.dai_model.specs.Formula as Model
use Rattle.dai_model.specs.Protocol.{Protocol, Block}
use Rattle.dai_model.specs.Structure.{is_tuple}
use Rattle.dai_model.specs.Value.{Satisfies, SatisfiesAxioms}
use Rattle.dai_trail.specs.Formula.{Formula, IsModelOf}
use Rattle.dai_circuit.specs.Circuits.{Extends, IsCore, all_value}
use Rattle.dai_logic.specs.declared.structure.BlockId.{BlockId}
use Rattle.dai_logic.specs.Protocols.{block_named}
use Rattle.dai_logic.specs.Tables.{structure_of, Fits}
use Rattle.dai_picture.specs.declared.decode.Decoded.{Decoded}
use Rattle.dai_picture.specs.Pictures.{IsFrame, IsPicture}
use Rattle.dai_picture.specs.Decoding.{IsDecodable}
use Rattle.dai_picture.specs.Worlds.{World, IsWorld}
use Rattle.dai_ground.specs.declared.found.Answer.{Answer}
use Rattle.dai_ground.specs.declared.found.Found.{Found}
use Rattle.dai_ground.specs.Asking.{outcome_of, parameters_asked, choices_asked}
use Rattle.dai_ground.specs.Questions.{world_of}
use Rattle.dai_ground.specs.Answers.{IsFound, NoneRefutes, IsAnswerTo, picked}
use Rattle.dai_ground.proofs.Findings.{extends_after}
use Rattle.dai_ground.specs.Turns.{IsCaller, IsFoundFrom, world_decoded}
use Rattle.dai_ground.proofs.Answering.{AreDecoded, decoded_world}
use Rattle.dai_inquiry.specs.declared.asked.Asked.{Asked}
use Rattle.dai_inquiry.specs.declared.inquiry.Inquiry.{Inquiry}
use Rattle.dai_inquiry.specs.declared.inquiry.Pictures.{Pictures}
use Rattle.dai_inquiry.specs.declared.truths.Truths.{Truths}
use Rattle.dai_inquiry.specs.Truths.{AreTruths}
use Rattle.dai_inquiry.specs.Inquiries.{Leaves, IsOpen, IsInquiry, IsLater}
use Rattle.dai_inquiry.specs.Asked.{AreAsked, IsCovered, parts_of}
use Rattle.dai_inquiry.proofs.Opened.{open_extended}
use Rattle.dai_inquiry.proofs.Bits.{truths_extended}
use Rattle.dai_inquiry.proofs.Cores.{core_true, goal_broken, asked_extended}

pub none_left : (P : Protocol) (called : Block) (sizes : List ℕ) (premises : List Model.Formula) (f : Model.Formula) (g : Formula) (p : Pictures) (a : Asked) (core : List Bool) (numbers : List ℕ) → IsOpen P called sizes g p → AreAsked P p premises f g a → IsCore g (parts_of a) core → ((i : ℕ) → i < length a.premises.items → IsCovered a.premises.items core numbers i) → NoneRefutes P (Some called) (picked premises numbers) f sizes
none_left P called sizes premises f g p a core numbers o h none covered = λ w is met refutes.
    let here = subst (λ ss. IsWorld P called.parameters called.choices false ss w) (sym o.slots_are) is in
    let leaves : Leaves P called w = record { axioms = refutes.axioms; after = refutes.after; leaves = refutes.leaves; is_broken = tt } in
    let one = o.asks.each w here leaves in
    let after = o.shows one.0 w refutes.after one.1 here one.2 refutes.leaves in
    none one.0 one.1 (core_true P p premises f g a core numbers one.0 w.structure refutes.after h covered one.1 one.2.structure after refutes.is_broken met)

pub decodable_of : (P : Protocol) (called : Block) (sizes : List ℕ) (g : Formula) (p : Pictures) (model : List Bool) → IsOpen P called sizes g p → IsModelOf g model → IsDecodable P p.frame p.before model
decodable_of P called sizes g p model o is =
    let shown = o.asks.shows model is.meets in
    record {
      parameters = called.parameters;
      locals = called.choices;
      frame = subst (λ n. IsFrame P called.parameters called.choices n p.frame) (sym is.whole) o.drawn;
      picture = subst (λ n. IsPicture P p.frame.slots.items n p.before) (sym is.whole) o.pictured;
      world = shown.0;
      shown = shown.2;
    }

pub caller_of : (P : Protocol) (block : BlockId) (called : Block) (sizes : List ℕ) (g : Formula) (p : Pictures) (model : List Bool) (d : Decoded) → block_named P block ≡ Some called → IsOpen P called sizes g p → IsModelOf g model → AreDecoded P p.frame p.before model d → IsCaller P (Some block) d
caller_of P block called sizes g p model d named o is are =
    let shown = o.asks.shows model is.meets in
    let same = decoded_world P p.frame p.before model d shown.0 are shown.2 in
    let world = subst (λ w. IsWorld P called.parameters called.choices false p.frame.slots.items w) (sym same) shown.1 in
    let leaves = subst (Leaves P called) (sym same) shown.3 in
    record {
      after = leaves.after;
      leaves = subst (λ b. outcome_of P b (world_decoded P d) ≡ Some leaves.after) (sym named) leaves.leaves;
      given = subst (λ b. IsTrue (is_tuple d.structure.sizes.items (parameters_asked b) d.args.items)) (sym named) world.given;
      chosen = subst (λ b. IsTrue (is_tuple d.structure.sizes.items (choices_asked b) d.choices.items)) (sym named) world.chosen;
    }

pub found_of : (P : Protocol) (block : BlockId) (called : Block) (sizes : List ℕ) (f : Model.Formula) (premises : List Model.Formula) (g : Formula) (p : Pictures) (a : Asked) (model : List Bool) (d : Decoded) (x : Found) → block_named P block ≡ Some called → IsOpen P called sizes g p → AreAsked P p premises f g a → IsModelOf g model → all_value (parts_of a) model ≡ true → AreDecoded P p.frame p.before model d → Fits P d.structure → All (Satisfies (structure_of P d.structure)) premises → IsFoundFrom P (block_named P block) d x → IsFound P (Some called) premises f sizes x
found_of P block called sizes f premises g p a model d x named o h is on are fits met from =
    let shown = o.asks.shows model is.meets in
    let same = decoded_world P p.frame p.before model d shown.0 are shown.2 in
    let own : world_of P x ≡ world_decoded P d = λ i. record { structure = structure_of P (from.before i); arguments = from.args i; choices = from.choices i } in
    let here = subst (λ ss. IsWorld P called.parameters called.choices false ss shown.0) o.slots_are shown.1 in
    let left : outcome_of P (Some called) (world_decoded P d) ≡ Some (structure_of P x.after) = subst (λ b. outcome_of P b (world_decoded P d) ≡ Some (structure_of P x.after)) named from.leaves in
    let leaves : outcome_of P (Some called) (world_of P x) ≡ Some (structure_of P x.after) = ap (outcome_of P (Some called)) own ∙ left in
    let there : outcome_of P (Some called) shown.0 ≡ Some (structure_of P x.after) = ap (outcome_of P (Some called)) (sym same) ∙ left in
    let after = o.shows model shown.0 (structure_of P x.after) is.meets shown.1 shown.2 there in
    let axioms = subst (λ (w : World). SatisfiesAxioms P w.structure) (sym (own ∙ same)) shown.3.axioms in
    let broken = goal_broken P p premises f g a model (structure_of P x.after) h is.meets after on in
    record {
      before_fits = subst (Fits P) (sym from.before) fits;
      after_fits = from.after_fits;
      world = subst (λ w. IsWorld P called.parameters called.choices false sizes w) (sym (own ∙ same)) here;
      premises_met = subst (λ s. All (Satisfies (structure_of P s)) premises) (sym from.before) met;
      refutes = record { axioms = axioms; after = structure_of P x.after; leaves = leaves; is_broken = broken };
      leaves = leaves;
      is_broken = broken;
    }

pub later_after : (P : Protocol) (a b c : Inquiry) → IsLater P a b → IsLater P b c → IsLater P a c
later_after P a b c f g = record {
  block = g.block ∙ f.block;
  pictures = g.pictures ∙ f.pictures;
  extends = extends_after a.circuit b.circuit c.circuit f.extends g.extends;
  premises = λ h. subst (λ (p : Pictures). AreTruths P p.frame p.before c.circuit c.premises.kept.items) f.pictures (g.premises (subst (λ (p : Pictures). AreTruths P p.frame p.before b.circuit b.premises.kept.items) (sym f.pictures) (f.premises h)));
  goals = λ h. subst (λ (p : Pictures). AreTruths P p.frame p.after c.circuit c.goals.kept.items) f.pictures (g.goals (subst (λ (p : Pictures). AreTruths P p.frame p.after b.circuit b.goals.kept.items) (sym f.pictures) (f.goals h)));
}

-- where only counts changed, or the formula was extended
pub later_extended : (P : Protocol) (a b : Inquiry) → b.block ≡ a.block → b.pictures ≡ a.pictures → b.premises ≡ a.premises → b.goals ≡ a.goals → Extends a.circuit b.circuit → IsLater P a b
later_extended P a b block pictures premises goals e = record {
  block = block;
  pictures = pictures;
  extends = e;
  premises = λ h. subst (λ (t : Truths). AreTruths P a.pictures.frame a.pictures.before b.circuit t.kept.items) (sym premises) (truths_extended P a.pictures.frame a.pictures.before a.circuit b.circuit a.premises.kept.items e h);
  goals = λ h. subst (λ (t : Truths). AreTruths P a.pictures.frame a.pictures.after b.circuit t.kept.items) (sym goals) (truths_extended P a.pictures.frame a.pictures.after a.circuit b.circuit a.goals.kept.items e h);
}

-- where one more goal was grounded, or one more premise
pub later_goal : (P : Protocol) (a b : Inquiry) → b.block ≡ a.block → b.pictures ≡ a.pictures → b.premises ≡ a.premises → Extends a.circuit b.circuit → (AreTruths P a.pictures.frame a.pictures.after b.circuit a.goals.kept.items → AreTruths P a.pictures.frame a.pictures.after b.circuit b.goals.kept.items) → IsLater P a b
later_goal P a b block pictures premises e keeps = record {
  block = block;
  pictures = pictures;
  extends = e;
  premises = λ h. subst (λ (t : Truths). AreTruths P a.pictures.frame a.pictures.before b.circuit t.kept.items) (sym premises) (truths_extended P a.pictures.frame a.pictures.before a.circuit b.circuit a.premises.kept.items e h);
  goals = λ h. keeps (truths_extended P a.pictures.frame a.pictures.after a.circuit b.circuit a.goals.kept.items e h);
}

pub later_premise : (P : Protocol) (a b : Inquiry) → b.block ≡ a.block → b.pictures ≡ a.pictures → b.goals ≡ a.goals → Extends a.circuit b.circuit → (AreTruths P a.pictures.frame a.pictures.before b.circuit a.premises.kept.items → AreTruths P a.pictures.frame a.pictures.before b.circuit b.premises.kept.items) → IsLater P a b
later_premise P a b block pictures goals e keeps = record {
  block = block;
  pictures = pictures;
  extends = e;
  premises = λ h. keeps (truths_extended P a.pictures.frame a.pictures.before a.circuit b.circuit a.premises.kept.items e h);
  goals = λ h. subst (λ (t : Truths). AreTruths P a.pictures.frame a.pictures.after b.circuit t.kept.items) (sym goals) (truths_extended P a.pictures.frame a.pictures.after a.circuit b.circuit a.goals.kept.items e h);
}

-- an inquiry is one of the same block later
pub inquiry_later : (P : Protocol) (sizes : List ℕ) (old new : Inquiry) → IsLater P old new → IsInquiry P sizes old → IsInquiry P sizes new
inquiry_later P sizes old new later q = record {
  called = q.called;
  named = ap (block_named P) later.block ∙ q.named;
  is_open = subst (IsOpen P q.called sizes new.circuit) (sym later.pictures) (open_extended P q.called sizes old.circuit new.circuit old.pictures later.extends q.is_open);
  premises = subst (λ (p : Pictures). AreTruths P p.frame p.before new.circuit new.premises.kept.items) (sym later.pictures) (later.premises q.premises);
  goals = subst (λ (p : Pictures). AreTruths P p.frame p.after new.circuit new.goals.kept.items) (sym later.pictures) (later.goals q.goals);
}

-- what was asked for is asked for later
pub asked_later : (P : Protocol) (premises : List Model.Formula) (f : Model.Formula) (old new : Inquiry) (a : Asked) → IsLater P old new → AreAsked P old.pictures premises f old.circuit a → AreAsked P new.pictures premises f new.circuit a
asked_later P premises f old new a later h = subst (λ (p : Pictures). AreAsked P p premises f new.circuit a) (sym later.pictures) (asked_extended P old.pictures premises f old.circuit new.circuit a later.extends h)

-- what a turn came to answers the question
pub turn_answers : (P : Protocol) (sizes : List ℕ) (fs : List Model.Formula) (f : Model.Formula) (old now : Inquiry) (answer : Answer) → IsLater P old now → IsAnswerTo P (block_named P now.block) fs f sizes answer → IsAnswerTo P (block_named P old.block) fs f sizes answer
turn_answers P sizes fs f old now answer later h = subst (λ b. IsAnswerTo P (block_named P b) fs f sizes answer) later.block h
