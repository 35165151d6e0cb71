-- From a picture that was drawn to an inquiry.
use Rattle.std.proofs.Common.{◌≡◌, ℕ, true, false, List, [], ◌∷◌, refl, sym, subst, arith, Option, Some, None}
use Rattle.std.specs.Prelude.{IsSome}
use Rattle.std.proofs.lemmas.List.Elements.{All-nil}
use Rattle.dai_model.specs.Protocol.{Protocol, Block}
use Rattle.dai_model.specs.Value.{Satisfies, SatisfiesAxioms}
use Rattle.dai_model.specs.WellSorted.{IsProtocol, IsWellSortedBlock, scope_of}
use Rattle.dai_trail.specs.Formula.{Formula}
use Rattle.dai_circuit.specs.declared.bit.Bit.{Bit}
use Rattle.dai_circuit.specs.declared.bit.Bit.TheVariants.{Known}
use Rattle.dai_circuit.specs.Circuits.{Extends, Requires}
use Rattle.dai_logic.specs.declared.structure.BlockId.{BlockId}
use Rattle.dai_logic.specs.Protocols.{block_named}
use Rattle.dai_logic.proofs.Calls.{well_sorted_block}
use Rattle.dai_picture.specs.declared.picture.Frame.{Frame}
use Rattle.dai_picture.specs.declared.picture.Picture.{Picture}
use Rattle.dai_picture.specs.Pictures.{IsFrame, IsPicture, rows_of}
use Rattle.dai_picture.specs.Worlds.{Draws, ShowsWorld}
use Rattle.dai_ground.specs.Asking.{RestrictsTo, IsBroken}
use Rattle.dai_ground.specs.Choosing.{IsCopy}
use Rattle.dai_ground.specs.Leaving.{LeavesCode}
use Rattle.dai_ground.proofs.Askings.{asks_extended}
use Rattle.dai_ground.proofs.Leadings.{leads_by, shows_copied, sees_world, row_count, free_block, some_outcome}
use Rattle.dai_ground.proofs.Posings.{MeetsAll, posed_after, asks_posed, frame_kept, picture_kept}
use Rattle.dai_ground.proofs.Restrictions.{restricts_none, restricts_as}
use Rattle.dai_inquiry.specs.declared.inquiry.Pictures.{Pictures}
use Rattle.dai_inquiry.specs.Inquiries.{Leaves, Follows, IsOpen}

-- first the axioms, then the block's code over a copy of the picture, then that it leaves a structure
pub followed : (P : Protocol) (block : Block) (frame : Frame) (picture copied left : Picture) (ok : Bit) (old met a new : Formula) → IsWellSortedBlock P block → IsFrame P block.parameters block.choices old.vars frame → IsPicture P frame.slots.items old.vars picture → RestrictsTo P frame picture (SatisfiesAxioms P) old met → IsCopy picture copied → Extends met a → LeavesCode P frame block.code copied (Known true) a left ok → Requires a new (ok ∷ []) → Follows P block frame picture old new left
followed P block frame picture copied left ok old met a new sorted drawn pictured axioms c e l q =
    let ps = block.parameters in
    let cs = block.choices in
    let framed = frame_kept P ps cs old.vars met.vars frame axioms.grows drawn in
    let seen = picture_kept P frame.slots.items old.vars met.vars picture axioms.grows pictured in
    let leads = leads_by P block false None frame picture copied left ok met a new new framed seen (shows_copied P frame picture copied c) sorted.code e l q (restricts_none P frame left (IsBroken None) new (λ s. tt)) in
    let posed = posed_after P block false [] None frame picture old met new drawn pictured (restricts_as P frame picture (SatisfiesAxioms P) (MeetsAll P []) old met (λ s h. (h, All-nil (Satisfies s))) (λ s h. h.0) axioms) leads in
    record {
      restricts = record {
        grows = posed.grows;
        keeps = posed.keeps;
        holds = λ bits h w is shows. (posed.holds bits h w is shows).0;
        completes = λ bits h given. posed.completes bits h (given.0, given.1, given.2, (given.3, All-nil (Satisfies given.0.structure)));
      };
      pictured = picture_kept P frame.slots.items a.vars new.vars left (let v = q.vars in omega arith) l.pictured;
      shows = λ bits w t h is shows leaves.
          let there = q.keeps bits h in
          let here : ShowsWorld P frame copied bits w = record { structure = shows_copied P frame picture copied c bits w.structure shows.structure; names = shows.names } in
          let sees = l.shows bits (scope_of block) w.arguments w.choices (Some w.structure) there (free_block block) sorted.code (refl, sees_world P block false frame copied bits w (row_count old.vars frame.slots.items ps (rows_of frame.arguments) drawn.named) (row_count old.vars frame.slots.items cs (rows_of frame.choices) drawn.chosen) is here) in
          (some_outcome P frame left ok bits (scope_of block) w.arguments w.choices _ t leaves sees).1;
    }

pub opened : (P : Protocol) (block : Block) (sizes : List ℕ) (old new : Formula) (p : Pictures) → p.frame.slots.items ≡ sizes → IsFrame P block.parameters block.choices old.vars p.frame → IsPicture P p.frame.slots.items old.vars p.before → Draws P block.parameters block.choices false old p.frame p.before → Follows P block p.frame p.before old new p.after → IsOpen P block sizes new p
opened P block sizes old new p slots drawn pictured draws follows = record {
  slots_are = slots;
  drawn = frame_kept P block.parameters block.choices old.vars new.vars p.frame follows.restricts.grows drawn;
  pictured = picture_kept P p.frame.slots.items old.vars new.vars p.before follows.restricts.grows pictured;
  left = follows.pictured;
  asks = asks_posed P block.parameters block.choices false (Leaves P block) old new p.frame p.before drawn pictured draws follows.restricts;
  shows = follows.shows;
}

pub open_extended : (P : Protocol) (block : Block) (sizes : List ℕ) (a b : Formula) (p : Pictures) → Extends a b → IsOpen P block sizes a p → IsOpen P block sizes b p
open_extended P block sizes a b p e o = record {
  slots_are = o.slots_are;
  drawn = frame_kept P block.parameters block.choices a.vars b.vars p.frame e.grows o.drawn;
  pictured = picture_kept P p.frame.slots.items a.vars b.vars p.before e.grows o.pictured;
  left = picture_kept P p.frame.slots.items a.vars b.vars p.after e.grows o.left;
  asks = asks_extended P block.parameters block.choices false (Leaves P block) (Leaves P block) a b p.frame p.before o.drawn o.pictured e o.asks;
  shows = λ bits w t met is shows leaves. o.shows bits w t (e.keeps bits met) is shows leaves;
}

some_known : (asked : Option Block) → IsSome asked → (called : Block) × (asked ≡ Some called)
some_known None known = absurd (let k : ⊥ = cc in k)
some_known (Some called) known = (called, refl)

pub named_some : (P : Protocol) (block : BlockId) → IsSome (block_named P block) → (called : Block) × (block_named P block ≡ Some called)
named_some P block known = some_known (block_named P block) known

pub sorted_named : (P : Protocol) (block : BlockId) (called same : Block) → IsProtocol P → block_named P block ≡ Some called → same ≡ called → IsWellSortedBlock P same
sorted_named P block called same protocol named is = subst (IsWellSortedBlock P) (sym is) (well_sorted_block P block called protocol named)
