-- What the clauses about all rows say.
use Rattle.std.proofs.Common.{◌≡◌, ◌<◌, ℕ, List, length, ap, sym, ◌∙◌, subst}
use Rattle.std.specs.List.{All}
use Rattle.std.proofs.lemmas.List.{length-map}
use Rattle.dai_model.specs.Protocol.{Protocol}
use Rattle.dai_trail.specs.Formula.{Formula}
use Rattle.dai_circuit.specs.declared.bit.Bit.{Bit}
use Rattle.dai_picture.specs.declared.picture.Frame.{Frame}
use Rattle.dai_picture.specs.declared.picture.Picture.{Picture}
use Rattle.dai_picture.specs.Pictures.{rows_of, AreRows, slots_of_each, IsFrame}
use Rattle.dai_picture.specs.Rules.{Constrains, AreUsedFronts, MarkUsed, AreOverUsed}
use Rattle.dai_picture.specs.Drawing.{AreRuled}
use Rattle.dai_picture.proofs.Declared.{sorts_in}

pub over_frame : (P : Protocol) (parameters choices : List ℕ) (n m : ℕ) (frame : Frame) (sorts : List ℕ) (rows : List (List Bit)) → IsFrame P parameters choices n frame → m ≡ n → All (λ sort. sort < length P.sorts) sorts → AreRows n (slots_of_each frame.slots.items sorts) rows → AreOverUsed m (rows_of frame.used) sorts rows
over_frame P parameters choices n m frame sorts rows h e known r = subst (λ count. AreOverUsed count (rows_of frame.used) sorts rows) (sym e) record {
  known = subst (λ count. All (λ sort. sort < count) sorts) (sym (length_used frame h)) known;
  used = h.used.below;
  rows = subst (λ slots. AreRows n (slots_of_each slots sorts) rows) (sym h.used.long) r;
}
  where
    length_used : (frame : Frame) → IsFrame P parameters choices n frame → length (rows_of frame.used) ≡ length P.sorts
    length_used frame h =
        let f : List Bit → ℕ = λ (row : List Bit). length row in
        sym (length-map (rows_of frame.used) f) ∙ (ap length h.used.long ∙ h.one_each)

-- the four conditions in a row
pub ruled : (P : Protocol) (parameters choices : List ℕ) (frame : Frame) (picture : Picture) (a b c d e : Formula) → Constrains a b (AreUsedFronts (rows_of frame.used)) → Constrains b c (MarkUsed (rows_of frame.used) (sorts_in P) (rows_of picture.values)) → Constrains c d (MarkUsed (rows_of frame.used) choices (rows_of frame.choices)) → Constrains d e (MarkUsed (rows_of frame.used) parameters (rows_of frame.arguments)) → Constrains a e (AreRuled P parameters choices frame picture)
ruled P parameters choices frame picture a b c d e f g h k = record {
  vars = k.vars ∙ (h.vars ∙ (g.vars ∙ f.vars));
  keeps = λ bits met. f.keeps bits (g.keeps bits (h.keeps bits (k.keeps bits met)));
  holds = λ bits met. record {
    used = f.holds bits (g.keeps bits (h.keeps bits (k.keeps bits met)));
    values = g.holds bits (h.keeps bits (k.keeps bits met));
    chosen = h.holds bits (k.keeps bits met);
    given = k.holds bits met;
  };
  admits = λ bits met r. k.admits bits (h.admits bits (g.admits bits (f.admits bits met r.used) r.values) r.chosen) r.given;
}
