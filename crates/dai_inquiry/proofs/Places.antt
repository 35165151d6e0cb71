-- Inquiries at places.
use Rattle.std.proofs.Common.{◌≡◌, ◌<◌, ℕ, List, [], ◌∷◌, length, get_or, ap, sym, ◌∙◌, arith, Some}
use Rattle.std.specs.Prelude.{◌++◌}
use Rattle.std.proofs.lemmas.Option.{slice_get-get_or, slice_get_within, get_or_from_slice_get}
use Rattle.std.specs.Prelude.{set}
use Rattle.std.proofs.lemmas.List.{get_or_push, length_push, get_or-set_same, length-set}
use Rattle.dai_logic.specs.declared.structure.BlockId.{BlockId}
use Rattle.dai_inquiry.specs.declared.inquiry.Inquiry.{Inquiry}
use Rattle.dai_inquiry.specs.declared.by_block.ByBlock.{ByBlock}
use Rattle.dai_inquiry.specs.Places.{IsPlaceOf}

pub place_found : (q : ByBlock) (block : BlockId) (place : ℕ) (inquiry : Inquiry) → place < length q.opened.items → inquiry ≡ get_or q.opened.items place inquiry → inquiry.block ≡ block → IsPlaceOf block q place
place_found q block place inquiry below is of = record { inquiry = inquiry; at = slice_get-get_or q.opened.items place inquiry below ∙ ap Some (sym is); of = of }

pub place_pushed : (q : ByBlock) (items : List Inquiry) (block : BlockId) (place : ℕ) (inquiry : Inquiry) → q.opened.items ≡ items ++ inquiry ∷ [] → place ≡ length items → inquiry.block ≡ block → IsPlaceOf block q place
place_pushed q items block place inquiry is last of =
    let long = length_push items inquiry in
    let many = ap (λ (xs : List Inquiry). length xs) is in
    record {
      inquiry = inquiry;
      at = slice_get-get_or q.opened.items place inquiry (omega arith) ∙ ap Some (ap (λ xs. get_or xs place inquiry) is ∙ get_or_push items inquiry inquiry place (sym last));
      of = of;
    }

pub place_inside : (q : ByBlock) (block : BlockId) (place : ℕ) → IsPlaceOf block q place → place < length q.opened.items
place_inside q block place h = slice_get_within q.opened.items place h.inquiry h.at

pub place_is : (q : ByBlock) (block : BlockId) (place : ℕ) (x : Inquiry) → IsPlaceOf block q place → x ≡ get_or q.opened.items place x → x.block ≡ block
place_is q block place x h is = ap (λ (y : Inquiry). y.block) (is ∙ get_or_from_slice_get q.opened.items place h.inquiry x h.at) ∙ h.of

-- the inquiry at a place is exchanged for one of the same block
pub place_renewed : (q new : ByBlock) (block : BlockId) (place : ℕ) (x y : Inquiry) → x ≡ get_or q.opened.items place x → y.block ≡ x.block → new.opened.items ≡ set q.opened.items place y → IsPlaceOf block q place → IsPlaceOf block new place
place_renewed q new block place x y is same exchanged h =
    let below = place_inside q block place h in
    let long = length-set q.opened.items place y in
    let many = ap (λ (xs : List Inquiry). length xs) exchanged in
    record {
      inquiry = y;
      at = slice_get-get_or new.opened.items place y (omega arith) ∙ ap Some (ap (λ xs. get_or xs place y) exchanged ∙ get_or-set_same q.opened.items place y y below);
      of = same ∙ place_is q block place x h is;
    }
