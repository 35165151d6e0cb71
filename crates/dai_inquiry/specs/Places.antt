-- Inquiries by their blocks.
use Rattle.std.specs.Prelude.{◌≡◌, ℕ, List, Some, slice_get}
use Rattle.std.specs.List.{All}
use Rattle.dai_model.specs.Protocol.{Protocol}
use Rattle.dai_logic.specs.declared.structure.BlockId.{BlockId}
use Rattle.dai_inquiry.specs.declared.inquiry.Inquiry.{Inquiry}
use Rattle.dai_inquiry.specs.declared.by_block.ByBlock.{ByBlock}
use Rattle.dai_inquiry.specs.Inquiries.{IsInquiry}

-- each is an inquiry over these sizes
abbrev pub AreOpen : Protocol → List ℕ → ByBlock → Type 0
AreOpen P sizes q = All (IsInquiry P sizes) q.opened.items

-- the block's inquiry stands there
pub record IsPlaceOf (block : BlockId) (q : ByBlock) (place : ℕ) : Type 0 where
  pub inquiry : Inquiry
  pub at : slice_get q.opened.items place ≡ Some inquiry
  pub of : inquiry.block ≡ block
