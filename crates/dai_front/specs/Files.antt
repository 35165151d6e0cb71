-- What the bytes of a file are: a protocol, or refused by a number at a place.
use Rattle.std.specs.Prelude.{ℕ, List, take}
use Rattle.dai_base.specs.Place.{IsPlaceAfter}
use Rattle.dai_base.specs.declared.fault.Place.{Place}
use Rattle.dai_lex.specs.declared.token.Token.{Token}
use Rattle.dai_lex.specs.Tokens.{IsTokens, IsBadAt}
use Rattle.dai_syntax.specs.declared.error.SyntaxError.{SyntaxError}
use Rattle.dai_syntax.specs.declared.error.SyntaxError.TheVariants.{Unexpected, Deep, LeftOut, Spent}
use Rattle.dai_syntax.specs.Tree.{Declaration}
use Rattle.dai_syntax.specs.Viable.{IsFile, IsSyntaxFault}
use Rattle.dai_model.specs.Protocol.{Protocol}
use Rattle.dai_rules.specs.Faults.{IsFirstSortFault, IsFaultless}
use Rattle.dai_sorts.specs.Protocols.{IsProtocolOf}

-- the bytes have tokens, these are a file, which breaks no rule of sorts, and it is the protocol
pub record IsProtocolIn (bytes : List ℕ) (P : Protocol) : Type 0 where
  pub tokens : List Token
  pub declarations : List Declaration
  pub are_tokens : IsTokens bytes tokens
  pub is_file : IsFile bytes tokens declarations
  pub faultless : IsFaultless declarations
  pub protocol : IsProtocolOf declarations P

-- the number of a fault of the grammar, and the offset of its place
abbrev pub number_of : SyntaxError → ℕ
number_of (Unexpected at) = 12
number_of (Deep at) = 13
number_of (LeftOut at) = 20
number_of Spent = 0

abbrev pub offset_of : SyntaxError → ℕ
offset_of (Unexpected at) = at
offset_of (Deep at) = at
offset_of (LeftOut at) = at
offset_of Spent = 0

-- The bytes have no tokens, or the tokens are no file, or the file breaks a rule of sorts: the number of the fault,
-- and the offset of its place.
pub data IsRefusedAt (bytes : List ℕ) : ℕ → ℕ → Type 0 where
  bad_byte : {at : ℕ} → IsBadAt bytes at → IsRefusedAt bytes 10 at
  bad_token : {tokens : List Token} {e : SyntaxError} → IsTokens bytes tokens → IsSyntaxFault bytes tokens e → IsRefusedAt bytes (number_of e) (offset_of e)
  bad_sorts : {tokens : List Token} {ds : List Declaration} {number at : ℕ} → IsTokens bytes tokens → IsFile bytes tokens ds → IsFirstSortFault ds number at → IsRefusedAt bytes number at

-- the fault of the bytes: its number and its place
pub record IsFaultOf (bytes : List ℕ) (number : ℕ) (place : Place) : Type 0 where
  pub offset : ℕ
  pub refused : IsRefusedAt bytes number offset
  pub is_place : IsPlaceAfter (take offset bytes) place
