-- What a part of the parser answers: the derivations from its symbol and whatever follows are those of what
-- follows, after the tokens that it passed; or it stands where no derivation goes on.
use Rattle.std.specs.Prelude.{ℕ, ◌≡◌, ◌≤◌, ◌+◌, List, [], ◌∷◌, ◌++◌, length, Option, Some, None}
use Rattle.dai_lex.specs.declared.token.Kind.{Kind}
use Rattle.dai_lex.specs.declared.token.Token.{Token}
use Rattle.dai_syntax.specs.declared.cursor.Cursor.{Cursor}
use Rattle.dai_syntax.specs.declared.tree.Name.{Name}
use Rattle.dai_syntax.specs.declared.error.SyntaxError.{SyntaxError}
use Rattle.dai_syntax.specs.declared.error.SyntaxError.TheVariants.{Unexpected, Deep, LeftOut, Spent}
use Rattle.dai_syntax.specs.Symbols.{Symbol, Value, name_of}
use Rattle.dai_syntax.specs.Viable.{most_levels}
use Rattle.dai_syntax.specs.Grammar.{End, whole, anywhere, left_out, Setting, Derives}

-- the tokens are the front and then the hidden ones
pub data IsFront (hidden : List Token) : List Token → List Token → Type 0 where
  all_hidden : IsFront hidden [] hidden
  one_shown : {t : Token} {front tokens : List Token} → IsFront hidden front tokens → IsFront hidden (t ∷ front) (t ∷ tokens)

-- where a derivation may stop, by the tokens that are hidden from it: at the end if none is; and where a part that
-- is left out begins, if the first one is of its kind
abbrev pub MayHide : End → List Token → Type 0
MayHide whole hidden = hidden ≡ []
MayHide anywhere hidden = Unit {0}
MayHide (left_out kind) [] = ⊥
MayHide (left_out kind) (t ∷ hidden) = t.kind ≡ kind

abbrev pub setting : List ℕ → ℕ → End → Setting
setting bytes limit end = record { bytes = bytes; limit = limit; end = end }

-- the derivations of one front from one stack of symbols are those of another front from another stack
pub record Transfers (bytes : List ℕ) (hidden : List Token) (effect : List Value → List Value)
    (from : List Symbol) (front : List Token) (to : List Symbol) (shown : List Token) : Type 0 where
  pub back : (limit : ℕ) (end : End) (vs : List Value) → most_levels ≤ limit
      → Derives (setting bytes limit end) to shown vs
      → Derives (setting bytes limit end) from front (effect vs)
  pub forth : (limit : ℕ) (end : End) (ws : List Value) → most_levels ≤ limit → MayHide end hidden
      → Derives (setting bytes limit end) from front ws
      → (vs : List Value) × Derives (setting bytes limit end) to shown vs × (end ≡ whole → ws ≡ effect vs)

-- what some front of the tokens is derived by, for a front of the rest
pub record Continues (bytes : List ℕ) (from : List Symbol) (tokens : List Token) (to : List Symbol)
    (effect : List Value → List Value) (hidden shown : List Token) : Type 0 where
  pub front : List Token
  pub is_front : IsFront hidden front tokens
  pub transfers : Transfers bytes hidden effect from front to shown

-- from one stack before some tokens the derivations lead to another stack before the rest of them
pub record Leads (bytes : List ℕ) (from : List Symbol) (tokens : List Token) (to : List Symbol) (rest : List Token)
    (effect : List Value → List Value) : Type 0 where
  pub shorter : length rest ≤ length tokens
  pub continues : (hidden shown : List Token) → IsFront hidden shown rest → Continues bytes from tokens to effect hidden shown

-- the symbol was read as this value
abbrev pub ReadsTokens : List ℕ → Symbol → List Token → Value → List Token → Type 0
ReadsTokens bytes x tokens v rest = (stack : List Symbol) → Leads bytes (x ∷ stack) tokens stack rest (λ vs. v ∷ vs)

-- no derivation goes on with this token, however high the limit
abbrev pub NoneTakes : List ℕ → List Symbol → Token → Type 0
NoneTakes bytes stack t = (limit : ℕ) (vs : List Value) → most_levels ≤ limit → Derives (setting bytes limit anywhere) stack (t ∷ []) vs → ⊥

-- a part that is left out begins with this token
abbrev pub StartsLeftOut : List ℕ → List Symbol → Token → List Value → Type 0
StartsLeftOut bytes stack t vs = Derives (setting bytes most_levels (left_out t.kind)) stack [] vs

-- no derivation goes on, and the error is the one that stands for that
abbrev pub IsStuck : List ℕ → List Symbol → List Token → SyntaxError → Type 0
IsStuck bytes stack tokens Spent = Unit {0}
IsStuck bytes stack [] (Unexpected at) = (at ≡ length bytes) × ((vs : List Value) → Derives (setting bytes most_levels whole) stack [] vs → ⊥)
IsStuck bytes stack [] (Deep at) = ⊥
IsStuck bytes stack [] (LeftOut at) = ⊥
IsStuck bytes stack (t ∷ tokens) (Unexpected at) = (at ≡ t.start) × NoneTakes bytes stack t × ((vs : List Value) → StartsLeftOut bytes stack t vs → ⊥)
IsStuck bytes stack (t ∷ tokens) (LeftOut at) = (at ≡ t.start) × NoneTakes bytes stack t × StartsLeftOut bytes stack t []
IsStuck bytes stack (t ∷ tokens) (Deep at) =
    (at ≡ t.start)
    × ((vs : List Value) → Derives (setting bytes most_levels anywhere) stack (t ∷ []) vs → ⊥)
    × ((vs : List Value) × Derives (setting bytes (most_levels + 1) anywhere) stack (t ∷ []) vs)

-- the derivations lead to where none goes on
pub record Fails (bytes : List ℕ) (from : List Symbol) (tokens : List Token) (e : SyntaxError) : Type 0 where
  pub stack : List Symbol
  pub rest : List Token
  pub effect : List Value → List Value
  pub leads : Leads bytes from tokens stack rest effect
  pub stuck : IsStuck bytes stack rest e

-- the same of the parser's cursor before and after: it read the symbol as a value, it passed the symbol, or it
-- failed at it
pub record Reads (x : Symbol) (old : Cursor) (v : Value) (new : Cursor) : Type 0 where
  pub bytes : new.bytes.now ≡ old.bytes.now
  pub reads : ReadsTokens old.bytes.now x old.rest.now v new.rest.now

-- the symbol was read up to what is left of it, and this is how the value of the rest becomes its own
pub record Leaves (x : Symbol) (old : Cursor) (body : List Symbol) (new : Cursor) (effect : List Value → List Value) : Type 0 where
  pub bytes : new.bytes.now ≡ old.bytes.now
  pub leads : (stack : List Symbol) → Leads old.bytes.now (x ∷ stack) old.rest.now (body ++ stack) new.rest.now effect

pub record Passes (x : Symbol) (old new : Cursor) : Type 0 where
  pub bytes : new.bytes.now ≡ old.bytes.now
  pub reads : (stack : List Symbol) → Leads old.bytes.now (x ∷ stack) old.rest.now stack new.rest.now (λ vs. vs)

abbrev pub FailsAt : Symbol → Cursor → SyntaxError → Type 0
FailsAt x old e = (stack : List Symbol) → Fails old.bytes.now (x ∷ stack) old.rest.now e

-- the kind of the next token, if there is one
abbrev pub kind_ahead : List Token → Option Kind
kind_ahead [] = None
kind_ahead (t ∷ tokens) = Some t.kind

-- the next token was passed
pub record Steps (old : Cursor) (t : Token) (new : Cursor) : Type 0 where
  pub bytes : new.bytes.now ≡ old.bytes.now
  pub next : old.rest.now ≡ t ∷ new.rest.now

-- the next token, of this kind, was passed
pub record Takes (old : Cursor) (kind : Kind) (new : Cursor) : Type 0 where
  pub token : Token
  pub kinds : token.kind ≡ kind
  pub steps : Steps old token new

-- the next token, of this kind, was passed, and its text is the name
pub record IsWord (old : Cursor) (kind : Kind) (n : Name) (new : Cursor) : Type 0 where
  pub token : Token
  pub kinds : token.kind ≡ kind
  pub steps : Steps old token new
  pub name : n ≡ name_of old.bytes.now token

-- the place of the next token, or the end of the bytes
abbrev pub place_ahead : List ℕ → List Token → ℕ
place_ahead bytes [] = length bytes
place_ahead bytes (t ∷ tokens) = t.start
