-- Bytes have one refusal at most, and none where they are a protocol.
use Rattle.std.proofs.Common.{ℕ, ◌≡◌, ◌<◌, inl, inr, List, length, take, refl, sym, ◌∙◌, subst, ap, arith, Result, Ok, Err, ⊎_elim}
use Rattle.dai_base.specs.Place.{IsPlaceAfter}
use Rattle.dai_base.specs.declared.fault.Place.{Place}
use Rattle.dai_lex.specs.declared.token.Token.{Token}
use Rattle.dai_lex.specs.Errors.{IsFault}
use Rattle.dai_lex.specs.declared.token.LexError.{LexError}
use Rattle.dai_lex.specs.declared.token.LexError.TheVariants as Lex
use Rattle.dai_sorts.specs.declared.error.SortError.{SortError}
use Rattle.dai_sorts.specs.declared.error.SortError.TheVariants as Sorts
use Rattle.dai_lex.specs.Tokens.{IsTokens, HaveOneReading}
use Rattle.dai_syntax.specs.declared.error.SyntaxError.{SyntaxError}
use Rattle.dai_syntax.specs.declared.error.SyntaxError.TheVariants as Syntax
use Rattle.dai_syntax.specs.Tree.{Declaration}
use Rattle.dai_syntax.specs.Viable.{IsFile, IsSyntaxFault, IsSyntaxError, HaveOneVerdict}
use Rattle.dai_model.specs.Protocol.{Protocol}
use Rattle.dai_rules.specs.Faults.{ComesFirst, IsFirstSortFault, IsFaultless}
use Rattle.dai_rules.specs.Sites.{Site}
use Rattle.dai_rules.specs.Rules.{Breaks, breaks_21, breaks_22, breaks_23, breaks_24, two_types, breaks_25, breaks_26, unordered, breaks_27, breaks_28, breaks_29, breaks_30, breaks_31, breaks_42}
use Rattle.dai_base.specs.Fault.{IsInTable}
use Rattle.dai_sorts.specs.Errors.{IsTrueFault}
use Rattle.dai_sorts.specs.Protocols.{IsProtocolOf}
use Rattle.dai_front.specs.Files.{number_of, offset_of, IsProtocolIn, IsRefusedAt, bad_byte, bad_token, bad_sorts, IsFaultOf}
use Rattle.dai_front.specs.Refusals.{byte_stop, token_stop, sort_stop, IsStop}

abbrev pub OneReading : Type 0
OneReading = (bytes : List ℕ) → HaveOneReading bytes

abbrev pub OneVerdict : Type 0
OneVerdict = (bytes : List ℕ) (tokens : List Token) → HaveOneVerdict bytes tokens

abbrev pub OneFile : Type 0
OneFile = (bytes : List ℕ) (tokens : List Token) (some others : List Declaration) → IsFile bytes tokens some → IsFile bytes tokens others → some ≡ others

same_tokens : OneReading → (bytes : List ℕ) (tokens others : List Token) → IsTokens bytes tokens → IsTokens bytes others → tokens ≡ others
same_tokens law bytes tokens others h k = (law bytes).tokens tokens others h k

fault_moves : (bytes : List ℕ) (tokens others : List Token) (e : SyntaxError) → tokens ≡ others → IsSyntaxFault bytes others e → IsSyntaxFault bytes tokens e
fault_moves bytes tokens others e same f = let P : List Token → Type 0 = λ ts. IsSyntaxFault bytes ts e in subst P (sym same) f

file_moves : (bytes : List ℕ) (tokens others : List Token) (ds : List Declaration) → tokens ≡ others → IsFile bytes others ds → IsFile bytes tokens ds
file_moves bytes tokens others ds same f = let P : List Token → Type 0 = λ ts. IsFile bytes ts ds in subst P (sym same) f

-- two files of the same bytes
same_file : OneReading → OneFile → (bytes : List ℕ) (tokens others : List Token) (ds es : List Declaration) → IsTokens bytes tokens → IsTokens bytes others → IsFile bytes tokens ds → IsFile bytes others es → ds ≡ es
same_file law one bytes tokens others ds es h k file other = one bytes tokens ds es file (file_moves bytes tokens others es (same_tokens law bytes tokens others h k) other)

-- two first faults of one file
first_is_one : (number at other place : ℕ) → ComesFirst number at other place → ComesFirst other place number at → (number ≡ other) × (at ≡ place)
first_is_one number at other place p q =
    ⊎_elim
    (λ a. ⊎_elim (λ b. absurd (omega (arith, a, b))) (λ b. let e = b.0 in absurd (omega (arith, a, e))) q)
    (λ a. let d = a.0 in ⊎_elim (λ b. absurd (omega (arith, d, b))) (λ b. let x = a.1 in let y = b.1 in (omega (arith, x, y), d)) q)
    p

same_sort_fault : (ds es : List Declaration) (number at other place : ℕ) → ds ≡ es → IsFirstSortFault ds number at → IsFirstSortFault es other place → (number ≡ other) × (at ≡ place)
same_sort_fault ds es number at other place same h k =
    let m = subst (λ d. IsFirstSortFault d other place) (sym same) k in
    first_is_one number at other place (h.first other place m.fault) (m.first number at h.fault)

accepted_bytes : OneReading → OneVerdict → OneFile → (bytes : List ℕ) (tokens : List Token) (ds : List Declaration) → IsTokens bytes tokens → IsFile bytes tokens ds → IsFaultless ds → (number at : ℕ) → IsRefusedAt bytes number at → ⊥
accepted_bytes law verdict one bytes tokens ds h file rules number at (bad_byte b) = (law bytes).apart tokens at h b
accepted_bytes law verdict one bytes tokens ds h file rules number at (bad_token {tokens = others} {e} k f) =
    (verdict bytes tokens).apart ds e file (fault_moves bytes tokens others e (same_tokens law bytes tokens others h k) f)
accepted_bytes law verdict one bytes tokens ds h file rules number at (bad_sorts {tokens = others} {ds = es} k other f) =
    rules number at (subst (λ d. IsFirstSortFault d number at) (sym (same_file law one bytes tokens others ds es h k file other)) f).fault

-- two refusals of the same bytes
same_refusal : OneReading → OneVerdict → OneFile → (bytes : List ℕ) (n a m b : ℕ) → IsRefusedAt bytes n a → IsRefusedAt bytes m b → (n ≡ m) × (a ≡ b)
same_refusal law verdict one bytes n a m b (bad_byte p) (bad_byte q) = (refl, (law bytes).place a b p q)
same_refusal law verdict one bytes n a m b (bad_byte p) (bad_token {tokens} h f) = absurd ((law bytes).apart tokens a h p)
same_refusal law verdict one bytes n a m b (bad_byte p) (bad_sorts {tokens} h file f) = absurd ((law bytes).apart tokens a h p)
same_refusal law verdict one bytes n a m b (bad_token {tokens} h f) (bad_byte q) = absurd ((law bytes).apart tokens b h q)
same_refusal law verdict one bytes n a m b (bad_token {tokens} {e} h f) (bad_token {tokens = others} {e = d} k g) =
    let same = (verdict bytes tokens).fault e d f (fault_moves bytes tokens others d (same_tokens law bytes tokens others h k) g) in
    (ap number_of same, ap offset_of same)
same_refusal law verdict one bytes n a m b (bad_token {tokens} {e} h f) (bad_sorts {tokens = others} {ds} k file g) =
    absurd ((verdict bytes tokens).apart ds e (file_moves bytes tokens others ds (same_tokens law bytes tokens others h k) file) f)
same_refusal law verdict one bytes n a m b (bad_sorts {tokens} h file f) (bad_byte q) = absurd ((law bytes).apart tokens b h q)
same_refusal law verdict one bytes n a m b (bad_sorts {tokens} {ds} h file f) (bad_token {tokens = others} {e} k g) =
    absurd ((verdict bytes tokens).apart ds e file (fault_moves bytes tokens others e (same_tokens law bytes tokens others h k) g))
same_refusal law verdict one bytes n a m b (bad_sorts {tokens} {ds} h file f) (bad_sorts {tokens = others} {ds = es} k other g) =
    same_sort_fault ds es n a m b (same_file law one bytes tokens others ds es h k file other) f g

same_place : (before : List ℕ) (p q : Place) → IsPlaceAfter before p → IsPlaceAfter before q → p ≡ q
same_place before p q h k = λ i. record { line = (h.line ∙ sym k.line) i; column = (h.column ∙ sym k.column) i }

-- two faults of the same bytes
pub same_fault : OneReading → OneVerdict → OneFile → (bytes : List ℕ) (n m : ℕ) (p q : Place) → IsFaultOf bytes n p → IsFaultOf bytes m q → (n ≡ m) × (p ≡ q)
same_fault law verdict one bytes n m p q f g =
    let r = same_refusal law verdict one bytes n f.offset m g.offset f.refused g.refused in
    let P : ℕ → Type 0 = λ a. IsPlaceAfter (take a bytes) p in
    (r.0, same_place (take g.offset bytes) p q (subst P r.1 f.is_place) g.is_place)

refused_token : (bytes : List ℕ) (tokens : List Token) (e : SyntaxError) → IsTokens bytes tokens → (e ≡ Syntax.Spent → ⊥) → IsSyntaxError bytes tokens e → IsRefusedAt bytes (number_of e) (offset_of e)
refused_token bytes tokens e h not_spent (inl spent) = absurd (not_spent spent)
refused_token bytes tokens e h not_spent (inr f) = bad_token h f

-- the number of a rule is one of the table
rule_listed : (s : Site) (number at : ℕ) → Breaks s number at → IsInTable number
rule_listed s number at (breaks_21 e h) = subst IsInTable (sym e) refl
rule_listed s number at (breaks_22 e h) = subst IsInTable (sym e) refl
rule_listed s number at (breaks_23 e h) = subst IsInTable (sym e) refl
rule_listed s number at (breaks_24 e h) = subst IsInTable (sym e) refl
rule_listed s number at (two_types e h) = subst IsInTable (sym e) refl
rule_listed s number at (breaks_25 e h) = subst IsInTable (sym e) refl
rule_listed s number at (breaks_26 e h) = subst IsInTable (sym e) refl
rule_listed s number at (unordered e h) = subst IsInTable (sym e) refl
rule_listed s number at (breaks_27 e h) = subst IsInTable (sym e) refl
rule_listed s number at (breaks_28 e h) = subst IsInTable (sym e) refl
rule_listed s number at (breaks_29 e h) = subst IsInTable (sym e) refl
rule_listed s number at (breaks_30 e h) = subst IsInTable (sym e) refl
rule_listed s number at (breaks_31 e h) = subst IsInTable (sym e) refl
rule_listed s number at (breaks_42 e h) = subst IsInTable (sym e) refl

pub token_stopped : (bytes : List ℕ) (tokens : List Token) (e : SyntaxError) → IsTokens bytes tokens → IsSyntaxError bytes tokens e → IsStop bytes (token_stop e)
token_stopped bytes tokens (Syntax.Unexpected at) h f = record { refused = refused_token bytes tokens (Syntax.Unexpected at) h (λ e. let n : ⊥ = cc in n) f; listed = refl }
token_stopped bytes tokens (Syntax.Deep at) h f = record { refused = refused_token bytes tokens (Syntax.Deep at) h (λ e. let n : ⊥ = cc in n) f; listed = refl }
token_stopped bytes tokens (Syntax.LeftOut at) h f = record { refused = refused_token bytes tokens (Syntax.LeftOut at) h (λ e. let n : ⊥ = cc in n) f; listed = refl }
token_stopped bytes tokens Syntax.Spent h f = tt

pub byte_stopped : (bytes : List ℕ) (e : LexError) → IsFault bytes e → IsStop bytes (byte_stop e)
byte_stopped bytes (Lex.Bad at) h = record { refused = bad_byte h.0; listed = refl }
byte_stopped bytes Lex.Spent h = tt

pub sort_stopped : (bytes : List ℕ) (tokens : List Token) (ds : List Declaration) (e : SortError) → IsTokens bytes tokens → IsFile bytes tokens ds → IsTrueFault ds e → IsStop bytes (sort_stop e)
sort_stopped bytes tokens ds (Sorts.Bad number at) h file f = record { refused = bad_sorts h file f; listed = rule_listed f.fault.site number at f.fault.breaks }
sort_stopped bytes tokens ds Sorts.Spent h file f = tt

pub never_both : OneReading → OneVerdict → OneFile → (bytes : List ℕ) (P : Protocol) (n : ℕ) (p : Place) → IsProtocolIn bytes P → IsFaultOf bytes n p → ⊥
never_both law verdict one bytes P n p i f = accepted_bytes law verdict one bytes i.tokens i.declarations i.are_tokens i.is_file i.faultless n f.offset f.refused

abbrev pub OneProtocol : Type 0
OneProtocol = (ds : List Declaration) (P Q : Protocol) → IsFaultless ds → IsProtocolOf ds P → IsProtocolOf ds Q → P ≡ Q

pub same_protocol : OneReading → OneFile → OneProtocol → (bytes : List ℕ) (P Q : Protocol) → IsProtocolIn bytes P → IsProtocolIn bytes Q → P ≡ Q
same_protocol law one single bytes P Q i j =
    let same = same_file law one bytes i.tokens j.tokens i.declarations j.declarations i.are_tokens j.are_tokens i.is_file j.is_file in
    single i.declarations P Q i.faultless i.protocol (subst (λ d. IsProtocolOf d Q) (sym same) j.protocol)
