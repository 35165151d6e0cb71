-- Fronts of viable lists are viable, so the first token that goes too far is unique.
use Rattle.std.proofs.Common.{ℕ, ◌≡◌, List, [], ◌∷◌, ◌++◌, refl, sym, subst, ap, ◌∙◌, append_assoc}
use Rattle.dai_lex.specs.declared.token.Token.{Token}
use Rattle.dai_syntax.specs.declared.error.SyntaxError.{SyntaxError}
use Rattle.dai_syntax.specs.declared.error.SyntaxError.TheVariants.{Unexpected, Deep, LeftOut, Spent}
use Rattle.dai_syntax.specs.Tree.{Declaration}
use Rattle.dai_syntax.specs.Symbols.{Symbol, Value, v_declarations}
use Rattle.dai_syntax.specs.Grammar.{Production, Lookahead, nothing, another, unless, Sees, whole, anywhere, Derives, stop, take, skip}
use Rattle.dai_syntax.specs.Reading.{setting}
use Rattle.dai_syntax.specs.Viable.{IsFile, IsViable, IsStopAt, IsRefusal, IsSyntaxFault, at_token, at_end, HaveOneVerdict}

-- what is seen depends on the next token alone
sees_next : (ahead : Lookahead) (t : Token) (ts us : List Token) → Sees ahead (t ∷ ts) → Sees ahead (t ∷ us)
sees_next nothing t ts us see = absurd see
sees_next (another kinds) t ts us see = see
sees_next (unless kinds) t ts us see = see

-- what derives the tokens derives a front of them, where it may stop anywhere
front_derives : {bytes : List ℕ} {limit : ℕ} {stack : List Symbol} {tokens : List Token} {vs : List Value} (front rest : List Token) → tokens ≡ front ++ rest → Derives (setting bytes limit anywhere) stack tokens vs → (ws : List Value) × Derives (setting bytes limit anywhere) stack front ws
front_derives [] rest e d = ([], stop tt)
front_derives (t ∷ front) rest e (stop m) = absurd (let n : ⊥ = cc in n)
front_derives {bytes} {limit} (t ∷ front) rest e (take {x} {body} {effect} {t = u} {ts} p d) =
    let heads : u ≡ t = cc in
    let tails : ts ≡ front ++ rest = cc in
    let P : Token → Type 0 = λ t. Production bytes limit x t.kind body effect in
    let r = front_derives front rest tails d in
    (effect t r.0, take (subst P heads p) r.1)
front_derives (t ∷ front) rest e (skip {ahead} {effect} r see d) =
    let P : List Token → Type 0 = λ ts. Sees ahead ts in
    let s = front_derives (t ∷ front) rest e d in
    (effect s.0, skip r (sees_next ahead t (front ++ rest) front (subst P e see)) s.1)

-- what derives a whole file may stop after it
cut_derives : {bytes : List ℕ} {limit : ℕ} {stack : List Symbol} {tokens : List Token} {vs : List Value} → Derives (setting bytes limit whole) stack tokens vs → Derives (setting bytes limit anywhere) stack tokens vs
cut_derives (stop m) = stop tt
cut_derives (take p d) = take p (cut_derives d)
cut_derives (skip r see d) = skip r see (cut_derives d)

-- fronts of viable tokens, and files, are viable
viable_front : (bytes : List ℕ) (limit : ℕ) (tokens front rest : List Token) → tokens ≡ front ++ rest → IsViable bytes limit tokens → IsViable bytes limit front
viable_front bytes limit tokens front rest e w = front_derives front rest e w.1

viable_file : (bytes : List ℕ) (tokens : List Token) (ds : List Declaration) → IsFile bytes tokens ds → IsViable bytes 200 tokens
viable_file bytes tokens ds d = (v_declarations ds ∷ [], cut_derives d)

-- of two splits of a list at a token, they are one, or one comes before the other
data TwoSplits (front : List Token) (t : Token) (other : List Token) (u : Token) : Type 0 where
  one_split : front ≡ other → t ≡ u → TwoSplits front t other u
  earlier : (between : List Token) → other ≡ (front ++ t ∷ []) ++ between → TwoSplits front t other u
  later : (between : List Token) → front ≡ (other ++ u ∷ []) ++ between → TwoSplits front t other u

one_longer : (v w : Token) (front other : List Token) (t u : Token) → v ≡ w → TwoSplits front t other u → TwoSplits (v ∷ front) t (w ∷ other) u
one_longer v w front other t u e (one_split same tokens) = one_split (cc) tokens
one_longer v w front other t u e (earlier between is) = earlier between (cc)
one_longer v w front other t u e (later between is) = later between (cc)

two_splits : (front other : List Token) (t u : Token) (rest more : List Token) → front ++ t ∷ rest ≡ other ++ u ∷ more → TwoSplits front t other u
two_splits [] [] t u rest more e = one_split refl (cc)
two_splits [] (w ∷ other) t u rest more e = earlier other (cc)
two_splits (v ∷ front) [] t u rest more e = later front (cc)
two_splits (v ∷ front) (w ∷ other) t u rest more e =
    let tails : front ++ t ∷ rest ≡ other ++ u ∷ more = cc in
    one_longer v w front other t u (cc) (two_splits front other t u rest more tails)

-- a token has one refusal
one_refusal : (bytes : List ℕ) (front : List Token) (t : Token) (e other : SyntaxError) → IsRefusal bytes front t e → IsRefusal bytes front t other → e ≡ other
one_refusal bytes front t Spent other r s = absurd r
one_refusal bytes front t (Unexpected at) Spent r s = absurd s
one_refusal bytes front t (Unexpected at) (Unexpected place) r s = ap Unexpected (r.0 ∙ sym s.0)
one_refusal bytes front t (Unexpected at) (Deep place) r s = absurd (r.1 s.1)
one_refusal bytes front t (Unexpected at) (LeftOut place) r s = absurd (r.2 s.2)
one_refusal bytes front t (Deep at) Spent r s = absurd s
one_refusal bytes front t (Deep at) (Unexpected place) r s = absurd (s.1 r.1)
one_refusal bytes front t (Deep at) (Deep place) r s = ap Deep (r.0 ∙ sym s.0)
one_refusal bytes front t (Deep at) (LeftOut place) r s = absurd (s.1 r.1)
one_refusal bytes front t (LeftOut at) Spent r s = absurd s
one_refusal bytes front t (LeftOut at) (Unexpected place) r s = absurd (s.2 r.2)
one_refusal bytes front t (LeftOut at) (Deep place) r s = absurd (r.1 s.1)
one_refusal bytes front t (LeftOut at) (LeftOut place) r s = ap LeftOut (r.0 ∙ sym s.0)

-- where one stop comes before the other, it is in a viable front
one_at_token : (bytes : List ℕ) (tokens front other rest more : List Token) (t u : Token) (e f : SyntaxError) → IsStopAt bytes tokens front t rest → IsStopAt bytes tokens other u more → IsRefusal bytes front t e → IsRefusal bytes other u f → TwoSplits front t other u → e ≡ f
one_at_token bytes tokens front other rest more t u e f here there r s (one_split same tokens_are) =
    let P : List Token → Type 0 = λ ts. IsRefusal bytes ts t e in
    let Q : Token → Type 0 = λ t. IsRefusal bytes other t e in
    one_refusal bytes other u e f (subst Q tokens_are (subst P same r)) s
one_at_token bytes tokens front other rest more t u e f here there r s (earlier between is) = absurd (here.beyond (viable_front bytes 200 other (front ++ t ∷ []) between is there.before))
one_at_token bytes tokens front other rest more t u e f here there r s (later between is) = absurd (there.beyond (viable_front bytes 200 front (other ++ u ∷ []) between is here.before))

-- a token that goes too far is not in viable tokens
not_in_viable : (bytes : List ℕ) (tokens front rest : List Token) (t : Token) → IsStopAt bytes tokens front t rest → IsViable bytes 200 tokens → ⊥
not_in_viable bytes tokens front rest t here w = here.beyond (viable_front bytes 200 tokens (front ++ t ∷ []) rest (here.split ∙ sym (append_assoc front (t ∷ []) rest)) w)

-- tokens have one fault at most, and none where they are a file
one_fault : {bytes : List ℕ} {tokens : List Token} {e other : SyntaxError} → IsSyntaxFault bytes tokens e → IsSyntaxFault bytes tokens other → e ≡ other
one_fault {bytes} {tokens} {e} {other = f} (at_token front rest t here r) (at_token other more u there s) = one_at_token bytes tokens front other rest more t u e f here there r s (two_splits front other t u rest more (sym here.split ∙ there.split))
one_fault {bytes} {tokens} (at_token front rest t here r) (at_end is end) = absurd (not_in_viable bytes tokens front rest t here end.before)
one_fault {bytes} {tokens} (at_end is end) (at_token front rest t here r) = absurd (not_in_viable bytes tokens front rest t here end.before)
one_fault (at_end is end) (at_end are there) = ap Unexpected (is ∙ sym are)

no_fault : {bytes : List ℕ} {tokens : List Token} {e : SyntaxError} (ds : List Declaration) → IsFile bytes tokens ds → IsSyntaxFault bytes tokens e → ⊥
no_fault {bytes} {tokens} ds d (at_token front rest t here r) = not_in_viable bytes tokens front rest t here (viable_file bytes tokens ds d)
no_fault ds d (at_end is end) = end.open_ended ds d

pub one_verdict : (bytes : List ℕ) (tokens : List Token) → HaveOneVerdict bytes tokens
one_verdict bytes tokens = record {
  fault = λ e other f g. one_fault f g;
  apart = λ ds e d f. no_fault ds d f;
}
