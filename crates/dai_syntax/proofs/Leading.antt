-- Derivations step by step: a production that begins with the next token, and one that begins with no token.
use Rattle.std.proofs.Common.{ℕ, ◌≡◌, ◌≤◌, List, [], ◌∷◌, ◌++◌, refl, subst, sym, ap, ◌∙◌, arith, Some}
use Rattle.dai_lex.specs.declared.token.Kind.{Kind}
use Rattle.dai_lex.specs.declared.token.Token.{Token}
use Rattle.dai_syntax.specs.declared.error.SyntaxError.{SyntaxError}
use Rattle.dai_syntax.specs.declared.error.SyntaxError.TheVariants.{Unexpected, Deep, Spent}
use Rattle.dai_syntax.specs.Symbols.{Symbol, Value}
use Rattle.dai_syntax.specs.Values.{Effect}
use Rattle.dai_syntax.specs.Grammar.{Production, Lookahead, unless, IsNoneOf, Sees, Rewriting, no_statement, a_right_side, End, whole, anywhere, left_out, IsLeftOut, left_out_declaration, left_out_statement, left_out_right_side, MayStop, Setting, Derives, stop, take, skip}
use Rattle.dai_syntax.specs.Reading.{IsFront, all_hidden, one_shown, MayHide, setting, Leads, IsStuck, Fails, kind_ahead, place_ahead}
use Rattle.dai_syntax.proofs.Choice.{only_production, only_rewriting, not_both}

pub leads_on : {bytes : List ℕ} {stack : List Symbol} {tokens : List Token} → Leads bytes stack tokens stack tokens (λ vs. vs)
leads_on = record {
  shorter = omega arith;
  continues = λ hidden shown h. record {
    front = shown;
    is_front = h;
    transfers = record {
      back = λ limit end vs high d. d;
      forth = λ limit end ws high hide d. (ws, d, λ e. refl);
    };
  };
}

pub leads_then : {bytes : List ℕ} {a b c : List Symbol} {ts us vs : List Token} {f g : List Value → List Value} → Leads bytes a ts b us f → Leads bytes b us c vs g → Leads bytes a ts c vs (λ xs. f (g xs))
leads_then {f} {g} l m = record {
  shorter = let p = l.shorter in let q = m.shorter in omega arith;
  continues = λ hidden shown h.
      let n = m.continues hidden shown h in
      let k = l.continues hidden n.front n.is_front in
      record {
        front = k.front;
        is_front = k.is_front;
        transfers = record {
          back = λ limit end xs high d. k.transfers.back limit end (g xs) high (n.transfers.back limit end xs high d);
          forth = λ limit end ws high hide d.
              let p = k.transfers.forth limit end ws high hide d in
              let q = n.transfers.forth limit end p.0 high hide p.1 in
              (q.0, q.1, λ e. p.2 e ∙ ap f (q.2 e));
        };
      };
}

-- a derivation whose first symbol is replaced by a body
pub record Follows (s : Setting) (body stack : List Symbol) (ts : List Token) (effect : List Value → List Value) (ws : List Value) : Type 0 where
  pub values : List Value
  pub derives : Derives s (body ++ stack) ts values
  pub is : ws ≡ effect values

moved : (s : Setting) {body other : List Symbol} (stack : List Symbol) (ts : List Token) (vs : List Value) → body ≡ other → Derives s (other ++ stack) ts vs → Derives s (body ++ stack) ts vs
moved s stack ts vs e d = let P : List Symbol → Type 0 = λ b. Derives s (b ++ stack) ts vs in subst P (sym e) d

taken : {s : Setting} {x : Symbol} {body : List Symbol} (stack : List Symbol) {f : Effect} (t : Token) (ts : List Token) {ws : List Value} → Production s.bytes s.limit x t.kind body f → Derives s (x ∷ stack) (t ∷ ts) ws → Follows s body stack ts (f t) ws
taken {s} stack t ts p (take {vs} q d) =
    let same = only_production p q in
    record { values = vs; derives = moved s stack ts vs same.bodies d; is = ap (λ (g : Effect). g t vs) (sym same.effects) }
taken stack t ts p (skip r see d) = absurd (not_both t ts r see p)

-- where the next token is of this kind, by a production that begins with it
pub leads_taking : {bytes : List ℕ} {x : Symbol} {k : Kind} {body : List Symbol} {f : Effect} (stack : List Symbol) (t : Token) (from to : List Token) → from ≡ t ∷ to → t.kind ≡ k → ((limit : ℕ) → 200 ≤ limit → Production bytes limit x k body f) → Leads bytes (x ∷ stack) from (body ++ stack) to (f t)
leads_taking {bytes} {x} {body} {f} stack t from to e is production =
    let P : Kind → Type 0 = λ k. (limit : ℕ) → 200 ≤ limit → Production bytes limit x k body f in
    let p = subst P (sym is) production in
    let Q : List Token → Type 0 = λ ts. Leads bytes (x ∷ stack) ts (body ++ stack) to (f t) in
    subst Q (sym e) (record {
      shorter = omega arith;
      continues = λ hidden shown h. record {
        front = t ∷ shown;
        is_front = one_shown h;
        transfers = record {
          back = λ limit end vs high d. take (p limit high) d;
          forth = λ limit end ws high hide d.
              let r = taken stack t shown (p limit high) d in
              (r.values, r.derives, λ w. r.is);
        };
      };
    })

sees_front : {hidden front tokens : List Token} (kinds : List Kind) → Sees (unless kinds) tokens → IsFront hidden front tokens → Sees (unless kinds) front
sees_front kinds h all_hidden = tt
sees_front kinds h (one_shown f) = h

-- where a part that is left out begins, no production goes on with its token
not_left_out : {x : Symbol} {stack body : List Symbol} {kinds : List Kind} {g : List Value → List Value} {k : Kind} → Rewriting x (unless kinds) body g → IsNoneOf k kinds → IsLeftOut k (x ∷ stack) → ⊥
not_left_out r h left_out_declaration = elim r [ ]
not_left_out no_statement h left_out_statement = h.1.1.1.1.1.0 refl
not_left_out a_right_side h left_out_right_side = h.0 refl

not_hidden : {x : Symbol} {stack body : List Symbol} {kinds : List Kind} {g : List Value → List Value} (k : Kind) (hidden : List Token) → Rewriting x (unless kinds) body g → Sees (unless kinds) hidden → MayHide (left_out k) hidden → IsLeftOut k (x ∷ stack) → ⊥
not_hidden k [] r see hide l = hide
not_hidden {kinds} k (t ∷ ts) r see hide l =
    let P : Kind → Type 0 = λ k. IsNoneOf k kinds in
    not_left_out r (subst P hide see) l

stopped : (bytes : List ℕ) (limit : ℕ) (end : End) {x : Symbol} (stack : List Symbol) {body : List Symbol} {kinds : List Kind} {g : List Value → List Value} (hidden : List Token) (ws : List Value) → Rewriting x (unless kinds) body g → Sees (unless kinds) hidden → MayHide end hidden → MayStop end (x ∷ stack) ws → (vs : List Value) × Derives (setting bytes limit end) (body ++ stack) [] vs × (end ≡ whole → ws ≡ g vs)
stopped bytes limit whole stack hidden ws r see hide m = absurd m
stopped bytes limit anywhere stack hidden ws r see hide m = ([], stop tt, λ e. absurd (let n : ⊥ = cc in n))
stopped bytes limit (left_out k) stack hidden ws r see hide m = absurd (not_hidden k hidden r see hide m)

skipped : (bytes : List ℕ) (limit : ℕ) (end : End) {x : Symbol} (stack : List Symbol) {body : List Symbol} {kinds : List Kind} {g : List Value → List Value} (hidden front tokens : List Token) (ws : List Value) → Rewriting x (unless kinds) body g → Sees (unless kinds) tokens → IsFront hidden front tokens → MayHide end hidden → Derives (setting bytes limit end) (x ∷ stack) front ws → (vs : List Value) × Derives (setting bytes limit end) (body ++ stack) front vs × (end ≡ whole → ws ≡ g vs)
skipped bytes limit end stack hidden [] tokens ws r see all_hidden hide (stop m) = stopped bytes limit end stack hidden ws r see hide m
skipped bytes limit end stack hidden (t ∷ front) tokens ws r see h hide (take q d) = absurd (not_both t front r (sees_front _ see h) q)
skipped bytes limit end stack hidden front tokens ws r see h hide (skip {vs} q sees d) =
    let same = only_rewriting front r (sees_front _ see h) q sees in
    (vs, moved (setting bytes limit end) stack front vs same.bodies d, λ e. ap (λ (f : List Value → List Value). f vs) (sym same.effects))

-- by a production that begins with no token
pub leads_skipping : {bytes : List ℕ} {x : Symbol} {body : List Symbol} {kinds : List Kind} {g : List Value → List Value} (stack : List Symbol) (tokens : List Token) → Rewriting x (unless kinds) body g → Sees (unless kinds) tokens → Leads bytes (x ∷ stack) tokens (body ++ stack) tokens g
leads_skipping {bytes} {kinds} stack tokens r see = record {
  shorter = omega arith;
  continues = λ hidden shown h. record {
    front = shown;
    is_front = h;
    transfers = record {
      back = λ limit end vs high d. skip r (sees_front kinds see h) d;
      forth = λ limit end ws high hide d. skipped bytes limit end stack hidden shown tokens ws r see h hide d;
    };
  };
}

pub fails_here : {bytes : List ℕ} {stack : List Symbol} {tokens : List Token} {e : SyntaxError} → IsStuck bytes stack tokens e → Fails bytes stack tokens e
fails_here {stack} {tokens} h = record { stack = stack; rest = tokens; effect = λ vs. vs; leads = leads_on; stuck = h }

pub fails_after : {bytes : List ℕ} {a b : List Symbol} {ts us : List Token} {f : List Value → List Value} {e : SyntaxError} → Leads bytes a ts b us f → Fails bytes b us e → Fails bytes a ts e
fails_after {f} l h = record { stack = h.stack; rest = h.rest; effect = λ vs. f (h.effect vs); leads = leads_then l h.leads; stuck = h.stuck }

pub fails_spent : {bytes : List ℕ} {stack : List Symbol} {tokens : List Token} (e : SyntaxError) → e ≡ Spent → Fails bytes stack tokens e
fails_spent {bytes} {stack} {tokens} e is = let P : SyntaxError → Type 0 = λ e. Fails bytes stack tokens e in subst P (sym is) (fails_here tt)

open_ended : (bytes : List ℕ) (x : Symbol) (stack : List Symbol) → ((ahead : Lookahead) (body : List Symbol) (g : List Value → List Value) → Rewriting x ahead body g → ⊥) → (vs : List Value) → Derives (setting bytes 200 whole) (x ∷ stack) [] vs → ⊥
open_ended bytes x stack bar vs (stop m) = m
open_ended bytes x stack bar vs (skip r see d) = bar _ _ _ r

goes_no_further : (bytes : List ℕ) (limit : ℕ) (x : Symbol) (stack : List Symbol) (t : Token) → ((ahead : Lookahead) (body : List Symbol) (g : List Value → List Value) → Rewriting x ahead body g → ⊥) → ((body : List Symbol) (f : Effect) → Production bytes limit x t.kind body f → ⊥) → {vs : List Value} → Derives (setting bytes limit anywhere) (x ∷ stack) (t ∷ []) vs → ⊥
goes_no_further bytes limit x stack t bar none (take p d) = none _ _ p
goes_no_further bytes limit x stack t bar none (skip r see d) = bar _ _ _ r

no_part_begins : (bytes : List ℕ) (k : Kind) (x : Symbol) (stack : List Symbol) → ((ahead : Lookahead) (body : List Symbol) (g : List Value → List Value) → Rewriting x ahead body g → ⊥) → (IsLeftOut k (x ∷ stack) → ⊥) → (vs : List Value) → Derives (setting bytes 200 (left_out k)) (x ∷ stack) [] vs → ⊥
no_part_begins bytes k x stack bar none vs (stop m) = none m
no_part_begins bytes k x stack bar none vs (skip r see d) = bar _ _ _ r

-- a symbol of which nothing fits
pub stuck_here : {bytes : List ℕ} {x : Symbol} {stack : List Symbol} (tokens : List Token) → ((ahead : Lookahead) (body : List Symbol) (g : List Value → List Value) → Rewriting x ahead body g → ⊥) → ((t : Token) (ts : List Token) (limit : ℕ) (body : List Symbol) (f : Effect) → tokens ≡ t ∷ ts → Production bytes limit x t.kind body f → ⊥) → ((k : Kind) → IsLeftOut k (x ∷ stack) → ⊥) → IsStuck bytes (x ∷ stack) tokens (Unexpected (place_ahead bytes tokens))
stuck_here {bytes} {x} {stack} [] no_rewriting no_production no_part = (refl, open_ended bytes x stack no_rewriting)
stuck_here {bytes} {x} {stack} (t ∷ ts) no_rewriting no_production no_part = (refl, λ limit vs high. goes_no_further bytes limit x stack t no_rewriting (λ body f. no_production t ts limit body f refl), no_part_begins bytes t.kind x stack no_rewriting (no_part t.kind))

stops_at_limit : (bytes : List ℕ) {x : Symbol} (stack : List Symbol) (t : Token) {body : List Symbol} {f : Effect} → Production bytes 201 x t.kind body f → ((body : List Symbol) (f : Effect) → Production bytes 200 x t.kind body f → ⊥) → (vs : List Value) → Derives (setting bytes 200 anywhere) (x ∷ stack) (t ∷ []) vs → ⊥
stops_at_limit bytes stack t p none vs (take q d) = none _ _ q
stops_at_limit bytes stack t p none vs (skip r see d) = not_both t [] r see p

-- a symbol whose production would nest deeper than the limit
pub stuck_deep : {bytes : List ℕ} {x : Symbol} {k : Kind} {body : List Symbol} {f : Effect} (stack : List Symbol) (tokens : List Token) → kind_ahead tokens ≡ Some k → Production bytes 201 x k body f → ((body : List Symbol) (f : Effect) → Production bytes 200 x k body f → ⊥) → IsStuck bytes (x ∷ stack) tokens (Deep (place_ahead bytes tokens))
stuck_deep stack [] ahead p none = absurd (let n : ⊥ = cc in n)
stuck_deep {bytes} {x} {k} {body} {f} stack (t ∷ ts) ahead p none =
    let is : t.kind ≡ k = cc in
    let P : Kind → Type 0 = λ k. Production bytes 201 x k body f in
    let Q : Kind → Type 0 = λ k. (body : List Symbol) (f : Effect) → Production bytes 200 x k body f → ⊥ in
    let p' = subst P (sym is) p in
    (refl, stops_at_limit bytes stack t p' (subst Q (sym is) none), (f t [], take p' (stop tt)))

at_end : (bytes : List ℕ) (limit : ℕ) {x : Symbol} {stack body : List Symbol} {ts : List Token} {ws : List Value} {ahead : Lookahead} {g : List Value → List Value} → Rewriting x ahead body g → Sees ahead ts → Derives (setting bytes limit whole) (x ∷ stack) ts ws → Follows (setting bytes limit whole) body stack ts g ws
at_end bytes limit r see (stop m) = absurd m
at_end bytes limit r see (take q d) = absurd (not_both _ _ r see q)
at_end bytes limit {stack} {ts} r see (skip {vs} q sees d) =
    let same = only_rewriting _ r see q sees in
    record { values = vs; derives = moved (setting bytes limit whole) stack ts vs same.bodies d; is = ap (λ (f : List Value → List Value). f vs) (sym same.effects) }

-- whole derivations from the same symbols of the same tokens have the same values
pub one_reading : (bytes : List ℕ) (limit : ℕ) {stack : List Symbol} {ts : List Token} {vs ws : List Value} → Derives (setting bytes limit whole) stack ts vs → Derives (setting bytes limit whole) stack ts ws → vs ≡ ws
one_reading bytes limit {stack = []} (stop m) (stop n) = m ∙ sym n
one_reading bytes limit {stack = x ∷ stack} (stop m) e = absurd m
one_reading bytes limit (take {stack} {effect} {t} {ts} p d) e =
    let r = taken stack t ts p e in
    ap (effect t) (one_reading bytes limit d r.derives) ∙ sym r.is
one_reading bytes limit (skip {effect} r see d) e =
    let q = at_end bytes limit r see e in
    ap effect (one_reading bytes limit d q.derives) ∙ sym q.is
