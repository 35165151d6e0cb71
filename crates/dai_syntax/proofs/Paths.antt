-- The parser's way through the derivations, from cursor to cursor.
use Rattle.std.proofs.Common.{ℕ, ◌≡◌, ◌≤◌, List, [], ◌∷◌, ◌++◌, refl, subst, sym, ap, ◌∙◌, ◌<◌, length, append_assoc, arith, Result, Ok, Err}
use Rattle.std.specs.Result.{IfErr, IsErrAnd}
use Rattle.dai_lex.specs.declared.token.Kind.{Kind}
use Rattle.dai_lex.specs.declared.token.Token.{Token}
use Rattle.dai_syntax.specs.declared.cursor.Cursor.{Cursor}
use Rattle.dai_syntax.specs.declared.tree.Name.{Name}
use Rattle.dai_syntax.specs.declared.error.SyntaxError.{SyntaxError}
use Rattle.dai_syntax.specs.declared.error.SyntaxError.TheVariants.{Spent}
use Rattle.dai_syntax.specs.Symbols.{Symbol, Value}
use Rattle.dai_syntax.specs.Values.{Effect}
use Rattle.dai_syntax.specs.Grammar.{Production, unless, Sees, Rewriting}
use Rattle.dai_syntax.specs.Reading.{Leads, ReadsTokens, Reads, Leaves, Passes, Steps, Takes, IsWord, IsStuck, Fails, FailsAt, place_ahead}
use Rattle.dai_syntax.proofs.Leading.{leads_on, leads_then, leads_taking, leads_skipping, fails_here, fails_after, fails_spent}

-- the derivations led to these symbols before the rest at the cursor
pub record Path (bytes : List ℕ) (from : List Symbol) (tokens : List Token) (to : List Symbol) (at : Cursor) (effect : List Value → List Value) : Type 0 where
  pub bytes_are : at.bytes.now ≡ bytes
  pub leads : Leads bytes from tokens to at.rest.now effect

pub begins : (at : Cursor) {stack : List Symbol} → Path at.bytes.now stack at.rest.now stack at (λ vs. vs)
begins at = record { bytes_are = refl; leads = leads_on }

pub takes : {bytes : List ℕ} {from : List Symbol} {tokens : List Token} {x : Symbol} {to body : List Symbol} {at now : Cursor} {effect : List Value → List Value} {k : Kind} {t : Token} {f : Effect} → Path bytes from tokens (x ∷ to) at effect → Steps at t now → t.kind ≡ k → ((limit : ℕ) → 200 ≤ limit → Production bytes limit x k body f) → Path bytes from tokens (body ++ to) now (λ vs. effect (f t vs))
takes {to} {at} {now} {t} p steps is production = record {
  bytes_are = steps.bytes ∙ p.bytes_are;
  leads = leads_then p.leads (leads_taking to t at.rest.now now.rest.now steps.next is production);
}

pub skips : {bytes : List ℕ} {from : List Symbol} {tokens : List Token} {x : Symbol} {to body : List Symbol} {at : Cursor} {effect : List Value → List Value} {kinds : List Kind} {g : List Value → List Value} → Path bytes from tokens (x ∷ to) at effect → Rewriting x (unless kinds) body g → Sees (unless kinds) at.rest.now → Path bytes from tokens (body ++ to) at (λ vs. effect (g vs))
skips {to} {at} p r see = record { bytes_are = p.bytes_are; leads = leads_then p.leads (leads_skipping to at.rest.now r see) }

pub reads : {bytes : List ℕ} {from : List Symbol} {tokens : List Token} {x : Symbol} {to : List Symbol} {at now : Cursor} {effect : List Value → List Value} {v : Value} → Path bytes from tokens (x ∷ to) at effect → Reads x at v now → Path bytes from tokens to now (λ vs. effect (v ∷ vs))
reads {x} {to} {at} {now} {v} p r = record {
  bytes_are = r.bytes ∙ p.bytes_are;
  leads = leads_then p.leads (let P : List ℕ → Type 0 = λ bytes. ReadsTokens bytes x at.rest.now v now.rest.now in (subst P p.bytes_are r.reads) to);
}

pub passes : {bytes : List ℕ} {from : List Symbol} {tokens : List Token} {x : Symbol} {to : List Symbol} {at now : Cursor} {effect : List Value → List Value} → Path bytes from tokens (x ∷ to) at effect → Passes x at now → Path bytes from tokens to now effect
passes {x} {to} {at} {now} p r = record {
  bytes_are = r.bytes ∙ p.bytes_are;
  leads = leads_then p.leads (let P : List ℕ → Type 0 = λ bytes. (stack : List Symbol) → Leads bytes (x ∷ stack) at.rest.now stack now.rest.now (λ vs. vs) in (subst P p.bytes_are r.reads) to);
}

-- a whole way through a symbol
pub reads_whole : {x : Symbol} {old now : Cursor} {v : Value} → ((stack : List Symbol) → Path old.bytes.now (x ∷ stack) old.rest.now stack now (λ vs. v ∷ vs)) → Reads x old v now
reads_whole p = record { bytes = (p []).bytes_are; reads = λ stack. (p stack).leads }

pub fails : {bytes : List ℕ} {from : List Symbol} {tokens : List Token} {x : Symbol} {to : List Symbol} {at : Cursor} {effect : List Value → List Value} {e : SyntaxError} → Path bytes from tokens (x ∷ to) at effect → FailsAt x at e → Fails bytes from tokens e
fails {x} {to} {at} {e} p h = fails_after p.leads (let P : List ℕ → Type 0 = λ bytes. (stack : List Symbol) → Fails bytes (x ∷ stack) at.rest.now e in (subst P p.bytes_are h) to)

pub is_stuck : {bytes : List ℕ} {from : List Symbol} {tokens : List Token} {to : List Symbol} {at : Cursor} {effect : List Value → List Value} (e : SyntaxError) (of_place : ℕ → SyntaxError) → Path bytes from tokens to at effect → e ≡ of_place (place_ahead at.bytes.now at.rest.now) → IsStuck bytes to at.rest.now (of_place (place_ahead bytes at.rest.now)) → Fails bytes from tokens e
is_stuck {bytes} {to} {at} e of_place p is stuck =
    let P : List ℕ → Type 0 = λ b. e ≡ of_place (place_ahead b at.rest.now) in
    let Q : SyntaxError → Type 0 = λ d. IsStuck bytes to at.rest.now d in
    fails_after p.leads (fails_here (subst Q (sym (subst P p.bytes_are is)) stuck))

-- want of memory, as what a call answers
pub spent_result : {A : Type 0} (x : Symbol) (old : Cursor) (r : Result A SyntaxError) → IsErrAnd r (λ e. e ≡ Spent) → IfErr r (λ e. FailsAt x old e)
spent_result x old (Ok v) h = tt
spent_result x old (Err e) h = λ stack. fails_spent e h

-- the error of a call, passed on
pub failed_result : {A : Type 0} (x : Symbol) (old : Cursor) (r : Result A SyntaxError) (d : SyntaxError) → IsErrAnd r (λ e. e ≡ d) → ((stack : List Symbol) → Fails old.bytes.now (x ∷ stack) old.rest.now d) → IfErr r (λ e. FailsAt x old e)
failed_result x old (Ok v) d h f = tt
failed_result x old (Err e) d h f = λ stack. let P : SyntaxError → Type 0 = λ e. Fails old.bytes.now (x ∷ stack) old.rest.now e in subst P (sym h) (f stack)

pub leaves_whole : {x : Symbol} {body : List Symbol} {old now : Cursor} {effect : List Value → List Value} → ((stack : List Symbol) → Path old.bytes.now (x ∷ stack) old.rest.now (body ++ stack) now effect) → Leaves x old body now effect
leaves_whole p = record { bytes = (p []).bytes_are; leads = λ stack. (p stack).leads }

pub leaves : {bytes : List ℕ} {from : List Symbol} {tokens : List Token} {x : Symbol} {to body : List Symbol} {at now : Cursor} {effect f : List Value → List Value} → Path bytes from tokens (x ∷ to) at effect → Leaves x at body now f → Path bytes from tokens (body ++ to) now (λ vs. effect (f vs))
leaves {x} {to} {body} {at} {now} {f} p r = record {
  bytes_are = r.bytes ∙ p.bytes_are;
  leads = leads_then p.leads (let P : List ℕ → Type 0 = λ bytes. (stack : List Symbol) → Leads bytes (x ∷ stack) at.rest.now (body ++ stack) now.rest.now f in (subst P p.bytes_are r.leads) to);
}

-- a token that was passed, as a word
pub takes_word : {bytes : List ℕ} {from : List Symbol} {tokens : List Token} {x : Symbol} {to body : List Symbol} {at now : Cursor} {effect : List Value → List Value} {k : Kind} {n : Name} {f : Effect} → Path bytes from tokens (x ∷ to) at effect → (w : IsWord at k n now) → ((limit : ℕ) → 200 ≤ limit → Production bytes limit x k body f) → Path bytes from tokens (body ++ to) now (λ vs. effect (f w.token vs))
takes_word p w production = takes p w.steps w.kinds production

-- where nothing was passed, a cursor is the one before
pub refused : {bytes : List ℕ} {from : List Symbol} {tokens : List Token} {to : List Symbol} (at now : Cursor) {effect : List Value → List Value} (e : SyntaxError) (of_place : ℕ → SyntaxError) → Path bytes from tokens to at effect → now ≡ at → e ≡ of_place (place_ahead now.bytes.now now.rest.now) → IsStuck bytes to at.rest.now (of_place (place_ahead bytes at.rest.now)) → Fails bytes from tokens e
refused at now e of_place p same is stuck =
    let P : Cursor → Type 0 = λ now. e ≡ of_place (place_ahead now.bytes.now now.rest.now) in
    is_stuck e of_place p (subst P same is) stuck

pub with_effect : {bytes : List ℕ} {from : List Symbol} {tokens : List Token} {to : List Symbol} {at : Cursor} {f g : List Value → List Value} → Path bytes from tokens to at f → ((vs : List Value) → f vs ≡ g vs) → Path bytes from tokens to at g
with_effect {bytes} {from} {tokens} {to} {at} {f} {g} p e =
    let P : (List Value → List Value) → Type 0 = λ h. Path bytes from tokens to at h in
    let same : f ≡ g = λ i vs. e vs i in
    subst P same p

-- where nothing was passed
pub at_same : {bytes : List ℕ} {from : List Symbol} {tokens : List Token} {to : List Symbol} {at now : Cursor} {f : List Value → List Value} → Path bytes from tokens to at f → now ≡ at → Path bytes from tokens to now f
at_same {bytes} {from} {tokens} {to} {f} p e = let P : Cursor → Type 0 = λ now. Path bytes from tokens to now f in subst P (sym e) p

pub takes_kind : {bytes : List ℕ} {from : List Symbol} {tokens : List Token} {x : Symbol} {to body : List Symbol} {at now : Cursor} {effect : List Value → List Value} {k : Kind} {f : Effect} → Path bytes from tokens (x ∷ to) at effect → (w : Takes at k now) → ((limit : ℕ) → 200 ≤ limit → Production bytes limit x k body f) → Path bytes from tokens (body ++ to) now (λ vs. effect (f w.token vs))
takes_kind p w production = takes p w.steps w.kinds production

pub passes_whole : {x : Symbol} {old now : Cursor} → ((stack : List Symbol) → Path old.bytes.now (x ∷ stack) old.rest.now stack now (λ vs. vs)) → Passes x old now
passes_whole p = record { bytes = (p []).bytes_are; reads = λ stack. (p stack).leads }

pub falls : {x : Symbol} {v : Value} {k : Kind} {at mid now : Cursor} → Takes at k mid → Reads x mid v now → length now.rest.now < length at.rest.now
falls w r = let p = (r.reads []).shorter in let q = ap length w.steps.next in omega arith

-- one more element, before those that follow
pub grown : {A : Type 0} (items now more : List A) (x : A) → now ≡ items ++ x ∷ [] → items ++ (x ∷ more) ≡ now ++ more
grown items now more x e = sym (append_assoc items (x ∷ []) more) ∙ ap (λ ys. ys ++ more) (sym e)

pub ended : {A : Type 0} (items : List A) → items ++ [] ≡ items
ended [] = refl
ended (x ∷ xs) = ap (λ ys. x ∷ ys) (ended xs)
