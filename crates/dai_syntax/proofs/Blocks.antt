-- Statements one after another, and where a part that is left out begins.
use Rattle.std.proofs.Common.{ℕ, ◌≡◌, ◌<◌, ◌⊎◌, inl, inr, List, [], ◌∷◌, ◌++◌, length, refl, sym, ◌∙◌, subst, ap, arith, Option, Some, None}
use Rattle.dai_lex.specs.declared.token.Kind.{Kind}
use Rattle.dai_lex.specs.declared.token.Kind.TheVariants as K
use Rattle.dai_lex.specs.declared.token.Token.{Token}
use Rattle.dai_syntax.specs.declared.cursor.Cursor.{Cursor}
use Rattle.dai_syntax.specs.declared.tree.Stat.{Stat}
use Rattle.dai_syntax.specs.declared.error.SyntaxError.TheVariants.{LeftOut}
use Rattle.dai_syntax.specs.Tree as Tree
use Rattle.dai_syntax.specs.Trees.{statement_of, statements_of}
use Rattle.dai_syntax.specs.Symbols.{Symbol, Value, formula, statements, after_statement, after_block, right_side, v_statements, the_formula, the_statements, part1, part2, after2}
use Rattle.dai_syntax.specs.Values.{Effect}
use Rattle.dai_syntax.specs.Grammar.{Production, a_requirement, an_assumption, an_assignment, a_conditional, some_locals, a_semicolon, a_free_semicolon, a_right_side, no_statement, no_semicolon, last_statement, unless, Sees, Derives, stop, take, skip, anywhere, left_out, left_out_statement, left_out_right_side}
use Rattle.dai_syntax.specs.Reading.{setting, IsStuck, Leaves, Steps, Takes, kind_ahead, place_ahead}
use Rattle.dai_syntax.specs.Effects.{follows, statement_effect, ReadsStatement, IsStatement}
use Rattle.dai_syntax.proofs.Stuck.{sees_none}
use Rattle.dai_syntax.proofs.Paths.{Path, begins, takes_kind, skips, leaves, at_same, with_effect}
use Rattle.dai_syntax.proofs.Rows.{followed, followed_none, followed_more}

pub by_requirement : {bytes : List ℕ} {limit : ℕ} {depth : ℕ} (word : Kind) → (word ≡ K.WordRequire) ⊎ (word ≡ K.WordAssume) → Production bytes limit (statements depth) word (formula depth ∷ after_statement depth ∷ []) (λ t vs. v_statements (Tree.with_statement (Tree.requirement (the_formula (part1 vs))) (the_statements (part2 vs))) ∷ after2 vs)
by_requirement {bytes} {limit} {depth} word (inl e) = let P : Kind → Type 0 = λ k. Production bytes limit (statements depth) k (formula depth ∷ after_statement depth ∷ []) (λ t vs. v_statements (Tree.with_statement (Tree.requirement (the_formula (part1 vs))) (the_statements (part2 vs))) ∷ after2 vs) in subst P (sym e) a_requirement
by_requirement {bytes} {limit} {depth} word (inr e) = let P : Kind → Type 0 = λ k. Production bytes limit (statements depth) k (formula depth ∷ after_statement depth ∷ []) (λ t vs. v_statements (Tree.with_statement (Tree.requirement (the_formula (part1 vs))) (the_statements (part2 vs))) ∷ after2 vs) in subst P (sym e) an_assumption

no_statement_left_out : {bytes : List ℕ} {limit depth : ℕ} {k : Kind} {body : List Symbol} {f : Effect} → Production bytes limit (statements depth) k body f → k ≡ K.LeftOut → ⊥
no_statement_left_out a_requirement e = cc
no_statement_left_out an_assumption e = cc
no_statement_left_out an_assignment e = cc
no_statement_left_out (a_conditional lt) e = cc
no_statement_left_out (some_locals lt) e = cc

no_more_statements : (bytes : List ℕ) (limit depth : ℕ) (stack : List Symbol) (t : Token) (vs : List Value) → t.kind ≡ K.LeftOut → Derives (setting bytes limit anywhere) (statements depth ∷ stack) (t ∷ []) vs → ⊥
no_more_statements bytes limit depth stack t vs e (take p d) = no_statement_left_out p e
no_more_statements bytes limit depth stack t vs e (skip no_statement see d) = see.1.1.1.1.1.0 e

pub left_out_at_statement : (bytes : List ℕ) (depth : ℕ) (stack : List Symbol) (tokens : List Token) → kind_ahead tokens ≡ Some K.LeftOut → IsStuck bytes (statements depth ∷ stack) tokens (LeftOut (place_ahead bytes tokens))
left_out_at_statement bytes depth stack [] e = absurd (let n : ⊥ = cc in n)
left_out_at_statement bytes depth stack (t ∷ ts) e =
    let is : t.kind ≡ K.LeftOut = cc in
    let P : Kind → Type 0 = λ k. Derives (setting bytes 200 (left_out k)) (statements depth ∷ stack) [] [] in
    (refl, λ limit vs high d. no_more_statements bytes limit depth stack t vs is d, subst P (sym is) (stop left_out_statement))

no_right_side : {bytes : List ℕ} {limit depth : ℕ} {k : Kind} {body : List Symbol} {f : Effect} → Production bytes limit (right_side depth) k body f → ⊥
no_right_side p = elim p [ ]

no_more_formula : (bytes : List ℕ) (limit depth : ℕ) (stack : List Symbol) (t : Token) (vs : List Value) → t.kind ≡ K.Asterisk → Derives (setting bytes limit anywhere) (right_side depth ∷ stack) (t ∷ []) vs → ⊥
no_more_formula bytes limit depth stack t vs e (take p d) = no_right_side p
no_more_formula bytes limit depth stack t vs e (skip a_right_side see d) = see.0 e

pub left_out_at_right_side : (bytes : List ℕ) (depth : ℕ) (stack : List Symbol) (tokens : List Token) → kind_ahead tokens ≡ Some K.Asterisk → IsStuck bytes (right_side depth ∷ stack) tokens (LeftOut (place_ahead bytes tokens))
left_out_at_right_side bytes depth stack [] e = absurd (let n : ⊥ = cc in n)
left_out_at_right_side bytes depth stack (t ∷ ts) e =
    let is : t.kind ≡ K.Asterisk = cc in
    let P : Kind → Type 0 = λ k. Derives (setting bytes 200 (left_out k)) (right_side depth ∷ stack) [] [] in
    (refl, λ limit vs high d. no_more_formula bytes limit depth stack t vs is d, subst P (sym is) (stop left_out_right_side))

-- a token at least was passed
pub strict : {bytes : List ℕ} {from to : List Symbol} {at mid now : Cursor} {t : Token} {f : List Value → List Value} → Steps at t mid → Path bytes from mid.rest.now to now f → length now.rest.now < length at.rest.now
strict s p = let h = p.leads.shorter in let q = ap length s.next in omega arith

-- the statements so far, and then those that follow
pub record Gathers (bytes : List ℕ) (from : List Symbol) (tokens : List Token) (to : List Symbol) (at : Cursor) (items : List Stat) : Type 0 where
  pub effect : List Value → List Value
  pub path : Path bytes from tokens to at effect
  pub shaped : (cs : Tree.Statements) (vs : List Value) → effect (v_statements cs ∷ vs) ≡ v_statements (followed (statements_of items) cs) ∷ vs

pub gathers_none : {stack : List Symbol} (at : Cursor) (items : List Stat) → items ≡ [] → Gathers at.bytes.now stack at.rest.now stack at items
gathers_none {stack} at items e =
    let P : List Stat → Type 0 = λ items. Gathers at.bytes.now stack at.rest.now stack at items in
    subst P (sym e) (record { effect = λ vs. vs; path = begins at; shaped = λ cs vs. refl })

-- after one more statement, before what comes after it
pub gathers_more : {bytes : List ℕ} {from stack : List Symbol} {tokens : List Token} {depth : ℕ} {at mid : Cursor} {items now : List Stat} (x : Stat) → Gathers bytes from tokens (statements depth ∷ stack) at items → Leaves (statements depth) at (follows depth (statement_of x) ∷ []) mid (statement_effect (statement_of x)) → now ≡ items ++ x ∷ [] → Gathers bytes from tokens (follows depth (statement_of x) ∷ stack) mid now
gathers_more {items} {now} x g l e = record {
  effect = λ vs. g.effect (statement_effect (statement_of x) vs);
  path = leaves g.path l;
  shaped = λ cs vs. g.shaped (Tree.with_statement (statement_of x) cs) vs ∙ ap (λ ds. v_statements ds ∷ vs) (followed_more items now x cs e);
}

after_semicolon : {bytes : List ℕ} {from stack : List Symbol} {tokens : List Token} {depth : ℕ} {at now : Cursor} {f : List Value → List Value} (c : Tree.Statement) → Path bytes from tokens (follows depth c ∷ stack) at f → Takes at K.Semicolon now → Path bytes from tokens (statements depth ∷ stack) now f
after_semicolon (Tree.requirement f) p w = takes_kind p w (λ limit high. a_semicolon)
after_semicolon (Tree.assignment n args f) p w = takes_kind p w (λ limit high. a_semicolon)
after_semicolon (Tree.conditional f first second) p w = takes_kind p w (λ limit high. a_free_semicolon)
after_semicolon (Tree.with_locals binders body) p w = takes_kind p w (λ limit high. a_free_semicolon)

pub gathers_semicolon : {bytes : List ℕ} {from stack : List Symbol} {tokens : List Token} {depth : ℕ} {at now : Cursor} {items : List Stat} (c : Tree.Statement) → Gathers bytes from tokens (follows depth c ∷ stack) at items → Takes at K.Semicolon now → Gathers bytes from tokens (statements depth ∷ stack) now items
gathers_semicolon c g w = record { effect = g.effect; path = after_semicolon c g.path w; shaped = g.shaped }

pub gathers_block : {bytes : List ℕ} {from stack : List Symbol} {tokens : List Token} {depth : ℕ} {at now : Cursor} {items : List Stat} (c : Tree.Statement) → follows depth c ≡ after_block depth → Gathers bytes from tokens (follows depth c ∷ stack) at items → (kind_ahead at.rest.now ≡ Some K.Semicolon → ⊥) → now ≡ at → Gathers bytes from tokens (statements depth ∷ stack) now items
gathers_block {bytes} {from} {stack} {tokens} {depth} {at} {now} {items} c is g none same =
    let P : Symbol → Type 0 = λ x. Path bytes from tokens (x ∷ stack) at g.effect in
    record { effect = g.effect; path = at_same (skips (subst P is g.path) no_semicolon (sees_none at.rest.now (K.Semicolon ∷ []) (none, tt))) same; shaped = g.shaped }

pub gathers_last : {bytes : List ℕ} {from stack : List Symbol} {tokens : List Token} {depth : ℕ} {at now : Cursor} {items : List Stat} (c : Tree.Statement) → follows depth c ≡ after_statement depth → Gathers bytes from tokens (follows depth c ∷ stack) at items → (kind_ahead at.rest.now ≡ Some K.Semicolon → ⊥) → now ≡ at → Path bytes from tokens stack now (λ vs. v_statements (statements_of items) ∷ vs)
gathers_last {bytes} {from} {stack} {tokens} {depth} {at} {now} {items} c is g none same =
    let P : Symbol → Type 0 = λ x. Path bytes from tokens (x ∷ stack) at g.effect in
    with_effect (at_same (skips (subst P is g.path) last_statement (sees_none at.rest.now (K.Semicolon ∷ []) (none, tt))) same) (λ vs. g.shaped Tree.no_statements vs ∙ ap (λ cs. v_statements cs ∷ vs) (followed_none (statements_of items)))

pub gathers_end : {bytes : List ℕ} {from stack : List Symbol} {tokens : List Token} {depth : ℕ} {at now : Cursor} {items : List Stat} → Gathers bytes from tokens (statements depth ∷ stack) at items → Sees (unless (K.WordRequire ∷ K.WordAssume ∷ K.Lower ∷ K.WordIf ∷ K.WordLocal ∷ K.LeftOut ∷ [])) at.rest.now → now ≡ at → Path bytes from tokens stack now (λ vs. v_statements (statements_of items) ∷ vs)
gathers_end {items} g see same = with_effect (at_same (skips g.path no_statement see) same) (λ vs. g.shaped Tree.no_statements vs ∙ ap (λ cs. v_statements cs ∷ vs) (followed_none (statements_of items)))

pub next_statement : (depth : ℕ) (old new : Cursor) (o : Option Stat) (x : Stat) → IsStatement depth old new o → o ≡ Some x → ReadsStatement depth old (statement_of x) new
next_statement depth old new o x h e = let P : Option Stat → Type 0 = λ o. IsStatement depth old new o in subst P e h

pub no_next_statement : (depth : ℕ) (old new : Cursor) (o : Option Stat) → IsStatement depth old new o → o ≡ None → IsStatement depth old new None
no_next_statement depth old new o h e = let P : Option Stat → Type 0 = λ o. IsStatement depth old new o in subst P e h

pub falls_after : (at : Cursor) {mid now : Cursor} {k : Kind} → length mid.rest.now < length at.rest.now → Takes mid k now → length now.rest.now < length at.rest.now
falls_after at h w = let q = ap length w.steps.next in omega arith

pub falls_same : (at : Cursor) {mid now : Cursor} → length mid.rest.now < length at.rest.now → now ≡ mid → length now.rest.now < length at.rest.now
falls_same at h e = let P : Cursor → Type 0 = λ m. length m.rest.now < length at.rest.now in subst P (sym e) h
