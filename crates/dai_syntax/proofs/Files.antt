-- Files: a declaration after another, up to the end of the tokens or to a fault.
use Rattle.std.proofs.Common.{ℕ, ◌≡◌, ◌<◌, ◌≤◌, inl, inr, List, [], ◌∷◌, ◌++◌, map, length, refl, sym, subst, ap, ◌∙◌, arith, append_assoc, append-nil, Result, Ok, Err, Some, true, false, eqb-true}
use Rattle.std.proofs.lemmas.List.{map-append}
use Rattle.std.specs.Bool.{◌==◌}
use Rattle.std.specs.Result.{IfErr, IsErrAnd}
use Rattle.dai_lex.specs.declared.token.Kind.{Kind}
use Rattle.dai_lex.specs.declared.token.Kind.TheVariants as K
use Rattle.dai_lex.specs.declared.token.Token.{Token}
use Rattle.dai_syntax.specs.declared.cursor.Cursor.{Cursor}
use Rattle.dai_syntax.specs.declared.tree.Decl.{Decl}
use Rattle.dai_syntax.specs.declared.error.SyntaxError.{SyntaxError}
use Rattle.dai_syntax.specs.declared.error.SyntaxError.TheVariants.{Unexpected, Deep, LeftOut, Spent}
use Rattle.dai_syntax.specs.Tree.{Declaration}
use Rattle.dai_syntax.specs.Trees.{declaration_of}
use Rattle.dai_syntax.specs.Symbols.{Symbol, declarations, declaration, Value, v_declaration, v_declarations, the_declaration, the_declarations, part1, part2, after1, after2}
use Rattle.dai_syntax.specs.Grammar.{another, Sees, no_declarations, further_declarations, End, whole, anywhere, left_out, IsLeftOut, left_out_declaration, Derives, stop, take, skip}
use Rattle.dai_syntax.specs.Reading.{IsFront, all_hidden, one_shown, MayHide, setting, Leads, Reads, FailsAt, IsStuck, Fails, kind_ahead, place_ahead}
use Rattle.dai_syntax.specs.Viable.{FileDerives, IsFile, IsViable, BeginsLeftOut, IsStopAtEnd, at_token, at_end, IsSyntaxError}
use Rattle.dai_syntax.proofs.Leading.{leads_then}
use Rattle.dai_syntax.proofs.Paths.{Path, reads, fails, is_stuck, with_effect}

-- whether a list is empty, by its length
pub not_empty : {A : Type 0} (xs : List A) → (length xs == 0) ≡ false → xs ≡ [] → ⊥
not_empty [] e same = let n : ⊥ = cc in n
not_empty (x ∷ xs) e same = let n : ⊥ = cc in n

pub is_empty : {A : Type 0} (xs : List A) → (length xs == 0) ≡ true → xs ≡ []
is_empty [] e = refl
is_empty (x ∷ xs) e = absurd (let none = eqb-true (length (x ∷ xs)) 0 e in omega arith)

-- the error of a call, passed on
pub passed_on : {A : Type 0} (P : SyntaxError → Type 0) (r : Result A SyntaxError) (d : SyntaxError) → IsErrAnd r (λ e. e ≡ d) → P d → IfErr r P
passed_on P (Ok v) d h p = tt
passed_on P (Err e) d h p = subst P (sym h) p

-- the front is unique, and with the hidden tokens after it, it is all of them
fewer_hidden : {hidden front tokens : List Token} → IsFront hidden front tokens → length hidden ≤ length tokens
fewer_hidden all_hidden = omega arith
fewer_hidden (one_shown f) = let h = fewer_hidden f in omega arith

one_front : {hidden hidden' front other tokens tokens' : List Token} → IsFront hidden front tokens → IsFront hidden' other tokens' → hidden ≡ hidden' → tokens ≡ tokens' → front ≡ other
one_front all_hidden all_hidden e f = refl
one_front all_hidden (one_shown g) e f = absurd (let h = fewer_hidden g in omega (arith, ap length e, ap length f))
one_front (one_shown g) all_hidden e f = absurd (let h = fewer_hidden g in omega (arith, ap length e, ap length f))
one_front (one_shown {t} {front} {tokens = ts} g) (one_shown {t = u} {front = other} {tokens = us} h) e f =
    let heads : t ≡ u = cc in
    let tails : ts ≡ us = cc in
    let same : front ≡ other = one_front g h e tails in
    cc

split_of : {hidden front tokens : List Token} → IsFront hidden front tokens → tokens ≡ front ++ hidden
split_of all_hidden = refl
split_of (one_shown {t} f) = ap (λ ts. t ∷ ts) (split_of f)

one_more : {t : Token} {hidden front tokens : List Token} → IsFront (t ∷ hidden) front tokens → IsFront hidden (front ++ t ∷ []) tokens
one_more all_hidden = one_shown all_hidden
one_more (one_shown f) = one_shown (one_more f)

all_shown : (front tokens : List Token) → IsFront [] front tokens → front ≡ tokens
all_shown front tokens f = sym (append-nil front) ∙ sym (split_of f)

-- the value of declarations, with some before them
abbrev pub after_these : List Decl → List Value → List Value
after_these ds vs = v_declarations (map declaration_of ds ++ the_declarations (part1 vs)) ∷ after1 vs

-- a derivation from declarations alone has a list of declarations as its value
begins_back : (bytes : List ℕ) (limit : ℕ) (end : End) (front : List Token) (vs : List Value) → Derives (setting bytes limit end) (declarations ∷ []) front vs → Derives (setting bytes limit end) (declarations ∷ []) front (after_these [] vs)
begins_back bytes limit whole [] vs (stop m) = absurd m
begins_back bytes limit anywhere [] vs (stop m) = stop tt
begins_back bytes limit (left_out k) [] vs (stop m) = stop m
begins_back bytes limit end (t ∷ front) vs (take p d) = absurd (elim p [ ])
begins_back bytes limit end front vs (skip no_declarations see d) = skip no_declarations see d
begins_back bytes limit end front vs (skip further_declarations see d) = skip further_declarations see d

begins_forth : (bytes : List ℕ) (limit : ℕ) (end : End) (front : List Token) (vs : List Value) → Derives (setting bytes limit end) (declarations ∷ []) front vs → end ≡ whole → vs ≡ after_these [] vs
begins_forth bytes limit whole [] vs (stop m) e = absurd m
begins_forth bytes limit anywhere [] vs (stop m) e = absurd (let n : ⊥ = cc in n)
begins_forth bytes limit (left_out k) [] vs (stop m) e = absurd (let n : ⊥ = cc in n)
begins_forth bytes limit end (t ∷ front) vs (take p d) e = absurd (elim p [ ])
begins_forth bytes limit end front vs (skip no_declarations see d) e = refl
begins_forth bytes limit end front vs (skip further_declarations see d) e = refl

begins_empty : (at : Cursor) → Path at.bytes.now (declarations ∷ []) at.rest.now (declarations ∷ []) at (after_these [])
begins_empty at = record {
  bytes_are = refl;
  leads = record {
    shorter = omega arith;
    continues = λ hidden shown h. record {
      front = shown;
      is_front = h;
      transfers = record {
        back = λ limit end vs high d. begins_back at.bytes.now limit end shown vs d;
        forth = λ limit end ws high hide d. (ws, d, λ e. begins_forth at.bytes.now limit end shown ws d e);
      };
    };
  };
}

pub begins_file : (at : Cursor) (ds : List Decl) → ds ≡ [] → Path at.bytes.now (declarations ∷ []) at.rest.now (declarations ∷ []) at (after_these ds)
begins_file at ds e = let P : List Decl → Type 0 = λ ds. Path at.bytes.now (declarations ∷ []) at.rest.now (declarations ∷ []) at (after_these ds) in subst P (sym e) (begins_empty at)

-- one more declaration
abbrev pub one_further : List Value → List Value
one_further vs = v_declarations (the_declaration (part1 vs) ∷ the_declarations (part2 vs)) ∷ after2 vs

none_left_out : {kind : Kind} {stack : List Symbol} → IsLeftOut kind (declaration ∷ stack) → ⊥
none_left_out l = elim l [ ]

further_back : (bytes : List ℕ) (limit : ℕ) (end : End) (hidden front tokens : List Token) (vs : List Value) → Sees (another (K.LeftOut ∷ [])) tokens → IsFront hidden front tokens → Derives (setting bytes limit end) (declaration ∷ declarations ∷ []) front vs → Derives (setting bytes limit end) (declarations ∷ []) front (one_further vs)
further_back bytes limit end hidden (t ∷ front) tokens vs see (one_shown f) d = skip further_declarations see d
further_back bytes limit whole hidden [] tokens vs see all_hidden (stop m) = absurd m
further_back bytes limit anywhere hidden [] tokens vs see all_hidden (stop m) = stop tt
further_back bytes limit (left_out k) hidden [] tokens vs see all_hidden (stop m) = absurd (none_left_out m)
further_back bytes limit end hidden [] tokens vs see all_hidden (skip r sees d) = absurd (elim r [ ])

not_left_out : (k : Kind) (tokens : List Token) → Sees (another (K.LeftOut ∷ [])) tokens → MayHide (left_out k) tokens → IsLeftOut k (declarations ∷ []) → ⊥
not_left_out k [] see hide m = see
not_left_out k (t ∷ ts) see hide left_out_declaration = see.0 hide

not_at_end : (tokens : List Token) → Sees (another (K.LeftOut ∷ [])) tokens → tokens ≡ [] → ⊥
not_at_end [] see e = see
not_at_end (t ∷ ts) see e = let n : ⊥ = cc in n

nothing_left_out : {kind : Kind} → IsLeftOut kind [] → ⊥
nothing_left_out l = elim l [ ]

-- nothing is derived from no symbols, but the end
ends_here : (bytes : List ℕ) (limit : ℕ) (end : End) (tokens : List Token) (ws : List Value) → Sees (another (K.LeftOut ∷ [])) tokens → MayHide end tokens → Derives (setting bytes limit end) [] [] ws → end ≡ anywhere
ends_here bytes limit whole tokens ws see hide d = absurd (not_at_end tokens see hide)
ends_here bytes limit anywhere tokens ws see hide d = refl
ends_here bytes limit (left_out k) tokens ws see hide (stop m) = absurd (nothing_left_out m)

further_ends : (bytes : List ℕ) (limit : ℕ) (end : End) (ws : List Value) → end ≡ anywhere → (vs : List Value) × Derives (setting bytes limit end) (declaration ∷ declarations ∷ []) [] vs × (end ≡ whole → ws ≡ one_further vs)
further_ends bytes limit whole ws e = absurd (let n : ⊥ = cc in n)
further_ends bytes limit anywhere ws e = ([], stop tt, λ f. absurd (let n : ⊥ = cc in n))
further_ends bytes limit (left_out k) ws e = absurd (let n : ⊥ = cc in n)

further_forth : (bytes : List ℕ) (limit : ℕ) (end : End) (hidden front tokens : List Token) (ws : List Value) → Sees (another (K.LeftOut ∷ [])) tokens → IsFront hidden front tokens → MayHide end hidden → Derives (setting bytes limit end) (declarations ∷ []) front ws → (vs : List Value) × Derives (setting bytes limit end) (declaration ∷ declarations ∷ []) front vs × (end ≡ whole → ws ≡ one_further vs)
further_forth bytes limit end hidden (t ∷ front) tokens ws see (one_shown f) hide (take p d) = absurd (elim p [ ])
further_forth bytes limit end hidden (t ∷ front) tokens ws see (one_shown f) hide (skip no_declarations sees d) = absurd sees
further_forth bytes limit end hidden (t ∷ front) tokens ws see (one_shown f) hide (skip {vs} further_declarations sees d) = (vs, d, λ e. refl)
further_forth bytes limit whole hidden [] tokens ws see all_hidden hide (stop m) = absurd m
further_forth bytes limit anywhere hidden [] tokens ws see all_hidden hide (stop m) = further_ends bytes limit anywhere ws refl
further_forth bytes limit (left_out k) hidden [] tokens ws see all_hidden hide (stop m) = absurd (not_left_out k hidden see hide m)
further_forth bytes limit end hidden [] tokens ws see all_hidden hide (skip {vs} no_declarations sees d) = further_ends bytes limit end (v_declarations [] ∷ vs) (ends_here bytes limit end hidden vs see hide d)
further_forth bytes limit end hidden [] tokens ws see all_hidden hide (skip further_declarations sees d) = absurd sees

leads_further : {bytes : List ℕ} (tokens : List Token) → Sees (another (K.LeftOut ∷ [])) tokens → Leads bytes (declarations ∷ []) tokens (declaration ∷ declarations ∷ []) tokens one_further
leads_further {bytes} tokens see = record {
  shorter = omega arith;
  continues = λ hidden shown h. record {
    front = shown;
    is_front = h;
    transfers = record {
      back = λ limit end vs high d. further_back bytes limit end hidden shown tokens vs see h d;
      forth = λ limit end ws high hide d. further_forth bytes limit end hidden shown tokens ws see h hide d;
    };
  };
}

-- another declaration may begin here
pub sees_another : (tokens : List Token) → (tokens ≡ [] → ⊥) → (kind_ahead tokens ≡ Some K.LeftOut → ⊥) → Sees (another (K.LeftOut ∷ [])) tokens
sees_another [] some other = some refl
sees_another (t ∷ ts) some other = (λ e. other (let n : Some t.kind ≡ Some K.LeftOut = cc in n), tt)

-- the way through a file, so far
abbrev pub FilePath : List ℕ → List Token → Cursor → List Decl → Type 0
FilePath bytes tokens at ds = Path bytes (declarations ∷ []) tokens (declarations ∷ []) at (after_these ds)

skips_further : {bytes : List ℕ} {tokens : List Token} {at : Cursor} (ds : List Decl) → FilePath bytes tokens at ds → Sees (another (K.LeftOut ∷ [])) at.rest.now → Path bytes (declarations ∷ []) tokens (declaration ∷ declarations ∷ []) at (λ vs. after_these ds (one_further vs))
skips_further {at} ds p see = record { bytes_are = p.bytes_are; leads = leads_then p.leads (leads_further at.rest.now see) }

more_declarations : (ds : List Decl) (d : Decl) (vs : List Value) → after_these ds (one_further (v_declaration (declaration_of d) ∷ vs)) ≡ after_these (ds ++ d ∷ []) vs
more_declarations ds d vs =
    let e : map declaration_of (ds ++ d ∷ []) ++ the_declarations (part1 vs) ≡ map declaration_of ds ++ declaration_of d ∷ the_declarations (part1 vs) = ap (λ l. l ++ the_declarations (part1 vs)) (map-append declaration_of ds (d ∷ [])) ∙ append_assoc (map declaration_of ds) (declaration_of d ∷ []) (the_declarations (part1 vs)) in
    ap (λ l. v_declarations l ∷ after1 vs) (sym e)

pub reads_further : {bytes : List ℕ} {tokens : List Token} {at now : Cursor} (ds : List Decl) (d : Decl) → FilePath bytes tokens at ds → Sees (another (K.LeftOut ∷ [])) at.rest.now → Reads declaration at (v_declaration (declaration_of d)) now → FilePath bytes tokens now (ds ++ d ∷ [])
reads_further ds d p see r = with_effect (reads (skips_further ds p see) r) (more_declarations ds d)

-- at the end of the tokens the declarations so far are the file
file_of : (bytes : List ℕ) (tokens rest : List Token) (ds : List Decl) → Leads bytes (declarations ∷ []) tokens (declarations ∷ []) rest (after_these ds) → rest ≡ [] → IsFile bytes tokens (map declaration_of ds)
file_of bytes tokens rest ds l e =
    let P : List Token → Type 0 = λ rest. Leads bytes (declarations ∷ []) tokens (declarations ∷ []) rest (after_these ds) in
    let n = (subst P e l).continues [] [] all_hidden in
    let Q : List Token → Type 0 = λ ts. FileDerives bytes 200 whole ts (v_declarations (map declaration_of ds ++ []) ∷ []) in
    let R : List Declaration → Type 0 = λ es. IsFile bytes tokens es in
    subst R (append-nil (map declaration_of ds)) (subst Q (all_shown n.front tokens n.is_front) (n.transfers.back 200 whole (v_declarations [] ∷ []) (omega arith) (skip no_declarations tt (stop refl))))

pub is_file : {bytes : List ℕ} {tokens : List Token} {at : Cursor} (ds : List Decl) → FilePath bytes tokens at ds → at.rest.now ≡ [] → IsFile bytes tokens (map declaration_of ds)
is_file {bytes} {tokens} {at} ds p e = file_of bytes tokens at.rest.now ds p.leads e

-- a part that is left out, in the place of a declaration
no_further : (bytes : List ℕ) (limit : ℕ) (t : Token) (vs : List Value) → t.kind ≡ K.LeftOut → Derives (setting bytes limit anywhere) (declarations ∷ []) (t ∷ []) vs → ⊥
no_further bytes limit t vs is (take p d) = absurd (elim p [ ])
no_further bytes limit t vs is (skip no_declarations see d) = see
no_further bytes limit t vs is (skip further_declarations see d) = see.0 is

stuck_left_out : (bytes : List ℕ) (tokens : List Token) → kind_ahead tokens ≡ Some K.LeftOut → IsStuck bytes (declarations ∷ []) tokens (LeftOut (place_ahead bytes tokens))
stuck_left_out bytes [] e = absurd (let n : ⊥ = cc in n)
stuck_left_out bytes (t ∷ ts) e =
    let is : t.kind ≡ K.LeftOut = cc in
    let P : Kind → Type 0 = λ k. IsLeftOut k (declarations ∷ []) in
    (refl, λ limit vs high d. no_further bytes limit t vs is d, stop (subst P (sym is) left_out_declaration))

-- where the derivations from a file lead to where none goes on, there is the fault
fault_at_end : (bytes : List ℕ) (tokens : List Token) (stack : List Symbol) (effect : List Value → List Value) → Leads bytes (declarations ∷ []) tokens stack [] effect → ((vs : List Value) → Derives (setting bytes 200 whole) stack [] vs → ⊥) → IsStopAtEnd bytes tokens
fault_at_end bytes tokens stack effect l stuck =
    let n = l.continues [] [] all_hidden in
    let same = all_shown n.front tokens n.is_front in
    let P : List Token → Type 0 = λ ts. FileDerives bytes 200 anywhere ts (effect []) in
    record {
      before = (effect [], subst P same (n.transfers.back 200 anywhere [] (omega arith) (stop tt)));
      open_ended = λ ds d.
          let Q : List Token → Type 0 = λ ts. FileDerives bytes 200 whole ts (v_declarations ds ∷ []) in
          let r = n.transfers.forth 200 whole (v_declarations ds ∷ []) (omega arith) refl (subst Q (sym same) d) in
          stuck r.0 r.1;
    }

-- the tokens before the next one, and what the derivations of them, and of them with the next one, say
record AtToken (bytes : List ℕ) (tokens : List Token) (stack : List Symbol) (t : Token) (more : List Token) : Type 0 where
  front : List Token
  split : tokens ≡ front ++ t ∷ more
  before : (limit : ℕ) → 200 ≤ limit → IsViable bytes limit front
  beyond : (limit : ℕ) → 200 ≤ limit → IsViable bytes limit (front ++ t ∷ []) → (vs : List Value) × Derives (setting bytes limit anywhere) stack (t ∷ []) vs
  onward : (limit : ℕ) (vs : List Value) → 200 ≤ limit → Derives (setting bytes limit anywhere) stack (t ∷ []) vs → IsViable bytes limit (front ++ t ∷ [])
  parts : BeginsLeftOut bytes front t → (vs : List Value) × Derives (setting bytes 200 (left_out t.kind)) stack [] vs
  begins : Derives (setting bytes 200 (left_out t.kind)) stack [] [] → BeginsLeftOut bytes front t

at_next : (bytes : List ℕ) (tokens : List Token) (stack : List Symbol) (t : Token) (more : List Token) (effect : List Value → List Value) → Leads bytes (declarations ∷ []) tokens stack (t ∷ more) effect → AtToken bytes tokens stack t more
at_next bytes tokens stack t more effect l =
    let n = l.continues (t ∷ more) [] all_hidden in
    let m = l.continues more (t ∷ []) (one_shown all_hidden) in
    let same : m.front ≡ n.front ++ t ∷ [] = one_front m.is_front (one_more n.is_front) refl refl in
    record {
      front = n.front;
      split = split_of n.is_front;
      before = λ limit high. (effect [], n.transfers.back limit anywhere [] high (stop tt));
      beyond = λ limit high w.
          let P : List Token → Type 0 = λ ts. FileDerives bytes limit anywhere ts w.0 in
          let r = m.transfers.forth limit anywhere w.0 high tt (subst P (sym same) w.1) in
          (r.0, r.1);
      onward = λ limit vs high d.
          let P : List Token → Type 0 = λ ts. FileDerives bytes limit anywhere ts (effect vs) in
          (effect vs, subst P same (m.transfers.back limit anywhere vs high d));
      parts = λ w. let r = n.transfers.forth 200 (left_out t.kind) w.0 (omega arith) refl w.1 in (r.0, r.1);
      begins = λ d. (effect [], n.transfers.back 200 (left_out t.kind) [] (omega arith) d);
    }

fault_of : (bytes : List ℕ) (tokens : List Token) (stack : List Symbol) (rest : List Token) (effect : List Value → List Value) (e : SyntaxError) → Leads bytes (declarations ∷ []) tokens stack rest effect → IsStuck bytes stack rest e → IsSyntaxError bytes tokens e
fault_of bytes tokens stack rest effect Spent l s = inl refl
fault_of bytes tokens stack [] effect (Unexpected at) l s = inr (at_end s.0 (fault_at_end bytes tokens stack effect l s.1))
fault_of bytes tokens stack [] effect (Deep at) l s = absurd s
fault_of bytes tokens stack [] effect (LeftOut at) l s = absurd s
fault_of bytes tokens stack (t ∷ more) effect (Unexpected at) l s =
    let n = at_next bytes tokens stack t more effect l in
    inr (at_token n.front more t
    (record { split = n.split; before = n.before 200 (omega arith); beyond = λ w. let r = n.beyond 200 (omega arith) w in s.1 200 r.0 (omega arith) r.1 })
    (s.0, λ w. let r = n.beyond w.0 w.1 w.2 in s.1 w.0 r.0 w.1 r.1, λ w. let r = n.parts w in s.2 r.0 r.1))
fault_of bytes tokens stack (t ∷ more) effect (LeftOut at) l s =
    let n = at_next bytes tokens stack t more effect l in
    inr (at_token n.front more t
    (record { split = n.split; before = n.before 200 (omega arith); beyond = λ w. let r = n.beyond 200 (omega arith) w in s.1 200 r.0 (omega arith) r.1 })
    (s.0, λ w. let r = n.beyond w.0 w.1 w.2 in s.1 w.0 r.0 w.1 r.1, n.begins s.2))
fault_of bytes tokens stack (t ∷ more) effect (Deep at) l s =
    let n = at_next bytes tokens stack t more effect l in
    inr (at_token n.front more t
    (record { split = n.split; before = n.before 200 (omega arith); beyond = λ w. let r = n.beyond 200 (omega arith) w in s.1 r.0 r.1 })
    (s.0, (201, omega arith, n.onward 201 s.2.0 (omega arith) s.2.1)))

pub is_fault : {bytes : List ℕ} {tokens : List Token} (e : SyntaxError) → Fails bytes (declarations ∷ []) tokens e → IsSyntaxError bytes tokens e
is_fault {bytes} {tokens} e h = fault_of bytes tokens h.stack h.rest h.effect e h.leads h.stuck

pub fails_further : {bytes : List ℕ} {tokens : List Token} {at : Cursor} (ds : List Decl) (e : SyntaxError) → FilePath bytes tokens at ds → Sees (another (K.LeftOut ∷ [])) at.rest.now → FailsAt declaration at e → IsSyntaxError bytes tokens e
fails_further ds e p see h = is_fault e (fails (skips_further ds p see) h)

pub fails_left_out : {bytes : List ℕ} {tokens : List Token} {at : Cursor} (ds : List Decl) (e : SyntaxError) → FilePath bytes tokens at ds → kind_ahead at.rest.now ≡ Some K.LeftOut → e ≡ LeftOut (place_ahead at.bytes.now at.rest.now) → IsSyntaxError bytes tokens e
fails_left_out {bytes} {at} ds e p k is = is_fault e (is_stuck e LeftOut p is (stuck_left_out bytes at.rest.now k))

-- a declaration has a token at least
has_some : (bytes : List ℕ) {hidden front tokens : List Token} (vs : List Value) → IsFront hidden front tokens → Derives (setting bytes 200 whole) (declaration ∷ []) front vs → length hidden < length tokens
has_some bytes vs all_hidden (stop m) = absurd m
has_some bytes vs all_hidden (skip r see d) = absurd (elim r [ ])
has_some bytes vs (one_shown f) d = let h = fewer_hidden f in omega arith

pub gets_shorter : {at now : Cursor} {v : Value} → Reads declaration at v now → length now.rest.now < length at.rest.now
gets_shorter {at} {now} {v} r =
    let n = (r.reads []).continues now.rest.now [] all_hidden in
    has_some at.bytes.now (v ∷ []) n.is_front (n.transfers.back 200 whole [] (omega arith) (stop refl))
