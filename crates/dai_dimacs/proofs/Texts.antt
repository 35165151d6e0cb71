-- Lines are taken into a draft, or refused.
use Rattle.std.proofs.Common.{◌≡◌, ◌-◌, ◌<◌, ℕ, zero, suc, Bool, true, false, cond, List, [], ◌∷◌, ◌++◌, Option, Some, None, Result, Ok, Err, IfOk, OnOk, MatchOption, Bor, codes, length, map, refl, ap, sym, ◌∙◌, subst, append_assoc, arith}
use Rattle.std.specs.List.{All, filter, flat_map}
use Rattle.std.proofs.lemmas.List.{append-nil}
use Rattle.std.proofs.lemmas.List.Concat.{flat_map-append}
use Rattle.std.proofs.lemmas.List.Elements.{All-nil, filter-append}
use Rattle.dai_base.specs.declared.memory.Spent.{Spent}
use Rattle.dai_trail.specs.declared.cnf.Lit.{Lit}
use Rattle.dai_trail.specs.Formula.{Formula, IsBelow, formula_of}
use Rattle.dai_dimacs.specs.declared.draft.Draft.{Draft}
use Rattle.dai_dimacs.specs.declared.tokens.Token.TheVariants.{End, Literal}
use Rattle.dai_dimacs.specs.Pieces.{words}
use Rattle.dai_dimacs.specs.Tokens.{token_of, number_of}
use Rattle.dai_dimacs.specs.Files.{is_content, IsHeader, runs, IsTextOf, IsHopeless, IsNoText, Begins}
use Rattle.dai_dimacs.specs.Drafts.{AreWordsOf, AreReadInto, Takes, AreLinesInto, AreRead, TakesLine}
use Rattle.dai_dimacs.proofs.Drafts.{end_taken, not_all}
use Rattle.dai_dimacs.proofs.Runs.{one_list}

-- a line with content is the last one of the contents
pub content_more : (text : List (List ℕ)) (line : List ℕ) → is_content line ≡ true → filter is_content (text ++ line ∷ []) ≡ filter is_content text ++ line ∷ []
content_more text line e = filter-append is_content text (line ∷ []) ∙ ap (λ b. filter is_content text ++ cond b (line ∷ []) []) e

-- another line isn't among them
pub blank_more : (text : List (List ℕ)) (line : List ℕ) → is_content line ≡ false → filter is_content (text ++ line ∷ []) ≡ filter is_content text
blank_more text line e = filter-append is_content text (line ∷ []) ∙ ap (λ b. filter is_content text ++ cond b (line ∷ []) []) e ∙ append-nil (filter is_content text)

-- a line has one reading as a header
pub one_header : (line : List ℕ) (a b c d : ℕ) → IsHeader line a b → IsHeader line c d → (a ≡ c) × (b ≡ d)
one_header line a b c d h k =
    let v : h.vars_word ≡ k.vars_word = cc (h.says, k.says) in
    let w : h.count_word ≡ k.count_word = cc (h.says, k.says) in
    let x : Some a ≡ Some c = sym h.names ∙ ap number_of v ∙ k.names in
    let y : Some b ≡ Some d = sym h.counts ∙ ap number_of w ∙ k.counts in
    (cc, cc)

-- the words of a text whose first lines are in a draft
as_words : (text : List (List ℕ)) (g : Formula) → IsTextOf g text → (front : List (List ℕ)) (f : Formula) (missing : ℕ) (part : List Lit) (h : AreLinesInto front f missing part) (more : List (List ℕ)) → filter is_content text ≡ h.header ∷ (h.body ++ more) → AreWordsOf f.vars h.count g.clauses (flat_map words h.body ++ flat_map words more)
as_words text g t front f missing part h more e =
    let whole : t.header ∷ t.body ≡ h.header ∷ (h.body ++ more) = sym t.contents ∙ e in
    let header : t.header ≡ h.header = cc in
    let body : t.body ≡ h.body ++ more = cc in
    let one = one_header h.header g.vars (length g.clauses) f.vars h.count (subst (λ l. IsHeader l g.vars (length g.clauses)) header t.heads) h.heads in
    record {
      counted = one.1;
      below = subst (λ v. All (IsBelow v) g.clauses) one.0 t.below;
      reads = ap (map token_of) (sym (flat_map-append words h.body more) ∙ ap (flat_map words) (sym body)) ∙ t.reads;
    }

-- a draft that misses nothing is the formula of its lines
pub is_text : (text : List (List ℕ)) (f : Formula) (missing : ℕ) (part : List Lit) → missing ≡ 0 → AreLinesInto text f missing part → IsTextOf f text
is_text text f missing part none h = record {
  header = h.header;
  body = h.body;
  contents = h.contents;
  heads = let e : h.count ≡ length f.clauses = omega (arith, h.draft.counted) in subst (λ n. IsHeader h.header f.vars n) e h.heads;
  below = h.draft.below;
  reads = h.draft.reads ∙ ap (map Some) (ap (λ xs. runs f.clauses ++ map Literal xs) (h.draft.closed none) ∙ append-nil (runs f.clauses));
}

-- lines that end too early are of no formula
pub ends_early : (text : List (List ℕ)) (f : Formula) (missing : ℕ) (part : List Lit) → 0 < missing → AreLinesInto text f missing part → IsNoText text
ends_early text f missing part some h g t =
    let w = as_words text g t text f missing part h [] (h.contents ∙ ap (λ xs. h.header ∷ xs) (sym (append-nil h.body))) in
    not_all f.vars h.count (flat_map words h.body) f missing part g.clauses some h.draft (subst (AreWordsOf f.vars h.count g.clauses) (append-nil (flat_map words h.body)) w)

pub no_lines : (text : List (List ℕ)) → filter is_content text ≡ [] → IsNoText text
no_lines text e g t = let whole : [] ≡ t.header ∷ t.body = sym e ∙ t.contents in let k : ⊥ = cc in k

pub blank_line : (text : List (List ℕ)) (line : List ℕ) (d : Option Draft) → is_content line ≡ false → AreRead text d → AreRead (text ++ line ∷ []) d
blank_line text line None e h = blank_more text line e ∙ h
blank_line text line (Some d) e h = record {
  count = h.count;
  header = h.header;
  body = h.body;
  contents = blank_more text line e ∙ h.contents;
  heads = h.heads;
  draft = h.draft;
}

pub first_header : (text : List (List ℕ)) (line : List ℕ) (vars count : ℕ) → is_content line ≡ true → IsHeader line vars count → filter is_content text ≡ [] → AreLinesInto (text ++ line ∷ []) (formula_of vars []) count []
first_header text line vars count c h e = record {
  count = count;
  header = line;
  body = [];
  contents = content_more text line c ∙ ap (λ xs. xs ++ line ∷ []) e;
  heads = h;
  draft = record {
    counted = omega arith;
    closed = λ _. refl;
    below = All-nil (IsBelow vars);
    front = All-nil (λ (l : Lit). l.var < vars);
    reads = refl;
  };
}

-- the contents of lines behind which a line and more come
pub contents_with : (text rest : List (List ℕ)) (line : List ℕ) → is_content line ≡ true → filter is_content ((text ++ line ∷ []) ++ rest) ≡ filter is_content text ++ (line ∷ filter is_content rest)
contents_with text rest line c =
    filter-append is_content (text ++ line ∷ []) rest ∙ ap (λ xs. xs ++ filter is_content rest) (content_more text line c) ∙ append_assoc (filter is_content text) (line ∷ []) (filter is_content rest)

pub no_header : (text : List (List ℕ)) (line : List ℕ) → is_content line ≡ true → ((vars count : ℕ) → IsHeader line vars count → ⊥) → filter is_content text ≡ [] → IsHopeless (text ++ line ∷ [])
no_header text line c none e g rest t =
    let whole : t.header ∷ t.body ≡ line ∷ filter is_content rest = sym t.contents ∙ contents_with text rest line c ∙ ap (λ xs. xs ++ (line ∷ filter is_content rest)) e in
    let header : t.header ≡ line = cc in
    none g.vars (length g.clauses) (subst (λ l. IsHeader l g.vars (length g.clauses)) header t.heads)

words_push : (body : List (List ℕ)) (line : List ℕ) → flat_map words body ++ words line ≡ flat_map words (body ++ line ∷ [])
words_push body line = ap (λ ws. flat_map words body ++ ws) (sym (append-nil (words line))) ∙ sym (flat_map-append words body (line ∷ []))

line_taken : (text : List (List ℕ)) (line : List ℕ) (old new : Draft) → is_content line ≡ true → new.cnf.vars ≡ old.cnf.vars → Takes (words line) old new true → AreRead text (Some old) → AreRead (text ++ line ∷ []) (Some new)
line_taken text line old new c e takes h = record {
  count = h.count;
  header = h.header;
  body = h.body ++ line ∷ [];
  contents = content_more text line c ∙ ap (λ xs. xs ++ line ∷ []) h.contents;
  heads = subst (λ v. IsHeader h.header v h.count) (sym e) h.heads;
  draft = subst (λ ws. AreReadInto h.count ws new.cnf new.missing new.clause.items) (words_push h.body line) (takes h.count (flat_map words h.body) h.draft);
}

line_refused : (text : List (List ℕ)) (line : List ℕ) (old new : Draft) → is_content line ≡ true → Takes (words line) old new false → AreRead text (Some old) → IsHopeless (text ++ line ∷ [])
line_refused text line old new c none h g rest t =
    let more = flat_map words (filter is_content rest) in
    let e : filter is_content ((text ++ line ∷ []) ++ rest) ≡ h.header ∷ (h.body ++ (line ∷ filter is_content rest)) = contents_with text rest line c ∙ ap (λ xs. xs ++ (line ∷ filter is_content rest)) h.contents in
    let w = as_words ((text ++ line ∷ []) ++ rest) g t text old.cnf old.missing old.clause.items h (line ∷ filter is_content rest) e in
    none h.count (flat_map words h.body) h.draft more g.clauses
    (subst (AreWordsOf old.cnf.vars h.count g.clauses) (sym (append_assoc (flat_map words h.body) (words line) more)) w)

-- what a draft says of the words of a line, its owner says of the line
pub line_more : (r : Result Bool Spent) (line : List ℕ) (draft : Option Draft) (old new : Draft) → draft ≡ Some old → is_content line ≡ true → IfOk r (Takes (words line) old new) → OnOk r (new.cnf.vars ≡ old.cnf.vars) → IfOk r (TakesLine line draft (Some new))
line_more (Ok true) line draft old new is c takes vars = λ text h. line_taken text line old new c vars takes (subst (AreRead text) is h)
line_more (Ok false) line draft old new is c takes vars = λ text h. line_refused text line old new c takes (subst (AreRead text) is h)
line_more (Err e) line draft old new is c takes vars = tt

zero_word : token_of (48 ∷ []) ≡ Some End
unfolding token_of
zero_word = refl

zero_line : is_content (48 ∷ []) ≡ true
unfolding is_content
zero_line = refl

empty_line : is_content (codes "p cnf 0 0") ≡ true
unfolding is_content
empty_line = refl

empty_header : IsHeader (codes "p cnf 0 0") 0 0
empty_header = record {
  vars_word = 48 ∷ [];
  count_word = 48 ∷ [];
  says = refl;
  names = refl;
  counts = refl;
}

-- a line with the end of a clause
end_more : (text : List (List ℕ)) (f : Formula) (missing : ℕ) (part : List Lit) → AreLinesInto text f (suc missing) part → AreLinesInto (text ++ (48 ∷ []) ∷ []) (formula_of f.vars (f.clauses ++ part ∷ [])) missing []
end_more text f missing part h =
    let zero_is : suc missing - 1 ≡ missing = omega arith in
    record {
      count = h.count;
      header = h.header;
      body = h.body ++ (48 ∷ []) ∷ [];
      contents = content_more text (48 ∷ []) zero_line ∙ ap (λ xs. xs ++ (48 ∷ []) ∷ []) h.contents;
      heads = h.heads;
      draft = subst (λ n. AreReadInto h.count (flat_map words (h.body ++ (48 ∷ []) ∷ [])) (formula_of f.vars (f.clauses ++ part ∷ [])) n []) zero_is
          (subst (λ ws. AreReadInto h.count ws (formula_of f.vars (f.clauses ++ part ∷ [])) (suc missing - 1) []) (words_push h.body (48 ∷ []))
          (end_taken h.count (flat_map words h.body) (48 ∷ []) f (suc missing) part zero_word (omega arith) h.draft));
    }

-- lines in a draft begin some text
begins_into : (missing : ℕ) (text : List (List ℕ)) (f : Formula) (part : List Lit) → AreLinesInto text f missing part → Begins text
begins_into zero text f part h = record {
  formula = f;
  rest = [];
  text = subst (IsTextOf f) (sym (append-nil text)) (is_text text f 0 part refl h);
}
begins_into (suc missing) text f part h =
    let b = begins_into missing (text ++ (48 ∷ []) ∷ []) (formula_of f.vars (f.clauses ++ part ∷ [])) [] (end_more text f missing part h) in
    record {
      formula = b.formula;
      rest = (48 ∷ []) ∷ b.rest;
      text = subst (IsTextOf b.formula) (append_assoc text ((48 ∷ []) ∷ []) b.rest) b.text;
    }

-- what was read begins some text
pub begins : (text : List (List ℕ)) (d : Option Draft) → AreRead text d → Begins text
begins text (Some d) h = begins_into d.missing text d.cnf d.clause.items h
begins text None h = record {
  formula = formula_of 0 [];
  rest = codes "p cnf 0 0" ∷ [];
  text = is_text (text ++ codes "p cnf 0 0" ∷ []) (formula_of 0 []) 0 [] refl (first_header text (codes "p cnf 0 0") 0 0 empty_line empty_header h);
}

pub rest_of : (xs : List (List ℕ)) (line : List ℕ) (after : Option (Bor (List ℕ))) (f : List ℕ → List (List ℕ)) → MatchOption after (xs ≡ line ∷ []) (λ a. xs ≡ line ∷ f a.now) → (rest : List (List ℕ)) × (xs ≡ line ∷ rest)
rest_of xs line None f e = ([], e)
rest_of xs line (Some a) f e = (f a.now, e)

-- lines are those of one formula at most
pub one_formula : (text : List (List ℕ)) (f g : Formula) → IsTextOf f text → IsTextOf g text → f ≡ g
one_formula text f g t u =
    let whole : t.header ∷ t.body ≡ u.header ∷ u.body = sym t.contents ∙ u.contents in
    let header : t.header ≡ u.header = cc in
    let body : t.body ≡ u.body = cc in
    let one = one_header u.header f.vars (length f.clauses) g.vars (length g.clauses) (subst (λ l. IsHeader l f.vars (length f.clauses)) header t.heads) u.heads in
    let clauses = one_list f.clauses g.clauses (sym t.reads ∙ ap (λ ls. map token_of (flat_map words ls)) body ∙ u.reads) in
    λ i. formula_of (one.0 i) (clauses i)
