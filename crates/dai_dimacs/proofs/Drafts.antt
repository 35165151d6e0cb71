-- Words are taken into a draft, or refused.
use Rattle.std.proofs.Common.{◌≡◌, ◌-◌, ◌<◌, ◌≤◌, ℕ, Bool, true, false, List, [], ◌∷◌, ◌++◌, Some, None, map, refl, ap, sym, ◌∙◌, subst, append_assoc, arith}
use Rattle.std.proofs.lemmas.List.{map-append, length_push, append-nil}
use Rattle.std.proofs.lemmas.List.Concat.{flat_map-append}
use Rattle.std.proofs.lemmas.List.Elements.{All-append, All-cons, All-nil}
use Rattle.dai_trail.specs.declared.cnf.Lit.{Lit}
use Rattle.dai_trail.specs.Formula.{Formula, IsBelow, formula_of}
use Rattle.dai_dimacs.specs.declared.tokens.Token.{Token}
use Rattle.dai_dimacs.specs.declared.tokens.Token.TheVariants.{End, Literal}
use Rattle.dai_dimacs.specs.Tokens.{token_of}
use Rattle.dai_dimacs.specs.Files.{runs}
use Rattle.dai_dimacs.specs.Drafts.{AreWordsOf, AreNoFront, AreReadInto, IsDraftOf, Takes}
use Rattle.dai_dimacs.specs.declared.draft.Draft.{Draft}
use Rattle.dai_dimacs.proofs.Runs.{nothing_behind, as_many, no_gap, literal_below}

-- one word more
pushed : (ws : List (List ℕ)) (word : List ℕ) (xs : List Token) (t : Token) → map token_of ws ≡ map Some xs → token_of word ≡ Some t → map token_of (ws ++ word ∷ []) ≡ map Some (xs ++ t ∷ [])
pushed ws word xs t e h = map-append token_of ws (word ∷ []) ∙ (λ i. e i ++ (h i ∷ [])) ∙ sym (map-append Some xs (t ∷ []))

pub literal_taken : (count : ℕ) (ws : List (List ℕ)) (word : List ℕ) (f : Formula) (missing : ℕ) (part : List Lit) (l : Lit) → token_of word ≡ Some (Literal l) → l.var < f.vars → 0 < missing → AreReadInto count ws f missing part → AreReadInto count (ws ++ word ∷ []) f missing (part ++ l ∷ [])
literal_taken count ws word f missing part l e below some h = record {
  counted = h.counted;
  closed = λ none. absurd (omega arith);
  below = h.below;
  front = All-append (λ (m : Lit). m.var < f.vars) part (l ∷ []) h.front (All-cons (λ (m : Lit). m.var < f.vars) l [] below (All-nil (λ (m : Lit). m.var < f.vars)));
  reads = pushed ws word (runs f.clauses ++ map Literal part) (Literal l) h.reads e
      ∙ ap (map Some) (append_assoc (runs f.clauses) (map Literal part) (Literal l ∷ []) ∙ ap (λ xs. runs f.clauses ++ xs) (sym (map-append Literal part (l ∷ []))));
}

runs_push : (cs : List (List Lit)) (c : List Lit) → (runs cs ++ map Literal c) ++ End ∷ [] ≡ runs (cs ++ c ∷ []) ++ map Literal []
runs_push cs c =
    let whole : runs (cs ++ c ∷ []) ≡ runs cs ++ ((map Literal c ++ End ∷ []) ++ []) = flat_map-append (λ clause. map Literal clause ++ End ∷ []) cs (c ∷ []) in
    append_assoc (runs cs) (map Literal c) (End ∷ []) ∙ ap (λ xs. runs cs ++ xs) (sym (append-nil (map Literal c ++ End ∷ []))) ∙ sym whole ∙ sym (append-nil (runs (cs ++ c ∷ [])))

pub end_taken : (count : ℕ) (ws : List (List ℕ)) (word : List ℕ) (f : Formula) (missing : ℕ) (part : List Lit) → token_of word ≡ Some End → 0 < missing → AreReadInto count ws f missing part → AreReadInto count (ws ++ word ∷ []) (formula_of f.vars (f.clauses ++ part ∷ [])) (missing - 1) []
end_taken count ws word f missing part e some h = record {
  counted = omega (arith, h.counted, length_push f.clauses part);
  closed = λ _. refl;
  below = All-append (IsBelow f.vars) f.clauses (part ∷ []) h.below (All-cons (IsBelow f.vars) part [] h.front (All-nil (IsBelow f.vars)));
  front = All-nil (λ (m : Lit). m.var < f.vars);
  reads = pushed ws word (runs f.clauses ++ map Literal part) End h.reads e ∙ ap (map Some) (runs_push f.clauses part);
}

-- the words with one in their midst
mid : (ws rest : List (List ℕ)) (word : List ℕ) → map token_of ((ws ++ word ∷ []) ++ rest) ≡ map token_of ws ++ (token_of word ∷ map token_of rest)
mid ws rest word = ap (map token_of) (append_assoc ws (word ∷ []) rest) ∙ map-append token_of ws (word ∷ rest)

pub word_refused : (vars count : ℕ) (ws : List (List ℕ)) (word : List ℕ) → token_of word ≡ None → AreNoFront vars count (ws ++ word ∷ [])
word_refused vars count ws word e rest clauses h =
    no_gap (map token_of ws) (map token_of rest) (runs clauses) ((λ i. map token_of ws ++ (sym e i ∷ map token_of rest)) ∙ sym (mid ws rest word) ∙ h.reads)

pub variable_refused : (vars count : ℕ) (ws : List (List ℕ)) (word : List ℕ) (l : Lit) → token_of word ≡ Some (Literal l) → vars ≤ l.var → AreNoFront vars count (ws ++ word ∷ [])
variable_refused vars count ws word l e far rest clauses h =
    let below = literal_below vars (map token_of ws) (map token_of rest) l clauses ((λ i. map token_of ws ++ (sym e i ∷ map token_of rest)) ∙ sym (mid ws rest word) ∙ h.reads) h.below in
    omega arith

-- no word comes behind the last clause
pub full_refused : (vars count : ℕ) (ws : List (List ℕ)) (word : List ℕ) (f : Formula) (missing : ℕ) (part : List Lit) → missing ≡ 0 → AreReadInto count ws f missing part → AreNoFront vars count (ws ++ word ∷ [])
full_refused vars count ws word f missing part none h rest clauses w =
    let more = token_of word ∷ map token_of rest in
    let read : map token_of ws ≡ map Some (runs f.clauses) = h.reads ∙ ap (map Some) (ap (λ xs. runs f.clauses ++ map Literal xs) (h.closed none) ∙ append-nil (runs f.clauses)) in
    let k : more ≡ [] = nothing_behind f.clauses clauses more (ap (λ xs. xs ++ more) (sym read) ∙ sym (mid ws rest word) ∙ w.reads) (omega (arith, h.counted, w.counted)) in
    let e : ⊥ = cc in e

-- no clauses begin so where none begin with a front
pub longer_refused : (vars count : ℕ) (ws more : List (List ℕ)) → AreNoFront vars count ws → AreNoFront vars count (ws ++ more)
longer_refused vars count ws more none rest clauses h =
    none (more ++ rest) clauses (record {
      counted = h.counted;
      below = h.below;
      reads = ap (map token_of) (sym (append_assoc ws more rest)) ∙ h.reads;
    })

-- where clauses are missing, the words are not all
pub not_all : (vars count : ℕ) (ws : List (List ℕ)) (f : Formula) (missing : ℕ) (part : List Lit) (clauses : List (List Lit)) → 0 < missing → AreReadInto count ws f missing part → AreWordsOf vars count clauses ws → ⊥
not_all vars count ws f missing part clauses some h w =
    let same = as_many f.clauses clauses part (sym h.reads ∙ w.reads) in
    omega (arith, h.counted, w.counted)

-- one more word is refused behind those that were taken, and so is the line
pub words_refused : (line text rest seen : List (List ℕ)) (word : List ℕ) (old mid new : Draft) (b : Bool) → line ≡ seen ++ text → text ≡ word ∷ rest → Takes seen old mid true → mid.cnf.vars ≡ old.cnf.vars → Takes (word ∷ []) mid new b → b ≡ false → Takes line old new false
words_refused line text rest seen word old mid new b e f taken same more out = λ count ws h.
    let none : AreNoFront mid.cnf.vars count ((ws ++ seen) ++ word ∷ []) = subst (Takes (word ∷ []) mid new) out more count (ws ++ seen) (taken count ws h) in
    let longer = longer_refused mid.cnf.vars count ((ws ++ seen) ++ word ∷ []) rest none in
    let whole : ((ws ++ seen) ++ word ∷ []) ++ rest ≡ ws ++ line = append_assoc (ws ++ seen) (word ∷ []) rest ∙ append_assoc ws seen (word ∷ rest) ∙ ap (λ xs. ws ++ xs) (sym (e ∙ ap (λ xs. seen ++ xs) f)) in
    subst (λ v. AreNoFront v count (ws ++ line)) same (subst (AreNoFront mid.cnf.vars count) whole longer)

-- one more word is taken
pub words_taken : (seen : List (List ℕ)) (word : List ℕ) (old mid new : Draft) (b : Bool) → Takes seen old mid true → Takes (word ∷ []) mid new b → b ≡ true → Takes (seen ++ word ∷ []) old new true
words_taken seen word old mid new b taken more well = λ count ws h.
    subst (λ xs. IsDraftOf count xs new) (append_assoc ws seen (word ∷ [])) (subst (Takes (word ∷ []) mid new) well more count (ws ++ seen) (taken count ws h))
