-- Lines are answered, or refused.
use Rattle.std.proofs.Common.{◌≡◌, ◌⊎◌, ℕ, Bool, true, false, List, [], ◌∷◌, ◌++◌, Option, Some, None, Result, Ok, Err, IfOk, codes, refl, ap, sym, ◌∙◌, subst, append_assoc, inl, inr}
use Rattle.std.specs.List.{All, AllByRecursion, filter}
use Rattle.std.proofs.lemmas.List.{append-nil}
use Rattle.std.proofs.lemmas.List.Elements.{All-nil, All-cons, recursion_from_All}
use Rattle.dai_base.specs.declared.memory.Spent.{Spent}
use Rattle.dai_trail.specs.Formula.{Formula, formula_of}
use Rattle.dai_dimacs.specs.Pieces.{words}
use Rattle.dai_dimacs.specs.Tokens.{token_of}
use Rattle.dai_dimacs.specs.Files.{is_content, IsHeader}
use Rattle.dai_dimacs.specs.Drafts.{AreWordsOf}
use Rattle.dai_dimacs.specs.Talks.{IsClauseOf, IsEntry, outcome_lines, AddsClause, AsksQuestion, AreAnswered, AreEntries}
use Rattle.dai_dimacs.specs.Inquiries.{AreNoClause, TakesClause, TakesQuestion, IsAnswered, TakesEntry, AreTold, TakesTalkLine}
use Rattle.dai_dimacs.proofs.Drafts.{word_refused}
use Rattle.dai_dimacs.proofs.Texts.{content_more, blank_more, one_header}

-- an `a` is no word of a clause
question_word : token_of (codes "a") ≡ None
unfolding token_of
question_word = refl

no_question : (vars : ℕ) (line : List ℕ) (rest : List (List ℕ)) → words line ≡ codes "a" ∷ rest → AreNoClause vars rest → IsEntry vars line → ⊥
no_question vars line rest e none (inl w) =
    word_refused vars 1 [] (codes "a") question_word rest (w.0 ∷ []) (subst (AreWordsOf vars 1 (w.0 ∷ [])) e w.1.clause)
no_question vars line rest e none (inr w) =
    let same : w.1.rest ≡ rest = let h = w.1.asks in cc in
    none w.0 (subst (λ ws. IsClauseOf vars ws w.0) same w.1.clause)

no_entry : (vars : ℕ) (line : List ℕ) → ((ws : List (List ℕ)) → words line ≡ codes "a" ∷ ws → ⊥) → AreNoClause vars (words line) → IsEntry vars line → ⊥
no_entry vars line other none (inl w) = none w.0 w.1.clause
no_entry vars line other none (inr w) = other w.1.rest w.1.asks

-- what is said to a question is said to its line
pub question_taken : (r : Result Bool Spent) (line : List ℕ) (rest : List (List ℕ)) (old new : Formula) (before after : List ℕ) → words line ≡ codes "a" ∷ rest → IfOk r (TakesQuestion rest old new before after) → IfOk r (TakesEntry line old new before after)
question_taken (Ok true) line rest old new before after e h = record {
  said = outcome_lines h.outcome;
  step = inr (record {
    lits = h.lits;
    asks = record { rest = rest; asks = e; clause = h.clause };
    outcome = h.outcome;
    is_right = h.is_right;
    same = h.same;
    answer = refl;
  });
  told = h.told;
  vars = ap (λ (f : Formula). f.vars) h.same;
}
question_taken (Ok false) line rest old new before after e h = no_question old.vars line rest e h
question_taken (Err x) line rest old new before after e h = tt

-- a clause that is added is that of its line
pub clause_taken : (r : Result Bool Spent) (line : List ℕ) (old new : Formula) (said : List ℕ) → ((ws : List (List ℕ)) → words line ≡ codes "a" ∷ ws → ⊥) → IfOk r (TakesClause (words line) old new) → IfOk r (TakesEntry line old new said said)
clause_taken (Ok true) line old new said other h = record {
  said = [];
  step = inl (record {
    lits = h.lits;
    says = record { clause = h.clause };
    grown = h.grown;
    silent = refl;
  });
  told = sym (append-nil said);
  vars = ap (λ (f : Formula). f.vars) h.grown;
}
clause_taken (Ok false) line old new said other h = no_entry old.vars line other h
clause_taken (Err x) line old new said other h = tt

abbrev Step : Formula → Formula → List ℕ → List ℕ → Type 0
Step old new line said = AddsClause old new line said ⊎ AsksQuestion old new line said

-- one more line is answered
answered_more : (f : Formula) (body : List (List ℕ)) (mid new : Formula) (line before said : List ℕ) → AreAnswered f body mid before → Step mid new line said → AreAnswered f (body ++ line ∷ []) new (before ++ said)
answered_more f [] mid new line before said h step =
    (new, said, [], subst (λ g. Step g new line said) h.0 step, (refl, refl), ap (λ xs. xs ++ said) h.1 ∙ sym (append-nil said))
answered_more f (first ∷ body) mid new line before said h step =
    (h.0, h.1, h.2 ++ said, h.3, answered_more h.0 body mid new line h.2 said h.4 step, ap (λ xs. xs ++ said) h.5 ∙ append_assoc h.1 h.2 said)

step_vars : (old new : Formula) (line said : List ℕ) → Step old new line said → new.vars ≡ old.vars
step_vars old new line said (inl h) = ap (λ (f : Formula). f.vars) h.grown
step_vars old new line said (inr h) = ap (λ (f : Formula). f.vars) h.same

step_entry : (old new : Formula) (line said : List ℕ) → Step old new line said → IsEntry old.vars line
step_entry old new line said (inl h) = inl (h.lits, h.says)
step_entry old new line said (inr h) = inr (h.lits, h.asks)

-- each line that is answered has a clause or a question
entries_of : (f : Formula) (body : List (List ℕ)) (new : Formula) (said : List ℕ) → AreAnswered f body new said → All (IsEntry f.vars) body
entries_of f [] new said h = All-nil (IsEntry f.vars)
entries_of f (line ∷ body) new said h =
    All-cons (IsEntry f.vars) line body (step_entry f h.0 line h.1 h.3)
    (subst (λ v. All (IsEntry v) body) (step_vars f h.0 line h.1 h.3) (entries_of h.0 body new h.2 h.4))

-- the lines so far begin as they should
pub told_entries : (text : List (List ℕ)) (solver : Option Formula) (said : List ℕ) → AreTold text solver said → AreEntries (filter is_content text)
told_entries text None said h = subst AreEntries (sym h.0) tt
told_entries text (Some f) said h =
    subst AreEntries (sym h.contents) (f.vars, h.count, h.heads, entries_of (formula_of f.vars []) h.body f said h.answers)

pub blank_told : (text : List (List ℕ)) (line : List ℕ) (solver : Option Formula) (said : List ℕ) → is_content line ≡ false → AreTold text solver said → AreTold (text ++ line ∷ []) solver said
blank_told text line None said e h = (blank_more text line e ∙ h.0, h.1)
blank_told text line (Some f) said e h = record {
  header = h.header;
  body = h.body;
  contents = blank_more text line e ∙ h.contents;
  count = h.count;
  heads = h.heads;
  answers = h.answers;
}

pub header_told : (text : List (List ℕ)) (line : List ℕ) (vars count : ℕ) (said : List ℕ) → is_content line ≡ true → IsHeader line vars count → AreTold text None said → AreTold (text ++ line ∷ []) (Some (formula_of vars [])) said
header_told text line vars count said c e h = record {
  header = line;
  body = [];
  contents = content_more text line c ∙ ap (λ xs. xs ++ line ∷ []) h.0;
  count = count;
  heads = e;
  answers = (refl, h.1);
}

pub header_wanted : (text : List (List ℕ)) (line said : List ℕ) → is_content line ≡ true → ((vars count : ℕ) → IsHeader line vars count → ⊥) → AreTold text None said → AreEntries (filter is_content (text ++ line ∷ [])) → ⊥
header_wanted text line said c none h entries =
    let all = subst AreEntries (content_more text line c ∙ ap (λ xs. xs ++ line ∷ []) h.0) entries in
    none all.0 all.1 all.2

last_of : {A : Type 0} (P : A → Type 0) (xs : List A) (x : A) → AllByRecursion P (xs ++ x ∷ []) → P x
last_of P [] x h = h.0
last_of P (y ∷ xs) x h = last_of P xs x h.1

entry_told : (text : List (List ℕ)) (line : List ℕ) (old new : Formula) (before after : List ℕ) → is_content line ≡ true → IsAnswered old new line before after → AreTold text (Some old) before → AreTold (text ++ line ∷ []) (Some new) after
entry_told text line old new before after c a h = record {
  header = h.header;
  body = h.body ++ line ∷ [];
  contents = content_more text line c ∙ ap (λ xs. xs ++ line ∷ []) h.contents;
  count = h.count;
  heads = subst (λ v. IsHeader h.header v h.count) (sym a.vars) h.heads;
  answers = subst (λ said. AreAnswered (formula_of new.vars []) (h.body ++ line ∷ []) new said) (sym a.told)
      (subst (λ v. AreAnswered (formula_of v []) (h.body ++ line ∷ []) new (before ++ a.said)) (sym a.vars)
      (answered_more (formula_of old.vars []) h.body old new line before a.said h.answers a.step));
}

entry_wanted : (text : List (List ℕ)) (line : List ℕ) (old : Formula) (before : List ℕ) → is_content line ≡ true → (IsEntry old.vars line → ⊥) → AreTold text (Some old) before → AreEntries (filter is_content (text ++ line ∷ [])) → ⊥
entry_wanted text line old before c none h entries =
    let all = subst AreEntries (content_more text line c ∙ ap (λ xs. xs ++ line ∷ []) h.contents) entries in
    let one = one_header h.header all.0 all.1 old.vars h.count all.2 h.heads in
    none (subst (λ v. IsEntry v line) one.0 (last_of (IsEntry all.0) h.body line (recursion_from_All (IsEntry all.0) (h.body ++ line ∷ []) all.3)))

-- what is said to a line with content
pub entry_more : (r : Result Bool Spent) (line : List ℕ) (solver : Option Formula) (old new : Formula) (before after : List ℕ) → solver ≡ Some old → is_content line ≡ true → IfOk r (TakesEntry line old new before after) → IfOk r (TakesTalkLine line solver (Some new) before after)
entry_more (Ok true) line solver old new before after is c h = λ text told. entry_told text line old new before after c h (subst (λ s. AreTold text s before) is told)
entry_more (Ok false) line solver old new before after is c h = λ text told. entry_wanted text line old before c h (subst (λ s. AreTold text s before) is told)
entry_more (Err x) line solver old new before after is c h = tt
