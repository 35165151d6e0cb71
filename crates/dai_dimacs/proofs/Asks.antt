-- The words of one clause.
use Rattle.std.proofs.Common.{◌≡◌, ◌^◌, ◌<◌, ℕ, Option, MatchOption, Vec, List, get_or, [], ◌∷◌, ◌++◌, length, map, Some, ap, sym, ◌∙◌, subst, arith}
use Rattle.std.proofs.lemmas.List.{length-map, map-append, append-nil}
use Rattle.std.specs.declared.alloc.Global.{Global}
use Rattle.dai_sat.specs.declared.answer.Outcome.{Outcome}
use Rattle.dai_sat.specs.declared.answer.Outcome.TheVariants.{Model, Unsat}
use Rattle.dai_trail.specs.declared.cnf.Lit.{Lit}
use Rattle.dai_sat.specs.Under.{IsOutcomeOf}
use Rattle.dai_trail.specs.Formula.{Formula, IsBelow}
use Rattle.dai_dimacs.specs.declared.tokens.Token.TheVariants.{Literal}
use Rattle.dai_dimacs.specs.Tokens.{token_of}
use Rattle.dai_dimacs.specs.Files.{runs}
use Rattle.dai_dimacs.specs.Drafts.{AreWordsOf, AreNoFront, AreReadInto}
use Rattle.dai_dimacs.specs.Talks.{IsClauseOf, AreNamable}
use Rattle.dai_dimacs.specs.Inquiries.{AreNoClause}
use Rattle.dai_dimacs.proofs.Runs.{nothing_behind}

pub lits_below : (vars : ℕ) (ws : List (List ℕ)) (lits : List Lit) → IsClauseOf vars ws lits → IsBelow vars lits
lits_below vars ws lits h = h.below 0 [] (omega arith)

-- words with a front that is refused are those of no clause
pub no_clause : (vars : ℕ) (whole front rest : List (List ℕ)) → whole ≡ front ++ rest → AreNoFront vars 1 front → AreNoClause vars whole
no_clause vars whole front rest e none lits h = none rest (lits ∷ []) (subst (AreWordsOf vars 1 (lits ∷ [])) e h)

-- behind the last clause there is nothing
pub nothing_more : (count : ℕ) (ws more : List (List ℕ)) (f : Formula) (missing : ℕ) (part : List Lit) (cs : List (List Lit)) → missing ≡ 0 → AreReadInto count ws f missing part → AreWordsOf f.vars count cs (ws ++ more) → length more ≡ 0
nothing_more count ws more f missing part cs none h w =
    let read : map token_of ws ≡ map Some (runs f.clauses) = h.reads ∙ ap (map Some) (ap (λ xs. runs f.clauses ++ map Literal xs) (h.closed none) ∙ append-nil (runs f.clauses)) in
    let k : map token_of more ≡ [] = nothing_behind f.clauses cs (map token_of more) (ap (λ xs. xs ++ map token_of more) (sym read) ∙ sym (map-append token_of ws more) ∙ w.reads) (omega (arith, h.counted, w.counted)) in
    sym (length-map more token_of) ∙ ap length k

-- the clause that was found, at the variables of the formula
pub found : (vars : ℕ) (ws : List (List ℕ)) (o : Option (Vec Lit Global)) (v : Vec Lit Global) (slice : List Lit) (g f : Formula) → o ≡ Some v → slice ≡ v.items → vars ≡ g.vars → g ≡ f → MatchOption o (AreNoClause vars ws) (λ l. IsClauseOf vars ws l.items) → IsClauseOf f.vars ws slice
found vars ws o v slice g f is items same view h =
    let e : vars ≡ f.vars = same ∙ ap (λ (x : Formula). x.vars) view in
    subst (IsClauseOf f.vars ws) (sym items) (subst (λ n. IsClauseOf n ws v.items) e (subst (λ x. MatchOption x (AreNoClause vars ws) (λ l. IsClauseOf vars ws l.items)) is h))

-- the literals that an outcome names have numbers that fit
pub namable : (f : Formula) (lits : List Lit) (o : Outcome) → f.vars < 2 ^ 64 → IsBelow f.vars lits → IsOutcomeOf f lits o → AreNamable o
namable f lits (Model bits) fits below h = tt
namable f lits (Unsat names) fits below h = λ k d l.
    let name = get_or names.items k d in
    let among = h.0 k d l in
    let small : name.var < f.vars = subst (λ (x : Lit). x.var < f.vars) among.2 (below among.0 name among.1) in
    omega (arith, small, fits)
