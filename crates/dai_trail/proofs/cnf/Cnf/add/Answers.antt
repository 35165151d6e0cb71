use Rattle.std.proofs.Common.{◌≡◌, ◌<◌, ◌/◌, ◌++◌, ◌∷◌, [], ℕ, List, map, length, get_or, ap, sym, ◌∙◌, subst}
use Rattle.dai_trail.specs.Formula.{IsBelow, formula_of}
use Rattle.dai_trail.specs.Codes.{lit_of, code_of, AreBelow}
use Rattle.dai_trail.proofs.Encodings.{clauses-push, code_below, below_push}
use Rattle.dai_trail.proofs.cnf.Cnf.add.Goals as goal

pub invariant_of-self-2 : goal.invariant_of-self-2
invariant_of-self-2 c =
    let e : c.add.new.self ≡ c.self.inside.lists ++ c.as_slice.result.now ∷ [] = c.in_ok-add.ensures.ok in
    let codes : c.as_slice.result.now ≡ map code_of c.args.lits.now = c.as_slice.ensures.value ∙ c.in_ok-encode.ensures in
    let P : List (List ℕ) → Type 0 = λ db. AreBelow c.self.inside.count db in
    let Q : List ℕ → Type 0 = λ xs. (k : ℕ) → k < length xs → get_or xs k 0 / 2 < c.self.inside.count in
    let R : ℕ → Type 0 = λ count. IsBelow count c.args.lits.now in
    let below = subst R (sym (ap (λ f. f.vars) c.self.view_is)) c.requires in
    subst P (sym e) (below_push c.self.inside.count c.self.inside.lists c.as_slice.result.now c.self.invariant
    (subst Q (sym codes) (λ k l. code_below c.self.inside.count c.args.lits.now k below l)))

pub returns-clause-ok : goal.returns-clause-ok
returns-clause-ok c =
    let e : c.add.new.self ≡ c.self.inside.lists ++ c.as_slice.result.now ∷ [] = c.in_ok-add.ensures.ok in
    let codes : c.as_slice.result.now ≡ map code_of c.args.lits.now = c.as_slice.ensures.value ∙ c.in_ok-encode.ensures in
    ap (λ db. formula_of c.self.inside.count (map (map lit_of) db)) e
    ∙ ap (λ clauses. formula_of c.self.inside.count clauses) (clauses-push c.self.inside.lists c.as_slice.result.now c.args.lits.now codes)
    ∙ ap (λ f. formula_of f.vars (f.clauses ++ c.args.lits.now ∷ [])) c.self.view_is
