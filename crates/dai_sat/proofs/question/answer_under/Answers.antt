use Rattle.std.proofs.Common.{◌<◌, ◌/◌, ℕ, List, length, get_or, sym, subst}
use Rattle.dai_trail.proofs.Encodings.{code_below}
use Rattle.dai_sat.proofs.question.answer_under.Goals as goal

pub search-requires-clause-below : goal.search-requires-clause-below
search-requires-clause-below c =
    let P : List ℕ → Type 0 = λ xs. (k : ℕ) → k < length xs → get_or xs k 0 / 2 < c.args.cnf.now.vars in
    subst P (sym c.in_ok-encode.ensures) (λ k l. code_below c.args.cnf.now.vars c.args.assumptions.now k c.requires.below l)
