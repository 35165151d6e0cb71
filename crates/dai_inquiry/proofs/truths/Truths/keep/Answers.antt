use Rattle.std.proofs.Common.{◌∷◌, [], ◌++◌, sym, subst}
use Rattle.std.proofs.lemmas.List.Elements.{All-push, All-same}
use Rattle.dai_template.specs.ClauseFormulas.{formula_of_clause}
use Rattle.dai_inquiry.specs.declared.truths.Truth.{Truth}
use Rattle.dai_inquiry.specs.Keys.{clause_in}
use Rattle.dai_inquiry.specs.Truths.{IsTruth}
use Rattle.dai_inquiry.proofs.truths.Truths.keep.Goals as goal

pub returns : goal.returns
returns c = λ P frame picture clauses truths is.
    let new : Truth = record { key = c.in_ok-key.key; bit = c.args.bit } in
    let here = subst (λ d. IsTruth P frame picture (formula_of_clause P d) clauses c.args.bit) (sym c.in_ok-key.ensures) is in
    All-same (λ (t : Truth). IsTruth P frame picture (formula_of_clause P (clause_in t.key)) clauses t.bit) c.push.new.self.items (c.args.self.now.kept.items ++ new ∷ []) c.in_ok-push.ensures.items
    (All-push (λ (t : Truth). IsTruth P frame picture (formula_of_clause P (clause_in t.key)) clauses t.bit) c.args.self.now.kept.items new truths here)
