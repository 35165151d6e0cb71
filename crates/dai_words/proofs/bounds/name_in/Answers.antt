use Rattle.std.proofs.Common.{ℕ, List, sym, ◌∙◌, ap}
use Rattle.dai_words.proofs.Parts.{bound_is, whole_is_no_bound}
use Rattle.dai_words.proofs.bounds.name_in.Goals as goal

pub unreachable-requires : goal.unreachable-requires
unreachable-requires c = let whole = whole_is_no_bound c.args.part.now c.in-None.ensures.whole in let bound = c.requires in let e : ⊥ = cc in e

pub returns : goal.returns
returns c = c.name_before.ensures ∙ sym (ap (λ (b : List ℕ × ℕ). b.0) (bound_is c.args.part.now c.in-Some.at c.in-Some.ensures.cut c.requires))
