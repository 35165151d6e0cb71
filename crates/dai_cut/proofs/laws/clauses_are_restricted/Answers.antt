use Rattle.dai_cut.proofs.Cuts.{numbered_placements, cut_value}
use Rattle.dai_cut.proofs.Placed.{image_placements, clause_same, placed_by, meets_restricted}
use Rattle.dai_cut.specs.Embedding.{image_of_placement}
use Rattle.dai_cut.proofs.laws.clauses_are_restricted.Goals as goal

pub returns-clause-placements : goal.returns-clause-placements
returns-clause-placements c = λ P small large maps em counts elements p. image_placements P small large maps counts elements em p

pub returns-clause-values : goal.returns-clause-values
returns-clause-values c = λ P B small large maps st em d t elements p. clause_same P B small large maps d elements (image_of_placement P maps elements) (record { structure = st; embedding = em }) t (placed_by P small maps d.counts elements t.one_count_each p)

pub returns-clause-meets : goal.returns-clause-meets
returns-clause-meets c = λ P B small large maps st em d t. meets_restricted P B small large maps d (record { structure = st; embedding = em }) t

pub returns-clause-numbered : goal.returns-clause-numbered
returns-clause-numbered c = numbered_placements

pub returns-clause-cut : goal.returns-clause-cut
returns-clause-cut c = cut_value
