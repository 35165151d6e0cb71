use Rattle.dai_model.specs.Value.{empty_environment}
use Rattle.dai_model.specs.WellSorted.{closed_scope}
use Rattle.dai_cut.proofs.SmallModel.{closed_named}
use Rattle.dai_cut.proofs.Restricted.{restricted, free_restricted, universal_restricted, existential_restricted, witnessed_restricted}
use Rattle.dai_cut.proofs.laws.formulas_are_restricted.Goals as goal

pub returns-clause-relativised : goal.returns-clause-relativised
returns-clause-relativised c = λ P scope small large maps own other at f w even. restricted P scope small large maps even own other f (record { structure = at.structure; embedding = at.embedding }) (record { fits = at.fits; images = at.images }) w

pub returns-clause-free : goal.returns-clause-free
returns-clause-free c = λ P scope small large maps own other at f w. free_restricted P scope small large maps own other f (record { structure = at.structure; embedding = at.embedding }) (record { fits = at.fits; images = at.images }) w

pub returns-clause-universal : goal.returns-clause-universal
returns-clause-universal c = λ P scope small large maps own other at f w. universal_restricted P scope small large maps own other f (record { structure = at.structure; embedding = at.embedding }) (record { fits = at.fits; images = at.images }) w

pub returns-clause-existential : goal.returns-clause-existential
returns-clause-existential c = λ P scope small large maps own other at f w. existential_restricted P scope small large maps own other f (record { structure = at.structure; embedding = at.embedding }) (record { fits = at.fits; images = at.images }) w

pub returns-clause-exists_forall : goal.returns-clause-exists_forall
returns-clause-exists_forall c = λ P scope small large maps own other at f w. witnessed_restricted P scope small large maps own other f (record { structure = at.structure; embedding = at.embedding }) (record { fits = at.fits; images = at.images }) w

pub returns-clause-sentence : goal.returns-clause-sentence
returns-clause-sentence c = λ P small large maps st em f w. universal_restricted P closed_scope small large maps empty_environment empty_environment f (record { structure = st; embedding = em }) (closed_named small maps) w
