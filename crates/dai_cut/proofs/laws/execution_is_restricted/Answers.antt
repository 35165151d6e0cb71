use Rattle.dai_cut.proofs.Executed.{code_left}
use Rattle.dai_cut.proofs.Cuts.{places_inside, block_left}
use Rattle.dai_cut.specs.Embedding.{is_image}
use Rattle.dai_cut.proofs.laws.execution_is_restricted.Goals as goal

pub returns-clause-embedded : goal.returns-clause-embedded
returns-clause-embedded c = λ P scope small large t maps own other code at w direct wit h.
    let left = code_left P scope maps own other (is_image small maps) code small large t (record { structure = at.structure; embedding = at.embedding }) (record { fits = at.fits; images = at.images }) (record { covers = λ sort d below k. k }) w direct wit h in
    (left.after, left.leaves, left.stand.structure, left.stand.embedding)

pub returns-clause-elements : goal.returns-clause-elements
returns-clause-elements c = λ P s small chosen sorts es st is h k. places_inside P s chosen small sorts es st is h k

pub returns-clause-cut : goal.returns-clause-cut
returns-clause-cut c = λ P block s t small chosen arguments choices w direct st is given picked given_chosen picked_chosen wit h.
    let left = block_left P block s t chosen small arguments choices w direct st is given picked given_chosen picked_chosen wit h in
    (left.after, left.leaves, left.is_cut)
