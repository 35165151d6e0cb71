use Rattle.std.proofs.Common.{refl, [], ◌∷◌}
use Rattle.dai_logic.specs.declared.structure.BlockId.TheVariants.{Init, Act}
use Rattle.dai_logic.specs.Sample.{begin, connect, turn, go, ask}
use Rattle.dai_logic.proofs.Samples.{sample_call}
use Rattle.dai_logic.proofs.tests.executes_blocks.Goals as goal

pub leaves-requires-clause-call : goal.leaves-requires-clause-call
leaves-requires-clause-call g c = λ P s e two. sample_call P s Init begin [] [] e two refl refl refl

pub leaves-requires-2-clause-call : goal.leaves-requires-2-clause-call
leaves-requires-2-clause-call g c = λ P s e two. sample_call P s (Act 0) connect (0 ∷ 1 ∷ []) [] e two refl refl refl

pub leaves-requires-3-clause-call : goal.leaves-requires-3-clause-call
leaves-requires-3-clause-call g c = λ P s e two. sample_call P s (Act 0) connect (1 ∷ 1 ∷ []) [] e two refl refl refl

pub leaves-requires-4-clause-call : goal.leaves-requires-4-clause-call
leaves-requires-4-clause-call g c = λ P s e two. sample_call P s (Act 1) turn [] [] e two refl refl refl

pub leaves-requires-5-clause-call : goal.leaves-requires-5-clause-call
leaves-requires-5-clause-call g c = λ P s e two. sample_call P s (Act 2) go (1 ∷ []) (0 ∷ []) e two refl refl refl

pub leaves-requires-6-clause-call : goal.leaves-requires-6-clause-call
leaves-requires-6-clause-call g c = λ P s e two. sample_call P s (Act 2) go (1 ∷ []) (0 ∷ []) e two refl refl refl

pub leaves-requires-7-clause-call : goal.leaves-requires-7-clause-call
leaves-requires-7-clause-call g c = λ P s e two. sample_call P s (Act 3) ask [] [] e two refl refl refl

pub leaves-requires-8-clause-call : goal.leaves-requires-8-clause-call
leaves-requires-8-clause-call g c = λ P s e two. sample_call P s (Act 3) ask [] [] e two refl refl refl
