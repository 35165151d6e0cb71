use Rattle.std.proofs.Common.{◌≡◌, [], ◌∷◌}
use Rattle.dai_syntax.specs.Symbols.{v_declarations}
use Rattle.dai_syntax.proofs.Leading.{one_reading}
use Rattle.dai_syntax.proofs.law.one_file.Goals as goal

pub returns : goal.returns
returns c = λ bytes tokens ds es d e. let same : (v_declarations ds ∷ []) ≡ (v_declarations es ∷ []) = one_reading bytes 200 d e in cc
