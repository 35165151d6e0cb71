use Rattle.dai_lex.proofs.Unique.{one_list, one_place, not_both}
use Rattle.dai_lex.proofs.law.one_reading.Goals as goal

pub returns : goal.returns
returns c = λ bytes. record { tokens = one_list bytes; place = one_place bytes; apart = not_both bytes }
