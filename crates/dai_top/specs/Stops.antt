-- What a stop says of the words and the bytes.
use Rattle.std.specs.Prelude.{ℕ, List, []}
use Rattle.dai_base.specs.Fault.{IsListed}
use Rattle.dai_base.specs.declared.fault.Fault.{Fault as OuterFault}
use Rattle.dai_base.specs.declared.fault.Fault.TheVariants.{InFile, Limit}
use Rattle.dai_base.specs.declared.fault.LimitKind.{LimitKind}
use Rattle.dai_base.specs.declared.fault.LimitKind.TheVariants.{Atoms, Templates}
use Rattle.dai_template.specs.declared.space.SpaceError.{SpaceError}
use Rattle.dai_template.specs.declared.space.SpaceError.TheVariants as Spaces
use Rattle.dai_front.specs.declared.error.ReadError.{ReadError}
use Rattle.dai_front.specs.declared.error.ReadError.TheVariants as Read
use Rattle.dai_words.specs.Words.{Choices}
use Rattle.dai_top.specs.declared.stop.Stop.{Stop}
use Rattle.dai_top.specs.declared.stop.Stop.TheVariants.{Fault, Spent}
use Rattle.dai_top.specs.declared.answers.Answer.{Answer}
use Rattle.dai_top.specs.Answers.{Answer as Meaning, IsAnswerTo, refusal}

abbrev pub stop_of : ReadError → Stop
stop_of (Read.Bad number at) = Fault (InFile number at)
stop_of Read.Spent = Spent

-- this fault, if it is one
abbrev pub IsFaultThat : (OuterFault → Type 0) → Stop → Type 0
IsFaultThat P (Fault fault) = P fault × IsListed fault
IsFaultThat P Spent = Unit {0}

-- the refusal is the answer
abbrev pub IsStop : Choices → List ℕ → Stop → Type 0
IsStop c bytes stop = IsFaultThat (λ fault. IsAnswerTo c bytes (refusal c.operand fault)) stop

abbrev pub stop_at : ℕ → LimitKind → ℕ → Stop
stop_at number kind count = Fault (Limit number kind count)

abbrev pub space_stop : SpaceError → Stop
space_stop (Spaces.Atoms count) = stop_at 40 Atoms count
space_stop (Spaces.Templates count) = stop_at 40 Templates count
space_stop Spaces.Spent = Spent

-- what is put to the output
abbrev pub answer_of : Answer → Meaning
answer_of a = record { status = a.status; out = a.out.items; err = [] }
