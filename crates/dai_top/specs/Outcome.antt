-- What the words and the files allow a call to answer, and how an answer is put to the outputs.
use Rattle.std.specs.Prelude.{◌≡◌, ℕ, ◌<◌, ◌≤◌, ◌⊎◌, List, [], ◌++◌, length, codes, Option, Some, None, IsSomeAnd, Ok, Err}
use Rattle.std.specs.Option.{IfSome}
use Rattle.dai_base.specs.Count.{Rises}
use Rattle.dai_base.specs.Sink.{Appends, AppendsPart}
use Rattle.dai_base.specs.Files.{Holdings}
use Rattle.dai_base.specs.Fault.{IsListed, fault_text}
use Rattle.dai_base.specs.declared.fault.Fault.{Fault}
use Rattle.dai_base.specs.declared.fault.Fault.TheVariants.{Words, TooLong}
use Rattle.dai_words.specs.Refusals.{Refusal}
use Rattle.dai_words.specs.Words.{Choices, settings_of}
use Rattle.dai_top.specs.Answers.{Answer, refusal, most_bytes, IsAnswerTo}

-- Where a text is to be put with a status: it was put whole, with that status; or the sink's count of faults
-- rose and some part was put, with status 4; or memory ran out, some part was put, with status 5.
abbrev pub IsTold : List ℕ → ℕ → Option (List ℕ) → Option (List ℕ) → ℕ → ℕ → ℕ → Type 0
IsTold text wanted old new before now status =
    ((status ≡ wanted) × Appends old new text) ⊎ (((status ≡ 4) × Rises before now × AppendsPart old new text) ⊎ ((status ≡ 5) × AppendsPart old new text))

-- the line of a refused word
abbrev pub words_line : Refusal → List ℕ
words_line r = fault_text [] (Words r.number r.word)

-- that the file can't be read
abbrev pub read_line : List ℕ → List ℕ
read_line name = name ++ codes ": cannot be read\n"

-- the line of a fault that refuses these bytes
pub record TellsRefusalOf (bytes : List ℕ) (c : Choices) (old new : Option (List ℕ)) : Type 0 where
  pub fault : Fault
  pub listed : IsListed fault
  pub is : IsAnswerTo c bytes (refusal c.operand fault)
  pub told : Appends old new (fault_text c.operand fault)

-- the same of the bytes that are held under the name, where that is told, and else of some bytes
pub record TellsRefusal (held : Option Holdings) (c : Choices) (old new : Option (List ℕ)) : Type 0 where
  pub fault : Fault
  pub listed : IsListed fault
  pub is : (files : Holdings) → held ≡ Some files → IsSomeAnd (files c.operand) (λ bytes. IsAnswerTo c bytes (refusal c.operand fault))
  pub told : Appends old new (fault_text c.operand fault)

-- why a file isn't read: the count of faults rose, or it is told what is held and the name isn't
pub data IsUnread (held : Option Holdings) (name : List ℕ) (before now : ℕ) : Type 0 where
  faulty : Rises before now → IsUnread held name before now
  unheld : {files : Holdings} → held ≡ Some files → files name ≡ None → IsUnread held name before now

-- status 3, and the line that says so
abbrev pub unreadable : List ℕ → Answer
unreadable name = record { status = 3; out = []; err = read_line name }

-- What words that are accepted allow this call to answer, with the count of faults of the files before and now. Where
-- it isn't told what is held, the bytes under the name may be any.
pub data IsAnswerFrom (c : Choices) (held : Option Holdings) (before now : ℕ) : Answer → Type 0 where
  answers : {bytes : List ℕ} {x : Answer} → IfSome held (λ files. files c.operand ≡ Some bytes) → IsAnswerTo c bytes x → IsAnswerFrom c held before now x
  is_long : IfSome held (λ files. IsSomeAnd (files c.operand) (λ bytes. most_bytes < length bytes)) → IsAnswerFrom c held before now (refusal c.operand TooLong)
  is_unread : IsUnread held c.operand before now → IsAnswerFrom c held before now (unreadable c.operand)

-- what these words allow
pub data IsAllowed (words : List (List ℕ)) (held : Option Holdings) (before now : ℕ) : Answer → Type 0 where
  refuses : {r : Refusal} → settings_of words ≡ Err r → IsAllowed words held before now (record { status = 2; out = []; err = words_line r })
  accepts : {c : Choices} {x : Answer} → settings_of words ≡ Ok c → IsAnswerFrom c held before now x → IsAllowed words held before now x

-- The answer is put to the one output for which it has a text, and the other is as it was.
abbrev pub IsPut : Answer → Type 0 → Type 0 → (List ℕ → ℕ → Type 0) → (List ℕ → ℕ → Type 0) → Type 0
IsPut x out_stays err_stays on_out on_err = ((2 ≤ x.status) × out_stays × on_err x.err x.status) ⊎ ((x.status ≤ 1) × err_stays × on_out x.out x.status)

-- Some answer that is allowed is put, or memory ran out before there was one.
abbrev pub IsOutcome : (Answer → Type 0) → Type 0 → Type 0 → (List ℕ → ℕ → Type 0) → (List ℕ → ℕ → Type 0) → ℕ → Type 0
IsOutcome allowed out_stays err_stays on_out on_err status =
    ((x : Answer) × (allowed x × IsPut x out_stays err_stays on_out on_err)) ⊎ ((status ≡ 5) × out_stays × err_stays)

-- The words name a file that isn't read, and its line is told.
pub record TellsUnread (words : List (List ℕ)) (held : Option Holdings) (before now : ℕ) (old new : Option (List ℕ)) : Type 0 where
  pub choices : Choices
  pub accepted : settings_of words ≡ Ok choices
  pub unread : IsUnread held choices.operand before now
  pub told : Appends old new (read_line choices.operand)
