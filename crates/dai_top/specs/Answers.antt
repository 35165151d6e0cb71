-- What the program answers to words that are accepted and the bytes of the file: a status and the texts for its two
-- outputs.
use Rattle.std.specs.Prelude.{◌≡◌, ℕ, ◌<◌, ◌≤◌, List, [], length, Some, None, slice_get}
use Rattle.dai_base.specs.Fault.{fault_text}
use Rattle.dai_base.specs.declared.fault.Fault.{Fault}
use Rattle.dai_base.specs.declared.fault.Fault.TheVariants.{InFile, TooLong}
use Rattle.dai_base.specs.declared.fault.Place.{Place}
use Rattle.dai_model.specs.Protocol.{Protocol, Invariant}
use Rattle.dai_model.specs.Template.{Bounds}
use Rattle.dai_model.specs.Classes.{Class, all_sizes}
use Rattle.dai_model.specs.Answer.{IsEntailed}
use Rattle.dai_model.specs.Report.{IsReport}
use Rattle.dai_front.specs.Files.{IsProtocolIn, IsFaultOf}
use Rattle.dai_print.specs.Counts.{counts_text}
use Rattle.dai_words.specs.declared.settings.Command.TheVariants.{Infer, Space}
use Rattle.dai_words.specs.Words.{Choices}
use Rattle.dai_top.specs.Bounds.{bounds_of}
use Rattle.dai_top.specs.Limits.{fault_of}

pub record Answer : Type 0 where
  pub status : ℕ
  pub out : List ℕ
  pub err : List ℕ

-- status 2, and the line of the fault
abbrev pub refusal : List ℕ → Fault → Answer
refusal name fault = record { status = 2; out = []; err = fault_text name fault }

-- 0 where every invariant of the file follows from the greatest inductive set, 1 where one of them doesn't
pub data IsStatusOf (C : Class) (P : Protocol) (B : Bounds) : ℕ → Type 0 where
  found : ((i : ℕ) (f : Invariant) → slice_get P.invariants i ≡ Some f → IsEntailed C P B f.body) → IsStatusOf C P B 0
  not_found : (i : ℕ) (f : Invariant) → slice_get P.invariants i ≡ Some f → (IsEntailed C P B f.body → ⊥) → IsStatusOf C P B 1

abbrev pub most_bytes : ℕ
most_bytes = 1048576

pub data IsAnswerTo (c : Choices) (bytes : List ℕ) : Answer → Type 0 where
  long_file : most_bytes < length bytes → IsAnswerTo c bytes (refusal c.operand TooLong)
  bad_file : {number : ℕ} {place : Place} → length bytes ≤ most_bytes → IsFaultOf bytes number place → IsAnswerTo c bytes (refusal c.operand (InFile number place))
  bad_choices : {P : Protocol} {fault : Fault} → length bytes ≤ most_bytes → IsProtocolIn bytes P → fault_of c P ≡ Some fault → IsAnswerTo c bytes (refusal c.operand fault)
  counts : {P : Protocol} → length bytes ≤ most_bytes → IsProtocolIn bytes P → fault_of c P ≡ None → c.command ≡ Space
      → IsAnswerTo c bytes (record { status = 0; out = counts_text P (bounds_of P c) c.size; err = [] })
  reports : {P : Protocol} {text : List ℕ} {status : ℕ} → length bytes ≤ most_bytes → IsProtocolIn bytes P → fault_of c P ≡ None → c.command ≡ Infer
      → IsReport all_sizes P (bounds_of P c) text → IsStatusOf all_sizes P (bounds_of P c) status → IsAnswerTo c bytes (record { status = status; out = text; err = [] })
