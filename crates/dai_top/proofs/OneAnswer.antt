-- Words and bytes have one answer at most.
use Rattle.std.proofs.Common.{◌≡◌, ◌<◌, ◌≤◌, ℕ, List, [], length, Option, Some, None, Result, Ok, Err, inl, inr, ◌⊎◌, sym, ◌∙◌, ap, subst, refl, arith}
use Rattle.dai_base.specs.declared.fault.Fault.{Fault}
use Rattle.dai_base.specs.declared.fault.Fault.TheVariants.{InFile, TooLong}
use Rattle.dai_base.specs.declared.fault.Place.{Place}
use Rattle.dai_model.specs.Protocol.{Protocol}
use Rattle.dai_model.specs.Template.{Bounds}
use Rattle.dai_model.specs.Classes.{Class, all_sizes}
use Rattle.dai_model.specs.Report.{IsReport}
use Rattle.dai_model.proofs.OneAnswer.{one_report}
use Rattle.std.specs.Result.{IfOk}
use Rattle.dai_front.specs.declared.error.ReadError.{ReadError}
use Rattle.dai_front.specs.declared.error.ReadError.TheVariants as Read
use Rattle.dai_front.specs.Refusals.{IsReadError}
use Rattle.dai_front.specs.Files.{IsProtocolIn, IsFaultOf}
use Rattle.dai_print.specs.Counts.{counts_text}
use Rattle.dai_words.specs.declared.settings.Command.TheVariants.{Infer, Space}
use Rattle.dai_words.specs.Words.{Choices}
use Rattle.dai_top.specs.declared.answers.Answer.{Answer as Given}
use Rattle.dai_top.specs.declared.stop.Stop.{Stop}
use Rattle.dai_top.specs.Stops.{IsStop, stop_of, answer_of}
use Rattle.dai_top.specs.Bounds.{bounds_of}
use Rattle.dai_top.specs.Limits.{fault_of}
use Rattle.dai_top.specs.Answers.{Answer, refusal, IsStatusOf, found, not_found, IsAnswerTo, long_file, bad_file, bad_choices, counts, reports}

-- bytes have at most one verdict
pub record OneVerdict : Type 0 where
  pub fault : (bytes : List ℕ) (n m : ℕ) (p q : Place) → IsFaultOf bytes n p → IsFaultOf bytes m q → (n ≡ m) × (p ≡ q)
  pub protocol : (bytes : List ℕ) (P Q : Protocol) → IsProtocolIn bytes P → IsProtocolIn bytes Q → P ≡ Q
  pub never_both : (bytes : List ℕ) (P : Protocol) (n : ℕ) (p : Place) → IsProtocolIn bytes P → IsFaultOf bytes n p → ⊥

none_some : {A B : Type 0} (o q : Option A) (a : A) → o ≡ q → o ≡ None → q ≡ Some a → B
none_some o q a same h k = absurd (let e : ⊥ = cc in e)

-- the fault of one protocol, and none of the same
apart : OneVerdict → (c : Choices) (bytes : List ℕ) (P Q : Protocol) (f : Fault) → IsProtocolIn bytes P → IsProtocolIn bytes Q → fault_of c P ≡ None → fault_of c Q ≡ Some f → ⊥
apart law c bytes P Q f h k none some = none_some (fault_of c P) (fault_of c Q) f (ap (fault_of c) (law.protocol bytes P Q h k)) none some

pub one_status : (C : Class) (P : Protocol) (B : Bounds) (n m : ℕ) → IsStatusOf C P B n → IsStatusOf C P B m → n ≡ m
one_status C P B n m (found h) (found k) = refl
one_status C P B n m (found h) (not_found i f at fails) = absurd (fails (h i f at))
one_status C P B n m (not_found i f at fails) (found h) = absurd (fails (h i f at))
one_status C P B n m (not_found i f at fails) (not_found j g there refutes) = refl

pub low_status : (C : Class) (P : Protocol) (B : Bounds) (n : ℕ) → IsStatusOf C P B n → n ≤ 1
low_status C P B n (found h) = omega arith
low_status C P B n (not_found i f at fails) = omega arith

-- the counts and the report are asked for by different commands
other_command : {A : Type 0} (c : Choices) → c.command ≡ Infer → c.command ≡ Space → A
other_command c h k = let e : Infer ≡ Space = sym h ∙ k in absurd (let f : ⊥ = cc in f)

pub one_answer : OneVerdict → (c : Choices) (bytes : List ℕ) (x y : Answer) → IsAnswerTo c bytes x → IsAnswerTo c bytes y → x ≡ y
one_answer law c bytes x y (long_file h) (long_file k) = refl
one_answer law c bytes x y (long_file h) (bad_file short f) = absurd (omega arith)
one_answer law c bytes x y (long_file h) (bad_choices short p f) = absurd (omega arith)
one_answer law c bytes x y (long_file h) (counts short p none command) = absurd (omega arith)
one_answer law c bytes x y (bad_file short f) (long_file k) = absurd (omega arith)
one_answer law c bytes x y (bad_file {number} {place} short f) (bad_file {number = other} {place = there} few g) =
    let same = law.fault bytes number other place there f g in λ i. refusal c.operand (InFile (same.0 i) (same.1 i))
one_answer law c bytes x y (bad_file {number} {place} short f) (bad_choices {P} few p g) = absurd (law.never_both bytes P number place p f)
one_answer law c bytes x y (bad_file {number} {place} short f) (counts {P} few p none command) = absurd (law.never_both bytes P number place p f)
one_answer law c bytes x y (bad_choices short p f) (long_file k) = absurd (omega arith)
one_answer law c bytes x y (bad_choices {P} short p f) (bad_file {number} {place} few g) = absurd (law.never_both bytes P number place p g)
one_answer law c bytes x y (bad_choices {P} {fault} short p f) (bad_choices {P = Q} {fault = other} few q g) =
    let same = ap (fault_of c) (law.protocol bytes P Q p q) in
    let e : fault ≡ other = cc in
    ap (refusal c.operand) e
one_answer law c bytes x y (bad_choices {P} {fault} short p f) (counts {P = Q} few q none command) = absurd (apart law c bytes Q P fault q p none f)
one_answer law c bytes x y (counts short p none command) (long_file k) = absurd (omega arith)
one_answer law c bytes x y (counts {P} short p none command) (bad_file {number} {place} few g) = absurd (law.never_both bytes P number place p g)
one_answer law c bytes x y (counts {P} short p none command) (bad_choices {P = Q} {fault} few q f) = absurd (apart law c bytes P Q fault p q none f)
one_answer law c bytes x y (counts {P} short p none command) (counts {P = Q} few q nothing again) =
    λ i. record { status = 0; out = counts_text (law.protocol bytes P Q p q i) (bounds_of (law.protocol bytes P Q p q i) c) c.size; err = [] }
one_answer law c bytes x y (long_file h) (reports short p none command text status) = absurd (omega arith)
one_answer law c bytes x y (bad_file {number} {place} short f) (reports {P} few p none command text status) = absurd (law.never_both bytes P number place p f)
one_answer law c bytes x y (bad_choices {P} {fault} short p f) (reports {P = Q} few q none command text status) = absurd (apart law c bytes Q P fault q p none f)
one_answer law c bytes x y (counts short p none command) (reports few q nothing again text status) = other_command c again command
one_answer law c bytes x y (reports short p none command text status) (long_file k) = absurd (omega arith)
one_answer law c bytes x y (reports {P} short p none command text status) (bad_file {number} {place} few g) = absurd (law.never_both bytes P number place p g)
one_answer law c bytes x y (reports {P} short p none command text status) (bad_choices {P = Q} {fault} few q f) = absurd (apart law c bytes P Q fault p q none f)
one_answer law c bytes x y (reports short p none command text status) (counts few q nothing again) = other_command c command again
one_answer law c bytes x y (reports {P} {text} {status} short p none command is_text is_status) (reports {P = Q} {text = other} {status = next} few q nothing again other_text other_status) =
    let same = law.protocol bytes Q P q p in
    let text_here = subst (λ (R : Protocol). IsReport all_sizes R (bounds_of R c) other) same other_text in
    let status_here = subst (λ (R : Protocol). IsStatusOf all_sizes R (bounds_of R c) next) same other_status in
    let texts = one_report all_sizes P (bounds_of P c) text other is_text text_here in
    let statuses = one_status all_sizes P (bounds_of P c) status next is_status status_here in
    λ i. record { status = statuses i; out = texts i; err = [] }

-- a file that is too long has one answer
pub long_answer : (c : Choices) (bytes : List ℕ) (x : Answer) → 1048576 < length bytes → IsAnswerTo c bytes x → refusal c.operand TooLong ≡ x
long_answer c bytes x long (long_file h) = refl
long_answer c bytes x long (bad_file short f) = absurd (omega arith)
long_answer c bytes x long (bad_choices short p f) = absurd (omega arith)
long_answer c bytes x long (counts short p none command) = absurd (omega arith)
long_answer c bytes x long (reports short p none command text status) = absurd (omega arith)

-- what is done on a protocol without a fault is the answer
pub done_on : (c : Choices) (bytes : List ℕ) (P : Protocol) → length bytes ≤ 1048576 → IsProtocolIn bytes P → (c.command ≡ Infer) ⊎ (c.command ≡ Space) → (r : Result Given Stop) → IfOk r (λ _. fault_of c P ≡ None)
    → IfOk r (λ a. c.command ≡ Infer → IsReport all_sizes P (bounds_of P c) a.out.items × IsStatusOf all_sizes P (bounds_of P c) a.status)
    → IfOk r (λ a. c.command ≡ Space → (a.status ≡ 0) × (a.out.items ≡ counts_text P (bounds_of P c) c.size)) → IfOk r (λ a. IsAnswerTo c bytes (answer_of a))
done_on c bytes P short p command (Err e) none reported counted = tt
done_on c bytes P short p (inl infer) (Ok a) none reported counted = let (text, status) = reported infer in reports short p none infer text status
done_on c bytes P short p (inr space) (Ok a) none reported counted =
    let (status, text) = counted space in
    let whole : IsAnswerTo c bytes (record { status = 0; out = counts_text P (bounds_of P c) c.size; err = [] }) = counts short p none space in
    let same : record { status = 0; out = counts_text P (bounds_of P c) c.size; err = [] } ≡ answer_of a = λ i. record { status = sym status i; out = sym text i; err = [] } in
    subst (IsAnswerTo c bytes) same whole

pub stopped_by : (c : Choices) (bytes : List ℕ) (e : ReadError) → length bytes ≤ 1048576 → IsReadError bytes e → IsStop c bytes (stop_of e)
stopped_by c bytes (Read.Bad number place) short h = (bad_file short h.fault, h.listed)
stopped_by c bytes Read.Spent short h = tt

-- an answer refuses or is done
pub refused_or_done : (c : Choices) (bytes : List ℕ) (x : Answer) → IsAnswerTo c bytes x → (x.status ≡ 2) ⊎ (x.status ≤ 1)
refused_or_done c bytes x (long_file h) = inl refl
refused_or_done c bytes x (bad_file short f) = inl refl
refused_or_done c bytes x (bad_choices short p f) = inl refl
refused_or_done c bytes x (counts short p none command) = inr (omega arith)
refused_or_done c bytes x (reports {P} {status} short p none command text is) = inr (low_status all_sizes P (bounds_of P c) status is)
