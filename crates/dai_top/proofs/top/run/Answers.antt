use Rattle.std.proofs.Common.{arith, ◌≡◌, ◌<◌, ℕ, List, length, Option, Err, inl, inr, refl, sym, ◌∙◌, ap, subst, ⊎_elim}
use Rattle.std.specs.Prelude.{IsSomeAnd}
use Rattle.dai_base.specs.Fault.{fault_text}
use Rattle.dai_base.specs.Files.{Holdings, IsReadOf}
use Rattle.dai_base.specs.Sink.{Appends}
use Rattle.dai_base.specs.declared.fault.Fault.TheVariants.{TooLong}
use Rattle.dai_base.specs.declared.files.ReadError.{ReadError}
use Rattle.dai_top.specs.Answers.{Answer, refusal, IsAnswerTo, long_file}
use Rattle.dai_top.specs.Outcome.{IsTold, IsAnswerFrom, answers, is_long, is_unread, unreadable, read_line}
use Rattle.dai_top.proofs.Outcomes.{IsRead, unread_by_missing, unread_by_failure, long_by_refusal, outcome_weaker, read_held}
use Rattle.dai_top.proofs.Held.{at_some, some_and, told_two}
use Rattle.dai_words.specs.Readings.{choices_of}
use Rattle.dai_top.proofs.OneAnswer.{refused_or_done, long_answer}
use Rattle.dai_top.proofs.Puts.{part_none}
use Rattle.dai_top.proofs.top.run.Goals as goal

pub returns-in-Err-TooLong-clause-refused : goal.returns-in-Err-TooLong-clause-refused
returns-in-Err-TooLong-clause-refused g c = λ two.
    let name = c.as_str-name.ensures.value in
    let choices = choices_of c.args.settings.now in
    let L : List ℕ → Type 0 = λ n. Appends (g.E.Sink.written c.args.err.now) (g.E.Sink.written c.tell.new.sink) (fault_text n TooLong) in (
      refl,
      record {
        fault = TooLong;
        listed = tt;
        is = λ files e.
            let Q : Holdings → Type 0 = λ held. IsReadOf (held c.as_str-name.result.now) 1048576 (g.F.Files.faults c.args.files.now) (g.F.Files.faults c.read_all.new.self) (Err c.in-Err-TooLong.field-0) in
            let read = at_some Q (g.F.Files.held c.args.files.now) files c.in-Err-TooLong.ensures.told e in
            let R : ReadError → Type 0 = λ error. IsReadOf (files c.as_str-name.result.now) 1048576 (g.F.Files.faults c.args.files.now) (g.F.Files.faults c.read_all.new.self) (Err error) in
            let long = subst R c.in-Err-TooLong.field-0-is read in
            let S : Option (List ℕ) → Type 0 = λ o. IsSomeAnd o (λ bytes. IsAnswerTo choices bytes (refusal choices.operand TooLong)) in
            subst S (ap files name) (some_and (λ bytes. 1048576 < length bytes) (λ bytes. IsAnswerTo choices bytes (refusal choices.operand TooLong)) (files c.as_str-name.result.now) (λ bytes h. long_file h) long.0);
        told = subst L name (told_two (fault_text c.as_str-name.result.now TooLong) _ _ _ _ c.tell.result c.tell.ensures two);
      },
    )

pub returns-in-Err-TooLong-clause-answered : goal.returns-in-Err-TooLong-clause-answered
returns-in-Err-TooLong-clause-answered g c = λ held bytes x told there h.
    let name = c.as_str-name.ensures.value in
    let choices = choices_of c.args.settings.now in
    let Q : Holdings → Type 0 = λ files. IsReadOf (files c.as_str-name.result.now) 1048576 (g.F.Files.faults c.args.files.now) (g.F.Files.faults c.read_all.new.self) (Err c.in-Err-TooLong.field-0) in
    let read = at_some Q (g.F.Files.held c.args.files.now) held c.in-Err-TooLong.ensures.told told in
    let R : ReadError → Type 0 = λ error. IsReadOf (held c.as_str-name.result.now) 1048576 (g.F.Files.faults c.args.files.now) (g.F.Files.faults c.read_all.new.self) (Err error) in
    let long = (subst R c.in-Err-TooLong.field-0-is read).0 in
    let S : Option (List ℕ) → Type 0 = λ o. IsSomeAnd o (λ bytes. 1048576 < length bytes) in
    let same = long_answer choices bytes x (subst S (ap held name ∙ there) long) h in
    let T : List ℕ → Type 0 = λ text. IsTold text 2 (g.E.Sink.written c.args.err.now) (g.E.Sink.written c.tell.new.sink) (g.E.Sink.faults c.args.err.now) (g.E.Sink.faults c.tell.new.sink) c.tell.result in
    inl (sym (ap (λ (y : Answer). y.status) same), refl, subst T (ap (λ n. fault_text n TooLong) name ∙ ap (λ (y : Answer). y.err) same) c.tell.ensures)

pub returns-in-Err-Spent-clause-answered : goal.returns-in-Err-Spent-clause-answered
returns-in-Err-Spent-clause-answered g c = λ held bytes x told there h.
    ⊎_elim (λ two. inl (two, refl, inr (inr (refl, part_none (g.E.Sink.written c.args.err.now) x.err)))) (λ low. inr (inl (low, refl, inr (inr (refl, part_none (g.O.Sink.written c.args.out.now) x.out)))))
    (refused_or_done (choices_of c.args.settings.now) bytes x h)

pub returns-in-Ok-clause-outcome : goal.returns-in-Ok-clause-outcome
returns-in-Ok-clause-outcome g c =
    let held = g.F.Files.held c.args.files.now in
    let before = g.F.Files.faults c.args.files.now in
    let now = g.F.Files.faults c.read_all.new.self in
    let choices = choices_of c.args.settings.now in
    let there = read_held held 1048576 before now c.as_str-name.result.now choices.operand c.in-Ok.bytes c.as_slice.result.now c.as_str-name.ensures.value c.as_slice.ensures.value c.in-Ok.ensures.told in
    outcome_weaker (c.run_on.new.out ≡ c.args.out.now) (c.run_on.new.err ≡ c.args.err.now)
    (λ text status. IsTold text status (g.O.Sink.written c.args.out.now) (g.O.Sink.written c.run_on.new.out) (g.O.Sink.faults c.args.out.now) (g.O.Sink.faults c.run_on.new.out) c.run_on.result)
    (λ text status. IsTold text status (g.E.Sink.written c.args.err.now) (g.E.Sink.written c.run_on.new.err) (g.E.Sink.faults c.args.err.now) (g.E.Sink.faults c.run_on.new.err) c.run_on.result)
    c.run_on.result (IsAnswerTo choices c.as_slice.result.now) (IsAnswerFrom choices held before now) (λ x is. answers there is) c.run_on.ensures.outcome

pub returns-in-Err-TooLong-clause-outcome : goal.returns-in-Err-TooLong-clause-outcome
returns-in-Err-TooLong-clause-outcome g c =
    let name = c.as_str-name.ensures.value in
    let operand = (choices_of c.args.settings.now).operand in
    let read : IsRead (g.F.Files.held c.args.files.now) c.as_str-name.result.now 1048576 (g.F.Files.faults c.args.files.now) (g.F.Files.faults c.read_all.new.self) c.in-Err-TooLong.field-0 = record { told = c.in-Err-TooLong.ensures.told; untold = c.in-Err-TooLong.ensures.untold } in
    let long = long_by_refusal (g.F.Files.held c.args.files.now) 1048576 (g.F.Files.faults c.args.files.now) (g.F.Files.faults c.read_all.new.self) c.in-Err-TooLong.field-0 c.as_str-name.result.now operand c.in-Err-TooLong.field-0-is name read in
    let T : List ℕ → Type 0 = λ text. IsTold text 2 (g.E.Sink.written c.args.err.now) (g.E.Sink.written c.tell.new.sink) (g.E.Sink.faults c.args.err.now) (g.E.Sink.faults c.tell.new.sink) c.tell.result in
    inl (refusal operand TooLong, (is_long long, inl (omega arith, refl, subst T (ap (λ n. fault_text n TooLong) name) c.tell.ensures)))

pub returns-in-Err-Missing-clause-outcome : goal.returns-in-Err-Missing-clause-outcome
returns-in-Err-Missing-clause-outcome g c =
    let name = c.as_str-name.ensures.value in
    let operand = (choices_of c.args.settings.now).operand in
    let read : IsRead (g.F.Files.held c.args.files.now) c.as_str-name.result.now 1048576 (g.F.Files.faults c.args.files.now) (g.F.Files.faults c.read_all.new.self) c.in-Err-Missing.field-0 = record { told = c.in-Err-Missing.ensures.told; untold = c.in-Err-Missing.ensures.untold } in
    let unread = unread_by_missing (g.F.Files.held c.args.files.now) 1048576 (g.F.Files.faults c.args.files.now) (g.F.Files.faults c.read_all.new.self) c.in-Err-Missing.field-0 c.as_str-name.result.now operand c.in-Err-Missing.field-0-is name read in
    let T : List ℕ → Type 0 = λ text. IsTold text 3 (g.E.Sink.written c.args.err.now) (g.E.Sink.written c.tell_unreadable.new.sink) (g.E.Sink.faults c.args.err.now) (g.E.Sink.faults c.tell_unreadable.new.sink) c.tell_unreadable.result in
    inl (unreadable operand, (is_unread unread, inl (omega arith, refl, subst T (ap read_line name) c.tell_unreadable.ensures)))

pub returns-in-Err-Failed-clause-outcome : goal.returns-in-Err-Failed-clause-outcome
returns-in-Err-Failed-clause-outcome g c =
    let name = c.as_str-name.ensures.value in
    let operand = (choices_of c.args.settings.now).operand in
    let read : IsRead (g.F.Files.held c.args.files.now) c.as_str-name.result.now 1048576 (g.F.Files.faults c.args.files.now) (g.F.Files.faults c.read_all.new.self) c.in-Err-Failed.field-0 = record { told = c.in-Err-Failed.ensures.told; untold = c.in-Err-Failed.ensures.untold } in
    let unread = unread_by_failure (g.F.Files.held c.args.files.now) 1048576 (g.F.Files.faults c.args.files.now) (g.F.Files.faults c.read_all.new.self) c.in-Err-Failed.field-0 c.as_str-name.result.now operand c.in-Err-Failed.field-0-is name read in
    let T : List ℕ → Type 0 = λ text. IsTold text 3 (g.E.Sink.written c.args.err.now) (g.E.Sink.written c.tell_unreadable-in-Err-Failed.new.sink) (g.E.Sink.faults c.args.err.now) (g.E.Sink.faults c.tell_unreadable-in-Err-Failed.new.sink) c.tell_unreadable-in-Err-Failed.result in
    inl (unreadable operand, (is_unread unread, inl (omega arith, refl, subst T (ap read_line name) c.tell_unreadable-in-Err-Failed.ensures)))
