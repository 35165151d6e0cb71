-- What an outcome says, and how one is made.
use Rattle.std.proofs.Common.{◌≡◌, ◌<◌, ◌≤◌, ℕ, List, length, Option, Some, None, inl, inr, ◌⊎◌, sym, ◌∙◌, ap, subst, refl, arith, Ok, Err}
use Rattle.std.specs.Prelude.{IsSomeAnd, Vec}
use Rattle.std.specs.Global.{Global}
use Rattle.std.specs.Option.{IfSome, IfNone}
use Rattle.dai_base.specs.Count.{Rises}
use Rattle.dai_base.specs.Files.{Holdings, IsReadOf, IsBlindRead}
use Rattle.dai_base.specs.Sink.{Appends}
use Rattle.dai_base.specs.declared.files.ReadError.{ReadError}
use Rattle.dai_base.specs.declared.files.ReadError.TheVariants.{Missing, TooLong, Failed}
use Rattle.dai_words.specs.Words.{Choices}
use Rattle.dai_top.specs.Answers.{Answer}
use Rattle.dai_top.specs.Outcome.{IsTold, IsUnread, faulty, unheld, IsOutcome, IsAnswerFrom, answers, is_long, is_unread, IsAllowed, refuses, accepts, TellsUnread, read_line}
use Rattle.dai_top.proofs.OneAnswer.{refused_or_done}

-- a name that is missing, a read that failed, and a file that is too long
missing_unread : (held : Option Holdings) (name : List ℕ) (limit before now : ℕ) → IfSome held (λ files. IsReadOf (files name) limit before now (Err Missing)) → IfNone held (IsBlindRead before now (Err Missing)) → IsUnread held name before now
missing_unread None name limit before now told untold = faulty untold
missing_unread (Some files) name limit before now told untold = unheld refl told.0

failed_unread : (held : Option Holdings) (name : List ℕ) (limit before now : ℕ) → IfSome held (λ files. IsReadOf (files name) limit before now (Err Failed)) → IfNone held (IsBlindRead before now (Err Failed)) → IsUnread held name before now
failed_unread None name limit before now told untold = faulty untold
failed_unread (Some files) name limit before now told untold = faulty told

too_long : (held : Option Holdings) (name : List ℕ) (limit before now : ℕ) → IfSome held (λ files. IsReadOf (files name) limit before now (Err TooLong)) → IfSome held (λ files. IsSomeAnd (files name) (λ bytes. limit < length bytes))
too_long None name limit before now told = tt
too_long (Some files) name limit before now told = told.0

-- what was read is held
pub read_held : (held : Option Holdings) (limit before now : ℕ) (name operand : List ℕ) (bytes : Vec ℕ Global) (slice : List ℕ) → name ≡ operand → slice ≡ bytes.items
    → IfSome held (λ files. IsReadOf (files name) limit before now (Ok bytes)) → IfSome held (λ files. files operand ≡ Some slice)
read_held None limit before now name operand bytes slice same is told = tt
read_held (Some files) limit before now name operand bytes slice same is told = ap files (sym same) ∙ (told ∙ ap Some (sym is))

-- what a read says of a name
pub record IsRead (held : Option Holdings) (name : List ℕ) (limit before now : ℕ) (error : ReadError) : Type 0 where
  pub told : IfSome held (λ files. IsReadOf (files name) limit before now (Err error))
  pub untold : IfNone held (IsBlindRead before now (Err error))

module _ (held : Option Holdings) (limit before now : ℕ) (error : ReadError) (name operand : List ℕ) where
  pub unread_by_missing : error ≡ Missing → name ≡ operand → IsRead held name limit before now error → IsUnread held operand before now
  unread_by_missing is same read =
      let R : ReadError → Type 0 = λ e. IsRead held name limit before now e in
      let U : List ℕ → Type 0 = λ n. IsUnread held n before now in
      let here = subst R is read in
      subst U same (missing_unread held name limit before now here.told here.untold)

  pub unread_by_failure : error ≡ Failed → name ≡ operand → IsRead held name limit before now error → IsUnread held operand before now
  unread_by_failure is same read =
      let R : ReadError → Type 0 = λ e. IsRead held name limit before now e in
      let U : List ℕ → Type 0 = λ n. IsUnread held n before now in
      let here = subst R is read in
      subst U same (failed_unread held name limit before now here.told here.untold)

  pub long_by_refusal : error ≡ TooLong → name ≡ operand → IsRead held name limit before now error → IfSome held (λ files. IsSomeAnd (files operand) (λ bytes. limit < length bytes))
  long_by_refusal is same read =
      let R : ReadError → Type 0 = λ e. IsRead held name limit before now e in
      let U : List ℕ → Type 0 = λ n. IfSome held (λ files. IsSomeAnd (files n) (λ bytes. limit < length bytes)) in
      let here = subst R is read in
      subst U same (too_long held name limit before now here.told)

module _ (out_stays err_stays : Type 0) (on_out on_err : List ℕ → ℕ → Type 0) (status : ℕ) where
  pub outcome_weaker : (A B : Answer → Type 0) → ((x : Answer) → A x → B x) → IsOutcome A out_stays err_stays on_out on_err status → IsOutcome B out_stays err_stays on_out on_err status
  outcome_weaker A B step (inl (x, (allowed, put))) = inl (x, (step x allowed, put))
  outcome_weaker A B step (inr h) = inr h

-- the status of an answer that is allowed
at_most_two : (c : Choices) (held : Option Holdings) (before now : ℕ) (x : Answer) → IsAnswerFrom c held before now x → x.status ≤ 3
at_most_two c held before now x (answers {bytes} {x = y} there is) = by_status (refused_or_done c bytes y is)
  where
    by_status : (y.status ≡ 2) ⊎ (y.status ≤ 1) → y.status ≤ 3
    by_status (inl e) = omega (arith, e)
    by_status (inr e) = omega (arith, e)
at_most_two c held before now x (is_long long) = omega arith
at_most_two c held before now x (is_unread u) = omega arith

pub low_status_allowed : (words : List (List ℕ)) (held : Option Holdings) (before now : ℕ) (x : Answer) → IsAllowed words held before now x → x.status ≤ 3
low_status_allowed words held before now x (refuses r) = omega arith
low_status_allowed words held before now x (accepts {c} {x = y} read from) = at_most_two c held before now y from

-- status 4 comes of a put that failed
told_four : (text : List ℕ) (wanted : ℕ) (old new : Option (List ℕ)) (before now status : ℕ) → wanted ≤ 3 → IsTold text wanted old new before now status → status ≡ 4 → Rises before now
told_four text wanted old new before now status low (inl h) four = let e = h.0 in absurd (omega (arith, low, e, four))
told_four text wanted old new before now status low (inr (inl h)) four = h.1
told_four text wanted old new before now status low (inr (inr h)) four = let e = h.0 in absurd (omega (arith, e, four))

-- a status of at most 3 is the one that was wanted
told_low : (text : List ℕ) (wanted : ℕ) (old new : Option (List ℕ)) (before now status : ℕ) → status ≤ 3 → IsTold text wanted old new before now status → (status ≡ wanted) × Appends old new text
told_low text wanted old new before now status low (inl h) = h
told_low text wanted old new before now status low (inr (inl h)) = let e = h.0 in absurd (omega (arith, low, e))
told_low text wanted old new before now status low (inr (inr h)) = let e = h.0 in absurd (omega (arith, low, e))

module _ (words : List (List ℕ)) (held : Option Holdings) (before now : ℕ) (out_stays err_stays : Type 0) (out_old out_new err_old err_new : Option (List ℕ)) (out_before out_now err_before err_now status : ℕ) where
  pub unput_by : IsOutcome (IsAllowed words held before now) out_stays err_stays (λ text s. IsTold text s out_old out_new out_before out_now status) (λ text s. IsTold text s err_old err_new err_before err_now status) status
      → status ≡ 4 → (err_stays × Rises out_before out_now) ⊎ (out_stays × Rises err_before err_now)
  unput_by (inl (x, (allowed, inl (high, stays, told)))) four =
      inr (stays, told_four x.err x.status err_old err_new err_before err_now status (low_status_allowed words held before now x allowed) told four)
  unput_by (inl (x, (allowed, inr (low, stays, told)))) four =
      inl (stays, told_four x.out x.status out_old out_new out_before out_now status (low_status_allowed words held before now x allowed) told four)
  unput_by (inr h) four = let e = h.0 in absurd (omega (arith, e, four))

  pub unread_answer : (c : Choices) (x : Answer) → IsAnswerFrom c held before now x → x.status ≡ 3 → IsUnread held c.operand before now × (x.err ≡ read_line c.operand)
  unread_answer c x (answers {bytes} {x = y} there is) three = absurd (by_status (refused_or_done c bytes y is))
    where
      by_status : (y.status ≡ 2) ⊎ (y.status ≤ 1) → ⊥
      by_status (inl e) = omega (arith, e, three)
      by_status (inr e) = omega (arith, e, three)
  unread_answer c x (is_long long) three = absurd (omega (arith, three))
  unread_answer c x (is_unread u) three = (u, refl)

  unread_told : (x : Answer) → IsAllowed words held before now x → x.status ≡ 3 → Appends err_old err_new x.err → TellsUnread words held before now err_old err_new
  unread_told x (refuses r) three told = absurd (omega (arith, three))
  unread_told x (accepts {c} {x = y} read from) three told =
      let u = unread_answer c y from three in
      record { choices = c; accepted = read; unread = u.0; told = subst (Appends err_old err_new) u.1 told }

  pub unread_by : IsOutcome (IsAllowed words held before now) out_stays err_stays (λ text s. IsTold text s out_old out_new out_before out_now status) (λ text s. IsTold text s err_old err_new err_before err_now status) status
      → status ≡ 3 → out_stays × TellsUnread words held before now err_old err_new
  unread_by (inl (x, (allowed, inl (high, stays, told)))) three =
      let here = told_low x.err x.status err_old err_new err_before err_now status (omega (arith, three)) told in
      (stays, unread_told x allowed (sym here.0 ∙ three) here.1)
  unread_by (inl (x, (allowed, inr (low, stays, told)))) three =
      let here = (told_low x.out x.status out_old out_new out_before out_now status (omega (arith, three)) told).0 in
      absurd (omega (arith, low, here, three))
  unread_by (inr h) three = let e = h.0 in absurd (omega (arith, e, three))
