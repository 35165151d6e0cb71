-- What is held, where that is told, and what a status says.
use Rattle.std.proofs.Common.{◌≡◌, ℕ, List, Option, Some, None, inl, inr, subst}
use Rattle.std.specs.Prelude.{IsSomeAnd}
use Rattle.std.specs.Option.{IfSome}
use Rattle.dai_base.specs.Sink.{Appends}
use Rattle.dai_top.specs.Outcome.{IsTold}

pub at_some : {A : Type 0} (Q : A → Type 0) (o : Option A) (x : A) → IfSome o Q → o ≡ Some x → Q x
at_some Q o x h e = let P : Option _ → Type 0 = λ o. IfSome o Q in subst P e h

pub some_and : {A : Type 0} (P Q : A → Type 0) (o : Option A) → ((x : A) → P x → Q x) → IsSomeAnd o P → IsSomeAnd o Q
some_and P Q None step h = h
some_and P Q (Some x) step h = step x h

pub told_two : (text : List ℕ) (old new : Option (List ℕ)) (before now status : ℕ) → IsTold text 2 old new before now status → status ≡ 2 → Appends old new text
told_two text old new before now status (inl h) two = h.1
told_two text old new before now status (inr (inl h)) two = let e = h.0 in absurd (let f : ⊥ = cc in f)
told_two text old new before now status (inr (inr h)) two = let e = h.0 in absurd (let f : ⊥ = cc in f)
