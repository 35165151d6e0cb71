-- What is asked at once, and which premises a core needs.
use Rattle.std.proofs.Common.{◌≡◌, ◌<◌, ◌≤◌, ◌+◌, ◌++◌, ◌&&◌, ◌⊎◌, inl, inr, ℕ, zero, suc, Bool, true, false, not, List, [], ◌∷◌, length, map, get_or, refl, ap, sym, ◌∙◌, subst, arith, rules, Option, Some, None}
use Rattle.std.specs.Prelude.{slice_get}
use Rattle.std.specs.List.{All, Contains, cons_option}
use Rattle.std.proofs.lemmas.Bool.{not-true, cases_lt}
use Rattle.std.proofs.lemmas.Option.{slice_get_within, get_or_from_slice_get}
use Rattle.std.proofs.lemmas.List.Elements.{All-head, All-tail, All-push, All-same, Contains-push, Contains-append_left}
use Rattle.dai_model.specs.Formula as Model
use Rattle.dai_model.specs.Protocol.{Protocol}
use Rattle.dai_model.specs.Structure.{Structure}
use Rattle.dai_model.specs.Value.{value_of, empty_environment, Satisfies}
use Rattle.dai_model.proofs.Below.{slice_get-some}
use Rattle.dai_trail.specs.Formula.{Formula, AreMetBy}
use Rattle.dai_circuit.specs.declared.bit.Bit.{Bit}
use Rattle.dai_circuit.specs.Circuits.{Extends, AreBitsBelow, IsBitBelow, all_value, bit_value, negation_of}
use Rattle.dai_circuit.proofs.Values.{value-negation, below-negation}
use Rattle.dai_picture.specs.Pictures.{Shows}
use Rattle.dai_ground.specs.Answers.{picked}
use Rattle.dai_inquiry.specs.declared.asked.Asked.{Asked}
use Rattle.dai_inquiry.specs.declared.inquiry.Pictures.{Pictures}
use Rattle.dai_inquiry.specs.declared.truths.Pick.{Pick}
use Rattle.dai_inquiry.specs.Truths.{IsTruth, IsPick}
use Rattle.dai_inquiry.specs.Asked.{AreAsked, IsCovered, parts_of}
use Rattle.dai_inquiry.proofs.Bits.{truth_extended, pick_extended}

-- what stands at a place among images is the image of what stands there
image_at : {X Y : Type 0} (g : X → Y) (xs : List X) (i : ℕ) (y : Y) → slice_get (map g xs) i ≡ Some y → (x : X) × (slice_get xs i ≡ Some x) × (g x ≡ y)
image_at g [] i y h = absurd (let e : ⊥ = cc in e)
image_at g (x ∷ xs) zero y h = (x, refl, let e : g x ≡ y = cc in e)
image_at g (x ∷ xs) (suc i) y h = image_at g xs i y h

rest_picked : (Q : Model.Formula → Type 0) (o : Option Model.Formula) (fs : List Model.Formula) → All Q (cons_option o fs) → All Q fs
rest_picked Q None fs all = all
rest_picked Q (Some f) fs all = All-tail Q f fs all

-- what all premises of some numbers have, each of them has
met_picked : (Q : Model.Formula → Type 0) (premises : List Model.Formula) (numbers : List ℕ) (i k : ℕ) (f : Model.Formula) → All Q (picked premises numbers) → i < length numbers → get_or numbers i k ≡ k → slice_get premises k ≡ Some f → Q f
met_picked Q premises [] i k f all below is at = absurd (omega (arith, below))
met_picked Q premises (n ∷ numbers) zero k f all below is at =
    All-head Q f (picked premises numbers) (subst (λ o. All Q (cons_option o (picked premises numbers))) (ap (slice_get premises) is ∙ at) all)
met_picked Q premises (n ∷ numbers) (suc i) k f all below is at =
    met_picked Q premises numbers i k f (rest_picked Q (slice_get premises n) (picked premises numbers) all) (omega (arith, below)) is at

module _ (P : Protocol) (p : Pictures) (premises : List Model.Formula) (f : Model.Formula) where
  pub asked_below : (g : Formula) (a : Asked) → AreAsked P p premises f g a → AreBitsBelow g.vars (parts_of a)
  asked_below g a h = λ k d below. by_place k d below
    where
      by_place : (k : ℕ) (d : Bit) → k < length (parts_of a) → IsBitBelow g.vars (get_or (parts_of a) k d)
      by_place zero d below = below-negation g.vars a.goal h.goal.below
      by_place (suc k) d below = of_picks a.premises.items h.each k d (omega (arith, below))
        where
          of_picks : (picks : List Pick) → All (IsPick P p.frame p.before premises g) picks → (k : ℕ) (d : Bit) → k < length (map (λ (pick : Pick). pick.bit) picks) → IsBitBelow g.vars (get_or (map (λ (pick : Pick). pick.bit) picks) k d)
          of_picks [] all k d inside = absurd (omega (arith, inside))
          of_picks (pick ∷ picks) all zero d inside = bit_below g pick (All-head (IsPick P p.frame p.before premises g) pick picks all)
            where
              bit_below : (g : Formula) (pick : Pick) → IsPick P p.frame p.before premises g pick → IsBitBelow g.vars pick.bit
              bit_below g pick is = let own = slice_get-some premises pick.number is.inside in (is.truth own.0 own.1).below
          of_picks (pick ∷ picks) all (suc k) d inside = of_picks picks (All-tail (IsPick P p.frame p.before premises g) pick picks all) k d (omega (arith, inside))

  -- where all is as it is asked for, the goal is broken
  pub goal_broken : (g : Formula) (a : Asked) (bits : List Bool) (t : Structure) → AreAsked P p premises f g a → AreMetBy g bits → Shows P p.frame p.after bits t → all_value (parts_of a) bits ≡ true → value_of t empty_environment f ≡ false
  goal_broken g a bits t h met shows on =
      let first : bit_value bits (negation_of a.goal) ≡ true = and_first (bit_value bits (negation_of a.goal)) _ on in
      sym (h.goal.same bits t met shows) ∙ not-true (bit_value bits a.goal) (sym (value-negation bits a.goal) ∙ first)
    where
      and_first : (x y : Bool) → (x && y) ≡ true → x ≡ true
      and_first true y e = refl
      and_first false y e = e

  -- where the goal is broken and the premises of the core are met, the bits of the core are true
  pub core_true : (g : Formula) (a : Asked) (core : List Bool) (numbers : List ℕ) (bits : List Bool) (s t : Structure) → AreAsked P p premises f g a → ((i : ℕ) → i < length a.premises.items → IsCovered a.premises.items core numbers i) → AreMetBy g bits → Shows P p.frame p.before bits s → Shows P p.frame p.after bits t → value_of t empty_environment f ≡ false → All (Satisfies s) (picked premises numbers) → (i : ℕ) (part : Bit) → slice_get (parts_of a) i ≡ Some part → slice_get core i ≡ Some true → bit_value bits part ≡ true
  core_true g a core numbers bits s t h covered met before after is_false all zero part at flag =
      let same : negation_of a.goal ≡ part = cc in
      ap (bit_value bits) (sym same) ∙ (value-negation bits a.goal ∙ ap not (h.goal.same bits t met after ∙ is_false))
  core_true g a core numbers bits s t h covered met before after is_false all (suc i) part at flag =
      let picks = a.premises.items in
      let one = image_at (λ (pick : Pick). pick.bit) picks i part at in
      let below = slice_get_within picks i one.0 one.1 in
      let place : suc i ≡ i + 1 = omega arith in
      let named = covered i below one.0 one.1 (subst (λ k. slice_get core k ≡ Some true) place flag) in
      let pick : IsPick P p.frame p.before premises g one.0 = subst (IsPick P p.frame p.before premises g) (get_or_from_slice_get picks i one.0 one.0 one.1) (h.each i one.0 below) in
      let own = slice_get-some premises one.0.number pick.inside in
      let holds : Satisfies s own.0 = met_picked (Satisfies s) premises numbers named.0 one.0.number own.0 all named.1 named.2 own.1 in
      let there : value_of s empty_environment own.0 ≡ true = search (rules, holds) in
      ap (bit_value bits) (sym one.2) ∙ ((pick.truth own.0 own.1).same bits s met before ∙ there)

  pub asked_extended : (a b : Formula) (asked : Asked) → Extends a b → AreAsked P p premises f a asked → AreAsked P p premises f b asked
  asked_extended a b asked e h = record {
    goal = truth_extended P p.frame p.after f a b asked.goal e h.goal;
    each = λ k d below. pick_extended P p.frame p.before premises a b _ e (h.each k d below);
  }

  -- with one premise more
  pub asked_pushed : (g : Formula) (old new : Asked) (pick : Pick) → new.goal ≡ old.goal → new.premises.items ≡ old.premises.items ++ pick ∷ [] → AreAsked P p premises f g old → IsPick P p.frame p.before premises g pick → AreAsked P p premises f g new
  asked_pushed g old new pick same more h is = record {
    goal = subst (λ bit. IsTruth P p.frame p.after f g bit) (sym same) h.goal;
    each = All-same (IsPick P p.frame p.before premises g) new.premises.items (old.premises.items ++ pick ∷ []) more (All-push (IsPick P p.frame p.before premises g) old.premises.items pick h.each is);
  }

module _ (picks : List Pick) (core : List Bool) where
  -- one more premise is among the numbers
  pub covered_more : (old new : List ℕ) (place number : ℕ) → new ≡ old ++ number ∷ [] → ((pick : Pick) → slice_get picks place ≡ Some pick → pick.number ≡ number) → ((i : ℕ) → i < place → IsCovered picks core old i) → (i : ℕ) → i < place + 1 → IsCovered picks core new i
  covered_more old new place number is own each i below pick at flag = subst (λ xs. Contains xs pick.number) (sym is) (by_order (cases_lt i place))
    where
      by_order : (i < place) ⊎ (place ≤ i) → Contains (old ++ number ∷ []) pick.number
      by_order (inl before) = Contains-append_left old (number ∷ []) pick.number (each i before pick at flag)
      by_order (inr after) =
          let same : i ≡ place = omega (arith, below) in
          subst (Contains (old ++ number ∷ [])) (sym (own pick (subst (λ k. slice_get picks k ≡ Some pick) same at))) (Contains-push old number)

  -- one more premise isn't in the core
  pub covered_past : (numbers : List ℕ) (place : ℕ) → (slice_get core (place + 1) ≡ Some true → ⊥) → ((i : ℕ) → i < place → IsCovered picks core numbers i) → (i : ℕ) → i < place + 1 → IsCovered picks core numbers i
  covered_past numbers place off each i below pick at flag = by_order (cases_lt i place)
    where
      by_order : (i < place) ⊎ (place ≤ i) → Contains numbers pick.number
      by_order (inl before) = each i before pick at flag
      by_order (inr after) =
          let same : i ≡ place = omega (arith, below) in
          absurd (off (subst (λ k. slice_get core (k + 1) ≡ Some true) same flag))
