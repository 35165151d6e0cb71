-- The clauses with one literal more are immediate weakenings, and the immediate weakenings with more literals are their
-- renamings.
use Rattle.std.proofs.Common.{◌≡◌, ◌≢◌, ◌<◌, ◌≤◌, ◌+◌, ◌-◌, ◌*◌, ◌/◌, ℕ, List, [], ◌∷◌, length, get_or, sym, ap, ◌∙◌, refl, subst, arith, inl, inr, ◌⊎◌}
use Rattle.std.specs.Prelude.{slice_index, sum}
use Rattle.std.specs.List.{Contains}
use Rattle.std.proofs.lemmas.Bool.{cases_lt, cases_eq}
use Rattle.std.proofs.lemmas.List.{get_or_default}
use Rattle.dai_model.specs.Protocol.{Protocol}
use Rattle.dai_model.specs.Placement.{ArePlacements}
use Rattle.dai_model.specs.Clause.{Clause, Literal, atoms_of, literals_of, literal_among, no_atom}
use Rattle.dai_model.specs.Template.{Bounds, IsTemplate}
use Rattle.dai_model.specs.Subsumption.{image_of, image_of_atom, Subsumes, IsRenaming}
use Rattle.dai_model.specs.Weakening.{rank_of, IsImmediateWeakening}
use Rattle.dai_model.proofs.Below.{half_below, literal_inside, below-refl, below-trans}
use Rattle.dai_model.proofs.Counting.{left_out, hits_each}
use Rattle.dai_model.proofs.MovedAtoms.{atom_moved, named_moved, same_atom}
use Rattle.dai_model.proofs.Ranks.{literal_at, literal_there, literal_place, same_atom_place, target, targeted, targets, same_literals, below_again, is_renaming}
use Rattle.dai_model.proofs.NumberedLiterals.{literal_named, numbers_of}
use Rattle.dai_model.proofs.OneCanonical.{same_rank, renamed_back}
use Rattle.dai_model.proofs.FewerLiterals as Fewer
use Rattle.dai_model.proofs.FewerLiterals.{widened, widened_cases, widened_inside, shorter}
use Rattle.dai_template.specs.Renamings.{put_in_order}
use Rattle.dai_template.proofs.Within.{Among, among_at, contained}
use Rattle.dai_template.proofs.Ways.{All-from_Each}
use Rattle.dai_template.proofs.InOrder.{IsAtomBefore, AreApart, put_each, put_length, put_all_among, put_all_rising, each_from, rising_from, rising_at}
use Rattle.dai_order.specs.Weakenings.{with_literal, IsNewAtom, HasLiteralBelow, IsWeakerByLiteral}

pub with_template : (P : Protocol) (B : Bounds) (c : Clause) (l : ℕ) → IsTemplate P B c → length c.literals < B.literals → l < 2 * length (atoms_of P c.counts) → IsNewAtom c.literals (l / 2) → IsTemplate P B (with_literal c l)
with_template P B c l t room inside is_new = record {
  one_count_each = t.one_count_each;
  few_variables = t.few_variables;
  few_literals = let e = put_length l c.literals in omega (arith, e, room);
  of_the_shape = All-from_Each (λ n. n < 2 * length (atoms_of P c.counts)) (put_in_order l c.literals) (put_each (λ n. n < 2 * length (atoms_of P c.counts)) l c.literals inside (each_from (λ n. n < 2 * length (atoms_of P c.counts)) c.literals (λ i below. t.of_the_shape i 0 below)));
  each_atom_once = λ i j before below. rising_at IsAtomBefore (put_in_order l c.literals) i j before below (put_all_rising (l ∷ []) c.literals (rising_from IsAtomBefore c.literals (λ i j before below. t.each_atom_once i j before below)) (tt, tt) (each_from (AreApart l) c.literals (λ i below e. is_new i below (sym e)), tt));
}

numbered : (P : Protocol) (e : Clause) (x : ℕ) → Among x e.literals → Contains (literals_of P e) (literal_among (atoms_of P e.counts) x)
numbered P e x h =
    let w = contained x e.literals h in
    subst (λ y. Contains (literals_of P e) (literal_among (atoms_of P e.counts) y)) (sym (get_or_default e.literals w.0 x 0 w.1) ∙ w.2) (literal_there P e w.0 w.1)

kept : (P : Protocol) (c : Clause) (l : ℕ) (x : Literal) → Contains (literals_of P c) x → Contains (literals_of P (with_literal c l)) x
kept P c l x h =
    let own = literal_place P c x h in
    let n = slice_index c.literals h.0 in
    subst (Contains (literals_of P (with_literal c l))) own.is (numbered P (with_literal c l) n (put_all_among n (l ∷ []) c.literals (inr (among_at n c.literals h.0 own.below (get_or_default c.literals h.0 n 0 own.below)))))

with_weakening : (P : Protocol) (B : Bounds) (c : Clause) (l : ℕ) → IsTemplate P B (with_literal c l) → IsImmediateWeakening P B c (with_literal c l)
with_weakening P B c l u =
    let r = below-refl P B (with_literal c l) u in
    record {
      template = u;
      below = record { injection = r.injection; places = r.places; literals = λ x h. r.literals x (kept P c l x h) };
      one_more = let e = put_length l c.literals in omega (arith, e);
    }

pub renamed_weakening : (P : Protocol) (B : Bounds) (c e d : Clause) → IsTemplate P B c → IsTemplate P B d → IsImmediateWeakening P B c e → IsRenaming P e d → IsImmediateWeakening P B c d
renamed_weakening P B c e d t u w r = record {
  template = u;
  below = below-trans P B c e d t w.below r.permuted;
  one_more = sym (same_rank P e d r) ∙ w.one_more;
}

pub literal_weaker : (P : Protocol) (B : Bounds) (c d : Clause) (atoms : ℕ) → IsTemplate P B c → IsTemplate P B d → length c.literals < B.literals → atoms ≤ length (atoms_of P c.counts) → HasLiteralBelow P c atoms d → IsWeakerByLiteral P B c d
literal_weaker P B c d atoms t u room few h =
    let over = h.has.over in
    let below = h.below in
    let inside : h.has.literal < 2 * length (atoms_of P c.counts) = omega (arith, over, below, few) in
    let is_new = subst (IsNewAtom c.literals) (sym over) h.has.is_new in
    let longer = with_template P B c h.has.literal t room inside is_new in
    record {
      weakening = renamed_weakening P B c (with_literal c h.has.literal) d t u (with_weakening P B c h.has.literal longer) h.has.renaming;
      more = let e = put_length h.has.literal c.literals in let k = h.has.renaming.as_many_literals in omega (arith, e, k);
    }

-- a literal more has no room where the clause is full
pub literal_too_many : (P : Protocol) (B : Bounds) (c d : Clause) → B.literals ≤ length c.literals → IsTemplate P B d → IsWeakerByLiteral P B c d → ⊥
literal_too_many P B c d full u w = let more = w.more in let few = u.few_literals in let none : ⊥ = omega (arith, full, more, few) in none

-- b is d without its literal at the place, and is below c, which has as many literals
module _ (P : Protocol) (B : Bounds) (c d b : Clause) (place : ℕ) (t : IsTemplate P B c) (u : IsTemplate P B d) (v : IsTemplate P B b) (inside : place < length d.literals) (counts : b.counts ≡ d.counts) (same : (k : ℕ) → literal_at P b k ≡ literal_at P d (widened place k)) (shorter_by : length b.literals + 1 ≡ length d.literals) (as_many : length c.literals ≡ length b.literals) (back : Subsumes P b c) where
  places : ArePlacements P d.counts c.counts back.injection
  places = subst (λ ns. ArePlacements P ns c.counts back.injection) counts back.places

  abbrev last : Literal
  last = literal_at P d place

  abbrev image : Literal
  image = image_of back.injection last

  wide : (i : ℕ) → i < length b.literals → widened place i < length d.literals
  wide i below = let w = widened_inside (length b.literals) place i (omega (arith, inside, shorter_by)) below in omega (arith, w, shorter_by)

  not_place : (i : ℕ) → widened place i ≡ place → ⊥
  not_place i e = by_case (widened_cases place i)
    where
      by_case : ((i < place) × (widened place i ≡ i)) ⊎ ((place ≤ i) × (widened place i ≡ i + 1)) → ⊥
      by_case (inl (before, f)) = let none : ⊥ = omega (arith, before, e, f) in none
      by_case (inr (after, f)) = let none : ⊥ = omega (arith, after, e, f) in none

  -- no literal of c is over the image's atom
  apart : (number : ℕ) → literal_among (atoms_of P c.counts) number ≡ image → IsNewAtom c.literals (number / 2)
  apart number is k below e =
      let hit = hits_each (length b.literals) (length c.literals) (target P B b c v t back) (targets P B b c v t back) (omega (arith, as_many)) k below in
      let there = targeted P B b c v t back hit.0 hit.1 in
      let first = literal_at P d (widened place hit.0) in
      let here : literal_at P c k ≡ image_of back.injection first = ap (literal_at P c) (sym hit.2) ∙ (there.is ∙ ap (image_of back.injection) (same hit.0)) in
      let atoms : image_of_atom back.injection first.atom ≡ image_of_atom back.injection last.atom =
      sym (ap (λ (x : Literal). x.atom) here) ∙ (ap (λ n. get_or (atoms_of P c.counts) n no_atom) e ∙ ap (λ (x : Literal). x.atom) is) in
      let inside_first = literal_inside P B d (widened place hit.0) u (wide hit.0 hit.1) in
      let inside_last = literal_inside P B d place u inside in
      let one = same_atom P d.counts c.counts back.injection first.atom last.atom u.one_count_each places inside_first inside_last atoms in
      not_place hit.0 (same_atom_place P B d (widened place hit.0) place u (wide hit.0 hit.1) inside one)

  -- d is below c with the image
  above : (number : ℕ) → literal_among (atoms_of P c.counts) number ≡ image → Subsumes P d (with_literal c number)
  above number is = record {
    injection = back.injection;
    places = places;
    literals = λ x h. by_place x (literal_place P d x h).below (literal_place P d x h).is (cases_eq h.0 place) (cases_lt h.0 place);
  }
    where
      shared : (x : Literal) (i j : ℕ) → i < length b.literals → widened place i ≡ j → literal_at P d j ≡ x → Contains (literals_of P (with_literal c number)) (image_of back.injection x)
      shared x i j below e own =
          let there : literal_at P b i ≡ x = same i ∙ (ap (literal_at P d) e ∙ own) in
          kept P c number (image_of back.injection x) (back.literals x (subst (Contains (literals_of P b)) there (literal_there P b i below)))

      earlier : (x : Literal) (j : ℕ) → j < place → literal_at P d j ≡ x → ((j < place) × (widened place j ≡ j)) ⊎ ((place ≤ j) × (widened place j ≡ j + 1)) → Contains (literals_of P (with_literal c number)) (image_of back.injection x)
      earlier x j before own (inl (a, f)) = shared x j j (omega (arith, before, inside, shorter_by)) f own
      earlier x j before own (inr (a, f)) = absurd (let none : ⊥ = omega (arith, before, a) in none)

      later : (x : Literal) (j : ℕ) → place < j → j < length d.literals → literal_at P d j ≡ x → ((j - 1 < place) × (widened place (j - 1) ≡ j - 1)) ⊎ ((place ≤ j - 1) × (widened place (j - 1) ≡ j - 1 + 1)) → Contains (literals_of P (with_literal c number)) (image_of back.injection x)
      later x j after below own (inl (a, f)) = absurd (let none : ⊥ = omega (arith, after, a) in none)
      later x j after below own (inr (a, f)) = shared x (j - 1) j (omega (arith, after, below, shorter_by)) (f ∙ (let e : j - 1 + 1 ≡ j = omega (arith, after) in e)) own

      by_place : (x : Literal) {j : ℕ} → j < length d.literals → literal_at P d j ≡ x → (j ≡ place) ⊎ (j ≢ place) → (j < place) ⊎ (place ≤ j) → Contains (literals_of P (with_literal c number)) (image_of back.injection x)
      by_place x {j} below own (inl e) order =
          let whole : literal_among (atoms_of P c.counts) number ≡ image_of back.injection x = is ∙ ap (image_of back.injection) (ap (literal_at P d) (sym e) ∙ own) in
          subst (Contains (literals_of P (with_literal c number))) whole (numbered P (with_literal c number) number (put_all_among number (number ∷ []) c.literals (inl (inl refl))))
      by_place x {j} below own (inr ne) (inl before) = earlier x j before own (widened_cases place j)
      by_place x {j} below own (inr ne) (inr after) = later x j (let other : j ≢ place = ne in omega (arith, after, other)) below own (widened_cases place (j - 1))

  pub literal_from : length c.literals < B.literals → rank_of d ≡ rank_of c + 1 → HasLiteralBelow P c (length (atoms_of P c.counts)) d
  literal_from room one =
      let named = named_moved P back.injection last.atom (literal_named P B d place u inside) in
      let over = atom_moved P d.counts c.counts back.injection last.atom u.one_count_each places (literal_inside P B d place u inside) in
      let numbers = numbers_of P c.counts 1 (λ _. image) (λ i h. (named, over)) in
      let number = numbers.1.each 0 (omega arith) in
      let n = slice_index numbers.0 0 in
      let is_new = apart n number.is in
      let longer = with_template P B c n t room number.below is_new in
      let rank = put_length n c.literals in
      record {
        atom = n / 2;
        below = half_below n (length (atoms_of P c.counts)) number.below;
        has = record {
          literal = n;
          over = refl;
          is_new = is_new;
          renaming = renamed_back P B d (with_literal c n) u longer (is_renaming P B d (with_literal c n) u longer (above n number.is) (omega (arith, one, rank)));
        };
      }

shorter_counts : (P : Protocol) (B : Bounds) (c d : Clause) (t : IsTemplate P B c) (u : IsTemplate P B d) (sub : Subsumes P c d) (j : ℕ) (inside : j < length d.literals) (none : (i : ℕ) × (i < length c.literals) × (target P B c d t u sub i ≡ j) → ⊥) → (shorter P B c d t u sub j inside none).counts ≡ d.counts
unfolding shorter
shorter_counts P B c d t u sub j inside none = refl

pub weaker_literal : (P : Protocol) (B : Bounds) (c d : Clause) → IsTemplate P B c → IsWeakerByLiteral P B c d → HasLiteralBelow P c (length (atoms_of P c.counts)) d
weaker_literal P B c d t w =
    let u = w.weakening.template in
    let sub = w.weakening.below in
    let one = w.weakening.one_more in
    let more = w.more in
    let out = left_out (length c.literals) (length d.literals) (target P B c d t u sub) more in
    let b = shorter P B c d t u sub out.0 out.1 out.2 in
    let next = Fewer.is_shorter P B c d t u sub out.0 out.1 out.2 in
    let less = next.one_less in
    let full : rank_of b ≤ rank_of c = omega (arith, less, one) in
    let as_many = same_literals P B c b t next.template next.above full in
    let counts = shorter_counts P B c d t u sub out.0 out.1 out.2 in
    let few = u.few_literals in
    literal_from P B c d b out.0 t u next.template out.1 counts (Fewer.same_literals P B c d t u sub out.0 out.1 out.2)
    (let sums = ap (λ (ns : List ℕ). sum ns) counts in omega (arith, less, sums))
    as_many (below_again P B c b t next.template next.above full) (omega (arith, few, more)) one
