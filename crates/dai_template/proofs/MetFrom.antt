-- An array of elements for all variables is a placement.
use Rattle.std.proofs.Common.{◌≡◌, ◌<◌, ℕ, zero, suc, ◌+◌, ◌*◌, ◌&&◌, Bool, true, List, [], ◌∷◌, length, map, sym, ap, ◌∙◌, refl, subst, arith, inl}
use Rattle.std.specs.Prelude.{slice_index}
use Rattle.std.proofs.lemmas.List.{get_or-map, length-map}
use Rattle.dai_model.specs.Protocol.{Protocol}
use Rattle.dai_model.specs.Structure.{is_tuple}
use Rattle.dai_model.specs.Placement.{Apart, of_sort, ArePlacements}
use Rattle.dai_model.specs.Clause.{Variable, numbers_below}
use Rattle.dai_model.proofs.Below.{Each, IsVariableOf}
use Rattle.dai_model.proofs.Folds.{numbers_below-length, numbers_below-at}
use Rattle.dai_model.proofs.Typed.{slice_get-length}
use Rattle.dai_logic.proofs.Tuples.{test_from_lt}
use Rattle.dai_template.specs.Meeting.{element_in, sorts_of, IsBegun}

pub count_inside : (counts : List ℕ) (sort number : ℕ) → number < slice_index counts sort → sort < length counts
count_inside [] sort number h = absurd (omega arith)
count_inside (c ∷ counts) zero number h = omega arith
count_inside (c ∷ counts) (suc sort) number h = let k = count_inside counts sort number h in omega (arith, k)

-- the elements of the array as lists
abbrev pub cut : List ℕ → List ℕ → List (List ℕ)
cut counts values = map (λ t. map (λ i. slice_index values (4 * t + i)) (numbers_below (slice_index counts t))) (numbers_below (length counts))

cut_of : (counts values : List ℕ) (t : ℕ) → t < length counts → of_sort (cut counts values) t ≡ map (λ i. slice_index values (4 * t + i)) (numbers_below (slice_index counts t))
cut_of counts values t h =
    let long = numbers_below-length (length counts) in
    let at = numbers_below-at (length counts) t 0 h in
    get_or-map (λ u. map (λ i. slice_index values (4 * u + i)) (numbers_below (slice_index counts u))) (numbers_below (length counts)) t 0 [] (omega (arith, long, h))
    ∙ ap (λ u. map (λ i. slice_index values (4 * u + i)) (numbers_below (slice_index counts u))) at

pub cut_at : (counts values : List ℕ) (t i : ℕ) → i < slice_index counts t → slice_index (of_sort (cut counts values) t) i ≡ slice_index values (4 * t + i)
cut_at counts values t i k =
    let below = count_inside counts t i k in
    let long = numbers_below-length (slice_index counts t) in
    let at = numbers_below-at (slice_index counts t) i 0 k in
    ap (λ xs. slice_index xs i) (cut_of counts values t below)
    ∙ (get_or-map (λ n. slice_index values (4 * t + n)) (numbers_below (slice_index counts t)) i 0 0 (omega (arith, long, k))
    ∙ ap (λ n. slice_index values (4 * t + n)) at)

kept : (a : Bool) (d e x y : ℕ) → d ≡ x → e ≡ y → Apart a d e → Apart a x y
kept a d e x y g h k = subst (λ t. Apart a t y) g (subst (λ t. Apart a d t) h k)

-- where all variables have elements, the array is a placement
pub cut_placed : (P : Protocol) (sizes counts values : List ℕ) → length counts ≡ length P.sorts → IsBegun P sizes counts (length counts) 0 values → ArePlacements P counts sizes (cut counts values)
cut_placed P sizes counts values long b = record {
  one_list_each = length-map (numbers_below (length counts)) _ ∙ (numbers_below-length (length counts) ∙ long);
  each = λ sort T h.
      let below : sort < length counts = let k = slice_get-length P.sorts sort T h in omega (arith, long, k) in
      record {
        one_each = ap length (cut_of counts values sort below) ∙ (length-map (numbers_below (slice_index counts sort)) _ ∙ numbers_below-length (slice_index counts sort));
        inside = λ i k. subst (λ x. x < slice_index sizes sort) (sym (cut_at counts values sort i k)) (b.inside sort i k (inl below));
        apart = λ i j k l. kept T.ordered _ _ _ _ (sym (cut_at counts values sort i (omega (arith, k, l)))) (sym (cut_at counts values sort j l)) (b.apart sort T i j h k l (inl below));
      };
}

-- the variables stand for a tuple of their types
pub tuple_in : (sizes counts values : List ℕ) (vs : List Variable) → ((v : Variable) → IsVariableOf counts v → element_in values v < slice_index sizes v.sort) → Each (IsVariableOf counts) vs → is_tuple sizes (sorts_of vs) (map (element_in values) vs) ≡ true
tuple_in sizes counts values [] h e = refl
tuple_in sizes counts values (v ∷ vs) h e =
    ap (λ b. b && is_tuple sizes (sorts_of vs) (map (element_in values) vs)) (test_from_lt (element_in values v) (slice_index sizes v.sort) (h v e.0)) ∙ tuple_in sizes counts values vs h e.1
