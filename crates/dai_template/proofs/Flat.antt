-- The elements for the variables of all types in one list.
use Rattle.std.proofs.Common.{◌≡◌, ◌<◌, ℕ, zero, suc, ◌+◌, ◌&&◌, Bool, true, false, List, [], ◌∷◌, ◌++◌, length, get_or, map, take, ap, ◌∙◌, refl, subst, arith}
use Rattle.std.specs.Prelude.{slice_index, slice_index_or, Some, sum, nat_lt}
use Rattle.std.proofs.lemmas.Bool.Decides.{nat_tests}
use Rattle.std.proofs.lemmas.List.{get_or-map, length-map, get_or_append_left, get_or-append-add, length-append}
use Rattle.std.proofs.lemmas.Option.{slice_get-get_or}
use Rattle.std.proofs.lemmas.List.Sums.{sum_by-cons}
use Rattle.dai_model.specs.Structure.{is_tuple}
use Rattle.dai_model.specs.Clause.{numbers_below}
use Rattle.dai_model.specs.Placement.{of_sort}
use Rattle.dai_model.proofs.Folds.{numbers_below-length, numbers_below-at}
use Rattle.dai_model.proofs.Typed.{tuple_at}
use Rattle.dai_template.specs.ClauseFormulas.{types_from}

test_from_lt : (m n : ℕ) → m < n → nat_lt m n ≡ true
test_from_lt m n h = grind (arith, nat_tests)

and_both : (a b : Bool) → a ≡ true → b ≡ true → (a && b) ≡ true
and_both true b h k = k
and_both false b h k = h

pub sum_cons : (c : ℕ) (counts : List ℕ) → sum (c ∷ counts) ≡ c + sum counts
sum_cons c counts = sum_by-cons (λ x. x) c counts

abbrev pub joined : List (List ℕ) → List ℕ
joined [] = []
joined (xs ∷ xss) = xs ++ joined xss

-- so many lists, of these lengths
pub record AreAsMany (counts : List ℕ) (elements : List (List ℕ)) : Type 0 where
  pub lists : length elements ≡ length counts
  pub each : (sort : ℕ) → sort < length counts → length (of_sort elements sort) ≡ slice_index counts sort

rest_as_many : (c : ℕ) (counts xs : List ℕ) (xss : List (List ℕ)) → AreAsMany (c ∷ counts) (xs ∷ xss) → AreAsMany counts xss
rest_as_many c counts xs xss h = record { lists = let k = h.lists in omega (arith, k); each = λ sort below. h.each (suc sort) (omega arith) }

pub joined_length : (counts : List ℕ) (elements : List (List ℕ)) → AreAsMany counts elements → length (joined elements) ≡ sum counts
joined_length [] [] h = refl
joined_length [] (xs ∷ xss) h = absurd (let k = h.lists in omega (arith, k))
joined_length (c ∷ counts) [] h = absurd (let k = h.lists in omega (arith, k))
joined_length (c ∷ counts) (xs ∷ xss) h =
    let k = joined_length counts xss (rest_as_many c counts xs xss h) in
    let here : length xs ≡ c = h.each 0 (omega arith) in
    let e = length-append xs (joined xss) in
    let all = sum_cons c counts in
    omega (arith, k, here, e, all)

pub joined_at : (counts : List ℕ) (elements : List (List ℕ)) (sort number : ℕ) → AreAsMany counts elements → sort < length counts → number < slice_index counts sort → slice_index (joined elements) (sum (take sort counts) + number) ≡ slice_index (of_sort elements sort) number
joined_at [] elements sort number h k l = absurd (omega arith)
joined_at (c ∷ counts) [] sort number h k l = absurd (let e = h.lists in omega (arith, e))
joined_at (c ∷ counts) (xs ∷ xss) zero number h k l =
    let here : length xs ≡ c = h.each 0 (omega arith) in
    let place : 0 + number ≡ number = omega arith in
    ap (λ i. slice_index (xs ++ joined xss) i) place ∙ get_or_append_left xs (joined xss) 0 number (let b : number < c = l in omega (arith, here, b))
joined_at (c ∷ counts) (xs ∷ xss) (suc sort) number h k l =
    let here : length xs ≡ c = h.each 0 (omega arith) in
    let all = sum_cons c (take sort counts) in
    let place : sum (c ∷ take sort counts) + number ≡ length xs + (sum (take sort counts) + number) = omega (arith, here, all) in
    ap (λ i. slice_index (xs ++ joined xss) i) place
    ∙ (get_or-append-add xs (joined xss) (sum (take sort counts) + number) 0
    ∙ joined_at counts xss sort number (rest_as_many c counts xs xss h) (omega (arith, k)) l)

-- a list of elements of one type, and a tuple behind it
type_before : (sizes : List ℕ) (sort : ℕ) (numbers xs sorts es : List ℕ) → length numbers ≡ length xs → ((i : ℕ) → i < length xs → slice_index xs i < slice_index sizes sort) → is_tuple sizes sorts es ≡ true → is_tuple sizes (map (λ _. sort) numbers ++ sorts) (xs ++ es) ≡ true
type_before sizes sort [] [] sorts es e inside t = t
type_before sizes sort [] (x ∷ xs) sorts es e inside t = absurd (omega (arith, e))
type_before sizes sort (n ∷ ns) [] sorts es e inside t = absurd (omega (arith, e))
type_before sizes sort (n ∷ ns) (x ∷ xs) sorts es e inside t =
    and_both (nat_lt x (slice_index_or sizes sort 0)) _ (test_from_lt x (slice_index_or sizes sort 0) (inside 0 (omega arith)))
    (type_before sizes sort ns xs sorts es (omega (arith, e)) (λ i below. inside (suc i) (omega (arith, below))) t)

pub joined_tuple : (sizes : List ℕ) (first : ℕ) (counts : List ℕ) (elements : List (List ℕ)) → AreAsMany counts elements → ((sort i : ℕ) → sort < length counts → i < slice_index counts sort → slice_index (of_sort elements sort) i < slice_index sizes (first + sort)) → is_tuple sizes (types_from first counts) (joined elements) ≡ true
joined_tuple sizes first [] [] h inside = refl
joined_tuple sizes first [] (xs ∷ xss) h inside = absurd (let k = h.lists in omega (arith, k))
joined_tuple sizes first (c ∷ counts) [] h inside = absurd (let k = h.lists in omega (arith, k))
joined_tuple sizes first (c ∷ counts) (xs ∷ xss) h inside =
    let here : length xs ≡ c = h.each 0 (omega arith) in
    let long = numbers_below-length c in
    let own : first + 0 ≡ first = omega arith in
    type_before sizes first (numbers_below c) xs (types_from (first + 1) counts) (joined xss) (omega (arith, long, here))
    (λ i below. subst (λ t. slice_index xs i < slice_index sizes t) own (inside 0 i (omega arith) (omega (arith, below, here))))
    (joined_tuple sizes (first + 1) counts xss (rest_as_many c counts xs xss h)
    (λ sort i k l. let next : first + suc sort ≡ (first + 1) + sort = omega arith in subst (λ t. slice_index (of_sort xss sort) i < slice_index sizes t) next (inside (suc sort) i (omega (arith, k)) l)))

-- how many types are listed
pub types_length : (first : ℕ) (counts : List ℕ) → length (types_from first counts) ≡ sum counts
types_length first [] = refl
types_length first (c ∷ counts) =
    let e = length-append (map (λ _. first) (numbers_below c)) (types_from (first + 1) counts) in
    let own = length-map (numbers_below c) (λ _. first) in
    let long = numbers_below-length c in
    let k = types_length (first + 1) counts in
    let all = sum_cons c counts in
    omega (arith, e, own, long, k, all)

-- a variable's type stands at its number
pub types_at : (first : ℕ) (counts : List ℕ) (sort number : ℕ) → sort < length counts → number < slice_index counts sort → get_or (types_from first counts) (sum (take sort counts) + number) 0 ≡ first + sort
types_at first [] sort number k l = absurd (omega arith)
types_at first (c ∷ counts) zero number k l =
    let long = numbers_below-length c in
    let own = length-map (numbers_below c) (λ _. first) in
    let place : 0 + number ≡ number = omega arith in
    let b : number < c = l in
    let at = get_or-map (λ _. first) (numbers_below c) number 0 0 (omega (arith, long, b)) in
    let none : first ≡ first + 0 = omega arith in
    ap (λ i. get_or (map (λ _. first) (numbers_below c) ++ types_from (first + 1) counts) i 0) place
    ∙ (get_or_append_left (map (λ _. first) (numbers_below c)) (types_from (first + 1) counts) 0 number (omega (arith, own, long, b)) ∙ (at ∙ none))
types_at first (c ∷ counts) (suc sort) number k l =
    let long = numbers_below-length c in
    let own = length-map (numbers_below c) (λ _. first) in
    let all = sum_cons c (take sort counts) in
    let place : sum (c ∷ take sort counts) + number ≡ length (map (λ _. first) (numbers_below c)) + (sum (take sort counts) + number) = omega (arith, own, long, all) in
    let next : (first + 1) + sort ≡ first + suc sort = omega arith in
    ap (λ i. get_or (map (λ _. first) (numbers_below c) ++ types_from (first + 1) counts) i 0) place
    ∙ (get_or-append-add (map (λ _. first) (numbers_below c)) (types_from (first + 1) counts) (sum (take sort counts) + number) 0
    ∙ (types_at (first + 1) counts sort number (omega (arith, k)) l ∙ next))

-- a variable's number is one of all
pub number_inside : (counts : List ℕ) (sort number : ℕ) → sort < length counts → number < slice_index counts sort → sum (take sort counts) + number < sum counts
number_inside [] sort number k l = absurd (omega arith)
number_inside (c ∷ counts) zero number k l = let b : number < c = l in let all = sum_cons c counts in omega (arith, b, all)
number_inside (c ∷ counts) (suc sort) number k l =
    let e = number_inside counts sort number (omega (arith, k)) l in
    let all = sum_cons c counts in
    let before = sum_cons c (take sort counts) in
    omega (arith, e, all, before)

pub tuple_length : (sizes sorts es : List ℕ) → is_tuple sizes sorts es ≡ true → length es ≡ length sorts
tuple_length sizes [] [] h = refl
tuple_length sizes [] (e ∷ es) h = absurd (let k : ⊥ = cc in k)
tuple_length sizes (t ∷ ts) [] h = absurd (let k : ⊥ = cc in k)
tuple_length sizes (t ∷ ts) (e ∷ es) h = let k = tuple_length sizes ts es (tuple_rest (nat_lt e (slice_index_or sizes t 0)) (is_tuple sizes ts es) h) in omega (arith, k)
  where
    tuple_rest : (a b : Bool) → (a && b) ≡ true → b ≡ true
    tuple_rest true b h = h
    tuple_rest false b h = absurd (let k : ⊥ = cc in k)

-- the elements of a tuple type by type
abbrev pub parted : List ℕ → List ℕ → List (List ℕ)
parted counts es = map (λ sort. map (λ number. slice_index es (sum (take sort counts) + number)) (numbers_below (slice_index counts sort))) (numbers_below (length counts))

pub parted_of : (counts es : List ℕ) (sort : ℕ) → sort < length counts → of_sort (parted counts es) sort ≡ map (λ number. slice_index es (sum (take sort counts) + number)) (numbers_below (slice_index counts sort))
parted_of counts es sort h =
    let long = numbers_below-length (length counts) in
    let at = numbers_below-at (length counts) sort 0 h in
    get_or-map (λ t. map (λ number. slice_index es (sum (take t counts) + number)) (numbers_below (slice_index counts t))) (numbers_below (length counts)) sort 0 [] (omega (arith, long, h))
    ∙ ap (λ t. map (λ number. slice_index es (sum (take t counts) + number)) (numbers_below (slice_index counts t))) at

pub parted_at : (counts es : List ℕ) (sort number : ℕ) → sort < length counts → number < slice_index counts sort → slice_index (of_sort (parted counts es) sort) number ≡ slice_index es (sum (take sort counts) + number)
parted_at counts es sort number h k =
    let long = numbers_below-length (slice_index counts sort) in
    let at = numbers_below-at (slice_index counts sort) number 0 k in
    ap (λ xs. slice_index xs number) (parted_of counts es sort h)
    ∙ (get_or-map (λ n. slice_index es (sum (take sort counts) + n)) (numbers_below (slice_index counts sort)) number 0 0 (omega (arith, long, k))
    ∙ ap (λ n. slice_index es (sum (take sort counts) + n)) at)

pub parted_long : (counts es : List ℕ) → AreAsMany counts (parted counts es)
parted_long counts es = record {
  lists = length-map (numbers_below (length counts)) _ ∙ numbers_below-length (length counts);
  each = λ sort h. ap length (parted_of counts es sort h) ∙ (length-map (numbers_below (slice_index counts sort)) _ ∙ numbers_below-length (slice_index counts sort));
}

-- each element of a tuple is of its variable's type
pub parted_inside : (sizes counts es : List ℕ) (sort number : ℕ) → is_tuple sizes (types_from 0 counts) es ≡ true → sort < length counts → number < slice_index counts sort → slice_index es (sum (take sort counts) + number) < slice_index sizes sort
parted_inside sizes counts es sort number t h k =
    let many = types_length 0 counts in
    let below = number_inside counts sort number h k in
    let at = types_at 0 counts sort number h k in
    let own : 0 + sort ≡ sort = omega arith in
    tuple_at sizes (types_from 0 counts) es (sum (take sort counts) + number) sort t (slice_get-get_or (types_from 0 counts) (sum (take sort counts) + number) 0 (omega (arith, many, below)) ∙ ap Some (at ∙ own))
