-- The counts within bounds: how many there are, and that no shape has more atoms than the largest.
use Rattle.std.proofs.Common.{◌≡◌, ◌≤◌, ◌+◌, ◌^◌, ℕ, zero, suc, List, [], ◌∷◌, ◌++◌, length, map, ◌∙◌, refl, arith}
use Rattle.std.specs.Prelude.{slice_index}
use Rattle.std.specs.List.{All, flat_map}
use Rattle.std.proofs.lemmas.List.Sums.{sum_by-le-sum_by}
use Rattle.std.proofs.Math.Nat.{mul-le-mul, pow-succ', pow-le-pow_right}
use Rattle.dai_model.specs.Protocol.{Protocol, Relation, Individual}
use Rattle.dai_model.specs.Clause.{numbers_below, atoms_of}
use Rattle.dai_model.specs.Limits.{product, tuples_at}
use Rattle.dai_model.specs.Shapes.{counts_within}
use Rattle.dai_model.proofs.Below.{Each}
use Rattle.dai_model.proofs.Tuples.{tuples_below-length, atoms_of-length}

abbrev pub WithinEach : List ℕ → List ℕ → Type 0
WithinEach [] [] = Unit {0}
WithinEach [] (b ∷ bs) = ⊥
WithinEach (n ∷ ns) [] = ⊥
WithinEach (n ∷ ns) (b ∷ bs) = (n ≤ b) × WithinEach ns bs

pub Each-append : {X : Type 0} (P : X → Type 0) (xs ys : List X) → Each P xs → Each P ys → Each P (xs ++ ys)
Each-append P [] ys h k = k
Each-append P (x ∷ xs) ys h k = (h.0, Each-append P xs ys h.1 k)

pub Each-map : {X Y : Type 0} (P : X → Type 0) (Q : Y → Type 0) (f : X → Y) (xs : List X) → ((x : X) → P x → Q (f x)) → Each P xs → Each Q (map f xs)
Each-map P Q f [] step h = tt
Each-map P Q f (x ∷ xs) step h = (step x h.0, Each-map P Q f xs step h.1)

pub Each-flat_map : {X Y : Type 0} (P : X → Type 0) (Q : Y → Type 0) (f : X → List Y) (xs : List X) → ((x : X) → P x → Each Q (f x)) → Each P xs → Each Q (flat_map f xs)
Each-flat_map P Q f [] step h = tt
Each-flat_map P Q f (x ∷ xs) step h = Each-append Q (f x) _ (step x h.0) (Each-flat_map P Q f xs step h.1)

pub All-from_Each : {X : Type 0} (P : X → Type 0) (xs : List X) → Each P xs → All P xs
All-from_Each P [] h k d below = absurd (omega arith)
All-from_Each P (x ∷ xs) h zero d below = h.0
All-from_Each P (x ∷ xs) h (suc k) d below = All-from_Each P xs h.1 k d (omega arith)

numbers_up_to : (n b : ℕ) → n ≤ b + 1 → Each (λ k. k ≤ b) (numbers_below n)
numbers_up_to zero b h = tt
numbers_up_to (suc n) b h = Each-append (λ k. k ≤ b) (numbers_below n) (n ∷ []) (numbers_up_to n b (omega arith)) (omega arith, tt)

pub ways_within : (bounds : List ℕ) → Each (λ counts. WithinEach counts bounds) (counts_within bounds)
ways_within [] = (tt, tt)
ways_within (b ∷ bs) =
    Each-flat_map (λ k. k ≤ b) (λ counts. WithinEach counts (b ∷ bs)) (λ n. map (λ (t : List ℕ). n ∷ t) (counts_within bs)) (numbers_below (b + 1))
    (λ n h. Each-map (λ counts. WithinEach counts bs) (λ counts. WithinEach counts (b ∷ bs)) (λ (t : List ℕ). n ∷ t) (counts_within bs) (λ t k. (h, k)) (ways_within bs))
    (numbers_up_to (b + 1) b (omega arith))

pub within_length : (counts bounds : List ℕ) → WithinEach counts bounds → length counts ≡ length bounds
within_length [] [] h = refl
within_length [] (b ∷ bs) h = absurd h
within_length (n ∷ ns) [] h = absurd h
within_length (n ∷ ns) (b ∷ bs) h = let k = within_length ns bs h.1 in omega (arith, k)

pub within_at : (counts bounds : List ℕ) (sort : ℕ) → WithinEach counts bounds → slice_index counts sort ≤ slice_index bounds sort
within_at [] [] sort h = omega arith
within_at [] (b ∷ bs) sort h = absurd h
within_at (n ∷ ns) [] sort h = absurd h
within_at (n ∷ ns) (b ∷ bs) zero h = h.0
within_at (n ∷ ns) (b ∷ bs) (suc sort) h = within_at ns bs sort h.1

product_mono : (f g : ℕ → ℕ) (xs : List ℕ) → ((x : ℕ) → f x ≤ g x) → product (map f xs) ≤ product (map g xs)
product_mono f g [] h = omega arith
product_mono f g (x ∷ xs) h = mul-le-mul (h x) (product_mono f g xs h)

-- with no more variables of any type there are no more atoms
pub fewer_variables : (P : Protocol) (counts bounds : List ℕ) → ((sort : ℕ) → slice_index counts sort ≤ slice_index bounds sort) → length (atoms_of P counts) ≤ length (atoms_of P bounds)
fewer_variables P counts bounds h =
    let a = sum_by-le-sum_by (tuples_at counts) (tuples_at bounds) P.relations (λ (R : Relation). product_mono (slice_index counts) (slice_index bounds) R.arguments h) in
    let b = sum_by-le-sum_by (λ (I : Individual). slice_index counts I.sort) (λ (I : Individual). slice_index bounds I.sort) P.individuals (λ (I : Individual). h I.sort) in
    let left = atoms_of-length P counts in
    let right = atoms_of-length P bounds in
    omega (arith, a, b, left, right)

fewer_atoms : (P : Protocol) (counts bounds : List ℕ) → WithinEach counts bounds → length (atoms_of P counts) ≤ length (atoms_of P bounds)
fewer_atoms P counts bounds h = fewer_variables P counts bounds (λ sort. within_at counts bounds sort h)

pub Each-weaker : {X : Type 0} (P Q : X → Type 0) (xs : List X) → ((x : X) → P x → Q x) → Each P xs → Each Q xs
Each-weaker P Q [] h k = tt
Each-weaker P Q (x ∷ xs) h k = (h x k.0, Each-weaker P Q xs h k.1)

-- each way has a number for each bound
pub ways_length : (bounds : List ℕ) (n : ℕ) → length bounds ≡ n → All (λ counts. length counts ≡ n) (counts_within bounds)
ways_length bounds n e = All-from_Each (λ counts. length counts ≡ n) (counts_within bounds) (Each-weaker (λ counts. WithinEach counts bounds) (λ counts. length counts ≡ n) (counts_within bounds) (λ counts h. within_length counts bounds h ∙ e) (ways_within bounds))

-- no way has more atoms than the bounds
pub ways_atoms : (P : Protocol) (bounds : List ℕ) (most : ℕ) → length (atoms_of P bounds) ≤ most → All (λ counts. length (atoms_of P counts) ≤ most) (counts_within bounds)
ways_atoms P bounds most few = All-from_Each (λ counts. length (atoms_of P counts) ≤ most) (counts_within bounds) (Each-weaker (λ counts. WithinEach counts bounds) (λ counts. length (atoms_of P counts) ≤ most) (counts_within bounds) (λ counts h. let k = fewer_atoms P counts bounds h in omega (arith, k, few)) (ways_within bounds))

small_product : (bounds : List ℕ) → All (λ bound. bound ≤ 4) bounds → product (map (λ b. b + 1) bounds) ≤ 5 ^ length bounds
small_product [] h = omega arith
small_product (b ∷ bs) h =
    let here : b + 1 ≤ 5 = let k = h 0 0 (omega arith) in omega (arith, k) in
    let rest = small_product bs (λ k d below. h (suc k) d (omega arith)) in
    let both = mul-le-mul here rest in
    let e = pow-succ' 5 (length bs) in
    omega (arith, both, e)

pub few_ways : (bounds : List ℕ) → All (λ bound. bound ≤ 4) bounds → length bounds ≤ 8 → length (counts_within bounds) ≤ 2 ^ 20
few_ways bounds small short =
    let e = tuples_below-length (map (λ b. b + 1) bounds) in
    let k = small_product bounds small in
    let up : 5 ^ length bounds ≤ 5 ^ 8 = pow-le-pow_right {n = 5} (omega arith) {i = length bounds} {j = 8} short in
    omega (arith, e, k, up)
