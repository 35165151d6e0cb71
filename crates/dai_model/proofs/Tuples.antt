-- The tuples below limits, and the variables of a shape by them.
use Rattle.std.proofs.Common.{◌≡◌, ◌*◌, ◌+◌, ℕ, suc, List, [], ◌∷◌, ◌++◌, length, map, sym, ◌∙◌, ap, refl, arith}
use Rattle.std.specs.Prelude.{sum_by, slice_index}
use Rattle.std.specs.List.{flat_map, zip, enumerate_from}
use Rattle.std.proofs.lemmas.List.{length-map, append-nil, length-append}
use Rattle.std.proofs.lemmas.List.Concat.{flat_map_single}
use Rattle.std.proofs.lemmas.List.Sums.{sum_by-cons}
use Rattle.dai_model.specs.Protocol.{Protocol, Relation, Individual}
use Rattle.dai_model.specs.Clause.{Variable, tuple, is_individual, numbers_below, variables_of, choose_each, relation_atoms, individual_atoms, atoms_of}
use Rattle.dai_model.specs.Limits.{product, tuples_at, ground_count}
use Rattle.dai_model.specs.Shapes.{tuples_below}
use Rattle.dai_model.proofs.Folds.{flat_map-cong, map-flat_map, flat_map-map, flat_map-flat_map, map-map, numbers_below-length}

-- the tuple with each number below the limit at its end
abbrev pub ended : ℕ → List ℕ → List (List ℕ)
ended limit t = map (λ n. t ++ n ∷ []) (numbers_below limit)

headed_ends : (limit m : ℕ) (ts : List (List ℕ)) → flat_map (ended limit) (map (λ (t : List ℕ). m ∷ t) ts) ≡ map (λ (t : List ℕ). m ∷ t) (flat_map (ended limit) ts)
headed_ends limit m ts =
    flat_map-map (ended limit) (λ (t : List ℕ). m ∷ t) ts
    ∙ (flat_map-cong _ (λ t. map (λ (u : List ℕ). m ∷ u) (ended limit t)) ts (λ t. sym (map-map (λ (u : List ℕ). m ∷ u) (λ n. t ++ n ∷ []) (numbers_below limit)))
    ∙ sym (map-flat_map (λ (t : List ℕ). m ∷ t) (ended limit) ts))

-- one limit more at the end
pub tuples_below-push : (limits : List ℕ) (limit : ℕ) → tuples_below (limits ++ limit ∷ []) ≡ flat_map (ended limit) (tuples_below limits)
tuples_below-push [] limit = flat_map_single (λ n. n ∷ []) (numbers_below limit) ∙ sym (append-nil (map (λ n. n ∷ []) (numbers_below limit)))
tuples_below-push (m ∷ limits) limit =
    flat_map-cong _ (λ n. map (λ (t : List ℕ). n ∷ t) (flat_map (ended limit) (tuples_below limits))) (numbers_below m) (λ n. ap (map (λ (t : List ℕ). n ∷ t)) (tuples_below-push limits limit))
    ∙ (flat_map-cong _ (λ n. flat_map (ended limit) (map (λ (t : List ℕ). n ∷ t) (tuples_below limits))) (numbers_below m) (λ n. sym (headed_ends limit n (tuples_below limits)))
    ∙ sym (flat_map-flat_map (ended limit) (λ n. map (λ (t : List ℕ). n ∷ t) (tuples_below limits)) (numbers_below m)))

-- the variables of these types with these numbers
abbrev pub variable_at : ℕ × ℕ → Variable
variable_at v = record { sort = v.0; number = v.1 }

abbrev pub variables_at : List ℕ → List ℕ → List Variable
variables_at sorts numbers = map variable_at (zip sorts numbers)

-- the tuples of variables of a shape are those of their numbers
pub choose_each-tuples : (counts sorts : List ℕ) → choose_each (map (variables_of counts) sorts) ≡ map (variables_at sorts) (tuples_below (map (slice_index counts) sorts))
choose_each-tuples counts [] = refl
choose_each-tuples counts (sort ∷ sorts) =
    let limit = slice_index counts sort in
    let ts = tuples_below (map (slice_index counts) sorts) in
    let mk : ℕ → Variable = λ n. record { sort = sort; number = n } in
    flat_map-map (λ v. map (λ (chosen : List Variable). v ∷ chosen) (choose_each (map (variables_of counts) sorts))) mk (numbers_below limit)
    ∙ (flat_map-cong _ (λ n. map (λ (chosen : List Variable). mk n ∷ chosen) (map (variables_at sorts) ts)) (numbers_below limit) (λ n. ap (map (λ (chosen : List Variable). mk n ∷ chosen)) (choose_each-tuples counts sorts))
    ∙ (flat_map-cong _ (λ n. map (variables_at (sort ∷ sorts)) (map (λ (t : List ℕ). n ∷ t) ts)) (numbers_below limit)
    (λ n. map-map (λ (chosen : List Variable). mk n ∷ chosen) (variables_at sorts) ts ∙ sym (map-map (variables_at (sort ∷ sorts)) (λ (t : List ℕ). n ∷ t) ts))
    ∙ sym (map-flat_map (variables_at (sort ∷ sorts)) (λ n. map (λ (t : List ℕ). n ∷ t) ts) (numbers_below limit))))

pub relation_atoms-tuples : (counts : List ℕ) (number : ℕ) (R : Relation) → relation_atoms counts (number, R) ≡ map (λ t. tuple number (variables_at R.arguments t)) (tuples_below (map (slice_index counts) R.arguments))
relation_atoms-tuples counts number R = ap (map (tuple number)) (choose_each-tuples counts R.arguments) ∙ map-map (tuple number) (variables_at R.arguments) (tuples_below (map (slice_index counts) R.arguments))

pub individual_atoms-numbers : (counts : List ℕ) (number : ℕ) (I : Individual) → individual_atoms counts (number, I) ≡ map (λ n. is_individual (variable_at (I.sort, n)) number) (numbers_below (slice_index counts I.sort))
individual_atoms-numbers counts number I = map-map (λ (v : Variable). is_individual v number) (λ n. variable_at (I.sort, n)) (numbers_below (slice_index counts I.sort))

-- how many there are
all_as_long : {X Y : Type 0} (f : X → List Y) (xs : List X) (n : ℕ) → ((x : X) → length (f x) ≡ n) → length (flat_map f xs) ≡ length xs * n
all_as_long f [] n h = let none : 0 ≡ 0 * n = omega arith in none
all_as_long f (x ∷ xs) n h =
    let e = length-append (f x) (flat_map f xs) in
    let k = all_as_long f xs n h in
    let here = h x in
    let more : suc (length xs) * n ≡ length xs * n + n = omega arith in
    omega (arith, e, k, here, more)

pub tuples_below-length : (limits : List ℕ) → length (tuples_below limits) ≡ product limits
tuples_below-length [] = refl
tuples_below-length (limit ∷ limits) =
    all_as_long (λ n. map (λ (t : List ℕ). n ∷ t) (tuples_below limits)) (numbers_below limit) (product limits)
    (λ n. length-map (tuples_below limits) (λ (t : List ℕ). n ∷ t) ∙ tuples_below-length limits)
    ∙ ap (λ n. n * product limits) (numbers_below-length limit)

relation_atoms-length : (counts : List ℕ) (number : ℕ) (R : Relation) → length (relation_atoms counts (number, R)) ≡ tuples_at counts R
relation_atoms-length counts number R =
    ap length (relation_atoms-tuples counts number R)
    ∙ (length-map (tuples_below (map (slice_index counts) R.arguments)) (λ t. tuple number (variables_at R.arguments t))
    ∙ tuples_below-length (map (slice_index counts) R.arguments))

individual_atoms-length : (counts : List ℕ) (number : ℕ) (I : Individual) → length (individual_atoms counts (number, I)) ≡ slice_index counts I.sort
individual_atoms-length counts number I =
    ap length (individual_atoms-numbers counts number I)
    ∙ (length-map (numbers_below (slice_index counts I.sort)) (λ n. is_individual (variable_at (I.sort, n)) number)
    ∙ numbers_below-length (slice_index counts I.sort))

enumerated_length : {X Y : Type 0} (f : ℕ × X → List Y) (g : X → ℕ) (n : ℕ) (xs : List X) → ((k : ℕ) (x : X) → length (f (k, x)) ≡ g x) → length (flat_map f (enumerate_from n xs)) ≡ sum_by g xs
enumerated_length f g n [] h = refl
enumerated_length f g n (x ∷ xs) h =
    let e = length-append (f (n, x)) (flat_map f (enumerate_from (n + 1) xs)) in
    let k = enumerated_length f g (n + 1) xs h in
    let here = h n x in
    let split = sum_by-cons g x xs in
    omega (arith, e, k, here, split)

-- how many atoms a shape has
pub atoms_of-length : (P : Protocol) (counts : List ℕ) → length (atoms_of P counts) ≡ ground_count P counts
atoms_of-length P counts =
    let e = length-append (flat_map (relation_atoms counts) (enumerate_from 0 P.relations)) (flat_map (individual_atoms counts) (enumerate_from 0 P.individuals)) in
    let a = enumerated_length (relation_atoms counts) (tuples_at counts) 0 P.relations (relation_atoms-length counts) in
    let b = enumerated_length (individual_atoms counts) (λ (I : Individual). slice_index counts I.sort) 0 P.individuals (individual_atoms-length counts) in
    omega (arith, e, a, b)
