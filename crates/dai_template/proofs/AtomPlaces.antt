-- The places of atoms: each atom of a shape stands at its own, and each atom over the shape's variables is there.
use Rattle.std.proofs.Common.{◌≡◌, ◌<◌, ◌+◌, ◌*◌, ℕ, zero, suc, List, [], ◌∷◌, ◌++◌, get_or, length, map, take, Some, sym, ◌∙◌, ap, subst, refl, arith, inl, inr}
use Rattle.std.specs.Prelude.{sum_by, slice_get, slice_index}
use Rattle.std.specs.List.{Contains, flat_map, enumerate_from}
use Rattle.std.proofs.lemmas.List.{length-map, length-append, append-nil, take_more}
use Rattle.std.proofs.lemmas.List.Concat.{flat_map-append}
use Rattle.std.proofs.lemmas.List.Sums.{sum_by-cons, sum_by-append}
use Rattle.std.proofs.lemmas.Option.{get_or_from_slice_get}
use Rattle.dai_model.specs.Protocol.{Protocol, Relation, Individual}
use Rattle.dai_model.specs.Clause.{Variable, Atom, tuple, is_individual, numbers_below, variables_of, choose_each, relation_atoms, individual_atoms, atoms_of}
use Rattle.dai_model.specs.Limits.{product, tuples_at}
use Rattle.dai_model.proofs.Below.{Each, IsVariableOf, IsAtomOf}
use Rattle.dai_model.proofs.Folds.{numbers_below-length, flat_map-map}
use Rattle.dai_model.proofs.Tuples.{relation_atoms-tuples, individual_atoms-numbers, choose_each-tuples, tuples_below-length}
use Rattle.dai_model.proofs.Typed.{slice_get-length}
use Rattle.dai_logic.specs.Counts.{tuple_place, tuple_count}
use Rattle.dai_template.specs.Meeting.{sorts_of, IsNamed}
use Rattle.dai_template.specs.Renamings.{place_of_atom}
use Rattle.dai_template.proofs.Named.{of_the_sorts}
use Rattle.dai_template.proofs.Within.{Among, among_left, among_right, among_map, among_flat_map, among_numbers, contained}

-- the numbers of the members go up by one, from this number
abbrev Ranked : {X : Type 0} → (X → ℕ) → ℕ → List X → Type 0
Ranked f n [] = Unit {0}
Ranked f n (x ∷ xs) = (f x ≡ n) × Ranked f (suc n) xs

ranked_append : {X : Type 0} (f : X → ℕ) (n m : ℕ) (xs ys : List X) → m ≡ n + length xs → Ranked f n xs → Ranked f m ys → Ranked f n (xs ++ ys)
ranked_append f n m [] ys e h k = subst (λ i. Ranked f i ys) (let same : m ≡ n = omega (arith, e) in same) k
ranked_append f n m (x ∷ xs) ys e h k = (h.0, ranked_append f (suc n) m xs ys (omega (arith, e)) h.1 k)

ranked_map : {X Y : Type 0} (f : Y → ℕ) (g : X → Y) (n : ℕ) (xs : List X) → Ranked (λ x. f (g x)) n xs → Ranked f n (map g xs)
ranked_map f g n [] h = tt
ranked_map f g n (x ∷ xs) h = (h.0, ranked_map f g (suc n) xs h.1)

ranked_more : {X : Type 0} (f g : X → ℕ) (n m k : ℕ) (xs : List X) → k ≡ n + m → Each (λ x. g x ≡ f x + m) xs → Ranked f n xs → Ranked g k xs
ranked_more f g n m k [] e h r = tt
ranked_more f g n m k (x ∷ xs) e h r = (let a = h.0 in let b = r.0 in omega (arith, a, b, e), ranked_more f g (suc n) m (suc k) xs (omega (arith, e)) h.1 r.1)

ranked_at : {X : Type 0} (f : X → ℕ) (n i : ℕ) (d : X) (xs : List X) → i < length xs → Ranked f n xs → f (get_or xs i d) ≡ n + i
ranked_at f n i d [] h r = absurd (omega arith)
ranked_at f n zero d (x ∷ xs) h r = let a = r.0 in omega (arith, a)
ranked_at f n (suc i) d (x ∷ xs) h r = let a = ranked_at f (suc n) i d xs (omega arith) r.1 in omega (arith, a)

each_any : {X : Type 0} (P : X → Type 0) (xs : List X) → ((x : X) → P x) → Each P xs
each_any P [] h = tt
each_any P (x ∷ xs) h = (h x, each_any P xs h)

each_to : {X : Type 0} (P Q : X → Type 0) (xs : List X) → ((x : X) → P x → Q x) → Each P xs → Each Q xs
each_to P Q [] f h = tt
each_to P Q (x ∷ xs) f h = (f x h.0, each_to P Q xs f h.1)

one_more : {Y : Type 0} (f : ℕ → List Y) (n : ℕ) → flat_map f (numbers_below n ++ n ∷ []) ≡ flat_map f (numbers_below n) ++ f n
one_more f n = flat_map-append f (numbers_below n) (n ∷ []) ∙ ap (λ ys. flat_map f (numbers_below n) ++ ys) (append-nil (f n))

rows_length : {Y : Type 0} (f : ℕ → List Y) (n m : ℕ) → ((i : ℕ) → length (f i) ≡ m) → length (flat_map f (numbers_below n)) ≡ n * m
rows_length f zero m h = let none : 0 ≡ 0 * m = omega arith in none
rows_length f (suc n) m h =
    let e = ap length (one_more f n) ∙ length-append (flat_map f (numbers_below n)) (f n) in
    let k = rows_length f n m h in
    let here = h n in
    let more : suc n * m ≡ n * m + m = omega arith in
    omega (arith, e, k, here, more)

rows_ranked : {Y : Type 0} (g : Y → ℕ) (f : ℕ → List Y) (n m : ℕ) → ((i : ℕ) → length (f i) ≡ m) → ((i : ℕ) → Ranked g (i * m) (f i)) → Ranked g 0 (flat_map f (numbers_below n))
rows_ranked g f zero m h r = tt
rows_ranked g f (suc n) m h r =
    subst (Ranked g 0) (sym (one_more f n))
    (ranked_append g 0 (n * m) (flat_map f (numbers_below n)) (f n) (let k = rows_length f n m h in omega (arith, k)) (rows_ranked g f n m h r) (r n))

-- the place of a tuple of variables among those of its types
abbrev place_of : List ℕ → List Variable → ℕ
place_of counts vs = tuple_place counts (sorts_of vs) (map (λ (v : Variable). v.number) vs)

pub counted : (counts sorts : List ℕ) → tuple_count counts sorts ≡ product (map (slice_index counts) sorts)
counted counts [] = refl
counted counts (sort ∷ sorts) = ap (λ n. slice_index counts sort * n) (counted counts sorts)

chosen_length : (counts sorts : List ℕ) → length (choose_each (map (variables_of counts) sorts)) ≡ tuple_count counts sorts
chosen_length counts sorts =
    ap length (choose_each-tuples counts sorts) ∙ (length-map _ _ ∙ (tuples_below-length (map (slice_index counts) sorts) ∙ sym (counted counts sorts)))

chosen_ranked : (counts sorts : List ℕ) → Ranked (place_of counts) 0 (choose_each (map (variables_of counts) sorts))
chosen_ranked counts [] = (refl, tt)
chosen_ranked counts (sort ∷ sorts) =
    let rest = choose_each (map (variables_of counts) sorts) in
    let named : ℕ → Variable = λ n. record { sort = sort; number = n } in
    let row : ℕ → List (List Variable) = λ n. map (λ (chosen : List Variable). named n ∷ chosen) rest in
    let count = tuple_count counts sorts in
    subst (Ranked (place_of counts) 0) (sym (flat_map-map (λ v. map (λ (chosen : List Variable). v ∷ chosen) rest) named (numbers_below (slice_index counts sort))))
    (rows_ranked (place_of counts) row (slice_index counts sort) count
    (λ n. length-map rest _ ∙ chosen_length counts sorts)
    (λ n. ranked_map (place_of counts) (λ (chosen : List Variable). named n ∷ chosen) (n * count) rest
    (ranked_more (place_of counts) (λ chosen. place_of counts (named n ∷ chosen)) 0 (n * count) (n * count) rest (omega arith)
    (each_to (λ vs. sorts_of vs ≡ sorts) (λ vs. place_of counts (named n ∷ vs) ≡ place_of counts vs + n * count) rest
    (λ vs e. let same : n * tuple_count counts (sorts_of vs) ≡ n * count = ap (λ ts. n * tuple_count counts ts) e in omega (arith, same))
    (of_the_sorts counts sorts))
    (chosen_ranked counts sorts))))

relation_length : (counts : List ℕ) (number : ℕ) (R : Relation) → length (relation_atoms counts (number, R)) ≡ tuples_at counts R
relation_length counts number R =
    ap length (relation_atoms-tuples counts number R) ∙ (length-map _ _ ∙ tuples_below-length (map (slice_index counts) R.arguments))

individual_length : (counts : List ℕ) (number : ℕ) (I : Individual) → length (individual_atoms counts (number, I)) ≡ slice_index counts I.sort
individual_length counts number I =
    ap length (individual_atoms-numbers counts number I) ∙ (length-map _ _ ∙ numbers_below-length (slice_index counts I.sort))

all_length : {X Y : Type 0} (f : ℕ × X → List Y) (g : X → ℕ) (n : ℕ) (xs : List X) → ((k : ℕ) (x : X) → length (f (k, x)) ≡ g x) → length (flat_map f (enumerate_from n xs)) ≡ sum_by g xs
all_length f g n [] h = refl
all_length f g n (x ∷ xs) h =
    let e = length-append (f (n, x)) (flat_map f (enumerate_from (n + 1) xs)) in
    let k = all_length f g (n + 1) xs h in
    let here = h n x in
    let split = sum_by-cons g x xs in
    omega (arith, e, k, here, split)

sum_more : {X : Type 0} (size : X → ℕ) (all : List X) (k : ℕ) (x : X) → slice_get all k ≡ Some x → sum_by size (take (k + 1) all) ≡ sum_by size (take k all) + size x
sum_more size all k x h =
    let at = get_or_from_slice_get all k x x h in
    let last : sum_by size (x ∷ []) ≡ size x = let e = sum_by-cons size x [] in omega (arith, e) in
    ap (sum_by size) (take_more all k x (slice_get-length all k x h) ∙ ap (λ y. take k all ++ y ∷ []) at) ∙ (sum_by-append size (take k all) (x ∷ []) ∙ ap (λ n. sum_by size (take k all) + n) last)

all_ranked : {X Y : Type 0} (f : Y → ℕ) (parts : ℕ × X → List Y) (size : X → ℕ) (base : ℕ) (all : List X) (k : ℕ) (xs : List X) → ((j : ℕ) → slice_get all (k + j) ≡ slice_get xs j) → ((i : ℕ) (x : X) → Ranked f (base + sum_by size (take i all)) (parts (i, x))) → ((i : ℕ) (x : X) → length (parts (i, x)) ≡ size x) → Ranked f (base + sum_by size (take k all)) (flat_map parts (enumerate_from k xs))
all_ranked f parts size base all k [] same r h = tt
all_ranked f parts size base all k (x ∷ xs) same r h =
    ranked_append f (base + sum_by size (take k all)) (base + sum_by size (take (k + 1) all)) (parts (k, x)) (flat_map parts (enumerate_from (k + 1) xs))
    (let e = sum_more size all k x (ap (slice_get all) (let own : k ≡ k + 0 = omega arith in own) ∙ same 0) in let l = h k x in omega (arith, e, l))
    (r k x)
    (all_ranked f parts size base all (k + 1) xs (λ j. ap (slice_get all) (let next : (k + 1) + j ≡ k + suc j = omega arith in next) ∙ same (suc j)) r h)

relation_ranked : (P : Protocol) (counts : List ℕ) (i : ℕ) (R : Relation) → Ranked (place_of_atom P counts) (0 + sum_by (tuples_at counts) (take i P.relations)) (relation_atoms counts (i, R))
relation_ranked P counts i R =
    let base = sum_by (tuples_at counts) (take i P.relations) in
    ranked_map (place_of_atom P counts) (tuple i) (0 + base) (choose_each (map (variables_of counts) R.arguments))
    (ranked_more (place_of counts) (λ vs. place_of_atom P counts (tuple i vs)) 0 base (0 + base) (choose_each (map (variables_of counts) R.arguments)) (omega arith)
    (each_any _ (choose_each (map (variables_of counts) R.arguments)) (λ vs. omega arith))
    (chosen_ranked counts R.arguments))

numbers_ranked : (n : ℕ) → Ranked (λ k. k) 0 (numbers_below n)
numbers_ranked zero = tt
numbers_ranked (suc n) = ranked_append (λ k. k) 0 n (numbers_below n) (n ∷ []) (let e = numbers_below-length n in omega (arith, e)) (numbers_ranked n) (refl, tt)

individual_ranked : (P : Protocol) (counts : List ℕ) (i : ℕ) (I : Individual) → Ranked (place_of_atom P counts) (sum_by (tuples_at counts) P.relations + sum_by (λ (J : Individual). slice_index counts J.sort) (take i P.individuals)) (individual_atoms counts (i, I))
individual_ranked P counts i I =
    let base = sum_by (tuples_at counts) P.relations + sum_by (λ (J : Individual). slice_index counts J.sort) (take i P.individuals) in
    let named : ℕ → Variable = λ n. record { sort = I.sort; number = n } in
    ranked_map (place_of_atom P counts) (λ v. is_individual v i) base (variables_of counts I.sort)
    (ranked_map (λ v. place_of_atom P counts (is_individual v i)) named base (numbers_below (slice_index counts I.sort))
    (ranked_more (λ k. k) (λ n. place_of_atom P counts (is_individual (named n) i)) 0 base base (numbers_below (slice_index counts I.sort)) (omega arith)
    (each_any _ (numbers_below (slice_index counts I.sort)) (λ n. omega arith))
    (numbers_ranked (slice_index counts I.sort))))

own_places : {X : Type 0} (all : List X) (j : ℕ) → slice_get all (0 + j) ≡ slice_get all j
own_places all j = ap (slice_get all) (let same : 0 + j ≡ j = omega arith in same)

-- each atom stands at its place
pub placed : (P : Protocol) (counts : List ℕ) (k : ℕ) (d : Atom) → k < length (atoms_of P counts) → place_of_atom P counts (get_or (atoms_of P counts) k d) ≡ k
placed P counts k d below =
    let total = sum_by (tuples_at counts) P.relations in
    let size : Individual → ℕ = λ (J : Individual). slice_index counts J.sort in
    let first = subst (λ n. Ranked (place_of_atom P counts) n (flat_map (relation_atoms counts) (enumerate_from 0 P.relations))) (let none : 0 + sum_by (tuples_at counts) (take 0 P.relations) ≡ 0 = omega arith in none) (all_ranked (place_of_atom P counts) (relation_atoms counts) (tuples_at counts) 0 P.relations 0 P.relations (own_places P.relations) (relation_ranked P counts) (relation_length counts)) in
    let second = subst (λ n. Ranked (place_of_atom P counts) n (flat_map (individual_atoms counts) (enumerate_from 0 P.individuals))) (let none : total + sum_by size (take 0 P.individuals) ≡ total = omega arith in none) (all_ranked (place_of_atom P counts) (individual_atoms counts) size total P.individuals 0 P.individuals (own_places P.individuals) (individual_ranked P counts) (individual_length counts)) in
    let long = all_length (relation_atoms counts) (tuples_at counts) 0 P.relations (relation_length counts) in
    let all = ranked_append (place_of_atom P counts) 0 total (flat_map (relation_atoms counts) (enumerate_from 0 P.relations)) (flat_map (individual_atoms counts) (enumerate_from 0 P.individuals)) (omega (arith, long)) first second in
    let at = ranked_at (place_of_atom P counts) 0 k d (atoms_of P counts) below all in
    omega (arith, at)

variable_listed : (counts : List ℕ) (v : Variable) (sort : ℕ) → v.sort ≡ sort → IsVariableOf counts v → Among v (variables_of counts sort)
variable_listed counts v sort e h =
    subst (λ s. Among v (variables_of counts s)) e (among_map (λ (n : ℕ). let w : Variable = record { sort = v.sort; number = n } in w) v.number (numbers_below (slice_index counts v.sort)) (among_numbers (slice_index counts v.sort) v.number h))

choice_listed : (counts : List ℕ) (vs : List Variable) (sorts : List ℕ) → sorts_of vs ≡ sorts → Each (IsVariableOf counts) vs → Among vs (choose_each (map (variables_of counts) sorts))
choice_listed counts [] [] e h = inl refl
choice_listed counts [] (sort ∷ sorts) e h = absurd (let k : ⊥ = cc in k)
choice_listed counts (v ∷ vs) [] e h = absurd (let k : ⊥ = cc in k)
choice_listed counts (v ∷ vs) (sort ∷ sorts) e h =
    let here : v.sort ≡ sort = cc in
    let rest : sorts_of vs ≡ sorts = cc in
    among_flat_map (λ w. map (λ (chosen : List Variable). w ∷ chosen) (choose_each (map (variables_of counts) sorts))) v (v ∷ vs) (variables_of counts sort)
    (variable_listed counts v sort here h.0)
    (among_map (λ (chosen : List Variable). v ∷ chosen) vs (choose_each (map (variables_of counts) sorts)) (choice_listed counts vs sorts rest h.1))

pair_listed : {X : Type 0} (xs : List X) (n k : ℕ) (x : X) → slice_get xs k ≡ Some x → Among (n + k, x) (enumerate_from n xs)
pair_listed [] n k x h = absurd (let e : ⊥ = cc in e)
pair_listed (y ∷ xs) n zero x h =
    let same : y ≡ x = cc in
    let here : n ≡ n + 0 = omega arith in
    inl (ap (λ (z : _). let p : ℕ × _ = (n, z) in p) same ∙ ap (λ (i : ℕ). let p : ℕ × _ = (i, x) in p) here)
pair_listed (y ∷ xs) n (suc k) x h =
    let next : (n + 1) + k ≡ n + suc k = omega arith in
    inr (subst (λ i. Among (i, x) (enumerate_from (n + 1) xs)) next (pair_listed xs (n + 1) k x h))

own_pair : {X : Type 0} (xs : List X) (k : ℕ) (x : X) → slice_get xs k ≡ Some x → Among (k, x) (enumerate_from 0 xs)
own_pair xs k x h = subst (λ i. Among (i, x) (enumerate_from 0 xs)) (let same : 0 + k ≡ k = omega arith in same) (pair_listed xs 0 k x h)

-- each atom over the shape's variables is one of the shape's
pub atom_listed : (P : Protocol) (counts : List ℕ) (a : Atom) → IsNamed P a → IsAtomOf counts a → Contains (atoms_of P counts) a
atom_listed P counts (tuple r vs) n h =
    contained (tuple r vs) (atoms_of P counts)
    (among_left (tuple r vs) (flat_map (relation_atoms counts) (enumerate_from 0 P.relations)) (flat_map (individual_atoms counts) (enumerate_from 0 P.individuals))
    (among_flat_map (relation_atoms counts) (r, n.0) (tuple r vs) (enumerate_from 0 P.relations) (own_pair P.relations r n.0 n.1)
    (among_map (tuple r) vs (choose_each (map (variables_of counts) n.0.arguments)) (choice_listed counts vs n.0.arguments n.2 h))))
atom_listed P counts (is_individual v i) n h =
    contained (is_individual v i) (atoms_of P counts)
    (among_right (is_individual v i) (flat_map (relation_atoms counts) (enumerate_from 0 P.relations)) (flat_map (individual_atoms counts) (enumerate_from 0 P.individuals))
    (among_flat_map (individual_atoms counts) (i, n.0) (is_individual v i) (enumerate_from 0 P.individuals) (own_pair P.individuals i n.0 n.1)
    (among_map (λ (w : Variable). is_individual w i) v (variables_of counts n.0.sort) (variable_listed counts v n.0.sort n.2 h))))
