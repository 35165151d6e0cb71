-- The greatest count over a list, from its front.
use Rattle.std.proofs.Common.{◌≡◌, ◌≤◌, ◌<◌, ℕ, ◌+◌, List, [], ◌∷◌, length, get_or, drop, map, sym, ◌∙◌, ap, refl, arith, cond}
use Rattle.std.specs.Prelude.{max, count_by, Bool}
use Rattle.std.proofs.lemmas.List.{drop_more, at_drop_all}
use Rattle.std.proofs.lemmas.List.Sums.{sum_by-cons}
use Rattle.dai_model.specs.Protocol as Model
use Rattle.dai_model.specs.Sizes.{greatest, block_count, invariant_count, most_in_a_block, most_in_an_invariant}
use Rattle.dai_logic.specs.Parts.{block_of, action_of, invariant_of}
use Rattle.dai_logic.specs.Protocols.{protocol_of}
use Rattle.dai_logic.specs.declared.protocol.Protocol.{Protocol}
use Rattle.dai_logic.specs.declared.protocol.Action.{Action}
use Rattle.dai_logic.specs.declared.protocol.Invariant.{Invariant}

max_assoc : (a b c : ℕ) → max (max a b) c ≡ max a (max b c)
max_assoc a b c = omega arith

pub most_step : {X : Type 0} (count : X → ℕ) (xs : List X) (i : ℕ) (x : X) (most here whole : ℕ) → i < length xs → x ≡ get_or xs i x → here ≡ count x → max most (greatest (map count (drop i xs))) ≡ whole → max (max most here) (greatest (map count (drop (i + 1) xs))) ≡ whole
most_step count xs i x most here whole below is h k =
    let split : greatest (map count (drop i xs)) ≡ max (count x) (greatest (map count (drop (i + 1) xs))) = ap (λ ys. greatest (map count ys)) (drop_more xs i x below) ∙ ap (λ y. max (count y) (greatest (map count (drop (i + 1) xs)))) (sym is) in
    max_assoc most here (greatest (map count (drop (i + 1) xs))) ∙ (ap (λ n. max most (max n (greatest (map count (drop (i + 1) xs))))) h ∙ (ap (max most) (sym split) ∙ k))

pub most_end : {X : Type 0} (count : X → ℕ) (xs : List X) (i most whole : ℕ) → length xs ≤ i → max most (greatest (map count (drop i xs))) ≡ whole → most ≡ whole
most_end count xs i most whole past k =
    let none : greatest (map count (drop i xs)) ≡ 0 = at_drop_all (λ ys. greatest (map count ys)) xs i past in
    omega (arith, none, k)

pub count_by-map : {X Y : Type 0} (p : Y → Bool) (f : X → Y) (xs : List X) → count_by p (map f xs) ≡ count_by (λ x. p (f x)) xs
count_by-map p f [] = refl
count_by-map p f (x ∷ xs) = sum_by-cons (λ y. cond (p y) 1 0) (f x) (map f xs) ∙ (ap (λ n. cond (p (f x)) 1 0 + n) (count_by-map p f xs) ∙ sym (sum_by-cons (λ x. cond (p (f x)) 1 0) x xs))

pub blocks_counted : (sort : ℕ) (xs : List Action) → map (block_count sort) (map (λ (a : Model.Action). a.block) (map action_of xs)) ≡ map (λ (a : Action). block_count sort (block_of a.block)) xs
blocks_counted sort [] = refl
blocks_counted sort (x ∷ xs) = ap (λ ns. block_count sort (block_of x.block) ∷ ns) (blocks_counted sort xs)

pub invariants_counted : (sort : ℕ) (xs : List Invariant) → map (invariant_count sort) (map invariant_of xs) ≡ map (λ (f : Invariant). invariant_count sort (invariant_of f)) xs
invariants_counted sort [] = refl
invariants_counted sort (x ∷ xs) = ap (λ ns. invariant_count sort (invariant_of x) ∷ ns) (invariants_counted sort xs)

pub blocks_begin : (p : Protocol) (sort most : ℕ) (items : List Action) → items ≡ p.actions.items → most ≡ block_count sort (block_of p.init) → max most (greatest (map (λ (a : Action). block_count sort (block_of a.block)) items)) ≡ most_in_a_block (protocol_of p) sort
blocks_begin p sort most items e h =
    ap (λ n. max n (greatest (map (λ (a : Action). block_count sort (block_of a.block)) items))) h
    ∙ (ap (λ xs. max (block_count sort (block_of p.init)) (greatest (map (λ (a : Action). block_count sort (block_of a.block)) xs))) e
    ∙ ap (λ ns. max (block_count sort (block_of p.init)) (greatest ns)) (sym (blocks_counted sort p.actions.items)))

pub invariants_begin : (p : Protocol) (sort : ℕ) (items : List Invariant) → items ≡ p.invariants.items → max 0 (greatest (map (λ (f : Invariant). invariant_count sort (invariant_of f)) items)) ≡ most_in_an_invariant (protocol_of p) sort
invariants_begin p sort items e =
    let zero_left : max 0 (greatest (map (λ (f : Invariant). invariant_count sort (invariant_of f)) items)) ≡ greatest (map (λ (f : Invariant). invariant_count sort (invariant_of f)) items) = omega arith in
    zero_left ∙ (ap (λ xs. greatest (map (λ (f : Invariant). invariant_count sort (invariant_of f)) xs)) e ∙ ap greatest (sym (invariants_counted sort p.invariants.items)))
