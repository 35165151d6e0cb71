-- What is remembered: lists of keys, of what is known and of transitions.
use Rattle.std.proofs.Common.{◌≡◌, ◌+◌, ◌<◌, ◌≤◌, ◌++◌, ℕ, List, [], ◌∷◌, Some, length, get_or, take, sym, ap, ◌∙◌, subst, arith}
use Rattle.std.specs.Prelude.{slice_get, ◌⊎◌}
use Rattle.std.proofs.Common.{inl, inr}
use Rattle.std.proofs.lemmas.Bool.{cases_lt}
use Rattle.std.specs.List.{Contains, cons_option}
use Rattle.std.proofs.lemmas.List.{length-map, get_or-map, take_more, map-append, get_or_default}
use Rattle.std.proofs.lemmas.List.Elements.{filter_map-append}
use Rattle.std.proofs.lemmas.Option.{slice_get-get_or}
use Rattle.dai_model.proofs.Below.{slice_get-some}
use Rattle.dai_model.specs.Clause.{Clause}
use Rattle.dai_inquiry.specs.declared.keys.Key.{Key}
use Rattle.dai_inquiry.specs.Keys.{clause_in, clauses_in}
use Rattle.dai_judge.specs.Memory.{picked_of, AreAmong}

-- a key of the list stands for a clause of it
pub member_at : (keys : List Key) (i : ℕ) (own : Key) (c : Clause) → i < length keys → own ≡ get_or keys i own → clause_in own ≡ c → Contains (clauses_in keys) c
member_at keys i own c below is same =
    let long = length-map keys clause_in in
    (i, omega (arith, below, long), get_or-map clause_in keys i own c below ∙ (ap clause_in (sym is) ∙ same))

-- one number more
pub picked_more : (keys : List Key) (ys zs : List Key) (numbers : List ℕ) (i n : ℕ) (own copied : Key) → i < length numbers → n ≡ get_or numbers i n → n < length keys → own ≡ get_or keys n own → clause_in copied ≡ clause_in own → zs ≡ ys ++ copied ∷ [] → clauses_in ys ≡ picked_of (clauses_in keys) (take i numbers) → clauses_in zs ≡ picked_of (clauses_in keys) (take (i + 1) numbers)
picked_more keys ys zs numbers i n own copied below item inside is same pushed old =
    let long = length-map keys clause_in in
    let at : slice_get (clauses_in keys) n ≡ Some (clause_in own) = slice_get-get_or (clauses_in keys) n (clause_in own) (omega (arith, inside, long)) ∙ ap Some (get_or-map clause_in keys n own (clause_in own) inside ∙ ap clause_in (sym is)) in
    let more : picked_of (clauses_in keys) (take (i + 1) numbers) ≡ picked_of (clauses_in keys) (take i numbers) ++ picked_of (clauses_in keys) (n ∷ []) =
    ap (picked_of (clauses_in keys)) (take_more numbers i n below ∙ ap (λ m. take i numbers ++ m ∷ []) (sym item)) ∙ filter_map-append (slice_get (clauses_in keys)) (take i numbers) (n ∷ []) in
    let one : picked_of (clauses_in keys) (n ∷ []) ≡ clause_in own ∷ [] = ap (λ o. cons_option o []) at in
    ap clauses_in pushed ∙ (map-append clause_in ys (copied ∷ []) ∙ (ap (λ cs. cs ++ clause_in copied ∷ []) old ∙ (ap (λ c. picked_of (clauses_in keys) (take i numbers) ++ c ∷ []) same ∙ (ap (λ cs. picked_of (clauses_in keys) (take i numbers) ++ cs) (sym one) ∙ sym more))))

-- where each key of a list is among others, each clause of it is
pub among_each : (keys : List Key) (many : List Clause) (count : ℕ) → length keys ≤ count → ((k : ℕ) (d : Key) → k < count → k < length keys → Contains many (clause_in (get_or keys k d))) → AreAmong (clauses_in keys) many
among_each keys many count all each c there =
    let long = length-map keys clause_in in
    let below : there.0 < length keys = (let b = there.1 in omega arith) in
    let own = slice_get-some keys there.0 below in
    let is : clause_in (get_or keys there.0 own.0) ≡ c = sym (get_or-map clause_in keys there.0 own.0 c below) ∙ there.2 in
    subst (Contains many) is (each there.0 own.0 (omega arith) below)

-- among those so far, or the next
pub among_more : (keys : List Key) (many : List Clause) (count : ℕ) (next : Key) → next ≡ get_or keys count next → Contains many (clause_in next) → ((k : ℕ) (d : Key) → k < count → k < length keys → Contains many (clause_in (get_or keys k d))) → (k : ℕ) (d : Key) → k < count + 1 → k < length keys → Contains many (clause_in (get_or keys k d))
among_more keys many count next is there each k d below inside = by_order (cases_lt k count)
  where
    by_order : (k < count) ⊎ (count ≤ k) → Contains many (clause_in (get_or keys k d))
    by_order (inl before) = each k d before inside
    by_order (inr after) =
        let same : k ≡ count = omega arith in
        let own : next ≡ get_or keys k d = is ∙ (ap (λ n. get_or keys n next) (sym same) ∙ get_or_default keys k next d inside) in
        subst (λ w. Contains many (clause_in w)) own there
