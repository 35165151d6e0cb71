-- Clauses under an embedding: one value at a placement in the small structure and at its image in the large one.
use Rattle.std.proofs.Common.{◌≡◌, ◌≢◌, ◌<◌, get_or, length, ℕ, suc, ◌||◌, Bool, true, false, not, List, [], ◌∷◌, map, sym, ◌∙◌, ap, subst, refl, arith}
use Rattle.std.specs.Prelude.{slice_index, if◌then◌else◌, nat_eq, ◌*◌, ◌/◌}
use Rattle.std.specs.List.{All, list_any}
use Rattle.std.proofs.lemmas.List.{get_or-map, length-map}
use Rattle.std.proofs.lemmas.Bool.{cases_lt}
use Rattle.dai_model.specs.Protocol.{Protocol}
use Rattle.dai_model.specs.Structure.{Structure, size_of, is_tuple}
use Rattle.dai_model.specs.Placement.{Apart, IsPlacement, of_sort, ArePlacements}
use Rattle.dai_model.specs.Clause.{Variable, Atom, tuple, is_individual, Clause, numbers_below, atoms_of, literal_among, no_atom, value_at, atom_value, literal_value, clause_value, Meets}
use Rattle.dai_model.specs.Template.{Bounds, IsTemplate}
use Rattle.dai_model.proofs.Typed.{slice_get-length}
use Rattle.dai_model.proofs.Below.{Each, Each-at, IsVariableOf, IsAtomOf, atoms_inside, numbers_below-at, count_within, slice_get-some, half_below}
use Rattle.dai_model.proofs.ShapeAtoms.{sorts_of, IsNamed, atoms_named}
use Rattle.dai_cut.specs.Embedding.{images, IsEmbedding, image_of_placement}
use Rattle.dai_model.proofs.Folds.{numbers_below-length}
use Rattle.dai_cut.proofs.Embedded.{both, lt_test, Stand, Comparison, lower, level, higher, compared, order_kept}

apart_through : (ordered : Bool) (x y a b : ℕ) → (x < y → a < b) → (y < x → b < a) → Apart ordered x y → Apart ordered a b
apart_through true x y a b up down h = up h
apart_through false x y a b up down h = by_order (compared x y)
  where
    by_order : Comparison x y → a ≢ b
    by_order (lower k) = λ e. let l = up k in let n : ⊥ = omega (arith, l, e) in n
    by_order (level k) = λ e. h k
    by_order (higher k) = λ e. let l = down k in let n : ⊥ = omega (arith, l, e) in n

-- a map that keeps the order of the elements of a placement
pub record KeepsOrder (to : ℕ → ℕ) (count size : ℕ) (xs : List ℕ) : Type 0 where
  pub inside : (i : ℕ) → i < count → to (slice_index xs i) < size
  pub increasing : (i j : ℕ) → i < count → j < count → slice_index xs i < slice_index xs j → to (slice_index xs i) < to (slice_index xs j)

pub mapped_placement : (to : ℕ → ℕ) (ordered : Bool) (count n size : ℕ) (xs : List ℕ) → KeepsOrder to count size xs → IsPlacement ordered count n xs → IsPlacement ordered count size (map to xs)
mapped_placement to ordered count n size xs keeps p = record {
  one_each = length-map xs to ∙ p.one_each;
  inside = λ i h.
      let e = get_or-map to xs i 0 0 (let k = p.one_each in omega (arith, k, h)) in
      subst (λ x. x < size) (sym e) (keeps.inside i h);
  apart = λ i j h k.
      let hi : i < count = omega (arith, h, k) in
      let ei = get_or-map to xs i 0 0 (let l = p.one_each in omega (arith, l, hi)) in
      let ej = get_or-map to xs j 0 0 (let l = p.one_each in omega (arith, l, k)) in
      let far = apart_through ordered (slice_index xs i) (slice_index xs j) (to (slice_index xs i)) (to (slice_index xs j)) (keeps.increasing i j hi k) (keeps.increasing j i k hi) (p.apart i j h k) in
      subst (λ x. Apart ordered x (get_or (map to xs) j 0)) (sym ei) (subst (λ y. Apart ordered (to (slice_index xs i)) y) (sym ej) far);
}

pub image_of_sort : (P : Protocol) (maps : ℕ → ℕ → ℕ) (elements : List (List ℕ)) (sort : ℕ) → sort < length P.sorts → of_sort (image_of_placement P maps elements) sort ≡ map (maps sort) (of_sort elements sort)
image_of_sort P maps elements sort h =
    let e = numbers_below-length (length P.sorts) in
    let here : sort < length (numbers_below (length P.sorts)) = omega (arith, e, h) in
    let at = numbers_below-at (length P.sorts) sort 0 h in
    get_or-map (λ t. map (maps t) (of_sort elements t)) (numbers_below (length P.sorts)) sort 0 [] here ∙ ap (λ t. map (maps t) (of_sort elements t)) at

pub mapped_placements : (P : Protocol) (maps : ℕ → ℕ → ℕ) (counts before after : List ℕ) (elements : List (List ℕ)) → ((sort : ℕ) → sort < length P.sorts → KeepsOrder (maps sort) (slice_index counts sort) (slice_index after sort) (of_sort elements sort)) → ArePlacements P counts before elements → ArePlacements P counts after (image_of_placement P maps elements)
mapped_placements P maps counts before after elements keeps p = record {
  one_list_each = length-map (numbers_below (length P.sorts)) _ ∙ numbers_below-length (length P.sorts);
  each = λ sort T h.
      let below = slice_get-length P.sorts sort T h in
      subst (IsPlacement T.ordered (slice_index counts sort) (slice_index after sort)) (sym (image_of_sort P maps elements sort below))
      (mapped_placement (maps sort) T.ordered (slice_index counts sort) (slice_index before sort) (slice_index after sort) (of_sort elements sort) (keeps sort below) (p.each sort T h));
}

-- a variable of the shape, placed
pub variable_below : (counts : List ℕ) (v : Variable) → IsVariableOf counts v → v.sort < length counts
variable_below counts v inside = count_within counts v.sort v.number inside (cases_lt v.sort (length counts))

pub variable_inside : (P : Protocol) (counts sizes : List ℕ) (elements : List (List ℕ)) (v : Variable) → length counts ≡ length P.sorts → ArePlacements P counts sizes elements → IsVariableOf counts v → value_at elements v < slice_index sizes v.sort
variable_inside P counts sizes elements v long p inside =
    let below = variable_below counts v inside in
    let found = slice_get-some P.sorts v.sort (omega (arith, below, long)) in
    (p.each v.sort found.0 found.1).inside v.number inside

pub variable_image : (P : Protocol) (maps : ℕ → ℕ → ℕ) (counts sizes : List ℕ) (elements : List (List ℕ)) (v : Variable) → length counts ≡ length P.sorts → ArePlacements P counts sizes elements → IsVariableOf counts v → value_at (image_of_placement P maps elements) v ≡ maps v.sort (value_at elements v)
variable_image P maps counts sizes elements v long p inside =
    let below = variable_below counts v inside in
    let here : v.sort < length P.sorts = omega (arith, below, long) in
    let found = slice_get-some P.sorts v.sort here in
    let count = (p.each v.sort found.0 found.1).one_each in
    ap (λ xs. slice_index xs v.number) (image_of_sort P maps elements v.sort here)
    ∙ get_or-map (maps v.sort) (of_sort elements v.sort) v.number 0 0 (omega (arith, count, inside))

-- a placement in the small structure, and what stands for it in the large one
pub record Placed (small : Structure) (maps : ℕ → ℕ → ℕ) (counts : List ℕ) (own other : List (List ℕ)) : Type 0 where
  pub inside : (v : Variable) → IsVariableOf counts v → value_at own v < size_of small v.sort
  pub images : (v : Variable) → IsVariableOf counts v → value_at other v ≡ maps v.sort (value_at own v)

variables_image : (small : Structure) (maps : ℕ → ℕ → ℕ) (counts : List ℕ) (own other : List (List ℕ)) (vs : List Variable) → Placed small maps counts own other → Each (IsVariableOf counts) vs → map (value_at other) vs ≡ images maps (sorts_of vs) (map (value_at own) vs)
variables_image small maps counts own other [] p inside = refl
variables_image small maps counts own other (v ∷ vs) p inside =
    let h = p.images v inside.0 in
    let k = variables_image small maps counts own other vs p inside.1 in
    cc

variables_tuple : (small : Structure) (maps : ℕ → ℕ → ℕ) (counts : List ℕ) (own other : List (List ℕ)) (vs : List Variable) → Placed small maps counts own other → Each (IsVariableOf counts) vs → is_tuple small.sizes (sorts_of vs) (map (value_at own) vs) ≡ true
variables_tuple small maps counts own other [] p inside = refl
variables_tuple small maps counts own other (v ∷ vs) p inside = both _ _ (lt_test _ _ (p.inside v inside.0)) (variables_tuple small maps counts own other vs p inside.1)

atom_same : (P : Protocol) (small large : Structure) (maps : ℕ → ℕ → ℕ) (counts : List ℕ) (own other : List (List ℕ)) (a : Atom) → Stand P small large maps → Placed small maps counts own other → IsNamed P a → IsAtomOf counts a → atom_value small own a ≡ atom_value large other a
atom_same P small large maps counts own other (tuple r vs) st p n inside =
    let R = n.0 in
    st.embedding.relations r R (map (value_at own) vs) n.1 (subst (λ sorts. is_tuple small.sizes sorts (map (value_at own) vs) ≡ true) n.2 (variables_tuple small maps counts own other vs p inside))
    ∙ ap (large.holds r) (ap (λ sorts. images maps sorts (map (value_at own) vs)) (sym n.2) ∙ sym (variables_image small maps counts own other vs p inside))
atom_same P small large maps counts own other (is_individual v i) st p n inside =
    let I = n.0 in
    let at_v : value_at other v ≡ maps I.sort (value_at own v) = subst (λ t. value_at other v ≡ maps t (value_at own v)) n.2 (p.images v inside) in
    let below : value_at own v < size_of small I.sort = subst (λ t. value_at own v < size_of small t) n.2 (p.inside v inside) in
    let at_i = st.embedding.individuals i I n.1 in
    let order = order_kept P small large maps I.sort (value_at own v) (small.element i) st.embedding below (st.structure.elements_inside i I n.1) in
    order.equal ∙ (ap (λ x. nat_eq x (maps I.sort (small.element i))) (sym at_v) ∙ ap (λ y. nat_eq (value_at other v) y) (sym at_i))

literals_same : (P : Protocol) (small large : Structure) (maps : ℕ → ℕ → ℕ) (counts : List ℕ) (own other : List (List ℕ)) (ls : List ℕ) → Stand P small large maps → Placed small maps counts own other → All (λ l. l < 2 * length (atoms_of P counts)) ls → list_any (literal_value small own) (map (literal_among (atoms_of P counts)) ls) ≡ list_any (literal_value large other) (map (literal_among (atoms_of P counts)) ls)
literals_same P small large maps counts own other [] st p inside = refl
literals_same P small large maps counts own other (l ∷ ls) st p inside =
    let here = half_below l (length (atoms_of P counts)) (inside 0 0 (omega arith)) in
    let named = Each-at (IsNamed P) (atoms_of P counts) (l / 2) no_atom here (atoms_named P counts) in
    let shaped = Each-at (IsAtomOf counts) (atoms_of P counts) (l / 2) no_atom here (atoms_inside P counts) in
    let first = atom_same P small large maps counts own other (literal_among (atoms_of P counts) l).atom st p named shaped in
    let rest = literals_same P small large maps counts own other ls st p (λ k d below. inside (suc k) d (omega (arith, below))) in
    let value : literal_value small own (literal_among (atoms_of P counts) l) ≡ literal_value large other (literal_among (atoms_of P counts) l) = ap (λ b. if (literal_among (atoms_of P counts) l).negated then not b else b) first in
    ap (λ b. b || list_any (literal_value small own) (map (literal_among (atoms_of P counts)) ls)) value
    ∙ ap (λ b. literal_value large other (literal_among (atoms_of P counts) l) || b) rest

pub clause_same : (P : Protocol) (B : Bounds) (small large : Structure) (maps : ℕ → ℕ → ℕ) (c : Clause) (own other : List (List ℕ)) → Stand P small large maps → IsTemplate P B c → Placed small maps c.counts own other → clause_value P small c own ≡ clause_value P large c other
clause_same P B small large maps c own other st t p = literals_same P small large maps c.counts own other c.literals st p t.of_the_shape

pub placed_by : (P : Protocol) (small : Structure) (maps : ℕ → ℕ → ℕ) (counts : List ℕ) (elements : List (List ℕ)) → length counts ≡ length P.sorts → ArePlacements P counts small.sizes elements → Placed small maps counts elements (image_of_placement P maps elements)
placed_by P small maps counts elements long p = record {
  inside = λ v inside. variable_inside P counts small.sizes elements v long p inside;
  images = λ v inside. variable_image P maps counts small.sizes elements v long p inside;
}

pub image_placements : (P : Protocol) (small large : Structure) (maps : ℕ → ℕ → ℕ) (counts : List ℕ) (elements : List (List ℕ)) → IsEmbedding P small large maps → ArePlacements P counts small.sizes elements → ArePlacements P counts large.sizes (image_of_placement P maps elements)
image_placements P small large maps counts elements em p =
    mapped_placements P maps counts small.sizes large.sizes elements
    (λ sort below.
    let found = slice_get-some P.sorts sort below in
    let own = p.each sort found.0 found.1 in
    record {
      inside = λ i h. em.inside sort (slice_index (of_sort elements sort) i) (own.inside i h);
      increasing = λ i j h k before. em.increasing sort (slice_index (of_sort elements sort) i) (slice_index (of_sort elements sort) j) before (own.inside j k);
    })
    p

-- what the large structure meets, the small one meets
pub meets_restricted : (P : Protocol) (B : Bounds) (small large : Structure) (maps : ℕ → ℕ → ℕ) (c : Clause) → Stand P small large maps → IsTemplate P B c → Meets P large c → Meets P small c
meets_restricted P B small large maps c st t meets =
    λ elements p.
    clause_same P B small large maps c elements (image_of_placement P maps elements) st t (placed_by P small maps c.counts elements t.one_count_each p)
    ∙ meets (image_of_placement P maps elements) (image_placements P small large maps c.counts elements st.embedding p)
