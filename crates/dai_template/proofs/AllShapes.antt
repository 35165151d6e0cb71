-- The clauses over one shape, and over all shapes.
use Rattle.std.proofs.Common.{◌≡◌, ◌<◌, ◌≤◌, ◌+◌, ◌*◌, ◌/◌, ℕ, zero, suc, List, [], ◌∷◌, ◌++◌, length, get_or, map, sym, ap, ◌∙◌, subst, arith, inl, inr, ◌⊎◌}
use Rattle.std.specs.List.{All}
use Rattle.std.specs.declared.cmp.Ordering.TheVariants.{Less}
use Rattle.std.proofs.lemmas.Bool.{cases_lt}
use Rattle.std.proofs.lemmas.List.{length-map, length-append, get_or_default}
use Rattle.dai_model.specs.Protocol.{Protocol}
use Rattle.dai_model.specs.Clause.{Clause, atoms_of}
use Rattle.dai_model.specs.Template.{Bounds, IsTemplate}
use Rattle.dai_model.specs.Subsumption.{IsCanonical, print_order}
use Rattle.dai_model.specs.Shapes.{compare_shapes}
use Rattle.dai_model.proofs.Below.{Each}
use Rattle.dai_model.proofs.Order.{Rising, shapes_in_order}
use Rattle.dai_model.proofs.Within.{shapes_listed}
use Rattle.dai_template.specs.declared.clause.Clause.{Clause as Kept}
use Rattle.dai_template.specs.declared.space.Space.{Space}
use Rattle.dai_template.specs.Atoms.{counts_of}
use Rattle.dai_template.specs.Spaces.{IsSpaceOf, IsClauseOf, clause_of}
use Rattle.dai_template.specs.Lists.{clauses_of, IsListOfAll, Comes, IsListed, IsPart, IsAdded, AreRest, GoesOn, IsBegunWith, HasFewLiterals, IsOverShapesBelow}
use Rattle.dai_template.proofs.Within.{Among, among_at}
use Rattle.dai_template.proofs.InOrder.{IsAtomBefore, each_from, rising_from}
use Rattle.dai_template.proofs.Parts.{joined, added_then, rest_of, comes_by_length, comes_by_shape, each_to}

-- The clauses over one shape

pub empty_begun : (P : Protocol) (B : Bounds) (space : Space) (empty : Kept) (left : ℕ) → IsSpaceOf P B space → empty.shape < length space.shapes.items → empty.lits.items ≡ [] → left ≤ B.literals → IsTemplate P B (clause_of space empty) → IsBegunWith P B space empty 0 left
empty_begun P B space empty left h below none few t = record {
  is = record { space_of = h; shape = below; template = t };
  room = let e = ap length none in omega (arith, e, few);
  before = subst (Each (λ l. l / 2 < 0)) (sym none) tt;
}

no_literals : (P : Protocol) (B : Bounds) (space : Space) (empty : Kept) (shape literals : ℕ) (c : Clause) → empty.shape ≡ shape → empty.lits.items ≡ [] → GoesOn P (clause_of space empty) 0 literals c → (c.counts ≡ get_or (map counts_of space.shapes.items) shape []) × (length c.literals ≡ literals)
no_literals P B space empty shape literals c s none h =
    (h.same_shape ∙ ap (λ n. get_or (map counts_of space.shapes.items) n []) s, let e = ap length h.literals ∙ length-append empty.lits.items h.rest in let k = ap length none in let l = h.long in omega (arith, e, k, l))

goes_from_empty : (P : Protocol) (B : Bounds) (space : Space) (empty : Kept) (shape literals : ℕ) (c : Clause) → empty.shape ≡ shape → empty.lits.items ≡ [] → IsTemplate P B c → c.counts ≡ get_or (map counts_of space.shapes.items) shape [] → length c.literals ≡ literals → GoesOn P (clause_of space empty) 0 literals c
goes_from_empty P B space empty shape literals c s none t over many =
    let same : c.counts ≡ (clause_of space empty).counts = over ∙ ap (λ n. get_or (map counts_of space.shapes.items) n []) (sym s) in
    record {
      rest = c.literals;
      same_shape = same;
      literals = ap (λ xs. xs ++ c.literals) (sym none);
      long = many;
      are = subst (λ counts. AreRest (length (atoms_of P counts)) 0 c.literals) same (rest_of (length (atoms_of P c.counts)) 0 c.literals (each_from (λ l. l < 2 * length (atoms_of P c.counts)) c.literals (λ i below. t.of_the_shape i 0 below)) (each_from (λ l. 0 ≤ l / 2) c.literals (λ i below. omega arith)) (rising_from IsAtomBefore c.literals (λ i j before below. t.each_atom_once i j before below)));
    }

pub literals_more : (P : Protocol) (B : Bounds) (space : Space) (empty : Kept) (shape literals : ℕ) (old mid new : List Kept) → empty.shape ≡ shape → empty.lits.items ≡ [] → IsAdded P B space (HasFewLiterals space shape literals) old mid → IsAdded P B space (GoesOn P (clause_of space empty) 0 literals) mid new → IsAdded P B space (HasFewLiterals space shape (literals + 1)) old new
literals_more P B space empty shape literals old mid new s none before after =
    added_then P B space (HasFewLiterals space shape literals) (GoesOn P (clause_of space empty) 0 literals) (HasFewLiterals space shape (literals + 1)) old mid new
    (λ x y kx ky. let there = no_literals P B space empty shape literals y s none ky in comes_by_length x y (kx.over ∙ sym there.0) (let a = kx.few in let b = there.1 in omega (arith, a, b)))
    (λ x k. record { over = k.over; few = let a = k.few in omega (arith, a) })
    (λ x k. let there = no_literals P B space empty shape literals x s none k in record { over = there.0; few = let b = there.1 in omega (arith, b) })
    (λ x t k. by_length x t k (cases_lt (length x.literals) literals))
    before after
  where
    by_length : (x : Clause) → IsTemplate P B x → HasFewLiterals space shape (literals + 1) x → (length x.literals < literals) ⊎ (literals ≤ length x.literals) → HasFewLiterals space shape literals x ⊎ GoesOn P (clause_of space empty) 0 literals x
    by_length x t k (inl few) = inl (record { over = k.over; few = few })
    by_length x t k (inr many) = inr (goes_from_empty P B space empty shape literals x s none t k.over (let a = k.few in omega (arith, a, many)))

-- All shapes

pub shape_more : (P : Protocol) (B : Bounds) (space : Space) (shape : ℕ) (old new : List Kept) → IsSpaceOf P B space → shape < length space.shapes.items → IsPart P B space (IsOverShapesBelow space shape) old → IsAdded P B space (HasFewLiterals space shape (B.literals + 1)) old new → IsPart P B space (IsOverShapesBelow space (shape + 1)) new
shape_more P B space shape old new h inside before after =
    subst (IsPart P B space (IsOverShapesBelow space (shape + 1))) (sym after.added)
    (joined P B space (IsOverShapesBelow space shape) (HasFewLiterals space shape (B.literals + 1)) (IsOverShapesBelow space (shape + 1)) old after.part
    (λ x y kx ky. comes_by_shape x y (ap (λ xs. compare_shapes xs y.counts) kx.over ∙ (ap (compare_shapes (get_or (map counts_of space.shapes.items) kx.number [])) ky.over ∙ earlier kx.number kx.below)))
    (λ x k. record { number = k.number; below = let a = k.below in omega (arith, a); over = k.over })
    (λ x k. record { number = shape; below = omega arith; over = k.over })
    (λ x t k. by_number x t k (cases_lt k.number shape))
    before after.is)
  where
    earlier : (number : ℕ) → number < shape → compare_shapes (get_or (map counts_of space.shapes.items) number []) (get_or (map counts_of space.shapes.items) shape []) ≡ Less
    earlier number below =
        let long = length-map space.shapes.items counts_of in
        let same = ap length h.shapes in
        ap (λ (ls : List (List ℕ)). compare_shapes (get_or ls number []) (get_or ls shape [])) h.shapes ∙ shapes_in_order B.variables number shape [] below (omega (arith, long, same, inside))

    by_number : (x : Clause) → IsTemplate P B x → (k : IsOverShapesBelow space (shape + 1) x) → (k.number < shape) ⊎ (shape ≤ k.number) → IsOverShapesBelow space shape x ⊎ HasFewLiterals space shape (B.literals + 1) x
    by_number x t k (inl small) = inl (record { number = k.number; below = small; over = k.over })
    by_number x t k (inr large) =
        let here : k.number ≡ shape = let a = k.below in omega (arith, a, large) in
        inr (record { over = k.over ∙ ap (λ n. get_or (map counts_of space.shapes.items) n []) here; few = let a = t.few_literals in omega (arith, a) })

each_all : {X : Type 0} (P : X → Type 0) (xs : List X) → Each P xs → All P xs
each_all P [] h k d below = absurd (omega arith)
each_all P (x ∷ xs) h zero d below = h.0
each_all P (x ∷ xs) h (suc k) d below = each_all P xs h.1 k d (omega arith)

each_contained : (P : Clause → Type 0) (space : Space) (xs : List Kept) (c : Clause) → Each (λ x. P (clause_of space x)) xs → Among c (clauses_of space xs) → P c
each_contained P space [] c h k = absurd k
each_contained P space (x ∷ xs) c h (inl e) = subst P e h.0
each_contained P space (x ∷ xs) c h (inr k) = each_contained P space xs c h.1 k

rising_at : (space : Space) (xs : List Kept) (i j : ℕ) (d : Clause) → i < j → j < length xs → Rising (Comes space) xs → print_order (get_or (clauses_of space xs) i d) (get_or (clauses_of space xs) j d) ≡ Less
rising_at space [] i j d h k r = absurd (omega arith)
rising_at space (x ∷ xs) i zero d h k r = absurd (omega arith)
rising_at space (x ∷ xs) zero (suc j) d h k r = first xs j (omega arith) r.0
  where
    first : (ys : List Kept) (j : ℕ) → j < length ys → Each (Comes space x) ys → print_order (clause_of space x) (get_or (clauses_of space ys) j d) ≡ Less
    first [] j below e = absurd (omega arith)
    first (y ∷ ys) zero below e = e.0
    first (y ∷ ys) (suc j) below e = first ys j (omega arith) e.1
rising_at space (x ∷ xs) (suc i) (suc j) d h k r = rising_at space xs i j d (omega arith) (omega arith) r.1

pub list_of_all : (P : Protocol) (B : Bounds) (space : Space) (shapes : ℕ) (clauses : List Kept) → IsSpaceOf P B space → length space.shapes.items ≤ shapes → IsPart P B space (IsOverShapesBelow space shapes) clauses → IsListOfAll P B space clauses
list_of_all P B space shapes clauses h many part = record {
  of_the_space = each_all (IsClauseOf P B space) clauses (each_to (IsListed P B space (IsOverShapesBelow space shapes)) (IsClauseOf P B space) clauses (λ c l. l.of_the_space) part.each);
  canonical = λ c k. each_contained (IsCanonical P B) space clauses c (each_to (IsListed P B space (IsOverShapesBelow space shapes)) (λ x. IsCanonical P B (clause_of space x)) clauses (λ x l. l.canonical) part.each) (among_at c (clauses_of space clauses) k.0 k.1 k.2);
  complete = λ c t canonical.
      let found = shapes_listed B.variables c.counts (t.one_count_each ∙ sym h.each) t.few_variables in
      let below : found.0 < length (map counts_of space.shapes.items) = let k = found.1 in let same = ap length h.shapes in omega (arith, k, same) in
      let long = length-map space.shapes.items counts_of in
      part.complete c t canonical (record {
        number = found.0;
        below = omega (arith, below, long, many);
        over = sym found.2 ∙ (ap (λ (ls : List (List ℕ)). get_or ls found.0 c.counts) (sym h.shapes) ∙ get_or_default (map counts_of space.shapes.items) found.0 c.counts [] below);
      });
  in_order = λ i j d before below. rising_at space clauses i j d before below part.rising;
}
