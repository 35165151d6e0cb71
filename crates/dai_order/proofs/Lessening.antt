-- A clause of the space without a variable.
use Rattle.std.proofs.Common.{◌≡◌, ◌≢◌, ◌<◌, ◌≤◌, ◌+◌, ◌-◌, ◌*◌, ◌/◌, ◌%◌, ◌++◌, ℕ, zero, suc, List, [], ◌∷◌, length, get_or, set, map, sum, take, sym, ap, ◌∙◌, refl, subst, arith, inl, inr, ◌⊎◌}
use Rattle.std.specs.Prelude.{slice_index}
use Rattle.std.specs.List.{All}
use Rattle.std.proofs.lemmas.Bool.{cases_lt, cases_eq}
use Rattle.std.proofs.lemmas.List.{length-map, get_or_default, get_or-map, get_or_append_left, get_or_push, length-append, length-take-le, get_or-take, get_or-set_same, get_or-set_other, length-set}
use Rattle.dai_model.specs.Protocol.{Protocol}
use Rattle.dai_model.specs.Clause as Model
use Rattle.dai_model.specs.Clause.{Atom, atoms_of, no_atom}
use Rattle.dai_model.specs.Template.{Bounds, IsTemplate}
use Rattle.dai_model.specs.Subsumption.{Subsumes}
use Rattle.dai_model.proofs.Below.{atoms_inside}
use Rattle.dai_model.proofs.Within.{shapes_listed}
use Rattle.dai_template.specs.declared.clause.Clause.{Clause}
use Rattle.dai_template.specs.declared.clause.Shape.{Shape}
use Rattle.dai_template.specs.declared.clause.Atom.{Atom as Kept}
use Rattle.dai_template.specs.declared.space.Space.{Space}
use Rattle.dai_template.specs.Atoms.{atom_of, counts_of}
use Rattle.dai_template.specs.Spaces.{IsClauseOf, clause_of}
use Rattle.dai_template.specs.Renamings.{put_in_order}
use Rattle.dai_template.proofs.Clauses.{small}
use Rattle.dai_template.proofs.Ways.{within_at, within_length, All-from_Each}
use Rattle.dai_template.proofs.SpaceShapes.{shape_inside, few_shapes, shape_atoms}
use Rattle.dai_template.proofs.InOrder.{put_all_length}
use Rattle.dai_order.specs.Sides.{AreStored, AtomMayGo}
use Rattle.dai_order.specs.Variables.{counts_at, with_one_more}
use Rattle.dai_order.specs.Parts.{IsWithoutVariable, LeavesOutNone, IsPreimage, ArePreimages, HasNoPreimage, AreSought, AreFewShapes}
use Rattle.dai_order.proofs.Sides.{all_stored, last_of}
use Rattle.dai_order.proofs.Larger.{counts_is, atoms_is, put_all_more}
use Rattle.dai_order.proofs.VariableGains.{atoms_at_is}
use Rattle.dai_order.proofs.MoreVariables.{IsInsertion, more_here, more_sum}
use Rattle.dai_order.proofs.Preimages.{has_preimages, part_template, part_below, part_above, part_long}

pub few_of_all : (P : Protocol) (B : Bounds) (space : Space) (clause : Clause) → IsClauseOf P B space clause → AreFewShapes space (length (counts_at space clause.shape))
few_of_all P B space clause h = record {
  few_shapes = few_shapes P B space h.space_of;
  each = λ k below. let a = within_length (counts_at space k) B.variables (shape_inside P B space k h.space_of below) in let b = h.space_of.each in let e = h.template.one_count_each in omega (arith, a, b, e);
  few = λ k below j d inside. let a = within_at (counts_at space k) B.variables j (shape_inside P B space k h.space_of below) in let b = small B.variables j h.space_of.few_variables (cases_lt j (length B.variables)) in let e = get_or_default (counts_at space k) j d 0 inside in omega (arith, a, b, e);
}

set_back : (counts : List ℕ) (s : ℕ) → s < length counts → 0 < slice_index counts s → with_one_more (set counts s (slice_index counts s - 1)) s ≡ counts
set_back [] s known some = absurd (omega (arith, known))
set_back (x ∷ xs) zero known some = let e : x - 1 + 1 ≡ x = omega (arith, some) in λ i. e i ∷ xs
set_back (x ∷ xs) (suc s) known some = let rest = set_back xs s (omega (arith, known)) some in λ i. x ∷ rest i

pub no_smaller : (P : Protocol) (B : Bounds) (space : Space) (clause : Clause) (s v : ℕ) → IsClauseOf P B space clause → s < length (counts_at space clause.shape) → ((k : ℕ) → k < length space.shapes.items → counts_at space clause.shape ≢ with_one_more (counts_at space k) s) → LeavesOutNone P B (clause_of space clause) s v
no_smaller P B space clause s v h known none m sub u even out =
    let counts = counts_at space clause.shape in
    let inside = out.inside in
    let fewer = set counts s (slice_index counts s - 1) in
    let long = length-set counts s (slice_index counts s - 1) in
    let one = h.template.one_count_each in
    let each = h.space_of.each in
    let found = shapes_listed B.variables fewer (omega (arith, long, one, each)) (λ sort. at_type sort (cases_eq sort s)) in
    let below : found.0 < length (map counts_of space.shapes.items) = let k = found.1 in let same = ap length h.space_of.shapes in omega (arith, k, same) in
    let many = length-map space.shapes.items counts_of in
    let here : counts_at space found.0 ≡ fewer = sym (get_or_default (map counts_of space.shapes.items) found.0 fewer [] below) ∙ (ap (λ (ls : List (List ℕ)). get_or ls found.0 fewer) h.space_of.shapes ∙ found.2) in
    none found.0 (omega (arith, below, many)) (sym (ap (λ (ns : List ℕ). with_one_more ns s) here ∙ set_back counts s known (omega (arith, inside))))
  where
    at_type : (sort : ℕ) → (sort ≡ s) ⊎ (sort ≢ s) → slice_index (set (counts_at space clause.shape) s (slice_index (counts_at space clause.shape) s - 1)) sort ≤ slice_index B.variables sort
    at_type sort (inl e) =
        let own = get_or-set_same (counts_at space clause.shape) s (slice_index (counts_at space clause.shape) s - 1) 0 known in
        let at = ap (slice_index (set (counts_at space clause.shape) s (slice_index (counts_at space clause.shape) s - 1))) e in
        let most = h.template.few_variables s in
        let bound = ap (slice_index B.variables) e in
        omega (arith, own, at, most, bound)
    at_type sort (inr ne) =
        let own = get_or-set_other (counts_at space clause.shape) s sort (slice_index (counts_at space clause.shape) s - 1) 0 ne in
        let most = h.template.few_variables sort in
        omega (arith, own, most)

module _ (P : Protocol) (B : Bounds) (space : Space) (clause : Clause) (s v : ℕ) (h : IsClauseOf P B space clause) (known : s < length (counts_at space clause.shape)) (low : v < slice_index (counts_at space clause.shape) s) (k : ℕ) (below : k < length space.shapes.items) (larger : counts_at space clause.shape ≡ with_one_more (counts_at space k) s) where
  abbrev c : Model.Clause
  c = clause_of space clause

  abbrev fewer : List ℕ
  fewer = counts_at space k

  long : length fewer ≡ length P.sorts
  long = let few = few_of_all P B space clause h in let a = few.each k below in let b = h.template.one_count_each in omega (arith, a, b)

  within : (sort : ℕ) → slice_index fewer sort ≤ slice_index B.variables sort
  within sort = within_at fewer B.variables sort (shape_inside P B space k h.space_of below)

  few : (sort : ℕ) → slice_index fewer sort ≤ 4
  few sort = let a = within sort in let b = small B.variables sort h.space_of.few_variables (cases_lt sort (length B.variables)) in omega (arith, a, b)

  known_fewer : s < length fewer
  known_fewer = let a = long in let b = h.template.one_count_each in omega (arith, known, a, b)

  few_types : length fewer ≤ 8
  few_types = let a = long in let b = h.space_of.few_types in omega (arith, a, b)

  inside : v ≤ slice_index fewer s
  inside = let a = more_here fewer s s known_fewer refl in let b = ap (λ (ns : List ℕ). slice_index ns s) larger in omega (arith, low, a, b)

  from_is : (from : Shape) → from ≡ get_or space.shapes.items k from → map atom_of from.atoms.items ≡ atoms_of P fewer
  from_is from is = atoms_is space k from below is ∙ atoms_at_is P B space k h.space_of below

  into_is : (into : Shape) → into ≡ get_or space.shapes.items clause.shape into → map atom_of into.atoms.items ≡ atoms_of P c.counts
  into_is into is = atoms_is space clause.shape into h.shape is ∙ atoms_at_is P B space clause.shape h.space_of h.shape

  pub sought : (from into : Shape) (literals to : List ℕ) → from ≡ get_or space.shapes.items k from → into ≡ get_or space.shapes.items clause.shape into → literals ≡ clause.lits.items → length to ≡ 32 → AreSought from into literals to
  sought from into literals to f i l wide = record {
    long = wide;
    stored = subst (All AreStored) (sym (from_is from f)) (All-from_Each AreStored (atoms_of P fewer) (all_stored fewer (atoms_of P fewer) few_types few (atoms_inside P fewer)));
    few_atoms = (shape_atoms P B space k from h.space_of below f).1;
    few = let a = ap length l in let b = h.template.few_literals in let e = h.space_of.few_literals in omega (arith, a, b, e);
    inside = subst (λ xs. All (λ n. n < 2 * length xs) literals) (sym (into_is into i)) (subst (All (λ n. n < 2 * length (atoms_of P c.counts))) (sym l) h.template.of_the_shape);
  }

  module _ (from into : Shape) (literals to : List ℕ) (types : ℕ) (f : from ≡ get_or space.shapes.items k from) (i : into ≡ get_or space.shapes.items clause.shape into) (l : literals ≡ clause.lits.items) (all : types ≡ length (counts_at space clause.shape)) (is : IsInsertion s v to) where
    all_types : types ≡ length fewer
    all_types = let a = long in let b = h.template.one_count_each in omega (arith, all, a, b)

    pub never_without : HasNoPreimage types to (map atom_of from.atoms.items) (map atom_of into.atoms.items) literals → LeavesOutNone P B c s v
    never_without none m sub u even out =
        has_preimages P B c h.template fewer s v long within known_fewer inside larger m sub u out types to all_types few_types few is even
        (subst (λ xs. HasNoPreimage types to xs (atoms_of P c.counts) c.literals) (from_is from f) (subst (λ xs. HasNoPreimage types to (map atom_of from.atoms.items) xs c.literals) (into_is into i) (subst (HasNoPreimage types to (map atom_of from.atoms.items) (map atom_of into.atoms.items)) l none)))

    module _ (part : Clause) (shape : part.shape ≡ k) (found : ArePreimages types to (map atom_of from.atoms.items) (map atom_of into.atoms.items) literals part.lits.items) where
      model : ArePreimages types to (atoms_of P fewer) (atoms_of P c.counts) c.literals part.lits.items
      model = subst (λ xs. ArePreimages types to xs (atoms_of P c.counts) c.literals part.lits.items) (from_is from f) (subst (λ xs. ArePreimages types to (map atom_of from.atoms.items) xs c.literals part.lits.items) (into_is into i) (subst (λ ls. ArePreimages types to (map atom_of from.atoms.items) (map atom_of into.atoms.items) ls part.lits.items) l found))

      part_is : (let e : Model.Clause = record { counts = fewer; literals = part.lits.items } in e) ≡ clause_of space part
      part_is = λ j. record { counts = counts_at space (sym shape j); literals = part.lits.items }

      pub without : IsWithoutVariable P B space clause part s v
      without = record {
        of_the_space = record {
          space_of = h.space_of;
          shape = omega (arith, shape, below);
          template = subst (IsTemplate P B) part_is (part_template P B c h.template fewer s v long within known_fewer inside larger types to part.lits.items all_types few_types few is model);
        };
        below = subst (λ e. Subsumes P e c) part_is (part_below P B c h.template fewer s v long within known_fewer inside larger types to part.lits.items all_types few_types few is model);
        one_less = let a = ap (λ n. sum (counts_at space n)) shape in let b = more_sum fewer s known_fewer in let e = ap (λ (ns : List ℕ). sum ns) larger in omega (arith, a, b, e);
        as_many = part_long P B c h.template fewer s v long within known_fewer inside larger types to part.lits.items all_types few_types few is model;
        above = λ m sub u even out. subst (Subsumes P m) part_is (part_above P B c h.template fewer s v long within known_fewer inside larger types to part.lits.items all_types few_types few is model m sub u out);
      }

-- one literal more has its preimage
pub preimage_more : (types : ℕ) (to : List ℕ) (from into : List Atom) (literals others new : List ℕ) (i other : ℕ) → i < length literals → ArePreimages types to from into (take i literals) others → IsPreimage types to from into (get_or literals i 0) other → new ≡ put_in_order other others → ArePreimages types to from into (take (i + 1) literals) new
preimage_more types to from into literals others new i other below h here e = record {
  numbers = h.numbers ++ other ∷ [];
  as_many = let a = length-append h.numbers (other ∷ []) in let b = h.as_many in let c = length-take-le i literals (omega (arith, below)) in let d = length-take-le (i + 1) literals (omega (arith, below)) in omega (arith, a, b, c, d);
  each = λ k k_below. by_place k k_below (cases_lt k i);
  ordered = e ∙ (ap (put_in_order other) h.ordered ∙ sym (put_all_more h.numbers other []));
}
  where
    wide : length h.numbers ≡ i
    wide = let b = h.as_many in let c = length-take-le i literals (omega (arith, below)) in omega (arith, b, c)

    by_place : (k : ℕ) → k < length (take (i + 1) literals) → (k < i) ⊎ (i ≤ k) → IsPreimage types to from into (slice_index (take (i + 1) literals) k) (slice_index (h.numbers ++ other ∷ []) k)
    by_place k k_below (inl before) =
        let first : slice_index (take (i + 1) literals) k ≡ slice_index (take i literals) k = get_or-take (i + 1) literals k 0 (omega (arith, before)) ∙ sym (get_or-take i literals k 0 before) in
        let second : slice_index (h.numbers ++ other ∷ []) k ≡ slice_index h.numbers k = get_or_append_left h.numbers (other ∷ []) 0 k (omega (arith, wide, before)) in
        let short = length-take-le i literals (omega (arith, below)) in
        subst (λ x. IsPreimage types to from into x (slice_index (h.numbers ++ other ∷ []) k)) (sym first) (subst (λ y. IsPreimage types to from into (slice_index (take i literals) k) y) (sym second) (h.each k (omega (arith, short, before))))
    by_place k k_below (inr past) =
        let whole = length-take-le (i + 1) literals (omega (arith, below)) in
        let same : i ≡ k = omega (arith, k_below, past, whole) in
        let first : slice_index (take (i + 1) literals) k ≡ get_or literals i 0 = get_or-take (i + 1) literals k 0 (omega (arith, same)) ∙ ap (λ j. get_or literals j 0) (sym same) in
        let second : slice_index (h.numbers ++ other ∷ []) k ≡ other = get_or_push h.numbers other 0 k (omega (arith, wide, same)) in
        subst (λ x. IsPreimage types to from into x (slice_index (h.numbers ++ other ∷ []) k)) (sym first) (subst (λ y. IsPreimage types to from into (get_or literals i 0) y) (sym second) here)

pub preimage_room : (types : ℕ) (to : List ℕ) (from into : List Atom) (literals others : List ℕ) (i : ℕ) → i < length literals → length literals ≤ 8 → ArePreimages types to from into (take i literals) others → length others < 8
preimage_room types to from into literals others i below few h =
    let a = ap length h.ordered in
    let b = put_all_length h.numbers [] in
    let c = h.as_many in
    let d = length-take-le i literals (omega (arith, below)) in
    omega (arith, a, b, c, d, below, few)

pub preimage_here : (types : ℕ) (to : List ℕ) (from into : List Atom) (b : Atom) (place l : ℕ) → place < length from → b ≡ get_or into (l / 2) no_atom → AtomMayGo types 0 to (get_or from place no_atom) b → IsPreimage types to from into l (2 * place + l % 2)
preimage_here types to from into b place l below same may =
    let rest : l % 2 < 2 = omega arith in
    let half : place ≡ (2 * place + l % 2) / 2 = omega (arith, rest) in
    record {
      below = omega (arith, half, below);
      image = subst (λ n. AtomMayGo types 0 to (get_or from n no_atom) (get_or into (l / 2) no_atom)) half (subst (AtomMayGo types 0 to (get_or from place no_atom)) same may);
      sign = let e : (2 * place + l % 2) % 2 ≡ l % 2 = omega (arith, rest) in e;
    }

pub no_preimage : (types : ℕ) (to : List ℕ) (from into : List Atom) (literals : List ℕ) (b : Atom) (i : ℕ) → i < length literals → b ≡ get_or into (get_or literals i 0 / 2) no_atom → ((k : ℕ) → k < length from → AtomMayGo types 0 to (get_or from k no_atom) b → ⊥) → HasNoPreimage types to from into literals
no_preimage types to from into literals b i below same none = record { place = i; below = below; none = λ k inside may. none k inside (subst (AtomMayGo types 0 to (get_or from k no_atom)) (sym same) may) }

pub atom_read : (atoms : List Kept) (l i : ℕ) (a : Kept) → i ≡ l / 2 → l / 2 < length atoms → a ≡ get_or atoms i a → atom_of a ≡ get_or (map atom_of atoms) (l / 2) no_atom
atom_read atoms l i a half below is = ap atom_of (is ∙ ap (λ n. get_or atoms n a) half) ∙ sym (get_or-map atom_of atoms (l / 2) a no_atom below)

pub sort_known : (P : Protocol) (B : Bounds) (space : Space) (clause : Clause) (shape : Shape) (s i n : ℕ) → IsClauseOf P B space clause → shape ≡ get_or space.shapes.items clause.shape shape → i ≡ s → n ≡ length shape.counts.items → i < n → s < length (counts_at space clause.shape)
sort_known P B space clause shape s i n h is same many below = let e = ap length (counts_is space clause.shape shape h.shape is) in omega (arith, same, many, below, e)

pub number_low : (P : Protocol) (B : Bounds) (space : Space) (clause : Clause) (shape : Shape) (s i n v : ℕ) → IsClauseOf P B space clause → shape ≡ get_or space.shapes.items clause.shape shape → s < length (counts_at space clause.shape) → i ≡ s → n ≡ get_or shape.counts.items i n → v < n → v < slice_index (counts_at space clause.shape) s
number_low P B space clause shape s i n v h is known same read low =
    let counts = counts_is space clause.shape shape h.shape is in
    let wide = ap length counts in
    let e = last_of shape.counts.items s n i n (omega (arith, known, wide)) same read refl in
    let f = ap (λ (ns : List ℕ). slice_index ns s) counts in
    omega (arith, low, e, f)

pub types_read : (space : Space) (clause : Clause) (shape : Shape) (n : ℕ) → clause.shape < length space.shapes.items → shape ≡ get_or space.shapes.items clause.shape shape → n ≡ length shape.counts.items → n ≡ length (counts_at space clause.shape)
types_read space clause shape n below is many = many ∙ ap length (counts_is space clause.shape shape below is)
