-- The canonical forms of the clauses with one variable more are put into a list, place by place.
use Rattle.std.proofs.Common.{◌≡◌, ◌≢◌, ◌<◌, ◌≤◌, ◌+◌, ◌*◌, ◌/◌, ℕ, Bool, true, false, List, [], length, get_or, map, Some, sym, ap, ◌∙◌, refl, subst, arith, inl, inr, ◌⊎◌}
use Rattle.std.specs.Prelude.{slice_get, slice_index}
use Rattle.std.specs.List.{All}
use Rattle.std.proofs.lemmas.Bool.{cases_lt}
use Rattle.std.proofs.lemmas.List.{length-map, get_or_default}
use Rattle.dai_model.specs.Protocol.{Protocol, Sort}
use Rattle.dai_model.specs.Clause as Model
use Rattle.dai_model.specs.Clause.{Atom, atoms_of, no_atom}
use Rattle.dai_model.specs.Template.{Bounds, IsTemplate}
use Rattle.dai_model.specs.Subsumption.{IsRenaming}
use Rattle.dai_model.proofs.Below.{slice_get-some, atoms_inside}
use Rattle.dai_model.proofs.Within.{shapes_listed}
use Rattle.dai_template.specs.declared.clause.Clause.{Clause}
use Rattle.dai_template.specs.declared.clause.Shape.{Shape}
use Rattle.dai_template.specs.declared.space.Space.{Space}
use Rattle.dai_template.specs.Atoms.{counts_of, IsShape}
use Rattle.dai_template.specs.Spaces.{IsSpaceOf, IsClauseOf, clause_of}
use Rattle.dai_template.proofs.Clauses.{small}
use Rattle.dai_template.proofs.Choices.{order_at}
use Rattle.dai_template.proofs.Ways.{fewer_variables, within_at, All-from_Each}
use Rattle.dai_template.proofs.SpaceShapes.{shape_inside, few_shapes}
use Rattle.dai_order.specs.Forms.{HasGained}
use Rattle.dai_order.specs.Sides.{AreStored}
use Rattle.dai_order.specs.Weakenings.{IsWeakerByVariable}
use Rattle.dai_order.specs.Variables.{counts_at, atoms_at, with_one_more, AreFewCounts, IsPlacedAmong, AreMovedTo, AreMoved, IsMovable}
use Rattle.dai_order.proofs.Sides.{all_stored, last_of}
use Rattle.dai_order.proofs.Larger.{counts_is, atoms_is}
use Rattle.dai_order.proofs.Gaining.{element_at, gained_as, gained_then}
use Rattle.dai_order.proofs.MoreVariables.{inserting, IsInsertion, IsAboveInserted, IsMovedClause, image_there, moved_template, is_moved, above_from_renaming, renaming_from_above, weaker_from_renaming, counts_are, above_ordered, above_free}

pub atoms_at_is : (P : Protocol) (B : Bounds) (space : Space) (k : ℕ) → IsSpaceOf P B space → k < length space.shapes.items → atoms_at space k ≡ atoms_of P (counts_at space k)
atoms_at_is P B space k h below =
    let s = element_at space.shapes.items k below in
    let own : IsShape P s.0 = subst (IsShape P) (sym s.1) (h.atoms k s.0 below) in
    sym (atoms_is space k s.0 below s.1) ∙ (own.atoms ∙ ap (atoms_of P) (counts_is space k s.0 below s.1))

pub few_at : (P : Protocol) (B : Bounds) (space : Space) (clause : Clause) → IsClauseOf P B space clause → (sort : ℕ) → slice_index (counts_at space clause.shape) sort ≤ 4
few_at P B space clause h sort = let a = h.template.few_variables sort in let b = small B.variables sort h.space_of.few_variables (cases_lt sort (length B.variables)) in omega (arith, a, b)

pub few_counts : (P : Protocol) (B : Bounds) (space : Space) (clause : Clause) (s : ℕ) → IsClauseOf P B space clause → s < length P.sorts → AreFewCounts space s clause.shape
few_counts P B space clause s h known = record {
  few_shapes = few_shapes P B space h.space_of;
  inside = let long = h.template.one_count_each in omega (arith, known, long);
  few = λ k d below. let a = few_at P B space clause h k in let e = get_or_default (counts_at space clause.shape) k d 0 below in omega (arith, a, e);
}

pub count_is : (P : Protocol) (B : Bounds) (space : Space) (clause : Clause) (shape : Shape) (s i n : ℕ) → IsClauseOf P B space clause → s < length P.sorts → shape ≡ get_or space.shapes.items clause.shape shape → i ≡ s → n ≡ get_or shape.counts.items i n → n ≡ slice_index (counts_at space clause.shape) s
count_is P B space clause shape s i n h known is same read =
    let counts = counts_is space clause.shape shape h.shape is in
    let long = ap length counts in
    let each = h.template.one_count_each in
    last_of shape.counts.items s n i n (omega (arith, known, long, each)) same read refl ∙ ap (λ (ns : List ℕ). slice_index ns s) counts

-- a variable comes in at a place
pub record HasVariableAt (P : Protocol) (B : Bounds) (c : Model.Clause) (s place : ℕ) (d : Model.Clause) : Type 0 where
  pub above : IsAboveInserted P c s place d
  pub weaker : IsWeakerByVariable P B c s d

-- at one of some places
pub record HasVariableFrom (P : Protocol) (B : Bounds) (c : Model.Clause) (s first past : ℕ) (d : Model.Clause) : Type 0 where
  pub place : ℕ
  pub from : first ≤ place
  pub below : place < past
  pub has : HasVariableAt P B c s place d

module _ (P : Protocol) (B : Bounds) (space : Space) (clause : Clause) (s : ℕ) (h : IsClauseOf P B space clause) (known : s < length P.sorts) where
  abbrev c : Model.Clause
  c = clause_of space clause

  known_here : s < length c.counts
  known_here = let long = h.template.one_count_each in omega (arith, known, long)

  types : length c.counts ≤ 8
  types = let long = h.template.one_count_each in let few = h.space_of.few_types in omega (arith, long, few)

  module _ (k : ℕ) (below : k < length space.shapes.items) (larger : counts_at space k ≡ with_one_more (counts_at space clause.shape) s) where
    atoms_larger : atoms_at space k ≡ atoms_of P (with_one_more c.counts s)
    atoms_larger = atoms_at_is P B space k h.space_of below ∙ ap (atoms_of P) larger

    atoms_own : atoms_at space clause.shape ≡ atoms_of P c.counts
    atoms_own = atoms_at_is P B space clause.shape h.space_of h.shape

    within_bounds : (sort : ℕ) → slice_index (counts_at space k) sort ≤ slice_index B.variables sort
    within_bounds sort = within_at (counts_at space k) B.variables sort (shape_inside P B space k h.space_of below)

    within : (sort : ℕ) → slice_index (with_one_more c.counts s) sort ≤ slice_index B.variables sort
    within sort = subst (λ (ns : List ℕ). slice_index ns sort ≤ slice_index B.variables sort) larger (within_bounds sort)

    module _ (place : ℕ) (inside : place ≤ slice_index c.counts s) (to : List ℕ) (is : IsInsertion s place to) where
      pub movable : IsMovable space clause k to
      movable = record {
        shape = h.shape;
        larger_inside = below;
        long = is.long;
        few_types = types;
        few_literals = let a = h.template.few_literals in let b = h.space_of.few_literals in omega (arith, a, b);
        few_atoms = let a = fewer_variables P (counts_at space k) B.variables within_bounds in let b = h.space_of.few_atoms in let e = ap length (atoms_at_is P B space k h.space_of below) in omega (arith, a, b, e);
        stored = subst (All AreStored) (sym atoms_own) (All-from_Each AreStored (atoms_of P c.counts) (all_stored c.counts (atoms_of P c.counts) types (few_at P B space clause h) (atoms_inside P c.counts)));
        literals = subst (λ xs. All (λ l. l < 2 * length xs) clause.lits.items) (sym atoms_own) h.template.of_the_shape;
        images = λ j j_below.
            subst (λ xs. IsPlacedAmong (length c.counts) to (atoms_at space k) (get_or xs (slice_index clause.lits.items j / 2) no_atom)) (sym atoms_own)
            (subst (λ xs. IsPlacedAmong (length c.counts) to xs (get_or (atoms_of P c.counts) (slice_index clause.lits.items j / 2) no_atom)) (sym atoms_larger)
            (image_there P B c h.template s place known_here inside to types (few_at P B space clause h) is j j_below));
      }

      module _ (r : Clause) (shape : r.shape ≡ k) (m : AreMoved space clause k to r.lits.items) where
        moved_model : AreMovedTo (length c.counts) to (atoms_of P c.counts) (atoms_of P (with_one_more c.counts s)) c.literals r.lits.items
        moved_model =
            subst (λ xs. AreMovedTo (length c.counts) to xs (atoms_of P (with_one_more c.counts s)) c.literals r.lits.items) atoms_own
            (subst (λ xs. AreMovedTo (length c.counts) to (atoms_at space clause.shape) xs c.literals r.lits.items) atoms_larger m)

        counts_r : (clause_of space r).counts ≡ with_one_more c.counts s
        counts_r = ap (counts_at space) shape ∙ larger

        model_is : (let e : Model.Clause = record { counts = with_one_more c.counts s; literals = r.lits.items } in e) ≡ clause_of space r
        model_is = λ i. record { counts = sym counts_r i; literals = r.lits.items }

        pub moved_of_space : IsClauseOf P B space r
        moved_of_space = record {
          space_of = h.space_of;
          shape = omega (arith, shape, below);
          template = subst (IsTemplate P B) model_is (moved_template P B c h.template s place known_here inside to types (few_at P B space clause h) is r.lits.items moved_model within);
        }

        r_moved : IsMovedClause P c (clause_of space r) (inserting P c.counts s place)
        r_moved = subst (λ e. IsMovedClause P c e (inserting P c.counts s place)) model_is (is_moved P B c h.template s place known_here inside to types (few_at P B space clause h) is r.lits.items moved_model)

        pub gained_at : (old new : List Clause) → HasGained P B space (IsRenaming P (clause_of space r)) old new → HasGained P B space (HasVariableAt P B c s place) old new
        gained_at old new gained =
            gained_as P B space (IsRenaming P (clause_of space r)) (HasVariableAt P B c s place) old new
            (λ d u q. record {
              above = above_from_renaming P B c h.template s place known_here inside (clause_of space r) d counts_r r_moved q;
              weaker = weaker_from_renaming P B c h.template s place known_here inside (clause_of space r) d moved_of_space.template u counts_r r_moved q;
            })
            (λ d u q. renaming_from_above P B c h.template s place known_here inside (clause_of space r) d moved_of_space.template u counts_r r_moved q.above)
            gained

  pub none_from : (first : ℕ) (d : Model.Clause) → HasVariableFrom P B c s first first d → ⊥
  none_from first d q = let a = q.from in let b = q.below in let none : ⊥ = omega (arith, a, b) in none

  pub place_more : (first place : ℕ) (old mid new : List Clause) → first ≤ place → HasGained P B space (HasVariableFrom P B c s first place) old mid → HasGained P B space (HasVariableAt P B c s place) mid new → HasGained P B space (HasVariableFrom P B c s first (place + 1)) old new
  place_more first place old mid new order =
      gained_then P B space (HasVariableFrom P B c s first place) (HasVariableAt P B c s place) (HasVariableFrom P B c s first (place + 1)) old mid new
      (λ d u q. record { place = q.place; from = q.from; below = let b = q.below in omega (arith, b); has = q.has })
      (λ d u q. record { place = place; from = order; below = omega arith; has = q })
      (λ d u q. by_place d q (cases_lt q.place place))
    where
      by_place : (d : Model.Clause) (q : HasVariableFrom P B c s first (place + 1) d) → (q.place < place) ⊎ (place ≤ q.place) → HasVariableFrom P B c s first place d ⊎ HasVariableAt P B c s place d
      by_place d q (inl before) = inl (record { place = q.place; from = q.from; below = before; has = q.has })
      by_place d q (inr last) = inr (subst (λ n. HasVariableAt P B c s n d) (let b = q.below in let same : q.place ≡ place = omega (arith, last, b) in same) q.has)

  -- each weakening with a variable more has it at one of the places that are tried
  tried : (first : ℕ) (T : Sort) (o : Bool) (d : Model.Clause) → slice_get P.sorts s ≡ Some T → T.ordered ≡ o → (o ≡ true → first ≡ 0) → (o ≡ false → first ≡ slice_index c.counts s) → IsWeakerByVariable P B c s d → HasVariableFrom P B c s first (slice_index c.counts s + 1) d
  tried first T true d found order any last w =
      let a = above_ordered P B c d s h.template known_here w T found order in
      let start = any refl in
      record { place = a.0; from = omega (arith, start); below = let b = a.1 in omega (arith, b); has = record { above = a.2; weaker = w } }
  tried first T false d found order any last w =
      let start = last refl in
      record { place = slice_index c.counts s; from = omega (arith, start); below = omega arith; has = record { above = above_free P B c d s h.template known_here w T found order; weaker = w } }

  pub all_variables : (first past : ℕ) (ordered : Bool) (old new : List Clause) → ordered ≡ get_or space.ordered.items s false → (ordered ≡ true → first ≡ 0) → (ordered ≡ false → first ≡ slice_index c.counts s) → past ≡ slice_index c.counts s + 1 → HasGained P B space (HasVariableFrom P B c s first past) old new → HasGained P B space (IsWeakerByVariable P B c s) old new
  all_variables first past ordered old new is any last end gained =
      let found = slice_get-some P.sorts s known in
      let order : found.0.ordered ≡ ordered = sym (is ∙ order_at P.sorts s found.0 space.ordered.items found.1 h.space_of.orders) in
      gained_as P B space (HasVariableFrom P B c s first past) (IsWeakerByVariable P B c s) old new
      (λ d u q. q.has.weaker)
      (λ d u w. subst (λ n. HasVariableFrom P B c s first n d) (sym end) (tried first found.0 ordered d found.1 order any last w))
      gained

  -- without the larger shape there is none
  pub no_larger : (d : Model.Clause) → ((k : ℕ) → k < length space.shapes.items → counts_at space k ≢ with_one_more (counts_at space clause.shape) s) → IsTemplate P B d → IsWeakerByVariable P B c s d → ⊥
  no_larger d none u w =
      let found = shapes_listed B.variables d.counts (u.one_count_each ∙ sym h.space_of.each) u.few_variables in
      let below : found.0 < length (map counts_of space.shapes.items) = let k = found.1 in let same = ap length h.space_of.shapes in omega (arith, k, same) in
      let long = length-map space.shapes.items counts_of in
      let here : counts_at space found.0 ≡ d.counts = sym (get_or_default (map counts_of space.shapes.items) found.0 d.counts [] below) ∙ (ap (λ (ls : List (List ℕ)). get_or ls found.0 d.counts) h.space_of.shapes ∙ found.2) in
      none found.0 (omega (arith, below, long)) (here ∙ sym (counts_are P B c d s h.template known_here w))

-- two protocols of one space have as many types
pub known_in : (P Q : Protocol) (B C : Bounds) (space : Space) (clause : Clause) (s : ℕ) → IsClauseOf P B space clause → IsClauseOf Q C space clause → s < length P.sorts → s < length Q.sorts
known_in P Q B C space clause s h k known = let a = h.template.one_count_each in let b = k.template.one_count_each in omega (arith, a, b, known)

pub first_small : (ordered : Bool) (first count : ℕ) → (ordered ≡ true → first ≡ 0) → (ordered ≡ false → first ≡ count) → first ≤ count
first_small true first count any last = let e = any refl in omega (arith, e)
first_small false first count any last = let e = last refl in omega (arith, e)
