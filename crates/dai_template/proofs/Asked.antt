-- From a space's clause to the search, and back.
use Rattle.std.proofs.Common.{◌≡◌, ◌↔◌, ◌<◌, ◌≤◌, ◌+◌, ◌*◌, ℕ, Bool, true, false, List, length, get_or, map, drop, refl, ◌⊎◌, sym, ap, ◌∙◌, subst, arith, inl, inr}
use Rattle.std.specs.Prelude.{slice_index}
use Rattle.std.specs.List.{list_any}
use Rattle.std.proofs.lemmas.Bool.{cases_lt}
use Rattle.std.proofs.Math.ListN.{replicate}
use Rattle.std.proofs.lemmas.List.{get_or-replicate, get_or_past}
use Rattle.dai_model.specs.Protocol.{Protocol}
use Rattle.dai_model.specs.Placement.{ArePlacements}
use Rattle.dai_model.specs.Clause.{atoms_of, literal_among, literal_value, Meets}
use Rattle.dai_model.specs.Clause as Model
use Rattle.dai_model.specs.Template.{Bounds}
use Rattle.dai_logic.specs.declared.structure.Structure.{Structure}
use Rattle.dai_logic.specs.Tables.{structure_of, Fits}
use Rattle.dai_template.specs.declared.clause.Clause.{Clause}
use Rattle.dai_template.specs.declared.clause.Shape.{Shape}
use Rattle.dai_template.specs.declared.space.Space.{Space}
use Rattle.dai_template.specs.Atoms.{atom_of}
use Rattle.dai_template.specs.Spaces.{IsClauseOf, clause_of}
use Rattle.dai_template.specs.Meeting.{Before, IsBegun, IsBound, AreEnough, IsPartial, IsJudged, IsMetFrom}
use Rattle.dai_template.proofs.Completed.{enough}
use Rattle.dai_template.proofs.Clauses.{small, shape_counts, shape_atoms, clause_writable}

pub judged_of : (P : Protocol) (B : Bounds) (space : Space) (clause : Clause) (shape : Shape) (s : Structure) (ordered : List Bool) (literals : List ℕ) → IsClauseOf P B space clause → Fits P s → shape ≡ get_or space.shapes.items clause.shape shape → ordered ≡ space.ordered.items → literals ≡ clause.lits.items → IsJudged P ordered shape.counts.items (map atom_of shape.atoms.items) literals s
judged_of P B space clause shape s ordered literals h fits is o l =
    let same = shape_counts space clause shape h.shape is in
    let long = ap length same in
    let one = h.template.one_count_each in
    let few = h.space_of.few_types in
    let w = clause_writable P B space clause shape h is in
    record {
      fits = fits;
      orders_are = o ∙ h.space_of.orders;
      atoms_are = shape_atoms P B space clause shape h.space_of h.shape is;
      of_the_shape = λ k d below. subst (λ xs. get_or xs k d < 2 * length (map atom_of shape.atoms.items)) (sym l) (w.of_the_shape k d (subst (λ xs. k < length xs) l below));
      each = omega (arith, long, one);
      few_types = omega (arith, long, one, few);
      few = λ t. let a = ap (λ xs. slice_index xs t) same in let b = h.template.few_variables t in let k = small B.variables t h.space_of.few_variables (cases_lt t (length B.variables)) in omega (arith, a, b, k);
    }

pub none_before : (t i : ℕ) → Before t i 0 0 → ⊥
none_before t i (inl h) = absurd (omega arith)
none_before t i (inr h) = let k = h.1 in absurd (omega (arith, k))

pub begun_none : (P : Protocol) (sizes counts values : List ℕ) → length values ≡ 32 → IsBegun P sizes counts 0 0 values
begun_none P sizes counts values long = record {
  long = long;
  inside = λ t i h before. absurd (none_before t i before);
  apart = λ t T i j e h k before. absurd (none_before t j before);
}

-- before any variable has its element
abbrev pub unbound : List Bool
unbound = replicate {A = Bool} 32 false

pub none_bound : (t i : ℕ) → IsBound unbound (record { sort = t; number = i }) → ⊥
none_bound t i b = either (cases_lt (4 * t + i) 32)
  where
    either : (4 * t + i < 32) ⊎ (32 ≤ 4 * t + i) → ⊥
    either (inl below) = let k : false ≡ true = sym (get_or-replicate 32 (4 * t + i) false false below) ∙ b in let no : ⊥ = cc in no
    either (inr past) = let k : false ≡ true = sym (get_or_past unbound (4 * t + i) false past) ∙ b in let no : ⊥ = cc in no

pub partial_none : (P : Protocol) (sizes counts values : List ℕ) → length values ≡ 32 → IsPartial P sizes counts unbound values
partial_none P sizes counts values long = record {
  places = refl;
  long = long;
  inside = λ t i h b. absurd (none_bound t i b);
  room = λ t T i f h b. absurd (none_bound t i b);
  spaced = λ t T i j f h k b c. absurd (none_bound t i b);
}

pub enough_as : (xs ys counts sizes : List ℕ) → xs ≡ counts → ys ≡ sizes → AreEnough xs ys → AreEnough counts sizes
enough_as xs ys counts sizes p q h = subst (λ k. AreEnough k sizes) p (subst (AreEnough xs) q h)

-- where a type has fewer elements than variables there is no placement, and each clause is met
pub met_by_none : (P : Protocol) (s : Structure) (counts : List ℕ) (c : Model.Clause) → length counts ≡ length P.sorts → c.counts ≡ counts → (AreEnough counts s.sizes.items → ⊥) → Meets P (structure_of P s) c
met_by_none P s counts c each same few elements placed =
    absurd (few (enough P s.sizes.items counts elements each (subst (λ k. ArePlacements P k s.sizes.items elements) same placed)))

pub met_is : (P : Protocol) (B : Bounds) (space : Space) (clause : Clause) (shape : Shape) (s : Structure) (literals values : List ℕ) → IsClauseOf P B space clause → shape ≡ get_or space.shapes.items clause.shape shape → literals ≡ clause.lits.items → IsMetFrom P shape.counts.items (map atom_of shape.atoms.items) (drop 0 literals) s unbound values ↔ Meets P (structure_of P s) (clause_of space clause)
met_is P B space clause shape s literals values h is l = (
  λ met elements placed.
      sym (same elements) ∙ met elements (subst (λ counts. ArePlacements P counts s.sizes.items elements) (sym (shape_counts space clause shape h.shape is)) placed) (λ t i k b. absurd (none_bound t i b)),
  λ meets elements placed agree.
      same elements ∙ meets elements (subst (λ counts. ArePlacements P counts s.sizes.items elements) (shape_counts space clause shape h.shape is) placed),
)
  where
    same : (elements : List (List ℕ)) → list_any (literal_value (structure_of P s) elements) (map (literal_among (map atom_of shape.atoms.items)) literals) ≡ list_any (literal_value (structure_of P s) elements) (map (literal_among (atoms_of P (clause_of space clause).counts)) clause.lits.items)
    same elements =
        ap (λ xs. list_any (literal_value (structure_of P s) elements) (map (literal_among xs) literals)) (shape_atoms P B space clause shape h.space_of h.shape is ∙ ap (atoms_of P) (shape_counts space clause shape h.shape is))
        ∙ ap (λ xs. list_any (literal_value (structure_of P s) elements) (map (literal_among (atoms_of P (clause_of space clause).counts)) xs)) l

-- the array before any variable has its element
abbrev pub zeros : List ℕ
zeros = replicate {A = ℕ} 32 0
