-- The example of the tests is a protocol in the profile, its states fit, and clauses of one or two literals are of
-- its spaces.
use Rattle.std.proofs.Common.{◌≡◌, ℕ, zero, suc, ◌<◌, ◌≤◌, ◌+◌, ◌/◌, Bool, List, [], ◌∷◌, ◌++◌, length, get_or, Some, slice_get, Vec, map, ap, sym, ◌∙◌, refl, subst, arith}
use Rattle.std.specs.declared.alloc.Global.{Global}
use Rattle.std.specs.List.{All, IsDistinct}
use Rattle.std.proofs.lemmas.Grind.{merely}
use Rattle.std.proofs.lemmas.Option.{same_Some}
use Rattle.dai_model.specs.Protocol as Model
use Rattle.dai_model.specs.Clause.{atoms_of}
use Rattle.dai_model.specs.Template.{Bounds}
use Rattle.dai_model.specs.WellSorted.{IsProtocol}
use Rattle.dai_model.specs.Profile.{IsInProfile, IsAccepted}
use Rattle.dai_logic.specs.declared.structure.Structure.{Structure}
use Rattle.dai_logic.specs.Tables.{tables_of, tuple_count}
use Rattle.dai_template.specs.declared.clause.Clause.{Clause}
use Rattle.dai_template.specs.declared.clause.Shape.{Shape}
use Rattle.dai_template.specs.declared.space.Space.{Space}
use Rattle.dai_template.specs.Links.{links, IsLinked}
use Rattle.dai_template.specs.Spaces.{IsSpaceOf, IsClauseOf, clause_of}
use Rattle.dai_template.specs.Lists.{IsBegunWith}
use Rattle.dai_template.proofs.Parts.{begun_more}
use Rattle.dai_template.proofs.AllShapes.{empty_begun}
use Rattle.dai_template.proofs.SpaceShapes.{shape_atoms, empty_template}

all_none : {A : Type 0} (P : A → Type 0) → All P []
all_none P k d below = absurd (omega arith)

all_cons : {A : Type 0} (P : A → Type 0) (x : A) (xs : List A) → P x → All P xs → All P (x ∷ xs)
all_cons P x xs p ps zero d below = p
all_cons P x xs p ps (suc k) d below = ps k d (omega arith)

abbrev pairs : Model.Relation
pairs = record { name = 114 ∷ []; arguments = 0 ∷ 0 ∷ [] }

abbrev ones : Model.Relation
ones = record { name = 117 ∷ []; arguments = 1 ∷ [] }

abbrev only : Model.Individual
only = record { name = 99 ∷ []; sort = 0 }

links_protocol : IsProtocol links
links_protocol = record {
  relations = all_cons (λ (R : Model.Relation). All (λ sort. sort < 2) R.arguments) pairs (ones ∷ [])
      (all_cons (λ sort. sort < 2) 0 (0 ∷ []) (omega arith) (all_cons (λ sort. sort < 2) 0 [] (omega arith) (all_none (λ sort. sort < 2))))
      (all_cons (λ (R : Model.Relation). All (λ sort. sort < 2) R.arguments) ones [] (all_cons (λ sort. sort < 2) 1 [] (omega arith) (all_none (λ sort. sort < 2))) (all_none (λ (R : Model.Relation). All (λ sort. sort < 2) R.arguments)));
  individuals = all_cons (λ (I : Model.Individual). I.sort < 2) only [] (omega arith) (all_none (λ (I : Model.Individual). I.sort < 2));
  axioms = all_none _;
  init = record { parameters = all_none _; choices = all_none _; code = tt };
  no_arguments = refl;
  actions = all_none _;
  invariants = all_none _;
  init_spares = λ x. all_none _;
  actions_spare = all_none _;
}

links_profile : IsInProfile links
unfolding IsDistinct
links_profile = record {
  named_apart = ((refl, (refl, (refl, (refl, tt)))), ((refl, (refl, (refl, tt))), ((refl, (refl, tt)), ((refl, tt), (tt, tt)))));
  few_sorts = omega arith;
  few_relations = omega arith;
  few_arguments = all_cons (λ (R : Model.Relation). length R.arguments ≤ 5) pairs (ones ∷ []) (omega arith) (all_cons (λ (R : Model.Relation). length R.arguments ≤ 5) ones [] (omega arith) (all_none (λ (R : Model.Relation). length R.arguments ≤ 5)));
  few_individuals = omega arith;
  few_axioms = omega arith;
  axioms = all_none _;
  init = record { direct = tt; few_parameters = omega arith; few_choices = omega arith; few_witnesses = omega arith };
  few_actions = omega arith;
  actions = all_none _;
  few_invariants = omega arith;
  invariants = all_none _;
}

links_accepted : IsAccepted links
links_accepted = record { sorted = links_protocol; profile = links_profile }

-- what is equal to the example is accepted
pub accepted_as : (P : Model.Protocol) → P ≡ links → ∥ IsAccepted P ∥₁
accepted_as P e = merely (subst IsAccepted (sym e) links_accepted)

table_long : (sizes : List ℕ) (x y : List Bool) (r : ℕ) (R : Model.Relation) → length x ≡ 4 → length y ≡ 2 → sizes ≡ 2 ∷ 2 ∷ [] → slice_get links.relations r ≡ Some R → length (get_or (x ∷ y ∷ []) r []) ≡ tuple_count sizes R.arguments
table_long sizes x y zero R hx hy e h = hx ∙ (let k : 0 ∷ 0 ∷ [] ≡ R.arguments = (let f : Some _ ≡ Some R = h in ap (λ (Q : Model.Relation). Q.arguments) (same_Some _ R f)) in ap (tuple_count (2 ∷ 2 ∷ [])) k) ∙ ap (λ xs. tuple_count xs R.arguments) (sym e)
table_long sizes x y (suc zero) R hx hy e h = hy ∙ (let k : 1 ∷ [] ≡ R.arguments = (let f : Some _ ≡ Some R = h in ap (λ (Q : Model.Relation). Q.arguments) (same_Some _ R f)) in ap (tuple_count (2 ∷ 2 ∷ [])) k) ∙ ap (λ xs. tuple_count xs R.arguments) (sym e)
table_long sizes x y (suc (suc r)) R hx hy e h = absurd (let k : ⊥ = cc in k)

value_inside : (sizes : List ℕ) (c i : ℕ) (I : Model.Individual) → c < 2 → sizes ≡ 2 ∷ 2 ∷ [] → slice_get links.individuals i ≡ Some I → get_or (c ∷ []) i 0 < get_or sizes I.sort 0
value_inside sizes c zero I below e h =
    let k : 0 ≡ I.sort = (let f : Some _ ≡ Some I = h in ap (λ (J : Model.Individual). J.sort) (same_Some _ I f)) in
    subst (λ xs. c < get_or xs I.sort 0) (sym e) (subst (λ n. c < get_or (2 ∷ 2 ∷ []) n 0) k below)
value_inside sizes c (suc i) I below e h = absurd (let k : ⊥ = cc in k)

pub state_fits : (s : Structure) (x y : Vec Bool Global) (c : ℕ) → s.sizes.items ≡ 2 ∷ 2 ∷ [] → s.tables.items ≡ x ∷ y ∷ [] → length x.items ≡ 4 → length y.items ≡ 2 → s.values.items ≡ c ∷ [] → c < 2 → IsLinked s
state_fits s x y c sizes tables hx hy values below =
    let bits : tables_of s ≡ x.items ∷ y.items ∷ [] = ap (map (λ (t : Vec Bool Global). t.items)) tables in
    record {
      two = sizes;
      fit = record {
        one_size_each = ap length sizes;
        inhabited = subst (All (λ size. 0 < size)) (sym sizes) (all_cons (λ size. 0 < size) 2 (2 ∷ []) (omega arith) (all_cons (λ size. 0 < size) 2 [] (omega arith) (all_none (λ size. 0 < size))));
        one_table_each = ap length bits;
        whole_tables = λ r R h. ap (λ (xs : List (List Bool)). length (get_or xs r [])) bits ∙ table_long s.sizes.items x.items y.items r R hx hy sizes h;
        one_value_each = ap length values;
        values_inside = λ i I h. subst (λ (xs : List ℕ). get_or xs i 0 < get_or s.sizes.items I.sort 0) (sym values) (value_inside s.sizes.items c i I below sizes h);
      };
    }

-- a clause of one literal
one_begun : (P : Model.Protocol) (B : Bounds) (space : Space) (empty one : Clause) (shape : Shape) (left first : ℕ) → IsSpaceOf P B space → empty.shape < length space.shapes.items → shape ≡ get_or space.shapes.items empty.shape shape → empty.lits.items ≡ [] → one.shape ≡ empty.shape → one.lits.items ≡ empty.lits.items ++ first ∷ [] → first / 2 < length shape.atoms.items → left + 1 ≤ B.literals → IsBegunWith P B space one (first / 2 + 1) left
one_begun P B space empty one shape left first h below is none s l inside few =
    begun_more P B space empty one 0 (left + 1) left (first / 2) first (empty_begun P B space empty (left + 1) h below none few (empty_template P B space empty h below none)) refl (omega arith)
    (let k = (shape_atoms P B space empty.shape shape h below is).0 in omega (arith, k, inside)) refl s l

-- a clause of two literals
pub two_literals : (P : Model.Protocol) (B : Bounds) (space : Space) (empty one two : Clause) (shape : Shape) (first second : ℕ) → IsSpaceOf P B space → empty.shape < length space.shapes.items → shape ≡ get_or space.shapes.items empty.shape shape → empty.lits.items ≡ [] → one.shape ≡ empty.shape → one.lits.items ≡ empty.lits.items ++ first ∷ [] → two.shape ≡ one.shape → two.lits.items ≡ one.lits.items ++ second ∷ [] → first / 2 < second / 2 → second / 2 < length shape.atoms.items → 2 ≤ B.literals → IsClauseOf P B space two
two_literals P B space empty one two shape first second h below is none s l t m order inside few =
    let counts : (clause_of space one).counts ≡ (clause_of space empty).counts = ap (λ (n : ℕ). (clause_of space (record one { shape = n })).counts) s in
    let atoms = ap (λ xs. length (atoms_of P xs)) counts in
    (begun_more P B space one two (first / 2 + 1) 1 0 (second / 2) second (one_begun P B space empty one shape 1 first h below is none s l (omega (arith, order, inside)) few) refl (omega (arith, order))
    (let k = (shape_atoms P B space empty.shape shape h below is).0 in omega (arith, k, inside, atoms)) refl t m).is
