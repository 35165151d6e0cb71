-- The shape of a clause, as a space keeps it.
use Rattle.std.proofs.Common.{◌≡◌, ◌<◌, ◌≤◌, ℕ, Bool, List, [], ◌++◌, Vec, length, get_or, map, sum, sym, ap, ◌∙◌, subst, arith, inl, inr, ◌⊎◌}
use Rattle.std.specs.Prelude.{slice_index}
use Rattle.std.specs.List.{All}
use Rattle.std.proofs.lemmas.Bool.{cases_lt}
use Rattle.std.proofs.lemmas.List.{get_or-map, get_or_past}
use Rattle.dai_model.specs.Protocol.{Protocol}
use Rattle.dai_model.specs.Template.{Bounds}
use Rattle.std.specs.declared.alloc.Global.{Global}
use Rattle.dai_model.specs.Formula as Model
use Rattle.dai_model.specs.Clause.{atoms_of, literal_among}
use Rattle.dai_logic.specs.declared.protocol.Formula.{Formula as Tree}
use Rattle.dai_logic.specs.declared.protocol.Formula.TheVariants.{Any}
use Rattle.dai_logic.specs.Trees.{formula_of}
use Rattle.dai_logic.proofs.Trees.{formula_of-Any}
use Rattle.dai_model.proofs.Below.{IsAtomOf, atoms_inside}
use Rattle.dai_template.specs.declared.clause.Clause.{Clause}
use Rattle.dai_template.specs.declared.clause.Shape.{Shape}
use Rattle.dai_template.specs.declared.space.Space.{Space}
use Rattle.dai_template.specs.Atoms.{atom_of, counts_of, IsShape}
use Rattle.dai_template.specs.Spaces.{IsSpaceOf, IsClauseOf, clause_of}
use Rattle.dai_template.specs.ClauseFormulas.{literal_formula, clashes, formulas_from, for_all, types_from, orders_of, parts_of, formula_of_clause, trees_of, IsWritable}
use Rattle.dai_template.proofs.Ways.{All-from_Each}
use Rattle.dai_template.proofs.Written.{small_sum, trees_formulas}

pub shape_counts : (space : Space) (clause : Clause) (shape : Shape) → clause.shape < length space.shapes.items → shape ≡ get_or space.shapes.items clause.shape shape → shape.counts.items ≡ (clause_of space clause).counts
shape_counts space clause shape below is = ap counts_of is ∙ sym (get_or-map counts_of space.shapes.items clause.shape shape [] below)

pub shape_atoms : (P : Protocol) (B : Bounds) (space : Space) (clause : Clause) (shape : Shape) → IsSpaceOf P B space → clause.shape < length space.shapes.items → shape ≡ get_or space.shapes.items clause.shape shape → map atom_of shape.atoms.items ≡ atoms_of P shape.counts.items
shape_atoms P B space clause shape h below is =
    let here : IsShape P shape = subst (IsShape P) (sym is) (h.atoms clause.shape shape below) in
    here.atoms

pub small : (bounds : List ℕ) (sort : ℕ) → All (λ bound. bound ≤ 4) bounds → (sort < length bounds) ⊎ (length bounds ≤ sort) → slice_index bounds sort ≤ 4
small bounds sort h (inl below) = h sort 0 below
small bounds sort h (inr past) = let e = get_or_past bounds sort 0 past in omega (arith, e)

pub clause_writable : (P : Protocol) (B : Bounds) (space : Space) (clause : Clause) (shape : Shape) → IsClauseOf P B space clause → shape ≡ get_or space.shapes.items clause.shape shape → IsWritable shape.counts.items (map atom_of shape.atoms.items) clause.lits.items
clause_writable P B space clause shape h is =
    let counts = (clause_of space clause).counts in
    let same : shape.counts.items ≡ counts = shape_counts space clause shape h.shape is in
    let atoms : map atom_of shape.atoms.items ≡ atoms_of P shape.counts.items = shape_atoms P B space clause shape h.space_of h.shape is in
    let long = ap length same in
    let each = h.template.one_count_each in
    let few = h.space_of.few_types in
    let all = small_sum counts (λ sort. let k = h.template.few_variables sort in let l = small B.variables sort h.space_of.few_variables (cases_lt sort (length B.variables)) in omega (arith, k, l)) in
    let total = ap sum same in
    record {
      few_types = omega (arith, long, each, few);
      few_variables = omega (arith, total, all, each, few);
      variables = subst (All (IsAtomOf shape.counts.items)) (sym atoms) (All-from_Each (IsAtomOf shape.counts.items) (atoms_of P shape.counts.items) (atoms_inside P shape.counts.items));
      of_the_shape = λ k d below.
          let l = h.template.of_the_shape k d below in
          let e = ap length (atoms ∙ ap (atoms_of P) same) in
          omega (arith, l, e);
    }

pub formula_built : (P : Protocol) (B : Bounds) (space : Space) (clause : Clause) (shape : Shape) (ordered : List Bool) (counts others literals sorts : List ℕ) (first : List Tree) (parts : Vec Tree Global) (f : Model.Formula) → IsClauseOf P B space clause → shape ≡ get_or space.shapes.items clause.shape shape → ordered ≡ space.ordered.items → counts ≡ shape.counts.items → others ≡ shape.counts.items → literals ≡ clause.lits.items → sorts ≡ types_from 0 others → trees_of first ≡ clashes ordered 0 counts → trees_of parts.items ≡ trees_of first ++ map (literal_formula shape.counts.items) (map (literal_among (map atom_of shape.atoms.items)) literals) → f ≡ for_all sorts 0 (formula_of (Any parts)) → f ≡ formula_of_clause P (clause_of space clause)
formula_built P B space clause shape ordered counts others literals sorts first parts f h is o c d l t a b e =
    let own = (clause_of space clause).counts in
    let same : shape.counts.items ≡ own = shape_counts space clause shape h.shape is in
    let atoms : map atom_of shape.atoms.items ≡ atoms_of P own = shape_atoms P B space clause shape h.space_of h.shape is ∙ ap (atoms_of P) same in
    let clashing : trees_of first ≡ clashes (orders_of P) 0 own = a ∙ (ap (λ os. clashes os 0 counts) (o ∙ h.space_of.orders) ∙ ap (clashes (orders_of P) 0) (c ∙ same)) in
    let written : map (literal_formula shape.counts.items) (map (literal_among (map atom_of shape.atoms.items)) literals) ≡ map (literal_formula own) (map (literal_among (atoms_of P own)) clause.lits.items) =
    ap (λ xs. map (literal_formula xs) (map (literal_among (map atom_of shape.atoms.items)) literals)) same
    ∙ (ap (λ xs. map (literal_formula own) (map (literal_among xs) literals)) atoms
    ∙ ap (λ ls. map (literal_formula own) (map (literal_among (atoms_of P own)) ls)) l) in
    let all : trees_of parts.items ≡ parts_of P (clause_of space clause) =
    b ∙ (ap (λ fs. fs ++ map (literal_formula shape.counts.items) (map (literal_among (map atom_of shape.atoms.items)) literals)) clashing ∙ ap (λ fs. clashes (orders_of P) 0 own ++ fs) written) in
    let body : formula_of (Any parts) ≡ Model.disjunction (formulas_from (parts_of P (clause_of space clause))) =
    formula_of-Any parts ∙ (ap Model.disjunction (trees_formulas parts.items) ∙ ap (λ fs. Model.disjunction (formulas_from fs)) all) in
    e ∙ (ap (λ ts. for_all ts 0 (formula_of (Any parts))) (t ∙ ap (types_from 0) (d ∙ same)) ∙ ap (for_all (types_from 0 own) 0) body)
