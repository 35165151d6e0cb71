-- The order of the clauses of a space by the numbers of their shapes.
use Rattle.std.proofs.Common.{◌≡◌, ◌<◌, ℕ, List, [], get_or, length, map, sym, ◌∙◌, ap, refl, arith}
use Rattle.std.specs.Prelude.{sum}
use Rattle.std.specs.Ordering.{nat_cmp, ordering_then}
use Rattle.std.specs.Cmp.Lexicographic.{slice_cmp}
use Rattle.std.specs.declared.cmp.Ordering.{Ordering}
use Rattle.std.specs.declared.cmp.Ordering.TheVariants.{Less, Equal, Greater}
use Rattle.std.proofs.lemmas.List.{length-map}
use Rattle.dai_model.specs.Protocol.{Protocol}
use Rattle.dai_model.specs.Template.{Bounds}
use Rattle.dai_model.specs.Shapes.{compare_shapes}
use Rattle.dai_model.specs.Subsumption.{print_order}
use Rattle.dai_model.proofs.Order.{shapes_compared}
use Rattle.dai_template.specs.declared.clause.Clause.{Clause}
use Rattle.dai_template.specs.declared.space.Space.{Space}
use Rattle.dai_template.specs.Atoms.{counts_of}
use Rattle.dai_template.specs.Spaces.{IsSpaceOf, clause_of}

then_assoc : (a b c : Ordering) → ordering_then (ordering_then a b) c ≡ ordering_then a (ordering_then b c)
then_assoc Less b c = refl
then_assoc Equal b c = refl
then_assoc Greater b c = refl

shapes_by_number : (P : Protocol) (B : Bounds) (space : Space) (i j : ℕ) → IsSpaceOf P B space → i < length space.shapes.items → j < length space.shapes.items → nat_cmp i j ≡ compare_shapes (get_or (map counts_of space.shapes.items) i []) (get_or (map counts_of space.shapes.items) j [])
shapes_by_number P B space i j is hi hj =
    let long = length-map space.shapes.items counts_of in
    let same = ap length is.shapes in
    shapes_compared B.variables i j [] (omega (arith, long, same, hi)) (omega (arith, long, same, hj))
    ∙ ap (λ (ls : List (List ℕ)). compare_shapes (get_or ls i []) (get_or ls j [])) (sym is.shapes)

pub compared : (P : Protocol) (B : Bounds) (space : Space) (left right : Clause) (shapes numbers literals : Ordering) → IsSpaceOf P B space → left.shape < length space.shapes.items → right.shape < length space.shapes.items → shapes ≡ nat_cmp left.shape right.shape → numbers ≡ nat_cmp (length left.lits.items) (length right.lits.items) → literals ≡ slice_cmp nat_cmp left.lits.items right.lits.items → ordering_then (ordering_then shapes numbers) literals ≡ print_order (clause_of space left) (clause_of space right)
compared P B space left right shapes numbers literals is hi hj e f g =
    let c = clause_of space left in
    let d = clause_of space right in
    let by_shape = e ∙ shapes_by_number P B space left.shape right.shape is hi hj in
    then_assoc shapes numbers literals
    ∙ (ap (λ o. ordering_then o (ordering_then numbers literals)) by_shape
    ∙ (ap (λ o. ordering_then (compare_shapes c.counts d.counts) (ordering_then o literals)) f
    ∙ (ap (λ o. ordering_then (compare_shapes c.counts d.counts) (ordering_then (nat_cmp (length left.lits.items) (length right.lits.items)) o)) g
    ∙ then_assoc (nat_cmp (sum c.counts) (sum d.counts)) (slice_cmp nat_cmp c.counts d.counts) (ordering_then (nat_cmp (length left.lits.items) (length right.lits.items)) (slice_cmp nat_cmp left.lits.items right.lits.items)))))
