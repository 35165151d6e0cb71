-- A set of elements has one cut at most.
use Rattle.std.proofs.Common.{◌≡◌, ◌<◌, ◌≤◌, get_or, length, ℕ, suc, Bool, true, List, [], ◌∷◌, Option, Some, None, sym, ◌∙◌, ap, subst, refl, arith, inl, inr, ◌⊎◌}
use Rattle.std.specs.Prelude.{slice_get}
use Rattle.std.proofs.lemmas.Bool.{cases_lt}
use Rattle.dai_model.specs.Protocol.{Protocol, Relation, Individual}
use Rattle.dai_model.specs.Structure.{Structure, size_of, is_tuple, is_tuple_for}
use Rattle.dai_model.proofs.Below.{slice_get-some}
use Rattle.dai_cut.specs.Cut.{place_of, IsCut}
use Rattle.dai_cut.proofs.Numbering.{nth_is}
use Rattle.dai_cut.proofs.Embedded.{same_bool}
use Rattle.dai_cut.proofs.Cutting.{sort_below}

same_list : (xs ys : List ℕ) → length xs ≡ length ys → ((i : ℕ) → i < length xs → get_or xs i 0 ≡ get_or ys i 0) → xs ≡ ys
same_list [] [] long h = refl
same_list [] (y ∷ ys) long h = absurd (omega (arith, long))
same_list (x ∷ xs) [] long h = absurd (omega (arith, long))
same_list (x ∷ xs) (y ∷ ys) long h =
    let first = h 0 (omega arith) in
    let rest = same_list xs ys (omega (arith, long)) (λ i below. h (suc i) (omega (arith, below))) in
    cc

same_sizes : (P : Protocol) (s : Structure) (chosen : ℕ → ℕ → Bool) (small other : Structure) → IsCut P s chosen small → IsCut P s chosen other → small.sizes ≡ other.sizes
same_sizes P s chosen small other c d =
    let a = c.structure.one_size_each in
    let b = d.structure.one_size_each in
    same_list small.sizes other.sizes (a ∙ sym b)
    (λ i below. let here : i < length P.sorts = omega (arith, a, below) in c.sizes i here ∙ sym (d.sizes i here))

relation_of : (sizes : List ℕ) (o : Option Relation) (es : List ℕ) → is_tuple_for sizes o es ≡ true → (R : Relation) × (o ≡ Some R) × (is_tuple sizes R.arguments es ≡ true)
relation_of sizes None es h = absurd (let k : ⊥ = cc in k)
relation_of sizes (Some R) es h = (R, refl, h)

holds_too : (P : Protocol) (s : Structure) (chosen : ℕ → ℕ → Bool) (small other : Structure) (r : ℕ) (es : List ℕ) → IsCut P s chosen small → IsCut P s chosen other → small.sizes ≡ other.sizes → small.holds r es ≡ true → other.holds r es ≡ true
holds_too P s chosen small other r es c d sizes h =
    let found = relation_of small.sizes (slice_get P.relations r) es (c.structure.tuples_inside r es h) in
    let inside : is_tuple other.sizes found.0.arguments es ≡ true = subst (λ own. is_tuple own found.0.arguments es ≡ true) sizes found.2 in
    d.embedding.relations r found.0 es found.1 inside ∙ (sym (c.embedding.relations r found.0 es found.1 found.2) ∙ h)

-- what an individual is in a cut
own_element : (P : Protocol) (s : Structure) (chosen : ℕ → ℕ → Bool) (small : Structure) (i : ℕ) (I : Individual) → IsCut P s chosen small → slice_get P.individuals i ≡ Some I → small.element i ≡ place_of chosen I.sort (s.element i)
own_element P s chosen small i I c found =
    let inside = c.structure.elements_inside i I found in
    let size = c.sizes I.sort (sort_below P small I.sort (small.element i) c.structure inside) in
    let nth = nth_is (chosen I.sort) (size_of s I.sort) (small.element i) (omega (arith, size, inside)) in
    sym nth.place ∙ ap (place_of chosen I.sort) (sym (c.embedding.individuals i I found))

same_element : (P : Protocol) (s : Structure) (chosen : ℕ → ℕ → Bool) (small other : Structure) (i : ℕ) → IsCut P s chosen small → IsCut P s chosen other → (i < length P.individuals) ⊎ (length P.individuals ≤ i) → small.element i ≡ other.element i
same_element P s chosen small other i c d (inl below) =
    let found = slice_get-some P.individuals i below in
    own_element P s chosen small i found.0 c found.1 ∙ sym (own_element P s chosen other i found.0 d found.1)
same_element P s chosen small other i c d (inr past) = c.structure.nothing_outside i past ∙ sym (d.structure.nothing_outside i past)

same_structure : (small other : Structure) → small.sizes ≡ other.sizes → ((r : ℕ) (es : List ℕ) → small.holds r es ≡ other.holds r es) → ((i : ℕ) → small.element i ≡ other.element i) → small ≡ other
same_structure small other sizes holds element = λ i. record { sizes = sizes i; holds = λ r es. holds r es i; element = λ k. element k i }

pub one_cut : (P : Protocol) (s : Structure) (chosen : ℕ → ℕ → Bool) (small other : Structure) → IsCut P s chosen small → IsCut P s chosen other → small ≡ other
one_cut P s chosen small other c d =
    let sizes = same_sizes P s chosen small other c d in
    same_structure small other sizes
    (λ r es. same_bool (small.holds r es) (other.holds r es) (holds_too P s chosen small other r es c d sizes) (holds_too P s chosen other small r es d c (sym sizes)))
    (λ i. same_element P s chosen small other i c d (cases_lt i (length P.individuals)))
