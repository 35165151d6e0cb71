-- The formula of a clause is true in exactly the structures that meet the clause.
use Rattle.std.proofs.Common.{◌≡◌, ◌↔◌, ◌<◌, ℕ, zero, suc, ◌+◌, ◌*◌, ◌/◌, ◌%◌, ◌||◌, Bool, true, false, not, List, [], ◌∷◌, length, get_or, map, take, Some, sym, ap, ◌∙◌, refl, subst, arith}
use Rattle.std.specs.Prelude.{slice_index, slice_get, sum, nat_eq, if◌then◌else◌}
use Rattle.std.specs.List.{list_any}
use Rattle.std.proofs.lemmas.List.{get_or-map, length-map}
use Rattle.std.proofs.lemmas.List.Folds.{list_any-append}
use Rattle.dai_model.specs.Protocol.{Protocol, Sort}
use Rattle.dai_model.specs.Formula.{Formula, negation, disjunction}
use Rattle.dai_model.specs.Structure.{Structure, is_tuple}
use Rattle.dai_model.specs.Value.{Environment, empty_environment, value_of, value_of_term, Satisfies}
use Rattle.dai_model.specs.Placement.{Apart, of_sort, ArePlacements}
use Rattle.dai_model.specs.Clause.{Variable, Atom, tuple, is_individual, Clause, Literal, atoms_of, literals_of, literal_among, no_atom, value_at, atom_value, literal_value, Meets}
use Rattle.dai_model.specs.Template.{Bounds, IsTemplate}
use Rattle.dai_model.proofs.Below.{Each, IsVariableOf, IsAtomOf, atoms_inside}
use Rattle.dai_model.proofs.Typed.{slice_get-length}
use Rattle.dai_template.specs.ClauseFormulas.{number_of, term_at, atom_formula, literal_formula, clashes, formulas_from, types_from, orders_of, parts_of, formula_of_clause}
use Rattle.dai_template.proofs.ForAll.{bound_all, each_true, true_of_each, bound_at, some_of}
use Rattle.dai_template.proofs.Flat.{AreAsMany, joined, joined_length, joined_at, joined_tuple, types_length, number_inside, tuple_length, parted, parted_at, parted_long, parted_inside}
use Rattle.dai_template.proofs.Clashes.{clashes_apart, apart_clashes}

-- each variable of the shape stands for its element
abbrev Stand : Environment → List ℕ → List (List ℕ) → Type 0
Stand env counts elements = (sort number : ℕ) → number < slice_index counts sort → env.variables (sum (take sort counts) + number) ≡ slice_index (of_sort elements sort) number

terms_value : (s : Structure) (env : Environment) (counts : List ℕ) (elements : List (List ℕ)) (vs : List Variable) → Stand env counts elements → Each (IsVariableOf counts) vs → map (value_of_term s env) (map (term_at counts) vs) ≡ map (value_at elements) vs
terms_value s env counts elements [] stand h = refl
terms_value s env counts elements (v ∷ vs) stand h =
    let here : env.variables (number_of counts v) ≡ value_at elements v = stand v.sort v.number h.0 in
    let rest = terms_value s env counts elements vs stand h.1 in
    cc

atom_value_of : (s : Structure) (env : Environment) (counts : List ℕ) (elements : List (List ℕ)) (a : Atom) → Stand env counts elements → IsAtomOf counts a → value_of s env (atom_formula counts a) ≡ atom_value s elements a
atom_value_of s env counts elements (tuple r vs) stand h = ap (s.holds r) (terms_value s env counts elements vs stand h)
atom_value_of s env counts elements (is_individual v i) stand h = ap (λ e. nat_eq e (s.element i)) (stand v.sort v.number h)

signed : (s : Structure) (env : Environment) (negated : Bool) (f : Formula) (b : Bool) → value_of s env f ≡ b → value_of s env (if negated then negation f else f) ≡ (if negated then not b else b)
signed s env true f b h = ap not h
signed s env false f b h = h

literals_value : (s : Structure) (env : Environment) (counts : List ℕ) (elements : List (List ℕ)) (ls : List Literal) → Stand env counts elements → Each (λ (l : Literal). IsAtomOf counts l.atom) ls → list_any (value_of s env) (map (literal_formula counts) ls) ≡ list_any (literal_value s elements) ls
literals_value s env counts elements [] stand h = refl
literals_value s env counts elements (l ∷ ls) stand h =
    let here : value_of s env (literal_formula counts l) ≡ literal_value s elements l = signed s env l.negated (atom_formula counts l.atom) (atom_value s elements l.atom) (atom_value_of s env counts elements l.atom stand h.0) in
    let rest = literals_value s env counts elements ls stand h.1 in
    cc

Each-from_places : {X : Type 0} (P : X → Type 0) (xs : List X) → ((k : ℕ) (d : X) → k < length xs → P (get_or xs k d)) → Each P xs
Each-from_places P [] h = tt
Each-from_places P (x ∷ xs) h = (h 0 x (omega arith), Each-from_places P xs (λ k d below. h (suc k) d (omega arith)))

Each-at : {X : Type 0} (P : X → Type 0) (xs : List X) (k : ℕ) (d : X) → k < length xs → Each P xs → P (get_or xs k d)
Each-at P [] k d h e = absurd (omega arith)
Each-at P (x ∷ xs) zero d h e = e.0
Each-at P (x ∷ xs) (suc k) d h e = Each-at P xs k d (omega arith) e.1

half_below : (l n : ℕ) → l < 2 * n → l / 2 < n
half_below l n h = let r : l % 2 < 2 = omega arith in omega arith

literals_inside : (P : Protocol) (B : Bounds) (c : Clause) → IsTemplate P B c → Each (λ (l : Literal). IsAtomOf c.counts l.atom) (literals_of P c)
literals_inside P B c t =
    let atoms = atoms_of P c.counts in
    Each-from_places (λ (l : Literal). IsAtomOf c.counts l.atom) (literals_of P c)
    (λ k d h.
    let long = length-map c.literals (literal_among atoms) in
    let below : k < length c.literals = omega (arith, long, h) in
    let e = get_or-map (literal_among atoms) c.literals k 0 d below in
    subst (λ (l : Literal). IsAtomOf c.counts l.atom) (sym e)
    (Each-at (IsAtomOf c.counts) atoms (slice_index c.literals k / 2) no_atom (half_below (slice_index c.literals k) (length atoms) (t.of_the_shape k 0 below)) (atoms_inside P c.counts)))

or_rest : (a b : Bool) → a ≡ false → (a || b) ≡ true → b ≡ true
or_rest true b h k = absurd (let e : ⊥ = cc in e)
or_rest false b h k = k

either : (a b : Bool) → (a ≡ false → b ≡ true) → (a || b) ≡ true
either true b h = refl
either false b h = h refl

body_value : (P : Protocol) (s : Structure) (env : Environment) (c : Clause) → value_of s env (disjunction (formulas_from (parts_of P c))) ≡ (list_any (value_of s env) (clashes (orders_of P) 0 c.counts) || list_any (value_of s env) (map (literal_formula c.counts) (literals_of P c)))
body_value P s env c = some_of s env (parts_of P c) ∙ list_any-append (value_of s env) (clashes (orders_of P) 0 c.counts) (map (literal_formula c.counts) (literals_of P c))

order_of : (Ts : List Sort) (sort : ℕ) (T : Sort) → slice_get Ts sort ≡ Some T → slice_get (map (λ (T : Sort). T.ordered) Ts) sort ≡ Some T.ordered
order_of [] sort T h = absurd (let k : ⊥ = cc in k)
order_of (U ∷ Ts) zero T h = let k : U ≡ T = cc in ap (λ (V : Sort). Some V.ordered) k
order_of (U ∷ Ts) (suc sort) T h = order_of Ts sort T h

sort_with : (Ts : List Sort) (sort : ℕ) (ordered : Bool) → slice_get (map (λ (T : Sort). T.ordered) Ts) sort ≡ Some ordered → (T : Sort) × (slice_get Ts sort ≡ Some T) × (T.ordered ≡ ordered)
sort_with [] sort ordered h = absurd (let k : ⊥ = cc in k)
sort_with (U ∷ Ts) zero ordered h = (U, refl, let k : U.ordered ≡ ordered = cc in k)
sort_with (U ∷ Ts) (suc sort) ordered h = sort_with Ts sort ordered h

sort_at : (Ts : List Sort) (sort : ℕ) → sort < length Ts → (T : Sort) × (slice_get Ts sort ≡ Some T)
sort_at [] sort h = absurd (omega arith)
sort_at (T ∷ Ts) zero h = (T, refl)
sort_at (T ∷ Ts) (suc sort) h = sort_at Ts sort (omega arith)

-- a count is of a type
count_inside : (counts : List ℕ) (sort number : ℕ) → number < slice_index counts sort → sort < length counts
count_inside [] sort number h = absurd (omega arith)
count_inside (c ∷ counts) zero number h = omega arith
count_inside (c ∷ counts) (suc sort) number h = let k = count_inside counts sort number h in omega (arith, k)

placed_many : (P : Protocol) (counts sizes : List ℕ) (elements : List (List ℕ)) → length counts ≡ length P.sorts → ArePlacements P counts sizes elements → AreAsMany counts elements
placed_many P counts sizes elements long placed = record {
  lists = placed.one_list_each ∙ sym long;
  each = λ sort h. let found = sort_at P.sorts sort (omega (arith, long, h)) in (placed.each sort found.0 found.1).one_each;
}

placed_tuple : (P : Protocol) (counts sizes : List ℕ) (elements : List (List ℕ)) → length counts ≡ length P.sorts → ArePlacements P counts sizes elements → is_tuple sizes (types_from 0 counts) (joined elements) ≡ true
placed_tuple P counts sizes elements long placed =
    joined_tuple sizes 0 counts elements (placed_many P counts sizes elements long placed)
    (λ sort i h k.
    let found = sort_at P.sorts sort (omega (arith, long, h)) in
    let own : sort ≡ 0 + sort = omega arith in
    subst (λ t. slice_index (of_sort elements sort) i < slice_index sizes t) own ((placed.each sort found.0 found.1).inside i k))

-- the variables stand for the elements of the tuple
read_at : (es : List ℕ) (k : ℕ) → k < length es → (bound_all empty_environment 0 es).variables k ≡ slice_index es k
read_at es k h = ap (λ v. (bound_all empty_environment 0 es).variables v) (let own : k ≡ 0 + k = omega arith in own) ∙ bound_at empty_environment 0 es k h

stand_joined : (counts : List ℕ) (elements : List (List ℕ)) → AreAsMany counts elements → Stand (bound_all empty_environment 0 (joined elements)) counts elements
stand_joined counts elements many sort number h =
    let below = count_inside counts sort number h in
    let inside = number_inside counts sort number below h in
    let long = joined_length counts elements many in
    read_at (joined elements) (sum (take sort counts) + number) (omega (arith, long, inside)) ∙ joined_at counts elements sort number many below h

stand_parted : (sizes counts es : List ℕ) → is_tuple sizes (types_from 0 counts) es ≡ true → Stand (bound_all empty_environment 0 es) counts (parted counts es)
stand_parted sizes counts es t sort number h =
    let below = count_inside counts sort number h in
    let inside = number_inside counts sort number below h in
    let long = tuple_length sizes (types_from 0 counts) es t in
    let many = types_length 0 counts in
    read_at es (sum (take sort counts) + number) (omega (arith, long, many, inside)) ∙ sym (parted_at counts es sort number below h)

kept : (a b : Bool) (d e x y : ℕ) → a ≡ b → d ≡ x → e ≡ y → Apart a d e → Apart b x y
kept a b d e x y f g h k = subst (λ t. Apart t x y) f (subst (λ t. Apart a t y) g (subst (λ t. Apart a d t) h k))

-- what stands for placed elements doesn't clash
placed_clashes : (P : Protocol) (s : Structure) (env : Environment) (counts : List ℕ) (elements : List (List ℕ)) → Stand env counts elements → ArePlacements P counts s.sizes elements → list_any (value_of s env) (clashes (orders_of P) 0 counts) ≡ false
placed_clashes P s env counts elements stand placed =
    apart_clashes s env (orders_of P) 0 counts
    (λ sort ordered i j e k l.
    let found = sort_with P.sorts sort ordered e in
    let apart = (placed.each sort found.0 found.1).apart i j k l in
    let first : slice_index (of_sort elements sort) i ≡ env.variables (0 + (sum (take sort counts) + i)) = sym (ap env.variables (let own : 0 + (sum (take sort counts) + i) ≡ sum (take sort counts) + i = omega arith in own) ∙ stand sort i (omega (arith, k, l))) in
    let second : slice_index (of_sort elements sort) j ≡ env.variables (0 + (sum (take sort counts) + j)) = sym (ap env.variables (let own : 0 + (sum (take sort counts) + j) ≡ sum (take sort counts) + j = omega arith in own) ∙ stand sort j l) in
    kept found.0.ordered ordered _ _ _ _ found.2 first second apart)

-- a tuple whose elements don't clash is placed
parted_placed : (P : Protocol) (s : Structure) (counts es : List ℕ) → length counts ≡ length P.sorts → is_tuple s.sizes (types_from 0 counts) es ≡ true → list_any (value_of s (bound_all empty_environment 0 es)) (clashes (orders_of P) 0 counts) ≡ false → ArePlacements P counts s.sizes (parted counts es)
parted_placed P s counts es long t none =
    let env = bound_all empty_environment 0 es in
    let many = parted_long counts es in
    let stand = stand_parted s.sizes counts es t in
    record {
      one_list_each = many.lists ∙ long;
      each = λ sort T h.
          let below : sort < length counts = let k = slice_get-length P.sorts sort T h in omega (arith, long, k) in
          record {
            one_each = many.each sort below;
            inside = λ i k. subst (λ x. x < slice_index s.sizes sort) (sym (parted_at counts es sort i below k)) (parted_inside s.sizes counts es sort i t below k);
            apart = λ i j k l.
                let apart = clashes_apart s env (orders_of P) 0 counts sort T.ordered i j none (order_of P.sorts sort T h) k l in
                let first : env.variables (0 + (sum (take sort counts) + i)) ≡ slice_index (of_sort (parted counts es) sort) i = ap env.variables (let own : 0 + (sum (take sort counts) + i) ≡ sum (take sort counts) + i = omega arith in own) ∙ stand sort i (omega (arith, k, l)) in
                let second : env.variables (0 + (sum (take sort counts) + j)) ≡ slice_index (of_sort (parted counts es) sort) j = ap env.variables (let own : 0 + (sum (take sort counts) + j) ≡ sum (take sort counts) + j = omega arith in own) ∙ stand sort j l in
                kept T.ordered T.ordered _ _ _ _ refl first second apart;
          };
    }

pub formula_says : (P : Protocol) (B : Bounds) (c : Clause) (s : Structure) → IsTemplate P B c → (Satisfies s (formula_of_clause P c) ↔ Meets P s c)
formula_says P B c s t = (meets_from, satisfies_from)
  where
    body : Formula
    body = disjunction (formulas_from (parts_of P c))

    meets_from : Satisfies s (formula_of_clause P c) → Meets P s c
    meets_from h elements placed =
        let es = joined elements in
        let env = bound_all empty_environment 0 es in
        let many = placed_many P c.counts s.sizes elements t.one_count_each placed in
        let stand = stand_joined c.counts elements many in
        let whole = each_true s empty_environment (types_from 0 c.counts) 0 body es h (placed_tuple P c.counts s.sizes elements t.one_count_each placed) in
        let none = placed_clashes P s env c.counts elements stand placed in
        let some = or_rest (list_any (value_of s env) (clashes (orders_of P) 0 c.counts)) (list_any (value_of s env) (map (literal_formula c.counts) (literals_of P c))) none (sym (body_value P s env c) ∙ whole) in
        sym (literals_value s env c.counts elements (literals_of P c) stand (literals_inside P B c t)) ∙ some

    satisfies_from : Meets P s c → Satisfies s (formula_of_clause P c)
    satisfies_from h =
        true_of_each s empty_environment (types_from 0 c.counts) 0 body
        (λ es given.
        let env = bound_all empty_environment 0 es in
        let stand = stand_parted s.sizes c.counts es given in
        body_value P s env c
        ∙ either (list_any (value_of s env) (clashes (orders_of P) 0 c.counts)) (list_any (value_of s env) (map (literal_formula c.counts) (literals_of P c)))
        (λ none.
        literals_value s env c.counts (parted c.counts es) (literals_of P c) stand (literals_inside P B c t)
        ∙ h (parted c.counts es) (parted_placed P s c.counts es t.one_count_each given none)))
