-- The literals of a clause, one by one, where some of its variables have their elements.
use Rattle.std.proofs.Common.{◌≡◌, ◌<◌, ◌≤◌, ℕ, zero, suc, ◌+◌, ◌*◌, ◌/◌, ◌||◌, ◌&&◌, Bool, true, false, not, List, [], ◌∷◌, length, get_or, set, map, drop, sym, ap, ◌∙◌, refl, subst, arith}
use Rattle.std.specs.Prelude.{slice_index, nat_eq, if◌then◌else◌}
use Rattle.std.specs.List.{All, list_any}
use Rattle.std.proofs.lemmas.List.{get_or-map, length-map, drop_more, drop_all, get_or_default, set-get_or}
use Rattle.dai_model.specs.Protocol.{Protocol}
use Rattle.dai_model.specs.Structure as Model
use Rattle.dai_model.specs.Structure.{is_tuple}
use Rattle.dai_model.specs.Placement.{of_sort}
use Rattle.dai_model.specs.Clause.{Variable, Atom, tuple, is_individual, literal_among, value_at, atom_value, literal_value, no_atom}
use Rattle.dai_model.proofs.Below.{Each, IsVariableOf, IsAtomOf, atoms_inside}
use Rattle.dai_model.proofs.Typed.{slice_get-length}
use Rattle.dai_logic.specs.declared.structure.Structure.{Structure}
use Rattle.dai_logic.specs.Tables.{structure_of, tuple_count, Fits}
use Rattle.dai_logic.proofs.Tuples.{relation_known, test_from_lt}
use Rattle.dai_template.specs.declared.clause.Atom.{Atom as Given}
use Rattle.dai_template.specs.Atoms.{atom_of}
use Rattle.dai_template.specs.Meeting.{element_in, sorts_of, IsNamed, IsValued, AreAll, IsVariableIn, AreEnough, LeavesRoom, IsBound, IsPartial, IsCompletion, atom_in, literal_in, IsJudged, IsMetFrom}
use Rattle.dai_template.proofs.MetFrom.{count_inside}
use Rattle.dai_template.proofs.Choices.{searched}
use Rattle.dai_template.proofs.Partial.{partial_more, completes_fewer, completes_more, placed_leaves}
use Rattle.dai_template.proofs.Completed.{completed}
use Rattle.dai_template.proofs.Named.{atoms_named}
use Rattle.dai_template.proofs.Ways.{All-from_Each}

Each-from_All : {X : Type 0} (P : X → Type 0) (xs : List X) → All P xs → Each P xs
Each-from_All P [] h = tt
Each-from_All P (x ∷ xs) h = (h 0 x (omega arith), Each-from_All P xs (λ k d below. h (suc k) d (omega (arith, below))))

Each-with : {X : Type 0} (P Q R : X → Type 0) (xs : List X) → ((x : X) → P x → Q x → R x) → Each P xs → Each Q xs → Each R xs
Each-with P Q R [] f h k = tt
Each-with P Q R (x ∷ xs) f h k = (f x h.0 k.0, Each-with P Q R xs f h.1 k.1)

Each-at : {X : Type 0} (P : X → Type 0) (xs : List X) (k : ℕ) (d : X) → k < length xs → Each P xs → P (get_or xs k d)
Each-at P [] k d h e = absurd (omega (arith, h))
Each-at P (x ∷ xs) zero d h e = e.0
Each-at P (x ∷ xs) (suc k) d h e = Each-at P xs k d (omega (arith, h)) e.1

-- the variables of an atom have places
placed_at : (counts : List ℕ) (n : ℕ) → n ≡ 32 → length counts ≤ 8 → ((t : ℕ) → slice_index counts t ≤ 4) → (a : Atom) → IsAtomOf counts a → AreAll (λ (v : Variable). 4 * v.sort + v.number < n) a
placed_at counts n long types few (tuple r vs) e = All-from_Each (λ (v : Variable). 4 * v.sort + v.number < n) vs (Each-with (IsVariableOf counts) (IsVariableOf counts) (λ (v : Variable). 4 * v.sort + v.number < n) vs (λ v h _. let k = count_inside counts v.sort v.number h in let l = few v.sort in omega (arith, h, k, l, types, long)) e e)
placed_at counts n long types few (is_individual v i) e = let k = count_inside counts v.sort v.number e in let l = few v.sort in omega (arith, e, k, l, types, long)

both : (a b : Bool) → a ≡ true → b ≡ true → (a && b) ≡ true
both true b h k = k
both false b h k = h

tuple_of : (sizes values : List ℕ) (vs : List Variable) → Each (λ (v : Variable). element_in values v < slice_index sizes v.sort) vs → is_tuple sizes (sorts_of vs) (map (element_in values) vs) ≡ true
tuple_of sizes values [] e = refl
tuple_of sizes values (v ∷ vs) e = both _ _ (test_from_lt (element_in values v) (slice_index sizes v.sort) e.0) (tuple_of sizes values vs e.1)

valued : (P : Protocol) (s : Structure) (counts : List ℕ) (bound : List Bool) (values : List ℕ) → Fits P s → length counts ≤ 8 → ((t : ℕ) → slice_index counts t ≤ 4) → IsPartial P s.sizes.items counts bound values → (a : Atom) → IsNamed P a → IsAtomOf counts a → AreAll (IsBound bound) a → IsValued P s values a
valued P s counts bound values fits types few b (tuple r vs) n e all = (
  record {
    long = b.long;
    places = placed_at counts (length values) b.long types few (tuple r vs) e;
    tuple = tuple_of s.sizes.items values vs (Each-with (IsVariableOf counts) (IsBound bound) (λ (v : Variable). element_in values v < slice_index s.sizes.items v.sort) vs (λ v h k. b.inside v.sort v.number h k) e (Each-from_All (IsBound bound) vs all));
    known = relation_known P s r n.0 fits n.1;
    whole = fits.whole_tables r n.0 n.1 ∙ ap (λ ts. tuple_count s.sizes.items ts) (sym n.2);
  },
  n,
)
valued P s counts bound values fits types few b (is_individual v i) n e all =
    (b.long, placed_at counts 32 refl types few (is_individual v i) e, let k = slice_get-length P.individuals i n.0 n.1 in let one = fits.one_value_each in omega (arith, k, one))

-- the atom of a literal
pub record IsAtomAt (P : Protocol) (counts : List ℕ) (atoms : List Atom) (n : ℕ) (a : Atom) : Type 0 where
  pub inside : IsAtomOf counts a
  pub named : IsNamed P a
  pub is : a ≡ (literal_among atoms n).atom

pub atom_at : (P : Protocol) (orders : List Bool) (counts : List ℕ) (atoms : List Given) (literals : List ℕ) (s : Structure) (at : ℕ) → IsJudged P orders counts (map atom_of atoms) literals s → at < length literals → IsAtomAt P counts (map atom_of atoms) (get_or literals at 0) (literal_among (map atom_of atoms) (get_or literals at 0)).atom
atom_at P orders counts atoms literals s at j below =
    let n = get_or literals at 0 in
    let half : n / 2 < length (map atom_of atoms) = let k = j.of_the_shape at 0 below in omega (arith, k) in
    record {
      inside = Each-at (IsAtomOf counts) (map atom_of atoms) (n / 2) no_atom half (subst (Each (IsAtomOf counts)) (sym j.atoms_are) (atoms_inside P counts));
      named = Each-at (IsNamed P) (map atom_of atoms) (n / 2) no_atom half (subst (Each (IsNamed P)) (sym j.atoms_are) (atoms_named P counts));
      is = refl;
    }

-- the atom that is read for it
pub atom_read : (P : Protocol) (orders : List Bool) (counts : List ℕ) (atoms : List Given) (literals : List ℕ) (s : Structure) (at n i : ℕ) (a : Given) → IsJudged P orders counts (map atom_of atoms) literals s → at < length literals → n ≡ get_or literals at 0 → i ≡ n / 2 → a ≡ get_or atoms i a → IsAtomAt P counts (map atom_of atoms) (get_or literals at 0) (atom_of a)
atom_read P orders counts atoms literals s at n i a j below reads half is =
    let inside : get_or literals at 0 / 2 < length atoms = let k = j.of_the_shape at 0 below in let long = length-map atoms atom_of in omega (arith, k, long) in
    let same : atom_of a ≡ (literal_among (map atom_of atoms) (get_or literals at 0)).atom = ap atom_of (is ∙ ap (λ k. get_or atoms k a) (half ∙ ap (λ k. k / 2) reads)) ∙ sym (get_or-map atom_of atoms (get_or literals at 0 / 2) a no_atom inside) in
    subst (IsAtomAt P counts (map atom_of atoms) (get_or literals at 0)) (sym same) (atom_at P orders counts atoms literals s at j below)

pub has_places : (P : Protocol) (orders : List Bool) (counts : List ℕ) (atoms : List Atom) (literals : List ℕ) (s : Structure) (bound : List Bool) (values : List ℕ) (n : ℕ) (a : Atom) → IsJudged P orders counts atoms literals s → IsPartial P s.sizes.items counts bound values → IsAtomAt P counts atoms n a → AreAll (λ (v : Variable). 4 * v.sort + v.number < 32) a
has_places P orders counts atoms literals s bound values n a j h at = placed_at counts 32 refl j.few_types j.few a at.inside

pub has_value : (P : Protocol) (orders : List Bool) (counts : List ℕ) (atoms : List Atom) (literals : List ℕ) (s : Structure) (bound : List Bool) (values : List ℕ) (n : ℕ) (a : Atom) → IsJudged P orders counts atoms literals s → IsPartial P s.sizes.items counts bound values → IsAtomAt P counts atoms n a → AreAll (IsBound bound) a → IsValued P s values (literal_among atoms n).atom
has_value P orders counts atoms literals s bound values n a j h at all = subst (IsValued P s values) at.is (valued P s counts bound values j.fits j.few_types j.few h a at.named at.inside all)

-- truth depends on the elements of the literal's variables alone
variables_same : (counts : List ℕ) (bound : List Bool) (values : List ℕ) (elements : List (List ℕ)) (vs : List Variable) → IsCompletion counts bound values elements → Each (IsVariableOf counts) vs → Each (IsBound bound) vs → map (value_at elements) vs ≡ map (element_in values) vs
variables_same counts bound values elements [] h e b = refl
variables_same counts bound values elements (v ∷ vs) h e b =
    let here : value_at elements v ≡ element_in values v = h v.sort v.number e.0 b.0 in
    let rest = variables_same counts bound values elements vs h e.1 b.1 in
    cc

atom_same : (S : Model.Structure) (counts : List ℕ) (bound : List Bool) (values : List ℕ) (elements : List (List ℕ)) (a : Atom) → IsCompletion counts bound values elements → IsAtomOf counts a → AreAll (IsBound bound) a → atom_value S elements a ≡ atom_in S values a
atom_same S counts bound values elements (tuple r vs) h e all = ap (S.holds r) (variables_same counts bound values elements vs h e (Each-from_All (IsBound bound) vs all))
atom_same S counts bound values elements (is_individual v i) h e all = ap (λ x. nat_eq x (S.element i)) (h v.sort v.number e all)

pub literal_same : (S : Model.Structure) (P : Protocol) (counts : List ℕ) (atoms : List Atom) (bound : List Bool) (values : List ℕ) (elements : List (List ℕ)) (n : ℕ) (a : Atom) → IsAtomAt P counts atoms n a → AreAll (IsBound bound) a → IsCompletion counts bound values elements → literal_value S elements (literal_among atoms n) ≡ literal_in S values (literal_among atoms n)
literal_same S P counts atoms bound values elements n a at all h =
    let here : atom_value S elements (literal_among atoms n).atom ≡ atom_in S values (literal_among atoms n).atom = subst (λ x. atom_value S elements x ≡ atom_in S values x) at.is (atom_same S counts bound values elements a h at.inside all) in
    ap (λ b. if (literal_among atoms n).negated then not b else b) here

or_left : (a b : Bool) → a ≡ true → (a || b) ≡ true
or_left true b h = refl
or_left false b h = absurd (let k : ⊥ = cc in k)

or_right : (a b : Bool) → b ≡ true → (a || b) ≡ true
or_right true b h = refl
or_right false b h = h

or_rest : (a b : Bool) → a ≡ false → (a || b) ≡ true → b ≡ true
or_rest true b h k = absurd (let no : ⊥ = cc in no)
or_rest false b h k = k

first_or_rest : (S : Model.Structure) (atoms : List Atom) (literals : List ℕ) (elements : List (List ℕ)) (at : ℕ) → at < length literals → list_any (literal_value S elements) (map (literal_among atoms) (drop at literals)) ≡ (literal_value S elements (literal_among atoms (get_or literals at 0)) || list_any (literal_value S elements) (map (literal_among atoms) (drop (at + 1) literals)))
first_or_rest S atoms literals elements at below = ap (λ xs. list_any (literal_value S elements) (map (literal_among atoms) xs)) (drop_more literals at 0 below)

pub met_here : (P : Protocol) (counts : List ℕ) (atoms : List Atom) (literals : List ℕ) (s : Structure) (at : ℕ) (bound : List Bool) (values : List ℕ) (a : Atom) → at < length literals → IsAtomAt P counts atoms (get_or literals at 0) a → AreAll (IsBound bound) a → literal_in (structure_of P s) values (literal_among atoms (get_or literals at 0)) ≡ true → IsMetFrom P counts atoms (drop at literals) s bound values
met_here P counts atoms literals s at bound values a below is all h elements placed c =
    first_or_rest (structure_of P s) atoms literals elements at below ∙ or_left _ _ (literal_same (structure_of P s) P counts atoms bound values elements (get_or literals at 0) a is all c ∙ h)

pub met_later : (P : Protocol) (counts : List ℕ) (atoms : List Atom) (literals : List ℕ) (s : Structure) (at : ℕ) (bound : List Bool) (values : List ℕ) → at < length literals → IsMetFrom P counts atoms (drop (at + 1) literals) s bound values → IsMetFrom P counts atoms (drop at literals) s bound values
met_later P counts atoms literals s at bound values below h elements placed c = first_or_rest (structure_of P s) atoms literals elements at below ∙ or_right _ _ (h elements placed c)

pub met_rest : (P : Protocol) (counts : List ℕ) (atoms : List Atom) (literals : List ℕ) (s : Structure) (at : ℕ) (bound : List Bool) (values : List ℕ) (a : Atom) → at < length literals → IsAtomAt P counts atoms (get_or literals at 0) a → AreAll (IsBound bound) a → literal_in (structure_of P s) values (literal_among atoms (get_or literals at 0)) ≡ false → IsMetFrom P counts atoms (drop at literals) s bound values → IsMetFrom P counts atoms (drop (at + 1) literals) s bound values
met_rest P counts atoms literals s at bound values a below is all h met elements placed c =
    or_rest _ _ (literal_same (structure_of P s) P counts atoms bound values elements (get_or literals at 0) a is all c ∙ h) (sym (first_or_rest (structure_of P s) atoms literals elements at below) ∙ met elements placed c)

-- a variable of the atom is one of the shape
pub variable_inside : (counts : List ℕ) (v : Variable) (a : Atom) → IsAtomOf counts a → IsVariableIn v a → v.number < slice_index counts v.sort
variable_inside counts v (tuple r vs) e (k, below, is) = subst (IsVariableOf counts) is (Each-at (IsVariableOf counts) vs k v below e)
variable_inside counts v (is_individual w i) e same = subst (IsVariableOf counts) (sym same) e

-- the last literal is behind
pub met_by_no_literal : (P : Protocol) (orders : List Bool) (counts : List ℕ) (atoms : List Atom) (literals : List ℕ) (s : Structure) (at : ℕ) (bound : List Bool) (values : List ℕ) → at ≡ length literals → IsJudged P orders counts atoms literals s → AreEnough counts s.sizes.items → IsPartial P s.sizes.items counts bound values → IsMetFrom P counts atoms (drop at literals) s bound values → false ≡ true
met_by_no_literal P orders counts atoms literals s at bound values past j enough h met =
    let w = completed P orders s.sizes.items counts bound values (searched P orders counts atoms literals s j) enough h in
    sym (ap (λ xs. list_any (literal_value (structure_of P s) w.0) (map (literal_among atoms) xs)) (drop_all at literals (omega (arith, past)))) ∙ met w.0 w.1 w.2

-- one variable more has its element
pub next_partial : (P : Protocol) (orders : List Bool) (counts : List ℕ) (atoms : List Atom) (literals : List ℕ) (s : Structure) (bound : List Bool) (values : List ℕ) (sort number e : ℕ) → IsJudged P orders counts atoms literals s → IsPartial P s.sizes.items counts bound values → number < slice_index counts sort → (IsBound bound (record { sort = sort; number = number }) → ⊥) → e < slice_index s.sizes.items sort → LeavesRoom (get_or orders sort false) (slice_index counts sort) (slice_index s.sizes.items sort) sort number e bound values → IsPartial P s.sizes.items counts (set bound (4 * sort + number) true) (set values (4 * sort + number) e)
next_partial P orders counts atoms literals s bound values sort number e j h inside none below leaves = partial_more P orders s.sizes.items counts bound values sort number e (searched P orders counts atoms literals s j) h inside none below leaves

pub next_met : (P : Protocol) (counts : List ℕ) (atoms : List Atom) (literals : List ℕ) (s : Structure) (bound : List Bool) (values : List ℕ) (sort number e : ℕ) → (IsBound bound (record { sort = sort; number = number }) → ⊥) → IsPartial P s.sizes.items counts bound values → IsMetFrom P counts atoms literals s bound values → IsMetFrom P counts atoms literals s (set bound (4 * sort + number) true) (set values (4 * sort + number) e)
next_met P counts atoms literals s bound values sort number e none h met elements placed c = met elements placed (completes_fewer counts bound values sort number e elements none c h.places)

pub each_met : (P : Protocol) (orders : List Bool) (counts : List ℕ) (atoms : List Atom) (all literals : List ℕ) (s : Structure) (bound : List Bool) (values : List ℕ) (sort number : ℕ) → IsJudged P orders counts atoms all s → IsPartial P s.sizes.items counts bound values → number < slice_index counts sort → (IsBound bound (record { sort = sort; number = number }) → ⊥) → ((e : ℕ) → e < slice_index s.sizes.items sort → LeavesRoom (get_or orders sort false) (slice_index counts sort) (slice_index s.sizes.items sort) sort number e bound values → IsMetFrom P counts atoms literals s (set bound (4 * sort + number) true) (set values (4 * sort + number) e)) → IsMetFrom P counts atoms literals s bound values
each_met P orders counts atoms all literals s bound values sort number j h inside none met elements placed c =
    let leaves = placed_leaves P orders s.sizes.items counts bound values sort number elements (searched P orders counts atoms all s j) inside placed c in
    met (slice_index (of_sort elements sort) number) leaves.0 leaves.1 elements placed (completes_more s.sizes.items counts bound values sort number elements h.long h.places j.few_types j.few inside none c)

-- the variable that has no element, and what the search reads of its type
pub record IsNextVariable (orders : List Bool) (counts sizes : List ℕ) (bound : List Bool) (sort number : ℕ) : Type 0 where
  pub inside : number < slice_index counts sort
  pub known : sort < length counts
  pub ordered : sort < length orders
  pub sized : sort < length sizes
  pub few : sort < 8
  pub small : slice_index counts sort ≤ 4
  pub stored : 4 * sort + number < 32
  pub none : IsBound bound (record { sort = sort; number = number }) → ⊥

pub next_variable : (P : Protocol) (orders : List Bool) (counts : List ℕ) (atoms : List Atom) (literals : List ℕ) (s : Structure) (bound : List Bool) (n : ℕ) (a : Atom) (v : Variable) → IsJudged P orders counts atoms literals s → IsAtomAt P counts atoms n a → IsVariableIn v a × (IsBound bound v → ⊥) → IsNextVariable orders counts s.sizes.items bound v.sort v.number
next_variable P orders counts atoms literals s bound n a v j at h =
    let inside = variable_inside counts v a at.inside h.0 in
    let known = count_inside counts v.sort v.number inside in
    let each = j.each in
    let sized = j.fits.one_size_each in
    let types = j.few_types in
    let few = j.few v.sort in
    let orders_long : length orders ≡ length P.sorts = ap length j.orders_are ∙ length-map P.sorts _ in
    record {
      inside = inside;
      known = known;
      ordered = omega (arith, orders_long, known, each);
      sized = omega (arith, sized, known, each);
      few = omega (arith, known, types);
      small = few;
      stored = omega (arith, inside, few, known, types);
      none = h.1;
    }

pub read_at : (xs : List ℕ) (k i n : ℕ) → k < length xs → i ≡ k → n ≡ get_or xs i n → n ≡ slice_index xs k
read_at xs k i n below same is = is ∙ (get_or_default xs i n 0 (omega (arith, below, same)) ∙ ap (λ x. get_or xs x 0) same)

pub leaves_as : (a b : Bool) (count size counts sizes sort number e : ℕ) (bound : List Bool) (values : List ℕ) → a ≡ b → count ≡ counts → size ≡ sizes → LeavesRoom a count size sort number e bound values → LeavesRoom b counts sizes sort number e bound values
leaves_as a b count size counts sizes sort number e bound values p q r h = subst (λ x. LeavesRoom x counts sizes sort number e bound values) p (subst (λ x. LeavesRoom a x sizes sort number e bound values) q (subst (λ x. LeavesRoom a count x sort number e bound values) r h))

-- the same of arrays that are the same
pub leaves_at : (ordered : Bool) (count size sort number e : ℕ) (bound marks : List Bool) (values elements : List ℕ) → bound ≡ marks → values ≡ elements → LeavesRoom ordered count size sort number e bound values → LeavesRoom ordered count size sort number e marks elements
leaves_at ordered count size sort number e bound marks values elements p q h = subst (λ b. LeavesRoom ordered count size sort number e b elements) p (subst (LeavesRoom ordered count size sort number e bound) q h)

pub partial_at : (P : Protocol) (sizes counts : List ℕ) (bound marks : List Bool) (values elements : List ℕ) (place other e : ℕ) → bound ≡ marks → values ≡ elements → place ≡ other → IsPartial P sizes counts (set bound place true) (set values place e) → IsPartial P sizes counts (set marks other true) (set elements other e)
partial_at P sizes counts bound marks values elements place other e p q same h = subst (λ k. IsPartial P sizes counts (set marks k true) (set elements k e)) same (subst (λ b. IsPartial P sizes counts (set b place true) (set elements place e)) p (subst (λ xs. IsPartial P sizes counts (set bound place true) (set xs place e)) q h))

pub met_at : (P : Protocol) (counts : List ℕ) (atoms : List Atom) (literals : List ℕ) (s : Structure) (bound marks : List Bool) (values elements : List ℕ) (place other e : ℕ) → bound ≡ marks → values ≡ elements → place ≡ other → IsMetFrom P counts atoms literals s (set bound place true) (set values place e) → IsMetFrom P counts atoms literals s (set marks other true) (set elements other e)
met_at P counts atoms literals s bound marks values elements place other e p q same h = subst (λ k. IsMetFrom P counts atoms literals s (set marks k true) (set elements k e)) same (subst (λ b. IsMetFrom P counts atoms literals s (set b place true) (set elements place e)) p (subst (λ xs. IsMetFrom P counts atoms literals s (set bound place true) (set xs place e)) q h))

twice : {X : Type 0} (xs : List X) (p : ℕ) (x y : X) → set (set xs p x) p y ≡ set xs p y
twice [] p x y = refl
twice (z ∷ xs) zero x y = refl
twice (z ∷ xs) (suc p) x y = ap (λ zs. z ∷ zs) (twice xs p x y)

-- what was changed is put back
pub put_back : {X : Type 0} (xs ys zs : List X) (p : ℕ) (x y d : X) → ys ≡ zs → zs ≡ set xs p x → y ≡ get_or xs p d → set ys p y ≡ xs
put_back xs ys zs p x y d a b e = ap (λ l. set l p y) (a ∙ b) ∙ (twice xs p x y ∙ (ap (set xs p) e ∙ set-get_or xs p d))
