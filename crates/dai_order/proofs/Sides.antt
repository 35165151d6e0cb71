-- What may go where, on the way and at the end of the search.
use Rattle.std.proofs.Common.{◌≡◌, ◌<◌, ◌≤◌, ◌+◌, ◌*◌, ◌/◌, ◌%◌, ℕ, zero, suc, Bool, true, false, List, [], ◌∷◌, length, get_or, map, sym, ap, ◌∙◌, refl, subst, arith, inl, inr, ◌⊎◌}
use Rattle.std.specs.Prelude.{slice_index, nat_eq, ◌↔◌, IsTrue}
use Rattle.std.specs.List.{All, Contains}
use Rattle.std.proofs.lemmas.Bool.{cases_lt}
use Rattle.dai_model.specs.Protocol.{Protocol}
use Rattle.dai_model.specs.Template.{Bounds}
use Rattle.dai_model.specs.Clause as Model
use Rattle.dai_model.specs.Clause.{Variable, Atom, tuple, is_individual, Literal, literals_of, atoms_of, no_atom, value_at}
use Rattle.dai_model.specs.Subsumption.{image_of_variable, image_of_atom, image_of, Subsumes}
use Rattle.dai_model.proofs.Below.{Each, Each-at, IsVariableOf, IsAtomOf, atoms_inside, half_below}
use Rattle.dai_model.proofs.Ranks.{literal_at, literal_there, literal_place}
use Rattle.dai_template.specs.declared.clause.Clause.{Clause}
use Rattle.dai_template.specs.declared.clause.Shape.{Shape}
use Rattle.dai_template.specs.declared.space.Space.{Space}
use Rattle.dai_template.specs.Atoms.{variable_of, atom_of}
use Rattle.dai_template.specs.Spaces.{IsClauseOf, clause_of}
use Rattle.dai_template.specs.Meeting.{element_in, Before, Agree, IsBegun}
use Rattle.dai_template.specs.Renamings.{AreLiterals}
use Rattle.dai_template.proofs.MetFrom.{count_inside, cut, cut_at, cut_placed}
use Rattle.std.proofs.lemmas.List.{get_or_default}
use Rattle.dai_template.proofs.Choices.{IsSearched, begun_end}
use Rattle.dai_template.proofs.Sought.{searched_shape}
use Rattle.dai_template.proofs.Least.{shape_of, clause_literals}
use Rattle.dai_template.proofs.Asked.{none_before}
use Rattle.dai_template.proofs.Clauses.{shape_counts}
use Rattle.dai_template.proofs.Ways.{All-from_Each}
use Rattle.dai_order.specs.Sides.{AreStored, MayGo, EachMayGo, AtomMayGo, AllMayGo, clause_over, AreSides, AreTaken, IsNoneFrom, AreReadable}

agreed : (counts : List ℕ) (sort number : ℕ) (to : List (List ℕ)) (values : List ℕ) (v w : Variable) → Agree counts sort number to values → IsVariableOf counts v → image_of_variable to v ≡ w → MayGo sort number values v w
agreed counts sort number to values v w agree inside e = record {
  same_type = ap (λ (x : Variable). x.sort) e;
  placed = λ before. sym (agree v.sort v.number inside before) ∙ ap (λ (x : Variable). x.number) e;
}

each_agreed : (counts : List ℕ) (sort number : ℕ) (to : List (List ℕ)) (values : List ℕ) (vs ws : List Variable) → Agree counts sort number to values → Each (IsVariableOf counts) vs → map (image_of_variable to) vs ≡ ws → EachMayGo sort number values vs ws
each_agreed counts sort number to values [] [] agree inside e = tt
each_agreed counts sort number to values [] (w ∷ ws) agree inside e = absurd (let none : ⊥ = cc in none)
each_agreed counts sort number to values (v ∷ vs) [] agree inside e = absurd (let none : ⊥ = cc in none)
each_agreed counts sort number to values (v ∷ vs) (w ∷ ws) agree inside e =
    let here : image_of_variable to v ≡ w = cc in
    let rest : map (image_of_variable to) vs ≡ ws = cc in
    (agreed counts sort number to values v w agree inside.0 here, each_agreed counts sort number to values vs ws agree inside.1 rest)

pub atom_agreed : (counts : List ℕ) (sort number : ℕ) (to : List (List ℕ)) (values : List ℕ) (a b : Atom) → Agree counts sort number to values → IsAtomOf counts a → image_of_atom to a ≡ b → AtomMayGo sort number values a b
atom_agreed counts sort number to values (tuple r vs) (tuple q ws) agree inside e =
    let symbol : r ≡ q = cc in
    let moved : map (image_of_variable to) vs ≡ ws = cc in
    (symbol, each_agreed counts sort number to values vs ws agree inside moved)
atom_agreed counts sort number to values (tuple r vs) (is_individual w j) agree inside e = absurd (let none : ⊥ = cc in none)
atom_agreed counts sort number to values (is_individual v i) (tuple q ws) agree inside e = absurd (let none : ⊥ = cc in none)
atom_agreed counts sort number to values (is_individual v i) (is_individual w j) agree inside e =
    let symbol : i ≡ j = cc in
    let moved : image_of_variable to v ≡ w = cc in
    (symbol, agreed counts sort number to values v w agree inside moved)

-- each variable's number is in the array
abbrev pub AreNumbers : List ℕ → List (List ℕ) → List ℕ → Type 0
AreNumbers counts to values = (v : Variable) → IsVariableOf counts v → value_at to v ≡ element_in values v

gone : (counts : List ℕ) (sort number : ℕ) (to : List (List ℕ)) (values : List ℕ) (v w : Variable) → sort ≡ length counts → AreNumbers counts to values → IsVariableOf counts v → MayGo sort number values v w → image_of_variable to v ≡ w
gone counts sort number to values v w end numbers inside h =
    let below = count_inside counts v.sort v.number inside in
    let type : v.sort ≡ w.sort = h.same_type in
    let new : value_at to v ≡ w.number = numbers v inside ∙ h.placed (inl (omega (arith, below, end))) in
    λ i. record { sort = type i; number = new i }

each_gone : (counts : List ℕ) (sort number : ℕ) (to : List (List ℕ)) (values : List ℕ) (vs ws : List Variable) → sort ≡ length counts → AreNumbers counts to values → Each (IsVariableOf counts) vs → EachMayGo sort number values vs ws → map (image_of_variable to) vs ≡ ws
each_gone counts sort number to values [] [] end numbers inside h = refl
each_gone counts sort number to values [] (w ∷ ws) end numbers inside h = absurd h
each_gone counts sort number to values (v ∷ vs) [] end numbers inside h = absurd h
each_gone counts sort number to values (v ∷ vs) (w ∷ ws) end numbers inside h =
    let here = gone counts sort number to values v w end numbers inside.0 h.0 in
    let rest = each_gone counts sort number to values vs ws end numbers inside.1 h.1 in
    λ i. here i ∷ rest i

pub atom_gone : (counts : List ℕ) (sort number : ℕ) (to : List (List ℕ)) (values : List ℕ) (a b : Atom) → sort ≡ length counts → AreNumbers counts to values → IsAtomOf counts a → AtomMayGo sort number values a b → image_of_atom to a ≡ b
atom_gone counts sort number to values (tuple r vs) (tuple q ws) end numbers inside h =
    let symbol : r ≡ q = h.0 in
    let moved = each_gone counts sort number to values vs ws end numbers inside h.1 in
    λ i. tuple (symbol i) (moved i)
atom_gone counts sort number to values (tuple r vs) (is_individual w j) end numbers inside h = absurd h
atom_gone counts sort number to values (is_individual v i) (tuple q ws) end numbers inside h = absurd h
atom_gone counts sort number to values (is_individual v i) (is_individual w j) end numbers inside h =
    let symbol : i ≡ j = h.0 in
    let moved = gone counts sort number to values v w end numbers inside h.1 in
    λ k. is_individual (moved k) (symbol k)

parity : (a b : ℕ) → a < 2 → b < 2 → nat_eq a 1 ≡ nat_eq b 1 → a ≡ b
parity zero zero h k e = refl
parity zero (suc zero) h k e = absurd (let f : false ≡ true = e in let none : ⊥ = cc in none)
parity (suc zero) zero h k e = absurd (let f : true ≡ false = e in let none : ⊥ = cc in none)
parity (suc zero) (suc zero) h k e = refl
parity (suc (suc a)) b h k e = absurd (omega (arith, h))
parity zero (suc (suc b)) h k e = absurd (omega (arith, k))
parity (suc zero) (suc (suc b)) h k e = absurd (omega (arith, k))

pub same_sign : (l m : ℕ) → nat_eq (l % 2) 1 ≡ nat_eq (m % 2) 1 → l % 2 ≡ m % 2
same_sign l m e = parity (l % 2) (m % 2) (omega arith) (omega arith) e

-- the atom of a literal of the shape
atom_inside : (P : Protocol) (counts literals : List ℕ) (k : ℕ) → AreLiterals P counts literals → k < length literals → IsAtomOf counts (get_or (atoms_of P counts) (slice_index literals k / 2) no_atom)
atom_inside P counts literals k are below =
    Each-at (IsAtomOf counts) (atoms_of P counts) (slice_index literals k / 2) no_atom (half_below (slice_index literals k) (length (atoms_of P counts)) (are.of_the_shape k 0 below)) (atoms_inside P counts)

-- where an injection takes each literal to one of the others, each may go to one of them
pub taken_may_go : (P : Protocol) (orders : List Bool) (left : Shape) (literals : List ℕ) (right : Shape) (others : List ℕ) (sort number : ℕ) (to : List (List ℕ)) (values : List ℕ) → AreSides P orders left literals right others → Agree left.counts.items sort number to values → AreTaken P (clause_over left literals) (clause_over right others) to → AllMayGo sort number values left literals right others
taken_may_go P orders left literals right others sort number to values s agree taken k below =
    let l = literal_at P (clause_over left literals) k in
    let there = taken l (literal_there P (clause_over left literals) k below) in
    let own = literal_place P (clause_over right others) (image_of to l) there in
    let atom : image_of_atom to l.atom ≡ (literal_at P (clause_over right others) there.0).atom = sym (ap (λ (m : Literal). m.atom) own.is) in
    let may = atom_agreed left.counts.items sort number to values l.atom (literal_at P (clause_over right others) there.0).atom agree (atom_inside P left.counts.items literals k s.left_literals below) atom in
    record {
      place = there.0;
      below = own.below;
      sign = same_sign (slice_index literals k) (slice_index others there.0) (sym (ap (λ (m : Literal). m.negated) own.is));
      atom =
          subst (λ xs. AtomMayGo sort number values (get_or xs (slice_index literals k / 2) no_atom) (get_or (map atom_of right.atoms.items) (slice_index others there.0 / 2) no_atom)) (sym s.left_shape.atoms_are)
          (subst (λ ys. AtomMayGo sort number values l.atom (get_or ys (slice_index others there.0 / 2) no_atom)) (sym s.right_shape.atoms_are) may);
    }

pub none_taken : (P : Protocol) (orders : List Bool) (left : Shape) (literals : List ℕ) (right : Shape) (others : List ℕ) (sort number : ℕ) (values : List ℕ) (b : Bool) → AreSides P orders left literals right others → (AllMayGo sort number values left literals right others → b ≡ true) → b ≡ false → IsNoneFrom P left literals right others sort number values
none_taken P orders left literals right others sort number values b s exact wrong to placed agree taken =
    let yes = exact (taken_may_go P orders left literals right others sort number to values s agree taken) in
    let none : ⊥ = cc in
    none

-- at the end the array is such an injection
pub all_gone : (P : Protocol) (orders : List Bool) (left : Shape) (literals : List ℕ) (right : Shape) (others : List ℕ) (sort number : ℕ) (values : List ℕ) → AreSides P orders left literals right others → sort ≡ length left.counts.items → IsBegun P right.counts.items left.counts.items sort number values → AllMayGo sort number values left literals right others → Subsumes P (clause_over left literals) (clause_over right others)
all_gone P orders left literals right others sort number values s end begun all = record {
  injection = cut left.counts.items values;
  places = cut_placed P right.counts.items left.counts.items values s.left_shape.each (begun_end P right.counts.items left.counts.items sort number values end begun);
  literals = λ l h.
      let own = literal_place P (clause_over left literals) l h in
      let m = all h.0 own.below in
      let first = literal_at P (clause_over left literals) h.0 in
      let second = literal_at P (clause_over right others) m.place in
      let may : AtomMayGo sort number values first.atom second.atom =
      subst (λ xs. AtomMayGo sort number values (get_or xs (slice_index literals h.0 / 2) no_atom) second.atom) s.left_shape.atoms_are
      (subst (λ ys. AtomMayGo sort number values (get_or (map atom_of left.atoms.items) (slice_index literals h.0 / 2) no_atom) (get_or ys (slice_index others m.place / 2) no_atom)) s.right_shape.atoms_are m.atom) in
      let atom = atom_gone left.counts.items sort number (cut left.counts.items values) values first.atom second.atom end (λ v inside. cut_at left.counts.items values v.sort v.number inside) (atom_inside P left.counts.items literals h.0 s.left_literals own.below) may in
      let sign : first.negated ≡ second.negated = ap (λ n. nat_eq n 1) m.sign in
      let image : second ≡ image_of (cut left.counts.items values) first = λ i. record { atom = sym atom i; negated = sym sign i } in
      subst (Contains (literals_of P (clause_over right others))) (image ∙ ap (image_of (cut left.counts.items values)) own.is) (literal_there P (clause_over right others) m.place m.below);
}

-- what the search reads is there
atom_stored : (counts : List ℕ) (a : Atom) → length counts ≤ 8 → ((t : ℕ) → slice_index counts t ≤ 4) → IsAtomOf counts a → AreStored a
atom_stored counts (tuple r vs) types few inside = All-from_Each (λ (v : Variable). 4 * v.sort + v.number < 32) vs (each_stored vs inside)
  where
    each_stored : (vs : List Variable) → Each (IsVariableOf counts) vs → Each (λ (v : Variable). 4 * v.sort + v.number < 32) vs
    each_stored [] h = tt
    each_stored (v ∷ vs) h = (let k = count_inside counts v.sort v.number h.0 in let l = few v.sort in let m = h.0 in omega (arith, k, l, m, types), each_stored vs h.1)
atom_stored counts (is_individual v i) types few inside = let k = count_inside counts v.sort v.number inside in let l = few v.sort in omega (arith, inside, k, l, types)

pub all_stored : (counts : List ℕ) (atoms : List Atom) → length counts ≤ 8 → ((t : ℕ) → slice_index counts t ≤ 4) → Each (IsAtomOf counts) atoms → Each AreStored atoms
all_stored counts [] types few h = tt
all_stored counts (a ∷ atoms) types few h = (atom_stored counts a types few h.0, all_stored counts atoms types few h.1)

pub readable : (P : Protocol) (orders : List Bool) (left : Shape) (literals : List ℕ) (right : Shape) (others values : List ℕ) → AreSides P orders left literals right others → length values ≡ 32 → AreReadable left literals right others values
readable P orders left literals right others values s long = record {
  long = long;
  stored = subst (All AreStored) (sym s.left_shape.atoms_are) (All-from_Each AreStored (atoms_of P left.counts.items) (all_stored left.counts.items (atoms_of P left.counts.items) s.left_shape.few_types s.left_shape.few (atoms_inside P left.counts.items)));
  literals_inside = subst (λ xs. All (λ l. l < 2 * length xs) literals) (sym s.left_shape.atoms_are) s.left_literals.of_the_shape;
  others_inside = subst (λ xs. All (λ l. l < 2 * length xs) others) (sym s.right_shape.atoms_are) s.right_literals.of_the_shape;
}

-- variables place by place
pub each_placed : (sort number : ℕ) (to : List ℕ) (vs ws : List (ℕ × ℕ)) → length vs ≡ length ws → ((k : ℕ) → k < length vs → MayGo sort number to (variable_of (get_or vs k (0, 0))) (variable_of (get_or ws k (0, 0)))) → EachMayGo sort number to (map variable_of vs) (map variable_of ws)
each_placed sort number to [] [] long h = tt
each_placed sort number to [] (w ∷ ws) long h = absurd (omega (arith, long))
each_placed sort number to (v ∷ vs) [] long h = absurd (omega (arith, long))
each_placed sort number to (v ∷ vs) (w ∷ ws) long h = (h 0 (omega arith), each_placed sort number to vs ws (omega (arith, long)) (λ k below. h (suc k) (omega (arith, below))))

pub as_many_placed : (sort number : ℕ) (to : List ℕ) (vs ws : List (ℕ × ℕ)) → EachMayGo sort number to (map variable_of vs) (map variable_of ws) → length vs ≡ length ws
as_many_placed sort number to [] [] h = refl
as_many_placed sort number to [] (w ∷ ws) h = absurd h
as_many_placed sort number to (v ∷ vs) [] h = absurd h
as_many_placed sort number to (v ∷ vs) (w ∷ ws) h = ap suc (as_many_placed sort number to vs ws h.1)

pub placed_at : (sort number : ℕ) (to : List ℕ) (vs ws : List (ℕ × ℕ)) (k : ℕ) → k < length vs → EachMayGo sort number to (map variable_of vs) (map variable_of ws) → MayGo sort number to (variable_of (get_or vs k (0, 0))) (variable_of (get_or ws k (0, 0)))
placed_at sort number to [] ws k below h = absurd (omega (arith, below))
placed_at sort number to (v ∷ vs) [] k below h = absurd h
placed_at sort number to (v ∷ vs) (w ∷ ws) zero below h = h.0
placed_at sort number to (v ∷ vs) (w ∷ ws) (suc k) below h = placed_at sort number to vs ws k (omega (arith, below)) h.1

pub variable_stored : (vs : List (ℕ × ℕ)) (k : ℕ) → All (λ (v : Variable). 4 * v.sort + v.number < 32) (map variable_of vs) → k < length vs → 4 * (get_or vs k (0, 0)).0 + (get_or vs k (0, 0)).1 < 32
variable_stored [] k h below = absurd (omega (arith, below))
variable_stored (v ∷ vs) zero h below = h 0 (variable_of v) (omega arith)
variable_stored (v ∷ vs) (suc k) h below = variable_stored vs k (λ j d l. h (suc j) d (omega (arith, l))) (omega (arith, below))

-- from shapes of the space to its clauses
pub over_is : (space : Space) (clause : Clause) (shape : Shape) (literals : List ℕ) → clause.shape < length space.shapes.items → shape ≡ get_or space.shapes.items clause.shape shape → literals ≡ clause.lits.items → clause_over shape literals ≡ clause_of space clause
over_is space clause shape literals below is l =
    let counts = shape_counts space clause shape below is in
    λ i. record { counts = counts i; literals = l i }

decided : (b : Bool) → (b ≡ false → ⊥) → b ≡ true
decided true h = refl
decided false h = absurd (h refl)

pub below_decided : (P : Protocol) (c d e f : Model.Clause) (b : Bool) → c ≡ e → d ≡ f → (b ≡ true → Subsumes P c d) → (b ≡ false → Subsumes P c d → ⊥) → IsTrue b ↔ Subsumes P e f
below_decided P c d e f b p q found none = (
  λ h. subst (λ x. Subsumes P x f) p (subst (Subsumes P c) q (found h)),
  λ s. decided b (λ h. none h (subst (λ x. Subsumes P x d) (sym p) (subst (Subsumes P e) (sym q) s))),
)

pub none_below : (P : Protocol) (left : Shape) (literals : List ℕ) (right : Shape) (others values : List ℕ) → IsNoneFrom P left literals right others 0 0 values → Subsumes P (clause_over left literals) (clause_over right others) → ⊥
none_below P left literals right others values none s = none s.injection s.places (λ t i k before. absurd (none_before t i before)) s.literals

-- from the last variable of a type to the first of the next
before_next : (counts : List ℕ) (t i sort number : ℕ) → number ≡ slice_index counts sort → i < slice_index counts t → Before t i (sort + 1) 0 → Before t i sort number
before_next counts t i sort number all inside (inr here) = absurd (let none = here.1 in omega (arith, none))
before_next counts t i sort number all inside (inl below) = by_type (cases_lt t sort)
  where
    by_type : (t < sort) ⊎ (sort ≤ t) → Before t i sort number
    by_type (inl earlier) = inl earlier
    by_type (inr later) =
        let same : t ≡ sort = omega (arith, below, later) in
        let there : i < slice_index counts sort = subst (λ k. i < slice_index counts k) same inside in
        inr (same, omega (arith, there, all))

pub begun_next : (P : Protocol) (sizes counts : List ℕ) (sort number : ℕ) (values : List ℕ) → number ≡ slice_index counts sort → IsBegun P sizes counts sort number values → IsBegun P sizes counts (sort + 1) 0 values
begun_next P sizes counts sort number values all b = record {
  long = b.long;
  inside = λ t i h before. b.inside t i h (before_next counts t i sort number all h before);
  apart = λ t T i j e h k before. b.apart t T i j e h k (before_next counts t j sort number all k before);
}

pub none_next : (P : Protocol) (left : Shape) (literals : List ℕ) (right : Shape) (others : List ℕ) (sort number : ℕ) (values : List ℕ) → number ≡ slice_index left.counts.items sort → IsNoneFrom P left literals right others (sort + 1) 0 values → IsNoneFrom P left literals right others sort number values
none_next P left literals right others sort number values all none to placed agree taken =
    none to placed (λ t i h before. agree t i h (before_next left.counts.items t i sort number all h before)) taken

pub last_of : (counts : List ℕ) (sort number i n : ℕ) → sort < length counts → i ≡ sort → n ≡ get_or counts i n → number ≡ n → number ≡ slice_index counts sort
last_of counts sort number i n below same is e =
    e ∙ (is ∙ (get_or_default counts i n 0 (omega (arith, below, same)) ∙ ap (λ k. get_or counts k 0) same))

pub searched_sides : (P : Protocol) (orders : List Bool) (left : Shape) (literals : List ℕ) (right : Shape) (others : List ℕ) → AreSides P orders left literals right others → IsSearched P orders left.counts.items
searched_sides P orders left literals right others s = searched_shape P orders left.counts.items (map atom_of left.atoms.items) s.left_shape

-- both shapes have a number of variables for each type
pub right_known : (P : Protocol) (orders : List Bool) (left : Shape) (literals : List ℕ) (right : Shape) (others : List ℕ) (sort : ℕ) → AreSides P orders left literals right others → sort < length left.counts.items → sort < length right.counts.items
right_known P orders left literals right others sort s below = let a = s.left_shape.each in let b = s.right_shape.each in omega (arith, a, b, below)

pub sides_of : (P : Protocol) (B : Bounds) (space : Space) (left right : Clause) (from to : Shape) (orders : List Bool) (literals others : List ℕ) → IsClauseOf P B space left → IsClauseOf P B space right → from ≡ get_or space.shapes.items left.shape from → to ≡ get_or space.shapes.items right.shape to → orders ≡ space.ordered.items → literals ≡ left.lits.items → others ≡ right.lits.items → AreSides P orders from literals to others
sides_of P B space left right from to orders literals others h k a b o l m = record {
  left_shape = shape_of P B space left from orders h a o;
  left_literals = clause_literals P B space left from literals h a l;
  right_shape = shape_of P B space right to orders k b o;
  right_literals = clause_literals P B space right to others k b m;
}
