-- A state meets a clause where some literal of it is true.
use Rattle.std.proofs.Common.{◌≡◌, ◌++◌, ◌∷◌, ◌<◌, ◌*◌, ◌+◌, ◌||◌, ◌↔◌, ℕ, zero, suc, Bool, true, false, not, List, [], Option, Some, length, map, get_or, subst, sym, ◌∙◌, ap, refl, arith}
use Rattle.std.specs.Prelude.{slice_get, slice_index_or, ◌&&◌, if◌then◌else◌}
use Rattle.std.specs.List.{All, list_any, flat_map, enumerate_from}
use Rattle.std.proofs.lemmas.Option.{slice_get-get_or}
use Rattle.std.proofs.lemmas.List.{get_or-map}
use Rattle.std.proofs.lemmas.List.Elements.{All-head, All-tail}
use Rattle.dai_model.specs.Protocol.{Protocol, Relation}
use Rattle.dai_model.specs.Structure.{is_tuple, is_tuple_for}
use Rattle.dai_model.specs.WellSorted.{IsProtocol}
use Rattle.dai_model.specs.Placement.{ArePlacements}
use Rattle.dai_model.specs.Clause.{Atom, tuple, no_atom, variables_of, choose_each, relation_atoms, individual_atoms, atoms_of, literal_among, literal_value, clause_value, atom_number, is_negated, Meets}
use Rattle.dai_model.specs.Template.{Bounds}
use Rattle.dai_model.proofs.Below.{half_below}
use Rattle.dai_logic.specs.Tables.{bit_in, tuple_place}
use Rattle.dai_template.specs.declared.clause.Clause.{Clause}
use Rattle.dai_template.specs.declared.space.Space.{Space}
use Rattle.dai_template.specs.Spaces.{IsClauseOf, clause_of}
use Rattle.dai_table.specs.Flags.{IsTableOf, IsWithin, alone, state, holds_in}
use Rattle.dai_table.proofs.Fitting.{no_sorts, no_individuals}
use Rattle.dai_table.proofs.Valued.{append_nil}

-- the atoms of flags
abbrev tuples_from : ℕ → ℕ → List Atom
tuples_from n zero = []
tuples_from n (suc k) = tuple n [] ∷ tuples_from (n + 1) k

tuples_long : (n k : ℕ) → length (tuples_from n k) ≡ k
tuples_long n zero = refl
tuples_long n (suc k) = ap suc (tuples_long (n + 1) k)

tuples_at : (n k i : ℕ) (d : Atom) → i < k → get_or (tuples_from n k) i d ≡ tuple (n + i) []
tuples_at n zero i d below = absurd (omega (arith, below))
tuples_at n (suc k) zero d below = let e : n ≡ n + 0 = omega arith in ap (λ m. tuple m []) e
tuples_at n (suc k) (suc i) d below =
    let e : (n + 1) + i ≡ n + suc i = omega arith in
    tuples_at (n + 1) k i d (omega (arith, below)) ∙ ap (λ m. tuple m []) e

flag_atoms : (n : ℕ) (Rs : List Relation) → ((k : ℕ) (d : Relation) → k < length Rs → (get_or Rs k d).arguments ≡ []) → flat_map (relation_atoms []) (enumerate_from n Rs) ≡ tuples_from n (length Rs)
flag_atoms n [] none = refl
flag_atoms n (R ∷ Rs) none =
    let own : relation_atoms [] (n, R) ≡ tuple n [] ∷ [] = ap (λ (sorts : List ℕ). map (tuple n) (choose_each (map (variables_of []) sorts))) (none 0 R (omega arith)) in
    ap (λ xs. xs ++ flat_map (relation_atoms []) (enumerate_from (n + 1) Rs)) own ∙ ap (λ xs. tuple n [] ∷ xs) (flag_atoms (n + 1) Rs (λ k d below. none (suc k) d (omega (arith, below))))

module _ (P : Protocol) (protocol : IsProtocol P) (table : IsTableOf P) where
  none : length P.sorts ≡ 0
  none = ap length table.no_types

  no_arguments : (r : ℕ) (d : Relation) → r < length P.relations → (get_or P.relations r d).arguments ≡ []
  no_arguments r d below = no_sorts (length P.sorts) (get_or P.relations r d).arguments none (protocol.relations r d below)

  pub atoms_are : atoms_of P [] ≡ tuples_from 0 (length P.relations)
  atoms_are =
      ap (λ xs. flat_map (relation_atoms []) (enumerate_from 0 P.relations) ++ flat_map (individual_atoms []) (enumerate_from 0 xs)) (no_individuals (length P.sorts) P.individuals none protocol.individuals)
      ∙ append_nil (flat_map (relation_atoms []) (enumerate_from 0 P.relations)) ∙ flag_atoms 0 P.relations no_arguments

  module _ (flags : List Bool) (long : length flags ≡ length P.relations) where
    state_holds : (r : ℕ) → r < length P.relations → (state P flags).holds r [] ≡ slice_index_or flags r false
    state_holds r below =
        let d : Relation = record { name = []; arguments = [] } in
        let R = get_or P.relations r d in
        let values = slice_index_or (map alone flags) r [] in
        let found : slice_get P.relations r ≡ Some R = slice_get-get_or P.relations r d below in
        let bare = no_arguments r d below in
        let single : values ≡ alone (slice_index_or flags r false) = get_or-map alone flags r false [] (let e = long in omega (arith, below, e)) in
        ap (λ (o : Option Relation). is_tuple_for [] o [] && bit_in [] values o []) found ∙ ap (λ (sorts : List ℕ). is_tuple [] sorts [] && slice_index_or values (tuple_place [] sorts []) false) bare ∙ ap (λ (v : List Bool). slice_index_or v 0 false) single

    literal_same : (elements : List (List ℕ)) (l : ℕ) → l < 2 * length P.relations → literal_value (state P flags) elements (literal_among (tuples_from 0 (length P.relations)) l) ≡ holds_in flags l
    literal_same elements l below =
        let half = half_below l (length P.relations) below in
        let r = atom_number l in
        let e : 0 + r ≡ r = omega arith in
        let at : slice_index_or (tuples_from 0 (length P.relations)) r no_atom ≡ tuple r [] = tuples_at 0 (length P.relations) r no_atom half ∙ ap (λ m. tuple m []) e in
        ap (λ (a : Atom). literal_value (state P flags) elements (record { atom = a; negated = is_negated l })) at ∙ ap (λ (b : Bool). if is_negated l then not b else b) (state_holds r half)

    literals_same : (elements : List (List ℕ)) (ls : List ℕ) → All (λ l. l < 2 * length P.relations) ls → list_any (literal_value (state P flags) elements) (map (literal_among (tuples_from 0 (length P.relations))) ls) ≡ list_any (holds_in flags) ls
    literals_same elements [] within = refl
    literals_same elements (l ∷ ls) within =
        ap (λ b. b || list_any (literal_value (state P flags) elements) (map (literal_among (tuples_from 0 (length P.relations))) ls)) (literal_same elements l (All-head (λ m. m < 2 * length P.relations) l ls within))
        ∙ ap (λ b. holds_in flags l || b) (literals_same elements ls (All-tail (λ m. m < 2 * length P.relations) l ls within))

  module _ (B : Bounds) (space : Space) (c : Clause) (is : IsClauseOf P B space c) where
    no_counts : (clause_of space c).counts ≡ []
    no_counts = empty (clause_of space c).counts (is.template.one_count_each ∙ none)
      where
        empty : (xs : List ℕ) → length xs ≡ 0 → xs ≡ []
        empty [] e = refl
        empty (x ∷ xs) e = absurd (omega (arith, e))

    pub within : (n : ℕ) → n ≡ length P.relations → IsWithin n c
    within n same = subst (λ m. IsWithin m c) (tuples_long 0 (length P.relations) ∙ sym same) (subst (λ xs. All (λ l. l < 2 * length xs) c.lits.items) (ap (atoms_of P) no_counts ∙ atoms_are) is.template.of_the_shape)

    value_same : (flags : List Bool) → length flags ≡ length P.relations → (elements : List (List ℕ)) → clause_value P (state P flags) (clause_of space c) elements ≡ list_any (holds_in flags) c.lits.items
    value_same flags long elements =
        ap (λ xs. list_any (literal_value (state P flags) elements) (map (literal_among xs) c.lits.items)) (ap (atoms_of P) no_counts ∙ atoms_are) ∙ literals_same flags long elements c.lits.items (within (length P.relations) refl)

    pub met : (flags : List Bool) → length flags ≡ length P.relations → (list_any (holds_in flags) c.lits.items ≡ true) ↔ Meets P (state P flags) (clause_of space c)
    met flags long = (λ some elements places. value_same flags long elements ∙ some, λ all. sym (value_same flags long []) ∙ all [] placed)
      where
        placed : ArePlacements P (clause_of space c).counts (state P flags).sizes []
        placed = record { one_list_each = sym none; each = λ sort T found. absurd (let e = sym (ap (λ sorts. slice_get sorts sort) table.no_types) ∙ found in let z : ⊥ = cc in z) }
