-- States of flags as structures.
use Rattle.std.proofs.Common.{◌≡◌, ◌++◌, ◌∷◌, ◌<◌, ◌+◌, ℕ, Bool, false, List, [], length, get_or, drop, map, Some, Vec, sym, ◌∙◌, ap, subst, refl, arith, append_assoc}
use Rattle.std.specs.declared.alloc.Global.{Global}
use Rattle.std.specs.Prelude.{slice_get, slice_index_or}
use Rattle.std.specs.List.{All}
use Rattle.std.proofs.lemmas.List.{length-map, get_or-map, map-append, drop_more}
use Rattle.std.proofs.lemmas.Option.{slice_get-get_or, slice_get_within, get_or_from_slice_get}
use Rattle.dai_model.specs.Protocol.{Protocol, Relation}
use Rattle.dai_logic.specs.declared.structure.Structure.{Structure}
use Rattle.dai_logic.specs.Tables.{structure_with, structure_of, tables_of, tuple_count}
use Rattle.dai_model.specs.WellSorted.{IsProtocol}
use Rattle.dai_table.specs.Flags.{IsFlags, IsTableOf, alone, state}
use Rattle.dai_table.proofs.Fitting.{no_sorts, no_individuals}

pub append_nil : {X : Type 0} (xs : List X) → xs ++ [] ≡ xs
append_nil [] = refl
append_nil (x ∷ xs) = ap (λ ys. x ∷ ys) (append_nil xs)

abbrev pub items : Vec Bool Global → List Bool
items t = t.items

table_alone : (xs : List Bool) (d : Bool) → length xs ≡ 1 → alone (get_or xs 0 d) ≡ xs
table_alone [] d e = absurd (omega (arith, e))
table_alone (b ∷ []) d e = refl
table_alone (b ∷ c ∷ xs) d e = absurd (omega (arith, e))

-- each table has one value
one_value : (P : Protocol) (s : Structure) → IsFlags P s → (k : ℕ) → k < length (tables_of s) → length (slice_index_or (tables_of s) k []) ≡ 1
one_value P s h k below =
    let many = h.structure.one_table_each in
    let inside : k < length P.relations = omega (arith, below, many) in
    let d : Relation = record { name = []; arguments = [] } in
    let R = get_or P.relations k d in
    let none : length P.sorts ≡ 0 = ap length h.no_types in
    let arguments = no_sorts (length P.sorts) R.arguments none (h.protocol.relations k d inside) in
    let sizes = h.structure.one_size_each in
    h.structure.whole_tables k R (slice_get-get_or P.relations k d inside) ∙ ap (tuple_count s.sizes.items) arguments

pub item_alone : (P : Protocol) (s : Structure) → IsFlags P s → (ts : List (Vec Bool Global)) → ts ≡ s.tables.items → (i : ℕ) (t : Vec Bool Global) → i < length ts → t ≡ get_or ts i t → length t.items ≡ 1
item_alone P s h ts same i t below is =
    let long = length-map s.tables.items items in
    let as_many = ap length same in
    let inside : i < length s.tables.items = omega (arith, below, as_many) in
    let found : slice_index_or (tables_of s) i [] ≡ t.items = get_or-map items s.tables.items i t [] inside ∙ ap (λ xs. items (get_or xs i t)) (sym same) ∙ ap items (sym is) in
    ap length (sym found) ∙ one_value P s h i (omega (arith, inside, long))

pub value_alone : (t : Vec Bool Global) (b : Bool) → length t.items ≡ 1 → b ≡ slice_index_or t.items 0 b → alone b ≡ t.items
value_alone t b one is = ap alone is ∙ table_alone t.items b one

pub next_flag : (flags : List Bool) (ts : List (Vec Bool Global)) (i : ℕ) (t : Vec Bool Global) (b : Bool) → i < length ts → t ≡ get_or ts i t → alone b ≡ t.items
    → map alone (flags ++ b ∷ []) ++ map items (drop (i + 1) ts) ≡ map alone flags ++ map items (drop i ts)
next_flag flags ts i t b below is same =
    let front : map alone (flags ++ b ∷ []) ≡ map alone flags ++ t.items ∷ [] = map-append alone flags (b ∷ []) ∙ ap (λ x. map alone flags ++ x ∷ []) same in
    let at : drop i ts ≡ t ∷ drop (i + 1) ts = drop_more ts i t below ∙ ap (λ u. u ∷ drop (i + 1) ts) (sym is) in
    ap (λ xs. xs ++ map items (drop (i + 1) ts)) front ∙ append_assoc (map alone flags) (t.items ∷ []) (map items (drop (i + 1) ts)) ∙ ap (λ xs. map alone flags ++ map items xs) (sym at)

-- the state that the tables give
pub state_is : (P : Protocol) (s : Structure) (flags : List Bool) → IsFlags P s → map alone flags ≡ tables_of s → state P flags ≡ structure_of P s
state_is P s flags h same =
    let no_sizes : s.sizes.items ≡ [] = none s.sizes.items (let e = h.structure.one_size_each in let f = ap length h.no_types in omega (arith, e, f)) in
    let no_individuals : s.values.items ≡ [] = none s.values.items (let e = h.structure.one_value_each in let f = ap length (no_individuals (length P.sorts) P.individuals (ap length h.no_types) h.protocol.individuals) in omega (arith, e, f)) in
    λ i. structure_with P (sym no_sizes i) (same i) (sym no_individuals i)
  where
    none : {X : Type 0} (xs : List X) → length xs ≡ 0 → xs ≡ []
    none [] e = refl
    none (x ∷ xs) e = absurd (omega (arith, e))

-- a structure with these tables is one of the protocol
module _ (P : Protocol) (s : Structure) (flags : List Bool) (protocol : IsProtocol P) (table : IsTableOf P) (long : length flags ≡ length P.relations)
    (sizes : s.sizes.items ≡ []) (tables : tables_of s ≡ map alone flags) (values : s.values.items ≡ []) where
  none : length P.sorts ≡ 0
  none = ap length table.no_types

  individuals : P.individuals ≡ []
  individuals = no_individuals (length P.sorts) P.individuals none protocol.individuals

  whole : (r : ℕ) (R : Relation) → slice_get P.relations r ≡ Some R → length (slice_index_or (tables_of s) r []) ≡ tuple_count s.sizes.items R.arguments
  whole r R found =
      let below = slice_get_within P.relations r R found in
      let same = get_or_from_slice_get P.relations r R R found in
      let arguments = no_sorts (length P.sorts) R.arguments none (subst (λ (Q : Relation). All (λ sort. sort < length P.sorts) Q.arguments) same (protocol.relations r R below)) in
      let one : length (slice_index_or (tables_of s) r []) ≡ 1 = ap (λ ts. length (slice_index_or ts r [])) tables ∙ ap length (get_or-map alone flags r false [] (omega (arith, below, long))) in
      one ∙ ap (tuple_count s.sizes.items) (sym arguments)

  pub structure_is : structure_of P s ≡ state P flags
  structure_is = λ i. structure_with P (sizes i) (tables i) (values i)

  pub structure_fits : IsFlags P s
  structure_fits = record {
    protocol = protocol;
    no_types = table.no_types;
    structure = record {
      one_size_each = ap length sizes ∙ sym none;
      inhabited = λ k d below. absurd (let e = ap length sizes in omega (arith, e, below));
      one_table_each = ap length tables ∙ length-map flags alone ∙ long;
      whole_tables = whole;
      one_value_each = (let e = ap length values in let f = ap length individuals in omega (arith, e, f));
      values_inside = λ i I found. absurd (let below = slice_get_within P.individuals i I found in let f = ap length individuals in omega (arith, below, f));
    };
  }
