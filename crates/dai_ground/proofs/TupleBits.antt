-- The bit of a tuple of terms has the value of the relation there.
use Rattle.std.proofs.Common.{◌≡◌, ◌+◌, ◌*◌, ◌<◌, ◌≤◌, ◌^◌, ℕ, zero, suc, Bool, List, [], ◌∷◌, ◌++◌, length, get_or, take, map, refl, ap, sym, ◌∙◌, subst, arith, Some, slice_get, Result, Vec, Global, rules, lit<, ◌⊎◌, inl, inr}
use Rattle.std.specs.List.{All, AllZip}
use Rattle.std.proofs.lemmas.Bool.{cases_lt}
use Rattle.std.proofs.lemmas.List.{get_or-take, get_or-map, get_or_append_left, get_or_push, length-map, length_push, length-take-le, map-append}
use Rattle.std.proofs.lemmas.Option.{get_or_from_slice_get, same_Some}
use Rattle.dai_base.specs.declared.memory.Spent.{Spent}
use Rattle.dai_model.specs.Protocol.{Protocol, Relation}
use Rattle.dai_model.specs.Formula.{Term, variable, relates}
use Rattle.dai_model.specs.Structure.{Structure}
use Rattle.dai_model.specs.Value.{value_of_term}
use Rattle.dai_model.specs.WellSorted.{Scope, HaveSorts, sort_of}
use Rattle.dai_model.proofs.Typed.{slice_get-length}
use Rattle.dai_logic.specs.Counts.{tuple_count, tuple_place}
use Rattle.dai_logic.specs.Protocols.{arguments_in}
use Rattle.dai_logic.proofs.Tuples.{terms_tuple, sort_at}
use Rattle.dai_trail.specs.Formula as Clauses
use Rattle.dai_circuit.specs.declared.bit.Bit.{Bit}
use Rattle.dai_circuit.specs.Circuits.{bit_value}
use Rattle.dai_picture.specs.declared.picture.Frame.{Frame}
use Rattle.dai_picture.specs.declared.picture.Picture.{Picture}
use Rattle.dai_picture.specs.Pictures.{rows_of, row_at, bit_at, IsPicture}
use Rattle.dai_ground.specs.declared.candidates.Candidate.{Candidate}
use Rattle.dai_ground.specs.Grounding.{IsTermIn, AreTermsIn, IsFormulaIn, AreCandidates, IsValue, Grounds, Sees, StandFor, environment}
use Rattle.dai_ground.specs.Atoms.{AreColumns, IsColumn, IsLookup, IsLookedUp, StandForEach, columns_of}
use Rattle.dai_ground.specs.Findings.{Finds}
use Rattle.dai_ground.proofs.Findings.{finds_other}
use Rattle.dai_ground.proofs.Placed.{row_long, row_below, many_rows}

pub term_in : (P : Protocol) (frame : Frame) (picture : Picture) (count : ℕ) (binding : List ℕ) (ts : List Term) (sorts : List ℕ) (k : ℕ) (d : Term) → AreTermsIn P frame picture count binding ts sorts → k < length ts → IsTermIn P frame picture count binding (get_or ts k d) (get_or sorts k 0)
term_in P frame picture count binding ts sorts k d h below = record { scope = h.scope; placed = h.placed; sorted = sort_at P h.scope ts sorts k d h.sorted below }

pub no_column : (P : Protocol) (frame : Frame) (picture : Picture) (count : ℕ) (binding : List ℕ) (sorts : List ℕ) → AreColumns P frame picture count binding [] sorts []
no_column P frame picture count binding sorts = record { one_each = refl; candidates = λ k l. absurd (omega arith) }

pub column_more : (P : Protocol) (frame : Frame) (picture : Picture) (count : ℕ) (binding : List ℕ) (ts : List Term) (sorts : List ℕ) (columns : List (List Candidate)) (column : List Candidate) (i : ℕ) → i < length ts → AreColumns P frame picture count binding (take i ts) sorts columns → AreCandidates P frame picture count binding (get_or ts i (variable 0)) (get_or sorts i 0) column → AreColumns P frame picture count binding (take (i + 1) ts) sorts (columns ++ column ∷ [])
column_more P frame picture count binding ts sorts columns column i below h c =
    let long : length (take (i + 1) ts) ≡ i + 1 = length-take-le (i + 1) ts (omega arith) in
    let before : length (take i ts) ≡ i = length-take-le i ts (omega arith) in
    let many = length_push columns column in
    let one = h.one_each in
    record {
      one_each = omega arith;
      candidates = λ k l. by_cases k (let e = long in omega arith) before one (cases_lt k i);
    }
  where
    by_cases : (k : ℕ) → k < i + 1 → length (take i ts) ≡ i → length columns ≡ length (take i ts) → (k < i) ⊎ (i ≤ k) → AreCandidates P frame picture count binding (get_or (take (i + 1) ts) k (variable 0)) (get_or sorts k 0) (get_or (columns ++ column ∷ []) k [])
    by_cases k l before one (inl low) =
        let old = subst (λ t. AreCandidates P frame picture count binding t (get_or sorts k 0) (get_or columns k [])) (get_or-take i ts k (variable 0) low ∙ sym (get_or-take (i + 1) ts k (variable 0) l)) (h.candidates k (omega arith)) in
        subst (λ col. AreCandidates P frame picture count binding (get_or (take (i + 1) ts) k (variable 0)) (get_or sorts k 0) col) (sym (get_or_append_left columns (column ∷ []) [] k (omega arith))) old
    by_cases k l before one (inr high) =
        let at : i ≡ k = omega arith in
        let same = subst (λ j. AreCandidates P frame picture count binding (get_or ts j (variable 0)) (get_or sorts j 0) column) at c in
        let there = subst (λ t. AreCandidates P frame picture count binding t (get_or sorts k 0) column) (sym (get_or-take (i + 1) ts k (variable 0) l)) same in
        subst (λ col. AreCandidates P frame picture count binding (get_or (take (i + 1) ts) k (variable 0)) (get_or sorts k 0) col) (sym (get_or_push columns column [] k (omega arith))) there

pub columns-push : (columns : List (Vec Candidate Global)) (column : Vec Candidate Global) → columns_of (columns ++ column ∷ []) ≡ columns_of columns ++ column.items ∷ []
columns-push columns column = map-append (λ (c : Vec Candidate Global). c.items) columns (column ∷ [])

-- place by place, from places
zip_from : {A B : Type 0} (R : A → B → Type 0) (xs : List A) (ys : List B) (d : A) (e : B) → length xs ≡ length ys → ((k : ℕ) → k < length xs → R (get_or xs k d) (get_or ys k e)) → AllZip R xs ys
zip_from R [] [] d e long each = tt
zip_from R [] (y ∷ ys) d e long each = absurd (omega arith)
zip_from R (x ∷ xs) [] d e long each = absurd (omega arith)
zip_from R (x ∷ xs) (y ∷ ys) d e long each = (each 0 (omega arith), zip_from R xs ys d e (omega arith) (λ k l. each (suc k) (omega arith)))

sorts_long : (P : Protocol) (scope : Scope) (ts : List Term) (sorts : List ℕ) → HaveSorts P scope ts sorts → length ts ≡ length sorts
sorts_long P scope ts sorts h = sym (length-map ts (sort_of P scope)) ∙ (ap length h ∙ length-map sorts Some)

-- the relation that a formula names, with its terms
pub record AreTerms (P : Protocol) (frame : Frame) (picture : Picture) (count : ℕ) (binding : List ℕ) (r : ℕ) (ts : List Term) : Type 0 where
  pub relation : Relation
  pub found : slice_get P.relations r ≡ Some relation
  pub terms : AreTermsIn P frame picture count binding ts relation.arguments

pub terms_of : (P : Protocol) (frame : Frame) (picture : Picture) (count : ℕ) (binding : List ℕ) (r : ℕ) (ts : List Term) → IsFormulaIn P frame picture count binding (relates r ts) → AreTerms P frame picture count binding r ts
terms_of P frame picture count binding r ts h = record { relation = h.sorted.0; found = h.sorted.1; terms = record { scope = h.scope; placed = h.placed; sorted = h.sorted.2 } }

table_long : (P : Protocol) (slots : List ℕ) (count : ℕ) (picture : Picture) (r : ℕ) (R : Relation) → IsPicture P slots count picture → slice_get P.relations r ≡ Some R → length (row_at (rows_of picture.tables) r) ≡ tuple_count slots R.arguments
table_long P slots count picture r R drawn found =
    let below = slice_get-length P.relations r R found in
    row_long count _ (rows_of picture.tables) r drawn.tables
    ∙ (sym (ap (λ n. n) (sym (get_or-map (tuple_count slots) (arguments_in P) r [] 0 (let e = length-map P.relations (λ (Q : Relation). Q.arguments) in omega arith))))
    ∙ ap (tuple_count slots) (get_or-map (λ (Q : Relation). Q.arguments) P.relations r R [] below ∙ ap (λ (Q : Relation). Q.arguments) (get_or_from_slice_get P.relations r R R found)))

pub table_known : (P : Protocol) (slots : List ℕ) (count : ℕ) (picture : Picture) (r : ℕ) (R : Relation) → IsPicture P slots count picture → slice_get P.relations r ≡ Some R → r < length (rows_of picture.tables)
table_known P slots count picture r R drawn found =
    let below = slice_get-length P.relations r R found in
    let e = many_rows count _ (rows_of picture.tables) drawn.tables in
    let f = length-map P.relations (λ (Q : Relation). Q.arguments) in
    let g = length-map (arguments_in P) (tuple_count slots) in
    omega arith

pub lookup_of : (P : Protocol) (frame : Frame) (picture : Picture) (count : ℕ) (binding : List ℕ) (r : ℕ) (ts : List Term) (columns : List (List Candidate)) (t : AreTerms P frame picture count binding r ts) → All (λ sort. sort < length P.sorts) t.relation.arguments → AreColumns P frame picture count binding ts t.relation.arguments columns → length (row_at (rows_of picture.tables) r) < 2 ^ 64 → IsLookup count frame.slots.items t.relation.arguments (row_at (rows_of picture.tables) r) columns 0
lookup_of P frame picture count binding r ts columns t known cols short =
    let drawn = t.terms.placed.drawn in
    let sorts = t.relation.arguments in
    let long = sorts_long P t.terms.scope ts sorts t.terms.sorted in
    let table = table_long P frame.slots.items count picture r t.relation t.terms.placed.pictured t.found in
    record {
      known = λ k d l. subst (λ n. get_or sorts k d < n) (sym drawn.one_each) (known k d l);
      inhabited = drawn.inhabited;
      each = zip_from (IsColumn count frame.slots.items) sorts columns 0 [] (let e = cols.one_each in omega arith) (λ k l. let c = cols.candidates k (omega arith) in record { inside = c.slots; over = c.below });
      over = row_below count _ (rows_of picture.tables) r t.terms.placed.pictured.tables;
      room = omega arith;
      short = short;
    }

stand_each : (P : Protocol) (frame : Frame) (picture : Picture) (count : ℕ) (binding : List ℕ) (ts : List Term) (sorts : List ℕ) (columns : List (List Candidate)) (bits : List Bool) (scope : Scope) (types : List ℕ) (s : Structure) (arguments choices : List ℕ) → AreColumns P frame picture count binding ts sorts columns → HaveSorts P scope ts types → Sees P frame picture bits scope s (environment binding arguments choices) → StandForEach bits columns (map (value_of_term s (environment binding arguments choices)) ts)
stand_each P frame picture count binding ts sorts columns bits scope types s arguments choices cols sorted sees =
    let env = environment binding arguments choices in
    let long = length-map ts (value_of_term s env) in
    let one = cols.one_each in
    zip_from (StandFor bits) columns (map (value_of_term s env) ts) [] 0 (omega arith)
    (λ k l.
    let below : k < length ts = omega arith in
    let c = (cols.candidates k below).stand bits scope (get_or types k 0) s arguments choices (sort_at P scope ts types k (variable 0) sorted below) sees in
    subst (StandFor bits (get_or columns k [])) (sym (get_or-map (value_of_term s env) ts k (variable 0) 0 below)) c)

pub relates_grounds : (P : Protocol) (frame : Frame) (picture : Picture) (count : ℕ) (binding : List ℕ) (r : ℕ) (ts : List Term) (columns : List (List Candidate)) (f g : Clauses.Formula) (result : Result Bit Spent) (t : AreTerms P frame picture count binding r ts) → AreColumns P frame picture count binding ts t.relation.arguments columns → Finds (IsLookedUp frame.slots.items t.relation.arguments (row_at (rows_of picture.tables) r) columns 0) f g result → Grounds P frame picture binding (relates r ts) f g result
relates_grounds P frame picture count binding r ts columns f g result t cols h =
    let slots = frame.slots.items in
    let table = row_at (rows_of picture.tables) r in
    finds_other (IsLookedUp slots t.relation.arguments table columns 0) (IsValue P frame picture binding (relates r ts)) f g result
    (λ bits value is.
    let env = environment binding is.arguments is.choices in
    let es = map (value_of_term is.structure env) ts in
    let same : is.sorted.0 ≡ t.relation = same_Some is.sorted.0 t.relation (sym is.sorted.1 ∙ t.found) in
    let sorted : HaveSorts P is.scope ts t.relation.arguments = subst (λ (R : Relation). HaveSorts P is.scope ts R.arguments) same is.sorted.2 in
    let tuple = terms_tuple P is.scope is.structure env ts t.relation.arguments is.sees.shows.structure is.sees.fits sorted in
    let at = is.sees.shows.relations r t.relation es t.found (search (rules, tuple)) in
    record {
      elements = es;
      stand = stand_each P frame picture count binding ts t.relation.arguments columns bits is.scope t.relation.arguments is.structure is.arguments is.choices cols sorted is.sees;
      is = is.is ∙ (sym at ∙ ap (λ n. bit_value bits (bit_at table n)) (let e : tuple_place slots t.relation.arguments es ≡ 0 * tuple_count slots t.relation.arguments + tuple_place slots t.relation.arguments es = omega arith in e));
    })
    h

-- each row is as long as memory allows
pub table_short : (rows : Vec (Vec Bit Global) Global) (r : ℕ) → length (row_at (rows_of rows) r) < 2 ^ 64
table_short rows r = bound_in rows.items r
  where
    bound_in : (rs : List (Vec Bit Global)) (r : ℕ) → length (get_or (map (λ (row : Vec Bit Global). row.items) rs) r []) < 2 ^ 64
    bound_in [] r = lit< tt
    bound_in (row ∷ rs) zero = let long = row.ok.0 in let few = row.small in omega arith
    bound_in (row ∷ rs) (suc r) = bound_in rs r
