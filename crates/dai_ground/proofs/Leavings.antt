-- What statements leave in a picture, from what their parts give.
use Rattle.std.proofs.Common.{◌≡◌, ◌≢◌, ◌<◌, ◌≤◌, ◌&&◌, ℕ, zero, suc, Bool, true, false, List, [], ◌∷◌, length, get_or, set, map, refl, ap, sym, ◌∙◌, subst, arith, Option, Some, None, ◌⊎◌, inl, inr, get_or-set_same, get_or-set_other}
use Rattle.std.specs.Prelude.{replicate, nat_eq, if◌then◌else◌}
use Rattle.std.specs.Option.{option_and_then}
use Rattle.std.specs.Vec.{with_item}
use Rattle.std.specs.declared.alloc.Global.{Global}
use Rattle.std.specs.Prelude.{Vec}
use Rattle.std.proofs.lemmas.Bool.{cases_lt}
use Rattle.std.proofs.lemmas.Bool.Decides.{nat_tests}
use Rattle.std.proofs.lemmas.List.{get_or-replicate, get_or_past, length-replicate, length-map, map-set, set-get_or}
use Rattle.std.proofs.lemmas.List.Elements.{All-set}
use Rattle.dai_model.specs.Protocol.{Protocol, Individual}
use Rattle.dai_model.specs.Structure.{Structure}
use Rattle.dai_model.specs.Formula.{Term, variable, individual, parameter, choice, Formula, requirement, update_individual, conditional, Statement, Statements, no_statements, with_statement}
use Rattle.dai_model.specs.Value.{Environment, environment_of, value_of, value_of_term}
use Rattle.dai_model.specs.Execution.{after_statement, after_statements, after_individual}
use Rattle.dai_model.specs.WellSorted.{Scope, HasSort, IsWellSorted, IsWellSortedStatement}
use Rattle.dai_model.proofs.Typed.{slice_get-length, statement_structure}
use Rattle.dai_trail.specs.Formula as Clauses
use Rattle.dai_trail.specs.Formula.{AreMetBy}
use Rattle.dai_circuit.specs.declared.bit.Bit.{Bit}
use Rattle.dai_circuit.specs.Circuits.{bit_value, IsBitBelow, AreBitsBelow, Extends, IsBitFor, all_value}
use Rattle.dai_logic.specs.Counts.{tuple_place}
use Rattle.dai_picture.specs.declared.picture.Frame.{Frame}
use Rattle.dai_picture.specs.declared.picture.Picture.{Picture}
use Rattle.dai_picture.specs.Pictures.{AreRows, IsFrame, IsPicture, Marks, rows_of, row_at, bit_at, slots_of_each}
use Rattle.dai_ground.specs.Grounding.{environment, IsPlaced, Sees, IsValue}
use Rattle.dai_ground.specs.Findings.{HasValue}
use Rattle.dai_ground.specs.Choosing.{choice_value, row_values, IsChosenPicture, IsCopy, AreAlike}
use Rattle.dai_ground.specs.Leaving.{no_binding, IsFree, IsCodeIn, IsStatementIn, SeesOutcome, LeavesCode, LeavesStatement, standing, IsFixed, IsFixedIn}
use Rattle.dai_ground.proofs.Findings.{extends_after, all_below_more}
use Rattle.dai_ground.proofs.PlacedRows.{row_long, row_below, many_rows, slots_at, individual_of_sort, individual_row}

zeros_at : (n v : ℕ) → (v < n) ⊎ (n ≤ v) → get_or (replicate {A = ℕ} n 0) v 0 ≡ 0
zeros_at n v (inl below) = get_or-replicate n v 0 0 below
zeros_at n v (inr past) = get_or_past (replicate {A = ℕ} n 0) v 0 (let e = length-replicate {A = ℕ} n 0 in omega arith)

-- where no variable is bound, the environment is that of a block
pub alone : (arguments choices : List ℕ) → environment no_binding arguments choices ≡ environment_of arguments choices
alone arguments choices = λ i. record { variables = λ v. zeros_at 256 v (cases_lt v 256) i; parameters = arguments; choices = choices }

pub alone_sees : (P : Protocol) (frame : Frame) (picture : Picture) (bits : List Bool) (scope : Scope) (s : Structure) (arguments choices : List ℕ) → Sees P frame picture bits scope s (environment_of arguments choices) → Sees P frame picture bits scope s (environment no_binding arguments choices)
alone_sees P frame picture bits scope s arguments choices sees = subst (Sees P frame picture bits scope s) (sym (alone arguments choices)) sees

pub rows_kept : (m n : ℕ) (lengths : List ℕ) (rows : List (List Bit)) → m ≤ n → AreRows m lengths rows → AreRows n lengths rows
rows_kept m n lengths rows le are = record { long = are.long; below = λ k d l. all_below_more m n _ le (are.below k d l) }

pub picture_kept : (P : Protocol) (slots : List ℕ) (m n : ℕ) (picture : Picture) → m ≤ n → IsPicture P slots m picture → IsPicture P slots n picture
picture_kept P slots m n picture le is = record { tables = rows_kept m n _ _ le is.tables; values = rows_kept m n _ _ le is.values }

frame_kept : (P : Protocol) (parameters choices : List ℕ) (m n : ℕ) (frame : Frame) → m ≤ n → IsFrame P parameters choices m frame → IsFrame P parameters choices n frame
frame_kept P parameters choices m n frame le is = record {
  one_each = is.one_each;
  inhabited = is.inhabited;
  used = rows_kept m n _ _ le is.used;
  named = rows_kept m n _ _ le is.named;
  chosen = rows_kept m n _ _ le is.chosen;
}

pub placed_kept : (P : Protocol) (frame : Frame) (picture other : Picture) (m n : ℕ) (binding : List ℕ) (scope : Scope) → m ≤ n → IsPicture P frame.slots.items n other → IsPlaced P frame picture m binding scope → IsPlaced P frame other n binding scope
placed_kept P frame picture other m n binding scope le is placed = record {
  parameters = placed.parameters;
  choices = placed.choices;
  drawn = frame_kept P placed.parameters placed.choices m n frame le placed.drawn;
  pictured = is;
  named = placed.named;
  chosen = placed.chosen;
  bound = placed.bound;
}

-- the value of a bit in rows
value_at : (bits : List Bool) (row : List Bit) (place : ℕ) → bit_value bits (bit_at row place) ≡ get_or (row_values bits row) place false
value_at bits [] place = refl
value_at bits (b ∷ row) zero = refl
value_at bits (b ∷ row) (suc k) = value_at bits row k

values_at : (bits : List Bool) (rows : List (List Bit)) (k : ℕ) → row_values bits (row_at rows k) ≡ get_or (map (row_values bits) rows) k []
values_at bits [] k = refl
values_at bits (r ∷ rows) zero = refl
values_at bits (r ∷ rows) (suc k) = values_at bits rows k

same_values : (bits : List Bool) (rows others : List (List Bit)) (k : ℕ) → map (row_values bits) rows ≡ map (row_values bits) others → row_values bits (row_at rows k) ≡ row_values bits (row_at others k)
same_values bits rows others k e = values_at bits rows k ∙ (ap (λ (vs : List (List Bool)). get_or vs k []) e ∙ sym (values_at bits others k))

same_bit : (bits : List Bool) (row other : List Bit) (place : ℕ) → row_values bits row ≡ row_values bits other → bit_value bits (bit_at row place) ≡ bit_value bits (bit_at other place)
same_bit bits row other place e = value_at bits row place ∙ (ap (λ vs. get_or vs place false) e ∙ sym (value_at bits other place))

same_length : (bits : List Bool) (row other : List Bit) → row_values bits row ≡ row_values bits other → length row ≡ length other
same_length bits row other e = sym (length-map row (bit_value bits)) ∙ (ap length e ∙ length-map other (bit_value bits))

marks_same : (bits : List Bool) (row other : List Bit) (e : ℕ) → row_values bits row ≡ row_values bits other → Marks bits row e → Marks bits other e
marks_same bits row other e same m =
    let long = same_length bits row other same in
    record {
      inside = let i = m.inside in omega arith;
      marks = λ slot l. sym (same_bit bits row other slot same) ∙ m.marks slot (omega arith);
    }

-- a picture with the same values shows the same
pub sees_same : (P : Protocol) (frame : Frame) (picture other : Picture) (bits : List Bool) (scope : Scope) (s : Structure) (env : Environment) → map (row_values bits) (rows_of picture.tables) ≡ map (row_values bits) (rows_of other.tables) → map (row_values bits) (rows_of picture.values) ≡ map (row_values bits) (rows_of other.values) → Sees P frame picture bits scope s env → Sees P frame other bits scope s env
sees_same P frame picture other bits scope s env tables values sees = record {
  shows = record {
    structure = sees.shows.structure;
    sizes = sees.shows.sizes;
    relations = λ r R es found tuple. sym (same_bit bits _ _ _ (same_values bits (rows_of picture.tables) (rows_of other.tables) r tables)) ∙ sees.shows.relations r R es found tuple;
    individuals = λ i l. marks_same bits _ _ _ (same_values bits (rows_of picture.values) (rows_of other.values) i values) (sees.shows.individuals i l);
  };
  parameters = sees.parameters;
  choices = sees.choices;
  fits = sees.fits;
}

pub outcome_same : (P : Protocol) (frame : Frame) (picture other : Picture) (ok also : Bit) (bits : List Bool) (scope : Scope) (arguments choices : List ℕ) (outcome : Option Structure) → map (row_values bits) (rows_of picture.tables) ≡ map (row_values bits) (rows_of other.tables) → map (row_values bits) (rows_of picture.values) ≡ map (row_values bits) (rows_of other.values) → bit_value bits also ≡ bit_value bits ok → SeesOutcome P frame picture ok bits scope arguments choices outcome → SeesOutcome P frame other also bits scope arguments choices outcome
outcome_same P frame picture other ok also bits scope arguments choices None tables values e sees = e ∙ sees
outcome_same P frame picture other ok also bits scope arguments choices (Some s) tables values e sees = (e ∙ sees.0, sees_same P frame picture other bits scope s (environment_of arguments choices) tables values sees.1)

-- statements one after another
pub code_first : (P : Protocol) (frame : Frame) (picture : Picture) (count : ℕ) (all : Statements) (c : Statement) (cs : Statements) → all ≡ with_statement c cs → IsCodeIn P frame picture count all → IsStatementIn P frame picture count c
code_first P frame picture count all c cs e h =
    let k : IsCodeIn P frame picture count (with_statement c cs) = subst (IsCodeIn P frame picture count) e h in
    record { scope = k.scope; free = k.free; placed = k.placed; sorted = k.sorted.0 }

pub code_rest : (P : Protocol) (frame : Frame) (picture other : Picture) (m n : ℕ) (all : Statements) (c : Statement) (cs : Statements) → all ≡ with_statement c cs → m ≤ n → IsPicture P frame.slots.items n other → IsCodeIn P frame picture m all → IsCodeIn P frame other n cs
code_rest P frame picture other m n all c cs e le is h =
    let k : IsCodeIn P frame picture m (with_statement c cs) = subst (IsCodeIn P frame picture m) e h in
    record { scope = k.scope; free = k.free; placed = placed_kept P frame picture other m n no_binding k.scope le is k.placed; sorted = k.sorted.1 }

pub left_none : (P : Protocol) (frame : Frame) (picture : Picture) (ok : Bit) (f : Clauses.Formula) → IsBitBelow f.vars ok → IsPicture P frame.slots.items f.vars picture → LeavesCode P frame no_statements picture ok f picture ok
left_none P frame picture ok f below is = record {
  below = below;
  pictured = is;
  shows = λ bits scope arguments choices outcome met free sorted sees. by_outcome bits scope arguments choices outcome sees;
}
  where
    by_outcome : (bits : List Bool) (scope : Scope) (arguments choices : List ℕ) (outcome : Option Structure) → SeesOutcome P frame picture ok bits scope arguments choices outcome → SeesOutcome P frame picture ok bits scope arguments choices (option_and_then (after_statements P (environment_of arguments choices) no_statements) outcome)
    by_outcome bits scope arguments choices None sees = sees
    by_outcome bits scope arguments choices (Some s) sees = sees

pub left_more : (P : Protocol) (frame : Frame) (all : Statements) (c : Statement) (cs : Statements) (old mid new : Picture) (ok between answer : Bit) (f g : Clauses.Formula) → all ≡ with_statement c cs → Extends f g → LeavesStatement P frame c old ok f mid between → LeavesCode P frame cs mid between g new answer → LeavesCode P frame all old ok g new answer
left_more P frame all c cs old mid new ok between answer f g is e first second =
    subst (λ ds. LeavesCode P frame ds old ok g new answer) (sym is) (record {
      below = second.below;
      pictured = second.pictured;
      shows = λ bits scope arguments choices outcome met free sorted sees.
          by_outcome bits scope arguments choices outcome
          (second.shows bits scope arguments choices _ met free sorted.1 (first.shows bits scope arguments choices outcome (e.keeps bits met) free sorted.0 sees));
    })
  where
    by_outcome : (bits : List Bool) (scope : Scope) (arguments choices : List ℕ) (outcome : Option Structure) → SeesOutcome P frame new answer bits scope arguments choices (option_and_then (after_statements P (environment_of arguments choices) cs) (option_and_then (after_statement P (environment_of arguments choices) c) outcome)) → SeesOutcome P frame new answer bits scope arguments choices (option_and_then (after_statements P (environment_of arguments choices) (with_statement c cs)) outcome)
    by_outcome bits scope arguments choices None sees = sees
    by_outcome bits scope arguments choices (Some s) sees = sees

and_true : (b : Bool) → (b && true) ≡ b
and_true true = refl
and_true false = refl

-- the value of a formula that stands alone
alone_value : (P : Protocol) (frame : Frame) (picture : Picture) (f : Formula) (clauses : Clauses.Formula) (value : Bit) (bits : List Bool) (scope : Scope) (s : Structure) (arguments choices : List ℕ) → HasValue (IsValue P frame picture no_binding f) clauses value → AreMetBy clauses bits → IsWellSorted P scope f → Sees P frame picture bits scope s (environment_of arguments choices) → bit_value bits value ≡ value_of s (environment_of arguments choices) f
alone_value P frame picture f clauses value bits scope s arguments choices h met sorted sees =
    h.same bits (value_of s (environment_of arguments choices) f) met (record {
      scope = scope;
      structure = s;
      arguments = arguments;
      choices = choices;
      sorted = sorted;
      sees = alone_sees P frame picture bits scope s arguments choices sees;
      is = ap (λ env. value_of s env f) (sym (alone arguments choices));
    })

pub requirement_leaves : (P : Protocol) (frame : Frame) (picture : Picture) (f : Formula) (old mid new : Clauses.Formula) (ok value answer : Bit) → IsStatementIn P frame picture old.vars (requirement f) → Extends old mid → HasValue (IsValue P frame picture no_binding f) mid value → Extends mid new → IsBitFor new (all_value (ok ∷ value ∷ [])) answer → LeavesStatement P frame (requirement f) picture ok new picture answer
requirement_leaves P frame picture f old mid new ok value answer st e h g d = record {
  below = d.below;
  pictured = picture_kept P frame.slots.items old.vars new.vars picture (extends_after old mid new e g).grows st.placed.pictured;
  shows = λ bits scope arguments choices outcome met free sorted sees. by_outcome bits scope arguments choices outcome met sorted sees;
}
  where
    required : (bits : List Bool) (scope : Scope) (arguments choices : List ℕ) (s : Structure) (b : Bool) → bit_value bits answer ≡ b → Sees P frame picture bits scope s (environment_of arguments choices) → SeesOutcome P frame picture answer bits scope arguments choices (if b then Some s else None)
    required bits scope arguments choices s true e sees = (e, sees)
    required bits scope arguments choices s false e sees = e

    by_outcome : (bits : List Bool) (scope : Scope) (arguments choices : List ℕ) (outcome : Option Structure) → AreMetBy new bits → IsWellSorted P scope f → SeesOutcome P frame picture ok bits scope arguments choices outcome → SeesOutcome P frame picture answer bits scope arguments choices (option_and_then (after_statement P (environment_of arguments choices) (requirement f)) outcome)
    by_outcome bits scope arguments choices None met sorted sees = d.same bits met ∙ ap (λ v. v && (bit_value bits value && true)) sees
    by_outcome bits scope arguments choices (Some s) met sorted sees =
        let is = alone_value P frame picture f mid value bits scope s arguments choices h (g.keeps bits met) sorted sees.1 in
        required bits scope arguments choices s (value_of s (environment_of arguments choices) f) (d.same bits met ∙ ((λ i. sees.0 i && (is i && true)) ∙ and_true (value_of s (environment_of arguments choices) f))) sees.1

-- a copy
pub chosen_pictured : (P : Protocol) (slots : List ℕ) (condition : Bit) (first second new : Picture) (m : ℕ) (f : Clauses.Formula) → IsPicture P slots m first → IsChosenPicture f condition first second new → IsPicture P slots f.vars new
chosen_pictured P slots condition first second new m f is chosen = record {
  tables = record { long = chosen.tables.long ∙ is.tables.long; below = chosen.tables.below };
  values = record { long = chosen.values.long ∙ is.values.long; below = chosen.values.below };
}

pub rows_alike : (m n : ℕ) (lengths : List ℕ) (first second : List (List Bit)) → m ≤ n → AreRows m lengths first → AreRows n lengths second → AreAlike n first second
rows_alike m n lengths first second le one two = record { long = one.long ∙ sym two.long; first_below = λ k d l. all_below_more m n _ le (one.below k d l); second_below = two.below }

-- what both parts of a conditional leave, merged by its condition
pub record AreParts (P : Protocol) (frame : Frame) (old copied : Picture) (first second : Statements) (ok value : Bit) (one two : Picture) (one_ok two_ok : Bit) (c1 c2 c3 : Clauses.Formula) (f : Formula) : Type 0 where
  pub same_tables : rows_of copied.tables ≡ rows_of old.tables
  pub same_values : rows_of copied.values ≡ rows_of old.values
  pub condition : HasValue (IsValue P frame old no_binding f) c1 value
  pub leaves_one : LeavesCode P frame first old ok c2 one one_ok
  pub leaves_two : LeavesCode P frame second copied ok c3 two two_ok
  pub grows_one : Extends c1 c2
  pub grows_two : Extends c2 c3

pub conditional_leaves : (P : Protocol) (frame : Frame) (old copied : Picture) (first second : Statements) (ok value : Bit) (one two : Picture) (one_ok two_ok : Bit) (c1 c2 c3 : Clauses.Formula) (f : Formula) (new : Picture) (answer : Bit) (c4 c5 : Clauses.Formula) → AreParts P frame old copied first second ok value one two one_ok two_ok c1 c2 c3 f → Extends c3 c4 → IsChosenPicture c4 value one two new → Extends c4 c5 → IsBitFor c5 (choice_value value one_ok two_ok) answer → LeavesStatement P frame (conditional f first second) old ok c5 new answer
conditional_leaves P frame old copied first second ok value one two one_ok two_ok c1 c2 c3 f new answer c4 c5 parts e chosen g d = record {
  below = d.below;
  pictured = picture_kept P frame.slots.items c4.vars c5.vars new g.grows (chosen_pictured P frame.slots.items value one two new c2.vars c4 parts.leaves_one.pictured chosen);
  shows = λ bits scope arguments choices outcome met free sorted sees.
      let met4 = g.keeps bits met in
      let met3 = e.keeps bits met4 in
      let met2 = parts.grows_two.keeps bits met3 in
      let met1 = parts.grows_one.keeps bits met2 in
      by_outcome bits scope arguments choices outcome met met4 met1 sorted.0
      (parts.leaves_one.shows bits scope arguments choices outcome met2 free sorted.1 sees)
      (parts.leaves_two.shows bits scope arguments choices outcome met3 free sorted.2 (outcome_same P frame old copied ok ok bits scope arguments choices outcome (ap (map (row_values bits)) (sym parts.same_tables)) (ap (map (row_values bits)) (sym parts.same_values)) refl sees))
      sees;
}
  where
    none_left : (b : Bool) (x y : Bool) → x ≡ false → y ≡ false → (if b then x else y) ≡ false
    none_left true x y e h = e
    none_left false x y e h = h

    by_value : (bits : List Bool) (scope : Scope) (arguments choices : List ℕ) (b : Bool) (x y : Option Structure) → AreMetBy c5 bits → AreMetBy c4 bits → bit_value bits value ≡ b → SeesOutcome P frame one one_ok bits scope arguments choices x → SeesOutcome P frame two two_ok bits scope arguments choices y → SeesOutcome P frame new answer bits scope arguments choices (if b then x else y)
    by_value bits scope arguments choices true x y met met4 is left right =
        outcome_same P frame one new one_ok answer bits scope arguments choices x
        (sym (chosen.tables.same bits met4 ∙ ap (λ b. if b then map (row_values bits) (rows_of one.tables) else map (row_values bits) (rows_of two.tables)) is))
        (sym (chosen.values.same bits met4 ∙ ap (λ b. if b then map (row_values bits) (rows_of one.values) else map (row_values bits) (rows_of two.values)) is))
        (d.same bits met ∙ ap (λ b. if b then bit_value bits one_ok else bit_value bits two_ok) is)
        left
    by_value bits scope arguments choices false x y met met4 is left right =
        outcome_same P frame two new two_ok answer bits scope arguments choices y
        (sym (chosen.tables.same bits met4 ∙ ap (λ b. if b then map (row_values bits) (rows_of one.tables) else map (row_values bits) (rows_of two.tables)) is))
        (sym (chosen.values.same bits met4 ∙ ap (λ b. if b then map (row_values bits) (rows_of one.values) else map (row_values bits) (rows_of two.values)) is))
        (d.same bits met ∙ ap (λ b. if b then bit_value bits one_ok else bit_value bits two_ok) is)
        right

    by_outcome : (bits : List Bool) (scope : Scope) (arguments choices : List ℕ) (outcome : Option Structure) → AreMetBy c5 bits → AreMetBy c4 bits → AreMetBy c1 bits → IsWellSorted P scope f → SeesOutcome P frame one one_ok bits scope arguments choices (option_and_then (after_statements P (environment_of arguments choices) first) outcome) → SeesOutcome P frame two two_ok bits scope arguments choices (option_and_then (after_statements P (environment_of arguments choices) second) outcome) → SeesOutcome P frame old ok bits scope arguments choices outcome → SeesOutcome P frame new answer bits scope arguments choices (option_and_then (after_statement P (environment_of arguments choices) (conditional f first second)) outcome)
    by_outcome bits scope arguments choices None met met4 met1 sorted left right sees = d.same bits met ∙ none_left (bit_value bits value) (bit_value bits one_ok) (bit_value bits two_ok) left right
    by_outcome bits scope arguments choices (Some s) met met4 met1 sorted left right sees =
        by_value bits scope arguments choices (value_of s (environment_of arguments choices) f) _ _ met met4
        (alone_value P frame old f c1 value bits scope s arguments choices parts.condition met1 sorted sees.1)
        left right

-- the row of what a term stands for
pub record IsStanding (P : Protocol) (frame : Frame) (picture : Picture) (count : ℕ) (t : Term) (sort : ℕ) : Type 0 where
  pub long : length (standing frame picture t) ≡ get_or frame.slots.items sort 0
  pub below : AreBitsBelow count (standing frame picture t)
  pub marks : (bits : List Bool) (scope : Scope) (type : ℕ) (s : Structure) (env : Environment) → HasSort P scope t type → Sees P frame picture bits scope s env → Marks bits (standing frame picture t) (value_of_term s env t)

pub standing_is : (P : Protocol) (frame : Frame) (picture : Picture) (count : ℕ) (binding : List ℕ) (scope : Scope) (t : Term) (sort : ℕ) → IsPlaced P frame picture count binding scope → HasSort P scope t sort → IsFixed t → IsStanding P frame picture count t sort
standing_is P frame picture count binding scope (variable v) sort placed has fixed = absurd (fixed v refl)
standing_is P frame picture count binding scope (individual i) sort placed has fixed =
    let is = individual_of_sort P i sort has in
    record {
      long = individual_row P frame.slots.items count picture i sort placed.pictured is;
      below = row_below count _ (rows_of picture.values) i placed.pictured.values;
      marks = λ bits other type s env h sees. sees.shows.individuals i (slice_get-length P.individuals i is.individual is.found);
    }
standing_is P frame picture count binding scope (parameter p) sort placed has fixed = record {
  long = row_long count _ (rows_of frame.arguments) p placed.drawn.named ∙ slots_at frame.slots.items placed.parameters p sort (placed.named p sort has);
  below = row_below count _ (rows_of frame.arguments) p placed.drawn.named;
  marks = λ bits other type s env h sees. sees.parameters p type h;
}
standing_is P frame picture count binding scope (choice c) sort placed has fixed = record {
  long = row_long count _ (rows_of frame.choices) c placed.drawn.chosen ∙ slots_at frame.slots.items placed.choices c sort (placed.chosen c sort has);
  below = row_below count _ (rows_of frame.choices) c placed.drawn.chosen;
  marks = λ bits other type s env h sees. sees.choices c type h;
}

-- a row among as many
rows_set : (count : ℕ) (lengths : List ℕ) (rows : List (List Bit)) (k : ℕ) (row : List Bit) → length row ≡ get_or lengths k 0 → AreBitsBelow count row → AreRows count lengths rows → AreRows count lengths (set rows k row)
rows_set count lengths rows k row long below are = record {
  long = map-set (λ (r : List Bit). length r) rows k row ∙ (ap (λ ls. set ls k (length row)) are.long ∙ (ap (set lengths k) long ∙ set-get_or lengths k 0));
  below = All-set (AreBitsBelow count) rows k row below are.below;
}

free_fixed : (P : Protocol) (scope : Scope) (t : Term) (sort : ℕ) → IsFree scope → HasSort P scope t sort → IsFixed t
free_fixed P scope (variable w) sort free has v e = absurd (let a = free w in let k : ⊥ = cc in k)
free_fixed P scope (individual i) sort free has v e = absurd (let k : ⊥ = cc in k)
free_fixed P scope (parameter p) sort free has v e = absurd (let k : ⊥ = cc in k)
free_fixed P scope (choice c) sort free has v e = absurd (let k : ⊥ = cc in k)

pub value_term : (P : Protocol) (frame : Frame) (picture : Picture) (count i : ℕ) (t : Term) → (st : IsStatementIn P frame picture count (update_individual i t)) → IsFixedIn P frame picture count t st.sorted.0.sort
value_term P frame picture count i t st = record { binding = no_binding; scope = st.scope; placed = st.placed; sorted = st.sorted.2; fixed = free_fixed P st.scope t st.sorted.0.sort st.free st.sorted.2 }

pub rows_with : (rows : Vec (Vec Bit Global) Global) (k : ℕ) (row : Vec Bit Global) → rows_of (with_item rows k row) ≡ set (rows_of rows) k row.items
rows_with rows k row = map-set (λ (r : Vec Bit Global). r.items) rows.items k row

pub value_inside : (P : Protocol) (frame : Frame) (picture : Picture) (count i : ℕ) (t : Term) → IsStatementIn P frame picture count (update_individual i t) → i < length (rows_of picture.values)
value_inside P frame picture count i t st =
    let below = slice_get-length P.individuals i st.sorted.0 st.sorted.1 in
    let many = many_rows count _ (rows_of picture.values) st.placed.pictured.values in
    let a = length-map (map (λ (I : Individual). I.sort) P.individuals) (λ t. get_or frame.slots.items t 0) in
    let b = length-map P.individuals (λ (I : Individual). I.sort) in
    omega arith

pub value_leaves : (P : Protocol) (frame : Frame) (old new : Picture) (i : ℕ) (t : Term) (f : Clauses.Formula) (ok : Bit) → IsStatementIn P frame old f.vars (update_individual i t) → IsBitBelow f.vars ok → rows_of new.tables ≡ rows_of old.tables → rows_of new.values ≡ set (rows_of old.values) i (standing frame old t) → LeavesStatement P frame (update_individual i t) old ok f new ok
value_leaves P frame old new i t f ok st ok_below tables values =
    let I = st.sorted.0 in
    let found = st.sorted.1 in
    let inside = value_inside P frame old f.vars i t st in
    let is = standing_is P frame old f.vars no_binding st.scope t I.sort st.placed st.sorted.2 (free_fixed P st.scope t I.sort st.free st.sorted.2) in
    let long : length (standing frame old t) ≡ get_or (slots_of_each frame.slots.items (map (λ (J : Individual). J.sort) P.individuals)) i 0 =
    is.long ∙ (sym (individual_row P frame.slots.items f.vars old i I.sort st.placed.pictured (record { individual = I; found = found; sorted = refl })) ∙ row_long f.vars _ (rows_of old.values) i st.placed.pictured.values) in
    record {
      below = ok_below;
      pictured = record {
        tables = subst (AreRows f.vars _) (sym tables) st.placed.pictured.tables;
        values = subst (AreRows f.vars _) (sym values) (rows_set f.vars _ (rows_of old.values) i (standing frame old t) long is.below st.placed.pictured.values);
      };
      shows = λ bits scope arguments choices outcome met free sorted sees. by_outcome is inside bits scope arguments choices outcome free sorted sees;
    }
  where
    row_marks : (bits : List Bool) (j e g : ℕ) (b : Bool) → nat_eq j i ≡ b → i < length (rows_of old.values) → Marks bits (standing frame old t) e → Marks bits (row_at (rows_of old.values) j) g → Marks bits (row_at (set (rows_of old.values) i (standing frame old t)) j) (if b then e else g)
    row_marks bits j e g true test below one other =
        let k : j ≡ i = grind (arith, nat_tests) in
        subst (λ row. Marks bits row e) (sym (ap (λ n. get_or (set (rows_of old.values) i (standing frame old t)) n []) k ∙ get_or-set_same (rows_of old.values) i (standing frame old t) [] below)) one
    row_marks bits j e g false test below one other =
        let k : j ≢ i = grind (arith, nat_tests) in
        subst (λ row. Marks bits row g) (sym (get_or-set_other (rows_of old.values) i j (standing frame old t) [] k)) other

    by_outcome : {sort : ℕ} → IsStanding P frame old f.vars t sort → i < length (rows_of old.values) → (bits : List Bool) (scope : Scope) (arguments choices : List ℕ) (outcome : Option Structure) → IsFree scope → IsWellSortedStatement P scope (update_individual i t) → SeesOutcome P frame old ok bits scope arguments choices outcome → SeesOutcome P frame new ok bits scope arguments choices (option_and_then (after_statement P (environment_of arguments choices) (update_individual i t)) outcome)
    by_outcome is inside bits scope arguments choices None free sorted sees = sees
    by_outcome is inside bits scope arguments choices (Some s) free sorted sees =
        let env = environment_of arguments choices in (
          sees.0,
          record {
            shows = record {
              structure = statement_structure P scope env (update_individual i t) s (after_individual s env i t) sorted sees.1.fits sees.1.shows.structure refl;
              sizes = sees.1.shows.sizes;
              relations = λ r R es found tuple. ap (λ (rows : List (List Bit)). bit_value bits (bit_at (row_at rows r) (tuple_place frame.slots.items R.arguments es))) tables ∙ sees.1.shows.relations r R es found tuple;
              individuals = λ j l. subst (λ (rows : List (List Bit)). Marks bits (row_at rows j) (if nat_eq j i then value_of_term s env t else s.element j)) (sym values) (row_marks bits j (value_of_term s env t) (s.element j) (nat_eq j i) refl inside (is.marks bits scope sorted.0.sort s env sorted.2 sees.1) (sees.1.shows.individuals j l));
            };
            parameters = sees.1.parameters;
            choices = sees.1.choices;
            fits = sees.1.fits;
          },
        )

pub statement_as : (P : Protocol) (frame : Frame) (picture : Picture) (count : ℕ) (c d : Statement) → c ≡ d → IsStatementIn P frame picture count c → IsStatementIn P frame picture count d
statement_as P frame picture count c d e h = subst (IsStatementIn P frame picture count) e h

-- the parts of a conditional
pub first_code : (P : Protocol) (frame : Frame) (picture other : Picture) (m n : ℕ) (f : Formula) (first second : Statements) → m ≤ n → IsPicture P frame.slots.items n other → IsStatementIn P frame picture m (conditional f first second) → IsCodeIn P frame other n first
first_code P frame picture other m n f first second le is st = record { scope = st.scope; free = st.free; placed = placed_kept P frame picture other m n no_binding st.scope le is st.placed; sorted = st.sorted.1 }

pub second_code : (P : Protocol) (frame : Frame) (picture other : Picture) (m n : ℕ) (f : Formula) (first second : Statements) → m ≤ n → IsPicture P frame.slots.items n other → IsStatementIn P frame picture m (conditional f first second) → IsCodeIn P frame other n second
second_code P frame picture other m n f first second le is st = record { scope = st.scope; free = st.free; placed = placed_kept P frame picture other m n no_binding st.scope le is st.placed; sorted = st.sorted.2 }

pub copy_pictured : (P : Protocol) (slots : List ℕ) (count : ℕ) (picture copied : Picture) → IsCopy picture copied → IsPicture P slots count picture → IsPicture P slots count copied
copy_pictured P slots count picture copied same is = record {
  tables = subst (AreRows count _) (sym same.tables) is.tables;
  values = subst (AreRows count _) (sym same.values) is.values;
}
