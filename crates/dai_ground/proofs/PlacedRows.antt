-- The rows of a frame and a picture.
use Rattle.std.proofs.Common.{◌≡◌, ◌<◌, ◌≤◌, ℕ, List, [], length, get_or, map, refl, ap, sym, ◌∙◌, subst, arith, Option, Some, None, slice_get, ◌⊎◌, inl, inr, Vec, Global, Result}
use Rattle.std.specs.Prelude.{IfOk}
use Rattle.std.proofs.lemmas.Result.{IfOk-weaker}
use Rattle.dai_base.specs.declared.memory.Spent.{Spent}
use Rattle.std.specs.Option.{option_map}
use Rattle.std.proofs.lemmas.Bool.{cases_lt}
use Rattle.std.proofs.lemmas.List.{get_or-map, get_or_past, length-map}
use Rattle.std.proofs.lemmas.Option.{get_or_from_slice_get, same_Some}
use Rattle.dai_model.specs.Protocol.{Protocol, Individual}
use Rattle.dai_model.specs.Formula.{Term, individual, parameter, choice}
use Rattle.dai_model.proofs.Typed.{slice_get-length}
use Rattle.dai_circuit.specs.declared.bit.Bit.{Bit}
use Rattle.dai_circuit.specs.Circuits.{AreBitsBelow}
use Rattle.dai_picture.specs.declared.picture.Frame.{Frame}
use Rattle.dai_picture.specs.declared.picture.Picture.{Picture}
use Rattle.dai_picture.specs.Pictures.{AreRows, IsPicture, rows_of, row_at, slots_of_each}
use Rattle.dai_ground.specs.declared.candidates.Candidate.{Candidate}
use Rattle.dai_ground.specs.Grounding.{IsTermIn, AreCandidates}
use Rattle.dai_ground.specs.Rows.{numbered}
use Rattle.dai_ground.proofs.Terms.{row_stands, numbered_over, numbered_inside}

pub row_long : (count : ℕ) (lengths : List ℕ) (rows : List (List Bit)) (k : ℕ) → AreRows count lengths rows → length (row_at rows k) ≡ get_or lengths k 0
row_long count lengths rows k are = by_cases (cases_lt k (length rows))
  where
    by_cases : (k < length rows) ⊎ (length rows ≤ k) → length (row_at rows k) ≡ get_or lengths k 0
    by_cases (inl below) = sym (get_or-map (λ (row : List Bit). length row) rows k [] 0 below) ∙ ap (λ ls. get_or ls k 0) are.long
    by_cases (inr past) =
        let e = length-map rows (λ (row : List Bit). length row) in
        let f : length lengths ≡ length rows = sym (ap length are.long) ∙ e in
        ap length (get_or_past rows k [] past) ∙ sym (get_or_past lengths k 0 (let g = f in omega arith))

pub row_below : (count : ℕ) (lengths : List ℕ) (rows : List (List Bit)) (k : ℕ) → AreRows count lengths rows → AreBitsBelow count (row_at rows k)
row_below count lengths rows k are = by_cases (cases_lt k (length rows))
  where
    by_cases : (k < length rows) ⊎ (length rows ≤ k) → AreBitsBelow count (row_at rows k)
    by_cases (inl below) = are.below k [] below
    by_cases (inr past) = subst (AreBitsBelow count) (sym (get_or_past rows k [] past)) (λ j d l. absurd (omega arith))

pub many_rows : (count : ℕ) (lengths : List ℕ) (rows : List (List Bit)) → AreRows count lengths rows → length rows ≡ length lengths
many_rows count lengths rows are = sym (length-map rows (λ (row : List Bit). length row)) ∙ ap length are.long

-- as many slots as the type at this place has
pub slots_at : (slots sorts : List ℕ) (k sort : ℕ) → slice_get sorts k ≡ Some sort → get_or (slots_of_each slots sorts) k 0 ≡ get_or slots sort 0
slots_at slots sorts k sort is =
    let below = slice_get-length sorts k sort is in
    get_or-map (λ t. get_or slots t 0) sorts k 0 0 below ∙ ap (λ t. get_or slots t 0) (get_or_from_slice_get sorts k sort 0 is)

-- the individual that has a sort
pub record IsIndividual (P : Protocol) (i sort : ℕ) : Type 0 where
  pub individual : Individual
  pub found : slice_get P.individuals i ≡ Some individual
  pub sorted : individual.sort ≡ sort

pub individual_of_sort : (P : Protocol) (i sort : ℕ) → option_map (λ (I : Individual). I.sort) (slice_get P.individuals i) ≡ Some sort → IsIndividual P i sort
individual_of_sort P i sort is = by_cases (slice_get P.individuals i) refl is
  where
    by_cases : (o : Option Individual) → slice_get P.individuals i ≡ o → option_map (λ (I : Individual). I.sort) o ≡ Some sort → IsIndividual P i sort
    by_cases None found h = absurd (let k : ⊥ = cc in k)
    by_cases (Some I) found h = record { individual = I; found = found; sorted = same_Some I.sort sort h }

pub individual_row : (P : Protocol) (slots : List ℕ) (count : ℕ) (picture : Picture) (i sort : ℕ) → IsPicture P slots count picture → IsIndividual P i sort → length (row_at (rows_of picture.values) i) ≡ get_or slots sort 0
individual_row P slots count picture i sort drawn is =
    let sorts : List ℕ = map (λ (I : Individual). I.sort) P.individuals in
    let below = slice_get-length P.individuals i is.individual is.found in
    row_long count (slots_of_each slots sorts) (rows_of picture.values) i drawn.values
    ∙ (get_or-map (λ t. get_or slots t 0) sorts i 0 0 (let e = length-map P.individuals (λ (I : Individual). I.sort) in omega arith)
    ∙ ap (λ t. get_or slots t 0) (get_or-map (λ (I : Individual). I.sort) P.individuals i is.individual 0 below ∙ (ap (λ (I : Individual). I.sort) (get_or_from_slice_get P.individuals i is.individual is.individual is.found) ∙ is.sorted)))

pub individual_candidates : (P : Protocol) (frame : Frame) (picture : Picture) (count : ℕ) (binding : List ℕ) (i sort : ℕ) (cs : List Candidate) → cs ≡ numbered 0 (row_at (rows_of picture.values) i) → IsTermIn P frame picture count binding (individual i) sort → AreCandidates P frame picture count binding (individual i) sort cs
individual_candidates P frame picture count binding i sort cs e term =
    let row = row_at (rows_of picture.values) i in
    let is = individual_of_sort P i sort term.sorted in
    let long = individual_row P frame.slots.items count picture i sort term.placed.pictured is in
    subst (AreCandidates P frame picture count binding (individual i) sort) (sym e) (record {
      slots = numbered_inside (get_or frame.slots.items sort 0) 0 row (omega arith);
      below = numbered_over count 0 row (row_below count _ (rows_of picture.values) i term.placed.pictured.values);
      stand = λ bits scope type s arguments choices sorted sees. row_stands bits row (s.element i) (sees.shows.individuals i (slice_get-length P.individuals i is.individual is.found));
    })

pub parameter_candidates : (P : Protocol) (frame : Frame) (picture : Picture) (count : ℕ) (binding : List ℕ) (p sort : ℕ) (cs : List Candidate) → cs ≡ numbered 0 (row_at (rows_of frame.arguments) p) → IsTermIn P frame picture count binding (parameter p) sort → AreCandidates P frame picture count binding (parameter p) sort cs
parameter_candidates P frame picture count binding p sort cs e term =
    let row = row_at (rows_of frame.arguments) p in
    let placed = term.placed in
    let long = row_long count _ (rows_of frame.arguments) p placed.drawn.named ∙ slots_at frame.slots.items placed.parameters p sort (placed.named p sort term.sorted) in
    subst (AreCandidates P frame picture count binding (parameter p) sort) (sym e) (record {
      slots = numbered_inside (get_or frame.slots.items sort 0) 0 row (omega arith);
      below = numbered_over count 0 row (row_below count _ (rows_of frame.arguments) p placed.drawn.named);
      stand = λ bits scope type s arguments choices sorted sees. row_stands bits row (get_or arguments p 0) (sees.parameters p type sorted);
    })

pub choice_candidates : (P : Protocol) (frame : Frame) (picture : Picture) (count : ℕ) (binding : List ℕ) (c sort : ℕ) (cs : List Candidate) → cs ≡ numbered 0 (row_at (rows_of frame.choices) c) → IsTermIn P frame picture count binding (choice c) sort → AreCandidates P frame picture count binding (choice c) sort cs
choice_candidates P frame picture count binding c sort cs e term =
    let row = row_at (rows_of frame.choices) c in
    let placed = term.placed in
    let long = row_long count _ (rows_of frame.choices) c placed.drawn.chosen ∙ slots_at frame.slots.items placed.choices c sort (placed.chosen c sort term.sorted) in
    subst (AreCandidates P frame picture count binding (choice c) sort) (sym e) (record {
      slots = numbered_inside (get_or frame.slots.items sort 0) 0 row (omega arith);
      below = numbered_over count 0 row (row_below count _ (rows_of frame.choices) c placed.drawn.chosen);
      stand = λ bits scope type s arguments choices sorted sees. row_stands bits row (get_or choices c 0) (sees.choices c type sorted);
    })

abbrev pub AreAnswer : Protocol → Frame → Picture → List ℕ → Term → Vec Candidate Global → Type 0
AreAnswer P frame picture binding t candidates = (count : ℕ) (sort : ℕ) → IsTermIn P frame picture count binding t sort → AreCandidates P frame picture count binding t sort candidates.items

pub individual_answer : (P : Protocol) (frame : Frame) (picture : Picture) (binding : List ℕ) (t : Term) (k : ℕ) (row : List Bit) (result : Result (Vec Candidate Global) Spent) → t ≡ individual k → row ≡ row_at (rows_of picture.values) k → IfOk result (λ (cs : Vec Candidate Global). cs.items ≡ numbered 0 row) → IfOk result (AreAnswer P frame picture binding t)
individual_answer P frame picture binding t k row result is from h =
    IfOk-weaker result (λ (cs : Vec Candidate Global). cs.items ≡ numbered 0 row) (AreAnswer P frame picture binding t)
    (λ cs e count sort term. subst (λ u. AreCandidates P frame picture count binding u sort cs.items) (sym is) (individual_candidates P frame picture count binding k sort cs.items (e ∙ ap (numbered 0) from) (subst (λ u. IsTermIn P frame picture count binding u sort) is term)))
    h

pub parameter_answer : (P : Protocol) (frame : Frame) (picture : Picture) (binding : List ℕ) (t : Term) (k : ℕ) (row : List Bit) (result : Result (Vec Candidate Global) Spent) → t ≡ parameter k → row ≡ row_at (rows_of frame.arguments) k → IfOk result (λ (cs : Vec Candidate Global). cs.items ≡ numbered 0 row) → IfOk result (AreAnswer P frame picture binding t)
parameter_answer P frame picture binding t k row result is from h =
    IfOk-weaker result (λ (cs : Vec Candidate Global). cs.items ≡ numbered 0 row) (AreAnswer P frame picture binding t)
    (λ cs e count sort term. subst (λ u. AreCandidates P frame picture count binding u sort cs.items) (sym is) (parameter_candidates P frame picture count binding k sort cs.items (e ∙ ap (numbered 0) from) (subst (λ u. IsTermIn P frame picture count binding u sort) is term)))
    h

pub choice_answer : (P : Protocol) (frame : Frame) (picture : Picture) (binding : List ℕ) (t : Term) (k : ℕ) (row : List Bit) (result : Result (Vec Candidate Global) Spent) → t ≡ choice k → row ≡ row_at (rows_of frame.choices) k → IfOk result (λ (cs : Vec Candidate Global). cs.items ≡ numbered 0 row) → IfOk result (AreAnswer P frame picture binding t)
choice_answer P frame picture binding t k row result is from h =
    IfOk-weaker result (λ (cs : Vec Candidate Global). cs.items ≡ numbered 0 row) (AreAnswer P frame picture binding t)
    (λ cs e count sort term. subst (λ u. AreCandidates P frame picture count binding u sort cs.items) (sym is) (choice_candidates P frame picture count binding k sort cs.items (e ∙ ap (numbered 0) from) (subst (λ u. IsTermIn P frame picture count binding u sort) is term)))
    h

pub row_found : (rows : Vec (Vec Bit Global) Global) (k : ℕ) (d : Vec Bit Global) → k < length (rows_of rows) → (get_or rows.items k d).items ≡ row_at (rows_of rows) k
row_found rows k d below = sym (get_or-map (λ (row : Vec Bit Global). row.items) rows.items k d [] (let e = length-map rows.items (λ (row : Vec Bit Global). row.items) in omega arith))
