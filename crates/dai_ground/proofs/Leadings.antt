-- Clauses that a block leads to a structure in which a formula is false.
use Rattle.std.proofs.Common.{◌≡◌, ◌||◌, ℕ, Bool, true, false, List, [], ◌∷◌, length, get_or, refl, ap, sym, ◌∙◌, subst, arith, rules, Option, Some, None}
use Rattle.dai_model.specs.Formula as Model
use Rattle.dai_model.specs.Protocol.{Protocol, Block}
use Rattle.dai_model.specs.Structure.{Structure}
use Rattle.dai_model.specs.Value.{environment_of}
use Rattle.dai_model.specs.Execution.{after_statements}
use Rattle.dai_model.specs.WellSorted.{Scope, scope_of, IsWellSortedCode, IsWellSortedBlock}
use Rattle.dai_model.proofs.Typed.{block_fits, slice_get-length}
use Rattle.dai_trail.specs.Formula.{Formula, AreMetBy}
use Rattle.dai_circuit.specs.declared.bit.Bit.{Bit}
use Rattle.dai_circuit.specs.declared.bit.Bit.TheVariants.{Known}
use Rattle.dai_circuit.specs.Circuits.{bit_value, Extends, Requires}
use Rattle.dai_picture.specs.declared.picture.Frame.{Frame}
use Rattle.dai_picture.specs.declared.picture.Picture.{Picture}
use Rattle.dai_picture.specs.Pictures.{Shows, Marks, IsFrame, IsPicture, AreRows, rows_of, row_at, bit_at, slots_of_each}
use Rattle.dai_picture.specs.Worlds.{World, IsWorld, ShowsWorld}
use Rattle.dai_picture.proofs.SameWorld.{world_kept}
use Rattle.dai_logic.specs.Counts.{tuple_place}
use Rattle.dai_ground.specs.Choosing.{IsCopy}
use Rattle.dai_ground.specs.Grounding.{Sees}
use Rattle.dai_ground.specs.Leaving.{IsFree, IsCodeIn, SeesOutcome, LeavesCode}
use Rattle.dai_ground.specs.Asking.{Restricts, RestrictsTo, EachWorld, SomeWorld, Leads, IsBroken}
use Rattle.std.proofs.lemmas.List.{length-map}
use Rattle.dai_ground.proofs.Placed.{many_rows}

or_none : (b : Bool) → (b || false) ≡ b
or_none true = refl
or_none false = refl

-- the world that is shown is seen from the block's scope
pub sees_world : (P : Protocol) (block : Block) (exact : Bool) (frame : Frame) (picture : Picture) (bits : List Bool) (w : World) → length (rows_of frame.arguments) ≡ length block.parameters → length (rows_of frame.choices) ≡ length block.choices → IsWorld P block.parameters block.choices exact frame.slots.items w → ShowsWorld P frame picture bits w → Sees P frame picture bits (scope_of block) w.structure (environment_of w.arguments w.choices)
sees_world P block exact frame picture bits w many chosen is shows = record {
  shows = shows.structure;
  parameters = λ p sort named. shows.names.named.each p (let below = slice_get-length block.parameters p sort named in omega arith);
  choices = λ c sort named. shows.names.chosen.each c (let below = slice_get-length block.choices c sort named in omega arith);
  fits = block_fits w.structure.sizes block w.arguments w.choices (search (rules, is.given)) (search (rules, is.chosen));
}

pub row_count : (count : ℕ) (slots sorts : List ℕ) (rows : List (List Bit)) → AreRows count (slots_of_each slots sorts) rows → length rows ≡ length sorts
row_count count slots sorts rows are = many_rows count (slots_of_each slots sorts) rows are ∙ length-map sorts (λ t. get_or slots t 0)

pub free_block : (block : Block) → IsFree (scope_of block)
free_block block = λ v. refl

-- what a picture with a bit that is true shows is a structure
pub record IsShownAfter (P : Protocol) (frame : Frame) (picture : Picture) (bits : List Bool) (outcome : Option Structure) : Type 0 where
  pub after : Structure
  pub is : outcome ≡ Some after
  pub shows : Shows P frame picture bits after

pub true_outcome : (P : Protocol) (frame : Frame) (picture : Picture) (ok : Bit) (bits : List Bool) (scope : Scope) (arguments choices : List ℕ) (outcome : Option Structure) → bit_value bits ok ≡ true → SeesOutcome P frame picture ok bits scope arguments choices outcome → IsShownAfter P frame picture bits outcome
true_outcome P frame picture ok bits scope arguments choices None on sees = absurd (let k : ⊥ = cc in k)
true_outcome P frame picture ok bits scope arguments choices (Some s) on sees = record { after = s; is = refl; shows = sees.1.shows }

pub some_outcome : (P : Protocol) (frame : Frame) (picture : Picture) (ok : Bit) (bits : List Bool) (scope : Scope) (arguments choices : List ℕ) (outcome : Option Structure) (after : Structure) → outcome ≡ Some after → SeesOutcome P frame picture ok bits scope arguments choices outcome → (bit_value bits ok ≡ true) × Shows P frame picture bits after
some_outcome P frame picture ok bits scope arguments choices None after is sees = absurd (let k : ⊥ = cc in k)
some_outcome P frame picture ok bits scope arguments choices (Some s) after is sees =
    let same : s ≡ after = cc in
    (sees.0, subst (Shows P frame picture bits) same sees.1.shows)

pub leads_by : (P : Protocol) (block : Block) (exact : Bool) (broken : Option Model.Formula) (frame : Frame) (picture copied left : Picture) (ok : Bit) (old a b new : Formula) → IsFrame P block.parameters block.choices old.vars frame → IsPicture P frame.slots.items old.vars picture → ((bits : List Bool) (s : Structure) → Shows P frame picture bits s → Shows P frame copied bits s) → IsWellSortedCode P (scope_of block) block.code → Extends old a → LeavesCode P frame block.code copied (Known true) a left ok → Requires a b (ok ∷ []) → RestrictsTo P frame left (IsBroken broken) b new → Restricts (EachWorld P block.parameters block.choices exact frame picture (Leads P block broken)) (SomeWorld P block.parameters block.choices exact frame picture (Leads P block broken)) old new
leads_by P block exact broken frame picture copied left ok old a b new drawn pictured same sorted e l q r =
    record {
      grows = let x = e.grows in let y = q.vars in let z = r.grows in omega arith;
      keeps = λ bits met. e.keeps bits (q.keeps bits (r.keeps bits met));
      holds = λ bits met w is shows.
          let there = r.keeps bits met in
          let on : bit_value bits ok ≡ true = sym (or_none (bit_value bits ok)) ∙ q.some bits there in
          let sees = outcome bits (q.keeps bits there) w is (record { structure = same bits w.structure shows.structure; names = shows.names }) in
          let t = true_outcome P frame left ok bits (scope_of block) w.arguments w.choices _ on sees in
          record { after = t.after; leaves = t.is; is_broken = r.holds bits met t.after t.shows };
      completes = λ bits met given.
          let one = e.completes bits met in
          let w = given.0 in
          let shows = world_kept P block.parameters block.choices old.vars frame picture bits one.0 w drawn pictured one.2 given.2 in
          let sees = outcome one.0 one.1 w given.1 (record { structure = same one.0 w.structure shows.structure; names = shows.names }) in
          let t = some_outcome P frame left ok one.0 (scope_of block) w.arguments w.choices _ given.3.after given.3.leaves sees in
          let two = q.admits one.0 one.1 (or_none (bit_value one.0 ok) ∙ t.0) in
          let three = r.completes one.0 two (given.3.after, t.1, given.3.is_broken) in
          (three.0, three.1, λ var below. three.2 var (let x = e.grows in let y = q.vars in omega arith) ∙ one.2 var below);
    }
  where
    outcome : (bits : List Bool) → AreMetBy a bits → (w : World) → IsWorld P block.parameters block.choices exact frame.slots.items w → ShowsWorld P frame copied bits w → SeesOutcome P frame left ok bits (scope_of block) w.arguments w.choices (after_statements P (environment_of w.arguments w.choices) block.code w.structure)
    outcome bits met w is shows =
        l.shows bits (scope_of block) w.arguments w.choices (Some w.structure) met (free_block block) sorted
        (refl, sees_world P block exact frame copied bits w (row_count old.vars frame.slots.items block.parameters (rows_of frame.arguments) drawn.named) (row_count old.vars frame.slots.items block.choices (rows_of frame.choices) drawn.chosen) is shows)

pub copied_picture : (P : Protocol) (slots : List ℕ) (count : ℕ) (picture copied : Picture) → IsCopy picture copied → IsPicture P slots count picture → IsPicture P slots count copied
copied_picture P slots count picture copied c h = record {
  tables = subst (AreRows count _) (sym c.tables) h.tables;
  values = subst (AreRows count _) (sym c.values) h.values;
}

pub shows_copied : (P : Protocol) (frame : Frame) (picture copied : Picture) → IsCopy picture copied → (bits : List Bool) (s : Structure) → Shows P frame picture bits s → Shows P frame copied bits s
shows_copied P frame picture copied c bits s shows = record {
  structure = shows.structure;
  sizes = shows.sizes;
  relations = λ r R es found tuple. ap (λ rows. bit_value bits (bit_at (row_at rows r) (tuple_place frame.slots.items R.arguments es))) c.tables ∙ shows.relations r R es found tuple;
  individuals = λ i below. subst (λ rows. Marks bits (row_at rows i) (s.element i)) (sym c.values) (shows.individuals i below);
}

pub block_code : (P : Protocol) (block : Block) (frame : Frame) (picture : Picture) (count : ℕ) (code : Model.Statements) → code ≡ block.code → IsWellSortedBlock P block → IsFrame P block.parameters block.choices count frame → IsPicture P frame.slots.items count picture → IsCodeIn P frame picture count code
block_code P block frame picture count code is well drawn pictured = subst (IsCodeIn P frame picture count) (sym is) (record {
  scope = scope_of block;
  free = free_block block;
  placed = record {
    parameters = block.parameters;
    choices = block.choices;
    drawn = drawn;
    pictured = pictured;
    named = λ p sort h. h;
    chosen = λ p sort h. h;
    bound = λ v sort h. absurd (let k : ⊥ = cc in k);
  };
  sorted = well.code;
})
