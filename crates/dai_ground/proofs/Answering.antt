-- From models to answers.
use Rattle.std.proofs.Common.{◌≡◌, ◌+◌, ◌<◌, ◌≤◌, ℕ, Bool, true, false, List, [], ◌∷◌, length, get_or, map, take, refl, ap, sym, ◌∙◌, subst, arith, rules, Option, Some, None, Vec, Global}
use Rattle.std.specs.Prelude.{IsSome, IsTrue, ◌++◌, slice_get}
use Rattle.std.specs.Option.{option_map}
use Rattle.std.specs.List.{All, Contains, range_with_len, cons_option}
use Rattle.std.proofs.lemmas.Option.{same_Some, slice_get-get_or}
use Rattle.std.proofs.lemmas.List.FromFn.{length-map-range_with_len, get_or-map-range_with_len}
use Rattle.std.proofs.lemmas.List.{get_or-map, length-map}
use Rattle.dai_model.specs.Formula as Model
use Rattle.dai_model.specs.Protocol.{Protocol, Block}
use Rattle.dai_model.specs.Structure.{Structure, is_tuple}
use Rattle.dai_model.specs.Value.{Environment, value_of, empty_environment, Satisfies}
use Rattle.dai_model.specs.WellSorted.{IsWellSorted, closed_scope}
use Rattle.dai_trail.specs.declared.cnf.Lit.{Lit}
use Rattle.dai_trail.specs.Formula.{Formula, IsModelOf, IsTrueAt, IsUnsatisfiable, AreMetBy, value_at}
use Rattle.dai_sat.specs.declared.answer.Outcome.{Outcome}
use Rattle.dai_sat.specs.declared.answer.Outcome.TheVariants as Outcomes
use Rattle.dai_sat.specs.Under.{IsOutcomeOf}
use Rattle.dai_circuit.specs.Circuits.{IsOver}
use Rattle.dai_circuit.proofs.Extensions.{AgreeBelow, met_agreeing}
use Rattle.dai_logic.specs.declared.structure.BlockId.{BlockId}
use Rattle.dai_logic.specs.declared.structure.Structure as Program
use Rattle.dai_logic.specs.declared.protocol.Formula as Source
use Rattle.dai_logic.specs.Trees.{formula_of}
use Rattle.std.proofs.lemmas.List.{take_more, take_all}
use Rattle.std.proofs.lemmas.List.Elements.{All-push, All-pop, filter_map-append}
use Rattle.dai_logic.specs.Protocols.{block_named}
use Rattle.dai_logic.specs.Tables.{structure_of, Fits, IsEvaluable}
use Rattle.dai_logic.specs.Execution.{IsCall, IsLeft}
use Rattle.dai_picture.specs.declared.picture.Frame.{Frame}
use Rattle.dai_picture.specs.declared.picture.Picture.{Picture}
use Rattle.dai_picture.specs.declared.decode.Decoded.{Decoded}
use Rattle.dai_picture.specs.Pictures.{IsFrame, IsPicture}
use Rattle.dai_picture.specs.Decoding.{IsDecodable}
use Rattle.dai_picture.specs.Worlds.{World, IsWorld, ShowsWorld}
use Rattle.dai_ground.specs.declared.found.Found.{Found}
use Rattle.dai_ground.specs.declared.wide.Wide.{Wide}
use Rattle.dai_picture.proofs.SameWorld.{world_kept, one_world}
use Rattle.dai_ground.specs.Asking.{Asks, Refutes, RefutesFrom, HasTruth, IsKnown, IsBroken, block_asked, parameters_asked, choices_asked, outcome_of}
use Rattle.dai_ground.specs.Answers.{IsFound, NoneRefutes, picked}
use Rattle.dai_ground.specs.Questions.{IsQuestion, IsDecided, AgreeInFront, IsDecoded, IsAnswer, IsSceneOf, IsRefined, world_of}
use Rattle.dai_ground.specs.Turns.{IsSolution, IsCaller, IsFoundFrom, IsOpenQuestion, world_decoded}
use Rattle.dai_ground.proofs.Askings.{asks_structure, asks_as}
use Rattle.dai_ground.proofs.Posings.{frame_kept, picture_kept}

-- outcomes of the solver
pub solution_of_model : (f : Formula) (outcome : Outcome) (model : Vec Bool Global) → outcome ≡ Outcomes.Model model → IsOutcomeOf f [] outcome → IsSolution f (Some model)
solution_of_model f outcome model is h = (subst (IsOutcomeOf f []) is h).0

none_named : (names : List Lit) (bits : List Bool) → All (λ l. Contains {X = Lit} [] l) names → All (IsTrueAt bits) names
none_named names bits none = λ k d l. let in' = none k d l in absurd (let b = in'.1 in omega arith)

pub solution_of_unsat : (f : Formula) (outcome : Outcome) (names : Vec Lit Global) → outcome ≡ Outcomes.Unsat names → IsOutcomeOf f [] outcome → IsSolution f None
solution_of_unsat f outcome names is h =
    let failed = subst (IsOutcomeOf f []) is h in
    λ bits model. failed.1 bits model (none_named names.items bits failed.0)

-- where no whole assignment meets the clauses, none does
pub none_meets : (f : Formula) (bits : List Bool) → IsOver f → IsUnsatisfiable f → AreMetBy f bits → ⊥
none_meets f bits over none met =
    let whole = map (value_at bits) (range_with_len 0 f.vars) in
    let agree : AgreeBelow f.vars whole bits = λ var l. get_or-map-range_with_len (value_at bits) 0 f.vars var var false l (omega arith) in
    none whole (record { whole = length-map-range_with_len (value_at bits) 0 f.vars; meets = met_agreeing f bits whole over agree met })

-- a closed formula may be evaluated
pub closed_evaluable : (P : Protocol) (sizes : List ℕ) (env : Environment) (f : Model.Formula) → IsWellSorted P closed_scope f → IsEvaluable P sizes env f
closed_evaluable P sizes env f sorted = record {
  scope = closed_scope;
  sorted = sorted;
  gives = record {
    fits = record { variables = λ v sort is. absurd (let k : ⊥ = cc in k); parameters = λ p sort is. absurd (let k : ⊥ = cc in k); choices = λ c sort is. absurd (let k : ⊥ = cc in k) };
    parameters = omega arith;
    choices = omega arith;
  };
}

-- the block that is called, and what it leaves
named_call : (P : Protocol) (id : BlockId) (asked : Option Block) (d : Decoded) → block_named P id ≡ asked → IsSome asked → IsTrue (is_tuple d.structure.sizes.items (parameters_asked asked) d.args.items) → IsTrue (is_tuple d.structure.sizes.items (choices_asked asked) d.choices.items) → IsCall P id d.structure d.args.items d.choices.items
named_call P id None d named some given chosen = absurd (let k : ⊥ = cc in k)
named_call P id (Some called) d named some given chosen = record { called = called; named = named; given = given; chosen = chosen }

pub call_of : (P : Protocol) (block : Option BlockId) (id : BlockId) (d : Decoded) → block ≡ Some id → IsKnown P block → IsCaller P block d → IsCall P id d.structure d.args.items d.choices.items
call_of P None id d is known caller = absurd (let k : ⊥ = cc in k)
call_of P (Some own) id d is known caller =
    subst (λ b. IsCall P b d.structure d.args.items d.choices.items) (same_Some own id is) (named_call P own (block_named P own) d refl known caller.given caller.chosen)

named_left : (P : Protocol) (id : BlockId) (asked : Option Block) (d : Decoded) (answer : Option Program.Structure) → block_named P id ≡ asked → IsSome asked → IsLeft P id d.structure d.args.items d.choices.items answer → option_map (structure_of P) answer ≡ outcome_of P asked (world_decoded P d)
named_left P id None d answer named some left = absurd (let k : ⊥ = cc in k)
named_left P id (Some called) d answer named some left = left.left called named

pub left_of : (P : Protocol) (block : Option BlockId) (id : BlockId) (d : Decoded) (answer : Option Program.Structure) → block ≡ Some id → IsKnown P block → IsLeft P id d.structure d.args.items d.choices.items answer → option_map (structure_of P) answer ≡ outcome_of P (block_asked P block) (world_decoded P d)
left_of P None id d answer is known left = absurd (let k : ⊥ = cc in k)
left_of P (Some own) id d answer is known left =
    named_left P own (block_named P own) d answer refl known (subst (λ b. IsLeft P b d.structure d.args.items d.choices.items answer) (sym (same_Some own id is)) left)

all_more : (P : Protocol) (s : Structure) (fs : List Source.Formula) (i : ℕ) (d : Source.Formula) → i < length fs → All (Satisfies s) (take i (map formula_of fs)) → value_of s empty_environment (formula_of (get_or fs i d)) ≡ true → All (Satisfies s) (take (i + 1) (map formula_of fs))
all_more P s fs i d below all true' =
    let many = length-map fs formula_of in
    let in' : i < length (map formula_of fs) = omega arith in
    let item = get_or-map formula_of fs i d (formula_of d) below in
    subst (All (Satisfies s)) (sym (take_more (map formula_of fs) i (formula_of d) in')) (All-push (Satisfies s) (take i (map formula_of fs)) (get_or (map formula_of fs) i (formula_of d)) all (subst (Satisfies s) (sym item) (search (rules, true'))))

pub unmet_more : (P : Protocol) (s : Structure) (fs : List Source.Formula) (i : ℕ) (d : Source.Formula) (env : Environment) (value : Bool) → i < length fs → env ≡ empty_environment → value ≡ value_of s env (formula_of (get_or fs i d)) → value ≡ true → All (Satisfies s) (take i (map formula_of fs)) → All (Satisfies s) (take (i + 1) (map formula_of fs))
unmet_more P s fs i d env value below e is on all = all_more P s fs i d below all (ap (λ a. value_of s a (formula_of (get_or fs i d))) (sym e) ∙ (sym is ∙ on))

pub formula_at : (P : Protocol) (fs : List Source.Formula) (i : ℕ) (d : Source.Formula) → i < length fs → All (IsWellSorted P closed_scope) (map formula_of fs) → IsWellSorted P closed_scope (formula_of (get_or fs i d))
formula_at P fs i d below all =
    let many = length-map fs formula_of in
    subst (IsWellSorted P closed_scope) (get_or-map formula_of fs i d (formula_of d) below) (all i (formula_of d) (omega arith))

pub unmet_all : (s : Structure) (fs : List Model.Formula) (i : ℕ) → length fs ≤ i → All (Satisfies s) (take i fs) → All (Satisfies s) fs
unmet_all s fs i past all = subst (All (Satisfies s)) (take_all i fs past) all

pub none_some : {s : Structure} → None ≡ Some s → ⊥
none_some is = let k : ⊥ = cc in k

-- where the clauses have no model, no world that meets the premises refutes
pub none_refutes : (P : Protocol) (asked : Option Block) (premises : List Model.Formula) (f : Model.Formula) (sizes : List ℕ) (q : Wide) → IsOver q.cnf → IsUnsatisfiable q.cnf → IsOpenQuestion P asked premises f sizes q → NoneRefutes P asked premises f sizes
none_refutes P asked premises f sizes q over none open' = λ w is met refutes.
    let here = subst (λ ss. IsWorld P (parameters_asked asked) (choices_asked asked) false ss w) (sym open'.slots_are) is in
    let one = open'.asks.each w here (refutes, met) in
    none_meets q.cnf one.0 over none one.1

-- what a model shows
pub decodable_of : (P : Protocol) (asked : Option Block) (exact : Bool) (sizes : List ℕ) (before : List Model.Formula) (broken : Option Model.Formula) (q : Wide) (model : List Bool) → IsModelOf q.cnf model → IsQuestion P asked exact sizes before broken q → IsDecodable P q.frame q.picture model
decodable_of P asked exact sizes before broken q model is h =
    let shown = h.asks.shows model is.meets in
    record {
      parameters = parameters_asked asked;
      locals = choices_asked asked;
      frame = subst (λ n. IsFrame P (parameters_asked asked) (choices_asked asked) n q.frame) (sym is.whole) h.drawn;
      picture = subst (λ n. IsPicture P q.frame.slots.items n q.picture) (sym is.whole) (subst (λ ss. IsPicture P ss q.cnf.vars q.picture) (sym h.slots_are) h.pictured);
      world = shown.0;
      shown = shown.2;
    }

-- what was decoded is the world that is shown
pub record AreDecoded (P : Protocol) (frame : Frame) (picture : Picture) (model : List Bool) (d : Decoded) : Type 0 where
  pub structure : (w : World) → ShowsWorld P frame picture model w → structure_of P d.structure ≡ w.structure
  pub arguments : (w : World) → ShowsWorld P frame picture model w → d.args.items ≡ w.arguments
  pub choices : (w : World) → ShowsWorld P frame picture model w → d.choices.items ≡ w.choices

pub decoded_world : (P : Protocol) (frame : Frame) (picture : Picture) (model : List Bool) (d : Decoded) (w : World) → AreDecoded P frame picture model d → ShowsWorld P frame picture model w → world_decoded P d ≡ w
decoded_world P frame picture model d w are shows = λ i. record { structure = are.structure w shows i; arguments = are.arguments w shows i; choices = are.choices w shows i }

pub caller_of : (P : Protocol) (block : Option BlockId) (exact : Bool) (sizes : List ℕ) (before : List Model.Formula) (broken : Option Model.Formula) (q : Wide) (model : List Bool) (d : Decoded) → IsModelOf q.cnf model → IsQuestion P (block_asked P block) exact sizes before broken q → AreDecoded P q.frame q.picture model d → IsCaller P block d
caller_of P block exact sizes before broken q model d is h are =
    let asked = block_asked P block in
    let shown = h.asks.shows model is.meets in
    let same = decoded_world P q.frame q.picture model d shown.0 are shown.2 in
    let world = subst (λ w. IsWorld P (parameters_asked asked) (choices_asked asked) exact q.frame.slots.items w) (sym same) shown.1 in
    let refutes = subst (Refutes P asked broken) (sym same) shown.3.0 in
    record { after = refutes.after; leaves = refutes.leaves; given = world.given; chosen = world.chosen }

found_world : (P : Protocol) (asked : Option Block) (d : Decoded) (x : Found) → IsFoundFrom P asked d x → world_of P x ≡ world_decoded P d
found_world P asked d x from = λ i. record { structure = structure_of P (from.before i); arguments = from.args i; choices = from.choices i }

-- what was found is what the model shows
pub decoded_of : (P : Protocol) (block : Option BlockId) (exact : Bool) (sizes : List ℕ) (before : List Model.Formula) (broken : Option Model.Formula) (q : Wide) (model : List Bool) (d : Decoded) (x : Found) → IsModelOf q.cnf model → IsQuestion P (block_asked P block) exact sizes before broken q → AreDecoded P q.frame q.picture model d → Fits P d.structure → IsFoundFrom P (block_asked P block) d x → IsDecoded P (block_asked P block) q model x
decoded_of P block exact sizes before broken q model d x is h are fits from =
    let asked = block_asked P block in
    let shown = h.asks.shows model is.meets in
    let same = decoded_world P q.frame q.picture model d shown.0 are shown.2 in
    let own = found_world P asked d x from in
    record {
      before_fits = subst (Fits P) (sym from.before) fits;
      after_fits = from.after_fits;
      shows = subst (ShowsWorld P q.frame q.picture model) (sym (own ∙ same)) shown.2;
      leaves = ap (outcome_of P asked) own ∙ from.leaves;
    }

-- and it answers the question
pub answer_of : (P : Protocol) (asked : Option Block) (exact : Bool) (sizes : List ℕ) (before : List Model.Formula) (broken : Option Model.Formula) (q : Wide) (model : List Bool) (x : Found) → AreMetBy q.cnf model → IsDecoded P asked q model x → IsQuestion P asked exact sizes before broken q → IsAnswer P asked exact sizes before broken x
answer_of P asked exact sizes before broken q model x met is h =
    let shown = h.asks.shows model met in
    let same : shown.0 ≡ world_of P x = one_world P q.frame q.picture model shown.0 (world_of P x) shown.2 is.shows in
    let refutes = subst (RefutesFrom P asked before broken) same shown.3 in
    let here = subst (λ ss. IsWorld P (parameters_asked asked) (choices_asked asked) exact ss shown.0) h.slots_are shown.1 in
    let after : refutes.0.after ≡ structure_of P x.after = same_Some refutes.0.after (structure_of P x.after) (sym refutes.0.leaves ∙ is.leaves) in
    record {
      before_fits = is.before_fits;
      after_fits = is.after_fits;
      world = subst (λ w. IsWorld P (parameters_asked asked) (choices_asked asked) exact sizes w) same here;
      premises_met = refutes.1;
      refutes = refutes.0;
      leaves = is.leaves;
      is_broken = subst (IsBroken broken) after refutes.0.is_broken;
    }

-- each assignment that agrees in front shows it too
pub decoded_again : (P : Protocol) (asked : Option Block) (q : Wide) (model more : List Bool) (x : Found) → IsDecided P asked q → AgreeInFront q more model → IsDecoded P asked q model x → IsDecoded P asked q more x
decoded_again P asked q model more x decided agree is = record {
  before_fits = is.before_fits;
  after_fits = is.after_fits;
  shows = world_kept P (parameters_asked asked) (choices_asked asked) q.bits q.frame q.picture model more (world_of P x) decided.drawn decided.pictured agree is.shows;
  leaves = is.leaves;
}

-- an answer that meets the premises
pub found_of : (P : Protocol) (asked : Option Block) (premises used : List Model.Formula) (f : Model.Formula) (sizes : List ℕ) (x : Found) → IsAnswer P asked false sizes used (Some f) x → All (Satisfies (structure_of P x.before)) premises → IsFound P asked premises f sizes x
found_of P asked premises used f sizes x h met = record {
  before_fits = h.before_fits;
  after_fits = h.after_fits;
  world = h.world;
  premises_met = met;
  refutes = h.refutes;
  leaves = h.leaves;
  is_broken = h.is_broken;
}

-- a frame and a picture of a question
pub scene_of : (P : Protocol) (asked : Option Block) (exact : Bool) (sizes : List ℕ) (before : List Model.Formula) (broken : Option Model.Formula) (q : Wide) → IsQuestion P asked exact sizes before broken q → IsSceneOf P q
scene_of P asked exact sizes before broken q h = record {
  parameters = parameters_asked asked;
  choices = choices_asked asked;
  drawn = h.drawn;
  pictured = subst (λ ss. IsPicture P ss q.cnf.vars q.picture) (sym h.slots_are) h.pictured;
}

-- the question with one premise more
pub refined_of : (P : Protocol) (asked : Option Block) (exact : Bool) (sizes : List ℕ) (used more : List Model.Formula) (broken : Option Model.Formula) (g : Model.Formula) (old new : Wide) → ((s : Structure) → All (Satisfies s) more → All (Satisfies s) used × HasTruth g true s) → ((s : Structure) → All (Satisfies s) used → HasTruth g true s → All (Satisfies s) more) → IsRefined P g old new → IsQuestion P asked exact sizes used broken old → IsQuestion P asked exact sizes more broken new
refined_of P asked exact sizes used more broken g old new both_of all_of refined h =
    let ps = parameters_asked asked in
    let cs = choices_asked asked in
    let grows = refined.restricts.grows in
    let Old : World → Type 0 = RefutesFrom P asked used broken in
    let New : World → Type 0 = RefutesFrom P asked more broken in
    let scene = scene_of P asked exact sizes used broken old h in
    let before = asks_structure P ps cs exact Old Old (HasTruth g true) old.cnf new.cnf old.frame old.picture h.drawn scene.pictured refined.restricts h.asks in
    let asks = asks_as P ps cs exact (λ w. Old w × HasTruth g true w.structure) (λ w. Old w × HasTruth g true w.structure) New New new.cnf old.frame old.picture
    (λ w is both. (both.0.0, all_of w.structure both.0.1 both.1))
    (λ w is both. let parts = both_of w.structure both.1 in ((both.0, parts.0), parts.1)) before in
    record {
      slots_are = ap (λ (fr : Frame). fr.slots.items) refined.frame ∙ h.slots_are;
      drawn = subst (λ fr. IsFrame P ps cs new.cnf.vars fr) (sym refined.frame) (frame_kept P ps cs old.cnf.vars new.cnf.vars old.frame grows h.drawn);
      pictured = subst (λ pi. IsPicture P sizes new.cnf.vars pi) (sym refined.picture) (picture_kept P sizes old.cnf.vars new.cnf.vars old.picture grows h.pictured);
      asks = subst (λ fr. Asks P ps cs exact New New new.cnf fr new.picture) (sym refined.frame) (subst (λ pi. Asks P ps cs exact New New new.cnf old.frame pi) (sym refined.picture) asks);
    }

last_of : (s : Structure) (used : List Model.Formula) (g : Model.Formula) → All (Satisfies s) (used ++ g ∷ []) → All (Satisfies s) used × HasTruth g true s
last_of s used g all =
    let parts = All-pop (Satisfies s) (used ++ g ∷ []) used (Some g) refl all in
    let at : Satisfies s g = parts.1 in
    (parts.0, search (rules, at))

with_last : (s : Structure) (used : List Model.Formula) (g : Model.Formula) → All (Satisfies s) used → HasTruth g true s → All (Satisfies s) (used ++ g ∷ [])
with_last s used g all at = All-push (Satisfies s) used g all (search (rules, at))

pub refined_last : (P : Protocol) (asked : Option Block) (exact : Bool) (sizes : List ℕ) (used : List Model.Formula) (broken : Option Model.Formula) (g : Model.Formula) (old new : Wide) → IsRefined P g old new → IsQuestion P asked exact sizes used broken old → IsQuestion P asked exact sizes (used ++ g ∷ []) broken new
refined_last P asked exact sizes used broken g old new refined h =
    refined_of P asked exact sizes used (used ++ g ∷ []) broken g old new (λ s all. last_of s used g all) (λ s all at. with_last s used g all at) refined h

-- the truth of a premise in what was decoded is that in what is shown
pub truth_shown : (P : Protocol) (frame : Frame) (picture : Picture) (model : List Bool) (d : Decoded) (g : Model.Formula) (value : Bool) (w : World) → AreDecoded P frame picture model d → HasTruth g value (structure_of P d.structure) → ShowsWorld P frame picture model w → HasTruth g value w.structure
truth_shown P frame picture model d g value w are is shows = subst (HasTruth g value) (are.structure w shows) is

true_not_false : (b : Bool) → b ≡ true → b ≡ false → ⊥
true_not_false b t f = let k : ⊥ = cc in k

-- no assignment that agrees in front with one that shows a structure in which the premise is false is left
pub excluded_of : (P : Protocol) (asked : Option Block) (g : Model.Formula) (old new : Wide) (model bits : List Bool) (w : World) → IsDecided P asked old → IsRefined P g old new → ShowsWorld P old.frame old.picture model w → HasTruth g false w.structure → AreMetBy new.cnf bits → AgreeInFront old bits model → ⊥
excluded_of P asked g old new model bits w decided refined shows is met agree =
    let again = world_kept P (parameters_asked asked) (choices_asked asked) old.bits old.frame old.picture model bits w decided.drawn decided.pictured agree shows in
    true_not_false (value_of w.structure empty_environment g) (refined.restricts.holds bits met w.structure again.structure) is

-- the premise of a number
pub picked_is : (fs : List Source.Formula) (i : ℕ) (d : Source.Formula) → i < length fs → picked (map formula_of fs) (i ∷ []) ≡ formula_of (get_or fs i d) ∷ []
picked_is fs i d below =
    let many = length-map fs formula_of in
    let in' : i < length (map formula_of fs) = omega arith in
    let is : slice_get (map formula_of fs) i ≡ Some (formula_of (get_or fs i d)) = slice_get-get_or (map formula_of fs) i (formula_of d) in' ∙ ap Some (get_or-map formula_of fs i d (formula_of d) below) in
    ap (λ o. cons_option o []) is

-- one number more
pub picked_more : (fs : List Model.Formula) (used : List ℕ) (i : ℕ) → picked fs (used ++ i ∷ []) ≡ picked fs used ++ picked fs (i ∷ [])
picked_more fs used i = filter_map-append (slice_get fs) used (i ∷ [])

pub none_solution : (f : Formula) (answer : Option (Vec Bool Global)) → ((model : Vec Bool Global) → answer ≡ Some model → ⊥) → IsSolution f answer → IsUnsatisfiable f
none_solution f None other h = h
none_solution f (Some model) other h = absurd (other model refl)

-- the question with equal parts
pub question_as : (P : Protocol) (asked : Option Block) (exact : Bool) (sizes : List ℕ) (before : List Model.Formula) (broken : Option Model.Formula) (old new : Wide) → ◌≡◌ {A = Formula} new.cnf old.cnf → new.frame ≡ old.frame → new.picture ≡ old.picture → IsQuestion P asked exact sizes before broken old → IsQuestion P asked exact sizes before broken new
question_as P asked exact sizes before broken old new cnf frame picture h =
    let ps = parameters_asked asked in
    let cs = choices_asked asked in
    let Is : World → Type 0 = RefutesFrom P asked before broken in
    record {
      slots_are = ap (λ (fr : Frame). fr.slots.items) frame ∙ h.slots_are;
      drawn = subst (λ (f : Formula). IsFrame P ps cs f.vars new.frame) (sym cnf) (subst (IsFrame P ps cs old.cnf.vars) (sym frame) h.drawn);
      pictured = subst (λ (f : Formula). IsPicture P sizes f.vars new.picture) (sym cnf) (subst (IsPicture P sizes old.cnf.vars) (sym picture) h.pictured);
      asks = subst (λ (f : Formula). Asks P ps cs exact Is Is f new.frame new.picture) (sym cnf) (subst (λ fr. Asks P ps cs exact Is Is old.cnf fr new.picture) (sym frame) (subst (λ pi. Asks P ps cs exact Is Is old.cnf old.frame pi) (sym picture) h.asks));
    }

-- the question with one number more
pub question_goes_on : (P : Protocol) (asked : Option Block) (fs : List Model.Formula) (used more : List ℕ) (number : ℕ) (f : Model.Formula) (sizes : List ℕ) (q : Wide) → more ≡ used ++ number ∷ [] → All (λ k. k < length fs) used → (number < length fs) × IsOpenQuestion P asked (picked fs used ++ picked fs (number ∷ [])) f sizes q → IsOpenQuestion P asked (picked fs more) f sizes q × All (λ k. k < length fs) more
question_goes_on P asked fs used more number f sizes q is within turn = (
  subst (λ us. IsOpenQuestion P asked (picked fs us) f sizes q) (sym is) (subst (λ gs. IsOpenQuestion P asked gs f sizes q) (sym (picked_more fs used number)) turn.1),
  subst (All (λ k. k < length fs)) (sym is) (All-push (λ k. k < length fs) used number within turn.0),
)
