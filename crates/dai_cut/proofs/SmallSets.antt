-- Inductive lists, the greatest inductive set, the answer and the report over the structures of enough elements are
-- those over all structures.
use Rattle.std.proofs.Common.{◌≡◌, ◌↔◌, ◌<◌, ◌≤◌, get_or, length, ℕ, zero, suc, true, List, [], ◌∷◌, map, Some, sym, ap, subst, refl, arith}
use Rattle.std.specs.Prelude.{slice_get, max}
use Rattle.std.specs.List.{AllZip, Contains}
use Rattle.std.proofs.lemmas.List.Elements.{All-contains}
use Rattle.dai_model.specs.Protocol.{Protocol, Block, Action, Invariant}
use Rattle.dai_model.specs.Structure.{Structure, IsStructure, is_tuple}
use Rattle.dai_model.specs.Value.{environment_of, SatisfiesAxioms}
use Rattle.dai_model.specs.Execution.{executes}
use Rattle.dai_model.specs.Reachable.{IsInitial, IsStepOf}
use Rattle.dai_model.specs.WellSorted.{closed_scope, IsProtocol, IsWellSorted, IsWellSortedBlock}
use Rattle.dai_model.specs.Profile.{IsAccepted, IsBlockInProfile, IsUniversalSentence}
use Rattle.dai_model.specs.Clause.{Clause}
use Rattle.dai_model.specs.Template.{Bounds, IsTemplate}
use Rattle.dai_model.specs.Sizes.{count_of, bound_sorts, greatest, block_count, blocks_of, invariant_count, size_bound, size_bounds, needed_for_block, needed_for_implied}
use Rattle.dai_model.specs.Classes.{Class, all_sizes, up_to, Belongs}
use Rattle.dai_model.specs.Inductive.{IsInductive, IsInGreatest}
use Rattle.dai_model.specs.Answer.{IsMinimal, IsAnswer, IsEntailed, AreMissing}
use Rattle.dai_model.specs.Report.{IsReport}
use Rattle.dai_model.proofs.Frame.{statements_frame}
use Rattle.dai_model.proofs.Induction.{inductive_up_to}
use Rattle.dai_cut.specs.Small.{AreEnough, HoldsAtFirst, bound_counts}
use Rattle.dai_cut.proofs.SmallModel.{enough_length, enough_at, enough_by, number_map, follows_small}
use Rattle.dai_cut.proofs.SmallSteps.{leads}

-- no argument but the empty list
no_arguments : (sizes sorts es : List ℕ) → sorts ≡ [] → is_tuple sizes sorts es ≡ true → es ≡ []
no_arguments sizes [] [] e h = refl
no_arguments sizes [] (x ∷ es) e h = absurd (let k : ⊥ = cc in k)
no_arguments sizes (sort ∷ sorts) es e h = absurd (let k : ⊥ = cc in k)

class_kept : (sizes : List ℕ) (s t : Structure) → t.sizes ≡ s.sizes → Belongs (up_to sizes) s → Belongs (up_to sizes) t
class_kept sizes s t e h = subst (λ own. AllZip (λ size most. size ≤ most) own sizes) (sym e) h

-- a step by init leads to an initial state, and each is led to by one
pub left_by_init : (P : Protocol) (s t : Structure) → IsProtocol P → IsStructure P s → SatisfiesAxioms P s → IsStepOf P P.init s t → IsInitial P t
left_by_init P s t p st axioms step =
    let none = no_arguments s.sizes P.init.parameters step.arguments p.no_arguments step.given in
    let leaves : executes P P.init s [] step.choices ≡ Some t = subst (λ es. executes P P.init s es step.choices ≡ Some t) none step.leaves in
    record { before = s; choices = step.choices; structure = st; axioms = axioms; chosen = step.chosen; leaves = leaves }

pub step_by_init : (P : Protocol) (t : Structure) (init : IsInitial P t) → IsProtocol P → IsStepOf P P.init init.before t
step_by_init P t init p = record { arguments = []; choices = init.choices; given = rw p.no_arguments refl; chosen = init.chosen; leaves = init.leaves }

pub still_small : (P : Protocol) (block : Block) (sizes : List ℕ) (s t : Structure) → IsStepOf P block s t → Belongs (up_to sizes) s → Belongs (up_to sizes) t
still_small P block sizes s t step inside = class_kept sizes s t (statements_frame P (environment_of step.arguments step.choices) block.code s t step.leaves).sizes inside

pub begins : (P : Protocol) (B : Bounds) (goal : Clause) (sizes : List ℕ) → IsAccepted P → IsTemplate P B goal → AreEnough P (needed_for_block P P.init goal.counts) sizes → HoldsAtFirst (up_to sizes) P goal → HoldsAtFirst all_sizes P goal
begins P B goal sizes p template enough small =
    λ s _ init.
    leads P B P.init [] goal sizes p p.sorted.init p.profile.init
    (λ c k. absurd (let l = k.1 in omega arith)) template enough
    (λ u t inside st axioms meets step. small t (still_small P P.init sizes u t step inside) (left_by_init P u t p.sorted st axioms step))
    init.before s tt init.structure init.axioms
    (λ c k. absurd (let l = k.1 in omega arith))
    (step_by_init P s init p.sorted)

-- the greatest of the counts
counted_in : {X : Type 0} (count : X → ℕ) (xs : List X) (k : ℕ) (x : X) → slice_get xs k ≡ Some x → count x ≤ greatest (map count xs)
counted_in count [] k x h = absurd (let n : ⊥ = cc in n)
counted_in count (y ∷ xs) zero x h =
    let same : y ≡ x = cc in
    subst (λ z. count z ≤ max (count y) (greatest (map count xs))) same (omega arith)
counted_in count (y ∷ xs) (suc k) x h = let rest = counted_in count xs k x h in omega (arith, rest)

place_of_member : {X : Type 0} (xs : List X) (k : ℕ) (x : X) → k < length xs → get_or xs k x ≡ x → slice_get xs k ≡ Some x
place_of_member [] k x below is = absurd (omega (arith, below))
place_of_member (y ∷ xs) zero x below is = ap Some is
place_of_member (y ∷ xs) (suc k) x below is = place_of_member xs k x (omega (arith, below)) is

found_at : {X : Type 0} (xs : List X) (x : X) → Contains xs x → (k : ℕ) × (slice_get xs k ≡ Some x)
found_at xs x h = (h.0, place_of_member xs h.0 x h.1 h.2)

mapped_block : (actions : List Action) (k : ℕ) (a : Action) → slice_get actions k ≡ Some a → slice_get (map (λ (a : Action). a.block) actions) k ≡ Some a.block
mapped_block [] k a h = absurd (let n : ⊥ = cc in n)
mapped_block (b ∷ actions) zero a h = let same : b ≡ a = cc in ap (λ (c : Action). Some c.block) same
mapped_block (b ∷ actions) (suc k) a h = mapped_block actions k a h

-- the bounds are enough for each question
init_enough : (P : Protocol) (B : Bounds) (c : Clause) (sizes : List ℕ) → IsTemplate P B c → AreEnough P (size_bound P B.variables) sizes → AreEnough P (needed_for_block P P.init c.counts) sizes
init_enough P B c sizes t enough =
    enough_by P (needed_for_block P P.init c.counts) sizes (enough_length P (size_bound P B.variables) sizes enough)
    (λ sort below.
    let a = enough_at P (size_bound P B.variables) sizes sort enough below in
    let b = counted_in (block_count sort) (blocks_of P) 0 P.init refl in
    let d = t.few_variables sort in
    omega (arith, a, b, d))

action_enough : (P : Protocol) (B : Bounds) (c : Clause) (a : Action) (sizes : List ℕ) → Contains P.actions a → IsTemplate P B c → AreEnough P (size_bound P B.variables) sizes → AreEnough P (needed_for_block P a.block c.counts) sizes
action_enough P B c action sizes exported t enough =
    let found = found_at P.actions action exported in
    enough_by P (needed_for_block P action.block c.counts) sizes (enough_length P (size_bound P B.variables) sizes enough)
    (λ sort below.
    let a = enough_at P (size_bound P B.variables) sizes sort enough below in
    let b = counted_in (block_count sort) (blocks_of P) (suc found.0) action.block (mapped_block P.actions found.0 action found.1) in
    let d = t.few_variables sort in
    omega (arith, a, b, d))

invariant_enough : (P : Protocol) (B : Bounds) (i : ℕ) (f : Invariant) (sizes : List ℕ) → slice_get P.invariants i ≡ Some f → AreEnough P (size_bound P B.variables) sizes → AreEnough P (needed_for_implied P (bound_counts P f.body)) sizes
invariant_enough P B i f sizes found enough =
    enough_by P (needed_for_implied P (bound_counts P f.body)) sizes (enough_length P (size_bound P B.variables) sizes enough)
    (λ sort below.
    let a = enough_at P (size_bound P B.variables) sizes sort enough below in
    let b = counted_in (invariant_count sort) P.invariants i f found in
    let c = number_map (λ t. count_of t (bound_sorts f.body)) (length P.sorts) sort below in
    omega (arith, a, b, c))

pub inductive_small : (P : Protocol) (B : Bounds) (clauses : List Clause) (sizes : List ℕ) → IsAccepted P → ((c : Clause) → Contains clauses c → IsTemplate P B c) → AreEnough P (size_bound P B.variables) sizes → IsInductive (up_to sizes) P clauses → IsInductive all_sizes P clauses
inductive_small P B clauses sizes p templates enough i = record {
  initiation = λ s _ init c k.
      begins P B c sizes p (templates c k) (init_enough P B c sizes (templates c k) enough) (λ u inside first. i.initiation u inside first c k) s tt init;
  consecution = λ s t _ st axioms meets step c k.
      let sorted = All-contains (λ (a : Action). IsWellSortedBlock P a.block) P.actions step.action p.sorted.actions step.exported in
      let profile = All-contains (λ (a : Action). IsBlockInProfile a.block) P.actions step.action p.profile.actions step.exported in
      leads P B step.action.block clauses c sizes p sorted profile templates (templates c k) (action_enough P B c step.action sizes step.exported (templates c k) enough)
      (λ u v inside own own_axioms own_meets own_step. i.consecution u v inside own own_axioms own_meets (record { action = step.action; exported = step.exported; step = own_step }) c k)
      s t tt st axioms meets step.step;
}

pub inductive_same : (P : Protocol) (B : Bounds) (clauses : List Clause) (sizes : List ℕ) → IsAccepted P → ((c : Clause) → Contains clauses c → IsTemplate P B c) → AreEnough P (size_bound P B.variables) sizes → IsInductive (up_to sizes) P clauses ↔ IsInductive all_sizes P clauses
inductive_same P B clauses sizes p templates enough = (inductive_small P B clauses sizes p templates enough, inductive_up_to P clauses sizes)

-- two classes with one greatest set
record OneSet (P : Protocol) (B : Bounds) (C D : Class) : Type 0 where
  there : (c : Clause) → IsInGreatest C P B c → IsInGreatest D P B c
  back : (c : Clause) → IsInGreatest D P B c → IsInGreatest C P B c

turned_set : (P : Protocol) (B : Bounds) (C D : Class) → OneSet P B C D → OneSet P B D C
turned_set P B C D o = record { there = o.back; back = o.there }

one_set : (P : Protocol) (B : Bounds) (sizes : List ℕ) → IsAccepted P → AreEnough P (size_bound P B.variables) sizes → OneSet P B (up_to sizes) all_sizes
one_set P B sizes p enough = record {
  there = λ c g. record { witness = g.witness; templates = g.templates; inductive = inductive_small P B g.witness sizes p g.templates enough g.inductive; member = g.member };
  back = λ c g. record { witness = g.witness; templates = g.templates; inductive = inductive_up_to P g.witness sizes g.inductive; member = g.member };
}

pub greatest_same : (P : Protocol) (B : Bounds) (c : Clause) (sizes : List ℕ) → IsAccepted P → AreEnough P (size_bound P B.variables) sizes → IsInGreatest (up_to sizes) P B c ↔ IsInGreatest all_sizes P B c
greatest_same P B c sizes p enough = let o = one_set P B sizes p enough in (o.there c, o.back c)

minimal_moved : (P : Protocol) (B : Bounds) (C D : Class) (c : Clause) → OneSet P B C D → IsMinimal C P B c → IsMinimal D P B c
minimal_moved P B C D c o m = record { greatest = o.there c m.greatest; canonical = m.canonical; least = λ d g. m.least d (o.back d g) }

answer_moved : (P : Protocol) (B : Bounds) (C D : Class) (answer : List Clause) → OneSet P B C D → IsAnswer C P B answer → IsAnswer D P B answer
answer_moved P B C D answer o a = record {
  in_order = a.in_order;
  sound = λ c k. minimal_moved P B C D c o (a.sound c k);
  complete = λ c m. a.complete c (minimal_moved P B D C c (turned_set P B C D o) m);
}

pub answer_same : (P : Protocol) (B : Bounds) (answer : List Clause) (sizes : List ℕ) → IsAccepted P → AreEnough P (size_bound P B.variables) sizes → IsAnswer (up_to sizes) P B answer ↔ IsAnswer all_sizes P B answer
answer_same P B answer sizes p enough =
    let o = one_set P B sizes p enough in
    (answer_moved P B (up_to sizes) all_sizes answer o, answer_moved P B all_sizes (up_to sizes) answer (turned_set P B (up_to sizes) all_sizes o))

all_found : {X : Type 0} (Q : X → Type 0) (xs : List X) (k : ℕ) (x : X) → ((i : ℕ) (d : X) → i < length xs → Q (get_or xs i d)) → slice_get xs k ≡ Some x → Q x
all_found Q [] k x h found = absurd (let n : ⊥ = cc in n)
all_found Q (y ∷ xs) zero x h found = let same : y ≡ x = cc in subst Q same (h 0 x (omega arith))
all_found Q (y ∷ xs) (suc k) x h found = all_found Q xs k x (λ i d below. h (suc i) d (omega (arith, below))) found

pub entailed_same : (P : Protocol) (B : Bounds) (i : ℕ) (f : Invariant) (sizes : List ℕ) → IsAccepted P → AreEnough P (size_bound P B.variables) sizes → slice_get P.invariants i ≡ Some f → IsEntailed (up_to sizes) P B f.body ↔ IsEntailed all_sizes P B f.body
entailed_same P B i f sizes p enough found =
    let o = one_set P B sizes p enough in
    let sorted = all_found (λ (g : Invariant). IsWellSorted P closed_scope g.body) P.invariants i f p.sorted.invariants found in
    let universal = all_found (λ (g : Invariant). IsUniversalSentence g.body) P.invariants i f p.profile.invariants found in (
      (λ small s _ st axioms meets.
          follows_small P (IsInGreatest all_sizes P B) f.body sizes p (λ c g. (B, g.templates c g.member)) sorted universal.force (invariant_enough P B i f sizes found enough)
          (λ u inside own own_axioms own_meets. small u inside own own_axioms (λ c g. own_meets c (o.there c g)))
          s st axioms meets),
      (λ large s inside st axioms meets. large s tt st axioms (λ c g. meets c (o.back c g))),
    )

pub missing_same : (P : Protocol) (B : Bounds) (missing : List ℕ) (sizes : List ℕ) → IsAccepted P → AreEnough P (size_bound P B.variables) sizes → AreMissing (up_to sizes) P B missing ↔ AreMissing all_sizes P B missing
missing_same P B missing sizes p enough = (
  (λ m. record {
    in_order = m.in_order;
    refuted = λ i k. (let r = m.refuted i k in (r.0, r.1, (λ e. r.2 ((entailed_same P B i r.0 sizes p enough r.1).1 e))));
    others = λ i f found k. (entailed_same P B i f sizes p enough found).0 (m.others i f found k);
  }),
  (λ m. record {
    in_order = m.in_order;
    refuted = λ i k. (let r = m.refuted i k in (r.0, r.1, (λ e. r.2 ((entailed_same P B i r.0 sizes p enough r.1).0 e))));
    others = λ i f found k. (entailed_same P B i f sizes p enough found).1 (m.others i f found k);
  }),
)

pub report_same : (P : Protocol) (B : Bounds) (text : List ℕ) (sizes : List ℕ) → IsAccepted P → AreEnough P (size_bound P B.variables) sizes → IsReport (up_to sizes) P B text ↔ IsReport all_sizes P B text
report_same P B text sizes p enough = (
  (λ r. record { answer = r.answer; missing = r.missing; is_answer = (answer_same P B r.answer sizes p enough).0 r.is_answer; are_missing = (missing_same P B r.missing sizes p enough).0 r.are_missing; text_is = r.text_is }),
  (λ r. record { answer = r.answer; missing = r.missing; is_answer = (answer_same P B r.answer sizes p enough).1 r.is_answer; are_missing = (missing_same P B r.missing sizes p enough).1 r.are_missing; text_is = r.text_is }),
)

-- the bounds themselves
itself : (xs : List ℕ) → AllZip (λ x y. x ≤ y) xs xs
itself [] = tt
itself (x ∷ xs) = (omega arith, itself xs)

pub bounds_enough : (P : Protocol) (B : Bounds) → AreEnough P (size_bound P B.variables) (size_bounds P B.variables)
bounds_enough P B = itself (size_bounds P B.variables)
