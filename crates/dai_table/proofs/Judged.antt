-- What the table shows of a clause.
use Rattle.std.proofs.Common.{inl, inr, ◌≡◌, ◌++◌, ◌∷◌, ◌<◌, ◌+◌, ◌↔◌, ℕ, suc, Bool, true, false, List, [], Option, Some, length, map, get_or, subst, sym, ◌∙◌, ap, refl, arith, IsTrue, ⊎_elim, Vec}
use Rattle.std.specs.declared.alloc.Global.{Global}
use Rattle.std.specs.Prelude.{slice_get, slice_index_or, ◌⊎◌, ◌&&◌}
use Rattle.std.specs.List.{Contains, list_any}
use Rattle.std.proofs.lemmas.Bool.{false≢true}
use Rattle.std.proofs.lemmas.Option.{slice_get-get_or, slice_get_within, get_or_from_slice_get}
use Rattle.std.proofs.lemmas.List.{get_or_default, get_or-map, get_or_append_left, get_or_push, length-map}
use Rattle.dai_model.specs.Formula.{Formula}
use Rattle.dai_model.specs.Protocol.{Protocol, Block, Action, Relation}
use Rattle.dai_model.specs.Structure as Model
use Rattle.dai_model.specs.Structure.{IsStructure, is_tuple, is_tuple_of}
use Rattle.dai_model.specs.Value.{Satisfies, SatisfiesAxioms}
use Rattle.dai_model.specs.WellSorted.{IsProtocol, IsWellSortedBlock}
use Rattle.dai_model.specs.Execution.{executes}
use Rattle.dai_model.specs.Reachable.{AreElements}
use Rattle.dai_model.specs.Clause as Clauses
use Rattle.dai_model.specs.Clause.{Meets, MeetsEach}
use Rattle.dai_model.specs.Template.{Bounds}
use Rattle.dai_model.specs.Classes.{all_sizes}
use Rattle.dai_logic.specs.Tables.{structure_with, tuple_count, bit_in}
use Rattle.dai_logic.proofs.Standing.{stood_for}
use Rattle.dai_template.specs.declared.clause.Clause.{Clause}
use Rattle.dai_template.specs.declared.space.Space.{Space}
use Rattle.dai_template.specs.Spaces.{IsClauseOf, clause_of}
use Rattle.dai_template.specs.Lists.{clauses_of}
use Rattle.dai_weaken.specs.Judging.{HoldsAtFirst, HoldsAfter, Follows}
use Rattle.dai_table.specs.declared.steps.Step.{Step}
use Rattle.dai_table.specs.Flags.{IsTableOf, alone, state, holds_in}
use Rattle.dai_table.specs.Steps.{state_at, AreStates, flags_in, AreSteps, AreActionSteps, IsStepAt, IsTable, lists_in}
use Rattle.dai_table.specs.Answers.{MeetEach, AreFrom, NoneBreaks, Breaks, ArePreparedFor}
use Rattle.dai_table.proofs.Fitting.{no_sorts, no_individuals}
use Rattle.dai_table.proofs.Tabling.{in_cases}
use Rattle.dai_table.proofs.Stepping.{next_cases}
use Rattle.dai_table.proofs.Literals.{within, met}

-- every structure of the protocol is a state
first : List Bool → Bool
first bs = get_or bs 0 false

one_alone : (bs : List Bool) → length bs ≡ 1 → alone (get_or bs 0 false) ≡ bs
one_alone [] e = absurd (omega (arith, e))
one_alone (b ∷ []) e = refl
one_alone (b ∷ c ∷ bs) e = absurd (omega (arith, e))

alone_each : (ts : List (List Bool)) → ((k : ℕ) → k < length ts → length (slice_index_or ts k []) ≡ 1) → map alone (map (λ (bs : List Bool). get_or bs 0 false) ts) ≡ ts
alone_each [] h = refl
alone_each (t ∷ ts) h = ap (λ u. u ∷ map alone (map (λ (bs : List Bool). get_or bs 0 false) ts)) (one_alone t (h 0 (omega arith))) ∙ ap (λ us. t ∷ us) (alone_each ts (λ k below. h (suc k) (omega (arith, below))))

empty : {X : Type 0} (xs : List X) → length xs ≡ 0 → xs ≡ []
empty [] e = refl
empty (x ∷ xs) e = absurd (omega (arith, e))

pub record IsStateOf (P : Protocol) (s : Model.Structure) : Type 0 where
  pub flags : List Bool
  pub long : length flags ≡ length P.relations
  pub is : state P flags ≡ s

pub some_state : (P : Protocol) → IsProtocol P → IsTableOf P → (s : Model.Structure) → IsStructure P s → IsStateOf P s
some_state P protocol table s structure =
    let none : length P.sorts ≡ 0 = ap length table.no_types in
    let long_sizes = structure.one_size_each in
    let stood = stood_for P s structure (λ k d below. absurd (omega (arith, below, long_sizes, none))) in
    let fit = stood.fit in
    let sizes : stood.sizes ≡ [] = empty stood.sizes (let e = fit.one_size_each in omega (arith, e, none)) in
    let values : stood.values ≡ [] = empty stood.values (let e = fit.one_value_each in let f = ap length (no_individuals (length P.sorts) P.individuals none protocol.individuals) in omega (arith, e, f)) in
    let many = fit.one_table_each in
    let d : Relation = record { name = []; arguments = [] } in
    let one : (k : ℕ) → k < length stood.tables → length (slice_index_or stood.tables k []) ≡ 1 =
    λ k below.
    let inside : k < length P.relations = omega (arith, below, many) in
    let R = get_or P.relations k d in
    fit.whole_tables k R (slice_get-get_or P.relations k d inside) ∙ ap (tuple_count stood.sizes) (no_sorts (length P.sorts) R.arguments none (protocol.relations k d inside)) in
    let flags = map (λ (bs : List Bool). get_or bs 0 false) stood.tables in
    let tables : map alone flags ≡ stood.tables = alone_each stood.tables one in
    record {
      flags = flags;
      long = length-map stood.tables (λ (bs : List Bool). get_or bs 0 false) ∙ many;
      is = (λ i. structure_with P (sym sizes i) (tables i) (sym values i)) ∙ stood.stand;
    }

-- and every state is a structure
and_left : (a b : Bool) → IsTrue (a && b) → IsTrue a
and_left true b h = refl
and_left false b h = h

pub state_structure : (P : Protocol) → IsProtocol P → IsTableOf P → (flags : List Bool) → IsStructure P (state P flags)
state_structure P protocol table flags =
    let none : length P.sorts ≡ 0 = ap length table.no_types in
    let individuals = ap length (no_individuals (length P.sorts) P.individuals none protocol.individuals) in
    record {
      one_size_each = sym none;
      inhabited = λ k d below. absurd (omega (arith, below));
      tuples_inside = λ r es h. and_left (is_tuple_of P [] r es) (bit_in [] (slice_index_or (map alone flags) r []) (slice_get P.relations r) es) h;
      elements_inside = λ i I found. absurd (let below = slice_get_within P.individuals i I found in omega (arith, below, individuals));
      nothing_outside = λ i past. refl;
    }

-- the flags of a place
pub flags_at : (ss : List (Vec Bool Global)) (i : ℕ) (v : Vec Bool Global) (flags : List Bool) → i < length ss → v ≡ get_or ss i v → flags ≡ v.items → flags ≡ slice_index_or (flags_in ss) i []
flags_at ss i v flags below is e = e ∙ sym (get_or-map (λ (u : Vec Bool Global). u.items) ss i v [] below ∙ ap (λ (u : Vec Bool Global). u.items) (sym is))

from_map : {X Y : Type 0} (f : X → Y) (xs : List X) (y : Y) → Contains (map f xs) y → (x : X) × Contains xs x × (f x ≡ y)
from_map f [] y there = absurd (let less = there.1 in omega (arith, less))
from_map f (x ∷ xs) y there = ⊎_elim (λ e. (x, (0, omega arith, refl), e)) (λ rest. let w = from_map f xs y rest in let below = w.1.1 in (w.0, (suc w.1.0, omega (arith, below), w.1.2), w.2)) (in_cases (f x) (map f xs) y there)

in_map : {X Y : Type 0} (f : X → Y) (xs : List X) (x : X) → Contains xs x → Contains (map f xs) (f x)
in_map f xs x there = let many = length-map xs f in let below = there.1 in (there.0, omega (arith, many, below), get_or-map f xs there.0 x (f x) there.1 ∙ ap f there.2)

-- which clauses a state meets
meets_clauses : (P : Protocol) → IsProtocol P → IsTableOf P → (B : Bounds) (space : Space) (clauses : List Clause) (flags : List Bool) → length flags ≡ length P.relations → ((c : Clause) → Contains clauses c → IsClauseOf P B space c)
    → MeetEach flags clauses ↔ MeetsEach P (state P flags) (clauses_of space clauses)
meets_clauses P protocol table B space clauses flags long each = (
  λ h m there.
      let own = from_map (clause_of space) clauses m there in
      subst (Meets P (state P flags)) own.2 ((met P protocol table B space own.0 (each own.0 own.1) flags long).0 (h own.0 own.1)),
  λ h c there. (met P protocol table B space c (each c there) flags long).1 (h (clause_of space c) (in_map (clause_of space) clauses c there)),
)

-- one more state is known
pub known_next : (states : List (List Bool)) (clauses : List Clause) (ms new : List Bool) (i : ℕ) (r : Bool) (flags : List Bool) → length ms ≡ i → new ≡ ms ++ r ∷ [] → flags ≡ slice_index_or states i [] → (IsTrue r ↔ MeetEach flags clauses)
    → ((k : ℕ) → k < i → (slice_index_or ms k false ≡ true) ↔ MeetEach (slice_index_or states k []) clauses) → (k : ℕ) → k < i + 1 → (slice_index_or new k false ≡ true) ↔ MeetEach (slice_index_or states k []) clauses
known_next states clauses ms new i r flags long e at own h k below = subst (λ bs. (slice_index_or bs k false ≡ true) ↔ MeetEach (slice_index_or states k []) clauses) (sym e) (by (next_cases k i below))
  where
    by : (k < i) ⊎ (k ≡ i) → (slice_index_or (ms ++ r ∷ []) k false ≡ true) ↔ MeetEach (slice_index_or states k []) clauses
    by (inl less) = subst (λ b. (b ≡ true) ↔ MeetEach (slice_index_or states k []) clauses) (sym (get_or_append_left ms (r ∷ []) false k (omega (arith, less, long)))) (h k less)
    by (inr same) =
        subst (λ b. (b ≡ true) ↔ MeetEach (slice_index_or states k []) clauses) (sym (get_or_push ms r false k (long ∙ sym same)))
        (subst (λ j. (r ≡ true) ↔ MeetEach (slice_index_or states j []) clauses) (sym same) (subst (λ fs. (r ≡ true) ↔ MeetEach fs clauses) at own))

pub prepared_all : (P : Protocol) (B : Bounds) (space : Space) (states : List (List Bool)) (clauses : List Clause) (ms : List Bool) (i : ℕ) → IsProtocol P → IsTableOf P → AreStates P states → ((c : Clause) → Contains clauses c → IsClauseOf P B space c) → length ms ≡ i → i ≡ length states
    → ((k : ℕ) → k < i → (slice_index_or ms k false ≡ true) ↔ MeetEach (slice_index_or states k []) clauses) → ArePreparedFor P states ms (clauses_of space clauses)
prepared_all P B space states clauses ms i protocol table are each long end h = record {
  long = long ∙ end;
  exact = λ k below.
      let own = h k (omega (arith, end, below)) in
      let both = meets_clauses P protocol table B space clauses (slice_index_or states k []) (are k below) each in
      (λ known. both.0 (own.0 known), λ all. own.1 (both.1 all));
}

-- where there is no type there is nothing to choose
no_elements : (sizes sorts es : List ℕ) → sorts ≡ [] → IsTrue (is_tuple sizes sorts es) → es ≡ []
no_elements sizes sorts es e h = by es (subst (λ ss. IsTrue (is_tuple sizes ss es)) e h)
  where
    by : (es : List ℕ) → IsTrue (is_tuple sizes [] es) → es ≡ []
    by [] h = refl
    by (x ∷ es) h = absurd (false≢true h)

-- the action of a number, and the steps by it
pub action_at : (P : Protocol) (n : ℕ) → n < length P.actions → (a : Action) × (slice_get P.actions n ≡ Some a)
action_at P n below = let d : Action = record { name = []; block = P.init } in (get_or P.actions n d, slice_get-get_or P.actions n d below)

pub steps_at : (P : Protocol) (actions : List (Vec Step Global)) (states : List (List Bool)) → AreActionSteps P states (length P.actions) (lists_in actions) → (n : ℕ) → n < length P.actions → (from : ℕ) → from ≡ n
    → (own : Vec Step Global) → own ≡ slice_index_or actions from own → (steps : List Step) → steps ≡ own.items → steps ≡ slice_index_or (lists_in actions) n []
steps_at P actions states h n below from same own is steps e =
    let many = length-map actions (λ (v : Vec Step Global). v.items) in
    let all = h.as_many in
    e ∙ ap (λ (v : Vec Step Global). v.items) (is ∙ ap (λ k. get_or actions k own) same) ∙ sym (get_or-map (λ (v : Vec Step Global). v.items) actions n own [] (omega (arith, many, all, below)))

module _ (P : Protocol) (states : List (List Bool)) (init : List Step) (actions : List (List Step)) (table : IsTable P states init actions) where
  pub within_each : (B : Bounds) (space : Space) (c : Clause) → IsClauseOf P B space c → (b : Block) (steps : List Step) → AreSteps P b states (length states) steps → AreFrom steps (length states) c
  within_each B space c is b steps h = record {
    inside = λ s there. (h.sound s there).inside;
    within = λ s there. within P table.protocol table.flags B space c is (length s.after.items) (h.sound s there).long;
  }

  -- the number of a state that meets the axioms
  number_of : (s : Model.Structure) → IsStructure P s → SatisfiesAxioms P s → (k : ℕ) × (k < length states) × (state_at P states k ≡ s)
  number_of s structure axioms =
      let own = some_state P table.protocol table.flags s structure in
      let there = table.states_of.all_states own.flags own.long (subst (SatisfiesAxioms P) (sym own.is) axioms) in
      (there.0, there.1, ap (state P) (get_or_default states there.0 [] own.flags there.1 ∙ there.2) ∙ own.is)

  -- what the steps by a block show, where it has nothing to choose
  after_block : (b : Block) (steps : List Step) (ms : List Bool) (B : Bounds) (space : Space) (c : Clause) → IsClauseOf P B space c → IsWellSortedBlock P b → AreSteps P b states (length states) steps → NoneBreaks steps ms c
      → (k : ℕ) → k < length states → slice_index_or ms k false ≡ true → (t : Model.Structure) → executes P b (state_at P states k) [] [] ≡ Some t → Meets P t (clause_of space c)
  after_block b steps ms B space c is sorted h none k below known t leaves =
      let at = h.complete k below t leaves in
      let value = none at.step at.listed (ap (λ j. slice_index_or ms j false) at.from_it ∙ known) in
      subst (λ s. Meets P s (clause_of space c)) at.to_it ((met P table.protocol table.flags B space c is at.step.after.items (h.sound at.step at.listed).long).0 value)

  no_types : length P.sorts ≡ 0
  no_types = ap length table.flags.no_types

  alone_executes : (b : Block) (s : Model.Structure) (arguments choices : List ℕ) (o : Option Model.Structure) → IsWellSortedBlock P b → AreElements s b.parameters arguments → AreElements s b.choices choices → executes P b s arguments choices ≡ o → executes P b s [] [] ≡ o
  alone_executes b s arguments choices o sorted given chosen e =
      let no_arguments = no_elements s.sizes b.parameters arguments (no_sorts (length P.sorts) b.parameters no_types sorted.parameters) given in
      let no_choices = no_elements s.sizes b.choices choices (no_sorts (length P.sorts) b.choices no_types sorted.choices) chosen in
      sym (ap (λ es. executes P b s es choices) no_arguments ∙ ap (λ es. executes P b s [] es) no_choices) ∙ e

  pub holds_at_first : (ms : List Bool) (B : Bounds) (space : Space) (c : Clause) → IsClauseOf P B space c → ((k : ℕ) → k < length states → slice_index_or ms k false ≡ true) → NoneBreaks init ms c → HoldsAtFirst all_sizes P (clause_of space c)
  holds_at_first ms B space c is every none = λ s belongs initial.
      let at = number_of initial.before initial.structure initial.axioms in
      let leaves = alone_executes P.init initial.before [] initial.choices (Some s) table.protocol.init (subst (λ sorts. AreElements initial.before sorts []) (sym table.protocol.no_arguments) refl) initial.chosen initial.leaves in
      after_block P.init init ms B space c is table.protocol.init table.init_steps none at.0 at.1 (every at.0 at.1) s (ap (λ r. executes P P.init r [] []) at.2 ∙ leaves)

  action_sorted : (n : ℕ) (a : Action) → slice_get P.actions n ≡ Some a → IsWellSortedBlock P a.block
  action_sorted n a is =
      let below = slice_get_within P.actions n a is in
      let same = get_or_from_slice_get P.actions n a a is in
      subst (λ (d : Action). IsWellSortedBlock P d.block) same (table.protocol.actions n a below)

  pub holds_after : (ms : List Bool) (I : List Clauses.Clause) (B : Bounds) (space : Space) (c : Clause) → IsClauseOf P B space c → ArePreparedFor P states ms I → (n : ℕ) → NoneBreaks (slice_index_or actions n []) ms c
      → (a : Action) → slice_get P.actions n ≡ Some a → HoldsAfter all_sizes P I a (clause_of space c)
  holds_after ms I B space c is prepared n none a named = λ s t belongs structure axioms premises step.
      let at = number_of s structure axioms in
      let sorted = action_sorted n a named in
      let leaves = alone_executes a.block s step.arguments step.choices (Some t) sorted step.given step.chosen step.leaves in
      let known = (prepared.exact at.0 at.1).1 (subst (λ r. MeetsEach P r I) (sym at.2) premises) in
      after_block a.block (slice_index_or actions n []) ms B space c is sorted (table.action_steps.each n a (slice_get_within P.actions n a named) named) none at.0 at.1 known t (ap (λ r. executes P a.block r [] []) at.2 ∙ leaves)

  -- a state that breaks a clause
  pub not_met : (B : Bounds) (space : Space) (c : Clause) → IsClauseOf P B space c → (flags : List Bool) → length flags ≡ length P.relations → list_any (holds_in flags) c.lits.items ≡ false → Meets P (state P flags) (clause_of space c) → ⊥
  not_met B space c is flags long broken all = false≢true (sym broken ∙ (met P table.protocol table.flags B space c is flags long).1 all)

  pub follows : (ms : List Bool) (I : List Clauses.Clause) (f : Formula) → ArePreparedFor P states ms I → ((k : ℕ) → k < length states → slice_index_or ms k false ≡ true → Satisfies (state_at P states k) f) → Follows all_sizes P I f
  follows ms I f prepared each = λ s belongs structure axioms premises.
      let at = number_of s structure axioms in
      subst (λ r. Satisfies r f) at.2 (each at.0 at.1 ((prepared.exact at.0 at.1).1 (subst (λ r. MeetsEach P r I) (sym at.2) premises)))

  -- the step of a place at which a clause is broken
  module _ (b : Block) (steps : List Step) (h : AreSteps P b states (length states) steps) (ms : List Bool) (c : Clause) (place : ℕ) (step : Step) (broken : Breaks steps ms c place) (is : step ≡ slice_index_or steps place step) where
    same_step : step ≡ broken.step
    same_step = is ∙ get_or_default steps place step broken.step broken.inside ∙ broken.is

    pub listed_step : IsStepAt P b states (length states) step
    listed_step = h.sound step (place, broken.inside, sym is)

    pub met_before : slice_index_or ms step.from false ≡ true
    met_before = ap (λ (s : Step). slice_index_or ms s.from false) same_step ∙ broken.met_before

    pub broken_after : (B : Bounds) (space : Space) → IsClauseOf P B space c → (t : Model.Structure) → t ≡ state P step.after.items → Meets P t (clause_of space c) → ⊥
    broken_after B space own t e all =
        not_met B space c own step.after.items listed_step.long (ap (λ (s : Step). list_any (holds_in s.after.items) c.lits.items) same_step ∙ broken.broken) (subst (λ r. Meets P r (clause_of space c)) e all)

    pub premises_before : (I : List Clauses.Clause) → ArePreparedFor P states ms I → (s : Model.Structure) → s ≡ state_at P states step.from → MeetsEach P s I
    premises_before I prepared s e = subst (λ r. MeetsEach P r I) (sym e) ((prepared.exact step.from listed_step.inside).0 met_before)
