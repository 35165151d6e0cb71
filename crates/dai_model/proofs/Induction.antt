-- Unions of inductive lists, and what the greatest inductive set says of reachable states.
use Rattle.std.proofs.Common.{◌≡◌, ℕ, zero, suc, ◌∷◌, ◌++◌, List, [], refl, subst, arith, ⊎_elim}
use Rattle.std.proofs.lemmas.List.Elements.{All-contains, Contains-append_left, Contains-append_right, Contains-append_cases}
use Rattle.dai_model.specs.Protocol.{Protocol, Action}
use Rattle.dai_model.specs.Structure.{Structure, IsStructure}
use Rattle.dai_model.specs.Value.{SatisfiesAxioms, environment_of}
use Rattle.dai_model.specs.WellSorted.{IsProtocol, IsWellSortedBlock, SparesAxioms}
use Rattle.dai_model.specs.Reachable.{IsInitial, IsStep, IsReachable, initially, by_step}
use Rattle.dai_model.specs.Clause.{Clause, Meets, MeetsEach}
use Rattle.dai_model.specs.Template.{Bounds}
use Rattle.dai_model.specs.Classes.{Class, all_sizes, up_to, Belongs}
use Rattle.dai_model.specs.Inductive.{IsInductive, IsInGreatest, LieInOne}
use Rattle.std.specs.Prelude.{◌≤◌}
use Rattle.std.specs.List.{AllZip, Contains}
use Rattle.dai_model.proofs.Typed.{executes_structure, axioms_kept}
use Rattle.dai_model.proofs.Frame.{statements_frame}

pub union_inductive : (C : Class) (P : Protocol) (I J : List Clause) → IsInductive C P I → IsInductive C P J → IsInductive C P (I ++ J)
union_inductive C P I J i j = record {
  initiation = λ s inside init c h. ⊎_elim (λ a. i.initiation s inside init c a) (λ b. j.initiation s inside init c b) (Contains-append_cases I J c h);
  consecution = λ s t inside st axioms meets step c h.
      ⊎_elim (λ a. i.consecution s t inside st axioms (λ d k. meets d (Contains-append_left I J d k)) step c a)
      (λ b. j.consecution s t inside st axioms (λ d k. meets d (Contains-append_right I J d k)) step c b)
      (Contains-append_cases I J c h);
}

pub none_inductive : (C : Class) (P : Protocol) → IsInductive C P []
none_inductive C P = record {
  initiation = λ s inside init c h. absurd (let k = h.1 in omega arith);
  consecution = λ s t inside st axioms meets step c h. absurd (let k = h.1 in omega arith);
}

-- members of the greatest set lie in one inductive list
pub in_one : (C : Class) (P : Protocol) (B : Bounds) (clauses : List Clause) → ((c : Clause) → Contains clauses c → IsInGreatest C P B c) → LieInOne C P B clauses
in_one C P B [] h = record { witness = []; templates = λ d k. absurd (let l = k.1 in omega arith); inductive = none_inductive C P; members = λ c k. k }
in_one C P B (x ∷ xs) h =
    let first = h x (0, omega arith, refl) in
    let rest = in_one C P B xs (λ c k. h c (suc k.0, (let l = k.1 in omega arith), k.2)) in
    record {
      witness = first.witness ++ rest.witness;
      templates = λ d k. ⊎_elim (λ a. first.templates d a) (λ b. rest.templates d b) (Contains-append_cases first.witness rest.witness d k);
      inductive = union_inductive C P first.witness rest.witness first.inductive rest.inductive;
      members = λ c k. member_of first.witness rest.witness c k first.member rest.members;
    }
  where
    member_of : (front back : List Clause) (c : Clause) → Contains (x ∷ xs) c → Contains front x → ((d : Clause) → Contains xs d → Contains back d) → Contains (front ++ back) c
    member_of front back c (zero, below, is) here later = Contains-append_left front back c (subst (Contains front) is here)
    member_of front back c (suc k, below, is) here later = Contains-append_right front back c (later c (k, omega arith, is))

pub inductive_up_to : (P : Protocol) (I : List Clause) (sizes : List ℕ) → IsInductive all_sizes P I → IsInductive (up_to sizes) P I
inductive_up_to P I sizes i = record {
  initiation = λ s _ init. i.initiation s tt init;
  consecution = λ s t _ st axioms meets step. i.consecution s t tt st axioms meets step;
}

-- a structure of the protocol that meets the axioms
pub record IsState (P : Protocol) (s : Structure) : Type 0 where
  pub structure : IsStructure P s
  pub axioms : SatisfiesAxioms P s

initial_state : (P : Protocol) → IsProtocol P → (s : Structure) → IsInitial P s → IsState P s
initial_state P p s init = record {
  structure = executes_structure P P.init init.before s [] init.choices p.init (rw p.no_arguments refl) init.chosen init.structure init.leaves;
  axioms = axioms_kept P P.init init.before s [] init.choices p.init_spares init.axioms init.leaves;
}

step_state : (P : Protocol) → IsProtocol P → (s t : Structure) → IsState P s → IsStep P s t → IsState P t
step_state P p s t state step =
    let sorted = All-contains (λ (a : Action). IsWellSortedBlock P a.block) P.actions step.action p.actions step.exported in
    let spares = All-contains (λ (a : Action). SparesAxioms P a.block) P.actions step.action p.actions_spare step.exported in
    record {
      structure = executes_structure P step.action.block s t step.step.arguments step.step.choices sorted step.step.given step.step.chosen state.structure step.step.leaves;
      axioms = axioms_kept P step.action.block s t step.step.arguments step.step.choices spares state.axioms step.step.leaves;
    }

-- a step keeps the class
belongs_by : (C : Class) (s t : Structure) → t.sizes ≡ s.sizes → Belongs C t → Belongs C s
belongs_by all_sizes s t e h = tt
belongs_by (up_to sizes) s t e h = subst (λ own. AllZip (λ size most. size ≤ most) own sizes) e h

-- a reachable state of the class meets each clause of an inductive list
record IsSafe (C : Class) (P : Protocol) (I : List Clause) (s : Structure) : Type 0 where
  state : IsState P s
  meets : Belongs C s → MeetsEach P s I

reachable_safe : (C : Class) (P : Protocol) (I : List Clause) → IsProtocol P → IsInductive C P I → (s : Structure) → IsReachable P s → IsSafe C P I s
reachable_safe C P I p i s (initially init) = record { state = initial_state P p s init; meets = λ inside. i.initiation s inside init }
reachable_safe C P I p i t (by_step {s} reached step) =
    let before = reachable_safe C P I p i s reached in
    let same = (statements_frame P (environment_of step.step.arguments step.step.choices) step.action.block.code s t step.step.leaves).sizes in
    record {
      state = step_state P p s t before.state step;
      meets = λ inside. let inside_before = belongs_by C s t same inside in i.consecution s t inside_before before.state.structure before.state.axioms (before.meets inside_before) step;
    }

pub greatest_is_invariant : (C : Class) (P : Protocol) (B : Bounds) (c : Clause) → IsProtocol P → IsInGreatest C P B c → (s : Structure) → Belongs C s → IsReachable P s → Meets P s c
greatest_is_invariant C P B c p g s inside reached = (reachable_safe C P g.witness p g.inductive s reached).meets inside c g.member
