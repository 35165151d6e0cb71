-- What the answer is for: each clause of the greatest inductive set has one of the answer below it, and what the set
-- entails holds in every reachable state.
use Rattle.std.proofs.Common.{◌≡◌, ◌<◌, ◌≤◌, length, ℕ, zero, suc, List, [], ◌∷◌, sym, ap, subst, refl, arith, inl, inr, ◌⊎◌}
use Rattle.std.specs.List.{Contains}
use Rattle.std.specs.Ordering.{nat_cmp, ordering_then, MatchOrdering}
use Rattle.std.specs.Cmp.Lexicographic.{slice_cmp}
use Rattle.std.specs.declared.cmp.Ordering.{Ordering}
use Rattle.std.specs.declared.cmp.Ordering.TheVariants.{Less, Equal, Greater}
use Rattle.std.proofs.lemmas.Cmp.{ranked}
use Rattle.std.proofs.lemmas.Bool.{cases_lt}
use Rattle.std.proofs.lemmas.List.Elements.{All-contains}
use Rattle.dai_model.specs.Formula.{Formula}
use Rattle.dai_model.specs.Protocol.{Protocol, Action}
use Rattle.dai_model.specs.Structure.{Structure, IsStructure}
use Rattle.dai_model.specs.Value.{Satisfies, SatisfiesAxioms}
use Rattle.dai_model.specs.WellSorted.{IsProtocol, IsWellSortedBlock, SparesAxioms}
use Rattle.dai_model.specs.Reachable.{IsReachable, initially, by_step}
use Rattle.dai_model.specs.Clause.{Clause, Meets, MeetsEach}
use Rattle.dai_model.specs.Template.{Bounds, IsTemplate}
use Rattle.dai_model.specs.Subsumption.{Subsumes, StrictlySubsumes, IsRenaming, compare_literals}
use Rattle.dai_model.specs.Weakening.{rank_of}
use Rattle.dai_model.specs.Classes.{Class, Belongs}
use Rattle.dai_model.specs.Inductive.{IsInGreatest}
use Rattle.dai_model.specs.Answer.{IsMinimal, IsAnswer, IsEntailed}
use Rattle.dai_model.proofs.Typed.{executes_structure, axioms_kept}
use Rattle.dai_model.proofs.Induction.{greatest_is_invariant}
use Rattle.dai_model.proofs.Below.{below_implies, below-trans, below-refl}
use Rattle.dai_model.proofs.Ranks.{rank_no_greater, below_again}
use Rattle.dai_model.proofs.OneCanonical.{same_rank, renamed_back}
use Rattle.dai_cut.proofs.Deciding.{Decision, affirmed, denied, decide_below}

-- induction along the order of lists of one length
compared : (x y : ℕ) (o : Ordering) (rest : Ordering) → MatchOrdering o (x < y) (x ≡ y) (y < x) → ordering_then o rest ≡ Greater → (y < x) ⊎ ((x ≡ y) × (rest ≡ Greater))
compared x y Less rest h e = absurd (let n : ⊥ = cc in n)
compared x y Equal rest h e = inr (h, e)
compared x y Greater rest h e = inl h

abbrev Steps : (List ℕ → Type 0) → Type 0
Steps G = (xs : List ℕ) → ((ys : List ℕ) → length ys ≡ length xs → slice_cmp nat_cmp xs ys ≡ Greater → G ys) → G xs

by_head : (n : ℕ) (G : List ℕ → Type 0) → Steps G → ((H : List ℕ → Type 0) → Steps H → (ts : List ℕ) → length ts ≡ n → H ts) → (bound x : ℕ) (ts : List ℕ) → x < bound → length ts ≡ n → G (x ∷ ts)
by_head n G step inner zero x ts below long = absurd (omega (arith, below))
by_head n G step inner (suc bound) x ts below long =
    inner (λ us. length us ≡ n → G (x ∷ us))
    (λ us rec own. step (x ∷ us) (λ ys same cmp. smaller us own (λ vs same_length less. rec vs same_length less) (λ y vs before fits. by_head n G step inner bound y vs (omega (arith, before, below)) fits) ys same cmp))
    ts long long
  where
    smaller : (us : List ℕ) → length us ≡ n → ((vs : List ℕ) → length vs ≡ length us → slice_cmp nat_cmp us vs ≡ Greater → length vs ≡ n → G (x ∷ vs)) → ((y : ℕ) (vs : List ℕ) → y < x → length vs ≡ n → G (y ∷ vs)) → (ys : List ℕ) → length ys ≡ length (x ∷ us) → slice_cmp nat_cmp (x ∷ us) ys ≡ Greater → G ys
    smaller us own later earlier [] same cmp = absurd (omega (arith, same))
    smaller us own later earlier (y ∷ vs) same cmp = by_order (compared x y (nat_cmp x y) (slice_cmp nat_cmp us vs) (ranked x y (nat_cmp x y) refl) cmp)
      where
        by_order : (y < x) ⊎ ((x ≡ y) × (slice_cmp nat_cmp us vs ≡ Greater)) → G (y ∷ vs)
        by_order (inl before) = earlier y vs before (omega (arith, same, own))
        by_order (inr tied) = subst (λ z. G (z ∷ vs)) tied.0 (later vs (omega (arith, same)) tied.1 (omega (arith, same, own)))

along : (n : ℕ) (G : List ℕ → Type 0) → Steps G → (xs : List ℕ) → length xs ≡ n → G xs
along zero G step [] long = step [] (λ ys same cmp. none ys same cmp)
  where
    none : (ys : List ℕ) → length ys ≡ 0 → slice_cmp nat_cmp [] ys ≡ Greater → G ys
    none [] same cmp = absurd (let n : ⊥ = cc in n)
    none (y ∷ ys) same cmp = absurd (let n : ⊥ = cc in n)
along zero G step (x ∷ xs) long = absurd (omega (arith, long))
along (suc n) G step [] long = absurd (omega (arith, long))
along (suc n) G step (x ∷ xs) long = by_head n G step (λ H steps ts fits. along n H steps ts fits) (suc x) x xs (omega arith) (omega (arith, long))

-- the greatest inductive set has each renaming of its clauses
renaming_in_greatest : (C : Class) (P : Protocol) (B : Bounds) (c d : Clause) → IsInGreatest C P B c → IsTemplate P B d → IsRenaming P c d → IsInGreatest C P B d
renaming_in_greatest C P B c d g template renaming = record {
  witness = d ∷ g.witness;
  templates = λ e k. one_more (λ f. IsTemplate P B f) e template (λ l. g.templates e l) k;
  inductive = record {
    initiation = λ s inside init e k.
        one_more (λ f. Meets P s f) e (implied s (g.inductive.initiation s inside init c g.member)) (λ l. g.inductive.initiation s inside init e l) k;
    consecution = λ s t inside st axioms meets step e k.
        let kept = g.inductive.consecution s t inside st axioms (λ f l. meets f (later f l)) step in
        one_more (λ f. Meets P t f) e (implied t (kept c g.member)) (λ l. kept e l) k;
  };
  member = (0, omega arith, refl);
}
  where
    one_more : (Q : Clause → Type 0) (e : Clause) → Q d → (Contains g.witness e → Q e) → Contains (d ∷ g.witness) e → Q e
    one_more Q e here rest (zero, below, is) = subst Q is here
    one_more Q e here rest (suc k, below, is) = rest (k, omega (arith, below), is)

    later : (f : Clause) → Contains g.witness f → Contains (d ∷ g.witness) f
    later f k = (suc k.0, (let l = k.1 in omega (arith, l)), k.2)

    implied : (s : Structure) → Meets P s c → Meets P s d
    implied s h = below_implies P B c d (g.templates c g.member) renaming.permuted s h

-- a clause of the answer below the clause
pub record HasLower (P : Protocol) (answer : List Clause) (c : Clause) : Type 0 where
  pub lower : Clause
  pub member : Contains answer lower
  pub below : Subsumes P lower c

lower_by : (C : Class) (P : Protocol) (B : Bounds) (answer : List Clause) (c d : Clause) → IsAnswer C P B answer → Subsumes P d c → HasLower P answer d → HasLower P answer c
lower_by C P B answer c d a below h =
    let least = (a.sound h.lower h.member).greatest in
    record { lower = h.lower; member = h.member; below = below-trans P B h.lower d c (least.templates h.lower least.member) h.below below }

template_of : {C : Class} {P : Protocol} {B : Bounds} {c : Clause} → IsInGreatest C P B c → IsTemplate P B c
template_of {c = c} g = g.templates c g.member

abbrev Refuted : Type 0 → Type 0
Refuted A = A → ⊥

-- that a clause has none below it is refuted, where it is for the clauses of lower rank, and for renamings that are less
one_clause : (C : Class) (P : Protocol) (B : Bounds) (answer : List Clause) (c : Clause) → IsAnswer C P B answer → IsInGreatest C P B c
    → ((d : Clause) → IsInGreatest C P B d → rank_of d < rank_of c → Refuted (Refuted (HasLower P answer d)))
    → ((d : Clause) → IsInGreatest C P B d → IsRenaming P c d → compare_literals c d ≡ Greater → Refuted (Refuted (HasLower P answer d)))
    → Refuted (Refuted (HasLower P answer c))
one_clause C P B answer c a g lower_rank lesser none =
    let template = template_of g in
    let minimal : IsMinimal C P B c = record {
      greatest = g;
      canonical = λ d t renaming greater.
          let there = renaming_in_greatest C P B c d g t renaming in
          let back = renamed_back P B c d template t renaming in
          lesser d there renaming greater (λ found. none (lower_by C P B answer c d a back.permuted found));
      least = λ d h strictly.
          let below = template_of h in
          let no_more = rank_no_greater P B d c below template strictly.0 in
          by_rank d h strictly no_more (cases_lt (rank_of d) (rank_of c));
    } in
    none (record { lower = c; member = a.complete c minimal; below = itself template })
  where
    itself : IsTemplate P B c → Subsumes P c c
    itself template = below-refl P B c template

    by_rank : (d : Clause) → IsInGreatest C P B d → StrictlySubsumes P d c → rank_of d ≤ rank_of c → (rank_of d < rank_of c) ⊎ (rank_of c ≤ rank_of d) → ⊥
    by_rank d h strictly no_more (inl less) = lower_rank d h less (λ found. none (lower_by C P B answer c d a strictly.0 found))
    by_rank d h strictly no_more (inr as_many) = strictly.1 (below_again P B d c (template_of h) (template_of g) strictly.0 as_many)

by_literals : (C : Class) (P : Protocol) (B : Bounds) (answer : List Clause) (r : ℕ) → IsAnswer C P B answer
    → ((d : Clause) → IsInGreatest C P B d → rank_of d < r → Refuted (Refuted (HasLower P answer d)))
    → (literals : List ℕ) (c : Clause) → c.literals ≡ literals → IsInGreatest C P B c → rank_of c ≡ r → Refuted (Refuted (HasLower P answer c))
by_literals C P B answer r a lower_rank literals =
    along (length literals) (λ ls. (c : Clause) → c.literals ≡ ls → IsInGreatest C P B c → rank_of c ≡ r → Refuted (Refuted (HasLower P answer c)))
    (λ ls rec c is g same.
    one_clause C P B answer c a g
    (λ d h less. lower_rank d h (omega (arith, less, same)))
    (λ d h renaming greater.
    let rank = same_rank P c d renaming in
    let long = renaming.as_many_literals in
    let own = ap length is in
    rec d.literals (omega (arith, long, own)) (subst (λ xs. slice_cmp nat_cmp xs d.literals ≡ Greater) is greater) d refl h (omega (arith, rank, same))))
    literals refl

by_ranks : (C : Class) (P : Protocol) (B : Bounds) (answer : List Clause) (r : ℕ) → IsAnswer C P B answer → (c : Clause) → IsInGreatest C P B c → rank_of c < r → Refuted (Refuted (HasLower P answer c))
by_ranks C P B answer zero a c g below = absurd (omega (arith, below))
by_ranks C P B answer (suc r) a c g below = by_order (cases_lt (rank_of c) r)
    (λ less. by_ranks C P B answer r a c g less)
    (by_literals C P B answer r a (λ d h less. by_ranks C P B answer r a d h less) c.literals c refl g)
  where
    by_order : (rank_of c < r) ⊎ (r ≤ rank_of c) → (rank_of c < r → Refuted (Refuted (HasLower P answer c))) → (rank_of c ≡ r → Refuted (Refuted (HasLower P answer c))) → Refuted (Refuted (HasLower P answer c))
    by_order (inl less) lower here = lower less
    by_order (inr most) lower here = here (omega (arith, below, most))

-- a search of the answer
search_answer : (P : Protocol) (c : Clause) (answer : List Clause) → Decision (HasLower P answer c)
search_answer P c [] = denied (λ h. let k = h.member in let l = k.1 in omega (arith, l))
search_answer P c (a ∷ answer) = first_or_later (decide_below P a c) (search_answer P c answer)
  where
    first_or_later : Decision (Subsumes P a c) → Decision (HasLower P answer c) → Decision (HasLower P (a ∷ answer) c)
    first_or_later (affirmed s) rest = affirmed (record { lower = a; member = (0, omega arith, refl); below = s })
    first_or_later (denied n) (affirmed h) = affirmed (record { lower = h.lower; member = (suc h.member.0, (let k = h.member.1 in omega (arith, k)), h.member.2); below = h.below })
    first_or_later (denied n) (denied m) = denied (λ h. by_place h.lower h.below h.member)
      where
        by_place : (d : Clause) → Subsumes P d c → Contains (a ∷ answer) d → ⊥
        by_place d s (zero, below, is) = n (subst (λ (e : Clause). Subsumes P e c) (sym is) s)
        by_place d s (suc k, below, is) = m (record { lower = d; member = (k, omega (arith, below), is); below = s })

pub has_lower : (C : Class) (P : Protocol) (B : Bounds) (answer : List Clause) (c : Clause) → IsAnswer C P B answer → IsInGreatest C P B c → HasLower P answer c
has_lower C P B answer c a g = by_search (search_answer P c answer)
  where
    by_search : Decision (HasLower P answer c) → HasLower P answer c
    by_search (affirmed h) = h
    by_search (denied none) = absurd (by_ranks C P B answer (suc (rank_of c)) a c g (omega arith) none)

-- what meets the answer meets the whole set
pub meets_set : (C : Class) (P : Protocol) (B : Bounds) (answer : List Clause) (c : Clause) (s : Structure) → IsAnswer C P B answer → IsInGreatest C P B c → MeetsEach P s answer → Meets P s c
meets_set C P B answer c s a g meets =
    let h = has_lower C P B answer c a g in
    let least = (a.sound h.lower h.member).greatest in
    below_implies P B h.lower c (least.templates h.lower least.member) h.below s (meets h.lower h.member)

-- reachable states
record IsState (P : Protocol) (s : Structure) : Type 0 where
  structure : IsStructure P s
  axioms : SatisfiesAxioms P s

reachable_state : (P : Protocol) (s : Structure) → IsProtocol P → IsReachable P s → IsState P s
reachable_state P s p (initially init) = record {
  structure = executes_structure P P.init init.before s [] init.choices p.init (rw p.no_arguments refl) init.chosen init.structure init.leaves;
  axioms = axioms_kept P P.init init.before s [] init.choices p.init_spares init.axioms init.leaves;
}
reachable_state P t p (by_step {s} reached step) =
    let before = reachable_state P s p reached in
    let sorted = All-contains (λ (a : Action). IsWellSortedBlock P a.block) P.actions step.action p.actions step.exported in
    let spares = All-contains (λ (a : Action). SparesAxioms P a.block) P.actions step.action p.actions_spare step.exported in
    record {
      structure = executes_structure P step.action.block s t step.step.arguments step.step.choices sorted step.step.given step.step.chosen before.structure step.step.leaves;
      axioms = axioms_kept P step.action.block s t step.step.arguments step.step.choices spares before.axioms step.step.leaves;
    }

pub entailed_invariant : (C : Class) (P : Protocol) (B : Bounds) (f : Formula) → IsProtocol P → IsEntailed C P B f → (s : Structure) → Belongs C s → IsReachable P s → Satisfies s f
entailed_invariant C P B f p entailed s inside reached =
    let state = reachable_state P s p reached in
    entailed s inside state.structure state.axioms (λ c g. greatest_is_invariant C P B c p g s inside reached)

pub answer_invariant : (C : Class) (P : Protocol) (B : Bounds) (answer : List Clause) → IsProtocol P → IsAnswer C P B answer → (s : Structure) → Belongs C s → IsReachable P s → MeetsEach P s answer
answer_invariant C P B answer p a s inside reached = λ c k. greatest_is_invariant C P B c p (a.sound c k).greatest s inside reached

pub lower_exists : (C : Class) (P : Protocol) (B : Bounds) (answer : List Clause) (c : Clause) → IsAnswer C P B answer → IsInGreatest C P B c → (a : Clause) × Contains answer a × Subsumes P a c
lower_exists C P B answer c a g = let h = has_lower C P B answer c a g in (h.lower, h.member, h.below)
