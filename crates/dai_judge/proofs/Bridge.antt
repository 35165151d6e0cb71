-- Worlds within the sizes that refute, and transitions of the structures up to the sizes that break a clause.
use Rattle.std.proofs.Common.{◌≡◌, ◌↔◌, ◌≤◌, ◌<◌, ℕ, length, get_or, Bool, true, false, List, [], ◌∷◌, Option, None, Some, sym, ap, ◌∙◌, subst, refl, arith}
use Rattle.std.specs.Prelude.{slice_get, IsTrue, IsSome}
use Rattle.std.specs.Option.{option_map}
use Rattle.std.specs.List.{All, AllZip}
use Rattle.std.proofs.lemmas.Option.{slice_get-get_or}
use Rattle.dai_model.specs.Formula.{Formula}
use Rattle.dai_model.specs.Protocol.{Protocol, Block, Action}
use Rattle.dai_model.specs.Structure.{Structure, is_tuple}
use Rattle.dai_model.specs.Value.{environment_of, empty_environment, value_of, Satisfies}
use Rattle.dai_model.specs.Execution.{executes}
use Rattle.dai_model.specs.WellSorted.{IsProtocol}
use Rattle.dai_model.specs.Clause.{Clause, Meets, MeetsEach}
use Rattle.dai_model.specs.Classes.{up_to}
use Rattle.dai_model.proofs.Frame.{statements_frame}
use Rattle.dai_logic.specs.declared.structure.BlockId.{BlockId}
use Rattle.dai_logic.specs.declared.structure.BlockId.TheVariants.{Init, Act}
use Rattle.dai_logic.specs.Protocols.{block_named}
use Rattle.dai_logic.specs.Tables.{structure_of}
use Rattle.dai_ground.specs.declared.found.Found.{Found}
use Rattle.dai_ground.specs.declared.found.Answer.{Answer}
use Rattle.dai_ground.specs.declared.found.Answer.TheVariants.{Holds, Broken}
use Rattle.dai_ground.specs.Answers.{IsFound, NoneRefutes, IsAnswerTo, picked}
use Rattle.dai_weaken.specs.declared.judge.Counterexample.{Counterexample}
use Rattle.dai_weaken.specs.Judging.{HoldsAtFirst, HoldsAfter, Follows, IsTransition, AnswersAtFirst, AnswersAfter}
use Rattle.dai_judge.specs.Premises.{AreFormulasOf}
use Rattle.dai_judge.proofs.Picks.{all_picked}
use Rattle.dai_judge.specs.Answers.{IsCounterexample, is_none_found}
use Rattle.dai_judge.specs.Memory.{Keeps, Breaks, Decides}

-- a structure's sizes are at most these
abbrev Within : List ℕ → List ℕ → Type 0
Within sizes own = AllZip (λ size most. size ≤ most) own sizes

-- the formula is true in exactly the structures that meet the clause
abbrev pub Says : Protocol → Formula → Clause → Type 0
Says P f c = (s : Structure) → Satisfies s f ↔ Meets P s c

true_unless : (b : Bool) → (b ≡ false → ⊥) → IsTrue b
true_unless true h = refl
true_unless false h = absurd (h refl)

not_both : (b : Bool) → b ≡ false → IsTrue b → ⊥
not_both b h k = let e : true ≡ false = sym k ∙ h in cc

-- execution keeps the sizes
same_sizes : (P : Protocol) (block : Block) (s t : Structure) (arguments choices : List ℕ) → executes P block s arguments choices ≡ Some t → t.sizes ≡ s.sizes
same_sizes P block s t arguments choices h = (statements_frame P (environment_of arguments choices) block.code s t h).sizes

no_elements : (sizes sorts es : List ℕ) → sorts ≡ [] → IsTrue (is_tuple sizes sorts es) → es ≡ []
no_elements sizes sorts es e h = by_list es (subst (λ ss. IsTrue (is_tuple sizes ss es)) e h)
  where
    by_list : (xs : List ℕ) → IsTrue (is_tuple sizes [] xs) → xs ≡ []
    by_list [] k = refl
    by_list (x ∷ xs) k = absurd (let b : ⊥ = cc in b)

same_value : {A : Type 0} (x y : A) → Some x ≡ Some y → x ≡ y
same_value x y h = cc

none_given : {X : Type 0} (Q : X → Type 0) → All Q []
none_given Q = λ k d below. absurd (omega arith)

module _ (P : Protocol) (sizes : List ℕ) where
  -- no world refutes
  holds_at_first : (I : List Clause) (fs : List Formula) (f : Formula) (c : Clause) → IsProtocol P → I ≡ [] → AreFormulasOf P I fs → Says P f c → NoneRefutes P (Some P.init) fs f sizes → HoldsAtFirst (up_to sizes) P c
  holds_at_first I fs f c protocol alone premises says none = λ s belongs initial.
      let kept = same_sizes P P.init initial.before s [] initial.choices initial.leaves in
      let met : MeetsEach P initial.before I = subst (MeetsEach P initial.before) (sym alone) (λ d there. absurd (let b = there.1 in omega arith)) in
      (says s).0 (true_unless (value_of s empty_environment f) (λ broken.
      none (record { structure = initial.before; arguments = []; choices = initial.choices })
      (record {
        structure = initial.structure;
        sizes = subst (Within sizes) kept belongs;
        given = subst (λ sorts. IsTrue (is_tuple initial.before.sizes sorts [])) (sym protocol.no_arguments) refl;
        chosen = initial.chosen;
      })
      ((premises.exact initial.before initial.structure).1 met)
      (record { axioms = initial.axioms; after = s; leaves = initial.leaves; is_broken = broken })))

  holds_after : (I : List Clause) (fs : List Formula) (f : Formula) (c : Clause) (action : Action) → AreFormulasOf P I fs → Says P f c → NoneRefutes P (Some action.block) fs f sizes → HoldsAfter (up_to sizes) P I action c
  holds_after I fs f c action premises says none = λ s t belongs structure axioms met step.
      (says t).0 (true_unless (value_of t empty_environment f) (λ broken.
      none (record { structure = s; arguments = step.arguments; choices = step.choices })
      (record { structure = structure; sizes = belongs; given = step.given; chosen = step.chosen })
      ((premises.exact s structure).1 met)
      (record { axioms = axioms; after = t; leaves = step.leaves; is_broken = broken })))

  follows : (I : List Clause) (fs : List Formula) (f : Formula) → AreFormulasOf P I fs → NoneRefutes P None fs f sizes → Follows (up_to sizes) P I f
  follows I fs f premises none = λ s belongs structure axioms met.
      true_unless (value_of s empty_environment f) (λ broken.
      none (record { structure = s; arguments = []; choices = [] })
      (record { structure = structure; sizes = belongs; given = refl; chosen = refl })
      ((premises.exact s structure).1 met)
      (record { axioms = axioms; after = s; leaves = refl; is_broken = broken }))

  -- a world refutes
  module _ (asked : BlockId) (named : Block) (is : block_named P asked ≡ Some named) (fs : List Formula) (f : Formula) (x : Counterexample) (h : IsCounterexample P asked fs f sizes x) where
    found : IsFound P (Some named) fs f sizes (record { before = x.before; args = x.args; choices = x.choices; after = x.after })
    found = subst (λ o. IsFound P o fs f sizes (record { before = x.before; args = x.args; choices = x.choices; after = x.after })) is h.found

    alone : IsProtocol P → x.block ≡ Init → x.args.items ≡ []
    alone protocol first =
        let same : P.init ≡ named = same_value P.init named (ap (block_named P) (sym first ∙ h.by_the_block) ∙ is) in
        no_elements (structure_of P x.before).sizes named.parameters x.args.items (ap (λ (b : Block). b.parameters) (sym same) ∙ protocol.no_arguments) found.world.given

    transition : IsProtocol P → IsTransition (up_to sizes) P x
    transition protocol = record {
      block = named;
      named = ap (block_named P) h.by_the_block ∙ is;
      before_fits = found.before_fits;
      after_fits = found.after_fits;
      of_the_class = found.world.sizes;
      after_of_the_class = subst (Within sizes) (sym (same_sizes P named (structure_of P x.before) (structure_of P x.after) x.args.items x.choices.items found.leaves)) found.world.sizes;
      init_alone = alone protocol;
      axioms = found.refutes.axioms;
      given = found.world.given;
      chosen = found.world.chosen;
      leaves = found.leaves;
    }

    breaks : (c : Clause) → Says P f c → Meets P (structure_of P x.after) c → ⊥
    breaks c says met = not_both (value_of (structure_of P x.after) empty_environment f) found.is_broken ((says (structure_of P x.after)).1 met)

    origin : (I : List Clause) → AreFormulasOf P I fs → MeetsEach P (structure_of P x.before) I
    origin I premises = (premises.exact (structure_of P x.before) found.world.structure).0 found.premises_met

  fails : (I : List Clause) (fs : List Formula) (f : Formula) (x : Found) → AreFormulasOf P I fs → IsFound P None fs f sizes x → Follows (up_to sizes) P I f → ⊥
  fails I fs f x premises h all =
      let s = structure_of P x.before in
      let same : structure_of P x.after ≡ s = sym (same_value s (structure_of P x.after) h.leaves) in
      let broken : value_of s empty_environment f ≡ false = subst (λ t. value_of t empty_environment f ≡ false) same h.is_broken in
      not_both (value_of s empty_environment f) broken (all s h.world.sizes h.world.structure h.refutes.axioms ((premises.exact s h.world.structure).0 h.premises_met))

  -- what nothing refutes, is kept; and what was found breaks the goal
  pub keeps_of : (I : List Clause) (fs : List Formula) (f : Formula) (c : Clause) (block : BlockId) → IsProtocol P → (block ≡ Init → I ≡ []) → AreFormulasOf P I fs → Says P f c → NoneRefutes P (block_named P block) fs f sizes → Keeps (up_to sizes) P block I c
  keeps_of I fs f c Init protocol alone premises says none = holds_at_first I fs f c protocol (alone refl) premises says none
  keeps_of I fs f c (Act number) protocol alone premises says none = λ action is.
      holds_after I fs f c action premises says (subst (λ o. NoneRefutes P o fs f sizes) (ap (option_map (λ (b : Action). b.block)) is) none)

  pub breaks_of : (I : List Clause) (fs : List Formula) (f : Formula) (c : Clause) (block : BlockId) (x : Counterexample) → IsProtocol P → IsSome (block_named P block) → AreFormulasOf P I fs → Says P f c → IsCounterexample P block fs f sizes x → Breaks (up_to sizes) P block I c x
  breaks_of I fs f c block x protocol known premises says h = by_name (block_named P block) refl known
    where
      by_name : (o : Option Block) → block_named P block ≡ o → IsSome o → Breaks (up_to sizes) P block I c x
      by_name None is some = absurd (let k : ⊥ = cc in k)
      by_name (Some named) is some = record {
        by_the_block = h.by_the_block;
        transition = transition block named is fs f x h protocol;
        premises_met = origin block named is fs f x h I premises;
        broken = breaks block named is fs f x h c says;
      }

  -- the answers of the judge
  pub answers_at_first : (c : Clause) (answer : Option Counterexample) → Decides (up_to sizes) P Init [] c answer → AnswersAtFirst (up_to sizes) P c answer
  answers_at_first c None h = h
  answers_at_first c (Some x) h = record { init = h.by_the_block; transition = h.transition; broken = h.broken }

  pub answers_after : (I : List Clause) (c : Clause) (number : ℕ) (answer : Option Counterexample) → Decides (up_to sizes) P (Act number) I c answer → AnswersAfter (up_to sizes) P I number c answer
  answers_after I c number None h = h
  answers_after I c number (Some x) h = record { action = h.by_the_block; transition = h.transition; premises_met = h.premises_met; broken = h.broken }

  -- what nothing refutes with some of the premises, nothing refutes with all
  pub more_premises : (block : Option Block) (fs : List Formula) (f : Formula) (used : List ℕ) → NoneRefutes P block (picked fs used) f sizes → NoneRefutes P block fs f sizes
  more_premises block fs f used none = λ w is met refutes. none w is (all_picked (Satisfies w.structure) fs used met) refutes

  pub answers_entailed : (I : List Clause) (fs : List Formula) (f : Formula) (answer : Answer) (none : Bool) → none ≡ is_none_found answer → AreFormulasOf P I fs → IsAnswerTo P None fs f sizes answer → (IsTrue none ↔ Follows (up_to sizes) P I f)
  answers_entailed I fs f (Holds used) true e premises h = (λ _. follows I fs f premises (more_premises None fs f used.items h.1), λ _. refl)
  answers_entailed I fs f (Holds used) false e premises h = absurd (let b : ⊥ = cc in b)
  answers_entailed I fs f (Broken x) true e premises h = absurd (let b : ⊥ = cc in b)
  answers_entailed I fs f (Broken x) false e premises h = (λ t. absurd (let b : ⊥ = cc in b), λ all. absurd (fails I fs f x premises h all))

  -- an action of the protocol
  pub action_at : (number : ℕ) → number < length P.actions → (action : Action) × (slice_get P.actions number ≡ Some action)
  action_at number below =
      let d : Action = record { name = []; block = P.init } in
      (get_or P.actions number d, slice_get-get_or P.actions number d below)
