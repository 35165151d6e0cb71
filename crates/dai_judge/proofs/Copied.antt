-- A copy of a transition is one.
use Rattle.std.proofs.Common.{◌≡◌, List, Some, sym, ap, ◌∙◌, subst}
use Rattle.dai_model.specs.Protocol.{Protocol}
use Rattle.dai_model.specs.Clause.{Clause, Meets, MeetsEach}
use Rattle.dai_model.specs.Classes.{Class, Belongs}
use Rattle.dai_model.specs.Execution.{executes}
use Rattle.dai_model.specs.Reachable.{AreElements}
use Rattle.dai_model.specs.Value.{SatisfiesAxioms}
use Rattle.dai_logic.specs.declared.structure.BlockId.{BlockId}
use Rattle.dai_logic.specs.declared.structure.Structure.{Structure}
use Rattle.dai_logic.specs.Protocols.{block_named}
use Rattle.dai_logic.specs.Tables.{structure_of, structure_with, Fits, IsCopy, tables_of, AreFitting}
use Rattle.dai_weaken.specs.declared.judge.Counterexample.{Counterexample}
use Rattle.dai_weaken.specs.Judging.{IsTransition}
use Rattle.dai_judge.specs.Memory.{Breaks, IsCopyOf}

fits_copied : (P : Protocol) (s t : Structure) → IsCopy s t → Fits P s → Fits P t
fits_copied P s t copy h =
    subst (λ ss. AreFitting P ss (tables_of t) t.values.items) (sym copy.sizes)
    (subst (λ ts. AreFitting P s.sizes.items ts t.values.items) (sym copy.tables)
    (subst (λ vs. AreFitting P s.sizes.items (tables_of s) vs) (sym copy.values) h))

structure_copied : (P : Protocol) (s t : Structure) → IsCopy s t → structure_of P t ≡ structure_of P s
structure_copied P s t copy = λ i. structure_with P (copy.sizes i) (copy.tables i) (copy.values i)

pub transition_copied : (C : Class) (P : Protocol) (x y : Counterexample) → IsCopyOf x y → IsTransition C P x → IsTransition C P y
transition_copied C P x y copy h =
    let before = structure_copied P x.before y.before copy.before in
    let after = structure_copied P x.after y.after copy.after in
    let executed : executes P h.block (structure_of P y.before) y.args.items y.choices.items ≡ executes P h.block (structure_of P x.before) x.args.items x.choices.items = λ i. executes P h.block (before i) (copy.args i) (copy.choices i) in
    record {
      block = h.block;
      named = ap (block_named P) copy.block ∙ h.named;
      before_fits = fits_copied P x.before y.before copy.before h.before_fits;
      after_fits = fits_copied P x.after y.after copy.after h.after_fits;
      of_the_class = subst (Belongs C) (sym before) h.of_the_class;
      after_of_the_class = subst (Belongs C) (sym after) h.after_of_the_class;
      init_alone = λ first. copy.args ∙ h.init_alone (sym copy.block ∙ first);
      axioms = subst (SatisfiesAxioms P) (sym before) h.axioms;
      given = subst (AreElements (structure_of P y.before) h.block.parameters) (sym copy.args) (subst (λ s. AreElements s h.block.parameters x.args.items) (sym before) h.given);
      chosen = subst (AreElements (structure_of P y.before) h.block.choices) (sym copy.choices) (subst (λ s. AreElements s h.block.choices x.choices.items) (sym before) h.chosen);
      leaves = executed ∙ (h.leaves ∙ ap Some (sym after));
    }

pub breaks_copied : (C : Class) (P : Protocol) (block : BlockId) (I : List Clause) (c : Clause) (x y : Counterexample) → IsCopyOf x y → Breaks C P block I c x → Breaks C P block I c y
breaks_copied C P block I c x y copy h = record {
  by_the_block = copy.block ∙ h.by_the_block;
  transition = transition_copied C P x y copy h.transition;
  premises_met = subst (λ s. MeetsEach P s I) (sym (structure_copied P x.before y.before copy.before)) h.premises_met;
  broken = λ met. h.broken (subst (λ s. Meets P s c) (structure_copied P x.after y.after copy.after) met);
}
