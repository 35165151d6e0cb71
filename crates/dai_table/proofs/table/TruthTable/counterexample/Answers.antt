use Rattle.std.proofs.Common.{◌≡◌, ◌∙◌, [], ℕ, List, Some, sym, ap, subst, length, arith}
use Rattle.std.specs.Prelude.{slice_index_or}
use Rattle.std.proofs.lemmas.List.{get_or-map, length-map}
use Rattle.dai_model.specs.Protocol.{Block}
use Rattle.dai_model.specs.Execution.{executes}
use Rattle.dai_model.specs.Structure as Model
use Rattle.dai_model.specs.Value.{SatisfiesAxioms}
use Rattle.dai_model.specs.Reachable.{AreElements}
use Rattle.dai_logic.specs.Protocols.{protocol_of}
use Rattle.dai_logic.specs.Tables.{structure_of}
use Rattle.dai_logic.proofs.Accepted.{is_protocol}
use Rattle.dai_table.specs.Steps.{flags_in, state_at}
use Rattle.dai_table.specs.Flags.{state}
use Rattle.dai_table.proofs.Valued.{items, structure_fits, structure_is}
use Rattle.dai_table.proofs.Stepping.{block_call, some_is}
use Rattle.dai_table.proofs.table.TruthTable.counterexample.Goals as goal

pub returns-clause-transition : goal.returns-clause-transition
returns-clause-transition c =
    let P = protocol_of c.args.protocol.now in
    let protocol = is_protocol c.args.protocol.now in
    let table = c.requires.table in
    let step = c.args.step.now in
    let own = c.requires.step.step_is in
    let b = c.requires.step.named in
    let states = c.args.self.now.states.items in
    let k = step.from in
    let many = length-map states items in
    let inside = own.inside in
    let flags = c.deref.result.now in
    let same : flags ≡ slice_index_or (flags_in states) k [] = c.deref.ensures.value ∙ ap items c.index.ensures ∙ sym (get_or-map items states k c.index.result.now [] (omega (arith, many, inside))) in
    let long = ap length same ∙ table.states_of.are_states k inside in
    let e = c.in_ok-structure.ensures in
    let f = c.in_ok-structure-2.ensures in
    let s = c.in_ok-structure.field-0 in
    let t = c.in_ok-structure-2.field-0 in
    let before = structure_fits P s flags protocol table.flags long e.sizes e.tables e.values in
    let before_is : structure_of P s ≡ state_at P (flags_in states) k = structure_is P s flags protocol table.flags long e.sizes e.tables e.values ∙ ap (state P) same in
    let long_after = ap length c.deref-2.ensures.value ∙ own.long in
    let after = structure_fits P t c.deref-2.result.now protocol table.flags long_after f.sizes f.tables f.values in
    let after_is : structure_of P t ≡ state P step.after.items = structure_is P t c.deref-2.result.now protocol table.flags long_after f.sizes f.tables f.values ∙ ap (state P) c.deref-2.ensures.value in
    let call = block_call P c.args.block s protocol table.flags.no_types (record { named = b; is = c.requires.step.is }) in
    let called : call.called ≡ b = some_is call.called b (sym call.named ∙ c.requires.step.is) in
    let given : AreElements (structure_of P s) b.parameters [] = subst (λ (d : Block). AreElements (structure_of P s) d.parameters []) called call.given in
    let chosen : AreElements (structure_of P s) b.choices [] = subst (λ (d : Block). AreElements (structure_of P s) d.choices []) called call.chosen in
    let leaves : executes P b (structure_of P s) [] [] ≡ Some (structure_of P t) = ap (λ (r : Model.Structure). executes P b r [] []) before_is ∙ own.leaves ∙ ap Some (sym after_is) in
    record {
      block = b;
      named = c.requires.step.is;
      before_fits = before.structure;
      after_fits = after.structure;
      of_the_class = tt;
      after_of_the_class = tt;
      init_alone = λ init. c.new.ensures.items;
      axioms = subst (SatisfiesAxioms P) (sym before_is) (table.states_of.axioms k inside);
      given = subst (λ (es : List ℕ). AreElements (structure_of P s) b.parameters es) (sym c.new.ensures.items) given;
      chosen = subst (λ (es : List ℕ). AreElements (structure_of P s) b.choices es) (sym c.new-2.ensures.items) chosen;
      leaves = ap (λ (es : List ℕ). executes P b (structure_of P s) es c.new-2.result.items) c.new.ensures.items ∙ ap (λ (es : List ℕ). executes P b (structure_of P s) [] es) c.new-2.ensures.items ∙ leaves;
    }
