use Rattle.std.proofs.Common.{refl, sym, subst, length}
use Rattle.std.proofs.lemmas.List.{length-map}
use Rattle.dai_logic.specs.Protocols.{protocol_of}
use Rattle.dai_logic.proofs.Accepted.{is_protocol}
use Rattle.dai_table.specs.Steps.{AreSteps, AreActionSteps, flags_in, lists_in}
use Rattle.dai_table.proofs.Valued.{items}
use Rattle.dai_table.proofs.table.TruthTable.new.Goals as goal

pub steps_by-requires-clause-block : goal.steps_by-requires-clause-block
steps_by-requires-clause-block c = record { named = (protocol_of c.args.protocol.now).init; is = refl }

pub returns : goal.returns
returns c =
    let P = protocol_of c.args.protocol.now in
    let states = c.in_ok-states.states.items in
    let init = c.in_ok-init.init.items in
    record {
      flags = c.requires;
      protocol = is_protocol c.args.protocol.now;
      states_of = c.in_ok-states.ensures;
      init_steps = subst (λ n. AreSteps P P.init (flags_in states) n init) (sym (length-map states items)) (subst (λ xs. AreSteps P P.init (flags_in xs) (length xs) init) c.deref.ensures.value (c.in_ok-init.ensures P.init refl));
      action_steps = subst (λ xs. AreActionSteps P (flags_in xs) (length P.actions) (lists_in c.in_ok-actions.actions.items)) c.deref-2.ensures.value c.in_ok-actions.ensures;
    }
