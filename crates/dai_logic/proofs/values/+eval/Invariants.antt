use Rattle.std.proofs.Common.{◌≡◌, true, false, drop}
use Rattle.dai_model.specs.Value.{value_of, bind, every, some, all_hold, some_holds, all_agree, agree}
use Rattle.dai_logic.specs.Trees.{formula_of, formulas_of}
use Rattle.dai_logic.specs.Protocols.{protocol_of}
use Rattle.dai_logic.specs.Tables.{structure_of, AreEvaluable}
use Rattle.dai_logic.specs.Environments.{environment_of, bound}
use Rattle.dai_logic.proofs.values.+eval.Given as goal

-- the environment is as it was, the rest can be evaluated, and the rest decides the answer
abbrev pub invariant-all_hold-loop-part : goal.invariant-all_hold-loop-part
invariant-all_hold-loop-part l =
    let P = protocol_of l.protocol in
    let rest = formulas_of (drop l.part-index l.parts) in
    record {
      same : l.env ≡ l.initial.env;
      evaluable : AreEvaluable P l.s.sizes.items (environment_of l.initial.env) rest;
      value : all_hold (structure_of P l.s) (environment_of l.initial.env) rest ≡ all_hold (structure_of P l.s) (environment_of l.initial.env) (formulas_of l.parts);
    }

abbrev pub invariant-some_holds-loop-part : goal.invariant-some_holds-loop-part
invariant-some_holds-loop-part l =
    let P = protocol_of l.protocol in
    let rest = formulas_of (drop l.part-index l.parts) in
    record {
      same : l.env ≡ l.initial.env;
      evaluable : AreEvaluable P l.s.sizes.items (environment_of l.initial.env) rest;
      value : some_holds (structure_of P l.s) (environment_of l.initial.env) rest ≡ some_holds (structure_of P l.s) (environment_of l.initial.env) (formulas_of l.parts);
    }

abbrev pub invariant-all_agree-loop-part : goal.invariant-all_agree-loop-part
invariant-all_agree-loop-part l =
    let P = protocol_of l.protocol in
    let rest = formulas_of (drop l.part-index l.parts) in
    record {
      same : l.env ≡ l.initial.env;
      evaluable : AreEvaluable P l.s.sizes.items (environment_of l.initial.env) rest;
      value : agree l.even (all_agree (structure_of P l.s) (environment_of l.initial.env) rest) ≡ all_agree (structure_of P l.s) (environment_of l.initial.env) (formulas_of l.parts);
    }

-- the variable alone is changed, and the body is true of each element so far
abbrev pub invariant-holds_for_all-loop-element : goal.invariant-holds_for_all-loop-element
invariant-holds_for_all-loop-element l =
    record {
      back : bound l.env l.var l.before ≡ l.initial.env;
      so_far : every l.element (λ e. value_of (structure_of (protocol_of l.protocol) l.s) (bind (environment_of l.initial.env) l.var e) (formula_of l.body)) ≡ true;
    }

-- the variable alone is changed, and the body is false of each element so far
abbrev pub invariant-holds_for_some-loop-element : goal.invariant-holds_for_some-loop-element
invariant-holds_for_some-loop-element l =
    record {
      back : bound l.env l.var l.before ≡ l.initial.env;
      so_far : some l.element (λ e. value_of (structure_of (protocol_of l.protocol) l.s) (bind (environment_of l.initial.env) l.var e) (formula_of l.body)) ≡ false;
    }
