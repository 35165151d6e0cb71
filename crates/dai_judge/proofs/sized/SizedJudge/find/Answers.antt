use Rattle.std.proofs.Common.{◌≡◌, ◌∙◌, List, Some, None, map, ap, sym, subst}
use Rattle.std.specs.List.{All}
use Rattle.std.proofs.lemmas.Result.{IfOk-weaker}
use Rattle.dai_model.specs.Classes.{up_to}
use Rattle.dai_model.specs.Clause.{Clause}
use Rattle.dai_model.specs.WellSorted.{IsWellSorted, closed_scope}
use Rattle.dai_logic.specs.Protocols.{protocol_of, block_named}
use Rattle.dai_logic.specs.Trees.{formula_of}
use Rattle.dai_logic.proofs.Accepted.{is_protocol}
use Rattle.dai_template.specs.ClauseFormulas.{formula_of_clause}
use Rattle.dai_template.specs.Spaces.{clause_of}
use Rattle.dai_ground.specs.Answers.{IsAnswerTo, IsFound, NoneRefutes, picked}
use Rattle.dai_inquiry.specs.Places.{AreOpen}
use Rattle.dai_judge.specs.Answers.{IsCounterexample}
use Rattle.dai_inquiry.specs.Keys.{clause_in, clauses_in}
use Rattle.dai_judge.specs.Memory.{picked_of, Keeps, Decides}
use Rattle.dai_judge.specs.Ready.{ArePremisesOf}
use Rattle.dai_judge.proofs.Sorted.{formula_sorted}
use Rattle.dai_judge.proofs.Picks.{formulas_of_premises, formulas_of_picked, closed_premises, none_picked}
use Rattle.dai_judge.proofs.Bridge.{more_premises, keeps_of, breaks_of}
use Rattle.dai_judge.proofs.sized.SizedJudge.find.Goals as goal

pub ask-requires-clause-premises : goal.ask-requires-clause-premises
ask-requires-clause-premises c =
    let q = c.args.question.now in
    let P = protocol_of q.protocol.now in
    subst (λ fs. All (IsWellSorted P closed_scope) (map formula_of fs)) (sym c.as_slice.ensures.value) (closed_premises P c.requires.premises.0 q.premises.now c.requires.premises.1)

pub ask-requires-clause-closed : goal.ask-requires-clause-closed
ask-requires-clause-closed c =
    let q = c.args.question.now in
    let P = protocol_of q.protocol.now in
    let own = c.requires.goal in
    subst (IsWellSorted P closed_scope) (sym (c.in_ok-formula.ensures.tree P own.bounds own.is)) (formula_sorted P own.bounds (clause_of q.space.now q.goal.now) own.is.template)

pub ask-requires-clause-keys : goal.ask-requires-clause-keys
ask-requires-clause-keys c =
    let P = protocol_of c.args.question.now.protocol.now in
    let own = c.requires.premises.1 in
    ap (map formula_of) c.as_slice.ensures.value ∙ (own.formulas ∙ ap (map (formula_of_clause P)) (sym own.keys ∙ ap clauses_in (sym c.as_slice-2.ensures.value)))

pub ask-requires-clause-goal : goal.ask-requires-clause-goal
ask-requires-clause-goal c =
    let P = protocol_of c.args.question.now.protocol.now in
    let own = c.requires.goal in
    c.in_ok-formula.ensures.tree P own.bounds own.is ∙ ap (formula_of_clause P) (sym c.requires.key)

pub ask-requires-clause-open : goal.ask-requires-clause-open
ask-requires-clause-open c =
    let P = protocol_of c.args.question.now.protocol.now in
    subst (λ ss. AreOpen P ss c.args.self.now.inquiries) (sym c.as_slice-3.ensures.value) c.requires.ready.inquiries

pub returns-in_err-answer-clause-ready : goal.returns-in_err-answer-clause-ready
returns-in_err-answer-clause-ready c =
    let P = protocol_of c.args.question.now.protocol.now in
    record { sizes = c.requires.ready.sizes; memory = c.requires.ready.memory; inquiries = subst (λ ss. AreOpen P ss c.ask.new.self) c.as_slice-3.ensures.value c.ask.ensures.open }

pub returns-in-Holds-clause-answer : goal.returns-in-Holds-clause-answer
returns-in-Holds-clause-answer c =
    let q = c.args.question.now in
    let P = protocol_of q.protocol.now in
    let sizes = c.args.self.now.sizes.items in
    let C = up_to sizes in
    let own = c.requires.goal in
    let f = formula_of c.in_ok-formula.formula in
    let d = clause_of q.space.now q.goal.now in
    let fs = map formula_of q.premises.now.formulas.items in
    let used = c.in-Holds.used.items in
    let told = subst (IsAnswerTo P (block_named P q.block) (map formula_of c.as_slice.result.now) f c.as_slice-3.result.now) c.in-Holds.is c.in_ok-answer.ensures.answer in
    let none : NoneRefutes P (block_named P q.block) (picked fs used) f sizes =
    subst (λ ss. NoneRefutes P (block_named P q.block) (picked fs used) f ss) c.as_slice-3.ensures.value
    (subst (λ gs. NoneRefutes P (block_named P q.block) (picked (map formula_of gs) used) f c.as_slice-3.result.now) c.as_slice.ensures.value told.1) in
    IfOk-weaker c.learn.result (λ answer. answer ≡ None) (λ answer. (I : List Clause) → ArePremisesOf P I q.premises.now → Decides C P q.block I d answer)
    (λ answer is I premises. subst (Decides C P q.block I d) (sym is)
    (keeps_of P sizes I fs f d q.block (is_protocol q.protocol.now) (λ first. sym premises.keys ∙ ap clauses_in (c.requires.alone first))
    (formulas_of_premises P I q.premises.now premises) (λ s. c.in_ok-formula.ensures.value P own.bounds s own.is)
    (more_premises P sizes (block_named P q.block) fs f used none)))
    c.learn.ensures.none

pub returns-in-Holds-clause-ready : goal.returns-in-Holds-clause-ready
returns-in-Holds-clause-ready c =
    let q = c.args.question.now in
    let P = protocol_of q.protocol.now in
    let sizes = c.args.self.now.sizes.items in
    let C = up_to sizes in
    let own = c.requires.goal in
    let f = formula_of c.in_ok-formula.formula in
    let d = clause_of q.space.now q.goal.now in
    let fs = map formula_of q.premises.now.formulas.items in
    let used = c.in-Holds.used.items in
    let I = c.requires.premises.0 in
    let premises = c.requires.premises.1 in
    let told = subst (IsAnswerTo P (block_named P q.block) (map formula_of c.as_slice.result.now) f c.as_slice-3.result.now) c.in-Holds.is c.in_ok-answer.ensures.answer in
    let none : NoneRefutes P (block_named P q.block) (picked fs used) f sizes =
    subst (λ ss. NoneRefutes P (block_named P q.block) (picked fs used) f ss) c.as_slice-3.ensures.value
    (subst (λ gs. NoneRefutes P (block_named P q.block) (picked (map formula_of gs) used) f c.as_slice-3.result.now) c.as_slice.ensures.value told.1) in
    let keeps : Keeps C P q.block (picked_of I used) d =
    keeps_of P sizes (picked_of I used) (picked fs used) f d q.block (is_protocol q.protocol.now)
    (λ first. ap (λ cs. picked_of cs used) (sym premises.keys ∙ ap clauses_in (c.requires.alone first)) ∙ none_picked used)
    (formulas_of_picked P I q.premises.now used premises) (λ s. c.in_ok-formula.ensures.value P own.bounds s own.is) none in
    let here = subst (λ cs. Keeps C P q.block (picked_of cs used) d) (sym premises.keys) keeps in
    let goal' = subst (λ e. Keeps C P q.block (picked_of (clauses_in q.premises.now.keys.items) used) e) (sym c.requires.key) here in
    c.learn.ensures.ready P (record { sizes = c.requires.ready.sizes; memory = c.requires.ready.memory; inquiries = subst (λ ss. AreOpen P ss c.ask.new.self) c.as_slice-3.ensures.value c.ask.ensures.open })
    (subst (λ ks. Keeps C P q.block (picked_of (clauses_in q.premises.now.keys.items) ks) (clause_in c.args.key)) (sym c.as_slice-in-Holds.ensures.value) goal')

pub returns-in-Broken-clause-answer : goal.returns-in-Broken-clause-answer
returns-in-Broken-clause-answer c =
    let q = c.args.question.now in
    let P = protocol_of q.protocol.now in
    let sizes = c.args.self.now.sizes.items in
    let C = up_to sizes in
    let own = c.requires.goal in
    let f = formula_of c.in_ok-formula.formula in
    let d = clause_of q.space.now q.goal.now in
    let fs = map formula_of q.premises.now.formulas.items in
    let x = c.counterexample.result in
    let told = subst (IsAnswerTo P (block_named P q.block) (map formula_of c.as_slice.result.now) f c.as_slice-3.result.now) c.in-Broken.is c.in_ok-answer.ensures.answer in
    let found : IsFound P (block_named P q.block) fs f sizes c.in-Broken.found =
    subst (λ ss. IsFound P (block_named P q.block) fs f ss c.in-Broken.found) c.as_slice-3.ensures.value
    (subst (λ gs. IsFound P (block_named P q.block) (map formula_of gs) f c.as_slice-3.result.now c.in-Broken.found) c.as_slice.ensures.value told) in
    let is_found : IsCounterexample P q.block fs f sizes x = record { by_the_block = c.counterexample.ensures.block; found = subst (IsFound P (block_named P q.block) fs f sizes) (sym c.counterexample.ensures.found) found } in
    IfOk-weaker c.show.result (λ answer. answer ≡ Some x) (λ answer. (I : List Clause) → ArePremisesOf P I q.premises.now → Decides C P q.block I d answer)
    (λ answer is I premises. subst (Decides C P q.block I d) (sym is)
    (breaks_of P sizes I fs f d q.block x (is_protocol q.protocol.now) c.requires.known (formulas_of_premises P I q.premises.now premises) (λ s. c.in_ok-formula.ensures.value P own.bounds s own.is) is_found))
    c.show.ensures.same_answer

pub returns-in-Broken-clause-ready : goal.returns-in-Broken-clause-ready
returns-in-Broken-clause-ready c =
    let q = c.args.question.now in
    let P = protocol_of q.protocol.now in
    let sizes = c.args.self.now.sizes.items in
    let own = c.requires.goal in
    let f = formula_of c.in_ok-formula.formula in
    let d = clause_of q.space.now q.goal.now in
    let fs = map formula_of q.premises.now.formulas.items in
    let x = c.counterexample.result in
    let told = subst (IsAnswerTo P (block_named P q.block) (map formula_of c.as_slice.result.now) f c.as_slice-3.result.now) c.in-Broken.is c.in_ok-answer.ensures.answer in
    let found : IsFound P (block_named P q.block) fs f sizes c.in-Broken.found =
    subst (λ ss. IsFound P (block_named P q.block) fs f ss c.in-Broken.found) c.as_slice-3.ensures.value
    (subst (λ gs. IsFound P (block_named P q.block) (map formula_of gs) f c.as_slice-3.result.now c.in-Broken.found) c.as_slice.ensures.value told) in
    let is_found : IsCounterexample P q.block fs f sizes x = record { by_the_block = c.counterexample.ensures.block; found = subst (IsFound P (block_named P q.block) fs f sizes) (sym c.counterexample.ensures.found) found } in
    let broken = breaks_of P sizes c.requires.premises.0 fs f d q.block x (is_protocol q.protocol.now) c.requires.known (formulas_of_premises P c.requires.premises.0 q.premises.now c.requires.premises.1) (λ s. c.in_ok-formula.ensures.value P own.bounds s own.is) is_found in
    c.show.ensures.ready P (record { sizes = c.requires.ready.sizes; memory = c.requires.ready.memory; inquiries = subst (λ ss. AreOpen P ss c.ask.new.self) c.as_slice-3.ensures.value c.ask.ensures.open }) broken.transition
