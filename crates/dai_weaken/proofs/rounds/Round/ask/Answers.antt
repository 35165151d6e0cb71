use Rattle.std.proofs.Common.{◌≡◌, ◌∙◌, ◌+◌, List, Option, true, false, sym, subst, arith}
use Rattle.std.specs.Prelude.{slice_index_or}
use Rattle.std.proofs.lemmas.Bool.{false≢true}
use Rattle.std.proofs.lemmas.List.{get_or_default}
use Rattle.dai_model.specs.Clause as Model
use Rattle.dai_logic.specs.Protocols.{protocol_of}
use Rattle.dai_template.specs.Spaces.{clause_of}
use Rattle.dai_weaken.specs.declared.judge.Counterexample.{Counterexample}
use Rattle.dai_weaken.specs.declared.rounds.Strike.{Strike}
use Rattle.dai_weaken.specs.Judging.{Answers, Holds, Refutes}
use Rattle.dai_weaken.specs.Strikes.{IsRoundTo}
use Rattle.dai_weaken.proofs.Descending.{member_is}
use Rattle.dai_weaken.proofs.Members.{round_next, round_struck}
use Rattle.dai_weaken.proofs.rounds.Round.ask.Goals as goal
use Rattle.dai_order.specs.Antichains.{member_at}

pub returns-then-index-clause-asked : goal.returns-then-index-clause-asked
returns-then-index-clause-asked g c = λ I h before.
    let flags = c.args.self.now.flags.items in
    let long = c.requires.long in
    let below = c.requires.inside in
    let is : slice_index_or flags c.args.place false ≡ true = get_or_default flags c.args.place false c.index.result.now (omega (arith, long, below)) ∙ sym c.index.ensures ∙ c.if-index.true in
    round_next (g.J.Judge.class c.args.judge.now) (protocol_of c.args.protocol.now) I c.args.space.now c.args.members.now c.args.place flags c.args.self.now.strikes.items (λ none. absurd (false≢true (sym none ∙ is))) before

pub question-requires-clause-goal : goal.question-requires-clause-goal
question-requires-clause-goal g c =
    let are = c.requires.members in
    record { bounds = are.bounds; is = are.each c.index-members-place.result (c.args.place, c.requires.inside, sym c.index-members-place.is) }

pub returns-in_default-clause-asked : goal.returns-in_default-clause-asked
returns-in_default-clause-asked g c = λ I h before.
    let C = g.J.Judge.class c.args.judge.now in
    let P = protocol_of c.args.protocol.now in
    let space = c.args.space.now in
    let members = c.args.members.now in
    let m = c.index-members-place.result in
    let holds : Holds C P I (clause_of space m) = subst (λ (o : Option Counterexample). Answers C P I (clause_of space m) o) c.in_default.is (c.in_ok-by.ensures.answer I h) in
    let here = member_is space members c.args.place m c.requires.inside c.index-members-place.is in
    round_next C P I space members c.args.place c.args.self.now.flags.items c.args.self.now.strikes.items (λ none. subst (λ (k : Model.Clause). Holds C P I k) (sym here) holds) before

pub returns-clause-asked : goal.returns-clause-asked
returns-clause-asked g c = λ I h before.
    let C = g.J.Judge.class c.args.judge.now in
    let P = protocol_of c.args.protocol.now in
    let space = c.args.space.now in
    let members = c.args.members.now in
    let m = c.index-members-place.result in
    let by = c.in-Some.by in
    let refuted : Refutes C P I (clause_of space m) by = subst (λ (o : Option Counterexample). Answers C P I (clause_of space m) o) c.in-Some.is (c.in_ok-by.ensures.answer I h) in
    let here = member_is space members c.args.place m c.requires.inside c.index-members-place.is in
    let own : Refutes C P I (member_at space members c.args.place) by = subst (λ (k : Model.Clause). Refutes C P I k by) (sym here) refuted in
    let whole = round_struck C P I space members c.requires.once c.args.place c.requires.inside c.args.self.now.flags.items c.struck_by.new.struck.items c.args.self.now.strikes.items by c.in_ok-clauses.clauses own c.in_ok-clauses.ensures.long (c.in_ok-clauses.ensures.struck P c.requires.members own.transition.after_fits) before in
    subst (λ (xs : List Strike). IsRoundTo C P I space members (c.args.place + 1) c.struck_by.new.struck.items xs) (sym c.in_ok-push.ensures.items) whole
