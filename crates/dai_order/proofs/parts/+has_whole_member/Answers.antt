use Rattle.std.proofs.Common.{◌/◌, ◌%◌, arith, refl}
use Rattle.dai_template.specs.Spaces.{clause_of}
use Rattle.dai_template.specs.Lists.{clauses_of}
use Rattle.dai_order.specs.Parts.{IsBelowWithout}
use Rattle.dai_order.proofs.Dropping.{stands_above, evenly_below, none_without, part_without, next_place}
use Rattle.dai_order.proofs.VariableGains.{few_at}
use Rattle.dai_order.proofs.parts.+has_whole_member.Goals as goal
use Rattle.dai_order.proofs.parts.+has_whole_member.Goals.{in-Some+else-has_whole_member, in_default}

pub returns-then-has_whole_member-clause-some : goal.returns-then-has_whole_member-clause-some
returns-then-has_whole_member-clause-some t c = λ P B h forms _.
    let p = c.in-Some.ensures.part P B h in
    stands_above P B c.args.space.now c.args.members.now (clause_of c.args.space.now c.in-Some.part) (clause_of c.args.space.now c.args.clause.now) forms (c.has_whole_member.ensures.some P B p.of_the_space forms c.if-has_whole_member.true) p.below

pub loop-place-preserved : goal.loop-place-preserved
loop-place-preserved t c = λ P B h forms k below.
    let members = clauses_of c.args.space.now c.args.members.now in
    let own = clause_of c.args.space.now c.args.clause.now in
    next_place (λ n. IsBelowWithout P members own (n / 4) (n % 4)) c.loop-place.place k below
    (λ before. c.loop-place.invariant P B h forms k before)
    (elim c.match-without_variable.branch [
      | in-Some+else-has_whole_member w ↦ part_without P B c.args.space.now c.args.members.now c.args.clause.now w.in-Some.part (c.loop-place.place / 4) (c.loop-place.place % 4) forms (w.in-Some.ensures.part P B h) (w.has_whole_member.ensures.none P B (w.in-Some.ensures.part P B h).of_the_space forms w.if-has_whole_member.false)
      | in_default w ↦ none_without P B c.args.space.now c.args.members.now own (c.loop-place.place / 4) (c.loop-place.place % 4) forms (w.in_default.ensures.none refl P B h)
    ])

pub returns-clause-none : goal.returns-clause-none
returns-clause-none t c = λ P B h forms _ e.
    evenly_below P B c.args.space.now c.args.members.now (clause_of c.args.space.now c.args.clause.now) c.loop-place.place h.template forms (few_at P B c.args.space.now c.args.clause.now h) (let long = h.template.one_count_each in let few = h.space_of.few_types in omega (arith, long, few)) c.loop-place-test.false
    (λ m listed r. c.is_member.ensures.none P B h forms c.if-is_member.false m listed r)
    (c.loop-place.invariant P B h forms) e
