use Rattle.std.proofs.Common.{List, Option, sym, subst}
use Rattle.std.specs.Prelude.{IfSome}
use Rattle.std.specs.List.{All}
use Rattle.dai_logic.specs.Protocols.{protocol_of}
use Rattle.dai_logic.specs.Tables.{Fits}
use Rattle.dai_logic.specs.declared.structure.Structure.{Structure}
use Rattle.dai_template.specs.Spaces.{IsClauseOf}
use Rattle.dai_template.specs.declared.clause.Clause.{Clause}
use Rattle.dai_template.specs.declared.space.Space.{Space}
use Rattle.bench_space.specs.Trials.{HasBounds}
use Rattle.bench_space.proofs.jobs.meets.Goals as goal

pub asked_each-requires-clause-clauses : goal.asked_each-requires-clause-clauses
asked_each-requires-clause-clauses c =
    let P = protocol_of c.args.protocol.now in
    let has : HasBounds P c.in-Some.space = subst (λ (r : Option Space). IfSome r (HasBounds P)) c.in-Some.is c.in_ok-space.ensures in
    record {
      protocol = P;
      bounds = has.bounds;
      are = subst (λ (cs : List Clause). All (IsClauseOf P has.bounds c.in-Some.space) cs) (sym c.deref.ensures.value) (c.in_ok-clauses.ensures P has.bounds has.is).of_the_space;
      fit = subst (λ (ss : List Structure). All (Fits P) ss) (sym c.deref-2.ensures.value) c.in_ok-states.ensures;
    }
