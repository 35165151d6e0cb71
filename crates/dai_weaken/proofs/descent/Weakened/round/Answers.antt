use Rattle.std.proofs.Common.{List, Bool, length, subst, sym}
use Rattle.dai_model.specs.Classes.{Class}
use Rattle.dai_logic.specs.Protocols.{protocol_of}
use Rattle.dai_template.specs.declared.clause.Clause.{Clause}
use Rattle.dai_template.specs.Lists.{clauses_of}
use Rattle.dai_weaken.specs.declared.rounds.Strike.{Strike}
use Rattle.dai_weaken.specs.Questions.{ArePremises}
use Rattle.dai_weaken.specs.Strikes.{AreRoundStrikes, AreEachOnce}
use Rattle.dai_weaken.specs.Weakening.{IsDownTo, IsWithoutStruck}
use Rattle.dai_weaken.proofs.Falling.{premises, still_by, down_next, none_listed}
use Rattle.dai_weaken.proofs.Descending.{each_once}
use Rattle.dai_weaken.proofs.descent.Weakened.round.Goals as goal

pub prepare-requires-clause-clauses : goal.prepare-requires-clause-clauses
prepare-requires-clause-clauses g c =
    let P = protocol_of c.args.protocol.now in
    let own = premises P c.requires.antichain.0 c.args.space.now c.args.self.now.kept.clauses.items c.requires.antichain.1 in
    subst (λ (cs : List Clause). ArePremises P c.args.space.now cs) (sym c.clauses.ensures) own

pub ask_each-requires-clause-once : goal.ask_each-requires-clause-once
ask_each-requires-clause-once g c =
    let P = protocol_of c.args.protocol.now in
    let own = each_once P c.requires.antichain.0 c.args.space.now c.args.self.now.kept.clauses.items c.requires.antichain.1 in
    subst (λ (cs : List Clause). AreEachOnce c.args.space.now cs) (sym c.clauses-2.ensures) own

pub returns-then-is_empty-clause-still : goal.returns-then-is_empty-clause-still
returns-then-is_empty-clause-still g c = λ none.
    let P = protocol_of c.args.protocol.now in
    let D = g.J.Judge.class c.args.judge.now in
    let space = c.args.space.now in
    let kept = c.args.self.now.kept.clauses.items in
    let flags = c.in_ok-flags.field-0.flags.items in
    let strikes = c.in_ok-flags.field-0.strikes in
    let asked = c.in_ok-flags.ensures.strikes (clauses_of space c.clauses.result.now) c.in_ok-premises.ensures.premises in
    let own : AreRoundStrikes D P (clauses_of space kept) space kept flags strikes.items =
    subst (λ (E : Class). AreRoundStrikes E P (clauses_of space kept) space kept flags strikes.items) c.in_ok-premises.ensures.same
    (subst (λ (cs : List Clause). AreRoundStrikes (g.J.Judge.class c.prepare.new.self) P (clauses_of space kept) space cs flags strikes.items) c.clauses-2.ensures
    (subst (λ (cs : List Clause). AreRoundStrikes (g.J.Judge.class c.prepare.new.self) P (clauses_of space cs) space c.clauses-2.result.now flags strikes.items) c.clauses.ensures asked)) in
    still_by D P c.requires.antichain.0 space (clauses_of space kept) kept strikes.items flags (none_listed strikes c.if-is_empty.ensures) own

pub returns-clause-down : goal.returns-clause-down
returns-clause-down g c = λ B start h.
    let P = protocol_of c.args.protocol.now in
    let D = g.J.Judge.class c.args.judge.now in
    let space = c.args.space.now in
    let kept = c.args.self.now.kept.clauses.items in
    let flags = c.in_ok-flags.field-0.flags.items in
    let strikes = c.in_ok-flags.field-0.strikes.items in
    let new = c.remove_struck.new.kept.clauses.items in
    let asked = c.in_ok-flags.ensures.strikes (clauses_of space c.clauses.result.now) c.in_ok-premises.ensures.premises in
    let own : AreRoundStrikes D P (clauses_of space kept) space kept flags strikes =
    subst (λ (E : Class). AreRoundStrikes E P (clauses_of space kept) space kept flags strikes) c.in_ok-premises.ensures.same
    (subst (λ (cs : List Clause). AreRoundStrikes (g.J.Judge.class c.prepare.new.self) P (clauses_of space kept) space cs flags strikes) c.clauses-2.ensures
    (subst (λ (cs : List Clause). AreRoundStrikes (g.J.Judge.class c.prepare.new.self) P (clauses_of space cs) space c.clauses-2.result.now flags strikes) c.clauses.ensures asked)) in
    let without : IsWithoutStruck P B space kept flags (length flags) new = subst (λ (bs : List Bool). IsWithoutStruck P B space kept bs (length bs) new) c.deref.ensures.value (c.in_ok-remove_struck.ensures P B h.antichain) in
    subst (λ (xs : List Strike). IsDownTo D P B space start new xs) (sym c.in_ok-append.ensures.items) (down_next D P B space start kept new c.args.self.now.strikes.items strikes flags h own without)
