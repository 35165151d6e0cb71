use Rattle.dai_logic.specs.Protocols.{protocol_of}
use Rattle.dai_weaken.proofs.Members.{round_whole}
use Rattle.dai_weaken.proofs.rounds.ask_each.Goals as goal

pub returns-clause-strikes : goal.returns-clause-strikes
returns-clause-strikes g c = λ I h.
    round_whole (g.J.Judge.class c.args.judge.now) (protocol_of c.args.protocol.now) I c.args.space.now c.args.members.now c.loop-place.place c.loop-place.round.flags.items c.loop-place.round.strikes.items c.loop-place-test.false (c.loop-place.invariant.asked I h)
