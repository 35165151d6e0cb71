use Rattle.std.proofs.Common.{map}
use Rattle.dai_logic.specs.Protocols.{protocol_of}
use Rattle.dai_logic.specs.Trees.{formula_of}
use Rattle.dai_inquiry.specs.Inquiries.{IsLater}
use Rattle.dai_inquiry.specs.Asked.{AreAsked}
use Rattle.dai_inquiry.proofs.inquiry.Inquiry.ask.Given as goal

abbrev pub invariant-loop-turn : goal.invariant-loop-turn
invariant-loop-turn l = record {
  later : IsLater (protocol_of l.protocol) l.fn.self l.self;
  asked : AreAsked (protocol_of l.protocol) l.self.pictures (map formula_of l.premises) (formula_of l.broken) l.self.circuit l.asked;
}
