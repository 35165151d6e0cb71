use Rattle.std.proofs.Common.{◌<◌, length, map}
use Rattle.std.specs.List.{All}
use Rattle.dai_logic.specs.Protocols.{protocol_of}
use Rattle.dai_logic.specs.Trees.{formula_of}
use Rattle.dai_ground.specs.Answers.{picked}
use Rattle.dai_ground.specs.Asking.{block_asked}
use Rattle.dai_ground.specs.Turns.{IsOpenQuestion}
use Rattle.dai_ground.proofs.asking.ask.Given as goal

abbrev pub invariant-loop-turn : goal.invariant-loop-turn
invariant-loop-turn l =
    (open' : IsOpenQuestion (protocol_of l.protocol) (block_asked (protocol_of l.protocol) l.block) (picked (map formula_of l.premises) l.used.items) (formula_of l.broken) l.sizes l.wide) ×
    All (λ k. k < length (map formula_of l.premises)) l.used.items
