use Rattle.std.proofs.Common.{◌≡◌, ℕ, List, length, drop, map}
use Rattle.dai_model.specs.Execution.{bind_target}
use Rattle.dai_logic.specs.Trees.{term_of}
use Rattle.dai_ground.specs.Grounding.{environment}
use Rattle.dai_ground.proofs.targets.bind_all.Given as goal

-- binding the rest completes the whole
abbrev pub invariant-loop-place : goal.invariant-loop-place
invariant-loop-place l = record {
  long : length l.binding ≡ 256;
  rest : (arguments choices : List ℕ) → bind_target (environment l.binding arguments choices) (drop l.place (map term_of l.target)) (drop l.place l.tuple) ≡ bind_target (environment l.initial.binding arguments choices) (map term_of l.target) l.tuple;
}
