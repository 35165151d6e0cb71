use Rattle.std.specs.Prelude.{◌+◌, ◌^◌, ◌==◌, ℕ, zero, suc, List, [], ◌∷◌, if◌then◌else◌}
use Rattle.dai_trail.specs.declared.trail.TheConstants.{DECISION}

-- how many trails of a given room come after one with these reasons, where a place with no entry comes
-- before a decision, and a decision before a literal that follows: it falls with each decision, each
-- literal that follows, and each jump back that turns a decision into a literal that follows
abbrev pub rank : ℕ → List ℕ → ℕ
rank room [] = 3 ^ room
rank zero (reason ∷ reasons) = 0
rank (suc room) (reason ∷ reasons) = (if reason == DECISION then 3 ^ room else 0) + rank room reasons
