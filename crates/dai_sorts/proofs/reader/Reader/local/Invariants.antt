use Rattle.std.proofs.Common.{◌≡◌, map, drop}
use Rattle.dai_logic.specs.Trees.{term_of}
use Rattle.dai_sorts.specs.Scopes.{term_among}
use Rattle.dai_sorts.specs.Readers.{scope_of}
use Rattle.dai_sorts.proofs.reader.Reader.local.Given as goal

-- the first of this name is among those to come
abbrev pub invariant-loop-number : goal.invariant-loop-number
invariant-loop-number l = term_among (map (λ x. x.now) (drop l.number l.binder-items)) (map term_of (drop l.number l.self.terms.items)) l.name.text ≡ term_among (scope_of l.self).context.inside (scope_of l.self).terms l.name.text
