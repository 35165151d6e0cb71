-- The reader's numbers are those of the judge's declarations, wherever it stands.
use Rattle.std.proofs.Common.{◌≡◌, ℕ, ◌++◌, List, ap, sym, subst}
use Rattle.dai_syntax.specs.declared.tree.Binder.{Binder}
use Rattle.dai_rules.specs.declared.judge.Judge.{Judge}
use Rattle.dai_rules.specs.Names.{Context, with_inside}
use Rattle.dai_rules.specs.Views.{View, context_of, Introduces}
use Rattle.dai_sorts.specs.declared.numbers.Counts.{Counts as Program}
use Rattle.dai_sorts.specs.Counts.{AreCounts}

pub still_counted : (old new : Judge) (before : List Program) (all : Program) → (context_of new).declarations ≡ (context_of old).declarations → AreCounts (context_of old).declarations before all → AreCounts (context_of new).declarations before all
still_counted old new before all e h = subst (λ ds. AreCounts ds before all) (sym e) h

pub introduced_context : (room : ℕ) (binders : List Binder) (old new : Judge) → Introduces room binders old new → context_of new ≡ with_inside (context_of old) ((context_of old).inside ++ binders)
introduced_context room binders old new h = ap (λ (v : View). v.context) h.judged

pub introduced_counted : (room : ℕ) (binders : List Binder) (old new : Judge) (before : List Program) (all : Program) → Introduces room binders old new → AreCounts (context_of old).declarations before all → AreCounts (context_of new).declarations before all
introduced_counted room binders old new before all h = still_counted old new before all (ap (λ (ctx : Context). ctx.declarations) (introduced_context room binders old new h))

pub viewed_counted : (old new : Judge) (before : List Program) (all : Program) → context_of new ≡ context_of old → AreCounts (context_of old).declarations before all → AreCounts (context_of new).declarations before all
viewed_counted old new before all e = still_counted old new before all (ap (λ (ctx : Context). ctx.declarations) e)
