use Rattle.std.proofs.Common.{sym, subst, arith}
use Rattle.dai_template.specs.Atoms.{variable_of, atom_of}
use Rattle.dai_template.specs.Meeting.{AreAll, IsBound}
use Rattle.dai_template.proofs.meeting.unbound.Goals as goal

pub returns-in-IsInd-clause-none : goal.returns-in-IsInd-clause-none
returns-in-IsInd-clause-none c = λ e. subst (λ a. AreAll (IsBound c.args.bound.now) (atom_of a)) (sym c.in-IsInd.is) (c.first_unbound-in-IsInd.ensures.none e 0 (variable_of (0, 0)) (omega arith))
