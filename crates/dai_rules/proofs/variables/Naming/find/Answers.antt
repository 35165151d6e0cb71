use Rattle.dai_rules.proofs.VariableLemmas.{bound_found, free_found}
use Rattle.dai_rules.proofs.variables.Naming.find.Goals as goal

pub returns-in-Some : goal.returns-in-Some
returns-in-Some c =
    bound_found c.args.self.now.variables.items c.deref.result.now c.args.self.now.bound.items c.deref-2.result.now c.args.self.now.free.items c.args.name.now.text c.in-Some.number c.deref.ensures.value c.deref-2.ensures.value c.in-Some.ensures

pub returns-in-None : goal.returns-in-None
returns-in-None c =
    free_found c.args.self.now.variables.items c.deref.result.now c.deref-in-None.result.now c.args.self.now.bound.items c.deref-2.result.now c.args.self.now.free.items c.deref-in-None-2.result.now c.args.name.now.text c.first_called.result
    c.deref.ensures.value c.deref-2.ensures.value c.deref-in-None.ensures.value c.deref-in-None-2.ensures.value c.in-None.ensures c.first_called.ensures
