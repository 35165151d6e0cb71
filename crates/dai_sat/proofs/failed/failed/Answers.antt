use Rattle.std.proofs.Common.{◌≡◌, refl, ap, ◌∙◌, map, Vec, Global}
use Rattle.dai_trail.specs.declared.cnf.Lit.{Lit}
use Rattle.dai_trail.specs.Codes.{lit_of}
use Rattle.dai_sat.specs.Under.{IsFailure}
use Rattle.dai_trail.proofs.Resolutions.{if_ok_map}
use Rattle.dai_sat.proofs.Unders.{failure_of, names_asked, all_fail}
use Rattle.dai_sat.proofs.failed.failed.Goals as goal

pub returns-then-branch-clause-failure : goal.returns-then-branch-clause-failure
returns-then-branch-clause-failure c =
    let P : Vec Lit Global → Type 0 = λ v. v.items ≡ map lit_of c.as_slice.result.now in
    let Q : Vec Lit Global → Type 0 = λ v. IsFailure c.args.cnf.now c.args.asked.now v.items in
    let failed = c.in_ok-name_decisions.ensures.names c.if-branch.true in
    if_ok_map P Q c.lits_of.result c.lits_of.ensures (λ v e.
    failure_of c.args.cnf.now c.args.asked.now c.name_decisions.new.marks.named.items v.items (e ∙ ap (map lit_of) c.as_slice.ensures.value)
    (names_asked c.args.asked.now c.args.trail.now _ c.args.number c.name_decisions.new.marks.named.items c.requires.within refl c.requires.decisions failed.sources)
    failed.refutes)

pub returns-clause-failure : goal.returns-clause-failure
returns-clause-failure c =
    let P : Vec Lit Global → Type 0 = λ v. v.items ≡ map lit_of c.args.asked.now in
    let Q : Vec Lit Global → Type 0 = λ v. IsFailure c.args.cnf.now c.args.asked.now v.items in
    if_ok_map P Q c.lits_of-2.result c.lits_of-2.ensures (λ v e.
    failure_of c.args.cnf.now c.args.asked.now c.args.asked.now v.items e (λ k kl. (k, kl, refl))
    (all_fail c.args.cnf.now c.args.trail.now c.args.asked.now c.args.number c.requires.sound.trail.mirror c.requires.sound.forced c.requires.within c.requires.lost c.requires.decisions))
