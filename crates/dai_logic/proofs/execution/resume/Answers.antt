use Rattle.std.proofs.Common.{◌≡◌, Bool, true, false, List, length, map, Option, Some, None, sym, ap, ◌∙◌, refl, subst}
use Rattle.std.specs.Prelude.{if◌then◌else◌}
use Rattle.dai_model.specs.Execution.{after_statements}
use Rattle.dai_logic.specs.Trees.{statements_of}
use Rattle.dai_logic.specs.Protocols.{protocol_of}
use Rattle.dai_logic.specs.Environments.{environment_of}
use Rattle.dai_logic.specs.Tables.{IsRunnable}
use Rattle.dai_logic.proofs.Copies.{copied_fits, copied_structure, fits_alike}
use Rattle.dai_logic.proofs.execution.resume.Goals as goal

either_left : {A : Type 0} {o : Option A} {t : A} (b : Bool) → (b ≡ true → o ≡ Some t) → (b ≡ false → o ≡ None) → o ≡ (if b then Some t else None)
either_left true h k = h refl
either_left false h k = k refl

pub copy_into-requires : goal.copy_into-requires
copy_into-requires c =
    c.requires.room.after

pub run-requires-clause-fits : goal.run-requires-clause-fits
run-requires-clause-fits c =
    copied_fits (protocol_of c.args.protocol.now) c.args.s.now c.copy_into.new.to c.copy_into.ensures c.requires.fits

pub run-requires-clause-spare : goal.run-requires-clause-spare
run-requires-clause-spare c =
    c.requires.room.spare ∙ ap (map (λ (row : List Bool). length row)) (sym c.copy_into.ensures.tables)

pub run-requires-clause-code : goal.run-requires-clause-code
run-requires-clause-code c =
    subst (λ xs. IsRunnable (protocol_of c.args.protocol.now) xs (environment_of c.args.env.now) (statements_of c.args.rest.now)) (sym c.copy_into.ensures.sizes) c.requires.code

pub returns-clause-left : goal.returns-clause-left
returns-clause-left c =
    sym (ap (after_statements (protocol_of c.args.protocol.now) (environment_of c.args.env.now) (statements_of c.args.rest.now)) (copied_structure (protocol_of c.args.protocol.now) c.args.s.now c.copy_into.new.to c.copy_into.ensures)) ∙ either_left c.run.result c.run.ensures.passed c.run.ensures.barred

pub returns-clause-fits : goal.returns-clause-fits
returns-clause-fits c =
    c.run.ensures.fits

pub returns-clause-room : goal.returns-clause-room
returns-clause-room c =
    record { after = (fits_alike (protocol_of c.args.protocol.now) c.args.s.now c.run.new.s c.requires.fits c.run.ensures.fits (c.run.ensures.sizes ∙ c.copy_into.ensures.sizes)); spare = c.run.ensures.spare ∙ (fits_alike (protocol_of c.args.protocol.now) c.args.s.now c.run.new.s c.requires.fits c.run.ensures.fits (c.run.ensures.sizes ∙ c.copy_into.ensures.sizes)).tables }

pub returns-clause-unchanged : goal.returns-clause-unchanged
returns-clause-unchanged c =
    c.run.ensures.unchanged
