use Rattle.std.proofs.Common.{List, sym, subst, ◌∙◌}
use Rattle.dai_syntax.specs.declared.tree.Decl.{Decl}
use Rattle.dai_syntax.specs.Viable.{IsSyntaxError}
use Rattle.dai_syntax.proofs.Files.{FilePath, begins_file, fails_left_out, fails_further, passed_on, not_empty, is_empty, sees_another, reads_further, gets_shorter, is_file}
use Rattle.dai_syntax.proofs.declarations.parse.Goals as goal

pub loop-cursor-init : goal.loop-cursor-init
loop-cursor-init c = begins_file _ c.new-decls.result.items c.new-decls.ensures.items

pub returns-then-is_at-clause-fault : goal.returns-then-is_at-clause-fault
returns-then-is_at-clause-fault c = fails_left_out c.loop-cursor.decls.items c.left_out.result c.loop-cursor.invariant (c.is_at.ensures.yes c.if-is_at.true) c.left_out.ensures

pub returns-in_err-declaration-clause-fault : goal.returns-in_err-declaration-clause-fault
returns-in_err-declaration-clause-fault c =
    let rest = c.loop-cursor.cursor.rest.now in
    let see = sees_another rest (not_empty rest (sym c.is_empty.ensures ∙ c.loop-cursor-test.true)) (c.is_at.ensures.no c.if-is_at.false) in
    passed_on (IsSyntaxError c.args.bytes.now c.args.tokens.now) c.from_residual.result c.in_err-declaration.field-0.0 c.from_residual.ensures.1 (fails_further c.loop-cursor.decls.items c.in_err-declaration.field-0.0 c.loop-cursor.invariant see c.in_err-declaration.ensures.failed)

pub loop-cursor-smaller : goal.loop-cursor-smaller
loop-cursor-smaller c = gets_shorter c.in_ok-declaration.ensures.read

pub loop-cursor-preserved : goal.loop-cursor-preserved
loop-cursor-preserved c =
    let rest = c.loop-cursor.cursor.rest.now in
    let see = sees_another rest (not_empty rest (sym c.is_empty.ensures ∙ c.loop-cursor-test.true)) (c.is_at.ensures.no c.if-is_at.false) in
    let P : List Decl → Type 0 = λ ds. FilePath c.args.bytes.now c.args.tokens.now c.declaration.new.cursor ds in
    subst P (sym {A = List Decl} c.in_ok-push.ensures.items) (reads_further c.loop-cursor.decls.items c.in_ok-declaration.field-0 c.loop-cursor.invariant see c.in_ok-declaration.ensures.read)

pub returns-clause-file : goal.returns-clause-file
returns-clause-file c = is_file c.loop-cursor.decls.items c.loop-cursor.invariant (is_empty c.loop-cursor.cursor.rest.now (sym c.is_empty.ensures ∙ c.loop-cursor-test.false))
