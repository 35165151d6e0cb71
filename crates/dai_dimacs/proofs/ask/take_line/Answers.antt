use Rattle.std.proofs.Common.{◌≡◌, true, Some, [], ◌∷◌, ◌++◌, string_bytes, subst, sym, ◌∙◌}
use Rattle.dai_dimacs.specs.Files.{is_content}
use Rattle.dai_dimacs.specs.Inquiries.{AreTold}
use Rattle.dai_dimacs.proofs.Talks.{entry_more, header_wanted, header_told}
use Rattle.dai_dimacs.proofs.ask.take_line.Goals as goal

pub returns-in-Some : goal.returns-in-Some
returns-in-Some c =
    let content : is_content c.args.line.now ≡ true = sym c.is_content.ensures ∙ c.if-not-is_content.false in
    entry_more c.take_entry.result c.args.line.now c.args.solver.now c.in-Some.known c.take_entry.new.solver (string_bytes c.args.said.now) (string_bytes c.take_entry.new.said) c.in-Some.is content c.take_entry.ensures

pub returns-in-None-header : goal.returns-in-None-header
returns-in-None-header c =
    let said = string_bytes c.args.said.now in
    let content : is_content c.args.line.now ≡ true = sym c.is_content.ensures ∙ c.if-not-is_content.false in
    λ text h. header_wanted text c.args.line.now said content c.in-None-header.ensures (subst (λ s. AreTold text s said) c.in-None.is h)

pub returns-in-Some-header : goal.returns-in-Some-header
returns-in-Some-header c =
    let said = string_bytes c.args.said.now in
    let line = c.args.line.now in
    let content : is_content line ≡ true = sym c.is_content.ensures ∙ c.if-not-is_content.false in
    λ text h.
    subst (λ f. AreTold (text ++ line ∷ []) (Some f) said) (sym (c.new-in-Some-header.ensures ∙ c.new.ensures))
    (header_told text line c.in-Some-header.vars c.in-Some-header.field-0-1 said content c.in-Some-header.ensures (subst (λ s. AreTold text s said) c.in-None.is h))
