use Rattle.std.proofs.Common.{◌∷◌, [], ◌++◌, ℕ, List, ◌∙◌, ap, append_assoc}
use Rattle.std.specs.Prelude.{codes}
use Rattle.std.specs.Fmt.{decimal}
use Rattle.dai_model.specs.Report.{clause_text}
use Rattle.dai_logic.specs.Protocols.{protocol_of}
use Rattle.dai_template.specs.Spaces.{clause_of}
use Rattle.dai_print.proofs.Pieces.{three_more}
use Rattle.dai_print.proofs.report.add_line.Goals as goal

pub returns : goal.returns
returns c =
    let text = clause_text (protocol_of c.args.protocol.now) (clause_of c.args.space.now c.args.clause.now) in
    let head = codes "invariant [d" ++ (decimal c.args.number ++ codes "] ") in
    let whole = three_more c.args.text.now.items c.extend_from_slice.new.self.items c.extend_from_slice-2.new.self.items c.extend_from_slice-3.new.self.items head text (10 ∷ [])
    (c.in_ok-extend_from_slice.ensures.items ∙ ap (λ (t : List ℕ). c.args.text.now.items ++ t) (c.as_bytes.ensures.value ∙ c.in_ok-head.ensures.ok))
    (c.in_ok-extend_from_slice-2.ensures.items ∙ ap (λ (t : List ℕ). c.extend_from_slice.new.self.items ++ t) (c.deref.ensures.value ∙ c.in_ok-body.ensures))
    c.in_ok-extend_from_slice-3.ensures.items in
    let regroup = append_assoc (codes "invariant [d") (decimal c.args.number ++ codes "] ") (text ++ 10 ∷ []) ∙ ap (λ (t : List ℕ). codes "invariant [d" ++ t) (append_assoc (decimal c.args.number) (codes "] ") (text ++ 10 ∷ [])) in
    whole ∙ ap (λ (t : List ℕ). c.args.text.now.items ++ t) regroup
