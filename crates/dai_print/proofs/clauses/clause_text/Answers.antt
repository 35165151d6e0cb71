use Rattle.std.proofs.Common.{◌≡◌, ℕ, map, Vec}
use Rattle.std.specs.declared.alloc.Global.{Global}
use Rattle.std.proofs.lemmas.Result.{IfOk-weaker}
use Rattle.dai_model.specs.Report.{clause_text}
use Rattle.dai_logic.specs.Protocols.{protocol_of}
use Rattle.dai_template.specs.Atoms.{atom_of}
use Rattle.dai_template.specs.Spaces.{clause_of}
use Rattle.dai_print.specs.Texts.{text_over}
use Rattle.dai_print.proofs.Lines.{few_types, inside_shape, text_is}
use Rattle.dai_print.proofs.clauses.clause_text.Goals as goal

pub text_of-requires-clause-few : goal.text_of-requires-clause-few
text_of-requires-clause-few c = few_types c.args.protocol.now c.requires.bounds c.args.space.now c.args.clause.now c.index-shape.result.now c.requires.is c.index-shape.ensures

pub text_of-requires-clause-inside : goal.text_of-requires-clause-inside
text_of-requires-clause-inside c = inside_shape c.args.protocol.now c.requires.bounds c.args.space.now c.args.clause.now c.index-shape.result.now c.as_slice.result.now c.requires.is c.index-shape.ensures c.as_slice.ensures.value

pub returns : goal.returns
returns c =
    let P = protocol_of c.args.protocol.now in
    let shape = c.index-shape.result.now in
    IfOk-weaker c.text_of.result
    (λ (text : Vec ℕ Global). text.items ≡ text_over P shape.counts.items (map atom_of shape.atoms.items) c.as_slice.result.now)
    (λ (text : Vec ℕ Global). text.items ≡ clause_text P (clause_of c.args.space.now c.args.clause.now))
    (λ (text : Vec ℕ Global) h. text_is c.args.protocol.now c.requires.bounds c.args.space.now c.args.clause.now shape c.as_slice.result.now text.items c.requires.is c.index-shape.ensures c.as_slice.ensures.value h)
    c.text_of.ensures
