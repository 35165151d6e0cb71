use Rattle.std.proofs.Common.{◌+◌, ◌<◌, List, get_or, take, length, map, ap, sym, ◌∙◌, subst, arith}
use Rattle.std.proofs.lemmas.List.{get_or-map, length-map, take_all}
use Rattle.dai_model.specs.Formula.{variable}
use Rattle.dai_logic.specs.declared.protocol.Term.TheVariants.{Var}
use Rattle.dai_logic.specs.Protocols.{protocol_of}
use Rattle.dai_logic.specs.Trees.{term_of}
use Rattle.dai_ground.specs.Grounding.{IsTermIn, AreCandidates}
use Rattle.dai_ground.specs.Atoms.{AreColumns, columns_of}
use Rattle.dai_ground.proofs.TupleBits.{term_in, column_more, columns-push}
use Rattle.dai_ground.proofs.atoms.columns.Goals as goal

pub candidates-requires : goal.candidates-requires
candidates-requires c =
    let i = c.loop-term.term-index in
    let ts = map term_of c.args.terms.now in
    let many = length-map c.args.terms.now term_of in
    let terms = c.requires.2 in
    let one = term_in (protocol_of c.args.scene.now.protocol.now) c.args.scene.now.frame.now c.args.scene.now.picture.now c.requires.0 c.args.binding.now ts c.requires.1 i (term_of (Var 0)) terms (let below = c.loop-term-test.true in omega arith) in
    (c.requires.0, get_or c.requires.1 i 0, subst (λ t. IsTermIn (protocol_of c.args.scene.now.protocol.now) c.args.scene.now.frame.now c.args.scene.now.picture.now c.requires.0 c.args.binding.now t (get_or c.requires.1 i 0)) (get_or-map term_of c.args.terms.now i (Var 0) (term_of (Var 0)) c.loop-term-test.true) one)

pub loop-term-preserved : goal.loop-term-preserved
loop-term-preserved c = λ count sorts terms.
    let P = protocol_of c.args.scene.now.protocol.now in
    let frame = c.args.scene.now.frame.now in
    let picture = c.args.scene.now.picture.now in
    let binding = c.args.binding.now in
    let i = c.loop-term.term-index in
    let ts = map term_of c.args.terms.now in
    let many = length-map c.args.terms.now term_of in
    let below : i < length ts = (let inside = c.loop-term-test.true in omega arith) in
    let is = get_or-map term_of c.args.terms.now i (Var 0) (variable 0) c.loop-term-test.true in
    let one = subst (λ t. IsTermIn P frame picture count binding t (get_or sorts i 0)) is (term_in P frame picture count binding ts sorts i (variable 0) terms below) in
    let found = subst (λ t. AreCandidates P frame picture count binding t (get_or sorts i 0) c.in_ok-candidates.field-0.items) (sym is) (c.in_ok-candidates.ensures count (get_or sorts i 0) one) in
    let more = column_more P frame picture count binding ts sorts (columns_of c.loop-term.columns.items) c.in_ok-candidates.field-0.items i below (c.loop-term.invariant count sorts terms) found in
    subst (λ cs. AreColumns P frame picture count binding (take (i + 1) ts) sorts cs) (sym (ap columns_of c.in_ok-push.ensures.items ∙ columns-push c.loop-term.columns.items c.in_ok-candidates.field-0)) more

pub returns : goal.returns
returns c = λ count sorts terms.
    let ts = map term_of c.args.terms.now in
    let many = length-map c.args.terms.now term_of in
    subst (λ (us : List _). AreColumns (protocol_of c.args.scene.now.protocol.now) c.args.scene.now.frame.now c.args.scene.now.picture.now count c.args.binding.now us sorts (columns_of c.loop-term.columns.items)) (take_all c.loop-term.term-index ts (let past = c.loop-term-test.false in omega arith)) (c.loop-term.invariant count sorts terms)
