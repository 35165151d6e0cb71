use Rattle.std.proofs.Common.{rules, sym, subst}
use Rattle.dai_circuit.proofs.Extensions.{extends_self}
use Rattle.dai_logic.specs.Protocols.{protocol_of}
use Rattle.dai_logic.specs.Trees.{term_of}
use Rattle.dai_ground.specs.Atoms.{AreOver}
use Rattle.dai_ground.specs.Grounding.{AreCandidates}
use Rattle.dai_ground.proofs.AtomBits.{two_terms, compares_grounds}
use Rattle.dai_ground.proofs.atoms.compares.Goals as goal

pub candidates-requires : goal.candidates-requires
candidates-requires c =
    let t = two_terms (protocol_of c.args.scene.now.protocol.now) c.args.scene.now.frame.now c.args.scene.now.picture.now c.args.circuit.now.vars c.args.binding.now c.args.order (term_of c.args.left) (term_of c.args.right) c.requires in
    (c.args.circuit.now.vars, t.sort, t.first)

pub candidates-requires-2 : goal.candidates-requires-2
candidates-requires-2 c =
    let t = two_terms (protocol_of c.args.scene.now.protocol.now) c.args.scene.now.frame.now c.args.scene.now.picture.now c.args.circuit.now.vars c.args.binding.now c.args.order (term_of c.args.left) (term_of c.args.right) c.requires in
    (c.args.circuit.now.vars, t.sort, t.second)

pub returns-in_err-first : goal.returns-in_err-first
returns-in_err-first c = record { extends = extends_self c.args.circuit.now; answer = search rules }

pub returns-in_err-second : goal.returns-in_err-second
returns-in_err-second c = record { extends = extends_self c.args.circuit.now; answer = search rules }

pub compare-requires-clause-left : goal.compare-requires-clause-left
compare-requires-clause-left c =
    let t = two_terms (protocol_of c.args.scene.now.protocol.now) c.args.scene.now.frame.now c.args.scene.now.picture.now c.args.circuit.now.vars c.args.binding.now c.args.order (term_of c.args.left) (term_of c.args.right) c.requires in
    subst (AreOver c.args.circuit.now.vars) (sym c.as_slice.ensures.value) (c.in_ok-first.ensures c.args.circuit.now.vars t.sort t.first).below

pub compare-requires-clause-right : goal.compare-requires-clause-right
compare-requires-clause-right c =
    let t = two_terms (protocol_of c.args.scene.now.protocol.now) c.args.scene.now.frame.now c.args.scene.now.picture.now c.args.circuit.now.vars c.args.binding.now c.args.order (term_of c.args.left) (term_of c.args.right) c.requires in
    subst (AreOver c.args.circuit.now.vars) (sym c.as_slice-2.ensures.value) (c.in_ok-second.ensures c.args.circuit.now.vars t.sort t.second).below

pub returns : goal.returns
returns c =
    let P = protocol_of c.args.scene.now.protocol.now in
    let frame = c.args.scene.now.frame.now in
    let picture = c.args.scene.now.picture.now in
    let count = c.args.circuit.now.vars in
    let left = term_of c.args.left in
    let right = term_of c.args.right in
    let t = two_terms P frame picture count c.args.binding.now c.args.order left right c.requires in
    compares_grounds P frame picture count c.args.binding.now c.args.order left right c.as_slice.result.now c.as_slice-2.result.now c.args.circuit.now c.compare.new.circuit c.compare.result t
    (subst (AreCandidates P frame picture count c.args.binding.now left t.sort) (sym c.as_slice.ensures.value) (c.in_ok-first.ensures count t.sort t.first))
    (subst (AreCandidates P frame picture count c.args.binding.now right t.sort) (sym c.as_slice-2.ensures.value) (c.in_ok-second.ensures count t.sort t.second))
    c.compare.ensures
