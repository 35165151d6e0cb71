use Rattle.std.proofs.Common.{◌≡◌, ℕ, Vec, true, false, map, take, sym, ◌∙◌, ap, nat_eq}
use Rattle.std.specs.declared.alloc.Global.{Global}
use Rattle.std.specs.List.{list_any}
use Rattle.std.specs.Cmp.Lexicographic.{pointwise}
use Rattle.dai_words.specs.Bounds.{bound_in, names_of, are_apart}
use Rattle.dai_words.proofs.Parts.{keys_among, not_apart, names_more, apart_push, key_added, name_of}
use Rattle.dai_words.proofs.bounds.are_apart.Goals as goal

pub returns-then-contains : goal.returns-then-contains
returns-then-contains c =
    let name = c.name_in-name.ensures ∙ ap name_of c.as_bytes.ensures in
    let among = sym c.contains.ensures ∙ c.if-contains.true in
    let known : list_any (pointwise nat_eq (name_of c.part-item.result)) (names_of (map bound_in (take c.loop-part.part-index c.args.parts.now))) ≡ true =
    ap (list_any (pointwise nat_eq (name_of c.part-item.result))) (sym c.loop-part.invariant.keys) ∙ (sym (keys_among (name_of c.part-item.result) c.loop-part.names.keys) ∙ (ap (λ n. list_any (λ (key : Vec ℕ Global). pointwise nat_eq n key.items) c.loop-part.names.keys) (sym name) ∙ among)) in
    sym (not_apart c.args.parts.now c.loop-part.part-index c.part-item.result c.loop-part-test.true c.part-item.is known)

pub loop-part-preserved : goal.loop-part-preserved
loop-part-preserved c =
    let name = c.name_in-name.ensures ∙ ap name_of c.as_bytes.ensures in
    let among = sym c.contains.ensures ∙ c.if-contains.false in
    let unknown : list_any (pointwise nat_eq (name_of c.part-item.result)) (names_of (map bound_in (take c.loop-part.part-index c.args.parts.now))) ≡ false =
    ap (list_any (pointwise nat_eq (name_of c.part-item.result))) (sym c.loop-part.invariant.keys) ∙ (sym (keys_among (name_of c.part-item.result) c.loop-part.names.keys) ∙ (ap (λ n. list_any (λ (key : Vec ℕ Global). pointwise nat_eq n key.items) c.loop-part.names.keys) (sym name) ∙ among)) in
    let more = names_more c.args.parts.now c.loop-part.part-index c.part-item.result c.loop-part-test.true c.part-item.is in
    let front = names_of (map bound_in (take c.loop-part.part-index c.args.parts.now)) in
    record {
      apart = ap are_apart more ∙ apart_push front (name_of c.part-item.result) c.loop-part.invariant.apart unknown;
      keys = key_added c.loop-part.names.keys c.insert.new.self.keys c.in_ok-from_slice.field-0 (name_of c.part-item.result) front (c.in_ok-from_slice.ensures.items ∙ name) c.loop-part.invariant.keys unknown c.in_ok-insert.ensures.keys ∙ sym more;
    }
