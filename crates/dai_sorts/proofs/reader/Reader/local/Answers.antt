use Rattle.std.proofs.Common.{◌∙◌, ap, sym, map}
use Rattle.std.specs.Option.{option_map}
use Rattle.dai_logic.specs.Trees.{term_of}
use Rattle.dai_sorts.specs.Scopes.{term_among}
use Rattle.std.specs.Prelude.{slice_get}
use Rattle.dai_rules.proofs.NameTables.{item_copied}
use Rattle.dai_sorts.proofs.Locals.{local_next, local_found}
use Rattle.dai_sorts.proofs.reader.Reader.local.Goals as goal

pub loop-number-init : goal.loop-number-init
loop-number-init c = ap (λ bs. term_among (map (λ b. b.now) bs) (map term_of c.args.self.now.terms.items) c.args.name.now.text) c.deref-binder-items.ensures.value

pub loop-number-preserved : goal.loop-number-preserved
loop-number-preserved c =
    local_next c.deref-binder-items.result.now c.args.self.now.terms.items c.loop-number.number c.binder-item.result c.args.name.now.text c.loop-number-test.true c.binder-item.is (sym c.is_named.ensures ∙ c.if-is_named.false) ∙ c.loop-number.invariant

pub returns-then-is_named : goal.returns-then-is_named
returns-then-is_named c =
    let terms = c.args.self.now.terms.items in
    let i = c.loop-number.number in
    let found = local_found c.deref-binder-items.result.now terms i c.binder-item.result c.args.name.now.text c.loop-number-test.true c.binder-item.is (sym c.is_named.ensures ∙ c.if-is_named.true) in
    ap (option_map term_of) (c.copied.ensures ∙ item_copied c.deref.result.now i c.get.result c.get.ensures.lookup ∙ ap (λ ts. slice_get ts i) c.deref.ensures.value) ∙ found ∙ c.loop-number.invariant
