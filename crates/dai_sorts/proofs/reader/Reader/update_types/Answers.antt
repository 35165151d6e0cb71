use Rattle.std.proofs.Common.{sym, subst, length}
use Rattle.std.proofs.lemmas.Result.{IfOk-weaker}
use Rattle.dai_syntax.specs.Trees.{formula_of}
use Rattle.dai_rules.specs.Kinds.{kind_value}
use Rattle.dai_rules.specs.Ranges.{AreUsesWithin}
use Rattle.dai_rules.specs.Views.{View, view_of, context_of}
use Rattle.dai_rules.proofs.RangeLemmas.{update_within}
use Rattle.dai_sorts.specs.Formulas.{AreTypes}
use Rattle.dai_sorts.specs.Sound.{AreTyped}
use Rattle.dai_sorts.specs.Readers.{fresh_view}
use Rattle.dai_sorts.proofs.Wholes.{update_typed, update_view}
use Rattle.dai_sorts.proofs.reader.Reader.update_types.Goals as goal

pub types_of-requires-clause-within : goal.types_of-requires-clause-within
types_of-requires-clause-within c =
    let ctx = context_of c.args.self.now.judge in
    let f = formula_of c.args.form.now in
    let e = update_view c.args.args c.args.name.now f c.places.result.now (kind_value c.args.kind) (fresh_view ctx) (view_of c.in_ok-judge.judge) (view_of c.terms.new.self) (view_of c.right.new.self)
    c.in_ok-judge.ensures c.in_ok-terms.ensures c.in_ok-right.ensures c.requires.kind c.places.ensures in
    subst (λ (v : View). AreUsesWithin (length v.naming.variables) v.uses) (sym e) (update_within ctx c.args.name.now c.args.args.now f).uses

pub types_of-requires-clause-typed : goal.types_of-requires-clause-typed
types_of-requires-clause-typed c =
    let ctx = context_of c.args.self.now.judge in
    let f = formula_of c.args.form.now in
    let e = update_view c.args.args c.args.name.now f c.places.result.now (kind_value c.args.kind) (fresh_view ctx) (view_of c.in_ok-judge.judge) (view_of c.terms.new.self) (view_of c.right.new.self)
    c.in_ok-judge.ensures c.in_ok-terms.ensures c.in_ok-right.ensures c.requires.kind c.places.ensures in
    subst (λ (v : View). AreTyped (length v.naming.variables) v.uses) (sym e) (update_typed ctx c.args.name.now c.args.args.now f c.requires.unbroken)

pub returns : goal.returns
returns c =
    let ctx = context_of c.args.self.now.judge in
    let f = formula_of c.args.form.now in
    let e = update_view c.args.args c.args.name.now f c.places.result.now (kind_value c.args.kind) (fresh_view ctx) (view_of c.in_ok-judge.judge) (view_of c.terms.new.self) (view_of c.right.new.self)
    c.in_ok-judge.ensures c.in_ok-terms.ensures c.in_ok-right.ensures c.requires.kind c.places.ensures in
    IfOk-weaker c.types_of.result _ _ (λ types h. subst (λ (v : View). AreTypes ctx.declarations v.naming.variables v.uses types.items) e h) c.types_of.ensures
