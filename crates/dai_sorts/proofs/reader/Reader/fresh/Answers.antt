use Rattle.std.proofs.Common.{◌++◌, ◌∙◌, ap, map}
use Rattle.dai_rules.specs.Names.{Context}
use Rattle.dai_rules.specs.Tables.{texts_of}
use Rattle.dai_rules.specs.Views.{View}
use Rattle.dai_sorts.proofs.reader.Reader.fresh.Goals as goal

pub loop-binder-init : goal.loop-binder-init
loop-binder-init c =
    let b = c.begin.ensures in
    let e = ap (λ (v : View). v.context) b ∙ c.new-judge.ensures.context in
    let inside = ap (λ (x : Context). x.inside ++ map (λ y. y.now) c.deref-binder-items.result.now) e ∙ ap (map (λ y. y.now)) c.deref-binder-items.ensures.value in
    let locals = ap (λ (v : View). v.locals) b ∙ ap texts_of c.new-judge.ensures.no_locals in
    let first = ap (λ (v : View). v.first) b ∙ c.new-judge.ensures.first in
    λ i. record {
      context = record { declarations = (e i).declarations; here = c.args.self.now.judge.here; inside = inside i };
      locals = locals i;
      naming = (b i).naming;
      uses = (b i).uses;
      orderings = (b i).orderings;
      existentials = (b i).existentials;
      witnesses = (b i).witnesses;
      first = first i;
    }
