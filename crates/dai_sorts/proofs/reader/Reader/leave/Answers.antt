use Rattle.std.proofs.Common.{◌++◌, ◌∙◌, ap, sym, map, take}
use Rattle.std.proofs.lemmas.List.{take-map}
use Rattle.std.proofs.Math.Seq.{take-append_seam}
use Rattle.dai_logic.specs.Trees.{term_of}
use Rattle.dai_rules.proofs.CodeSteps.{binders_in, outside_of}
use Rattle.dai_sorts.specs.Scopes.{Scope}
use Rattle.dai_sorts.proofs.reader.Reader.leave.Goals as goal

pub returns : goal.returns
returns c = λ binders own outer e o n.
    let self = c.args.self.now in
    let inside = ap binders_in c.truncate.ensures.items ∙ outside_of self.judge.inside.items outer.context.inside binders c.args.outside (ap (λ (s : Scope). s.context.inside) e) o in
    let kept = ap (map term_of) c.truncate-2.ensures.items ∙ sym (take-map term_of c.args.terms self.terms.items) ∙ ap (take c.args.terms) (ap (λ (s : Scope). s.terms) e)
    ∙ ap (λ k. take k (outer.terms ++ own)) n ∙ take-append_seam outer.terms own in
    λ i. record {
      context = record { declarations = (e i).context.declarations; here = (e i).context.here; inside = inside i };
      terms = kept i;
    }
