use Rattle.std.proofs.Common.{◌≡◌, true, [], ◌∷◌, ◌++◌, ap, sym, ◌∙◌, subst, append_assoc}
use Rattle.std.proofs.lemmas.List.{append-nil}
use Rattle.dai_dimacs.specs.Pieces.{words}
use Rattle.dai_dimacs.specs.Drafts.{Takes}
use Rattle.dai_dimacs.proofs.Drafts.{words_refused, words_taken}
use Rattle.dai_dimacs.proofs.draft.Draft.take_line.Goals as goal

pub returns-then-not-branch-clause-takes : goal.returns-then-not-branch-clause-takes
returns-then-not-branch-clause-takes c =
    let k = c.loop-word.invariant in
    words_refused (words c.args.line.now) (words c.loop-word.text.now) (words c.in-Some.rest.now) k.seen c.in-Some.word.now c.args.self.now c.loop-word.self c.take.new.self c.in_ok-take.field-0
    k.splits c.in-Some.ensures.words k.takes k.vars c.in_ok-take.ensures.takes c.if-not-branch.true

pub loop-word-preserved : goal.loop-word-preserved
loop-word-preserved c =
    let k = c.loop-word.invariant in
    record {
      seen = k.seen ++ c.in-Some.word.now ∷ [];
      splits = k.splits ∙ ap (λ xs. k.seen ++ xs) c.in-Some.ensures.words ∙ sym (append_assoc k.seen (c.in-Some.word.now ∷ []) (words c.in-Some.rest.now));
      takes = words_taken k.seen c.in-Some.word.now c.args.self.now c.loop-word.self c.take.new.self c.in_ok-take.field-0 k.takes c.in_ok-take.ensures.takes c.if-not-branch.false;
      vars = c.in_ok-take.ensures.vars ∙ k.vars;
      below = c.in_ok-take.ensures.below;
    }

pub returns-clause-takes : goal.returns-clause-takes
returns-clause-takes c =
    let k = c.loop-word.invariant in
    let whole : k.seen ≡ words c.args.line.now = sym (k.splits ∙ ap (λ xs. k.seen ++ xs) c.in_default.ensures.words ∙ append-nil k.seen) in
    subst (λ ws. Takes ws c.args.self.now c.loop-word.self true) whole k.takes
