use Rattle.std.proofs.Common.{arith, ◌≡◌, ◌<◌, ◌/◌, ℕ, [], ◌∷◌, ◌++◌, length, get_or, ap, sym, ◌∙◌, subst, inl, inr}
use Rattle.std.proofs.lemmas.List.{get_or_read}
use Rattle.std.proofs.lemmas.Bool.{false≢true}
use Rattle.dai_trail.specs.Marks.{IsMarked}
use Rattle.dai_trail.proofs.Mirrors.{mirror_le}
use Rattle.dai_trail.proofs.Gathers.{Gathered, gather_push, gather_skip, gather_none, gathered_implied}
use Rattle.dai_trail.proofs.analysis.learn.Goals as goal
use Rattle.dai_trail.proofs.analysis.learn.Goals.{then-is_kept+in_ok-push-2, else-is_kept}

pub index-last-requires : goal.index-last-requires
index-last-requires c = omega (arith, mirror_le c.args.trail.now c.requires.trail.mirror, c.requires.trail.mirror.codes_room)

pub loop-code-init : goal.loop-code-init
loop-code-init c =
    gather_none c.args.marks.now c.push.new.self.items c.index-last.result.now c.negation.result
    (c.in_ok-push.ensures.items ∙ ap (λ xs. xs ++ c.negation.result ∷ []) c.clear.ensures.items)
    c.negation.ensures.variable c.negation.ensures.sign

pub loop-code-preserved : goal.loop-code-preserved
loop-code-preserved c =
    let same = ap (λ xs. get_or xs c.loop-code.code-index 0) c.deref-code-items.ensures.value in
    elim c.if-is_kept.branch [
      | then-is_kept+in_ok-push-2 w ↦
          rw (w.learned-is, w.in_ok-push-2.ensures.items)
          (gather_push c.args.marks.now c.loop-code.learned.items c.index-last.result.now c.loop-code.code-index _ same c.loop-code.invariant)
      | else-is_kept w ↦
          rw w.learned-is
          (gather_skip c.args.marks.now c.loop-code.learned.items c.index-last.result.now c.loop-code.code-index
          (λ marked.
          let P : ℕ → Type 0 = λ q. IsMarked c.args.marks.now (q / 2) in
          elim (w.if-is_kept.ensures (subst P (sym same) marked)) [
            | inl s ↦ ap (λ q. q / 2) (sym same) ∙ s
            | inr t ↦ absurd (false≢true t)
          ])
          c.loop-code.invariant)
    ]

pub returns : goal.returns
returns c =
    let len = ap length c.deref-code-items.ensures.value in
    let at : c.loop-code.code-index ≡ length c.args.marks.now.marked.items = omega (arith, len, c.loop-code-test.false, c.loop-code.auto.code-index-end) in
    let l : c.args.place < length c.args.trail.now.codes.items = omega (arith, mirror_le c.args.trail.now c.requires.trail.mirror, c.requires.trail.mirror.codes_room) in
    let here = get_or_read c.args.trail.now.codes.items c.args.place c.index-last.result.now l c.index-last.ensures 0 in
    let P : ℕ → Type 0 = λ n. Gathered c.args.marks.now c.loop-code.learned.items c.index-last.result.now n in
    gathered_implied c.args.cnf.now c.args.trail.now c.args.marks.now c.loop-code.learned.items c.args.place c.index-last.result.now
    c.requires.trail c.requires.marks.listed c.requires.marks.refute c.requires.unnamed c.requires.within here (subst P at c.loop-code.invariant)
