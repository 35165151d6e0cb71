use Rattle.std.proofs.Common.{◌≡◌, ◌+◌, ◌<◌, [], ◌∷◌, ◌++◌, length, IfSome, MatchOption, ap, sym, ◌∙◌, subst, append_assoc, inl, arith}
use Rattle.std.proofs.lemmas.List.{length_push}
use Rattle.dai_dimacs.specs.Pieces.{lines}
use Rattle.dai_dimacs.specs.Files.{IsReadingOf}
use Rattle.dai_dimacs.specs.Drafts.{TakesLine}
use Rattle.dai_dimacs.proofs.Texts.{begins, rest_of}
use Rattle.dai_dimacs.proofs.read.read.Goals as goal

pub returns-then-not-branch : goal.returns-then-not-branch
returns-then-not-branch c =
    let k = c.loop-draft.invariant in
    let line = c.first_line.result.0.now in
    let more = rest_of (lines c.loop-draft.text.now) line c.first_line.result.1 lines c.first_line.ensures.lines in
    record {
      front = k.seen;
      line = line;
      rest = more.0;
      splits = k.splits ∙ ap (λ xs. k.seen ++ xs) more.1;
      counted = ap (λ n. n + 1) k.counted;
      begins = begins k.seen c.loop-draft.draft k.read;
      wrong = inl (subst (TakesLine line c.loop-draft.draft c.take_line.new.draft) c.if-not-branch.true c.in_ok-take_line.ensures.takes k.seen k.read);
    }

pub returns-in_default : goal.returns-in_default
returns-in_default c =
    let k = c.loop-draft.invariant in
    let line = c.first_line.result.0.now in
    let last : lines c.loop-draft.text.now ≡ line ∷ [] = subst (λ o. MatchOption o (lines c.loop-draft.text.now ≡ line ∷ []) (λ after. lines c.loop-draft.text.now ≡ line ∷ lines after.now)) c.in_default.is c.first_line.ensures.lines in
    let whole : k.seen ++ line ∷ [] ≡ lines c.args.bytes.now = sym (k.splits ∙ ap (λ xs. k.seen ++ xs) last) in
    let read = subst (TakesLine line c.loop-draft.draft c.take_line.new.draft) c.if-not-branch.false c.in_ok-take_line.ensures.takes k.seen k.read in
    subst (λ text. IsReadingOf text c.ending.result) whole (c.ending.ensures k.seen line (ap (λ n. n + 1) k.counted) (begins k.seen c.loop-draft.draft k.read) read)

pub loop-draft-preserved : goal.loop-draft-preserved
loop-draft-preserved c =
    let k = c.loop-draft.invariant in
    let line = c.first_line.result.0.now in
    let after : lines c.loop-draft.text.now ≡ line ∷ lines c.in-Some.rest.now = subst (λ o. MatchOption o (lines c.loop-draft.text.now ≡ line ∷ []) (λ a. lines c.loop-draft.text.now ≡ line ∷ lines a.now)) c.in-Some.is c.first_line.ensures.lines in
    let less : length c.in-Some.rest.now < length c.loop-draft.text.now = subst (λ o. IfSome o (λ a. length a.now < length c.loop-draft.text.now)) c.in-Some.is c.first_line.ensures.shorter in
    record {
      seen = k.seen ++ line ∷ [];
      splits = k.splits ∙ ap (λ xs. k.seen ++ xs) after ∙ sym (append_assoc k.seen (line ∷ []) (lines c.in-Some.rest.now));
      counted = omega (arith, k.counted, length_push k.seen line);
      room = omega (arith, less, k.room);
      read = subst (TakesLine line c.loop-draft.draft c.take_line.new.draft) c.if-not-branch.false c.in_ok-take_line.ensures.takes k.seen k.read;
      below = c.in_ok-take_line.ensures.below;
    }
