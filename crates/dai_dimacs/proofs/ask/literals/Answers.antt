use Rattle.std.proofs.Common.{◌≡◌, [], ◌∷◌, ◌++◌, Some, refl, sym, ◌∙◌, ap, subst, append_assoc, arith}
use Rattle.std.proofs.lemmas.List.{append-nil}
use Rattle.dai_trail.specs.Formula.{formula_of}
use Rattle.dai_dimacs.specs.Pieces.{words}
use Rattle.dai_dimacs.specs.Drafts.{AreWordsOf, AreReadInto}
use Rattle.dai_dimacs.proofs.Drafts.{literal_taken, end_taken, word_refused, variable_refused, not_all}
use Rattle.dai_dimacs.proofs.Asks.{no_clause, nothing_more}
use Rattle.dai_dimacs.proofs.ask.literals.Goals as goal

pub returns-in-None : goal.returns-in-None
returns-in-None c =
    let k = c.loop-word.invariant in
    let word = c.in-Some.word.now in
    let rest = words c.in-Some.rest.now in
    let whole : words c.args.line.now ≡ (k.seen ++ word ∷ []) ++ rest = k.splits ∙ ap (λ xs. k.seen ++ xs) c.in-Some.ensures.words ∙ sym (append_assoc k.seen (word ∷ []) rest) in
    no_clause c.args.vars (words c.args.line.now) (k.seen ++ word ∷ []) rest whole (word_refused c.args.vars 1 k.seen word (sym c.in-None.ensures))

pub returns-then-lit-vars : goal.returns-then-lit-vars
returns-then-lit-vars c =
    let k = c.loop-word.invariant in
    let word = c.in-Some.word.now in
    let rest = words c.in-Some.rest.now in
    let whole : words c.args.line.now ≡ (k.seen ++ word ∷ []) ++ rest = k.splits ∙ ap (λ xs. k.seen ++ xs) c.in-Some.ensures.words ∙ sym (append_assoc k.seen (word ∷ []) rest) in
    no_clause c.args.vars (words c.args.line.now) (k.seen ++ word ∷ []) rest whole
    (variable_refused c.args.vars 1 k.seen word c.in-Some-Literal.lit (sym c.in-Some-Literal.ensures ∙ ap Some c.in-Some-Literal.field-0-is) c.if-lit-vars.true)

pub returns-then-not-is_blank : goal.returns-then-not-is_blank
returns-then-not-is_blank c =
    let k = c.loop-word.invariant in
    let word = c.in-Some.word.now in
    let rest = words c.in-Some.rest.now in
    let whole : words c.args.line.now ≡ (k.seen ++ word ∷ []) ++ rest = k.splits ∙ ap (λ xs. k.seen ++ xs) c.in-Some.ensures.words ∙ sym (append_assoc k.seen (word ∷ []) rest) in
    let read = end_taken 1 k.seen word (formula_of c.args.vars []) 1 c.loop-word.lits.items (sym c.in-Some-End.ensures ∙ ap Some c.in-Some-End.field-0-is) (omega arith) k.read in
    λ lits h.
    let none = nothing_more 1 (k.seen ++ word ∷ []) rest (formula_of c.args.vars (c.loop-word.lits.items ∷ [])) 0 [] (lits ∷ []) refl read (subst (AreWordsOf c.args.vars 1 (lits ∷ [])) whole h) in
    absurd (omega (arith, none, c.if-not-is_blank.ensures))

pub loop-word-preserved : goal.loop-word-preserved
loop-word-preserved c =
    let k = c.loop-word.invariant in
    let word = c.in-Some.word.now in
    let rest = words c.in-Some.rest.now in
    record {
      seen = k.seen ++ word ∷ [];
      splits = k.splits ∙ ap (λ xs. k.seen ++ xs) c.in-Some.ensures.words ∙ sym (append_assoc k.seen (word ∷ []) rest);
      read = subst (AreReadInto 1 (k.seen ++ word ∷ []) (formula_of c.args.vars []) 1) (sym c.in_ok-push-in-Some-Literal.ensures.items)
          (literal_taken 1 k.seen word (formula_of c.args.vars []) 1 c.loop-word.lits.items c.in-Some-Literal.lit (sym c.in-Some-Literal.ensures ∙ ap Some c.in-Some-Literal.field-0-is) c.if-lit-vars.false (omega arith) k.read);
    }

pub returns : goal.returns
returns c =
    let k = c.loop-word.invariant in
    let whole : words c.args.line.now ≡ k.seen = k.splits ∙ ap (λ xs. k.seen ++ xs) c.in_default.ensures.words ∙ append-nil k.seen in
    λ lits h. not_all c.args.vars 1 k.seen (formula_of c.args.vars []) 1 c.loop-word.lits.items (lits ∷ []) (omega arith) k.read (subst (AreWordsOf c.args.vars 1 (lits ∷ [])) whole h)
