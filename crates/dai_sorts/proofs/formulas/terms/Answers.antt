use Rattle.std.proofs.Common.{◌+◌, ◌++◌, ◌∷◌, [], ◌∙◌, ap, sym, map, drop, append_assoc}
use Rattle.std.proofs.lemmas.List.{drop_all, map-append}
use Rattle.dai_logic.specs.Trees.{term_of}
use Rattle.dai_rules.specs.Naming.{after_terms}
use Rattle.dai_rules.specs.Views.{naming_of}
use Rattle.dai_rules.proofs.Lists.{drop_at, append_nil}
use Rattle.dai_sorts.specs.Scopes.{term_in, terms_in}
use Rattle.dai_sorts.specs.Readers.{scope_of}
use Rattle.dai_sorts.proofs.Walking.{few_term}
use Rattle.dai_sorts.proofs.formulas.terms.Goals as goal

pub term-requires : goal.term-requires
term-requires c =
    let i = c.loop-arg.arg-index in
    let args = c.args.args.now in
    let t = c.arg-item.result in
    few_term (naming_of c.loop-arg.naming) (after_terms (naming_of c.args.naming.now) args) t (drop (i + 1) args) (drop i args) c.loop-arg.invariant.naming (drop_at args i t c.loop-arg-test.true c.arg-item.is) c.requires

pub loop-arg-preserved : goal.loop-arg-preserved
loop-arg-preserved c =
    let i = c.loop-arg.arg-index in
    let args = c.args.args.now in
    let t = c.arg-item.result in
    let scope = scope_of c.args.reader.now in
    let n = naming_of c.loop-arg.naming in
    let rest = drop (i + 1) args in
    let before = map term_of c.loop-arg.terms.items in
    let split = sym (drop_at args i t c.loop-arg-test.true c.arg-item.is) in
    let named = c.in_ok-term.ensures.named in
    record {
      terms =
          ap (λ ts. map term_of ts ++ terms_in scope (naming_of c.term.new.naming) rest) c.in_ok-push.ensures.items
          ∙ ap (λ ts. ts ++ terms_in scope (naming_of c.term.new.naming) rest) (map-append term_of c.loop-arg.terms.items (c.in_ok-term.field-0 ∷ []))
          ∙ append_assoc before (term_of c.in_ok-term.field-0 ∷ []) (terms_in scope (naming_of c.term.new.naming) rest)
          ∙ ap (λ x. before ++ (x ∷ terms_in scope (naming_of c.term.new.naming) rest)) c.in_ok-term.ensures.meant
          ∙ ap (λ m. before ++ (term_in scope n t ∷ terms_in scope m rest)) named
          ∙ ap (λ ts. before ++ terms_in scope n ts) split ∙ c.loop-arg.invariant.terms;
      naming = ap (λ m. after_terms m rest) named ∙ ap (after_terms n) split ∙ c.loop-arg.invariant.naming;
    }

pub returns-clause-meant : goal.returns-clause-meant
returns-clause-meant c =
    let none = drop_all c.loop-arg.arg-index c.args.args.now c.loop-arg-test.false in
    let scope = scope_of c.args.reader.now in
    let before = map term_of c.loop-arg.terms.items in
    sym (append_nil before) ∙ ap (λ ts. before ++ terms_in scope (naming_of c.loop-arg.naming) ts) (sym none) ∙ c.loop-arg.invariant.terms

pub returns-clause-named : goal.returns-clause-named
returns-clause-named c =
    let none = drop_all c.loop-arg.arg-index c.args.args.now c.loop-arg-test.false in
    ap (after_terms (naming_of c.loop-arg.naming)) (sym none) ∙ c.loop-arg.invariant.naming
