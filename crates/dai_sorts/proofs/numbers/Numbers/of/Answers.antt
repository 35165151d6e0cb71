use Rattle.std.proofs.Common.{◌+◌, ◌++◌, ap, sym, ◌∙◌, map, drop}
use Rattle.std.proofs.lemmas.List.{drop_all}
use Rattle.dai_syntax.specs.Trees.{declaration_of}
use Rattle.dai_rules.proofs.Lists.{drop_at, append_nil}
use Rattle.dai_sorts.specs.Counts.{counts_of, counts_in, counts_from, counts_at_each, no_counts}
use Rattle.dai_sorts.proofs.Counting.{few_next, each_next, whole_next}
use Rattle.dai_sorts.proofs.numbers.Numbers.of.Goals as goal

pub with-all-requires : goal.with-all-requires
with-all-requires c =
    let i = c.loop-decl.decl-index in
    let ds = map declaration_of c.args.decls.now in
    let d = c.decl-item.result in
    let all = counts_of c.loop-decl.all in
    few_next all ds (map declaration_of (drop (i + 1) c.args.decls.now)) (declaration_of d)
    (ap (λ xs. counts_from all (map declaration_of xs)) (sym (drop_at c.args.decls.now i d c.loop-decl-test.true c.decl-item.is)) ∙ c.loop-decl.invariant.whole) c.requires

pub loop-decl-preserved : goal.loop-decl-preserved
loop-decl-preserved c =
    let i = c.loop-decl.decl-index in
    let ds = map declaration_of c.args.decls.now in
    let d = c.decl-item.result in
    let all = c.loop-decl.all in
    let rest = map declaration_of (drop (i + 1) c.args.decls.now) in
    let split = sym (drop_at c.args.decls.now i d c.loop-decl-test.true c.decl-item.is) in
    record {
      each = each_next c.loop-decl.before.items c.push.new.self.items all c.with-all.result (declaration_of d) rest (counts_at_each no_counts ds) c.in_ok-push.ensures.items c.with-all.ensures
          (ap (λ xs. map counts_of c.loop-decl.before.items ++ counts_at_each (counts_of all) (map declaration_of xs)) split ∙ c.loop-decl.invariant.each);
      whole = whole_next all c.with-all.result (declaration_of d) rest (counts_in ds) c.with-all.ensures (ap (λ xs. counts_from (counts_of all) (map declaration_of xs)) split ∙ c.loop-decl.invariant.whole);
    }

pub returns : goal.returns
returns c =
    let none = drop_all c.loop-decl.decl-index c.args.decls.now c.loop-decl-test.false in
    let all = counts_of c.loop-decl.all in
    let before = map counts_of c.loop-decl.before.items in
    record {
      each = sym (append_nil before) ∙ ap (λ xs. before ++ counts_at_each all (map declaration_of xs)) (sym none) ∙ c.loop-decl.invariant.each;
      whole = ap (λ xs. counts_from all (map declaration_of xs)) (sym none) ∙ c.loop-decl.invariant.whole;
    }
