use Rattle.std.proofs.Common.{◌<◌, ℕ, List, sym, ◌∙◌, ap, subst}
use Rattle.std.specs.List.{list_all}
use Rattle.std.specs.Char.{is_ascii_digit}
use Rattle.std.specs.Str.Parse.{digits_value}
use Rattle.dai_words.proofs.Parts.{bound_is, digits_of_bound, whole_is_no_bound}
use Rattle.dai_words.proofs.bounds.bound.Goals as goal

pub value_within-requires : goal.value_within-requires
value_within-requires c = ap (list_all is_ascii_digit) c.digits_after.ensures ∙ digits_of_bound c.args.part.now c.in-Some.at c.in-Some.ensures.cut c.requires

pub unreachable-requires : goal.unreachable-requires
unreachable-requires c = let whole = whole_is_no_bound c.args.part.now c.in-None.ensures.whole in let bound = c.requires in let e : ⊥ = cc in e

pub returns-in_ok-from_bytes-in-Some-value_within : goal.returns-in_ok-from_bytes-in-Some-value_within
returns-in_ok-from_bytes-in-Some-value_within c =
    let is = bound_is c.args.part.now c.in-Some.at c.in-Some.ensures.cut c.requires in
    let name = c.in_ok-from_bytes-in-Some-value_within.ensures ∙ c.name_before.ensures in
    let value = c.in-Some-value_within.ensures.within.0 ∙ ap (digits_value 10) c.digits_after.ensures in
    ((λ i. (name i, value i)) ∙ sym is, c.in-Some-value_within.ensures.within.1)

pub returns-in-None-value_within : goal.returns-in-None-value_within
returns-in-None-value_within c =
    let is = bound_is c.args.part.now c.in-Some.at c.in-Some.ensures.cut c.requires in
    let value = ap (digits_value 10) c.digits_after.ensures ∙ sym (ap (λ (b : List ℕ × ℕ). b.1) is) in
    subst (λ n. 4 < n) value c.in-None-value_within.ensures.beyond
