use Rattle.std.proofs.Common.{◌+◌, ◌∙◌, ap, drop, arith, rules}
use Rattle.dai_words.specs.Refusals.{with_value}
use Rattle.dai_words.specs.Options.{Given, nothing_given, options_from, gives}
use Rattle.dai_words.specs.Readings.{texts, given_of, IsWordsError}
use Rattle.dai_words.proofs.Steps.{pair_at, refused_through, one_more, not_given, at_two}
use Rattle.dai_words.proofs.options.options.Goals as goal

pub returns-in_err-given : goal.returns-in_err-given
returns-in_err-given c =
    let pair = pair_at c.args.words.now c.loop-at.at c.index-words-at.result c.in_ok-setting.ensures.more c.index-words-at.is in
    let whole = at_two c.args.words.now c.loop-at.at (given_of c.loop-at.given) c.in_ok-setting.setting _ c.as_str.result.now c.as_str.ensures.value pair c.in_ok-setting.ensures.new in
    let told : IsWordsError (options_from 3 nothing_given (texts (drop 2 c.args.words.now))) c.in_err-given.field-0.0 =
    refused_through _ (gives (c.loop-at.at + 2) (given_of c.loop-at.given) c.in_ok-setting.setting c.as_str.result.now) _ c.in_err-given.field-0.0 (c.loop-at.invariant.left ∙ whole) c.in_err-given.ensures in
    search rules

pub loop-at-preserved : goal.loop-at-preserved
loop-at-preserved c =
    let pair = pair_at c.args.words.now c.loop-at.at c.index-words-at.result c.in_ok-setting.ensures.more c.index-words-at.is in
    let whole = at_two c.args.words.now c.loop-at.at (given_of c.loop-at.given) c.in_ok-setting.setting _ c.as_str.result.now c.as_str.ensures.value pair c.in_ok-setting.ensures.new in
    let more = one_more (c.loop-at.at + 2) (given_of c.loop-at.given) c.in_ok-setting.setting c.as_str.result.now (given_of c.in_ok-given.given) (not_given (c.loop-at.at + 1) (given_of c.loop-at.given) _ c.in_ok-setting.setting c.in_ok-setting.ensures.new) c.in_ok-given.ensures in
    let two = c.loop-at.invariant.two_each in
    record {
      two_each = omega arith;
      left = c.loop-at.invariant.left ∙ (whole ∙ ap (with_value (λ (now : Given). options_from (c.loop-at.at + 2 + 1) now (texts (drop (c.loop-at.at + 2) c.args.words.now)))) c.in_ok-given.ensures);
    }
