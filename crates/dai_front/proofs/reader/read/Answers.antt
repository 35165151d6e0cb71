use Rattle.std.proofs.Common.{List, sym, subst}
use Rattle.dai_lex.specs.declared.token.Token.{Token}
use Rattle.dai_lex.specs.Tokens.{IsTokens}
use Rattle.dai_syntax.specs.Trees.{declarations_of}
use Rattle.dai_front.specs.declared.reader.Stop.{Stop}
use Rattle.dai_front.specs.Refusals.{IsStop}
use Rattle.dai_front.proofs.Refusals.{byte_stopped, token_stopped, sort_stopped}
use Rattle.dai_front.proofs.reader.read.Goals as goal

pub returns-in-Err-clause-refused : goal.returns-in-Err-clause-refused
returns-in-Err-clause-refused c = let P : Stop → Type 0 = λ r. IsStop c.args.bytes.now r in subst P (sym c.no_tokens.ensures) (byte_stopped c.args.bytes.now c.in-Err.error c.in-Err.ensures.bad)

pub returns-in-Err-parse-clause-refused : goal.returns-in-Err-parse-clause-refused
returns-in-Err-parse-clause-refused c =
    let H : IsTokens c.args.bytes.now c.as_slice.result.now = let P : List Token → Type 0 = λ ts. IsTokens c.args.bytes.now ts in subst P (sym c.as_slice.ensures.value) c.in-Ok.ensures.tokens in
    let P : Stop → Type 0 = λ r. IsStop c.args.bytes.now r in
    subst P (sym c.no_file.ensures) (token_stopped c.args.bytes.now c.as_slice.result.now c.in-Err-parse.error H c.in-Err-parse.ensures.fault)

pub returns-clause-refused : goal.returns-clause-refused
returns-clause-refused c =
    let H : IsTokens c.args.bytes.now c.as_slice.result.now = let P : List Token → Type 0 = λ ts. IsTokens c.args.bytes.now ts in subst P (sym c.as_slice.ensures.value) c.in-Ok.ensures.tokens in
    let P : Stop → Type 0 = λ r. IsStop c.args.bytes.now r in
    subst P (sym c.no_protocol.ensures) (sort_stopped c.args.bytes.now c.as_slice.result.now (declarations_of c.in-Ok-parse.file) c.in-Err-check.error H c.in-Ok-parse.ensures.file c.in-Err-check.ensures.refused)

pub returns-in-Ok-check-clause-protocol : goal.returns-in-Ok-check-clause-protocol
returns-in-Ok-check-clause-protocol c =
    let H : IsTokens c.args.bytes.now c.as_slice.result.now = let P : List Token → Type 0 = λ ts. IsTokens c.args.bytes.now ts in subst P (sym c.as_slice.ensures.value) c.in-Ok.ensures.tokens in
    record {
      tokens = c.as_slice.result.now;
      declarations = declarations_of c.in-Ok-parse.file;
      are_tokens = H;
      is_file = c.in-Ok-parse.ensures.file;
      faultless = c.in-Ok-check.ensures.protocol.0;
      protocol = c.in-Ok-check.ensures.protocol.1;
    }
