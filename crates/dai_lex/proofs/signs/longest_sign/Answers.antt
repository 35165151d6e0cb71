use Rattle.dai_lex.proofs.SignLemmas.{from_three, from_two, from_one, from_none}
use Rattle.dai_lex.proofs.signs.longest_sign.Goals as goal

pub returns-in-Some : goal.returns-in-Some
returns-in-Some c = from_three c.args.rest.now _ cc

pub returns-in-Some-two_byte_sign : goal.returns-in-Some-two_byte_sign
returns-in-Some-two_byte_sign c = from_two c.args.rest.now _ (cc) (cc)

pub returns-in-Some-one_byte_sign : goal.returns-in-Some-one_byte_sign
returns-in-Some-one_byte_sign c = from_one c.args.rest.now _ (cc) (cc) (cc)

pub returns : goal.returns
returns c = from_none c.args.rest.now (cc) (cc) (cc)
