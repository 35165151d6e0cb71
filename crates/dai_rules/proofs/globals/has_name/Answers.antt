use Rattle.dai_rules.proofs.Keys.{among_by}
use Rattle.dai_rules.proofs.globals.has_name.Goals as goal

pub returns : goal.returns
returns c = among_by c.as_bytes.result.now c.args.name.now.text c.args.names.now.keys c.contains.result c.as_bytes.ensures c.contains.ensures
