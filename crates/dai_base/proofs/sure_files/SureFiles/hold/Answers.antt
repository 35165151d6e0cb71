use Rattle.std.proofs.Common.{arith}
use Rattle.std.proofs.lemmas.Map.Text.{text_keys}
use Rattle.dai_base.proofs.sure_files.SureFiles.hold.Goals as goal

-- `insert` changed what stands under the name alone
pub returns-clause-ok : goal.returns-clause-ok
returns-clause-ok c = record {
  replaced = grind (arith, text_keys);
  others = λ other differs. grind (arith, text_keys);
}
