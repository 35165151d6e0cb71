use Rattle.std.specs.Prelude.{◌≡◌, ◌≢◌, ℕ, List, Some, option_map}
use Rattle.std.specs.BTreeMap.{get_by_text}
use Rattle.dai_base.specs.Files.{Holdings}
use Rattle.dai_base.specs.declared.sure_files.SureFiles.{SureFiles}

-- the bytes that are held under each name
abbrev pub holdings_of : SureFiles → Holdings
holdings_of source name = option_map (λ bytes. bytes.items) (get_by_text source.files name)

-- how many reads were made
abbrev pub reads_of : SureFiles → ℕ
reads_of source = source.calls

-- these bytes are held under this name, and under the other names what was held
pub record HoldsUnder (old new : Holdings) (name bytes : List ℕ) : Type 0 where
  pub replaced : new name ≡ Some bytes
  pub others : (other : List ℕ) → other ≢ name → new other ≡ old other
