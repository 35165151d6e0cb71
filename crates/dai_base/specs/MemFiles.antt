use Rattle.std.specs.Prelude.{ℕ, Option}
use Rattle.dai_base.specs.Files.{Holdings}
use Rattle.dai_base.specs.FaultPlan.{listed_of, calls_of, faults_of}
use Rattle.dai_base.specs.SureFiles.{holdings_of}
use Rattle.dai_base.specs.declared.mem_files.MemFiles.{MemFiles}

-- the bytes that are held under each name
abbrev pub held_in : MemFiles → Holdings
held_in source = holdings_of source.stored

-- `Some` at the number of each read that is listed
abbrev pub listed_in : MemFiles → ℕ → Option ℕ
listed_in source = listed_of source.plan

-- how many reads were made
abbrev pub reads_in : MemFiles → ℕ
reads_in source = calls_of source.plan

-- how many of the reads that were made are listed
abbrev pub faults_in : MemFiles → ℕ
faults_in source = faults_of source.plan
