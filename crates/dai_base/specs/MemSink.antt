use Rattle.std.specs.Prelude.{◌≡◌, ℕ, List, ◌++◌, Option, Result, Ok, Err}
use Rattle.dai_base.specs.FaultPlan.{listed_of, calls_of, faults_of}
use Rattle.dai_base.specs.declared.mem_sink.MemSink.{MemSink}
use Rattle.dai_base.specs.declared.sink.PutError.{PutError}
use Rattle.dai_base.specs.declared.sink.PutError.TheVariants.{Failed, Spent}

-- the bytes that were written
abbrev pub bytes_in : MemSink → List ℕ
bytes_in sink = sink.stored.bytes

-- the room that is left of what was reserved
abbrev pub spare_in : MemSink → ℕ
spare_in sink = sink.stored.spare

-- at the number of each put that is listed, how many bytes it writes
abbrev pub listed_in : MemSink → ℕ → Option ℕ
listed_in sink = listed_of sink.plan

-- how many puts were made
abbrev pub puts_in : MemSink → ℕ
puts_in sink = calls_of sink.plan

-- how many of the puts that were made are listed
abbrev pub faults_in : MemSink → ℕ
faults_in sink = faults_of sink.plan

-- these bytes were appended and the put failed, or memory ran out
abbrev pub FailsAfter : List ℕ → List ℕ → List ℕ → Result (Unit {0}) PutError → Type 0
FailsAfter part old new (Ok _) = ⊥
FailsAfter part old new (Err Failed) = new ≡ old ++ part
FailsAfter part old new (Err Spent) = Unit {0}
