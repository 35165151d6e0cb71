use Rattle.std.specs.Prelude.{◌≡◌, ◌≢◌, ℕ, zero, suc, ◌+◌, ◌^◌, ◌<◌, ◌≤◌, Option, Some, None, is_some, nat_lt, if◌then◌else◌}
use Rattle.std.specs.BTreeMap.{get}
use Rattle.std.specs.Ordering.{nat_cmp}
use Rattle.dai_base.specs.declared.fault_plan.FaultPlan.{FaultPlan}

-- how many bytes the call of this number takes before it fails, if it is listed; a number has 32 bits
abbrev pub listed_of : FaultPlan → ℕ → Option ℕ
listed_of plan number = if nat_lt number (2 ^ 32) then get nat_cmp plan.listed number else None

-- how many calls were made
abbrev pub calls_of : FaultPlan → ℕ
calls_of plan = plan.calls

-- how many of the numbers from 0 to before this one are listed
abbrev pub count_listed : (ℕ → Option ℕ) → ℕ → ℕ
count_listed listed zero = 0
count_listed listed (suc number) = count_listed listed number + (if is_some (listed number) then 1 else 0)

-- how many of the calls that were made are listed
abbrev pub faults_of : FaultPlan → ℕ
faults_of plan = count_listed (listed_of plan) (calls_of plan)

-- the call of this number is listed with these bytes, unless it was made already; the others are as they were
pub record Lists (calls : ℕ) (old new : ℕ → Option ℕ) (call taken : ℕ) : Type 0 where
  pub listed : calls ≤ call → new call ≡ Some taken
  pub made : call < calls → new call ≡ old call
  pub others : (other : ℕ) → other ≢ call → new other ≡ old other
