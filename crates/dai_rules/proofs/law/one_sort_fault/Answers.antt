use Rattle.std.proofs.Common.{◌≡◌, ℕ, arith, ⊎_elim}
use Rattle.dai_rules.specs.Faults.{ComesFirst}
use Rattle.dai_rules.proofs.law.one_sort_fault.Goals as goal

same_place : (number at other place : ℕ) → ComesFirst number at other place → ComesFirst other place number at → (number ≡ other) × (at ≡ place)
same_place number at other place p q =
    ⊎_elim
    (λ a. ⊎_elim (λ b. absurd (omega (arith, a, b))) (λ b. let e = b.0 in absurd (omega (arith, a, e))) q)
    (λ a. let d = a.0 in ⊎_elim (λ b. absurd (omega (arith, d, b))) (λ b. let x = a.1 in let y = b.1 in (omega (arith, x, y), d)) q)
    p

pub returns-clause-one : goal.returns-clause-one
returns-clause-one c = λ ds number at other place h k. same_place number at other place (h.first other place k.fault) (k.first number at h.fault)

pub returns-clause-never_both : goal.returns-clause-never_both
returns-clause-never_both c = λ ds number at h k. k number at h.fault
