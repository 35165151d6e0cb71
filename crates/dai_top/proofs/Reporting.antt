-- From what is left and what is missing to the report.
use Rattle.std.proofs.Common.{◌≡◌, ℕ, Bool, true, false, List, [], ◌∷◌, length, get_or, map, sym, ◌∙◌, subst, refl, arith, Vec}
use Rattle.std.specs.Prelude.{◌==◌, vec_len}
use Rattle.std.specs.List.{Contains}
use Rattle.std.specs.declared.alloc.Global.{Global}
use Rattle.std.proofs.lemmas.Bool.{eq-eqb}
use Rattle.std.proofs.lemmas.List.{get_or_default}
use Rattle.dai_model.specs.Protocol.{Protocol}
use Rattle.dai_model.specs.Template.{Bounds}
use Rattle.dai_model.specs.Classes.{Class}
use Rattle.dai_model.specs.Answer.{AreMissing}
use Rattle.dai_model.specs.Report.{IsReport, report_of}
use Rattle.dai_template.specs.declared.clause.Clause.{Clause}
use Rattle.dai_template.specs.declared.space.Space.{Space}
use Rattle.dai_template.specs.Spaces.{clause_of}
use Rattle.dai_print.specs.Texts.{ArePrintable}
use Rattle.dai_order.specs.Antichains.{IsAntichain}
use Rattle.dai_weaken.specs.Weakening.{IsAnswered}
use Rattle.dai_weaken.proofs.Descending.{member_form}
use Rattle.dai_weaken.proofs.Falling.{none_listed}
use Rattle.dai_top.specs.Answers.{IsStatusOf, found, not_found}

pub printable : (P : Protocol) (B : Bounds) (space : Space) (kept : List Clause) → IsAntichain P B space kept → ArePrintable P space kept
printable P B space kept h = record { bounds = B; each = λ i d below. (member_form P B space kept h (get_or kept i d) (i, below, get_or_default kept i (get_or kept i d) d below)).of_the_space }

pub reported_by : (C : Class) (P : Protocol) (B : Bounds) (space : Space) (kept : List Clause) (numbers text : List ℕ) → IsAnswered C P B space kept → AreMissing C P B numbers → text ≡ report_of P (map (clause_of space) kept) numbers → IsReport C P B text
reported_by C P B space kept numbers text answered missing is = record { answer = map (clause_of space) kept; missing = numbers; is_answer = answered.answer; are_missing = missing; text_is = is }

nothing_in : {X : Type 0} (x : X) → Contains [] x → ⊥
nothing_in x (k, below, is) = omega arith

-- status 0 where none is missing
pub found_by : (C : Class) (P : Protocol) (B : Bounds) (numbers : Vec ℕ Global) (none : Bool) → AreMissing C P B numbers.items → none ≡ (vec_len numbers == 0) → none ≡ true → IsStatusOf C P B 0
found_by C P B numbers none missing is full = found_at numbers.items (none_listed numbers (sym full ∙ is)) missing
  where
    found_at : (ns : List ℕ) → ns ≡ [] → AreMissing C P B ns → IsStatusOf C P B 0
    found_at ns empty missing = found (λ i f at. missing.others i f at (λ h. nothing_in i (subst (λ ms. Contains ms i) empty h)))

-- and 1 where one is
pub not_found_by : (C : Class) (P : Protocol) (B : Bounds) (numbers : Vec ℕ Global) (none : Bool) → AreMissing C P B numbers.items → none ≡ (vec_len numbers == 0) → none ≡ false → IsStatusOf C P B 1
not_found_by C P B numbers none missing is some = not_found_at numbers.items (λ few. let known = eq-eqb (vec_len numbers) 0 (omega (arith, few)) in let e : true ≡ false = sym known ∙ (sym is ∙ some) in let f : ⊥ = cc in f) missing
  where
    not_found_at : (ns : List ℕ) → (length ns ≡ 0 → ⊥) → AreMissing C P B ns → IsStatusOf C P B 1
    not_found_at [] some missing = absurd (some refl)
    not_found_at (n ∷ ns) some missing = let (f, at, fails) = missing.refuted n (0, omega arith, refl) in not_found n f at fails
