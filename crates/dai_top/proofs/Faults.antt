-- The fault of the words and a protocol, part by part.
use Rattle.std.proofs.Common.{◌≡◌, ◌≤◌, ℕ, zero, suc, Bool, true, false, List, [], ◌∷◌, map, Some, Result, Ok, Err, sym, ◌∙◌, ap, subst, arith, if◌then◌else◌}
use Rattle.std.specs.Prelude.{find}
use Rattle.std.specs.Option.{option_map_or}
use Rattle.std.specs.Result.{IfOk, IfErr, IsErrAnd}
use Rattle.std.specs.List.{All}
use Rattle.dai_base.specs.declared.fault.Fault.{Fault}
use Rattle.dai_base.specs.declared.fault.Fault.TheVariants.{Words}
use Rattle.dai_model.specs.Protocol.{Protocol, Sort}
use Rattle.dai_words.specs.Words.{Choices}
use Rattle.dai_top.specs.declared.stop.Stop.{Stop}
use Rattle.dai_top.specs.declared.stop.Stop.TheVariants as Stops
use Rattle.dai_top.specs.Bounds.{same_name, bound_of, bounds_of, names_unknown}
use Rattle.dai_top.specs.Limits.{limit_fault, fault_of}
use Rattle.dai_top.specs.Stops.{IsFaultThat}

pub unknown_fault : (c : Choices) (P : Protocol) (f : Fault) → f ≡ Words 3 c.variables_word → names_unknown P c ≡ true → fault_of c P ≡ Some f
unknown_fault c P f is e =
    ap (λ b. if b then Some (Words 3 c.variables_word) else limit_fault P (bounds_of P c) c.size) e ∙ ap Some (sym is)

-- where each name is a type, the limits decide
pub known_fault : (c : Choices) (P : Protocol) → names_unknown P c ≡ false → fault_of c P ≡ limit_fault P (bounds_of P c) c.size
known_fault c P e = ap (λ b. if b then Some (Words 3 c.variables_word) else limit_fault P (bounds_of P c) c.size) e

pub fault_weaker : (A B : Fault → Type 0) → ((f : Fault) → A f → B f) → (s : Stop) → IsFaultThat A s → IsFaultThat B s
fault_weaker A B step (Stops.Fault f) h = (step f h.0, h.1)
fault_weaker A B step Stops.Spent h = tt

pub passed_on : {X : Type 0} (A B : Fault → Type 0) → ((f : Fault) → A f → B f) → (r : Result X Stop) (s : Stop) → IsErrAnd r (λ e. e ≡ s) → IsFaultThat A s → IfErr r (IsFaultThat B)
passed_on A B step (Ok x) s h k = tt
passed_on A B step (Err e) s h k = fault_weaker A B step e (subst (IsFaultThat A) (sym h) k)

pub all_passed_on : {X : Type 0} (A B : Fault → Type 0) → ((f : Fault) → A f → B f) → (r : Result X Stop) → IfErr r (IsFaultThat A) → IfErr r (IsFaultThat B)
all_passed_on A B step (Ok x) h = tt
all_passed_on A B step (Err e) h = fault_weaker A B step e h

pub ok_always : {X E A : Type 0} (r : Result X E) → A → IfOk r (λ _. A)
ok_always (Ok x) a = a
ok_always (Err e) a = tt

-- bounds that are given are small, and so is the default
bound_small : (given : List (List ℕ × ℕ)) (name : List ℕ) → All (λ (b : List ℕ × ℕ). b.1 ≤ 4) given → bound_of given name ≤ 4
bound_small [] name h = omega arith
bound_small (b ∷ bs) name h = by_name (same_name name b.0) (h 0 b (omega arith)) (bound_small bs name (λ i d below. h (suc i) d (omega arith)))
  where
    by_name : (t : Bool) → b.1 ≤ 4 → bound_of bs name ≤ 4 → option_map_or (λ (bound : List ℕ × ℕ). bound.1) (if t then Some b else find (λ (bound : List ℕ × ℕ). same_name name bound.0) bs) 2 ≤ 4
    by_name true here rest = here
    by_name false here rest = rest

pub bounds_small : (given : List (List ℕ × ℕ)) (sorts : List Sort) → All (λ (b : List ℕ × ℕ). b.1 ≤ 4) given → All (λ bound. bound ≤ 4) (map (λ (T : Sort). bound_of given T.name) sorts)
bounds_small given [] h = λ i d below. absurd (omega arith)
bounds_small given (T ∷ Ts) h = by_place (bounds_small given Ts h)
  where
    by_place : All (λ bound. bound ≤ 4) (map (λ (S : Sort). bound_of given S.name) Ts) → All (λ bound. bound ≤ 4) (bound_of given T.name ∷ map (λ (S : Sort). bound_of given S.name) Ts)
    by_place rest zero d below = bound_small given T.name h
    by_place rest (suc i) d below = rest i d (omega arith)
