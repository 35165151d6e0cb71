-- The value of a formula from those of its parts.
use Rattle.std.proofs.Common.{◌≡◌, ℕ, ◌&&◌, ◌||◌, Bool, true, false, not, List, ap, sym, ◌∙◌, refl, subst}
use Rattle.dai_model.specs.Formula as Model
use Rattle.dai_model.specs.Formula.{Formulas, with_formula, no_formulas, negation, conjunction, disjunction, implication, equivalence}
use Rattle.dai_model.specs.Protocol.{Protocol}
use Rattle.dai_model.specs.Structure as Structures
use Rattle.dai_model.specs.Value.{Environment, value_of, all_hold, some_holds, all_agree, agree, implies}
use Rattle.dai_logic.specs.Tables.{IsEvaluable, AreEvaluable}
use Rattle.dai_logic.specs.Environments.{EnvironmentTables, environment_of}
use Rattle.dai_logic.proofs.Evaluable.{first_evaluable}

-- a value in an environment that is the old one
pub value_then : (S : Structures.Structure) (now old : EnvironmentTables) (f : Model.Formula) (b : Bool) → now ≡ old → b ≡ value_of S (environment_of now) f → b ≡ value_of S (environment_of old) f
value_then S now old f b e h = h ∙ ap (λ env. value_of S (environment_of env) f) e

pub evaluable_now : (P : Protocol) (sizes : List ℕ) (now old : EnvironmentTables) (f : Model.Formula) → now ≡ old → IsEvaluable P sizes (environment_of old) f → IsEvaluable P sizes (environment_of now) f
evaluable_now P sizes now old f same h = subst (λ env. IsEvaluable P sizes (environment_of env) f) (sym same) h

pub first_evaluable_now : (P : Protocol) (sizes : List ℕ) (now old : EnvironmentTables) (fs : Formulas) (g : Model.Formula) (gs : Formulas) → now ≡ old → fs ≡ with_formula g gs → AreEvaluable P sizes (environment_of old) fs → IsEvaluable P sizes (environment_of now) g
first_evaluable_now P sizes now old fs g gs same e h = subst (λ env. IsEvaluable P sizes (environment_of env) g) (sym same) (first_evaluable P sizes (environment_of old) fs g gs e h)

pub all_hold_step : (S : Structures.Structure) (env : Environment) (fs : Formulas) (f : Model.Formula) (gs : Formulas) (b v : Bool) → fs ≡ with_formula f gs → b ≡ value_of S env f → all_hold S env fs ≡ v → (b && all_hold S env gs) ≡ v
all_hold_step S env fs f gs b v e h k = ap (λ a. a && all_hold S env gs) h ∙ (sym (ap (all_hold S env) e) ∙ k)

pub all_hold_end : (S : Structures.Structure) (env : Environment) (fs : Formulas) (v : Bool) → fs ≡ no_formulas → all_hold S env fs ≡ v → true ≡ v
all_hold_end S env fs v e k = sym (ap (all_hold S env) e) ∙ k

pub some_holds_step : (S : Structures.Structure) (env : Environment) (fs : Formulas) (f : Model.Formula) (gs : Formulas) (b v : Bool) → fs ≡ with_formula f gs → b ≡ value_of S env f → some_holds S env fs ≡ v → (b || some_holds S env gs) ≡ v
some_holds_step S env fs f gs b v e h k = ap (λ a. a || some_holds S env gs) h ∙ (sym (ap (some_holds S env) e) ∙ k)

pub some_holds_end : (S : Structures.Structure) (env : Environment) (fs : Formulas) (v : Bool) → fs ≡ no_formulas → some_holds S env fs ≡ v → false ≡ v
some_holds_end S env fs v e k = sym (ap (some_holds S env) e) ∙ k

agree_true : (a : Bool) → agree a true ≡ a
agree_true true = refl
agree_true false = refl

agree_parity : (even b x : Bool) → agree (agree b even) x ≡ agree even (agree b x)
agree_parity true true x = refl
agree_parity true false x = refl
agree_parity false true x = refl
agree_parity false false true = refl
agree_parity false false false = refl

-- an odd part turns the parity
pub all_agree_step : (S : Structures.Structure) (env : Environment) (fs : Formulas) (f : Model.Formula) (gs : Formulas) (even b v : Bool) → fs ≡ with_formula f gs → b ≡ value_of S env f → agree even (all_agree S env fs) ≡ v → agree (agree b even) (all_agree S env gs) ≡ v
all_agree_step S env fs f gs even b v e h k =
    agree_parity even b (all_agree S env gs) ∙ (ap (λ a. agree even (agree a (all_agree S env gs))) h ∙ (sym (ap (λ hs. agree even (all_agree S env hs)) e) ∙ k))

pub all_agree_end : (S : Structures.Structure) (env : Environment) (fs : Formulas) (even v : Bool) → fs ≡ no_formulas → agree even (all_agree S env fs) ≡ v → even ≡ v
all_agree_end S env fs even v e k = sym (agree_true even) ∙ (sym (ap (λ hs. agree even (all_agree S env hs)) e) ∙ k)

pub negation_value : (S : Structures.Structure) (env : Environment) (f g : Model.Formula) (b : Bool) → f ≡ negation g → b ≡ value_of S env g → not b ≡ value_of S env f
negation_value S env f g b e h = ap not h ∙ sym (ap (value_of S env) e)

-- the value of an equal formula
pub value_by : (S : Structures.Structure) (env : Environment) (f g : Model.Formula) (b : Bool) → f ≡ g → b ≡ value_of S env g → b ≡ value_of S env f
value_by S env f g b e h = h ∙ sym (ap (value_of S env) e)

pub false_left : (S : Structures.Structure) (env : Environment) (f g h : Model.Formula) (b : Bool) → f ≡ implication g h → b ≡ false → b ≡ value_of S env g → not b ≡ value_of S env f
false_left S env f g h b e f' v = ap not f' ∙ (ap (λ a. implies a (value_of S env h)) (sym f' ∙ v) ∙ sym (ap (value_of S env) e))

pub true_left : (S : Structures.Structure) (env : Environment) (f g h : Model.Formula) (a b : Bool) → f ≡ implication g h → a ≡ true → a ≡ value_of S env g → b ≡ value_of S env h → b ≡ value_of S env f
true_left S env f g h a b e t v w = w ∙ (ap (λ c. implies c (value_of S env h)) (sym t ∙ v) ∙ sym (ap (value_of S env) e))
