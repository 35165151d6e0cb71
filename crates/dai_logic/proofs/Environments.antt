-- Binding a variable in an environment of tables, and undoing it.
use Rattle.std.proofs.Common.{◌≡◌, ℕ, ◌<◌, Bool, true, false, List, length, get_or, set, replicate, sym, ap, ◌∙◌, refl, arith, get_or-set_other, get_or-set_same, ◌≢◌, ◌≤◌, ◌⊎◌, inl, inr}
use Rattle.std.specs.Prelude.{nat_eq, if◌then◌else◌}
use Rattle.std.proofs.lemmas.Bool.{cases_lt}
use Rattle.std.proofs.lemmas.Bool.Decides.{nat_tests}
use Rattle.std.proofs.lemmas.List.{length-replicate, get_or-replicate, get_or_past, set-set, set-get_or}
use Rattle.dai_model.specs.Value.{environment_of as block_environment, bind}
use Rattle.dai_logic.specs.Environments.{EnvironmentTables, environment_of, bound}

zeros_at : (n v : ℕ) → (v < n) ⊎ (n ≤ v) → get_or (replicate {A = ℕ} n 0) v 0 ≡ 0
zeros_at n v (inl below) = get_or-replicate n v 0 0 below
zeros_at n v (inr past) = get_or_past (replicate {A = ℕ} n 0) v 0 (let e = length-replicate {A = ℕ} n 0 in omega arith)

same_environment : (env : EnvironmentTables) (arguments choices : List ℕ) → ((v : ℕ) → get_or env.variables v 0 ≡ 0) → env.arguments ≡ arguments → env.choices ≡ choices → environment_of env ≡ block_environment arguments choices
same_environment env arguments choices h a c = λ i. record { variables = λ v. h v i; parameters = a i; choices = c i }

zeros_stay : (n : ℕ) (xs : List ℕ) → xs ≡ replicate {A = ℕ} n 0 → (v : ℕ) → get_or xs v 0 ≡ 0
zeros_stay n xs e v = rw e (zeros_at n v (cases_lt v n))

-- the environment of zeros is the block's
pub block_environment_is : (variables own_arguments own_choices arguments choices : List ℕ) (n : ℕ) → variables ≡ replicate {A = ℕ} n 0 → own_arguments ≡ arguments → own_choices ≡ choices → environment_of (record { variables = variables; arguments = own_arguments; choices = own_choices }) ≡ block_environment arguments choices
block_environment_is variables own_arguments own_choices arguments choices n e a c = same_environment _ arguments choices (zeros_stay n variables e) a c

pub set_at : (xs : List ℕ) (v e w : ℕ) (same : Bool) → v < length xs → nat_eq w v ≡ same → get_or (set xs v e) w 0 ≡ (if same then e else get_or xs w 0)
set_at xs v e w true below test =
    let k : w ≡ v = grind (arith, nat_tests) in
    ap (λ u. get_or (set xs v e) u 0) k ∙ get_or-set_same xs v e 0 below
set_at xs v e w false below test =
    let k : w ≢ v = grind (arith, nat_tests) in
    get_or-set_other xs v w e 0 k

-- where there is a place for the variable, writing it there binds it
pub bound_environment : (env : EnvironmentTables) (v e : ℕ) → v < length env.variables → environment_of (bound env v e) ≡ bind (environment_of env) v e
bound_environment env v e below = λ i. record { variables = λ w. set_at env.variables v e w (nat_eq w v) below refl i; parameters = env.arguments; choices = env.choices }

pub bound-again : (env : EnvironmentTables) (v a b : ℕ) → bound (bound env v a) v b ≡ bound env v b
bound-again env v a b = ap (λ (xs : List ℕ). record env { variables = xs }) (set-set env.variables v a b)

pub bound-own : (env : EnvironmentTables) (v : ℕ) → bound env v (get_or env.variables v 0) ≡ env
bound-own env v = ap (λ (xs : List ℕ). record env { variables = xs }) (set-get_or env.variables v 0)

-- binding again what is bound in an environment that differs there alone
pub bound-then : (now env first : EnvironmentTables) (v e before : ℕ) → bound now v before ≡ first → env ≡ bound now v e → bound env v before ≡ first
bound-then now env first v e before h k = ap (λ a. bound a v before) k ∙ (bound-again now v e before ∙ h)

-- what is bound in an environment that differs there alone
bind_other : (xs : List ℕ) (v e b w : ℕ) (same : Bool) → nat_eq w v ≡ same → (if same then e else get_or xs w 0) ≡ (if same then e else get_or (set xs v b) w 0)
bind_other xs v e b w true test = refl
bind_other xs v e b w false test =
    let k : w ≢ v = grind (arith, nat_tests) in
    sym (get_or-set_other xs v w b 0 k)

pub bind_first : (now first : EnvironmentTables) (v e before : ℕ) → bound now v before ≡ first → bind (environment_of now) v e ≡ bind (environment_of first) v e
bind_first now first v e before h =
    let step : bind (environment_of now) v e ≡ bind (environment_of (bound now v before)) v e = λ i. record { variables = λ w. bind_other now.variables v e before w (nat_eq w v) refl i; parameters = now.arguments; choices = now.choices } in
    step ∙ ap (λ a. bind (environment_of a) v e) h
