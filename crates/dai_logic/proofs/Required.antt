-- The requirements of statements, from those of each.
use Rattle.std.proofs.Common.{◌≡◌, ℕ, suc, ◌||◌, ◌++◌, Bool, true, false, List, [], ◌∷◌, length, Option, Some, None, sym, ap, ◌∙◌, refl, arith}
use Rattle.std.specs.Prelude.{nat_lt, if◌then◌else◌}
use Rattle.std.specs.Option.{option_and_then, is_some}
use Rattle.std.proofs.lemmas.Bool.Decides.{nat_tests}
use Rattle.dai_model.specs.Formula.{Formula, Statement, requirement, update_relation, update_individual, conditional, Statements, no_statements, with_statement}
use Rattle.dai_model.specs.Protocol.{Protocol}
use Rattle.dai_model.specs.Structure as Model
use Rattle.dai_model.specs.Value.{Environment, value_of}
use Rattle.dai_model.specs.Profile.{requirements_of, requirements_in}
use Rattle.dai_model.specs.Execution.{after_statement, after_statements}

-- whether the list has an element
abbrev pub has_some : List Formula → Bool
has_some xs = nat_lt 0 (length xs)

some_test : (n : ℕ) → nat_lt 0 (suc n) ≡ true
some_test n = grind (arith, nat_tests)

none_test : nat_lt 0 0 ≡ false
none_test = grind (arith, nat_tests)

pub has_some-append : (xs ys : List Formula) → has_some (xs ++ ys) ≡ (has_some xs || has_some ys)
has_some-append [] ys = sym (ap (λ b. b || has_some ys) none_test)
has_some-append (x ∷ xs) ys = some_test (length (xs ++ ys)) ∙ sym (ap (λ b. b || has_some ys) (some_test (length xs)))

-- the step of a walk along statements
pub required_here : (cs : Statements) (c : Statement) (ds : Statements) (whole : Bool) → cs ≡ with_statement c ds → true ≡ has_some (requirements_of c) → has_some (requirements_in cs) ≡ whole → true ≡ whole
required_here cs c ds whole e h k =
    ap (λ b. b || has_some (requirements_in ds)) h ∙ (sym (has_some-append (requirements_of c) (requirements_in ds)) ∙ (sym (ap (λ xs. has_some (requirements_in xs)) e) ∙ k))

pub required_later : (cs : Statements) (c : Statement) (ds : Statements) (whole : Bool) → cs ≡ with_statement c ds → false ≡ has_some (requirements_of c) → has_some (requirements_in cs) ≡ whole → has_some (requirements_in ds) ≡ whole
required_later cs c ds whole e h k =
    ap (λ b. b || has_some (requirements_in ds)) h ∙ (sym (has_some-append (requirements_of c) (requirements_in ds)) ∙ (sym (ap (λ xs. has_some (requirements_in xs)) e) ∙ k))

pub required_end : (cs : Statements) (whole : Bool) → cs ≡ no_statements → has_some (requirements_in cs) ≡ whole → false ≡ whole
required_end cs whole e k = sym none_test ∙ (sym (ap (λ xs. has_some (requirements_in xs)) e) ∙ k)

pub required_then : (c : Statement) (f : Formula) (first second : Statements) (b : Bool) → c ≡ conditional f first second → b ≡ true → b ≡ has_some (requirements_in first) → b ≡ has_some (requirements_of c)
required_then c f first second b e t h =
    t ∙ (ap (λ a. a || has_some (requirements_in second)) (sym t ∙ h) ∙ (sym (has_some-append (requirements_in first) (requirements_in second)) ∙ sym (ap (λ x. has_some (requirements_of x)) e)))

pub required_else : (c : Statement) (f : Formula) (first second : Statements) (a b : Bool) → c ≡ conditional f first second → a ≡ false → a ≡ has_some (requirements_in first) → b ≡ has_some (requirements_in second) → b ≡ has_some (requirements_of c)
required_else c f first second a b e t h k =
    k ∙ (ap (λ x. x || has_some (requirements_in second)) (sym t ∙ h) ∙ (sym (has_some-append (requirements_in first) (requirements_in second)) ∙ sym (ap (λ x. has_some (requirements_of x)) e)))

no_test : {b : Bool} → true ≡ b → b ≡ false → ⊥
no_test h k = let e : true ≡ false = h ∙ k in cc

left_false : (a b : Bool) → (a || b) ≡ false → a ≡ false
left_false true b h = h
left_false false b h = refl

right_false : (a b : Bool) → (a || b) ≡ false → b ≡ false
right_false true b h = absurd (let e : ⊥ = cc in e)
right_false false b h = h

either_some : {A : Type 0} (b : Bool) (o p : Option A) → is_some o ≡ true → is_some p ≡ true → is_some (if b then o else p) ≡ true
either_some true o p h k = h
either_some false o p h k = k

then_some : (P : Protocol) (o : Option Model.Structure) (next : Model.Structure → Option Model.Structure) → is_some o ≡ true → ((T : Model.Structure) → is_some (next T) ≡ true) → is_some (option_and_then next o) ≡ true
then_some P None next h k = absurd (let e : ⊥ = cc in e)
then_some P (Some T) next h k = k T

-- statements without a requirement always leave a structure
mutual
  statement_leaves : (P : Protocol) (env : Environment) (c : Statement) (S : Model.Structure) → has_some (requirements_of c) ≡ false → is_some (after_statement P env c S) ≡ true
  statement_leaves P env (requirement f) S h = absurd (no_test (sym (some_test 0)) h)
  statement_leaves P env (update_relation r ts f) S h = refl
  statement_leaves P env (update_individual i t) S h = refl
  statement_leaves P env (conditional f first second) S h =
      let k : (has_some (requirements_in first) || has_some (requirements_in second)) ≡ false = sym (has_some-append (requirements_in first) (requirements_in second)) ∙ h in
      either_some (value_of S env f) (after_statements P env first S) (after_statements P env second S) (statements_leave P env first S (left_false _ _ k)) (statements_leave P env second S (right_false (has_some (requirements_in first)) _ k))

  pub statements_leave : (P : Protocol) (env : Environment) (cs : Statements) (S : Model.Structure) → has_some (requirements_in cs) ≡ false → is_some (after_statements P env cs S) ≡ true
  statements_leave P env no_statements S h = refl
  statements_leave P env (with_statement c cs) S h =
      let k : (has_some (requirements_of c) || has_some (requirements_in cs)) ≡ false = sym (has_some-append (requirements_of c) (requirements_in cs)) ∙ h in
      then_some P (after_statement P env c S) (after_statements P env cs) (statement_leaves P env c S (left_false _ _ k)) (λ T. statements_leave P env cs T (right_false (has_some (requirements_of c)) _ k))
