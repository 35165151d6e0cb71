use Rattle.std.proofs.Common.{◌≡◌, ◌<◌, ◌≤◌, ◌+◌, ◌/◌, ◌%◌, ◌==◌, ℕ, zero, suc, Bool, true, false, List, [], ◌∷◌, length, get_or, map, refl, ap, sym, ◌∙◌, subst, arith, inl, inr}
use Rattle.std.proofs.lemmas.Bool.{cases_eq, cases_order}
use Rattle.std.proofs.lemmas.List.{get_or_default}
use Rattle.dai_trail.specs.declared.trail.Trail.{Trail}
use Rattle.dai_trail.specs.declared.trail.TheConstants.{DECISION}
use Rattle.dai_trail.specs.declared.cnf.Lit.{Lit}
use Rattle.dai_trail.specs.Formula.{Formula, IsLeastModelOf, AreMetBy, IsMetBy, value_at}
use Rattle.dai_trail.specs.Codes.{digit, lit_of, Agrees}
use Rattle.dai_trail.specs.Trail.{value_in, code_at, place_of, IsTrueIn, IsTrail, IsOrdered, IsForced, IsGuided, IsRefuted, IsFullModel, MeetsClauses, MissesClause}
use Rattle.dai_trail.proofs.Mirrors.{in_range, true_small}
use Rattle.dai_trail.proofs.Forces.{refuted_clause}
use Rattle.dai_trail.proofs.Encodings.{eqb_digit, digit-eqb, agrees_met, clause_implied}

pub digit_injective : (a b : Bool) → digit a ≡ digit b → a ≡ b
digit_injective true true e = refl
digit_injective true false e = absurd (omega arith)
digit_injective false true e = absurd (omega arith)
digit_injective false false e = refl

-- where another model first differs, the trail holds a decision
pub least_model : (prefers : ℕ → Bool → Type 0) (f : Formula) (t : Trail) (bits : List Bool) → IsTrail t → IsOrdered t → length t.values.items ≡ f.vars → ((u : ℕ) → u < length t.values.items → value_in t u < 2) → IsForced f t → IsGuided prefers t → IsFullModel f t bits → IsLeastModelOf prefers f bits
least_model prefers f t bits trail order room whole forced guided full = record {
  model = full.model;
  least = λ other model var vl agree differs.
      let m = trail.mirror in
      let vl' : var < length t.values.items = omega arith in
      let small = whole var vl' in
      let il = m.placed var small in
      let name = m.named var small in
      let here = full.same var vl in
      let sign : code_at t (place_of t var) % 2 ≡ value_in t var = omega arith in
      let is_var : code_at t (place_of t var) / 2 ≡ var = omega arith in
      elim (cases_eq (get_or t.reasons.items (place_of t var) 0) DECISION) [
        | inl d ↦
            let p = guided.preferred (place_of t var) il d in
            let b : (code_at t (place_of t var) % 2 == 1) ≡ value_at bits var = eqb_digit (value_at bits var) (code_at t (place_of t var) % 2) (here ∙ sym sign) in
            let P : ℕ → Type 0 = λ v. prefers v (code_at t (place_of t var) % 2 == 1) in
            let Q : Bool → Type 0 = λ x. prefers var x in
            subst Q b (subst P is_var p)
        | inr n ↦
            let k : place_of t var + 1 ≤ t.len = omega arith in
            let last : place_of t var < place_of t var + 1 = omega arith in
            let agreed = forced.entails other model.meets (place_of t var + 1) k (λ j jl is.
            let j≢i : j ≡ place_of t var → ⊥ = λ e. n (ap (λ j. get_or t.reasons.items j 0) (sym e) ∙ is) in
            let low : j < place_of t var = omega arith in
            let jl' : j < t.len = omega arith in
            let entered = m.entered j jl' in
            let holds = m.holding j jl' in
            elim (cases_order (code_at t j / 2) var) [
              | inl e ↦ absurd (j≢i (sym entered ∙ ap (λ v. place_of t v) e))
              | inr rest ↦ elim rest [
                | inl below ↦
                    let bl : code_at t j / 2 < f.vars = omega arith in
                    let s = full.same (code_at t j / 2) bl in
                    ap digit (sym (agree (code_at t j / 2) below)) ∙ s ∙ holds
                | inr above ↦
                    let w = order.ordered j jl' is var above in
                    let wl : w.0 < t.len = let x = w.1 in omega arith in
                    let at = m.entered w.0 wl in
                    let same : place_of t var ≡ w.0 = ap (λ v. place_of t v) (sym w.2) ∙ at in
                    absurd (let x = w.1 in omega arith)
              ]
            ]) (place_of t var) last in
            let d : digit (value_at other var) ≡ digit (value_at bits var) =
            ap (λ v. digit (value_at other v)) (sym is_var) ∙ agreed ∙ sign ∙ sym here in
            absurd (differs (digit_injective (value_at bits var) (value_at other var) (sym d)))
      ];
}

-- the values of a whole trail as an assignment
pub value_at-map : (xs : List ℕ) (var : ℕ) → var < length xs → get_or xs var 2 < 2 → digit (get_or (map (λ x. x == 1) xs) var false) ≡ get_or xs var 2
value_at-map [] var l h = absurd (omega arith)
value_at-map (x ∷ xs) zero l h = digit-eqb x h
value_at-map (x ∷ xs) (suc var) l h = let l' : var < length xs = omega arith in value_at-map xs var l' h

-- the assignment of a whole trail agrees with its literals
pub whole_agrees : (t : Trail) (bits : List Bool) (code : ℕ) → bits ≡ map (λ x. x == 1) t.values.items → value_in t (code / 2) < 2 → IsTrueIn t code → Agrees bits code
whole_agrees t bits code e small holds =
    ap (λ xs. digit (get_or xs (code / 2) false)) e ∙ value_at-map t.values.items (code / 2) (in_range t (code / 2) small) small ∙ holds

-- where each clause has a true literal, the assignment of a whole trail meets the formula
pub whole_meets : (f : Formula) (t : Trail) (bits : List Bool) → bits ≡ map (λ x. x == 1) t.values.items → MeetsClauses f t → AreMetBy f bits
whole_meets f t bits e meets = λ number d l.
    let w = meets.met number l in
    let any = w.2 in
    let P : List Lit → Type 0 = λ clause. IsMetBy clause bits in
    let Q : ℕ → Type 0 = λ q. IsTrueIn t q in
    let at : get_or w.0 any.0 0 ≡ any.1 = get_or_default w.0 any.0 0 any.1 any.2 ∙ any.3 in
    let holds : IsTrueIn t (get_or w.0 any.0 0) = subst Q (sym at) any.4 in
    let small : value_in t (get_or w.0 any.0 0 / 2) < 2 = true_small t (get_or w.0 any.0 0) holds in
    let met : IsMetBy (map lit_of w.0) bits = agrees_met bits w.0 any.0 any.2 (whole_agrees t bits (get_or w.0 any.0 0) e small holds) in
    subst P (w.1.lits ∙ get_or_default f.clauses number [] d l) met

-- where a clause has no true literal, no model makes the literals of a whole trail true
pub whole_refuted : (f : Formula) (t : Trail) (number : ℕ) → IsTrail t → length t.values.items ≡ f.vars → ((u : ℕ) → u < length t.values.items → value_in t u < 2) → MissesClause f t number → IsRefuted f t
whole_refuted f t number trail room whole misses =
    refuted_clause f t misses.codes trail.mirror (clause_implied f number misses.codes misses.within misses.are_codes)
    (λ k kl.
    let b = misses.are_codes.below k kl in
    let b' : get_or misses.codes k 0 / 2 < length t.values.items = omega arith in
    let small = whole (get_or misses.codes k 0 / 2) b' in
    elim (cases_eq (value_in t (get_or misses.codes k 0 / 2)) (get_or misses.codes k 0 % 2)) [
      | inl e ↦ absurd (misses.unmet (k, get_or misses.codes k 0, kl, get_or_default misses.codes k (get_or misses.codes k 0) 0 kl, e))
      | inr n ↦ omega arith
    ])
