use Rattle.std.proofs.Common.{◌≡◌, ◌<◌, ◌/◌, ◌%◌, ◌+◌, ◌==◌, ℕ, zero, suc, eqb, Bool, true, false, List, [], ◌∷◌, ◌++◌, length, get_or, map, refl, ap, sym, ◌∙◌, subst, arith, inl, inr}
use Rattle.std.specs.List.{All}
use Rattle.std.proofs.lemmas.Bool.{cases_lt}
use Rattle.std.proofs.lemmas.List.{length-map, map-append, get_or_append_left, get_or_push, length_push}
use Rattle.dai_trail.specs.declared.cnf.Lit.{Lit}
use Rattle.dai_trail.specs.Formula.{Formula, IsMetBy, IsTrueAt, value_at, formula_of}
use Rattle.dai_trail.specs.Codes.{digit, code_of, lit_of, Agrees, AreBelow, AreCodesOf}
use Rattle.dai_trail.specs.Trail.{AreImplied}
use Rattle.dai_trail.specs.Marks.{IsImplied}

pub digit_lt : (b : Bool) → digit b < 2
digit_lt true = omega arith
digit_lt false = omega arith

-- a truth value is the test whether its digit is 1
pub eqb_digit : (b : Bool) (n : ℕ) → digit b ≡ n → eqb n 1 ≡ b
eqb_digit true n e = rw (← e) refl
eqb_digit false n e = rw (← e) refl

pub digit-eqb : (n : ℕ) → n < 2 → digit (eqb n 1) ≡ n
digit-eqb zero h = refl
digit-eqb (suc zero) h = refl
digit-eqb (suc (suc n)) h = absurd (omega arith)

-- the literal of a literal's number is that literal
pub lit_of-code_of : (l : Lit) → lit_of (code_of l) ≡ l
lit_of-code_of l =
    let small = digit_lt l.positive in
    let v : code_of l / 2 ≡ l.var = omega arith in
    let s : digit l.positive ≡ code_of l % 2 = omega arith in
    let p : (code_of l % 2 == 1) ≡ l.positive = eqb_digit l.positive (code_of l % 2) s in
    λ i. record { var = v i; positive = p i }

pub map_lit_of-map_code_of : (lits : List Lit) → map lit_of (map code_of lits) ≡ lits
map_lit_of-map_code_of [] = refl
map_lit_of-map_code_of (l ∷ lits) =
    let e = lit_of-code_of l in
    let rest = map_lit_of-map_code_of lits in
    λ i. e i ∷ rest i

-- a coded literal that an assignment makes true
pub agrees_lit : (bits : List Bool) (code : ℕ) → IsTrueAt bits (lit_of code) → Agrees bits code
agrees_lit bits code h =
    let small : code % 2 < 2 = omega arith in
    ap digit h ∙ digit-eqb (code % 2) small

pub lit_agrees : (bits : List Bool) (code : ℕ) → Agrees bits code → IsTrueAt bits (lit_of code)
lit_agrees bits code h = sym (eqb_digit (value_at bits (code / 2)) (code % 2) h)

pub get_or-map_lit : (codes : List ℕ) (k : ℕ) (d : Lit) → k < length codes → get_or (map lit_of codes) k d ≡ lit_of (get_or codes k 0)
get_or-map_lit [] k d l = absurd (omega arith)
get_or-map_lit (c ∷ cs) zero d l = refl
get_or-map_lit (c ∷ cs) (suc k) d l = let l' : k < length cs = omega arith in get_or-map_lit cs k d l'

-- where a coded clause is met, a coded literal agrees
pub met_agrees : (bits : List Bool) (codes : List ℕ) → IsMetBy (map lit_of codes) bits → (k : ℕ) × (k < length codes) × Agrees bits (get_or codes k 0)
met_agrees bits codes met =
    let l : met.0 < length codes = let w = met.2 in omega (arith, length-map codes lit_of) in
    let e : lit_of (get_or codes met.0 0) ≡ met.1 = sym (get_or-map_lit codes met.0 met.1 l) ∙ met.3 in
    let P : Lit → Type 0 = λ x. IsTrueAt bits x in
    (met.0, l, agrees_lit bits (get_or codes met.0 0) (subst P (sym e) met.4))

pub agrees_met : (bits : List Bool) (codes : List ℕ) (k : ℕ) → k < length codes → Agrees bits (get_or codes k 0) → IsMetBy (map lit_of codes) bits
agrees_met bits codes k l a =
    let l' : k < length (map lit_of codes) = omega (arith, length-map codes lit_of) in
    (k, lit_of (get_or codes k 0), l', get_or-map_lit codes k (lit_of (get_or codes k 0)) l, lit_agrees bits (get_or codes k 0) a)

-- each model makes some literal of each clause true
pub clause_implied : (f : Formula) (number : ℕ) (codes : List ℕ) → number < length f.clauses → AreCodesOf f number codes → IsImplied f codes
clause_implied f number codes l are = record {
  implies = λ bits model deny.
      let P : List Lit → Type 0 = λ clause. IsMetBy clause bits in
      let w = met_agrees bits codes (subst P (sym are.lits) (model number [] l)) in
      deny w.0 w.1 w.2;
}

-- learned clauses, one by one
pub learned_implied : (f : Formula) (db : List (List ℕ)) (number : ℕ) → AreImplied f db → number < length db → IsImplied f (get_or db number [])
learned_implied f db number a l = record { implies = λ bits model deny. a.implies bits model number l deny }

-- one more clause of the formula
pub clauses-push : (db : List (List ℕ)) (codes : List ℕ) (lits : List Lit) → codes ≡ map code_of lits → map (map lit_of) (db ++ codes ∷ []) ≡ map (map lit_of) db ++ lits ∷ []
clauses-push db codes lits e =
    map-append (map lit_of) db (codes ∷ [])
    ∙ ap (λ xs. map (map lit_of) db ++ xs ∷ []) (ap (map lit_of) e ∙ map_lit_of-map_code_of lits)

get_or-map_lits : (db : List (List ℕ)) (k : ℕ) → k < length db → get_or (map (map lit_of) db) k [] ≡ map lit_of (get_or db k [])
get_or-map_lits [] k l = absurd (omega arith)
get_or-map_lits (c ∷ cs) zero l = refl
get_or-map_lits (c ∷ cs) (suc k) l = let l' : k < length cs = omega arith in get_or-map_lits cs k l'

-- the codes of a clause
pub are_codes : (count : ℕ) (db : List (List ℕ)) (number : ℕ) → number < length db → AreBelow count db → AreCodesOf (formula_of count (map (map lit_of) db)) number (get_or db number [])
are_codes count db number l below = record {
  lits = sym (get_or-map_lits db number l);
  below = below number [] l;
}

-- the clauses stay below a greater count
pub below_grow : (count : ℕ) (db : List (List ℕ)) → AreBelow count db → AreBelow (count + 1) db
below_grow count db below = λ number d l k kl. let h = below number d l k kl in omega arith

-- encoded literals are below the count of the literals
pub code_below : (count : ℕ) (lits : List Lit) (k : ℕ) → All (λ l. l.var < count) lits → k < length (map code_of lits) → get_or (map code_of lits) k 0 / 2 < count
code_below count [] k all l = absurd (omega arith)
code_below count (x ∷ xs) zero all l =
    let h : x.var < count = all 0 x (omega arith) in
    let small = digit_lt x.positive in
    omega arith
code_below count (x ∷ xs) (suc k) all l =
    let l' : k < length (map code_of xs) = omega arith in
    let rest : All (λ l. l.var < count) xs = λ i d il. let il' : suc i < length (x ∷ xs) = omega arith in all (suc i) d il' in
    code_below count xs k rest l'

pub below_push : (count : ℕ) (db : List (List ℕ)) (codes : List ℕ) → AreBelow count db → ((k : ℕ) → k < length codes → get_or codes k 0 / 2 < count) → AreBelow count (db ++ codes ∷ [])
below_push count db codes below here = λ number d l.
    let len = length_push db codes in
    let P : List ℕ → Type 0 = λ xs. (k : ℕ) → k < length xs → get_or xs k 0 / 2 < count in
    elim (cases_lt number (length db)) [
      | inl low ↦ subst P (sym (get_or_append_left db (codes ∷ []) d number low)) (below number d low)
      | inr high ↦
          let at : length db ≡ number = omega arith in
          subst P (sym (get_or_push db codes d number at)) here
    ]
