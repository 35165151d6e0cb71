-- How many declarations of a kind stand before a name.
use Rattle.std.proofs.Common.{◌≡◌, ℕ, ◌+◌, ◌-◌, ◌<◌, ◌≤◌, Bool, true, false, cond, List, [], ◌∷◌, ◌++◌, length, get_or, drop, map, None, Some, ap, sym, ◌∙◌, refl, subst, zero, suc, arith, append_assoc}
use Rattle.std.specs.Prelude.{if◌then◌else◌}
use Rattle.std.specs.List.{position_from}
use Rattle.std.proofs.lemmas.List.{map-append}
use Rattle.dai_syntax.specs.Tree.{Declaration, sort, relation, individual, axiom_of, init, action, export, invariant}
use Rattle.dai_rules.specs.Names.{declares, first_place}
use Rattle.dai_sorts.specs.declared.numbers.Counts.{Counts as Program}
use Rattle.dai_sorts.specs.Scopes.{is_type, is_relation, is_individual, number_among}
use Rattle.dai_sorts.specs.Counts.{Counts, counts_of, no_counts, counts_past, counts_from, counts_in, counts_before, counts_at_each, AreFew, AreCounts}

-- counts from here on, and those before
abbrev plus : Counts → Counts → Counts
plus a b = record { types = a.types + b.types; relations = a.relations + b.relations; individuals = a.individuals + b.individuals }

counts_by : (a b : Counts) → a.types ≡ b.types → a.relations ≡ b.relations → a.individuals ≡ b.individuals → a ≡ b
counts_by a b e f g = λ i. record { types = e i; relations = f i; individuals = g i }

abbrev one : (Declaration → Bool) → Declaration → ℕ
one p d = if p d then 1 else 0

abbrev ones : Declaration → Counts
ones d = record { types = one is_type d; relations = one is_relation d; individuals = one is_individual d }

past_is : (c : Counts) (d : Declaration) → counts_past c d ≡ plus c (ones d)
past_is c (sort name ordered) = counts_by _ _ refl (omega arith) (omega arith)
past_is c (relation name arguments) = counts_by _ _ (omega arith) refl (omega arith)
past_is c (individual name type) = counts_by _ _ (omega arith) (omega arith) refl
past_is c (axiom_of f at) = counts_by _ _ (omega arith) (omega arith) (omega arith)
past_is c (init body) = counts_by _ _ (omega arith) (omega arith) (omega arith)
past_is c (action name parameters body exported) = counts_by _ _ (omega arith) (omega arith) (omega arith)
past_is c (export name) = counts_by _ _ (omega arith) (omega arith) (omega arith)
past_is c (invariant label f at) = counts_by _ _ (omega arith) (omega arith) (omega arith)

-- one more declaration before the name
before_else : (x : List ℕ) (d : Declaration) (ds : List Declaration) (c : Counts) → declares x d ≡ false → plus (counts_past c d) (counts_before ds x) ≡ plus c (counts_before (d ∷ ds) x)
before_else x d ds c e =
    ap (λ k. plus k (counts_before ds x)) (past_is c d)
    ∙ counts_by _ _
    (let k : number_among is_type (d ∷ ds) x ≡ one is_type d + number_among is_type ds x = ap (λ b. if b then 0 else one is_type d + number_among is_type ds x) e in omega arith)
    (let k : number_among is_relation (d ∷ ds) x ≡ one is_relation d + number_among is_relation ds x = ap (λ b. if b then 0 else one is_relation d + number_among is_relation ds x) e in omega arith)
    (let k : number_among is_individual (d ∷ ds) x ≡ one is_individual d + number_among is_individual ds x = ap (λ b. if b then 0 else one is_individual d + number_among is_individual ds x) e in omega arith)

before_first : (x : List ℕ) (d : Declaration) (ds : List Declaration) (c : Counts) → declares x d ≡ true → c ≡ plus c (counts_before (d ∷ ds) x)
before_first x d ds c e =
    counts_by _ _
    (let k : number_among is_type (d ∷ ds) x ≡ 0 = ap (λ b. if b then 0 else one is_type d + number_among is_type ds x) e in omega arith)
    (let k : number_among is_relation (d ∷ ds) x ≡ 0 = ap (λ b. if b then 0 else one is_relation d + number_among is_relation ds x) e in omega arith)
    (let k : number_among is_individual (d ∷ ds) x ≡ 0 = ap (λ b. if b then 0 else one is_individual d + number_among is_individual ds x) e in omega arith)

-- where the name is declared, at a place counted from any number, and where it is not
record IsCounted (i p : ℕ) (x : List ℕ) (ds : List Declaration) (c : Counts) : Type 0 where
  behind : i ≤ p
  within : p - i < length ds
  counts : (d : Counts) → get_or (counts_at_each c ds) (p - i) d ≡ plus c (counts_before ds x)

counted_step : (x : List ℕ) (d : Declaration) (ds : List Declaration) (c : Counts) (i p : ℕ) → declares x d ≡ false → IsCounted (i + 1) p x ds (counts_past c d) → IsCounted i p x (d ∷ ds) c
counted_step x d ds c i p e h =
    let behind = h.behind in
    let within = h.within in
    let k : p - i ≡ suc (p - (i + 1)) = omega arith in
    record {
      behind = omega arith;
      within = omega arith;
      counts = λ z. ap (λ n. get_or (counts_at_each c (d ∷ ds)) n z) k ∙ h.counts z ∙ before_else x d ds c e;
    }

place_by : (x : List ℕ) (d : Declaration) (ds : List Declaration) (c : Counts) (i p : ℕ) (b : Bool) → declares x d ≡ b
    → (position_from (declares x) (i + 1) ds ≡ Some p → IsCounted (i + 1) p x ds (counts_past c d)) → cond b (Some i) (position_from (declares x) (i + 1) ds) ≡ Some p → IsCounted i p x (d ∷ ds) c
place_by x d ds c i p true e further h =
    let same : i ≡ p = cc in
    let k : p - i ≡ 0 = omega arith in
    record {
      behind = omega arith;
      within = omega arith;
      counts = λ z. ap (λ n. get_or (counts_at_each c (d ∷ ds)) n z) k ∙ before_first x d ds c e;
    }
place_by x d ds c i p false e further h = counted_step x d ds c i p e (further h)

place_counts : (x : List ℕ) (ds : List Declaration) (c : Counts) (i p : ℕ) → position_from (declares x) i ds ≡ Some p → IsCounted i p x ds c
place_counts x [] c i p h = absurd (let k : ⊥ = cc in k)
place_counts x (d ∷ ds) c i p h = place_by x d ds c i p (declares x d) refl (λ k. place_counts x ds (counts_past c d) (i + 1) p k) h

absent_by : (x : List ℕ) (d : Declaration) (ds : List Declaration) (c : Counts) (i : ℕ) (b : Bool) → declares x d ≡ b
    → (position_from (declares x) (i + 1) ds ≡ None → counts_from (counts_past c d) ds ≡ plus (counts_past c d) (counts_before ds x)) → cond b (Some i) (position_from (declares x) (i + 1) ds) ≡ None → counts_from c (d ∷ ds) ≡ plus c (counts_before (d ∷ ds) x)
absent_by x d ds c i true e further h = absurd (let k : ⊥ = cc in k)
absent_by x d ds c i false e further h = further h ∙ before_else x d ds c e

absent_counts : (x : List ℕ) (ds : List Declaration) (c : Counts) (i : ℕ) → position_from (declares x) i ds ≡ None → counts_from c ds ≡ plus c (counts_before ds x)
absent_counts x [] c i h = counts_by _ _ (omega arith) (omega arith) (omega arith)
absent_counts x (d ∷ ds) c i h = absent_by x d ds c i (declares x d) refl (λ k. absent_counts x ds (counts_past c d) (i + 1) k) h

from_none : (c : Counts) → plus no_counts c ≡ c
from_none c = counts_by _ _ (omega arith) (omega arith) (omega arith)

length-counts : (c : Counts) (ds : List Declaration) → length (counts_at_each c ds) ≡ length ds
length-counts c [] = refl
length-counts c (d ∷ ds) = let e = length-counts (counts_past c d) ds in omega arith

map-get_or : (before : List Program) (p : ℕ) (d : Program) → p < length before → counts_of (get_or before p d) ≡ get_or (map counts_of before) p (counts_of d)
map-get_or [] p d h = absurd (omega arith)
map-get_or (b ∷ before) zero d h = refl
map-get_or (b ∷ before) (suc p) d h = map-get_or before p d (omega arith)

length-same : (before : List Program) → length (map counts_of before) ≡ length before
length-same [] = refl
length-same (b ∷ before) = let e = length-same before in omega arith

module _ (ds : List Declaration) (before : List Program) (all : Program) (h : AreCounts ds before all) (x : List ℕ) where
  length_is : length before ≡ length ds
  length_is = sym (length-same before) ∙ ap length h.each ∙ length-counts no_counts ds

  pub place_within : (p : ℕ) → Some p ≡ first_place ds x → p < length before
  place_within p e =
      let k = (place_counts x ds no_counts 0 p (sym e)).within in
      let n = length_is in
      omega arith

  pub counts_there : (p : ℕ) (c : Program) → Some p ≡ first_place ds x → c ≡ get_or before p c → counts_of c ≡ counts_before ds x
  counts_there p c e is =
      let m : p - 0 ≡ p = omega arith in
      ap counts_of is ∙ map-get_or before p c (place_within p e) ∙ ap (λ l. get_or l p (counts_of c)) h.each
      ∙ ap (λ n. get_or (counts_at_each no_counts ds) n (counts_of c)) (sym m) ∙ (place_counts x ds no_counts 0 p (sym e)).counts (counts_of c) ∙ from_none (counts_before ds x)

  pub counts_absent : None ≡ first_place ds x → counts_of all ≡ counts_before ds x
  counts_absent e = h.whole ∙ absent_counts x ds no_counts 0 (sym e) ∙ from_none (counts_before ds x)

-- the counts grow
past_grows : (c : Counts) (d : Declaration) → (c.types ≤ (counts_past c d).types) × (c.relations ≤ (counts_past c d).relations) × (c.individuals ≤ (counts_past c d).individuals)
past_grows c d =
    let e = past_is c d in
    let a : (counts_past c d).types ≡ c.types + one is_type d = ap (λ (k : Counts). k.types) e in
    let b : (counts_past c d).relations ≡ c.relations + one is_relation d = ap (λ (k : Counts). k.relations) e in
    let g : (counts_past c d).individuals ≡ c.individuals + one is_individual d = ap (λ (k : Counts). k.individuals) e in
    (omega arith, omega arith, omega arith)

few_before : (c : Counts) (ds : List Declaration) → AreFew (counts_from c ds) → AreFew c
few_before c [] h = h
few_before c (d ∷ ds) h =
    let k = few_before (counts_past c d) ds h in
    let a = k.types in
    let b = k.relations in
    let e = k.individuals in
    let g = past_grows c d in
    let g0 = g.0 in
    let g1 = g.1 in
    let g2 = g.2 in
    record { types = omega arith; relations = omega arith; individuals = omega arith }

-- one more declaration is counted
pub few_so_far : (c : Counts) (ds : List Declaration) (i : ℕ) (d : Declaration) → AreFew (counts_from c (drop i ds)) → drop i ds ≡ d ∷ drop (i + 1) ds → AreFew (counts_past c d)
few_so_far c ds i d h e = few_before (counts_past c d) (drop (i + 1) ds) (subst (λ rest. AreFew (counts_from c rest)) e h)

pub few_next : (c : Counts) (ds rest : List Declaration) (d : Declaration) → counts_from c (d ∷ rest) ≡ counts_in ds → AreFew (counts_in ds) → AreFew (counts_past c d)
few_next c ds rest d e h = few_before (counts_past c d) rest (subst AreFew (sym e) h)

pub each_next : (b b2 : List Program) (a a2 : Program) (d : Declaration) (rest : List Declaration) (whole : List Counts) → b2 ≡ b ++ a ∷ [] → counts_of a2 ≡ counts_past (counts_of a) d
    → map counts_of b ++ counts_at_each (counts_of a) (d ∷ rest) ≡ whole → map counts_of b2 ++ counts_at_each (counts_of a2) rest ≡ whole
each_next b b2 a a2 d rest whole e f h =
    ap (λ l. l ++ counts_at_each (counts_of a2) rest) (ap (map counts_of) e ∙ map-append counts_of b (a ∷ []))
    ∙ append_assoc (map counts_of b) (counts_of a ∷ []) (counts_at_each (counts_of a2) rest) ∙ ap (λ k. map counts_of b ++ (counts_of a ∷ counts_at_each k rest)) f ∙ h

pub whole_next : (a a2 : Program) (d : Declaration) (rest : List Declaration) (w : Counts) → counts_of a2 ≡ counts_past (counts_of a) d → counts_from (counts_of a) (d ∷ rest) ≡ w → counts_from (counts_of a2) rest ≡ w
whole_next a a2 d rest w f h = ap (λ c. counts_from c rest) f ∙ h
