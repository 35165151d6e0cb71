use Rattle.std.proofs.Common.{◌≡◌, ◌+◌, ◌<◌, ℕ, Bool, true, false, not, ◌&&◌, ◌||◌, List, [], ◌∷◌, ◌++◌, ◌≤◌, length, get_or, take, map, refl, ap, sym, ◌∙◌, arith}
use Rattle.std.specs.Bool.{beq}
use Rattle.std.specs.List.{list_all, list_any}
use Rattle.std.proofs.lemmas.Bool.{not-true, not_from_false, both_ways, true_from_ne_false}
use Rattle.std.proofs.lemmas.List.{take_more, append-nil}
use Rattle.std.proofs.lemmas.List.Elements.{All-head, All-tail, All-cons, All-nil, filter_map-append}
use Rattle.std.proofs.lemmas.List.Folds.{Any-from_list_any, list_any-from_Any, list_all_at}
use Rattle.dai_trail.specs.declared.cnf.Lit.{Lit}
use Rattle.dai_trail.specs.Formula.{IsBelow, IsMetBy, value_at}
use Rattle.dai_circuit.specs.declared.bit.Bit.{Bit}
use Rattle.dai_circuit.specs.declared.bit.Bit.TheVariants.{Known, Is}
use Rattle.dai_circuit.specs.Circuits.{same_value, lit_value, bit_value, opposite, negation_of, is_known, literals_of, literal_of, signed, IsBitBelow, AreBitsBelow, all_true, variable}

pub same_true : (wanted value : Bool) → same_value wanted value ≡ true → value ≡ wanted
same_true true value h = h
same_true false value h = not-true value h

pub true_same : (wanted value : Bool) → value ≡ wanted → same_value wanted value ≡ true
true_same true value h = h
true_same false value h = not_from_false value h

-- a clause is met where the disjunction of its literals is true
pub value_met : (bits : List Bool) (clause : List Lit) → list_any (lit_value bits) clause ≡ true → IsMetBy clause bits
value_met bits clause h =
    let w = Any-from_list_any (lit_value bits) clause h in
    (w.0, w.1, w.2, w.3, same_true w.1.positive (value_at bits w.1.var) w.4)

pub met_value : (bits : List Bool) (clause : List Lit) → IsMetBy clause bits → list_any (lit_value bits) clause ≡ true
met_value bits clause w =
    list_any-from_Any (lit_value bits) clause (w.0, w.1, w.2, w.3, true_same w.1.positive (value_at bits w.1.var) w.4)

pub same_value-not : (wanted value : Bool) → same_value (not wanted) value ≡ not (same_value wanted value)
same_value-not true true = refl
same_value-not true false = refl
same_value-not false true = refl
same_value-not false false = refl

pub value-opposite : (bits : List Bool) (l : Lit) → lit_value bits (opposite l) ≡ not (lit_value bits l)
value-opposite bits l = same_value-not l.positive (value_at bits l.var)

pub value-negation : (bits : List Bool) (part : Bit) → bit_value bits (negation_of part) ≡ not (bit_value bits part)
value-negation bits (Known value) = refl
value-negation bits (Is l) = value-opposite bits l

pub below-negation : (count : ℕ) (part : Bit) → IsBitBelow count part → IsBitBelow count (negation_of part)
below-negation count (Known value) below = tt
below-negation count (Is l) below = below

not_and : (a b : Bool) → (not a || not b) ≡ not (a && b)
not_and true b = refl
not_and false b = refl

not_or : (a b : Bool) → not (not a && not b) ≡ (a || b)
not_or true b = refl
not_or false true = refl
not_or false false = refl

-- De Morgan over literals, and over bits
pub any-opposite : (bits : List Bool) (lits : List Lit) → list_any (lit_value bits) (map opposite lits) ≡ not (list_all (lit_value bits) lits)
any-opposite bits [] = refl
any-opposite bits (l ∷ lits) =
    ap (λ v. v || list_any (lit_value bits) (map opposite lits)) (value-opposite bits l)
    ∙ ap (λ v. not (lit_value bits l) || v) (any-opposite bits lits)
    ∙ not_and (lit_value bits l) (list_all (lit_value bits) lits)

de_morgan : (a b c : Bool) → not b ≡ c → not (not a && b) ≡ (a || c)
de_morgan true b c h = refl
de_morgan false b c h = h

pub not_all-negation : (bits : List Bool) (parts : List Bit) → not (list_all (bit_value bits) (map negation_of parts)) ≡ list_any (bit_value bits) parts
not_all-negation bits [] = refl
not_all-negation bits (p ∷ parts) =
    let rest = list_all (bit_value bits) (map negation_of parts) in
    ap (λ v. not (v && rest)) (value-negation bits p)
    ∙ de_morgan (bit_value bits p) rest (list_any (bit_value bits) parts) (not_all-negation bits parts)

pub below-negations : (count : ℕ) (parts : List Bit) → AreBitsBelow count parts → AreBitsBelow count (map negation_of parts)
below-negations count [] below = All-nil (IsBitBelow count)
below-negations count (p ∷ parts) below =
    All-cons (IsBitBelow count) (negation_of p) (map negation_of parts)
    (below-negation count p (All-head (IsBitBelow count) p parts below))
    (below-negations count parts (All-tail (IsBitBelow count) p parts below))

pub below-opposites : (count : ℕ) (lits : List Lit) → IsBelow count lits → IsBelow count (map opposite lits)
below-opposites count [] below = All-nil (λ l. l.var < count)
below-opposites count (l ∷ lits) below =
    All-cons (λ l. l.var < count) (opposite l) (map opposite lits)
    (All-head (λ l. l.var < count) l lits below)
    (below-opposites count lits (All-tail (λ l. l.var < count) l lits below))

pub below-literals : (count : ℕ) (parts : List Bit) → AreBitsBelow count parts → IsBelow count (literals_of parts)
below-literals count [] below = All-nil (λ l. l.var < count)
below-literals count (Known value ∷ parts) below = below-literals count parts (All-tail (IsBitBelow count) (Known value) parts below)
below-literals count (Is l ∷ parts) below =
    All-cons (λ l. l.var < count) l (literals_of parts)
    (All-head (IsBitBelow count) (Is l) parts below)
    (below-literals count parts (All-tail (IsBitBelow count) (Is l) parts below))

-- a known false bit makes a conjunction false; without one the literals alone decide it
pub all_false : (bits : List Bool) (parts : List Bit) → list_any (is_known false) parts ≡ true → list_all (bit_value bits) parts ≡ false
all_false bits [] h = absurd (both_ways false refl h)
all_false bits (Known true ∷ parts) h = all_false bits parts h
all_false bits (Known false ∷ parts) h = refl
all_false bits (Is l ∷ parts) h = ap (λ v. lit_value bits l && v) (all_false bits parts h) ∙ and_false (lit_value bits l)
  where
    and_false : (a : Bool) → (a && false) ≡ false
    and_false true = refl
    and_false false = refl

pub all_open : (bits : List Bool) (parts : List Bit) → list_any (is_known false) parts ≡ false → list_all (lit_value bits) (literals_of parts) ≡ list_all (bit_value bits) parts
all_open bits [] h = refl
all_open bits (Known true ∷ parts) h = all_open bits parts h
all_open bits (Known false ∷ parts) h = absurd (both_ways true h refl)
all_open bits (Is l ∷ parts) h = ap (λ v. lit_value bits l && v) (all_open bits parts h)

-- a known true bit makes a disjunction true; without one the literals alone decide it
pub any_true : (bits : List Bool) (parts : List Bit) → list_any (is_known true) parts ≡ true → list_any (bit_value bits) parts ≡ true
any_true bits [] h = h
any_true bits (Known true ∷ parts) h = refl
any_true bits (Known false ∷ parts) h = any_true bits parts h
any_true bits (Is l ∷ parts) h = ap (λ v. lit_value bits l || v) (any_true bits parts h) ∙ or_true (lit_value bits l)
  where
    or_true : (a : Bool) → (a || true) ≡ true
    or_true true = refl
    or_true false = refl

pub any_open : (bits : List Bool) (parts : List Bit) → list_any (is_known true) parts ≡ false → list_any (lit_value bits) (literals_of parts) ≡ list_any (bit_value bits) parts
any_open bits [] h = refl
any_open bits (Known true ∷ parts) h = absurd (both_ways true h refl)
any_open bits (Known false ∷ parts) h = any_open bits parts h
any_open bits (Is l ∷ parts) h = ap (λ v. lit_value bits l || v) (any_open bits parts h)

-- each literal of a true conjunction is true
pub all_true_at : (bits : List Bool) (lits : List Lit) (i : ℕ) (d : Lit) → i < length lits → all_true lits bits ≡ true → lit_value bits (get_or lits i d) ≡ true
all_true_at bits lits i d l h = true_from_ne_false (lit_value bits (get_or lits i d)) (λ n. both_ways (all_true lits bits) (list_all_at (lit_value bits) lits i d l n) h)

-- the clauses of an implication, and of a literal that decides
pub clause_of_implication : (x l : Bool) → (x ≡ true → l ≡ true) → (not x || (l || false)) ≡ true
clause_of_implication true true h = refl
clause_of_implication true false h = h refl
clause_of_implication false l h = refl

pub implied : (x l : Bool) → (not x || (l || false)) ≡ true → x ≡ true → l ≡ true
implied true true h x = refl
implied true false h x = h
implied false l h x = absurd (both_ways false refl x)

pub clause_of_converse : (x all : Bool) → x ≡ all → (x || not all) ≡ true
clause_of_converse true all h = refl
clause_of_converse false true h = h
clause_of_converse false false h = refl

pub converse_implied : (x all : Bool) → (x || not all) ≡ true → all ≡ true → x ≡ true
converse_implied true all h a = refl
converse_implied false true h a = h
converse_implied false false h a = a

pub same_from : (x all : Bool) → (x ≡ true → all ≡ true) → (all ≡ true → x ≡ true) → x ≡ all
same_from true all f g = sym (f refl)
same_from false true f g = g refl
same_from false false f g = refl

-- the two clauses of a variable that is tied unless a guard is true
pub tied_first : (guard x other : Bool) → (guard ≡ false → x ≡ other) → (guard || (not x || (other || false))) ≡ true
tied_first true x other h = refl
tied_first false true other h = ap (λ v. v || false) (sym (h refl))
tied_first false false other h = refl

pub tied_second : (guard x other : Bool) → (guard ≡ false → x ≡ other) → (guard || (x || (not other || false))) ≡ true
tied_second true x other h = refl
tied_second false true other h = refl
tied_second false false other h = ap (λ v. not v || false) (sym (h refl))

pub tied_by : (guard x other : Bool) → (guard || (not x || (other || false))) ≡ true → (guard || (x || (not other || false))) ≡ true → guard ≡ false → x ≡ other
tied_by true x other f g n = absurd (both_ways true n refl)
tied_by false true true f g n = refl
tied_by false true false f g n = sym f
tied_by false false true f g n = g
tied_by false false false f g n = refl

-- an equivalence by cases on its first side
pub same_when_true : (first other x : Bool) → x ≡ same_value first other → not first ≡ false → x ≡ other
same_when_true true other x h n = h
same_when_true false other x h n = absurd (both_ways true n refl)

pub same_when_false : (first other x : Bool) → x ≡ same_value first other → first ≡ false → x ≡ not other
same_when_false true other x h n = absurd (both_ways true n refl)
same_when_false false other x h n = h

pub same_by_cases : (first other x : Bool) → (not first ≡ false → x ≡ other) → (first ≡ false → x ≡ not other) → x ≡ same_value first other
same_by_cases true other x f g = f refl
same_by_cases false other x f g = g refl

-- two literals of one variable
pub same_variable : (a b v : Bool) → same_value a b ≡ same_value (same_value a v) (same_value b v)
same_variable true true true = refl
same_variable true true false = refl
same_variable true false true = refl
same_variable true false false = refl
same_variable false true true = refl
same_variable false true false = refl
same_variable false false true = refl
same_variable false false false = refl

pub same_value-comm : (a b : Bool) → same_value a b ≡ same_value b a
same_value-comm true true = refl
same_value-comm true false = refl
same_value-comm false true = refl
same_value-comm false false = refl

pub beq_same : (a b : Bool) → beq a b ≡ same_value a b
beq_same true true = refl
beq_same true false = refl
beq_same false true = refl
beq_same false false = refl

pub converse_value : (bits : List Bool) (clause : List Lit) (var : ℕ) (lits : List Lit) → clause ≡ variable var ∷ map opposite lits → list_any (lit_value bits) clause ≡ (value_at bits var || not (all_true lits bits))
converse_value bits clause var lits e = ap (list_any (lit_value bits)) e ∙ ap (λ v. value_at bits var || v) (any-opposite bits lits)

pub no_literal : (bits : List Bool) (lits : List Lit) → length lits < 1 → true ≡ all_true lits bits
no_literal bits [] below = refl
no_literal bits (l ∷ lits) below = absurd (omega arith)

and_true : (a : Bool) → a ≡ (a && true)
and_true true = refl
and_true false = refl

pub one_literal : (bits : List Bool) (lits : List Lit) (d : Lit) → 1 ≤ length lits → length lits < 2 → lit_value bits (get_or lits 0 d) ≡ all_true lits bits
one_literal bits [] d least below = absurd (omega arith)
one_literal bits (l ∷ []) d least below = and_true (lit_value bits l)
one_literal bits (l ∷ m ∷ lits) d least below = absurd (omega arith)

pub value-signed : (bits : List Bool) (value : Bool) (part : Bit) → bit_value bits (signed value part) ≡ same_value value (bit_value bits part)
value-signed bits true part = refl
value-signed bits false part = value-negation bits part

pub below-signed : (count : ℕ) (value : Bool) (part : Bit) → IsBitBelow count part → IsBitBelow count (signed value part)
below-signed count true part below = below
below-signed count false part below = below-negation count part below

-- one more bit that is known, and one that is a literal
pub literals_known : (parts : List Bit) (i : ℕ) (d : Bit) (value : Bool) → i < length parts → get_or parts i d ≡ Known value → literals_of (take (i + 1) parts) ≡ literals_of (take i parts)
literals_known parts i d value l e =
    ap literals_of (take_more parts i d l)
    ∙ filter_map-append literal_of (take i parts) (get_or parts i d ∷ [])
    ∙ ap (λ b. literals_of (take i parts) ++ literals_of (b ∷ [])) e
    ∙ append-nil (literals_of (take i parts))

pub literals_is : (parts : List Bit) (i : ℕ) (d : Bit) (lit : Lit) → i < length parts → get_or parts i d ≡ Is lit → literals_of (take (i + 1) parts) ≡ literals_of (take i parts) ++ lit ∷ []
literals_is parts i d lit l e =
    ap literals_of (take_more parts i d l)
    ∙ filter_map-append literal_of (take i parts) (get_or parts i d ∷ [])
    ∙ ap (λ b. literals_of (take i parts) ++ literals_of (b ∷ [])) e
