-- Comparing what candidates stand for.
use Rattle.std.proofs.Common.{◌≡◌, ◌&&◌, ◌||◌, ℕ, Bool, true, false, List, [], ◌∷◌, ◌++◌, ◌+◌, ◌<◌, length, get_or, take, Result, Ok, Err, map, refl, ap, sym, ◌∙◌, arith}
use Rattle.std.specs.Prelude.{if◌then◌else◌}
use Rattle.std.specs.List.{list_any}
use Rattle.std.proofs.lemmas.List.{take_more, append-nil, map-append}
use Rattle.dai_base.specs.declared.memory.Spent.{Spent}
use Rattle.std.proofs.lemmas.List.Elements.{All-cons, All-head, All-tail}
use Rattle.dai_trail.specs.Formula.{Formula}
use Rattle.dai_circuit.specs.declared.bit.Bit.{Bit}
use Rattle.dai_circuit.specs.Circuits.{bit_value, IsBitBelow, AreBitsBelow, all_value, any_value, IsBitFor, Extends, Defines}
use Rattle.dai_ground.specs.declared.candidates.Candidate.{Candidate}
use Rattle.dai_ground.specs.declared.comparing.Order.{Order}
use Rattle.dai_ground.specs.Grounding.{StandFor}
use Rattle.dai_ground.specs.Atoms.{compares, AreOver, IsComparedWith, IsComparison}
use Rattle.dai_ground.specs.Findings.{HasValue, HaveValues, Finds}
use Rattle.dai_ground.proofs.Findings.{IsMore, have_none, have_more, have_other, finds_any}

-- the bits of the candidates whose slot compares so
abbrev pub compared : Order → ℕ → List Candidate → List Bit
compared order left [] = []
compared order left (c ∷ cs) = if compares order left c.slot then c.bit ∷ compared order left cs else compared order left cs

pub compared-push : (order : Order) (left : ℕ) (cs : List Candidate) (c : Candidate) → compared order left (cs ++ c ∷ []) ≡ compared order left cs ++ (if compares order left c.slot then c.bit ∷ [] else [])
compared-push order left [] c = refl
compared-push order left (d ∷ cs) c = by_cases (compared-push order left cs c) (compares order left d.slot)
  where
    by_cases : compared order left (cs ++ c ∷ []) ≡ compared order left cs ++ (if compares order left c.slot then c.bit ∷ [] else []) → (b : Bool) → (if b then d.bit ∷ compared order left (cs ++ c ∷ []) else compared order left (cs ++ c ∷ [])) ≡ (if b then d.bit ∷ compared order left cs else compared order left cs) ++ (if compares order left c.slot then c.bit ∷ [] else [])
    by_cases rest true = ap (λ bs. d.bit ∷ bs) rest
    by_cases rest false = rest

pub compared_below : (count : ℕ) (order : Order) (left : ℕ) (cs : List Candidate) → AreOver count cs → AreBitsBelow count (compared order left cs)
compared_below count order left [] over = λ k d l. absurd (omega arith)
compared_below count order left (c ∷ cs) over = by_cases (compared_below count order left cs (All-tail (λ (x : Candidate). IsBitBelow count x.bit) c cs over)) (compares order left c.slot)
  where
    by_cases : AreBitsBelow count (compared order left cs) → (b : Bool) → AreBitsBelow count (if b then c.bit ∷ compared order left cs else compared order left cs)
    by_cases rest true = All-cons (IsBitBelow count) c.bit (compared order left cs) (All-head (λ (x : Candidate). IsBitBelow count x.bit) c cs over) rest
    by_cases rest false = rest

and_true : (b : Bool) → (b && true) ≡ b
and_true true = refl
and_true false = refl

and_false : (b : Bool) → (b && false) ≡ false
and_false true = refl
and_false false = refl

compared_value : (bits : List Bool) (order : Order) (left : ℕ) (cs : List Candidate) → any_value (compared order left cs) bits ≡ list_any (λ (c : Candidate). bit_value bits c.bit && compares order left c.slot) cs
compared_value bits order left [] = refl
compared_value bits order left (c ∷ cs) = by_cases (compared_value bits order left cs) (compares order left c.slot)
  where
    by_cases : any_value (compared order left cs) bits ≡ list_any (λ (d : Candidate). bit_value bits d.bit && compares order left d.slot) cs → (b : Bool) → any_value (if b then c.bit ∷ compared order left cs else compared order left cs) bits ≡ (bit_value bits c.bit && b || list_any (λ (d : Candidate). bit_value bits d.bit && compares order left d.slot) cs)
    by_cases rest true = (λ i. sym (and_true (bit_value bits c.bit)) i || rest i)
    by_cases rest false = rest ∙ ap (λ v. v || list_any (λ (d : Candidate). bit_value bits d.bit && compares order left d.slot) cs) (sym (and_false (bit_value bits c.bit)))

compared_with : (order : Order) (left : ℕ) (right : List Candidate) (g : Formula) (parts : List Bit) (bit : Bit) → parts ≡ compared order left right → IsBitFor g (any_value parts) bit → HasValue (IsComparedWith order left right) g bit
compared_with order left right g parts bit e d = record {
  below = d.below;
  same = λ bits value met is. d.same bits met ∙ (ap (λ (ps : List Bit). any_value ps bits) e ∙ (compared_value bits order left right ∙ (is.stand (compares order left) ∙ sym is.is)));
}

pub compared_finds : (order : Order) (left : ℕ) (right : List Candidate) (f g : Formula) (parts : List Bit) (result : Result Bit Spent) → parts ≡ compared order left right → Defines f g result (any_value parts) → Finds (IsComparedWith order left right) f g result
compared_finds order left right f g parts (Ok bit) e d = record { extends = d.extends; answer = compared_with order left right g parts bit e d.answer }
compared_finds order left right f g parts (Err x) e d = record { extends = d.extends; answer = d.answer }

pub compared_next : (order : Order) (left : ℕ) (cs : List Candidate) (i : ℕ) (d : Candidate) (b : Bool) → i < length cs → compares order left (get_or cs i d).slot ≡ b → compared order left (take (i + 1) cs) ≡ (if b then compared order left (take i cs) ++ (get_or cs i d).bit ∷ [] else compared order left (take i cs))
compared_next order left cs i d b below is =
    ap (compared order left) (take_more cs i d below)
    ∙ (compared-push order left (take i cs) (get_or cs i d)
    ∙ (ap (λ v. compared order left (take i cs) ++ (if v then (get_or cs i d).bit ∷ [] else [])) is ∙ by_cases b))
  where
    by_cases : (v : Bool) → compared order left (take i cs) ++ (if v then (get_or cs i d).bit ∷ [] else []) ≡ (if v then compared order left (take i cs) ++ (get_or cs i d).bit ∷ [] else compared order left (take i cs))
    by_cases true = refl
    by_cases false = append-nil (compared order left (take i cs))

-- the bits of the candidates so far, each with how its slot compares
pub record AreCompared (order : Order) (left right : List Candidate) (bits values : List Bool) : Type 0 where
  pub element : ℕ
  pub stand : StandFor bits right element
  pub are : values ≡ map (λ (c : Candidate). bit_value bits c.bit && compares order c.slot element) left

-- a candidate's bit
abbrev pub IsBit : Bit → List Bool → Bool → Type 0
IsBit bit bits value = value ≡ bit_value bits bit

-- the bit of one candidate, with how its slot compares
pub record IsCompared (order : Order) (c : Candidate) (right : List Candidate) (bits : List Bool) (value : Bool) : Type 0 where
  pub element : ℕ
  pub stand : StandFor bits right element
  pub is : value ≡ (bit_value bits c.bit && compares order c.slot element)

or_none : (b : Bool) → (b || false) ≡ b
or_none true = refl
or_none false = refl

any_map : (bits : List Bool) (test : Candidate → Bool) (cs : List Candidate) → list_any (λ b. b) (map test cs) ≡ list_any test cs
any_map bits test [] = refl
any_map bits test (c ∷ cs) = ap (λ v. test c || v) (any_map bits test cs)

-- the bit of one candidate after its slot was compared
pub one_compared : (order : Order) (c : Candidate) (right : List Candidate) (f g : Formula) (answer bit : Bit) → IsBitBelow f.vars c.bit → HasValue (IsComparedWith order c.slot right) f answer → Extends f g → IsBitFor g (λ bits. all_value (c.bit ∷ answer ∷ []) bits) bit → HasValue (IsCompared order c right) g bit
one_compared order c right f g answer bit below h e d = record {
  below = d.below;
  same = λ bits value met is.
      d.same bits met
      ∙ (ap (λ v. bit_value bits c.bit && (v && true)) (h.same bits (compares order c.slot is.element) (e.keeps bits met) (record { element = is.element; stand = is.stand; is = refl }))
      ∙ (ap (λ v. bit_value bits c.bit && v) (and_true (compares order c.slot is.element)) ∙ sym is.is));
}

pub compared_none : (order : Order) (right : List Candidate) (f : Formula) → HaveValues (AreCompared order [] right) f []
compared_none order right f = have_none (AreCompared order [] right) f (λ bits values are. are.are)

pub compared_more : (order : Order) (left right : List Candidate) (i : ℕ) (d : Candidate) (f : Formula) (parts : List Bit) (bit : Bit) → i < length left → HaveValues (AreCompared order (take i left) right) f parts → HasValue (IsCompared order (get_or left i d) right) f bit → HaveValues (AreCompared order (take (i + 1) left) right) f (parts ++ bit ∷ [])
compared_more order left right i d f parts bit below h g =
    have_other (IsMore (AreCompared order (take i left) right) (IsCompared order (get_or left i d) right)) (AreCompared order (take (i + 1) left) right) f (parts ++ bit ∷ [])
    (λ bits values are.
    let test : Candidate → Bool = λ c. bit_value bits c.bit && compares order c.slot are.element in
    record {
      front = map test (take i left);
      last = test (get_or left i d);
      are = record { element = are.element; stand = are.stand; are = refl };
      is = record { element = are.element; stand = are.stand; is = refl };
      all = are.are ∙ (ap (map test) (take_more left i d below) ∙ map-append test (take i left) (get_or left i d ∷ []));
    })
    (have_more (AreCompared order (take i left) right) (IsCompared order (get_or left i d) right) f parts bit h g)

pub comparison_finds : (order : Order) (left right : List Candidate) (f g : Formula) (parts : List Bit) (result : Result Bit Spent) → HaveValues (AreCompared order left right) f parts → Defines f g result (any_value parts) → Finds (IsComparison order left right) f g result
comparison_finds order left right f g parts result h d =
    finds_any (AreCompared order left right) (IsComparison order left right) f g parts result
    (λ bits value is.
    let test : Candidate → Bool = λ c. bit_value bits c.bit && compares order c.slot is.second in
    record {
      values = map test left;
      are = record { element = is.second; stand = is.second_stands; are = refl };
      is = is.is ∙ sym (any_map bits test left ∙ is.first_stands (λ x. compares order x is.second));
    })
    h d
