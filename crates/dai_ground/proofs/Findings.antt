-- Composing what is known of bits.
use Rattle.std.proofs.Common.{◌≡◌, ◌+◌, length, get_or, take, ◌<◌, ◌≤◌, ◌&&◌, ◌||◌, ℕ, Bool, true, false, List, [], ◌∷◌, ◌++◌, map, refl, ap, sym, ◌∙◌, arith, Result, Ok, Err, rules}
use Rattle.std.specs.List.{list_all, list_any}
use Rattle.std.proofs.lemmas.List.{map-append, take_more}
use Rattle.dai_model.specs.Value.{agree}
use Rattle.std.proofs.lemmas.List.Elements.{All-push}
use Rattle.dai_base.specs.declared.memory.Spent.{Spent}
use Rattle.dai_trail.specs.Formula.{Formula}
use Rattle.dai_circuit.specs.declared.bit.Bit.{Bit}
use Rattle.dai_circuit.specs.declared.bit.Bit.TheVariants.{Known, Is}
use Rattle.dai_circuit.specs.Circuits.{bit_value, IsBitBelow, AreBitsBelow, Extends, IsBitFor, Defines, all_value, any_value, same_value}
use Rattle.dai_ground.specs.Findings.{HasValue, HaveValues, Finds, agreement_of}

pub extends_after : (a b c : Formula) → Extends a b → Extends b c → Extends a c
extends_after a b c f g = record {
  grows = let m = f.grows in let n = g.grows in omega arith;
  keeps = λ bits h. f.keeps bits (g.keeps bits h);
  completes = λ bits h.
      let one = f.completes bits h in
      let two = g.completes one.0 one.1 in
      (two.0, two.1, λ var l. two.2 var (let m = f.grows in omega arith) ∙ one.2 var l);
}

pub below_more : (m n : ℕ) (bit : Bit) → m ≤ n → IsBitBelow m bit → IsBitBelow n bit
below_more m n (Known value) le below = below
below_more m n (Is l) le below = omega arith

pub all_below_more : (m n : ℕ) (parts : List Bit) → m ≤ n → AreBitsBelow m parts → AreBitsBelow n parts
all_below_more m n parts le below = λ k d l. below_more m n _ le (below k d l)

pub has_kept : (V : List Bool → Bool → Type 0) (a b : Formula) (bit : Bit) → Extends a b → HasValue V a bit → HasValue V b bit
has_kept V a b bit e h = record { below = below_more a.vars b.vars bit e.grows h.below; same = λ bits value met is. h.same bits value (e.keeps bits met) is }

pub have_kept : (W : List Bool → List Bool → Type 0) (a b : Formula) (parts : List Bit) → Extends a b → HaveValues W a parts → HaveValues W b parts
have_kept W a b parts e h = record { below = all_below_more a.vars b.vars parts e.grows h.below; same = λ bits values met are. h.same bits values (e.keeps bits met) are }

pub has_other : (V Other : List Bool → Bool → Type 0) (f : Formula) (bit : Bit) → ((bits : List Bool) (value : Bool) → Other bits value → V bits value) → HasValue V f bit → HasValue Other f bit
has_other V Other f bit w h = record { below = h.below; same = λ bits value met is. h.same bits value met (w bits value is) }

pub have_other : (W Other : List Bool → List Bool → Type 0) (f : Formula) (parts : List Bit) → ((bits values : List Bool) → Other bits values → W bits values) → HaveValues W f parts → HaveValues Other f parts
have_other W Other f parts w h = record { below = h.below; same = λ bits values met are. h.same bits values met (w bits values are) }

pub have_none : (W : List Bool → List Bool → Type 0) (f : Formula) → ((bits values : List Bool) → W bits values → values ≡ []) → HaveValues W f []
have_none W f none = record { below = λ k d l. absurd (omega arith); same = λ bits values met are. sym (none bits values are) }

-- the values before the last, and the last
pub record IsMore (W : List Bool → List Bool → Type 0) (V : List Bool → Bool → Type 0) (bits values : List Bool) : Type 0 where
  pub front : List Bool
  pub last : Bool
  pub are : W bits front
  pub is : V bits last
  pub all : values ≡ front ++ last ∷ []

pub have_more : (W : List Bool → List Bool → Type 0) (V : List Bool → Bool → Type 0) (f : Formula) (parts : List Bit) (bit : Bit) → HaveValues W f parts → HasValue V f bit → HaveValues (IsMore W V) f (parts ++ bit ∷ [])
have_more W V f parts bit h g = record {
  below = All-push (IsBitBelow f.vars) parts bit h.below g.below;
  same = λ bits values met m. map-append (bit_value bits) parts (bit ∷ []) ∙ (λ i. h.same bits m.front met m.are i ++ g.same bits m.last met m.is i ∷ []) ∙ sym m.all;
}

list_all-map : (bits : List Bool) (parts : List Bit) → list_all (bit_value bits) parts ≡ list_all (λ b. b) (map (bit_value bits) parts)
list_all-map bits [] = refl
list_all-map bits (p ∷ ps) = ap (λ b. bit_value bits p && b) (list_all-map bits ps)

list_any-map : (bits : List Bool) (parts : List Bit) → list_any (bit_value bits) parts ≡ list_any (λ b. b) (map (bit_value bits) parts)
list_any-map bits [] = refl
list_any-map bits (p ∷ ps) = ap (λ b. bit_value bits p || b) (list_any-map bits ps)

-- the conjunction of values that a relation gives
pub record IsAll (W : List Bool → List Bool → Type 0) (bits : List Bool) (value : Bool) : Type 0 where
  pub values : List Bool
  pub are : W bits values
  pub is : value ≡ list_all (λ b. b) values

pub record IsAny (W : List Bool → List Bool → Type 0) (bits : List Bool) (value : Bool) : Type 0 where
  pub values : List Bool
  pub are : W bits values
  pub is : value ≡ list_any (λ b. b) values

for_all : (W : List Bool → List Bool → Type 0) (f g : Formula) (parts : List Bit) (bit : Bit) → HaveValues W f parts → Extends f g → IsBitFor g (all_value parts) bit → HasValue (IsAll W) g bit
for_all W f g parts bit h e d = record {
  below = d.below;
  same = λ bits value met is. d.same bits met ∙ (list_all-map bits parts ∙ (ap (list_all (λ b. b)) (h.same bits is.values (e.keeps bits met) is.are) ∙ sym is.is));
}

for_any : (W : List Bool → List Bool → Type 0) (f g : Formula) (parts : List Bit) (bit : Bit) → HaveValues W f parts → Extends f g → IsBitFor g (any_value parts) bit → HasValue (IsAny W) g bit
for_any W f g parts bit h e d = record {
  below = d.below;
  same = λ bits value met is. d.same bits met ∙ (list_any-map bits parts ∙ (ap (list_any (λ b. b)) (h.same bits is.values (e.keeps bits met) is.are) ∙ sym is.is));
}

pub finds_all : (W : List Bool → List Bool → Type 0) (V : List Bool → Bool → Type 0) (f g : Formula) (parts : List Bit) (result : Result Bit Spent) → ((bits : List Bool) (value : Bool) → V bits value → IsAll W bits value) → HaveValues W f parts → Defines f g result (all_value parts) → Finds V f g result
finds_all W V f g parts (Ok bit) w h d = record { extends = d.extends; answer = has_other (IsAll W) V g bit w (for_all W f g parts bit h d.extends d.answer) }
finds_all W V f g parts (Err e) w h d = record { extends = d.extends; answer = d.answer }

pub finds_any : (W : List Bool → List Bool → Type 0) (V : List Bool → Bool → Type 0) (f g : Formula) (parts : List Bit) (result : Result Bit Spent) → ((bits : List Bool) (value : Bool) → V bits value → IsAny W bits value) → HaveValues W f parts → Defines f g result (any_value parts) → Finds V f g result
finds_any W V f g parts (Ok bit) w h d = record { extends = d.extends; answer = has_other (IsAny W) V g bit w (for_any W f g parts bit h d.extends d.answer) }
finds_any W V f g parts (Err e) w h d = record { extends = d.extends; answer = d.answer }

pub finds_after : (V : List Bool → Bool → Type 0) (a f g : Formula) (result : Result Bit Spent) → Extends a f → Finds V f g result → Finds V a g result
finds_after V a f g result e h = record { extends = extends_after a f g e h.extends; answer = h.answer }

pub finds_nothing : (V : List Bool → Bool → Type 0) (a g : Formula) (e : Spent) → Extends a g → Finds V a g (Err e)
finds_nothing V a g e h = record { extends = h; answer = search rules }

-- two bits
pub record AreTwo (First Second : List Bool → Bool → Type 0) (bits values : List Bool) : Type 0 where
  pub first : Bool
  pub second : Bool
  pub is_first : First bits first
  pub is_second : Second bits second
  pub are : values ≡ first ∷ second ∷ []

pub have_two : (First Second : List Bool → Bool → Type 0) (f : Formula) (a b : Bit) → HasValue First f a → HasValue Second f b → HaveValues (AreTwo First Second) f (a ∷ b ∷ [])
have_two First Second f a b g h = record {
  below = All-push (IsBitBelow f.vars) (a ∷ []) b (All-push (IsBitBelow f.vars) [] a (λ k d l. absurd (omega arith)) g.below) h.below;
  same = λ bits values met m. (λ i. g.same bits m.first met m.is_first i ∷ h.same bits m.second met m.is_second i ∷ []) ∙ sym m.are;
}

pub finds_other : (V Other : List Bool → Bool → Type 0) (f g : Formula) (result : Result Bit Spent) → ((bits : List Bool) (value : Bool) → Other bits value → V bits value) → Finds V f g result → Finds Other f g result
finds_other V Other f g (Ok bit) w h = record { extends = h.extends; answer = has_other V Other g bit w h.answer }
finds_other V Other f g (Err e) w h = record { extends = h.extends; answer = h.answer }

agree_more : (x even b : Bool) → agree x (same_value even b) ≡ same_value (agree x even) b
agree_more true even b = refl
agree_more false true b = refl
agree_more false false true = refl
agree_more false false false = refl

same_self : (b : Bool) → agree b true ≡ same_value true b
same_self true = refl
same_self false = refl

agreement-push : (values : List Bool) (b : Bool) → agreement_of (values ++ b ∷ []) ≡ same_value (agreement_of values) b
agreement-push [] b = same_self b
agreement-push (v ∷ vs) b = ap (agree v) (agreement-push vs b) ∙ agree_more v (agreement_of vs) b

pub agreement_more : (parts : List Bit) (i : ℕ) (d : Bit) (bits : List Bool) → i < length parts → agreement_of (map (bit_value bits) (take (i + 1) parts)) ≡ same_value (agreement_of (map (bit_value bits) (take i parts))) (bit_value bits (get_or parts i d))
agreement_more parts i d bits below =
    ap (λ (ps : List Bit). agreement_of (map (bit_value bits) ps)) (take_more parts i d below)
    ∙ (ap agreement_of (map-append (bit_value bits) (take i parts) (get_or parts i d ∷ [])) ∙ agreement-push (map (bit_value bits) (take i parts)) (bit_value bits (get_or parts i d)))

pub agreement_bit : (parts : List Bit) (i : ℕ) (d : Bit) (f g : Formula) (even bit : Bit) → i < length parts → IsBitFor f (λ bits. agreement_of (map (bit_value bits) (take i parts))) even → Extends f g → IsBitFor g (λ bits. same_value (bit_value bits even) (bit_value bits (get_or parts i d))) bit → IsBitFor g (λ bits. agreement_of (map (bit_value bits) (take (i + 1) parts))) bit
agreement_bit parts i d f g even bit below h e s = record {
  below = s.below;
  same = λ bits met. s.same bits met ∙ (ap (λ v. same_value v (bit_value bits (get_or parts i d))) (h.same bits (e.keeps bits met)) ∙ sym (agreement_more parts i d bits below));
}

-- whether an even number of values that a relation gives is false
pub record IsAgreement (W : List Bool → List Bool → Type 0) (bits : List Bool) (value : Bool) : Type 0 where
  pub values : List Bool
  pub are : W bits values
  pub is : value ≡ agreement_of values

for_agreement : (W : List Bool → List Bool → Type 0) (f g : Formula) (parts : List Bit) (bit : Bit) → HaveValues W f parts → Extends f g → IsBitFor g (λ bits. agreement_of (map (bit_value bits) parts)) bit → HasValue (IsAgreement W) g bit
for_agreement W f g parts bit h e d = record {
  below = d.below;
  same = λ bits value met is. d.same bits met ∙ (ap agreement_of (h.same bits is.values (e.keeps bits met) is.are) ∙ sym is.is);
}

pub finds_agree : (W : List Bool → List Bool → Type 0) (V : List Bool → Bool → Type 0) (f g : Formula) (parts : List Bit) (result : Result Bit Spent) → ((bits : List Bool) (value : Bool) → V bits value → IsAgreement W bits value) → HaveValues W f parts → Defines f g result (λ bits. agreement_of (map (bit_value bits) parts)) → Finds V f g result
finds_agree W V f g parts (Ok bit) w h d = record { extends = d.extends; answer = has_other (IsAgreement W) V g bit w (for_agreement W f g parts bit h d.extends d.answer) }
finds_agree W V f g parts (Err e) w h d = record { extends = d.extends; answer = d.answer }
