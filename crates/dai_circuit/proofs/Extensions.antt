use Rattle.std.proofs.Common.{◌≡◌, ◌+◌, ◌<◌, ℕ, zero, suc, Bool, true, false, ◌&&◌, List, [], ◌∷◌, ◌++◌, length, refl, ap, sym, ◌∙◌, subst, arith, inl, inr, Result, Ok, Err, not}
use Rattle.std.specs.Prelude.{OnOk, OnErr}
use Rattle.std.specs.List.{list_any}
use Rattle.std.proofs.lemmas.Bool.{cases_lt}
use Rattle.std.proofs.lemmas.List.{get_or_append_left, get_or_push, length_push}
use Rattle.std.proofs.lemmas.List.Elements.{All-head, All-tail, All-push}
use Rattle.dai_base.specs.declared.memory.Spent.{Spent}
use Rattle.dai_trail.specs.declared.cnf.Lit.{Lit}
use Rattle.dai_trail.specs.Formula.{Formula, IsBelow, IsMetBy, AreMetBy, value_at, formula_of}
use Rattle.dai_circuit.specs.declared.bit.Bit.{Bit}
use Rattle.dai_circuit.specs.declared.bit.Bit.TheVariants.{Known, Is}
use Rattle.dai_circuit.specs.Circuits.{same_value, lit_value, bit_value, negation_of, signed, variable, IsBitBelow, IsOver, Extends, Defines, Adds, Requires, all_true, any_value}
use Rattle.dai_circuit.proofs.Values.{value_met, met_value, value-negation, below-negation, value-signed, below-signed, same_value-comm}

-- one more clause
abbrev pub pushed : Formula → List Lit → Formula
pushed f clause = formula_of f.vars (f.clauses ++ clause ∷ [])

-- one more variable
abbrev pub grown : Formula → Formula
grown f = formula_of (f.vars + 1) f.clauses

pub met_before : (f : Formula) (clause : List Lit) (bits : List Bool) → AreMetBy (pushed f clause) bits → AreMetBy f bits
met_before f clause bits h = λ k d l.
    let P : List Lit → Type 0 = λ c. IsMetBy c bits in
    let len = length_push f.clauses clause in
    subst P (get_or_append_left f.clauses (clause ∷ []) d k l) (h k d (omega arith))

pub met_last : (f : Formula) (clause : List Lit) (bits : List Bool) → AreMetBy (pushed f clause) bits → list_any (lit_value bits) clause ≡ true
met_last f clause bits h =
    let P : List Lit → Type 0 = λ c. IsMetBy c bits in
    let len = length_push f.clauses clause in
    met_value bits clause (subst P (get_or_push f.clauses clause clause (length f.clauses) refl) (h (length f.clauses) clause (omega arith)))

pub met_push : (f : Formula) (clause : List Lit) (bits : List Bool) → AreMetBy f bits → list_any (lit_value bits) clause ≡ true → AreMetBy (pushed f clause) bits
met_push f clause bits h v = All-push (λ c. IsMetBy c bits) f.clauses clause h (value_met bits clause v)

pub adds_none : (f : Formula) (C : List Bool → Type 0) → Adds f f C
adds_none f C = record { vars = refl; keeps = λ bits h. h; admits = λ bits h c. h }

pub adds_clause : (f : Formula) (clause : List Lit) (C : List Bool → Type 0) → ((bits : List Bool) → C bits → list_any (lit_value bits) clause ≡ true) → Adds f (pushed f clause) C
adds_clause f clause C met = record {
  vars = refl;
  keeps = λ bits h. met_before f clause bits h;
  admits = λ bits h c. met_push f clause bits h (met bits c);
}

pub adds_after : (a b c : Formula) (C : List Bool → Type 0) → Adds a b C → Adds b c C → Adds a c C
adds_after a b c C f g = record {
  vars = g.vars ∙ f.vars;
  keeps = λ bits h. f.keeps bits (g.keeps bits h);
  admits = λ bits h k. g.admits bits (f.admits bits h k) k;
}

pub adds_weaker : (a b : Formula) (C D : List Bool → Type 0) → ((bits : List Bool) → D bits → C bits) → Adds a b C → Adds a b D
adds_weaker a b C D w f = record {
  vars = f.vars;
  keeps = f.keeps;
  admits = λ bits h d. f.admits bits h (w bits d);
}

-- two assignments have the same values below a count
abbrev pub AgreeBelow : ℕ → List Bool → List Bool → Type 0
AgreeBelow count more bits = (var : ℕ) → var < count → value_at more var ≡ value_at bits var

-- a function reads variables below a count alone
abbrev pub IsLocal : ℕ → (List Bool → Bool) → Type 0
IsLocal count value = (bits more : List Bool) → AgreeBelow count more bits → value more ≡ value bits

pub met_agreeing : (f : Formula) (bits more : List Bool) → IsOver f → AgreeBelow f.vars more bits → AreMetBy f bits → AreMetBy f more
met_agreeing f bits more over agree met = λ k d l.
    let w = met k d l in
    let P : Lit → Type 0 = λ x. x.var < f.vars in
    let below : w.1.var < f.vars = subst P w.3 (over k d l w.0 w.1 w.2) in
    (w.0, w.1, w.2, w.3, agree w.1.var below ∙ w.4)

-- the values below a count
first : List Bool → ℕ → List Bool
first bits zero = []
first bits (suc n) = first bits n ++ value_at bits n ∷ []

length-first : (bits : List Bool) (n : ℕ) → length (first bits n) ≡ n
unfolding first
length-first bits zero = refl
length-first bits (suc n) =
    let rest = length-first bits n in
    let len = length_push (first bits n) (value_at bits n) in
    omega arith

first_at : (bits : List Bool) (n : ℕ) → AgreeBelow n (first bits n) bits
unfolding first
first_at bits zero var l = absurd (omega arith)
first_at bits (suc n) var l =
    let len = length-first bits n in
    elim (cases_lt var n) [
      | inl low ↦
          let in' : var < length (first bits n) = omega arith in
          get_or_append_left (first bits n) (value_at bits n ∷ []) false var in' ∙ first_at bits n var low
      | inr high ↦
          let at : var ≡ n = omega arith in
          let at' : length (first bits n) ≡ var = omega arith in
          get_or_push (first bits n) (value_at bits n) false var at' ∙ ap (value_at bits) (sym at)
    ]

-- the values below a count, and one more
with_next : List Bool → ℕ → Bool → List Bool
with_next bits n value = first bits n ++ value ∷ []

next_low : (bits : List Bool) (n : ℕ) (value : Bool) → AgreeBelow n (with_next bits n value) bits
unfolding with_next
next_low bits n value = λ var l.
    let len = length-first bits n in
    let in' : var < length (first bits n) = omega arith in
    get_or_append_left (first bits n) (value ∷ []) false var in' ∙ first_at bits n var l

next_at : (bits : List Bool) (n : ℕ) (value : Bool) → value_at (with_next bits n value) n ≡ value
unfolding with_next
next_at bits n value = get_or_push (first bits n) value false n (length-first bits n)

pub extends_self : (f : Formula) → Extends f f
extends_self f = record { grows = omega arith; keeps = λ bits h. h; completes = λ bits h. (bits, h, λ var l. refl) }

-- a new variable with clauses that are met wherever it has the value of a function of the old ones
pub extends_adds : (old new : Formula) (value : List Bool → Bool) → IsOver old → IsLocal old.vars value → Adds (grown old) new (λ bits. value_at bits old.vars ≡ value bits) → Extends old new
extends_adds old new value over local adds = record {
  grows = let e = adds.vars in omega arith;
  keeps = λ bits h. adds.keeps bits h;
  completes = λ bits h.
      let more = with_next bits old.vars (value bits) in
      let agree = next_low bits old.vars (value bits) in
      let met : AreMetBy old more = met_agreeing old bits more over agree h in
      let is : value_at more old.vars ≡ value more = next_at bits old.vars (value bits) ∙ sym (local bits more agree) in
      (more, adds.admits more met is, agree);
}

pub extends_grown : (old : Formula) → IsOver old → Extends old (grown old)
extends_grown old over =
    extends_adds old (grown old) (λ bits. false) over (λ bits more agree. refl) (adds_none (grown old) (λ bits. value_at bits old.vars ≡ false))

pub all_true-local : (count : ℕ) (lits : List Lit) → IsBelow count lits → IsLocal count (all_true lits)
all_true-local count [] below = λ bits more agree. refl
all_true-local count (l ∷ lits) below = λ bits more agree.
    let P : Lit → Type 0 = λ x. x.var < count in
    let e = agree l.var (All-head P l lits below) in
    let rest = all_true-local count lits (All-tail P l lits below) bits more agree in
    λ i. same_value l.positive (e i) && rest i

pub same-local : (count : ℕ) (first second : Lit) → first.var < count → second.var < count → IsLocal count (λ bits. same_value (lit_value bits first) (lit_value bits second))
same-local count first second f s = λ bits more agree.
    let e = agree first.var f in
    let g = agree second.var s in
    λ i. same_value (same_value first.positive (e i)) (same_value second.positive (g i))

pub defines_old : (f : Formula) (bit : Bit) (value : List Bool → Bool) → IsBitBelow f.vars bit → ((bits : List Bool) → bit_value bits bit ≡ value bits) → Defines f f (Ok bit) value
defines_old f bit value below same = record {
  extends = extends_self f;
  answer = record { below = below; same = λ bits h. same bits };
}

pub defines_new : (old new : Formula) (value : List Bool → Bool) → IsOver old → IsLocal old.vars value → Adds (grown old) new (λ bits. value_at bits old.vars ≡ value bits) → ((bits : List Bool) → AreMetBy new bits → value_at bits old.vars ≡ value bits) → Defines old new (Ok (Is (variable old.vars))) value
defines_new old new value over local adds same = record {
  extends = extends_adds old new value over local adds;
  answer = record { below = let e = adds.vars in omega arith; same = same };
}

pub defines_none : (old new : Formula) (e : Spent) (value : List Bool → Bool) → Extends old new → Defines old new (Err e) value
defines_none old new e value extends = record { extends = extends; answer = tt }

pub defines_same : (old new : Formula) (result : Result Bit Spent) (value other : List Bool → Bool) → ((bits : List Bool) → value bits ≡ other bits) → Defines old new result value → Defines old new result other
defines_same old new (Ok bit) value other e d = record {
  extends = d.extends;
  answer = record { below = d.answer.below; same = λ bits h. d.answer.same bits h ∙ e bits };
}
defines_same old new (Err e') value other e d = record { extends = d.extends; answer = tt }

-- the call that adds a clause, or finds no memory
pub adds_by : {V E : Type 0} (f g : Formula) (clause : List Lit) (result : Result V E) (C : List Bool → Type 0) → OnOk result (g ≡ pushed f clause) → OnErr result (g ≡ f) → ((bits : List Bool) → C bits → list_any (lit_value bits) clause ≡ true) → Adds f g C
adds_by f g clause (Ok v) C ok err met = subst (λ x. Adds f x C) (sym ok) (adds_clause f clause C met)
adds_by f g clause (Err e) C ok err met = subst (λ x. Adds f x C) (sym err) (adds_none f C)

pub last_met : (f g : Formula) (clause : List Lit) (bits : List Bool) → g ≡ pushed f clause → AreMetBy g bits → list_any (lit_value bits) clause ≡ true
last_met f g clause bits e h = met_last f clause bits (subst (λ x. AreMetBy x bits) e h)

pub below_grown : (f g : Formula) (lits : List Lit) → g ≡ grown f → IsBelow f.vars lits → IsBelow g.vars lits
below_grown f g lits e below = λ k d l. let b = below k d l in let v = ap (λ x. x.vars) e in omega arith

-- the first variable after the old ones, tied by clauses
pub extends_tied : (old mid new : Formula) (var : ℕ) (value : List Bool → Bool) → IsOver old → IsLocal old.vars value → mid ≡ grown old → var ≡ old.vars → Adds mid new (λ bits. value_at bits var ≡ value bits) → Extends old new
extends_tied old mid new var value over local e v adds =
    let P : ℕ → Type 0 = λ u. Adds mid new (λ bits. value_at bits u ≡ value bits) in
    let Q : Formula → Type 0 = λ x. Adds x new (λ bits. value_at bits old.vars ≡ value bits) in
    extends_adds old new value over local (subst Q e (subst P v adds))

pub defines_tied : (old mid new : Formula) (var : ℕ) (value : List Bool → Bool) → IsOver old → IsLocal old.vars value → mid ≡ grown old → var ≡ old.vars → Adds mid new (λ bits. value_at bits var ≡ value bits) → ((bits : List Bool) → AreMetBy new bits → value_at bits var ≡ value bits) → Defines old new (Ok (Is (variable var))) value
defines_tied old mid new var value over local e v adds same = record {
  extends = extends_tied old mid new var value over local e v adds;
  answer = record {
    below = let a = adds.vars in let m = ap (λ x. x.vars) e in omega arith;
    same = same;
  };
}

pub extends_equal : (old new : Formula) → new ≡ old → Extends old new
extends_equal old new e = subst (λ x. Extends old x) (sym e) (extends_self old)

pub extends_input : (old new : Formula) → IsOver old → new ≡ grown old → Extends old new
extends_input old new over e = subst (λ x. Extends old x) (sym e) (extends_grown old over)

-- the bit of a definition, negated
pub defines_negation : (old new : Formula) (bit : Bit) (value other : List Bool → Bool) → ((bits : List Bool) → not (value bits) ≡ other bits) → Defines old new (Ok bit) value → Defines old new (Ok (negation_of bit)) other
defines_negation old new bit value other e d = record {
  extends = d.extends;
  answer = record {
    below = below-negation new.vars bit d.answer.below;
    same = λ bits h. value-negation bits bit ∙ ap not (d.answer.same bits h) ∙ e bits;
  };
}

pub requires_push : (f g : Formula) (clause : List Lit) (parts : List Bit) → g ≡ pushed f clause → ((bits : List Bool) → list_any (lit_value bits) clause ≡ any_value parts bits) → Requires f g parts
requires_push f g clause parts e same = subst (λ x. Requires f x parts) (sym e) record {
  vars = refl;
  keeps = λ bits h. met_before f clause bits h;
  some = λ bits h. sym (same bits) ∙ met_last f clause bits h;
  admits = λ bits h any. met_push f clause bits h (same bits ∙ any);
}

pub requires_none : (f : Formula) (parts : List Bit) → ((bits : List Bool) → any_value parts bits ≡ true) → Requires f f parts
requires_none f parts any = record { vars = refl; keeps = λ bits h. h; some = λ bits h. any bits; admits = λ bits h a. h }

-- an equivalence with a known bit, and one with a literal
pub same_first_known : (f : Formula) (first second bit : Bit) (value : Bool) → first ≡ Known value → bit ≡ signed value second → IsBitBelow f.vars second → Defines f f (Ok bit) (λ bits. same_value (bit_value bits first) (bit_value bits second))
same_first_known f first second bit value e b below =
    defines_old f bit (λ bits. same_value (bit_value bits first) (bit_value bits second))
    (subst (IsBitBelow f.vars) (sym b) (below-signed f.vars value second below))
    (λ bits. ap (bit_value bits) b ∙ value-signed bits value second ∙ ap (λ x. same_value (bit_value bits x) (bit_value bits second)) (sym e))

pub same_second_known : (f : Formula) (first : Lit) (second bit : Bit) (value : Bool) → second ≡ Known value → bit ≡ signed value (Is first) → first.var < f.vars → Defines f f (Ok bit) (λ bits. same_value (lit_value bits first) (bit_value bits second))
same_second_known f first second bit value e b below =
    defines_old f bit (λ bits. same_value (lit_value bits first) (bit_value bits second))
    (subst (IsBitBelow f.vars) (sym b) (below-signed f.vars value (Is first) below))
    (λ bits. ap (bit_value bits) b ∙ value-signed bits value (Is first) ∙ same_value-comm value (lit_value bits first) ∙ ap (λ x. same_value (lit_value bits first) (bit_value bits x)) (sym e))

pub same_first_is : (f g : Formula) (result : Result Bit Spent) (first second : Bit) (lit : Lit) → first ≡ Is lit → Defines f g result (λ bits. same_value (lit_value bits lit) (bit_value bits second)) → Defines f g result (λ bits. same_value (bit_value bits first) (bit_value bits second))
same_first_is f g result first second lit e d =
    defines_same f g result (λ bits. same_value (lit_value bits lit) (bit_value bits second)) (λ bits. same_value (bit_value bits first) (bit_value bits second))
    (λ bits. ap (λ x. same_value (bit_value bits x) (bit_value bits second)) (sym e)) d

pub same_second_is : (f g : Formula) (result : Result Bit Spent) (first : Lit) (second : Bit) (lit : Lit) → second ≡ Is lit → Defines f g result (λ bits. same_value (lit_value bits first) (lit_value bits lit)) → Defines f g result (λ bits. same_value (lit_value bits first) (bit_value bits second))
same_second_is f g result first second lit e d =
    defines_same f g result (λ bits. same_value (lit_value bits first) (lit_value bits lit)) (λ bits. same_value (lit_value bits first) (bit_value bits second))
    (λ bits. ap (λ x. same_value (lit_value bits first) (bit_value bits x)) (sym e)) d
