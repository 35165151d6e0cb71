-- Clauses that only such structures are shown.
use Rattle.std.proofs.Common.{◌≡◌, ◌+◌, ◌<◌, ◌≤◌, ◌||◌, ℕ, Bool, true, false, List, [], ◌∷◌, length, get_or, take, replicate, refl, ap, sym, ◌∙◌, subst, arith, Option, Some, None, slice_get, ◌⊎◌, inl, inr, rules}
use Rattle.std.specs.List.{All}
use Rattle.std.proofs.lemmas.Bool.{cases_lt}
use Rattle.std.proofs.lemmas.List.{length-replicate, get_or-replicate, get_or_past, take_more, length-take-le, get_or-take}
use Rattle.std.proofs.lemmas.List.Elements.{All-push}
use Rattle.dai_model.specs.Formula as Model
use Rattle.dai_model.specs.Protocol.{Protocol}
use Rattle.dai_model.specs.Structure.{Structure}
use Rattle.dai_model.specs.Value.{value_of, empty_environment, Satisfies}
use Rattle.dai_model.specs.WellSorted.{IsWellSorted, closed_scope}
use Rattle.dai_model.proofs.Typed.{slice_get-length}
use Rattle.dai_trail.specs.Formula.{Formula, AreMetBy}
use Rattle.dai_circuit.specs.declared.bit.Bit.{Bit}
use Rattle.dai_circuit.specs.Circuits.{bit_value, signed, Extends, Requires, same_value}
use Rattle.dai_circuit.proofs.Values.{value-signed}
use Rattle.dai_picture.specs.declared.picture.Frame.{Frame}
use Rattle.dai_picture.specs.declared.picture.Picture.{Picture}
use Rattle.dai_picture.specs.Pictures.{Shows}
use Rattle.dai_picture.proofs.SameWorld.{shows_kept}
use Rattle.dai_ground.specs.Findings.{HasValue}
use Rattle.dai_ground.specs.Grounding.{IsFormulaIn, IsValue, Sees, environment}
use Rattle.dai_ground.specs.Asking.{RestrictsTo, HasTruth, IsScene, IsBroken, IsClosed}
use Rattle.dai_ground.proofs.FormulaBits.{rows_kept}

zeros_at : (n v : ℕ) → (v < n) ⊎ (n ≤ v) → get_or (replicate {A = ℕ} n 0) v 0 ≡ 0
zeros_at n v (inl below) = get_or-replicate n v 0 0 below
zeros_at n v (inr past) = get_or_past (replicate {A = ℕ} n 0) v 0 (let e = length-replicate {A = ℕ} n 0 in omega arith)

pub environment_is_empty : environment (replicate 256 0) [] [] ≡ empty_environment
environment_is_empty = λ i. record { variables = λ v. zeros_at 256 v (cases_lt v 256) i; parameters = []; choices = [] }

pub scene_kept : (P : Protocol) (frame : Frame) (picture : Picture) (m n : ℕ) → m ≤ n → IsScene P frame picture m → IsScene P frame picture n
scene_kept P frame picture m n le h = record {
  parameters = h.parameters;
  choices = h.choices;
  drawn = record {
    one_each = h.drawn.one_each;
    inhabited = h.drawn.inhabited;
    used = rows_kept m n _ _ le h.drawn.used;
    named = rows_kept m n _ _ le h.drawn.named;
    chosen = rows_kept m n _ _ le h.drawn.chosen;
  };
  pictured = record { tables = rows_kept m n _ _ le h.pictured.tables; values = rows_kept m n _ _ le h.pictured.values };
}

none_in : (xs : List ℕ) (p sort : ℕ) → xs ≡ [] → slice_get xs p ≡ Some sort → ⊥
none_in xs p sort e is =
    let below = slice_get-length xs p sort is in
    let none = ap length e in
    omega arith

-- a closed formula may be grounded
pub closed_in : (P : Protocol) (frame : Frame) (picture : Picture) (count : ℕ) (f : Model.Formula) → IsScene P frame picture count → IsWellSorted P closed_scope f → IsFormulaIn P frame picture count (replicate 256 0) f
closed_in P frame picture count f h sorted = record {
  scope = closed_scope;
  placed = record {
    parameters = h.parameters;
    choices = h.choices;
    drawn = h.drawn;
    pictured = h.pictured;
    named = λ p sort is. absurd (none_in [] p sort refl is);
    chosen = λ p sort is. absurd (none_in [] p sort refl is);
    bound = λ v sort is. absurd (let k : ⊥ = cc in k);
  };
  sorted = sorted;
}

sees_closed : (P : Protocol) (frame : Frame) (picture : Picture) (bits : List Bool) (s : Structure) → Shows P frame picture bits s → Sees P frame picture bits closed_scope s (environment (replicate 256 0) [] [])
sees_closed P frame picture bits s shows = record {
  shows = shows;
  parameters = λ p sort is. absurd (none_in [] p sort refl is);
  choices = λ p sort is. absurd (none_in [] p sort refl is);
  fits = record {
    variables = λ v sort is. absurd (let k : ⊥ = cc in k);
    parameters = λ p sort is. absurd (none_in [] p sort refl is);
    choices = λ p sort is. absurd (none_in [] p sort refl is);
  };
}

-- the bit of a closed formula has its value in what is shown
pub closed_value : (P : Protocol) (frame : Frame) (picture : Picture) (f : Model.Formula) (g : Formula) (bit : Bit) (bits : List Bool) (s : Structure) → IsWellSorted P closed_scope f → HasValue (IsValue P frame picture (replicate 256 0) f) g bit → AreMetBy g bits → Shows P frame picture bits s → bit_value bits bit ≡ value_of s empty_environment f
closed_value P frame picture f g bit bits s sorted h met shows =
    h.same bits (value_of s (environment (replicate 256 0) [] []) f) met (record { scope = closed_scope; structure = s; arguments = []; choices = []; sorted = sorted; sees = sees_closed P frame picture bits s shows; is = refl })
    ∙ ap (λ env. value_of s env f) environment_is_empty

same_true : (a b : Bool) → same_value a b ≡ true → b ≡ a
same_true true true h = refl
same_true true false h = absurd (let k : ⊥ = cc in k)
same_true false true h = absurd (let k : ⊥ = cc in k)
same_true false false h = refl

true_same : (a b : Bool) → b ≡ a → same_value a b ≡ true
true_same true true h = refl
true_same true false h = absurd (let k : ⊥ = cc in k)
true_same false true h = absurd (let k : ⊥ = cc in k)
true_same false false h = refl

or_none : (b : Bool) → (b || false) ≡ b
or_none true = refl
or_none false = refl

pub restricts_value : (P : Protocol) (frame : Frame) (picture : Picture) (f : Model.Formula) (value : Bool) (old mid new : Formula) (bit wanted : Bit) → IsScene P frame picture old.vars → IsWellSorted P closed_scope f → wanted ≡ signed value bit → Extends old mid → HasValue (IsValue P frame picture (replicate 256 0) f) mid bit → Requires mid new (wanted ∷ []) → RestrictsTo P frame picture (HasTruth f value) old new
restricts_value P frame picture f value old mid new bit wanted scene sorted is e h r = record {
  grows = let m = e.grows in let n = r.vars in omega arith;
  keeps = λ bits met. e.keeps bits (r.keeps bits met);
  holds = λ bits met s shows.
      let before = r.keeps bits met in
      let true' : bit_value bits wanted ≡ true = sym (or_none (bit_value bits wanted)) ∙ r.some bits met in
      sym (closed_value P frame picture f mid bit bits s sorted h before shows)
      ∙ same_true value (bit_value bits bit) (sym (value-signed bits value bit) ∙ (ap (bit_value bits) (sym is) ∙ true'));
  completes = λ bits met given.
      let one = e.completes bits met in
      let shows = shows_kept P scene.parameters scene.choices old.vars frame picture bits one.0 given.0 scene.drawn scene.pictured one.2 given.1 in
      let there = closed_value P frame picture f mid bit one.0 given.0 sorted h one.1 shows ∙ given.2 in
      let true' : bit_value one.0 wanted ≡ true = ap (bit_value one.0) is ∙ (value-signed one.0 value bit ∙ true_same value (bit_value one.0 bit) there) in
      (one.0, r.admits one.0 one.1 (or_none (bit_value one.0 wanted) ∙ true'), one.2);
}

-- first the one, then the other
pub restricts_both : (P : Protocol) (frame : Frame) (picture : Picture) (Is Are : Structure → Type 0) (a b c : Formula) → IsScene P frame picture a.vars → RestrictsTo P frame picture Is a b → RestrictsTo P frame picture Are b c → RestrictsTo P frame picture (λ s. Is s × Are s) a c
restricts_both P frame picture Is Are a b c scene f g = record {
  grows = let m = f.grows in let n = g.grows in omega arith;
  keeps = λ bits met. f.keeps bits (g.keeps bits met);
  holds = λ bits met s shows. (f.holds bits (g.keeps bits met) s shows, g.holds bits met s shows);
  completes = λ bits met given.
      let one = f.completes bits met (given.0, given.1, given.2.0) in
      let shows = shows_kept P scene.parameters scene.choices a.vars frame picture bits one.0 given.0 scene.drawn scene.pictured one.2 given.1 in
      let two = g.completes one.0 one.1 (given.0, shows, given.2.1) in
      (two.0, two.1, λ var l. two.2 var (let m = f.grows in omega arith) ∙ one.2 var l);
}

pub restricts_as : (P : Protocol) (frame : Frame) (picture : Picture) (Is Are : Structure → Type 0) (a b : Formula) → ((s : Structure) → Is s → Are s) → ((s : Structure) → Are s → Is s) → RestrictsTo P frame picture Is a b → RestrictsTo P frame picture Are a b
restricts_as P frame picture Is Are a b to from f = record {
  grows = f.grows;
  keeps = f.keeps;
  holds = λ bits met s shows. to s (f.holds bits met s shows);
  completes = λ bits met given. f.completes bits met (given.0, given.1, from given.0 given.2);
}

pub restricts_none : (P : Protocol) (frame : Frame) (picture : Picture) (Is : Structure → Type 0) (a : Formula) → ((s : Structure) → Is s) → RestrictsTo P frame picture Is a a
restricts_none P frame picture Is a all = record {
  grows = omega arith;
  keeps = λ bits met. met;
  holds = λ bits met s shows. all s;
  completes = λ bits met given. (bits, met, λ var l. refl);
}

all_take : {X : Type 0} (Q : X → Type 0) (xs : List X) (i : ℕ) (d : X) → i < length xs → All Q (take (i + 1) xs) → All Q (take i xs) × Q (get_or xs i d)
all_take Q xs i d below all =
    let longer : length (take (i + 1) xs) ≡ i + 1 = length-take-le (i + 1) xs (omega arith) in
    let shorter : length (take i xs) ≡ i = length-take-le i xs (omega arith) in
    ((λ k e l. subst Q (get_or-take (i + 1) xs k e (omega arith) ∙ sym (get_or-take i xs k e (omega arith))) (all k e (omega arith))), subst Q (get_or-take (i + 1) xs i d (omega arith)) (all i d (omega arith)))

pub formulas_more : (P : Protocol) (frame : Frame) (picture : Picture) (fs : List Model.Formula) (i : ℕ) (d : Model.Formula) (a b c : Formula) → i < length fs → IsScene P frame picture a.vars → RestrictsTo P frame picture (λ s. All (Satisfies s) (take i fs)) a b → RestrictsTo P frame picture (HasTruth (get_or fs i d) true) b c → RestrictsTo P frame picture (λ s. All (Satisfies s) (take (i + 1) fs)) a c
formulas_more P frame picture fs i d a b c below scene f g =
    restricts_as P frame picture (λ s. All (Satisfies s) (take i fs) × HasTruth (get_or fs i d) true s) (λ s. All (Satisfies s) (take (i + 1) fs)) a c
    (λ s both. subst (All (Satisfies s)) (sym (take_more fs i d below)) (All-push (Satisfies s) (take i fs) (get_or fs i d) both.0 (search (rules, both.1))))
    (λ s all. let both = all_take (Satisfies s) fs i d below all in (both.0, search (rules, both.1)))
    (restricts_both P frame picture (λ s. All (Satisfies s) (take i fs)) (HasTruth (get_or fs i d) true) a b c scene f g)

pub denied_none : (P : Protocol) (frame : Frame) (picture : Picture) (broken : Option Model.Formula) (a : Formula) → broken ≡ None → RestrictsTo P frame picture (IsBroken broken) a a
denied_none P frame picture None a is = restricts_none P frame picture (IsBroken None) a (λ s. tt)
denied_none P frame picture (Some f) a is = absurd (let k : ⊥ = cc in k)

pub denied_some : (P : Protocol) (frame : Frame) (picture : Picture) (broken : Option Model.Formula) (f : Model.Formula) (a b : Formula) → broken ≡ Some f → RestrictsTo P frame picture (HasTruth f false) a b → RestrictsTo P frame picture (IsBroken broken) a b
denied_some P frame picture broken f a b is r = subst (λ o. RestrictsTo P frame picture (IsBroken o) a b) (sym is) r

pub closed_some : (P : Protocol) (broken : Option Model.Formula) (f : Model.Formula) → broken ≡ Some f → IsClosed P broken → IsWellSorted P closed_scope f
closed_some P broken f is h = subst (IsClosed P) is h
