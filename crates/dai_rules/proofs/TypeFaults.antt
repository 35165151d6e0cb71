-- The computed faults of types are those of the definition.
use Rattle.std.proofs.Common.{◌≡◌, ◌≢◌, ℕ, ◌+◌, ◌<◌, Bool, true, false, not, List, [], ◌∷◌, length, Some, ap, sym, ◌∙◌, refl, subst, slice_index, slice_get, arith, ⊎_elim, ◌||◌}
use Rattle.std.specs.List.{Contains, list_any, flat_map, enumerate_from}
use Rattle.std.proofs.lemmas.Option.{slice_get_within}
use Rattle.std.proofs.lemmas.Slice.Eq.{bytes_eq-Decides}
use Rattle.std.proofs.lemmas.List.Elements.{All-contains, Contains-append_left, Contains-append_right, Contains-append_cases}
use Rattle.dai_syntax.specs.declared.tree.Name.{Name}
use Rattle.dai_rules.specs.declared.first.Fault.{Fault}
use Rattle.dai_rules.specs.Names.{same_text}
use Rattle.dai_rules.specs.Types.{HasType}
use Rattle.dai_rules.specs.Sites.{Ordering, Whole}
use Rattle.dai_rules.specs.Rules.{is_unordered, HasTwoTypes, HasNoType, ComparesUnordered}
use Rattle.dai_rules.specs.Classes.{labels_of, types_in, clash, is_empty, fault_if, variable_faults, ordering_faults, type_faults}
use Rattle.dai_rules.specs.Ranges.{AreUsesWithin, AreOrderingsWithin}
use Rattle.dai_rules.proofs.Members.{not_in_nil, in_head, in_tail, in_cases, in_flat_map, from_flat_map, in_enumerated, from_enumerated}
use Rattle.dai_rules.proofs.TypeClasses.{type_computed, type_by_class}

-- what is said of the variables of a formula is of those that it has
pub record IsWholeWithin (w : Whole) : Type 0 where
  pub uses : AreUsesWithin (length w.variables) w.uses
  pub orderings : AreOrderingsWithin (length w.variables) w.orderings

pub in_fault_if : (b : Bool) (number at : ℕ) → b ≡ true → Contains (fault_if b number at) (record { number = number; at = at })
in_fault_if true number at e = in_head (record { number = number; at = at }) []
in_fault_if false number at e = absurd (let k : ⊥ = cc in k)

pub from_fault_if : (b : Bool) (number at : ℕ) (f : Fault) → Contains (fault_if b number at) f → (b ≡ true) × (f.number ≡ number) × (f.at ≡ at)
from_fault_if true number at f h =
    ⊎_elim (λ e. (refl, sym (ap (λ (g : Fault). g.number) e), sym (ap (λ (g : Fault). g.at) e))) (λ k. absurd (not_in_nil f k)) (in_cases (record { number = number; at = at }) [] f h)
from_fault_if false number at f h = absurd (not_in_nil f h)

or_true : (a b : Bool) → b ≡ true → (a || b) ≡ true
or_true true b e = refl
or_true false b e = e

any_first : (b rest : Bool) → b ≡ true → (b || rest) ≡ true
any_first true rest e = refl
any_first false rest e = absurd (let k : ⊥ = cc in k)

pub any_by : {X : Type 0} (p : X → Bool) (xs : List X) (x : X) → Contains xs x → p x ≡ true → list_any p xs ≡ true
any_by p [] x h e = absurd (not_in_nil x h)
any_by p (y ∷ ys) x h e = ⊎_elim (λ s. any_first (p y) (list_any p ys) (ap p s ∙ e)) (λ k. or_true (p y) (list_any p ys) (any_by p ys x k e)) (in_cases y ys x h)

any_at : {X : Type 0} (p : X → Bool) (x : X) (xs : List X) (b : Bool) → p x ≡ b → (b || list_any p xs) ≡ true → (list_any p xs ≡ true → (y : X) × Contains xs y × (p y ≡ true)) → (y : X) × Contains (x ∷ xs) y × (p y ≡ true)
any_at p x xs true e h further = (x, in_head x xs, e)
any_at p x xs false e h further = let w = further h in (w.0, in_tail x xs w.0 w.1, w.2)

pub any_found : {X : Type 0} (p : X → Bool) (xs : List X) → list_any p xs ≡ true → (x : X) × Contains xs x × (p x ≡ true)
any_found p [] h = absurd (let k : ⊥ = cc in k)
any_found p (x ∷ xs) h = any_at p x xs (p x) refl h (any_found p xs)

-- texts
differs : (b : Bool) → not b ≡ true → b ≡ true → ⊥
differs true e h = let k : ⊥ = cc in k
differs false e h = let k : ⊥ = cc in k

texts_differ : (t u : List ℕ) → not (same_text t u) ≡ true → t ≢ u
texts_differ t u h e = differs (same_text t u) h ((bytes_eq-Decides t u).1 e)

not_same : (b : Bool) → (b ≡ true → ⊥) → not b ≡ true
not_same true h = absurd (h refl)
not_same false h = refl

differ_texts : (t u : List ℕ) → t ≢ u → not (same_text t u) ≡ true
differ_texts t u h = not_same (same_text t u) (λ e. h ((bytes_eq-Decides t u).0 e))

-- classes of no type, and of two
empty_class : (ts : List (List ℕ)) → is_empty ts ≡ true → (t : List ℕ) → Contains ts t → ⊥
empty_class [] e t h = not_in_nil t h
empty_class (u ∷ us) e t h = let k : ⊥ = cc in k

class_empty : (ts : List (List ℕ)) → ((t : List ℕ) → Contains ts t → ⊥) → is_empty ts ≡ true
class_empty [] h = refl
class_empty (t ∷ ts) h = absurd (h t (in_head t ts))

clash_found : (ts : List (List ℕ)) → clash ts ≡ true → (t : List ℕ) × (u : List ℕ) × Contains ts t × Contains ts u × (t ≢ u)
clash_found [] e = absurd (let k : ⊥ = cc in k)
clash_found (t ∷ ts) e = let w = any_found (λ other. not (same_text t other)) ts e in (t, w.0, in_head t ts, in_tail t ts w.0 w.1, texts_differ t w.0 w.2)

clash_of : (t : List ℕ) (ts : List (List ℕ)) (x : List ℕ) → Contains ts x → t ≢ x → clash (t ∷ ts) ≡ true
clash_of t ts x h d = any_by (λ other. not (same_text t other)) ts x h (differ_texts t x d)

clash_at : (t : List ℕ) (ts : List (List ℕ)) (x y : List ℕ) (b : Bool) → same_text t x ≡ b → Contains (t ∷ ts) x → Contains (t ∷ ts) y → x ≢ y → clash (t ∷ ts) ≡ true
clash_at t ts x y true e h k d =
    let same : t ≡ x = (bytes_eq-Decides t x).0 e in
    ⊎_elim (λ s. absurd (d (sym same ∙ s))) (λ m. clash_of t ts y m (λ s. d (sym same ∙ s))) (in_cases t ts y k)
clash_at t ts x y false e h k d =
    let apart : t ≢ x = λ s. let r : same_text t x ≡ true = (bytes_eq-Decides t x).1 s in let z : ⊥ = cc in z in
    ⊎_elim (λ s. absurd (apart s)) (λ m. clash_of t ts x m apart) (in_cases t ts x h)

clash_by : (ts : List (List ℕ)) (x y : List ℕ) → Contains ts x → Contains ts y → x ≢ y → clash ts ≡ true
clash_by [] x y h k d = absurd (not_in_nil x h)
clash_by (t ∷ ts) x y h k d = clash_at t ts x y (same_text t x) refl h k d

-- the rules about types, by number
pub data BreaksType (w : Whole) (number at : ℕ) : Type 0 where
  two : number ≡ 24 → HasTwoTypes w at → BreaksType w number at
  none : number ≡ 25 → HasNoType w at → BreaksType w number at
  unordered : number ≡ 26 → ComparesUnordered w at → BreaksType w number at

abbrev labels_in : Whole → List ℕ
labels_in w = labels_of (length w.variables) w.uses

abbrev class_in : Whole → ℕ → List (List ℕ)
class_in w v = types_in (labels_in w) (slice_index (labels_in w) v) w.uses

computed_in : (w : Whole) (v : ℕ) (t : List ℕ) → IsWholeWithin w → HasType w.uses v t → Contains (class_in w v) t
computed_in w v t within h = type_computed (length w.variables) w.uses v t within.uses h

has_in : (w : Whole) (v : ℕ) (t : List ℕ) → IsWholeWithin w → v < length w.variables → Contains (class_in w v) t → HasType w.uses v t
has_in w v t within below h = type_by_class (length w.variables) w.uses v t within.uses below h

variable_breaks : (w : Whole) (v : ℕ) (name : Name) (f : Fault) → IsWholeWithin w → slice_get w.variables v ≡ Some name → Contains (variable_faults (labels_in w) w.uses (v, name)) f → BreaksType w f.number f.at
variable_breaks w v name f within e h =
    let below = slice_get_within w.variables v name e in
    ⊎_elim
    (λ k. let r = from_fault_if (is_empty (class_in w v)) 25 name.at f k in
    none r.1 (record { variable = v; stands = (name, e, sym r.2); none = λ t m. empty_class (class_in w v) r.0 t (computed_in w v t within m) }))
    (λ k. let r = from_fault_if (clash (class_in w v)) 24 name.at f k in
    let c = clash_found (class_in w v) r.0 in
    two r.1 (record { variable = v; one = c.0; other = c.1; stands = (name, e, sym r.2); has_one = has_in w v c.0 within below c.2; has_other = has_in w v c.1 within below c.3; differ = c.4 }))
    (Contains-append_cases (fault_if (is_empty (class_in w v)) 25 name.at) (fault_if (clash (class_in w v)) 24 name.at) f h)

ordering_breaks : (w : Whole) (o : Ordering) (f : Fault) → IsWholeWithin w → Contains w.orderings o → Contains (ordering_faults w (labels_in w) o) f → BreaksType w f.number f.at
ordering_breaks w o f within h k =
    let r = from_fault_if (list_any (is_unordered w.declarations) (class_in w o.variable)) 26 o.at f k in
    let c = any_found (is_unordered w.declarations) (class_in w o.variable) r.0 in
    let below = All-contains (λ (p : Ordering). p.variable < length w.variables) w.orderings o within.orderings h in
    unordered r.1 (record { ordering = o; type = c.0; stands = h; place = sym r.2; has = has_in w o.variable c.0 within below c.1; unordered = c.2 })

abbrev variables_part : Whole → List Fault
variables_part w = flat_map (variable_faults (labels_in w) w.uses) (enumerate_from 0 w.variables)

abbrev orderings_part : Whole → List Fault
orderings_part w = flat_map (ordering_faults w (labels_in w)) w.orderings

pub type_fault_breaks : (w : Whole) (f : Fault) → IsWholeWithin w → Contains (type_faults w) f → BreaksType w f.number f.at
type_fault_breaks w f within h =
    ⊎_elim
    (λ k. let r = from_flat_map (variable_faults (labels_in w) w.uses) (enumerate_from 0 w.variables) f k in
    let s = from_enumerated 0 w.variables r.0 r.1 in
    let at : r.0.0 ≡ s.0 = let d = s.1 in omega (arith, d) in
    variable_breaks w r.0.0 r.0.1 f within (ap (slice_get w.variables) at ∙ s.2) r.2)
    (λ k. let r = from_flat_map (ordering_faults w (labels_in w)) w.orderings f k in ordering_breaks w r.0 f within r.1 r.2)
    (Contains-append_cases (variables_part w) (orderings_part w) f h)

-- and each rule that is broken gives a fault
variable_fault : (w : Whole) (v number at : ℕ) (name : Name) → slice_get w.variables v ≡ Some name → name.at ≡ at → Contains (variable_faults (labels_in w) w.uses (v, name)) (record { number = number; at = name.at }) → Contains (type_faults w) (record { number = number; at = at })
variable_fault w v number at name e place h =
    Contains-append_left (variables_part w) (orderings_part w) (record { number = number; at = at })
    (in_flat_map (variable_faults (labels_in w) w.uses) (enumerate_from 0 w.variables) (v, name) (record { number = number; at = at })
    (subst (λ i. Contains (enumerate_from 0 w.variables) (i, name)) (let k : 0 + v ≡ v = omega arith in k) (in_enumerated 0 w.variables v name e))
    (subst (λ p. Contains (variable_faults (labels_in w) w.uses (v, name)) (record { number = number; at = p })) place h))

pub two_types_fault : (w : Whole) (at : ℕ) → IsWholeWithin w → HasTwoTypes w at → Contains (type_faults w) (record { number = 24; at = at })
two_types_fault w at within h =
    let v = h.variable in
    let name = h.stands.0 in
    let ts = class_in w v in
    variable_fault w v 24 at name h.stands.1 h.stands.2
    (Contains-append_right (fault_if (is_empty ts) 25 name.at) (fault_if (clash ts) 24 name.at) (record { number = 24; at = name.at })
    (in_fault_if (clash ts) 24 name.at (clash_by ts h.one h.other (computed_in w v h.one within h.has_one) (computed_in w v h.other within h.has_other) h.differ)))

pub no_type_fault : (w : Whole) (at : ℕ) → IsWholeWithin w → HasNoType w at → Contains (type_faults w) (record { number = 25; at = at })
no_type_fault w at within h =
    let v = h.variable in
    let name = h.stands.0 in
    let ts = class_in w v in
    let below = slice_get_within w.variables v name h.stands.1 in
    variable_fault w v 25 at name h.stands.1 h.stands.2
    (Contains-append_left (fault_if (is_empty ts) 25 name.at) (fault_if (clash ts) 24 name.at) (record { number = 25; at = name.at })
    (in_fault_if (is_empty ts) 25 name.at (class_empty ts (λ t k. h.none t (has_in w v t within below k)))))

pub unordered_fault : (w : Whole) (at : ℕ) → IsWholeWithin w → ComparesUnordered w at → Contains (type_faults w) (record { number = 26; at = at })
unordered_fault w at within h =
    let o = h.ordering in
    let ts = class_in w o.variable in
    Contains-append_right (variables_part w) (orderings_part w) (record { number = 26; at = at })
    (in_flat_map (ordering_faults w (labels_in w)) w.orderings o (record { number = 26; at = at }) h.stands
    (subst (λ p. Contains (ordering_faults w (labels_in w) o) (record { number = 26; at = p })) h.place
    (in_fault_if (list_any (is_unordered w.declarations) ts) 26 o.at (any_by (is_unordered w.declarations) ts h.type (computed_in w o.variable h.type within h.has) h.unordered))))
