-- What the first declaration of a name gives the protocol.
use Rattle.std.proofs.Common.{◌≡◌, ℕ, suc, ◌+◌, Bool, true, false, cond, List, [], ◌∷◌, map, Option, None, Some, ap, sym, ◌∙◌, refl, arith}
use Rattle.std.specs.Prelude.{slice_get, find, is_some, if◌then◌else◌, not}
use Rattle.std.specs.Option.{option_map_or, option_and_then}
use Rattle.std.specs.List.{filter_map, cons_option}
use Rattle.std.specs.Cmp.Lexicographic.{same_text as told_same}
use Rattle.dai_syntax.specs.declared.tree.Binder.{Binder}
use Rattle.dai_syntax.specs.declared.tree.Name.{Name}
use Rattle.dai_syntax.specs.Tree.{Declaration, sort, relation, individual, axiom_of, init, action, export, invariant}
use Rattle.dai_model.specs.Protocol.{Sort, Relation, Individual}
use Rattle.dai_rules.specs.Names.{same_text, declares, first_declaration, a_relation, an_individual, a_local, neither, kind_of, declared_kind, order_of, type_order}
use Rattle.dai_sorts.specs.Scopes.{is_type, is_relation, is_individual, number_among, type_number, relation_number, individual_number, binder_type}
use Rattle.dai_sorts.specs.Protocols.{declared_type, declared_relation, declared_individual}

pub same_by : (x y : List ℕ) → same_text x y ≡ true → x ≡ y
same_by x y h = told_same x y (sym h)

-- a name that is no other name
pub text_is : (x y : List ℕ) → not (same_text x y) ≡ false → x ≡ y
text_is x y h = same_by x y (by_not (same_text x y) h)
  where
    by_not : (b : Bool) → not b ≡ false → b ≡ true
    by_not true h = refl
    by_not false h = let z : true ≡ false = h in sym z

-- what stands at the number of a name, where each declaration of the kind gives one thing
skip_by : {Y : Type 0} (o : Option Y) (b : Bool) (ys : List Y) (k : ℕ) (y : Y) → b ≡ is_some o → slice_get ys k ≡ Some y → slice_get (cons_option o ys) ((if b then 1 else 0) + k) ≡ Some y
skip_by None true ys k y e h = absurd (let z : ⊥ = cc in z)
skip_by None false ys k y e h = let m : 0 + k ≡ k = omega arith in ap (slice_get ys) m ∙ h
skip_by (Some z) true ys k y e h = let m : 1 + k ≡ suc k = omega arith in ap (slice_get (z ∷ ys)) m ∙ h
skip_by (Some z) false ys k y e h = absurd (let z : ⊥ = cc in z)

module _ {Y : Type 0} (of_kind : Declaration → Bool) (one : Declaration → Option Y) (counted : (d : Declaration) → of_kind d ≡ is_some (one d)) where
  found_by : (x : List ℕ) (e : Declaration) (ds : List Declaration) (d : Declaration) (y : Y) (b : Bool) → declares x e ≡ b → cond b (Some e) (find (declares x) ds) ≡ Some d → one d ≡ Some y
      → (find (declares x) ds ≡ Some d → slice_get (filter_map one ds) (number_among of_kind ds x) ≡ Some y) → slice_get (filter_map one (e ∷ ds)) (number_among of_kind (e ∷ ds) x) ≡ Some y
  found_by x e ds d y true is h gives further =
      let same : e ≡ d = cc in
      let k : one e ≡ Some y = ap one same ∙ gives in
      let m : number_among of_kind (e ∷ ds) x ≡ 0 = ap (λ b. if b then 0 else (if of_kind e then 1 else 0) + number_among of_kind ds x) is in
      λ i. slice_get (cons_option (k i) (filter_map one ds)) (m i)
  found_by x e ds d y false is h gives further =
      let m : number_among of_kind (e ∷ ds) x ≡ (if of_kind e then 1 else 0) + number_among of_kind ds x = ap (λ b. if b then 0 else (if of_kind e then 1 else 0) + number_among of_kind ds x) is in
      ap (slice_get (filter_map one (e ∷ ds))) m ∙ skip_by (one e) (of_kind e) (filter_map one ds) (number_among of_kind ds x) y (counted e) (further h)

  pub found : (x : List ℕ) (ds : List Declaration) (d : Declaration) (y : Y) → first_declaration ds x ≡ Some d → one d ≡ Some y → slice_get (filter_map one ds) (number_among of_kind ds x) ≡ Some y
  found x [] d y h gives = absurd (let z : ⊥ = cc in z)
  found x (e ∷ ds) d y h gives = found_by x e ds d y (declares x e) refl h gives (λ k. found x ds d y k gives)

types_counted : (d : Declaration) → is_type d ≡ is_some (declared_type d)
types_counted (sort name ordered) = refl
types_counted (relation name arguments) = refl
types_counted (individual name type) = refl
types_counted (axiom_of f at) = refl
types_counted (init body) = refl
types_counted (action name parameters body exported) = refl
types_counted (export name) = refl
types_counted (invariant label f at) = refl

relations_counted : (all : List Declaration) (d : Declaration) → is_relation d ≡ is_some (declared_relation all d)
relations_counted all (sort name ordered) = refl
relations_counted all (relation name arguments) = refl
relations_counted all (individual name type) = refl
relations_counted all (axiom_of f at) = refl
relations_counted all (init body) = refl
relations_counted all (action name parameters body exported) = refl
relations_counted all (export name) = refl
relations_counted all (invariant label f at) = refl

individuals_counted : (all : List Declaration) (d : Declaration) → is_individual d ≡ is_some (declared_individual all d)
individuals_counted all (sort name ordered) = refl
individuals_counted all (relation name arguments) = refl
individuals_counted all (individual name type) = refl
individuals_counted all (axiom_of f at) = refl
individuals_counted all (init body) = refl
individuals_counted all (action name parameters body exported) = refl
individuals_counted all (export name) = refl
individuals_counted all (invariant label f at) = refl

-- the first declaration of what a name stands for
pub type_found : (o : Option Declaration) (ordered : Bool) → option_and_then order_of o ≡ Some ordered → (name : Name) × (o ≡ Some (sort name ordered))
type_found None ordered h = absurd (let z : ⊥ = cc in z)
type_found (Some (sort name given)) ordered h = let k : given ≡ ordered = cc in (name, λ i. Some (sort name (k i)))
type_found (Some _) ordered h = absurd (let z : ⊥ = cc in z)

pub relation_found : (o : Option Declaration) (places : List Binder) → option_map_or kind_of o neither ≡ a_relation places → (name : Name) × (o ≡ Some (relation name places))
relation_found None places h = absurd (let z : ⊥ = cc in z)
relation_found (Some (relation name given)) places h = let k : given ≡ places = cc in (name, λ i. Some (relation name (k i)))
relation_found (Some _) places h = absurd (let z : ⊥ = cc in z)

pub individual_found : (o : Option Declaration) (type : Name) → option_map_or kind_of o neither ≡ an_individual type → (name : Name) × (o ≡ Some (individual name type))
individual_found None type h = absurd (let z : ⊥ = cc in z)
individual_found (Some (individual name given)) type h = let k : given ≡ type = cc in (name, λ i. Some (individual name (k i)))
individual_found (Some _) type h = absurd (let z : ⊥ = cc in z)

pub no_local_found : (o : Option Declaration) (type : Name) → option_map_or kind_of o neither ≡ a_local type → ⊥
no_local_found None type h = let z : ⊥ = cc in z
no_local_found (Some (sort name ordered)) type h = let z : ⊥ = cc in z
no_local_found (Some (relation name arguments)) type h = let z : ⊥ = cc in z
no_local_found (Some (individual name given)) type h = let z : ⊥ = cc in z
no_local_found (Some (axiom_of f at)) type h = let z : ⊥ = cc in z
no_local_found (Some (init body)) type h = let z : ⊥ = cc in z
no_local_found (Some (action name parameters body exported)) type h = let z : ⊥ = cc in z
no_local_found (Some (export name)) type h = let z : ⊥ = cc in z
no_local_found (Some (invariant label f at)) type h = let z : ⊥ = cc in z

-- what it gives the protocol
pub type_there : (ds : List Declaration) (x : List ℕ) (ordered : Bool) → type_order ds x ≡ Some ordered → (T : Sort) × (slice_get (filter_map declared_type ds) (type_number ds x) ≡ Some T) × (T.ordered ≡ ordered)
type_there ds x ordered h =
    let d = type_found (first_declaration ds x) ordered h in
    (record { name = d.0.text; ordered = ordered }, found is_type declared_type types_counted x ds (sort d.0 ordered) (record { name = d.0.text; ordered = ordered }) d.1 refl, refl)

pub relation_there : (all ds : List Declaration) (x : List ℕ) (places : List Binder) → declared_kind ds x ≡ a_relation places
    → (R : Relation) × (slice_get (filter_map (declared_relation all) ds) (relation_number ds x) ≡ Some R) × (R.arguments ≡ map (binder_type all) places)
relation_there all ds x places h =
    let d = relation_found (first_declaration ds x) places h in
    let R : Relation = record { name = d.0.text; arguments = map (binder_type all) places } in
    (R, found is_relation (declared_relation all) (relations_counted all) x ds (relation d.0 places) R d.1 refl, refl)

pub individual_there : (all ds : List Declaration) (x : List ℕ) (type : Name) → declared_kind ds x ≡ an_individual type
    → (I : Individual) × (slice_get (filter_map (declared_individual all) ds) (individual_number ds x) ≡ Some I) × (I.sort ≡ type_number all type.text)
individual_there all ds x type h =
    let d = individual_found (first_declaration ds x) type h in
    let I : Individual = record { name = d.0.text; sort = type_number all type.text } in
    (I, found is_individual (declared_individual all) (individuals_counted all) x ds (individual d.0 type) I d.1 refl, refl)
