-- The uses and the comparisons of a formula speak of its variables.
use Rattle.std.proofs.Common.{◌≡◌, ℕ, ◌<◌, ◌≤◌, Bool, true, false, not, cond, List, [], ◌∷◌, ◌++◌, length, Option, None, Some, refl, slice_get, if◌then◌else◌, arith, length-append}
use Rattle.std.specs.Prelude.{find, unwrap_or}
use Rattle.std.specs.Option.{option_map_or}
use Rattle.std.specs.List.{All}
use Rattle.std.proofs.lemmas.List.Elements.{All-append, All-cons}
use Rattle.std.proofs.lemmas.Option.{slice_get_within}
use Rattle.dai_syntax.specs.declared.tree.Name.{Name}
use Rattle.dai_syntax.specs.declared.tree.Binder.{Binder}
use Rattle.dai_syntax.specs.declared.tree.Arg.{Arg}
use Rattle.dai_syntax.specs.declared.tree.Arg.TheVariants.{Variable, Symbol}
use Rattle.dai_syntax.specs.declared.tree.Op.{Op}
use Rattle.dai_syntax.specs.Tree.{Formula, truth, atom, comparison, negation, conjunction, disjunction, equivalence, implication, quantified, Formulas, no_formulas, with_formula}
use Rattle.dai_rules.specs.Names.{same_text, Context, Kind, a_relation, an_individual, a_local, neither, type_of, kind_in}
use Rattle.dai_rules.specs.Naming.{Naming, no_variables, is_called, variable_in, number_of, noticed, noticed_as, Binding, own_number, bound_as, bound_with, bound_by, at_quantifier, entered, after_term, after_terms, after_formula, after_formulas}
use Rattle.dai_rules.specs.Types.{Use, typed, linked}
use Rattle.dai_rules.specs.Sites.{Role, Force, Ordering, Output, nothing, both, typed_by, term_output, term_number, terms_output, links, ordering_of, orderings_of, is_by_order, place_of, type_beside, comparison_output, binder_output, binders_output, quantifier_output, formula_output, formulas_output, places_of, is_universal_in, Site, sites_alone, mention_at, atom_at, term_at, compared_at, quantifier_at, target_at, arguments_at, update_role, update_output, negated, within, within_equivalence, element_output, right_output, outermost}
use Rattle.dai_rules.specs.Ranges.{IsUseWithin, AreUsesWithin, AreOrderingsWithin}

-- what an output speaks of is among so many variables
pub record IsWithin (count : ℕ) (o : Output) : Type 0 where
  pub uses : AreUsesWithin count o.uses
  pub orderings : AreOrderingsWithin count o.orderings

pub none_of : {X : Type 0} (P : X → Type 0) → All P []
none_of P = λ k d h. absurd (omega arith)

wider_use : (n m : ℕ) (u : Use) → n ≤ m → IsUseWithin n u → IsUseWithin m u
wider_use n m (typed v t) le h = omega arith
wider_use n m (linked v w) le h = (omega (arith, h.0), omega (arith, h.1))

pub wider : (n m : ℕ) (o : Output) → n ≤ m → IsWithin n o → IsWithin m o
wider n m o le h = record {
  uses = λ k d below. wider_use n m _ le (h.uses k d below);
  orderings = λ k d below. let e = h.orderings k d below in omega arith;
}

pub both_within : (n m : ℕ) (a b : Output) → n ≤ m → IsWithin n a → IsWithin m b → IsWithin m (both a b)
both_within n m a b le h k =
    let w = wider n m a le h in
    record {
      uses = All-append (IsUseWithin m) a.uses b.uses w.uses k.uses;
      orderings = All-append (λ (o : Ordering). o.variable < m) a.orderings b.orderings w.orderings k.orderings;
    }

pub nothing_within : (n : ℕ) → IsWithin n nothing
nothing_within n = record { uses = none_of (IsUseWithin n); orderings = none_of (λ (o : Ordering). o.variable < n) }

-- a variable of the name is one of those that there are
called_within : (variables : List Name) (x : List ℕ) (v : ℕ) (o : Option Name) → slice_get variables v ≡ o → option_map_or (λ (name : Name). same_text x name.text) o false ≡ true → v < length variables
called_within variables x v None e h = absurd (let k : ⊥ = cc in k)
called_within variables x v (Some name) e h = slice_get_within variables v name e

first_within : (variables : List Name) (x : List ℕ) (u : ℕ) (us : List ℕ) (v : ℕ) (b : Bool) → is_called variables x u ≡ b → cond b (Some u) (find (is_called variables x) us) ≡ Some v → (find (is_called variables x) us ≡ Some v → v < length variables) → v < length variables
first_within variables x u us v true e h further = let same : u ≡ v = cc in let k = called_within variables x u (slice_get variables u) refl e in omega arith
first_within variables x u us v false e h further = further h

found_within : (variables : List Name) (x : List ℕ) (vs : List ℕ) (v : ℕ) → find (is_called variables x) vs ≡ Some v → v < length variables
found_within variables x [] v h = absurd (let k : ⊥ = cc in k)
found_within variables x (u ∷ us) v h = first_within variables x u us v (is_called variables x u) refl h (found_within variables x us v)

-- the number of a variable is among those after its occurrence
number_by : (n : Naming) (name : Name) (o : Option ℕ) → variable_in n name.text ≡ o → unwrap_or o (length n.variables) < length (noticed_as n name o).variables
number_by n name None e = let k = length-append n.variables (name ∷ []) in omega arith
number_by n name (Some v) e = found_within n.variables name.text (n.bound ++ n.free) v e

pub number_within : (n : Naming) (name : Name) → number_of n name.text < length (noticed n name).variables
number_within n name = number_by n name (variable_in n name.text) refl

own_by : (b : Binding) (binder : Binder) (o : Option ℕ) → find (is_called b.variables binder.name.text) b.own ≡ o → unwrap_or o (length b.variables) < length (bound_as b binder o).variables
own_by b binder None e = let k = length-append b.variables (binder.name ∷ []) in omega arith
own_by b binder (Some v) e = found_within b.variables binder.name.text b.own v e

own_within : (b : Binding) (binder : Binder) → own_number b binder < length (bound_with b binder).variables
own_within b binder = own_by b binder (find (is_called b.variables binder.name.text) b.own) refl

-- variables are never lost
noticed_grows : (n : Naming) (name : Name) (o : Option ℕ) → length n.variables ≤ length (noticed_as n name o).variables
noticed_grows n name None = let k = length-append n.variables (name ∷ []) in omega arith
noticed_grows n name (Some v) = omega arith

pub term_grows : (n : Naming) (t : Arg) → length n.variables ≤ length (after_term n t).variables
term_grows n (Variable name type) = noticed_grows n name (variable_in n name.text)
term_grows n (Symbol name) = omega arith

pub terms_grow : (n : Naming) (ts : List Arg) → length n.variables ≤ length (after_terms n ts).variables
terms_grow n [] = omega arith
terms_grow n (t ∷ ts) = let a = term_grows n t in let b = terms_grow (after_term n t) ts in omega arith

bound_grows : (b : Binding) (binder : Binder) (o : Option ℕ) → length b.variables ≤ length (bound_as b binder o).variables
bound_grows b binder None = let k = length-append b.variables (binder.name ∷ []) in omega arith
bound_grows b binder (Some v) = omega arith

pub binders_grow : (b : Binding) (binders : List Binder) → length b.variables ≤ length (bound_by b binders).variables
binders_grow b [] = omega arith
binders_grow b (binder ∷ binders) =
    let h = bound_grows b binder (find (is_called b.variables binder.name.text) b.own) in
    let k = binders_grow (bound_with b binder) binders in
    omega arith

mutual
  pub formula_grows : (n : Naming) (f : Formula) → length n.variables ≤ length (after_formula n f).variables
  formula_grows n (truth b) = omega arith
  formula_grows n (atom name args) = terms_grow n args
  formula_grows n (comparison a op b) = let h = term_grows n a in let k = term_grows (after_term n a) b in omega arith
  formula_grows n (negation f) = formula_grows n f
  formula_grows n (conjunction fs) = formulas_grow n fs
  formula_grows n (disjunction fs) = formulas_grow n fs
  formula_grows n (equivalence fs) = formulas_grow n fs
  formula_grows n (implication f g) = let h = formula_grows n f in let k = formula_grows (after_formula n f) g in omega arith
  formula_grows n (quantified universal binders f at) = let h = binders_grow (at_quantifier n) binders in let k = formula_grows (entered n binders) f in omega arith

  pub formulas_grow : (n : Naming) (fs : Formulas) → length n.variables ≤ length (after_formulas n fs).variables
  formulas_grow n no_formulas = omega arith
  formulas_grow n (with_formula f fs) = let h = formula_grows n f in let k = formulas_grow (after_formula n f) fs in omega arith

-- what terms, comparisons and binders give is within
typed_within : (n v : ℕ) (o : Option Name) → v < n → AreUsesWithin n (typed_by v o)
typed_within n v None h = none_of (IsUseWithin n)
typed_within n v (Some type) h = All-cons (IsUseWithin n) (typed v type.text) [] h (none_of (IsUseWithin n))

pub term_within : (ctx : Context) (role : Role) (n : Naming) (expected : Option Name) (t : Arg) → IsWithin (length (after_term n t).variables) (term_output ctx role n expected t)
term_within ctx role n expected (Variable name type) =
    let count = length (noticed n name).variables in
    let v = number_of n name.text in
    let h = number_within n name in
    record {
      uses = All-append (IsUseWithin count) (typed_by v type) (typed_by v expected) (typed_within count v type h) (typed_within count v expected h);
      orderings = none_of (λ (o : Ordering). o.variable < count);
    }
term_within ctx role n expected (Symbol name) = record { uses = none_of (IsUseWithin (length n.variables)); orderings = none_of (λ (o : Ordering). o.variable < length n.variables) }

pub terms_within : (ctx : Context) (role : Role) (n : Naming) (places : List Binder) (ts : List Arg) → IsWithin (length (after_terms n ts).variables) (terms_output ctx role n places ts)
terms_within ctx role n places [] = nothing_within (length n.variables)
terms_within ctx role n [] (t ∷ ts) =
    both_within (length (after_term n t).variables) (length (after_terms (after_term n t) ts).variables) (term_output ctx role n None t) (terms_output ctx role (after_term n t) [] ts)
    (terms_grow (after_term n t) ts) (term_within ctx role n None t) (terms_within ctx role (after_term n t) [] ts)
terms_within ctx role n (p ∷ places) (t ∷ ts) =
    both_within (length (after_term n t).variables) (length (after_terms (after_term n t) ts).variables) (term_output ctx role n (Some (type_of p)) t) (terms_output ctx role (after_term n t) places ts)
    (terms_grow (after_term n t) ts) (term_within ctx role n (Some (type_of p)) t) (terms_within ctx role (after_term n t) places ts)

-- the number of a term, if it is a variable
abbrev IsNumberWithin : ℕ → Option ℕ → Type 0
IsNumberWithin count None = Unit {0}
IsNumberWithin count (Some v) = v < count

term_number_within : (n : Naming) (t : Arg) (count : ℕ) → length (after_term n t).variables ≤ count → IsNumberWithin count (term_number n t)
term_number_within n (Variable name type) count le = let h = number_within n name in omega arith
term_number_within n (Symbol name) count le = tt

links_within : (count : ℕ) (one other : Option ℕ) → IsNumberWithin count one → IsNumberWithin count other → AreUsesWithin count (links one other)
links_within count None other h k = none_of (IsUseWithin count)
links_within count (Some v) None h k = none_of (IsUseWithin count)
links_within count (Some v) (Some w) h k = All-cons (IsUseWithin count) (linked v w) [] (h, k) (none_of (IsUseWithin count))

ordering_within : (count at : ℕ) (o : Option ℕ) → IsNumberWithin count o → AreOrderingsWithin count (ordering_of at o)
ordering_within count at None h = none_of (λ (o : Ordering). o.variable < count)
ordering_within count at (Some v) h = All-cons (λ (o : Ordering). o.variable < count) (record { at = at; variable = v }) [] h (none_of (λ (o : Ordering). o.variable < count))

orderings_by : (count at : ℕ) (b : Bool) (one other : Option ℕ) → IsNumberWithin count one → IsNumberWithin count other → AreOrderingsWithin count (if b then ordering_of at one ++ ordering_of at other else [])
orderings_by count at true one other h k = All-append (λ (o : Ordering). o.variable < count) (ordering_of at one) (ordering_of at other) (ordering_within count at one h) (ordering_within count at other k)
orderings_by count at false one other h k = none_of (λ (o : Ordering). o.variable < count)

pub comparison_within : (ctx : Context) (role : Role) (n : Naming) (a : Arg) (op : Op) (b : Arg) → IsWithin (length (after_term (after_term n a) b).variables) (comparison_output ctx role n a op b)
comparison_within ctx role n a op b =
    let n1 = after_term n a in
    let count = length (after_term n1 b).variables in
    let grows = term_grows n1 b in
    let one = term_number_within n a count grows in
    let other = term_number_within n1 b count (omega arith) in
    let tail : Output = record nothing { sites = compared_at ctx a op b ∷ []; uses = links (term_number n a) (term_number n1 b); orderings = orderings_of op (place_of a) (term_number n a) (term_number n1 b) } in
    both_within (length n1.variables) count (term_output ctx role n (type_beside ctx a b) a) (both (term_output ctx role n1 (type_beside ctx b a) b) tail) grows (term_within ctx role n (type_beside ctx a b) a)
    (both_within count count (term_output ctx role n1 (type_beside ctx b a) b) tail (omega arith) (term_within ctx role n1 (type_beside ctx b a) b)
    (record { uses = links_within count (term_number n a) (term_number n1 b) one other; orderings = orderings_by count (place_of a) (is_by_order op) (term_number n a) (term_number n1 b) one other }))

binder_within : (ctx : Context) (witness : Bool) (b : Binding) (before : List Binder) (binder : Binder) → IsWithin (length (bound_with b binder).variables) (binder_output ctx witness b before binder)
binder_within ctx witness b before binder =
    let count = length (bound_with b binder).variables in
    record { uses = typed_within count (own_number b binder) binder.sort (own_within b binder); orderings = none_of (λ (o : Ordering). o.variable < count) }

pub binders_within : (ctx : Context) (witness : Bool) (b : Binding) (before : List Binder) (binders : List Binder) → IsWithin (length (bound_by b binders).variables) (binders_output ctx witness b before binders)
binders_within ctx witness b before [] = nothing_within (length b.variables)
binders_within ctx witness b before (binder ∷ binders) =
    both_within (length (bound_with b binder).variables) (length (bound_by (bound_with b binder) binders).variables) (binder_output ctx witness b before binder) (binders_output ctx witness (bound_with b binder) (before ++ binder ∷ []) binders)
    (binders_grow (bound_with b binder) binders) (binder_within ctx witness b before binder) (binders_within ctx witness (bound_with b binder) (before ++ binder ∷ []) binders)

plain_within : (n : ℕ) (sites : List Site) (existentials : List ℕ) → IsWithin n (record nothing { sites = sites; existentials = existentials })
plain_within n sites existentials = record { uses = none_of (IsUseWithin n); orderings = none_of (λ (o : Ordering). o.variable < n) }

mutual
  pub formula_within : (ctx : Context) (role : Role) (force : Force) (n : Naming) (f : Formula) → IsWithin (length (after_formula n f).variables) (formula_output ctx role force n f)
  formula_within ctx role force n (truth b) = nothing_within (length n.variables)
  formula_within ctx role force n (atom name args) =
      both_within (length n.variables) (length (after_terms n args).variables) (sites_alone (mention_at ctx role name ∷ atom_at ctx name args ∷ [])) (terms_output ctx role n (places_of (kind_in ctx name.text)) args) (terms_grow n args)
      (plain_within (length n.variables) (mention_at ctx role name ∷ atom_at ctx name args ∷ []) []) (terms_within ctx role n (places_of (kind_in ctx name.text)) args)
  formula_within ctx role force n (comparison a op b) = comparison_within ctx role n a op b
  formula_within ctx role force n (negation f) = formula_within ctx role (negated force) n f
  formula_within ctx role force n (conjunction fs) = formulas_within ctx role force n fs
  formula_within ctx role force n (disjunction fs) = formulas_within ctx role force n fs
  formula_within ctx role force n (equivalence fs) = formulas_within ctx role (within_equivalence force) n fs
  formula_within ctx role force n (implication f g) =
      both_within (length (after_formula n f).variables) (length (after_formula (after_formula n f) g).variables) (formula_output ctx role (negated force) n f) (formula_output ctx role force (after_formula n f) g)
      (formula_grows (after_formula n f) g) (formula_within ctx role (negated force) n f) (formula_within ctx role force (after_formula n f) g)
  formula_within ctx role force n (quantified universal binders f at) =
      let inner = entered n binders in
      let count = length (after_formula inner f).variables in
      let witness = not (is_universal_in force universal) in
      let own = length (bound_by (at_quantifier n) binders).variables in
      let grows = formula_grows inner f in
      let before = binders_grow (at_quantifier n) binders in
      both_within (length n.variables) count (quantifier_output role force universal at) (both (binders_output ctx witness (at_quantifier n) [] binders) (formula_output ctx role (within force universal) inner f)) (omega arith)
      (plain_within (length n.variables) (quantifier_at role force universal at ∷ []) (if is_universal_in force universal then [] else at ∷ []))
      (both_within own count (binders_output ctx witness (at_quantifier n) [] binders) (formula_output ctx role (within force universal) inner f) grows (binders_within ctx witness (at_quantifier n) [] binders) (formula_within ctx role (within force universal) inner f))

  pub formulas_within : (ctx : Context) (role : Role) (force : Force) (n : Naming) (fs : Formulas) → IsWithin (length (after_formulas n fs).variables) (formulas_output ctx role force n fs)
  formulas_within ctx role force n no_formulas = nothing_within (length n.variables)
  formulas_within ctx role force n (with_formula f fs) =
      both_within (length (after_formula n f).variables) (length (after_formulas (after_formula n f) fs).variables) (formula_output ctx role force n f) (formulas_output ctx role force (after_formula n f) fs)
      (formulas_grow (after_formula n f) fs) (formula_within ctx role force n f) (formulas_within ctx role force (after_formula n f) fs)

-- the right side of an update
element_within : (ctx : Context) (role : Role) (n : Naming) (type : Name) (f : Formula) → IsWithin (length (after_formula n f).variables) (element_output ctx role n type f)
element_within ctx role n type (atom name args) =
    both_within (length n.variables) (length (after_terms n args).variables) (sites_alone (mention_at ctx role name ∷ term_at ctx (Some type) name ∷ [])) (terms_output ctx role n [] args) (terms_grow n args)
    (plain_within (length n.variables) (mention_at ctx role name ∷ term_at ctx (Some type) name ∷ []) []) (terms_within ctx role n [] args)
element_within ctx role n type (truth b) = formula_within ctx role outermost n (truth b)
element_within ctx role n type (comparison a op b) = formula_within ctx role outermost n (comparison a op b)
element_within ctx role n type (negation f) = formula_within ctx role outermost n (negation f)
element_within ctx role n type (conjunction fs) = formula_within ctx role outermost n (conjunction fs)
element_within ctx role n type (disjunction fs) = formula_within ctx role outermost n (disjunction fs)
element_within ctx role n type (equivalence fs) = formula_within ctx role outermost n (equivalence fs)
element_within ctx role n type (implication f g) = formula_within ctx role outermost n (implication f g)
element_within ctx role n type (quantified universal binders f at) = formula_within ctx role outermost n (quantified universal binders f at)

right_within : (ctx : Context) (role : Role) (n : Naming) (kind : Kind) (f : Formula) → IsWithin (length (after_formula n f).variables) (right_output ctx role n kind f)
right_within ctx role n (a_relation arguments) f = formula_within ctx role outermost n f
right_within ctx role n (an_individual type) f = element_within ctx role n type f
right_within ctx role n (a_local type) f = formula_within ctx role outermost n f
right_within ctx role n neither f = formula_within ctx role outermost n f

pub update_within : (ctx : Context) (name : Name) (args : List Arg) (f : Formula) → IsWithin (length (after_formula (after_terms no_variables args) f).variables) (update_output ctx name args f)
update_within ctx name args f =
    let role = update_role args in
    let n = after_terms no_variables args in
    let count = length (after_formula n f).variables in
    let kind = kind_in ctx name.text in
    both_within 0 count (sites_alone (target_at ctx name args f ∷ arguments_at [] args)) (both (terms_output ctx role no_variables (places_of kind) args) (right_output ctx role n kind f)) (omega arith)
    (plain_within 0 (target_at ctx name args f ∷ arguments_at [] args) [])
    (both_within (length n.variables) count (terms_output ctx role no_variables (places_of kind) args) (right_output ctx role n kind f) (formula_grows n f) (terms_within ctx role no_variables (places_of kind) args) (right_within ctx role n kind f))
