-- A block has no more witnesses than its requirements have places of variables that are existential in force.
use Rattle.std.proofs.Common.{◌≡◌, ℕ, ◌+◌, ◌-◌, ◌≤◌, Bool, true, false, List, [], ◌∷◌, ◌++◌, length, Option, Some, None, ap, refl, arith, length-append}
use Rattle.std.specs.Prelude.{not, reverse, find, slice_index, if◌then◌else◌}
use Rattle.dai_model.specs.Formula as Model
use Rattle.dai_model.specs.Profile.{witnesses, witnesses_of_each, witnesses_in, requirements_of, requirements_in}
use Rattle.dai_syntax.specs.declared.tree.Name.{Name}
use Rattle.dai_syntax.specs.declared.tree.Arg.{Arg}
use Rattle.dai_syntax.specs.declared.tree.Binder.{Binder}
use Rattle.dai_syntax.specs.declared.tree.Op.{Op}
use Rattle.dai_syntax.specs.declared.tree.Op.TheVariants.{Equal, Unequal, Less, LessEqual}
use Rattle.dai_syntax.specs.Tree.{Formula, truth, atom, comparison, negation, conjunction, disjunction, equivalence, implication, quantified, Formulas, no_formulas, with_formula, Statement, requirement, assignment, conditional, with_locals, Statements, no_statements, with_statement}
use Rattle.dai_rules.specs.Names.{Context, with_inside, Kind, a_relation, an_individual, a_local, neither, kind_in}
use Rattle.dai_rules.specs.Naming.{Naming, no_variables, is_called, Binding, bound_as, bound_with, bound_by, at_quantifier, entered, after_term, after_formula}
use Rattle.dai_rules.specs.Sites.{Role, as_requirement, as_value, Force, outermost, is_universal_in, negated, within_equivalence, within, counted_at, witness_places, binders_output, formula_output, formulas_output, sentence_output, sentence_sites, counted_from, Room, locals_sites, statement_sites, statements_sites, room_after, room_after_each}
use Rattle.dai_sorts.specs.Scopes.{Scope, term_in, with_terms, choices_from}
use Rattle.dai_sorts.specs.Formulas.{compared, over_one, over, formula_in, formulas_in, IsSentence}
use Rattle.dai_sorts.specs.Statements.{locals_of, locals_in, joined, alone, IsUpdate, Directs, DirectEach}
use Rattle.dai_sorts.specs.Sound.{AreUnbroken}
use Rattle.dai_sorts.proofs.ProfileRooms.{is_room}
use Rattle.dai_sorts.proofs.Unbroken.{unbroken_left, unbroken_right, unbroken_tail}

-- the variables of a quantifier
own_one : (b : Binding) (binder : Binder) (o : Option ℕ) → length (bound_as b binder o).own ≤ length b.own + 1
own_one b binder (Some number) = omega arith
own_one b binder None = omega arith

own_few : (b : Binding) (binders : List Binder) → length (bound_by b binders).own ≤ length b.own + length binders
own_few b [] = omega arith
own_few b (binder ∷ binders) =
    let one : length (bound_with b binder).own ≤ length b.own + 1 = own_one b binder (find (is_called b.variables binder.name.text) b.own) in
    let rest = own_few (bound_with b binder) binders in
    omega arith

abbrev unless : Bool → ℕ → ℕ
unless b n = if b then 0 else n

unless_less : (b : Bool) (m n : ℕ) → m ≤ n → unless b m ≤ unless b n
unless_less true m n h = omega arith
unless_less false m n h = h

places_one : (b : Bool) (at : ℕ) → length (witness_places (not b) at) ≡ unless b 1
places_one true at = refl
places_one false at = refl

unless_more : (b : Bool) (n : ℕ) → unless b 1 + unless b n ≡ unless b (n + 1)
unless_more true n = refl
unless_more false n = omega arith

own_places : (ctx : Context) (u : Bool) (b : Binding) (before binders : List Binder) → length (binders_output ctx (not u) b before binders).witnesses ≡ unless u (length binders)
own_places ctx true b before [] = refl
own_places ctx false b before [] = refl
own_places ctx u b before (binder ∷ binders) =
    let places = witness_places (not u) binder.name.at in
    let rest = (binders_output ctx (not u) (bound_with b binder) (before ++ binder ∷ []) binders).witnesses in
    let all : length (places ++ rest) ≡ length places + length rest = length-append places rest in
    let one = places_one u binder.name.at in
    let more : length rest ≡ unless u (length binders) = own_places ctx u (bound_with b binder) (before ++ binder ∷ []) binders in
    let sum = unless_more u (length binders) in
    let count : length binders + 1 ≡ length (binder ∷ binders) = omega arith in
    let last : unless u (length binders + 1) ≡ unless u (length (binder ∷ binders)) = ap (unless u) count in
    let goal : length (places ++ rest) ≡ unless u (length (binder ∷ binders)) = omega arith in
    goal

-- quantifiers around a formula
given : (b : Bool) (type : ℕ) (rest : List ℕ) → length ((if b then [] else type ∷ []) ++ rest) ≡ unless b 1 + length rest
given true type rest = omega arith
given false type rest = omega arith

given_not : (b : Bool) (type : ℕ) (rest : List ℕ) → length ((if b then type ∷ [] else []) ++ rest) ≡ unless (not b) 1 + length rest
given_not true type rest = omega arith
given_not false type rest = omega arith

witness_one : (force : Force) (u : Bool) (v type : ℕ) (g : Model.Formula) → length (witnesses force.even (over_one u v type g)) ≡ unless (is_universal_in force u) 1 + length (witnesses force.even g)
witness_one force true v type g = given force.even type (witnesses force.even g)
witness_one force false v type g = given_not force.even type (witnesses force.even g)

witness_over : (force : Force) (u : Bool) (types vs : List ℕ) (g : Model.Formula) → length (witnesses force.even (over u types vs g)) ≡ unless (is_universal_in force u) (length vs) + length (witnesses force.even g)
witness_over force u types [] g = nothing_more (is_universal_in force u) (length (witnesses force.even g))
  where
    nothing_more : (b : Bool) (n : ℕ) → n ≡ unless b 0 + n
    nothing_more true n = omega arith
    nothing_more false n = omega arith
witness_over force u types (v ∷ vs) g =
    let rest = witness_over force u types vs (over_one u v (slice_index types v) g) in
    let one = witness_one force u v (slice_index types v) g in
    let sum = unless_more (is_universal_in force u) (length vs) in
    let count : length vs + 1 ≡ length (v ∷ vs) = omega arith in
    let last : unless (is_universal_in force u) (length vs + 1) ≡ unless (is_universal_in force u) (length (v ∷ vs)) = ap (unless (is_universal_in force u)) count in
    let goal : length (witnesses force.even (over u types vs (over_one u v (slice_index types v) g))) ≡ unless (is_universal_in force u) (length (v ∷ vs)) + length (witnesses force.even g) = omega arith in
    goal

none_compared : (even : Bool) (op : Op) (a b : Model.Term) → length (witnesses even (compared op a b)) ≡ 0
none_compared even Equal a b = refl
none_compared even Unequal a b = refl
none_compared even Less a b = refl
none_compared even LessEqual a b = refl

zero_least : (k : ℕ) → 0 ≤ k
zero_least k = omega arith

none_least : (j k : ℕ) → j ≡ 0 → j ≤ k
none_least j k e = omega arith

lengths : (xs ys us vs : List ℕ) → length xs ≤ length us → length ys ≤ length vs → length (xs ++ ys) ≤ length (us ++ vs)
lengths xs ys us vs h k = let a = length-append xs ys in let b = length-append us vs in omega arith

mutual
  witness_formula : (ctx : Context) (role : Role) (scope : Scope) (types : List ℕ) (n : Naming) (force : Force) (f : Formula) → length (witnesses force.even (formula_in scope types n f)) ≤ length (formula_output ctx role force n f).witnesses
  witness_formula ctx role scope types n force (truth b) = omega arith
  witness_formula ctx role scope types n force (atom name args) = zero_least (length (formula_output ctx role force n (atom name args)).witnesses)
  witness_formula ctx role scope types n force (comparison a op b) =
      none_least (length (witnesses force.even (compared op (term_in scope n a) (term_in scope (after_term n a) b)))) (length (formula_output ctx role force n (comparison a op b)).witnesses) (none_compared force.even op (term_in scope n a) (term_in scope (after_term n a) b))
  witness_formula ctx role scope types n force (negation f) = witness_formula ctx role scope types n (negated force) f
  witness_formula ctx role scope types n force (conjunction fs) = witness_formulas ctx role scope types n force fs
  witness_formula ctx role scope types n force (disjunction fs) = witness_formulas ctx role scope types n force fs
  witness_formula ctx role scope types n force (equivalence fs) = witness_formulas ctx role scope types n (within_equivalence force) fs
  witness_formula ctx role scope types n force (implication f g) =
      lengths (witnesses (not force.even) (formula_in scope types n f)) (witnesses force.even (formula_in scope types (after_formula n f) g))
      (formula_output ctx role (negated force) n f).witnesses (formula_output ctx role force (after_formula n f) g).witnesses
      (witness_formula ctx role scope types n (negated force) f) (witness_formula ctx role scope types (after_formula n f) force g)
  witness_formula ctx role scope types n force (quantified universal binders f at) =
      let u = is_universal_in force universal in
      let own = (bound_by (at_quantifier n) binders).own in
      let places = (binders_output ctx (not u) (at_quantifier n) [] binders).witnesses in
      let rest = (formula_output ctx role (within force universal) (entered n binders) f).witnesses in
      let g = formula_in scope types (entered n binders) f in
      let inner : length (witnesses force.even g) ≤ length rest = witness_formula ctx role scope types (entered n binders) (within force universal) f in
      let outer = witness_over force universal types own g in
      let fewer : length own ≤ 0 + length binders = own_few (at_quantifier n) binders in
      let few = unless_less u (length own) (length binders) (omega arith) in
      let all = own_places ctx u (at_quantifier n) [] binders in
      let sum = length-append places rest in
      let goal : length (witnesses force.even (over universal types own g)) ≤ length (places ++ rest) = omega arith in
      goal

  witness_formulas : (ctx : Context) (role : Role) (scope : Scope) (types : List ℕ) (n : Naming) (force : Force) (fs : Formulas) → length (witnesses_of_each force.even (formulas_in scope types n fs)) ≤ length (formulas_output ctx role force n fs).witnesses
  witness_formulas ctx role scope types n force no_formulas = omega arith
  witness_formulas ctx role scope types n force (with_formula f fs) =
      lengths (witnesses force.even (formula_in scope types n f)) (witnesses_of_each force.even (formulas_in scope types (after_formula n f) fs))
      (formula_output ctx role force n f).witnesses (formulas_output ctx role force (after_formula n f) fs).witnesses
      (witness_formula ctx role scope types n force f) (witness_formulas ctx role scope types (after_formula n f) force fs)

pub sentence_witnesses : (scope : Scope) (role : Role) (f : Formula) (g : Model.Formula) → IsSentence scope role f g → length (witnesses true g) ≤ length (sentence_output scope.context role f).witnesses
sentence_witnesses scope role f g is =
    let inner : length (witnesses true (formula_in scope is.types no_variables f)) ≤ length (sentence_output scope.context role f).witnesses = witness_formula scope.context role scope is.types no_variables outermost f in
    let outer : length (witnesses true (over true is.types (reverse (after_formula no_variables f).free) (formula_in scope is.types no_variables f))) ≡ 0 + length (witnesses true (formula_in scope is.types no_variables f)) =
    witness_over outermost true is.types (reverse (after_formula no_variables f).free) (formula_in scope is.types no_variables f) in
    let same : length (witnesses true g) ≡ length (witnesses true (over true is.types (reverse (after_formula no_variables f).free) (formula_in scope is.types no_variables f))) = ap (λ h. length (witnesses true h)) is.same in
    omega arith

-- the witnesses of code
abbrev pub needs : Model.Statements → ℕ
needs cs = length (witnesses_in (requirements_in cs))

witnesses_both : (fs gs : List Model.Formula) → length (witnesses_in (fs ++ gs)) ≡ length (witnesses_in fs) + length (witnesses_in gs)
witnesses_both [] gs = omega arith
witnesses_both (f ∷ fs) gs =
    let a = length-append (witnesses true f) (witnesses_in (fs ++ gs)) in
    let b = length-append (witnesses true f) (witnesses_in fs) in
    let c = witnesses_both fs gs in
    omega arith

pub needs_joined : (cs bs : Model.Statements) → needs (joined cs bs) ≡ needs cs + needs bs
needs_joined Model.no_statements bs = omega arith
needs_joined (Model.with_statement c rest) bs =
    let a = witnesses_both (requirements_of c) (requirements_in (joined rest bs)) in
    let b = witnesses_both (requirements_of c) (requirements_in rest) in
    let d = needs_joined rest bs in
    omega arith

needs_alone : (c : Model.Statement) → needs (alone c) ≡ length (witnesses_in (requirements_of c))
needs_alone c = let a : length (witnesses_in (requirements_of c ++ [])) ≡ length (witnesses_in (requirements_of c)) + 0 = witnesses_both (requirements_of c) [] in omega arith

counted_few : (room : ℕ) (places : List ℕ) → AreUnbroken (counted_from room places) → length places ≤ room
counted_few room [] h = omega arith
counted_few room (at ∷ places) h =
    let here = is_room room at (counted_from (room - 1) places) h in
    let rest = counted_few (room - 1) places (unbroken_tail (counted_at room at) (counted_from (room - 1) places) h) in
    omega arith

update_needs : (scope : Scope) (kind : Kind) (name : Name) (args : List Arg) (f : Formula) (c : Model.Statement) → IsUpdate scope kind name args f c → length (witnesses_in (requirements_of c)) ≡ 0
update_needs scope (a_relation places) name args f c h = ap (λ d. length (witnesses_in (requirements_of d))) h.same
update_needs scope (an_individual type) name args f c h = ap (λ d. length (witnesses_in (requirements_of d))) h.same
update_needs scope (a_local type) name args f c h = absurd h
update_needs scope neither name args f c h = absurd h

mutual
  pub statement_needs : (scope : Scope) (room : Room) (next : ℕ) (s : Statement) (cs : Model.Statements) → AreUnbroken (statement_sites scope.context room s) → Directs scope next s cs → needs cs + (room_after scope.context room s).witnesses ≤ room.witnesses
  statement_needs scope room next (requirement f) cs u h =
      let places = (sentence_output scope.context as_requirement f).witnesses in
      let few = counted_few room.witnesses places (unbroken_right (sentence_sites scope.context as_requirement f) (counted_from room.witnesses places) u) in
      let own = sentence_witnesses scope as_requirement f h.0 h.1 in
      let one : needs cs ≡ needs (alone (Model.requirement h.0)) = ap needs h.2 in
      let two : needs (alone (Model.requirement h.0)) ≡ length (witnesses true h.0 ++ []) = needs_alone (Model.requirement h.0) in
      let three : length (witnesses true h.0 ++ []) ≡ length (witnesses true h.0) + 0 = length-append (witnesses true h.0) [] in
      let goal : needs cs + (room.witnesses - length places) ≤ room.witnesses = omega arith in
      goal
  statement_needs scope room next (assignment name args f) cs u h =
      let one : needs cs ≡ needs (alone h.0) = ap needs h.2 in
      let two = needs_alone h.0 in
      let none = update_needs scope (kind_in scope.context name.text) name args f h.0 h.1 in
      let goal : needs cs + room.witnesses ≤ room.witnesses = omega arith in
      goal
  statement_needs scope room next (conditional f first second) cs u h =
      let ctx = scope.context in
      let middle = room_after_each ctx room first in
      let condition = sentence_sites ctx (as_value []) f in
      let a = statements_sites ctx room first in
      let b = statements_sites ctx middle second in
      let rest = unbroken_right condition (a ++ b) u in
      let one : needs h.1 + middle.witnesses ≤ room.witnesses = statements_needs scope room next first h.1 (unbroken_left a b rest) h.4 in
      let two : needs h.2 + (room_after_each ctx middle second).witnesses ≤ middle.witnesses = statements_needs scope middle (next + length (locals_in first)) second h.2 (unbroken_right a b rest) h.5 in
      let all : needs cs ≡ needs (alone (Model.conditional h.0 h.1 h.2)) = ap needs h.6 in
      let same : needs (alone (Model.conditional h.0 h.1 h.2)) ≡ length (witnesses_in (requirements_in h.1 ++ requirements_in h.2)) = needs_alone (Model.conditional h.0 h.1 h.2) in
      let sum = witnesses_both (requirements_in h.1) (requirements_in h.2) in
      let goal : needs cs + (room_after_each ctx middle second).witnesses ≤ room.witnesses = omega arith in
      goal
  statement_needs scope room next (with_locals binders body) cs u h =
      let inside = with_inside scope.context (scope.context.inside ++ binders) in
      let left : Room = record room { locals = room.locals - length binders } in
      statements_needs (with_terms scope binders (choices_from next binders)) left (next + length binders) body cs (unbroken_right (locals_sites scope.context room.locals binders) (statements_sites inside left body) u) h

  pub statements_needs : (scope : Scope) (room : Room) (next : ℕ) (ss : Statements) (cs : Model.Statements) → AreUnbroken (statements_sites scope.context room ss) → DirectEach scope next ss cs → needs cs + (room_after_each scope.context room ss).witnesses ≤ room.witnesses
  statements_needs scope room next no_statements cs u h =
      let none : needs cs ≡ 0 = ap needs h in
      let goal : needs cs + room.witnesses ≤ room.witnesses = omega arith in
      goal
  statements_needs scope room next (with_statement s ss) cs u h =
      let ctx = scope.context in
      let middle = room_after ctx room s in
      let a = statement_sites ctx room s in
      let b = statements_sites ctx middle ss in
      let one : needs h.0 + middle.witnesses ≤ room.witnesses = statement_needs scope room next s h.0 (unbroken_left a b u) h.2 in
      let two : needs h.1 + (room_after_each ctx middle ss).witnesses ≤ middle.witnesses = statements_needs scope middle (next + length (locals_of s)) ss h.1 (unbroken_right a b u) h.3 in
      let all : needs cs ≡ needs (joined h.0 h.1) = ap needs h.4 in
      let sum = needs_joined h.0 h.1 in
      let goal : needs cs + (room_after_each ctx middle ss).witnesses ≤ room.witnesses = omega arith in
      goal
