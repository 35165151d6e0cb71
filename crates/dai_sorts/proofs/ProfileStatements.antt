-- The sentences, updates and blocks of a file without faults are in the profile.
use Rattle.std.proofs.Common.{◌≡◌, ℕ, ◌+◌, ◌≤◌, Bool, true, false, List, [], ◌∷◌, ◌++◌, length, drop, Option, None, Some, ap, sym, ◌∙◌, refl, subst, arith}
use Rattle.std.specs.Prelude.{not, ◌&&◌, ◌||◌, reverse}
use Rattle.std.specs.List.{AllByRecursion, Contains}
use Rattle.std.proofs.lemmas.List.Elements.{Contains-push}
use Rattle.dai_model.specs.Formula as Model
use Rattle.dai_model.specs.Profile.{has_quantifier, is_universal, is_exists_forall, bound_variables, BindsOnce, IsUniversalSentence, IsExistsForallSentence, IsDirect, AreDirect}
use Rattle.dai_syntax.specs.declared.tree.Name.{Name}
use Rattle.dai_syntax.specs.declared.tree.Arg.{Arg}
use Rattle.dai_syntax.specs.declared.tree.Arg.TheVariants.{Variable, Symbol}
use Rattle.dai_syntax.specs.declared.tree.Binder.{Binder}
use Rattle.dai_syntax.specs.Tree.{Formula, truth, atom, comparison, negation, conjunction, disjunction, equivalence, implication, quantified, Formulas, no_formulas, with_formula, Statement, requirement, assignment, conditional, with_locals, Statements, no_statements, with_statement}
use Rattle.dai_rules.specs.Names.{Context, Kind, a_relation, an_individual, a_local, neither, kind_in, type_of}
use Rattle.dai_rules.specs.Naming.{Naming, no_variables, at_quantifier, entered, after_term, after_terms, after_formula, after_formulas}
use Rattle.dai_rules.specs.Sites.{variable_names, Role, as_axiom, as_invariant, as_requirement, as_value, Force, outermost, is_universal_in, negated, within_equivalence, within, Site, variable_at, mention_at, atom_at, compared_at, quantifier_at, target_at, Whole, whole_at, whole_of, term_output, terms_output, annotated_at, places_of, type_beside, binders_output, formula_output, formulas_output, sentence_output, sentence_sites, update_role, update_output, update_sites, right_output, arguments_at}
use Rattle.dai_rules.specs.Rules.{at_if, is_not_universal, existentials_of, breaks_28, breaks_29, breaks_30}
use Rattle.dai_rules.proofs.Members.{in_head}
use Rattle.dai_rules.proofs.RangeLemmas.{formula_grows}
use Rattle.dai_sorts.specs.Scopes.{Scope, with_terms, choices_from}
use Rattle.dai_sorts.specs.Formulas.{over, formula_in, IsSentence}
use Rattle.dai_sorts.specs.Statements.{locals_of, locals_in, joined, IsUpdate, Directs, DirectEach}
use Rattle.dai_sorts.specs.Sound.{AreUnbroken, IsSound, AreSound}
use Rattle.dai_sorts.proofs.ProfileForces.{Each, Shows, each_shown, IsNone, IsForall, IsMixed, bare_formula, universal_over, universal_formula, forall_listed, mixed_over, mixed_formula}
use Rattle.dai_sorts.proofs.ProfileVariables.{sentence_binds, IsFixed, target_binds}
use Rattle.dai_sorts.proofs.Unbroken.{unbroken_left, unbroken_right, unbroken_tail, unbroken_behind}
use Rattle.dai_sorts.proofs.Wholes.{few_by}

abbrev whole : Context → Role → Formula → Whole
whole ctx role f = whole_of ctx role (after_formula no_variables f) (sentence_output ctx role f)

few_variables : (ctx : Context) (role : Role) (f : Formula) → AreUnbroken (sentence_sites ctx role f) → length (after_formula no_variables f).variables ≤ 12
few_variables ctx role f h = few_by (sentence_sites ctx role f) (whole ctx role f) (drop 12 (after_formula no_variables f).variables) h (Contains-push (sentence_output ctx role f).sites (whole_at (whole ctx role f))) refl

formula_sites : (ctx : Context) (role : Role) (f : Formula) → AreUnbroken (sentence_sites ctx role f) → AreUnbroken (sentence_output ctx role f).sites
formula_sites ctx role f h = unbroken_left (sentence_output ctx role f).sites (whole_at (whole ctx role f) ∷ []) h

-- a test that holds at no place
not_at : (b : Bool) (at : ℕ) → (Contains (at_if b at) at → ⊥) → b ≡ false
not_at true at h = absurd (h (in_head at []))
not_at false at h = refl

or_false : (a b : Bool) → (a || b) ≡ false → (a ≡ false) × (b ≡ false)
or_false true b e = absurd (let k : ⊥ = cc in k)
or_false false b e = (refl, e)

not_false : (b : Bool) → not b ≡ false → b ≡ true
not_false true e = refl
not_false false e = absurd (let k : ⊥ = cc in k)

forall_by : (force : Force) (u : Bool) → is_not_universal force u ≡ false → IsForall force u
forall_by force u e = let k = or_false (not (is_universal_in force u)) force.under_equivalence e in record { holds = not_false (is_universal_in force u) k.0; free = k.1 }

mixed_by : (force : Force) (u : Bool) → ((not (is_universal_in force u) && force.inside_universal) || force.under_equivalence) ≡ false → IsMixed force u
mixed_by force u e = let k = or_false (not (is_universal_in force u) && force.inside_universal) force.under_equivalence e in record { holds = k.0; free = k.1 }

-- universal sentences
shows_axiom : (assigned : List (List ℕ)) (sites : List Site) → AreUnbroken sites → Shows (as_axiom assigned) IsForall sites
shows_axiom assigned sites h force u at there = forall_by force u (not_at (is_not_universal force u) at (λ k. h (quantifier_at (as_axiom assigned) force u at) there 28 at (breaks_28 refl k)))

shows_invariant : (sites : List Site) → AreUnbroken sites → Shows as_invariant IsForall sites
shows_invariant sites h force u at there = forall_by force u (not_at (is_not_universal force u) at (λ k. h (quantifier_at as_invariant force u at) there 28 at (breaks_28 refl k)))

universal_by : (scope : Scope) (role : Role) (f : Formula) (g : Model.Formula) → Shows role IsForall (sentence_output scope.context role f).sites → AreUnbroken (sentence_sites scope.context role f) → IsSentence scope role f g → IsUniversalSentence g
universal_by scope role f g shows h is =
    let free = reverse (after_formula no_variables f).free in
    let body = formula_in scope is.types no_variables f in
    let each = each_shown scope.context role IsForall outermost no_variables f shows in
    record {
      force = ap (is_universal true) is.same ∙ universal_over outermost true is.types free body refl (universal_formula scope is.types no_variables outermost f each);
      binds = subst (λ k. BindsOnce (bound_variables k)) (sym is.same) (sentence_binds scope is.types f (few_variables scope.context role f h));
    }

pub universal_axiom : (scope : Scope) (assigned : List (List ℕ)) (f : Formula) (g : Model.Formula) → AreUnbroken (sentence_sites scope.context (as_axiom assigned) f) → IsSentence scope (as_axiom assigned) f g → IsUniversalSentence g
universal_axiom scope assigned f g h is =
    universal_by scope (as_axiom assigned) f g (shows_axiom assigned (sentence_output scope.context (as_axiom assigned) f).sites (formula_sites scope.context (as_axiom assigned) f h)) h is

pub universal_invariant : (scope : Scope) (f : Formula) (g : Model.Formula) → AreUnbroken (sentence_sites scope.context as_invariant f) → IsSentence scope as_invariant f g → IsUniversalSentence g
universal_invariant scope f g h is =
    universal_by scope as_invariant f g (shows_invariant (sentence_output scope.context as_invariant f).sites (formula_sites scope.context as_invariant f h)) h is

-- requirements
shows_requirement : (sites : List Site) → AreUnbroken sites → Shows as_requirement IsMixed sites
shows_requirement sites h force u at there =
    mixed_by force u (not_at ((not (is_universal_in force u) && force.inside_universal) || force.under_equivalence) at (λ k. h (quantifier_at as_requirement force u at) there 29 at (breaks_29 refl k)))

none_listed : (places : List ℕ) → ((at : ℕ) → Contains places at → ⊥) → places ≡ []
none_listed [] h = refl
none_listed (at ∷ places) h = absurd (h at (in_head at places))

free_by : (vs places : List ℕ) (v : ℕ) (rest : List ℕ) → vs ≡ v ∷ rest → ((at : ℕ) → Contains (existentials_of as_requirement vs places) at → ⊥) → places ≡ []
free_by vs places v rest e h = none_listed places (λ at there. h at (subst (λ us. Contains (existentials_of as_requirement us places) at) (sym e) there))

mixed_force : (scope : Scope) (types : List ℕ) (f : Formula) (free : List ℕ) → (after_formula no_variables f).free ≡ free → AreUnbroken (sentence_sites scope.context as_requirement f) → Each IsMixed outermost f
    → is_exists_forall true (over true types (reverse (after_formula no_variables f).free) (formula_in scope types no_variables f)) ≡ true
mixed_force scope types f [] e h each =
    let body = formula_in scope types no_variables f in
    ap (λ vs. is_exists_forall true (over true types (reverse vs) body)) e ∙ mixed_formula scope types no_variables outermost f each
mixed_force scope types f (v ∷ rest) e h each =
    let ctx = scope.context in
    let body = formula_in scope types no_variables f in
    let w = whole ctx as_requirement f in
    let places = (sentence_output ctx as_requirement f).existentials in
    let none = free_by (after_formula no_variables f).free places v rest e (λ at there. h (whole_at w) (Contains-push (sentence_output ctx as_requirement f).sites (whole_at w)) 29 at (breaks_29 refl there)) in
    let forall_each = forall_listed ctx as_requirement outermost no_variables f none each in
    mixed_over outermost true types (reverse (after_formula no_variables f).free) body refl (universal_formula scope types no_variables outermost f forall_each) (mixed_formula scope types no_variables outermost f each)

pub mixed_requirement : (scope : Scope) (f : Formula) (g : Model.Formula) → AreUnbroken (sentence_sites scope.context as_requirement f) → IsSentence scope as_requirement f g → IsExistsForallSentence g
mixed_requirement scope f g h is =
    let sites = (sentence_output scope.context as_requirement f).sites in
    let each = each_shown scope.context as_requirement IsMixed outermost no_variables f (shows_requirement sites (formula_sites scope.context as_requirement f h)) in
    record {
      force = ap (is_exists_forall true) is.same ∙ mixed_force scope is.types f (after_formula no_variables f).free refl h each;
      binds = subst (λ k. BindsOnce (bound_variables k)) (sym is.same) (sentence_binds scope is.types f (few_variables scope.context as_requirement f h));
    }

-- conditions and right sides
shows_value : (allowed : List (List ℕ)) (sites : List Site) → AreUnbroken sites → Shows (as_value allowed) IsNone sites
shows_value allowed sites h force u at there = h (quantifier_at (as_value allowed) force u at) there 30 at (breaks_30 refl (in_head at []))

-- a condition has no variable
no_variable : (sites : List Site) (name : Name) → AreUnbroken sites → Contains sites (variable_at (as_value []) name) → ⊥
no_variable sites name h there = h (variable_at (as_value []) name) there 30 name.at (breaks_30 refl (in_head name.at []))

module _ (ctx : Context) where
  closed_term : (n : Naming) (expected : Option Name) (t : Arg) → AreUnbroken (term_output ctx (as_value []) n expected t).sites → after_term n t ≡ n
  closed_term n expected (Symbol name) h = refl
  closed_term n expected (Variable name type) h =
      absurd (no_variable (variable_at (as_value []) name ∷ annotated_at ctx type) name h (in_head (variable_at (as_value []) name) (annotated_at ctx type)))

  closed_terms : (n : Naming) (places : List Binder) (ts : List Arg) → AreUnbroken (terms_output ctx (as_value []) n places ts).sites → after_terms n ts ≡ n
  closed_terms n places [] h = refl
  closed_terms n [] (t ∷ ts) h =
      let a = (term_output ctx (as_value []) n None t).sites in
      let b = (terms_output ctx (as_value []) (after_term n t) [] ts).sites in
      closed_terms (after_term n t) [] ts (unbroken_right a b h) ∙ closed_term n None t (unbroken_left a b h)
  closed_terms n (place ∷ places) (t ∷ ts) h =
      let a = (term_output ctx (as_value []) n (Some (type_of place)) t).sites in
      let b = (terms_output ctx (as_value []) (after_term n t) places ts).sites in
      closed_terms (after_term n t) places ts (unbroken_right a b h) ∙ closed_term n (Some (type_of place)) t (unbroken_left a b h)

  mutual
    closed_formula : (force : Force) (n : Naming) (f : Formula) → AreUnbroken (formula_output ctx (as_value []) force n f).sites → after_formula n f ≡ n
    closed_formula force n (truth b) h = refl
    closed_formula force n (atom name args) h =
        let terms = (terms_output ctx (as_value []) n (places_of (kind_in ctx name.text)) args).sites in
        closed_terms n (places_of (kind_in ctx name.text)) args (unbroken_behind (mention_at ctx (as_value []) name) (atom_at ctx name args) terms h)
    closed_formula force n (comparison a op b) h =
        let one = (term_output ctx (as_value []) n (type_beside ctx a b) a).sites in
        let two = (term_output ctx (as_value []) (after_term n a) (type_beside ctx b a) b).sites in
        let last = compared_at ctx a op b ∷ [] in
        closed_term (after_term n a) (type_beside ctx b a) b (unbroken_left two last (unbroken_right one (two ++ last) h)) ∙ closed_term n (type_beside ctx a b) a (unbroken_left one (two ++ last) h)
    closed_formula force n (negation f) h = closed_formula (negated force) n f h
    closed_formula force n (conjunction fs) h = closed_formulas force n fs h
    closed_formula force n (disjunction fs) h = closed_formulas force n fs h
    closed_formula force n (equivalence fs) h = closed_formulas (within_equivalence force) n fs h
    closed_formula force n (implication f g) h =
        let a = (formula_output ctx (as_value []) (negated force) n f).sites in
        let b = (formula_output ctx (as_value []) force (after_formula n f) g).sites in
        closed_formula force (after_formula n f) g (unbroken_right a b h) ∙ closed_formula (negated force) n f (unbroken_left a b h)
    closed_formula force n (quantified universal binders f at) h =
        let site = quantifier_at (as_value []) force universal at in
        let own = (binders_output ctx (not (is_universal_in force universal)) (at_quantifier n) [] binders).sites in
        let inner = (formula_output ctx (as_value []) (within force universal) (entered n binders) f).sites in
        absurd (shows_value [] (site ∷ (own ++ inner)) h force universal at (in_head site (own ++ inner)))

    closed_formulas : (force : Force) (n : Naming) (fs : Formulas) → AreUnbroken (formulas_output ctx (as_value []) force n fs).sites → after_formulas n fs ≡ n
    closed_formulas force n no_formulas h = refl
    closed_formulas force n (with_formula f fs) h =
        let a = (formula_output ctx (as_value []) force n f).sites in
        let b = (formulas_output ctx (as_value []) force (after_formula n f) fs).sites in
        closed_formulas force (after_formula n f) fs (unbroken_right a b h) ∙ closed_formula force n f (unbroken_left a b h)

bare_condition : (scope : Scope) (f : Formula) (g : Model.Formula) → AreUnbroken (sentence_sites scope.context (as_value []) f) → IsSentence scope (as_value []) f g → not (has_quantifier g) ≡ true
bare_condition scope f g h is =
    let ctx = scope.context in
    let sites = (sentence_output ctx (as_value []) f).sites in
    let own = formula_sites ctx (as_value []) f h in
    let body = formula_in scope is.types no_variables f in
    let each = each_shown ctx (as_value []) IsNone outermost no_variables f (shows_value [] sites own) in
    let closed : (after_formula no_variables f).free ≡ [] = ap (λ (n : Naming). n.free) (closed_formula ctx outermost no_variables f own) in
    ap (λ k. not (has_quantifier k)) (is.same ∙ ap (λ vs. over true is.types (reverse vs) body) closed) ∙ ap not (bare_formula scope is.types no_variables outermost f each)

right_sites : (ctx : Context) (role : Role) (n : Naming) (kind : Kind) (places : List Binder) (f : Formula) → kind ≡ a_relation places → AreUnbroken (right_output ctx role n kind f).sites → AreUnbroken (formula_output ctx role outermost n f).sites
right_sites ctx role n kind places f e h = subst (λ k. AreUnbroken (right_output ctx role n k f).sites) e h

direct_update : (scope : Scope) (kind : Kind) (name : Name) (args : List Arg) (f : Formula) (c : Model.Statement) → AllByRecursion IsFixed scope.terms → kind_in scope.context name.text ≡ kind → AreUnbroken (update_sites scope.context name args f)
    → IsUpdate scope kind name args f c → IsDirect c
direct_update scope (a_relation places) name args f c fixed e h is =
    let ctx = scope.context in
    let role = update_role args in
    let o = update_output ctx name args f in
    let target = target_at ctx name args f in
    let terms = (terms_output ctx role no_variables (places_of (kind_in ctx name.text)) args).sites in
    let right = (right_output ctx role (after_terms no_variables args) (kind_in ctx name.text) f).sites in
    let after = after_formula (after_terms no_variables args) f in
    let w = whole_of ctx role after o in
    let all = unbroken_left o.sites (whole_at w ∷ []) h in
    let rest = unbroken_right (target ∷ arguments_at [] args) (terms ++ right) all in
    let arguments = unbroken_tail target (arguments_at [] args) (unbroken_left (target ∷ arguments_at [] args) (terms ++ right) all) in
    let value = right_sites ctx role (after_terms no_variables args) (kind_in ctx name.text) places f e (unbroken_right terms right rest) in
    let few = few_by (update_sites ctx name args f) w (drop 12 after.variables) h (Contains-push o.sites (whole_at w)) refl in
    let grows = formula_grows (after_terms no_variables args) f in
    let each = each_shown ctx role IsNone outermost (after_terms no_variables args) f (shows_value (variable_names args) (formula_output ctx role outermost (after_terms no_variables args) f).sites value) in
    let bare = bare_formula scope is.types (after_terms no_variables args) outermost f each in
    subst IsDirect (sym is.same) (ap not bare, target_binds scope args fixed arguments (omega arith))
direct_update scope (an_individual type) name args f c fixed e h is = subst IsDirect (sym is.same) tt
direct_update scope (a_local type) name args f c fixed e h is = absurd is
direct_update scope neither name args f c fixed e h is = absurd is

-- code
pub direct_both : (cs bs : Model.Statements) → AreDirect cs → AreDirect bs → AreDirect (joined cs bs)
direct_both Model.no_statements bs h k = k
direct_both (Model.with_statement c rest) bs h k = (h.0, direct_both rest bs h.1 k)

pub fixed_both : (ts us : List Model.Term) → AllByRecursion IsFixed ts → AllByRecursion IsFixed us → AllByRecursion IsFixed (ts ++ us)
fixed_both [] us h k = k
fixed_both (t ∷ ts) us h k = (h.0, fixed_both ts us h.1 k)

pub fixed_choices : (next : ℕ) (bs : List Binder) → AllByRecursion IsFixed (choices_from next bs)
fixed_choices next [] = tt
fixed_choices next (b ∷ bs) = ((λ rest. refl), fixed_choices (next + 1) bs)

mutual
  pub direct_statement : (scope : Scope) (next : ℕ) (s : Statement) (cs : Model.Statements) → AllByRecursion IsFixed scope.terms → IsSound scope.context s → Directs scope next s cs → AreDirect cs
  direct_statement scope next (requirement f) cs fixed sound h = subst AreDirect (sym h.2) (mixed_requirement scope f h.0 sound h.1, tt)
  direct_statement scope next (assignment name args f) cs fixed sound h =
      subst AreDirect (sym h.2) (direct_update scope (kind_in scope.context name.text) name args f h.0 fixed refl sound h.1, tt)
  direct_statement scope next (conditional f first second) cs fixed sound h =
      subst AreDirect (sym h.6)
      ((bare_condition scope f h.0 sound.0 h.3, direct_statements scope next first h.1 fixed sound.1 h.4, direct_statements scope (next + length (locals_in first)) second h.2 fixed sound.2 h.5), tt)
  direct_statement scope next (with_locals binders body) cs fixed sound h =
      direct_statements (with_terms scope binders (choices_from next binders)) (next + length binders) body cs (fixed_both scope.terms (choices_from next binders) fixed (fixed_choices next binders)) sound h

  pub direct_statements : (scope : Scope) (next : ℕ) (ss : Statements) (cs : Model.Statements) → AllByRecursion IsFixed scope.terms → AreSound scope.context ss → DirectEach scope next ss cs → AreDirect cs
  direct_statements scope next no_statements cs fixed sound h = subst AreDirect (sym h) tt
  direct_statements scope next (with_statement s ss) cs fixed sound h =
      subst AreDirect (sym h.4)
      (direct_both h.0 h.1 (direct_statement scope next s h.0 fixed sound.0 h.2) (direct_statements scope (next + length (locals_of s)) ss h.1 fixed sound.1 h.3))
