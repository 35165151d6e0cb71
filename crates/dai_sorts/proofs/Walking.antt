-- Formulas part by part.
use Rattle.std.proofs.Common.{◌≡◌, ℕ, ◌+◌, ◌<◌, ◌≤◌, Bool, List, [], ◌∷◌, ◌++◌, length, get_or, take, drop, Option, Some, None, Vec, ap, sym, ◌∙◌, refl, subst, arith, length-append}
use Rattle.std.specs.Prelude.{reverse, find}
use Rattle.std.specs.List.{All}
use Rattle.std.proofs.lemmas.List.{take_more, reverse-append, length-reverse}
use Rattle.std.proofs.lemmas.List.Elements.{All-nil, All-cons, All-push, All-weaker, All-same, All-head, All-tail}
use Rattle.std.specs.declared.alloc.Global.{Global}
use Rattle.dai_model.specs.Formula as Model
use Rattle.dai_syntax.specs.declared.tree.Binder.{Binder}
use Rattle.dai_syntax.specs.declared.tree.Name.{Name}
use Rattle.dai_syntax.specs.declared.tree.Arg.{Arg}
use Rattle.dai_syntax.specs.declared.tree.Arg.TheVariants.{Variable, Symbol}
use Rattle.dai_syntax.specs.Tree as Tree
use Rattle.dai_logic.specs.declared.protocol.Formula as Written
use Rattle.dai_logic.specs.declared.protocol.Formula.{Formula, Row_of-Formula, end_of-Formula, more_of-Formula, items-the_row-Formula}
use Rattle.dai_logic.specs.declared.protocol.Formula.TheBlock.{hidden-the_row-Formula-0, items_hidden-the_row-Formula-0}
use Rattle.dai_logic.specs.Trees.{formula_of, formulas_of, formulas_of_row}
use Rattle.dai_rules.specs.Naming.{Naming, no_variables, number_of, noticed, noticed_as, variable_in, after_term, after_terms, Binding, is_called, bound_as, bound_with, bound_by, at_quantifier, entered, after_formula, after_formulas}
use Rattle.dai_rules.proofs.RangeLemmas.{formula_grows, formulas_grow, terms_grow, binders_grow, number_within}
use Rattle.dai_rules.proofs.VariableLemmas.{own_from, after_formula-bound}
use Rattle.dai_rules.specs.declared.variables.Naming.{Naming as Program}
use Rattle.dai_rules.specs.Views.{naming_of}

-- formulas, and then others
abbrev pub followed : Model.Formulas → Model.Formulas → Model.Formulas
followed Model.no_formulas gs = gs
followed (Model.with_formula f fs) gs = Model.with_formula f (followed fs gs)

pub followed-nil : (fs : Model.Formulas) → followed fs Model.no_formulas ≡ fs
followed-nil Model.no_formulas = refl
followed-nil (Model.with_formula f fs) = ap (Model.with_formula f) (followed-nil fs)

pub formulas_of-push : (fs : List Formula) (f : Formula) (gs : Model.Formulas) → followed (formulas_of (fs ++ f ∷ [])) gs ≡ followed (formulas_of fs) (Model.with_formula (formula_of f) gs)
formulas_of-push [] f gs = refl
formulas_of-push (g ∷ fs) f gs = ap (Model.with_formula (formula_of g)) (formulas_of-push fs f gs)

-- the trees of the program's chains
formulas_of_row_is : (n : _) (k : Row_of-Formula n) → formulas_of_row k ≡ formulas_of (items-the_row-Formula n k)
formulas_of_row_is _ end_of-Formula = refl
formulas_of_row_is _ (more_of-Formula f fs) = ap (Model.with_formula (formula_of f)) (formulas_of_row_is _ fs)

formulas_hidden : (v : Vec Formula Global) → formulas_of_row (hidden-the_row-Formula-0 v) ≡ formulas_of v.items
formulas_hidden v = formulas_of_row_is _ (hidden-the_row-Formula-0 v) ∙ ap formulas_of (items_hidden-the_row-Formula-0 v)

pub formula_of-All : (v : Vec Formula Global) → formula_of (Written.All v) ≡ Model.conjunction (formulas_of v.items)
formula_of-All v = ap Model.conjunction (formulas_hidden v)

pub formula_of-Any : (v : Vec Formula Global) → formula_of (Written.Any v) ≡ Model.disjunction (formulas_of v.items)
formula_of-Any v = ap Model.disjunction (formulas_hidden v)

pub formula_of-Iff : (v : Vec Formula Global) → formula_of (Written.Iff v) ≡ Model.equivalence (formulas_of v.items)
formula_of-Iff v = ap Model.equivalence (formulas_hidden v)

-- a part of a formula has no more variables
abbrev IsFew : Naming → Type 0
IsFew n = length n.variables ≤ 256

pub few_in : (n : Naming) (f g : Tree.Formula) → f ≡ g → length (after_formula n f).variables ≤ 256 → length (after_formula n g).variables ≤ 256
few_in n f g e h = subst (λ k. IsFew (after_formula n k)) e h

pub few_left : (n : Naming) (whole f g : Tree.Formula) → whole ≡ Tree.implication f g → length (after_formula n whole).variables ≤ 256 → length (after_formula n f).variables ≤ 256
few_left n whole f g e h =
    let k : length (after_formula (after_formula n f) g).variables ≤ 256 = few_in n whole (Tree.implication f g) e h in
    let grows = formula_grows (after_formula n f) g in
    omega arith

pub few_right : (n m : Naming) (whole f g : Tree.Formula) → whole ≡ Tree.implication f g → m ≡ after_formula n f → length (after_formula n whole).variables ≤ 256 → length (after_formula m g).variables ≤ 256
few_right n m whole f g e same h =
    subst (λ k. IsFew (after_formula k g)) (sym same) (few_in n whole (Tree.implication f g) e h)

pub few_body : (n m : Naming) (whole f : Tree.Formula) (universal : Bool) (binders : List Binder) (at : ℕ) → whole ≡ Tree.quantified universal binders f at → m ≡ entered n binders → length (after_formula n whole).variables ≤ 256 → length (after_formula m f).variables ≤ 256
few_body n m whole f universal binders at e same h =
    subst (λ k. IsFew (after_formula k f)) (sym same) (few_in n whole (Tree.quantified universal binders f at) e h)

pub few_first : (n : Naming) (f : Tree.Formula) (fs : Tree.Formulas) → length (after_formulas n (Tree.with_formula f fs)).variables ≤ 256 → length (after_formula n f).variables ≤ 256
few_first n f fs h = let k = formulas_grow (after_formula n f) fs in omega arith

-- the numbers of a quantifier's variables
abbrev Below : ℕ → List ℕ → Type 0
Below count vs = All (λ v. v < count) vs

own_as : (b : Binding) (binder : Binder) (o : _) → Below (length b.variables) b.own → Below (length (bound_as b binder o).variables) (bound_as b binder o).own
own_as b binder (Some number) h = h
own_as b binder None h =
    let longer = length-append b.variables (binder.name ∷ []) in
    All-cons (λ v. v < length (b.variables ++ binder.name ∷ [])) (length b.variables) b.own (omega arith) (All-weaker (λ v. v < length b.variables) (λ v. v < length (b.variables ++ binder.name ∷ [])) (λ v k. omega arith) b.own h)

pub own_below : (b : Binding) (binders : List Binder) → All (λ v. v < length b.variables) b.own → All (λ v. v < length (bound_by b binders).variables) (bound_by b binders).own
own_below b [] h = h
own_below b (binder ∷ binders) h = own_below (bound_with b binder) binders (own_as b binder (find (is_called b.variables binder.name.text) b.own) h)

pub quantifier_below : (n : Naming) (binders : List Binder) (f : Tree.Formula) → length (after_formula (entered n binders) f).variables ≤ 256 → All (λ v. v < 256) (bound_by (at_quantifier n) binders).own
quantifier_below n binders f few =
    let b = bound_by (at_quantifier n) binders in
    let grows = formula_grows (entered n binders) f in
    All-weaker (λ v. v < length b.variables) (λ v. v < 256) (λ v k. omega arith) b.own (own_below (at_quantifier n) binders (All-nil (λ v. v < length n.variables)))

-- the numbers of the free variables
abbrev IsFreeWithin : Naming → Type 0
IsFreeWithin n = Below (length n.variables) n.free

more_below : (a b : ℕ) (vs : List ℕ) → a ≤ b → Below a vs → Below b vs
more_below a b vs e h = All-weaker (λ v. v < a) (λ v. v < b) (λ v k. omega arith) vs h

noticed_free : (n : Naming) (name : Name) (o : Option ℕ) → IsFreeWithin n → IsFreeWithin (noticed_as n name o)
noticed_free n name (Some number) h = h
noticed_free n name None h =
    let longer = length-append n.variables (name ∷ []) in
    All-push (λ v. v < length (n.variables ++ name ∷ [])) n.free (length n.variables) (more_below (length n.variables) (length (n.variables ++ name ∷ [])) n.free (omega arith) h) (omega arith)

term_free : (n : Naming) (t : Arg) → IsFreeWithin n → IsFreeWithin (after_term n t)
term_free n (Variable name type) h = noticed_free n name (variable_in n name.text) h
term_free n (Symbol name) h = h

pub terms_free : (n : Naming) (ts : List Arg) → All (λ v. v < length n.variables) n.free → All (λ v. v < length (after_terms n ts).variables) (after_terms n ts).free
terms_free n [] h = h
terms_free n (t ∷ ts) h = terms_free (after_term n t) ts (term_free n t h)

entered_free : (n : Naming) (binders : List Binder) → IsFreeWithin n → IsFreeWithin (entered n binders)
entered_free n binders h = more_below (length n.variables) (length (bound_by (at_quantifier n) binders).variables) n.free (binders_grow (at_quantifier n) binders) h

mutual
  pub formula_free : (n : Naming) (f : Tree.Formula) → All (λ v. v < length n.variables) n.free → All (λ v. v < length (after_formula n f).variables) (after_formula n f).free
  formula_free n (Tree.truth b) h = h
  formula_free n (Tree.atom name args) h = terms_free n args h
  formula_free n (Tree.comparison a op b) h = term_free (after_term n a) b (term_free n a h)
  formula_free n (Tree.negation f) h = formula_free n f h
  formula_free n (Tree.conjunction fs) h = formulas_free n fs h
  formula_free n (Tree.disjunction fs) h = formulas_free n fs h
  formula_free n (Tree.equivalence fs) h = formulas_free n fs h
  formula_free n (Tree.implication f g) h = formula_free (after_formula n f) g (formula_free n f h)
  formula_free n (Tree.quantified universal binders f at) h = formula_free (entered n binders) f (entered_free n binders h)

  formulas_free : (n : Naming) (fs : Tree.Formulas) → IsFreeWithin n → IsFreeWithin (after_formulas n fs)
  formulas_free n Tree.no_formulas h = h
  formulas_free n (Tree.with_formula f fs) h = formulas_free (after_formula n f) fs (formula_free n f h)

pub free_below : (f : Tree.Formula) → length (after_formula no_variables f).variables ≤ 256 → All (λ v. v < 256) (after_formula no_variables f).free
free_below f few = more_below (length (after_formula no_variables f).variables) 256 (after_formula no_variables f).free few (formula_free no_variables f (All-nil (λ v. v < 0)))

-- one more quantifier around the rest
pub last_over : (vs : List ℕ) (place : ℕ) → place < length vs → reverse (take (place + 1) vs) ≡ get_or vs place 0 ∷ reverse (take place vs)
last_over vs place below = ap reverse (take_more vs place 0 below) ∙ reverse-append (take place vs) (get_or vs place 0 ∷ [])

-- a term has no more variables than all terms
pub few_term : (n m : Naming) (t : Arg) (ts rest : List Arg) → after_terms n rest ≡ m → rest ≡ t ∷ ts → length m.variables ≤ 256 → length (after_term n t).variables ≤ 256
few_term n m t ts rest e split h =
    let grows = terms_grow (after_term n t) ts in
    let same : after_terms (after_term n t) ts ≡ m = sym (ap (after_terms n) split) ∙ e in
    let count = ap (λ (k : Naming). length k.variables) same in
    omega arith

pub number_few : (n : Naming) (arg : Arg) (name : Name) (type : Option Name) (k : ℕ) → arg ≡ Variable name type → k ≡ number_of n name.text → length (after_term n arg).variables ≤ 256 → k < 256
number_few n arg name type k e is h =
    let few : length (noticed n name).variables ≤ 256 = subst (λ a. IsFew (after_term n a)) e h in
    let below = number_within n name in
    omega arith

-- behind a quantifier: the program's bound variables are its own and those outside
module _ (old new : Program) (binders : List Binder) (f : Tree.Formula) (e : naming_of new ≡ after_formula (entered (naming_of old) binders) f) where
  pub bound_behind : reverse new.bound.items ≡ (bound_by (at_quantifier (naming_of old)) binders).own ++ (naming_of old).bound
  bound_behind = ap (λ (k : Naming). k.bound) e ∙ after_formula-bound (entered (naming_of old) binders) f

  pub outside_within : (outside : ℕ) → outside ≡ length (naming_of old).bound → outside ≤ length new.bound.items
  outside_within outside is =
      let a = ap length bound_behind in
      let b = length-reverse new.bound.items in
      let d = length-append (bound_by (at_quantifier (naming_of old)) binders).own (naming_of old).bound in
      omega arith

  pub own_few : (outside : ℕ) → outside ≡ length (naming_of old).bound → length (after_formula (entered (naming_of old) binders) f).variables ≤ 256 → All (λ v. v < 256) (reverse (drop outside new.bound.items))
  own_few outside is few =
      All-same (λ v. v < 256) (reverse (drop outside new.bound.items)) (bound_by (at_quantifier (naming_of old)) binders).own
      (own_from new.bound.items (bound_by (at_quantifier (naming_of old)) binders).own (naming_of old).bound bound_behind outside is) (quantifier_below (naming_of old) binders f few)

pub below_reversed : (vs : List ℕ) → All (λ v. v < 256) vs → All (λ v. v < 256) (reverse vs)
below_reversed [] h = h
below_reversed (v ∷ vs) h =
    All-same (λ v. v < 256) (reverse (v ∷ vs)) (reverse vs ++ v ∷ []) (reverse-append (v ∷ []) vs) (All-push (λ v. v < 256) (reverse vs) v (below_reversed vs (All-tail (λ v. v < 256) v vs h)) (All-head (λ v. v < 256) v vs h))
