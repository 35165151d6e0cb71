-- The variables of a formula are bound once each, and a target has each of its variables once: the numbers of
-- variables, weighed in any way, are those below the count.
use Rattle.std.proofs.Common.{◌≡◌, ℕ, zero, suc, ◌+◌, ◌≤◌, ◌<◌, Bool, true, false, cond, List, [], ◌∷◌, ◌++◌, length, Option, Some, None, ap, sym, ◌∙◌, refl, subst, arith, rules, length-append}
use Rattle.std.specs.Prelude.{◌||◌, if◌then◌else◌, reverse, find, unwrap_or, slice_index, nat_eq}
use Rattle.std.specs.List.{AllByRecursion, Contains, IsDistinct, list_any}
use Rattle.std.proofs.lemmas.Bool.{eqb-true}
use Rattle.std.proofs.lemmas.List.{reverse-append}
use Rattle.dai_model.specs.Formula as Model
use Rattle.dai_model.specs.Profile.{bound_variables, bound_variables_of_each, target_variables, BindsOnce}
use Rattle.dai_syntax.specs.declared.tree.Name.{Name}
use Rattle.dai_syntax.specs.declared.tree.Arg.{Arg}
use Rattle.dai_syntax.specs.declared.tree.Arg.TheVariants.{Variable, Symbol}
use Rattle.dai_syntax.specs.declared.tree.Binder.{Binder}
use Rattle.dai_syntax.specs.declared.tree.Op.{Op}
use Rattle.dai_syntax.specs.declared.tree.Op.TheVariants.{Equal, Unequal, Less, LessEqual}
use Rattle.dai_syntax.specs.Tree.{Formula, truth, atom, comparison, negation, conjunction, disjunction, equivalence, implication, quantified, Formulas, no_formulas, with_formula}
use Rattle.dai_rules.specs.Names.{same_text, is_named, is_declared_by}
use Rattle.dai_rules.specs.Naming.{Naming, no_variables, is_called, variable_in, number_of, noticed, noticed_as, Binding, bound_as, bound_with, bound_by, at_quantifier, entered, after_term, after_terms, after_formula, after_formulas}
use Rattle.dai_rules.specs.Sites.{argument_at, arguments_at, place_of}
use Rattle.dai_rules.specs.Rules.{is_variable_of, repeats, at_if, breaks_31}
use Rattle.dai_rules.proofs.Members.{in_head, in_tail}
use Rattle.dai_sorts.specs.Scopes.{Scope, term_in, terms_in, symbol_term, term_among, term_beside}
use Rattle.dai_sorts.specs.Formulas.{compared, over_one, over, formula_in, formulas_in}
use Rattle.dai_sorts.specs.Sound.{AreUnbroken}

-- sums over lists, and over the numbers below a count
abbrev pub weigh : {X : Type 0} → (X → ℕ) → List X → ℕ
weigh w [] = 0
weigh w (x ∷ xs) = w x + weigh w xs

abbrev pub total : (ℕ → ℕ) → ℕ → ℕ
total w zero = 0
total w (suc k) = w k + total w k

pub weigh-append : {X : Type 0} (w : X → ℕ) (xs ys : List X) → weigh w (xs ++ ys) ≡ weigh w xs + weigh w ys
weigh-append w [] ys = omega arith
weigh-append w (x ∷ xs) ys = let e = weigh-append w xs ys in omega arith

weigh-reverse : (w : ℕ → ℕ) (xs : List ℕ) → weigh w (reverse xs) ≡ weigh w xs
weigh-reverse w [] = refl
weigh-reverse w (x ∷ xs) =
    let e : weigh w (reverse (x ∷ xs)) ≡ weigh w (reverse xs ++ x ∷ []) = ap (weigh w) (reverse-append (x ∷ []) xs) in
    let k : weigh w (reverse xs ++ x ∷ []) ≡ weigh w (reverse xs) + (w x + 0) = weigh-append w (reverse xs) (x ∷ []) in
    let m = weigh-reverse w xs in
    omega arith

total-push : (w : ℕ → ℕ) (names : List Name) (name : Name) → total w (length (names ++ name ∷ [])) ≡ w (length names) + total w (length names)
total-push w names name =
    let e = length-append names (name ∷ []) in
    let k : length (names ++ name ∷ []) ≡ suc (length names) = omega arith in
    ap (total w) k

pub weigh-ones : {X : Type 0} (xs : List X) → weigh (λ x. 1) xs ≡ length xs
weigh-ones [] = refl
weigh-ones (x ∷ xs) = let e = weigh-ones xs in omega arith

total-ones : (k : ℕ) → total (λ x. 1) k ≡ k
total-ones zero = refl
total-ones (suc k) = let e = total-ones k in omega arith

-- elements that each stand at most once are distinct
abbrev pub bit : Bool → ℕ
bit true = 1
bit false = 0

abbrev pub ones : {X : Type 0} → (X → X → Bool) → X → X → ℕ
ones same x y = bit (same x y)

apart_by : (b : Bool) (rest : ℕ) → bit b + rest ≡ 0 → (b ≡ false) × (rest ≡ 0)
apart_by true rest e = absurd (omega arith)
apart_by false rest e = (refl, omega arith)

apart : {X : Type 0} (same : X → X → Bool) (x : X) (xs : List X) → weigh (ones same x) xs ≡ 0 → AllByRecursion (λ y. same x y ≡ false) xs
apart same x [] e = tt
apart same x (y ∷ ys) e = let k = apart_by (same x y) (weigh (ones same x) ys) e in (k.0, apart same x ys k.1)

none_left : (b : Bool) (n : ℕ) → b ≡ true → bit b + n ≤ 1 → n ≡ 0
none_left true n e h = omega arith
none_left false n e h = absurd (let k : ⊥ = cc in k)

pub distinct_by : {X : Type 0} (same : X → X → Bool) (xs : List X) → ((x : X) → same x x ≡ true) → ((x : X) → weigh (ones same x) xs ≤ 1) → IsDistinct same xs
unfolding IsDistinct
distinct_by same [] itself h = tt
distinct_by same (x ∷ xs) itself h = (
  apart same x xs (none_left (same x x) (weigh (ones same x) xs) (itself x) (h x)),
  distinct_by same xs itself (λ y. let m : bit (same y x) + weigh (ones same y) xs ≤ 1 = h y in omega arith),
)

nat_eq-itself : (n : ℕ) → nat_eq n n ≡ true
nat_eq-itself n = search rules

unequal : (u k : ℕ) → k < u → nat_eq u k ≡ false
unequal u k h = search rules

bit_false : (b : Bool) (n : ℕ) → b ≡ false → n ≡ 0 → bit b + n ≡ 0
bit_false true n e h = absurd (let k : ⊥ = cc in k)
bit_false false n e h = omega arith

total-none : (u k : ℕ) → k ≤ u → total (ones nat_eq u) k ≡ 0
total-none u zero h = refl
total-none u (suc k) h = bit_false (nat_eq u k) (total (ones nat_eq u) k) (unequal u k (omega arith)) (total-none u k (omega arith))

one_by : (b : Bool) (n : ℕ) → (b ≡ true → n ≡ 0) → n ≤ 1 → bit b + n ≤ 1
one_by true n none h = let k = none refl in omega arith
one_by false n none h = omega arith

total-one : (u k : ℕ) → total (ones nat_eq u) k ≤ 1
total-one u zero = omega arith
total-one u (suc k) = one_by (nat_eq u k) (total (ones nat_eq u) k) (λ e. let same : u ≡ k = eqb-true u k e in total-none u k (omega arith)) (total-one u k)

pub binds_once : (vs : List ℕ) (count : ℕ) → count ≤ 12 → ((w : ℕ → ℕ) → weigh w vs ≡ total w count) → BindsOnce vs
binds_once vs count few h = record {
  once = distinct_by nat_eq vs nat_eq-itself (λ u. let e = h (ones nat_eq u) in let k = total-one u count in omega arith);
  few = (let e = h (λ x. 1) in let a = weigh-ones vs in let b = total-ones count in omega arith);
}

-- the variables that are new between two namings are the new free ones and those that are bound
abbrev pub Numbers : (ℕ → ℕ) → Naming → Naming → List ℕ → Type 0
Numbers w before after bound = weigh w after.free + weigh w bound + total w (length before.variables) ≡ weigh w before.free + total w (length after.variables)

numbers_both : (w : ℕ → ℕ) (a b c : Naming) (xs ys : List ℕ) → Numbers w a b xs → Numbers w b c ys → Numbers w a c (xs ++ ys)
numbers_both w a b c xs ys h k = let e = weigh-append w xs ys in omega arith

numbers_same : (w : ℕ → ℕ) (n : Naming) → Numbers w n n []
numbers_same w n = omega arith

numbers_noticed : (w : ℕ → ℕ) (n : Naming) (name : Name) (o : Option ℕ) → Numbers w n (noticed_as n name o) []
numbers_noticed w n name (Some number) = numbers_same w n
numbers_noticed w n name None =
    let a : weigh w (n.free ++ length n.variables ∷ []) ≡ weigh w n.free + (w (length n.variables) + 0) = weigh-append w n.free (length n.variables ∷ []) in
    let b = total-push w n.variables name in
    omega arith

numbers_term : (w : ℕ → ℕ) (n : Naming) (t : Arg) → Numbers w n (after_term n t) []
numbers_term w n (Variable name type) = numbers_noticed w n name (variable_in n name.text)
numbers_term w n (Symbol name) = numbers_same w n

numbers_terms : (w : ℕ → ℕ) (n : Naming) (ts : List Arg) → Numbers w n (after_terms n ts) []
numbers_terms w n [] = numbers_same w n
numbers_terms w n (t ∷ ts) = numbers_both w n (after_term n t) (after_terms (after_term n t) ts) [] [] (numbers_term w n t) (numbers_terms w (after_term n t) ts)

binding_one : (w : ℕ → ℕ) (b : Binding) (binder : Binder) (o : Option ℕ) → weigh w (bound_as b binder o).own + total w (length b.variables) ≡ weigh w b.own + total w (length (bound_as b binder o).variables)
binding_one w b binder (Some number) = refl
binding_one w b binder None = let e = total-push w b.variables binder.name in omega arith

binding_all : (w : ℕ → ℕ) (b : Binding) (binders : List Binder) → weigh w (bound_by b binders).own + total w (length b.variables) ≡ weigh w b.own + total w (length (bound_by b binders).variables)
binding_all w b [] = refl
binding_all w b (binder ∷ binders) =
    let one : weigh w (bound_with b binder).own + total w (length b.variables) ≡ weigh w b.own + total w (length (bound_with b binder).variables) = binding_one w b binder (find (is_called b.variables binder.name.text) b.own) in
    let rest = binding_all w (bound_with b binder) binders in
    omega arith

over_one_binds : (w : ℕ → ℕ) (u : Bool) (v type : ℕ) (g : Model.Formula) → weigh w (bound_variables (over_one u v type g)) ≡ w v + weigh w (bound_variables g)
over_one_binds w true v type g = refl
over_one_binds w false v type g = refl

over_binds : (w : ℕ → ℕ) (u : Bool) (types vs : List ℕ) (g : Model.Formula) → weigh w (bound_variables (over u types vs g)) ≡ weigh w vs + weigh w (bound_variables g)
over_binds w u types [] g = omega arith
over_binds w u types (v ∷ vs) g =
    let rest = over_binds w u types vs (over_one u v (slice_index types v) g) in
    let one = over_one_binds w u v (slice_index types v) g in
    omega arith

compared_binds : (op : Op) (a b : Model.Term) → [] ≡ bound_variables (compared op a b)
compared_binds Equal a b = refl
compared_binds Unequal a b = refl
compared_binds Less a b = refl
compared_binds LessEqual a b = refl

mutual
  numbers_formula : (w : ℕ → ℕ) (scope : Scope) (types : List ℕ) (n : Naming) (f : Formula) → Numbers w n (after_formula n f) (bound_variables (formula_in scope types n f))
  numbers_formula w scope types n (truth b) = numbers_same w n
  numbers_formula w scope types n (atom name args) = numbers_terms w n args
  numbers_formula w scope types n (comparison a op b) =
      subst (Numbers w n (after_term (after_term n a) b)) (compared_binds op (term_in scope n a) (term_in scope (after_term n a) b))
      (numbers_both w n (after_term n a) (after_term (after_term n a) b) [] [] (numbers_term w n a) (numbers_term w (after_term n a) b))
  numbers_formula w scope types n (negation f) = numbers_formula w scope types n f
  numbers_formula w scope types n (conjunction fs) = numbers_formulas w scope types n fs
  numbers_formula w scope types n (disjunction fs) = numbers_formulas w scope types n fs
  numbers_formula w scope types n (equivalence fs) = numbers_formulas w scope types n fs
  numbers_formula w scope types n (implication f g) =
      numbers_both w n (after_formula n f) (after_formula (after_formula n f) g) (bound_variables (formula_in scope types n f)) (bound_variables (formula_in scope types (after_formula n f) g))
      (numbers_formula w scope types n f) (numbers_formula w scope types (after_formula n f) g)
  numbers_formula w scope types n (quantified universal binders f at) =
      let b = bound_by (at_quantifier n) binders in
      let inside = entered n binders in
      let after = after_formula inside f in
      let g = formula_in scope types inside f in
      let own : weigh w b.own + total w (length n.variables) ≡ 0 + total w (length b.variables) = binding_all w (at_quantifier n) binders in
      let inner : weigh w after.free + weigh w (bound_variables g) + total w (length b.variables) ≡ weigh w n.free + total w (length after.variables) = numbers_formula w scope types inside f in
      let all : weigh w (bound_variables (over universal types b.own g)) ≡ weigh w b.own + weigh w (bound_variables g) = over_binds w universal types b.own g in
      let goal : weigh w after.free + weigh w (bound_variables (over universal types b.own g)) + total w (length n.variables) ≡ weigh w n.free + total w (length after.variables) = omega arith in
      goal

  numbers_formulas : (w : ℕ → ℕ) (scope : Scope) (types : List ℕ) (n : Naming) (fs : Formulas) → Numbers w n (after_formulas n fs) (bound_variables_of_each (formulas_in scope types n fs))
  numbers_formulas w scope types n no_formulas = numbers_same w n
  numbers_formulas w scope types n (with_formula f fs) =
      numbers_both w n (after_formula n f) (after_formulas (after_formula n f) fs) (bound_variables (formula_in scope types n f)) (bound_variables_of_each (formulas_in scope types (after_formula n f) fs))
      (numbers_formula w scope types n f) (numbers_formulas w scope types (after_formula n f) fs)

-- a formula with its free variables bound around it
pub sentence_binds : (scope : Scope) (types : List ℕ) (f : Formula) → length (after_formula no_variables f).variables ≤ 12
    → BindsOnce (bound_variables (over true types (reverse (after_formula no_variables f).free) (formula_in scope types no_variables f)))
sentence_binds scope types f few =
    let after = after_formula no_variables f in
    let g = formula_in scope types no_variables f in
    binds_once (bound_variables (over true types (reverse after.free) g)) (length after.variables) few
    (λ w.
    let all : weigh w (bound_variables (over true types (reverse after.free) g)) ≡ weigh w (reverse after.free) + weigh w (bound_variables g) = over_binds w true types (reverse after.free) g in
    let back : weigh w (reverse after.free) ≡ weigh w after.free = weigh-reverse w after.free in
    let inner : weigh w after.free + weigh w (bound_variables g) + 0 ≡ 0 + total w (length after.variables) = numbers_formula w scope types no_variables f in
    omega arith)

-- targets: a symbol is no variable
abbrev pub IsFixed : Model.Term → Type 0
IsFixed t = (rest : List Model.Term) → target_variables (t ∷ rest) ≡ target_variables rest

fixed_beside : (scope : Scope) (x : List ℕ) (o : Option Model.Term) → ((t : Model.Term) → o ≡ Some t → IsFixed t) → IsFixed (term_beside scope x o)
fixed_beside scope x None h = λ rest. refl
fixed_beside scope x (Some t) h = fixed_either (is_declared_by scope.context x) (Model.individual _) t (λ rest. refl) (h t refl)
  where
    fixed_either : (b : Bool) (s t : Model.Term) → IsFixed s → IsFixed t → IsFixed (if b then s else t)
    fixed_either true s t h k = h
    fixed_either false s t h k = k

fixed_among : (bs : List Binder) (ts : List Model.Term) (x : List ℕ) → AllByRecursion IsFixed ts → (t : Model.Term) → term_among bs ts x ≡ Some t → IsFixed t
fixed_among [] ts x h t e = absurd (let k : ⊥ = cc in k)
fixed_among (b ∷ bs) [] x h t e = absurd (let k : ⊥ = cc in k)
fixed_among (b ∷ bs) (s ∷ ts) x h t e = first_or (is_named x b) s (term_among bs ts x) t h.0 (fixed_among bs ts x h.1 t) e
  where
    first_or : (b : Bool) (s : Model.Term) (o : Option Model.Term) (t : Model.Term) → IsFixed s → (o ≡ Some t → IsFixed t) → (if b then Some s else o) ≡ Some t → IsFixed t
    first_or true s o t h k e = let same : s ≡ t = cc in subst IsFixed same h
    first_or false s o t h k e = k e

fixed_symbol : (scope : Scope) (x : List ℕ) → AllByRecursion IsFixed scope.terms → IsFixed (symbol_term scope x)
fixed_symbol scope x h = fixed_beside scope x (term_among scope.context.inside scope.terms x) (fixed_among scope.context.inside scope.terms x h)

-- the variables of a naming have only names of the arguments before
abbrev Knows : List Arg → Naming → Type 0
Knows before n = (x : List ℕ) → list_any (is_variable_of x) before ≡ false → (v : ℕ) → is_called n.variables x v ≡ false

or_false : (a b : Bool) → (a || b) ≡ false → (a ≡ false) × (b ≡ false)
or_false true b e = absurd (let k : ⊥ = cc in k)
or_false false b e = (refl, e)

any_apart : {X : Type 0} (p : X → Bool) (xs : List X) (y : X) → list_any p (xs ++ y ∷ []) ≡ false → (list_any p xs ≡ false) × (p y ≡ false)
any_apart p [] y e = (refl, (or_false (p y) false e).0)
any_apart p (x ∷ xs) y e =
    let k = or_false (p x) (list_any p (xs ++ y ∷ [])) e in
    let rest = any_apart p xs y k.1 in
    ((λ i. k.0 i || rest.0 i), rest.1)

called_push : (names : List Name) (name : Name) (x : List ℕ) (v : ℕ) → ((u : ℕ) → is_called names x u ≡ false) → same_text x name.text ≡ false → is_called (names ++ name ∷ []) x v ≡ false
called_push [] name x zero h e = e
called_push [] name x (suc v) h e = refl
called_push (y ∷ names) name x zero h e = h 0
called_push (y ∷ names) name x (suc v) h e = called_push names name x v (λ u. h (suc u)) e

find_none : (p : ℕ → Bool) (xs : List ℕ) → ((v : ℕ) → p v ≡ false) → find p xs ≡ None
find_none p [] h = refl
find_none p (x ∷ xs) h = ap (λ b. cond b (Some x) (find p xs)) (h x) ∙ find_none p xs h

no_repeat : (before : List Arg) (t : Arg) (ts : List Arg) (b : Bool) → repeats before t ≡ b → AreUnbroken (argument_at before t ∷ arguments_at (before ++ t ∷ []) ts) → b ≡ false
no_repeat before t ts true e h =
    absurd (h (argument_at before t) (in_head (argument_at before t) (arguments_at (before ++ t ∷ []) ts)) 31 (place_of t) (breaks_31 refl (subst (λ b. Contains (at_if b (place_of t)) (place_of t)) (sym e) (in_head (place_of t) []))))
no_repeat before t ts false e h = refl

module _ (w : ℕ → ℕ) (scope : Scope) (fixed : AllByRecursion IsFixed scope.terms) where
  target_numbers : (before : List Arg) (n : Naming) (ts : List Arg) → Knows before n → AreUnbroken (arguments_at before ts)
      → weigh w (target_variables (terms_in scope n ts)) + total w (length n.variables) ≡ total w (length (after_terms n ts).variables)
  target_numbers before n [] knows h = omega arith
  target_numbers before n (Symbol name ∷ ts) knows h =
      let same : weigh w (target_variables (symbol_term scope name.text ∷ terms_in scope n ts)) ≡ weigh w (target_variables (terms_in scope n ts)) = ap (weigh w) (fixed_symbol scope name.text fixed (terms_in scope n ts)) in
      let rest : weigh w (target_variables (terms_in scope n ts)) + total w (length n.variables) ≡ total w (length (after_terms n ts).variables) =
      target_numbers (before ++ Symbol name ∷ []) n ts (λ x e v. knows x (any_apart (is_variable_of x) before (Symbol name) e).0 v)
      (λ s there. h s (in_tail (argument_at before (Symbol name)) (arguments_at (before ++ Symbol name ∷ []) ts) s there)) in
      let goal : weigh w (target_variables (symbol_term scope name.text ∷ terms_in scope n ts)) + total w (length n.variables) ≡ total w (length (after_terms n ts).variables) = omega arith in
      goal
  target_numbers before n (Variable name type ∷ ts) knows h =
      let t = Variable name type in
      let new : list_any (is_variable_of name.text) before ≡ false = no_repeat before t ts (repeats before t) refl h in
      let none : variable_in n name.text ≡ None = find_none (is_called n.variables name.text) (n.bound ++ n.free) (knows name.text new) in
      let number : number_of n name.text ≡ length n.variables = ap (λ o. unwrap_or o (length n.variables)) none in
      let after : noticed n name ≡ noticed_as n name None = ap (noticed_as n name) none in
      let knows_more : Knows (before ++ t ∷ []) (noticed n name) =
      subst (Knows (before ++ t ∷ [])) (sym after) (λ x e v. let k = any_apart (is_variable_of x) before t e in called_push n.variables name x v (knows x k.0) k.1) in
      let rest : weigh w (target_variables (terms_in scope (noticed n name) ts)) + total w (length (noticed n name).variables) ≡ total w (length (after_terms (noticed n name) ts).variables) =
      target_numbers (before ++ t ∷ []) (noticed n name) ts knows_more (λ s there. h s (in_tail (argument_at before t) (arguments_at (before ++ t ∷ []) ts) s there)) in
      let more : total w (length (noticed n name).variables) ≡ w (length n.variables) + total w (length n.variables) = ap (λ (m : Naming). total w (length m.variables)) after ∙ total-push w n.variables name in
      let here : w (number_of n name.text) ≡ w (length n.variables) = ap w number in
      let goal : (w (number_of n name.text) + weigh w (target_variables (terms_in scope (noticed n name) ts))) + total w (length n.variables) ≡ total w (length (after_terms (noticed n name) ts).variables) = omega arith in
      goal

pub target_binds : (scope : Scope) (args : List Arg) → AllByRecursion IsFixed scope.terms → AreUnbroken (arguments_at [] args) → length (after_terms no_variables args).variables ≤ 12
    → BindsOnce (target_variables (terms_in scope no_variables args))
target_binds scope args fixed h few =
    binds_once (target_variables (terms_in scope no_variables args)) (length (after_terms no_variables args).variables) few
    (λ w.
    let k : weigh w (target_variables (terms_in scope no_variables args)) + 0 ≡ total w (length (after_terms no_variables args).variables) = target_numbers w scope fixed [] no_variables args (λ x e v. refl) h in
    omega arith)
