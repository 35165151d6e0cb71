-- The variable that a name stands for.
use Rattle.std.proofs.Common.{◌≡◌, ℕ, List, [], ◌∷◌, ◌++◌, refl, Option, Some, None, ◌≤◌, arith, map, take, drop, length, ap, sym, ◌∙◌}
use Rattle.std.specs.Borrow.{Bor}
use Rattle.std.specs.Prelude.{find, reverse}
use Rattle.dai_syntax.specs.declared.tree.Name.{Name}
use Rattle.dai_syntax.specs.declared.tree.Arg.{Arg}
use Rattle.dai_syntax.specs.declared.tree.Arg.TheVariants.{Variable, Symbol}
use Rattle.dai_syntax.specs.Tree.{Formula, truth, atom, comparison, negation, conjunction, disjunction, equivalence, implication, quantified, Formulas, no_formulas, with_formula}
use Rattle.dai_rules.specs.declared.variables.Naming.{Naming as Program}
use Rattle.dai_rules.specs.Naming.{is_called, Naming, Binding, with_binding, variable_in, noticed_as, after_term, after_terms, after_formula, after_formulas}
use Rattle.dai_rules.specs.Views.{naming_of, binding_from}
use Rattle.std.proofs.lemmas.List.{reverse-append, reverse-reverse, length-reverse, length-append, take-append-drop}
use Rattle.std.proofs.Math.Seq.{drop-append_seam, take-append_seam}
use Rattle.dai_rules.proofs.Lists.{find-append_found, find-append_absent}

abbrev pub names_in : List (Bor Name) → List Name
names_in vs = map (λ (x : Bor Name). x.now) vs

pub bound_found : (vs ws : List (Bor Name)) (bs cs free : List ℕ) (x : List ℕ) (number : ℕ) → ws ≡ vs → cs ≡ bs → Some number ≡ find (is_called (names_in ws) x) (reverse cs) → Some number ≡ find (is_called (names_in vs) x) (reverse bs ++ free)
bound_found vs ws bs cs free x number e f h =
    sym (find-append_found (is_called (names_in vs) x) (reverse bs) free number (sym (h ∙ ap (λ vs. find (is_called (names_in vs) x) (reverse cs)) e ∙ ap (λ bs. find (is_called (names_in vs) x) (reverse bs)) f)))

pub free_found : (vs ws us : List (Bor Name)) (bs cs free frees : List ℕ) (x : List ℕ) (o : Option ℕ) → ws ≡ vs → cs ≡ bs → us ≡ vs → frees ≡ free → None ≡ find (is_called (names_in ws) x) (reverse cs)
    → o ≡ find (is_called (names_in us) x) frees → o ≡ find (is_called (names_in vs) x) (reverse bs ++ free)
free_found vs ws us bs cs free frees x o e f g k h found =
    found ∙ ap (λ vs. find (is_called (names_in vs) x) frees) g ∙ ap (find (is_called (names_in vs) x)) k
    ∙ sym (find-append_absent (is_called (names_in vs) x) (reverse bs) free (sym (h ∙ ap (λ vs. find (is_called (names_in vs) x) (reverse cs)) e ∙ ap (λ bs. find (is_called (names_in vs) x) (reverse bs)) f)))

-- the bound variables by the place where those of a quantifier begin
module _ (bound own outer : List ℕ) (is : reverse bound ≡ own ++ outer) where
  bound_is : bound ≡ reverse outer ++ reverse own
  bound_is = sym (reverse-reverse bound) ∙ ap reverse is ∙ reverse-append own outer

  pub own_from : (start : ℕ) → start ≡ length outer → reverse (drop start bound) ≡ own
  own_from start e =
      let n : start ≡ length (reverse outer) = e ∙ sym (length-reverse outer) in
      ap reverse (ap (λ k. drop k bound) n ∙ ap (drop (length (reverse outer))) bound_is ∙ drop-append_seam (reverse outer) (reverse own)) ∙ reverse-reverse own

  pub outer_to : (start : ℕ) → start ≡ length outer → reverse (take start bound) ≡ outer
  outer_to start e =
      let n : start ≡ length (reverse outer) = e ∙ sym (length-reverse outer) in
      ap reverse (ap (λ k. take k bound) n ∙ ap (take (length (reverse outer))) bound_is ∙ take-append_seam (reverse outer) (reverse own)) ∙ reverse-reverse outer

pub split_bound : (bound : List ℕ) (start : ℕ) → reverse bound ≡ reverse (drop start bound) ++ reverse (take start bound)
split_bound bound start = ap reverse (sym (take-append-drop start bound)) ∙ reverse-append (take start bound) (drop start bound)

-- the variables bound from the place on are those of the quantifier
pub binding_is : (old : Program) (start : ℕ) (n : Naming) (b : Binding) → start ≡ length n.bound → naming_of old ≡ with_binding n b → binding_from old start ≡ b
binding_is old start n b begins named =
    let own : reverse (drop start old.bound.items) ≡ b.own = own_from old.bound.items b.own n.bound (ap (λ (m : Naming). m.bound) named) start begins in
    λ i. record { variables = (named i).variables; own = own i }

pub bound_within : (old : Program) (start : ℕ) (n : Naming) (b : Binding) → start ≡ length n.bound → naming_of old ≡ with_binding n b → start ≤ length old.bound.items
bound_within old start n b begins named =
    let e = ap length (ap (λ (m : Naming). m.bound) named) in
    let k = length-reverse old.bound.items in
    let j = length-append b.own n.bound in
    omega arith

-- one more variable of a quantifier is bound
pub bound_next : (old new : Program) (start : ℕ) (n : Naming) (b b2 : Binding) → start ≡ length n.bound → naming_of old ≡ with_binding n b
    → (binding_from old start ≡ b → binding_from new start ≡ b2) → take start new.bound.items ≡ take start old.bound.items → new.free.items ≡ old.free.items → naming_of new ≡ with_binding n b2
bound_next old new start n b b2 begins named next outside free =
    let outer : reverse (take start old.bound.items) ≡ n.bound = outer_to old.bound.items b.own n.bound (ap (λ (m : Naming). m.bound) named) start begins in
    let e : binding_from new start ≡ b2 = next (binding_is old start n b begins named) in
    let whole : reverse new.bound.items ≡ b2.own ++ n.bound =
    split_bound new.bound.items start ∙ ap (λ (c : Binding). c.own ++ reverse (take start new.bound.items)) e ∙ ap (λ t. b2.own ++ reverse t) outside ∙ ap (λ t. b2.own ++ t) outer in
    λ i. record { variables = (e i).variables; bound = whole i; free = (free ∙ ap (λ (m : Naming). m.free) named) i }

-- an occurrence, a term and a formula leave the bound variables as they were
noticed_as-bound : (n : Naming) (name : Name) (o : Option ℕ) → (noticed_as n name o).bound ≡ n.bound
noticed_as-bound n name None = refl
noticed_as-bound n name (Some number) = refl

after_term-bound : (n : Naming) (t : Arg) → (after_term n t).bound ≡ n.bound
after_term-bound n (Variable name type) = noticed_as-bound n name (variable_in n name.text)
after_term-bound n (Symbol name) = refl

after_terms-bound : (n : Naming) (ts : List Arg) → (after_terms n ts).bound ≡ n.bound
after_terms-bound n [] = refl
after_terms-bound n (t ∷ ts) = after_terms-bound (after_term n t) ts ∙ after_term-bound n t

mutual
  pub after_formula-bound : (n : Naming) (f : Formula) → (after_formula n f).bound ≡ n.bound
  after_formula-bound n (truth b) = refl
  after_formula-bound n (atom name args) = after_terms-bound n args
  after_formula-bound n (comparison a op b) = after_term-bound (after_term n a) b ∙ after_term-bound n a
  after_formula-bound n (negation f) = after_formula-bound n f
  after_formula-bound n (conjunction fs) = after_formulas-bound n fs
  after_formula-bound n (disjunction fs) = after_formulas-bound n fs
  after_formula-bound n (equivalence fs) = after_formulas-bound n fs
  after_formula-bound n (implication f g) = after_formula-bound (after_formula n f) g ∙ after_formula-bound n f
  after_formula-bound n (quantified universal binders f at) = refl

  after_formulas-bound : (n : Naming) (fs : Formulas) → (after_formulas n fs).bound ≡ n.bound
  after_formulas-bound n no_formulas = refl
  after_formulas-bound n (with_formula f fs) = after_formulas-bound (after_formula n f) fs ∙ after_formula-bound n f
