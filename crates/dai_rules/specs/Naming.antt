-- The variables of a formula, or of an update with its right side. Each gets a number, in the order in which they
-- first occur. A bound variable lives in its quantifier's body, and an inner quantifier may bind its name again;
-- a free variable lives in the whole.
use Rattle.std.specs.Prelude.{ℕ, Bool, false, List, [], ◌∷◌, ◌++◌, length, Option, Some, None, slice_get, find, unwrap_or}
use Rattle.std.specs.Option.{option_map_or}
use Rattle.dai_syntax.specs.declared.tree.Name.{Name}
use Rattle.dai_syntax.specs.declared.tree.Binder.{Binder}
use Rattle.dai_syntax.specs.declared.tree.Arg.{Arg}
use Rattle.dai_syntax.specs.declared.tree.Arg.TheVariants.{Variable, Symbol}
use Rattle.dai_syntax.specs.Tree.{Formula, truth, atom, comparison, negation, conjunction, disjunction, equivalence, implication, quantified, Formulas, no_formulas, with_formula}
use Rattle.dai_rules.specs.Names.{same_text}

-- the variables so far, each as the name at its first occurrence; the numbers of the bound ones in scope,
-- innermost first; and those of the free ones, in order
pub record Naming : Type 0 where
  pub variables : List Name
  pub bound : List ℕ
  pub free : List ℕ

abbrev pub no_variables : Naming
no_variables = record { variables = []; bound = []; free = [] }

-- whether the variable of this number has the name
abbrev pub is_called : List Name → List ℕ → ℕ → Bool
is_called variables x number = option_map_or (λ (name : Name). same_text x name.text) (slice_get variables number) false

-- the variable that the name stands for
abbrev pub variable_in : Naming → List ℕ → Option ℕ
variable_in n x = find (is_called n.variables x) (n.bound ++ n.free)

-- the number of the variable: that of a known one, or else the next
abbrev pub number_of : Naming → List ℕ → ℕ
number_of n x = unwrap_or (variable_in n x) (length n.variables)

-- after an occurrence: a name that stood for no variable is a new free one
abbrev pub noticed_as : Naming → Name → Option ℕ → Naming
noticed_as n name (Some number) = n
noticed_as n name None = record n { variables = n.variables ++ name ∷ []; free = n.free ++ length n.variables ∷ [] }

abbrev pub noticed : Naming → Name → Naming
noticed n name = noticed_as n name (variable_in n name.text)

-- The variables that one quantifier binds, innermost first. One that it binds twice is one variable.
pub record Binding : Type 0 where
  pub variables : List Name
  pub own : List ℕ

abbrev pub own_number : Binding → Binder → ℕ
own_number b binder = unwrap_or (find (is_called b.variables binder.name.text) b.own) (length b.variables)

abbrev pub bound_as : Binding → Binder → Option ℕ → Binding
bound_as b binder (Some number) = b
bound_as b binder None = record { variables = b.variables ++ binder.name ∷ []; own = length b.variables ∷ b.own }

abbrev pub bound_with : Binding → Binder → Binding
bound_with b binder = bound_as b binder (find (is_called b.variables binder.name.text) b.own)

abbrev pub bound_by : Binding → List Binder → Binding
bound_by b [] = b
bound_by b (binder ∷ binders) = bound_by (bound_with b binder) binders

abbrev pub at_quantifier : Naming → Binding
at_quantifier n = record { variables = n.variables; own = [] }

-- inside a quantifier with these variables, and behind it again
abbrev pub with_binding : Naming → Binding → Naming
with_binding n b = record n { variables = b.variables; bound = b.own ++ n.bound }

abbrev pub entered : Naming → List Binder → Naming
entered n binders = with_binding n (bound_by (at_quantifier n) binders)

abbrev pub left : Naming → Naming → Naming
left outside n = record n { bound = outside.bound }

-- after a term, and after several
abbrev pub after_term : Naming → Arg → Naming
after_term n (Variable name type) = noticed n name
after_term n (Symbol name) = n

abbrev pub after_terms : Naming → List Arg → Naming
after_terms n [] = n
after_terms n (t ∷ ts) = after_terms (after_term n t) ts

-- after a formula
abbrev mutual
  pub after_formula : Naming → Formula → Naming
  after_formula n (truth b) = n
  after_formula n (atom name args) = after_terms n args
  after_formula n (comparison a op b) = after_term (after_term n a) b
  after_formula n (negation f) = after_formula n f
  after_formula n (conjunction fs) = after_formulas n fs
  after_formula n (disjunction fs) = after_formulas n fs
  after_formula n (equivalence fs) = after_formulas n fs
  after_formula n (implication f g) = after_formula (after_formula n f) g
  after_formula n (quantified universal binders f at) = left n (after_formula (entered n binders) f)

  pub after_formulas : Naming → Formulas → Naming
  after_formulas n no_formulas = n
  after_formulas n (with_formula f fs) = after_formulas (after_formula n f) fs
