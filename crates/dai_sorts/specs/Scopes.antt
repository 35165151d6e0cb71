-- What the names of a file stand for in its protocol. The types, the relations and the individuals are numbered in
-- order of declaration, each kind from 0. In a block the parameters have their numbers, and so have the locals.
use Rattle.std.specs.Prelude.{ℕ, ◌+◌, Bool, true, false, List, [], ◌∷◌, ◌++◌, Option, Some, None, if◌then◌else◌}
use Rattle.dai_syntax.specs.declared.tree.Binder.{Binder}
use Rattle.dai_syntax.specs.declared.tree.Arg.{Arg}
use Rattle.dai_syntax.specs.declared.tree.Arg.TheVariants.{Variable, Symbol}
use Rattle.dai_syntax.specs.Tree.{Declaration, sort, relation, individual, axiom_of, init, action, export, invariant}
use Rattle.dai_model.specs.Formula as Model
use Rattle.dai_rules.specs.Names.{declares, type_of, Context, is_named, is_declared_by, with_inside}
use Rattle.dai_rules.specs.Naming.{Naming, number_of, after_term}
use Rattle.dai_rules.specs.Sites.{context_at}

abbrev pub is_type : Declaration → Bool
is_type (sort name ordered) = true
is_type (relation name arguments) = false
is_type (individual name type) = false
is_type (axiom_of f at) = false
is_type (init body) = false
is_type (action name parameters body exported) = false
is_type (export name) = false
is_type (invariant label f at) = false

abbrev pub is_relation : Declaration → Bool
is_relation (sort name ordered) = false
is_relation (relation name arguments) = true
is_relation (individual name type) = false
is_relation (axiom_of f at) = false
is_relation (init body) = false
is_relation (action name parameters body exported) = false
is_relation (export name) = false
is_relation (invariant label f at) = false

abbrev pub is_individual : Declaration → Bool
is_individual (sort name ordered) = false
is_individual (relation name arguments) = false
is_individual (individual name type) = true
is_individual (axiom_of f at) = false
is_individual (init body) = false
is_individual (action name parameters body exported) = false
is_individual (export name) = false
is_individual (invariant label f at) = false

-- how many declarations of a kind stand before the first one of the name
abbrev pub number_among : (Declaration → Bool) → List Declaration → List ℕ → ℕ
number_among of_kind [] x = 0
number_among of_kind (d ∷ ds) x = if declares x d then 0 else (if of_kind d then 1 else 0) + number_among of_kind ds x

abbrev pub type_number : List Declaration → List ℕ → ℕ
type_number = number_among is_type

abbrev pub relation_number : List Declaration → List ℕ → ℕ
relation_number = number_among is_relation

abbrev pub individual_number : List Declaration → List ℕ → ℕ
individual_number = number_among is_individual

-- the type of a parameter, a local or an argument
abbrev pub binder_type : List Declaration → Binder → ℕ
binder_type ds b = type_number ds (type_of b).text

-- where a formula or a statement stands, and the terms that the parameters and locals in scope stand for
pub record Scope : Type 0 where
  pub context : Context
  pub terms : List Model.Term

-- outside of all blocks, in the declaration at this place
abbrev pub scope_at : List Declaration → ℕ → Scope
scope_at ds here = record { context = context_at ds here; terms = [] }

-- with further parameters or locals in scope
abbrev pub with_terms : Scope → List Binder → List Model.Term → Scope
with_terms scope binders terms = record { context = with_inside scope.context (scope.context.inside ++ binders); terms = scope.terms ++ terms }

-- so many parameters, or locals, from this number on
abbrev pub parameters_from : ℕ → List Binder → List Model.Term
parameters_from next [] = []
parameters_from next (b ∷ bs) = Model.parameter next ∷ parameters_from (next + 1) bs

abbrev pub choices_from : ℕ → List Binder → List Model.Term
choices_from next [] = []
choices_from next (b ∷ bs) = Model.choice next ∷ choices_from (next + 1) bs

-- the term of the first parameter or local of the name
abbrev pub term_among : List Binder → List Model.Term → List ℕ → Option Model.Term
term_among [] ts x = None
term_among (b ∷ bs) [] x = None
term_among (b ∷ bs) (t ∷ ts) x = if is_named x b then Some t else term_among bs ts x

-- A name that stands as a term: a parameter or local, or an individual. Of both the one that is earlier in the file
-- counts.
abbrev pub term_beside : Scope → List ℕ → Option Model.Term → Model.Term
term_beside scope x None = Model.individual (individual_number scope.context.declarations x)
term_beside scope x (Some t) = if is_declared_by scope.context x then Model.individual (individual_number scope.context.declarations x) else t

abbrev pub symbol_term : Scope → List ℕ → Model.Term
symbol_term scope x = term_beside scope x (term_among scope.context.inside scope.terms x)

-- a term, and several in order
abbrev pub term_in : Scope → Naming → Arg → Model.Term
term_in scope n (Variable name type) = Model.variable (number_of n name.text)
term_in scope n (Symbol name) = symbol_term scope name.text

abbrev pub terms_in : Scope → Naming → List Arg → List Model.Term
terms_in scope n [] = []
terms_in scope n (t ∷ ts) = term_in scope n t ∷ terms_in scope (after_term n t) ts
