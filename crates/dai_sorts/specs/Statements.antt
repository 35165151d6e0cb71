-- Which statements of the model the statements of a block stand for. The locals of a block are numbered in the order
-- in which they stand in the file; a `local` statement is what its body is.
use Rattle.std.specs.Prelude.{◌≡◌, ℕ, ◌+◌, List, [], ◌++◌, length}
use Rattle.dai_syntax.specs.declared.tree.Name.{Name}
use Rattle.dai_syntax.specs.declared.tree.Binder.{Binder}
use Rattle.dai_syntax.specs.declared.tree.Arg.{Arg}
use Rattle.dai_syntax.specs.Tree.{Formula, atom, Statement, requirement, assignment, conditional, with_locals, Statements, no_statements, with_statement}
use Rattle.dai_model.specs.Formula as Model
use Rattle.dai_rules.specs.Names.{Kind, a_relation, an_individual, a_local, neither, kind_in}
use Rattle.dai_rules.specs.Naming.{no_variables, after_terms, after_formula}
use Rattle.dai_rules.specs.Sites.{as_requirement, as_value, update_output}
use Rattle.dai_sorts.specs.Scopes.{Scope, with_terms, choices_from, relation_number, individual_number, symbol_term, terms_in}
use Rattle.dai_sorts.specs.Formulas.{formula_in, AreTypes, IsSentence}

-- the locals of statements, in order
abbrev mutual
  pub locals_of : Statement → List Binder
  locals_of (requirement f) = []
  locals_of (assignment name args f) = []
  locals_of (conditional f first second) = locals_in first ++ locals_in second
  locals_of (with_locals binders body) = binders ++ locals_in body

  pub locals_in : Statements → List Binder
  locals_in no_statements = []
  locals_in (with_statement s ss) = locals_of s ++ locals_in ss

-- several statements, and then others
abbrev pub joined : Model.Statements → Model.Statements → Model.Statements
joined Model.no_statements cs = cs
joined (Model.with_statement c rest) cs = Model.with_statement c (joined rest cs)

abbrev pub alone : Model.Statement → Model.Statements
alone c = Model.with_statement c Model.no_statements

-- an update of a relation: the target and the right side have their variables together
pub record UpdatesRelation (scope : Scope) (name : Name) (args : List Arg) (f : Formula) (c : Model.Statement) : Type 0 where
  pub types : List ℕ
  pub typed : AreTypes scope.context.declarations (after_formula (after_terms no_variables args) f).variables (update_output scope.context name args f).uses types
  pub same : c ≡ Model.update_relation (relation_number scope.context.declarations name.text) (terms_in scope no_variables args) (formula_in scope types (after_terms no_variables args) f)

-- an update of an individual to what a name stands for
pub record UpdatesIndividual (scope : Scope) (name : Name) (f : Formula) (c : Model.Statement) : Type 0 where
  pub to : Name
  pub bare : f ≡ atom to []
  pub same : c ≡ Model.update_individual (individual_number scope.context.declarations name.text) (symbol_term scope to.text)

abbrev pub IsUpdate : Scope → Kind → Name → List Arg → Formula → Model.Statement → Type 0
IsUpdate scope (a_relation places) name args f c = UpdatesRelation scope name args f c
IsUpdate scope (an_individual type) name args f c = UpdatesIndividual scope name f c
IsUpdate scope (a_local type) name args f c = ⊥
IsUpdate scope neither name args f c = ⊥

-- what a statement does, where its first local has this number
abbrev mutual
  pub Directs : Scope → ℕ → Statement → Model.Statements → Type 0
  Directs scope next (requirement f) cs = (g : Model.Formula) × IsSentence scope as_requirement f g × (cs ≡ alone (Model.requirement g))
  Directs scope next (assignment name args f) cs = (c : Model.Statement) × IsUpdate scope (kind_in scope.context name.text) name args f c × (cs ≡ alone c)
  Directs scope next (conditional f first second) cs =
      (g : Model.Formula) × (a : Model.Statements) × (b : Model.Statements) × IsSentence scope (as_value []) f g
      × DirectEach scope next first a × DirectEach scope (next + length (locals_in first)) second b × (cs ≡ alone (Model.conditional g a b))
  Directs scope next (with_locals binders body) cs =
      DirectEach (with_terms scope binders (choices_from next binders)) (next + length binders) body cs

  pub DirectEach : Scope → ℕ → Statements → Model.Statements → Type 0
  DirectEach scope next no_statements cs = cs ≡ Model.no_statements
  DirectEach scope next (with_statement s ss) cs =
      (a : Model.Statements) × (b : Model.Statements) × Directs scope next s a × DirectEach scope (next + length (locals_of s)) ss b × (cs ≡ joined a b)
