-- Which protocol a file is. Its lists are in order of declaration.
use Rattle.std.specs.Prelude.{◌≡◌, ℕ, ◌+◌, Bool, true, List, [], ◌∷◌, map, length, Option, Some, None}
use Rattle.std.specs.Fmt.{decimal}
use Rattle.std.specs.List.{AllZip, filter, filter_map, flat_map, enumerate_from}
use Rattle.dai_syntax.specs.declared.tree.Name.{Name}
use Rattle.dai_syntax.specs.declared.tree.Binder.{Binder}
use Rattle.dai_syntax.specs.Tree.{Formula, Statements, Declaration, sort, relation, individual, axiom_of, init, action, export, invariant}
use Rattle.dai_model.specs.Formula as Model
use Rattle.dai_model.specs.Protocol.{Protocol, Sort, Relation, Individual, Block, Action, Invariant}
use Rattle.dai_rules.specs.Names.{is_among}
use Rattle.dai_rules.specs.Sites.{as_axiom, as_invariant, assigned_by}
use Rattle.dai_sorts.specs.Scopes.{type_number, binder_type, scope_at, with_terms, parameters_from}
use Rattle.dai_sorts.specs.Formulas.{IsSentence}
use Rattle.dai_sorts.specs.Statements.{locals_in, joined, DirectEach}

abbrev pub declared_type : Declaration → Option Sort
declared_type (sort name ordered) = Some (record { name = name.text; ordered = ordered })
declared_type _ = None

abbrev pub declared_relation : List Declaration → Declaration → Option Relation
declared_relation all (relation name arguments) = Some (record { name = name.text; arguments = map (binder_type all) arguments })
declared_relation all _ = None

abbrev pub declared_individual : List Declaration → Declaration → Option Individual
declared_individual all (individual name type) = Some (record { name = name.text; sort = type_number all type.text })
declared_individual all _ = None

-- what is written at a place among the declarations
pub record Placed (X : Type 0) : Type 0 where
  pub here : ℕ
  pub written : X

abbrev pub placed : {X : Type 0} → ℕ → X → Option (Placed X)
placed here x = Some (record { here = here; written = x })

abbrev pub axiom_in : ℕ × Declaration → Option (Placed Formula)
axiom_in d = axiom_at d.0 d.1
  where
    axiom_at : ℕ → Declaration → Option (Placed Formula)
    axiom_at here (axiom_of f at) = placed here f
    axiom_at here _ = None

abbrev pub init_in : ℕ × Declaration → Option (Placed Statements)
init_in d = init_at d.0 d.1
  where
    init_at : ℕ → Declaration → Option (Placed Statements)
    init_at here (init body) = placed here body
    init_at here _ = None

pub record WrittenAction : Type 0 where
  pub name : Name
  pub parameters : List Binder
  pub body : Statements

abbrev pub action_in : ℕ × Declaration → Option (Placed WrittenAction)
action_in d = action_at d.0 d.1
  where
    action_at : ℕ → Declaration → Option (Placed WrittenAction)
    action_at here (action name parameters body exported) = placed here (record { name = name; parameters = parameters; body = body })
    action_at here _ = None

abbrev pub written_action : ℕ → Name → List Binder → Statements → Placed WrittenAction
written_action here name parameters body = record { here = here; written = record { name = name; parameters = parameters; body = body } }

pub record WrittenInvariant : Type 0 where
  pub label : Option Name
  pub body : Formula

abbrev pub invariant_in : ℕ × Declaration → Option (Placed WrittenInvariant)
invariant_in d = invariant_at d.0 d.1
  where
    invariant_at : ℕ → Declaration → Option (Placed WrittenInvariant)
    invariant_at here (invariant label f at) = placed here (record { label = label; body = f })
    invariant_at here _ = None

-- the name that a declaration exports
abbrev pub exported_name : Declaration → Option (List ℕ)
exported_name (action name parameters body true) = Some name.text
exported_name (export name) = Some name.text
exported_name _ = None

abbrev pub is_exported : List Declaration → Placed WrittenAction → Bool
is_exported all a = is_among a.written.name.text (filter_map exported_name all)

-- all that is written of these, with its places
abbrev pub all_in : {X : Type 0} → (ℕ × Declaration → Option (Placed X)) → List Declaration → List (Placed X)
all_in one ds = filter_map one (enumerate_from 0 ds)

abbrev pub IsAxiom : List Declaration → Placed Formula → Model.Formula → Type 0
IsAxiom all f g = IsSentence (scope_at all f.here) (as_axiom (flat_map assigned_by all)) f.written g

-- the locals of all init code, and what it does: one block after the other
abbrev pub init_locals : List (Placed Statements) → List Binder
init_locals bodies = flat_map (λ (b : Placed Statements). locals_in b.written) bodies

abbrev pub Initiate : List Declaration → ℕ → List (Placed Statements) → Model.Statements → Type 0
Initiate all next [] cs = cs ≡ Model.no_statements
Initiate all next (body ∷ bodies) cs =
    (a : Model.Statements) × (b : Model.Statements) × DirectEach (scope_at all body.here) next body.written a
    × Initiate all (next + length (locals_in body.written)) bodies b × (cs ≡ joined a b)

pub record IsInit (all : List Declaration) (bodies : List (Placed Statements)) (block : Block) : Type 0 where
  pub no_parameters : block.parameters ≡ []
  pub locals : block.choices ≡ map (binder_type all) (init_locals bodies)
  pub code : Initiate all 0 bodies block.code

pub record IsAction (all : List Declaration) (written : Placed WrittenAction) (a : Action) : Type 0 where
  pub name : a.name ≡ written.written.name.text
  pub parameters : a.block.parameters ≡ map (binder_type all) written.written.parameters
  pub locals : a.block.choices ≡ map (binder_type all) (locals_in written.written.body)
  pub code : DirectEach (with_terms (scope_at all written.here) written.written.parameters (parameters_from 0 written.written.parameters)) 0 written.written.body a.block.code

-- the label as it is given, or else the position among the invariants
abbrev pub label_at : ℕ → Option Name → List ℕ
label_at position (Some name) = name.text
label_at position None = decimal position

-- an invariant, beside its position
pub record IsInvariant (all : List Declaration) (written : ℕ × Placed WrittenInvariant) (f : Invariant) : Type 0 where
  pub label : f.label ≡ label_at written.0 written.1.written.label
  pub body : IsSentence (scope_at all written.1.here) as_invariant written.1.written.body f.body

-- what these declarations of the file `all` say: the actions are those that the file exports, and invariants have
-- their positions from 1
pub record AreParts (all ds : List Declaration) (P : Protocol) : Type 0 where
  pub sorts : P.sorts ≡ filter_map declared_type ds
  pub relations : P.relations ≡ filter_map (declared_relation all) ds
  pub individuals : P.individuals ≡ filter_map (declared_individual all) ds
  pub axioms : AllZip (IsAxiom all) (all_in axiom_in ds) P.axioms
  pub init : IsInit all (all_in init_in ds) P.init
  pub actions : AllZip (IsAction all) (filter (is_exported all) (all_in action_in ds)) P.actions
  pub invariants : AllZip (IsInvariant all) (enumerate_from 1 (all_in invariant_in ds)) P.invariants

-- the declarations are this protocol
abbrev pub IsProtocolOf : List Declaration → Protocol → Type 0
IsProtocolOf ds P = AreParts ds ds P
