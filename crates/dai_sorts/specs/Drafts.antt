-- What holds of a draft after some of the declarations.
use Rattle.std.specs.Prelude.{ℕ, ◌+◌, ◌≤◌, List, [], map, length, Vec}
use Rattle.std.specs.declared.alloc.Global.{Global}
use Rattle.std.specs.List.{filter_map, flat_map, cons_option}
use Rattle.dai_model.specs.Protocol as Model
use Rattle.dai_syntax.specs.Tree.{Declaration, sort, relation, individual, axiom_of, init, action, export, invariant}
use Rattle.dai_logic.specs.Trees.{formula_of, statements_of}
use Rattle.dai_logic.specs.Protocols.{sort_of, relation_of, individual_of, action_of, invariant_of}
use Rattle.dai_rules.specs.Names.{with_inside}
use Rattle.dai_rules.specs.Sites.{as_axiom, as_invariant, assigned_by, context_at, sentence_sites}
use Rattle.dai_rules.specs.Tables.{AreNames}
use Rattle.dai_sorts.specs.declared.draft.Draft.{Draft}
use Rattle.dai_sorts.specs.Statements.{locals_in}
use Rattle.dai_sorts.specs.Protocols.{exported_name, AreParts}
use Rattle.dai_sorts.specs.Sound.{AreUnbroken, AreSound}

-- the keys are the names that the declarations export
abbrev pub AreExported : List Declaration → List (Vec ℕ Global) → Type 0
AreExported ds keys = AreNames (filter_map exported_name ds) keys

-- the name that the declaration exports, if it exports one
abbrev pub exports_of : Declaration → List (List ℕ)
exports_of d = cons_option (exported_name d) []

-- the parts that the draft holds
abbrev pub drafted : Draft → Model.Protocol
drafted d = record {
  sorts = map sort_of d.sorts.items;
  relations = map relation_of d.relations.items;
  individuals = map individual_of d.individuals.items;
  axioms = map formula_of d.axioms.items;
  init = record { parameters = []; choices = d.locals.items; code = statements_of d.init.items };
  actions = map action_of d.actions.items;
  invariants = map invariant_of d.invariants.items;
}

abbrev pub IsDraft : List Declaration → List Declaration → Draft → Type 0
IsDraft all ds d = AreParts all ds (drafted d)

-- no rule is broken in the declaration at this place, as far as a draft needs it
abbrev pub IsSoundDeclaration : List Declaration → ℕ → Declaration → Type 0
IsSoundDeclaration all here (sort name ordered) = Unit {0}
IsSoundDeclaration all here (relation name arguments) = Unit {0}
IsSoundDeclaration all here (individual name type) = Unit {0}
IsSoundDeclaration all here (axiom_of f at) = AreUnbroken (sentence_sites (context_at all here) (as_axiom (flat_map assigned_by all)) f)
IsSoundDeclaration all here (init body) = AreSound (context_at all here) body
IsSoundDeclaration all here (action name parameters body exported) =
    AreSound (with_inside (context_at all here) parameters) body × (length parameters ≤ 256) × (length (locals_in body) ≤ 256)
IsSoundDeclaration all here (export name) = Unit {0}
IsSoundDeclaration all here (invariant label f at) = AreUnbroken (sentence_sites (context_at all here) as_invariant f)

-- the locals of the declaration, beside so many of the init code before it, have numbers of a byte
abbrev pub HasRoom : ℕ → Declaration → Type 0
HasRoom n (init body) = n + length (locals_in body) ≤ 256
HasRoom n _ = Unit {0}
