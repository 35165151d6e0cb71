-- Where the program's reader stands.
use Rattle.std.specs.Prelude.{◌≡◌, ℕ, ◌++◌, List, [], map, length, None, Vec}
use Rattle.std.specs.declared.alloc.Global.{Global}
use Rattle.dai_syntax.specs.declared.tree.Binder.{Binder}
use Rattle.dai_model.specs.Formula as Model
use Rattle.dai_logic.specs.declared.protocol.Step.{Step}
use Rattle.dai_logic.specs.Trees.{term_of, statements_of}
use Rattle.dai_rules.specs.Names.{Context}
use Rattle.dai_rules.specs.Naming.{no_variables}
use Rattle.dai_rules.specs.Views.{View, context_of}
use Rattle.dai_sorts.specs.declared.reader.Reader.{Reader}
use Rattle.dai_sorts.specs.Scopes.{Scope, scope_at, binder_type}

abbrev pub scope_of : Reader → Scope
scope_of r = record { context = context_of r.judge; terms = map term_of r.terms.items }

-- the reader stands outside of all blocks
abbrev pub IsOutside : Reader → Type 0
IsOutside r = scope_of r ≡ scope_at (context_of r.judge).declarations (context_of r.judge).here

-- a judge that has seen nothing stands there
abbrev pub fresh_view : Context → View
fresh_view ctx = record { context = ctx; locals = []; naming = no_variables; uses = []; orderings = []; existentials = []; witnesses = []; first = None }

-- statements were read: what they do came to the code, and the types of their locals to those of the block
pub record Writes (directs : ℕ → Model.Statements → Type 0) (binders : List Binder) (locals more : Vec ℕ Global) (code longer : Vec Step Global) (old new : Reader) : Type 0 where
  pub written : List Step
  pub does : directs (length locals.items) (statements_of written)
  pub code_is : longer.items ≡ code.items ++ written
  pub locals_are : more.items ≡ locals.items ++ map (binder_type (context_of old.judge).declarations) binders
  pub scope : scope_of new ≡ scope_of old
