-- How the value of what is left becomes that of the whole.
use Rattle.std.specs.Prelude.{ℕ, ◌≡◌, ◌<◌, length, List, [], ◌∷◌, Option, Some, None}
use Rattle.dai_lex.specs.declared.token.Kind.TheVariants as K
use Rattle.dai_syntax.specs.declared.cursor.Cursor.{Cursor}
use Rattle.dai_syntax.specs.declared.tree.Stat.{Stat}
use Rattle.dai_syntax.specs.declared.tree.Name.{Name}
use Rattle.dai_syntax.specs.Tree.{Statement, requirement, assignment, conditional, with_locals, with_statement}
use Rattle.dai_syntax.specs.Symbols.{Symbol, statements, after_statement, after_block, Value, v_binder, v_statements, the_mark, the_statements, part1, after1}
use Rattle.dai_syntax.specs.Trees.{statement_of}
use Rattle.dai_syntax.specs.Grammar.{unless, Sees}
use Rattle.dai_syntax.specs.Reading.{Leaves}

-- a binder of this name, with the type that follows
abbrev pub binder_effect : Name → List Value → List Value
binder_effect n vs = v_binder (record { name = n; sort = the_mark (part1 vs) }) ∷ after1 vs

-- this statement before those that follow
abbrev pub statement_effect : Statement → List Value → List Value
statement_effect c vs = v_statements (with_statement c (the_statements (part1 vs))) ∷ after1 vs

-- what comes after a statement: one that ends with a block needs no semicolon
abbrev pub follows : ℕ → Statement → Symbol
follows depth (requirement f) = after_statement depth
follows depth (assignment n args f) = after_statement depth
follows depth (conditional f first second) = after_block depth
follows depth (with_locals binders body) = after_block depth

-- a statement was read, of one token at least
pub record ReadsStatement (depth : ℕ) (old : Cursor) (c : Statement) (new : Cursor) : Type 0 where
  pub leaves : Leaves (statements depth) old (follows depth c ∷ []) new (statement_effect c)
  pub shorter : length new.rest.now < length old.rest.now

-- a statement was read, or none begins here
abbrev pub IsStatement : ℕ → Cursor → Cursor → Option Stat → Type 0
IsStatement depth old new None = (new ≡ old) × Sees (unless (K.WordRequire ∷ K.WordAssume ∷ K.Lower ∷ K.WordIf ∷ K.WordLocal ∷ K.LeftOut ∷ [])) old.rest.now
IsStatement depth old new (Some c) = ReadsStatement depth old (statement_of c) new
