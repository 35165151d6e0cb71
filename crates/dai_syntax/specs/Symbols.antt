-- The symbols of the grammar, and the values that what they stand for is read as.
use Rattle.std.specs.Prelude.{ℕ, Bool, true, List, [], ◌∷◌, Option, None, slice_range}
use Rattle.dai_lex.specs.declared.token.Kind.{Kind}
use Rattle.dai_lex.specs.declared.token.Token.{Token}
use Rattle.dai_syntax.specs.declared.tree.Name.{Name}
use Rattle.dai_syntax.specs.declared.tree.Binder.{Binder}
use Rattle.dai_syntax.specs.declared.tree.Arg.{Arg}
use Rattle.dai_syntax.specs.declared.tree.Arg.TheVariants.{Symbol as symbol}
use Rattle.dai_syntax.specs.declared.binders.Class.{Class}
use Rattle.dai_syntax.specs.declared.tree.Op.{Op}
use Rattle.dai_syntax.specs.declared.tree.Op.TheVariants.{Equal}
use Rattle.dai_syntax.specs.Tree.{Formula, truth, Formulas, no_formulas, Statement, requirement, Statements, no_statements, Declaration, init}

-- A number is the nesting at which the symbol stands.
pub data Symbol : Type 0 where
  -- one token of this kind; a name
  sign : Kind → Symbol
  name : Symbol
  declarations : Symbol
  declaration : Symbol
  -- what follows `export`; and what follows `action`, with `export` before it or not
  exported : Symbol
  action_parts : Bool → Symbol
  -- a label in square brackets, or none; what stands in the brackets
  label : Symbol
  label_word : Symbol
  -- binders in round brackets, or none; some; one; further ones, each after a comma; `:` and a type
  bracketed : Class → Symbol
  binders : Class → Symbol
  binder : Class → Symbol
  more_binders : Class → Symbol
  type_mark : Class → Symbol
  block : ℕ → Symbol
  -- statements up to the end of the block; the same after one without, and after one with, `}` at its end
  statements : ℕ → Symbol
  after_statement : ℕ → Symbol
  after_block : ℕ → Symbol
  -- what follows `if`; `else` and what follows it, or nothing; what follows it
  condition : ℕ → Symbol
  otherwise : ℕ → Symbol
  alternative : ℕ → Symbol
  -- the terms of a target in round brackets, or none; what follows `:=`
  targets : Symbol
  right_side : ℕ → Symbol
  -- a chain of `<->`, and further parts of one, each after a `<->`; and so on, down to an operand of `&`
  formula : ℕ → Symbol
  more_equivalents : ℕ → Symbol
  implication : ℕ → Symbol
  consequence : ℕ → Symbol
  disjunction : ℕ → Symbol
  more_disjuncts : ℕ → Symbol
  conjunction : ℕ → Symbol
  more_conjuncts : ℕ → Symbol
  operand : ℕ → Symbol
  -- what follows a name that begins an operand
  atom_rest : Symbol
  comparison : Symbol
  terms : Symbol
  term : Symbol
  more_terms : Symbol

-- what follows the name of an atom: nothing, arguments, or a comparison
pub data Rest : Type 0 where
  bare : Rest
  applied : List Arg → Rest
  compared : Op → Arg → Rest

-- what a symbol is read as
pub data Value : Type 0 where
  v_name : Name → Value
  -- a label, or a type, that may be absent
  v_mark : Option Name → Value
  v_binder : Binder → Value
  v_binders : List Binder → Value
  v_term : Arg → Value
  v_terms : List Arg → Value
  v_operator : Op → Value
  v_rest : Rest → Value
  v_formula : Formula → Value
  v_formulas : Formulas → Value
  v_consequence : Option Formula → Value
  v_statement : Statement → Value
  v_statements : Statements → Value
  v_declaration : Declaration → Value
  v_declarations : List Declaration → Value

-- the name that a token is
abbrev pub name_of : List ℕ → Token → Name
name_of bytes t = record { text = slice_range bytes t.start t.end; at = t.start }

abbrev pub no_name : Name
no_name = record { text = []; at = 0 }

-- What a value holds, by its kind. Of another kind it holds nothing that matters.
abbrev pub the_name : Value → Name
the_name (v_name n) = n
the_name _ = no_name

abbrev pub the_mark : Value → Option Name
the_mark (v_mark m) = m
the_mark _ = None

abbrev pub the_binder : Value → Binder
the_binder (v_binder b) = b
the_binder _ = record { name = no_name; sort = None }

abbrev pub the_binders : Value → List Binder
the_binders (v_binders bs) = bs
the_binders _ = []

abbrev pub the_term : Value → Arg
the_term (v_term a) = a
the_term _ = symbol no_name

abbrev pub the_terms : Value → List Arg
the_terms (v_terms args) = args
the_terms _ = []

abbrev pub the_operator : Value → Op
the_operator (v_operator o) = o
the_operator _ = Equal

abbrev pub the_rest : Value → Rest
the_rest (v_rest r) = r
the_rest _ = bare

abbrev pub the_formula : Value → Formula
the_formula (v_formula f) = f
the_formula _ = truth true

abbrev pub the_formulas : Value → Formulas
the_formulas (v_formulas fs) = fs
the_formulas _ = no_formulas

abbrev pub the_consequence : Value → Option Formula
the_consequence (v_consequence f) = f
the_consequence _ = None

abbrev pub the_statement : Value → Statement
the_statement (v_statement c) = c
the_statement _ = requirement (truth true)

abbrev pub the_statements : Value → Statements
the_statements (v_statements cs) = cs
the_statements _ = no_statements

abbrev pub the_declaration : Value → Declaration
the_declaration (v_declaration d) = d
the_declaration _ = init no_statements

abbrev pub the_declarations : Value → List Declaration
the_declarations (v_declarations ds) = ds
the_declarations _ = []

-- the parts of what was read, in order, and what is left after so many
abbrev pub part1 : List Value → Value
part1 [] = v_mark None
part1 (v ∷ vs) = v

abbrev pub after1 : List Value → List Value
after1 [] = []
after1 (v ∷ vs) = vs

abbrev pub after2 : List Value → List Value
after2 vs = after1 (after1 vs)

abbrev pub after3 : List Value → List Value
after3 vs = after1 (after2 vs)

abbrev pub part2 : List Value → Value
part2 vs = part1 (after1 vs)

abbrev pub part3 : List Value → Value
part3 vs = part1 (after2 vs)
