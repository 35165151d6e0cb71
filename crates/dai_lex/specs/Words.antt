-- Words: what their text says.
use Rattle.std.specs.Prelude.{ℕ, List, [], ◌∷◌, cond, if◌then◌else◌, ◌==◌, ◌&&◌, Bool, true, false, Option, Some, None, codes}
use Rattle.std.specs.List.{list_all}
use Rattle.std.specs.Str.{bytes_eq}
use Rattle.std.specs.Char.{is_ascii_digit, is_ascii_lowercase, is_ascii_uppercase}
use Rattle.dai_lex.specs.declared.token.Kind.{Kind}
use Rattle.dai_lex.specs.declared.token.Kind.TheVariants.{WordType, WordOrdered, WordRelation, WordIndividual, WordAxiom, WordAfter, WordInit, WordAction, WordExport, WordInvariant, WordConjecture, WordRequire, WordAssume, WordLocal, WordIf, WordElse, WordTrue, WordFalse, WordForall, WordExists, Lower, Upper, Digits, LeftOut}
use Rattle.dai_lex.specs.Bytes.{first, is_word_byte}

-- the reserved words, and then the words that are left out
abbrev pub keywords : List (List ℕ × Kind)
keywords =
    (codes "type", WordType) ∷
    (codes "ordered", WordOrdered) ∷
    (codes "relation", WordRelation) ∷
    (codes "individual", WordIndividual) ∷
    (codes "axiom", WordAxiom) ∷
    (codes "after", WordAfter) ∷
    (codes "init", WordInit) ∷
    (codes "action", WordAction) ∷
    (codes "export", WordExport) ∷
    (codes "invariant", WordInvariant) ∷
    (codes "conjecture", WordConjecture) ∷
    (codes "require", WordRequire) ∷
    (codes "assume", WordAssume) ∷
    (codes "local", WordLocal) ∷
    (codes "if", WordIf) ∷
    (codes "else", WordElse) ∷
    (codes "true", WordTrue) ∷
    (codes "false", WordFalse) ∷
    (codes "forall", WordForall) ∷
    (codes "exists", WordExists) ∷
    (codes "function", LeftOut) ∷
    (codes "module", LeftOut) ∷
    (codes "object", LeftOut) ∷
    (codes "isolate", LeftOut) ∷
    (codes "instance", LeftOut) ∷
    (codes "instantiate", LeftOut) ∷
    (codes "include", LeftOut) ∷
    (codes "interpret", LeftOut) ∷
    (codes "definition", LeftOut) ∷
    (codes "macro", LeftOut) ∷
    (codes "derived", LeftOut) ∷
    (codes "property", LeftOut) ∷
    (codes "theorem", LeftOut) ∷
    (codes "schema", LeftOut) ∷
    (codes "import", LeftOut) ∷
    (codes "extract", LeftOut) ∷
    (codes "implement", LeftOut) ∷
    (codes "mixin", LeftOut) ∷
    (codes "before", LeftOut) ∷
    (codes "around", LeftOut) ∷
    (codes "parameter", LeftOut) ∷
    (codes "destructor", LeftOut) ∷
    (codes "struct", LeftOut) ∷
    (codes "variant", LeftOut) ∷
    (codes "var", LeftOut) ∷
    (codes "call", LeftOut) ∷
    (codes "while", LeftOut) ∷
    (codes "for", LeftOut) ∷
    (codes "assert", LeftOut) ∷
    (codes "ensure", LeftOut) ∷ []

-- the kind of a text in a list of words, or Lower where it isn't among them
abbrev pub kind_among : List (List ℕ × Kind) → List ℕ → Kind
kind_among [] text = Lower
kind_among (word ∷ words) text = if bytes_eq text word.0 then word.1 else kind_among words text

-- the words of a list that begin with this letter
abbrev pub words_from : ℕ → List (List ℕ × Kind) → List (List ℕ × Kind)
words_from letter [] = []
words_from letter (word ∷ words) = cond (first word.0 == letter) (word ∷ words_from letter words) (words_from letter words)

-- The kind of a word by its text. One that begins with a digit has to have digits alone.
abbrev pub kind_of_word : List ℕ → Option Kind
kind_of_word text =
    if is_ascii_digit (first text) then (if list_all is_ascii_digit text then Some Digits else None)
    else (if is_ascii_uppercase (first text) then Some Upper else Some (kind_among keywords text))

abbrev pub is_lower : Kind → Bool
is_lower Lower = true
is_lower _ = false

-- the text is a word that begins with a small letter and is neither reserved nor left out
abbrev pub is_name : List ℕ → Bool
is_name text = is_ascii_lowercase (first text) && (list_all is_word_byte text && is_lower (kind_among keywords text))
