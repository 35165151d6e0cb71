use Rattle.std.specs.Prelude.{ℕ, List, [], ◌∷◌, ◌++◌, ◌==◌, ◌≡◌, IsTrue, codes, find, unwrap_or, option_map}
use Rattle.std.specs.Fmt.{decimal}
use Rattle.std.specs.List.{list_any}
use Rattle.dai_base.specs.declared.fault.Place.{Place}
use Rattle.dai_base.specs.declared.fault.LimitKind.{LimitKind}
use Rattle.dai_base.specs.declared.fault.LimitKind.TheVariants.{Atoms, Templates, Ground, Moves}
use Rattle.dai_base.specs.declared.fault.Fault.{Fault}
use Rattle.dai_base.specs.declared.fault.Fault.TheVariants.{Words, InFile, Limit, TooLong}

-- the faults of words and files, each number with what it says
abbrev pub fault_table : List (ℕ × List ℕ)
fault_table =
    (1, codes "E01 bad words")
    ∷ (2, codes "E02 value out of range")
    ∷ (3, codes "E03 unknown type")
    ∷ (10, codes "E10 bad byte")
    ∷ (12, codes "E12 unexpected token")
    ∷ (13, codes "E13 nesting deeper than 200")
    ∷ (20, codes "E20 not in the profile")
    ∷ (21, codes "E21 declared twice")
    ∷ (22, codes "E22 unknown name")
    ∷ (23, codes "E23 wrong number of arguments")
    ∷ (24, codes "E24 wrong type")
    ∷ (25, codes "E25 undetermined variable")
    ∷ (26, codes "E26 order on an unordered type")
    ∷ (27, codes "E27 axiom over an assigned symbol")
    ∷ (28, codes "E28 not universal")
    ∷ (29, codes "E29 not exists-forall")
    ∷ (30, codes "E30 quantifier or loose variable")
    ∷ (31, codes "E31 bad target")
    ∷ (42, codes "E42 too many")
    ∷ []

-- the table has this number
abbrev pub IsInTable : ℕ → Type 0
IsInTable number = IsTrue (list_any (λ entry. entry.0 == number) fault_table)

-- what the table says beside this number
abbrev pub words_of : ℕ → List ℕ
words_of number = unwrap_or (option_map (λ entry. entry.1) (find (λ entry. entry.0 == number) fault_table)) []

-- the number of the fault that a count above its limit is
abbrev pub limit_number : LimitKind → ℕ
limit_number Atoms = 40
limit_number Templates = 40
limit_number Ground = 41
limit_number Moves = 43

-- what such a fault says of the count
abbrev pub limit_words : LimitKind → ℕ → List ℕ
limit_words Atoms count = codes "E40 atoms " ++ decimal count ++ codes ", limit 64"
limit_words Templates count = codes "E40 templates " ++ decimal count ++ codes ", limit 200000"
limit_words Ground count = codes "E41 ground atoms " ++ decimal count ++ codes ", limit 50000"
limit_words Moves count = codes "E43 moves " ++ decimal count ++ codes ", limit 65536"

-- a fault's number is one that faults of its kind have
abbrev pub IsListed : Fault → Type 0
IsListed (Words number word) = IsInTable number
IsListed (InFile number at) = IsInTable number
IsListed (Limit number kind count) = number ≡ limit_number kind
IsListed TooLong = Unit {0}

-- the line of a fault of a word
abbrev pub words_line : ℕ → List ℕ → List ℕ
words_line word words = codes "distai: word " ++ decimal word ++ codes ": " ++ words ++ codes "\n"

-- the line of a fault at a place in the file `name`
abbrev pub place_line : List ℕ → Place → List ℕ → List ℕ
place_line name at words =
    name ++ codes ":" ++ decimal at.line ++ codes ":" ++ decimal at.column ++ codes ": " ++ words ++ codes "\n"

-- the line of a count above its limit
abbrev pub limit_line : List ℕ → List ℕ → List ℕ
limit_line name words = name ++ codes ": " ++ words ++ codes "\n"

-- the line of a file that is too long
abbrev pub length_line : List ℕ → List ℕ
length_line name = name ++ codes ": E44 file longer than 1048576 bytes\n"

-- the line that tells of a fault, where `name` is the file or command that was asked for
abbrev pub fault_text : List ℕ → Fault → List ℕ
fault_text name (Words number word) = words_line word (words_of number)
fault_text name (InFile number at) = place_line name at (words_of number)
fault_text name (Limit number kind count) = limit_line name (limit_words kind count)
fault_text name TooLong = length_line name
