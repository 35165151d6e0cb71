-- Productions that the limit of nesting bars.
use Rattle.std.proofs.Common.{ℕ, ◌+◌, ◌<◌, ◌≤◌, List, [], ◌∷◌, Bool, true, false, arith}
use Rattle.dai_lex.specs.declared.token.Kind.TheVariants as K
use Rattle.dai_syntax.specs.declared.binders.Class.TheVariants as C
use Rattle.dai_syntax.specs.Tree as Tree
use Rattle.dai_syntax.specs.Symbols.{Symbol, sign, binders, block, statements, otherwise, formula, consequence, operand, v_formula, the_binders, the_formula, part1, part2, after2}
use Rattle.dai_syntax.specs.Values.{Effect}
use Rattle.dai_syntax.specs.Grammar.{Production, a_consequence, a_negation, a_bracket, a_universal, an_existential, a_block, a_conditional, some_locals, an_alternative}
use Rattle.dai_syntax.specs.Endings.{quantifier}

pub deep_consequence : {bytes : List ℕ} {depth : ℕ} {body : List Symbol} {f : Effect} → 200 ≤ depth → Production bytes 200 (consequence depth) K.Arrow body f → ⊥
deep_consequence le (a_consequence lt) = omega arith

pub deep_negation : {bytes : List ℕ} {depth : ℕ} {body : List Symbol} {f : Effect} → 200 ≤ depth → Production bytes 200 (operand depth) K.Tilde body f → ⊥
deep_negation le (a_negation lt) = omega arith

pub deep_bracket : {bytes : List ℕ} {depth : ℕ} {body : List Symbol} {f : Effect} → 200 ≤ depth → Production bytes 200 (operand depth) K.OpenRound body f → ⊥
deep_bracket le (a_bracket lt) = omega arith

pub deep_quantifier : {bytes : List ℕ} {depth : ℕ} {body : List Symbol} {f : Effect} (universal : Bool) → 200 ≤ depth → Production bytes 200 (operand depth) (quantifier universal) body f → ⊥
deep_quantifier true le (a_universal lt) = omega arith
deep_quantifier false le (an_existential lt) = omega arith

pub by_quantifier : {bytes : List ℕ} {limit : ℕ} {depth : ℕ} (universal : Bool) → depth < limit → Production bytes limit (operand depth) (quantifier universal) (binders C.Variable ∷ sign K.Dot ∷ formula (depth + 1) ∷ []) (λ t vs. v_formula (Tree.quantified universal (the_binders (part1 vs)) (the_formula (part2 vs)) t.start) ∷ after2 vs)
by_quantifier true lt = a_universal lt
by_quantifier false lt = an_existential lt

pub deep_block : {bytes : List ℕ} {depth : ℕ} {body : List Symbol} {f : Effect} → 200 ≤ depth → Production bytes 200 (block depth) K.OpenCurly body f → ⊥
deep_block le (a_block lt) = omega arith

pub deep_conditional : {bytes : List ℕ} {depth : ℕ} {body : List Symbol} {f : Effect} → 200 ≤ depth → Production bytes 200 (statements depth) K.WordIf body f → ⊥
deep_conditional le (a_conditional lt) = omega arith

pub deep_locals : {bytes : List ℕ} {depth : ℕ} {body : List Symbol} {f : Effect} → 200 ≤ depth → Production bytes 200 (statements depth) K.WordLocal body f → ⊥
deep_locals le (some_locals lt) = omega arith

pub deep_alternative : {bytes : List ℕ} {depth : ℕ} {body : List Symbol} {f : Effect} → 200 ≤ depth + 1 → Production bytes 200 (otherwise depth) K.WordElse body f → ⊥
deep_alternative le (an_alternative lt) = omega arith
