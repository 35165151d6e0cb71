-- Productions whose token depends on a value.
use Rattle.std.proofs.Common.{ℕ, ◌≡◌, ◌⊎◌, inl, inr, List, [], ◌∷◌, subst, sym}
use Rattle.dai_lex.specs.declared.token.Kind.{Kind}
use Rattle.dai_lex.specs.declared.token.Kind.TheVariants as K
use Rattle.dai_syntax.specs.declared.tree.Op.{Op}
use Rattle.dai_syntax.specs.declared.tree.Op.TheVariants as O
use Rattle.dai_syntax.specs.Symbols.{declaration, label, formula, comparison, term, atom_rest}
use Rattle.dai_syntax.specs.Values.{as_invariant, as_operator, as_compared}
use Rattle.dai_syntax.specs.Grammar.{Production, an_invariant, a_conjecture, an_equal_sign, an_unequal_sign, a_less_sign, an_at_most_sign, same_as, other_than, less_than, at_most}
use Rattle.dai_syntax.specs.Endings.{sign_of}

pub by_sign : {bytes : List ℕ} {limit : ℕ} (op : Op) → Production bytes limit comparison (sign_of op) [] (as_operator op)
by_sign O.Equal = an_equal_sign
by_sign O.Unequal = an_unequal_sign
by_sign O.Less = a_less_sign
by_sign O.LessEqual = an_at_most_sign

pub compares : {bytes : List ℕ} {limit : ℕ} (op : Op) → Production bytes limit atom_rest (sign_of op) (term ∷ []) (as_compared op)
compares O.Equal = same_as
compares O.Unequal = other_than
compares O.Less = less_than
compares O.LessEqual = at_most

pub by_invariant : {bytes : List ℕ} {limit : ℕ} (word : Kind) → (word ≡ K.WordInvariant) ⊎ (word ≡ K.WordConjecture) → Production bytes limit declaration word (label ∷ formula 0 ∷ []) as_invariant
by_invariant {bytes} {limit} word (inl e) = let P : Kind → Type 0 = λ k. Production bytes limit declaration k (label ∷ formula 0 ∷ []) as_invariant in subst P (sym e) an_invariant
by_invariant {bytes} {limit} word (inr e) = let P : Kind → Type 0 = λ k. Production bytes limit declaration k (label ∷ formula 0 ∷ []) as_invariant in subst P (sym e) a_conjecture
