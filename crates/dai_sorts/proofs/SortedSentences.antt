-- A sentence that breaks no rule is well-sorted.
use Rattle.std.proofs.Common.{ℕ, ◌<◌, true, List, [], ◌∷◌, ◌++◌, length, Option, None, sym, refl, subst, ⊎_elim, arith}
use Rattle.std.specs.Prelude.{reverse}
use Rattle.std.specs.List.{Contains}
use Rattle.std.proofs.lemmas.List.{reverse-append}
use Rattle.std.proofs.lemmas.List.Elements.{Contains-append_left, Contains-push, Contains-push_cases, All-nil, All-contains}
use Rattle.dai_syntax.specs.Tree.{Formula}
use Rattle.dai_model.specs.Formula as Model
use Rattle.dai_model.specs.Protocol.{Protocol}
use Rattle.dai_model.specs.WellSorted.{IsWellSorted}
use Rattle.dai_rules.specs.Naming.{no_variables, after_formula}
use Rattle.dai_rules.specs.Sites.{Role, outermost, whole_at, whole_of, sentence_output, sentence_sites}
use Rattle.dai_rules.proofs.Members.{not_in_nil, in_head, in_tail, in_cases}
use Rattle.dai_rules.proofs.RangeLemmas.{formula_within}
use Rattle.dai_sorts.specs.Scopes.{Scope}
use Rattle.dai_sorts.specs.Formulas.{formula_in, IsSentence}
use Rattle.dai_sorts.specs.Sound.{AreUnbroken}
use Rattle.dai_sorts.proofs.Walking.{formula_free}
use Rattle.dai_sorts.proofs.Wholes.{in_sentence}
use Rattle.dai_sorts.proofs.SortedTerms.{sorts_with, IsFile, Fits, IsPart, typed_whole, before_itself}
use Rattle.dai_sorts.proofs.SortedUses.{formula_given}
use Rattle.dai_sorts.proofs.SortedFormulas.{adding, adding_covers, over_sorted, types_below, formula_sorted}
use Rattle.dai_sorts.proofs.Unbroken.{unbroken_left}

in_reverse : (xs : List ℕ) (v : ℕ) → Contains xs v → Contains (reverse xs) v
in_reverse [] v h = absurd (not_in_nil v h)
in_reverse (x ∷ xs) v h =
    subst (λ (l : List ℕ). Contains l v) (sym (reverse-append (x ∷ []) xs))
    (⊎_elim (λ same. subst (Contains (reverse xs ++ x ∷ [])) same (Contains-push (reverse xs) x)) (λ k. Contains-append_left (reverse xs) (x ∷ []) v (in_reverse xs v k)) (in_cases x xs v h))

from_reverse : (xs : List ℕ) (v : ℕ) → Contains (reverse xs) v → Contains xs v
from_reverse [] v h = h
from_reverse (x ∷ xs) v h =
    ⊎_elim (λ k. in_tail x xs v (from_reverse xs v k)) (λ same. subst (Contains (x ∷ xs)) same (in_head x xs))
    (Contains-push_cases (reverse xs) x v (subst (λ (l : List ℕ). Contains l v) (reverse-append (x ∷ []) xs) h))

abbrev pub no_sorts : ℕ → Option ℕ
no_sorts v = None

pub sentence_sorted : (P : Protocol) (scope : Scope) (ps cs : List ℕ) (role : Role) (f : Formula) (g : Model.Formula) → IsFile scope.context.declarations P → Fits P ps cs scope → AreUnbroken (sentence_sites scope.context role f) → IsSentence scope role f g
    → IsWellSorted P (sorts_with no_sorts ps cs) g
sentence_sorted P scope ps cs role f g file fits unbroken sentence =
    let ctx = scope.context in
    let ds = scope.context.declarations in
    let end = after_formula no_variables f in
    let o = sentence_output ctx role f in
    let w = whole_of ctx role end o in
    let types = sentence.types in
    let vs = reverse end.free in
    let clean : AreUnbroken o.sites = unbroken_left o.sites (whole_at w ∷ []) unbroken in
    let typing = typed_whole ds w types (sentence_sites ctx role f) refl unbroken (in_sentence ctx role f) (formula_within ctx role outermost no_variables f).uses sentence.typed in
    let given = formula_given P scope ps cs role file fits outermost no_variables f clean in
    let small = formula_free no_variables f (All-nil (λ v. v < 0)) in
    let all = adding_covers types vs [] no_sorts (λ v there. absurd (not_in_nil v there)) in
    let part : IsPart w o = record { unbroken = clean; uses = λ u h. h; orderings = λ x h. h } in
    let body = formula_sorted P scope ps cs role w types end file fits typing (omega arith) given outermost no_variables (adding types vs no_sorts) f
    (λ v there. all v (Contains-append_left vs [] v (in_reverse end.free v there))) (λ v there. absurd (not_in_nil v there)) (before_itself end) part in
    subst (IsWellSorted P (sorts_with no_sorts ps cs)) (sym sentence.same)
    (over_sorted P ps cs true types vs no_sorts (formula_in scope types no_variables f)
    (λ v there. types_below P scope ps cs role w types end file fits typing (omega arith) given v (All-contains (λ u. u < length end.variables) end.free v small (from_reverse end.free v there))) body)
