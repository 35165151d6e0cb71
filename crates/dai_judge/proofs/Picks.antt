-- Parts of premises, at some of their places.
use Rattle.std.proofs.Common.{◌≡◌, ℕ, List, [], ◌∷◌, Option, None, Some, map, refl, sym, ap, ◌∙◌, subst}
use Rattle.std.specs.Prelude.{slice_get}
use Rattle.std.specs.Option.{option_map}
use Rattle.std.specs.List.{All, Contains, filter_map, cons_option}
use Rattle.std.proofs.lemmas.Option.{get_or_from_slice_get, slice_get-map}
use Rattle.std.proofs.lemmas.List.Elements.{All-nil, All-cons, All-contains, Contains-get_or}
use Rattle.dai_model.proofs.Typed.{slice_get-length}
use Rattle.dai_model.specs.Protocol.{Protocol}
use Rattle.dai_model.specs.Clause.{Clause}
use Rattle.dai_model.specs.Template.{IsTemplate}
use Rattle.dai_model.specs.WellSorted.{IsWellSorted, closed_scope}
use Rattle.dai_logic.specs.Trees.{formula_of}
use Rattle.dai_ground.specs.Answers.{picked}
use Rattle.dai_template.specs.ClauseFormulas.{formula_of_clause}
use Rattle.dai_judge.specs.declared.premises.Premises.{Premises}
use Rattle.dai_judge.specs.Premises.{AreFormulasOf}
use Rattle.dai_model.specs.Classes.{Class}
use Rattle.dai_logic.specs.declared.structure.BlockId.{BlockId}
use Rattle.dai_logic.specs.declared.structure.BlockId.TheVariants.{Init, Act}
use Rattle.dai_judge.specs.Memory.{picked_of, Keeps, AreAmong}
use Rattle.dai_judge.specs.Ready.{ArePremisesOf}
use Rattle.dai_judge.proofs.Clauses.{are_formulas}

-- what all have, those at some places have
pub all_picked : {X : Type 0} (Q : X → Type 0) (xs : List X) (ks : List ℕ) → All Q xs → All Q (filter_map (slice_get xs) ks)
all_picked Q xs [] all = All-nil Q
all_picked {X} Q xs (k ∷ ks) all = picked_next (slice_get xs k) refl (all_picked Q xs ks all)
  where
    picked_next : (o : Option X) → slice_get xs k ≡ o → All Q (filter_map (slice_get xs) ks) → All Q (cons_option o (filter_map (slice_get xs) ks))
    picked_next None is rest = rest
    picked_next (Some x) is rest = All-cons Q x (filter_map (slice_get xs) ks) (subst Q (get_or_from_slice_get xs k x x is) (all k x (slice_get-length xs k x is))) rest

-- the images of those at some places
picked_images : {X Y : Type 0} (g : X → Y) (xs : List X) (ks : List ℕ) → filter_map (slice_get (map g xs)) ks ≡ map g (filter_map (slice_get xs) ks)
picked_images g xs [] = refl
picked_images {X} g xs (k ∷ ks) =
    ap (λ o. cons_option o (filter_map (slice_get (map g xs)) ks)) (slice_get-map g xs k) ∙ picked_next (slice_get xs k) (picked_images g xs ks)
  where
    picked_next : (o : Option X) → filter_map (slice_get (map g xs)) ks ≡ map g (filter_map (slice_get xs) ks) → cons_option (option_map g o) (filter_map (slice_get (map g xs)) ks) ≡ map g (cons_option o (filter_map (slice_get xs) ks))
    picked_next None rest = rest
    picked_next (Some x) rest = ap (λ ys. g x ∷ ys) rest

-- nothing is picked where there is nothing
pub none_picked : (ks : List ℕ) → picked_of [] ks ≡ []
none_picked [] = refl
none_picked (k ∷ ks) = none_picked ks

pub formulas_of_premises : (P : Protocol) (I : List Clause) (premises : Premises) → ArePremisesOf P I premises → AreFormulasOf P I (map formula_of premises.formulas.items)
formulas_of_premises P I premises own = subst (AreFormulasOf P I) (sym own.formulas) (are_formulas P own.bounds I own.templates)

pub formulas_of_picked : (P : Protocol) (I : List Clause) (premises : Premises) (ks : List ℕ) → ArePremisesOf P I premises → AreFormulasOf P (picked_of I ks) (picked (map formula_of premises.formulas.items) ks)
formulas_of_picked P I premises ks own =
    let here : All (IsTemplate P own.bounds) I = λ k d below. own.templates _ (Contains-get_or I k d below) in
    let there = all_picked (IsTemplate P own.bounds) I ks here in
    let templates : (c : Clause) → Contains (picked_of I ks) c → IsTemplate P own.bounds c = λ c in'. All-contains (IsTemplate P own.bounds) (picked_of I ks) c there in' in
    subst (AreFormulasOf P (picked_of I ks)) (sym (ap (λ fs. picked fs ks) own.formulas ∙ picked_images (formula_of_clause P) I ks)) (are_formulas P own.bounds (picked_of I ks) templates)

pub closed_premises : (P : Protocol) (I : List Clause) (premises : Premises) → ArePremisesOf P I premises → All (IsWellSorted P closed_scope) (map formula_of premises.formulas.items)
closed_premises P I premises own = (formulas_of_premises P I premises own).closed

-- what the clauses keep, more of them keep
pub keeps_more : (C : Class) (P : Protocol) (block : BlockId) (few many : List Clause) (c : Clause) → AreAmong few many → Keeps C P block few c → Keeps C P block many c
keeps_more C P Init few many c among h = h
keeps_more C P (Act number) few many c among h = λ action is s t belongs structure axioms met step. h action is s t belongs structure axioms (λ d there. met d (among d there)) step
