-- Each atom of a shape names a relation or an individual of the protocol, with variables of its types.
use Rattle.std.proofs.Common.{◌≡◌, ℕ, suc, ◌+◌, List, [], ◌∷◌, map, Some, ap, ◌∙◌, refl, arith}
use Rattle.std.specs.Prelude.{slice_get, slice_index}
use Rattle.std.specs.List.{enumerate_from}
use Rattle.dai_model.specs.Protocol.{Protocol, Relation, Individual}
use Rattle.dai_model.specs.Clause.{Variable, tuple, variables_of, choose_each, relation_atoms, individual_atoms, numbers_below, atoms_of}
use Rattle.dai_model.proofs.Below.{Each}
use Rattle.dai_template.specs.Meeting.{sorts_of, IsNamed}
use Rattle.dai_template.proofs.Ways.{Each-append, Each-map, Each-flat_map}

any : {X : Type 0} (P : X → Type 0) (xs : List X) → ((x : X) → P x) → Each P xs
any P [] h = tt
any P (x ∷ xs) h = (h x, any P xs h)

numbered : {X : Type 0} (n : ℕ) (xs all : List X) → ((k : ℕ) → slice_get all (n + k) ≡ slice_get xs k) → Each (λ (p : ℕ × X). slice_get all p.0 ≡ Some p.1) (enumerate_from n xs)
numbered n [] all h = tt
numbered n (x ∷ xs) all h = (
  ap (slice_get all) (let own : n ≡ n + 0 = omega arith in own) ∙ h 0,
  numbered (n + 1) xs all (λ k. ap (slice_get all) (let next : (n + 1) + k ≡ n + suc k = omega arith in next) ∙ h (suc k)),
)

enumerated : {X : Type 0} (xs : List X) → Each (λ (p : ℕ × X). slice_get xs p.0 ≡ Some p.1) (enumerate_from 0 xs)
enumerated xs = numbered 0 xs xs (λ k. ap (slice_get xs) (let own : 0 + k ≡ k = omega arith in own))

pub of_one_sort : (counts : List ℕ) (sort : ℕ) → Each (λ (v : Variable). v.sort ≡ sort) (variables_of counts sort)
of_one_sort counts sort = Each-map (λ _. Unit {0}) (λ (v : Variable). v.sort ≡ sort) _ (numbers_below (slice_index counts sort)) (λ n h. refl) (any (λ _. Unit {0}) (numbers_below (slice_index counts sort)) (λ n. tt))

pub of_the_sorts : (counts sorts : List ℕ) → Each (λ vs. sorts_of vs ≡ sorts) (choose_each (map (variables_of counts) sorts))
of_the_sorts counts [] = (refl, tt)
of_the_sorts counts (sort ∷ sorts) =
    Each-flat_map (λ (v : Variable). v.sort ≡ sort) (λ vs. sorts_of vs ≡ sort ∷ sorts) _ (variables_of counts sort)
    (λ v e. Each-map (λ vs. sorts_of vs ≡ sorts) (λ vs. sorts_of vs ≡ sort ∷ sorts) _ (choose_each (map (variables_of counts) sorts)) (λ vs k. cc) (of_the_sorts counts sorts))
    (of_one_sort counts sort)

pub atoms_named : (P : Protocol) (counts : List ℕ) → Each (IsNamed P) (atoms_of P counts)
atoms_named P counts =
    Each-append (IsNamed P) _ _
    (Each-flat_map (λ (p : ℕ × Relation). slice_get P.relations p.0 ≡ Some p.1) (IsNamed P) (relation_atoms counts) (enumerate_from 0 P.relations)
    (λ p e. Each-map (λ vs. sorts_of vs ≡ p.1.arguments) (IsNamed P) (tuple p.0) (choose_each (map (variables_of counts) p.1.arguments)) (λ vs k. (p.1, e, k)) (of_the_sorts counts p.1.arguments))
    (enumerated P.relations))
    (Each-flat_map (λ (p : ℕ × Individual). slice_get P.individuals p.0 ≡ Some p.1) (IsNamed P) (individual_atoms counts) (enumerate_from 0 P.individuals)
    (λ p e. Each-map (λ (v : Variable). v.sort ≡ p.1.sort) (IsNamed P) _ (variables_of counts p.1.sort) (λ v k. (p.1, e, k)) (of_one_sort counts p.1.sort))
    (enumerated P.individuals))
