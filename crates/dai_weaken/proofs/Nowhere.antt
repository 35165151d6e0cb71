-- Of structures without elements there are none, so all is true of them.
use Rattle.std.proofs.Common.{◌≡◌, ◌<◌, ◌≤◌, ℕ, List, [], ◌∷◌, subst, sym, refl, true, arith}
use Rattle.std.specs.List.{All, AllZip}
use Rattle.dai_model.specs.Classes.{up_to, Belongs}
use Rattle.dai_model.specs.Clause.{Clause}
use Rattle.dai_model.specs.Formula.{Formula}
use Rattle.dai_model.specs.Protocol.{Protocol, Action}
use Rattle.dai_model.specs.Reachable.{IsInitial}
use Rattle.dai_model.specs.Structure.{Structure, IsStructure, is_tuple}
use Rattle.dai_model.specs.WellSorted.{IsProtocol}
use Rattle.dai_model.proofs.Typed.{executes_structure}
use Rattle.dai_weaken.specs.Judging.{HoldsAtFirst, HoldsAfter, Follows}

no_sizes : (sizes : List ℕ) → AllZip (λ size most. size ≤ most) sizes (0 ∷ []) → All (λ size. 0 < size) sizes → ⊥
no_sizes [] zip some = zip
no_sizes (size ∷ sizes) zip some = let none = zip.0 in let one = some 0 0 (omega arith) in omega (arith, none, one)

none_there : (P : Protocol) (s : Structure) → Belongs (up_to (0 ∷ [])) s → IsStructure P s → ⊥
none_there P s within h = no_sizes s.sizes within h.inhabited

pub holds_at_first : (P : Protocol) (c : Clause) → IsProtocol P → HoldsAtFirst (up_to (0 ∷ [])) P c
holds_at_first P c h s within first =
    absurd (none_there P s within (executes_structure P P.init first.before s [] first.choices h.init (subst (λ sorts. is_tuple first.before.sizes sorts [] ≡ true) (sym h.no_arguments) refl) first.chosen first.structure first.leaves))

pub holds_after : (P : Protocol) (I : List Clause) (action : Action) (c : Clause) → HoldsAfter (up_to (0 ∷ [])) P I action c
holds_after P I action c s t within h axioms met step = absurd (none_there P s within h)

pub follows : (P : Protocol) (I : List Clause) (f : Formula) → Follows (up_to (0 ∷ [])) P I f
follows P I f s within h axioms met = absurd (none_there P s within h)
