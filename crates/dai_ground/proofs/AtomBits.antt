-- The bits of atoms have the atoms' values.
use Rattle.std.proofs.Common.{◌≡◌, ℕ, List, refl, ◌∙◌, Result}
use Rattle.dai_base.specs.declared.memory.Spent.{Spent}
use Rattle.dai_model.specs.Protocol.{Protocol}
use Rattle.dai_model.specs.Formula.{Term}
use Rattle.dai_model.specs.Structure.{Structure}
use Rattle.dai_model.specs.Value.{Environment, value_of, value_of_term}
use Rattle.dai_model.specs.WellSorted.{Scope, HasSort, IsWellSorted}
use Rattle.dai_trail.specs.Formula as Clauses
use Rattle.dai_circuit.specs.declared.bit.Bit.{Bit}
use Rattle.dai_picture.specs.declared.picture.Frame.{Frame}
use Rattle.dai_picture.specs.declared.picture.Picture.{Picture}
use Rattle.dai_ground.specs.declared.candidates.Candidate.{Candidate}
use Rattle.dai_ground.specs.declared.comparing.Order.{Order}
use Rattle.dai_ground.specs.declared.comparing.Order.TheVariants.{Same, Less, LessOrSame}
use Rattle.dai_ground.specs.Grounding.{IsTermIn, IsFormulaIn, AreCandidates, IsValue, Grounds, environment}
use Rattle.dai_ground.specs.Atoms.{compares, comparison_of, IsComparison}
use Rattle.dai_ground.specs.Findings.{Finds}
use Rattle.dai_ground.proofs.Findings.{finds_other}

-- two terms of one type
pub record AreTwoTerms (P : Protocol) (frame : Frame) (picture : Picture) (count : ℕ) (binding : List ℕ) (a b : Term) : Type 0 where
  pub sort : ℕ
  pub first : IsTermIn P frame picture count binding a sort
  pub second : IsTermIn P frame picture count binding b sort

pub two_terms : (P : Protocol) (frame : Frame) (picture : Picture) (count : ℕ) (binding : List ℕ) (order : Order) (a b : Term) → IsFormulaIn P frame picture count binding (comparison_of order a b) → AreTwoTerms P frame picture count binding a b
two_terms P frame picture count binding Same a b h = record { sort = h.sorted.0; first = record { scope = h.scope; placed = h.placed; sorted = h.sorted.1 }; second = record { scope = h.scope; placed = h.placed; sorted = h.sorted.2 } }
two_terms P frame picture count binding Less a b h = record { sort = h.sorted.0; first = record { scope = h.scope; placed = h.placed; sorted = h.sorted.1 }; second = record { scope = h.scope; placed = h.placed; sorted = h.sorted.2 } }
two_terms P frame picture count binding LessOrSame a b h = record { sort = h.sorted.0; first = record { scope = h.scope; placed = h.placed; sorted = h.sorted.1 }; second = record { scope = h.scope; placed = h.placed; sorted = h.sorted.2 } }

-- the types of two terms that are compared
pub record HaveType (P : Protocol) (scope : Scope) (a b : Term) : Type 0 where
  pub type : ℕ
  pub first : HasSort P scope a type
  pub second : HasSort P scope b type

have_type : (P : Protocol) (scope : Scope) (order : Order) (a b : Term) → IsWellSorted P scope (comparison_of order a b) → HaveType P scope a b
have_type P scope Same a b h = record { type = h.0; first = h.1; second = h.2 }
have_type P scope Less a b h = record { type = h.0; first = h.1; second = h.2 }
have_type P scope LessOrSame a b h = record { type = h.0; first = h.1; second = h.2 }

comparison_value : (s : Structure) (env : Environment) (order : Order) (a b : Term) → value_of s env (comparison_of order a b) ≡ compares order (value_of_term s env a) (value_of_term s env b)
comparison_value s env Same a b = refl
comparison_value s env Less a b = refl
comparison_value s env LessOrSame a b = refl

pub compares_grounds : (P : Protocol) (frame : Frame) (picture : Picture) (count : ℕ) (binding : List ℕ) (order : Order) (a b : Term) (left right : List Candidate) (f g : Clauses.Formula) (result : Result Bit Spent) (t : AreTwoTerms P frame picture count binding a b) → AreCandidates P frame picture count binding a t.sort left → AreCandidates P frame picture count binding b t.sort right → Finds (IsComparison order left right) f g result → Grounds P frame picture binding (comparison_of order a b) f g result
compares_grounds P frame picture count binding order a b left right f g result t l r h =
    finds_other (IsComparison order left right) (IsValue P frame picture binding (comparison_of order a b)) f g result
    (λ bits value is.
    let env = environment binding is.arguments is.choices in
    let types = have_type P is.scope order a b is.sorted in
    record {
      first = value_of_term is.structure env a;
      second = value_of_term is.structure env b;
      first_stands = l.stand bits is.scope types.type is.structure is.arguments is.choices types.first is.sees;
      second_stands = r.stand bits is.scope types.type is.structure is.arguments is.choices types.second is.sees;
      is = is.is ∙ comparison_value is.structure env order a b;
    })
    h
