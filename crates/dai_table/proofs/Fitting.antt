-- A state is a structure of its protocol, a block of it may be executed there, and a closed formula has a value.
use Rattle.std.proofs.Common.{◌≡◌, ◌<◌, ℕ, zero, suc, List, [], ◌∷◌, length, get_or, map, Some, sym, ◌∙◌, ap, subst, refl, arith}
use Rattle.std.specs.Prelude.{slice_get, IsTrue}
use Rattle.std.specs.Option.{option_map}
use Rattle.std.specs.List.{All}
use Rattle.std.proofs.lemmas.List.{length-map, get_or-map}
use Rattle.dai_model.specs.Protocol.{Protocol, Individual, Block, Action}
use Rattle.dai_model.specs.Structure.{is_tuple}
use Rattle.dai_model.specs.Formula.{Formula}
use Rattle.dai_model.specs.Value.{Environment}
use Rattle.dai_model.specs.WellSorted.{IsProtocol, IsWellSortedBlock, IsWellSorted, closed_scope}
use Rattle.dai_logic.specs.declared.structure.Structure.{Structure}
use Rattle.dai_logic.specs.declared.structure.BlockId.{BlockId}
use Rattle.dai_logic.specs.declared.structure.BlockId.TheVariants.{Init, Act}
use Rattle.dai_logic.specs.declared.protocol.Formula.{Formula as Form}
use Rattle.dai_logic.specs.Trees.{formula_of}
use Rattle.dai_logic.specs.Protocols.{block_named}
use Rattle.dai_logic.specs.Tables.{IsEvaluable}
use Rattle.dai_logic.specs.Execution.{IsCall}
use Rattle.dai_table.specs.Flags.{IsFlags}

-- a list of types where there is none is empty
pub no_sorts : (n : ℕ) (sorts : List ℕ) → n ≡ 0 → All (λ sort. sort < n) sorts → sorts ≡ []
no_sorts n [] none h = refl
no_sorts n (sort ∷ sorts) none h = let k : sort < n = h 0 0 (omega arith) in absurd (omega arith)

pub no_individuals : (n : ℕ) (individuals : List Individual) → n ≡ 0 → All (λ (I : Individual). I.sort < n) individuals → individuals ≡ []
no_individuals n [] none h = refl
no_individuals n (I ∷ individuals) none h = let k : I.sort < n = h 0 I (omega arith) in absurd (omega arith)

slice_get-get_or : {A : Type 0} (xs : List A) (i : ℕ) (x d : A) → slice_get xs i ≡ Some x → get_or xs i d ≡ x
slice_get-get_or [] i x d h = absurd (let e : ⊥ = cc in e)
slice_get-get_or (y ∷ ys) zero x d h = cc
slice_get-get_or (y ∷ ys) (suc i) x d h = slice_get-get_or ys i x d h

-- the block of this name, without arguments and choices
pub call_of : (P : Protocol) (block : BlockId) (s : Structure) (called : Block) → P.sorts ≡ [] → IsWellSortedBlock P called → block_named P block ≡ Some called → IsCall P block s [] []
call_of P block s called no_types sorted named =
    let none : length P.sorts ≡ 0 = ap length no_types in
    let parameters = no_sorts (length P.sorts) called.parameters none sorted.parameters in
    let choices = no_sorts (length P.sorts) called.choices none sorted.choices in
    record {
      called = called;
      named = named;
      given = subst (λ sorts. IsTrue (is_tuple s.sizes.items sorts [])) (sym parameters) refl;
      chosen = subst (λ sorts. IsTrue (is_tuple s.sizes.items sorts [])) (sym choices) refl;
    }

pub init_call : (P : Protocol) (s : Structure) → IsProtocol P → IsFlags P s → IsCall P Init s [] []
init_call P s protocol flags = call_of P Init s P.init flags.no_types protocol.init refl

slice_get-below : {A : Type 0} (xs : List A) (i : ℕ) (d : A) → i < length xs → slice_get xs i ≡ Some (get_or xs i d)
slice_get-below [] i d h = absurd (omega arith)
slice_get-below (x ∷ xs) zero d h = refl
slice_get-below (x ∷ xs) (suc i) d h = slice_get-below xs i d (omega arith)

pub action_call : (P : Protocol) (s : Structure) (a : ℕ) → IsProtocol P → IsFlags P s → a < length P.actions → IsCall P (Act a) s [] []
action_call P s a protocol flags below =
    let d : Action = record { name = []; block = P.init } in
    let found = slice_get-below P.actions a d below in
    let named : block_named P (Act a) ≡ Some (get_or P.actions a d).block = ap (option_map (λ (b : Action). b.block)) found in
    call_of P (Act a) s (get_or P.actions a d).block flags.no_types (protocol.actions a d below) named

-- a closed formula needs no environment
pub closed_evaluable : (P : Protocol) (sizes : List ℕ) (env : Environment) (f : Formula) → IsWellSorted P closed_scope f → IsEvaluable P sizes env f
closed_evaluable P sizes env f sorted = record {
  scope = closed_scope;
  sorted = sorted;
  gives = record {
    fits = record {
      variables = λ v sort h. absurd (let e : ⊥ = cc in e);
      parameters = λ p sort h. absurd (let e : ⊥ = cc in e);
      choices = λ c sort h. absurd (let e : ⊥ = cc in e);
    };
    parameters = omega arith;
    choices = omega arith;
  };
}

-- an item of a list of formulas, each of which is closed
pub closed_item : (P : Protocol) (fs : List Form) (i : ℕ) (f d : Form) → All (IsWellSorted P closed_scope) (map formula_of fs) → i < length fs → f ≡ get_or fs i d → IsWellSorted P closed_scope (formula_of f)
closed_item P fs i f d closed below same =
    let here : i < length (map formula_of fs) = rw length-map below in
    let at = closed i (formula_of d) here in
    let e = get_or-map formula_of fs i d (formula_of d) below in
    subst (IsWellSorted P closed_scope) (e ∙ ap formula_of (sym same)) at
