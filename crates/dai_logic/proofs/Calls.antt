-- The block that a call names, and what it leaves.
use Rattle.std.proofs.Common.{◌≡◌, Bool, ℕ, List, get_or, arith, Option, Some, None, slice_get, sym, ap, ◌∙◌, refl, subst}
use Rattle.std.specs.Prelude.{IsSome, IsTrue, if◌then◌else◌}
use Rattle.std.specs.Option.{option_map}
use Rattle.std.proofs.lemmas.Option.{get_or_from_slice_get}
use Rattle.dai_model.specs.Protocol as Model
use Rattle.dai_model.specs.Formula.{Statements}
use Rattle.dai_model.specs.Value.{Environment, environment_of as block_environment}
use Rattle.dai_model.specs.Structure.{is_tuple}
use Rattle.dai_model.specs.Execution.{after_statements, executes}
use Rattle.dai_model.specs.WellSorted.{IsProtocol, IsWellSortedBlock, scope_of}
use Rattle.dai_model.proofs.Typed.{block_fits, slice_get-length}
use Rattle.dai_logic.specs.declared.structure.Structure.{Structure}
use Rattle.dai_logic.specs.declared.structure.BlockId.{BlockId}
use Rattle.dai_logic.specs.declared.structure.BlockId.TheVariants.{Init, Act}
use Rattle.dai_logic.specs.Protocols.{block_named}
use Rattle.dai_logic.specs.Tables.{structure_of, Gives, IsRunnable}
use Rattle.dai_logic.specs.Environments.{EnvironmentTables, environment_of}
use Rattle.dai_logic.specs.Execution.{IsCall, IsEntered, IsStepped}
use Rattle.dai_logic.proofs.Tuples.{tuple_length}

-- each block of a protocol is well-sorted
action_block : (P : Model.Protocol) (a : ℕ) (called : Model.Block) (o : Option Model.Action) → IsProtocol P → slice_get P.actions a ≡ o → option_map (λ (b : Model.Action). b.block) o ≡ Some called → IsWellSortedBlock P called
action_block P a called None protocol found named = absurd (let k : ⊥ = cc in k)
action_block P a called (Some x) protocol found named =
    let below = slice_get-length P.actions a x found in
    let is : get_or P.actions a x ≡ x = get_or_from_slice_get P.actions a x x found in
    let same : x.block ≡ called = cc in
    subst (IsWellSortedBlock P) (ap (λ (b : Model.Action). b.block) is ∙ same) (protocol.actions a x below)

pub well_sorted_block : (P : Model.Protocol) (block : BlockId) (called : Model.Block) → IsProtocol P → block_named P block ≡ Some called → IsWellSortedBlock P called
well_sorted_block P Init called protocol named = let same : P.init ≡ called = cc in subst (IsWellSortedBlock P) same protocol.init
well_sorted_block P (Act a) called protocol named = action_block P a called (slice_get P.actions a) protocol refl named

pub named_some : (P : Model.Protocol) (block : BlockId) (called : Model.Block) → block_named P block ≡ Some called → IsSome (block_named P block)
named_some P block called named = subst (λ (o : Option Model.Block). IsSome o) (sym named) refl

-- the code of the call can be run from a structure with the same sizes
pub call_runnable : (P : Model.Protocol) (block : BlockId) (s : Structure) (sizes : List ℕ) (env : EnvironmentTables) (code : Statements) (arguments choices : List ℕ) → IsProtocol P → (call : IsCall P block s arguments choices) → sizes ≡ s.sizes.items → environment_of env ≡ block_environment arguments choices → code ≡ call.called.code → IsRunnable P sizes (environment_of env) code
call_runnable P block s sizes env code arguments choices protocol call z e is =
    let well = well_sorted_block P block call.called protocol call.named in
    let gives : Gives (scope_of call.called) s.sizes.items (block_environment arguments choices) = record {
      fits = block_fits s.sizes.items call.called arguments choices call.given call.chosen;
      parameters = (let as_many = tuple_length s.sizes.items call.called.parameters arguments call.given in omega arith);
      choices = (let as_many = tuple_length s.sizes.items call.called.choices choices call.chosen in omega arith);
    } in
    let own : IsRunnable P s.sizes.items (block_environment arguments choices) call.called.code = record { scope = scope_of call.called; sorted = well.code; gives = gives } in
    subst (λ xs. IsRunnable P xs (environment_of env) code) (sym z)
    (subst (λ env. IsRunnable P s.sizes.items env code) (sym e)
    (subst (IsRunnable P s.sizes.items (block_environment arguments choices)) (sym is) own))

-- what a block leaves, by its code
pub entered_executes : (P : Model.Protocol) (block : BlockId) (s : Structure) (env : EnvironmentTables) (code : Statements) → IsEntered P block s env → ((b : Model.Block) → block_named P block ≡ Some b → code ≡ b.code) → (called : Model.Block) → block_named P block ≡ Some called → executes P called (structure_of P s) env.arguments env.choices ≡ after_statements P (environment_of env) code (structure_of P s)
entered_executes P block s env code entered is called named =
    ap (λ a. after_statements P a called.code (structure_of P s)) (sym entered.blank) ∙ ap (λ cs. after_statements P (environment_of env) cs (structure_of P s)) (sym (is called named))

-- the code of a block that is entered can be run
pub entered_runnable : (P : Model.Protocol) (block : BlockId) (s : Structure) (env : EnvironmentTables) (code : Statements) → IsProtocol P → IsEntered P block s env → ((b : Model.Block) → block_named P block ≡ Some b → code ≡ b.code) → IsRunnable P s.sizes.items (environment_of env) code
entered_runnable P block s env code protocol entered is =
    call_runnable P block s s.sizes.items env code env.arguments env.choices protocol entered.call refl entered.blank (is entered.call.called entered.call.named)

-- an environment that is made for a call is entered
pub made_entered : (P : Model.Protocol) (block : BlockId) (s : Structure) (env : EnvironmentTables) (arguments choices : List ℕ) → IsCall P block s arguments choices → environment_of env ≡ block_environment arguments choices → IsEntered P block s env
made_entered P block s env arguments choices call e =
    let given : env.arguments ≡ arguments = ap (λ (a : Environment). a.parameters) e in
    let chosen : env.choices ≡ choices = ap (λ (a : Environment). a.choices) e in
    record {
      call = record {
        called = call.called;
        named = call.named;
        given = subst (λ es. IsTrue (is_tuple s.sizes.items call.called.parameters es)) (sym given) call.given;
        chosen = subst (λ es. IsTrue (is_tuple s.sizes.items call.called.choices es)) (sym chosen) call.chosen;
      };
      blank = e ∙ (λ i. block_environment (sym given i) (sym chosen i));
    }

-- the answer of a step is what the block leaves
pub stepped_left : (P : Model.Protocol) (block : BlockId) (s after : Structure) (env : EnvironmentTables) (arguments choices : List ℕ) (b : Bool) → environment_of env ≡ block_environment arguments choices → IsStepped P block s env after b → (called : Model.Block) → block_named P block ≡ Some called → (if b then Some (structure_of P after) else None) ≡ executes P called (structure_of P s) arguments choices
stepped_left P block s after env arguments choices b e h called named =
    sym (h.left called named) ∙ (λ i. executes P called (structure_of P s) (e i).parameters (e i).choices)
