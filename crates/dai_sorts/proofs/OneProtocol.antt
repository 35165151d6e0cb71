-- A file without faults is at most one protocol.
use Rattle.std.proofs.Common.{◌≡◌, ℕ, ◌+◌, Bool, true, false, List, [], ◌∷◌, length, cond, sym, ◌∙◌, refl}
use Rattle.std.specs.List.{AllByRecursion, AllZip, filter, flat_map, enumerate_from}
use Rattle.dai_model.specs.Formula as Model
use Rattle.dai_model.specs.Protocol.{Protocol, Block, Action, Invariant}
use Rattle.dai_syntax.specs.Tree.{Formula, Statements, Declaration}
use Rattle.dai_rules.specs.Sites.{as_axiom, as_invariant, assigned_by}
use Rattle.dai_rules.specs.Faults.{IsFaultless}
use Rattle.dai_sorts.specs.Scopes.{scope_at, with_terms, parameters_from}
use Rattle.dai_sorts.specs.Statements.{locals_in, joined}
use Rattle.dai_sorts.specs.Protocols.{Placed, axiom_in, init_in, action_in, invariant_in, WrittenAction, WrittenInvariant, is_exported, all_in, IsAxiom, Initiate, IsInit, IsAction, IsInvariant, IsProtocolOf}
use Rattle.dai_sorts.proofs.OneProtocolSound.{IsGoodAxiom, IsGoodInit, IsGoodAction, IsGoodInvariant, good_axioms, good_inits, good_actions, good_invariants}
use Rattle.dai_sorts.proofs.OneProtocolParts.{one_sentence, one_blocks}
use Rattle.dai_sorts.proofs.Lists.{good_numbered}

-- what stands for good things, one by one, is one list
one_list : {X Y : Type 0} (R : X → Y → Type 0) (Good : X → Type 0) → ((x : X) (y z : Y) → Good x → R x y → R x z → y ≡ z) → (xs : List X) (ys zs : List Y) → AllByRecursion Good xs → AllZip R xs ys → AllZip R xs zs → ys ≡ zs
one_list R Good one [] [] [] good a b = refl
one_list R Good one [] [] (z ∷ zs) good a b = absurd b
one_list R Good one [] (y ∷ ys) zs good a b = absurd a
one_list R Good one (x ∷ xs) [] zs good a b = absurd a
one_list R Good one (x ∷ xs) (y ∷ ys) [] good a b = absurd b
one_list R Good one (x ∷ xs) (y ∷ ys) (z ∷ zs) good a b =
    let head = one x y z good.0 a.0 b.0 in
    let tail = one_list R Good one xs ys zs good.1 a.1 b.1 in
    λ i. head i ∷ tail i

kept_as : {X : Type 0} (Good : X → Type 0) (b : Bool) (x : X) (kept : List X) → Good x → AllByRecursion Good kept → AllByRecursion Good (cond b (x ∷ kept) kept)
kept_as Good true x kept good rest = (good, rest)
kept_as Good false x kept good rest = rest

good_kept : {X : Type 0} (Good : X → Type 0) (test : X → Bool) (xs : List X) → AllByRecursion Good xs → AllByRecursion Good (filter test xs)
good_kept Good test [] good = tt
good_kept Good test (x ∷ xs) good = kept_as Good (test x) x (filter test xs) good.0 (good_kept Good test xs good.1)

one_axiom : (all : List Declaration) (p : Placed Formula) (g h : Model.Formula) → IsGoodAxiom all p → IsAxiom all p g → IsAxiom all p h → g ≡ h
one_axiom all p g h good one other = one_sentence (scope_at all p.here) (as_axiom (flat_map assigned_by all)) p.written g h good one other

one_invariant : (all : List Declaration) (p : ℕ × Placed WrittenInvariant) (f g : Invariant) → IsGoodInvariant all p.1 → IsInvariant all p f → IsInvariant all p g → f ≡ g
one_invariant all p f g good one other =
    let label = one.label ∙ sym other.label in
    let body = one_sentence (scope_at all p.1.here) as_invariant p.1.written.body f.body g.body good one.body other.body in
    λ i. record { label = label i; body = body i }

one_action : (all : List Declaration) (p : Placed WrittenAction) (a b : Action) → IsGoodAction all p → IsAction all p a → IsAction all p b → a ≡ b
one_action all p a b good one other =
    let name = one.name ∙ sym other.name in
    let parameters = one.parameters ∙ sym other.parameters in
    let locals = one.locals ∙ sym other.locals in
    let code = one_blocks (with_terms (scope_at all p.here) p.written.parameters (parameters_from 0 p.written.parameters)) 0 p.written.body a.block.code b.block.code good one.code other.code in
    λ i. record { name = name i; block = record { parameters = parameters i; choices = locals i; code = code i } }

one_start : (all : List Declaration) (next : ℕ) (bodies : List (Placed Statements)) (cs ds : Model.Statements) → AllByRecursion (IsGoodInit all) bodies → Initiate all next bodies cs → Initiate all next bodies ds → cs ≡ ds
one_start all next [] cs ds good one other = one ∙ sym other
one_start all next (body ∷ bodies) cs ds good one other =
    let a = one_blocks (scope_at all body.here) next body.written one.0 other.0 good.0 one.2 other.2 in
    let b = one_start all (next + length (locals_in body.written)) bodies one.1 other.1 good.1 one.3 other.3 in
    one.4 ∙ (λ i. joined (a i) (b i)) ∙ sym other.4

one_init : (all : List Declaration) (bodies : List (Placed Statements)) (a b : Block) → AllByRecursion (IsGoodInit all) bodies → IsInit all bodies a → IsInit all bodies b → a ≡ b
one_init all bodies a b good one other =
    let parameters = one.no_parameters ∙ sym other.no_parameters in
    let locals = one.locals ∙ sym other.locals in
    let code = one_start all 0 bodies a.code b.code good one.code other.code in
    λ i. record { parameters = parameters i; choices = locals i; code = code i }

pub one_protocol : (ds : List Declaration) (P Q : Protocol) → IsFaultless ds → IsProtocolOf ds P → IsProtocolOf ds Q → P ≡ Q
one_protocol ds P Q faultless one other =
    let sorts = one.sorts ∙ sym other.sorts in
    let relations = one.relations ∙ sym other.relations in
    let individuals = one.individuals ∙ sym other.individuals in
    let axioms = one_list (IsAxiom ds) (IsGoodAxiom ds) (one_axiom ds) (all_in axiom_in ds) P.axioms Q.axioms (good_axioms ds faultless) one.axioms other.axioms in
    let init = one_init ds (all_in init_in ds) P.init Q.init (good_inits ds faultless) one.init other.init in
    let exported = filter (is_exported ds) (all_in action_in ds) in
    let actions = one_list (IsAction ds) (IsGoodAction ds) (one_action ds) exported P.actions Q.actions (good_kept (IsGoodAction ds) (is_exported ds) (all_in action_in ds) (good_actions ds faultless)) one.actions other.actions in
    let numbered = enumerate_from 1 (all_in invariant_in ds) in
    let invariants = one_list (IsInvariant ds) (λ p. IsGoodInvariant ds p.1) (one_invariant ds) numbered P.invariants Q.invariants (good_numbered (IsGoodInvariant ds) 1 (all_in invariant_in ds) (good_invariants ds faultless)) one.invariants other.invariants in
    λ i. record {
      sorts = sorts i;
      relations = relations i;
      individuals = individuals i;
      axioms = axioms i;
      init = init i;
      actions = actions i;
      invariants = invariants i;
    }
