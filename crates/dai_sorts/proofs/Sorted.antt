-- What a file without faults translates to is a well-sorted protocol.
use Rattle.std.proofs.Common.{◌≡◌, ℕ, ◌+◌, ◌<◌, Bool, true, false, cond, List, [], ◌∷◌, length, Option, None, Some, ap, sym, ◌∙◌, refl, subst, ⊎_elim}
use Rattle.std.specs.List.{All, AllByRecursion, AllZip, Contains, filter, filter_map, flat_map, enumerate_from, cons_option}
use Rattle.std.proofs.lemmas.List.Elements.{All-nil, All-cons, All-same, All-weaker, Contains-append_left, Contains-append_right}
use Rattle.dai_syntax.specs.Tree.{Formula, Statements, Declaration, sort, relation, individual, axiom_of, init, action, export, invariant}
use Rattle.dai_model.specs.Formula as Model
use Rattle.dai_model.specs.Protocol.{Protocol, Block, Relation, Individual, Action, Invariant}
use Rattle.dai_model.specs.WellSorted.{IsWellSorted, closed_scope, IsWellSortedBlock, Symbol, names, some_assigns, SparesAxioms, IsProtocol}
use Rattle.dai_rules.specs.Sites.{as_axiom, as_invariant, targets_in, assigned_by}
use Rattle.dai_rules.specs.Faults.{IsFaultless}
use Rattle.dai_sorts.specs.Scopes.{scope_at, with_terms, parameters_from}
use Rattle.dai_sorts.specs.Statements.{locals_in}
use Rattle.dai_sorts.specs.Protocols.{Placed, axiom_in, init_in, action_in, invariant_in, all_in, WrittenAction, WrittenInvariant, is_exported, declared_relation, declared_individual, IsAxiom, Initiate, IsAction, IsInvariant, IsProtocolOf}
use Rattle.dai_sorts.proofs.OneProtocolSound.{IsGoodAxiom, IsGoodInvariant, good_axioms, good_invariants}
use Rattle.dai_sorts.proofs.SortedTerms.{IsFile}
use Rattle.dai_sorts.proofs.SortedSentences.{sentence_sorted}
use Rattle.dai_sorts.proofs.SortedBlocks.{IsTypedAction, action_sorted, init_sorted}
use Rattle.dai_sorts.proofs.SortedFile.{declarations_typed, is_file, relations_below, individuals_below, typed_inits, typed_actions}
use Rattle.dai_sorts.proofs.SortedAxioms.{IsSymbol, Assigned, joined_assigns, statements_assign, not_assigned}
use Rattle.dai_sorts.proofs.Lists.{good_numbered}

-- what stands for good things has a property
zip_good : {X Y : Type 0} (R : X → Y → Type 0) (Good : X → Type 0) (Q : Y → Type 0) → ((x : X) (y : Y) → Good x → R x y → Q y) → (xs : List X) (ys : List Y) → AllByRecursion Good xs → AllZip R xs ys → All Q ys
zip_good R Good Q one [] [] good h = All-nil Q
zip_good R Good Q one [] (y ∷ ys) good h = absurd h
zip_good R Good Q one (x ∷ xs) [] good h = absurd h
zip_good R Good Q one (x ∷ xs) (y ∷ ys) good h = All-cons Q y ys (one x y good.0 h.0) (zip_good R Good Q one xs ys good.1 h.1)

kept_as : {X : Type 0} (Good : X → Type 0) (b : Bool) (x : X) (kept : List X) → Good x → AllByRecursion Good kept → AllByRecursion Good (cond b (x ∷ kept) kept)
kept_as Good true x kept good rest = (good, rest)
kept_as Good false x kept good rest = rest

good_kept : {X : Type 0} (Good : X → Type 0) (test : X → Bool) (xs : List X) → AllByRecursion Good xs → AllByRecursion Good (filter test xs)
good_kept Good test [] good = tt
good_kept Good test (x ∷ xs) good = kept_as Good (test x) x (filter test xs) good.0 (good_kept Good test xs good.1)

-- the targets of what is written are those of the file
abbrev AreTargets : {X : Type 0} → (X → Statements) → List Declaration → Placed X → Type 0
AreTargets {X} code all p = (z : List ℕ) → Contains (targets_in (code p.written)) z → Contains (flat_map assigned_by all) z

targets_cons : {Y : Type 0} (Good : Y → Type 0) (o : Option Y) (ys : List Y) → ((y : Y) → o ≡ Some y → Good y) → AllByRecursion Good ys → AllByRecursion Good (cons_option o ys)
targets_cons Good None ys one rest = rest
targets_cons Good (Some y) ys one rest = (one y refl, rest)

targets_from : {X : Type 0} (one : ℕ × Declaration → Option (Placed X)) (code : X → Statements) (all : List Declaration) → ((here : ℕ) (d : Declaration) (p : Placed X) → one (here, d) ≡ Some p → targets_in (code p.written) ≡ assigned_by d)
    → (here : ℕ) (ds : List Declaration) → ((z : List ℕ) → Contains (flat_map assigned_by ds) z → Contains (flat_map assigned_by all) z) → AllByRecursion (AreTargets code all) (filter_map one (enumerate_from here ds))
targets_from one code all is here [] h = tt
targets_from one code all is here (d ∷ ds) h =
    targets_cons (AreTargets code all) (one (here, d)) (filter_map one (enumerate_from (here + 1) ds))
    (λ p e z there. h z (Contains-append_left (assigned_by d) (flat_map assigned_by ds) z (subst (λ (names : List (List ℕ)). Contains names z) (is here d p e) there)))
    (targets_from one code all is (here + 1) ds (λ z there. h z (Contains-append_right (assigned_by d) (flat_map assigned_by ds) z there)))

init_targets : (here : ℕ) (d : Declaration) (p : Placed Statements) → init_in (here, d) ≡ Some p → targets_in p.written ≡ assigned_by d
init_targets here (init body) p e =
    let k : record { here = here; written = body } ≡ p = cc in
    sym (ap (λ (p : Placed Statements). targets_in p.written) k)
init_targets here (sort name ordered) p e = absurd (let z : ⊥ = cc in z)
init_targets here (relation name arguments) p e = absurd (let z : ⊥ = cc in z)
init_targets here (individual name type) p e = absurd (let z : ⊥ = cc in z)
init_targets here (axiom_of f at) p e = absurd (let z : ⊥ = cc in z)
init_targets here (action name parameters body exported) p e = absurd (let z : ⊥ = cc in z)
init_targets here (export name) p e = absurd (let z : ⊥ = cc in z)
init_targets here (invariant label f at) p e = absurd (let z : ⊥ = cc in z)

action_targets : (here : ℕ) (d : Declaration) (p : Placed WrittenAction) → action_in (here, d) ≡ Some p → targets_in p.written.body ≡ assigned_by d
action_targets here (action name parameters body exported) p e =
    let written : WrittenAction = record { name = name; parameters = parameters; body = body } in
    let k : record { here = here; written = written } ≡ p = cc in
    sym (ap (λ (p : Placed WrittenAction). targets_in p.written.body) k)
action_targets here (sort name ordered) p e = absurd (let z : ⊥ = cc in z)
action_targets here (relation name arguments) p e = absurd (let z : ⊥ = cc in z)
action_targets here (individual name type) p e = absurd (let z : ⊥ = cc in z)
action_targets here (axiom_of f at) p e = absurd (let z : ⊥ = cc in z)
action_targets here (init body) p e = absurd (let z : ⊥ = cc in z)
action_targets here (export name) p e = absurd (let z : ⊥ = cc in z)
action_targets here (invariant label f at) p e = absurd (let z : ⊥ = cc in z)

abbrev code_alone : Statements → Statements
code_alone body = body

abbrev body_of : WrittenAction → Statements
body_of a = a.body

-- an axiom names no symbol that the file assigns
abbrev IsSpared : List Declaration → Model.Formula → Type 0
IsSpared ds g = (x : Symbol) (z : List ℕ) → names x g ≡ true → IsSymbol ds x z → Contains (flat_map assigned_by ds) z → ⊥

axiom_spared : (ds : List Declaration) (p : Placed Formula) (g : Model.Formula) → IsGoodAxiom ds p → IsAxiom ds p g → IsSpared ds g
axiom_spared ds p g good is = λ x z named symbol there. not_assigned ds p.here (flat_map assigned_by ds) x p.written g z good is named symbol there

spared_by : (ds : List Declaration) (x : Symbol) (g : Model.Formula) (v b : Bool) → v ≡ b → IsSpared ds g → names x g ≡ true → (v ≡ true → Assigned ds x (flat_map assigned_by ds)) → v ≡ false
spared_by ds x g v false e spared named assigned = e
spared_by ds x g v true e spared named assigned = let k = assigned e in absurd (spared x k.0 named k.2 k.1)

block_spares : (ds : List Declaration) (P : Protocol) (block : Block) → All (IsSpared ds) P.axioms → ((x : Symbol) → some_assigns x block.code ≡ true → Assigned ds x (flat_map assigned_by ds)) → SparesAxioms P block
block_spares ds P block spared assigned = λ x.
    All-weaker (IsSpared ds) (λ g. names x g ≡ true → some_assigns x block.code ≡ false) (λ g h named. spared_by ds x g (some_assigns x block.code) (some_assigns x block.code) refl h named (assigned x)) P.axioms spared

start_assigns : (ds : List Declaration) (x : Symbol) (next : ℕ) (bodies : List (Placed Statements)) (out : Model.Statements) → AllByRecursion (AreTargets code_alone ds) bodies → Initiate ds next bodies out → some_assigns x out ≡ true → Assigned ds x (flat_map assigned_by ds)
start_assigns ds x next [] out good d h = absurd (let k : false ≡ true = sym (ap (some_assigns x) d) ∙ h in let z : ⊥ = cc in z)
start_assigns ds x next (p ∷ bodies) out good d h =
    ⊎_elim
    (λ r. let k = statements_assign x (scope_at ds p.here) next p.written d.0 d.2 r in (k.0, good.0 k.0 k.1, k.2))
    (λ r. start_assigns ds x (next + length (locals_in p.written)) bodies d.1 good.1 d.3 r)
    (joined_assigns x d.0 d.1 (sym (ap (some_assigns x) d.4) ∙ h))

action_spares : (ds : List Declaration) (P : Protocol) (p : Placed WrittenAction) (a : Action) → All (IsSpared ds) P.axioms → AreTargets body_of ds p → IsAction ds p a → SparesAxioms P a.block
action_spares ds P p a spared good is =
    let bs = p.written.parameters in
    block_spares ds P a.block spared (λ x h. let k = statements_assign x (with_terms (scope_at ds p.here) bs (parameters_from 0 bs)) 0 p.written.body a.block.code is.code h in (k.0, good k.0 k.1, k.2))

axiom_sorted : (ds : List Declaration) (P : Protocol) (file : IsFile ds P) (p : Placed Formula) (g : Model.Formula) → IsGoodAxiom ds p → IsAxiom ds p g → IsWellSorted P closed_scope g
axiom_sorted ds P file p g good is = sentence_sorted P (scope_at ds p.here) [] [] (as_axiom (flat_map assigned_by ds)) p.written g file tt good is

invariant_sorted : (ds : List Declaration) (P : Protocol) (file : IsFile ds P) (p : ℕ × Placed WrittenInvariant) (f : Invariant) → IsGoodInvariant ds p.1 → IsInvariant ds p f → IsWellSorted P closed_scope f.body
invariant_sorted ds P file p f good is = sentence_sorted P (scope_at ds p.1.here) [] [] as_invariant p.1.written.body f.body file tt good is.body

pub sorted : (ds : List Declaration) (P : Protocol) → IsFaultless ds → IsProtocolOf ds P → IsProtocol P
sorted ds P faultless is =
    let file = is_file ds P faultless is in
    let typed = declarations_typed ds faultless in
    let exported = filter (is_exported ds) (all_in action_in ds) in
    let spared = zip_good (IsAxiom ds) (IsGoodAxiom ds) (IsSpared ds) (axiom_spared ds) (all_in axiom_in ds) P.axioms (good_axioms ds faultless) is.axioms in
    let init_code = targets_from init_in code_alone ds init_targets 0 ds (λ z there. there) in
    let action_code = good_kept (AreTargets body_of ds) (is_exported ds) (all_in action_in ds) (targets_from action_in body_of ds action_targets 0 ds (λ z there. there)) in
    record {
      relations = All-same (λ (R : Relation). All (λ sort. sort < length P.sorts) R.arguments) P.relations (filter_map (declared_relation ds) ds) is.relations (relations_below ds P file ds typed);
      individuals = All-same (λ (I : Individual). I.sort < length P.sorts) P.individuals (filter_map (declared_individual ds) ds) is.individuals (individuals_below ds P file ds typed);
      axioms = zip_good (IsAxiom ds) (IsGoodAxiom ds) (IsWellSorted P closed_scope) (axiom_sorted ds P file) (all_in axiom_in ds) P.axioms (good_axioms ds faultless) is.axioms;
      init = init_sorted ds P (all_in init_in ds) P.init file (typed_inits ds faultless) is.init;
      no_arguments = is.init.no_parameters;
      actions = zip_good (IsAction ds) (IsTypedAction ds) (λ (a : Action). IsWellSortedBlock P a.block) (λ p a good h. action_sorted ds P p a file good h) exported P.actions (good_kept (IsTypedAction ds) (is_exported ds) (all_in action_in ds) (typed_actions ds faultless)) is.actions;
      invariants = zip_good (IsInvariant ds) (λ p. IsGoodInvariant ds p.1) (λ (f : Invariant). IsWellSorted P closed_scope f.body) (invariant_sorted ds P file) (enumerate_from 1 (all_in invariant_in ds)) P.invariants (good_numbered (IsGoodInvariant ds) 1 (all_in invariant_in ds) (good_invariants ds faultless)) is.invariants;
      init_spares = block_spares ds P P.init spared (λ x h. start_assigns ds x 0 (all_in init_in ds) P.init.code init_code is.init.code h);
      actions_spare = zip_good (IsAction ds) (AreTargets body_of ds) (λ (a : Action). SparesAxioms P a.block) (λ p a good h. action_spares ds P p a spared good h) exported P.actions action_code is.actions;
    }
