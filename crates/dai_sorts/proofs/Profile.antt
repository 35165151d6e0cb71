-- What a file without faults translates to is in the profile.
use Rattle.std.proofs.Common.{◌≡◌, ℕ, ◌+◌, ◌≤◌, Bool, true, false, cond, List, [], ◌∷◌, ◌++◌, length, map, filter, ap, sym, ◌∙◌, refl, subst, arith}
use Rattle.std.specs.Prelude.{nat_eq}
use Rattle.std.specs.List.{AllByRecursion, AllZip, IsDistinct, filter_map, enumerate_from, flat_map}
use Rattle.std.specs.Cmp.Lexicographic.{pointwise}
use Rattle.std.proofs.lemmas.List.{length-map}
use Rattle.std.proofs.lemmas.List.Elements.{All-from_recursion, recursion_from_All, All-filter}
use Rattle.std.proofs.lemmas.List.FromFn.{length-enumerate_from}
use Rattle.std.proofs.lemmas.Slice.Eq.{bytes_eq-Decides}
use Rattle.dai_model.specs.Formula as Model
use Rattle.dai_model.specs.Protocol.{Protocol, Sort, Relation, Individual, Block, Action, Invariant}
use Rattle.dai_model.specs.Profile.{IsUniversalSentence, AreDirect, IsBlockInProfile, declared_names, IsInProfile}
use Rattle.dai_syntax.specs.declared.tree.Binder.{Binder}
use Rattle.dai_syntax.specs.Tree.{Formula, Statements, Declaration}
use Rattle.dai_rules.specs.Names.{with_inside, same_text}
use Rattle.dai_rules.specs.Sites.{assigned_by, block_room, context_at, room_after_each, sites_of}
use Rattle.dai_rules.specs.Faults.{IsFaultless}
use Rattle.dai_rules.proofs.Lists.{length-AllZip}
use Rattle.dai_sorts.specs.Scopes.{binder_type, scope_at, with_terms, parameters_from}
use Rattle.dai_sorts.specs.Statements.{locals_in}
use Rattle.dai_sorts.specs.Protocols.{Placed, declared_type, declared_relation, declared_individual, axiom_in, init_in, action_in, invariant_in, init_locals, all_in, WrittenAction, WrittenInvariant, is_exported, IsAxiom, Initiate, IsInit, IsAction, IsInvariant, IsProtocolOf}
use Rattle.dai_sorts.specs.Sound.{AreUnbroken}
use Rattle.dai_sorts.proofs.OneProtocolSound.{IsGoodAxiom, IsGoodInit, IsGoodInvariant, sound_statements, good_axioms, good_inits, good_invariants}
use Rattle.dai_sorts.proofs.ProfileRooms.{statements_room}
use Rattle.dai_sorts.proofs.ProfileVariables.{IsFixed, weigh, weigh-append, ones, distinct_by}
use Rattle.dai_sorts.proofs.ProfileStatements.{universal_axiom, universal_invariant, direct_both, direct_statements}
use Rattle.dai_sorts.proofs.ProfileWitnesses.{needs, statements_needs}
use Rattle.dai_sorts.proofs.ProfileDeclarations.{IsRoomyAction, sort_names, relation_names, individual_names, action_names, names_once, fits_file, few_arguments_file, init_file, roomy_file}
use Rattle.dai_sorts.proofs.Unbroken.{faultless_unbroken}
use Rattle.dai_sorts.proofs.Lists.{good_numbered}

-- a relation between lists carries what holds of the one over to the other
carried : {X Y : Type 0} (R : X → Y → Type 0) (Good : X → Type 0) (Out : Y → Type 0) → ((x : X) (y : Y) → Good x → R x y → Out y) → (xs : List X) (ys : List Y) → AllByRecursion Good xs → AllZip R xs ys → AllByRecursion Out ys
carried R Good Out one [] [] good h = tt
carried R Good Out one [] (y ∷ ys) good h = absurd h
carried R Good Out one (x ∷ xs) [] good h = absurd h
carried R Good Out one (x ∷ xs) (y ∷ ys) good h = (one x y good.0 h.0, carried R Good Out one xs ys good.1 h.1)

weigh_kept : {X : Type 0} (w : X → ℕ) (test : X → Bool) (xs : List X) → weigh w (filter test xs) ≤ weigh w xs
weigh_kept w test [] = omega arith
weigh_kept w test (x ∷ xs) = kept_by w (test x) x (filter test xs) xs (weigh_kept w test xs)
  where
    kept_by : {X : Type 0} (w : X → ℕ) (b : Bool) (x : X) (ys xs : List X) → weigh w ys ≤ weigh w xs → weigh w (cond b (x ∷ ys) ys) ≤ weigh w (x ∷ xs)
    kept_by w true x ys xs h = omega arith
    kept_by w false x ys xs h = omega arith

length_kept : {X : Type 0} (test : X → Bool) (xs : List X) → length (filter test xs) ≤ length xs
length_kept test [] = omega arith
length_kept test (x ∷ xs) = kept_by (test x) x (filter test xs) xs (length_kept test xs)
  where
    kept_by : {X : Type 0} (b : Bool) (x : X) (ys xs : List X) → length ys ≤ length xs → length (cond b (x ∷ ys) ys) ≤ length (x ∷ xs)
    kept_by true x ys xs h = omega arith
    kept_by false x ys xs h = omega arith

weigh-map : {X Y : Type 0} (w : Y → ℕ) (f : X → Y) (xs : List X) → weigh w (map f xs) ≡ weigh (λ x. w (f x)) xs
weigh-map w f [] = refl
weigh-map w f (x ∷ xs) = let e = weigh-map w f xs in omega arith

-- names
action_names_same : (all : List Declaration) (ps : List (Placed WrittenAction)) (as_are : List Action) → AllZip (IsAction all) ps as_are → map (λ (a : Action). a.name) as_are ≡ map (λ (p : Placed WrittenAction). p.written.name.text) ps
action_names_same all [] [] h = refl
action_names_same all [] (a ∷ rest) h = absurd h
action_names_same all (p ∷ ps) [] h = absurd h
action_names_same all (p ∷ ps) (a ∷ rest) h = let e = h.0.name in let k = action_names_same all ps rest h.1 in λ i. e i ∷ k i

named_apart : (ds : List Declaration) (P : Protocol) → AreUnbroken (sites_of ds) → IsProtocolOf ds P → IsDistinct (pointwise nat_eq) (declared_names P)
named_apart ds P u is =
    distinct_by (pointwise nat_eq) (declared_names P) (λ x. (bytes_eq-Decides x x).1 refl)
    (λ x.
    let w : List ℕ → ℕ = ones same_text x in
    let sorts = map (λ (T : Sort). T.name) P.sorts in
    let relations = map (λ (R : Relation). R.name) P.relations in
    let individuals = map (λ (I : Individual). I.name) P.individuals in
    let actions = map (λ (a : Action). a.name) P.actions in
    let exported = filter (is_exported ds) (all_in action_in ds) in
    let one : weigh w (sorts ++ (relations ++ (individuals ++ actions))) ≡ weigh w sorts + weigh w (relations ++ (individuals ++ actions)) = weigh-append w sorts (relations ++ (individuals ++ actions)) in
    let two : weigh w (relations ++ (individuals ++ actions)) ≡ weigh w relations + weigh w (individuals ++ actions) = weigh-append w relations (individuals ++ actions) in
    let three : weigh w (individuals ++ actions) ≡ weigh w individuals + weigh w actions = weigh-append w individuals actions in
    let a : weigh w sorts ≡ weigh w (sort_names ds ds) = ap (λ xs. weigh w (map (λ (T : Sort). T.name) xs)) is.sorts in
    let b : weigh w relations ≡ weigh w (relation_names ds ds) = ap (λ xs. weigh w (map (λ (R : Relation). R.name) xs)) is.relations in
    let c : weigh w individuals ≡ weigh w (individual_names ds ds) = ap (λ xs. weigh w (map (λ (I : Individual). I.name) xs)) is.individuals in
    let d : weigh w actions ≡ weigh (λ (p : Placed WrittenAction). w p.written.name.text) exported = ap (weigh w) (action_names_same ds exported P.actions is.actions) ∙ weigh-map w (λ (p : Placed WrittenAction). p.written.name.text) exported in
    let e : weigh (λ (p : Placed WrittenAction). w p.written.name.text) exported ≤ weigh (λ (p : Placed WrittenAction). w p.written.name.text) (all_in action_in ds) = weigh_kept (λ (p : Placed WrittenAction). w p.written.name.text) (is_exported ds) (all_in action_in ds) in
    let f : weigh w (action_names ds 0 ds) ≡ weigh (λ (p : Placed WrittenAction). w p.written.name.text) (all_in action_in ds) = weigh-map w (λ (p : Placed WrittenAction). p.written.name.text) (all_in action_in ds) in
    let once : weigh w (sort_names ds ds) + weigh w (relation_names ds ds) + weigh w (individual_names ds ds) + weigh w (action_names ds 0 ds) ≤ 1 = names_once ds x u in
    let goal : weigh w (sorts ++ (relations ++ (individuals ++ actions))) ≤ 1 = omega arith in
    goal)

-- blocks
fixed_parameters : (next : ℕ) (bs : List Binder) → AllByRecursion IsFixed (parameters_from next bs)
fixed_parameters next [] = tt
fixed_parameters next (b ∷ bs) = ((λ rest. refl), fixed_parameters (next + 1) bs)

action_block : (all : List Declaration) (p : Placed WrittenAction) (a : Action) → IsRoomyAction all p → IsAction all p a → IsBlockInProfile a.block
action_block all p a roomy is =
    let ctx = with_inside (context_at all p.here) p.written.parameters in
    let scope = with_terms (scope_at all p.here) p.written.parameters (parameters_from 0 p.written.parameters) in
    let sound = sound_statements ctx block_room p.written.body roomy.code in
    let room : length (locals_in p.written.body) + (room_after_each ctx block_room p.written.body).locals ≡ 6 = statements_room ctx block_room p.written.body roomy.code in
    let need : needs a.block.code + (room_after_each ctx block_room p.written.body).witnesses ≤ 16 = statements_needs scope block_room 0 p.written.body a.block.code roomy.code is.code in
    let parameters : length a.block.parameters ≡ length p.written.parameters = ap length is.parameters ∙ length-map p.written.parameters (binder_type all) in
    let choices : length a.block.choices ≡ length (locals_in p.written.body) = ap length is.locals ∙ length-map (locals_in p.written.body) (binder_type all) in
    let few = roomy.parameters in
    record {
      direct = direct_statements scope 0 p.written.body a.block.code (fixed_parameters 0 p.written.parameters) sound is.code;
      few_parameters = omega arith;
      few_choices = omega arith;
      few_witnesses = omega arith;
    }

direct_start : (all : List Declaration) (next : ℕ) (bodies : List (Placed Statements)) (cs : Model.Statements) → AllByRecursion (IsGoodInit all) bodies → Initiate all next bodies cs → AreDirect cs
direct_start all next [] cs good h = subst AreDirect (sym h) tt
direct_start all next (body ∷ bodies) cs good h =
    subst AreDirect (sym h.4)
    (direct_both h.0 h.1 (direct_statements (scope_at all body.here) next body.written h.0 tt good.0 h.2) (direct_start all (next + length (locals_in body.written)) bodies h.1 good.1 h.3))

init_block : (ds : List Declaration) (block : Block) → IsFaultless ds → IsInit ds (all_in init_in ds) block → IsBlockInProfile block
init_block ds block faultless is =
    let room = init_file ds (faultless_unbroken ds faultless) block.code is.code in
    let few_locals = room.0 in
    let few_needs = room.1 in
    let parameters : length block.parameters ≡ 0 = ap length is.no_parameters in
    let choices : length block.choices ≡ length (init_locals (all_in init_in ds)) = ap length is.locals ∙ length-map (init_locals (all_in init_in ds)) (binder_type ds) in
    record {
      direct = direct_start ds 0 (all_in init_in ds) block.code (good_inits ds faultless) is.code;
      few_parameters = omega arith;
      few_choices = omega arith;
      few_witnesses = omega arith;
    }

axiom_sentence : (ds : List Declaration) (p : Placed Formula) (g : Model.Formula) → IsGoodAxiom ds p → IsAxiom ds p g → IsUniversalSentence g
axiom_sentence ds p g good is = universal_axiom (scope_at ds p.here) (flat_map assigned_by ds) p.written g good is

invariant_sentence : (ds : List Declaration) (p : ℕ × Placed WrittenInvariant) (f : Invariant) → IsGoodInvariant ds p.1 → IsInvariant ds p f → IsUniversalSentence f.body
invariant_sentence ds p f good is = universal_invariant (scope_at ds p.1.here) p.1.written.body f.body good is.body

pub in_profile : (ds : List Declaration) (P : Protocol) → IsFaultless ds → IsProtocolOf ds P → IsInProfile P
in_profile ds P faultless is =
    let u = faultless_unbroken ds faultless in
    let fits = fits_file ds u in
    let exported = filter (is_exported ds) (all_in action_in ds) in
    let roomy = recursion_from_All (IsRoomyAction ds) exported (All-filter (is_exported ds) (IsRoomyAction ds) (all_in action_in ds) (All-from_recursion (IsRoomyAction ds) (all_in action_in ds) (roomy_file ds u))) in
    let sorts : length P.sorts ≡ length (filter_map declared_type ds) = ap length is.sorts in
    let relations : length P.relations ≡ length (filter_map (declared_relation ds) ds) = ap length is.relations in
    let individuals : length P.individuals ≡ length (filter_map (declared_individual ds) ds) = ap length is.individuals in
    let axioms = length-AllZip (IsAxiom ds) (all_in axiom_in ds) P.axioms is.axioms in
    let actions = length-AllZip (IsAction ds) exported P.actions is.actions in
    let kept = length_kept (is_exported ds) (all_in action_in ds) in
    let invariants = length-AllZip (IsInvariant ds) (enumerate_from 1 (all_in invariant_in ds)) P.invariants is.invariants in
    let count = length-enumerate_from 1 (all_in invariant_in ds) in
    let few_sorts : length (filter_map declared_type ds) ≤ 8 = fits.sorts in
    let few_relations : length (filter_map (declared_relation ds) ds) ≤ 64 = fits.relations in
    let few_individuals : length (filter_map (declared_individual ds) ds) ≤ 16 = fits.individuals in
    let few_axioms : length (all_in axiom_in ds) ≤ 64 = fits.axioms in
    let few_actions : length (all_in action_in ds) ≤ 64 = fits.actions in
    let few_invariants : length (all_in invariant_in ds) ≤ 64 = fits.invariants in
    record {
      named_apart = named_apart ds P u is;
      few_sorts = omega (arith, sorts, few_sorts);
      few_relations = omega (arith, relations, few_relations);
      few_arguments = All-from_recursion (λ (R : Relation). length R.arguments ≤ 5) P.relations (subst (AllByRecursion (λ (R : Relation). length R.arguments ≤ 5)) (sym is.relations) (few_arguments_file ds u));
      few_individuals = omega (arith, individuals, few_individuals);
      few_axioms = omega (arith, axioms, few_axioms);
      axioms = All-from_recursion IsUniversalSentence P.axioms (carried (IsAxiom ds) (IsGoodAxiom ds) IsUniversalSentence (axiom_sentence ds) (all_in axiom_in ds) P.axioms (good_axioms ds faultless) is.axioms);
      init = init_block ds P.init faultless is.init;
      few_actions = omega (arith, actions, kept, few_actions);
      actions = All-from_recursion (λ (a : Action). IsBlockInProfile a.block) P.actions (carried (IsAction ds) (IsRoomyAction ds) (λ (a : Action). IsBlockInProfile a.block) (action_block ds) exported P.actions roomy is.actions);
      few_invariants = omega (arith, invariants, count, few_invariants);
      invariants = All-from_recursion (λ (f : Invariant). IsUniversalSentence f.body) P.invariants
          (carried (IsInvariant ds) (λ p. IsGoodInvariant ds p.1) (λ (f : Invariant). IsUniversalSentence f.body) (invariant_sentence ds) (enumerate_from 1 (all_in invariant_in ds)) P.invariants
          (good_numbered (IsGoodInvariant ds) 1 (all_in invariant_in ds) (good_invariants ds faultless)) is.invariants);
    }
