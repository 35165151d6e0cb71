-- The parts of a protocol after one more declaration.
use Rattle.std.proofs.Common.{◌≡◌, ℕ, ◌+◌, Bool, true, false, cond, List, [], ◌∷◌, ◌++◌, length, map, Option, ap, sym, ◌∙◌, refl, subst, arith, length-append, filter}
use Rattle.std.specs.List.{AllZip, filter_map, flat_map, cons_option, enumerate_from}
use Rattle.std.proofs.lemmas.List.{map-append, length-map}
use Rattle.std.proofs.lemmas.List.Elements.{filter_map-append, filter-append}
use Rattle.std.proofs.lemmas.Grind.{flat_map-append}
use Rattle.std.proofs.lemmas.List.FromFn.{length-enumerate_from}
use Rattle.dai_model.specs.Formula as Model
use Rattle.dai_model.specs.Protocol.{Protocol, Sort, Relation, Individual, Block, Action, Invariant}
use Rattle.dai_syntax.specs.Tree.{Declaration, Formula, Statements, sort, relation, individual, axiom_of, init, action, export, invariant}
use Rattle.dai_syntax.specs.declared.tree.Name.{Name}
use Rattle.dai_syntax.specs.declared.tree.Binder.{Binder}
use Rattle.dai_rules.specs.Names.{is_among}
use Rattle.dai_rules.specs.Sites.{as_axiom, as_invariant, assigned_by}
use Rattle.dai_sorts.specs.Formulas.{IsSentence}
use Rattle.dai_rules.proofs.Lists.{enumerate_from-gains, length-AllZip}
use Rattle.dai_sorts.specs.Scopes.{binder_type, scope_at, type_number}
use Rattle.dai_sorts.specs.Statements.{locals_in, joined, DirectEach}
use Rattle.dai_sorts.specs.Protocols.{Placed, written_action, exported_name, label_at, all_in, declared_type, declared_relation, declared_individual, axiom_in, init_in, action_in, invariant_in, is_exported, init_locals, IsAxiom, IsAction, IsInvariant, Initiate, IsInit, AreParts}
use Rattle.dai_sorts.specs.Gains.{Gains}

AllZip-both : {X Y : Type 0} (R : X → Y → Type 0) (xs : List X) (ys : List Y) (us : List X) (vs : List Y) → AllZip R xs ys → AllZip R us vs → AllZip R (xs ++ us) (ys ++ vs)
AllZip-both R [] [] us vs h k = k
AllZip-both R [] (y ∷ ys) us vs h k = absurd h
AllZip-both R (x ∷ xs) [] us vs h k = absurd h
AllZip-both R (x ∷ xs) (y ∷ ys) us vs h k = (h.0, AllZip-both R xs ys us vs h.1 k)

enumerate-both : {X : Type 0} (n : ℕ) (xs ys : List X) → enumerate_from n (xs ++ ys) ≡ enumerate_from n xs ++ enumerate_from (n + length xs) ys
enumerate-both n [] ys = let e : n ≡ n + 0 = omega arith in ap (λ k. enumerate_from k ys) e
enumerate-both n (x ∷ xs) ys =
    let e : (n + 1) + length xs ≡ n + length (x ∷ xs) = omega arith in
    ap (λ rest. (n, x) ∷ rest) (enumerate-both (n + 1) xs ys ∙ ap (λ k. enumerate_from (n + 1) xs ++ enumerate_from k ys) e)

-- what is written, with one more declaration
all_in-more : {X : Type 0} (one : ℕ × Declaration → Option (Placed X)) (ds : List Declaration) (d : Declaration) → all_in one (ds ++ d ∷ []) ≡ all_in one ds ++ cons_option (one (length ds, d)) []
all_in-more one ds d =
    let e : 0 + length ds ≡ length ds = omega arith in
    ap (filter_map one) (enumerate_from-gains 0 ds d ∙ ap (λ k. enumerate_from 0 ds ++ (k, d) ∷ []) e) ∙ filter_map-append one (enumerate_from 0 ds) ((length ds, d) ∷ [])

joined-assoc : (a b c : Model.Statements) → joined (joined a b) c ≡ joined a (joined b c)
joined-assoc Model.no_statements b c = refl
joined-assoc (Model.with_statement s a) b c = ap (Model.with_statement s) (joined-assoc a b c)

joined-nil : (a : Model.Statements) → joined a Model.no_statements ≡ a
joined-nil Model.no_statements = refl
joined-nil (Model.with_statement s a) = ap (Model.with_statement s) (joined-nil a)

-- init code, and then more
initiate-both : (all : List Declaration) (next : ℕ) (bodies more : List (Placed Statements)) (cs ds : Model.Statements) → Initiate all next bodies cs → Initiate all (next + length (init_locals bodies)) more ds → Initiate all next (bodies ++ more) (joined cs ds)
initiate-both all next [] more cs ds h k =
    let e : next + 0 ≡ next = omega arith in
    subst (Initiate all next more) (ap (λ c. joined c ds) (sym h)) (subst (λ n. Initiate all n more ds) e k)
initiate-both all next (b ∷ bodies) more cs ds h k =
    let both = length-append (locals_in b.written) (init_locals bodies) in
    let e : next + length (init_locals (b ∷ bodies)) ≡ (next + length (locals_in b.written)) + length (init_locals bodies) = omega arith in
    (h.0, joined h.1 ds, h.2, initiate-both all (next + length (locals_in b.written)) bodies more h.1 ds h.3 (subst (λ n. Initiate all n more ds) e k), ap (λ c. joined c ds) h.4 ∙ joined-assoc h.0 h.1 ds)

init-both : (all : List Declaration) (bodies more : List (Placed Statements)) (old new : Block) (cs : Model.Statements) → IsInit all bodies old
    → new.parameters ≡ old.parameters → new.choices ≡ old.choices ++ map (binder_type all) (init_locals more) → new.code ≡ joined old.code cs → Initiate all (length old.choices) more cs → IsInit all (bodies ++ more) new
init-both all bodies more old new cs h params locals code does =
    let flat = flat_map-append (λ (b : Placed Statements). locals_in b.written) bodies more in
    let count : length old.choices ≡ 0 + length (init_locals bodies) = ap length h.locals ∙ length-map (init_locals bodies) (binder_type all) ∙ (let k : length (init_locals bodies) ≡ 0 + length (init_locals bodies) = omega arith in k) in
    record {
      no_parameters = params ∙ h.no_parameters;
      locals = locals ∙ ap (λ xs. xs ++ map (binder_type all) (init_locals more)) h.locals ∙ sym (map-append (binder_type all) (init_locals bodies) (init_locals more)) ∙ ap (map (binder_type all)) (sym flat);
      code = subst (Initiate all 0 (bodies ++ more)) (sym code) (initiate-both all 0 bodies more old.code cs h.code (subst (λ n. Initiate all n more cs) count does));
    }

list-more : {Y : Type 0} (f : Declaration → Option Y) (ds : List Declaration) (d : Declaration) (old new : List Y) → old ≡ filter_map f ds → new ≡ old ++ cons_option (f d) [] → new ≡ filter_map f (ds ++ d ∷ [])
list-more f ds d old new h e = e ∙ ap (λ xs. xs ++ cons_option (f d) []) h ∙ sym (filter_map-append f ds (d ∷ []))

pub gains : (all ds : List Declaration) (d : Declaration) (old new : Protocol) → Gains all (length ds) d old new → AreParts all ds old → AreParts all (ds ++ d ∷ []) new
gains all ds d old new g h =
    let axioms = all_in-more axiom_in ds d in
    let actions = ap (filter (is_exported all)) (all_in-more action_in ds d) ∙ filter-append (is_exported all) (all_in action_in ds) (cons_option (action_in (length ds, d)) []) in
    let count : 1 + length (all_in invariant_in ds) ≡ 1 + length old.invariants =
    let long = length-AllZip (IsInvariant all) (enumerate_from 1 (all_in invariant_in ds)) old.invariants h.invariants in
    let n = length-enumerate_from 1 (all_in invariant_in ds) in
    omega arith in
    let invariants = ap (enumerate_from 1) (all_in-more invariant_in ds d) ∙ enumerate-both 1 (all_in invariant_in ds) (cons_option (invariant_in (length ds, d)) [])
    ∙ ap (λ k. enumerate_from 1 (all_in invariant_in ds) ++ enumerate_from k (cons_option (invariant_in (length ds, d)) [])) count in
    record {
      sorts = list-more declared_type ds d old.sorts new.sorts h.sorts g.sorts;
      relations = list-more (declared_relation all) ds d old.relations new.relations h.relations g.relations;
      individuals = list-more (declared_individual all) ds d old.individuals new.individuals h.individuals g.individuals;
      axioms = subst (λ xs. AllZip (IsAxiom all) xs new.axioms) (sym axioms) (subst (AllZip (IsAxiom all) (all_in axiom_in ds ++ cons_option (axiom_in (length ds, d)) [])) (sym g.axioms.1) (AllZip-both (IsAxiom all) (all_in axiom_in ds) old.axioms (cons_option (axiom_in (length ds, d)) []) g.axioms.0 h.axioms g.axioms.2));
      init = subst (λ bs. IsInit all bs new.init) (sym (all_in-more init_in ds d)) (init-both all (all_in init_in ds) (cons_option (init_in (length ds, d)) []) old.init new.init g.code.0 h.init g.no_parameters g.locals g.code.1 g.code.2);
      actions = subst (λ xs. AllZip (IsAction all) xs new.actions) (sym actions)
          (subst (AllZip (IsAction all) (filter (is_exported all) (all_in action_in ds) ++ filter (is_exported all) (cons_option (action_in (length ds, d)) []))) (sym g.actions.1)
          (AllZip-both (IsAction all) (filter (is_exported all) (all_in action_in ds)) old.actions (filter (is_exported all) (cons_option (action_in (length ds, d)) [])) g.actions.0 h.actions g.actions.2));
      invariants = subst (λ xs. AllZip (IsInvariant all) xs new.invariants) (sym invariants)
          (subst (AllZip (IsInvariant all) (enumerate_from 1 (all_in invariant_in ds) ++ enumerate_from (1 + length old.invariants) (cons_option (invariant_in (length ds, d)) []))) (sym g.invariants.1)
          (AllZip-both (IsInvariant all) (enumerate_from 1 (all_in invariant_in ds)) old.invariants (enumerate_from (1 + length old.invariants) (cons_option (invariant_in (length ds, d)) [])) g.invariants.0 h.invariants g.invariants.2));
    }

append_nil : {X : Type 0} (xs : List X) → xs ≡ xs ++ []
append_nil [] = refl
append_nil (x ∷ xs) = ap (λ ys. x ∷ ys) (append_nil xs)

no_code : (all : List Declaration) (n : ℕ) (cs : Model.Statements) → (ds : Model.Statements) × (cs ≡ joined cs ds) × Initiate all n [] ds
no_code all n cs = (Model.no_statements, sym (joined-nil cs), refl)

module _ (all : List Declaration) (here : ℕ) (P : Protocol) where
  pub gains_sort : (name : Name) (ordered : Bool) (xs : List Sort) → xs ≡ P.sorts ++ record { name = name.text; ordered = ordered } ∷ [] → Gains all here (sort name ordered) P (record P { sorts = xs })
  gains_sort name ordered xs e = record {
    sorts = e;
    relations = append_nil P.relations;
    individuals = append_nil P.individuals;
    axioms = ([], append_nil P.axioms, tt);
    no_parameters = refl;
    locals = append_nil P.init.choices;
    code = no_code all (length P.init.choices) P.init.code;
    actions = ([], append_nil P.actions, tt);
    invariants = ([], append_nil P.invariants, tt);
  }

  pub gains_relation : (name : Name) (arguments : List Binder) (xs : List Relation) → xs ≡ P.relations ++ record { name = name.text; arguments = map (binder_type all) arguments } ∷ [] → Gains all here (relation name arguments) P (record P { relations = xs })
  gains_relation name arguments xs e = record {
    sorts = append_nil P.sorts;
    relations = e;
    individuals = append_nil P.individuals;
    axioms = ([], append_nil P.axioms, tt);
    no_parameters = refl;
    locals = append_nil P.init.choices;
    code = no_code all (length P.init.choices) P.init.code;
    actions = ([], append_nil P.actions, tt);
    invariants = ([], append_nil P.invariants, tt);
  }

  pub gains_individual : (name type : Name) (xs : List Individual) → xs ≡ P.individuals ++ record { name = name.text; sort = type_number all type.text } ∷ [] → Gains all here (individual name type) P (record P { individuals = xs })
  gains_individual name type xs e = record {
    sorts = append_nil P.sorts;
    relations = append_nil P.relations;
    individuals = e;
    axioms = ([], append_nil P.axioms, tt);
    no_parameters = refl;
    locals = append_nil P.init.choices;
    code = no_code all (length P.init.choices) P.init.code;
    actions = ([], append_nil P.actions, tt);
    invariants = ([], append_nil P.invariants, tt);
  }

  pub gains_axiom : (f : Formula) (at : ℕ) (xs : List Model.Formula) (g : Model.Formula) → xs ≡ P.axioms ++ g ∷ [] → IsSentence (scope_at all here) (as_axiom (flat_map assigned_by all)) f g → Gains all here (axiom_of f at) P (record P { axioms = xs })
  gains_axiom f at xs g e is = record {
    sorts = append_nil P.sorts;
    relations = append_nil P.relations;
    individuals = append_nil P.individuals;
    axioms = (g ∷ [], e, (is, tt));
    no_parameters = refl;
    locals = append_nil P.init.choices;
    code = no_code all (length P.init.choices) P.init.code;
    actions = ([], append_nil P.actions, tt);
    invariants = ([], append_nil P.invariants, tt);
  }

  pub gains_init : (body : Statements) (block : Block) (cs : Model.Statements) → block.parameters ≡ P.init.parameters → block.choices ≡ P.init.choices ++ map (binder_type all) (locals_in body) → block.code ≡ joined P.init.code cs
      → DirectEach (scope_at all here) (length P.init.choices) body cs → Gains all here (init body) P (record P { init = block })
  gains_init body block cs params locals code does = record {
    sorts = append_nil P.sorts;
    relations = append_nil P.relations;
    individuals = append_nil P.individuals;
    axioms = ([], append_nil P.axioms, tt);
    no_parameters = params;
    locals = locals ∙ ap (λ bs. P.init.choices ++ map (binder_type all) bs) (append_nil (locals_in body));
    code = (cs, code, (cs, Model.no_statements, does, refl, sym (joined-nil cs)));
    actions = ([], append_nil P.actions, tt);
    invariants = ([], append_nil P.invariants, tt);
  }

  exported_by : (name : Name) (parameters : List Binder) (body : Statements) (b : Bool) → is_exported all (written_action here name parameters body) ≡ b → filter (is_exported all) (written_action here name parameters body ∷ []) ≡ cond b (written_action here name parameters body ∷ []) []
  exported_by name parameters body b e = ap (λ v. cond v (written_action here name parameters body ∷ []) []) e

  pub gains_action : (name : Name) (parameters : List Binder) (body : Statements) (flag : Bool) (xs : List Action) (a : Action) → true ≡ is_among name.text (filter_map exported_name all) → xs ≡ P.actions ++ a ∷ []
      → IsAction all (written_action here name parameters body) a → Gains all here (action name parameters body flag) P (record P { actions = xs })
  gains_action name parameters body flag xs a exported e is = record {
    sorts = append_nil P.sorts;
    relations = append_nil P.relations;
    individuals = append_nil P.individuals;
    axioms = ([], append_nil P.axioms, tt);
    no_parameters = refl;
    locals = append_nil P.init.choices;
    code = no_code all (length P.init.choices) P.init.code;
    actions = (a ∷ [], e, subst (λ ws. AllZip (IsAction all) ws (a ∷ [])) (sym (exported_by name parameters body true (sym exported))) (is, tt));
    invariants = ([], append_nil P.invariants, tt);
  }

  pub gains_hidden : (name : Name) (parameters : List Binder) (body : Statements) (flag : Bool) → false ≡ is_among name.text (filter_map exported_name all) → Gains all here (action name parameters body flag) P P
  gains_hidden name parameters body flag hidden = record {
    sorts = append_nil P.sorts;
    relations = append_nil P.relations;
    individuals = append_nil P.individuals;
    axioms = ([], append_nil P.axioms, tt);
    no_parameters = refl;
    locals = append_nil P.init.choices;
    code = no_code all (length P.init.choices) P.init.code;
    actions = ([], append_nil P.actions, subst (λ ws. AllZip (IsAction all) ws []) (sym (exported_by name parameters body false (sym hidden))) tt);
    invariants = ([], append_nil P.invariants, tt);
  }

  pub gains_export : (name : Name) → Gains all here (export name) P P
  gains_export name = record {
    sorts = append_nil P.sorts;
    relations = append_nil P.relations;
    individuals = append_nil P.individuals;
    axioms = ([], append_nil P.axioms, tt);
    no_parameters = refl;
    locals = append_nil P.init.choices;
    code = no_code all (length P.init.choices) P.init.code;
    actions = ([], append_nil P.actions, tt);
    invariants = ([], append_nil P.invariants, tt);
  }

  pub gains_invariant : (label : Option Name) (f : Formula) (at : ℕ) (xs : List Invariant) (x : Invariant) → xs ≡ P.invariants ++ x ∷ [] → x.label ≡ label_at (1 + length P.invariants) label → IsSentence (scope_at all here) as_invariant f x.body
      → Gains all here (invariant label f at) P (record P { invariants = xs })
  gains_invariant label f at xs x e labelled is = record {
    sorts = append_nil P.sorts;
    relations = append_nil P.relations;
    individuals = append_nil P.individuals;
    axioms = ([], append_nil P.axioms, tt);
    no_parameters = refl;
    locals = append_nil P.init.choices;
    code = no_code all (length P.init.choices) P.init.code;
    actions = ([], append_nil P.actions, tt);
    invariants = (x ∷ [], e, (record { label = labelled; body = is }, tt));
  }

pub map_gains : {X Y : Type 0} (f : X → Y) (old new : List X) (x : X) → new ≡ old ++ x ∷ [] → map f new ≡ map f old ++ f x ∷ []
map_gains f old new x e = ap (map f) e ∙ map-append f old (x ∷ [])
