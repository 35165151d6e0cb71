-- The example of the tests is a protocol in the profile, and its states fit.
use Rattle.std.proofs.Common.{◌≡◌, ℕ, zero, suc, ◌<◌, ◌≤◌, Bool, List, [], ◌∷◌, length, get_or, Some, slice_get, Vec, map, ap, sym, ◌∙◌, refl, subst, arith, true}
use Rattle.std.specs.Prelude.{codes}
use Rattle.std.specs.declared.alloc.Global.{Global}
use Rattle.std.specs.List.{All, IsDistinct}
use Rattle.std.proofs.lemmas.Grind.{merely}
use Rattle.std.proofs.lemmas.Option.{same_Some}
use Rattle.dai_model.specs.Protocol as Model
use Rattle.dai_model.specs.Structure.{is_tuple}
use Rattle.dai_model.specs.WellSorted.{IsProtocol, IsWellSortedBlock, SparesAxioms}
use Rattle.dai_model.specs.Profile.{IsInProfile, IsBlockInProfile, IsAccepted}
use Rattle.dai_logic.specs.declared.structure.Structure.{Structure}
use Rattle.dai_logic.specs.declared.structure.BlockId.{BlockId}
use Rattle.dai_logic.specs.Protocols.{block_named}
use Rattle.dai_logic.specs.Tables.{tables_of, tuple_count}
use Rattle.dai_logic.specs.Execution.{IsCall}
use Rattle.dai_logic.specs.Sample.{begin, connect, turn, go, ask, sample, IsSampleState}

all_none : {A : Type 0} (P : A → Type 0) → All P []
all_none P k d below = absurd (omega arith)

all_cons : {A : Type 0} (P : A → Type 0) (x : A) (xs : List A) → P x → All P xs → All P (x ∷ xs)
all_cons P x xs p ps zero d below = p
all_cons P x xs p ps (suc k) d below = ps k d (omega arith)

abbrev binary : Model.Relation
binary = record { name = codes "r"; arguments = 0 ∷ 0 ∷ [] }

abbrev unary : Model.Relation
unary = record { name = codes "u"; arguments = 0 ∷ [] }

abbrev only : Model.Individual
only = record { name = codes "c"; sort = 0 }

abbrev connecting : Model.Action
connecting = record { name = codes "connect"; block = connect }

abbrev turning : Model.Action
turning = record { name = codes "turn"; block = turn }

abbrev going : Model.Action
going = record { name = codes "go"; block = go }

abbrev asking : Model.Action
asking = record { name = codes "ask"; block = ask }

one_type : All (λ sort. sort < 1) (0 ∷ [])
one_type = all_cons (λ sort. sort < 1) 0 [] (omega arith) (all_none (λ sort. sort < 1))

two_types : All (λ sort. sort < 1) (0 ∷ 0 ∷ [])
two_types = all_cons (λ sort. sort < 1) 0 (0 ∷ []) (omega arith) one_type

begin_sorted : IsWellSortedBlock sample begin
begin_sorted = record { parameters = all_none _; choices = all_none _; code = ((_, refl, (refl, tt)), ((_, refl, (refl, tt)), tt)) }

connect_sorted : IsWellSortedBlock sample connect
connect_sorted = record { parameters = two_types; choices = all_none _; code = ((_, refl, refl), ((_, refl, (refl, tt)), ((_, refl, (refl, tt)), tt))) }

turn_sorted : IsWellSortedBlock sample turn
turn_sorted = record { parameters = all_none _; choices = all_none _; code = ((_, refl, (refl, (_, refl, refl))), tt) }

go_sorted : IsWellSortedBlock sample go
go_sorted = record { parameters = one_type; choices = one_type; code = (((0, refl, refl, (_, refl, refl)), ((_, refl, refl), tt), ((_, refl, refl), tt)), tt) }

ask_sorted : IsWellSortedBlock sample ask
ask_sorted = record { parameters = all_none _; choices = all_none _; code = ((omega arith, (omega arith, (_, refl, refl))), tt) }

sample_protocol : IsProtocol sample
sample_protocol = record {
  relations = all_cons (λ (R : Model.Relation). All (λ sort. sort < 1) R.arguments) binary (unary ∷ []) (two_types) (all_cons (λ (R : Model.Relation). All (λ sort. sort < 1) R.arguments) unary [] (one_type) (all_none (λ (R : Model.Relation). All (λ sort. sort < 1) R.arguments)));
  individuals = all_cons (λ (I : Model.Individual). I.sort < 1) only [] (omega arith) (all_none (λ (I : Model.Individual). I.sort < 1));
  axioms = all_none _;
  init = begin_sorted;
  no_arguments = refl;
  actions = all_cons (λ (a : Model.Action). IsWellSortedBlock sample a.block) connecting (turning ∷ going ∷ asking ∷ []) (connect_sorted) (all_cons (λ (a : Model.Action). IsWellSortedBlock sample a.block) turning (going ∷ asking ∷ []) (turn_sorted) (all_cons (λ (a : Model.Action). IsWellSortedBlock sample a.block) going (asking ∷ []) (go_sorted) (all_cons (λ (a : Model.Action). IsWellSortedBlock sample a.block) asking [] (ask_sorted) (all_none (λ (a : Model.Action). IsWellSortedBlock sample a.block)))));
  invariants = all_none _;
  init_spares = λ x. all_none _;
  actions_spare = all_cons (λ (a : Model.Action). SparesAxioms sample a.block) connecting (turning ∷ going ∷ asking ∷ []) (λ x. all_none _) (all_cons (λ (a : Model.Action). SparesAxioms sample a.block) turning (going ∷ asking ∷ []) (λ x. all_none _) (all_cons (λ (a : Model.Action). SparesAxioms sample a.block) going (asking ∷ []) (λ x. all_none _) (all_cons (λ (a : Model.Action). SparesAxioms sample a.block) asking [] (λ x. all_none _) (all_none (λ (a : Model.Action). SparesAxioms sample a.block)))));
}

begin_profile : IsBlockInProfile begin
unfolding IsDistinct
begin_profile = record { direct = ((refl, (record { once = (tt, tt); few = omega arith })), ((refl, (record { once = ((refl, tt), (tt, tt)); few = omega arith })), tt)); few_parameters = omega arith; few_choices = omega arith; few_witnesses = omega arith }

connect_profile : IsBlockInProfile connect
unfolding IsDistinct
connect_profile = record { direct = (record { force = refl; binds = (record { once = tt; few = omega arith }) }, ((refl, (record { once = tt; few = omega arith })), ((refl, (record { once = tt; few = omega arith })), tt))); few_parameters = omega arith; few_choices = omega arith; few_witnesses = omega arith }

turn_profile : IsBlockInProfile turn
unfolding IsDistinct
turn_profile = record { direct = ((refl, (record { once = ((refl, tt), (tt, tt)); few = omega arith })), tt); few_parameters = omega arith; few_choices = omega arith; few_witnesses = omega arith }

go_profile : IsBlockInProfile go
unfolding IsDistinct
go_profile = record { direct = ((refl, (tt, tt), (tt, tt)), tt); few_parameters = omega arith; few_choices = omega arith; few_witnesses = omega arith }

ask_profile : IsBlockInProfile ask
unfolding IsDistinct
ask_profile = record { direct = (record { force = refl; binds = (record { once = ((refl, tt), (tt, tt)); few = omega arith }) }, tt); few_parameters = omega arith; few_choices = omega arith; few_witnesses = omega arith }

sample_profile : IsInProfile sample
unfolding IsDistinct
sample_profile = record {
  named_apart = ((refl, (refl, (refl, (refl, (refl, (refl, (refl, tt))))))), ((refl, (refl, (refl, (refl, (refl, (refl, tt)))))), ((refl, (refl, (refl, (refl, (refl, tt))))), ((refl, (refl, (refl, (refl, tt)))), ((refl, (refl, (refl, tt))), ((refl, (refl, tt)), ((refl, tt), (tt, tt))))))));
  few_sorts = omega arith;
  few_relations = omega arith;
  few_arguments = all_cons (λ (R : Model.Relation). length R.arguments ≤ 5) binary (unary ∷ []) (omega arith) (all_cons (λ (R : Model.Relation). length R.arguments ≤ 5) unary [] (omega arith) (all_none (λ (R : Model.Relation). length R.arguments ≤ 5)));
  few_individuals = omega arith;
  few_axioms = omega arith;
  axioms = all_none _;
  init = begin_profile;
  few_actions = omega arith;
  actions = all_cons (λ (a : Model.Action). IsBlockInProfile a.block) connecting (turning ∷ going ∷ asking ∷ []) (connect_profile) (all_cons (λ (a : Model.Action). IsBlockInProfile a.block) turning (going ∷ asking ∷ []) (turn_profile) (all_cons (λ (a : Model.Action). IsBlockInProfile a.block) going (asking ∷ []) (go_profile) (all_cons (λ (a : Model.Action). IsBlockInProfile a.block) asking [] (ask_profile) (all_none (λ (a : Model.Action). IsBlockInProfile a.block)))));
  few_invariants = omega arith;
  invariants = all_none _;
}

pub sample_accepted : IsAccepted sample
sample_accepted = record { sorted = sample_protocol; profile = sample_profile }

-- what is equal to the example is accepted
pub accepted_as : (P : Model.Protocol) → P ≡ sample → ∥ IsAccepted P ∥₁
accepted_as P e = merely (subst IsAccepted (sym e) sample_accepted)

table_long : (sizes : List ℕ) (x y : List Bool) (r : ℕ) (R : Model.Relation) → length x ≡ 4 → length y ≡ 2 → sizes ≡ 2 ∷ [] → slice_get sample.relations r ≡ Some R → length (get_or (x ∷ y ∷ []) r []) ≡ tuple_count sizes R.arguments
table_long sizes x y zero R hx hy e h = hx ∙ (let k : 0 ∷ 0 ∷ [] ≡ R.arguments = (let f : Some _ ≡ Some R = h in ap (λ (Q : Model.Relation). Q.arguments) (same_Some _ R f)) in ap (tuple_count (2 ∷ [])) k) ∙ ap (λ xs. tuple_count xs R.arguments) (sym e)
table_long sizes x y (suc zero) R hx hy e h = hy ∙ (let k : 0 ∷ [] ≡ R.arguments = (let f : Some _ ≡ Some R = h in ap (λ (Q : Model.Relation). Q.arguments) (same_Some _ R f)) in ap (tuple_count (2 ∷ [])) k) ∙ ap (λ xs. tuple_count xs R.arguments) (sym e)
table_long sizes x y (suc (suc r)) R hx hy e h = absurd (let k : ⊥ = cc in k)

value_inside : (sizes : List ℕ) (c i : ℕ) (I : Model.Individual) → c < 2 → sizes ≡ 2 ∷ [] → slice_get sample.individuals i ≡ Some I → get_or (c ∷ []) i 0 < get_or sizes I.sort 0
value_inside sizes c zero I below e h =
    let k : 0 ≡ I.sort = (let f : Some _ ≡ Some I = h in ap (λ (J : Model.Individual). J.sort) (same_Some _ I f)) in
    subst (λ xs. c < get_or xs I.sort 0) (sym e) (subst (λ n. c < get_or (2 ∷ []) n 0) k below)
value_inside sizes c (suc i) I below e h = absurd (let k : ⊥ = cc in k)

pub state_fits : (s : Structure) (x y : Vec Bool Global) (c : ℕ) → s.sizes.items ≡ 2 ∷ [] → s.tables.items ≡ x ∷ y ∷ [] → length x.items ≡ 4 → length y.items ≡ 2 → s.values.items ≡ c ∷ [] → c < 2 → IsSampleState s
state_fits s x y c sizes tables hx hy values below =
    let bits : tables_of s ≡ x.items ∷ y.items ∷ [] = ap (map (λ (t : Vec Bool Global). t.items)) tables in
    record {
      two = sizes;
      fit = record {
        one_size_each = ap length sizes;
        inhabited = subst (All (λ size. 0 < size)) (sym sizes) (all_cons (λ size. 0 < size) 2 [] (omega arith) (all_none (λ size. 0 < size)));
        one_table_each = ap length bits;
        whole_tables = λ r R h. ap (λ (xs : List (List Bool)). length (get_or xs r [])) bits ∙ table_long s.sizes.items x.items y.items r R hx hy sizes h;
        one_value_each = ap length values;
        values_inside = λ i I h. subst (λ (xs : List ℕ). get_or xs i 0 < get_or s.sizes.items I.sort 0) (sym values) (value_inside s.sizes.items c i I below sizes h);
      };
    }

-- a call of the example at a state
pub sample_call : (P : Model.Protocol) (s : Structure) (block : BlockId) (called : Model.Block) (arguments choices : List ℕ) → P ≡ sample → s.sizes.items ≡ 2 ∷ [] → block_named sample block ≡ Some called → is_tuple (2 ∷ []) called.parameters arguments ≡ true → is_tuple (2 ∷ []) called.choices choices ≡ true → IsCall P block s arguments choices
sample_call P s block called arguments choices e two named given chosen =
    let own : IsCall sample block s arguments choices = record {
      called = called;
      named = named;
      given = ap (λ sizes. is_tuple sizes called.parameters arguments) two ∙ given;
      chosen = ap (λ sizes. is_tuple sizes called.choices choices) two ∙ chosen;
    } in
    subst (λ Q. IsCall Q block s arguments choices) (sym e) own
