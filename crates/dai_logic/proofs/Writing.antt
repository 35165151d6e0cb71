-- What an update writes, tuple by tuple.
use Rattle.std.proofs.Common.{◌≡◌, ◌≢◌, ℕ, suc, ◌+◌, ◌*◌, ◌<◌, ◌≤◌, ◌&&◌, Bool, true, false, List, [], ◌∷◌, length, get_or, set, drop, map, Some, sym, ap, ◌∙◌, refl, subst, arith, ◌⊎◌, inl, inr, get_or-set_other, get_or-set_same}
use Rattle.std.specs.Prelude.{nat_eq, nat_lt, if◌then◌else◌, slice_get}
use Rattle.std.specs.List.{All}
use Rattle.std.proofs.Math.Nat.{add-mul, mul_assoc, le-mul_of_pos_right}
use Rattle.std.proofs.lemmas.List.{drop_more, drop_all, length-drop, length-map}
use Rattle.std.proofs.lemmas.Nat.{mul-le}
use Rattle.std.proofs.lemmas.Bool.{cases_lt}
use Rattle.std.proofs.lemmas.Bool.Decides.{nat_tests}
use Rattle.dai_model.specs.Formula.{Term, variable, individual, parameter, choice, Formula}
use Rattle.dai_model.specs.Protocol.{Protocol}
use Rattle.dai_model.specs.Structure as Model
use Rattle.dai_model.specs.Structure.{is_tuple}
use Rattle.dai_model.specs.Value.{Environment, bind, value_of, value_of_term}
use Rattle.dai_model.specs.Execution.{matches, bind_target}
use Rattle.dai_model.specs.WellSorted.{Scope, sort_of, HasSort, HaveSorts, target_scope, with_variable}
use Rattle.dai_model.proofs.Typed.{and_left, and_right, term_fits}
use Rattle.dai_logic.specs.declared.structure.Structure.{Structure}
use Rattle.dai_logic.specs.declared.protocol.Term.{Term as Tree}
use Rattle.dai_logic.specs.declared.protocol.Term.TheVariants.{Var, Ind, Par, Loc}
use Rattle.dai_logic.specs.Trees.{term_of}
use Rattle.dai_logic.specs.Tables.{structure_of, tuple_count, tuple_place, Fits, Gives, HasPlace, IsEvaluable, IsWritable, IsWritten}
use Rattle.dai_logic.proofs.Tuples.{place_inside, lt_from_test, term_place, fits_structure}
use Rattle.dai_logic.proofs.Evaluable.{gives_more}

-- the place of a tuple in the block of its first elements
pub regrouped : (first size c x r : ℕ) → first * (size * c) + (x * c + r) ≡ (first * size + x) * c + r
regrouped first size c x r = omega (arith, add-mul (first * size) x c, mul_assoc first size c)

earlier : (q c x e r : ℕ) → x < e → r < c → (q + x) * c + r < (q + e) * c
earlier q c x e r h k = omega (arith, add-mul q x c, add-mul q e c, mul-le (x + 1) c e c (omega arith) (omega arith), add-mul x 1 c)

later : (q c x e r : ℕ) → e < x → (q + e) * c + c ≤ (q + x) * c + r
later q c x e r h = omega (arith, add-mul q x c, add-mul q e c, mul-le (e + 1) c x c (omega arith) (omega arith), add-mul e 1 c)

block_begins : (first size c e : ℕ) → first * (size * c) ≤ (first * size + e) * c
block_begins first size c e = omega (arith, add-mul (first * size) e c, mul_assoc first size c)

block_ends : (first size c e : ℕ) → e < size → (first * size + e) * c + c ≤ first * (size * c) + size * c
block_ends first size c e h = omega (arith, add-mul (first * size) e c, mul_assoc first size c, mul-le (e + 1) c size c (omega arith) (omega arith), add-mul e 1 c)

-- no term is left: one tuple
pub written_end : (S : Model.Structure) (env : Environment) (f : Formula) (first : ℕ) (old : List Bool) (b : Bool) → first < length old → b ≡ value_of S env f → IsWritten S env [] [] f first old (set old first b)
written_end S env f first old b below is = record {
  inside = λ es h. ap (λ n. get_or (set old first b) n false) (let e : first * 1 + 0 ≡ first = omega arith in e) ∙ (get_or-set_same old first b false below ∙ is);
  below = λ place h. get_or-set_other old first place b false (omega arith);
  above = λ place h. get_or-set_other old first place b false (omega arith);
}

-- a term that stands for one element, whatever is bound
pub record IsFixed (S : Model.Structure) (env : Environment) (t : Term) (e : ℕ) : Type 0 where
  pub matched : (ts : List Term) (x : ℕ) (es : List ℕ) → matches S env (t ∷ ts) (x ∷ es) ≡ (nat_eq x e && matches S env ts es)
  pub bound : (ts : List Term) (x : ℕ) (es : List ℕ) → bind_target env (t ∷ ts) (x ∷ es) ≡ bind_target env ts es

abbrev pub index : Model.Structure → List ℕ → ℕ → ℕ → ℕ → List ℕ → ℕ
index S sorts size first x es = first * (size * tuple_count S.sizes sorts) + (x * tuple_count S.sizes sorts + tuple_place S.sizes sorts es)

abbrev pub spoken : Model.Structure → Environment → Environment → List Term → Formula → List ℕ → Bool → Bool
spoken S env inner ts f es old = if matches S env ts es then value_of S (bind_target inner ts es) f else old

outside_block : (S : Model.Structure) (env : Environment) (ts : List Term) (sorts : List ℕ) (f : Formula) (first size e x : ℕ) (old new : List Bool) (es : List ℕ) → IsWritten S env ts sorts f (first * size + e) old new → is_tuple S.sizes sorts es ≡ true → (x < e) ⊎ (e < x) → get_or new (index S sorts size first x es) false ≡ get_or old (index S sorts size first x es) false
outside_block S env ts sorts f first size e x old new es w tuple (inl before) =
    let c = tuple_count S.sizes sorts in
    let inside = place_inside S.sizes sorts es tuple in
    let here = regrouped first size c x (tuple_place S.sizes sorts es) in
    let less = earlier (first * size) c x e (tuple_place S.sizes sorts es) before inside in
    w.below (index S sorts size first x es) (omega arith)
outside_block S env ts sorts f first size e x old new es w tuple (inr after) =
    let c = tuple_count S.sizes sorts in
    let here = regrouped first size c x (tuple_place S.sizes sorts es) in
    let more = later (first * size) c x e (tuple_place S.sizes sorts es) after in
    w.above (index S sorts size first x es) (omega arith)

inside_block : (S : Model.Structure) (env : Environment) (ts : List Term) (sorts : List ℕ) (f : Formula) (first size e : ℕ) (old new : List Bool) (es : List ℕ) → IsWritten S env ts sorts f (first * size + e) old new → is_tuple S.sizes sorts es ≡ true → get_or new (index S sorts size first e es) false ≡ spoken S env env ts f es (get_or old (index S sorts size first e es) false)
inside_block S env ts sorts f first size e old new es w tuple =
    let c = tuple_count S.sizes sorts in
    subst (λ n. get_or new n false ≡ spoken S env env ts f es (get_or old n false)) (sym (regrouped first size c e (tuple_place S.sizes sorts es))) (w.inside es tuple)

pub written_fixed : (S : Model.Structure) (env : Environment) (t : Term) (ts : List Term) (sort : ℕ) (sorts : List ℕ) (f : Formula) (first e : ℕ) (old new : List Bool) → IsFixed S env t e → e < get_or S.sizes sort 0 → IsWritten S env ts sorts f (first * get_or S.sizes sort 0 + e) old new → IsWritten S env (t ∷ ts) (sort ∷ sorts) f first old new
written_fixed S env t ts sort sorts f first e old new fixed below w =
    let size = get_or S.sizes sort 0 in
    let c = tuple_count S.sizes sorts in
    let begins = block_begins first size c e in
    let ends = block_ends first size c e below in
    record { inside = all_inside; below = λ place h. w.below place (omega arith); above = λ place h. w.above place (omega arith) }
  where
    at : (x : ℕ) (es : List ℕ) (same : Bool) → nat_eq x e ≡ same → is_tuple S.sizes sorts es ≡ true → get_or new (index S sorts (get_or S.sizes sort 0) first x es) false ≡ (if same && matches S env ts es then value_of S (bind_target env ts es) f else get_or old (index S sorts (get_or S.sizes sort 0) first x es) false)
    at x es true test tuple =
        let k : x ≡ e = grind (arith, nat_tests) in
        subst (λ y. get_or new (index S sorts (get_or S.sizes sort 0) first y es) false ≡ spoken S env env ts f es (get_or old (index S sorts (get_or S.sizes sort 0) first y es) false)) (sym k) (inside_block S env ts sorts f first (get_or S.sizes sort 0) e old new es w tuple)
    at x es false test tuple = outside_block S env ts sorts f first (get_or S.sizes sort 0) e x old new es w tuple (apart (cases_lt x e))
      where
        apart : (x < e) ⊎ (e ≤ x) → (x < e) ⊎ (e < x)
        apart (inl before) = inl before
        apart (inr from) = let k : x ≢ e = grind (arith, nat_tests) in inr (omega arith)

    all_inside : (es : List ℕ) → is_tuple S.sizes (sort ∷ sorts) es ≡ true → get_or new (first * tuple_count S.sizes (sort ∷ sorts) + tuple_place S.sizes (sort ∷ sorts) es) false ≡ spoken S env env (t ∷ ts) f es (get_or old (first * tuple_count S.sizes (sort ∷ sorts) + tuple_place S.sizes (sort ∷ sorts) es) false)
    all_inside [] h = absurd (let k : ⊥ = cc in k)
    all_inside (x ∷ es) h =
        at x es (nat_eq x e) refl (and_right (nat_lt x (get_or S.sizes sort 0)) _ h)
        ∙ (ap (λ m. if m then value_of S (bind_target env ts es) f else get_or old (index S sorts (get_or S.sizes sort 0) first x es) false) (sym (fixed.matched ts x es))
        ∙ ap (λ inner. if matches S env (t ∷ ts) (x ∷ es) then value_of S inner f else get_or old (index S sorts (get_or S.sizes sort 0) first x es) false) (sym (fixed.bound ts x es)))

-- the state of the walk over the elements of a variable of the target
pub record IsWrittenTo (S : Model.Structure) (env : Environment) (v : ℕ) (ts : List Term) (size : ℕ) (sorts : List ℕ) (f : Formula) (first n : ℕ) (old new : List Bool) : Type 0 where
  pub done : (x : ℕ) (es : List ℕ) → x < n → is_tuple S.sizes sorts es ≡ true → get_or new (index S sorts size first x es) false ≡ spoken S env (bind env v x) ts f es (get_or old (index S sorts size first x es) false)
  pub rest : (x : ℕ) (es : List ℕ) → n ≤ x → is_tuple S.sizes sorts es ≡ true → get_or new (index S sorts size first x es) false ≡ get_or old (index S sorts size first x es) false
  pub below : (place : ℕ) → place < first * (size * tuple_count S.sizes sorts) → get_or new place false ≡ get_or old place false
  pub above : (place : ℕ) → first * (size * tuple_count S.sizes sorts) + size * tuple_count S.sizes sorts ≤ place → get_or new place false ≡ get_or old place false

pub written_none : (S : Model.Structure) (env : Environment) (v : ℕ) (ts : List Term) (size : ℕ) (sorts : List ℕ) (f : Formula) (first : ℕ) (old : List Bool) → IsWrittenTo S env v ts size sorts f first 0 old old
written_none S env v ts size sorts f first old = record {
  done = λ x es h tuple. absurd (omega arith);
  rest = λ x es h tuple. refl;
  below = λ place h. refl;
  above = λ place h. refl;
}

-- what the terms of a target stand for doesn't depend on variables
matches_bound : (S : Model.Structure) (env : Environment) (v e : ℕ) (ts : List Term) (es : List ℕ) → matches S (bind env v e) ts es ≡ matches S env ts es
matches_bound S env v e [] es = refl
matches_bound S env v e (t ∷ ts) [] = refl
matches_bound S env v e (variable w ∷ ts) (x ∷ es) = matches_bound S env v e ts es
matches_bound S env v e (individual i ∷ ts) (x ∷ es) = ap (λ m. nat_eq x (S.element i) && m) (matches_bound S env v e ts es)
matches_bound S env v e (parameter p ∷ ts) (x ∷ es) = ap (λ m. nat_eq x (get_or env.parameters p 0) && m) (matches_bound S env v e ts es)
matches_bound S env v e (choice l ∷ ts) (x ∷ es) = ap (λ m. nat_eq x (get_or env.choices l 0) && m) (matches_bound S env v e ts es)

pub written_more : (S : Model.Structure) (env inner : Environment) (v : ℕ) (ts : List Term) (size : ℕ) (sorts : List ℕ) (f : Formula) (first n : ℕ) (old mid new : List Bool) → n < size → inner ≡ bind env v n → IsWrittenTo S env v ts size sorts f first n old mid → IsWritten S inner ts sorts f (first * size + n) mid new → IsWrittenTo S env v ts size sorts f first (n + 1) old new
written_more S env inner v ts size sorts f first n old mid new inside is so_far own =
    let w : IsWritten S (bind env v n) ts sorts f (first * size + n) mid new = subst (λ a. IsWritten S a ts sorts f (first * size + n) mid new) is own in
    let c = tuple_count S.sizes sorts in
    let begins = block_begins first size c n in
    let ends = block_ends first size c n inside in
    record {
      done = λ x es h tuple. done_at w x es (cases_lt x n) h tuple;
      rest = λ x es h tuple. outside_block S (bind env v n) ts sorts f first size n x mid new es w tuple (inr (omega arith)) ∙ so_far.rest x es (omega arith) tuple;
      below = λ place h. w.below place (omega arith) ∙ so_far.below place h;
      above = λ place h. w.above place (omega arith) ∙ so_far.above place h;
    }
  where
    done_here : IsWritten S (bind env v n) ts sorts f (first * size + n) mid new → (es : List ℕ) → is_tuple S.sizes sorts es ≡ true → get_or new (index S sorts size first n es) false ≡ spoken S env (bind env v n) ts f es (get_or old (index S sorts size first n es) false)
    done_here w es tuple =
        inside_block S (bind env v n) ts sorts f first size n mid new es w tuple
        ∙ (ap (λ m. if m then value_of S (bind_target (bind env v n) ts es) f else get_or mid (index S sorts size first n es) false) (matches_bound S env v n ts es)
        ∙ ap (λ b. if matches S env ts es then value_of S (bind_target (bind env v n) ts es) f else b) (so_far.rest n es (omega arith) tuple))

    done_at : IsWritten S (bind env v n) ts sorts f (first * size + n) mid new → (x : ℕ) (es : List ℕ) → (x < n) ⊎ (n ≤ x) → x < n + 1 → is_tuple S.sizes sorts es ≡ true → get_or new (index S sorts size first x es) false ≡ spoken S env (bind env v x) ts f es (get_or old (index S sorts size first x es) false)
    done_at w x es (inl before) h tuple = outside_block S (bind env v n) ts sorts f first size n x mid new es w tuple (inl before) ∙ so_far.done x es before tuple
    done_at w x es (inr from) h tuple =
        let k : n ≡ x = omega arith in
        subst (λ y. get_or new (index S sorts size first y es) false ≡ spoken S env (bind env v y) ts f es (get_or old (index S sorts size first y es) false)) k (done_here w es tuple)

pub written_all : (S : Model.Structure) (env : Environment) (v : ℕ) (ts : List Term) (sort : ℕ) (sorts : List ℕ) (f : Formula) (first n : ℕ) (old new : List Bool) → n ≡ get_or S.sizes sort 0 → IsWrittenTo S env v ts (get_or S.sizes sort 0) sorts f first n old new → IsWritten S env (variable v ∷ ts) (sort ∷ sorts) f first old new
written_all S env v ts sort sorts f first n old new all w = record { inside = all_inside; below = w.below; above = w.above }
  where
    all_inside : (es : List ℕ) → is_tuple S.sizes (sort ∷ sorts) es ≡ true → get_or new (first * tuple_count S.sizes (sort ∷ sorts) + tuple_place S.sizes (sort ∷ sorts) es) false ≡ spoken S env env (variable v ∷ ts) f es (get_or old (first * tuple_count S.sizes (sort ∷ sorts) + tuple_place S.sizes (sort ∷ sorts) es) false)
    all_inside [] h = absurd (let k : ⊥ = cc in k)
    all_inside (x ∷ es) h =
        let below : x < get_or S.sizes sort 0 = lt_from_test x (get_or S.sizes sort 0) (and_left _ _ h) in
        w.done x es (omega arith) (and_right (nat_lt x (get_or S.sizes sort 0)) _ h)

-- The next term of a target with the type of its place, where the table has room for all tuples that begin with
-- the elements so far.
pub record IsNext (P : Protocol) (s : Structure) (env : Environment) (t : Term) (ts : List Term) (sort : ℕ) (sorts : List ℕ) (f : Formula) (first room : ℕ) : Type 0 where
  pub writable : IsWritable P s.sizes.items env (t ∷ ts) (sort ∷ sorts) f
  pub known : sort < length s.sizes.items
  pub some : 0 < tuple_count s.sizes.items sorts
  pub enough : first * (get_or s.sizes.items sort 0 * tuple_count s.sizes.items sorts) + get_or s.sizes.items sort 0 * tuple_count s.sizes.items sorts ≤ room

terms_length : (P : Protocol) (scope : Scope) (ts : List Term) (sorts : List ℕ) → HaveSorts P scope ts sorts → length ts ≡ length sorts
terms_length P scope [] [] h = refl
terms_length P scope [] (sort ∷ sorts) h = absurd (let k : ⊥ = cc in k)
terms_length P scope (t ∷ ts) [] h = absurd (let k : ⊥ = cc in k)
terms_length P scope (t ∷ ts) (sort ∷ sorts) h = ap suc (terms_length P scope ts sorts (let k : map (sort_of P scope) ts ≡ map Some sorts = cc in k))

pub next_inside : (P : Protocol) (sizes : List ℕ) (env : Environment) (ts : List Term) (sorts : List ℕ) (k : ℕ) (f : Formula) → k < length ts → IsWritable P sizes env (drop k ts) (drop k sorts) f → k < length sorts
next_inside P sizes env ts sorts k f below w =
    let as_long = terms_length P (target_scope w.scope (drop k ts) (drop k sorts)) (drop k ts) (drop k sorts) w.terms in
    let long = length-drop k ts in
    let others = length-drop k sorts in
    omega arith

pub positive : (m n : ℕ) → 0 < m → 0 < n → 0 < m * n
positive m n h k = omega (arith, mul-le 1 1 m n (omega arith) (omega arith))

pub some_tuples : (sizes sorts : List ℕ) → All (λ size. 0 < size) sizes → All (λ sort. sort < length sizes) sorts → 0 < tuple_count sizes sorts
some_tuples sizes [] inhabited known = omega arith
some_tuples sizes (sort ∷ sorts) inhabited known =
    positive (get_or sizes sort 0) (tuple_count sizes sorts) (inhabited sort 0 (known 0 0 (omega arith))) (some_tuples sizes sorts inhabited (λ k d below. known (suc k) d (omega arith)))

next_cons : (P : Protocol) (s : Structure) (env : Environment) (t : Term) (ts : List Term) (sort : ℕ) (sorts : List ℕ) (f : Formula) (first room : ℕ) → Fits P s → IsWritable P s.sizes.items env (t ∷ ts) (sort ∷ sorts) f → first * tuple_count s.sizes.items (sort ∷ sorts) + tuple_count s.sizes.items (sort ∷ sorts) ≤ room → IsNext P s env t ts sort sorts f first room
next_cons P s env t ts sort sorts f first room fits w enough = record {
  writable = w;
  known = w.known 0 0 (omega arith);
  some = some_tuples s.sizes.items sorts fits.inhabited (λ k d below. w.known (suc k) d (omega arith));
  enough = enough;
}

pub next_place : (P : Protocol) (s : Structure) (env : Environment) (ts : List Term) (sorts : List ℕ) (k : ℕ) (t d : Term) (f : Formula) (first room : ℕ) → Fits P s → k < length ts → get_or ts k d ≡ t → IsWritable P s.sizes.items env (drop k ts) (drop k sorts) f → first * tuple_count s.sizes.items (drop k sorts) + tuple_count s.sizes.items (drop k sorts) ≤ room → IsNext P s env t (drop (k + 1) ts) (get_or sorts k 0) (drop (k + 1) sorts) f first room
next_place P s env ts sorts k t d f first room fits below here w enough =
    let inside = next_inside P s.sizes.items env ts sorts k f below w in
    let front : drop k ts ≡ t ∷ drop (k + 1) ts = drop_more ts k d below ∙ ap (λ x. x ∷ drop (k + 1) ts) here in
    let front_sort : drop k sorts ≡ get_or sorts k 0 ∷ drop (k + 1) sorts = drop_more sorts k 0 inside in
    next_cons P s env t (drop (k + 1) ts) (get_or sorts k 0) (drop (k + 1) sorts) f first room fits
    (subst (λ xs. IsWritable P s.sizes.items env xs (get_or sorts k 0 ∷ drop (k + 1) sorts) f) front (subst (λ xs. IsWritable P s.sizes.items env (drop k ts) xs f) front_sort w))
    (subst (λ xs. first * tuple_count s.sizes.items xs + tuple_count s.sizes.items xs ≤ room) front_sort enough)

-- where a tuple begins with an element more
pub record HasRoom (size c first e room : ℕ) : Type 0 where
  pub product : first * size ≤ room
  pub sum : first * size + e ≤ room
  pub enough : (first * size + e) * c + c ≤ room

pub room_more : (size c first e room : ℕ) → 0 < c → e < size → first * (size * c) + size * c ≤ room → HasRoom size c first e room
room_more size c first e room some below enough =
    let ends = block_ends first size c e below in
    let grows = le-mul_of_pos_right {m = c} (first * size + e) some in
    record { product = omega arith; sum = omega arith; enough = omega arith }

-- the rest of a target where its next variable stands for an element
pub next_variable : (P : Protocol) (s : Structure) (env inner : Environment) (t : Term) (ts : List Term) (sort : ℕ) (sorts : List ℕ) (f : Formula) (first room v e : ℕ) → IsNext P s env t ts sort sorts f first room → t ≡ variable v → e < get_or s.sizes.items sort 0 → inner ≡ bind env v e → IsWritable P s.sizes.items inner ts sorts f
next_variable P s env inner t ts sort sorts f first room v e next is below binds =
    let w = subst (λ x. IsWritable P s.sizes.items env (x ∷ ts) (sort ∷ sorts) f) is next.writable in
    let inside = target_scope (with_variable w.scope v sort) ts sorts in
    let own : IsWritable P s.sizes.items (bind env v e) ts sorts f = record {
      scope = with_variable w.scope v sort;
      known = λ k d h. w.known (suc k) d (omega arith);
      terms = rest_sorts P inside (variable v) ts sort sorts w.terms;
      sorted = w.sorted;
      gives = gives_more w.scope s.sizes.items env v e sort below w.gives;
    } in
    subst (λ a. IsWritable P s.sizes.items a ts sorts f) (sym binds) own
  where
    rest_sorts : (P : Protocol) (scope : Scope) (t : Term) (ts : List Term) (sort : ℕ) (sorts : List ℕ) → HaveSorts P scope (t ∷ ts) (sort ∷ sorts) → HaveSorts P scope ts sorts
    rest_sorts P scope t ts sort sorts h = cc

-- a target changes the types of variables alone
target_parameters : (scope : Scope) (ts : List Term) (sorts : List ℕ) → (target_scope scope ts sorts).parameters ≡ scope.parameters
target_parameters scope [] sorts = refl
target_parameters scope (t ∷ ts) [] = refl
target_parameters scope (variable v ∷ ts) (sort ∷ sorts) = target_parameters (with_variable scope v sort) ts sorts
target_parameters scope (individual i ∷ ts) (sort ∷ sorts) = target_parameters scope ts sorts
target_parameters scope (parameter p ∷ ts) (sort ∷ sorts) = target_parameters scope ts sorts
target_parameters scope (choice l ∷ ts) (sort ∷ sorts) = target_parameters scope ts sorts

target_choices : (scope : Scope) (ts : List Term) (sorts : List ℕ) → (target_scope scope ts sorts).choices ≡ scope.choices
target_choices scope [] sorts = refl
target_choices scope (t ∷ ts) [] = refl
target_choices scope (variable v ∷ ts) (sort ∷ sorts) = target_choices (with_variable scope v sort) ts sorts
target_choices scope (individual i ∷ ts) (sort ∷ sorts) = target_choices scope ts sorts
target_choices scope (parameter p ∷ ts) (sort ∷ sorts) = target_choices scope ts sorts
target_choices scope (choice l ∷ ts) (sort ∷ sorts) = target_choices scope ts sorts

-- the next term where it is no variable
pub record IsFixedNext (P : Protocol) (s : Structure) (env : Environment) (t : Term) (ts : List Term) (sort : ℕ) (sorts : List ℕ) (f : Formula) : Type 0 where
  pub place : HasPlace s env t
  pub element : value_of_term (structure_of P s) env t < get_or s.sizes.items sort 0
  pub fixed : IsFixed (structure_of P s) env t (value_of_term (structure_of P s) env t)
  pub writable : IsWritable P s.sizes.items env ts sorts f

fixed_next : (P : Protocol) (s : Structure) (env : Environment) (t : Term) (ts : List Term) (sort : ℕ) (sorts : List ℕ) (f : Formula) (scope : Scope) → Fits P s → Gives scope s.sizes.items env → HasSort P scope t sort → IsFixed (structure_of P s) env t (value_of_term (structure_of P s) env t) → IsWritable P s.sizes.items env ts sorts f → IsFixedNext P s env t ts sort sorts f
fixed_next P s env t ts sort sorts f scope fits gives has fixed w = record {
  place = term_place P scope s env t sort fits gives has;
  element = term_fits P scope (structure_of P s) env t sort (fits_structure P s fits) gives.fits has;
  fixed = fixed;
  writable = w;
}

head_sort : (P : Protocol) (scope : Scope) (t : Term) (ts : List Term) (sort : ℕ) (sorts : List ℕ) → HaveSorts P scope (t ∷ ts) (sort ∷ sorts) → sort_of P scope t ≡ Some sort
head_sort P scope t ts sort sorts h = cc

tail_sorts : (P : Protocol) (scope : Scope) (t : Term) (ts : List Term) (sort : ℕ) (sorts : List ℕ) → HaveSorts P scope (t ∷ ts) (sort ∷ sorts) → HaveSorts P scope ts sorts
tail_sorts P scope t ts sort sorts h = cc

pub next_fixed : (P : Protocol) (s : Structure) (env : Environment) (t : Term) (ts : List Term) (sort : ℕ) (sorts : List ℕ) (f : Formula) (first room : ℕ) → Fits P s → IsNext P s env t ts sort sorts f first room → ((v : ℕ) → t ≡ variable v → ⊥) → IsFixedNext P s env t ts sort sorts f
next_fixed P s env (variable v) ts sort sorts f first room fits next other = absurd (other v refl)
next_fixed P s env (individual i) ts sort sorts f first room fits next other =
    let w = next.writable in
    let inside = target_scope w.scope ts sorts in
    fixed_next P s env (individual i) ts sort sorts f w.scope fits w.gives (head_sort P inside (individual i) ts sort sorts w.terms)
    (record { matched = λ us x es. refl; bound = λ us x es. refl })
    (record { scope = w.scope; known = λ k d h. w.known (suc k) d (omega arith); terms = tail_sorts P inside (individual i) ts sort sorts w.terms; sorted = w.sorted; gives = w.gives })
next_fixed P s env (parameter p) ts sort sorts f first room fits next other =
    let w = next.writable in
    let inside = target_scope w.scope ts sorts in
    fixed_next P s env (parameter p) ts sort sorts f w.scope fits w.gives (ap (λ (xs : List ℕ). slice_get xs p) (sym (target_parameters w.scope ts sorts)) ∙ head_sort P inside (parameter p) ts sort sorts w.terms)
    (record { matched = λ us x es. refl; bound = λ us x es. refl })
    (record { scope = w.scope; known = λ k d h. w.known (suc k) d (omega arith); terms = tail_sorts P inside (parameter p) ts sort sorts w.terms; sorted = w.sorted; gives = w.gives })
next_fixed P s env (choice l) ts sort sorts f first room fits next other =
    let w = next.writable in
    let inside = target_scope w.scope ts sorts in
    fixed_next P s env (choice l) ts sort sorts f w.scope fits w.gives (ap (λ (xs : List ℕ). slice_get xs l) (sym (target_choices w.scope ts sorts)) ∙ head_sort P inside (choice l) ts sort sorts w.terms)
    (record { matched = λ us x es. refl; bound = λ us x es. refl })
    (record { scope = w.scope; known = λ k d h. w.known (suc k) d (omega arith); terms = tail_sorts P inside (choice l) ts sort sorts w.terms; sorted = w.sorted; gives = w.gives })

pub not_variable : (t : Tree) → ((w : ℕ) → t ≡ Var w → ⊥) → (v : ℕ) → term_of t ≡ variable v → ⊥
not_variable (Var w) h v e = h w refl
not_variable (Ind i) h v e = cc
not_variable (Par p) h v e = cc
not_variable (Loc l) h v e = cc

-- where the target is at its end
pub end_writable : (P : Protocol) (sizes : List ℕ) (env : Environment) (ts : List Term) (sorts : List ℕ) (f : Formula) → ts ≡ [] → IsWritable P sizes env ts sorts f → IsWritable P sizes env [] [] f
end_writable P sizes env ts sorts f e w = at_end sorts (subst (λ us. IsWritable P sizes env us sorts f) e w)
  where
    at_end : (rest : List ℕ) → IsWritable P sizes env [] rest f → IsWritable P sizes env [] [] f
    at_end [] k = k
    at_end (sort ∷ rest) k = absurd (no_sort k.terms)
      where
        no_sort : map (sort_of P (target_scope k.scope [] (sort ∷ rest))) [] ≡ map Some (sort ∷ rest) → ⊥
        no_sort h = cc

pub end_sorts : (P : Protocol) (sizes : List ℕ) (env : Environment) (ts : List Term) (sorts : List ℕ) (f : Formula) → ts ≡ [] → IsWritable P sizes env ts sorts f → sorts ≡ []
end_sorts P sizes env ts [] f e w = refl
end_sorts P sizes env ts (sort ∷ rest) f e w =
    let as_long = terms_length P (target_scope w.scope ts (sort ∷ rest)) ts (sort ∷ rest) w.terms in
    let none = ap length e in
    absurd (omega arith)

pub end_evaluable : (P : Protocol) (sizes : List ℕ) (env : Environment) (ts : List Term) (sorts : List ℕ) (f : Formula) → ts ≡ [] → IsWritable P sizes env ts sorts f → IsEvaluable P sizes env f
end_evaluable P sizes env ts sorts f e w =
    let k = end_writable P sizes env ts sorts f e w in
    record { scope = k.scope; sorted = k.sorted; gives = k.gives }

pub mapped_below : {X Y : Type 0} (f : X → Y) (xs : List X) (k : ℕ) → k < length xs → k < length (map f xs)
mapped_below f xs k below = let long = length-map xs f in omega arith

pub dropped_all : {X Y : Type 0} (f : X → Y) (xs : List X) (k : ℕ) → k ≡ length xs → drop k (map f xs) ≡ []
dropped_all f xs k e = let long = length-map xs f in drop_all k (map f xs) (omega arith)

pub written_end_at : (S : Model.Structure) (env : Environment) (ts : List Term) (sorts : List ℕ) (f : Formula) (first : ℕ) (old : List Bool) (b : Bool) → ts ≡ [] → sorts ≡ [] → first < length old → b ≡ value_of S env f → IsWritten S env ts sorts f first old (set old first b)
written_end_at S env ts sorts f first old b no_terms no_sorts below is =
    subst (λ us. IsWritten S env us sorts f first old (set old first b)) (sym no_terms)
    (subst (λ xs. IsWritten S env [] xs f first old (set old first b)) (sym no_sorts) (written_end S env f first old b below is))

-- what is written for a rest of the target that begins with this term
pub written_drop : (S : Model.Structure) (env : Environment) (ts : List Term) (sorts : List ℕ) (k : ℕ) (t d : Term) (f : Formula) (first : ℕ) (old new : List Bool) → k < length ts → k < length sorts → get_or ts k d ≡ t → IsWritten S env (t ∷ drop (k + 1) ts) (get_or sorts k 0 ∷ drop (k + 1) sorts) f first old new → IsWritten S env (drop k ts) (drop k sorts) f first old new
written_drop S env ts sorts k t d f first old new below inside here w =
    let front : drop k ts ≡ t ∷ drop (k + 1) ts = drop_more ts k d below ∙ ap (λ x. x ∷ drop (k + 1) ts) here in
    subst (λ us. IsWritten S env us (drop k sorts) f first old new) (sym front)
    (subst (λ xs. IsWritten S env (t ∷ drop (k + 1) ts) xs f first old new) (sym (drop_more sorts k 0 inside)) w)
