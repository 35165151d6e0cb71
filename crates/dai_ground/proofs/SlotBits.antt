-- Quantifiers over slots.
use Rattle.std.proofs.Common.{◌≡◌, ◌≢◌, ◌+◌, ◌<◌, ◌≤◌, ◌&&◌, ◌||◌, ℕ, zero, suc, Bool, true, false, List, [], ◌∷◌, ◌++◌, length, get_or, set, map, refl, ap, sym, ◌∙◌, subst, arith, Some, Result, inl, inr, get_or-set_other}
use Rattle.std.specs.Prelude.{nat_eq, nat_lt, if◌then◌else◌}
use Rattle.std.specs.List.{list_all, list_any}
use Rattle.std.proofs.lemmas.Bool.{cases_lt}
use Rattle.std.proofs.lemmas.Bool.Decides.{nat_tests}
use Rattle.std.proofs.lemmas.List.{map-append, set-set}
use Rattle.dai_base.specs.declared.memory.Spent.{Spent}
use Rattle.dai_model.specs.Protocol.{Protocol}
use Rattle.dai_model.specs.Formula.{Formula, universal, existential}
use Rattle.dai_model.specs.Structure.{Structure, size_of}
use Rattle.dai_model.specs.Value.{Environment, bind, every, some, value_of}
use Rattle.dai_model.specs.WellSorted.{Scope, with_variable, EnvironmentFits, IsWellSorted}
use Rattle.dai_model.specs.Clause.{numbers_below}
use Rattle.dai_trail.specs.Formula as Clauses
use Rattle.dai_circuit.specs.declared.bit.Bit.{Bit}
use Rattle.dai_circuit.specs.Circuits.{bit_value, Extends, Defines, IsBitFor, all_value, any_value}
use Rattle.dai_picture.specs.declared.picture.Frame.{Frame}
use Rattle.dai_picture.specs.declared.picture.Picture.{Picture}
use Rattle.dai_picture.specs.Pictures.{rows_of, row_at, bit_at}
use Rattle.dai_ground.specs.Findings.{HasValue, HaveValues}
use Rattle.dai_ground.specs.Grounding.{IsPlaced, IsFormulaIn, IsBodyIn, IsValue, AreSlotValues, Grounds, Sees, environment, slot_value}
use Rattle.dai_ground.proofs.Findings.{IsMore, have_other, have_none, have_more, finds_all, finds_any, finds_after}
use Rattle.dai_ground.proofs.Placed.{row_long}
use Rattle.dai_ground.proofs.FormulaBits.{placed_kept}

and_true : (b : Bool) → (b && true) ≡ b
and_true true = refl
and_true false = refl

or_false : (b : Bool) → (b || false) ≡ b
or_false true = refl
or_false false = refl

all-push : (vs : List Bool) (b : Bool) → list_all (λ v. v) (vs ++ b ∷ []) ≡ (list_all (λ v. v) vs && b)
all-push [] b = and_true b
all-push (true ∷ vs) b = all-push vs b
all-push (false ∷ vs) b = refl

any-push : (vs : List Bool) (b : Bool) → list_any (λ v. v) (vs ++ b ∷ []) ≡ (list_any (λ v. v) vs || b)
any-push [] b = or_false b
any-push (true ∷ vs) b = refl
any-push (false ∷ vs) b = any-push vs b

all_numbers : (n : ℕ) (test : ℕ → Bool) → list_all (λ v. v) (map test (numbers_below n)) ≡ every n test
all_numbers zero test = refl
all_numbers (suc n) test = ap (list_all (λ v. v)) (map-append test (numbers_below n) (n ∷ [])) ∙ (all-push (map test (numbers_below n)) (test n) ∙ ap (λ b. b && test n) (all_numbers n test))

any_numbers : (n : ℕ) (test : ℕ → Bool) → list_any (λ v. v) (map test (numbers_below n)) ≡ some n test
any_numbers zero test = refl
any_numbers (suc n) test = ap (list_any (λ v. v)) (map-append test (numbers_below n) (n ∷ [])) ∙ (any-push (map test (numbers_below n)) (test n) ∙ ap (λ b. b || test n) (any_numbers n test))

every_same : (n : ℕ) (p q : ℕ → Bool) → ((k : ℕ) → k < n → p k ≡ q k) → every n p ≡ every n q
every_same zero p q same = refl
every_same (suc n) p q same = (λ i. every_same n p q (λ k l. same k (omega arith)) i && same n (omega arith) i)

some_same : (n : ℕ) (p q : ℕ → Bool) → ((k : ℕ) → k < n → p k ≡ q k) → some n p ≡ some n q
some_same zero p q same = refl
some_same (suc n) p q same = (λ i. some_same n p q (λ k l. same k (omega arith)) i || same n (omega arith) i)

used_slot : (neutral : Bool) (size : ℕ) (test : ℕ → Bool) (k : ℕ) → k < size → slot_value neutral size test k ≡ test k
used_slot neutral size test k below = ap (λ b. if b then test k else neutral) (let e : nat_lt k size ≡ true = grind (arith, nat_tests) in e)

free_slot : (neutral : Bool) (size : ℕ) (test : ℕ → Bool) (k : ℕ) → size ≤ k → slot_value neutral size test k ≡ neutral
free_slot neutral size test k past = ap (λ b. if b then test k else neutral) (let e : nat_lt k size ≡ false = grind (arith, nat_tests) in e)

every_slot : (n size : ℕ) (test : ℕ → Bool) → size ≤ n → every n (slot_value true size test) ≡ every size test
every_slot zero size test le = subst (λ m. every 0 (slot_value true m test) ≡ every m test) (let e : 0 ≡ size = omega arith in e) refl
every_slot (suc n) size test le = elim (cases_lt n size) [
  | inl low ↦
      let all : suc n ≡ size = omega arith in
      subst (λ m. every (suc n) (slot_value true size test) ≡ every m test) all (every_same (suc n) (slot_value true size test) test (λ k l. used_slot true size test k (omega arith)))
  | inr high ↦ ap (λ b. every n (slot_value true size test) && b) (free_slot true size test n high) ∙ (and_true (every n (slot_value true size test)) ∙ every_slot n size test high)
]

some_slot : (n size : ℕ) (test : ℕ → Bool) → size ≤ n → some n (slot_value false size test) ≡ some size test
some_slot zero size test le = subst (λ m. some 0 (slot_value false m test) ≡ some m test) (let e : 0 ≡ size = omega arith in e) refl
some_slot (suc n) size test le = elim (cases_lt n size) [
  | inl low ↦
      let all : suc n ≡ size = omega arith in
      subst (λ m. some (suc n) (slot_value false size test) ≡ some m test) all (some_same (suc n) (slot_value false size test) test (λ k l. used_slot false size test k (omega arith)))
  | inr high ↦ ap (λ b. some n (slot_value false size test) || b) (free_slot false size test n high) ∙ (or_false (some n (slot_value false size test)) ∙ some_slot n size test high)
]

-- as many bits say whether a slot is used as the type has slots
pub used_long : (P : Protocol) (frame : Frame) (picture : Picture) (count : ℕ) (binding : List ℕ) (scope : Scope) (sort : ℕ) → IsPlaced P frame picture count binding scope → length (row_at (rows_of frame.used) sort) ≡ get_or frame.slots.items sort 0
used_long P frame picture count binding scope sort placed = row_long count frame.slots.items (rows_of frame.used) sort placed.drawn.used

within : (P : Protocol) (frame : Frame) (picture : Picture) (bits : List Bool) (scope : Scope) (s : Structure) (env : Environment) (sort : ℕ) → length (row_at (rows_of frame.used) sort) ≡ get_or frame.slots.items sort 0 → sort < length P.sorts → Sees P frame picture bits scope s env → size_of s sort ≤ get_or frame.slots.items sort 0
within P frame picture bits scope s env sort long known sees = let w = (sees.shows.sizes sort known).within in omega arith

pub for_all_grounds : (P : Protocol) (frame : Frame) (picture : Picture) (binding : List ℕ) (v sort : ℕ) (f : Formula) (old mid new : Clauses.Formula) (parts : List Bit) (result : Result Bit Spent) → length (row_at (rows_of frame.used) sort) ≡ get_or frame.slots.items sort 0 → Extends old mid → HaveValues (AreSlotValues P frame picture binding v sort f true (get_or frame.slots.items sort 0)) mid parts → Defines mid new result (all_value parts) → Grounds P frame picture binding (universal v sort f) old new result
for_all_grounds P frame picture binding v sort f old mid new parts result long e h d =
    let n = get_or frame.slots.items sort 0 in
    finds_after (IsValue P frame picture binding (universal v sort f)) old mid new result e
    (finds_all (AreSlotValues P frame picture binding v sort f true n) (IsValue P frame picture binding (universal v sort f)) mid new parts result
    (λ bits value is.
    let env = environment binding is.arguments is.choices in
    let size = size_of is.structure sort in
    let test : ℕ → Bool = λ e. value_of is.structure (bind env v e) f in
    record {
      values = map (slot_value true size test) (numbers_below n);
      are = record { scope = is.scope; structure = is.structure; arguments = is.arguments; choices = is.choices; known = is.sorted.0; sorted = is.sorted.1; sees = is.sees; are = refl };
      is = is.is ∙ sym (all_numbers n (slot_value true size test) ∙ every_slot n size test (within P frame picture bits is.scope is.structure env sort long is.sorted.0 is.sees));
    })
    h d)

pub for_some_grounds : (P : Protocol) (frame : Frame) (picture : Picture) (binding : List ℕ) (v sort : ℕ) (f : Formula) (old mid new : Clauses.Formula) (parts : List Bit) (result : Result Bit Spent) → length (row_at (rows_of frame.used) sort) ≡ get_or frame.slots.items sort 0 → Extends old mid → HaveValues (AreSlotValues P frame picture binding v sort f false (get_or frame.slots.items sort 0)) mid parts → Defines mid new result (any_value parts) → Grounds P frame picture binding (existential v sort f) old new result
for_some_grounds P frame picture binding v sort f old mid new parts result long e h d =
    let n = get_or frame.slots.items sort 0 in
    finds_after (IsValue P frame picture binding (existential v sort f)) old mid new result e
    (finds_any (AreSlotValues P frame picture binding v sort f false n) (IsValue P frame picture binding (existential v sort f)) mid new parts result
    (λ bits value is.
    let env = environment binding is.arguments is.choices in
    let size = size_of is.structure sort in
    let test : ℕ → Bool = λ e. value_of is.structure (bind env v e) f in
    record {
      values = map (slot_value false size test) (numbers_below n);
      are = record { scope = is.scope; structure = is.structure; arguments = is.arguments; choices = is.choices; known = is.sorted.0; sorted = is.sorted.1; sees = is.sees; are = refl };
      is = is.is ∙ sym (any_numbers n (slot_value false size test) ∙ some_slot n size test (within P frame picture bits is.scope is.structure env sort long is.sorted.0 is.sees));
    })
    h d)

-- binding again what is bound in a list that differs there alone
pub set_back : (now first new : List ℕ) (v e before : ℕ) → set now v before ≡ first → new ≡ set now v e → set new v before ≡ first
set_back now first new v e before back is = ap (λ xs. set xs v before) is ∙ (set-set now v e before ∙ back)

other_bound : (now first : List ℕ) (v e before w : ℕ) (same : Bool) → nat_eq w v ≡ same → set now v before ≡ first → (if same then e else get_or now w 0) ≡ (if same then e else get_or first w 0)
other_bound now first v e before w true test back = refl
other_bound now first v e before w false test back =
    let k : w ≢ v = grind (arith, nat_tests) in
    sym (get_or-set_other now v w before 0 k) ∙ ap (λ xs. get_or xs w 0) back

pub bind_back : (now first : List ℕ) (v e before : ℕ) (arguments choices : List ℕ) → set now v before ≡ first → bind (environment now arguments choices) v e ≡ bind (environment first arguments choices) v e
bind_back now first v e before arguments choices back = λ i. record { variables = λ w. other_bound now first v e before w (nat_eq w v) refl back i; parameters = arguments; choices = choices }

-- the body where the variable stands for a slot
pub body_in : (P : Protocol) (frame : Frame) (picture : Picture) (m n : ℕ) (first now new : List ℕ) (v sort slot before : ℕ) (f : Formula) → m ≤ n → set now v before ≡ first → new ≡ set now v slot → get_or new v 0 ≡ slot → slot < get_or frame.slots.items sort 0 → IsBodyIn P frame picture m first v sort f → IsFormulaIn P frame picture n new f
body_in P frame picture m n first now new v sort slot before f le back is at below h =
    let kept = placed_kept P frame picture m n first h.scope le h.placed in
    record {
      scope = with_variable h.scope v sort;
      placed = record {
        parameters = kept.parameters;
        choices = kept.choices;
        drawn = kept.drawn;
        pictured = kept.pictured;
        named = kept.named;
        chosen = kept.chosen;
        bound = λ w t in'. here w t (nat_eq w v) refl in';
      };
      sorted = h.sorted;
    }
  where
    here : (w t : ℕ) (same : Bool) → nat_eq w v ≡ same → (if same then Some sort else h.scope.variables w) ≡ Some t → get_or new w 0 < get_or frame.slots.items t 0
    here w t true test in' =
        let k : w ≡ v = grind (arith, nat_tests) in
        let same : sort ≡ t = cc in
        subst (λ u. get_or new w 0 < get_or frame.slots.items u 0) same (subst (λ x. x < get_or frame.slots.items sort 0) (sym (ap (λ u. get_or new u 0) k ∙ at)) below)
    here w t false test in' =
        let k : w ≢ v = grind (arith, nat_tests) in
        let old : get_or new w 0 ≡ get_or first w 0 = ap (λ xs. get_or xs w 0) is ∙ (get_or-set_other now v w slot 0 k ∙ (sym (get_or-set_other now v w before 0 k) ∙ ap (λ xs. get_or xs w 0) back)) in
        subst (λ x. x < get_or frame.slots.items t 0) (sym old) (h.placed.bound w t in')

-- the value at one slot
pub record IsSlotValue (P : Protocol) (frame : Frame) (picture : Picture) (binding : List ℕ) (v sort : ℕ) (f : Formula) (neutral : Bool) (slot : ℕ) (bits : List Bool) (value : Bool) : Type 0 where
  pub scope : Scope
  pub structure : Structure
  pub arguments : List ℕ
  pub choices : List ℕ
  pub known : sort < length P.sorts
  pub sorted : IsWellSorted P (with_variable scope v sort) f
  pub sees : Sees P frame picture bits scope structure (environment binding arguments choices)
  pub is : value ≡ slot_value neutral (size_of structure sort) (λ e. value_of structure (bind (environment binding arguments choices) v e) f) slot

fits_more : (scope : Scope) (sizes : List ℕ) (env : Environment) (v e sort : ℕ) → e < get_or sizes sort 0 → EnvironmentFits scope sizes env → EnvironmentFits (with_variable scope v sort) sizes (bind env v e)
fits_more scope sizes env v e sort below fits = record {
  variables = λ w t h. here w t (nat_eq w v) h;
  parameters = fits.parameters;
  choices = fits.choices;
}
  where
    here : (w t : ℕ) (b : Bool) → (if b then Some sort else scope.variables w) ≡ Some t → (if b then e else env.variables w) < get_or sizes t 0
    here w t true h = let k : sort ≡ t = cc in subst (λ x. e < get_or sizes x 0) k below
    here w t false h = fits.variables w t h

sees_more : (P : Protocol) (frame : Frame) (picture : Picture) (bits : List Bool) (scope : Scope) (s : Structure) (first new : List ℕ) (v sort slot : ℕ) (arguments choices : List ℕ) → environment new arguments choices ≡ bind (environment first arguments choices) v slot → slot < size_of s sort → Sees P frame picture bits scope s (environment first arguments choices) → Sees P frame picture bits (with_variable scope v sort) s (environment new arguments choices)
sees_more P frame picture bits scope s first new v sort slot arguments choices is below sees = record {
  shows = sees.shows;
  parameters = sees.parameters;
  choices = sees.choices;
  fits = subst (EnvironmentFits (with_variable scope v sort) s.sizes) (sym is) (fits_more scope s.sizes (environment first arguments choices) v slot sort below sees.fits);
}

pub slot_bit : (P : Protocol) (frame : Frame) (picture : Picture) (first new : List ℕ) (v sort slot : ℕ) (f : Formula) (neutral : Bool) (mid g : Clauses.Formula) (value bit : Bit) → slot < length (row_at (rows_of frame.used) sort) → ((arguments choices : List ℕ) → environment new arguments choices ≡ bind (environment first arguments choices) v slot) → HasValue (IsValue P frame picture new f) mid value → Extends mid g → IsBitFor g (λ bits. if bit_value bits (bit_at (row_at (rows_of frame.used) sort) slot) then bit_value bits value else neutral) bit → HasValue (IsSlotValue P frame picture first v sort f neutral slot) g bit
slot_bit P frame picture first new v sort slot f neutral mid g value bit inside bound h e d = record {
  below = d.below;
  same = λ bits v' met is.
      let used = (is.sees.shows.sizes sort is.known).front slot inside in
      d.same bits met
      ∙ (ap (λ b. if b then bit_value bits value else neutral) used
      ∙ (here bits (e.keeps bits met) is.scope is.structure is.arguments is.choices is.sorted is.sees (nat_lt slot (size_of is.structure sort)) refl ∙ sym is.is));
}
  where
    here : (bits : List Bool) → Clauses.AreMetBy mid bits → (scope : Scope) (s : Structure) (arguments choices : List ℕ) → IsWellSorted P (with_variable scope v sort) f → Sees P frame picture bits scope s (environment first arguments choices) → (b : Bool) → nat_lt slot (size_of s sort) ≡ b → (if b then bit_value bits value else neutral) ≡ (if b then value_of s (bind (environment first arguments choices) v slot) f else neutral)
    here bits met scope s arguments choices sorted sees true test =
        let below : slot < size_of s sort = grind (arith, nat_tests) in
        h.same bits (value_of s (environment new arguments choices) f) met (record { scope = with_variable scope v sort; structure = s; arguments = arguments; choices = choices; sorted = sorted; sees = sees_more P frame picture bits scope s first new v sort slot arguments choices (bound arguments choices) below sees; is = refl })
        ∙ ap (λ env. value_of s env f) (bound arguments choices)
    here bits met scope s arguments choices sorted sees false test = refl

pub slots_none : (P : Protocol) (frame : Frame) (picture : Picture) (binding : List ℕ) (v sort : ℕ) (f : Formula) (neutral : Bool) (g : Clauses.Formula) → HaveValues (AreSlotValues P frame picture binding v sort f neutral 0) g []
slots_none P frame picture binding v sort f neutral g = have_none (AreSlotValues P frame picture binding v sort f neutral 0) g (λ bits values are. are.are)

pub slots_more : (P : Protocol) (frame : Frame) (picture : Picture) (binding : List ℕ) (v sort : ℕ) (f : Formula) (neutral : Bool) (n : ℕ) (g : Clauses.Formula) (parts : List Bit) (bit : Bit) → HaveValues (AreSlotValues P frame picture binding v sort f neutral n) g parts → HasValue (IsSlotValue P frame picture binding v sort f neutral n) g bit → HaveValues (AreSlotValues P frame picture binding v sort f neutral (n + 1)) g (parts ++ bit ∷ [])
slots_more P frame picture binding v sort f neutral n g parts bit h b =
    have_other (IsMore (AreSlotValues P frame picture binding v sort f neutral n) (IsSlotValue P frame picture binding v sort f neutral n)) (AreSlotValues P frame picture binding v sort f neutral (n + 1)) g (parts ++ bit ∷ [])
    (λ bits values are.
    let value : ℕ → Bool = slot_value neutral (size_of are.structure sort) (λ e. value_of are.structure (bind (environment binding are.arguments are.choices) v e) f) in
    record {
      front = map value (numbers_below n);
      last = value n;
      are = record { scope = are.scope; structure = are.structure; arguments = are.arguments; choices = are.choices; known = are.known; sorted = are.sorted; sees = are.sees; are = refl };
      is = record { scope = are.scope; structure = are.structure; arguments = are.arguments; choices = are.choices; known = are.known; sorted = are.sorted; sees = are.sees; is = refl };
      all = are.are ∙ (ap (λ m. map value (numbers_below m)) (let e : n + 1 ≡ suc n = omega arith in e) ∙ map-append value (numbers_below n) (n ∷ []));
    })
    (have_more (AreSlotValues P frame picture binding v sort f neutral n) (IsSlotValue P frame picture binding v sort f neutral n) g parts bit h b)

pub slots_all : (P : Protocol) (frame : Frame) (picture : Picture) (binding : List ℕ) (v sort : ℕ) (f : Formula) (neutral : Bool) (m n : ℕ) (g : Clauses.Formula) (parts : List Bit) → m ≡ n → HaveValues (AreSlotValues P frame picture binding v sort f neutral m) g parts → HaveValues (AreSlotValues P frame picture binding v sort f neutral n) g parts
slots_all P frame picture binding v sort f neutral m n g parts e h = subst (λ k. HaveValues (AreSlotValues P frame picture binding v sort f neutral k) g parts) e h
