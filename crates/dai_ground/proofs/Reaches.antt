-- Updates of relations at one tuple of slots.
use Rattle.std.proofs.Common.{◌≡◌, ◌+◌, ◌<◌, ◌&&◌, ℕ, zero, suc, Bool, true, false, List, [], ◌∷◌, ◌++◌, length, get_or, take, map, refl, ap, sym, ◌∙◌, subst, arith, Some, slice_get, Result, Ok, Err}
use Rattle.std.specs.Prelude.{nat_eq, nat_lt, if◌then◌else◌}
use Rattle.std.proofs.lemmas.List.{take_more, length-take-le}
use Rattle.std.proofs.lemmas.List.Elements.{All-cons}
use Rattle.dai_base.specs.declared.memory.Spent.{Spent}
use Rattle.dai_model.specs.Protocol.{Protocol}
use Rattle.dai_model.specs.Structure.{Structure, is_tuple}
use Rattle.dai_model.specs.Formula.{Term, variable, individual, parameter, choice, Formula}
use Rattle.dai_model.specs.Value.{Environment, environment_of, bind, value_of, value_of_term}
use Rattle.dai_model.specs.Execution.{matches, bind_target}
use Rattle.dai_model.specs.WellSorted.{Scope, sort_of, HasSort, HaveSorts, target_scope, with_variable}
use Rattle.dai_model.proofs.Typed.{and_left, and_right}
use Rattle.dai_trail.specs.Formula as Clauses
use Rattle.dai_trail.specs.Formula.{AreMetBy}
use Rattle.dai_circuit.specs.declared.bit.Bit.{Bit}
use Rattle.dai_circuit.specs.declared.bit.Bit.TheVariants.{Known}
use Rattle.dai_circuit.specs.Circuits.{bit_value, IsBitBelow, AreBitsBelow, Defines, all_value}
use Rattle.dai_logic.proofs.Tuples.{lt_from_test, tuple_length, sort_at}
use Rattle.dai_picture.specs.declared.picture.Frame.{Frame}
use Rattle.dai_picture.specs.declared.picture.Picture.{Picture}
use Rattle.dai_picture.specs.Pictures.{bit_at}
use Rattle.dai_ground.specs.Grounding.{environment, IsPlaced, IsFormulaIn, Sees, IsValue, Grounds}
use Rattle.dai_ground.specs.Findings.{Finds}
use Rattle.dai_ground.specs.Leaving.{no_binding, IsFree, standing, IsFixed, IsFixedIn}
use Rattle.dai_ground.specs.Updating.{IsUpdateIn, IsTargetTerm, match_bit, match_bits, IsSeenAt, matches_at, value_there}
use Rattle.dai_ground.proofs.Findings.{finds_other}
use Rattle.dai_ground.proofs.Leavings.{alone, standing_is}

-- the same parameters and choices
pub record AreNamedAlike (inner scope : Scope) : Type 0 where
  pub parameters : inner.parameters ≡ scope.parameters
  pub choices : inner.choices ≡ scope.choices

-- a target changes the types of variables alone
pub target_alike : (scope : Scope) (ts : List Term) (sorts : List ℕ) → AreNamedAlike (target_scope scope ts sorts) scope
target_alike scope [] sorts = record { parameters = refl; choices = refl }
target_alike scope (t ∷ ts) [] = record { parameters = refl; choices = refl }
target_alike scope (variable v ∷ ts) (sort ∷ sorts) = let h = target_alike (with_variable scope v sort) ts sorts in record { parameters = h.parameters; choices = h.choices }
target_alike scope (individual i ∷ ts) (sort ∷ sorts) = target_alike scope ts sorts
target_alike scope (parameter p ∷ ts) (sort ∷ sorts) = target_alike scope ts sorts
target_alike scope (choice c ∷ ts) (sort ∷ sorts) = target_alike scope ts sorts

-- a term that is no variable has its type in any scope with the same names
fixed_sort : (P : Protocol) (inner scope : Scope) (t : Term) (sort : ℕ) → AreNamedAlike inner scope → IsFixed t → HasSort P inner t sort → HasSort P scope t sort
fixed_sort P inner scope (variable v) sort alike fixed has = absurd (fixed v refl)
fixed_sort P inner scope (individual i) sort alike fixed has = has
fixed_sort P inner scope (parameter p) sort alike fixed has = ap (λ (xs : List ℕ). slice_get xs p) (sym alike.parameters) ∙ has
fixed_sort P inner scope (choice c) sort alike fixed has = ap (λ (xs : List ℕ). slice_get xs c) (sym alike.choices) ∙ has

terms_length : (P : Protocol) (scope : Scope) (ts : List Term) (sorts : List ℕ) → HaveSorts P scope ts sorts → length ts ≡ length sorts
terms_length P scope [] [] h = refl
terms_length P scope [] (sort ∷ sorts) h = absurd (let k : ⊥ = cc in k)
terms_length P scope (t ∷ ts) [] h = absurd (let k : ⊥ = cc in k)
terms_length P scope (t ∷ ts) (sort ∷ sorts) h = ap suc (terms_length P scope ts sorts (let k : map (sort_of P scope) ts ≡ map Some sorts = cc in k))

-- a target is as long as a tuple of its types
pub target_length : (P : Protocol) (frame : Frame) (picture : Picture) (count : ℕ) (ts : List Term) (sorts es : List ℕ) (f : Formula) → IsUpdateIn P frame picture count ts sorts f → is_tuple frame.slots.items sorts es ≡ true → length ts ≡ length es
target_length P frame picture count ts sorts es f u tuple = terms_length P (target_scope u.scope ts sorts) ts sorts u.terms ∙ sym (tuple_length frame.slots.items sorts es tuple)

element_inside : (sizes sorts es : List ℕ) (k : ℕ) → is_tuple sizes sorts es ≡ true → k < length es → get_or es k 0 < get_or sizes (get_or sorts k 0) 0
element_inside sizes [] [] k tuple below = absurd (omega arith)
element_inside sizes [] (e ∷ es) k tuple below = absurd (let n : ⊥ = cc in n)
element_inside sizes (sort ∷ sorts) [] k tuple below = absurd (let n : ⊥ = cc in n)
element_inside sizes (sort ∷ sorts) (e ∷ es) zero tuple below = lt_from_test e (get_or sizes sort 0) (and_left _ _ tuple)
element_inside sizes (sort ∷ sorts) (e ∷ es) (suc k) tuple below = element_inside sizes sorts es k (and_right (nat_lt e (get_or sizes sort 0)) _ tuple) (omega arith)

fixed_in : (P : Protocol) (frame : Frame) (picture : Picture) (count : ℕ) (inner scope : Scope) (t : Term) (sort : ℕ) → IsPlaced P frame picture count no_binding scope → AreNamedAlike inner scope → HasSort P inner t sort → IsFixed t → IsFixedIn P frame picture count t sort
fixed_in P frame picture count inner scope t sort placed alike has fixed = record { binding = no_binding; scope = scope; placed = placed; sorted = fixed_sort P inner scope t sort alike fixed has; fixed = fixed }

-- the term at a place, and the slot there
pub target_term : (P : Protocol) (frame : Frame) (picture : Picture) (count : ℕ) (ts : List Term) (sorts es : List ℕ) (f : Formula) (k : ℕ) (d : Term) → IsUpdateIn P frame picture count ts sorts f → is_tuple frame.slots.items sorts es ≡ true → k < length ts → IsTargetTerm P frame picture count (get_or ts k d) (get_or sorts k 0) (get_or es k 0)
target_term P frame picture count ts sorts es f k d u tuple below =
    let long = target_length P frame picture count ts sorts es f u tuple in
    let inner = target_scope u.scope ts sorts in
    record {
      fixed = fixed_in P frame picture count inner u.scope (get_or ts k d) (get_or sorts k 0) u.placed (target_alike u.scope ts sorts) (sort_at P inner ts sorts k d u.terms below);
      inside = element_inside frame.slots.items sorts es k tuple (omega arith);
    }

pub target_inside : (P : Protocol) (frame : Frame) (picture : Picture) (count : ℕ) (t : Term) (sort slot : ℕ) → IsTargetTerm P frame picture count t sort slot → IsFixed t → slot < length (standing frame picture t)
target_inside P frame picture count t sort slot h fixed =
    let is = h.fixed fixed in
    let long = (standing_is P frame picture count is.binding is.scope t sort is.placed is.sorted fixed).long in
    let below = h.inside in
    omega arith

match_push : (frame : Frame) (picture : Picture) (ts : List Term) (es : List ℕ) (t : Term) (e : ℕ) → length ts ≡ length es → match_bits frame picture (ts ++ t ∷ []) (es ++ e ∷ []) ≡ match_bits frame picture ts es ++ match_bit frame picture t e ∷ []
match_push frame picture [] [] t e h = refl
match_push frame picture [] (x ∷ es) t e h = absurd (omega arith)
match_push frame picture (u ∷ ts) [] t e h = absurd (omega arith)
match_push frame picture (u ∷ ts) (x ∷ es) t e h = ap (λ bs. match_bit frame picture u x ∷ bs) (match_push frame picture ts es t e (omega arith))

pub match_more : (frame : Frame) (picture : Picture) (ts : List Term) (es : List ℕ) (k : ℕ) (d : Term) → length ts ≡ length es → k < length ts → match_bits frame picture (take (k + 1) ts) (take (k + 1) es) ≡ match_bits frame picture (take k ts) (take k es) ++ match_bit frame picture (get_or ts k d) (get_or es k 0) ∷ []
match_more frame picture ts es k d long below =
    let a = length-take-le k ts (omega arith) in
    let b = length-take-le k es (omega arith) in
    (λ i. match_bits frame picture (take_more ts k d below i) (take_more es k 0 (omega arith) i))
    ∙ match_push frame picture (take k ts) (take k es) (get_or ts k d) (get_or es k 0) (omega arith)

-- the bits are over the clauses' variables
bit_below : (count : ℕ) (row : List Bit) (place : ℕ) → place < length row → AreBitsBelow count row → IsBitBelow count (bit_at row place)
bit_below count row place inside below = below place (Known false) inside

match_below : (P : Protocol) (frame : Frame) (picture : Picture) (count : ℕ) (inner scope : Scope) (t : Term) (sort slot : ℕ) → IsPlaced P frame picture count no_binding scope → AreNamedAlike inner scope → HasSort P inner t sort → slot < get_or frame.slots.items sort 0 → IsBitBelow count (match_bit frame picture t slot)
match_below P frame picture count inner scope (variable v) sort slot placed alike has inside = tt
match_below P frame picture count inner scope (individual i) sort slot placed alike has inside =
    let fixed : IsFixed (individual i) = λ v e. cc in
    let is = standing_is P frame picture count no_binding scope (individual i) sort placed (fixed_sort P inner scope (individual i) sort alike fixed has) fixed in
    let long = is.long in
    bit_below count (standing frame picture (individual i)) slot (omega arith) is.below
match_below P frame picture count inner scope (parameter p) sort slot placed alike has inside =
    let fixed : IsFixed (parameter p) = λ v e. cc in
    let is = standing_is P frame picture count no_binding scope (parameter p) sort placed (fixed_sort P inner scope (parameter p) sort alike fixed has) fixed in
    let long = is.long in
    bit_below count (standing frame picture (parameter p)) slot (omega arith) is.below
match_below P frame picture count inner scope (choice c) sort slot placed alike has inside =
    let fixed : IsFixed (choice c) = λ v e. cc in
    let is = standing_is P frame picture count no_binding scope (choice c) sort placed (fixed_sort P inner scope (choice c) sort alike fixed has) fixed in
    let long = is.long in
    bit_below count (standing frame picture (choice c)) slot (omega arith) is.below

bits_below : (P : Protocol) (frame : Frame) (picture : Picture) (count : ℕ) (inner scope : Scope) (ts : List Term) (sorts es : List ℕ) → IsPlaced P frame picture count no_binding scope → AreNamedAlike inner scope → HaveSorts P inner ts sorts → is_tuple frame.slots.items sorts es ≡ true → AreBitsBelow count (match_bits frame picture ts es)
bits_below P frame picture count inner scope [] sorts es placed alike have tuple = λ k d l. absurd (omega arith)
bits_below P frame picture count inner scope (t ∷ ts) sorts [] placed alike have tuple = λ k d l. absurd (omega arith)
bits_below P frame picture count inner scope (t ∷ ts) [] (e ∷ es) placed alike have tuple = absurd (let n : ⊥ = cc in n)
bits_below P frame picture count inner scope (t ∷ ts) (sort ∷ sorts) (e ∷ es) placed alike have tuple =
    All-cons (IsBitBelow count) (match_bit frame picture t e) (match_bits frame picture ts es)
    (match_below P frame picture count inner scope t sort e placed alike (let h : sort_of P inner t ≡ Some sort = cc in h) (lt_from_test e (get_or frame.slots.items sort 0) (and_left _ _ tuple)))
    (bits_below P frame picture count inner scope ts sorts es placed alike (let h : map (sort_of P inner) ts ≡ map Some sorts = cc in h) (and_right (nat_lt e (get_or frame.slots.items sort 0)) _ tuple))

pub target_below : (P : Protocol) (frame : Frame) (picture : Picture) (count : ℕ) (ts : List Term) (sorts es : List ℕ) (f : Formula) → IsUpdateIn P frame picture count ts sorts f → is_tuple frame.slots.items sorts es ≡ true → AreBitsBelow count (match_bits frame picture ts es)
target_below P frame picture count ts sorts es f u tuple = bits_below P frame picture count (target_scope u.scope ts sorts) u.scope ts sorts es u.placed (target_alike u.scope ts sorts) u.terms tuple

-- what the update gives and what is seen of it
pub record IsSeenBoth (P : Protocol) (frame : Frame) (picture : Picture) (count : ℕ) (inner scope outer other : Scope) (bits : List Bool) (s : Structure) (env : Environment) : Type 0 where
  pub placed : IsPlaced P frame picture count no_binding scope
  pub alike : AreNamedAlike inner scope
  pub also : AreNamedAlike outer other
  pub sees : Sees P frame picture bits other s env

fixed_value : (P : Protocol) (frame : Frame) (picture : Picture) (count : ℕ) (inner scope outer other : Scope) (bits : List Bool) (s : Structure) (env : Environment) (t : Term) (sort slot : ℕ) → IsSeenBoth P frame picture count inner scope outer other bits s env → IsFixed t → HasSort P inner t sort → HasSort P outer t sort → slot < get_or frame.slots.items sort 0 → bit_value bits (bit_at (standing frame picture t) slot) ≡ nat_eq slot (value_of_term s env t)
fixed_value P frame picture count inner scope outer other bits s env t sort slot b fixed has also inside =
    let is = standing_is P frame picture count no_binding scope t sort b.placed (fixed_sort P inner scope t sort b.alike fixed has) fixed in
    let long = is.long in
    (is.marks bits other sort s env (fixed_sort P outer other t sort b.also fixed also) b.sees).marks slot (omega arith)

bits_match : (P : Protocol) (frame : Frame) (picture : Picture) (count : ℕ) (inner scope outer other : Scope) (bits : List Bool) (s : Structure) (env : Environment) (ts : List Term) (sorts es : List ℕ) → IsSeenBoth P frame picture count inner scope outer other bits s env → HaveSorts P inner ts sorts → HaveSorts P outer ts sorts → is_tuple frame.slots.items sorts es ≡ true → all_value (match_bits frame picture ts es) bits ≡ matches s env ts es
bits_match P frame picture count inner scope outer other bits s env [] sorts es b have also tuple = refl
bits_match P frame picture count inner scope outer other bits s env (t ∷ ts) sorts [] b have also tuple = refl
bits_match P frame picture count inner scope outer other bits s env (t ∷ ts) [] (e ∷ es) b have also tuple = absurd (let n : ⊥ = cc in n)
bits_match P frame picture count inner scope outer other bits s env (variable v ∷ ts) (sort ∷ sorts) (e ∷ es) b have also tuple =
    bits_match P frame picture count inner scope outer other bits s env ts sorts es b (let h : map (sort_of P inner) ts ≡ map Some sorts = cc in h) (let h : map (sort_of P outer) ts ≡ map Some sorts = cc in h) (and_right (nat_lt e (get_or frame.slots.items sort 0)) _ tuple)
bits_match P frame picture count inner scope outer other bits s env (individual j ∷ ts) (sort ∷ sorts) (e ∷ es) b have also tuple =
    let one = fixed_value P frame picture count inner scope outer other bits s env (individual j) sort e b (λ v h. cc) (let h : sort_of P inner (individual j) ≡ Some sort = cc in h) (let h : sort_of P outer (individual j) ≡ Some sort = cc in h) (lt_from_test e (get_or frame.slots.items sort 0) (and_left _ _ tuple)) in
    let rest = bits_match P frame picture count inner scope outer other bits s env ts sorts es b (let h : map (sort_of P inner) ts ≡ map Some sorts = cc in h) (let h : map (sort_of P outer) ts ≡ map Some sorts = cc in h) (and_right (nat_lt e (get_or frame.slots.items sort 0)) _ tuple) in
    λ i. one i && rest i
bits_match P frame picture count inner scope outer other bits s env (parameter p ∷ ts) (sort ∷ sorts) (e ∷ es) b have also tuple =
    let one = fixed_value P frame picture count inner scope outer other bits s env (parameter p) sort e b (λ v h. cc) (let h : sort_of P inner (parameter p) ≡ Some sort = cc in h) (let h : sort_of P outer (parameter p) ≡ Some sort = cc in h) (lt_from_test e (get_or frame.slots.items sort 0) (and_left _ _ tuple)) in
    let rest = bits_match P frame picture count inner scope outer other bits s env ts sorts es b (let h : map (sort_of P inner) ts ≡ map Some sorts = cc in h) (let h : map (sort_of P outer) ts ≡ map Some sorts = cc in h) (and_right (nat_lt e (get_or frame.slots.items sort 0)) _ tuple) in
    λ i. one i && rest i
bits_match P frame picture count inner scope outer other bits s env (choice c ∷ ts) (sort ∷ sorts) (e ∷ es) b have also tuple =
    let one = fixed_value P frame picture count inner scope outer other bits s env (choice c) sort e b (λ v h. cc) (let h : sort_of P inner (choice c) ≡ Some sort = cc in h) (let h : sort_of P outer (choice c) ≡ Some sort = cc in h) (lt_from_test e (get_or frame.slots.items sort 0) (and_left _ _ tuple)) in
    let rest = bits_match P frame picture count inner scope outer other bits s env ts sorts es b (let h : map (sort_of P inner) ts ≡ map Some sorts = cc in h) (let h : map (sort_of P outer) ts ≡ map Some sorts = cc in h) (and_right (nat_lt e (get_or frame.slots.items sort 0)) _ tuple) in
    λ i. one i && rest i

pub matching_finds : (P : Protocol) (frame : Frame) (picture : Picture) (ts : List Term) (sorts es : List ℕ) (f : Formula) (old new : Clauses.Formula) (parts : List Bit) (result : Result Bit Spent) → IsUpdateIn P frame picture old.vars ts sorts f → is_tuple frame.slots.items sorts es ≡ true → parts ≡ match_bits frame picture ts es → Defines old new result (all_value parts) → Finds (IsSeenAt P frame picture ts sorts f es (matches_at ts es)) old new result
matching_finds P frame picture ts sorts es f old new parts (Err x) u tuple e d = record { extends = d.extends; answer = d.answer }
matching_finds P frame picture ts sorts es f old new parts (Ok bit) u tuple e d = record {
  extends = d.extends;
  answer = record {
    below = d.answer.below;
    same = λ bits value met is.
        d.answer.same bits met
        ∙ (ap (λ (ps : List Bit). all_value ps bits) e
        ∙ (bits_match P frame picture old.vars (target_scope u.scope ts sorts) u.scope (target_scope is.scope ts sorts) is.scope bits is.structure (environment_of is.arguments is.choices) ts sorts es (record { placed = u.placed; alike = target_alike u.scope ts sorts; also = target_alike is.scope ts sorts; sees = is.sees }) u.terms is.terms tuple
        ∙ sym is.is));
  };
}

-- what the target's variables stand for are elements of their types
bound_below : (sizes : List ℕ) (scope : Scope) (env : Environment) (v sort e : ℕ) → e < get_or sizes sort 0 → ((w type : ℕ) → scope.variables w ≡ Some type → env.variables w < get_or sizes type 0) → (w type : ℕ) → (with_variable scope v sort).variables w ≡ Some type → (bind env v e).variables w < get_or sizes type 0
bound_below sizes scope env v sort e below base w type = at (nat_eq w v)
  where
    at : (b : Bool) → (if b then Some sort else scope.variables w) ≡ Some type → (if b then e else env.variables w) < get_or sizes type 0
    at true h = let k : sort ≡ type = cc in subst (λ n. e < get_or sizes n 0) k below
    at false h = base w type h

pub target_variables : (sizes : List ℕ) (scope : Scope) (env : Environment) (ts : List Term) (sorts es : List ℕ) → is_tuple sizes sorts es ≡ true → ((w type : ℕ) → scope.variables w ≡ Some type → env.variables w < get_or sizes type 0) → (w type : ℕ) → (target_scope scope ts sorts).variables w ≡ Some type → (bind_target env ts es).variables w < get_or sizes type 0
target_variables sizes scope env [] sorts es tuple base = base
target_variables sizes scope env (t ∷ ts) [] [] tuple base = base
target_variables sizes scope env (t ∷ ts) [] (e ∷ es) tuple base = absurd (let n : ⊥ = cc in n)
target_variables sizes scope env (t ∷ ts) (sort ∷ sorts) [] tuple base = absurd (let n : ⊥ = cc in n)
target_variables sizes scope env (variable v ∷ ts) (sort ∷ sorts) (e ∷ es) tuple base =
    target_variables sizes (with_variable scope v sort) (bind env v e) ts sorts es (and_right (nat_lt e (get_or sizes sort 0)) _ tuple)
    (bound_below sizes scope env v sort e (lt_from_test e (get_or sizes sort 0) (and_left _ _ tuple)) base)
target_variables sizes scope env (individual i ∷ ts) (sort ∷ sorts) (e ∷ es) tuple base = target_variables sizes scope env ts sorts es (and_right (nat_lt e (get_or sizes sort 0)) _ tuple) base
target_variables sizes scope env (parameter p ∷ ts) (sort ∷ sorts) (e ∷ es) tuple base = target_variables sizes scope env ts sorts es (and_right (nat_lt e (get_or sizes sort 0)) _ tuple) base
target_variables sizes scope env (choice c ∷ ts) (sort ∷ sorts) (e ∷ es) tuple base = target_variables sizes scope env ts sorts es (and_right (nat_lt e (get_or sizes sort 0)) _ tuple) base

no_variable : (scope : Scope) (sizes : List ℕ) (env : Environment) → IsFree scope → (w type : ℕ) → scope.variables w ≡ Some type → env.variables w < get_or sizes type 0
no_variable scope sizes env free w type h = absurd (let a = free w in let k : ⊥ = cc in k)

-- the variables of the target are bound
abbrev pub IsBoundTo : List ℕ → List Term → List ℕ → Type 0
IsBoundTo binding ts es = (arguments choices : List ℕ) → environment binding arguments choices ≡ bind_target (environment no_binding arguments choices) ts es

bound_variables : (binding : List ℕ) (sizes : List ℕ) (scope : Scope) (ts : List Term) (sorts es : List ℕ) → IsBoundTo binding ts es → IsFree scope → is_tuple sizes sorts es ≡ true → (w type : ℕ) → (target_scope scope ts sorts).variables w ≡ Some type → get_or binding w 0 < get_or sizes type 0
bound_variables binding sizes scope ts sorts es bound free tuple w type h =
    subst (λ (env : Environment). env.variables w < get_or sizes type 0) (sym (bound [] []))
    (target_variables sizes scope (environment no_binding [] []) ts sorts es tuple (no_variable scope sizes (environment no_binding [] []) free) w type h)

pub body_in : (P : Protocol) (frame : Frame) (picture : Picture) (count : ℕ) (binding : List ℕ) (ts : List Term) (sorts es : List ℕ) (f : Formula) → IsUpdateIn P frame picture count ts sorts f → is_tuple frame.slots.items sorts es ≡ true → IsBoundTo binding ts es → IsFormulaIn P frame picture count binding f
body_in P frame picture count binding ts sorts es f u tuple bound =
    let inner = target_scope u.scope ts sorts in
    let alike = target_alike u.scope ts sorts in
    record {
      scope = inner;
      placed = record {
        parameters = u.placed.parameters;
        choices = u.placed.choices;
        drawn = u.placed.drawn;
        pictured = u.placed.pictured;
        named = λ p sort h. u.placed.named p sort (ap (λ (xs : List ℕ). slice_get xs p) (sym alike.parameters) ∙ h);
        chosen = λ c sort h. u.placed.chosen c sort (ap (λ (xs : List ℕ). slice_get xs c) (sym alike.choices) ∙ h);
        bound = bound_variables binding frame.slots.items u.scope ts sorts es bound u.free tuple;
      };
      sorted = u.body;
    }

pub body_finds : (P : Protocol) (frame : Frame) (picture : Picture) (binding : List ℕ) (ts : List Term) (sorts es : List ℕ) (f : Formula) (old new : Clauses.Formula) (result : Result Bit Spent) → IsBoundTo binding ts es → Grounds P frame picture binding f old new result → Finds (IsSeenAt P frame picture ts sorts f es (value_there ts es f)) old new result
body_finds P frame picture binding ts sorts es f old new result bound grounds =
    finds_other (IsValue P frame picture binding f) (IsSeenAt P frame picture ts sorts f es (value_there ts es f)) old new result
    (λ bits value is.
    let inner = target_scope is.scope ts sorts in
    let alike = target_alike is.scope ts sorts in
    record {
      scope = inner;
      structure = is.structure;
      arguments = is.arguments;
      choices = is.choices;
      sorted = is.body;
      sees = record {
        shows = is.sees.shows;
        parameters = λ p sort h. is.sees.parameters p sort (ap (λ (xs : List ℕ). slice_get xs p) (sym alike.parameters) ∙ h);
        choices = λ c sort h. is.sees.choices c sort (ap (λ (xs : List ℕ). slice_get xs c) (sym alike.choices) ∙ h);
        fits = record {
          variables = bound_variables binding is.structure.sizes is.scope ts sorts es bound is.free is.tuple;
          parameters = λ p sort h. is.sees.fits.parameters p sort (ap (λ (xs : List ℕ). slice_get xs p) (sym alike.parameters) ∙ h);
          choices = λ c sort h. is.sees.fits.choices c sort (ap (λ (xs : List ℕ). slice_get xs c) (sym alike.choices) ∙ h);
        };
      };
      is = is.is ∙ ap (λ (env : Environment). value_of is.structure env f) (sym (bound is.arguments is.choices ∙ ap (λ (env : Environment). bind_target env ts es) (alone is.arguments is.choices)));
    })
    grounds
