-- The bits of formulas have the formulas' values.
use Rattle.std.proofs.Common.{◌≡◌, ◌+◌, ◌<◌, ◌≤◌, ◌&&◌, ◌||◌, ℕ, zero, suc, Bool, true, false, not, List, [], ◌∷◌, ◌++◌, length, get_or, take, map, refl, ap, sym, ◌∙◌, subst, arith, Result, Ok}
use Rattle.std.specs.List.{list_all, list_any}
use Rattle.std.proofs.lemmas.List.{map-append, take_more}
use Rattle.dai_base.specs.declared.memory.Spent.{Spent}
use Rattle.dai_model.specs.Protocol.{Protocol}
use Rattle.dai_model.specs.Formula as Model
use Rattle.dai_model.specs.Formula.{Formulas, negation, conjunction, disjunction, implication, equivalence, universal, existential, no_formulas, with_formula}
use Rattle.dai_model.specs.Structure.{Structure}
use Rattle.dai_model.specs.Value.{Environment, implies, agree, value_of, all_hold, some_holds, all_agree}
use Rattle.dai_model.specs.WellSorted.{Scope, IsWellSorted, AreWellSorted}
use Rattle.dai_logic.specs.declared.protocol.Formula.{Formula}
use Rattle.dai_logic.specs.Trees.{formula_of, formulas_of}
use Rattle.dai_trail.specs.Formula as Clauses
use Rattle.dai_trail.specs.Formula.{AreMetBy}
use Rattle.dai_circuit.specs.declared.bit.Bit.{Bit}
use Rattle.dai_circuit.specs.declared.bit.Bit.TheVariants.{Known}
use Rattle.dai_circuit.proofs.Extensions.{extends_self}
use Rattle.dai_circuit.specs.Circuits.{bit_value, Extends, Defines, negation_of, all_value, any_value}
use Rattle.dai_circuit.proofs.Values.{value-negation, below-negation}
use Rattle.dai_picture.specs.declared.picture.Frame.{Frame}
use Rattle.dai_picture.specs.declared.picture.Picture.{Picture}
use Rattle.dai_picture.specs.Pictures.{rows_of, AreRows}
use Rattle.dai_ground.specs.Findings.{HasValue, HaveValues, agreement_of}
use Rattle.dai_ground.specs.Grounding.{IsPlaced, IsFormulaIn, AreFormulasIn, IsValue, AreValues, Grounds, Sees, environment, value_of_each}
use Rattle.dai_ground.proofs.Findings.{IsMore, AreTwo, extends_after, all_below_more, has_kept, have_other, have_none, have_more, have_two, finds_all, finds_any, finds_agree, finds_after}

-- rows and places over more variables
pub rows_kept : (m n : ℕ) (lengths : List ℕ) (rows : List (List Bit)) → m ≤ n → AreRows m lengths rows → AreRows n lengths rows
rows_kept m n lengths rows le are = record { long = are.long; below = λ k d l. all_below_more m n _ le (are.below k d l) }

pub placed_kept : (P : Protocol) (frame : Frame) (picture : Picture) (m n : ℕ) (binding : List ℕ) (scope : Scope) → m ≤ n → IsPlaced P frame picture m binding scope → IsPlaced P frame picture n binding scope
placed_kept P frame picture m n binding scope le h = record {
  parameters = h.parameters;
  choices = h.choices;
  drawn = record {
    one_each = h.drawn.one_each;
    inhabited = h.drawn.inhabited;
    used = rows_kept m n _ (rows_of frame.used) le h.drawn.used;
    named = rows_kept m n _ (rows_of frame.arguments) le h.drawn.named;
    chosen = rows_kept m n _ (rows_of frame.choices) le h.drawn.chosen;
  };
  pictured = record {
    tables = rows_kept m n _ (rows_of picture.tables) le h.pictured.tables;
    values = rows_kept m n _ (rows_of picture.values) le h.pictured.values;
  };
  named = h.named;
  chosen = h.chosen;
  bound = h.bound;
}

-- a negation
negation_has : (P : Protocol) (frame : Frame) (picture : Picture) (binding : List ℕ) (f : Model.Formula) (g : Clauses.Formula) (bit : Bit) → HasValue (IsValue P frame picture binding f) g bit → HasValue (IsValue P frame picture binding (negation f)) g (negation_of bit)
negation_has P frame picture binding f g bit h = record {
  below = below-negation g.vars bit h.below;
  same = λ bits value met is.
      value-negation bits bit
      ∙ (ap not (h.same bits (value_of is.structure (environment binding is.arguments is.choices) f) met (record { scope = is.scope; structure = is.structure; arguments = is.arguments; choices = is.choices; sorted = is.sorted; sees = is.sees; is = refl }))
      ∙ sym is.is);
}

pub negation_grounds : (P : Protocol) (frame : Frame) (picture : Picture) (binding : List ℕ) (f : Model.Formula) (old new : Clauses.Formula) (bit other : Bit) → other ≡ negation_of bit → Extends old new → HasValue (IsValue P frame picture binding f) new bit → Grounds P frame picture binding (negation f) old new (Ok other)
negation_grounds P frame picture binding f old new bit other e x h =
    subst (λ b. Grounds P frame picture binding (negation f) old new (Ok b)) (sym e) (record { extends = x; answer = negation_has P frame picture binding f new bit h })

-- lists of formulas
all_each : (s : Structure) (env : Environment) (fs : Formulas) → all_hold s env fs ≡ list_all (λ b. b) (value_of_each s env fs)
all_each s env no_formulas = refl
all_each s env (with_formula f fs) = ap (λ b. value_of s env f && b) (all_each s env fs)

some_each : (s : Structure) (env : Environment) (fs : Formulas) → some_holds s env fs ≡ list_any (λ b. b) (value_of_each s env fs)
some_each s env no_formulas = refl
some_each s env (with_formula f fs) = ap (λ b. value_of s env f || b) (some_each s env fs)

agree_each : (s : Structure) (env : Environment) (fs : Formulas) → all_agree s env fs ≡ agreement_of (value_of_each s env fs)
agree_each s env no_formulas = refl
agree_each s env (with_formula f fs) = ap (agree (value_of s env f)) (agree_each s env fs)

pub conjunction_grounds : (P : Protocol) (frame : Frame) (picture : Picture) (binding : List ℕ) (fs : Formulas) (old mid new : Clauses.Formula) (parts : List Bit) (result : Result Bit Spent) → Extends old mid → HaveValues (AreValues P frame picture binding fs) mid parts → Defines mid new result (all_value parts) → Grounds P frame picture binding (conjunction fs) old new result
conjunction_grounds P frame picture binding fs old mid new parts result e h d =
    finds_after (IsValue P frame picture binding (conjunction fs)) old mid new result e
    (finds_all (AreValues P frame picture binding fs) (IsValue P frame picture binding (conjunction fs)) mid new parts result
    (λ bits value is. record {
      values = value_of_each is.structure (environment binding is.arguments is.choices) fs;
      are = record { scope = is.scope; structure = is.structure; arguments = is.arguments; choices = is.choices; sorted = is.sorted; sees = is.sees; are = refl };
      is = is.is ∙ all_each is.structure (environment binding is.arguments is.choices) fs;
    })
    h d)

pub disjunction_grounds : (P : Protocol) (frame : Frame) (picture : Picture) (binding : List ℕ) (fs : Formulas) (old mid new : Clauses.Formula) (parts : List Bit) (result : Result Bit Spent) → Extends old mid → HaveValues (AreValues P frame picture binding fs) mid parts → Defines mid new result (any_value parts) → Grounds P frame picture binding (disjunction fs) old new result
disjunction_grounds P frame picture binding fs old mid new parts result e h d =
    finds_after (IsValue P frame picture binding (disjunction fs)) old mid new result e
    (finds_any (AreValues P frame picture binding fs) (IsValue P frame picture binding (disjunction fs)) mid new parts result
    (λ bits value is. record {
      values = value_of_each is.structure (environment binding is.arguments is.choices) fs;
      are = record { scope = is.scope; structure = is.structure; arguments = is.arguments; choices = is.choices; sorted = is.sorted; sees = is.sees; are = refl };
      is = is.is ∙ some_each is.structure (environment binding is.arguments is.choices) fs;
    })
    h d)

pub equivalence_grounds : (P : Protocol) (frame : Frame) (picture : Picture) (binding : List ℕ) (fs : Formulas) (old mid new : Clauses.Formula) (parts : List Bit) (result : Result Bit Spent) → Extends old mid → HaveValues (AreValues P frame picture binding fs) mid parts → Defines mid new result (λ bits. agreement_of (map (bit_value bits) parts)) → Grounds P frame picture binding (equivalence fs) old new result
equivalence_grounds P frame picture binding fs old mid new parts result e h d =
    finds_after (IsValue P frame picture binding (equivalence fs)) old mid new result e
    (finds_agree (AreValues P frame picture binding fs) (IsValue P frame picture binding (equivalence fs)) mid new parts result
    (λ bits value is. record {
      values = value_of_each is.structure (environment binding is.arguments is.choices) fs;
      are = record { scope = is.scope; structure = is.structure; arguments = is.arguments; choices = is.choices; sorted = is.sorted; sees = is.sees; are = refl };
      is = is.is ∙ agree_each is.structure (environment binding is.arguments is.choices) fs;
    })
    h d)

-- an implication
implies_any : (a b : Bool) → implies a b ≡ (not a || (b || false))
implies_any true true = refl
implies_any true false = refl
implies_any false b = refl

pub implication_grounds : (P : Protocol) (frame : Frame) (picture : Picture) (binding : List ℕ) (f g : Model.Formula) (old first mid new : Clauses.Formula) (premise other conclusion : Bit) (result : Result Bit Spent) → other ≡ negation_of premise → Extends old first → HasValue (IsValue P frame picture binding f) first premise → Extends first mid → HasValue (IsValue P frame picture binding g) mid conclusion → Defines mid new result (any_value (other ∷ conclusion ∷ [])) → Grounds P frame picture binding (implication f g) old new result
implication_grounds P frame picture binding f g old first mid new premise other conclusion result e x p y c d =
    let negated = subst (HasValue (IsValue P frame picture binding (negation f)) mid) (sym e) (negation_has P frame picture binding f mid premise (has_kept (IsValue P frame picture binding f) first mid premise y p)) in
    finds_after (IsValue P frame picture binding (implication f g)) old mid new result (extends_after old first mid x y)
    (finds_any (AreTwo (IsValue P frame picture binding (negation f)) (IsValue P frame picture binding g)) (IsValue P frame picture binding (implication f g)) mid new (other ∷ conclusion ∷ []) result
    (λ bits value is.
    let env = environment binding is.arguments is.choices in
    let a = value_of is.structure env f in
    let b = value_of is.structure env g in
    record {
      values = not a ∷ b ∷ [];
      are = record {
        first = not a;
        second = b;
        is_first = record { scope = is.scope; structure = is.structure; arguments = is.arguments; choices = is.choices; sorted = is.sorted.0; sees = is.sees; is = refl };
        is_second = record { scope = is.scope; structure = is.structure; arguments = is.arguments; choices = is.choices; sorted = is.sorted.1; sees = is.sees; is = refl };
        are = refl;
      };
      is = is.is ∙ implies_any a b;
    })
    (have_two (IsValue P frame picture binding (negation f)) (IsValue P frame picture binding g) mid other conclusion negated c) d)

-- each formula of a list
pub sorted_at : (P : Protocol) (scope : Scope) (fs : List Formula) (i : ℕ) (d : Formula) → i < length fs → AreWellSorted P scope (formulas_of fs) → IsWellSorted P scope (formula_of (get_or fs i d))
sorted_at P scope [] i d below h = absurd (omega arith)
sorted_at P scope (f ∷ fs) zero d below h = h.0
sorted_at P scope (f ∷ fs) (suc i) d below h = sorted_at P scope fs i d (omega arith) h.1

each_map : (s : Structure) (env : Environment) (fs : List Formula) → value_of_each s env (formulas_of fs) ≡ map (λ f. value_of s env (formula_of f)) fs
each_map s env [] = refl
each_map s env (f ∷ fs) = ap (λ vs. value_of s env (formula_of f) ∷ vs) (each_map s env fs)

-- the values of the first formulas of a list
pub record AreFirstValues (P : Protocol) (frame : Frame) (picture : Picture) (binding : List ℕ) (fs : List Formula) (i : ℕ) (bits : List Bool) (values : List Bool) : Type 0 where
  pub scope : Scope
  pub structure : Structure
  pub arguments : List ℕ
  pub choices : List ℕ
  pub sorted : AreWellSorted P scope (formulas_of fs)
  pub sees : Sees P frame picture bits scope structure (environment binding arguments choices)
  pub are : values ≡ map (λ f. value_of structure (environment binding arguments choices) (formula_of f)) (take i fs)

pub first_none : (P : Protocol) (frame : Frame) (picture : Picture) (binding : List ℕ) (fs : List Formula) (g : Clauses.Formula) → HaveValues (AreFirstValues P frame picture binding fs 0) g []
first_none P frame picture binding fs g = have_none (AreFirstValues P frame picture binding fs 0) g (λ bits values are. are.are)

pub first_more : (P : Protocol) (frame : Frame) (picture : Picture) (binding : List ℕ) (fs : List Formula) (i : ℕ) (d : Formula) (g : Clauses.Formula) (parts : List Bit) (bit : Bit) → i < length fs → HaveValues (AreFirstValues P frame picture binding fs i) g parts → HasValue (IsValue P frame picture binding (formula_of (get_or fs i d))) g bit → HaveValues (AreFirstValues P frame picture binding fs (i + 1)) g (parts ++ bit ∷ [])
first_more P frame picture binding fs i d g parts bit below h b =
    have_other (IsMore (AreFirstValues P frame picture binding fs i) (IsValue P frame picture binding (formula_of (get_or fs i d)))) (AreFirstValues P frame picture binding fs (i + 1)) g (parts ++ bit ∷ [])
    (λ bits values are.
    let value : Formula → Bool = λ f. value_of are.structure (environment binding are.arguments are.choices) (formula_of f) in
    record {
      front = map value (take i fs);
      last = value (get_or fs i d);
      are = record { scope = are.scope; structure = are.structure; arguments = are.arguments; choices = are.choices; sorted = are.sorted; sees = are.sees; are = refl };
      is = record { scope = are.scope; structure = are.structure; arguments = are.arguments; choices = are.choices; sorted = sorted_at P are.scope fs i d below are.sorted; sees = are.sees; is = refl };
      all = are.are ∙ (ap (map value) (take_more fs i d below) ∙ map-append value (take i fs) (get_or fs i d ∷ []));
    })
    (have_more (AreFirstValues P frame picture binding fs i) (IsValue P frame picture binding (formula_of (get_or fs i d))) g parts bit h b)

pub first_all : (P : Protocol) (frame : Frame) (picture : Picture) (binding : List ℕ) (fs : List Formula) (i : ℕ) (g : Clauses.Formula) (parts : List Bit) → take i fs ≡ fs → HaveValues (AreFirstValues P frame picture binding fs i) g parts → HaveValues (AreValues P frame picture binding (formulas_of fs)) g parts
first_all P frame picture binding fs i g parts all h =
    have_other (AreFirstValues P frame picture binding fs i) (AreValues P frame picture binding (formulas_of fs)) g parts
    (λ bits values are. record {
      scope = are.scope;
      structure = are.structure;
      arguments = are.arguments;
      choices = are.choices;
      sorted = are.sorted;
      sees = are.sees;
      are = are.are ∙ (each_map are.structure (environment binding are.arguments are.choices) fs ∙ ap (map (λ f. value_of are.structure (environment binding are.arguments are.choices) (formula_of f))) (sym all));
    })
    h

pub formula_kept : (P : Protocol) (frame : Frame) (picture : Picture) (m n : ℕ) (binding : List ℕ) (f : Model.Formula) → m ≤ n → IsFormulaIn P frame picture m binding f → IsFormulaIn P frame picture n binding f
formula_kept P frame picture m n binding f le h = record { scope = h.scope; placed = placed_kept P frame picture m n binding h.scope le h.placed; sorted = h.sorted }

-- one of the formulas
pub formula_item : (P : Protocol) (frame : Frame) (picture : Picture) (m n : ℕ) (binding : List ℕ) (fs : List Formula) (i : ℕ) (f : Formula) → i < length fs → f ≡ get_or fs i f → m ≤ n → AreFormulasIn P frame picture m binding (formulas_of fs) → IsFormulaIn P frame picture n binding (formula_of f)
formula_item P frame picture m n binding fs i f below is le h =
    formula_kept P frame picture m n binding (formula_of f) le (record { scope = h.scope; placed = h.placed; sorted = subst (λ g. IsWellSorted P h.scope (formula_of g)) (sym is) (sorted_at P h.scope fs i f below h.sorted) })

pub truth_grounds : (P : Protocol) (frame : Frame) (picture : Picture) (binding : List ℕ) (b : Bool) (g : Clauses.Formula) → Grounds P frame picture binding (Model.truth b) g g (Ok (Known b))
truth_grounds P frame picture binding b g = record { extends = extends_self g; answer = record { below = tt; same = λ bits value met is. sym is.is } }
