-- What holds of a whole formula, or an update with its right side, that breaks no rule.
use Rattle.std.proofs.Common.{◌≡◌, ℕ, zero, suc, ◌<◌, ◌≤◌, ◌+◌, Bool, true, false, List, [], ◌∷◌, ◌++◌, length, drop, get_or, map, Option, None, Some, ap, sym, ◌∙◌, refl, subst, arith, length-drop}
use Rattle.std.specs.Prelude.{slice_get, slice_index, not, ◌&&◌}
use Rattle.std.specs.Borrow.{Bor}
use Rattle.std.specs.List.{Contains}
use Rattle.std.specs.Option.{option_map, option_copied}
use Rattle.std.proofs.lemmas.List.Elements.{Contains-append_left, Contains-append_right}
use Rattle.dai_syntax.specs.declared.tree.Name.{Name}
use Rattle.dai_syntax.specs.declared.tree.Arg.{Arg}
use Rattle.dai_syntax.specs.declared.tree.Binder.{Binder}
use Rattle.dai_syntax.specs.Tree.{Formula, Declaration}
use Rattle.dai_rules.specs.declared.judge.Role.TheVariants.{Value}
use Rattle.dai_rules.specs.declared.classes.Summary.{Summary}
use Rattle.dai_rules.specs.Names.{Context, Kind, an_individual, a_local, neither, kind_in}
use Rattle.dai_rules.specs.Naming.{no_variables, after_terms, after_formula}
use Rattle.dai_rules.specs.Types.{Use, HasType}
use Rattle.dai_rules.specs.Sites as Sites
use Rattle.dai_rules.specs.Sites.{Site, Whole, whole_at, whole_of, target_at, sentence_output, sentence_sites, update_output, update_sites, update_role, terms_output, right_output, places_of, both}
use Rattle.dai_rules.specs.Rules as Rules
use Rattle.dai_rules.specs.Rules.{HasNoType, breaks_22, breaks_24, breaks_25, breaks_31, breaks_42, is_bare_name, at_if}
use Rattle.dai_rules.specs.Classes.{labels_of, types_in}
use Rattle.dai_rules.specs.Labels.{first_type, IsSummary, AreSummaries, AreLabels}
use Rattle.dai_rules.specs.Ranges.{AreUsesWithin}
use Rattle.dai_rules.specs.Views.{View, role_in, emptied, given}
use Rattle.dai_rules.proofs.Members.{not_in_nil, in_head}
use Rattle.dai_rules.proofs.TypeClasses.{type_computed, type_by_class}
use Rattle.dai_rules.proofs.RangeLemmas.{formula_grows}
use Rattle.dai_rules.proofs.ClassLemmas.{label_below}
use Rattle.dai_rules.proofs.ViewLemmas.{given-given}
use Rattle.dai_sorts.specs.Scopes.{type_number}
use borrow.Author.Count.{below_more}
use Rattle.dai_sorts.specs.Sound.{AreUnbroken, AreTyped}

get_some : {X : Type 0} (xs : List X) (i : ℕ) → i < length xs → (x : X) × (slice_get xs i ≡ Some x)
get_some [] i h = absurd (omega arith)
get_some (x ∷ xs) zero h = (x, refl)
get_some (x ∷ xs) (suc i) h = get_some xs i (omega arith)

pub typed_whole : (sites : List Site) (w : Whole) → AreUnbroken sites → Contains sites (whole_at w) → AreTyped (length w.variables) w.uses
typed_whole sites w unbroken there = λ v below none.
    let name = get_some w.variables v below in
    unbroken (whole_at w) there 25 name.0.at (breaks_25 refl (record { variable = v; stands = (name.0, name.1, refl); none = none }))

-- a formula names few variables
pub few_by : (sites : List Site) (w : Whole) (rest : List Name) → AreUnbroken sites → Contains sites (whole_at w) → drop 12 w.variables ≡ rest → length w.variables ≤ 12
few_by sites w [] unbroken there e = let k = length-drop 12 w.variables in let n = ap length e in omega arith
few_by sites w (name ∷ rest) unbroken there e =
    absurd (unbroken (whole_at w) there 42 name.at (breaks_42 refl (subst (λ (names : List Name). Contains (map (λ (x : Name). x.at) names) name.at) (sym e) (in_head name.at (map (λ (x : Name). x.at) rest)))))

pub few_whole : (sites : List Site) (w : Whole) → AreUnbroken sites → Contains sites (whole_at w) → length w.variables ≤ 256
few_whole sites w unbroken there = let k = few_by sites w (drop 12 w.variables) unbroken there refl in omega arith

-- a formula
pub in_sentence : (ctx : Context) (role : Sites.Role) (f : Formula) → Contains (sentence_sites ctx role f) (whole_at (whole_of ctx role (after_formula no_variables f) (sentence_output ctx role f)))
in_sentence ctx role f =
    let whole = whole_at (whole_of ctx role (after_formula no_variables f) (sentence_output ctx role f)) in
    Contains-append_right (sentence_output ctx role f).sites (whole ∷ []) whole (in_head whole [])

pub sentence_typed : (ctx : Context) (role : Sites.Role) (f : Formula) → AreUnbroken (sentence_sites ctx role f) → AreTyped (length (after_formula no_variables f).variables) (sentence_output ctx role f).uses
sentence_typed ctx role f unbroken = typed_whole (sentence_sites ctx role f) (whole_of ctx role (after_formula no_variables f) (sentence_output ctx role f)) unbroken (in_sentence ctx role f)

pub sentence_few : (ctx : Context) (role : Sites.Role) (f : Formula) → AreUnbroken (sentence_sites ctx role f) → length (after_formula no_variables f).variables ≤ 256
sentence_few ctx role f unbroken = few_whole (sentence_sites ctx role f) (whole_of ctx role (after_formula no_variables f) (sentence_output ctx role f)) unbroken (in_sentence ctx role f)

-- an update
in_update : (ctx : Context) (name : Name) (args : List Arg) (f : Formula) → Contains (update_sites ctx name args f) (whole_at (whole_of ctx (update_role args) (after_formula (after_terms no_variables args) f) (update_output ctx name args f)))
in_update ctx name args f =
    let whole = whole_at (whole_of ctx (update_role args) (after_formula (after_terms no_variables args) f) (update_output ctx name args f)) in
    Contains-append_right (update_output ctx name args f).sites (whole ∷ []) whole (in_head whole [])

pub update_typed : (ctx : Context) (name : Name) (args : List Arg) (f : Formula) → AreUnbroken (update_sites ctx name args f) → AreTyped (length (after_formula (after_terms no_variables args) f).variables) (update_output ctx name args f).uses
update_typed ctx name args f unbroken =
    typed_whole (update_sites ctx name args f) (whole_of ctx (update_role args) (after_formula (after_terms no_variables args) f) (update_output ctx name args f)) unbroken (in_update ctx name args f)

pub update_few : (ctx : Context) (name : Name) (args : List Arg) (f : Formula) → AreUnbroken (update_sites ctx name args f) → length (after_formula (after_terms no_variables args) f).variables ≤ 256
update_few ctx name args f unbroken =
    few_whole (update_sites ctx name args f) (whole_of ctx (update_role args) (after_formula (after_terms no_variables args) f) (update_output ctx name args f)) unbroken (in_update ctx name args f)

in_target : (ctx : Context) (name : Name) (args : List Arg) (f : Formula) → Contains (update_sites ctx name args f) (target_at ctx name args f)
in_target ctx name args f =
    let whole = whole_at (whole_of ctx (update_role args) (after_formula (after_terms no_variables args) f) (update_output ctx name args f)) in
    Contains-append_left (update_output ctx name args f).sites (whole ∷ []) (target_at ctx name args f) (in_head (target_at ctx name args f) _)

at_true : (b : Bool) (at : ℕ) → b ≡ true → Contains (at_if b at) at
at_true true at e = in_head at []
at_true false at e = absurd (let k : ⊥ = cc in k)

pub not_neither : (ctx : Context) (name : Name) (args : List Arg) (f : Formula) → AreUnbroken (update_sites ctx name args f) → kind_in ctx name.text ≡ neither → ⊥
not_neither ctx name args f unbroken e =
    unbroken (target_at ctx name args f) (in_target ctx name args f) 22 name.at (breaks_22 refl (at_true _ name.at (ap Rules.is_neither e)))

pub not_local : (ctx : Context) (name : Name) (args : List Arg) (f : Formula) (type : Name) → AreUnbroken (update_sites ctx name args f) → kind_in ctx name.text ≡ a_local type → ⊥
not_local ctx name args f type unbroken e =
    unbroken (target_at ctx name args f) (in_target ctx name args f) 31 name.at (breaks_31 refl (at_true _ name.at (ap Rules.is_local e)))

bare_by : (ctx : Context) (name : Name) (args : List Arg) (f : Formula) (type : Name) (b : Bool) → AreUnbroken (update_sites ctx name args f) → kind_in ctx name.text ≡ an_individual type → is_bare_name f ≡ b → b ≡ true
bare_by ctx name args f type true unbroken e is = refl
bare_by ctx name args f type false unbroken e is =
    absurd (unbroken (target_at ctx name args f) (in_target ctx name args f) 24 name.at (breaks_24 refl (at_true _ name.at (λ i. Rules.is_individual (e i) && not (is i)))))

pub is_bare : (ctx : Context) (name : Name) (args : List Arg) (f : Formula) (type : Name) → AreUnbroken (update_sites ctx name args f) → kind_in ctx name.text ≡ an_individual type → is_bare_name f ≡ true
is_bare ctx name args f type unbroken e = bare_by ctx name args f type (is_bare_name f) unbroken e refl

-- the judge after the target's terms and the right side
pub update_view : (args : Bor (List Arg)) (name : Name) (f : Formula) (places : List Binder) (kind : Kind) (v0 v1 v2 v3 : View)
    → v1 ≡ emptied v0
    → v2 ≡ given v1 (terms_output v1.context (role_in v1.context (Value args)) v1.naming places args.now) (after_terms v1.naming args.now)
    → v3 ≡ given v2 (right_output v2.context (role_in v2.context (Value args)) v2.naming kind f) (after_formula v2.naming f)
    → kind ≡ kind_in v0.context name.text → places ≡ places_of kind
    → v3 ≡ given (emptied v0) (both (terms_output v0.context (update_role args.now) no_variables (places_of (kind_in v0.context name.text)) args.now) (right_output v0.context (update_role args.now) (after_terms no_variables args.now) (kind_in v0.context name.text) f)) (after_formula (after_terms no_variables args.now) f)
update_view args name f places kind v0 v1 v2 v3 e1 e2 e3 k p =
    let terms : List Binder → View → View = λ ps v. given v (terms_output v.context (role_in v.context (Value args)) v.naming ps args.now) (after_terms v.naming args.now) in
    let right : Kind → View → View = λ q v. given v (right_output v.context (role_in v.context (Value args)) v.naming q f) (after_formula v.naming f) in
    let is = kind_in v0.context name.text in
    e3 ∙ ap (λ q. right q v2) k ∙ ap (right is) (e2 ∙ ap (terms places) e1 ∙ ap (λ ps. terms ps (emptied v0)) (p ∙ ap places_of k))
    ∙ given-given (emptied v0) (terms_output v0.context (update_role args.now) no_variables (places_of is) args.now) (right_output v0.context (update_role args.now) (after_terms no_variables args.now) is f) (after_terms no_variables args.now) (after_formula (after_terms no_variables args.now) f)

-- the types of a class
none_in : (ts : List (List ℕ)) (t : List ℕ) → first_type ts ≡ None → Contains ts t → ⊥
none_in [] t e h = not_in_nil t h
none_in (s ∷ ts) t e h = let k : ⊥ = cc in k

first_in : (ts : List (List ℕ)) (t : List ℕ) → first_type ts ≡ Some t → Contains ts t
first_in [] t e = absurd (let k : ⊥ = cc in k)
first_in (s ∷ ts) t e = let k : s ≡ t = cc in subst (Contains (s ∷ ts)) k (in_head s ts)

-- the summary of a variable's class has a type, and the variable has it
module _ (count : ℕ) (uses : List Use) (labels : List ℕ) (summaries : List Summary) (within : AreUsesWithin count uses) (typed : AreTyped count uses) (are : labels ≡ labels_of count uses) (v : ℕ) (below : v < count) (s : Summary) (is : IsSummary (types_in labels (slice_index labels v) uses) s) where
  types_are : types_in labels (slice_index labels v) uses ≡ types_in (labels_of count uses) (slice_index (labels_of count uses) v) uses
  types_are = ap (λ l. types_in l (slice_index l v) uses) are

  pub has_class : option_copied s.sort ≡ None → ⊥
  has_class none =
      let first : first_type (types_in (labels_of count uses) (slice_index (labels_of count uses) v) uses) ≡ None = ap first_type (sym types_are) ∙ sym is.first ∙ ap (option_map (λ (name : Name). name.text)) none in
      typed v below (λ t has. none_in (types_in (labels_of count uses) (slice_index (labels_of count uses) v) uses) t first (type_computed count uses v t within has))

  pub class_type : (t : List ℕ) → option_map (λ (name : Name). name.text) (option_copied s.sort) ≡ Some t → HasType uses v t
  class_type t e =
      type_by_class count uses v t within below (first_in (types_in (labels_of count uses) (slice_index (labels_of count uses) v) uses) t (ap first_type (sym types_are) ∙ sym is.first ∙ e))

-- the summary at a variable's label
pub summary_of : (labels : List ℕ) (uses : List Use) (summaries : List Summary) (v : ℕ) (s : Summary) → AreSummaries labels uses summaries → AreLabels (length labels) labels → v < length labels → s ≡ get_or summaries (slice_index labels v) s → IsSummary (types_in labels (slice_index labels v) uses) s
summary_of labels uses summaries v s are within below e =
    subst (IsSummary (types_in labels (slice_index labels v) uses)) (sym e) (are.each (slice_index labels v) s (label_below labels v within below))

text_by : (o : Option Name) → (o ≡ None → ⊥) → (t : List ℕ) × (option_map (λ (name : Name). name.text) o ≡ Some t)
text_by None h = absurd (h refl)
text_by (Some name) h = (name.text, refl)

pub text_of : (s : Summary) → (option_copied s.sort ≡ None → ⊥) → (t : List ℕ) × (option_map (λ (name : Name). name.text) (option_copied s.sort) ≡ Some t)
text_of s h = text_by (option_copied s.sort) h

-- one more type
get_front : (xs : List ℕ) (y v : ℕ) → v < length xs → slice_get (xs ++ y ∷ []) v ≡ slice_get xs v
get_front [] y v h = absurd (omega arith)
get_front (x ∷ xs) y zero h = refl
get_front (x ∷ xs) y (suc v) h = get_front xs y v (omega arith)

get_last : (xs : List ℕ) (y : ℕ) → slice_get (xs ++ y ∷ []) (length xs) ≡ Some y
get_last [] y = refl
get_last (x ∷ xs) y = get_last xs y

pub record IsTypedAt (ds : List Declaration) (uses : List Use) (types : List ℕ) (v : ℕ) : Type 0 where
  pub type : List ℕ
  pub has : HasType uses v type
  pub number : slice_get types v ≡ Some (type_number ds type)

pub more_types : (ds : List Declaration) (uses : List Use) (old new : List ℕ) (i x : ℕ) (t : List ℕ) → new ≡ old ++ x ∷ [] → length old ≡ i → HasType uses i t → x ≡ type_number ds t
    → ((v : ℕ) → v < i → IsTypedAt ds uses old v) → (v : ℕ) → v < i + 1 → IsTypedAt ds uses new v
more_types ds uses old new i x t e n has is below =
    below_more (IsTypedAt ds uses new) i
    (λ v h. let w = below v h in record { type = w.type; has = w.has; number = ap (λ l. slice_get l v) e ∙ get_front old x v (omega arith) ∙ w.number })
    (record { type = t; has = has; number = ap (λ l. slice_get l i) e ∙ ap (slice_get (old ++ x ∷ [])) (sym n) ∙ get_last old x ∙ ap Some is })

pub target_few : (ctx : Context) (name : Name) (args : List Arg) (f : Formula) → AreUnbroken (update_sites ctx name args f) → length (after_terms no_variables args).variables ≤ 256
target_few ctx name args f unbroken = let k = update_few ctx name args f unbroken in let grows = formula_grows (after_terms no_variables args) f in omega arith
