-- The terms of a formula that breaks no rule have the types of their places.
use Rattle.std.proofs.Common.{◌≡◌, ℕ, zero, suc, ◌<◌, ◌≤◌, Bool, true, false, cond, List, [], ◌∷◌, ◌++◌, length, map, Option, None, Some, ap, sym, ◌∙◌, refl, subst, inr, ⊎_elim, arith}
use Rattle.std.specs.Prelude.{◌⊎◌, slice_get, slice_index, find, unwrap_or, if◌then◌else◌, ◌||◌}
use Rattle.std.specs.Option.{option_map}
use Rattle.std.specs.List.{filter_map, AllByRecursion, AllZip, Contains}
use Rattle.std.proofs.lemmas.Option.{slice_get_within}
use Rattle.std.proofs.lemmas.List.Elements.{Contains-append_left, Contains-append_right, Contains-append_cases, Contains-push}
use Rattle.dai_syntax.specs.declared.tree.Binder.{Binder}
use Rattle.dai_syntax.specs.declared.tree.Name.{Name}
use Rattle.dai_syntax.specs.declared.tree.Arg.{Arg}
use Rattle.dai_syntax.specs.declared.tree.Arg.TheVariants.{Variable, Symbol}
use Rattle.dai_syntax.specs.Tree.{Declaration}
use Rattle.dai_model.specs.Formula as Model
use Rattle.dai_model.specs.Protocol.{Protocol, Sort, Individual}
use Rattle.dai_model.specs.WellSorted.{Scope as Sorts, sort_of}
use Rattle.dai_rules.specs.Names.{Context, Kind, a_relation, an_individual, a_local, neither, element_type, declared_kind, is_named, is_declared_by, kind_beside, kind_in, type_order, type_of}
use Rattle.dai_rules.specs.Naming.{Naming, number_of, variable_in, noticed, noticed_as, after_term, after_terms}
use Rattle.dai_rules.specs.Types.{Use, typed, linked, HasType, given, from_right, from_left}
use Rattle.dai_rules.specs.Sites.{Role, Site, Whole, Output, Ordering, both, whole_at, term_at, mention_at, typed_by, term_output, terms_output}
use Rattle.dai_rules.specs.Rules.{at_if, is_neither, is_relation, differ, is_unordered, breaks_22, breaks_24, unordered}
use Rattle.dai_rules.specs.Ranges.{IsUseWithin, AreUsesWithin}
use Rattle.dai_rules.proofs.Members.{in_head, in_tail}
use Rattle.dai_rules.proofs.RangeLemmas.{terms_grow, term_grows}
use Rattle.std.proofs.lemmas.List.Elements.{All-contains}
use Rattle.dai_sorts.specs.Scopes.{Scope, type_number, individual_number, binder_type, term_among, term_beside, symbol_term, term_in, terms_in}
use Rattle.dai_sorts.specs.Formulas.{AreTypes}
use Rattle.dai_sorts.specs.Protocols.{declared_type, declared_relation, declared_individual}
use Rattle.dai_sorts.specs.Sound.{AreUnbroken}
use Rattle.dai_sorts.proofs.SortedTypes.{one_type}
use Rattle.dai_sorts.proofs.SortedNames.{text_is, type_there, individual_there, no_local_found}

abbrev pub sorts_with : (ℕ → Option ℕ) → List ℕ → List ℕ → Sorts
sorts_with vars ps cs = record { variables = vars; parameters = ps; choices = cs }

abbrev pub IsType : List Declaration → List ℕ → Type 0
IsType ds x = (ordered : Bool) × (type_order ds x ≡ Some ordered)

-- the protocol has what the file declares, and each type that a declaration names is declared
pub record IsFile (ds : List Declaration) (P : Protocol) : Type 0 where
  pub types : P.sorts ≡ filter_map declared_type ds
  pub relations : P.relations ≡ filter_map (declared_relation ds) ds
  pub individuals : P.individuals ≡ filter_map (declared_individual ds) ds
  pub places : (x : List ℕ) (places : List Binder) → declared_kind ds x ≡ a_relation places → AllByRecursion (λ b. IsType ds (type_of b).text) places
  pub elements : (x : List ℕ) (type : Name) → declared_kind ds x ≡ an_individual type → IsType ds type.text

pub type_below : (ds : List Declaration) (P : Protocol) (x : List ℕ) → IsFile ds P → IsType ds x → type_number ds x < length P.sorts
type_below ds P x file is =
    let T = type_there ds x is.0 is.1 in
    slice_get_within P.sorts (type_number ds x) T.0 (ap (λ (l : List Sort). slice_get l (type_number ds x)) file.types ∙ T.1)

-- a parameter or local, and its term
abbrev pub IsLocal : Protocol → List Declaration → List ℕ → List ℕ → Binder → Model.Term → Type 0
IsLocal P ds ps cs b t = IsType ds (type_of b).text × ((vars : ℕ → Option ℕ) → sort_of P (sorts_with vars ps cs) t ≡ Some (binder_type ds b))

abbrev pub Fits : Protocol → List ℕ → List ℕ → Scope → Type 0
Fits P ps cs scope = AllZip (IsLocal P scope.context.declarations ps cs) scope.context.inside scope.terms

abbrev IsFound : Protocol → List Declaration → List ℕ → List ℕ → Option Binder → Option Model.Term → Type 0
IsFound P ds ps cs None None = Unit {0}
IsFound P ds ps cs None (Some t) = ⊥
IsFound P ds ps cs (Some b) None = ⊥
IsFound P ds ps cs (Some b) (Some t) = IsLocal P ds ps cs b t

found_step : (P : Protocol) (ds : List Declaration) (ps cs : List ℕ) (v : Bool) (b : Binder) (t : Model.Term) (o : Option Binder) (p : Option Model.Term) → IsLocal P ds ps cs b t → IsFound P ds ps cs o p → IsFound P ds ps cs (cond v (Some b) o) (if v then Some t else p)
found_step P ds ps cs true b t o p here rest = here
found_step P ds ps cs false b t o p here rest = rest

local_found : (P : Protocol) (ds : List Declaration) (ps cs : List ℕ) (bs : List Binder) (ts : List Model.Term) (x : List ℕ) → AllZip (IsLocal P ds ps cs) bs ts → IsFound P ds ps cs (find (is_named x) bs) (term_among bs ts x)
local_found P ds ps cs [] [] x fits = tt
local_found P ds ps cs [] (t ∷ ts) x fits = absurd fits
local_found P ds ps cs (b ∷ bs) [] x fits = absurd fits
local_found P ds ps cs (b ∷ bs) (t ∷ ts) x fits = found_step P ds ps cs (is_named x b) b t (find (is_named x) bs) (term_among bs ts x) fits.0 (local_found P ds ps cs bs ts x fits.1)

-- an element of this type, whatever the variables are
abbrev IsElement : Protocol → List Declaration → List ℕ → List ℕ → Model.Term → Name → Type 0
IsElement P ds ps cs t type = IsType ds type.text × ((vars : ℕ → Option ℕ) → sort_of P (sorts_with vars ps cs) t ≡ Some (type_number ds type.text))

individual_is : (P : Protocol) (ds : List Declaration) (ps cs : List ℕ) (x : List ℕ) (type : Name) (k : Kind) → IsFile ds P → declared_kind ds x ≡ k → element_type k ≡ Some type → IsElement P ds ps cs (Model.individual (individual_number ds x)) type
individual_is P ds ps cs x type (a_relation places) file e h = absurd (let z : ⊥ = cc in z)
individual_is P ds ps cs x type (a_local other) file e h = absurd (no_local_found _ other e)
individual_is P ds ps cs x type neither file e h = absurd (let z : ⊥ = cc in z)
individual_is P ds ps cs x type (an_individual other) file e h =
    let same : other ≡ type = cc in
    let kind : declared_kind ds x ≡ an_individual type = e ∙ ap an_individual same in
    let I = individual_there ds ds x type kind in (
      file.elements x type kind,
      λ vars. ap (λ (l : List Individual). option_map (λ (I : Individual). I.sort) (slice_get l (individual_number ds x))) file.individuals ∙ ap (option_map (λ (I : Individual). I.sort)) I.1 ∙ ap Some I.2,
    )

local_is : (P : Protocol) (ds : List Declaration) (ps cs : List ℕ) (b : Binder) (t : Model.Term) (type : Name) → IsLocal P ds ps cs b t → type_of b ≡ type → IsElement P ds ps cs t type
local_is P ds ps cs b t type here e = subst (IsElement P ds ps cs t) e here

beside_is : (P : Protocol) (scope : Scope) (ps cs : List ℕ) (x : List ℕ) (type : Name) (b : Binder) (t : Model.Term) (v : Bool) → IsFile scope.context.declarations P → IsLocal P scope.context.declarations ps cs b t
    → element_type (if v then declared_kind scope.context.declarations x else a_local (type_of b)) ≡ Some type
    → IsElement P scope.context.declarations ps cs (if v then Model.individual (individual_number scope.context.declarations x) else t) type
beside_is P scope ps cs x type b t true file here h = individual_is P scope.context.declarations ps cs x type (declared_kind scope.context.declarations x) file refl h
beside_is P scope ps cs x type b t false file here h = let e : type_of b ≡ type = cc in local_is P scope.context.declarations ps cs b t type here e

symbol_by : (P : Protocol) (scope : Scope) (ps cs : List ℕ) (x : List ℕ) (type : Name) (o : Option Binder) (p : Option Model.Term) → IsFile scope.context.declarations P → IsFound P scope.context.declarations ps cs o p
    → element_type (kind_beside scope.context x o) ≡ Some type → IsElement P scope.context.declarations ps cs (term_beside scope x p) type
symbol_by P scope ps cs x type None None file here h = individual_is P scope.context.declarations ps cs x type (declared_kind scope.context.declarations x) file refl h
symbol_by P scope ps cs x type None (Some t) file here h = absurd here
symbol_by P scope ps cs x type (Some b) None file here h = absurd here
symbol_by P scope ps cs x type (Some b) (Some t) file here h = beside_is P scope ps cs x type b t (is_declared_by scope.context x) file here h

pub symbol_is : (P : Protocol) (scope : Scope) (ps cs : List ℕ) (x : List ℕ) (type : Name) → IsFile scope.context.declarations P → Fits P ps cs scope → element_type (kind_in scope.context x) ≡ Some type
    → IsType scope.context.declarations type.text × ((vars : ℕ → Option ℕ) → sort_of P (sorts_with vars ps cs) (symbol_term scope x) ≡ Some (type_number scope.context.declarations type.text))
symbol_is P scope ps cs x type file fits h =
    symbol_by P scope ps cs x type (find (is_named x) scope.context.inside) (term_among scope.context.inside scope.terms x) file (local_found P scope.context.declarations ps cs scope.context.inside scope.terms x fits) h

-- a rule that is not broken
pub holds_not : (b : Bool) (at : ℕ) → (Contains (at_if b at) at → ⊥) → b ≡ false
holds_not true at h = absurd (h (in_head at []))
holds_not false at h = refl

-- an element, of the type of its place if it has one
abbrev pub Agrees : Name → Option Name → Type 0
Agrees type None = Unit {0}
Agrees type (Some expected) = type.text ≡ expected.text

agrees_by : (type : Name) (expected : Option Name) → differ (Some type) expected ≡ false → Agrees type expected
agrees_by type None h = tt
agrees_by type (Some other) h = text_is type.text other.text h

abbrev pub HasElement : Kind → Option Name → Type 0
HasElement k expected = (type : Name) × (element_type k ≡ Some type) × Agrees type expected

element_by : (k : Kind) (expected : Option Name) → is_neither k ≡ false → (is_relation k || differ (element_type k) expected) ≡ false → HasElement k expected
element_by (a_relation places) expected known h = absurd (let z : ⊥ = cc in z)
element_by (an_individual type) expected known h = (type, refl, agrees_by type expected h)
element_by (a_local type) expected known h = (type, refl, agrees_by type expected h)
element_by neither expected known h = absurd (let z : ⊥ = cc in z)

pub term_element : (ctx : Context) (expected : Option Name) (name : Name) (sites : List Site) → AreUnbroken sites → Contains sites (term_at ctx expected name) → HasElement (kind_in ctx name.text) expected
term_element ctx expected name sites unbroken there =
    element_by (kind_in ctx name.text) expected
    (holds_not (is_neither (kind_in ctx name.text)) name.at (λ h. unbroken (term_at ctx expected name) there 22 name.at (breaks_22 refl h)))
    (holds_not (is_relation (kind_in ctx name.text) || differ (element_type (kind_in ctx name.text)) expected) name.at (λ h. unbroken (term_at ctx expected name) there 24 name.at (breaks_24 refl h)))

-- a part of a whole that breaks no rule
pub record IsPart (w : Whole) (o : Output) : Type 0 where
  pub unbroken : AreUnbroken o.sites
  pub uses : (u : Use) → Contains o.uses u → Contains w.uses u
  pub orderings : (x : Ordering) → Contains o.orderings x → Contains w.orderings x

pub part_left : (w : Whole) (a b : Output) → IsPart w (both a b) → IsPart w a
part_left w a b h = record {
  unbroken = λ s there. h.unbroken s (Contains-append_left a.sites b.sites s there);
  uses = λ u there. h.uses u (Contains-append_left a.uses b.uses u there);
  orderings = λ x there. h.orderings x (Contains-append_left a.orderings b.orderings x there);
}

pub part_right : (w : Whole) (a b : Output) → IsPart w (both a b) → IsPart w b
part_right w a b h = record {
  unbroken = λ s there. h.unbroken s (Contains-append_right a.sites b.sites s there);
  uses = λ u there. h.uses u (Contains-append_right a.uses b.uses u there);
  orderings = λ x there. h.orderings x (Contains-append_right a.orderings b.orderings x there);
}

-- the types of the variables of a whole
pub record IsTyped (ds : List Declaration) (w : Whole) (types : List ℕ) : Type 0 where
  pub number : (v : ℕ) (t : List ℕ) → HasType w.uses v t → slice_index types v ≡ type_number ds t
  pub each : (v : ℕ) → v < length w.variables → (t : List ℕ) × HasType w.uses v t
  pub order : (x : Ordering) (t : List ℕ) → Contains w.orderings x → HasType w.uses x.variable t → is_unordered ds t ≡ false

has_within : (n : ℕ) (uses : List Use) (v : ℕ) (t : List ℕ) → AreUsesWithin n uses → HasType uses v t → v < n
has_within n uses v t within (given {t = s} h) = All-contains (IsUseWithin n) uses (typed v s) within h
has_within n uses v t within (from_right {w = u} h k) = (All-contains (IsUseWithin n) uses (linked v u) within h).0
has_within n uses v t within (from_left {w = u} h k) = (All-contains (IsUseWithin n) uses (linked u v) within h).1

index_is : (xs : List ℕ) (i n : ℕ) → slice_get xs i ≡ Some n → slice_index xs i ≡ n
index_is [] i n h = absurd (let z : ⊥ = cc in z)
index_is (x ∷ xs) zero n h = cc
index_is (x ∷ xs) (suc i) n h = index_is xs i n h

ordered_by : (ds : List Declaration) (w : Whole) (sites : List Site) (x : Ordering) (t : List ℕ) (b : Bool) → w.declarations ≡ ds → AreUnbroken sites → Contains sites (whole_at w) → Contains w.orderings x → HasType w.uses x.variable t → is_unordered ds t ≡ b → b ≡ false
ordered_by ds w sites x t false same unbroken there h has e = refl
ordered_by ds w sites x t true same unbroken there h has e =
    absurd (unbroken (whole_at w) there 26 x.at (unordered refl (record { ordering = x; type = t; stands = h; place = refl; has = has; unordered = ap (λ (l : List Declaration). is_unordered l t) same ∙ e })))

pub typed_whole : (ds : List Declaration) (w : Whole) (types : List ℕ) (sites : List Site) → w.declarations ≡ ds → AreUnbroken sites → Contains sites (whole_at w) → AreUsesWithin (length w.variables) w.uses → AreTypes ds w.variables w.uses types → IsTyped ds w types
typed_whole ds w types sites same unbroken there within typing = record {
  number = λ v t has.
      let below = has_within (length w.variables) w.uses v t within has in
      let a = typing.each v below in
      index_is types v (type_number ds a.0) a.2 ∙ ap (type_number ds) (one_type sites w v a.0 t unbroken there below a.1 has);
  each = λ v below. let a = typing.each v below in (a.0, a.1);
  order = λ x t h has. ordered_by ds w sites x t (is_unordered ds t) same unbroken there h has refl;
}

-- the variables in scope have their types
abbrev pub Covers : (ℕ → Option ℕ) → List ℕ → List ℕ → Type 0
Covers vars types live = (v : ℕ) → Contains live v → vars v ≡ Some (slice_index types v)

-- later in the same formula
pub record IsBefore (n m : Naming) : Type 0 where
  pub count : length n.variables ≤ length m.variables
  pub free : (v : ℕ) → Contains n.free v → Contains m.free v

pub before_itself : (n : Naming) → IsBefore n n
before_itself n = record { count = omega arith; free = λ v h. h }

pub before_both : (a b c : Naming) → IsBefore a b → IsBefore b c → IsBefore a c
before_both a b c h k = let x = h.count in let y = k.count in record { count = omega arith; free = λ v there. k.free v (h.free v there) }

noticed_free : (n : Naming) (name : Name) (o : Option ℕ) (v : ℕ) → Contains n.free v → Contains (noticed_as n name o).free v
noticed_free n name None v h = Contains-append_left n.free (length n.variables ∷ []) v h
noticed_free n name (Some k) v h = h

term_free : (n : Naming) (t : Arg) (v : ℕ) → Contains n.free v → Contains (after_term n t).free v
term_free n (Variable name type) v h = noticed_free n name (variable_in n name.text) v h
term_free n (Symbol name) v h = h

pub before_term : (n : Naming) (t : Arg) → IsBefore n (after_term n t)
before_term n t = record { count = term_grows n t; free = term_free n t }

terms_free : (n : Naming) (ts : List Arg) (v : ℕ) → Contains n.free v → Contains (after_terms n ts).free v
terms_free n [] v h = h
terms_free n (t ∷ ts) v h = terms_free (after_term n t) ts v (term_free n t v h)

pub before_terms : (n : Naming) (ts : List Arg) → IsBefore n (after_terms n ts)
before_terms n ts = record { count = terms_grow n ts; free = terms_free n ts }

-- the number of a variable is that of a variable in scope
find_by : (p : ℕ → Bool) (u : ℕ) (us : List ℕ) (v : ℕ) (b : Bool) → cond b (Some u) (find p us) ≡ Some v → (find p us ≡ Some v → Contains us v) → Contains (u ∷ us) v
find_by p u us v true h further = let same : u ≡ v = cc in subst (Contains (u ∷ us)) same (in_head u us)
find_by p u us v false h further = in_tail u us v (further h)

find_there : (p : ℕ → Bool) (us : List ℕ) (v : ℕ) → find p us ≡ Some v → Contains us v
find_there p [] v h = absurd (let z : ⊥ = cc in z)
find_there p (u ∷ us) v h = find_by p u us v (p u) h (find_there p us v)

number_live : (n : Naming) (name : Name) (o : Option ℕ) → variable_in n name.text ≡ o → Contains n.bound (unwrap_or o (length n.variables)) ⊎ Contains (noticed_as n name o).free (unwrap_or o (length n.variables))
number_live n name None e = inr (Contains-push n.free (length n.variables))
number_live n name (Some v) e = Contains-append_cases n.bound n.free v (find_there _ (n.bound ++ n.free) v e)

pub variable_covered : (vars : ℕ → Option ℕ) (types : List ℕ) (n end : Naming) (name : Name) → Covers vars types n.bound → Covers vars types end.free → IsBefore (noticed n name) end → vars (number_of n name.text) ≡ Some (slice_index types (number_of n name.text))
variable_covered vars types n end name bound free before =
    ⊎_elim (λ h. bound (number_of n name.text) h) (λ h. free (number_of n name.text) (before.free (number_of n name.text) h)) (number_live n name (variable_in n name.text) refl)

-- terms
typed_there : (v : ℕ) (o : Option Name) (type : Name) → Contains (typed_by v o ++ typed_by v (Some type)) (typed v type.text)
typed_there v o type = Contains-append_right (typed_by v o) (typed_by v (Some type)) (typed v type.text) (in_head (typed v type.text) [])

pub bound_after : (n : Naming) (t : Arg) → (after_term n t).bound ≡ n.bound
bound_after n (Variable name type) = noticed_bound (variable_in n name.text)
  where
    noticed_bound : (o : Option ℕ) → (noticed_as n name o).bound ≡ n.bound
    noticed_bound None = refl
    noticed_bound (Some v) = refl
bound_after n (Symbol name) = refl

pub term_sorted : (P : Protocol) (scope : Scope) (ps cs : List ℕ) (role : Role) (w : Whole) (types : List ℕ) (end : Naming) (vars : ℕ → Option ℕ) (n : Naming) (type : Name) (t : Arg)
    → IsFile scope.context.declarations P → Fits P ps cs scope → IsTyped scope.context.declarations w types → Covers vars types end.free
    → Covers vars types n.bound → IsBefore (after_term n t) end → IsPart w (term_output scope.context role n (Some type) t) → sort_of P (sorts_with vars ps cs) (term_in scope n t) ≡ Some (type_number scope.context.declarations type.text)
term_sorted P scope ps cs role w types end vars n type (Variable name own) file fits typing free bound before part =
    variable_covered vars types n end name bound free before
    ∙ ap Some (typing.number (number_of n name.text) type.text (given (part.uses (typed (number_of n name.text) type.text) (typed_there (number_of n name.text) own type))))
term_sorted P scope ps cs role w types end vars n type (Symbol name) file fits typing free bound before part =
    let ctx = scope.context in
    let sites = mention_at ctx role name ∷ term_at ctx (Some type) name ∷ [] in
    let k = term_element ctx (Some type) name sites part.unbroken (in_tail (mention_at ctx role name) (term_at ctx (Some type) name ∷ []) (term_at ctx (Some type) name) (in_head (term_at ctx (Some type) name) [])) in
    (symbol_is P scope ps cs name.text k.0 file fits k.1).1 vars ∙ ap (λ x. Some (type_number scope.context.declarations x)) k.2

pub terms_sorted : (P : Protocol) (scope : Scope) (ps cs : List ℕ) (role : Role) (w : Whole) (types : List ℕ) (end : Naming) (vars : ℕ → Option ℕ) (n : Naming) (places : List Binder) (ts : List Arg)
    → IsFile scope.context.declarations P → Fits P ps cs scope → IsTyped scope.context.declarations w types → Covers vars types end.free
    → length ts ≡ length places → Covers vars types n.bound → IsBefore (after_terms n ts) end → IsPart w (terms_output scope.context role n places ts)
    → map (sort_of P (sorts_with vars ps cs)) (terms_in scope n ts) ≡ map Some (map (binder_type scope.context.declarations) places)
terms_sorted P scope ps cs role w types end vars n [] [] file fits typing free count bound before part = refl
terms_sorted P scope ps cs role w types end vars n (p ∷ places) [] file fits typing free count bound before part = absurd (omega arith)
terms_sorted P scope ps cs role w types end vars n [] (t ∷ ts) file fits typing free count bound before part = absurd (omega arith)
terms_sorted P scope ps cs role w types end vars n (p ∷ places) (t ∷ ts) file fits typing free count bound before part =
    let one = term_output scope.context role n (Some (type_of p)) t in
    let others = terms_output scope.context role (after_term n t) places ts in
    let head = term_sorted P scope ps cs role w types end vars n (type_of p) t file fits typing free bound (before_both (after_term n t) (after_terms (after_term n t) ts) end (before_terms (after_term n t) ts) before) (part_left w one others part) in
    let tail = terms_sorted P scope ps cs role w types end vars (after_term n t) places ts file fits typing free (omega arith) (subst (Covers vars types) (sym (bound_after n t)) bound) before (part_right w one others part) in
    λ i. head i ∷ tail i
