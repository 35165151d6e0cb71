-- No block assigns what an axiom names.
use Rattle.std.proofs.Common.{◌≡◌, ℕ, ◌+◌, Bool, true, false, cond, List, [], ◌∷◌, ◌++◌, length, Option, None, Some, ap, sym, ◌∙◌, refl, inl, inr, ⊎_elim, arith}
use Rattle.std.specs.Prelude.{◌⊎◌, find, not, ◌&&◌, ◌||◌, if◌then◌else◌, reverse}
use Rattle.std.specs.Option.{option_map_or}
use Rattle.std.specs.List.{Contains, list_any}
use Rattle.std.proofs.lemmas.List.Elements.{Contains-append_left, Contains-append_right}
use Rattle.dai_syntax.specs.declared.tree.Binder.{Binder}
use Rattle.dai_syntax.specs.declared.tree.Name.{Name}
use Rattle.dai_syntax.specs.declared.tree.Arg.{Arg}
use Rattle.dai_syntax.specs.declared.tree.Arg.TheVariants.{Variable, Symbol}
use Rattle.dai_syntax.specs.declared.tree.Op.{Op}
use Rattle.dai_syntax.specs.declared.tree.Op.TheVariants.{Equal, Unequal, Less, LessEqual}
use Rattle.dai_syntax.specs.Tree.{Formula, truth, atom, comparison, negation, conjunction, disjunction, equivalence, implication, quantified, Formulas, no_formulas, with_formula, Statement, requirement, assignment, conditional, with_locals, Statements, no_statements, with_statement, Declaration, relation, individual}
use Rattle.dai_model.specs.Formula as Model
use Rattle.dai_model.specs.WellSorted as Well
use Rattle.dai_rules.specs.Names.{same_text, is_among, declared_name, declares, first_declaration, Kind, a_relation, an_individual, a_local, neither, element_type, declared_kind, kind_in, type_of}
use Rattle.dai_rules.specs.Naming.{Naming, no_variables, bound_by, at_quantifier, entered, after_term, after_formula}
use Rattle.dai_rules.specs.Sites.{Role, as_axiom, Force, Site, outermost, mention_at, atom_at, term_at, compared_at, whole_at, whole_of, term_output, terms_output, places_of, type_beside, binders_output, quantifier_output, is_universal_in, negated, within, within_equivalence, formula_output, formulas_output, sentence_output, sentence_sites, targets_of, targets_in, context_at}
use Rattle.dai_rules.specs.Rules.{is_relation, is_individual, breaks_27}
use Rattle.dai_rules.proofs.Members.{not_in_nil, in_head, in_tail, in_cases}
use Rattle.dai_sorts.specs.Scopes.{Scope, scope_at, number_among, relation_number, individual_number, term_in, terms_in, with_terms, choices_from}
use Rattle.dai_sorts.specs.Scopes as Kinds
use Rattle.dai_sorts.specs.Formulas.{compared, over_one, over, formula_in, formulas_in, IsSentence}
use Rattle.dai_sorts.specs.Statements.{locals_of, locals_in, joined, IsUpdate, Directs, DirectEach}
use Rattle.dai_sorts.specs.Sound.{AreUnbroken}
use Rattle.dai_sorts.proofs.SortedNames.{same_by, relation_found, individual_found, no_local_found}
use Rattle.dai_sorts.proofs.SortedTerms.{holds_not, term_element}
use Rattle.dai_sorts.proofs.SortedUses.{relation_declared, individual_declared}
use Rattle.dai_sorts.proofs.SortedFormulas.{equal_by, atom_places}
use Rattle.dai_sorts.proofs.SortedUpdates.{same_self}
use Rattle.dai_sorts.proofs.Unbroken.{unbroken_left, unbroken_right}

-- the name stands for the symbol
pub data IsSymbol (all : List Declaration) (x : Well.Symbol) (y : List ℕ) : Type 0 where
  relation_is : (places : List Binder) → declared_kind all y ≡ a_relation places → x ≡ Well.a_relation (relation_number all y) → IsSymbol all x y
  individual_is : (type : Name) → declared_kind all y ≡ an_individual type → x ≡ Well.an_individual (individual_number all y) → IsSymbol all x y

relation_by : (x : Well.Symbol) (r : ℕ) → Well.is_relation x r ≡ true → x ≡ Well.a_relation r
relation_by (Well.a_relation q) r h = ap Well.a_relation (equal_by q r h)
relation_by (Well.an_individual j) r h = absurd (let z : ⊥ = cc in z)

individual_by : (x : Well.Symbol) (i : ℕ) → Well.is_the_individual x i ≡ true → x ≡ Well.an_individual i
individual_by (Well.a_relation q) i h = absurd (let z : ⊥ = cc in z)
individual_by (Well.an_individual j) i h = ap Well.an_individual (equal_by j i h)

by_or : (a b : Bool) → (a || b) ≡ true → (a ≡ true) ⊎ (b ≡ true)
by_or true b h = inl refl
by_or false b h = inr h

-- one number, one name
named_by : (x : List ℕ) (o : Option Name) → option_map_or (λ (name : Name). same_text x name.text) o false ≡ true → (name : Name) × (o ≡ Some name) × (x ≡ name.text)
named_by x None h = absurd (let z : ⊥ = cc in z)
named_by x (Some name) h = (name, refl, same_by x name.text h)

both_named : (y z : List ℕ) (e : Declaration) → declares y e ≡ true → declares z e ≡ true → y ≡ z
both_named y z e h k =
    let a = named_by y (declared_name e) h in
    let b = named_by z (declared_name e) k in
    let same : Some a.0 ≡ Some b.0 = sym a.1 ∙ b.1 in
    let names : a.0 ≡ b.0 = cc in
    a.2 ∙ ap (λ (n : Name). n.text) names ∙ sym b.2

module _ (of_kind : Declaration → Bool) where
  at_first : (y : List ℕ) (e : Declaration) (ds : List Declaration) → declares y e ≡ true → number_among of_kind (e ∷ ds) y ≡ 0
  at_first y e ds h = ap (λ b. if b then 0 else (if of_kind e then 1 else 0) + number_among of_kind ds y) h

  past_first : (y : List ℕ) (e : Declaration) (ds : List Declaration) → declares y e ≡ false → number_among of_kind (e ∷ ds) y ≡ (if of_kind e then 1 else 0) + number_among of_kind ds y
  past_first y e ds h = ap (λ b. if b then 0 else (if of_kind e then 1 else 0) + number_among of_kind ds y) h

  first_is : (y : List ℕ) (e d : Declaration) (ds : List Declaration) → declares y e ≡ true → first_declaration (e ∷ ds) y ≡ Some d → e ≡ d
  first_is y e d ds h is = let k : Some e ≡ Some d = sym (ap (λ c. cond c (Some e) (find (declares y) ds)) h) ∙ is in cc

  later_is : (y : List ℕ) (e d : Declaration) (ds : List Declaration) → declares y e ≡ false → first_declaration (e ∷ ds) y ≡ Some d → first_declaration ds y ≡ Some d
  later_is y e d ds h is = sym (ap (λ c. cond c (Some e) (find (declares y) ds)) h) ∙ is

  apart : (y z : List ℕ) (e d : Declaration) (ds : List Declaration) → declares y e ≡ true → declares z e ≡ false → first_declaration (e ∷ ds) y ≡ Some d → of_kind d ≡ true → number_among of_kind (e ∷ ds) y ≡ number_among of_kind (e ∷ ds) z → ⊥
  apart y z e d ds h k is kind same =
      let kind_e : of_kind e ≡ true = ap of_kind (first_is y e d ds h is) ∙ kind in
      let one : (if of_kind e then 1 else 0) ≡ 1 = ap (λ b. if b then 1 else 0) kind_e in
      let c : 0 ≡ 1 + number_among of_kind ds z = sym (at_first y e ds h) ∙ same ∙ past_first z e ds k ∙ ap (λ n. n + number_among of_kind ds z) one in
      omega (arith, c)

  one_by : (y z : List ℕ) (e d c : Declaration) (ds : List Declaration) (p q : Bool) → declares y e ≡ p → declares z e ≡ q → first_declaration (e ∷ ds) y ≡ Some d → of_kind d ≡ true → first_declaration (e ∷ ds) z ≡ Some c → of_kind c ≡ true
      → number_among of_kind (e ∷ ds) y ≡ number_among of_kind (e ∷ ds) z → (first_declaration ds y ≡ Some d → first_declaration ds z ≡ Some c → number_among of_kind ds y ≡ number_among of_kind ds z → y ≡ z) → y ≡ z
  one_by y z e d c ds true true h k is kind other kind2 same further = both_named y z e h k
  one_by y z e d c ds true false h k is kind other kind2 same further = absurd (apart y z e d ds h k is kind same)
  one_by y z e d c ds false true h k is kind other kind2 same further = absurd (apart z y e c ds k h other kind2 (sym same))
  one_by y z e d c ds false false h k is kind other kind2 same further =
      let first : ℕ = if of_kind e then 1 else 0 in
      let sums : first + number_among of_kind ds y ≡ first + number_among of_kind ds z = sym (past_first y e ds h) ∙ same ∙ past_first z e ds k in
      further (later_is y e d ds h is) (later_is z e c ds k other) (omega (arith, sums))

  one_name : (ds : List Declaration) (y z : List ℕ) (d c : Declaration) → first_declaration ds y ≡ Some d → of_kind d ≡ true → first_declaration ds z ≡ Some c → of_kind c ≡ true → number_among of_kind ds y ≡ number_among of_kind ds z → y ≡ z
  one_name [] y z d c is kind other kind2 same = absurd (let z : ⊥ = cc in z)
  one_name (e ∷ ds) y z d c is kind other kind2 same = one_by y z e d c ds (declares y e) (declares z e) refl refl is kind other kind2 same (λ a b n. one_name ds y z d c a kind b kind2 n)

one_symbol : (all : List Declaration) (x : Well.Symbol) (y z : List ℕ) → IsSymbol all x y → IsSymbol all x z → y ≡ z
one_symbol all x y z (relation_is places kind is) (relation_is others kind2 is2) =
    let d = relation_found (first_declaration all y) places kind in
    let c = relation_found (first_declaration all z) others kind2 in
    let e : Well.a_relation (relation_number all y) ≡ Well.a_relation (relation_number all z) = sym is ∙ is2 in
    one_name Kinds.is_relation all y z (relation d.0 places) (relation c.0 others) d.1 refl c.1 refl (let k : relation_number all y ≡ relation_number all z = cc in k)
one_symbol all x y z (relation_is places kind is) (individual_is type kind2 is2) = absurd (let e : Well.a_relation (relation_number all y) ≡ Well.an_individual (individual_number all z) = sym is ∙ is2 in let z : ⊥ = cc in z)
one_symbol all x y z (individual_is type kind is) (relation_is others kind2 is2) = absurd (let e : Well.an_individual (individual_number all y) ≡ Well.a_relation (relation_number all z) = sym is ∙ is2 in let z : ⊥ = cc in z)
one_symbol all x y z (individual_is type kind is) (individual_is other kind2 is2) =
    let d = individual_found (first_declaration all y) type kind in
    let c = individual_found (first_declaration all z) other kind2 in
    let e : Well.an_individual (individual_number all y) ≡ Well.an_individual (individual_number all z) = sym is ∙ is2 in
    one_name Kinds.is_individual all y z (individual d.0 type) (individual c.0 other) d.1 refl c.1 refl (let k : individual_number all y ≡ individual_number all z = cc in k)

-- what an axiom names, it mentions
over_names : (x : Well.Symbol) (universal : Bool) (types vs : List ℕ) (f : Model.Formula) → Well.names x (over universal types vs f) ≡ Well.names x f
over_names x universal types [] f = refl
over_names x true types (v ∷ vs) f = over_names x true types vs (over_one true v _ f)
over_names x false types (v ∷ vs) f = over_names x false types vs (over_one false v _ f)

compared_names : (x : Well.Symbol) (op : Op) (a b : Model.Term) → Well.names x (compared op a b) ≡ true → (Well.term_names x a || Well.term_names x b) ≡ true
compared_names x Equal a b h = h
compared_names x Unequal a b h = h
compared_names x Less a b h = h
compared_names x LessEqual a b h = h

element_kind : (all : List Declaration) (y : List ℕ) (k : Kind) (type : Name) → declared_kind all y ≡ k → element_type k ≡ Some type → declared_kind all y ≡ an_individual type
element_kind all y (a_relation places) type e h = absurd (let z : ⊥ = cc in z)
element_kind all y (a_local other) type e h = absurd (no_local_found _ other e)
element_kind all y neither type e h = absurd (let z : ⊥ = cc in z)
element_kind all y (an_individual other) type e h = let same : other ≡ type = cc in e ∙ ap an_individual same

module _ (all : List Declaration) (here : ℕ) (role : Role) (x : Well.Symbol) where
  abbrev Mentions : List Site → Type 0
  Mentions sites = (y : Name) × Contains sites (mention_at (context_at all here) role y) × IsSymbol all x y.text

  in_left : (a b : List Site) → Mentions a → Mentions (a ++ b)
  in_left a b h = (h.0, Contains-append_left a b (mention_at (context_at all here) role h.0) h.1, h.2)

  in_right : (a b : List Site) → Mentions b → Mentions (a ++ b)
  in_right a b h = (h.0, Contains-append_right a b (mention_at (context_at all here) role h.0) h.1, h.2)

  term_mentions : (n : Naming) (expected : Option Name) (t : Arg) → AreUnbroken (term_output (context_at all here) role n expected t).sites → Well.term_names x (term_in (scope_at all here) n t) ≡ true → Mentions (term_output (context_at all here) role n expected t).sites
  term_mentions n expected (Variable name type) u h = absurd (let z : ⊥ = cc in z)
  term_mentions n expected (Symbol name) u h =
      let ctx = context_at all here in
      let mention = mention_at ctx role name in
      let term = term_at ctx expected name in
      let k = term_element ctx expected name (mention ∷ term ∷ []) u (in_tail mention (term ∷ []) term (in_head term [])) in
      (name, in_head mention (term ∷ []), individual_is k.0 (element_kind all name.text (declared_kind all name.text) k.0 refl k.1) (individual_by x (individual_number all name.text) h))

  terms_mention : (n : Naming) (places : List Binder) (ts : List Arg) → AreUnbroken (terms_output (context_at all here) role n places ts).sites → list_any (Well.term_names x) (terms_in (scope_at all here) n ts) ≡ true
      → Mentions (terms_output (context_at all here) role n places ts).sites
  terms_mention n places [] u h = absurd (let z : ⊥ = cc in z)
  terms_mention n [] (t ∷ ts) u h =
      let one = (term_output (context_at all here) role n None t).sites in
      let rest = (terms_output (context_at all here) role (after_term n t) [] ts).sites in
      ⊎_elim (λ k. in_left one rest (term_mentions n None t (unbroken_left one rest u) k)) (λ k. in_right one rest (terms_mention (after_term n t) [] ts (unbroken_right one rest u) k))
      (by_or (Well.term_names x (term_in (scope_at all here) n t)) (list_any (Well.term_names x) (terms_in (scope_at all here) (after_term n t) ts)) h)
  terms_mention n (p ∷ places) (t ∷ ts) u h =
      let one = (term_output (context_at all here) role n (Some (type_of p)) t).sites in
      let rest = (terms_output (context_at all here) role (after_term n t) places ts).sites in
      ⊎_elim (λ k. in_left one rest (term_mentions n (Some (type_of p)) t (unbroken_left one rest u) k)) (λ k. in_right one rest (terms_mention (after_term n t) places ts (unbroken_right one rest u) k))
      (by_or (Well.term_names x (term_in (scope_at all here) n t)) (list_any (Well.term_names x) (terms_in (scope_at all here) (after_term n t) ts)) h)

  mutual
    formula_mentions : (types : List ℕ) (force : Force) (n : Naming) (f : Formula) → AreUnbroken (formula_output (context_at all here) role force n f).sites → Well.names x (formula_in (scope_at all here) types n f) ≡ true → Mentions (formula_output (context_at all here) role force n f).sites
    formula_mentions types force n (truth b) u h = absurd (let z : ⊥ = cc in z)
    formula_mentions types force n (atom name args) u h =
        let ctx = context_at all here in
        let mention = mention_at ctx role name in
        let site = atom_at ctx name args in
        let first = mention ∷ site ∷ [] in
        let rest = (terms_output ctx role n (places_of (kind_in ctx name.text)) args).sites in
        let k = atom_places ctx name args first (unbroken_left first rest u) (in_tail mention (site ∷ []) site (in_head site [])) in
        ⊎_elim
        (λ r. in_left first rest (name, in_head mention (site ∷ []), relation_is k.0 (relation_declared ctx name.text k.0 k.1) (relation_by x (relation_number all name.text) r)))
        (λ r. in_right first rest (terms_mention n (places_of (kind_in ctx name.text)) args (unbroken_right first rest u) r))
        (by_or (Well.is_relation x (relation_number all name.text)) (list_any (Well.term_names x) (terms_in (scope_at all here) n args)) h)
    formula_mentions types force n (comparison a op b) u h =
        let ctx = context_at all here in
        let one = (term_output ctx role n (type_beside ctx a b) a).sites in
        let two = (term_output ctx role (after_term n a) (type_beside ctx b a) b).sites in
        let last = compared_at ctx a op b ∷ [] in
        let left = term_in (scope_at all here) n a in
        let right = term_in (scope_at all here) (after_term n a) b in
        ⊎_elim
        (λ k. in_left one (two ++ last) (term_mentions n (type_beside ctx a b) a (unbroken_left one (two ++ last) u) k))
        (λ k. in_right one (two ++ last) (in_left two last (term_mentions (after_term n a) (type_beside ctx b a) b (unbroken_left two last (unbroken_right one (two ++ last) u)) k)))
        (by_or (Well.term_names x left) (Well.term_names x right) (compared_names x op left right h))
    formula_mentions types force n (negation f) u h = formula_mentions types (negated force) n f u h
    formula_mentions types force n (conjunction fs) u h = formulas_mention types force n fs u h
    formula_mentions types force n (disjunction fs) u h = formulas_mention types force n fs u h
    formula_mentions types force n (equivalence fs) u h = formulas_mention types (within_equivalence force) n fs u h
    formula_mentions types force n (implication f g) u h =
        let one = (formula_output (context_at all here) role (negated force) n f).sites in
        let two = (formula_output (context_at all here) role force (after_formula n f) g).sites in
        ⊎_elim (λ k. in_left one two (formula_mentions types (negated force) n f (unbroken_left one two u) k)) (λ k. in_right one two (formula_mentions types force (after_formula n f) g (unbroken_right one two u) k))
        (by_or (Well.names x (formula_in (scope_at all here) types n f)) (Well.names x (formula_in (scope_at all here) types (after_formula n f) g)) h)
    formula_mentions types force n (quantified universal binders f at) u h =
        let first = (quantifier_output role force universal at).sites in
        let names = (binders_output (context_at all here) (not (is_universal_in force universal)) (at_quantifier n) [] binders).sites in
        let body = (formula_output (context_at all here) role (within force universal) (entered n binders) f).sites in
        let inside = sym (over_names x universal types (bound_by (at_quantifier n) binders).own (formula_in (scope_at all here) types (entered n binders) f)) ∙ h in
        in_right first (names ++ body) (in_right names body (formula_mentions types (within force universal) (entered n binders) f (unbroken_right names body (unbroken_right first (names ++ body) u)) inside))

    formulas_mention : (types : List ℕ) (force : Force) (n : Naming) (fs : Formulas) → AreUnbroken (formulas_output (context_at all here) role force n fs).sites → Well.some_names x (formulas_in (scope_at all here) types n fs) ≡ true → Mentions (formulas_output (context_at all here) role force n fs).sites
    formulas_mention types force n no_formulas u h = absurd (let z : ⊥ = cc in z)
    formulas_mention types force n (with_formula f fs) u h =
        let one = (formula_output (context_at all here) role force n f).sites in
        let two = (formulas_output (context_at all here) role force (after_formula n f) fs).sites in
        ⊎_elim (λ k. in_left one two (formula_mentions types force n f (unbroken_left one two u) k)) (λ k. in_right one two (formulas_mention types force (after_formula n f) fs (unbroken_right one two u) k))
        (by_or (Well.names x (formula_in (scope_at all here) types n f)) (Well.some_names x (formulas_in (scope_at all here) types (after_formula n f) fs)) h)

  sentence_mentions : (f : Formula) (g : Model.Formula) → AreUnbroken (sentence_sites (context_at all here) role f) → IsSentence (scope_at all here) role f g → Well.names x g ≡ true → Mentions (sentence_sites (context_at all here) role f)
  sentence_mentions f g u sentence h =
      let o = sentence_output (context_at all here) role f in
      let last = whole_at (whole_of (context_at all here) role (after_formula no_variables f) o) ∷ [] in
      let body = formula_in (scope_at all here) sentence.types no_variables f in
      let inside = sym (over_names x true sentence.types (reverse (after_formula no_variables f).free) body) ∙ sym (ap (Well.names x) sentence.same) ∙ h in
      in_left o.sites last (formula_mentions sentence.types outermost no_variables f (unbroken_left o.sites last u) inside)

-- what a block assigns is a target of it
pub joined_assigns : (x : Well.Symbol) (a b : Model.Statements) → Well.some_assigns x (joined a b) ≡ true → (Well.some_assigns x a ≡ true) ⊎ (Well.some_assigns x b ≡ true)
joined_assigns x Model.no_statements b h = inr h
joined_assigns x (Model.with_statement c rest) b h =
    ⊎_elim (λ k. inl (ap (λ v. v || Well.some_assigns x rest) k))
    (λ k. ⊎_elim (λ r. inl (later (Well.assigns x c) (Well.some_assigns x rest) r)) (λ r. inr r) (joined_assigns x rest b k))
    (by_or (Well.assigns x c) (Well.some_assigns x (joined rest b)) h)
  where
    later : (a b : Bool) → b ≡ true → (a || b) ≡ true
    later true b h = refl
    later false b h = h

alone_assigns : (x : Well.Symbol) (c : Model.Statement) → (Well.assigns x c || false) ≡ true → Well.assigns x c ≡ true
alone_assigns x c h = ⊎_elim (λ k. k) (λ k. absurd (let z : ⊥ = cc in z)) (by_or (Well.assigns x c) false h)

abbrev pub Assigned : List Declaration → Well.Symbol → List (List ℕ) → Type 0
Assigned all x targets = (z : List ℕ) × Contains targets z × IsSymbol all x z

assigned_left : (all : List Declaration) (x : Well.Symbol) (a b : List (List ℕ)) → Assigned all x a → Assigned all x (a ++ b)
assigned_left all x a b h = (h.0, Contains-append_left a b h.0 h.1, h.2)

assigned_right : (all : List Declaration) (x : Well.Symbol) (a b : List (List ℕ)) → Assigned all x b → Assigned all x (a ++ b)
assigned_right all x a b h = (h.0, Contains-append_right a b h.0 h.1, h.2)

update_assigns : (scope : Scope) (x : Well.Symbol) (kind : Kind) (name : Name) (args : List Arg) (f : Formula) (c : Model.Statement) → kind_in scope.context name.text ≡ kind → IsUpdate scope kind name args f c → Well.assigns x c ≡ true
    → Assigned scope.context.declarations x (name.text ∷ [])
update_assigns scope x (a_relation places) name args f c e is h =
    let k = sym (ap (Well.assigns x) is.same) ∙ h in
    (name.text, in_head name.text [], relation_is places (relation_declared scope.context name.text places e) (relation_by x (relation_number scope.context.declarations name.text) k))
update_assigns scope x (an_individual type) name args f c e is h =
    let k = sym (ap (Well.assigns x) is.same) ∙ h in
    (name.text, in_head name.text [], individual_is type (individual_declared scope.context name.text type e) (individual_by x (individual_number scope.context.declarations name.text) k))
update_assigns scope x (a_local type) name args f c e is h = absurd is
update_assigns scope x neither name args f c e is h = absurd is

mutual
  statement_assigns : (x : Well.Symbol) (scope : Scope) (next : ℕ) (s : Statement) (out : Model.Statements) → Directs scope next s out → Well.some_assigns x out ≡ true → Assigned scope.context.declarations x (targets_of s)
  statement_assigns x scope next (requirement f) out d h = absurd (let k : (false || false) ≡ true = sym (ap (Well.some_assigns x) d.2) ∙ h in let z : ⊥ = cc in z)
  statement_assigns x scope next (assignment name args f) out d h =
      update_assigns scope x (kind_in scope.context name.text) name args f d.0 refl d.1 (alone_assigns x d.0 (sym (ap (Well.some_assigns x) d.2) ∙ h))
  statement_assigns x scope next (conditional f first second) out d h =
      let ds = scope.context.declarations in
      let one = targets_in first in
      let two = targets_in second in
      let k = alone_assigns x (Model.conditional d.0 d.1 d.2) (sym (ap (Well.some_assigns x) d.6) ∙ h) in
      ⊎_elim (λ r. assigned_left ds x one two (statements_assign x scope next first d.1 d.4 r)) (λ r. assigned_right ds x one two (statements_assign x scope (next + length (locals_in first)) second d.2 d.5 r))
      (by_or (Well.some_assigns x d.1) (Well.some_assigns x d.2) k)
  statement_assigns x scope next (with_locals binders body) out d h = statements_assign x (with_terms scope binders (choices_from next binders)) (next + length binders) body out d h

  pub statements_assign : (x : Well.Symbol) (scope : Scope) (next : ℕ) (ss : Statements) (out : Model.Statements) → DirectEach scope next ss out → Well.some_assigns x out ≡ true → Assigned scope.context.declarations x (targets_in ss)
  statements_assign x scope next no_statements out d h = absurd (let k : false ≡ true = sym (ap (Well.some_assigns x) d) ∙ h in let z : ⊥ = cc in z)
  statements_assign x scope next (with_statement s ss) out d h =
      let ds = scope.context.declarations in
      let one = targets_of s in
      let two = targets_in ss in
      ⊎_elim (λ r. assigned_left ds x one two (statement_assigns x scope next s d.0 d.2 r)) (λ r. assigned_right ds x one two (statements_assign x scope (next + length (locals_of s)) ss d.1 d.3 r))
      (joined_assigns x d.0 d.1 (sym (ap (Well.some_assigns x) d.4) ∙ h))

-- the rule on axioms
among_there : (z : List ℕ) (names : List (List ℕ)) → Contains names z → is_among z names ≡ true
among_there z [] h = absurd (not_in_nil z h)
among_there z (n ∷ names) h =
    ⊎_elim (λ (same : n ≡ z). ap (λ b. b || is_among z names) (ap (same_text z) same ∙ same_self z)) (λ k. later (same_text z n) (is_among z names) (among_there z names k)) (in_cases n names z h)
  where
    later : (a b : Bool) → b ≡ true → (a || b) ≡ true
    later true b h = refl
    later false b h = h

symbol_kind : (all : List Declaration) (x : Well.Symbol) (y : List ℕ) → IsSymbol all x y → (is_relation (declared_kind all y) || is_individual (declared_kind all y)) ≡ true
symbol_kind all x y (relation_is places kind is) = ap (λ k. is_relation k || is_individual k) kind
symbol_kind all x y (individual_is type kind is) = ap (λ k. is_relation k || is_individual k) kind

pub not_assigned : (all : List Declaration) (here : ℕ) (assigned : List (List ℕ)) (x : Well.Symbol) (f : Formula) (g : Model.Formula) (z : List ℕ) → AreUnbroken (sentence_sites (context_at all here) (as_axiom assigned) f) → IsSentence (scope_at all here) (as_axiom assigned) f g
    → Well.names x g ≡ true → IsSymbol all x z → Contains assigned z → ⊥
not_assigned all here assigned x f g z unbroken sentence names is there =
    let ctx = context_at all here in
    let m = sentence_mentions all here (as_axiom assigned) x f g unbroken sentence names in
    let y = m.0 in
    let same : y.text ≡ z = one_symbol all x y.text z m.2 is in
    let kinds = is_relation (kind_in ctx y.text) || is_individual (kind_in ctx y.text) in
    let no = holds_not (is_among y.text assigned && kinds) y.at (λ h. unbroken (mention_at ctx (as_axiom assigned) y) m.1 27 y.at (breaks_27 refl h)) in
    let among : is_among y.text assigned ≡ true = ap (λ t. is_among t assigned) same ∙ among_there z assigned there in
    let yes : (is_among y.text assigned && kinds) ≡ true = λ i. among i && symbol_kind all x y.text m.2 i in
    let k : true ≡ false = sym yes ∙ no in
    let r : ⊥ = cc in
    r
