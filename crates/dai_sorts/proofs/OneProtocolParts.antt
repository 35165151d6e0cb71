-- A sentence and the statements of a block that break no rule stand for one formula and one block each.
use Rattle.std.proofs.Common.{◌≡◌, ℕ, zero, suc, ◌+◌, ◌<◌, true, List, [], ◌∷◌, length, Some, ap, sym, ◌∙◌, refl, inl, inr, ⊎_elim, arith}
use Rattle.std.specs.Prelude.{◌⊎◌, reverse, slice_get}
use Rattle.std.specs.List.{Contains}
use Rattle.std.proofs.lemmas.List.Elements.{Contains-push}
use Rattle.dai_model.specs.Formula as Model
use Rattle.dai_syntax.specs.declared.tree.Name.{Name}
use Rattle.dai_syntax.specs.declared.tree.Arg.{Arg}
use Rattle.dai_syntax.specs.Tree.{Formula, atom, Statement, requirement, assignment, conditional, with_locals, Statements, no_statements, with_statement, Declaration}
use Rattle.dai_rules.specs.Names.{Kind, a_relation, an_individual, a_local, neither, kind_in}
use Rattle.dai_rules.specs.Naming.{no_variables, after_terms, after_formula}
use Rattle.dai_rules.specs.Types.{HasType}
use Rattle.dai_rules.specs.Sites.{Role, as_requirement, as_value, Site, Whole, whole_at, whole_of, sentence_output, sentence_sites, update_output, update_sites, update_role}
use Rattle.dai_rules.specs.Rules.{two_types}
use Rattle.dai_sorts.specs.Scopes.{Scope, type_number, with_terms, choices_from, relation_number, individual_number, symbol_term, terms_in}
use Rattle.dai_sorts.specs.Formulas.{over, formula_in, AreTypes, IsSentence}
use Rattle.dai_sorts.specs.Statements.{locals_of, locals_in, joined, alone, UpdatesRelation, UpdatesIndividual, IsUpdate, Directs, DirectEach}
use Rattle.dai_sorts.specs.Sound.{AreUnbroken, IsSound, AreSound}

numbers_cases : (x y : ℕ) → (x ≡ y) ⊎ (x ≡ y → ⊥)
numbers_cases zero zero = inl refl
numbers_cases zero (suc y) = inr (λ e. let k : ⊥ = omega arith in k)
numbers_cases (suc x) zero = inr (λ e. let k : ⊥ = omega arith in k)
numbers_cases (suc x) (suc y) = ⊎_elim (λ e. inl (ap suc e)) (λ ne. inr (λ e. ne (omega arith))) (numbers_cases x y)

texts_cases : (a b : List ℕ) → (a ≡ b) ⊎ (a ≡ b → ⊥)
texts_cases [] [] = inl refl
texts_cases [] (y ∷ b) = inr (λ e. let k : ⊥ = cc in k)
texts_cases (x ∷ a) [] = inr (λ e. let k : ⊥ = cc in k)
texts_cases (x ∷ a) (y ∷ b) =
    ⊎_elim
    (λ e. ⊎_elim (λ f. inl (λ i. e i ∷ f i)) (λ ne. inr (λ f. ne (cc f))) (texts_cases a b))
    (λ ne. inr (λ f. ne (cc f)))
    (numbers_cases x y)

get_some : {X : Type 0} (xs : List X) (i : ℕ) → i < length xs → (x : X) × (slice_get xs i ≡ Some x)
get_some [] i h = absurd (omega arith)
get_some (x ∷ xs) zero h = (x, refl)
get_some (x ∷ xs) (suc i) h = get_some xs i (omega arith)

same_lists : {X : Type 0} (xs ys : List X) → length xs ≡ length ys → ((i : ℕ) → i < length xs → slice_get xs i ≡ slice_get ys i) → xs ≡ ys
same_lists [] [] n each = refl
same_lists [] (y ∷ ys) n each = absurd (omega arith)
same_lists (x ∷ xs) [] n each = absurd (omega arith)
same_lists (x ∷ xs) (y ∷ ys) n each =
    let first : Some x ≡ Some y = each 0 (omega arith) in
    let head : x ≡ y = cc in
    let tail = same_lists xs ys (omega arith) (λ i h. each (suc i) (omega arith)) in
    λ i. head i ∷ tail i

-- two types of a variable, where no variable has two
one_type : (sites : List Site) (w : Whole) (v : ℕ) (s t : List ℕ) → AreUnbroken sites → Contains sites (whole_at w) → v < length w.variables → HasType w.uses v s → HasType w.uses v t → s ≡ t
one_type sites w v s t unbroken there below has_s has_t =
    let name = get_some w.variables v below in
    ⊎_elim (λ e. e)
    (λ ne. absurd (unbroken (whole_at w) there 24 name.0.at (two_types refl (record { variable = v; one = s; other = t; stands = (name.0, name.1, refl); has_one = has_s; has_other = has_t; differ = ne }))))
    (texts_cases s t)

one_types : (ds : List Declaration) (sites : List Site) (w : Whole) (ss ts : List ℕ) → AreUnbroken sites → Contains sites (whole_at w) → AreTypes ds w.variables w.uses ss → AreTypes ds w.variables w.uses ts → ss ≡ ts
one_types ds sites w ss ts unbroken there one other =
    let count_one = one.count in
    let count_other = other.count in
    same_lists ss ts (omega arith)
    (λ v h.
    let below : v < length w.variables = omega arith in
    let a = one.each v below in
    let b = other.each v below in
    a.2 ∙ ap (λ t. Some (type_number ds t)) (one_type sites w v a.0 b.0 unbroken there below a.1 b.1) ∙ sym b.2)

-- sentences
pub one_sentence : (scope : Scope) (role : Role) (f : Formula) (g h : Model.Formula) → AreUnbroken (sentence_sites scope.context role f) → IsSentence scope role f g → IsSentence scope role f h → g ≡ h
one_sentence scope role f g h unbroken one other =
    let w = whole_of scope.context role (after_formula no_variables f) (sentence_output scope.context role f) in
    let same = one_types scope.context.declarations (sentence_sites scope.context role f) w one.types other.types unbroken (Contains-push (sentence_output scope.context role f).sites (whole_at w)) one.typed other.typed in
    one.same ∙ ap (λ ts. over true ts (reverse (after_formula no_variables f).free) (formula_in scope ts no_variables f)) same ∙ sym other.same

-- updates
one_relation_update : (scope : Scope) (name : Name) (args : List Arg) (f : Formula) (c d : Model.Statement) → AreUnbroken (update_sites scope.context name args f) → UpdatesRelation scope name args f c → UpdatesRelation scope name args f d → c ≡ d
one_relation_update scope name args f c d unbroken one other =
    let w = whole_of scope.context (update_role args) (after_formula (after_terms no_variables args) f) (update_output scope.context name args f) in
    let same = one_types scope.context.declarations (update_sites scope.context name args f) w one.types other.types unbroken (Contains-push (update_output scope.context name args f).sites (whole_at w)) one.typed other.typed in
    one.same ∙ ap (λ ts. Model.update_relation (relation_number scope.context.declarations name.text) (terms_in scope no_variables args) (formula_in scope ts (after_terms no_variables args) f)) same ∙ sym other.same

one_individual_update : (scope : Scope) (name : Name) (f : Formula) (c d : Model.Statement) → UpdatesIndividual scope name f c → UpdatesIndividual scope name f d → c ≡ d
one_individual_update scope name f c d one other =
    let bare : atom one.to [] ≡ atom other.to [] = sym one.bare ∙ other.bare in
    let to : one.to ≡ other.to = cc in
    one.same ∙ ap (λ (n : Name). Model.update_individual (individual_number scope.context.declarations name.text) (symbol_term scope n.text)) to ∙ sym other.same

one_update : (scope : Scope) (kind : Kind) (name : Name) (args : List Arg) (f : Formula) (c d : Model.Statement) → AreUnbroken (update_sites scope.context name args f) → IsUpdate scope kind name args f c → IsUpdate scope kind name args f d → c ≡ d
one_update scope (a_relation places) name args f c d unbroken one other = one_relation_update scope name args f c d unbroken one other
one_update scope (an_individual type) name args f c d unbroken one other = one_individual_update scope name f c d one other
one_update scope (a_local type) name args f c d unbroken one other = absurd one
one_update scope neither name args f c d unbroken one other = absurd one

-- statements
mutual
  pub one_block : (scope : Scope) (next : ℕ) (s : Statement) (cs ds : Model.Statements) → IsSound scope.context s → Directs scope next s cs → Directs scope next s ds → cs ≡ ds
  one_block scope next (requirement f) cs ds sound one other =
      one.2 ∙ ap (λ g. alone (Model.requirement g)) (one_sentence scope as_requirement f one.0 other.0 sound one.1 other.1) ∙ sym other.2
  one_block scope next (assignment name args f) cs ds sound one other =
      one.2 ∙ ap alone (one_update scope (kind_in scope.context name.text) name args f one.0 other.0 sound one.1 other.1) ∙ sym other.2
  one_block scope next (conditional f first second) cs ds sound one other =
      let g = one_sentence scope (as_value []) f one.0 other.0 sound.0 one.3 other.3 in
      let a = one_blocks scope next first one.1 other.1 sound.1 one.4 other.4 in
      let b = one_blocks scope (next + length (locals_in first)) second one.2 other.2 sound.2 one.5 other.5 in
      one.6 ∙ (λ i. alone (Model.conditional (g i) (a i) (b i))) ∙ sym other.6
  one_block scope next (with_locals binders body) cs ds sound one other =
      one_blocks (with_terms scope binders (choices_from next binders)) (next + length binders) body cs ds sound one other

  pub one_blocks : (scope : Scope) (next : ℕ) (ss : Statements) (cs ds : Model.Statements) → AreSound scope.context ss → DirectEach scope next ss cs → DirectEach scope next ss ds → cs ≡ ds
  one_blocks scope next no_statements cs ds sound one other = one ∙ sym other
  one_blocks scope next (with_statement s ss) cs ds sound one other =
      let a = one_block scope next s one.0 other.0 sound.0 one.2 other.2 in
      let b = one_blocks scope (next + length (locals_of s)) ss one.1 other.1 sound.1 one.3 other.3 in
      one.4 ∙ (λ i. joined (a i) (b i)) ∙ sym other.4
