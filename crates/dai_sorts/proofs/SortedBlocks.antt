-- The statements of a block that breaks no rule are well-sorted.
use Rattle.std.proofs.Common.{◌≡◌, ℕ, ◌+◌, ◌<◌, List, [], ◌∷◌, ◌++◌, length, map, Some, ap, sym, refl, subst, arith, length-append}
use Rattle.std.specs.Prelude.{slice_get}
use Rattle.std.specs.List.{All, AllByRecursion, AllZip}
use Rattle.std.proofs.lemmas.List.Elements.{All-nil, All-cons, All-same}
use Rattle.dai_syntax.specs.declared.tree.Binder.{Binder}
use Rattle.dai_syntax.specs.declared.tree.Name.{Name}
use Rattle.dai_syntax.specs.declared.tree.Arg.{Arg}
use Rattle.dai_syntax.specs.Tree.{Formula, Statement, requirement, assignment, conditional, with_locals, Statements, no_statements, with_statement, Declaration}
use Rattle.dai_model.specs.Formula as Model
use Rattle.dai_model.specs.Protocol.{Protocol, Block, Action}
use Rattle.dai_model.specs.WellSorted.{Scope as Sorts, IsWellSortedStatement, IsWellSortedCode, IsWellSortedBlock}
use Rattle.dai_rules.specs.Names.{Kind, a_relation, an_individual, a_local, neither, kind_in, type_of, with_inside}
use Rattle.dai_rules.specs.Sites.{as_requirement, as_value, update_sites, context_at}
use Rattle.dai_sorts.specs.Scopes.{Scope, binder_type, scope_at, with_terms, parameters_from, choices_from}
use Rattle.dai_sorts.specs.Statements.{locals_of, locals_in, joined, IsUpdate, Directs, DirectEach}
use Rattle.dai_sorts.specs.Protocols.{Placed, WrittenAction, init_locals, Initiate, IsInit, IsAction}
use Rattle.dai_sorts.specs.Sound.{AreUnbroken, IsSound, AreSound}
use Rattle.dai_sorts.proofs.SortedTerms.{sorts_with, IsFile, type_below, IsLocal, Fits}
use Rattle.dai_sorts.proofs.SortedUses.{AreTypesOf}
use Rattle.dai_sorts.proofs.SortedSentences.{no_sorts, sentence_sorted}
use Rattle.dai_sorts.proofs.SortedUpdates.{relation_update_sorted, individual_update_sorted}

-- the parameters or locals of a block from a number on
abbrev pub AreAt : List Declaration → List ℕ → ℕ → List Binder → Type 0
AreAt ds cs next [] = Unit {0}
AreAt ds cs next (b ∷ bs) = (slice_get cs next ≡ Some (binder_type ds b)) × AreAt ds cs (next + 1) bs

at_left : (ds : List Declaration) (cs : List ℕ) (next : ℕ) (a b : List Binder) → AreAt ds cs next (a ++ b) → AreAt ds cs next a
at_left ds cs next [] b h = tt
at_left ds cs next (x ∷ a) b h = (h.0, at_left ds cs (next + 1) a b h.1)

at_right : (ds : List Declaration) (cs : List ℕ) (next : ℕ) (a b : List Binder) → AreAt ds cs next (a ++ b) → AreAt ds cs (next + length a) b
at_right ds cs next [] b h = let k : next ≡ next + 0 = omega arith in subst (λ n. AreAt ds cs n b) k h
at_right ds cs next (x ∷ a) b h =
    let k : (next + 1) + length a ≡ next + length (x ∷ a) = omega arith in
    subst (λ n. AreAt ds cs n b) k (at_right ds cs (next + 1) a b h.1)

types_left : (ds : List Declaration) (a b : List Binder) → AreTypesOf ds (a ++ b) → AreTypesOf ds a
types_left ds [] b h = tt
types_left ds (x ∷ a) b h = (h.0, types_left ds a b h.1)

types_right : (ds : List Declaration) (a b : List Binder) → AreTypesOf ds (a ++ b) → AreTypesOf ds b
types_right ds [] b h = h
types_right ds (x ∷ a) b h = types_right ds a b h.1

choices_fit : (P : Protocol) (ds : List Declaration) (ps cs : List ℕ) (next : ℕ) (bs : List Binder) → AreTypesOf ds bs → AreAt ds cs next bs → AllZip (IsLocal P ds ps cs) bs (choices_from next bs)
choices_fit P ds ps cs next [] h k = tt
choices_fit P ds ps cs next (b ∷ bs) h k = ((h.0, λ vars. k.0), choices_fit P ds ps cs (next + 1) bs h.1 k.1)

parameters_fit : (P : Protocol) (ds : List Declaration) (ps cs : List ℕ) (next : ℕ) (bs : List Binder) → AreTypesOf ds bs → AreAt ds ps next bs → AllZip (IsLocal P ds ps cs) bs (parameters_from next bs)
parameters_fit P ds ps cs next [] h k = tt
parameters_fit P ds ps cs next (b ∷ bs) h k = ((h.0, λ vars. k.0), parameters_fit P ds ps cs (next + 1) bs h.1 k.1)

zip_append : {X Y : Type 0} (R : X → Y → Type 0) (xs us : List X) (ys vs : List Y) → AllZip R xs ys → AllZip R us vs → AllZip R (xs ++ us) (ys ++ vs)
zip_append R [] us [] vs h k = k
zip_append R [] us (y ∷ ys) vs h k = absurd h
zip_append R (x ∷ xs) us [] vs h k = absurd h
zip_append R (x ∷ xs) us (y ∷ ys) vs h k = (h.0, zip_append R xs us ys vs h.1 k)

joined_sorted : (P : Protocol) (S : Sorts) (a b : Model.Statements) → IsWellSortedCode P S a → IsWellSortedCode P S b → IsWellSortedCode P S (joined a b)
joined_sorted P S Model.no_statements b h k = k
joined_sorted P S (Model.with_statement c rest) b h k = (h.0, joined_sorted P S rest b h.1 k)

update_sorted : (P : Protocol) (scope : Scope) (ps cs : List ℕ) (kind : Kind) (name : Name) (args : List Arg) (f : Formula) (c : Model.Statement) → IsFile scope.context.declarations P → Fits P ps cs scope → AreUnbroken (update_sites scope.context name args f)
    → kind_in scope.context name.text ≡ kind → IsUpdate scope kind name args f c → IsWellSortedStatement P (sorts_with no_sorts ps cs) c
update_sorted P scope ps cs (a_relation places) name args f c file fits sound e h = relation_update_sorted P scope ps cs name args f places c file fits sound e h
update_sorted P scope ps cs (an_individual type) name args f c file fits sound e h = individual_update_sorted P scope ps cs name args f type c file fits sound e h
update_sorted P scope ps cs (a_local type) name args f c file fits sound e h = absurd h
update_sorted P scope ps cs neither name args f c file fits sound e h = absurd h

mutual
  statement_sorted : (P : Protocol) (scope : Scope) (ps cs : List ℕ) (next : ℕ) (s : Statement) (out : Model.Statements) → IsFile scope.context.declarations P → Fits P ps cs scope → IsSound scope.context s
      → AreTypesOf scope.context.declarations (locals_of s) → AreAt scope.context.declarations cs next (locals_of s) → Directs scope next s out → IsWellSortedCode P (sorts_with no_sorts ps cs) out
  statement_sorted P scope ps cs next (requirement f) out file fits sound types at d =
      subst (IsWellSortedCode P (sorts_with no_sorts ps cs)) (sym d.2) (sentence_sorted P scope ps cs as_requirement f d.0 file fits sound d.1, tt)
  statement_sorted P scope ps cs next (assignment name args f) out file fits sound types at d =
      subst (IsWellSortedCode P (sorts_with no_sorts ps cs)) (sym d.2) (update_sorted P scope ps cs (kind_in scope.context name.text) name args f d.0 file fits sound refl d.1, tt)
  statement_sorted P scope ps cs next (conditional f first second) out file fits sound types at d =
      let ds = scope.context.declarations in
      let one = locals_in first in
      let two = locals_in second in
      subst (IsWellSortedCode P (sorts_with no_sorts ps cs)) (sym d.6) (
        (
          sentence_sorted P scope ps cs (as_value []) f d.0 file fits sound.0 d.3,
          statements_sorted P scope ps cs next first d.1 file fits sound.1 (types_left ds one two types) (at_left ds cs next one two at) d.4,
          statements_sorted P scope ps cs (next + length one) second d.2 file fits sound.2 (types_right ds one two types) (at_right ds cs next one two at) d.5,
        ),
        tt,
      )
  statement_sorted P scope ps cs next (with_locals binders body) out file fits sound types at d =
      let ds = scope.context.declarations in
      let rest = locals_in body in
      let own = choices_fit P ds ps cs next binders (types_left ds binders rest types) (at_left ds cs next binders rest at) in
      let inside = zip_append (IsLocal P ds ps cs) scope.context.inside binders scope.terms (choices_from next binders) fits own in
      statements_sorted P (with_terms scope binders (choices_from next binders)) ps cs (next + length binders) body out file inside sound (types_right ds binders rest types) (at_right ds cs next binders rest at) d

  pub statements_sorted : (P : Protocol) (scope : Scope) (ps cs : List ℕ) (next : ℕ) (ss : Statements) (out : Model.Statements) → IsFile scope.context.declarations P → Fits P ps cs scope → AreSound scope.context ss
      → AreTypesOf scope.context.declarations (locals_in ss) → AreAt scope.context.declarations cs next (locals_in ss) → DirectEach scope next ss out → IsWellSortedCode P (sorts_with no_sorts ps cs) out
  statements_sorted P scope ps cs next no_statements out file fits sound types at d = subst (IsWellSortedCode P (sorts_with no_sorts ps cs)) (sym d) tt
  statements_sorted P scope ps cs next (with_statement s ss) out file fits sound types at d =
      let ds = scope.context.declarations in
      let one = locals_of s in
      let two = locals_in ss in
      subst (IsWellSortedCode P (sorts_with no_sorts ps cs)) (sym d.4)
      (joined_sorted P (sorts_with no_sorts ps cs) d.0 d.1 (statement_sorted P scope ps cs next s d.0 file fits sound.0 (types_left ds one two types) (at_left ds cs next one two at) d.2)
      (statements_sorted P scope ps cs (next + length one) ss d.1 file fits sound.1 (types_right ds one two types) (at_right ds cs next one two at) d.3))

-- the types of all parameters or locals of a block
at_place : (before : List ℕ) (x : ℕ) (rest : List ℕ) → slice_get (before ++ x ∷ rest) (length before) ≡ Some x
at_place [] x rest = refl
at_place (y ∷ before) x rest = at_place before x rest

one_then : (before : List ℕ) (x : ℕ) (rest : List ℕ) → (before ++ x ∷ []) ++ rest ≡ before ++ x ∷ rest
one_then [] x rest = refl
one_then (y ∷ before) x rest = ap (λ (l : List ℕ). y ∷ l) (one_then before x rest)

at_start : (ds : List Declaration) (before : List ℕ) (bs : List Binder) → AreAt ds (before ++ map (binder_type ds) bs) (length before) bs
at_start ds before [] = tt
at_start ds before (b ∷ bs) =
    let x = binder_type ds b in
    let rest = map (binder_type ds) bs in
    let n = length-append before (x ∷ []) in
    let count : length (before ++ x ∷ []) ≡ length before + 1 = omega arith in
    (at_place before x rest, subst (λ (l : List ℕ). AreAt ds l (length before + 1) bs) (one_then before x rest) (subst (λ k. AreAt ds ((before ++ x ∷ []) ++ rest) k bs) count (at_start ds (before ++ x ∷ []) bs)))

below_types : (ds : List Declaration) (P : Protocol) (bs : List Binder) → IsFile ds P → AreTypesOf ds bs → All (λ sort. sort < length P.sorts) (map (binder_type ds) bs)
below_types ds P [] file h = All-nil (λ sort. sort < length P.sorts)
below_types ds P (b ∷ bs) file h = All-cons (λ sort. sort < length P.sorts) (binder_type ds b) (map (binder_type ds) bs) (type_below ds P (type_of b).text file h.0) (below_types ds P bs file h.1)

pub types_below_all : (ds : List Declaration) (P : Protocol) (bs : List Binder) (sorts : List ℕ) → IsFile ds P → AreTypesOf ds bs → sorts ≡ map (binder_type ds) bs → All (λ sort. sort < length P.sorts) sorts
types_below_all ds P bs sorts file h e = All-same (λ sort. sort < length P.sorts) sorts (map (binder_type ds) bs) e (below_types ds P bs file h)

-- actions
pub record IsTypedAction (all : List Declaration) (p : Placed WrittenAction) : Type 0 where
  pub parameters : AreTypesOf all p.written.parameters
  pub locals : AreTypesOf all (locals_in p.written.body)
  pub sound : AreSound (with_inside (context_at all p.here) p.written.parameters) p.written.body

pub action_sorted : (all : List Declaration) (P : Protocol) (p : Placed WrittenAction) (a : Action) → IsFile all P → IsTypedAction all p → IsAction all p a → IsWellSortedBlock P a.block
action_sorted all P p a file good is =
    let bs = p.written.parameters in
    let body = p.written.body in
    let ps = a.block.parameters in
    let cs = a.block.choices in
    let of_parameters = subst (λ (l : List ℕ). AreAt all l 0 bs) (sym is.parameters) (at_start all [] bs) in
    let of_locals = subst (λ (l : List ℕ). AreAt all l 0 (locals_in body)) (sym is.locals) (at_start all [] (locals_in body)) in
    record {
      parameters = types_below_all all P bs ps file good.parameters is.parameters;
      choices = types_below_all all P (locals_in body) cs file good.locals is.locals;
      code = statements_sorted P (with_terms (scope_at all p.here) bs (parameters_from 0 bs)) ps cs 0 body a.block.code file (parameters_fit P all ps cs 0 bs good.parameters of_parameters) good.sound good.locals of_locals is.code;
    }

-- all init code
pub record IsTypedInit (all : List Declaration) (p : Placed Statements) : Type 0 where
  pub locals : AreTypesOf all (locals_in p.written)
  pub sound : AreSound (context_at all p.here) p.written

init_types : (all : List Declaration) (bodies : List (Placed Statements)) → AllByRecursion (IsTypedInit all) bodies → AreTypesOf all (init_locals bodies)
init_types all [] h = tt
init_types all (p ∷ bodies) h = types_append all (locals_in p.written) (init_locals bodies) h.0.locals (init_types all bodies h.1)
  where
    types_append : (ds : List Declaration) (a b : List Binder) → AreTypesOf ds a → AreTypesOf ds b → AreTypesOf ds (a ++ b)
    types_append ds [] b h k = k
    types_append ds (x ∷ a) b h k = (h.0, types_append ds a b h.1 k)

start_sorted : (all : List Declaration) (P : Protocol) (ps cs : List ℕ) (next : ℕ) (bodies : List (Placed Statements)) (out : Model.Statements) → IsFile all P → AllByRecursion (IsTypedInit all) bodies → AreAt all cs next (init_locals bodies)
    → Initiate all next bodies out → IsWellSortedCode P (sorts_with no_sorts ps cs) out
start_sorted all P ps cs next [] out file good at d = subst (IsWellSortedCode P (sorts_with no_sorts ps cs)) (sym d) tt
start_sorted all P ps cs next (p ∷ bodies) out file good at d =
    let own = locals_in p.written in
    let rest = init_locals bodies in
    subst (IsWellSortedCode P (sorts_with no_sorts ps cs)) (sym d.4)
    (joined_sorted P (sorts_with no_sorts ps cs) d.0 d.1 (statements_sorted P (scope_at all p.here) ps cs next p.written d.0 file tt good.0.sound good.0.locals (at_left all cs next own rest at) d.2)
    (start_sorted all P ps cs (next + length own) bodies d.1 file good.1 (at_right all cs next own rest at) d.3))

pub init_sorted : (all : List Declaration) (P : Protocol) (bodies : List (Placed Statements)) (block : Block) → IsFile all P → AllByRecursion (IsTypedInit all) bodies → IsInit all bodies block → IsWellSortedBlock P block
init_sorted all P bodies block file good is =
    let ps = block.parameters in
    let cs = block.choices in
    let types = init_types all bodies good in
    let of_locals = subst (λ (l : List ℕ). AreAt all l 0 (init_locals bodies)) (sym is.locals) (at_start all [] (init_locals bodies)) in
    record {
      parameters = All-same (λ sort. sort < length P.sorts) ps [] is.no_parameters (All-nil (λ sort. sort < length P.sorts));
      choices = types_below_all all P (init_locals bodies) cs file types is.locals;
      code = start_sorted all P ps cs 0 bodies block.code file good of_locals is.code;
    }
