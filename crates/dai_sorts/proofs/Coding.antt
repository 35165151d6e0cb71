-- Statements part by part.
use Rattle.std.proofs.Common.{◌≡◌, ℕ, ◌+◌, ◌≤◌, List, [], ◌∷◌, ◌++◌, length, map, Vec, ap, sym, ◌∙◌, refl, subst, arith, length-append, append_assoc}
use Rattle.std.specs.declared.alloc.Global.{Global}
use Rattle.std.proofs.lemmas.List.{map-append, length-map}
use Rattle.dai_model.specs.Formula as Model
use Rattle.dai_syntax.specs.declared.tree.Name.{Name}
use Rattle.dai_syntax.specs.declared.tree.Binder.{Binder}
use Rattle.dai_syntax.specs.declared.tree.Arg.{Arg}
use Rattle.dai_syntax.specs.declared.tree.Form.{Form}
use Rattle.dai_syntax.specs.declared.tree.Stat.{Stat}
use Rattle.dai_syntax.specs.declared.tree.Stat as Written
use Rattle.dai_syntax.specs.Tree as Tree
use Rattle.dai_syntax.specs.Trees.{formula_of as tree_of, statement_of as code_of}
use Rattle.dai_logic.specs.declared.protocol.Step.{Step}
use Rattle.dai_logic.specs.declared.protocol.Step as Program
use Rattle.dai_logic.specs.declared.protocol.Formula.{Formula}
use Rattle.dai_logic.specs.Trees.{formula_of, statement_of, statements_of}
use Rattle.dai_logic.proofs.Trees.{statement_of-Cond}
use Rattle.dai_sorts.specs.Formulas.{IsSentence}
use Rattle.dai_rules.specs.Names.{Context}
use Rattle.dai_rules.specs.Sites.{update_sites, as_value}
use Rattle.dai_sorts.specs.Scopes.{Scope, with_terms, choices_from, binder_type}
use Rattle.dai_sorts.specs.Statements.{locals_of, locals_in, joined, alone, Directs, DirectEach}
use Rattle.dai_sorts.specs.Sound.{AreUnbroken, IsSound, AreSound}

pub joined-nil : (cs : Model.Statements) → joined cs Model.no_statements ≡ cs
joined-nil Model.no_statements = refl
joined-nil (Model.with_statement c cs) = ap (Model.with_statement c) (joined-nil cs)

pub joined-append : (xs ys : List Step) (cs : Model.Statements) → joined (statements_of (xs ++ ys)) cs ≡ joined (statements_of xs) (joined (statements_of ys) cs)
joined-append [] ys cs = refl
joined-append (x ∷ xs) ys cs = ap (Model.with_statement (statement_of x)) (joined-append xs ys cs)

-- the types of locals
pub types_more : (ds : List Tree.Declaration) (xs : List ℕ) (a b : List Binder) → (xs ++ map (binder_type ds) a) ++ map (binder_type ds) b ≡ xs ++ map (binder_type ds) (a ++ b)
types_more ds xs a b = append_assoc xs (map (binder_type ds) a) (map (binder_type ds) b) ∙ ap (λ l. xs ++ l) (sym (map-append (binder_type ds) a b))

pub length_more : (ds : List Tree.Declaration) (xs ys : List ℕ) (a : List Binder) → ys ≡ xs ++ map (binder_type ds) a → length ys ≡ length xs + length a
length_more ds xs ys a e = ap length e ∙ length-append xs (map (binder_type ds) a) ∙ ap (λ n. length xs + n) (length-map a (binder_type ds))

-- an update that breaks no rule
pub sound_update : (ctx : Context) (stat : Stat) (name : Name) (args : Vec Arg Global) (items : List Arg) (body : Form) → stat ≡ Written.Assign name args body → items ≡ args.items → IsSound ctx (code_of stat) → AreUnbroken (update_sites ctx name items (tree_of body))
sound_update ctx stat name args items body e is h = subst (λ ts. AreUnbroken (update_sites ctx name ts (tree_of body))) (sym is) (subst (λ s. IsSound ctx (code_of s)) e h)

pub sound_as : (ctx : Context) (s t : Tree.Statement) → s ≡ t → IsSound ctx s → IsSound ctx t
sound_as ctx s t e h = subst (IsSound ctx) e h

pub sound_at : (a b : Context) (ss : Tree.Statements) → b ≡ a → AreSound a ss → AreSound b ss
sound_at a b ss e h = subst (λ ctx. AreSound ctx ss) (sym e) h

pub first_few : (n : ℕ) (s : Tree.Statement) (f : Tree.Formula) (first second : Tree.Statements) → s ≡ Tree.conditional f first second → n + length (locals_of s) ≤ 256 → n + length (locals_in first) ≤ 256
first_few n s f first second e h =
    let k = ap (λ t. length (locals_of t)) e in
    let both = length-append (locals_in first) (locals_in second) in
    omega arith

pub second_few : (n m : ℕ) (s : Tree.Statement) (f : Tree.Formula) (first second : Tree.Statements) → s ≡ Tree.conditional f first second → m ≡ n + length (locals_in first) → n + length (locals_of s) ≤ 256 → m + length (locals_in second) ≤ 256
second_few n m s f first second e is h =
    let k = ap (λ t. length (locals_of t)) e in
    let both = length-append (locals_in first) (locals_in second) in
    omega arith

pub local_few : (n m : ℕ) (s : Tree.Statement) (binders : List Binder) (body : Tree.Statements) → s ≡ Tree.with_locals binders body → m ≡ n + length binders → n + length (locals_of s) ≤ 256 → m + length (locals_in body) ≤ 256
local_few n m s binders body e is h =
    let k = ap (λ t. length (locals_of t)) e in
    let both = length-append binders (locals_in body) in
    omega arith

-- what is known after some of the statements
pub record Going (scope : Scope) (whole : Tree.Statements) (locals0 : List ℕ) (code0 : List Step) (rest : Tree.Statements) (here : Scope) (locals : List ℕ) (code : List Step) : Type 0 where
  pub written : List Step
  pub code_is : code ≡ code0 ++ written
  pub scope_is : here ≡ scope
  pub locals_are : locals ++ map (binder_type scope.context.declarations) (locals_in rest) ≡ locals0 ++ map (binder_type scope.context.declarations) (locals_in whole)
  pub few : length locals + length (locals_in rest) ≤ 256
  pub sound : AreSound scope.context rest
  pub does : (cs : Model.Statements) → DirectEach scope (length locals) rest cs → DirectEach scope (length locals0) whole (joined (statements_of written) cs)

append_nil : {X : Type 0} (xs : List X) → xs ++ [] ≡ xs
append_nil [] = refl
append_nil (x ∷ xs) = ap (λ ys. x ∷ ys) (append_nil xs)

pub begins : (scope : Scope) (whole : Tree.Statements) (locals : List ℕ) (code : List Step) → AreSound scope.context whole → length locals + length (locals_in whole) ≤ 256 → Going scope whole locals code whole scope locals code
begins scope whole locals code sound few = record {
  written = [];
  code_is = sym (append_nil code);
  scope_is = refl;
  locals_are = refl;
  few = few;
  sound = sound;
  does = λ cs h. h;
}

pub goes_on : (scope : Scope) (whole : Tree.Statements) (locals0 : List ℕ) (code0 : List Step) (rest : Tree.Statements) (here : Scope) (locals : List ℕ) (code : List Step)
    (s : Tree.Statement) (ss : Tree.Statements) (here2 : Scope) (locals2 : List ℕ) (code2 written2 : List Step)
    → Going scope whole locals0 code0 rest here locals code → rest ≡ Tree.with_statement s ss
    → Directs here (length locals) s (statements_of written2) → code2 ≡ code ++ written2 → locals2 ≡ locals ++ map (binder_type here.context.declarations) (locals_of s) → here2 ≡ here
    → Going scope whole locals0 code0 ss here2 locals2 code2
goes_on scope whole locals0 code0 rest here locals code s ss here2 locals2 code2 written2 g split does more types same =
    let ds = scope.context.declarations in
    let grown : locals2 ≡ locals ++ map (binder_type ds) (locals_of s) = types ∙ ap (λ (k : Scope). locals ++ map (binder_type k.context.declarations) (locals_of s)) g.scope_is in
    let longer = length_more ds locals locals2 (locals_of s) grown in
    let few = g.few in
    let count = ap (λ t. length (locals_in t)) split in
    let both = length-append (locals_of s) (locals_in ss) in
    let sound : AreSound scope.context (Tree.with_statement s ss) = subst (AreSound scope.context) split g.sound in
    record {
      written = g.written ++ written2;
      code_is = more ∙ ap (λ xs. xs ++ written2) g.code_is ∙ append_assoc code0 g.written written2;
      scope_is = same ∙ g.scope_is;
      locals_are = ap (λ xs. xs ++ map (binder_type ds) (locals_in ss)) grown ∙ types_more ds locals (locals_of s) (locals_in ss) ∙ ap (λ t. locals ++ map (binder_type ds) (locals_in t)) (sym split) ∙ g.locals_are;
      few = omega arith;
      sound = sound.1;
      does = λ cs h.
          subst (DirectEach scope (length locals0) whole) (sym (joined-append g.written written2 cs))
          (g.does (joined (statements_of written2) cs) (subst (λ t. DirectEach scope (length locals) t (joined (statements_of written2) cs)) (sym split)
          (statements_of written2, cs, subst (λ k. Directs k (length locals) s (statements_of written2)) g.scope_is does, subst (λ n. DirectEach scope n ss cs) longer h, refl)));
    }

-- all are written
pub all_written : (scope : Scope) (whole : Tree.Statements) (locals0 : List ℕ) (code0 : List Step) (rest : Tree.Statements) (here : Scope) (locals : List ℕ) (code : List Step)
    → (g : Going scope whole locals0 code0 rest here locals code) → rest ≡ Tree.no_statements → DirectEach scope (length locals0) whole (statements_of g.written)
all_written scope whole locals0 code0 rest here locals code g none =
    subst (DirectEach scope (length locals0) whole) (joined-nil (statements_of g.written)) (g.does Model.no_statements (subst (λ t. DirectEach scope (length locals) t Model.no_statements) (sym none) refl))

pub all_locals : (scope : Scope) (whole : Tree.Statements) (locals0 : List ℕ) (code0 : List Step) (rest : Tree.Statements) (here : Scope) (locals : List ℕ) (code : List Step)
    → Going scope whole locals0 code0 rest here locals code → rest ≡ Tree.no_statements → locals ≡ locals0 ++ map (binder_type scope.context.declarations) (locals_in whole)
all_locals scope whole locals0 code0 rest here locals code g none =
    sym (append_nil locals) ∙ ap (λ t. locals ++ map (binder_type scope.context.declarations) (locals_in t)) (sym none) ∙ g.locals_are

-- a conditional
pub cond_does : (scope scope1 : Scope) (locals0 locals1 : List ℕ) (s : Tree.Statement) (f : Tree.Formula) (first second : Tree.Statements) (cond : Formula) (v1 v2 : Vec Step Global) (e1 e2 w1 w2 : List Step)
    → s ≡ Tree.conditional f first second → IsSentence scope (as_value []) f (formula_of cond)
    → e1 ≡ [] → v1.items ≡ e1 ++ w1 → DirectEach scope (length locals0) first (statements_of w1)
    → scope1 ≡ scope → locals1 ≡ locals0 ++ map (binder_type scope.context.declarations) (locals_in first)
    → e2 ≡ [] → v2.items ≡ e2 ++ w2 → DirectEach scope1 (length locals1) second (statements_of w2)
    → Directs scope (length locals0) s (statements_of (Program.Cond cond v1 v2 ∷ []))
cond_does scope scope1 locals0 locals1 s f first second cond v1 v2 e1 e2 w1 w2 tree sentence n1 i1 d1 same grown n2 i2 d2 =
    let a1 : v1.items ≡ w1 = i1 ∙ ap (λ xs. xs ++ w1) n1 in
    let a2 : v2.items ≡ w2 = i2 ∙ ap (λ xs. xs ++ w2) n2 in
    let longer = length_more scope.context.declarations locals0 locals1 (locals_in first) grown in
    subst (λ t. Directs scope (length locals0) t (statements_of (Program.Cond cond v1 v2 ∷ []))) (sym tree) (
      formula_of cond,
      statements_of v1.items,
      statements_of v2.items,
      sentence,
      subst (λ xs. DirectEach scope (length locals0) first (statements_of xs)) (sym a1) d1,
      subst (λ xs. DirectEach scope (length locals0 + length (locals_in first)) second (statements_of xs)) (sym a2) (subst (λ n. DirectEach scope n second (statements_of w2)) longer (subst (λ k. DirectEach k (length locals1) second (statements_of w2)) same d2)),
      ap alone (statement_of-Cond cond v1 v2),
    )

pub cond_locals : (ds : List Tree.Declaration) (s : Tree.Statement) (f : Tree.Formula) (first second : Tree.Statements) (l0 l1 l2 : List ℕ) → s ≡ Tree.conditional f first second
    → l1 ≡ l0 ++ map (binder_type ds) (locals_in first) → l2 ≡ l1 ++ map (binder_type ds) (locals_in second) → l2 ≡ l0 ++ map (binder_type ds) (locals_of s)
cond_locals ds s f first second l0 l1 l2 tree e1 e2 =
    e2 ∙ ap (λ l. l ++ map (binder_type ds) (locals_in second)) e1 ∙ types_more ds l0 (locals_in first) (locals_in second) ∙ ap (λ t. l0 ++ map (binder_type ds) (locals_of t)) (sym tree)

-- locals
pub local_does : (scope mid : Scope) (locals0 locals1 : List ℕ) (s : Tree.Statement) (binders : List Binder) (body : Tree.Statements) (cs : Model.Statements) → s ≡ Tree.with_locals binders body
    → mid ≡ with_terms scope binders (choices_from (length locals0) binders) → locals1 ≡ locals0 ++ map (binder_type scope.context.declarations) binders → DirectEach mid (length locals1) body cs → Directs scope (length locals0) s cs
local_does scope mid locals0 locals1 s binders body cs tree same grown d =
    let longer = length_more scope.context.declarations locals0 locals1 binders grown in
    subst (λ t. Directs scope (length locals0) t cs) (sym tree) (subst (λ n. DirectEach (with_terms scope binders (choices_from (length locals0) binders)) n body cs) longer (subst (λ k. DirectEach k (length locals1) body cs) same d))

pub local_locals : (ds : List Tree.Declaration) (s : Tree.Statement) (binders : List Binder) (body : Tree.Statements) (l0 l1 l2 : List ℕ) → s ≡ Tree.with_locals binders body
    → l1 ≡ l0 ++ map (binder_type ds) binders → l2 ≡ l1 ++ map (binder_type ds) (locals_in body) → l2 ≡ l0 ++ map (binder_type ds) (locals_of s)
local_locals ds s binders body l0 l1 l2 tree e1 e2 =
    e2 ∙ ap (λ l. l ++ map (binder_type ds) (locals_in body)) e1 ∙ types_more ds l0 binders (locals_in body) ∙ ap (λ t. l0 ++ map (binder_type ds) (locals_of t)) (sym tree)

-- the next statement
pub sound_first : (scope : Scope) (whole : Tree.Statements) (locals0 : List ℕ) (code0 : List Step) (rest : Tree.Statements) (here : Scope) (locals : List ℕ) (code : List Step) (s : Tree.Statement) (ss : Tree.Statements)
    → Going scope whole locals0 code0 rest here locals code → rest ≡ Tree.with_statement s ss → IsSound here.context s
sound_first scope whole locals0 code0 rest here locals code s ss g split =
    let sound : AreSound scope.context (Tree.with_statement s ss) = subst (AreSound scope.context) split g.sound in
    subst (λ (k : Scope). IsSound k.context s) (sym g.scope_is) sound.0

pub few_first : (scope : Scope) (whole : Tree.Statements) (locals0 : List ℕ) (code0 : List Step) (rest : Tree.Statements) (here : Scope) (locals : List ℕ) (code : List Step) (s : Tree.Statement) (ss : Tree.Statements)
    → Going scope whole locals0 code0 rest here locals code → rest ≡ Tree.with_statement s ss → length locals + length (locals_of s) ≤ 256
few_first scope whole locals0 code0 rest here locals code s ss g split =
    let few = g.few in
    let count = ap (λ t. length (locals_in t)) split in
    let both = length-append (locals_of s) (locals_in ss) in
    omega arith

pub statements-append : (xs ys : List Step) → statements_of (xs ++ ys) ≡ joined (statements_of xs) (statements_of ys)
statements-append [] ys = refl
statements-append (x ∷ xs) ys = ap (Model.with_statement (statement_of x)) (statements-append xs ys)
