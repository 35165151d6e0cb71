-- Lists of canonical clauses in print order, put together of parts.
use Rattle.std.proofs.Common.{◌≡◌, ◌<◌, ◌≤◌, ◌+◌, ◌*◌, ◌/◌, ◌%◌, ℕ, zero, suc, Bool, true, false, not, Result, Ok, Err, Option, Some, None, List, [], ◌∷◌, ◌++◌, length, get_or, sum, sym, ap, ◌∙◌, subst, refl, arith, inl, inr, ◌⊎◌}
use Rattle.std.specs.Prelude.{slice_index, is_some, IfSome, OnOk}
use Rattle.std.specs.List.{Contains}
use Rattle.std.specs.Ordering.{nat_cmp, ordering_then, ordering_reverse}
use Rattle.std.specs.Cmp.Lexicographic.{slice_cmp}
use Rattle.std.specs.declared.cmp.Ordering.{Ordering}
use Rattle.std.specs.declared.cmp.Ordering.TheVariants.{Less, Equal, Greater}
use Rattle.std.proofs.lemmas.Cmp.{tied_itself, nat_cmp_total, nat_list_cmp_total}
use Rattle.std.proofs.lemmas.Bool.{cases_lt}
use Rattle.std.proofs.lemmas.List.{map-append, append-nil, append_assoc, length-append, get_or_append_left, get_or_push}
use Rattle.dai_model.specs.Protocol.{Protocol}
use Rattle.dai_model.specs.Clause.{Clause, atoms_of}
use Rattle.dai_model.specs.Template.{Bounds, IsTemplate}
use Rattle.dai_model.specs.Subsumption.{IsCanonical, print_order}
use Rattle.dai_model.specs.Shapes.{compare_shapes}
use Rattle.dai_model.proofs.Below.{Each}
use Rattle.dai_model.proofs.Order.{Rising, less_from}
use Rattle.dai_template.specs.declared.clause.Clause.{Clause as Kept}
use Rattle.dai_template.specs.declared.space.Space.{Space}
use Rattle.dai_template.specs.Spaces.{IsClauseOf, clause_of}
use Rattle.dai_template.specs.Renamings.{IsSmallerRenaming}
use Rattle.dai_template.specs.Lists.{clauses_of, Comes, IsListed, IsPart, IsAdded, AreRest, GoesOn, GoesOnBelow, IsBegunWith}
use Rattle.dai_template.proofs.Within.{among_left, among_right, among_at, contained}
use Rattle.dai_template.proofs.InOrder.{IsAtomBefore}
use Rattle.dai_template.proofs.Least.{same_clause}

-- The order

equal_counts : (counts : List ℕ) (o : Ordering) → ordering_then (nat_cmp (sum counts) (sum counts)) (ordering_then (slice_cmp nat_cmp counts counts) o) ≡ o
equal_counts counts o =
    ap (λ x. ordering_then x (ordering_then (slice_cmp nat_cmp counts counts) o)) (tied_itself nat_cmp_total (sum counts)) ∙ ap (λ x. ordering_then x o) (tied_itself nat_list_cmp_total counts)

same_shape_order : (c d : Clause) → c.counts ≡ d.counts → print_order c d ≡ ordering_then (nat_cmp (length c.literals) (length d.literals)) (slice_cmp nat_cmp c.literals d.literals)
same_shape_order c d e =
    let o = ordering_then (nat_cmp (length c.literals) (length d.literals)) (slice_cmp nat_cmp c.literals d.literals) in
    subst (λ counts. ordering_then (nat_cmp (sum c.counts) (sum counts)) (ordering_then (slice_cmp nat_cmp c.counts counts) o) ≡ o) e (equal_counts c.counts o)

pub comes_by_length : (c d : Clause) → c.counts ≡ d.counts → length c.literals < length d.literals → print_order c d ≡ Less
comes_by_length c d e h = same_shape_order c d e ∙ ap (λ x. ordering_then x (slice_cmp nat_cmp c.literals d.literals)) (less_from (length c.literals) (length d.literals) h)

comes_by_literals : (c d : Clause) → c.counts ≡ d.counts → length c.literals ≡ length d.literals → slice_cmp nat_cmp c.literals d.literals ≡ Less → print_order c d ≡ Less
comes_by_literals c d e long h =
    same_shape_order c d e
    ∙ (ap (λ n. ordering_then (nat_cmp (length c.literals) n) (slice_cmp nat_cmp c.literals d.literals)) (sym long)
    ∙ (ap (λ x. ordering_then x (slice_cmp nat_cmp c.literals d.literals)) (tied_itself nat_cmp_total (length c.literals)) ∙ h))

then_less : (a b o : Ordering) → ordering_then a b ≡ Less → ordering_then a (ordering_then b o) ≡ Less
then_less Less b o h = refl
then_less Equal b o h = ap (λ x. ordering_then x o) h
then_less Greater b o h = absurd (let bottom : ⊥ = cc in bottom)

pub comes_by_shape : (c d : Clause) → compare_shapes c.counts d.counts ≡ Less → print_order c d ≡ Less
comes_by_shape c d h = then_less (nat_cmp (sum c.counts) (sum d.counts)) (slice_cmp nat_cmp c.counts d.counts) (ordering_then (nat_cmp (length c.literals) (length d.literals)) (slice_cmp nat_cmp c.literals d.literals)) h

after_same : (xs : List ℕ) (l m : ℕ) (ls ms : List ℕ) → l < m → slice_cmp nat_cmp (xs ++ l ∷ ls) (xs ++ m ∷ ms) ≡ Less
after_same [] l m ls ms h = ap (λ x. ordering_then x (slice_cmp nat_cmp ls ms)) (less_from l m h)
after_same (x ∷ xs) l m ls ms h = ap (λ o. ordering_then o (slice_cmp nat_cmp (xs ++ l ∷ ls) (xs ++ m ∷ ms))) (tied_itself nat_cmp_total x) ∙ after_same xs l m ls ms h

-- Parts

each_append : {X : Type 0} (P : X → Type 0) (xs ys : List X) → Each P xs → Each P ys → Each P (xs ++ ys)
each_append P [] ys h k = k
each_append P (x ∷ xs) ys h k = (h.0, each_append P xs ys h.1 k)

pub each_to : {X : Type 0} (P Q : X → Type 0) (xs : List X) → ((x : X) → P x → Q x) → Each P xs → Each Q xs
each_to P Q [] f h = tt
each_to P Q (x ∷ xs) f h = (f x h.0, each_to P Q xs f h.1)

each_at : {X : Type 0} (P : X → Type 0) (xs : List X) (k : ℕ) (d : X) → k < length xs → Each P xs → P (get_or xs k d)
each_at P [] k d h e = absurd (omega arith)
each_at P (x ∷ xs) zero d h e = e.0
each_at P (x ∷ xs) (suc k) d h e = each_at P xs k d (omega arith) e.1

rising_append : {X : Type 0} (R : X → X → Type 0) (xs ys : List X) → Rising R xs → Rising R ys → Each (λ x. Each (R x) ys) xs → Rising R (xs ++ ys)
rising_append R [] ys h k cross = k
rising_append R (x ∷ xs) ys h k cross = (each_append (R x) xs ys h.0 cross.0, rising_append R xs ys h.1 k cross.1)

contains_left : (space : Space) (xs ys : List Kept) (c : Clause) → Contains (clauses_of space xs) c → Contains (clauses_of space (xs ++ ys)) c
contains_left space xs ys c h =
    subst (λ cs. Contains cs c) (sym (map-append (clause_of space) xs ys)) (contained c _ (among_left c (clauses_of space xs) (clauses_of space ys) (among_at c (clauses_of space xs) h.0 h.1 h.2)))

contains_right : (space : Space) (xs ys : List Kept) (c : Clause) → Contains (clauses_of space ys) c → Contains (clauses_of space (xs ++ ys)) c
contains_right space xs ys c h =
    subst (λ cs. Contains cs c) (sym (map-append (clause_of space) xs ys)) (contained c _ (among_right c (clauses_of space xs) (clauses_of space ys) (among_at c (clauses_of space ys) h.0 h.1 h.2)))

pub no_part : (P : Protocol) (B : Bounds) (space : Space) (Q : Clause → Type 0) → ((c : Clause) → IsTemplate P B c → IsCanonical P B c → Q c → ⊥) → IsPart P B space Q []
no_part P B space Q none = record { each = tt; complete = λ c t k q. absurd (none c t k q); rising = tt }

pub part_as : (P : Protocol) (B : Bounds) (space : Space) (Q R : Clause → Type 0) (part : List Kept) → ((c : Clause) → Q c → R c) → ((c : Clause) → IsTemplate P B c → R c → Q c) → IsPart P B space Q part → IsPart P B space R part
part_as P B space Q R part to from h = record {
  each = each_to (IsListed P B space Q) (IsListed P B space R) part (λ c l. record { of_the_space = l.of_the_space; canonical = l.canonical; has = to (clause_of space c) l.has }) h.each;
  complete = λ c t k r. h.complete c t k (from c t r);
  rising = h.rising;
}

-- two parts in a row
pub joined : (P : Protocol) (B : Bounds) (space : Space) (Q R S : Clause → Type 0) (xs ys : List Kept) → ((c d : Clause) → Q c → R d → print_order c d ≡ Less) → ((c : Clause) → Q c → S c) → ((c : Clause) → R c → S c) → ((c : Clause) → IsTemplate P B c → S c → Q c ⊎ R c) → IsPart P B space Q xs → IsPart P B space R ys → IsPart P B space S (xs ++ ys)
joined P B space Q R S xs ys before left right split h k = record {
  each = each_append (IsListed P B space S) xs ys
      (each_to (IsListed P B space Q) (IsListed P B space S) xs (λ c l. record { of_the_space = l.of_the_space; canonical = l.canonical; has = left (clause_of space c) l.has }) h.each)
      (each_to (IsListed P B space R) (IsListed P B space S) ys (λ c l. record { of_the_space = l.of_the_space; canonical = l.canonical; has = right (clause_of space c) l.has }) k.each);
  complete = λ c t canonical s. in_either c t canonical (split c t s);
  rising = rising_append (Comes space) xs ys h.rising k.rising
      (each_to (IsListed P B space Q) (λ x. Each (Comes space x) ys) xs (λ x l. each_to (IsListed P B space R) (Comes space x) ys (λ y m. before (clause_of space x) (clause_of space y) l.has m.has) k.each) h.each);
}
  where
    in_either : (c : Clause) → IsTemplate P B c → IsCanonical P B c → Q c ⊎ R c → Contains (clauses_of space (xs ++ ys)) c
    in_either c t canonical (inl q) = contains_left space xs ys c (h.complete c t canonical q)
    in_either c t canonical (inr r) = contains_right space xs ys c (k.complete c t canonical r)

pub added_none : (P : Protocol) (B : Bounds) (space : Space) (Q : Clause → Type 0) (old : List Kept) → ((c : Clause) → IsTemplate P B c → IsCanonical P B c → Q c → ⊥) → IsAdded P B space Q old old
added_none P B space Q old none = record { part = []; added = sym (append-nil old); is = no_part P B space Q none }

pub added_as : (P : Protocol) (B : Bounds) (space : Space) (Q R : Clause → Type 0) (old new : List Kept) → ((c : Clause) → Q c → R c) → ((c : Clause) → IsTemplate P B c → R c → Q c) → IsAdded P B space Q old new → IsAdded P B space R old new
added_as P B space Q R old new to from h = record { part = h.part; added = h.added; is = part_as P B space Q R h.part to from h.is }

pub added_then : (P : Protocol) (B : Bounds) (space : Space) (Q R S : Clause → Type 0) (old mid new : List Kept) → ((c d : Clause) → Q c → R d → print_order c d ≡ Less) → ((c : Clause) → Q c → S c) → ((c : Clause) → R c → S c) → ((c : Clause) → IsTemplate P B c → S c → Q c ⊎ R c) → IsAdded P B space Q old mid → IsAdded P B space R mid new → IsAdded P B space S old new
added_then P B space Q R S old mid new before left right split h k = record {
  part = h.part ++ k.part;
  added = k.added ∙ (ap (λ xs. xs ++ k.part) h.added ∙ append_assoc old h.part k.part);
  is = joined P B space Q R S h.part k.part before left right split h.is k.is;
}

-- One clause

eta : (c : Clause) (counts literals : List ℕ) → c.counts ≡ counts → c.literals ≡ literals → c ≡ (let d : Clause = record { counts = counts; literals = literals } in d)
eta c counts literals e f = ap (λ (xs : List ℕ). let d : Clause = record { counts = xs; literals = c.literals } in d) e ∙ ap (λ (xs : List ℕ). let d : Clause = record { counts = counts; literals = xs } in d) f

reversed : (a b : List ℕ) → slice_cmp nat_cmp a b ≡ Less → slice_cmp nat_cmp b a ≡ Greater
reversed a b h = nat_list_cmp_total.antisymm b a ∙ ap ordering_reverse h

pub not_canonical : (P : Protocol) (B : Bounds) (space : Space) (clause smaller : Kept) → IsSmallerRenaming P B space clause smaller → IsCanonical P B (clause_of space clause) → ⊥
not_canonical P B space clause smaller h canonical = canonical (clause_of space smaller) h.of_the_space.template h.renaming (reversed smaller.lits.items clause.lits.items h.less)

pub not_none : (P : Protocol) (B : Bounds) (space : Space) (clause : Kept) (r : Option Kept) (b : Bool) → is_some r ≡ not b → b ≡ false → IfSome r (λ smaller. IsSmallerRenaming P B space clause smaller) → IsCanonical P B (clause_of space clause) → ⊥
not_none P B space clause None b e found h canonical = let k : false ≡ true = e ∙ ap not found in let bottom : ⊥ = cc in bottom
not_none P B space clause (Some smaller) b e found h canonical = not_canonical P B space clause smaller h canonical

pub on_ok : {A E : Type 0} (r : Result A E) (P Q : Type 0) → (P → Q) → OnOk r P → OnOk r Q
on_ok (Ok x) P Q f h = f h
on_ok (Err e) P Q f h = tt

pub added_one : (P : Protocol) (B : Bounds) (space : Space) (clause copy : Kept) (old new : List Kept) → IsClauseOf P B space clause → new ≡ old ++ copy ∷ [] → copy.shape ≡ clause.shape → copy.lits.items ≡ clause.lits.items → IsCanonical P B (clause_of space clause) → IsAdded P B space (λ c. c ≡ clause_of space clause) old new
added_one P B space clause copy old new h e s l canonical =
    let same : clause_of space clause ≡ clause_of space copy = same_clause space clause copy s l in
    record {
      part = copy ∷ [];
      added = e;
      is = record {
        each = (
          record {
            of_the_space = record {
              space_of = h.space_of;
              shape = let below = h.shape in omega (arith, below, s);
              template = subst (IsTemplate P B) same h.template;
            };
            canonical = subst (IsCanonical P B) same canonical;
            has = sym same;
          },
          tt,
        );
        complete = λ c t k q. (0, omega arith, sym same ∙ sym q);
        rising = (tt, tt);
      };
    }

-- One literal more

pub rest_of : (n from : ℕ) (ls : List ℕ) → Each (λ l. l < 2 * n) ls → Each (λ l. from ≤ l / 2) ls → Rising IsAtomBefore ls → AreRest n from ls
rest_of n from [] h k r = tt
rest_of n from (l ∷ ls) h k r =
    let below = h.0 in
    let half : l % 2 < 2 = omega arith in
    (k.0, omega (arith, below, half), rest_of n (l / 2 + 1) ls h.1 (each_to (IsAtomBefore l) (λ m. l / 2 + 1 ≤ m / 2) ls (λ m before. omega (arith, before)) r.0) r.1)

pushed_at : (xs : List ℕ) (m i : ℕ) → i < length xs → get_or (xs ++ m ∷ []) i 0 ≡ get_or xs i 0
pushed_at xs m i h = get_or_append_left xs (m ∷ []) 0 i h

pushed_last : (xs : List ℕ) (m i : ℕ) → i ≡ length xs → get_or (xs ++ m ∷ []) i 0 ≡ m
pushed_last xs m i e = get_or_push xs m 0 i (sym e)

pushed_length : (xs : List ℕ) (m : ℕ) → length (xs ++ m ∷ []) ≡ length xs + 1
pushed_length xs m = length-append xs (m ∷ [])

template_more : (P : Protocol) (B : Bounds) (c : Clause) (m : ℕ) → IsTemplate P B c → m / 2 < length (atoms_of P c.counts) → Each (λ l. l / 2 < m / 2) c.literals → length c.literals + 1 ≤ B.literals → IsTemplate P B (record { counts = c.counts; literals = c.literals ++ m ∷ [] })
template_more P B c m t inside before room =
    let long = pushed_length c.literals m in
    record {
      one_count_each = t.one_count_each;
      few_variables = t.few_variables;
      few_literals = omega (arith, long, room);
      of_the_shape = λ k d below. over k d below (cases_lt k (length c.literals));
      each_atom_once = λ i j h k. once i j h k (cases_lt j (length c.literals));
    }
  where
    over : (k d : ℕ) → k < length (c.literals ++ m ∷ []) → (k < length c.literals) ⊎ (length c.literals ≤ k) → get_or (c.literals ++ m ∷ []) k d < 2 * length (atoms_of P c.counts)
    over k d below (inl early) =
        let e = get_or_append_left c.literals (m ∷ []) d k early in
        let l = t.of_the_shape k d early in
        omega (arith, e, l)
    over k d below (inr last) =
        let long = pushed_length c.literals m in
        let e = get_or_push c.literals m d k (let same : length c.literals ≡ k = omega (arith, below, last, long) in same) in
        omega (arith, e, inside)

    once : (i j : ℕ) → i < j → j < length (c.literals ++ m ∷ []) → (j < length c.literals) ⊎ (length c.literals ≤ j) → slice_index (c.literals ++ m ∷ []) i / 2 < slice_index (c.literals ++ m ∷ []) j / 2
    once i j h k (inl early) =
        let ei = ap (λ n. n / 2) (pushed_at c.literals m i (omega (arith, h, early))) in
        let ej = ap (λ n. n / 2) (pushed_at c.literals m j early) in
        let l = t.each_atom_once i j h early in
        omega (arith, ei, ej, l)
    once i j h k (inr last) =
        let long = pushed_length c.literals m in
        let at : j ≡ length c.literals = omega (arith, k, last, long) in
        let hi : i < length c.literals = omega (arith, h, at) in
        let ei = ap (λ n. n / 2) (pushed_at c.literals m i hi) in
        let ej = ap (λ n. n / 2) (pushed_last c.literals m j at) in
        let l = each_at (λ x. x / 2 < m / 2) c.literals i 0 hi before in
        omega (arith, ei, ej, l)

pub begun_more : (P : Protocol) (B : Bounds) (space : Space) (c longer : Kept) (from left fewer atom m : ℕ) → IsBegunWith P B space c from left → fewer + 1 ≡ left → from ≤ atom → atom < length (atoms_of P (clause_of space c).counts) → m / 2 ≡ atom → longer.shape ≡ c.shape → longer.lits.items ≡ c.lits.items ++ m ∷ [] → IsBegunWith P B space longer (atom + 1) fewer
begun_more P B space c longer from left fewer atom m h one start inside is s l =
    let room = h.room in
    let long = pushed_length c.lits.items m in
    let before = each_to (λ x. x / 2 < from) (λ x. x / 2 < m / 2) c.lits.items (λ x k. omega (arith, k, start, is)) h.before in
    let same : (let d : Clause = record { counts = (clause_of space c).counts; literals = c.lits.items ++ m ∷ [] } in d) ≡ clause_of space longer =
    ap (λ (n : ℕ). let d : Clause = record { counts = (clause_of space (record c { shape = n })).counts; literals = c.lits.items ++ m ∷ [] } in d) (sym s)
    ∙ ap (λ (xs : List ℕ). let d : Clause = record { counts = (clause_of space longer).counts; literals = xs } in d) (sym l) in
    record {
      is = record {
        space_of = h.is.space_of;
        shape = let below = h.is.shape in omega (arith, below, s);
        template = subst (IsTemplate P B) same (template_more P B (clause_of space c) m h.is.template (omega (arith, inside, is)) before (omega (arith, room, one)));
      };
      room = let e = ap length l in omega (arith, room, one, long, e);
      before = subst (Each (λ x. x / 2 < atom + 1)) (sym l) (each_append (λ x. x / 2 < atom + 1) c.lits.items (m ∷ []) (each_to (λ x. x / 2 < from) (λ x. x / 2 < atom + 1) c.lits.items (λ x k. omega (arith, k, start)) h.before) (omega (arith, is), tt));
    }

-- The clauses that go on with a literal of one atom

-- those that go on with this literal
record GoesOnWith (P : Protocol) (begun : Clause) (next left : ℕ) (c : Clause) : Type 0 where
  rest : List ℕ
  same_shape : c.counts ≡ begun.counts
  literals : c.literals ≡ begun.literals ++ next ∷ rest
  long : length rest + 1 ≡ left
  are : AreRest (length (atoms_of P begun.counts)) (next / 2 + 1) rest

go_with : (P : Protocol) (B : Bounds) (space : Space) (c longer : Kept) (left fewer atom m : ℕ) (d : Clause) → fewer + 1 ≡ left → m / 2 ≡ atom → longer.shape ≡ c.shape → longer.lits.items ≡ c.lits.items ++ m ∷ [] → GoesOn P (clause_of space longer) (atom + 1) fewer d → GoesOnWith P (clause_of space c) m left d
go_with P B space c longer left fewer atom m d one is s l h =
    let counts : (clause_of space longer).counts ≡ (clause_of space c).counts = ap (λ (n : ℕ). (clause_of space (record longer { shape = n })).counts) s in
    record {
      rest = h.rest;
      same_shape = h.same_shape ∙ counts;
      literals = h.literals ∙ (ap (λ xs. xs ++ h.rest) l ∙ append_assoc c.lits.items (m ∷ []) h.rest);
      long = let e = h.long in omega (arith, e, one);
      are = subst (λ n. AreRest (length (atoms_of P (clause_of space c).counts)) (n + 1) h.rest) (sym is) (subst (λ xs. AreRest (length (atoms_of P xs)) (atom + 1) h.rest) counts h.are);
    }

with_go : (P : Protocol) (B : Bounds) (space : Space) (c longer : Kept) (left fewer atom m : ℕ) (d : Clause) → fewer + 1 ≡ left → m / 2 ≡ atom → longer.shape ≡ c.shape → longer.lits.items ≡ c.lits.items ++ m ∷ [] → GoesOnWith P (clause_of space c) m left d → GoesOn P (clause_of space longer) (atom + 1) fewer d
with_go P B space c longer left fewer atom m d one is s l h =
    let counts : (clause_of space longer).counts ≡ (clause_of space c).counts = ap (λ (n : ℕ). (clause_of space (record longer { shape = n })).counts) s in
    record {
      rest = h.rest;
      same_shape = h.same_shape ∙ sym counts;
      literals = h.literals ∙ (sym (append_assoc c.lits.items (m ∷ []) h.rest) ∙ ap (λ xs. xs ++ h.rest) (sym l));
      long = let e = h.long in omega (arith, e, one);
      are = subst (λ xs. AreRest (length (atoms_of P xs)) (atom + 1) h.rest) (sym counts) (subst (λ n. AreRest (length (atoms_of P (clause_of space c).counts)) (n + 1) h.rest) is h.are);
    }

longs : (xs : List ℕ) (l m : ℕ) (ls ms : List ℕ) (c d : Clause) → length ls ≡ length ms → c.literals ≡ xs ++ l ∷ ls → d.literals ≡ xs ++ m ∷ ms → length c.literals ≡ length d.literals
longs xs l m ls ms c d h e f =
    let a = ap length e ∙ length-append xs (l ∷ ls) in
    let b = ap length f ∙ length-append xs (m ∷ ms) in
    omega (arith, a, b, h)

ordered_by_next : (begun c d : Clause) (l m : ℕ) (ls ms : List ℕ) → c.counts ≡ begun.counts → d.counts ≡ begun.counts → length ls ≡ length ms → c.literals ≡ begun.literals ++ l ∷ ls → d.literals ≡ begun.literals ++ m ∷ ms → l < m → print_order c d ≡ Less
ordered_by_next begun c d l m ls ms hc hd long e f less =
    comes_by_literals c d (hc ∙ sym hd) (longs begun.literals l m ls ms c d long e f)
    (ap (λ xs. slice_cmp nat_cmp xs d.literals) e ∙ (ap (slice_cmp nat_cmp (begun.literals ++ l ∷ ls)) f ∙ after_same begun.literals l m ls ms less))

-- both literals of one atom more
pub atom_more : (P : Protocol) (B : Bounds) (space : Space) (c positive negative : Kept) (from left fewer atom p n : ℕ) (old mid half new : List Kept) → IsBegunWith P B space c from left → fewer + 1 ≡ left → from ≤ atom → atom < length (atoms_of P (clause_of space c).counts) → p ≡ 2 * atom → n ≡ 2 * atom + 1 → positive.shape ≡ c.shape → positive.lits.items ≡ c.lits.items ++ p ∷ [] → negative.shape ≡ c.shape → negative.lits.items ≡ c.lits.items ++ n ∷ [] → IsAdded P B space (GoesOnBelow P (clause_of space c) from left atom) old mid → IsAdded P B space (GoesOn P (clause_of space positive) (atom + 1) fewer) mid half → IsAdded P B space (GoesOn P (clause_of space negative) (atom + 1) fewer) half new → IsAdded P B space (GoesOnBelow P (clause_of space c) from left (atom + 1)) old new
atom_more P B space c positive negative from left fewer atom p n old mid half new h one start inside hp hn sp lp sn ln before first second =
    let own = clause_of space c in
    let ip : p / 2 ≡ atom = omega (arith, hp) in
    let is_n : n / 2 ≡ atom = omega (arith, hn) in
    let firsts = added_as P B space (GoesOn P (clause_of space positive) (atom + 1) fewer) (GoesOnWith P own p left) mid half (λ d k. go_with P B space c positive left fewer atom p d one ip sp lp k) (λ d t k. with_go P B space c positive left fewer atom p d one ip sp lp k) first in
    let seconds = added_as P B space (GoesOn P (clause_of space negative) (atom + 1) fewer) (GoesOnWith P own n left) half new (λ d k. go_with P B space c negative left fewer atom n d one is_n sn ln k) (λ d t k. with_go P B space c negative left fewer atom n d one is_n sn ln k) second in
    let both = added_then P B space (GoesOnWith P own p left) (GoesOnWith P own n left) (λ d. GoesOnWith P own p left d ⊎ GoesOnWith P own n left d) mid half new
    (λ x y kx ky. ordered_by_next own x y p n kx.rest ky.rest kx.same_shape ky.same_shape (let a = kx.long in let b = ky.long in omega (arith, a, b)) kx.literals ky.literals (omega (arith, hp, hn)))
    (λ d k. inl k) (λ d k. inr k) (λ d t k. k) firsts seconds in
    added_then P B space (GoesOnBelow P own from left atom) (λ d. GoesOnWith P own p left d ⊎ GoesOnWith P own n left d) (GoesOnBelow P own from left (atom + 1)) old mid new
    earlier (λ d k. wider d k) of_the_atom (λ d t k. by_atom d k (cases_lt (k.next / 2) atom)) before both
  where
    with_next : (d : Clause) (m : ℕ) → m / 2 ≡ atom → GoesOnWith P (clause_of space c) m left d → GoesOnBelow P (clause_of space c) from left (atom + 1) d
    with_next d m e k = record {
      next = m;
      rest = k.rest;
      same_shape = k.same_shape;
      literals = k.literals;
      long = k.long;
      start = omega (arith, e, start);
      below = omega (arith, e);
      inside = omega (arith, e, inside);
      are = k.are;
    }

    of_the_atom : (d : Clause) → GoesOnWith P (clause_of space c) p left d ⊎ GoesOnWith P (clause_of space c) n left d → GoesOnBelow P (clause_of space c) from left (atom + 1) d
    of_the_atom d (inl k) = with_next d p (omega (arith, hp)) k
    of_the_atom d (inr k) = with_next d n (omega (arith, hn)) k

    wider : (d : Clause) → GoesOnBelow P (clause_of space c) from left atom d → GoesOnBelow P (clause_of space c) from left (atom + 1) d
    wider d k = record {
      next = k.next;
      rest = k.rest;
      same_shape = k.same_shape;
      literals = k.literals;
      long = k.long;
      start = k.start;
      below = let b = k.below in omega (arith, b);
      inside = k.inside;
      are = k.are;
    }

    earlier : (x y : Clause) → GoesOnBelow P (clause_of space c) from left atom x → GoesOnWith P (clause_of space c) p left y ⊎ GoesOnWith P (clause_of space c) n left y → print_order x y ≡ Less
    earlier x y kx (inl ky) = ordered_by_next (clause_of space c) x y kx.next p kx.rest ky.rest kx.same_shape ky.same_shape (let a = kx.long in let b = ky.long in omega (arith, a, b)) kx.literals ky.literals (let b = kx.below in omega (arith, b, hp))
    earlier x y kx (inr ky) = ordered_by_next (clause_of space c) x y kx.next n kx.rest ky.rest kx.same_shape ky.same_shape (let a = kx.long in let b = ky.long in omega (arith, a, b)) kx.literals ky.literals (let b = kx.below in omega (arith, b, hn))

    as_next : (d : Clause) (m : ℕ) (k : GoesOnBelow P (clause_of space c) from left (atom + 1) d) → k.next ≡ m → GoesOnWith P (clause_of space c) m left d
    as_next d m k e = record {
      rest = k.rest;
      same_shape = k.same_shape;
      literals = k.literals ∙ ap (λ x. c.lits.items ++ x ∷ k.rest) e;
      long = k.long;
      are = subst (λ x. AreRest (length (atoms_of P (clause_of space c).counts)) (x / 2 + 1) k.rest) e k.are;
    }

    by_atom : (d : Clause) (k : GoesOnBelow P (clause_of space c) from left (atom + 1) d) → (k.next / 2 < atom) ⊎ (atom ≤ k.next / 2) → GoesOnBelow P (clause_of space c) from left atom d ⊎ (GoesOnWith P (clause_of space c) p left d ⊎ GoesOnWith P (clause_of space c) n left d)
    by_atom d k (inl small) = inl (record {
      next = k.next;
      rest = k.rest;
      same_shape = k.same_shape;
      literals = k.literals;
      long = k.long;
      start = k.start;
      below = small;
      inside = k.inside;
      are = k.are;
    })
    by_atom d k (inr large) = inr (by_sign (cases_lt (k.next) n))
      where
        by_sign : (k.next < n) ⊎ (n ≤ k.next) → GoesOnWith P (clause_of space c) p left d ⊎ GoesOnWith P (clause_of space c) n left d
        by_sign (inl even) = inl (as_next d p k (let b = k.below in omega (arith, b, large, even, hp, hn)))
        by_sign (inr odd) = inr (as_next d n k (let b = k.below in omega (arith, b, large, odd, hn)))

-- where some literal is to come, the clauses go on below all atoms
pub goes_on : (P : Protocol) (B : Bounds) (begun : Clause) (from left atoms : ℕ) (c : Clause) → length (atoms_of P begun.counts) ≤ atoms → 0 < left → GoesOn P begun from left c → GoesOnBelow P begun from left atoms c
goes_on P B begun from left atoms c many some h = by_rest h.rest h.literals h.long h.are
  where
    by_rest : (rest : List ℕ) → c.literals ≡ begun.literals ++ rest → length rest ≡ left → AreRest (length (atoms_of P begun.counts)) from rest → GoesOnBelow P begun from left atoms c
    by_rest [] e l are = absurd (omega (arith, l, some))
    by_rest (x ∷ xs) e l are = record {
      next = x;
      rest = xs;
      same_shape = h.same_shape;
      literals = e;
      long = omega (arith, l);
      start = are.0;
      below = let b = are.1 in omega (arith, b, many);
      inside = are.1;
      are = are.2;
    }

pub goes_on_below : (P : Protocol) (begun : Clause) (from left atoms : ℕ) (c : Clause) → GoesOnBelow P begun from left atoms c → GoesOn P begun from left c
goes_on_below P begun from left atoms c h = record {
  rest = h.next ∷ h.rest;
  same_shape = h.same_shape;
  literals = h.literals;
  long = let l = h.long in omega (arith, l);
  are = (h.start, h.inside, h.are);
}

-- where none is to come, the clause alone
pub goes_nowhere : (P : Protocol) (begun : Clause) (from left : ℕ) (c : Clause) → left ≡ 0 → GoesOn P begun from left c → c ≡ begun
goes_nowhere P begun from left c none h = by_rest h.rest h.literals h.long
  where
    by_rest : (rest : List ℕ) → c.literals ≡ begun.literals ++ rest → length rest ≡ left → c ≡ begun
    by_rest [] e l = eta c begun.counts begun.literals h.same_shape (e ∙ append-nil begun.literals)
    by_rest (x ∷ xs) e l = absurd (omega (arith, l, none))

pub stays : (P : Protocol) (begun : Clause) (from left : ℕ) (c : Clause) → left ≡ 0 → c ≡ begun → GoesOn P begun from left c
stays P begun from left c none e = record {
  rest = [];
  same_shape = ap (λ (d : Clause). d.counts) e;
  literals = ap (λ (d : Clause). d.literals) e ∙ sym (append-nil begun.literals);
  long = sym none;
  are = tt;
}
