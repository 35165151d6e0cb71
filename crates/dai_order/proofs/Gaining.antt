-- Canonical clauses of one kind and then of another put into a list.
use Rattle.std.proofs.Common.{◌≡◌, ◌≢◌, ◌<◌, ◌≤◌, ◌+◌, ◌*◌, ◌/◌, ℕ, zero, suc, List, [], ◌∷◌, length, get_or, map, sym, ap, ◌∙◌, refl, subst, arith, inl, inr, ◌⊎◌}
use Rattle.std.specs.List.{Contains}
use Rattle.std.proofs.lemmas.Bool.{cases_lt}
use Rattle.std.proofs.lemmas.List.{length-map}
use Rattle.dai_model.specs.Protocol.{Protocol}
use Rattle.dai_model.specs.Clause as Model
use Rattle.dai_model.specs.Clause.{atoms_of}
use Rattle.dai_model.specs.Template.{Bounds, IsTemplate}
use Rattle.dai_model.specs.Subsumption.{IsRenaming}
use Rattle.dai_model.proofs.Below.{Each}
use Rattle.dai_template.specs.declared.clause.Clause.{Clause}
use Rattle.dai_template.specs.declared.space.Space.{Space}
use Rattle.dai_template.specs.Atoms.{counts_of}
use Rattle.dai_template.specs.Spaces.{IsClauseOf, clause_of}
use Rattle.dai_template.specs.Lists.{clauses_of}
use Rattle.dai_template.specs.Renamings.{put_in_order}
use Rattle.dai_template.proofs.Ways.{fewer_variables}
use Rattle.dai_template.proofs.SpaceShapes.{shape_atoms}
use Rattle.dai_order.specs.Forms.{IsForm, AreForms, HasGained, HasFormAmong}
use Rattle.dai_order.specs.Weakenings.{with_literal, IsNewAtom, HasLiteralOver, HasLiteralBelow, IsWeakerByLiteral}
use Rattle.dai_order.proofs.MoreLiterals.{with_template, literal_weaker, weaker_literal}

-- what a member of the list stands for
pub member_form : (P : Protocol) (B : Bounds) (space : Space) (clauses : List Clause) (d : Model.Clause) → AreForms P B space clauses → Contains (clauses_of space clauses) d → (x : Clause) × IsForm P B space x × (clause_of space x ≡ d)
member_form P B space clauses d forms h = found clauses forms.each h.0 (let long = length-map clauses (clause_of space) in let k = h.1 in omega (arith, long, k)) h.2
  where
    found : (xs : List Clause) → Each (IsForm P B space) xs → (k : ℕ) → k < length xs → get_or (clauses_of space xs) k d ≡ d → (x : Clause) × IsForm P B space x × (clause_of space x ≡ d)
    found [] each k below e = absurd (omega (arith, below))
    found (x ∷ xs) each zero below e = (x, each.0, e)
    found (x ∷ xs) each (suc k) below e = found xs each.1 k (omega (arith, below)) e

pub member_template : (P : Protocol) (B : Bounds) (space : Space) (clauses : List Clause) (d : Model.Clause) → AreForms P B space clauses → Contains (clauses_of space clauses) d → IsTemplate P B d
member_template P B space clauses d forms h = let w = member_form P B space clauses d forms h in subst (IsTemplate P B) w.2 w.1.of_the_space.template

module _ (P : Protocol) (B : Bounds) (space : Space) where
  pub gained_none : (Q : Model.Clause → Type 0) (old : List Clause) → AreForms P B space old → ((d : Model.Clause) → IsTemplate P B d → Q d → ⊥) → HasGained P B space Q old old
  gained_none Q old forms none = record { forms = forms; only = λ d k. inl k; keeps = λ d k. k; gains = λ d t q. absurd (none d t q) }

  pub gained_as : (Q R : Model.Clause → Type 0) (old new : List Clause) → ((d : Model.Clause) → IsTemplate P B d → Q d → R d) → ((d : Model.Clause) → IsTemplate P B d → R d → Q d) → HasGained P B space Q old new → HasGained P B space R old new
  gained_as Q R old new to from h = record {
    forms = h.forms;
    only = λ d k. either d (member_template P B space new d h.forms k) (h.only d k);
    keeps = h.keeps;
    gains = λ d t r. h.gains d t (from d t r);
  }
    where
      either : (d : Model.Clause) → IsTemplate P B d → Contains (clauses_of space old) d ⊎ Q d → Contains (clauses_of space old) d ⊎ R d
      either d t (inl k) = inl k
      either d t (inr q) = inr (to d t q)

  pub gained_then : (Q R S : Model.Clause → Type 0) (old mid new : List Clause) → ((d : Model.Clause) → IsTemplate P B d → Q d → S d) → ((d : Model.Clause) → IsTemplate P B d → R d → S d) → ((d : Model.Clause) → IsTemplate P B d → S d → Q d ⊎ R d) → HasGained P B space Q old mid → HasGained P B space R mid new → HasGained P B space S old new
  gained_then Q R S old mid new left right split h k = record {
    forms = k.forms;
    only = λ d there. second d (member_template P B space new d k.forms there) (k.only d there);
    keeps = λ d there. k.keeps d (h.keeps d there);
    gains = λ d t s. from d t (split d t s);
  }
    where
      first : (d : Model.Clause) → IsTemplate P B d → Contains (clauses_of space old) d ⊎ Q d → Contains (clauses_of space old) d ⊎ S d
      first d t (inl there) = inl there
      first d t (inr q) = inr (left d t q)

      second : (d : Model.Clause) → IsTemplate P B d → Contains (clauses_of space mid) d ⊎ R d → Contains (clauses_of space old) d ⊎ S d
      second d t (inl there) = first d t (h.only d there)
      second d t (inr r) = inr (right d t r)

      from : (d : Model.Clause) → IsTemplate P B d → Q d ⊎ R d → HasFormAmong P (clauses_of space new) d
      from d t (inl q) = let f = h.gains d t q in record { form = f.form; listed = k.keeps f.form f.listed; renaming = f.renaming }
      from d t (inr r) = k.gains d t r

-- a literal more
pub longer_is : (space : Space) (clause longer : Clause) (l : ℕ) → longer.shape ≡ clause.shape → longer.lits.items ≡ put_in_order l clause.lits.items → clause_of space longer ≡ with_literal (clause_of space clause) l
longer_is space clause longer l shape literals =
    let counts : (clause_of space longer).counts ≡ (clause_of space clause).counts = ap (λ n. get_or (map counts_of space.shapes.items) n []) shape in
    λ i. record { counts = counts i; literals = literals i }

pub longer_clause : (P : Protocol) (B : Bounds) (space : Space) (clause longer : Clause) (l atom : ℕ) → IsClauseOf P B space clause → length clause.lits.items < B.literals → l / 2 ≡ atom → atom < length (atoms_of P (clause_of space clause).counts) → IsNewAtom clause.lits.items atom → longer.shape ≡ clause.shape → longer.lits.items ≡ put_in_order l clause.lits.items → IsClauseOf P B space longer
longer_clause P B space clause longer l atom h room over below is_new shape literals = record {
  space_of = h.space_of;
  shape = let k = h.shape in omega (arith, k, shape);
  template = subst (IsTemplate P B) (sym (longer_is space clause longer l shape literals)) (with_template P B (clause_of space clause) l h.template room (omega (arith, over, below)) (subst (IsNewAtom clause.lits.items) (sym over) is_new));
}

pub few_atoms : (P : Protocol) (B : Bounds) (space : Space) (clause : Clause) → IsClauseOf P B space clause → length (atoms_of P (clause_of space clause).counts) ≤ 64
few_atoms P B space clause h = let a = fewer_variables P (clause_of space clause).counts B.variables h.template.few_variables in let b = h.space_of.few_atoms in omega (arith, a, b)

pub element_at : {X : Type 0} (xs : List X) (k : ℕ) → k < length xs → (x : X) × (x ≡ get_or xs k x)
element_at [] k below = absurd (omega (arith, below))
element_at (x ∷ xs) zero below = (x, refl)
element_at (x ∷ xs) (suc k) below = element_at xs k (omega (arith, below))

-- two protocols of one space have as many atoms over a shape
pub same_atoms : (P Q : Protocol) (B C : Bounds) (space : Space) (clause : Clause) → IsClauseOf P B space clause → IsClauseOf Q C space clause → length (atoms_of P (clause_of space clause).counts) ≡ length (atoms_of Q (clause_of space clause).counts)
same_atoms P Q B C space clause h k =
    let s = element_at space.shapes.items clause.shape h.shape in
    sym (shape_atoms P B space clause.shape s.0 h.space_of h.shape s.1).0 ∙ (shape_atoms Q C space clause.shape s.0 k.space_of k.shape s.1).0

pub same_room : (P Q : Protocol) (B C : Bounds) (space : Space) (clause : Clause) (n : ℕ) → IsClauseOf P B space clause → IsClauseOf Q C space clause → n < C.literals → n < B.literals
same_room P Q B C space clause n h k below = let a = h.space_of.literals in let b = k.space_of.literals in omega (arith, a, b, below)

-- both signs of one atom
pub both_signs : (P : Protocol) (B : Bounds) (space : Space) (clause first second : Clause) (atom l m : ℕ) (old mid new : List Clause) → IsNewAtom clause.lits.items atom → l ≡ 2 * atom → m ≡ 2 * atom + 1 → first.shape ≡ clause.shape → first.lits.items ≡ put_in_order l clause.lits.items → second.shape ≡ clause.shape → second.lits.items ≡ put_in_order m clause.lits.items → HasGained P B space (IsRenaming P (clause_of space first)) old mid → HasGained P B space (IsRenaming P (clause_of space second)) mid new → HasGained P B space (HasLiteralOver P (clause_of space clause) atom) old new
both_signs P B space clause first second atom l m old mid new is_new el em s1 l1 s2 l2 h k =
    gained_then P B space (IsRenaming P (clause_of space first)) (IsRenaming P (clause_of space second)) (HasLiteralOver P (clause_of space clause) atom) old mid new
    (λ d t r. record { literal = l; over = omega (arith, el); is_new = is_new; renaming = subst (λ e. IsRenaming P e d) (longer_is space clause first l s1 l1) r })
    (λ d t r. record { literal = m; over = omega (arith, em); is_new = is_new; renaming = subst (λ e. IsRenaming P e d) (longer_is space clause second m s2 l2) r })
    (λ d t s. by_sign d s (cases_lt s.literal m))
    h k
  where
    by_sign : (d : Model.Clause) (s : HasLiteralOver P (clause_of space clause) atom d) → (s.literal < m) ⊎ (m ≤ s.literal) → IsRenaming P (clause_of space first) d ⊎ IsRenaming P (clause_of space second) d
    by_sign d s (inl below) = inl (subst (λ e. IsRenaming P e d) (sym (longer_is space clause first l s1 l1)) (subst (λ n. IsRenaming P (with_literal (clause_of space clause) n) d) (let over = s.over in let same : s.literal ≡ l = omega (arith, over, below, el, em) in same) s.renaming))
    by_sign d s (inr above) = inr (subst (λ e. IsRenaming P e d) (sym (longer_is space clause second m s2 l2)) (subst (λ n. IsRenaming P (with_literal (clause_of space clause) n) d) (let over = s.over in let same : s.literal ≡ m = omega (arith, over, above, el, em) in same) s.renaming))

pub none_below_zero : (P : Protocol) (c d : Model.Clause) → HasLiteralBelow P c 0 d → ⊥
none_below_zero P c d h = let below = h.below in let none : ⊥ = omega (arith, below) in none

pub atom_next : (P : Protocol) (B : Bounds) (space : Space) (c : Model.Clause) (atom : ℕ) (old mid new : List Clause) → HasGained P B space (HasLiteralBelow P c atom) old mid → HasGained P B space (HasLiteralOver P c atom) mid new → HasGained P B space (HasLiteralBelow P c (atom + 1)) old new
atom_next P B space c atom old mid new h k =
    gained_then P B space (HasLiteralBelow P c atom) (HasLiteralOver P c atom) (HasLiteralBelow P c (atom + 1)) old mid new
    (λ d t q. record { atom = q.atom; below = let b = q.below in omega (arith, b); has = q.has })
    (λ d t r. record { atom = atom; below = omega arith; has = r })
    (λ d t s. by_atom d s (cases_lt s.atom atom))
    h k
  where
    by_atom : (d : Model.Clause) (s : HasLiteralBelow P c (atom + 1) d) → (s.atom < atom) ⊎ (atom ≤ s.atom) → HasLiteralBelow P c atom d ⊎ HasLiteralOver P c atom d
    by_atom d s (inl below) = inl (record { atom = s.atom; below = below; has = s.has })
    by_atom d s (inr last) = inr (subst (λ n. HasLiteralOver P c n d) (let b = s.below in let same : s.atom ≡ atom = omega (arith, last, b) in same) s.has)

pub all_literals : (P : Protocol) (B : Bounds) (space : Space) (c : Model.Clause) (atoms : ℕ) (old new : List Clause) → IsTemplate P B c → length c.literals < B.literals → atoms ≡ length (atoms_of P c.counts) → HasGained P B space (HasLiteralBelow P c atoms) old new → HasGained P B space (IsWeakerByLiteral P B c) old new
all_literals P B space c atoms old new t room all h =
    gained_as P B space (HasLiteralBelow P c atoms) (IsWeakerByLiteral P B c) old new
    (λ d u q. literal_weaker P B c d atoms t u room (omega (arith, all)) q)
    (λ d u r. subst (λ n. HasLiteralBelow P c n d) (sym all) (weaker_literal P B c d t r))
    h

pub few_lits : (P : Protocol) (B : Bounds) (space : Space) (clause : Clause) (n m : ℕ) → IsClauseOf P B space clause → n ≡ length clause.lits.items → m ≡ space.lits → n ≢ m → length clause.lits.items < B.literals
few_lits P B space clause n m h a b other = let l = h.space_of.literals in let few = h.template.few_literals in let differ : n ≢ m = other in omega (arith, a, b, l, few, differ)
