-- Lists of clauses none of which is below another.
use Rattle.std.proofs.Common.{◌≡◌, ◌<◌, ◌≤◌, ◌+◌, ℕ, zero, suc, List, [], ◌∷◌, ◌++◌, length, get_or, sum, take, sym, ap, ◌∙◌, refl, subst, arith, inl, inr, ◌⊎◌}
use Rattle.std.specs.List.{Contains, remove}
use Rattle.std.specs.Ordering.{nat_cmp, ordering_then}
use Rattle.std.specs.Cmp.Lexicographic.{slice_cmp}
use Rattle.std.specs.declared.cmp.Ordering.TheVariants.{Less}
use Rattle.std.proofs.lemmas.Bool.{cases_lt}
use Rattle.std.proofs.lemmas.List.{length-map, get_or-map, map-append, take_more, take_all}
use Rattle.std.proofs.lemmas.Cmp.{tied_itself}
use Rattle.dai_model.specs.Protocol.{Protocol}
use Rattle.dai_model.specs.Clause as Model
use Rattle.dai_model.specs.Template.{Bounds, IsTemplate}
use Rattle.dai_model.specs.Subsumption.{Subsumes, IsRenaming, IsCanonical, compare_literals, print_order}
use Rattle.dai_model.specs.Weakening.{rank_of, IsImmediateWeakening}
use Rattle.dai_model.proofs.Below.{Each, below-refl, below-trans}
use Rattle.dai_model.proofs.Counting.{same_sum}
use Rattle.dai_model.proofs.Order.{Rising, less_from}
use Rattle.dai_model.proofs.Ranks.{counts_no_less, rank_no_greater, is_renaming, below_again}
use Rattle.dai_model.proofs.OneCanonical.{same_rank, one_canonical, renamed_back}
use Rattle.dai_model.proofs.Covers.{weakenings_cover}
use Rattle.dai_template.specs.declared.clause.Clause.{Clause}
use Rattle.dai_template.specs.declared.space.Space.{Space}
use Rattle.dai_template.specs.Spaces.{IsSpaceOf, IsClauseOf, clause_of}
use Rattle.dai_template.specs.Lists.{clauses_of, Comes, IsListed, IsPart}
use Rattle.dai_template.proofs.Within.{Among, among_left, among_right, contained}
use Rattle.dai_template.proofs.Parts.{comes_by_length}
use Rattle.dai_order.specs.Forms.{IsForm, AreForms, HasGained, HasFormAmong}
use Rattle.dai_order.specs.Antichains.{StandsFor, IsAntichain, AreClauses, StandForSame, StandForOthers, HasEntered, HaveEntered, AreUnrelated, AreBelowNone, AreInTurn, IsRenamingOfOne, AreFormsOf, no_clause, member_at}
use Rattle.dai_order.proofs.Entering.{print_total, renaming_trans, listed}
use Rattle.dai_order.proofs.Gaining.{member_form, member_template}
use Rattle.dai_order.proofs.MoreLiterals.{renamed_weakening}

own_renaming : (P : Protocol) (B : Bounds) (c : Model.Clause) → IsTemplate P B c → IsRenaming P c c
own_renaming P B c t = record { same_shape = refl; as_many_literals = refl; permuted = below-refl P B c t }

member_canonical : (P : Protocol) (B : Bounds) (space : Space) (clauses : List Clause) (d : Model.Clause) → AreForms P B space clauses → Contains (clauses_of space clauses) d → IsCanonical P B d
member_canonical P B space clauses d forms h = let w = member_form P B space clauses d forms h in subst (IsCanonical P B) w.2 w.1.canonical

stands_further : (P : Protocol) (B : Bounds) (clauses : List Model.Clause) (c d : Model.Clause) → ((x : Model.Clause) → Contains clauses x → IsTemplate P B x) → StandsFor P clauses c → Subsumes P c d → StandsFor P clauses d
stands_further P B clauses c d templates s below = record { member = s.member; listed = s.listed; below = below-trans P B s.member c d (templates s.member s.listed) s.below below }

-- a clause enters
pub entered : (P : Protocol) (B : Bounds) (space : Space) (clause : Clause) (old new : List Clause) → IsClauseOf P B space clause → (StandsFor P (clauses_of space old) (clause_of space clause) → ⊥) → HasGained P B space (IsRenaming P (clause_of space clause)) old new → HasEntered P B space (clause_of space clause) old new
entered P B space clause old new h none gained = record {
  forms = gained.forms;
  only = λ d k. either d (gained.only d k);
  keeps = gained.keeps;
  stands =
      let f = gained.gains (clause_of space clause) h.template (own_renaming P B (clause_of space clause) h.template) in
      let u = member_template P B space new f.form gained.forms f.listed in
      record { member = f.form; listed = f.listed; below = (renamed_back P B (clause_of space clause) f.form h.template u f.renaming).permuted };
}
  where
    either : (d : Model.Clause) → Contains (clauses_of space old) d ⊎ IsRenaming P (clause_of space clause) d → Contains (clauses_of space old) d ⊎ (IsRenaming P (clause_of space clause) d × (StandsFor P (clauses_of space old) (clause_of space clause) → ⊥))
    either d (inl k) = inl k
    either d (inr r) = inr (r, none)

pub stayed_out : (P : Protocol) (B : Bounds) (space : Space) (c : Model.Clause) (old : List Clause) → AreForms P B space old → StandsFor P (clauses_of space old) c → HasEntered P B space c old old
stayed_out P B space c old forms s = record { forms = forms; only = λ d k. inl k; keeps = λ d k. k; stands = s }

-- members by their place
pub place_member : (space : Space) (clauses : List Clause) (k : ℕ) (x : Clause) → k < length clauses → x ≡ get_or clauses k x → Contains (clauses_of space clauses) (clause_of space x)
place_member space clauses k x below is =
    let long = length-map clauses (clause_of space) in
    (k, omega (arith, long, below), get_or-map (clause_of space) clauses k x (clause_of space x) below ∙ ap (clause_of space) (sym is))

pub each_place : (P : Clause → Type 0) (clauses : List Clause) (k : ℕ) (x : Clause) → Each P clauses → k < length clauses → x ≡ get_or clauses k x → P x
each_place P [] k x each below is = absurd (omega (arith, below))
each_place P (y ∷ ys) zero x each below is = subst P (sym is) each.0
each_place P (y ∷ ys) (suc k) x each below is = each_place P ys k x each.1 (omega (arith, below)) is

-- one clause more among those that were taken
Contains-more : (xs : List Model.Clause) (x y : Model.Clause) → Contains (xs ++ x ∷ []) y → Contains xs y ⊎ (x ≡ y)
Contains-more xs x y h = either (split xs (listed (xs ++ x ∷ []) y h))
  where
    split : (zs : List Model.Clause) → Among y (zs ++ x ∷ []) → Among y zs ⊎ (x ≡ y)
    split [] (inl e) = inr e
    split [] (inr h) = absurd h
    split (z ∷ zs) (inl e) = inl (inl e)
    split (z ∷ zs) (inr h) = later (split zs h)
      where
        later : Among y zs ⊎ (x ≡ y) → Among y (z ∷ zs) ⊎ (x ≡ y)
        later (inl k) = inl (inr k)
        later (inr e) = inr e

    either : Among y xs ⊎ (x ≡ y) → Contains xs y ⊎ (x ≡ y)
    either (inl k) = inl (contained y xs k)
    either (inr e) = inr e

Contains-left : (xs : List Model.Clause) (x y : Model.Clause) → Contains xs y → Contains (xs ++ x ∷ []) y
Contains-left xs x y h = contained y (xs ++ x ∷ []) (among_left y xs (x ∷ []) (listed xs y h))

Contains-last : (xs : List Model.Clause) (x : Model.Clause) → Contains (xs ++ x ∷ []) x
Contains-last xs x = contained x (xs ++ x ∷ []) (among_right x xs (x ∷ []) (inl refl))

-- the clauses that were taken, with the next one
pub next_taken : (space : Space) (clauses : List Clause) (k : ℕ) (x : Clause) → k < length clauses → x ≡ get_or clauses k x → clauses_of space (take (k + 1) clauses) ≡ clauses_of space (take k clauses) ++ clause_of space x ∷ []
next_taken space clauses k x below is =
    ap (clauses_of space) (take_more clauses k x below ∙ ap (λ y. take k clauses ++ y ∷ []) (sym is)) ∙ map-append (clause_of space) (take k clauses) (x ∷ [])

turn_front : (P : Protocol) (cs : List Model.Clause) (c : Model.Clause) → AreInTurn P (cs ++ c ∷ []) → AreInTurn P cs
turn_front P [] c h = tt
turn_front P (d ∷ cs) c h = (front cs h.0, turn_front P cs c h.1)
  where
    front : (xs : List Model.Clause) → Each (λ x. Subsumes P x d → Subsumes P d x) (xs ++ c ∷ []) → Each (λ x. Subsumes P x d → Subsumes P d x) xs
    front [] e = tt
    front (x ∷ xs) e = (e.0, front xs e.1)

turn_last : (P : Protocol) (cs : List Model.Clause) (c d : Model.Clause) → AreInTurn P (cs ++ c ∷ []) → Among d cs → Subsumes P c d → Subsumes P d c
turn_last P [] c d h k = absurd k
turn_last P (x ∷ cs) c d h (inl e) = subst (λ y. Subsumes P c y → Subsumes P y c) e (last cs h.0)
  where
    last : (xs : List Model.Clause) → Each (λ y. Subsumes P y x → Subsumes P x y) (xs ++ c ∷ []) → Subsumes P c x → Subsumes P x c
    last [] e = e.0
    last (y ∷ xs) e = last xs e.1
turn_last P (x ∷ cs) c d h (inr k) = turn_last P cs c d h.1 k

each_taken : (Q : Clause → Type 0) (xs : List Clause) (n : ℕ) → Each Q xs → Each Q (take n xs)
each_taken Q xs zero a = tt
each_taken Q [] (suc n) a = tt
each_taken Q (y ∷ ys) (suc n) a = (a.0, each_taken Q ys n a.1)

module _ (P : Protocol) (B : Bounds) (space : Space) where
  taken_template : (xs : List Clause) → Each (IsClauseOf P B space) xs → (c : Model.Clause) → Among c (clauses_of space xs) → IsTemplate P B c
  taken_template [] a c m = absurd m
  taken_template (y ∷ ys) a c (inl e) = subst (IsTemplate P B) e a.0.template
  taken_template (y ∷ ys) a c (inr m) = taken_template ys a.1 c m

  -- a clause that is below no member, but for renamings, keeps members unrelated
  unrelated_entered : (c : Model.Clause) (old new : List Clause) → IsTemplate P B c → AreForms P B space old → HasEntered P B space c old new → AreUnrelated P (clauses_of space old) → ((d : Model.Clause) → Contains (clauses_of space old) d → Subsumes P c d → Subsumes P d c) → AreUnrelated P (clauses_of space new)
  unrelated_entered c old new t forms h apart free x y hx hy below = by_origin (h.only x hx) (h.only y hy)
    where
      u : IsTemplate P B x
      u = member_template P B space new x h.forms hx

      v : IsTemplate P B y
      v = member_template P B space new y h.forms hy

      by_origin : Contains (clauses_of space old) x ⊎ (IsRenaming P c x × (StandsFor P (clauses_of space old) c → ⊥)) → Contains (clauses_of space old) y ⊎ (IsRenaming P c y × (StandsFor P (clauses_of space old) c → ⊥)) → x ≡ y
      by_origin (inl a) (inl b) = apart x y a b below
      by_origin (inl a) (inr b) = absurd (b.1 (record { member = x; listed = a; below = below-trans P B x y c u below (renamed_back P B c y t v b.0).permuted }))
      by_origin (inr a) (inl b) = absurd (a.1 (record { member = y; listed = b; below = free y b (below-trans P B c x y t a.0.permuted below) }))
      by_origin (inr a) (inr b) = one_canonical P B x y u v (renaming_trans P B x c y u (renamed_back P B c x t u a.0) b.0) (member_canonical P B space new x h.forms hx) (member_canonical P B space new y h.forms hy)

  pub one_more_entered : (clauses old mid new : List Clause) (k : ℕ) (x : Clause) → k < length clauses → x ≡ get_or clauses k x → Each (IsClauseOf P B space) clauses → AreForms P B space old → HaveEntered P B space (take k clauses) old mid → HasEntered P B space (clause_of space x) mid new → HaveEntered P B space (take (k + 1) clauses) old new
  one_more_entered clauses old mid new k x below is each forms h e = record {
    forms = e.forms;
    only = λ d there. second d (e.only d there);
    keeps = λ d there. e.keeps d (h.keeps d there);
    stands = λ c there. stand c (Contains-more _ _ c (subst (λ cs. Contains cs c) next there));
    unrelated = λ apart none turn.
        let whole = subst (AreInTurn P) next turn in
        unrelated_entered own mid new t h.forms e (h.unrelated apart (λ c d kc kd. none c d (subst (λ cs. Contains cs c) (sym next) (Contains-left _ own c kc)) kd) (turn_front P _ own whole))
        (λ d there low. free none whole d (member_template P B space mid d h.forms there) low (h.only d there));
  }
    where
      own : Model.Clause
      own = clause_of space x

      t : IsTemplate P B own
      t = (each_place (IsClauseOf P B space) clauses k x each below is).template

      next : clauses_of space (take (k + 1) clauses) ≡ clauses_of space (take k clauses) ++ own ∷ []
      next = next_taken space clauses k x below is

      first : (d : Model.Clause) → Contains (clauses_of space old) d ⊎ IsRenamingOfOne P (clauses_of space (take k clauses)) d → Contains (clauses_of space old) d ⊎ IsRenamingOfOne P (clauses_of space (take (k + 1) clauses)) d
      first d (inl there) = inl there
      first d (inr r) = inr (record { clause = r.clause; listed = subst (λ cs. Contains cs r.clause) (sym next) (Contains-left _ own r.clause r.listed); renaming = r.renaming })

      second : (d : Model.Clause) → Contains (clauses_of space mid) d ⊎ (IsRenaming P own d × (StandsFor P (clauses_of space mid) own → ⊥)) → Contains (clauses_of space old) d ⊎ IsRenamingOfOne P (clauses_of space (take (k + 1) clauses)) d
      second d (inl there) = first d (h.only d there)
      second d (inr r) = inr (record { clause = own; listed = subst (λ cs. Contains cs own) (sym next) (Contains-last _ own); renaming = r.0 })

      stand : (c : Model.Clause) → Contains (clauses_of space (take k clauses)) c ⊎ (own ≡ c) → StandsFor P (clauses_of space new) c
      stand c (inl there) = let s = h.stands c there in record { member = s.member; listed = e.keeps s.member s.listed; below = s.below }
      stand c (inr same) = subst (StandsFor P (clauses_of space new)) same e.stands

      free : AreBelowNone P (clauses_of space (take (k + 1) clauses)) (clauses_of space old) → AreInTurn P (clauses_of space (take k clauses) ++ own ∷ []) → (d : Model.Clause) → IsTemplate P B d → Subsumes P own d → Contains (clauses_of space old) d ⊎ IsRenamingOfOne P (clauses_of space (take k clauses)) d → Subsumes P d own
      free none whole d u low (inl there) = none own d (subst (λ cs. Contains cs own) (sym next) (Contains-last _ own)) there low
      free none whole d u low (inr r) =
          let rt = taken_template (take k clauses) (each_taken (IsClauseOf P B space) clauses k each) r.clause (listed _ r.clause r.listed) in
          let back = (renamed_back P B r.clause d rt u r.renaming).permuted in
          below-trans P B d r.clause own u back (turn_last P _ own r.clause whole (listed _ r.clause r.listed) (below-trans P B own d r.clause t low back))

  pub all_entered : (clauses old new : List Clause) (n : ℕ) → length clauses ≤ n → HaveEntered P B space (take n clauses) old new → HaveEntered P B space clauses old new
  all_entered clauses old new n all h = subst (λ cs. HaveEntered P B space cs old new) (take_all n clauses all) h

  pub one_more_form : (clauses mid new : List Clause) (k : ℕ) (x : Clause) → k < length clauses → x ≡ get_or clauses k x → Each (IsClauseOf P B space) clauses → AreFormsOf P B space (take k clauses) mid → HasGained P B space (IsRenaming P (clause_of space x)) mid new → AreFormsOf P B space (take (k + 1) clauses) new
  one_more_form clauses mid new k x below is each h e = record {
    are = e.forms;
    only = λ d there. from d (e.only d there);
    each = λ c there. form c (Contains-more _ _ c (subst (λ cs. Contains cs c) next there));
  }
    where
      own : Model.Clause
      own = clause_of space x

      t : IsTemplate P B own
      t = (each_place (IsClauseOf P B space) clauses k x each below is).template

      next : clauses_of space (take (k + 1) clauses) ≡ clauses_of space (take k clauses) ++ own ∷ []
      next = next_taken space clauses k x below is

      from : (d : Model.Clause) → Contains (clauses_of space mid) d ⊎ IsRenaming P own d → IsRenamingOfOne P (clauses_of space (take (k + 1) clauses)) d
      from d (inl there) = let r = h.only d there in record { clause = r.clause; listed = subst (λ cs. Contains cs r.clause) (sym next) (Contains-left _ own r.clause r.listed); renaming = r.renaming }
      from d (inr r) = record { clause = own; listed = subst (λ cs. Contains cs own) (sym next) (Contains-last _ own); renaming = r }

      form : (c : Model.Clause) → Contains (clauses_of space (take k clauses)) c ⊎ (own ≡ c) → HasFormAmong P (clauses_of space new) c
      form c (inl there) = let f = h.each c there in record { form = f.form; listed = e.keeps f.form f.listed; renaming = f.renaming }
      form c (inr same) = subst (HasFormAmong P (clauses_of space new)) same (e.gains own t (own_renaming P B own t))

  -- a clause below another one comes before it, or is that one
  below_comes : (c d : Model.Clause) → IsTemplate P B c → IsTemplate P B d → IsCanonical P B c → IsCanonical P B d → Subsumes P c d → (c ≡ d) ⊎ (print_order c d ≡ Less)
  below_comes c d t u cc_c cc_d sub = by_rank (cases_lt (rank_of c) (rank_of d))
    where
      by_counts : rank_of c < rank_of d → (sum c.counts < sum d.counts) ⊎ (sum d.counts ≤ sum c.counts) → print_order c d ≡ Less
      by_counts less (inl fewer) = ap (λ o. ordering_then o (ordering_then (slice_cmp nat_cmp c.counts d.counts) (ordering_then (nat_cmp (length c.literals) (length d.literals)) (compare_literals c d)))) (less_from (sum c.counts) (sum d.counts) fewer)
      by_counts less (inr many) =
          let counts = same_sum c.counts d.counts (t.one_count_each ∙ sym u.one_count_each) (counts_no_less P B c d t u sub) many in
          let sums = ap (λ (ns : List ℕ). sum ns) counts in
          comes_by_length c d counts (omega (arith, less, sums))

      by_rank : (rank_of c < rank_of d) ⊎ (rank_of d ≤ rank_of c) → (c ≡ d) ⊎ (print_order c d ≡ Less)
      by_rank (inl less) = inr (by_counts less (cases_lt (sum c.counts) (sum d.counts)))
      by_rank (inr full) = inl (one_canonical P B c d t u (is_renaming P B c d t u sub full) cc_c cc_d)

  in_turn : (forms : List Clause) → AreForms P B space forms → AreInTurn P (clauses_of space forms)
  in_turn forms h = walk forms h.each h.rising
    where
      first : (x : Clause) (ys : List Clause) → IsForm P B space x → Each (IsForm P B space) ys → Each (Comes space x) ys → Each (λ d. Subsumes P d (clause_of space x) → Subsumes P (clause_of space x) d) (clauses_of space ys)
      first x [] f each later = tt
      first x (y ∷ ys) f each later = (here, first x ys f each.1 later.1)
        where
          here : Subsumes P (clause_of space y) (clause_of space x) → Subsumes P (clause_of space x) (clause_of space y)
          here sub = by_order (below_comes (clause_of space y) (clause_of space x) each.0.of_the_space.template f.of_the_space.template each.0.canonical f.canonical sub)
            where
              by_order : (clause_of space y ≡ clause_of space x) ⊎ (print_order (clause_of space y) (clause_of space x) ≡ Less) → Subsumes P (clause_of space x) (clause_of space y)
              by_order (inl same) = subst (λ e. Subsumes P e (clause_of space y)) same (below-refl P B (clause_of space y) each.0.of_the_space.template)
              by_order (inr before) =
                  let around = print_total.trans (clause_of space x) (clause_of space y) (clause_of space x) later.0 before in
                  let own = tied_itself print_total (clause_of space x) in
                  absurd (let none : ⊥ = cc in none)

      walk : (xs : List Clause) → Each (IsForm P B space) xs → Rising (Comes space) xs → AreInTurn P (clauses_of space xs)
      walk [] each rising = tt
      walk (x ∷ xs) each rising = (first x xs each.0 each.1 rising.0, walk xs each.1 rising.1)

  pub forms_each : (forms : List Clause) → AreForms P B space forms → Each (IsClauseOf P B space) forms
  forms_each forms h = walk forms h.each
    where
      walk : (xs : List Clause) → Each (IsForm P B space) xs → Each (IsClauseOf P B space) xs
      walk [] each = tt
      walk (x ∷ xs) each = (each.0.of_the_space, walk xs each.1)

  pub antichain_of : (forms new : List Clause) → IsSpaceOf P B space → AreForms P B space forms → HaveEntered P B space forms [] new → IsAntichain P B space new
  antichain_of forms new h are entered = record {
    space_of = h;
    forms = entered.forms;
    apart = entered.unrelated (λ c d k _ _. absurd (let below = k.1 in omega (arith, below))) (λ c d _ k _. absurd (let below = k.1 in omega (arith, below))) (in_turn forms are);
  }

  pub stand_for_same : (clauses forms new : List Clause) → AreClauses P B space clauses → AreFormsOf P B space clauses forms → HaveEntered P B space forms [] new → StandForSame P B (clauses_of space clauses) (clauses_of space new)
  stand_for_same clauses forms new h are entered = record {
    wide = λ d u s.
        let t = taken_template clauses h.each s.member (listed _ s.member s.listed) in
        let f = are.each s.member s.listed in
        let ft = member_template P B space forms f.form are.are f.listed in
        let low = below-trans P B f.form s.member d ft (renamed_back P B s.member f.form t ft f.renaming).permuted s.below in
        stands_further P B (clauses_of space new) f.form d (λ x k. member_template P B space new x entered.forms k) (entered.stands f.form f.listed) low;
    narrow = λ d u s.
        let v = member_template P B space new s.member entered.forms s.listed in
        from s.member v (entered.only s.member s.listed) d s.below;
  }
    where
      from_form : (x : Model.Clause) → IsTemplate P B x → (y : Model.Clause) → IsTemplate P B y → Contains (clauses_of space forms) y → IsRenaming P y x → (d : Model.Clause) → Subsumes P x d → StandsFor P (clauses_of space clauses) d
      from_form x v y w k r d low =
          let o = are.only y k in
          let t = taken_template clauses h.each o.clause (listed _ o.clause o.listed) in
          record { member = o.clause; listed = o.listed; below = below-trans P B o.clause y d t o.renaming.permuted (below-trans P B y x d w r.permuted low) }

      from : (x : Model.Clause) → IsTemplate P B x → Contains (clauses_of space []) x ⊎ IsRenamingOfOne P (clauses_of space forms) x → (d : Model.Clause) → Subsumes P x d → StandsFor P (clauses_of space clauses) d
      from x v (inl k) d low = absurd (let below = k.1 in omega (arith, below))
      from x v (inr r) d low = from_form x v r.clause (member_template P B space forms r.clause are.are r.listed) r.listed r.renaming d low

-- a member less
each_removed : (Q : Clause → Type 0) (xs : List Clause) (i : ℕ) → Each Q xs → Each Q (remove xs i)
each_removed Q [] zero h = tt
each_removed Q [] (suc i) h = tt
each_removed Q (x ∷ xs) zero h = h.1
each_removed Q (x ∷ xs) (suc i) h = (h.0, each_removed Q xs i h.1)

rising_removed : (R : Clause → Clause → Type 0) (xs : List Clause) (i : ℕ) → Rising R xs → Rising R (remove xs i)
rising_removed R [] zero h = tt
rising_removed R [] (suc i) h = tt
rising_removed R (x ∷ xs) zero h = h.1
rising_removed R (x ∷ xs) (suc i) h = (each_removed (R x) xs i h.0, rising_removed R xs i h.1)

among_removed : (space : Space) (xs : List Clause) (i : ℕ) (d : Model.Clause) → Among d (clauses_of space (remove xs i)) → Among d (clauses_of space xs)
among_removed space [] zero d h = absurd h
among_removed space [] (suc i) d h = absurd h
among_removed space (x ∷ xs) zero d h = inr h
among_removed space (x ∷ xs) (suc i) d (inl e) = inl e
among_removed space (x ∷ xs) (suc i) d (inr h) = inr (among_removed space xs i d h)

still_among : (space : Space) (xs : List Clause) (i : ℕ) (r : Clause) (d : Model.Clause) → i < length xs → r ≡ get_or xs i r → Among d (clauses_of space xs) → Among d (clauses_of space (remove xs i)) ⊎ (clause_of space r ≡ d)
still_among space [] i r d below is h = absurd h
still_among space (x ∷ xs) zero r d below is (inl e) = inr (ap (clause_of space) is ∙ e)
still_among space (x ∷ xs) zero r d below is (inr h) = inl h
still_among space (x ∷ xs) (suc i) r d below is (inl e) = inl (inl e)
still_among space (x ∷ xs) (suc i) r d below is (inr h) = later (still_among space xs i r d (omega (arith, below)) is h)
  where
    later : Among d (clauses_of space (remove xs i)) ⊎ (clause_of space r ≡ d) → Among d (clauses_of space (remove (x ∷ xs) (suc i))) ⊎ (clause_of space r ≡ d)
    later (inl k) = inl (inr k)
    later (inr e) = inr e

not_itself : (space : Space) (x y : Clause) → Comes space x y → clause_of space x ≡ clause_of space y → ⊥
not_itself space x y before same =
    let own = tied_itself print_total (clause_of space y) in
    let less : print_order (clause_of space y) (clause_of space y) ≡ Less = subst (λ c. print_order c (clause_of space y) ≡ Less) same before in
    let none : ⊥ = cc in
    none

gone_from : (space : Space) (xs : List Clause) (i : ℕ) (r : Clause) (d : Model.Clause) → i < length xs → r ≡ get_or xs i r → Rising (Comes space) xs → Among d (clauses_of space (remove xs i)) → clause_of space r ≡ d → ⊥
gone_from space [] i r d below is rising h same = absurd (omega (arith, below))
gone_from space (x ∷ xs) zero r d below is rising h same = walk xs rising.0 h
  where
    walk : (ys : List Clause) → Each (Comes space x) ys → Among d (clauses_of space ys) → ⊥
    walk [] e a = a
    walk (y ∷ ys) e (inl here) = not_itself space x y e.0 (ap (clause_of space) (sym is) ∙ (same ∙ sym here))
    walk (y ∷ ys) e (inr a) = walk ys e.1 a
gone_from space (x ∷ xs) (suc i) r d below is rising (inl e) same = not_itself space x r (each_place (Comes space x) xs i r rising.0 (omega (arith, below)) is) (e ∙ sym same)
gone_from space (x ∷ xs) (suc i) r d below is rising (inr h) same = gone_from space xs i r d (omega (arith, below)) is rising.1 h same

module _ (P : Protocol) (B : Bounds) (space : Space) (old : List Clause) (at : ℕ) (r : Clause) (below : at < length old) (is : r ≡ get_or old at r) (a : IsAntichain P B space old) where
  abbrev rest : List Clause
  rest = remove old at

  abbrev gone : Model.Clause
  gone = clause_of space r

  pub gone_form : IsForm P B space r
  gone_form = each_place (IsForm P B space) old at r a.forms.each below is

  pub rest_forms : AreForms P B space rest
  rest_forms = record { each = each_removed (IsForm P B space) old at a.forms.each; rising = rising_removed (Comes space) old at a.forms.rising }

  gone_listed : Contains (clauses_of space old) gone
  gone_listed = place_member space old at r below is

  rest_old : (d : Model.Clause) → Contains (clauses_of space rest) d → Contains (clauses_of space old) d
  rest_old d h = contained d _ (among_removed space old at d (listed _ d h))

  rest_not : (d : Model.Clause) → Contains (clauses_of space rest) d → gone ≡ d → ⊥
  rest_not d h = gone_from space old at r d below is a.forms.rising (listed _ d h)

  old_rest : (d : Model.Clause) → Contains (clauses_of space old) d → Contains (clauses_of space rest) d ⊎ (gone ≡ d)
  old_rest d h = either (still_among space old at r d below is (listed _ d h))
    where
      either : Among d (clauses_of space rest) ⊎ (gone ≡ d) → Contains (clauses_of space rest) d ⊎ (gone ≡ d)
      either (inl k) = inl (contained d _ k)
      either (inr e) = inr e

  pub member_is : member_at space old at ≡ gone
  member_is = get_or-map (clause_of space) old at r no_clause below ∙ ap (clause_of space) (sym is)

  module _ (weaker new : List Clause) (part : IsPart P B space (IsImmediateWeakening P B gone) weaker) (forms_of : (d : Model.Clause) → IsImmediateWeakening P B gone d → HasFormAmong P (clauses_of space weaker) d) (e : HaveEntered P B space weaker rest new) where
    weakening_of : (d : Model.Clause) → Contains (clauses_of space weaker) d → IsImmediateWeakening P B gone d
    weakening_of d h = walk weaker part.each (listed _ d h)
      where
        walk : (xs : List Clause) → Each (IsListed P B space (IsImmediateWeakening P B gone)) xs → Among d (clauses_of space xs) → IsImmediateWeakening P B gone d
        walk [] l m = absurd m
        walk (x ∷ xs) l (inl same) = subst (IsImmediateWeakening P B gone) same l.0.has
        walk (x ∷ xs) l (inr m) = walk xs l.1 m

    -- weakenings below one another are renamings of each other
    each_way : (c d : Model.Clause) → IsImmediateWeakening P B gone c → IsImmediateWeakening P B gone d → Subsumes P d c → Subsumes P c d
    each_way c d w v sub = let one = w.one_more in let other = v.one_more in below_again P B d c v.template w.template sub (omega (arith, one, other))

    weaker_in_turn : AreInTurn P (clauses_of space weaker)
    weaker_in_turn = walk weaker part.each
      where
        first : (x : Clause) (ys : List Clause) → IsImmediateWeakening P B gone (clause_of space x) → Each (IsListed P B space (IsImmediateWeakening P B gone)) ys → Each (λ d. Subsumes P d (clause_of space x) → Subsumes P (clause_of space x) d) (clauses_of space ys)
        first x [] w l = tt
        first x (y ∷ ys) w l = (each_way (clause_of space x) (clause_of space y) w l.0.has, first x ys w l.1)

        walk : (xs : List Clause) → Each (IsListed P B space (IsImmediateWeakening P B gone)) xs → AreInTurn P (clauses_of space xs)
        walk [] l = tt
        walk (x ∷ xs) l = (first x xs l.0.has l.1, walk xs l.1)

    pub antichain_after : IsAntichain P B space new
    antichain_after = record {
      space_of = a.space_of;
      forms = e.forms;
      apart = e.unrelated (λ c d hc hd. a.apart c d (rest_old c hc) (rest_old d hd))
          (λ c d hc hd sub. let w = weakening_of c hc in absurd (rest_not d hd (a.apart gone d gone_listed (rest_old d hd) (below-trans P B gone c d gone_form.of_the_space.template w.below sub))))
          weaker_in_turn;
    }

    -- a new member is one of the others, or an immediate weakening
    from_weaker : (d : Model.Clause) → Contains (clauses_of space new) d → Contains (clauses_of space rest) d ⊎ IsImmediateWeakening P B gone d
    from_weaker d h = either (e.only d h)
      where
        u : IsTemplate P B d
        u = member_template P B space new d e.forms h

        either : Contains (clauses_of space rest) d ⊎ IsRenamingOfOne P (clauses_of space weaker) d → Contains (clauses_of space rest) d ⊎ IsImmediateWeakening P B gone d
        either (inl k) = inl k
        either (inr q) = inr (renamed_weakening P B gone q.clause d gone_form.of_the_space.template u (weakening_of q.clause q.listed) q.renaming)

    still_stands : (x d : Model.Clause) → IsTemplate P B d → Subsumes P x d → Contains (clauses_of space rest) x ⊎ IsImmediateWeakening P B gone x → StandsFor P (clauses_of space old) d
    still_stands x d u sub (inl k) = record { member = x; listed = rest_old x k; below = sub }
    still_stands x d u sub (inr w) = record { member = gone; listed = gone_listed; below = below-trans P B gone x d gone_form.of_the_space.template w.below sub }

    never_gone : (x d : Model.Clause) → IsTemplate P B x → IsTemplate P B d → Subsumes P x d → IsRenaming P gone d → Contains (clauses_of space rest) x ⊎ IsImmediateWeakening P B gone x → ⊥
    never_gone x d v u sub q (inl k) =
        rest_not x k (sym (a.apart x gone (rest_old x k) gone_listed (below-trans P B x d gone v sub (renamed_back P B gone d gone_form.of_the_space.template u q).permuted)))
    never_gone x d v u sub q (inr w) =
        let more = rank_no_greater P B x d v u sub in
        let one = w.one_more in
        let same = same_rank P gone d q in
        let none : ⊥ = omega (arith, more, one, same) in
        none

    covered : (d : Model.Clause) → IsTemplate P B d → Subsumes P gone d → (IsRenaming P gone d → ⊥) → (rank_of gone < rank_of d) ⊎ (rank_of d ≤ rank_of gone) → StandsFor P (clauses_of space new) d
    covered d u sub other (inr full) = absurd (other (is_renaming P B gone d gone_form.of_the_space.template u sub full))
    covered d u sub other (inl less) =
        let w = weakenings_cover P B gone d gone_form.of_the_space.template u sub less in
        let f = forms_of w.between w.weakening in
        let t = (weakening_of f.form f.listed).template in
        let low = below-trans P B f.form w.between d t (renamed_back P B w.between f.form w.weakening.template t f.renaming).permuted w.below in
        stands_further P B (clauses_of space new) f.form d (λ x k. member_template P B space new x e.forms k) (e.stands f.form f.listed) low

    others_stand : (x d : Model.Clause) → IsTemplate P B d → Subsumes P x d → (IsRenaming P gone d → ⊥) → Contains (clauses_of space rest) x ⊎ (gone ≡ x) → StandsFor P (clauses_of space new) d
    others_stand x d u sub other (inl k) = record { member = x; listed = e.keeps x k; below = sub }
    others_stand x d u sub other (inr same) = covered d u (subst (λ y. Subsumes P y d) (sym same) sub) other (cases_lt (rank_of gone) (rank_of d))

    pub stand_for_others : StandForOthers P B (clauses_of space old) gone (clauses_of space new)
    stand_for_others = record {
      from_old = λ d u s. still_stands s.member d u s.below (from_weaker s.member s.listed);
      not_gone = λ d u s q. never_gone s.member d (member_template P B space new s.member e.forms s.listed) u s.below q (from_weaker s.member s.listed);
      all_others = λ d u s other. others_stand s.member d u s.below other (old_rest s.member s.listed);
    }

-- equal lists
pub entered_as : (P : Protocol) (B : Bounds) (space : Space) (clauses others old first new : List Clause) → clauses ≡ others → old ≡ first → HaveEntered P B space clauses old new → HaveEntered P B space others first new
entered_as P B space clauses others old first new p q h = subst (λ xs. HaveEntered P B space xs first new) p (subst (λ xs. HaveEntered P B space clauses xs new) q h)

pub part_each : (P : Protocol) (B : Bounds) (space : Space) (Q : Model.Clause → Type 0) (clauses : List Clause) → IsPart P B space Q clauses → Each (IsClauseOf P B space) clauses
part_each P B space Q clauses part = walk clauses part.each
  where
    walk : (xs : List Clause) → Each (IsListed P B space Q) xs → Each (IsClauseOf P B space) xs
    walk [] l = tt
    walk (x ∷ xs) l = (l.0.of_the_space, walk xs l.1)
