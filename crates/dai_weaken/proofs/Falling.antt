-- What a round fells, and what is left after it.
use Rattle.std.proofs.Common.{inl, inr, ◌≡◌, ℕ, ◌<◌, ◌++◌, ◌∷◌, Bool, true, false, List, [], Option, Some, None, length, subst, sym, ◌∙◌, ap, refl, arith, append_assoc, ⊎_elim, Vec}
use Rattle.std.specs.Prelude.{◌⊎◌, ◌↔◌, ◌==◌, vec_len, slice_index_or, slice_get}
use Rattle.std.specs.Option.{option_map}
use Rattle.std.specs.List.{Contains}
use Rattle.std.specs.declared.alloc.Global.{Global}
use Rattle.std.proofs.lemmas.Bool.{eqb-true}
use Rattle.std.proofs.lemmas.Option.{slice_get_within, get_or_from_slice_get}
use Rattle.std.proofs.lemmas.List.{get_or_default, length-map}
use Rattle.std.proofs.lemmas.List.Elements.{Contains-append_left, Contains-append_right, Contains-append_cases}
use Rattle.dai_model.specs.Protocol.{Protocol, Block, Action}
use Rattle.dai_model.specs.Clause as Model
use Rattle.dai_model.specs.Clause.{Meets, MeetsEach}
use Rattle.dai_model.specs.Execution.{executes}
use Rattle.dai_model.specs.Reachable.{AreElements, IsInitial, IsStep}
use Rattle.dai_model.specs.Template.{Bounds, IsTemplate}
use Rattle.dai_model.specs.Subsumption.{IsRenaming}
use Rattle.dai_model.specs.Classes.{Class}
use Rattle.dai_model.specs.Inductive.{IsInGreatest}
use Rattle.dai_model.proofs.OneCanonical.{renamed_back}
use Rattle.dai_logic.specs.Protocols.{block_named}
use Rattle.dai_logic.specs.Tables.{structure_of}
use Rattle.dai_logic.specs.declared.structure.BlockId.{BlockId}
use Rattle.dai_logic.specs.declared.structure.BlockId.TheVariants.{Init, Act}
use Rattle.dai_logic.proofs.Tuples.{fits_structure}
use Rattle.dai_template.specs.declared.clause.Clause.{Clause}
use Rattle.dai_template.specs.declared.space.Space.{Space}
use Rattle.dai_template.specs.Spaces.{clause_of}
use Rattle.dai_template.specs.Lists.{clauses_of}
use Rattle.dai_order.specs.Antichains.{StandsFor, IsAntichain, member_at, no_clause}
use Rattle.dai_weaken.specs.declared.judge.Counterexample.{Counterexample}
use Rattle.dai_weaken.specs.declared.rounds.Strike.{Strike}
use Rattle.dai_weaken.specs.Judging.{IsTransition, Holds}
use Rattle.dai_weaken.specs.Questions.{ArePremises}
use Rattle.dai_weaken.specs.Strikes.{IsStrike, AreStrikes, struck_by, AreRoundStrikes}
use Rattle.dai_weaken.specs.Standing.{StandsForGreatest}
use Rattle.dai_weaken.specs.Falls.{IsOpen, IsGenuine, AreGenuine}
use Rattle.dai_weaken.specs.Weakening.{IsStart, IsLeft, IsDownTo, IsStill, IsNoneStruck, IsWithoutStruck}
use Rattle.dai_weaken.proofs.Answering.{AreTemplates, IsMinimalList, meets_all, falls_at_first, falls_after, above_greatest, still_inductive, answer, in_greatest}
use Rattle.dai_weaken.proofs.Descending.{bool_cases, member_form, member_template, member_canonical, in_order, listed_member, member_stands, one_member}

append_nil : {X : Type 0} (xs : List X) → xs ++ [] ≡ xs
append_nil [] = refl
append_nil (x ∷ xs) = ap (λ ys. x ∷ ys) (append_nil xs)

pub none_listed : {X : Type 0} (v : Vec X Global) → true ≡ (vec_len v == 0) → v.items ≡ []
none_listed v e = none_by v.items (let known = eqb-true (vec_len v) 0 (sym e) in omega (arith, known))
  where
    none_by : {X : Type 0} (xs : List X) → length xs ≡ 0 → xs ≡ []
    none_by [] k = refl
    none_by (x ∷ xs) k = absurd (omega (arith, k))

-- transitions
block_cases : (b : BlockId) → (b ≡ Init) ⊎ ((n : ℕ) × (b ≡ Act n))
block_cases Init = inl refl
block_cases (Act n) = inr (n, refl)

initial_by : (C : Class) (P : Protocol) (x : Counterexample) → x.block ≡ Init → IsTransition C P x → IsInitial P (structure_of P x.after)
initial_by C P x e h =
    let before = structure_of P x.before in
    let after = structure_of P x.after in
    let choices = x.choices.items in
    let named : Some h.block ≡ Some P.init = sym h.named ∙ ap (block_named P) e in
    let same : h.block ≡ P.init = cc in
    let leaves : executes P P.init before x.args.items choices ≡ Some after = subst (λ (b : Block). executes P b before x.args.items choices ≡ Some after) same h.leaves in
    record {
      before = before;
      choices = choices;
      structure = fits_structure P x.before h.before_fits;
      axioms = h.axioms;
      chosen = subst (λ (b : Block). AreElements before b.choices choices) same h.chosen;
      leaves = subst (λ (given : List ℕ). executes P P.init before given choices ≡ Some after) (h.init_alone e) leaves;
    }

named_action : (o : Option Action) (b : Block) → option_map (λ (a : Action). a.block) o ≡ Some b → (a : Action) × (o ≡ Some a) × (a.block ≡ b)
named_action None b e = absurd (let z : ⊥ = cc in z)
named_action (Some a) b e = let same : a.block ≡ b = cc in (a, refl, same)

step_by : (C : Class) (P : Protocol) (x : Counterexample) (n : ℕ) → x.block ≡ Act n → IsTransition C P x → IsStep P (structure_of P x.before) (structure_of P x.after)
step_by C P x n e h =
    let before = structure_of P x.before in
    let after = structure_of P x.after in
    let found = named_action (slice_get P.actions n) h.block (sym (ap (block_named P) e) ∙ h.named) in
    let a = found.0 in
    let same : h.block ≡ a.block = sym found.2 in
    record {
      action = a;
      exported = (n, slice_get_within P.actions n a found.1, get_or_from_slice_get P.actions n a a found.1);
      step = record {
        arguments = x.args.items;
        choices = x.choices.items;
        given = subst (λ (b : Block). AreElements before b.parameters x.args.items) same h.given;
        chosen = subst (λ (b : Block). AreElements before b.choices x.choices.items) same h.chosen;
        leaves = subst (λ (b : Block). executes P b before x.args.items x.choices.items ≡ Some after) same h.leaves;
      };
    }

-- an antichain
module _ (P : Protocol) (B : Bounds) (space : Space) (clauses : List Clause) (antichain : IsAntichain P B space clauses) where
  pub templates : AreTemplates P B (clauses_of space clauses)
  templates = member_template P B space clauses antichain

  pub minimal_list : IsMinimalList P B (clauses_of space clauses)
  minimal_list = record { templates = templates; canonical = member_canonical P B space clauses antichain; in_order = in_order P B space clauses antichain; apart = antichain.apart }

  pub premises : ArePremises P space clauses
  premises = record { bounds = B; space_of = antichain.space_of; each = λ c there. (member_form P B space clauses antichain c there).of_the_space }

-- the strikes of a round
module _ (C : Class) (P : Protocol) (B : Bounds) (space : Space) (start fallen : List Model.Clause) (clauses : List Clause) (antichain : IsAntichain P B space clauses)
    (covers : StandsForGreatest C P B (clauses_of space clauses)) (stands : (c : Model.Clause) → IsTemplate P B c → StandsFor P (clauses_of space clauses) c ↔ IsOpen P B start fallen c) where
  members : List Model.Clause
  members = clauses_of space clauses

  outside_by : (b : BlockId) (x : Strike) (c : Model.Clause) → (x.by.block ≡ Init) ⊎ ((n : ℕ) × (x.by.block ≡ Act n)) → IsTransition C P x.by → ((n : ℕ) → x.by.block ≡ Act n → MeetsEach P (structure_of P x.by.before) (clauses_of space clauses))
      → (Meets P (structure_of P x.by.after) c → ⊥) → IsInGreatest C P B c → ⊥
  outside_by b x c (inl e) t origin broken g = falls_at_first C P B c (structure_of P x.by.after) t.after_of_the_class (initial_by C P x.by e t) broken g
  outside_by b x c (inr (n, e)) t origin broken g =
      falls_after C P B (clauses_of space clauses) c (structure_of P x.by.before) (structure_of P x.by.after) (templates P B space clauses antichain) covers t.of_the_class (fits_structure P x.by.before t.before_fits) t.axioms (origin n e) (step_by C P x.by n e t) broken g

  -- what is struck is outside of the greatest set
  pub struck_outside : (seen : List Model.Clause) (xs : List Strike) → AreStrikes C P (clauses_of space clauses) space (clauses_of space clauses) seen xs → (c : Model.Clause) → Contains (struck_by space xs) c → IsInGreatest C P B c → ⊥
  struck_outside seen [] h c there g = let less = there.1 in omega (arith, less)
  struck_outside seen (x ∷ xs) h c there g =
      ⊎_elim (λ own. outside_by x.by.block x c (block_cases x.by.block) h.0.transition h.0.origin (h.0.broken c own) g) (λ later. struck_outside (seen ++ clauses_of space x.clauses.items) xs h.1 c later g)
      (Contains-append_cases (clauses_of space x.clauses.items) (struck_by space xs) c there)

  pub struck_members : (seen : List Model.Clause) (xs : List Strike) → AreStrikes C P (clauses_of space clauses) space (clauses_of space clauses) seen xs → (c : Model.Clause) → Contains (struck_by space xs) c → Contains (clauses_of space clauses) c
  struck_members seen [] h c there = absurd (let less = there.1 in omega (arith, less))
  struck_members seen (x ∷ xs) h c there =
      ⊎_elim (λ own. h.0.are_members c own) (λ later. struck_members (seen ++ clauses_of space x.clauses.items) xs h.1 c later) (Contains-append_cases (clauses_of space x.clauses.items) (struck_by space xs) c there)

  -- each member is open
  member_open : (c : Model.Clause) → Contains (clauses_of space clauses) c → IsOpen P B start fallen c
  member_open c there = (stands c (templates P B space clauses antichain c there)).0 (member_stands P B space clauses antichain c there)

  open_before : (seen : List Model.Clause) (c : Model.Clause) → IsOpen P B start (fallen ++ seen) c → IsOpen P B start fallen c
  open_before seen c h = record { template = h.template; stands = h.stands; no_renaming = λ d there. h.no_renaming d (Contains-append_left fallen seen d there) }

  genuine_one : (seen : List Model.Clause) (x : Strike) → ((d : Model.Clause) → Contains seen d → Contains (clauses_of space clauses) d) → IsStrike C P (clauses_of space clauses) space (clauses_of space clauses) seen x → IsGenuine C P B space start (fallen ++ seen) x
  genuine_one seen x known h = record {
    transition = h.transition;
    origin = λ number e c still. meets_all P B (clauses_of space clauses) (structure_of P x.by.before) (templates P B space clauses antichain) (h.origin number e) c ((stands c still.template).1 (open_before seen c still));
    each = λ c there.
        let member = h.are_members c there in
        let own = member_open c member in
        record {
          canonical = member_canonical P B space clauses antichain c member;
          was_open = record {
            template = own.template;
            stands = own.stands;
            no_renaming = λ d before r.
                ⊎_elim (λ old. own.no_renaming d old r) (λ new. h.were_not c there (subst (Contains seen) (one_member P B space clauses antichain c d member (known d new) r) new)) (Contains-append_cases fallen seen d before);
          };
          broken = h.broken c there;
        };
  }

  pub genuine_round : (seen : List Model.Clause) (xs : List Strike) → ((d : Model.Clause) → Contains seen d → Contains (clauses_of space clauses) d) → AreStrikes C P (clauses_of space clauses) space (clauses_of space clauses) seen xs → AreGenuine C P B space start (fallen ++ seen) xs
  genuine_round seen [] known h = tt
  genuine_round seen (x ∷ xs) known h =
      let own = clauses_of space x.clauses.items in
      let rest = genuine_round (seen ++ own) xs (λ d there. ⊎_elim (λ old. known d old) (λ new. h.0.are_members d new) (Contains-append_cases seen own d there)) h.1 in
      (genuine_one seen x known h.0, subst (λ (cs : List Model.Clause). AreGenuine C P B space start cs xs) (sym (append_assoc fallen seen own)) rest)

genuine_both : (C : Class) (P : Protocol) (B : Bounds) (space : Space) (start fallen : List Model.Clause) (xs ys : List Strike) → AreGenuine C P B space start fallen xs → AreGenuine C P B space start (fallen ++ struck_by space xs) ys → AreGenuine C P B space start fallen (xs ++ ys)
genuine_both C P B space start fallen [] ys h k = subst (λ (cs : List Model.Clause). AreGenuine C P B space start cs ys) (append_nil fallen) k
genuine_both C P B space start fallen (x ∷ xs) ys h k =
    (h.0, genuine_both C P B space start (fallen ++ clauses_of space x.clauses.items) xs ys h.1 (subst (λ (cs : List Model.Clause). AreGenuine C P B space start cs ys) (sym (append_assoc fallen (clauses_of space x.clauses.items) (struck_by space xs))) k))

struck_both : (space : Space) (xs ys : List Strike) → struck_by space (xs ++ ys) ≡ struck_by space xs ++ struck_by space ys
struck_both space [] ys = refl
struck_both space (x ∷ xs) ys = ap (λ rest. clauses_of space x.clauses.items ++ rest) (struck_both space xs ys) ∙ sym (append_assoc (clauses_of space x.clauses.items) (struck_by space xs) (struck_by space ys))

module _ (C : Class) (P : Protocol) (B : Bounds) (space : Space) (start : List Model.Clause) where
  -- before the first round
  pub down_first : (clauses : List Clause) → IsStart C P B space clauses → IsDownTo C P B space (clauses_of space clauses) clauses []
  down_first clauses h = record {
    antichain = h.antichain;
    covers = h.covers;
    genuine = tt;
    stands = λ c t. (λ there. record { template = t; stands = there; no_renaming = λ d listed. absurd (let less = listed.1 in omega (arith, less)) }, λ still. still.stands);
  }

  pub down_next : (clauses new : List Clause) (strikes fell : List Strike) (flags : List Bool) → IsDownTo C P B space start clauses strikes → AreRoundStrikes C P (clauses_of space clauses) space clauses flags fell
      → IsWithoutStruck P B space clauses flags (length flags) new → IsDownTo C P B space start new (strikes ++ fell)
  down_next clauses new strikes fell flags h r w = record {
    antichain = w.antichain;
    covers = λ c g. (w.stands c (g.templates c g.member)).1 (h.covers c g, λ k from below is renaming. outside k below is c renaming g);
    genuine = genuine_both C P B space start [] strikes fell h.genuine (subst (λ (cs : List Model.Clause). AreGenuine C P B space start cs fell) (append_nil (struck_by space strikes)) (genuine_round C P B space start (struck_by space strikes) clauses h.antichain h.covers h.stands [] fell (λ d there. absurd (let less = there.1 in omega (arith, less))) r.strikes_are));
    stands = λ c t. (λ there. opened c t ((w.stands c t).0 there), λ still. (w.stands c t).1 (kept_by c still, λ k from below is renaming. (subst (λ (cs : List Model.Clause). IsOpen P B start cs c) (struck_both space strikes fell) still).no_renaming (member_at space clauses k) (Contains-append_right (struck_by space strikes) (struck_by space fell) (member_at space clauses k) (r.flagged k below is)) renaming));
  }
    where
      outside : (k : ℕ) → k < length clauses → slice_index_or flags k false ≡ true → (c : Model.Clause) → IsRenaming P (member_at space clauses k) c → IsInGreatest C P B c → ⊥
      outside k below is c renaming g =
          let m = member_at space clauses k in
          let t = templates P B space clauses h.antichain m (listed_member P B space clauses h.antichain k below) in
          let u = g.templates c g.member in
          struck_outside C P B space start (struck_by space strikes) clauses h.antichain h.covers h.stands [] fell r.strikes_are m (r.flagged k below is) (above_greatest C P B c m g t (renamed_back P B m c t u renaming).permuted)

      opened : (c : Model.Clause) → IsTemplate P B c → StandsFor P (clauses_of space clauses) c × IsNoneStruck P space clauses flags (length flags) c → IsOpen P B start (struck_by space (strikes ++ fell)) c
      opened c t both =
          let old = (h.stands c t).0 both.0 in
          record {
            template = t;
            stands = old.stands;
            no_renaming = λ d there renaming.
                ⊎_elim (λ before. old.no_renaming d before renaming)
                (λ now. let at = r.listed d now in both.1 at.0 (let l = r.long in let inside = at.1 in omega (arith, l, inside)) at.1 at.2 (subst (λ (m : Model.Clause). IsRenaming P m c) (sym at.3) renaming))
                (Contains-append_cases (struck_by space strikes) (struck_by space fell) d (subst (λ (cs : List Model.Clause). Contains cs d) (struck_both space strikes fell) there));
          }

      kept_by : (c : Model.Clause) → IsOpen P B start (struck_by space (strikes ++ fell)) c → StandsFor P (clauses_of space clauses) c
      kept_by c still =
          let whole = subst (λ (cs : List Model.Clause). IsOpen P B start cs c) (struck_both space strikes fell) still in
          (h.stands c whole.template).1 (record { template = whole.template; stands = whole.stands; no_renaming = λ d there. whole.no_renaming d (Contains-append_left (struck_by space strikes) (struck_by space fell) d there) })

  -- a round that strikes none
  pub still_by : (clauses : List Clause) (fell : List Strike) (flags : List Bool) → fell ≡ [] → AreRoundStrikes C P (clauses_of space clauses) space clauses flags fell → IsStill C P (clauses_of space clauses)
  still_by clauses fell flags none r = record { at_first = λ c there. (holds c there).at_first; after = λ c there. (holds c there).after }
    where
      by_flag : (k : ℕ) → k < length clauses → (slice_index_or flags k false ≡ true) ⊎ (slice_index_or flags k false ≡ false) → Holds C P (clauses_of space clauses) (member_at space clauses k)
      by_flag k below (inl is) = absurd (let there = subst (λ (xs : List Strike). Contains (struck_by space xs) (member_at space clauses k)) none (r.flagged k below is) in let less = there.1 in omega (arith, less))
      by_flag k below (inr not) = r.others_hold k below not

      holds : (c : Model.Clause) → Contains (clauses_of space clauses) c → Holds C P (clauses_of space clauses) c
      holds c there =
          let long = length-map clauses (clause_of space) in
          let less = there.1 in
          let below : there.0 < length clauses = omega (arith, long, less) in
          subst (Holds C P (clauses_of space clauses)) (get_or_default (clauses_of space clauses) there.0 no_clause c there.1 ∙ there.2) (by_flag there.0 below (bool_cases (slice_index_or flags there.0 false)))

  pub left_by : (clauses : List Clause) (strikes : List Strike) → IsDownTo C P B space start clauses strikes → IsStill C P (clauses_of space clauses) → IsLeft C P B space start clauses strikes
  left_by clauses strikes h still =
      let minimal = minimal_list P B space clauses h.antichain in
      let inductive = still_inductive C P (clauses_of space clauses) still in
      record {
        answered = record { antichain = h.antichain; covers = h.covers; answer = answer C P B (clauses_of space clauses) minimal h.covers inductive };
        genuine = h.genuine;
        complete = λ c still_open. let there = (h.stands c still_open.template).1 still_open in above_greatest C P B there.member c (in_greatest C P B (clauses_of space clauses) minimal h.covers inductive there.member there.listed) still_open.template there.below;
      }
