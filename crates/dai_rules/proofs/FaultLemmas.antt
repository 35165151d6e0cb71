-- The faults that the judge notes are those that break a rule.
use Rattle.std.proofs.Common.{◌≡◌, ℕ, List, ◌++◌, Option, None, Some, ap, sym, subst, ⊎_elim}
use Rattle.std.specs.Prelude.{MatchOption}
use Rattle.std.specs.List.{Contains, flat_map}
use Rattle.std.proofs.lemmas.List.Elements.{All-contains, Contains-append_left, Contains-append_right, Contains-append_cases}
use Rattle.dai_syntax.specs.Tree.{Declaration}
use Rattle.dai_rules.specs.declared.first.Fault.{Fault}
use Rattle.dai_rules.specs.Sites.{Site, declared_at, local_at, counted_at, bound_at, type_at, export_at, atom_at, term_at, mention_at, variable_at, compared_at, quantifier_at, target_at, argument_at, whole_at, Whole, sites_of}
use Rattle.dai_rules.specs.Rules.{declared_twice, unknown_name, wrong_number, wrong_type, order_missing, assigned_in_axiom, not_universal, not_exists_forall, loose, bad_target, too_many, HasTwoTypes, HasNoType, ComparesUnordered, BreaksTypes, Breaks, breaks_21, breaks_22, breaks_23, breaks_24, two_types, breaks_25, breaks_26, unordered, breaks_27, breaks_28, breaks_29, breaks_30, breaks_31, breaks_42}
use Rattle.dai_rules.specs.Classes.{type_faults}
use Rattle.dai_rules.specs.First.{numbered, plain_faults, typed_faults, faults_at, judged}
use Rattle.dai_rules.specs.Faults.{IsSortFault, IsFaultless, IsTold}
use Rattle.dai_rules.proofs.Members.{not_in_nil, in_map, from_map, in_flat_map, from_flat_map}
use Rattle.dai_rules.proofs.TypeFaults as Types
use Rattle.dai_rules.proofs.TypeFaults.{IsWholeWithin, BreaksType, type_fault_breaks, two_types_fault, no_type_fault, unordered_fault}
use Rattle.dai_rules.proofs.SiteRanges.{IsSiteWithin, sites_within}
use Rattle.dai_rules.proofs.FirstFaults.{IsFirstOf, AreNone, first_of}

abbrev fault : ℕ → ℕ → Fault
fault number at = record { number = number; at = at }

in_numbered : (number at : ℕ) (places : List ℕ) → Contains places at → Contains (numbered number places) (fault number at)
in_numbered number at places h = in_map (fault number) places at h

from_numbered : (number : ℕ) (places : List ℕ) (f : Fault) → Contains (numbered number places) f → (f.number ≡ number) × Contains places f.at
from_numbered number places f h =
    let w = from_map (fault number) places f h in
    (sym (ap (λ (g : Fault). g.number) w.2), subst (Contains places) (ap (λ (g : Fault). g.at) w.2) w.1)

-- the faults from each rule on
abbrev from_42 : Site → List Fault
from_42 s = numbered 42 (too_many s)

abbrev from_31 : Site → List Fault
from_31 s = numbered 31 (bad_target s) ++ from_42 s

abbrev from_30 : Site → List Fault
from_30 s = numbered 30 (loose s) ++ from_31 s

abbrev from_29 : Site → List Fault
from_29 s = numbered 29 (not_exists_forall s) ++ from_30 s

abbrev from_28 : Site → List Fault
from_28 s = numbered 28 (not_universal s) ++ from_29 s

abbrev from_27 : Site → List Fault
from_27 s = numbered 27 (assigned_in_axiom s) ++ from_28 s

abbrev from_26 : Site → List Fault
from_26 s = numbered 26 (order_missing s) ++ from_27 s

abbrev from_24 : Site → List Fault
from_24 s = numbered 24 (wrong_type s) ++ from_26 s

abbrev from_23 : Site → List Fault
from_23 s = numbered 23 (wrong_number s) ++ from_24 s

abbrev from_22 : Site → List Fault
from_22 s = numbered 22 (unknown_name s) ++ from_23 s

-- the faults of a rule are either those, or of the rules behind it
rule_or : (s : Site) (number : ℕ) (places : List ℕ) (rest : List Fault) (f : Fault) → (f.number ≡ number → Contains places f.at → Breaks s f.number f.at) → (Contains rest f → Breaks s f.number f.at) → Contains (numbered number places ++ rest) f → Breaks s f.number f.at
rule_or s number places rest f here behind h = ⊎_elim (λ k. let w = from_numbered number places f k in here w.0 w.1) behind (Contains-append_cases (numbered number places) rest f h)

plain_breaks : (s : Site) (f : Fault) → Contains (plain_faults s) f → Breaks s f.number f.at
plain_breaks s f =
    rule_or s 21 (declared_twice s) (from_22 s) f breaks_21 (rule_or s 22 (unknown_name s) (from_23 s) f breaks_22 (rule_or s 23 (wrong_number s) (from_24 s) f breaks_23
    (rule_or s 24 (wrong_type s) (from_26 s) f breaks_24 (rule_or s 26 (order_missing s) (from_27 s) f breaks_26 (rule_or s 27 (assigned_in_axiom s) (from_28 s) f breaks_27
    (rule_or s 28 (not_universal s) (from_29 s) f breaks_28 (rule_or s 29 (not_exists_forall s) (from_30 s) f breaks_29 (rule_or s 30 (loose s) (from_31 s) f breaks_30
    (rule_or s 31 (bad_target s) (from_42 s) f breaks_31 (λ k. let w = from_numbered 42 (too_many s) f k in breaks_42 w.0 w.1))))))))))

type_breaks : (w : Whole) (number at : ℕ) → BreaksType w number at → Breaks (whole_at w) number at
type_breaks w number at (Types.two e h) = two_types e h
type_breaks w number at (Types.none e h) = breaks_25 e h
type_breaks w number at (Types.unordered e h) = unordered e h

typed_breaks : (s : Site) (f : Fault) → IsSiteWithin s → Contains (typed_faults s) f → Breaks s f.number f.at
typed_breaks (whole_at w) f within h = type_breaks w f.number f.at (type_fault_breaks w f within h)
typed_breaks (declared_at ctx locals name) f within h = absurd (not_in_nil f h)
typed_breaks (local_at ctx name) f within h = absurd (not_in_nil f h)
typed_breaks (bound_at before name) f within h = absurd (not_in_nil f h)
typed_breaks (counted_at room at) f within h = absurd (not_in_nil f h)
typed_breaks (type_at ds name) f within h = absurd (not_in_nil f h)
typed_breaks (export_at ds name) f within h = absurd (not_in_nil f h)
typed_breaks (atom_at ctx name args) f within h = absurd (not_in_nil f h)
typed_breaks (term_at ctx expected name) f within h = absurd (not_in_nil f h)
typed_breaks (mention_at ctx role name) f within h = absurd (not_in_nil f h)
typed_breaks (variable_at role name) f within h = absurd (not_in_nil f h)
typed_breaks (compared_at ctx a op b) f within h = absurd (not_in_nil f h)
typed_breaks (quantifier_at role force universal at) f within h = absurd (not_in_nil f h)
typed_breaks (target_at ctx name args g) f within h = absurd (not_in_nil f h)
typed_breaks (argument_at before arg) f within h = absurd (not_in_nil f h)

fault_breaks : (s : Site) (f : Fault) → IsSiteWithin s → Contains (faults_at s) f → Breaks s f.number f.at
fault_breaks s f within h = ⊎_elim (plain_breaks s f) (typed_breaks s f within) (Contains-append_cases (plain_faults s) (typed_faults s) f h)

-- and each rule that is broken gives a fault
skip : (a b : List Fault) (f : Fault) → Contains b f → Contains (a ++ b) f
skip a b f h = Contains-append_right a b f h

here : (number : ℕ) (places : List ℕ) (rest : List Fault) (at : ℕ) → Contains places at → Contains (numbered number places ++ rest) (fault number at)
here number places rest at h = Contains-append_left (numbered number places) rest (fault number at) (in_numbered number at places h)

plain : (s : Site) (f : Fault) → Contains (plain_faults s) f → Contains (faults_at s) f
plain s f h = Contains-append_left (plain_faults s) (typed_faults s) f h

past_21 : (s : Site) (f : Fault) → Contains (from_22 s) f → Contains (faults_at s) f
past_21 s f h = plain s f (skip (numbered 21 (declared_twice s)) (from_22 s) f h)

past_22 : (s : Site) (f : Fault) → Contains (from_23 s) f → Contains (faults_at s) f
past_22 s f h = past_21 s f (skip (numbered 22 (unknown_name s)) (from_23 s) f h)

past_23 : (s : Site) (f : Fault) → Contains (from_24 s) f → Contains (faults_at s) f
past_23 s f h = past_22 s f (skip (numbered 23 (wrong_number s)) (from_24 s) f h)

past_24 : (s : Site) (f : Fault) → Contains (from_26 s) f → Contains (faults_at s) f
past_24 s f h = past_23 s f (skip (numbered 24 (wrong_type s)) (from_26 s) f h)

past_26 : (s : Site) (f : Fault) → Contains (from_27 s) f → Contains (faults_at s) f
past_26 s f h = past_24 s f (skip (numbered 26 (order_missing s)) (from_27 s) f h)

past_27 : (s : Site) (f : Fault) → Contains (from_28 s) f → Contains (faults_at s) f
past_27 s f h = past_26 s f (skip (numbered 27 (assigned_in_axiom s)) (from_28 s) f h)

past_28 : (s : Site) (f : Fault) → Contains (from_29 s) f → Contains (faults_at s) f
past_28 s f h = past_27 s f (skip (numbered 28 (not_universal s)) (from_29 s) f h)

past_29 : (s : Site) (f : Fault) → Contains (from_30 s) f → Contains (faults_at s) f
past_29 s f h = past_28 s f (skip (numbered 29 (not_exists_forall s)) (from_30 s) f h)

past_30 : (s : Site) (f : Fault) → Contains (from_31 s) f → Contains (faults_at s) f
past_30 s f h = past_29 s f (skip (numbered 30 (loose s)) (from_31 s) f h)

past_31 : (s : Site) (f : Fault) → Contains (from_42 s) f → Contains (faults_at s) f
past_31 s f h = past_30 s f (skip (numbered 31 (bad_target s)) (from_42 s) f h)

typed_in : (rule : Whole → ℕ → Type 0) (number at : ℕ) → ((w : Whole) → IsWholeWithin w → rule w at → Contains (type_faults w) (fault number at)) → (s : Site) → IsSiteWithin s → BreaksTypes rule s at → Contains (typed_faults s) (fault number at)
typed_in rule number at gives (whole_at w) within h = gives w within h
typed_in rule number at gives (declared_at ctx locals name) within h = absurd h
typed_in rule number at gives (local_at ctx name) within h = absurd h
typed_in rule number at gives (bound_at before name) within h = absurd h
typed_in rule number at gives (counted_at room place) within h = absurd h
typed_in rule number at gives (type_at ds name) within h = absurd h
typed_in rule number at gives (export_at ds name) within h = absurd h
typed_in rule number at gives (atom_at ctx name args) within h = absurd h
typed_in rule number at gives (term_at ctx expected name) within h = absurd h
typed_in rule number at gives (mention_at ctx role name) within h = absurd h
typed_in rule number at gives (variable_at role name) within h = absurd h
typed_in rule number at gives (compared_at ctx a op b) within h = absurd h
typed_in rule number at gives (quantifier_at role force universal place) within h = absurd h
typed_in rule number at gives (target_at ctx name args g) within h = absurd h
typed_in rule number at gives (argument_at before arg) within h = absurd h

typed_fault : (rule : Whole → ℕ → Type 0) (number at : ℕ) → ((w : Whole) → IsWholeWithin w → rule w at → Contains (type_faults w) (fault number at)) → (s : Site) → IsSiteWithin s → BreaksTypes rule s at → Contains (faults_at s) (fault number at)
typed_fault rule number at gives s within h = skip (plain_faults s) (typed_faults s) (fault number at) (typed_in rule number at gives s within h)

called : (s : Site) (number other at : ℕ) → other ≡ number → Contains (faults_at s) (fault number at) → Contains (faults_at s) (fault other at)
called s number other at e h = subst (λ n. Contains (faults_at s) (fault n at)) (sym e) h

break_faults : (s : Site) (number at : ℕ) → IsSiteWithin s → Breaks s number at → Contains (faults_at s) (fault number at)
break_faults s number at within (breaks_21 e h) = called s 21 number at e (plain s (fault 21 at) (here 21 (declared_twice s) (from_22 s) at h))
break_faults s number at within (breaks_22 e h) = called s 22 number at e (past_21 s (fault 22 at) (here 22 (unknown_name s) (from_23 s) at h))
break_faults s number at within (breaks_23 e h) = called s 23 number at e (past_22 s (fault 23 at) (here 23 (wrong_number s) (from_24 s) at h))
break_faults s number at within (breaks_24 e h) = called s 24 number at e (past_23 s (fault 24 at) (here 24 (wrong_type s) (from_26 s) at h))
break_faults s number at within (two_types e h) = called s 24 number at e (typed_fault HasTwoTypes 24 at (λ w k m. two_types_fault w at k m) s within h)
break_faults s number at within (breaks_25 e h) = called s 25 number at e (typed_fault HasNoType 25 at (λ w k m. no_type_fault w at k m) s within h)
break_faults s number at within (breaks_26 e h) = called s 26 number at e (past_24 s (fault 26 at) (here 26 (order_missing s) (from_27 s) at h))
break_faults s number at within (unordered e h) = called s 26 number at e (typed_fault ComparesUnordered 26 at (λ w k m. unordered_fault w at k m) s within h)
break_faults s number at within (breaks_27 e h) = called s 27 number at e (past_26 s (fault 27 at) (here 27 (assigned_in_axiom s) (from_28 s) at h))
break_faults s number at within (breaks_28 e h) = called s 28 number at e (past_27 s (fault 28 at) (here 28 (not_universal s) (from_29 s) at h))
break_faults s number at within (breaks_29 e h) = called s 29 number at e (past_28 s (fault 29 at) (here 29 (not_exists_forall s) (from_30 s) at h))
break_faults s number at within (breaks_30 e h) = called s 30 number at e (past_29 s (fault 30 at) (here 30 (loose s) (from_31 s) at h))
break_faults s number at within (breaks_31 e h) = called s 31 number at e (past_30 s (fault 31 at) (here 31 (bad_target s) (from_42 s) at h))
break_faults s number at within (breaks_42 e h) = called s 42 number at e (past_31 s (fault 42 at) (in_numbered 42 at (too_many s) h))

-- the faults of a file
pub is_fault : (ds : List Declaration) (f : Fault) → Contains (flat_map faults_at (sites_of ds)) f → IsSortFault ds f.number f.at
is_fault ds f h =
    let w = from_flat_map faults_at (sites_of ds) f h in
    record { site = w.0; stands = w.1; breaks = fault_breaks w.0 f (All-contains IsSiteWithin (sites_of ds) w.0 (sites_within ds) w.1) w.2 }

pub fault_is : (ds : List Declaration) (number at : ℕ) → IsSortFault ds number at → Contains (flat_map faults_at (sites_of ds)) (fault number at)
fault_is ds number at h =
    in_flat_map faults_at (sites_of ds) h.site (fault number at) h.stands (break_faults h.site number at (All-contains IsSiteWithin (sites_of ds) h.site (sites_within ds) h.stands) h.breaks)

told_by : (ds : List Declaration) (o : Option Fault) → MatchOption o (AreNone (flat_map faults_at (sites_of ds))) (IsFirstOf (flat_map faults_at (sites_of ds))) → MatchOption o (IsFaultless ds) (IsTold ds)
told_by ds None h = λ number at k. not_in_nil (fault number at) (subst (λ fs. Contains fs (fault number at)) h (fault_is ds number at k))
told_by ds (Some f) h = record { fault = is_fault ds f h.0; first = λ other place k. h.1 (fault other place) (fault_is ds other place k) }

-- what the judge tells is the first fault of the file
pub told : (ds : List Declaration) (o : Option Fault) → o ≡ judged None (sites_of ds) → MatchOption o (IsFaultless ds) (IsTold ds)
told ds o e = told_by ds o (first_of (flat_map faults_at (sites_of ds)) o e)
