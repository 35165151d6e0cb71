-- The first of the faults that are noted: that of the least place, and at one place of the least number.
use Rattle.std.specs.Prelude.{ℕ, ◌&&◌, ◌||◌, Bool, List, [], ◌∷◌, ◌++◌, map, Option, Some, None, nat_eq, nat_lt, if◌then◌else◌}
use Rattle.std.specs.List.{flat_map}
use Rattle.dai_rules.specs.declared.first.Fault.{Fault}
use Rattle.dai_rules.specs.Sites.{Site, whole_at}
use Rattle.dai_rules.specs.Rules.{declared_twice, unknown_name, wrong_number, wrong_type, order_missing, assigned_in_axiom, not_universal, not_exists_forall, loose, bad_target, too_many}
use Rattle.dai_rules.specs.Classes.{type_faults}

abbrev pub comes_before : Fault → Fault → Bool
comes_before fault noted = nat_lt fault.at noted.at || (nat_eq fault.at noted.at && nat_lt fault.number noted.number)

abbrev pub noting : Option Fault → Fault → Option Fault
noting None fault = Some fault
noting (Some noted) fault = if comes_before fault noted then Some fault else Some noted

abbrev pub noting_all : Option Fault → List Fault → Option Fault
noting_all first [] = first
noting_all first (fault ∷ faults) = noting_all (noting first fault) faults

abbrev pub numbered : ℕ → List ℕ → List Fault
numbered number places = map (λ (at : ℕ). record { number = number; at = at }) places

-- the faults at a site, besides those of the types of variables
abbrev pub plain_faults : Site → List Fault
plain_faults s =
    numbered 21 (declared_twice s) ++ (numbered 22 (unknown_name s) ++ (numbered 23 (wrong_number s) ++ (numbered 24 (wrong_type s)
    ++ (numbered 26 (order_missing s) ++ (numbered 27 (assigned_in_axiom s) ++ (numbered 28 (not_universal s) ++ (numbered 29 (not_exists_forall s)
    ++ (numbered 30 (loose s) ++ (numbered 31 (bad_target s) ++ numbered 42 (too_many s))))))))))

abbrev pub typed_faults : Site → List Fault
typed_faults (whole_at w) = type_faults w
typed_faults _ = []

abbrev pub faults_at : Site → List Fault
faults_at s = plain_faults s ++ typed_faults s

-- after the faults at these sites
abbrev pub judged : Option Fault → List Site → Option Fault
judged first sites = noting_all first (flat_map faults_at sites)
