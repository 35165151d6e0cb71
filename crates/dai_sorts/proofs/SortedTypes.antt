-- A variable of a formula that breaks no rule has one type.
use Rattle.std.proofs.Common.{◌≡◌, ℕ, zero, suc, ◌<◌, Bool, true, false, List, [], ◌∷◌, length, Some, refl, arith}
use Rattle.std.specs.Prelude.{slice_get}
use Rattle.std.specs.List.{Contains}
use Rattle.std.specs.Cmp.Lexicographic.{same_text as told_same, other_text as told_other}
use Rattle.dai_rules.specs.Names.{same_text}
use Rattle.dai_rules.specs.Types.{HasType}
use Rattle.dai_rules.specs.Sites.{Site, Whole, whole_at}
use Rattle.dai_rules.specs.Rules.{two_types}
use Rattle.dai_sorts.specs.Sound.{AreUnbroken}

get_some : {X : Type 0} (xs : List X) (i : ℕ) → i < length xs → (x : X) × (slice_get xs i ≡ Some x)
get_some [] i h = absurd (omega arith)
get_some (x ∷ xs) zero h = (x, refl)
get_some (x ∷ xs) (suc i) h = get_some xs i (omega arith)

one_by : (sites : List Site) (w : Whole) (v : ℕ) (s t : List ℕ) (b : Bool) → b ≡ same_text s t → AreUnbroken sites → Contains sites (whole_at w) → v < length w.variables → HasType w.uses v s → HasType w.uses v t → s ≡ t
one_by sites w v s t true e unbroken there below has_s has_t = told_same s t e
one_by sites w v s t false e unbroken there below has_s has_t =
    let name = get_some w.variables v below in
    absurd (unbroken (whole_at w) there 24 name.0.at (two_types refl (record { variable = v; one = s; other = t; stands = (name.0, name.1, refl); has_one = has_s; has_other = has_t; differ = told_other s t e })))

pub one_type : (sites : List Site) (w : Whole) (v : ℕ) (s t : List ℕ) → AreUnbroken sites → Contains sites (whole_at w) → v < length w.variables → HasType w.uses v s → HasType w.uses v t → s ≡ t
one_type sites w v s t unbroken there below has_s has_t = one_by sites w v s t (same_text s t) refl unbroken there below has_s has_t
