-- Where no rule is broken at these sites, none is at some of them.
use Rattle.std.proofs.Common.{List, ◌∷◌, ◌++◌}
use Rattle.std.proofs.lemmas.List.Elements.{Contains-append_left, Contains-append_right}
use Rattle.dai_syntax.specs.Tree.{Declaration}
use Rattle.dai_rules.specs.Sites.{Site, sites_of}
use Rattle.dai_rules.specs.Faults.{IsFaultless}
use Rattle.dai_rules.proofs.Members.{in_tail}
use Rattle.dai_sorts.specs.Sound.{AreUnbroken}

pub unbroken_left : (a b : List Site) → AreUnbroken (a ++ b) → AreUnbroken a
unbroken_left a b u = λ s h. u s (Contains-append_left a b s h)

pub unbroken_right : (a b : List Site) → AreUnbroken (a ++ b) → AreUnbroken b
unbroken_right a b u = λ s h. u s (Contains-append_right a b s h)

pub unbroken_tail : (s : Site) (ss : List Site) → AreUnbroken (s ∷ ss) → AreUnbroken ss
unbroken_tail s ss u = λ x h. u x (in_tail s ss x h)

pub unbroken_behind : (s t : Site) (ss : List Site) → AreUnbroken (s ∷ t ∷ ss) → AreUnbroken ss
unbroken_behind s t ss u = λ x h. u x (in_tail s (t ∷ ss) x (in_tail t ss x h))

pub faultless_unbroken : (ds : List Declaration) → IsFaultless ds → AreUnbroken (sites_of ds)
faultless_unbroken ds f = λ s there number at breaks. f number at (record { site = s; stands = there; breaks = breaks })
