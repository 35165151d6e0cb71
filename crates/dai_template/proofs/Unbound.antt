-- The first of some variables that has no element.
use Rattle.std.proofs.Common.{◌<◌, ◌≤◌, ℕ, ◌+◌, ◌*◌, Bool, List, length, get_or, map, take, sym, subst, arith}
use Rattle.std.specs.List.{All, Contains}
use Rattle.std.proofs.lemmas.List.{get_or-map, length-map, take_all}
use Rattle.std.proofs.lemmas.List.Elements.{All-more, Contains-get_or}
use Rattle.dai_model.specs.Clause.{Variable}
use Rattle.dai_template.specs.Atoms.{variable_of}
use Rattle.dai_template.specs.Meeting.{IsBound}

pub place_of : (vars : List (ℕ × ℕ)) (n i : ℕ) → All (λ (v : Variable). 4 * v.sort + v.number < n) (map variable_of vars) → i < length vars → 4 * (get_or vars i (0, 0)).0 + (get_or vars i (0, 0)).1 < n
place_of vars n i h below =
    let long = length-map vars variable_of in
    subst (λ (v : Variable). 4 * v.sort + v.number < n) (get_or-map variable_of vars i (0, 0) (variable_of (0, 0)) below) (h i (variable_of (0, 0)) (omega (arith, long, below)))

pub one_more : (vars : List (ℕ × ℕ)) (bound : List Bool) (i : ℕ) → i < length vars → All (IsBound bound) (take i (map variable_of vars)) → IsBound bound (variable_of (get_or vars i (0, 0))) → All (IsBound bound) (take (i + 1) (map variable_of vars))
one_more vars bound i below h own =
    let long = length-map vars variable_of in
    All-more (IsBound bound) (map variable_of vars) i (variable_of (0, 0)) (omega (arith, long, below)) h (subst (IsBound bound) (sym (get_or-map variable_of vars i (0, 0) (variable_of (0, 0)) below)) own)

pub all_seen : (vars : List (ℕ × ℕ)) (bound : List Bool) (i : ℕ) → length vars ≤ i → All (IsBound bound) (take i (map variable_of vars)) → All (IsBound bound) (map variable_of vars)
all_seen vars bound i past h = let long = length-map vars variable_of in subst (All (IsBound bound)) (take_all i (map variable_of vars) (omega (arith, long, past))) h

pub this_one : (vars : List (ℕ × ℕ)) (i : ℕ) → i < length vars → Contains (map variable_of vars) (variable_of (get_or vars i (0, 0)))
this_one vars i below =
    let long = length-map vars variable_of in
    subst (Contains (map variable_of vars)) (get_or-map variable_of vars i (0, 0) (variable_of (0, 0)) below) (Contains-get_or (map variable_of vars) i (variable_of (0, 0)) (omega (arith, long, below)))
