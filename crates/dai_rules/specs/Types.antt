-- The types of variables. A variable has the type of its annotation, of each argument place where it stands, and
-- of each other side of a comparison with it, taken together until nothing is added.
use Rattle.std.specs.Prelude.{ℕ, List}
use Rattle.std.specs.List.{Contains}

-- what an occurrence says of variables by number: a variable has a type, which goes by its name, or two
-- variables are compared
pub data Use : Type 0 where
  typed : ℕ → List ℕ → Use
  linked : ℕ → ℕ → Use

pub data HasType (uses : List Use) : ℕ → List ℕ → Type 0 where
  given : {v : ℕ} {t : List ℕ} → Contains uses (typed v t) → HasType uses v t
  from_right : {v w : ℕ} {t : List ℕ} → Contains uses (linked v w) → HasType uses w t → HasType uses v t
  from_left : {v w : ℕ} {t : List ℕ} → Contains uses (linked w v) → HasType uses w t → HasType uses v t
