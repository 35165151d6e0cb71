-- When a judge can judge a protocol, and which clauses premises stand for.
use Rattle.std.specs.Prelude.{◌≡◌, List, map}
use Rattle.std.specs.List.{Contains}
use Rattle.dai_model.specs.Protocol.{Protocol}
use Rattle.dai_model.specs.Clause.{Clause}
use Rattle.dai_model.specs.Classes.{up_to}
use Rattle.dai_model.specs.Template.{Bounds, IsTemplate}
use Rattle.dai_logic.specs.Trees.{formula_of}
use Rattle.dai_template.specs.ClauseFormulas.{formula_of_clause}
use Rattle.dai_inquiry.specs.Places.{AreOpen}
use Rattle.dai_judge.specs.declared.premises.Premises.{Premises}
use Rattle.dai_judge.specs.declared.sized.SizedJudge.{SizedJudge}
use Rattle.dai_judge.specs.Premises.{AreSizesFor}
use Rattle.dai_inquiry.specs.Keys.{clauses_in}
use Rattle.dai_judge.specs.Memory.{IsMemoryOf}

-- one size for each type, and what is remembered is of the protocol, as are the inquiries
pub record IsReady (P : Protocol) (judge : SizedJudge) : Type 0 where
  pub sizes : AreSizesFor P judge.sizes.items
  pub memory : IsMemoryOf (up_to judge.sizes.items) P judge.memory
  pub inquiries : AreOpen P judge.sizes.items judge.inquiries

-- the formulas and the keys of these templates
pub record ArePremisesOf (P : Protocol) (clauses : List Clause) (premises : Premises) : Type 0 where
  pub bounds : Bounds
  pub templates : (c : Clause) → Contains clauses c → IsTemplate P bounds c
  pub formulas : map formula_of premises.formulas.items ≡ map (formula_of_clause P) clauses
  pub keys : clauses_in premises.keys.items ≡ clauses
