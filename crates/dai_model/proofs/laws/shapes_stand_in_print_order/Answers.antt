use Rattle.dai_model.proofs.Order.{shapes_in_order}
use Rattle.dai_model.proofs.laws.shapes_stand_in_print_order.Goals as goal

pub returns : goal.returns
returns c = shapes_in_order
