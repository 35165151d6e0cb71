use Rattle.std.proofs.Common.{[], sym, subst}
use Rattle.std.proofs.lemmas.List.Elements.{All-nil, All-same}
use Rattle.dai_model.specs.Classes.{up_to}
use Rattle.dai_inquiry.specs.Inquiries.{IsInquiry}
use Rattle.dai_judge.specs.Premises.{AreSizesFor}
use Rattle.dai_judge.proofs.sized.SizedJudge.new.Goals as goal

pub returns-clause-ready : goal.returns-clause-ready
returns-clause-ready c = λ P sizes. record {
  sizes = subst (AreSizesFor P) (sym c.in_ok-from_slice.ensures.items) sizes;
  memory = c.new.ensures (up_to c.in_ok-from_slice.field-0.items) P;
  inquiries = All-same (IsInquiry P c.in_ok-from_slice.field-0.items) c.new-2.result.opened.items [] c.new-2.ensures (All-nil (IsInquiry P c.in_ok-from_slice.field-0.items));
}
