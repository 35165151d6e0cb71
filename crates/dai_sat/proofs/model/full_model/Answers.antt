use Rattle.std.proofs.Common.{arith, ◌<◌, ◌==◌, false, length, get_or, ap, ◌∙◌}
use Rattle.std.proofs.lemmas.List.{length-map}
use Rattle.dai_trail.specs.Codes.{digit}
use Rattle.dai_sat.proofs.LeastModels.{value_at-map, whole_meets, whole_refuted}
use Rattle.dai_sat.proofs.model.full_model.Goals as goal

pub returns-in-Some : goal.returns-in-Some
returns-in-Some c = whole_refuted c.args.cnf.now c.args.trail.now c.in-Some.field-0 c.requires.sound.trail c.requires.room c.requires.whole c.in-Some.ensures

pub returns-in_ok-bits_of-in-None : goal.returns-in_ok-bits_of-in-None
returns-in_ok-bits_of-in-None c =
    let bits = c.in_ok-bits_of-in-None.field-0.items in
    record {
      model = record {
        whole = ap length c.in_ok-bits_of-in-None.ensures ∙ length-map c.args.trail.now.values.items (λ x. x == 1) ∙ c.requires.room;
        meets = whole_meets c.args.cnf.now c.args.trail.now c.in_ok-bits_of-in-None.field-0.items c.in_ok-bits_of-in-None.ensures c.in-None.ensures;
      };
      same = λ var l.
          let l' : var < length c.args.trail.now.values.items = omega (arith, c.requires.room) in
          ap (λ xs. digit (get_or xs var false)) c.in_ok-bits_of-in-None.ensures ∙ value_at-map c.args.trail.now.values.items var l' (c.requires.whole var l');
    }
