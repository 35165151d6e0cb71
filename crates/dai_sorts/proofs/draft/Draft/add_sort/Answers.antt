use Rattle.std.proofs.Common.{◌++◌, ◌∷◌, [], ◌∙◌, ap, map, List}
use Rattle.dai_model.specs.Protocol.{Sort}
use Rattle.dai_logic.specs.Protocols.{sort_of}
use Rattle.dai_sorts.specs.Drafts.{drafted}
use Rattle.dai_sorts.proofs.Gaining.{gains_sort, map_gains}
use Rattle.dai_sorts.proofs.draft.Draft.add_sort.Goals as goal

pub returns : goal.returns
returns c = λ all here.
    let old = c.args.self.now in
    let row : List Sort → List Sort = λ xs. map sort_of old.sorts.items ++ xs in
    gains_sort all here (drafted old) c.args.name.now c.args.ordered (map sort_of c.push.new.self.items)
    (map_gains sort_of old.sorts.items c.push.new.self.items _ c.in_ok-push.ensures.items ∙ ap (λ text. row (record { name = text; ordered = c.args.ordered } ∷ [])) c.in_ok-copied.ensures)
