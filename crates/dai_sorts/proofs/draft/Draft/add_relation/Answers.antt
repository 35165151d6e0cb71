use Rattle.std.proofs.Common.{◌++◌, ◌∷◌, [], ◌∙◌, map, List}
use Rattle.dai_model.specs.Protocol.{Relation}
use Rattle.dai_logic.specs.Protocols.{relation_of}
use Rattle.dai_rules.specs.Views.{context_of}
use Rattle.dai_sorts.specs.Drafts.{drafted}
use Rattle.dai_sorts.proofs.Gaining.{gains_relation, map_gains}
use Rattle.dai_sorts.proofs.draft.Draft.add_relation.Goals as goal

pub returns : goal.returns
returns c = λ here.
    let old = c.args.self.now in
    let row : List Relation → List Relation = λ xs. map relation_of old.relations.items ++ xs in
    gains_relation (context_of c.args.reader.now.judge).declarations here (drafted old) c.args.name.now c.args.args.now (map relation_of c.push.new.self.items)
    (map_gains relation_of old.relations.items c.push.new.self.items _ c.in_ok-push.ensures.items ∙ (λ i. row (record { name = c.in_ok-copied.ensures i; arguments = c.in_ok-types_of.ensures i } ∷ [])))
