use Rattle.std.proofs.Common.{◌++◌, ◌∷◌, [], ◌∙◌, map, List}
use Rattle.dai_model.specs.Protocol.{Individual}
use Rattle.dai_logic.specs.Protocols.{individual_of}
use Rattle.dai_rules.specs.Views.{context_of}
use Rattle.dai_sorts.specs.Drafts.{drafted}
use Rattle.dai_sorts.proofs.Gaining.{gains_individual, map_gains}
use Rattle.dai_sorts.proofs.draft.Draft.add_individual.Goals as goal

pub returns : goal.returns
returns c = λ here.
    let old = c.args.self.now in
    let row : List Individual → List Individual = λ xs. map individual_of old.individuals.items ++ xs in
    gains_individual (context_of c.args.reader.now.judge).declarations here (drafted old) c.args.name.now c.args.sort.now (map individual_of c.push.new.self.items)
    (map_gains individual_of old.individuals.items c.push.new.self.items _ c.in_ok-push.ensures.items ∙ (λ i. row (record { name = c.in_ok-copied.ensures i; sort = c.sort.ensures i } ∷ [])))
