use Rattle.std.proofs.Common.{◌≡◌, ◌<◌, ◌++◌, ℕ, List, length, map, sym, ◌∙◌, ap, subst}
use Rattle.std.specs.Prelude.{◌/◌, codes}
use Rattle.std.specs.List.{All, flat_map}
use Rattle.dai_model.specs.Clause.{numbers_below, variables_of, literal_among}
use Rattle.dai_model.specs.Report.{joined, if_any, binder_text, guards_of_sort, body_text, literal_text}
use Rattle.dai_logic.specs.Protocols.{protocol_of}
use Rattle.dai_template.specs.declared.clause.Atom.{Atom}
use Rattle.dai_template.specs.Atoms.{atom_of, lists_of}
use Rattle.dai_print.proofs.Pieces.{three_parts}
use Rattle.dai_print.proofs.clauses.text_of.Goals as goal

pub literal_texts-requires : goal.literal_texts-requires
literal_texts-requires c = subst (λ (xs : List Atom). All (λ l. l / 2 < length xs) c.args.lits.now) (sym c.deref-5.ensures.value) c.requires.inside

pub returns : goal.returns
returns c =
    let P = protocol_of c.args.protocol.now in
    let counts = c.args.shape.now.counts.items in
    let bound = map (binder_text P) (flat_map (variables_of counts) (numbers_below (length counts))) in
    let guarded = flat_map (guards_of_sort P counts) (numbers_below (length counts)) in
    let pieces = map (λ l. literal_text P (literal_among (map atom_of c.args.shape.now.atoms.items) l)) c.args.lits.now in
    let is_bound : lists_of c.deref-2.result.now ≡ bound =
    ap lists_of c.deref-2.ensures.value ∙ (c.in_ok-variables.ensures ∙ ap (λ (ns : List ℕ). map (binder_text P) (flat_map (variables_of ns) (numbers_below (length ns)))) c.deref.ensures.value) in
    let is_guarded : lists_of c.deref-4.result.now ≡ guarded =
    ap lists_of c.deref-4.ensures.value ∙ (c.in_ok-apart.ensures ∙ ap (λ (ns : List ℕ). flat_map (guards_of_sort P ns) (numbers_below (length ns))) c.deref-3.ensures.value) in
    let is_pieces : lists_of c.deref-6.result.now ≡ pieces =
    ap lists_of c.deref-6.ensures.value ∙ (c.in_ok-literals.ensures ∙ ap (λ (xs : List Atom). map (λ l. literal_text P (literal_among (map atom_of xs) l)) c.args.lits.now) c.deref-5.ensures.value) in
    three_parts c.new-text.result.items c.add_framed.new.text.items c.add_framed-2.new.text.items c.add_body.new.text.items
    (if_any bound (codes "forall " ++ (joined (codes ", ") bound ++ codes ". ")))
    (if_any guarded (joined (codes " & ") guarded ++ codes " -> "))
    (body_text pieces)
    c.new-text.ensures.items
    (c.in_ok-add_framed.ensures ∙ ap (λ (ps : List (List ℕ)). c.new-text.result.items ++ if_any ps (codes "forall " ++ (joined (codes ", ") ps ++ codes ". "))) is_bound)
    (c.in_ok-add_framed-2.ensures ∙ ap (λ (ps : List (List ℕ)). c.add_framed.new.text.items ++ if_any ps (joined (codes " & ") ps ++ codes " -> ")) is_guarded)
    (c.in_ok-add_body.ensures ∙ ap (λ (ps : List (List ℕ)). c.add_framed-2.new.text.items ++ body_text ps) is_pieces)
