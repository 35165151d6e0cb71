use Rattle.std.proofs.Common.{◌≡◌, ◌≤◌, ◌+◌, ℕ, List, map, refl, length, sym, ◌∙◌, ap, subst, arith, Vec, vec_len}
use Rattle.std.specs.List.{All, flat_map}
use Rattle.std.proofs.lemmas.List.{length-map}
use Rattle.std.specs.declared.alloc.Global.{Global}
use Rattle.dai_model.specs.Protocol.{Sort}
use Rattle.dai_model.specs.Shapes.{counts_within, with_sum}
use Rattle.dai_model.specs.Clause.{atoms_of, numbers_below}
use Rattle.dai_logic.specs.Parts.{sort_of}
use Rattle.dai_logic.specs.declared.protocol.SortInfo.{SortInfo}
use Rattle.dai_logic.specs.Protocols.{protocol_of}
use Rattle.dai_template.specs.Atoms.{lists_of}
use Rattle.dai_template.proofs.Accepted.{few_sorts}
use Rattle.dai_template.proofs.Ways.{ways_length, ways_atoms, few_ways}
use Rattle.dai_template.proofs.space.Space.new.Goals as goal

pub template_count-requires : goal.template_count-requires
template_count-requires c =
    let ways = sym (ap lists_of c.deref.ensures.value ∙ c.in_ok-ways.ensures) in
    let few : length c.args.vars.now ≤ 8 = let k = few_sorts c.args.protocol.now in let e = c.requires.each in omega (arith, k, e) in
    record {
      literals = c.requires.literals;
      ways = subst (All (λ (counts : List ℕ). length counts ≡ vec_len c.args.protocol.now.sorts)) ways (ways_length c.args.vars.now (vec_len c.args.protocol.now.sorts) c.requires.each);
      atoms = subst (All (λ (counts : List ℕ). length (atoms_of (protocol_of c.args.protocol.now) counts) ≤ 64)) ways (ways_atoms (protocol_of c.args.protocol.now) c.args.vars.now 64 (let is = c.atom_count-atoms.ensures in let small = c.if-atoms-gt-MOST_ATOMS.false in omega (arith, is, small)));
      few =
          let k = few_ways c.args.vars.now c.requires.variables few in
          let e = ap length ways in
          let long = length-map c.deref.result.now (λ (v : Vec ℕ Global). v.items) in
          omega (arith, k, e, long);
    }

pub sum_of-requires : goal.sum_of-requires
sum_of-requires c = let k = few_sorts c.args.protocol.now in let e = c.requires.each in omega (arith, k, e)

pub in_print_order-requires-clause-ways : goal.in_print_order-requires-clause-ways
in_print_order-requires-clause-ways c =
    let ways = sym (ap lists_of c.deref-2.ensures.value ∙ c.in_ok-ways.ensures) in
    subst (All (λ (counts : List ℕ). length counts ≡ vec_len c.args.protocol.now.sorts)) ways (ways_length c.args.vars.now (vec_len c.args.protocol.now.sorts) c.requires.each)

pub returns-clause-space : goal.returns-clause-space
returns-clause-space c =
    let ways : lists_of c.deref-2.result.now ≡ counts_within c.args.vars.now = ap lists_of c.deref-2.ensures.value ∙ c.in_ok-ways.ensures in
    record {
      shapes = c.in_ok-shapes.ensures.order ∙ (ap (λ ls. flat_map (with_sum ls) (numbers_below (c.sum_of.result + 1))) ways ∙ ap (λ n. flat_map (with_sum (counts_within c.args.vars.now)) (numbers_below (n + 1))) c.sum_of.ensures.is);
      atoms = c.in_ok-shapes.ensures.atoms;
      literals = refl;
      orders = c.in_ok-orders.ensures ∙ ap (λ (xs : List SortInfo). map (λ (T : Sort). T.ordered) (map sort_of xs)) c.deref-3.ensures.value;
      few_types = let k = few_sorts c.args.protocol.now in let e = length-map c.args.protocol.now.sorts.items sort_of in omega (arith, k, e);
      few_variables = c.requires.variables;
      each = let k = length-map c.args.protocol.now.sorts.items sort_of in let e = c.requires.each in omega (arith, k, e);
      few_literals = c.requires.literals;
      few_atoms = let e = c.atom_count-atoms.ensures in omega (arith, e);
    }
