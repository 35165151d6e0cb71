use Rattle.std.proofs.Common.{◌≡◌, ◌≤◌, ℕ, List, length, sym, ◌∙◌, ap, subst, arith, Vec, vec_len}
use Rattle.std.specs.List.{All}
use Rattle.std.proofs.lemmas.List.{length-map}
use Rattle.std.specs.declared.alloc.Global.{Global}
use Rattle.dai_model.specs.Clause.{atoms_of}
use Rattle.dai_logic.specs.Protocols.{protocol_of}
use Rattle.dai_template.specs.Atoms.{lists_of}
use Rattle.dai_template.proofs.Accepted.{few_sorts}
use Rattle.dai_template.proofs.Ways.{ways_length, ways_atoms, few_ways}
use Rattle.dai_template.proofs.limits.templates_within.Goals as goal

pub template_count-requires : goal.template_count-requires
template_count-requires c =
    let ways = sym (ap lists_of c.deref.ensures.value ∙ c.in_ok-ways.ensures) in
    let few : length c.args.vars.now ≤ 8 = let k = few_sorts c.args.protocol.now in let e = c.requires.each in omega (arith, k, e) in
    record {
      literals = c.requires.literals;
      ways = subst (All (λ (counts : List ℕ). length counts ≡ vec_len c.args.protocol.now.sorts)) ways (ways_length c.args.vars.now (vec_len c.args.protocol.now.sorts) c.requires.each);
      atoms = subst (All (λ (counts : List ℕ). length (atoms_of (protocol_of c.args.protocol.now) counts) ≤ 64)) ways (ways_atoms (protocol_of c.args.protocol.now) c.args.vars.now 64 c.requires.atoms);
      few =
          let k = few_ways c.args.vars.now c.requires.variables few in
          let e = ap length ways in
          let long = length-map c.deref.result.now (λ (v : Vec ℕ Global). v.items) in
          omega (arith, k, e, long);
    }
