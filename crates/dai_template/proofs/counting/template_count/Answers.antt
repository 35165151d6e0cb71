use Rattle.std.proofs.Common.{rules, ◌≡◌, ◌≤◌, ◌^◌, ℕ, List, get_or, length, map, sym, ◌∙◌, ap, subst, arith, Vec, vec_len}
use Rattle.std.specs.declared.alloc.Global.{Global}
use Rattle.std.proofs.lemmas.List.{length-map}
use Rattle.std.proofs.Math.Nat.{pow-le-pow_right}
use Rattle.dai_model.specs.Clause.{numbers_below, atoms_of}
use Rattle.dai_model.specs.Shapes.{clause_count}
use Rattle.dai_model.proofs.Folds.{numbers_below-length, mapped_at, sum_step, total_more, total_within}
use Rattle.dai_logic.specs.Protocols.{protocol_of}
use Rattle.dai_template.proofs.Counts.{clause_count-le, counts_at}
use Rattle.dai_template.proofs.counting.template_count.Goals as goal

small : (literals i : ℕ) → i ≤ 64 → clause_count literals i ≤ 3 ^ 64
small literals i h =
    let k = clause_count-le literals i in
    let up : 3 ^ i ≤ 3 ^ 64 = pow-le-pow_right {n = 3} (omega arith) {i = i} {j = 64} h in
    omega (arith, k, up)

-- the counted clauses over the atoms of this way
here_is : (literals atoms found n : ℕ) (items : List ℕ) → items ≡ map (clause_count literals) (numbers_below 65) → atoms ≡ n → n ≤ 64 → found ≡ get_or items atoms found → (found ≡ clause_count literals n) × (found ≤ 3 ^ 64)
here_is literals atoms found n items e same few is =
    let value : found ≡ clause_count literals n = is ∙ (ap (λ (xs : List ℕ). get_or xs atoms found) e ∙ (counts_at literals 65 atoms found (omega (arith, same, few)) ∙ ap (clause_count literals) same)) in
    let k = small literals n few in
    (value, omega (arith, value, k))

pub atom_count-requires : goal.atom_count-requires
atom_count-requires c = ap length c.deref.ensures.value ∙ mapped_at (λ (counts : List ℕ). length counts ≡ vec_len c.args.protocol.now.sorts) (λ (v : Vec ℕ Global). v.items) c.args.ways.now c.loop-counts.counts-index c.counts-item.result c.requires.ways c.loop-counts-test.true c.counts-item.is

pub index-requires : goal.index-requires
index-requires c =
    let few = subst (λ (xs : List ℕ). length (atoms_of (protocol_of c.args.protocol.now) xs) ≤ 64) (sym c.deref.ensures.value) (mapped_at (λ (counts : List ℕ). length (atoms_of (protocol_of c.args.protocol.now) counts) ≤ 64) (λ (v : Vec ℕ Global). v.items) c.args.ways.now c.loop-counts.counts-index c.counts-item.result c.requires.atoms c.loop-counts-test.true c.counts-item.is) in
    let is = c.atom_count.ensures in
    let long = ap length c.in_ok-clauses.ensures ∙ (length-map (numbers_below 65) (clause_count c.args.lits) ∙ numbers_below-length 65) in
    omega (arith, few, is, long)

pub overflow_add-total : goal.overflow_add-total
overflow_add-total c =
    let few = subst (λ (xs : List ℕ). length (atoms_of (protocol_of c.args.protocol.now) xs) ≤ 64) (sym c.deref.ensures.value) (mapped_at (λ (counts : List ℕ). length (atoms_of (protocol_of c.args.protocol.now) counts) ≤ 64) (λ (v : Vec ℕ Global). v.items) c.args.ways.now c.loop-counts.counts-index c.counts-item.result c.requires.atoms c.loop-counts-test.true c.counts-item.is) in
    let found : c.index.result.now ≡ get_or c.in_ok-clauses.clauses.items c.atom_count.result c.index.result.now = search rules in
    let here = here_is c.args.lits c.atom_count.result c.index.result.now _ c.in_ok-clauses.clauses.items c.in_ok-clauses.ensures c.atom_count.ensures few found in
    let most = here.1 in
    let within = total_within c.loop-counts.counts-index (2 ^ 20) c.loop-counts.total (3 ^ 64) (let k = c.requires.few in let l = c.loop-counts-test.true in omega (arith, k, l)) c.loop-counts.invariant.fits in
    omega (arith, most, within)

pub loop-counts-preserved : goal.loop-counts-preserved
loop-counts-preserved c =
    let few = subst (λ (xs : List ℕ). length (atoms_of (protocol_of c.args.protocol.now) xs) ≤ 64) (sym c.deref.ensures.value) (mapped_at (λ (counts : List ℕ). length (atoms_of (protocol_of c.args.protocol.now) counts) ≤ 64) (λ (v : Vec ℕ Global). v.items) c.args.ways.now c.loop-counts.counts-index c.counts-item.result c.requires.atoms c.loop-counts-test.true c.counts-item.is) in
    let found : c.index.result.now ≡ get_or c.in_ok-clauses.clauses.items c.atom_count.result c.index.result.now = search rules in
    let here = here_is c.args.lits c.atom_count.result c.index.result.now _ c.in_ok-clauses.clauses.items c.in_ok-clauses.ensures c.atom_count.ensures few found in
    let value = here.0 ∙ ap (λ (xs : List ℕ). clause_count c.args.lits (length (atoms_of (protocol_of c.args.protocol.now) xs))) c.deref.ensures.value in
    record {
      whole = sum_step (λ (v : Vec ℕ Global). clause_count c.args.lits (length (atoms_of (protocol_of c.args.protocol.now) v.items))) c.args.ways.now c.loop-counts.counts-index c.counts-item.result c.loop-counts.total c.index.result.now _ c.loop-counts-test.true c.counts-item.is value c.loop-counts.invariant.whole;
      fits = total_more c.loop-counts.counts-index c.loop-counts.total c.index.result.now (3 ^ 64) c.loop-counts.invariant.fits here.1;
    }
