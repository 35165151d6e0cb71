-- From the search to the canonical clause.
use Rattle.std.proofs.Common.{◌≡◌, ◌<◌, ℕ, Bool, List, length, get_or, map, sym, ap, ◌∙◌, subst, refl, arith}
use Rattle.std.specs.Prelude.{slice_index}
use Rattle.std.specs.List.{Contains}
use Rattle.std.proofs.lemmas.Bool.{cases_lt}
use Rattle.std.proofs.lemmas.List.{get_or-map, length-map, get_or_default}
use Rattle.dai_model.specs.Protocol.{Protocol, Sort}
use Rattle.dai_model.specs.Placement.{ArePlacements}
use Rattle.dai_model.specs.Clause.{Clause, Literal, atoms_of, literal_among}
use Rattle.dai_model.specs.Template.{Bounds, IsTemplate}
use Rattle.dai_model.specs.Subsumption.{image_of, IsRenaming, IsCanonical}
use Rattle.dai_model.proofs.Below.{Each, below-trans, below-refl}
use Rattle.dai_template.specs.declared.clause.Clause.{Clause as Kept}
use Rattle.dai_template.specs.declared.clause.Shape.{Shape}
use Rattle.dai_template.specs.declared.space.Space.{Space}
use Rattle.dai_template.specs.Atoms.{atom_of}
use Rattle.dai_template.specs.Spaces.{IsClauseOf, clause_of}
use Rattle.dai_template.specs.Renamings.{IsShapeOf, AreLiterals, IsImage, IsSmallerImage, IsLeastFrom, IsSmallerRenaming, IsCanonicalForm}
use Rattle.dai_template.proofs.Asked.{none_before}
use Rattle.dai_template.proofs.Clauses.{small, shape_counts, shape_atoms}
use Rattle.dai_template.proofs.Choices.{order_at}
use Rattle.dai_template.proofs.InOrder.{each_from}
use Rattle.dai_template.proofs.LiteralOrder.{written, less_written}
use Rattle.dai_template.proofs.Ways.{fewer_variables}

contains_map : {X Y : Type 0} (f : X → Y) (xs : List X) (x : X) → Contains xs x → Contains (map f xs) (f x)
contains_map f xs x h =
    let long = length-map xs f in
    let below = h.1 in
    (h.0, omega (arith, long, below), get_or-map f xs h.0 x (f x) below ∙ ap f h.2)

pub template_literals : (P : Protocol) (B : Bounds) (c : Clause) → IsTemplate P B c → AreLiterals P c.counts c.literals
template_literals P B c t = record { of_the_shape = t.of_the_shape; each_atom_once = t.each_atom_once }

-- a renaming takes the literals to those of the other clause
renaming_image : (P : Protocol) (B : Bounds) (c renamed : Clause) → IsTemplate P B renamed → (r : IsRenaming P c renamed) → IsImage P c.counts r.permuted.injection c.literals renamed.literals
renaming_image P B c renamed t r =
    let are = template_literals P B renamed t in
    record {
      are = subst (λ counts. AreLiterals P counts renamed.literals) (sym r.same_shape) are;
      as_many = r.as_many_literals;
      taken = λ l h. subst (λ counts. Contains (map (literal_among (atoms_of P counts)) renamed.literals) (image_of r.permuted.injection (literal_among (atoms_of P c.counts) l))) (sym r.same_shape)
          (r.permuted.literals (literal_among (atoms_of P c.counts) l) (contains_map (literal_among (atoms_of P c.counts)) c.literals l h));
    }

pub least_canonical : (P : Protocol) (B : Bounds) (c : Clause) (values : List ℕ) → IsLeastFrom P c.counts c.literals 0 0 values → IsCanonical P B c
least_canonical P B c values least renamed t r =
    least r.permuted.injection (subst (λ counts. ArePlacements P c.counts counts r.permuted.injection) (sym r.same_shape) r.permuted.places) (λ s i k before. absurd (none_before s i before)) renamed.literals (renaming_image P B c renamed t r)

pub smaller_template : (P : Protocol) (B : Bounds) (c : Clause) (others : List ℕ) → IsTemplate P B c → IsSmallerImage P c.counts c.literals others → IsTemplate P B (record { counts = c.counts; literals = others })
smaller_template P B c others t h = record {
  one_count_each = t.one_count_each;
  few_variables = t.few_variables;
  few_literals = let e = h.image.as_many in let k = t.few_literals in omega (arith, e, k);
  of_the_shape = h.image.are.of_the_shape;
  each_atom_once = h.image.are.each_atom_once;
}

pub smaller_renaming : (P : Protocol) (c : Clause) (others : List ℕ) → IsSmallerImage P c.counts c.literals others → IsRenaming P c (record { counts = c.counts; literals = others })
smaller_renaming P c others h = record {
  same_shape = refl;
  as_many_literals = h.image.as_many;
  permuted = record {
    injection = h.to;
    places = h.places;
    literals = λ l k.
        let long = length-map c.literals (literal_among (atoms_of P c.counts)) in
        let below : k.0 < length c.literals = let m = k.1 in omega (arith, m, long) in
        let same : literal_among (atoms_of P c.counts) (slice_index c.literals k.0) ≡ l = sym (get_or-map (literal_among (atoms_of P c.counts)) c.literals k.0 0 l below) ∙ k.2 in
        subst (λ (m : Literal). Contains (map (literal_among (atoms_of P c.counts)) others) (image_of h.to m)) same
        (h.image.taken (slice_index c.literals k.0) (k.0, below, get_or_default c.literals k.0 (slice_index c.literals k.0) 0 below));
  };
}

pub shape_of : (P : Protocol) (B : Bounds) (space : Space) (clause : Kept) (shape : Shape) (ordered : List Bool) → IsClauseOf P B space clause → shape ≡ get_or space.shapes.items clause.shape shape → ordered ≡ space.ordered.items → IsShapeOf P ordered shape.counts.items (map atom_of shape.atoms.items)
shape_of P B space clause shape ordered h is o =
    let same = shape_counts space clause shape h.shape is in
    let atoms = shape_atoms P B space clause shape h.space_of h.shape is in
    let long = ap length same in
    let one = h.template.one_count_each in
    let types = h.space_of.few_types in
    record {
      orders_are = λ t T found. order_at P.sorts t T ordered found (o ∙ h.space_of.orders);
      order_each = let e = ap length (o ∙ h.space_of.orders) in let k = length-map P.sorts (λ (T : Sort). T.ordered) in omega (arith, e, k, long, one);
      atoms_are = atoms;
      each = omega (arith, long, one);
      few_types = omega (arith, long, one, types);
      few = λ t. let a = ap (λ xs. slice_index xs t) same in let b = h.template.few_variables t in let k = small B.variables t h.space_of.few_variables (cases_lt t (length B.variables)) in omega (arith, a, b, k);
      few_atoms =
          let a = fewer_variables P (clause_of space clause).counts B.variables h.template.few_variables in
          let b = h.space_of.few_atoms in
          let e = ap length (atoms ∙ ap (atoms_of P) same) in
          omega (arith, a, b, e);
    }

pub clause_literals : (P : Protocol) (B : Bounds) (space : Space) (clause : Kept) (shape : Shape) (literals : List ℕ) → IsClauseOf P B space clause → shape ≡ get_or space.shapes.items clause.shape shape → literals ≡ clause.lits.items → AreLiterals P shape.counts.items literals
clause_literals P B space clause shape literals h is l =
    subst (λ counts. AreLiterals P counts literals) (sym (shape_counts space clause shape h.shape is)) (subst (AreLiterals P (clause_of space clause).counts) (sym l) (template_literals P B (clause_of space clause) h.template))

pub least_of_space : (P : Protocol) (B : Bounds) (space : Space) (clause : Kept) (shape : Shape) (literals values : List ℕ) → IsClauseOf P B space clause → shape ≡ get_or space.shapes.items clause.shape shape → literals ≡ clause.lits.items → IsLeastFrom P shape.counts.items literals 0 0 values → IsCanonical P B (clause_of space clause)
least_of_space P B space clause shape literals values h is l least =
    least_canonical P B (clause_of space clause) values (subst (λ counts. IsLeastFrom P counts clause.lits.items 0 0 values) (shape_counts space clause shape h.shape is) (subst (λ ls. IsLeastFrom P shape.counts.items ls 0 0 values) l least))

pub smaller_of_space : (P : Protocol) (B : Bounds) (space : Space) (clause smaller : Kept) (shape : Shape) (literals : List ℕ) → IsClauseOf P B space clause → shape ≡ get_or space.shapes.items clause.shape shape → literals ≡ clause.lits.items → smaller.shape ≡ clause.shape → IsSmallerImage P shape.counts.items literals smaller.lits.items → IsSmallerRenaming P B space clause smaller
smaller_of_space P B space clause smaller shape literals h is l s image =
    let there = subst (λ counts. IsSmallerImage P counts clause.lits.items smaller.lits.items) (shape_counts space clause shape h.shape is) (subst (λ ls. IsSmallerImage P shape.counts.items ls smaller.lits.items) l image) in
    let same : (let c : Clause = record { counts = (clause_of space clause).counts; literals = smaller.lits.items } in c) ≡ clause_of space smaller = ap (λ (n : ℕ). let c : Clause = record { counts = (clause_of space (record clause { shape = n })).counts; literals = smaller.lits.items } in c) (sym s) in
    record {
      of_the_space = record {
        space_of = h.space_of;
        shape = let below = h.shape in omega (arith, below, s);
        template = subst (IsTemplate P B) same (smaller_template P B (clause_of space clause) smaller.lits.items h.template there);
      };
      renaming = subst (IsRenaming P (clause_of space clause)) same (smaller_renaming P (clause_of space clause) smaller.lits.items there);
      less = there.less;
    }

renaming_trans : (P : Protocol) (B : Bounds) (a b c : Clause) → IsTemplate P B a → IsRenaming P a b → IsRenaming P b c → IsRenaming P a c
renaming_trans P B a b c t first second = record {
  same_shape = first.same_shape ∙ second.same_shape;
  as_many_literals = first.as_many_literals ∙ second.as_many_literals;
  permuted = below-trans P B a b c t first.permuted second.permuted;
}

pub canonical_further : (P : Protocol) (B : Bounds) (space : Space) (clause smaller canonical : Kept) → IsClauseOf P B space clause → IsSmallerRenaming P B space clause smaller → IsCanonicalForm P B space smaller canonical → IsCanonicalForm P B space clause canonical
canonical_further P B space clause smaller canonical h first rest = record {
  of_the_space = rest.of_the_space;
  renaming = renaming_trans P B (clause_of space clause) (clause_of space smaller) (clause_of space canonical) h.template first.renaming rest.renaming;
  least = rest.least;
}

pub same_clause : (space : Space) (c d : Kept) → d.shape ≡ c.shape → d.lits.items ≡ c.lits.items → clause_of space c ≡ clause_of space d
same_clause space c d e f =
    ap (λ (n : ℕ). let x : Clause = record { counts = (clause_of space (record c { shape = n })).counts; literals = c.lits.items } in x) (sym e)
    ∙ ap (λ (ls : List ℕ). let x : Clause = record { counts = (clause_of space d).counts; literals = ls } in x) (sym f)

pub canonical_copy : (P : Protocol) (B : Bounds) (space : Space) (clause copy : Kept) → IsClauseOf P B space clause → copy.shape ≡ clause.shape → copy.lits.items ≡ clause.lits.items → IsCanonical P B (clause_of space clause) → IsCanonicalForm P B space clause copy
canonical_copy P B space clause copy h e f least =
    let same = same_clause space clause copy e f in
    record {
      of_the_space = record {
        space_of = h.space_of;
        shape = let below = h.shape in omega (arith, below, e);
        template = subst (IsTemplate P B) same h.template;
      };
      renaming = subst (IsRenaming P (clause_of space clause)) same (record { same_shape = refl; as_many_literals = refl; permuted = below-refl P B (clause_of space clause) h.template });
      least = subst (IsCanonical P B) same least;
    }

small_literals : (P : Protocol) (B : Bounds) (space : Space) (clause : Kept) → IsClauseOf P B space clause → Each (λ l. l < 256) clause.lits.items
small_literals P B space clause h =
    each_from (λ l. l < 256) clause.lits.items (λ i below.
    let a = h.template.of_the_shape i 0 below in
    let b = fewer_variables P (clause_of space clause).counts B.variables h.template.few_variables in
    let k = h.space_of.few_atoms in
    omega (arith, a, b, k))

-- the search comes to an end
pub smaller_written : (P : Protocol) (B : Bounds) (space : Space) (clause smaller : Kept) → IsClauseOf P B space clause → IsSmallerRenaming P B space clause smaller → written smaller.lits.items < written clause.lits.items
smaller_written P B space clause smaller h s =
    less_written smaller.lits.items clause.lits.items (sym s.renaming.as_many_literals) (small_literals P B space smaller s.of_the_space) (small_literals P B space clause h) s.less
