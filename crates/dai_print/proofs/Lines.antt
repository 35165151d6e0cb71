-- The lines of a report.
use Rattle.std.proofs.Common.{◌≡◌, ◌≤◌, ◌<◌, ◌*◌, ◌+◌, ℕ, List, [], ◌++◌, get_or, length, map, take, sym, ◌∙◌, ap, subst, arith}
use Rattle.std.specs.Prelude.{◌/◌, ◌%◌, slice_index_or, codes}
use Rattle.std.specs.List.{All, flat_map, enumerate_from}
use Rattle.std.proofs.lemmas.List.{get_or-map, length-map, take_all}
use Rattle.std.proofs.lemmas.List.FromFn.{get_or-enumerate_from, length-enumerate_from}
use Rattle.dai_model.specs.Protocol as Model
use Rattle.dai_model.specs.Clause as Clauses
use Rattle.dai_model.specs.Clause.{numbers_below, atoms_of, variables_of, literal_among}
use Rattle.dai_model.specs.Template.{Bounds}
use Rattle.dai_model.specs.Report.{clause_text, joined, if_any, binder_text, guards_of_sort, body_text, literal_text}
use Rattle.dai_model.proofs.Folds.{map-map}
use Rattle.dai_logic.specs.Parts.{sort_of, invariant_of}
use Rattle.dai_logic.specs.Protocols.{protocol_of}
use Rattle.dai_logic.specs.declared.protocol.Invariant.{Invariant}
use Rattle.dai_logic.specs.declared.protocol.Protocol.{Protocol}
use Rattle.dai_template.specs.declared.clause.Clause.{Clause}
use Rattle.dai_template.specs.declared.clause.Shape.{Shape}
use Rattle.dai_template.specs.declared.space.Space.{Space}
use Rattle.dai_template.specs.Atoms.{atom_of, counts_of, IsShape}
use Rattle.dai_template.specs.Spaces.{clause_of, IsClauseOf}
use Rattle.dai_template.proofs.Accepted.{few_sorts}
use Rattle.dai_print.specs.Texts.{text_over}

pub label_at : (fs : List Invariant) (i : ℕ) (f : Invariant) → i < length fs → f ≡ get_or fs i f → f.label ≡ slice_index_or (map (λ (g : Model.Invariant). g.label) (map invariant_of fs)) i []
label_at fs i f below is =
    let long = length-map fs invariant_of in
    sym (get_or-map (λ (g : Model.Invariant). g.label) (map invariant_of fs) i (invariant_of f) [] (omega (arith, long, below))
    ∙ ap (λ (g : Model.Invariant). g.label) (get_or-map invariant_of fs i f (invariant_of f) below ∙ ap invariant_of (sym is)))

-- the clause's text with the types counted so
abbrev text_of_types : Model.Protocol → Clauses.Clause → ℕ → List ℕ
text_of_types P c n =
    let bound = map (binder_text P) (flat_map (variables_of c.counts) (numbers_below n)) in
    let guarded = flat_map (guards_of_sort P c.counts) (numbers_below n) in
    if_any bound (codes "forall " ++ (joined (codes ", ") bound ++ codes ". "))
    ++ (if_any guarded (joined (codes " & ") guarded ++ codes " -> ")
    ++ body_text (map (λ l. literal_text P (literal_among (atoms_of P c.counts) l)) c.literals))

-- the same literals, first read and then written
read_first : (P : Model.Protocol) (c : Clauses.Clause) → text_of_types P c (length P.sorts) ≡ clause_text P c
read_first P c =
    let bound = map (binder_text P) (flat_map (variables_of c.counts) (numbers_below (length P.sorts))) in
    let guarded = flat_map (guards_of_sort P c.counts) (numbers_below (length P.sorts)) in
    ap (λ (ps : List (List ℕ)). if_any bound (codes "forall " ++ (joined (codes ", ") bound ++ codes ". ")) ++ (if_any guarded (joined (codes " & ") guarded ++ codes " -> ") ++ body_text ps))
    (sym (map-map (literal_text P) (literal_among (atoms_of P c.counts)) c.literals))

half_below : (l n : ℕ) → l < 2 * n → l / 2 < n
half_below l n h = let r : l % 2 < 2 = omega arith in omega arith

shape_counts : (space : Space) (c : Clause) (shape : Shape) → c.shape < length space.shapes.items → shape ≡ get_or space.shapes.items c.shape shape → slice_index_or (map counts_of space.shapes.items) c.shape [] ≡ shape.counts.items
shape_counts space c shape below at = get_or-map counts_of space.shapes.items c.shape shape [] below ∙ ap counts_of (sym at)

shape_atoms : (p : Protocol) (B : Bounds) (space : Space) (c : Clause) (shape : Shape) → IsClauseOf (protocol_of p) B space c → shape ≡ get_or space.shapes.items c.shape shape → map atom_of shape.atoms.items ≡ atoms_of (protocol_of p) (clause_of space c).counts
shape_atoms p B space c shape is at =
    let shaped : IsShape (protocol_of p) shape = subst (IsShape (protocol_of p)) (sym at) (is.space_of.atoms c.shape shape is.shape) in
    shaped.atoms ∙ ap (atoms_of (protocol_of p)) (sym (shape_counts space c shape is.shape at))

-- the shape of a clause of a space has few types, and the atoms of the clause's literals
pub few_types : (p : Protocol) (B : Bounds) (space : Space) (c : Clause) (shape : Shape) → IsClauseOf (protocol_of p) B space c → shape ≡ get_or space.shapes.items c.shape shape → length shape.counts.items ≤ 8
few_types p B space c shape is at =
    let a = few_sorts p in
    let b = length-map p.sorts.items sort_of in
    let e = ap length (shape_counts space c shape is.shape at) in
    let long = is.template.one_count_each in
    omega (arith, a, b, e, long)

pub inside_shape : (p : Protocol) (B : Bounds) (space : Space) (c : Clause) (shape : Shape) (literals : List ℕ) → IsClauseOf (protocol_of p) B space c → shape ≡ get_or space.shapes.items c.shape shape → literals ≡ c.lits.items → All (λ l. l / 2 < length shape.atoms.items) literals
inside_shape p B space c shape literals is at same =
    subst (All (λ l. l / 2 < length shape.atoms.items)) (sym same)
    (λ k d here.
    let l = is.template.of_the_shape k d here in
    let e = ap length (shape_atoms p B space c shape is at) in
    let many = length-map shape.atoms.items atom_of in
    half_below (get_or c.lits.items k d) (length shape.atoms.items) (omega (arith, l, e, many)))

-- the text over the shape of a clause of a space is the clause's
pub text_is : (p : Protocol) (B : Bounds) (space : Space) (c : Clause) (shape : Shape) (literals text : List ℕ) → IsClauseOf (protocol_of p) B space c → shape ≡ get_or space.shapes.items c.shape shape → literals ≡ c.lits.items → text ≡ text_over (protocol_of p) shape.counts.items (map atom_of shape.atoms.items) literals → text ≡ clause_text (protocol_of p) (clause_of space c)
text_is p B space c shape literals text is at same h =
    let P = protocol_of p in
    h
    ∙ (ap (text_over P shape.counts.items (map atom_of shape.atoms.items)) same
    ∙ (ap (λ (ns : List ℕ). text_over P ns (map atom_of shape.atoms.items) c.lits.items) (sym (shape_counts space c shape is.shape at))
    ∙ (ap (λ xs. text_over P (clause_of space c).counts xs c.lits.items) (shape_atoms p B space c shape is at)
    ∙ (ap (λ (n : ℕ). text_of_types P (clause_of space c) n) is.template.one_count_each ∙ read_first P (clause_of space c)))))

pub line_at : (space : Space) (kept : List Clause) (i : ℕ) (c : Clause) → i < length kept → c ≡ get_or kept i c → (let z : ℕ × Clauses.Clause = (1 + i, clause_of space c) in z) ≡ get_or (enumerate_from 1 (map (clause_of space) kept)) i (1 + i, clause_of space c)
line_at space kept i c below is =
    let here : i < length (map (clause_of space) kept) = let e = length-map kept (clause_of space) in omega (arith, e, below) in
    let same : clause_of space c ≡ get_or (map (clause_of space) kept) i (clause_of space c) = ap (clause_of space) is ∙ sym (get_or-map (clause_of space) kept i c (clause_of space c) below) in
    ap (λ (d : Clauses.Clause). let z : ℕ × Clauses.Clause = (1 + i, d) in z) same ∙ sym (get_or-enumerate_from 1 (map (clause_of space) kept) i (1 + i, clause_of space c) here)

pub line_below : (space : Space) (kept : List Clause) (i : ℕ) → i < length kept → i < length (enumerate_from 1 (map (clause_of space) kept))
line_below space kept i below = let e = length-map kept (clause_of space) in let k = length-enumerate_from 1 (map (clause_of space) kept) in omega (arith, e, k, below)

pub lines_all : (space : Space) (kept : List Clause) (i : ℕ) → length kept ≤ i → take i (enumerate_from 1 (map (clause_of space) kept)) ≡ enumerate_from 1 (map (clause_of space) kept)
lines_all space kept i past = take_all i (enumerate_from 1 (map (clause_of space) kept)) (let e = length-map kept (clause_of space) in let k = length-enumerate_from 1 (map (clause_of space) kept) in omega (arith, e, k, past))
