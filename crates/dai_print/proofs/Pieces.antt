-- Pieces of text, joined and in order.
use Rattle.std.proofs.Common.{◌≡◌, ◌≤◌, ◌<◌, ◌+◌, ◌-◌, ℕ, List, [], ◌∷◌, ◌++◌, get_or, length, take, drop, map, sym, ◌∙◌, ap, refl, arith, append_assoc, Vec}
use Rattle.std.specs.Prelude.{codes}
use Rattle.std.specs.declared.alloc.Global.{Global}
use Rattle.std.proofs.lemmas.List.{get_or-map, length-map, length-drop, take_more, drop_more}
use Rattle.dai_model.specs.Protocol.{Protocol}
use Rattle.dai_model.specs.Clause.{Variable}
use Rattle.dai_model.specs.Report.{joined, variable_text, unequal_guards, increasing_guards}
use Rattle.dai_template.specs.Atoms.{lists_of, variable_of}

pub list_at : (vs : List (Vec ℕ Global)) (i : ℕ) (v : Vec ℕ Global) → i < length vs → v ≡ get_or vs i v → v.items ≡ get_or (lists_of vs) i v.items
list_at vs i v below is = ap (λ (w : Vec ℕ Global). w.items) is ∙ sym (get_or-map (λ (w : Vec ℕ Global). w.items) vs i v v.items below)

pub lists_below : (vs : List (Vec ℕ Global)) (i : ℕ) → i < length vs → i < length (lists_of vs)
lists_below vs i below = let e = length-map vs (λ (w : Vec ℕ Global). w.items) in omega (arith, e, below)

pub lists_all : (vs : List (Vec ℕ Global)) (i : ℕ) → length vs ≤ i → length (lists_of vs) ≤ i
lists_all vs i past = let e = length-map vs (λ (w : Vec ℕ Global). w.items) in omega (arith, e, past)

-- what stands before the next piece
abbrev pub gap_after : List ℕ → List (List ℕ) → List ℕ
gap_after between [] = []
gap_after between (x ∷ xs) = between

pub joined-push : (between : List ℕ) (xs : List (List ℕ)) (x : List ℕ) → joined between (xs ++ x ∷ []) ≡ joined between xs ++ (gap_after between xs ++ x)
joined-push between [] x = refl
joined-push between (a ∷ []) x = refl
joined-push between (a ∷ b ∷ ys) x =
    ap (λ more. a ++ (between ++ more)) (joined-push between (b ∷ ys) x)
    ∙ sym (append_assoc a (between ++ joined between (b ∷ ys)) (between ++ x) ∙ ap (λ more. a ++ more) (append_assoc between (joined between (b ∷ ys)) (between ++ x)))

gap_after-push : (between : List ℕ) (xs : List (List ℕ)) (x : List ℕ) → gap_after between (xs ++ x ∷ []) ≡ between
gap_after-push between [] x = refl
gap_after-push between (a ∷ ys) x = refl

-- one piece more
pub joined_more : (between gap : List ℕ) (xs : List (List ℕ)) (i : ℕ) (x start now later last : List ℕ) → i < length xs → x ≡ get_or xs i x → now ≡ start ++ joined between (take i xs) → gap ≡ gap_after between (take i xs) → later ≡ now ++ gap → last ≡ later ++ x → last ≡ start ++ joined between (take (i + 1) xs)
joined_more between gap xs i x start now later last below is h g e f =
    let next : take i xs ++ x ∷ [] ≡ take (i + 1) xs = ap (λ (y : List ℕ). take i xs ++ y ∷ []) is ∙ sym (take_more xs i x below) in
    f ∙ (ap (λ (t : List ℕ). t ++ x) (e ∙ (ap (λ (t : List ℕ). t ++ gap) h ∙ ap (λ (t : List ℕ). (start ++ joined between (take i xs)) ++ t) g))
    ∙ (append_assoc (start ++ joined between (take i xs)) (gap_after between (take i xs)) x
    ∙ (append_assoc start (joined between (take i xs)) (gap_after between (take i xs) ++ x)
    ∙ ap (λ (t : List ℕ). start ++ t) (sym (joined-push between (take i xs) x) ∙ ap (joined between) next))))

pub gap_more : (between : List ℕ) (xs : List (List ℕ)) (i : ℕ) (x : List ℕ) → i < length xs → x ≡ get_or xs i x → between ≡ gap_after between (take (i + 1) xs)
gap_more between xs i x below is =
    let next : take i xs ++ x ∷ [] ≡ take (i + 1) xs = ap (λ (y : List ℕ). take i xs ++ y ∷ []) is ∙ sym (take_more xs i x below) in
    sym (gap_after-push between (take i xs) x) ∙ ap (gap_after between) next

-- the text of a guard
abbrev pub guard_of : Protocol → List ℕ → ℕ × ℕ → ℕ × ℕ → List ℕ
guard_of P sign v w = variable_text P (variable_of v) ++ (sign ++ variable_text P (variable_of w))

abbrev pub unequal_from : Protocol → List (ℕ × ℕ) → List (List ℕ)
unequal_from P vars = unequal_guards P (map variable_of vars)

abbrev pub increasing_from : Protocol → List (ℕ × ℕ) → List (List ℕ)
increasing_from P vars = increasing_guards P (map variable_of vars)

map-map : {X Y Z : Type 0} (f : Y → Z) (g : X → Y) (xs : List X) → map f (map g xs) ≡ map (λ x. f (g x)) xs
map-map f g [] = refl
map-map f g (x ∷ xs) = ap (λ ys. f (g x) ∷ ys) (map-map f g xs)

pub unequal_step : (P : Protocol) (vars : List (ℕ × ℕ)) (i : ℕ) (d : ℕ × ℕ) → i < length vars → unequal_from P (drop i vars) ≡ map (λ (w : Variable). variable_text P (variable_of (get_or vars i d)) ++ (codes " ~= " ++ variable_text P w)) (map variable_of (drop (i + 1) vars)) ++ unequal_from P (drop (i + 1) vars)
unequal_step P vars i d below = ap (unequal_from P) (drop_more vars i d below)

pub increasing_step : (P : Protocol) (vars : List (ℕ × ℕ)) (n : ℕ) (d : ℕ × ℕ) → 1 ≤ n → n < length vars → increasing_from P (drop (n - 1) vars) ≡ guard_of P (codes " < ") (get_or vars (n - 1) d) (get_or vars n d) ∷ increasing_from P (drop n vars)
increasing_step P vars n d above below =
    let here = drop_more vars (n - 1) d (omega arith) in
    let up : n - 1 + 1 ≡ n = omega arith in
    let next = drop_more vars n d below in
    ap (increasing_from P) (here ∙ ap (λ (k : ℕ). get_or vars (n - 1) d ∷ drop k vars) up)
    ∙ (ap (λ (ys : List (ℕ × ℕ)). increasing_from P (get_or vars (n - 1) d ∷ ys)) next
    ∙ ap (λ (ys : List (ℕ × ℕ)). guard_of P (codes " < ") (get_or vars (n - 1) d) (get_or vars n d) ∷ increasing_from P ys) (sym next))

-- at most one variable is left, which has no guard
pub increasing_end : (P : Protocol) (vars : List (ℕ × ℕ)) (n : ℕ) → 1 ≤ n → length vars ≤ n → increasing_from P (drop (n - 1) vars) ≡ []
increasing_end P vars n above past = lone P (drop (n - 1) vars) (let e = length-drop (n - 1) vars in omega (arith, e, above, past))
  where
    lone : (P : Protocol) (ws : List (ℕ × ℕ)) → length ws ≤ 1 → increasing_from P ws ≡ []
    lone P [] h = refl
    lone P (w ∷ []) h = refl
    lone P (w ∷ u ∷ ws) h = absurd (omega arith)

-- three parts, one after another
pub three_parts : (t0 t1 t2 t3 a b x : List ℕ) → t0 ≡ [] → t1 ≡ t0 ++ a → t2 ≡ t1 ++ b → t3 ≡ t2 ++ x → t3 ≡ a ++ (b ++ x)
three_parts t0 t1 t2 t3 a b x e f g h =
    h ∙ (ap (λ (t : List ℕ). t ++ x) (g ∙ ap (λ (t : List ℕ). t ++ b) (f ∙ ap (λ (t : List ℕ). t ++ a) e)) ∙ append_assoc a b x)

-- three parts after a text
pub three_more : (t0 t1 t2 t3 a b x : List ℕ) → t1 ≡ t0 ++ a → t2 ≡ t1 ++ b → t3 ≡ t2 ++ x → t3 ≡ t0 ++ (a ++ (b ++ x))
three_more t0 t1 t2 t3 a b x f g h =
    h ∙ (ap (λ (t : List ℕ). t ++ x) (g ∙ ap (λ (t : List ℕ). t ++ b) f)
    ∙ (append_assoc (t0 ++ a) b x ∙ append_assoc t0 a (b ++ x)))
