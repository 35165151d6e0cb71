-- Clauses as words: the words of one list of clauses are not those of another.
use Rattle.std.proofs.Common.{◌≡◌, ◌<◌, ℕ, List, [], ◌∷◌, ◌++◌, Option, Some, None, length, map, refl, ap, sym, ◌∙◌, subst, append_assoc, arith}
use Rattle.std.specs.List.{All, AllByRecursion}
use Rattle.std.proofs.lemmas.List.Elements.{recursion_from_All}
use Rattle.dai_trail.specs.declared.cnf.Lit.{Lit}
use Rattle.dai_trail.specs.Formula.{IsBelow}
use Rattle.dai_dimacs.specs.declared.tokens.Token.{Token}
use Rattle.dai_dimacs.specs.declared.tokens.Token.TheVariants.{End, Literal}
use Rattle.dai_dimacs.specs.Tokens.{IsTokenBelow}
use Rattle.dai_dimacs.specs.Files.{runs}

-- the literals of a clause, its end, and what comes behind
marked : List Lit → List (Option Token) → List (Option Token)
marked [] rest = Some End ∷ rest
marked (l ∷ ls) rest = Some (Literal l) ∷ marked ls rest

marked_is : (clause : List Lit) (rest : List Token) → map Some ((map Literal clause ++ End ∷ []) ++ rest) ≡ marked clause (map Some rest)
unfolding marked
marked_is [] rest = refl
marked_is (l ∷ ls) rest = ap (λ xs. Some (Literal l) ∷ xs) (marked_is ls rest)

marked-append : (clause : List Lit) (xs ys : List (Option Token)) → marked clause xs ++ ys ≡ marked clause (xs ++ ys)
unfolding marked
marked-append [] xs ys = refl
marked-append (l ∷ ls) xs ys = ap (λ zs. Some (Literal l) ∷ zs) (marked-append ls xs ys)

-- what comes behind the ends of two clauses is the same
strip : (c d : List Lit) (x y : List (Option Token)) → marked c x ≡ marked d y → x ≡ y
unfolding marked
strip [] [] x y e = cc
strip [] (m ∷ d) x y e = absurd (let k : ⊥ = cc in k)
strip (l ∷ c) [] x y e = absurd (let k : ⊥ = cc in k)
strip (l ∷ c) (m ∷ d) x y e = let t : marked c x ≡ marked d y = cc in strip c d x y t

not_nil : (c : List Lit) (x : List (Option Token)) → marked c x ≡ [] → ⊥
unfolding marked
not_nil [] x e = let k : ⊥ = cc in k
not_nil (l ∷ c) x e = let k : ⊥ = cc in k

no_end : (part d : List Lit) (y : List (Option Token)) → map Some (map Literal part) ≡ marked d y → ⊥
unfolding marked
no_end [] [] y e = let k : ⊥ = cc in k
no_end [] (m ∷ d) y e = let k : ⊥ = cc in k
no_end (o ∷ part) [] y e = let k : ⊥ = cc in k
no_end (o ∷ part) (m ∷ d) y e = let t : map Some (map Literal part) ≡ marked d y = cc in no_end part d y t

-- nothing comes behind as many clauses as there are
pub nothing_behind : (cs ds : List (List Lit)) (more : List (Option Token)) → map Some (runs cs) ++ more ≡ map Some (runs ds) → length cs ≡ length ds → more ≡ []
nothing_behind [] [] more e h = e
nothing_behind [] (d ∷ ds) more e h = absurd (omega arith)
nothing_behind (c ∷ cs) [] more e h = absurd (omega arith)
nothing_behind (c ∷ cs) (d ∷ ds) more e h =
    let left = sym (marked-append c (map Some (runs cs)) more) ∙ ap (λ xs. xs ++ more) (sym (marked_is c (runs cs))) in
    nothing_behind cs ds more (strip c d (map Some (runs cs) ++ more) (map Some (runs ds)) (left ∙ e ∙ marked_is d (runs ds))) (omega arith)

-- clauses of which one has no end are not more
pub as_many : (cs ds : List (List Lit)) (part : List Lit) → map Some (runs cs ++ map Literal part) ≡ map Some (runs ds) → length cs ≡ length ds
as_many [] [] part e = refl
as_many [] (d ∷ ds) part e = absurd (no_end part d (map Some (runs ds)) (e ∙ marked_is d (runs ds)))
as_many (c ∷ cs) [] part e =
    absurd (not_nil c (map Some (runs cs ++ map Literal part)) (sym (marked_is c (runs cs ++ map Literal part)) ∙ ap (map Some) (sym (append_assoc (map Literal c ++ End ∷ []) (runs cs) (map Literal part))) ∙ e))
as_many (c ∷ cs) (d ∷ ds) part e =
    let left = sym (marked_is c (runs cs ++ map Literal part)) ∙ ap (map Some) (sym (append_assoc (map Literal c ++ End ∷ []) (runs cs) (map Literal part))) in
    let rest = as_many cs ds part (strip c d (map Some (runs cs ++ map Literal part)) (map Some (runs ds)) (left ∙ e ∙ marked_is d (runs ds))) in
    omega arith

-- each word of clauses says something
pub no_gap : (a b : List (Option Token)) (xs : List Token) → a ++ (None ∷ b) ≡ map Some xs → ⊥
no_gap [] b [] e = let k : ⊥ = cc in k
no_gap [] b (x ∷ xs) e = let k : ⊥ = cc in k
no_gap (y ∷ a) b [] e = let k : ⊥ = cc in k
no_gap (y ∷ a) b (x ∷ xs) e = let t : a ++ (None ∷ b) ≡ map Some xs = cc in no_gap a b xs t

at_mid : (P : Token → Type 0) (a b : List (Option Token)) (t : Token) (xs : List Token) → a ++ (Some t ∷ b) ≡ map Some xs → AllByRecursion P xs → P t
at_mid P [] b t [] e h = absurd (let k : ⊥ = cc in k)
at_mid P [] b t (x ∷ xs) e h = let s : x ≡ t = cc in subst P s h.0
at_mid P (y ∷ a) b t [] e h = absurd (let k : ⊥ = cc in k)
at_mid P (y ∷ a) b t (x ∷ xs) e h = let s : a ++ (Some t ∷ b) ≡ map Some xs = cc in at_mid P a b t xs s h.1

run_below : (vars : ℕ) (c : List Lit) (rest : List Token) → AllByRecursion (λ l. l.var < vars) c → AllByRecursion (IsTokenBelow vars) rest → AllByRecursion (IsTokenBelow vars) ((map Literal c ++ End ∷ []) ++ rest)
run_below vars [] rest h r = (tt, r)
run_below vars (l ∷ ls) rest h r = (h.0, run_below vars ls rest h.1 r)

runs_below : (vars : ℕ) (cs : List (List Lit)) → AllByRecursion (IsBelow vars) cs → AllByRecursion (IsTokenBelow vars) (runs cs)
runs_below vars [] h = tt
runs_below vars (c ∷ cs) h = run_below vars c (runs cs) (recursion_from_All (λ (l : Lit). l.var < vars) c h.0) (runs_below vars cs h.1)

-- each literal of clauses is below their count
pub literal_below : (vars : ℕ) (a b : List (Option Token)) (l : Lit) (cs : List (List Lit)) → a ++ (Some (Literal l) ∷ b) ≡ map Some (runs cs) → All (IsBelow vars) cs → l.var < vars
literal_below vars a b l cs e h = at_mid (IsTokenBelow vars) a b (Literal l) (runs cs) e (runs_below vars cs (recursion_from_All (IsBelow vars) cs h))

same_front : (c d : List Lit) (x y : List (Option Token)) → marked c x ≡ marked d y → c ≡ d
unfolding marked
same_front [] [] x y e = refl
same_front [] (m ∷ d) x y e = absurd (let k : ⊥ = cc in k)
same_front (l ∷ c) [] x y e = absurd (let k : ⊥ = cc in k)
same_front (l ∷ c) (m ∷ d) x y e =
    let first : l ≡ m = cc in
    let rest : marked c x ≡ marked d y = cc in
    λ i. first i ∷ same_front c d x y rest i

-- the same words are the same clauses
pub one_list : (cs ds : List (List Lit)) → map Some (runs cs) ≡ map Some (runs ds) → cs ≡ ds
one_list [] [] e = refl
one_list [] (d ∷ ds) e = absurd (not_nil d (map Some (runs ds)) (sym (marked_is d (runs ds)) ∙ sym e))
one_list (c ∷ cs) [] e = absurd (not_nil c (map Some (runs cs)) (sym (marked_is c (runs cs)) ∙ e))
one_list (c ∷ cs) (d ∷ ds) e =
    let both = sym (marked_is c (runs cs)) ∙ e ∙ marked_is d (runs ds) in
    let first = same_front c d (map Some (runs cs)) (map Some (runs ds)) both in
    let rest = one_list cs ds (strip c d (map Some (runs cs)) (map Some (runs ds)) both) in
    λ i. first i ∷ rest i
