-- The parameter or local of a name.
use Rattle.std.proofs.Common.{◌≡◌, ℕ, ◌+◌, ◌<◌, true, false, List, [], ◌∷◌, get_or, length, drop, map, None, Some, ap, sym, ◌∙◌, refl, zero, suc}
use Rattle.std.specs.Borrow.{Bor}
use Rattle.std.specs.Prelude.{slice_get, if◌then◌else◌}
use Rattle.std.specs.Option.{option_map}
use Rattle.std.proofs.Math.Seq.{drop-nil}
use Rattle.dai_model.specs.Formula as Model
use Rattle.dai_syntax.specs.declared.tree.Binder.{Binder}
use Rattle.dai_logic.specs.declared.protocol.Term.{Term}
use Rattle.dai_logic.specs.Trees.{term_of}
use Rattle.dai_rules.specs.Names.{is_named}
use Rattle.dai_rules.proofs.Lists.{drop_at, drop_next}
use Rattle.dai_sorts.specs.Scopes.{term_among}

no_term : (bs : List Binder) (x : List ℕ) → term_among bs [] x ≡ None
no_term [] x = refl
no_term (b ∷ bs) x = refl

no_local : (ts : List Model.Term) (x : List ℕ) → term_among [] ts x ≡ None
no_local ts x = refl

step_by : (b : Binder) (bs : List Binder) (ts : List Model.Term) (x : List ℕ) → is_named x b ≡ false → term_among bs (drop 1 ts) x ≡ term_among (b ∷ bs) ts x
step_by b bs [] x e = ap (λ ts. term_among bs ts x) (drop-nil 1) ∙ no_term bs x
step_by b bs (t ∷ ts) x e = sym (ap (λ v. if v then Some t else term_among bs ts x) e)

drop_map : (ts : List Term) → map term_of (drop 1 ts) ≡ drop 1 (map term_of ts)
drop_map [] = ap (map term_of) (drop-nil 1) ∙ sym (drop-nil 1)
drop_map (t ∷ ts) = refl

pub local_next : (items : List (Bor Binder)) (terms : List Term) (i : ℕ) (item : Bor Binder) (x : List ℕ) → i < length items → item ≡ get_or items i item → is_named x item.now ≡ false
    → term_among (map (λ b. b.now) (drop (i + 1) items)) (map term_of (drop (i + 1) terms)) x ≡ term_among (map (λ b. b.now) (drop i items)) (map term_of (drop i terms)) x
local_next items terms i item x below is e =
    let rest = map (λ (b : Bor Binder). b.now) (drop (i + 1) items) in
    ap (λ ts. term_among rest ts x) (ap (map term_of) (drop_next terms i) ∙ drop_map (drop i terms))
    ∙ step_by item.now rest (map term_of (drop i terms)) x e ∙ ap (λ bs. term_among (map (λ b. b.now) bs) (map term_of (drop i terms)) x) (sym (drop_at items i item below is))

at_front : (b : Binder) (bs : List Binder) (ts : List Term) (x : List ℕ) → is_named x b ≡ true → option_map term_of (slice_get ts 0) ≡ term_among (b ∷ bs) (map term_of ts) x
at_front b bs [] x e = refl
at_front b bs (t ∷ ts) x e = sym (ap (λ v. if v then Some (term_of t) else term_among bs (map term_of ts) x) e)

get_drop : (ts : List Term) (i : ℕ) → slice_get ts i ≡ slice_get (drop i ts) 0
get_drop [] zero = refl
get_drop [] (suc i) = sym (ap (λ (l : List Term). slice_get l 0) (drop-nil (suc i)))
get_drop (t ∷ ts) zero = refl
get_drop (t ∷ ts) (suc i) = get_drop ts i

pub local_found : (items : List (Bor Binder)) (terms : List Term) (i : ℕ) (item : Bor Binder) (x : List ℕ) → i < length items → item ≡ get_or items i item → is_named x item.now ≡ true
    → option_map term_of (slice_get terms i) ≡ term_among (map (λ b. b.now) (drop i items)) (map term_of (drop i terms)) x
local_found items terms i item x below is e =
    let rest = map (λ (b : Bor Binder). b.now) (drop (i + 1) items) in
    ap (option_map term_of) (get_drop terms i) ∙ at_front item.now rest (drop i terms) x e ∙ ap (λ bs. term_among (map (λ b. b.now) bs) (map term_of (drop i terms)) x) (sym (drop_at items i item below is))
