-- Names that stand as keys of a table.
use Rattle.std.proofs.Common.{◌≡◌, ℕ, Bool, true, false, List, ◌||◌, [], ◌∷◌, ◌++◌, refl, if◌then◌else◌, ap, sym, ◌∙◌, subst, Vec}
use Rattle.std.specs.declared.alloc.Global.{Global}
use Rattle.std.specs.List.{list_any}
use Rattle.std.specs.Cmp.Lexicographic.{pointwise}
use Rattle.std.proofs.lemmas.Slice.Eq.{bytes_eq-Decides}
use Rattle.std.specs.Prelude.{nat_eq}
use Rattle.dai_rules.specs.Names.{is_among, same_text}
use Rattle.dai_rules.specs.Tables.{texts_of}

abbrev pub is_key : List ℕ → Vec ℕ Global → Bool
is_key name key = pointwise nat_eq name key.items

-- a key that stands for the name, and the name among the texts
pub among_texts : (name : List ℕ) (keys : List (Vec ℕ Global)) → list_any (is_key name) keys ≡ is_among name (texts_of keys)
among_texts name [] = refl
among_texts name (key ∷ keys) = ap (λ b. is_key name key || b) (among_texts name keys)

pub texts_of-push : (keys : List (Vec ℕ Global)) (key : Vec ℕ Global) → texts_of (keys ++ key ∷ []) ≡ texts_of keys ++ key.items ∷ []
texts_of-push [] key = refl
texts_of-push (k ∷ keys) key = ap (λ rest. k.items ∷ rest) (texts_of-push keys key)

pub among_by : (query name : List ℕ) (keys : List (Vec ℕ Global)) (b : Bool) → query ≡ name → b ≡ list_any (is_key query) keys → b ≡ is_among name (texts_of keys)
among_by query name keys b same e = e ∙ ap (λ q. list_any (is_key q) keys) same ∙ among_texts name keys

pub or_false : (b : Bool) → (b || false) ≡ b
or_false true = refl
or_false false = refl

pub or_assoc : (a b c : Bool) → (a || (b || c)) ≡ ((a || b) || c)
or_assoc true b c = refl
or_assoc false b c = refl

pub among_push : (x name : List ℕ) (names : List (List ℕ)) → is_among x (names ++ name ∷ []) ≡ (is_among x names || same_text x name)
among_push x name [] = or_false (same_text x name)
among_push x name (n ∷ ns) = ap (λ b. same_text x n || b) (among_push x name ns) ∙ or_assoc (same_text x n) (is_among x ns) (same_text x name)

among_same : (x name : List ℕ) (names : List (List ℕ)) → is_among name names ≡ true → same_text x name ≡ true → is_among x names ≡ true
among_same x name names known h =
    let same : x ≡ name = (bytes_eq-Decides x name).0 h in
    subst (λ y. is_among y names ≡ true) (sym same) known

or_known : (a b : Bool) → (b ≡ true → a ≡ true) → a ≡ (a || b)
or_known true b h = refl
or_known false true h = h refl
or_known false false h = refl

among_old : (x name : List ℕ) (names : List (List ℕ)) → is_among name names ≡ true → is_among x names ≡ (is_among x names || same_text x name)
among_old x name names known = or_known (is_among x names) (same_text x name) (among_same x name names known)

-- the keys after an insertion
abbrev pub with_key : Bool → List (Vec ℕ Global) → Vec ℕ Global → List (Vec ℕ Global)
with_key b keys key = if b then keys else keys ++ key ∷ []

with_key_among : (b : Bool) (x : List ℕ) (keys : List (Vec ℕ Global)) (key : Vec ℕ Global) → is_among key.items (texts_of keys) ≡ b → is_among x (texts_of (with_key b keys key)) ≡ (is_among x (texts_of keys) || same_text x key.items)
with_key_among true x keys key e = among_old x key.items (texts_of keys) e
with_key_among false x keys key e = ap (is_among x) (texts_of-push keys key) ∙ among_push x key.items (texts_of keys)

pub inserted_among : (x name : List ℕ) (old new : List (Vec ℕ Global)) (key : Vec ℕ Global) → key.items ≡ name → new ≡ with_key (list_any (is_key key.items) old) old key → is_among x (texts_of new) ≡ (is_among x (texts_of old) || same_text x name)
inserted_among x name old new key is e =
    ap (λ keys. is_among x (texts_of keys)) e
    ∙ with_key_among (list_any (is_key key.items) old) x old key (sym (among_texts key.items old))
    ∙ ap (λ n. is_among x (texts_of old) || same_text x n) is
