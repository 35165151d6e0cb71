-- The search for a smaller renaming, variable by variable.
use Rattle.std.proofs.Common.{◌≡◌, ◌≢◌, ℕ, Bool, false, refl, List, Option, Some, None, length, sym, ap, ◌∙◌, subst, arith, inl}
use Rattle.std.specs.Prelude.{IfSome, is_some}
use Rattle.std.specs.Ordering.{nat_cmp}
use Rattle.std.specs.Cmp.Lexicographic.{slice_cmp}
use Rattle.std.specs.declared.cmp.Ordering.TheVariants.{Less, Greater}
use Rattle.dai_model.specs.Protocol.{Protocol}
use Rattle.dai_model.specs.Clause.{Atom}
use Rattle.dai_template.specs.Meeting.{IsBegun}
use Rattle.dai_template.specs.Renamings.{renamed_literals, IsShapeOf, IsRenamed, AreLiterals, IsImage, IsSmallerImage, IsLeastFrom}
use Rattle.dai_template.proofs.MetFrom.{count_inside, cut, cut_at, cut_placed}
use Rattle.dai_template.proofs.Choices.{IsSearched, begun_end}
use Rattle.dai_template.proofs.Images.{array_image, only_image}

pub searched_shape : (P : Protocol) (orders : List Bool) (counts : List ℕ) (atoms : List Atom) → IsShapeOf P orders counts atoms → IsSearched P orders counts
searched_shape P orders counts atoms h = record { orders_are = h.orders_are; each = h.each; few_types = h.few_types; few = h.few }

pub all_renamed : (P : Protocol) (orders : List Bool) (counts : List ℕ) (atoms : List Atom) (sort number : ℕ) (to : List ℕ) → IsShapeOf P orders counts atoms → IsBegun P counts counts sort number to → sort ≡ length counts → IsRenamed P counts atoms to
all_renamed P orders counts atoms sort number to h b same = record { orders = orders; shape = h; begun = begun_end P counts counts sort number to same b }

pub end_least : (P : Protocol) (counts : List ℕ) (atoms : List Atom) (literals : List ℕ) (sort number : ℕ) (to : List ℕ) → sort ≡ length counts → IsRenamed P counts atoms to → AreLiterals P counts literals → slice_cmp nat_cmp literals (renamed_literals P counts to literals) ≢ Greater → IsLeastFrom P counts literals sort number to
end_least P counts atoms literals sort number to same h are least elements placed agree others image greater =
    let one = only_image P counts atoms to elements literals others h (λ v k. agree v.sort v.number k (inl (let l = count_inside counts v.sort v.number k in omega (arith, l, same)))) are image in
    least (ap (slice_cmp nat_cmp literals) one ∙ greater)

pub end_smaller : (P : Protocol) (counts : List ℕ) (atoms : List Atom) (literals : List ℕ) (to found : List ℕ) → IsRenamed P counts atoms to → AreLiterals P counts literals → found ≡ renamed_literals P counts to literals → slice_cmp nat_cmp found literals ≡ Less → IsSmallerImage P counts literals found
end_smaller P counts atoms literals to found h are is less = record {
  to = cut counts to;
  places = cut_placed P counts counts to h.shape.each h.begun;
  image = subst (IsImage P counts (cut counts to) literals) (sym is) (array_image P counts atoms to (cut counts to) literals h (λ v k. cut_at counts to v.sort v.number k) are);
  less = less;
}

pub if_some : {X : Type 0} (r : Option X) (P Q R : X → Type 0) → ((x : X) → P x → Q x → R x) → IfSome r P → IfSome r Q → IfSome r R
if_some None P Q R f h k = tt
if_some (Some x) P Q R f h k = f x h k

pub some_weaker : {X : Type 0} (r : Option X) (P Q : X → Type 0) → ((x : X) → P x → Q x) → IfSome r P → IfSome r Q
some_weaker None P Q f h = tt
some_weaker (Some x) P Q f h = f x h

pub none_from : {X : Type 0} (r : Option X) (b : Bool) → b ≡ is_some r → b ≡ false → r ≡ None
none_from None b e h = refl
none_from (Some x) b e h = absurd (let k : ⊥ = cc in k)
