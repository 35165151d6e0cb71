use Rattle.std.proofs.Common.{◌≡◌, ℕ, ◌+◌, ◌<◌, ◌++◌, List, [], ◌∷◌, length, get_or, map, take, sym, ap, ◌∙◌, arith, Bool, Vec}
use Rattle.std.specs.declared.alloc.Global.{Global}
use Rattle.std.proofs.lemmas.List.{map-append, take_more, get_or-map, length-map}
use Rattle.dai_logic.proofs.copying.copy_tables.Goals as goal

-- one more element with the same view
copied_more : {X Y : Type 0} (f : X → Y) (xs ys zs : List X) (x y : X) (n : ℕ) → map f xs ≡ take n (map f ys) → n < length ys → y ≡ get_or ys n y → f x ≡ f y → zs ≡ xs ++ (x ∷ []) → map f zs ≡ take (n + 1) (map f ys)
copied_more f xs ys zs x y n so_far below is same more =
    let long = length-map ys f in
    let here : f x ≡ get_or (map f ys) n (f y) = same ∙ (ap f is ∙ sym (get_or-map f ys n y (f y) below)) in
    ap (map f) more ∙ (map-append f xs (x ∷ []) ∙ (ap (λ bs. bs ++ (f x ∷ [])) so_far ∙ (ap (λ a. take n (map f ys) ++ (a ∷ [])) here ∙ sym (take_more (map f ys) n (f y) (omega arith)))))

pub loop-table-preserved : goal.loop-table-preserved
loop-table-preserved c =
    let tables = c.args.tables.now.items in
    let same : c.deref-table-items.result.now ≡ tables = c.deref-table-items.ensures.value in
    let long = ap length same in
    copied_more (λ (t : Vec Bool Global). t.items) c.loop-table.copied.items tables c.push.new.self.items c.in_ok-from_slice.field-0 c.table-item.result c.loop-table.table-index
    c.loop-table.invariant
    (let below = c.loop-table-test.true in omega arith)
    (c.table-item.is ∙ ap (λ ts. get_or ts c.loop-table.table-index c.table-item.result) same)
    (c.in_ok-from_slice.ensures.items ∙ c.as_slice.ensures.value)
    c.in_ok-push.ensures.items
