use Rattle.std.proofs.Common.{◌≡◌, ◌++◌, ℕ, List, codes, string_bytes, ap, sym, ◌∙◌, append_assoc}
use Rattle.dai_dimacs.specs.Reports.{value_words}
use Rattle.dai_dimacs.specs.Talks.{outcome_lines}
use Rattle.dai_dimacs.proofs.outcome.push_outcome.Goals as goal

joined : (a b d e s v z : List ℕ) → b ≡ a ++ s → d ≡ b ++ v → e ≡ d ++ z → e ≡ a ++ (s ++ (v ++ z))
joined a b d e s v z p q r = r ∙ ap (λ xs. xs ++ z) (q ∙ ap (λ xs. xs ++ v) p) ∙ simp append_assoc

pub returns-in_ok-push_str-in-Model-2 : goal.returns-in_ok-push_str-in-Model-2
returns-in_ok-push_str-in-Model-2 c =
    let first = string_bytes c.push_str.new.self in
    let second : string_bytes c.push_values.new.text ≡ first ++ value_words 1 c.in-Model.bits.items =
    c.in_ok-push_values-in-Model.ensures ∙ ap (λ xs. first ++ value_words 1 xs) c.as_slice.ensures.value in
    joined (string_bytes c.args.text.now) first (string_bytes c.push_values.new.text) (string_bytes c.push_str-in-Model.new.self)
    (codes "s SATISFIABLE\nv") (value_words 1 c.in-Model.bits.items) (codes " 0\n")
    c.in_ok-push_str-in-Model.ensures.bytes second c.in_ok-push_str-in-Model-2.ensures.bytes
    ∙ ap (λ outcome. string_bytes c.args.text.now ++ outcome_lines outcome) (sym c.in-Model.is)
