-- What the judge knows after one step and the next.
use Rattle.std.proofs.Common.{◌≡◌, ℕ, ◌||◌, List, [], ◌∷◌, ◌++◌, Option, ap, sym, ◌∙◌, refl, append_assoc}
use Rattle.std.specs.List.{flat_map, list_any}
use Rattle.std.proofs.lemmas.Grind.{flat_map-append}
use Rattle.dai_syntax.specs.declared.tree.Arg.{Arg}
use Rattle.dai_syntax.specs.declared.tree.Arg.TheVariants.{Variable, Symbol}
use Rattle.dai_rules.specs.declared.first.Fault.{Fault}
use Rattle.dai_rules.specs.Names.{same_text, is_among}
use Rattle.dai_rules.specs.Naming.{Naming}
use Rattle.dai_rules.specs.Sites.{Site, Output, nothing, both, variable_names}
use Rattle.dai_rules.specs.Rules.{is_variable_of}
use Rattle.dai_rules.specs.First.{noting, noting_all, faults_at, judged}
use Rattle.dai_rules.specs.Views.{View, given, seen}
use Rattle.dai_rules.proofs.Lists.{append_nil}

pub noting_all-append : (first : Option Fault) (xs ys : List Fault) → noting_all first (xs ++ ys) ≡ noting_all (noting_all first xs) ys
noting_all-append first [] ys = refl
noting_all-append first (x ∷ xs) ys = noting_all-append (noting first x) xs ys

pub judged-append : (first : Option Fault) (a b : List Site) → judged first (a ++ b) ≡ judged (judged first a) b
judged-append first a b = ap (noting_all first) (flat_map-append faults_at a b) ∙ noting_all-append first (flat_map faults_at a) (flat_map faults_at b)

-- a view is given by its parts
pub view_by : (v w : View) → v.context ≡ w.context → v.locals ≡ w.locals → v.naming ≡ w.naming → v.uses ≡ w.uses → v.orderings ≡ w.orderings → v.existentials ≡ w.existentials → v.witnesses ≡ w.witnesses → v.first ≡ w.first → v ≡ w
view_by v w a b c d e f g h = λ i. record { context = a i; locals = b i; naming = c i; uses = d i; orderings = e i; existentials = f i; witnesses = g i; first = h i }

pub given-given : (v : View) (a b : Output) (n m : Naming) → given (given v a n) b m ≡ given v (both a b) m
given-given v a b n m = view_by _ _ refl refl refl (append_assoc v.uses a.uses b.uses) (append_assoc v.orderings a.orderings b.orderings) (append_assoc v.existentials a.existentials b.existentials) (append_assoc v.witnesses a.witnesses b.witnesses) (sym (judged-append v.first a.sites b.sites))

pub given-nothing : (v : View) → given v nothing v.naming ≡ v
given-nothing v = view_by _ _ refl refl refl (append_nil v.uses) (append_nil v.orderings) (append_nil v.existentials) (append_nil v.witnesses) refl

pub seen-seen : (v : View) (a b : List Site) → seen (seen v a) b ≡ seen v (a ++ b)
seen-seen v a b = view_by _ _ refl refl refl refl refl refl refl (sym (judged-append v.first a b))

pub seen-given : (v : View) (sites : List Site) → seen v sites ≡ given v (record nothing { sites = sites }) v.naming
seen-given v sites = view_by _ _ refl refl refl (sym (append_nil v.uses)) (sym (append_nil v.orderings)) (sym (append_nil v.existentials)) (sym (append_nil v.witnesses)) refl

-- the variables among arguments, by their names
pub variables_among : (x : List ℕ) (args : List Arg) → list_any (is_variable_of x) args ≡ is_among x (variable_names args)
variables_among x [] = refl
variables_among x (Variable name type ∷ args) = ap (λ b. same_text x name.text || b) (variables_among x args)
variables_among x (Symbol name ∷ args) = variables_among x args
