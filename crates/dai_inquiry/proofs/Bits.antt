-- Bits of closed formulas, of clauses and of premises.
use Rattle.std.proofs.Common.{◌≡◌, ◌<◌, ◌≤◌, ℕ, List, length, map, get_or, ap, sym, ◌∙◌, subst, arith, Some}
use Rattle.std.specs.Prelude.{slice_get}
use Rattle.std.proofs.lemmas.Option.{slice_get-get_or}
use Rattle.std.proofs.lemmas.List.{get_or-map, length-map}
use Rattle.dai_model.specs.Formula as Model
use Rattle.dai_model.specs.Protocol.{Protocol}
use Rattle.dai_model.specs.WellSorted.{IsWellSorted, closed_scope}
use Rattle.dai_trail.specs.Formula.{Formula}
use Rattle.dai_circuit.specs.declared.bit.Bit.{Bit}
use Rattle.dai_circuit.specs.declared.bit.Bit.TheVariants.{Known, Is}
use Rattle.dai_circuit.specs.Circuits.{Extends, IsBitBelow}
use Rattle.dai_picture.specs.declared.picture.Frame.{Frame}
use Rattle.dai_picture.specs.declared.picture.Picture.{Picture}
use Rattle.dai_logic.specs.declared.protocol.Formula as Source
use Rattle.dai_logic.specs.Trees.{formula_of}
use Rattle.dai_template.specs.ClauseFormulas.{formula_of_clause}
use Rattle.dai_ground.specs.Findings.{HasValue}
use Rattle.dai_ground.specs.Grounding.{IsValue}
use Rattle.dai_ground.specs.Leaving.{no_binding}
use Rattle.dai_ground.proofs.Restrictions.{closed_value}
use Rattle.dai_inquiry.specs.declared.keys.Key.{Key}
use Rattle.dai_inquiry.specs.declared.truths.Truth.{Truth}
use Rattle.dai_inquiry.specs.declared.truths.Pick.{Pick}
use Rattle.dai_inquiry.specs.Keys.{clause_in, clauses_in}
use Rattle.dai_inquiry.specs.Truths.{IsTruth, AreTruths, IsPick}

pub truth_of : (P : Protocol) (frame : Frame) (picture : Picture) (f : Model.Formula) (g : Formula) (bit : Bit) → IsWellSorted P closed_scope f → HasValue (IsValue P frame picture no_binding f) g bit → IsTruth P frame picture f g bit
truth_of P frame picture f g bit sorted h = record { below = h.below; same = λ bits s met shows. closed_value P frame picture f g bit bits s sorted h met shows }

below_more : (n m : ℕ) (bit : Bit) → n ≤ m → IsBitBelow n bit → IsBitBelow m bit
below_more n m (Known value) grows h = tt
below_more n m (Is l) grows h = omega (arith, h)

pub truth_extended : (P : Protocol) (frame : Frame) (picture : Picture) (f : Model.Formula) (a b : Formula) (bit : Bit) → Extends a b → IsTruth P frame picture f a bit → IsTruth P frame picture f b bit
truth_extended P frame picture f a b bit e h = record { below = below_more a.vars b.vars bit e.grows h.below; same = λ bits s met shows. h.same bits s (e.keeps bits met) shows }

pub truths_extended : (P : Protocol) (frame : Frame) (picture : Picture) (a b : Formula) (truths : List Truth) → Extends a b → AreTruths P frame picture a truths → AreTruths P frame picture b truths
truths_extended P frame picture a b truths e h = λ k d below. truth_extended P frame picture _ a b _ e (h k d below)

pub pick_extended : (P : Protocol) (frame : Frame) (picture : Picture) (premises : List Model.Formula) (a b : Formula) (pick : Pick) → Extends a b → IsPick P frame picture premises a pick → IsPick P frame picture premises b pick
pick_extended P frame picture premises a b pick e h = record { inside = h.inside; truth = λ f at. truth_extended P frame picture f a b pick.bit e (h.truth f at) }

-- the premise of this number is the clause of its key
pub pick_of : (P : Protocol) (frame : Frame) (picture : Picture) (premises : List Model.Formula) (g : Formula) (keys : List Key) (number : ℕ) (key : Key) (bit : Bit) → premises ≡ map (formula_of_clause P) (clauses_in keys) → number < length keys → key ≡ get_or keys number key → IsTruth P frame picture (formula_of_clause P (clause_in key)) g bit → IsPick P frame picture premises g (record { number = number; bit = bit })
pick_of P frame picture premises g keys number key bit are below is h =
    let many = length-map keys clause_in in
    let clauses = clauses_in keys in
    let all = length-map clauses (formula_of_clause P) in
    let long = ap (λ (fs : List Model.Formula). length fs) are in
    let within : number < length clauses = omega arith in
    let inside : number < length premises = omega arith in
    let f = formula_of_clause P (clause_in key) in
    let own : get_or (map (formula_of_clause P) clauses) number f ≡ f =
    get_or-map (formula_of_clause P) clauses number (clause_in key) f within ∙ ap (formula_of_clause P) (get_or-map clause_in keys number key (clause_in key) below ∙ ap clause_in (sym is)) in
    let here : slice_get premises number ≡ Some f = slice_get-get_or premises number f inside ∙ ap Some (ap (λ fs. get_or fs number f) are ∙ own) in
    record {
      inside = inside;
      truth = λ other at.
          let both : Some f ≡ Some other = sym here ∙ at in
          let same : f ≡ other = cc in
          subst (λ w. IsTruth P frame picture w g bit) same h;
    }

-- the premise of this number is the formula of its key's clause
pub premise_key : (P : Protocol) (fs : List Source.Formula) (keys : List Key) (number : ℕ) (f : Source.Formula) (key : Key) → map formula_of fs ≡ map (formula_of_clause P) (clauses_in keys) → number < length fs → f ≡ get_or fs number f → key ≡ get_or keys number key → (number < length keys) × (formula_of f ≡ formula_of_clause P (clause_in key))
premise_key P fs keys number f key are below is at =
    let many = length-map fs formula_of in
    let all = length-map keys clause_in in
    let clauses = clauses_in keys in
    let more = length-map clauses (formula_of_clause P) in
    let long = ap (λ (gs : List Model.Formula). length gs) are in
    let inside : number < length keys = omega arith in
    let within : number < length clauses = omega arith in
    let d = formula_of f in
    let first : get_or (map formula_of fs) number d ≡ d = get_or-map formula_of fs number f d below ∙ ap formula_of (sym is) in
    let second : get_or (map (formula_of_clause P) clauses) number d ≡ formula_of_clause P (clause_in key) =
    get_or-map (formula_of_clause P) clauses number (clause_in key) d within ∙ ap (formula_of_clause P) (get_or-map clause_in keys number key (clause_in key) inside ∙ ap clause_in (sym at)) in
    (inside, sym first ∙ (ap (λ gs. get_or gs number d) are ∙ second))

-- there are as many keys as premises
pub keys_enough : (P : Protocol) (fs : List Source.Formula) (keys : List Key) (number : ℕ) → map formula_of fs ≡ map (formula_of_clause P) (clauses_in keys) → number < length fs → number < length keys
keys_enough P fs keys number are below =
    let many = length-map fs formula_of in
    let all = length-map keys clause_in in
    let more = length-map (clauses_in keys) (formula_of_clause P) in
    let long = ap (λ (gs : List Model.Formula). length gs) are in
    omega (arith, below)
