use Rattle.std.proofs.Common.{◌≡◌, ◌<◌, ◌≤◌, ◌+◌, ◌++◌, ◌∷◌, [], ℕ, Bool, List, Result, Ok, Err, length, sym, subst, arith}
use Rattle.std.specs.Result.{OnOk, OnErr}
use Rattle.std.proofs.lemmas.List.{get_or_append_left, length_push}
use Rattle.dai_trail.specs.declared.cnf.Lit.{Lit}
use Rattle.dai_trail.specs.declared.trail.Trail.{Trail}
use Rattle.dai_trail.specs.declared.marks.Marks.{Marks}
use Rattle.dai_trail.specs.Formula.{Formula, AreMetBy, IsMetBy, formula_of}
use Rattle.dai_sat.specs.Under.{IsReady}

-- what holds of a formula's solver holds of that of a formula whose models meet the first one
pub ready_more : (f g : Formula) (db : List (List ℕ)) (t : Trail) (m : Marks) (refuted : Bool) → ((bits : List Bool) → AreMetBy g bits → AreMetBy f bits) → f.vars ≤ g.vars → IsReady f db t m refuted → IsReady g db t m refuted
ready_more f g db t m refuted meets le r = record {
  sound = record {
    trail = r.sound.trail;
    forced = record { entails = λ bits model. r.sound.forced.entails bits (meets bits model) };
    implied = record { implies = λ bits model. r.sound.implied.implies bits (meets bits model) };
  };
  stamps = r.stamps;
  room = let room = r.room in omega arith;
  none = λ yes bits model. r.none yes bits (meets bits model);
}

pub ready_grow : (f : Formula) (db : List (List ℕ)) (t : Trail) (m : Marks) (refuted : Bool) → IsReady f db t m refuted → IsReady (formula_of (f.vars + 1) f.clauses) db t m refuted
ready_grow f db t m refuted r = ready_more f (formula_of (f.vars + 1) f.clauses) db t m refuted (λ bits model. model) (omega arith) r

met_front : (f : Formula) (lits : List Lit) (bits : List Bool) → AreMetBy (formula_of f.vars (f.clauses ++ lits ∷ [])) bits → AreMetBy f bits
met_front f lits bits model = λ k d l.
    let len = length_push f.clauses lits in
    let l' : k < length (f.clauses ++ lits ∷ []) = omega arith in
    let P : List Lit → Type 0 = λ clause. IsMetBy clause bits in
    subst P (get_or_append_left f.clauses (lits ∷ []) d k l) (model k d l')

pub ready_add : {E : Type 0} (f g : Formula) (db : List (List ℕ)) (t : Trail) (m : Marks) (refuted : Bool) (lits : List Lit) (r : Result (Unit {0}) E) → OnOk r (g ≡ formula_of f.vars (f.clauses ++ lits ∷ [])) → OnErr r (g ≡ f) → IsReady f db t m refuted → IsReady g db t m refuted
ready_add f g db t m refuted lits (Ok u) e same r =
    let P : Formula → Type 0 = λ h. IsReady h db t m refuted in
    subst P (sym e) (ready_more f (formula_of f.vars (f.clauses ++ lits ∷ [])) db t m refuted (met_front f lits) (omega arith) r)
ready_add f g db t m refuted lits (Err u) e same r =
    let P : Formula → Type 0 = λ h. IsReady h db t m refuted in
    subst P (sym same) r
