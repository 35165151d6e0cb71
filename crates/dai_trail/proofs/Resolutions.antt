use Rattle.std.proofs.Common.{◌≡◌, ◌<◌, ◌/◌, ◌%◌, ◌⊎◌, ℕ, Bool, Option, Some, None, Result, Ok, Err, List, [], ◌∷◌, ◌++◌, length, get_or, refl, ap, sym, ◌∙◌, subst, arith, inl, inr}
use Rattle.std.specs.Bool.{IsTrue}
use Rattle.std.specs.Result.{IfOk, OnOk}
use Rattle.std.specs.Option.{IfNone}
use Rattle.std.proofs.lemmas.Bool.{cases_eq}
use Rattle.std.proofs.lemmas.List.{get_or_append_left, get_or_push, length_push}
use Rattle.dai_trail.specs.declared.trail.Trail.{Trail}
use Rattle.dai_trail.specs.declared.marks.Marks.{Marks}
use Rattle.dai_trail.specs.Formula.{Formula, AreMetBy, value_at}
use Rattle.dai_trail.specs.Codes.{digit, Agrees}
use Rattle.dai_trail.specs.Trail.{value_in, code_at, place_of, IsFalseIn, IsTrail, IsForced}
use Rattle.dai_trail.specs.Marks.{IsMarked, MarksMore, Unmarks, Names, AreListed, IsCovered, IsRedundantAt, IsImplied, AgreesWithAll, MarksRefute}
use Rattle.dai_trail.proofs.Forces.{denied, lost_place, agrees_at}

-- a fact of a result gives another
pub ok_map : {V E A B : Type 0} (r : Result V E) → OnOk r A → (A → B) → OnOk r B
ok_map (Ok b) p f = f p
ok_map (Err e) p f = tt

pub if_ok_map : {V E : Type 0} (P Q : V → Type 0) (r : Result V E) → IfOk r P → ((v : V) → P v → Q v) → IfOk r Q
if_ok_map P Q (Ok b) p f = f b p
if_ok_map P Q (Err e) p f = tt

pub none_map : {V P Q : Type 0} (r : Option V) → IfNone r P → (P → Q) → IfNone r Q
none_map None p f = f p
none_map (Some v) p f = tt

-- four facts of one result
pub all_ok : {E A B C D G : Type 0} (r : Result Bool E) → OnOk r A → OnOk r B → OnOk r C → IfOk r (λ b. IsTrue b → D) → (A → B → C → D → G) → IfOk r (λ b. IsTrue b → G)
all_ok (Ok b) p q s d f = λ h. f p q s (d h)
all_ok (Err e) p q s d f = tt

-- the models that make the marked literals of the trail true
abbrev pub AgreesWithMarks : List Bool → Trail → Marks → Type 0
AgreesWithMarks bits t m = (i : ℕ) → i < t.len → IsMarked m (code_at t i / 2) → Agrees bits (code_at t i)

-- they make a covered literal false
pub covered_denied : (f : Formula) (t : Trail) (m : Marks) (code : ℕ) (bits : List Bool) → IsTrail t → IsForced f t → IsCovered t m code → AreMetBy f bits → AgreesWithMarks bits t m → Agrees bits code → ⊥
covered_denied f t m code bits trail forced covered model agree b =
    let l = lost_place t code trail.mirror covered.0 in
    elim covered.1 [
      | inl marked ↦
          let lost = covered.0 in
          let small : value_in t (code / 2) < 2 = omega arith in
          let n = trail.mirror.named (code / 2) small in
          let e : code / 2 ≡ code_at t (place_of t (code / 2)) / 2 = omega arith in
          let P : ℕ → Type 0 = λ v. IsMarked m v in
          denied t code bits trail.mirror covered.0 (agree (place_of t (code / 2)) l (subst P e marked)) b
      | inr root ↦
          let a = forced.entails bits model t.root trail.root_in (λ i il is. absurd (trail.root_forced i il is)) (place_of t (code / 2)) root in
          denied t code bits trail.mirror covered.0 a b
    ]

-- after the literals of a false clause were marked
pub marks_begin : (f : Formula) (t : Trail) (m : Marks) (codes : List ℕ) (apart : Option ℕ) → apart ≡ None → IsTrail t → IsForced f t → IsImplied f codes → ((k : ℕ) → k < length codes → (apart ≡ Some (get_or codes k 0)) ⊎ IsCovered t m (get_or codes k 0)) → MarksRefute f t m
marks_begin f t m codes apart none trail forced implied covered = record {
  refutes = λ bits model named agree. implied.implies bits model (λ k kl b.
      elim (covered k kl) [
        | inl e ↦ cc
        | inr cov ↦ covered_denied f t m (get_or codes k 0) bits trail forced cov model agree b
      ]);
}

-- after a literal was replaced by the others of its reason
pub marks_resolve : (f : Formula) (t : Trail) (m0 m1 m2 : Marks) (codes : List ℕ) (place code : ℕ) → IsTrail t → IsForced f t → IsImplied f codes → MarksRefute f t m0 → Unmarks m0 m1 (code / 2) → MarksMore m1 m2 → place < t.len → code ≡ code_at t place → ((k : ℕ) → k < length codes → (Some code ≡ Some (get_or codes k 0)) ⊎ IsCovered t m2 (get_or codes k 0)) → MarksRefute f t m2
marks_resolve f t m0 m1 m2 codes place code trail forced implied refute unmarks more within here covered = record {
  refutes = λ bits model named agree.
      let follows : Agrees bits code = elim (cases_eq (digit (value_at bits (code / 2))) (code % 2)) [
        | inl same ↦ same
        | inr differs ↦ absurd (implied.implies bits model (λ k kl b.
            elim (covered k kl) [
              | inl e ↦ let e' : get_or codes k 0 ≡ code = cc in differs (agrees_at bits (get_or codes k 0) code e' b)
              | inr cov ↦ covered_denied f t m2 (get_or codes k 0) bits trail forced cov model agree b
            ]))
      ] in
      let P : List ℕ → Type 0 = λ names. AgreesWithAll bits names in
      refute.refutes bits model (subst P (more.named ∙ unmarks.named) named) (λ i il marked.
      elim (cases_eq (code_at t i / 2) (code / 2)) [
        | inl e ↦
            let p = trail.mirror.entered i il in
            let q = trail.mirror.entered place within in
            let same : code_at t i / 2 ≡ code_at t place / 2 = e ∙ ap (λ c. c / 2) here in
            let at : i ≡ place = sym p ∙ ap (λ v. place_of t v) same ∙ q in
            agrees_at bits code (code_at t i) (here ∙ ap (λ i. code_at t i) (sym at)) follows
        | inr n ↦ agree i il (more.more (code_at t i / 2) (unmarks.others (code_at t i / 2) n marked))
      ]);
}

-- after the mark of a literal was taken away that follows from the other marked ones
pub marks_drop : (f : Formula) (t : Trail) (m0 m1 : Marks) (place code : ℕ) → IsTrail t → IsForced f t → MarksRefute f t m0 → IsRedundantAt f t m0 place → Unmarks m0 m1 (code / 2) → place < t.len → code ≡ code_at t place → MarksRefute f t m1
marks_drop f t m0 m1 place code trail forced refute red unmarks within here =
    let more : MarksMore m1 m1 = record { more = λ var h. h; named = refl } in
    marks_resolve f t m0 m1 m1 red.codes place code trail forced red.implied refute unmarks more within here
    (λ k kl.
    elim (red.covers k kl) [
      | inl e ↦ inl (ap (λ x. Some x) (here ∙ sym e))
      | inr c ↦
          inr (
            c.covered.0,
            elim c.covered.1 [
              | inl marked ↦ inl (unmarks.others (get_or red.codes k 0 / 2) (λ e. c.other (e ∙ ap (λ x. x / 2) here)) marked)
              | inr root ↦ inr root
            ],
          )
    ])

-- after a literal of the trail was named
pub marks_name : (f : Formula) (t : Trail) (m0 m1 : Marks) (place code : ℕ) → IsTrail t → MarksRefute f t m0 → Names m0 m1 code → place < t.len → code ≡ code_at t place → MarksRefute f t m1
marks_name f t m0 m1 place code trail refute names within here = record {
  refutes = λ bits model named agree.
      let P : List ℕ → Type 0 = λ xs. AgreesWithAll bits xs in
      let all = subst P names.named named in
      let len = length_push m0.named.items code in
      let last : length m0.named.items < length (m0.named.items ++ code ∷ []) = omega arith in
      let agreed : Agrees bits code = agrees_at bits (get_or (m0.named.items ++ code ∷ []) (length m0.named.items) 0) code (get_or_push m0.named.items code 0 (length m0.named.items) refl) (all (length m0.named.items) last) in
      refute.refutes bits model
      (λ k kl.
      let kl' : k < length (m0.named.items ++ code ∷ []) = omega arith in
      agrees_at bits (get_or (m0.named.items ++ code ∷ []) k 0) (get_or m0.named.items k 0) (get_or_append_left m0.named.items (code ∷ []) 0 k kl) (all k kl'))
      (λ i il marked.
      elim (cases_eq (code_at t i / 2) (code / 2)) [
        | inl e ↦
            let p = trail.mirror.entered i il in
            let q = trail.mirror.entered place within in
            let same : code_at t i / 2 ≡ code_at t place / 2 = e ∙ ap (λ c. c / 2) here in
            let at : i ≡ place = sym p ∙ ap (λ v. place_of t v) same ∙ q in
            agrees_at bits code (code_at t i) (here ∙ ap (λ i. code_at t i) (sym at)) agreed
        | inr n ↦ agree i il (names.others (code_at t i / 2) n marked)
      ]);
}

-- after a false literal was named and covered
pub marks_fail : (f : Formula) (t : Trail) (m : Marks) (code : ℕ) → IsTrail t → IsForced f t → m.named.items ≡ code ∷ [] → IsCovered t m code → MarksRefute f t m
marks_fail f t m code trail forced names covered = record {
  refutes = λ bits model named agree.
      let P : List ℕ → Type 0 = λ xs. AgreesWithAll bits xs in
      let l : 0 < length (code ∷ []) = omega arith in
      covered_denied f t m code bits trail forced covered model agree (subst P names named 0 l);
}

-- what is marked yet was listed
pub marks_listed : (t : Trail) (m0 m1 : Marks) (var : ℕ) → AreListed m0 t → Unmarks m0 m1 var → AreListed m1 t
marks_listed t m0 m1 var listed unmarks = record {
  listed = λ u marked.
      let P : List ℕ → Type 0 = λ xs. (k : ℕ) × (k < length xs) × (get_or xs k 0 / 2 ≡ u) × IsFalseIn t (get_or xs k 0) in
      subst P (sym unmarks.marked) (listed.listed u (unmarks.fewer u marked));
}

pub names_listed : (t : Trail) (m0 m1 : Marks) (code : ℕ) → AreListed m0 t → Names m0 m1 code → AreListed m1 t
names_listed t m0 m1 code listed names = record {
  listed = λ u marked.
      let P : List ℕ → Type 0 = λ xs. (k : ℕ) × (k < length xs) × (get_or xs k 0 / 2 ≡ u) × IsFalseIn t (get_or xs k 0) in
      subst P (sym names.marked) (listed.listed u (names.fewer u marked));
}
