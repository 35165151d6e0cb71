-- Choosing between bits, and between rows.
use Rattle.std.proofs.Common.{◌≡◌, ◌+◌, ◌<◌, ◌≤◌, ◌&&◌, ◌||◌, ℕ, suc, Bool, true, false, not, List, [], ◌∷◌, ◌++◌, length, get_or, take, map, refl, ap, sym, ◌∙◌, subst, arith, Result, Ok, Err, Vec, Global}
use Rattle.std.specs.Prelude.{if◌then◌else◌}
use Rattle.std.proofs.lemmas.List.{map-append, take_more, length-map, get_or-map}
use Rattle.std.proofs.lemmas.List.Elements.{All-push}
use Rattle.dai_base.specs.declared.memory.Spent.{Spent}
use Rattle.dai_trail.specs.Formula.{Formula}
use Rattle.dai_circuit.specs.declared.bit.Bit.{Bit}
use Rattle.dai_circuit.specs.declared.bit.Bit.TheVariants.{Known}
use Rattle.dai_circuit.specs.Circuits.{bit_value, negation_of, IsBitBelow, AreBitsBelow, Extends, IsBitFor, Defines, all_value, any_value}
use Rattle.dai_circuit.proofs.Values.{value-negation}
use Rattle.dai_circuit.proofs.Extensions.{defines_old}
use Rattle.dai_picture.specs.declared.picture.Picture.{Picture}
use Rattle.dai_ground.specs.Choosing.{choice_value, row_values, IsChosenRow, AreChosenRows, IsChosenPicture, AreAlike, lists_of}
use Rattle.dai_ground.proofs.Findings.{extends_after, all_below_more}

-- by two implications
implications : (c a b : Bool) → ((c && (a && true)) || ((not c && (b && true)) || false)) ≡ (if c then a else b)
implications true true b = refl
implications true false b = refl
implications false a true = refl
implications false a false = refl

pub choose_defines : (old a b new : Formula) (condition other first second met unmet : Bit) (result : Result Bit Spent) → other ≡ negation_of condition → Extends old a → IsBitFor a (all_value (condition ∷ first ∷ [])) met → Extends a b → IsBitFor b (all_value (other ∷ second ∷ [])) unmet → Defines b new result (any_value (met ∷ unmet ∷ [])) → Defines old new result (choice_value condition first second)
choose_defines old a b new condition other first second met unmet (Err x) is e f g h d = record { extends = extends_after old b new (extends_after old a b e g) d.extends; answer = d.answer }
choose_defines old a b new condition other first second met unmet (Ok bit) is e f g h d = record {
  extends = extends_after old b new (extends_after old a b e g) d.extends;
  answer = record {
    below = d.answer.below;
    same = λ bits m.
        let n = d.extends.keeps bits m in
        let left = f.same bits (g.keeps bits n) in
        let right = h.same bits n ∙ ap (λ v. v && (bit_value bits second && true)) (ap (bit_value bits) is ∙ value-negation bits condition) in
        d.answer.same bits m ∙ ((λ i. left i || (right i || false)) ∙ implications (bit_value bits condition) (bit_value bits first) (bit_value bits second));
  };
}

same_either : (c v : Bool) → v ≡ (if c then v else v)
same_either true v = refl
same_either false v = refl

-- where both are the same, and where the condition is known
pub choose_same : (f : Formula) (condition first second : Bit) → first ≡ second → IsBitBelow f.vars first → Defines f f (Ok first) (choice_value condition first second)
choose_same f condition first second e below =
    defines_old f first (choice_value condition first second) below (λ bits. same_either (bit_value bits condition) (bit_value bits first) ∙ ap (λ v. if bit_value bits condition then bit_value bits first else v) (ap (bit_value bits) e))

pub choose_first : (f : Formula) (condition first second : Bit) → condition ≡ Known true → IsBitBelow f.vars first → Defines f f (Ok first) (choice_value condition first second)
choose_first f condition first second e below =
    defines_old f first (choice_value condition first second) below (λ bits. ap (λ c. if bit_value bits c then bit_value bits first else bit_value bits second) (sym e))

pub choose_second : (f : Formula) (condition first second : Bit) → condition ≡ Known false → IsBitBelow f.vars second → Defines f f (Ok second) (choice_value condition first second)
choose_second f condition first second e below =
    defines_old f second (choice_value condition first second) below (λ bits. ap (λ c. if bit_value bits c then bit_value bits first else bit_value bits second) (sym e))

-- rows so far
pub chosen_none : (f : Formula) (condition : Bit) → IsChosenRow f condition [] [] []
chosen_none f condition = record { long = refl; below = λ k d l. absurd (omega arith); same = λ bits met. same_either (bit_value bits condition) [] }
  where
    same_either : (c : Bool) (v : List Bool) → v ≡ (if c then v else v)
    same_either true v = refl
    same_either false v = refl

pub chosen_kept : (f g : Formula) (condition : Bit) (first second row : List Bit) → Extends f g → IsChosenRow f condition first second row → IsChosenRow g condition first second row
chosen_kept f g condition first second row e h = record { long = h.long; below = all_below_more f.vars g.vars row e.grows h.below; same = λ bits met. h.same bits (e.keeps bits met) }

either_pushed : (c : Bool) (front back : List Bool) (a b : Bool) → (if c then front else back) ++ (if c then a else b) ∷ [] ≡ (if c then front ++ a ∷ [] else back ++ b ∷ [])
either_pushed true front back a b = refl
either_pushed false front back a b = refl

both : {A : Type 0} (c : Bool) (a b x y : A) → a ≡ x → b ≡ y → (if c then a else b) ≡ (if c then x else y)
both true a b x y e g = e
both false a b x y e g = g

pushed_long : {A : Type 0} (xs ys : List A) (x y : A) → length xs ≡ length ys → length (xs ++ x ∷ []) ≡ length (ys ++ y ∷ [])
pushed_long [] [] x y e = refl
pushed_long [] (b ∷ ys) x y e = absurd (omega arith)
pushed_long (a ∷ xs) [] x y e = absurd (omega arith)
pushed_long (a ∷ xs) (b ∷ ys) x y e = ap suc (pushed_long xs ys x y (omega arith))

pub chosen_push : (f : Formula) (condition a b bit : Bit) (first second row : List Bit) → IsChosenRow f condition first second row → IsBitFor f (choice_value condition a b) bit → IsChosenRow f condition (first ++ a ∷ []) (second ++ b ∷ []) (row ++ bit ∷ [])
chosen_push f condition a b bit first second row h d = record {
  long = pushed_long row first bit a h.long;
  below = All-push (IsBitBelow f.vars) row bit h.below d.below;
  same = λ bits met.
      let c = bit_value bits condition in
      map-append (bit_value bits) row (bit ∷ [])
      ∙ ((λ i. h.same bits met i ++ d.same bits met i ∷ [])
      ∙ (either_pushed c (row_values bits first) (row_values bits second) (bit_value bits a) (bit_value bits b)
      ∙ both c (row_values bits first ++ bit_value bits a ∷ []) (row_values bits second ++ bit_value bits b ∷ []) (row_values bits (first ++ a ∷ [])) (row_values bits (second ++ b ∷ [])) (sym (map-append (bit_value bits) first (a ∷ []))) (sym (map-append (bit_value bits) second (b ∷ [])))));
}

pub chosen_more : (f : Formula) (condition bit d e : Bit) (first second row : List Bit) (i : ℕ) → i < length first → i < length second → IsChosenRow f condition (take i first) (take i second) row → IsBitFor f (choice_value condition (get_or first i d) (get_or second i e)) bit → IsChosenRow f condition (take (i + 1) first) (take (i + 1) second) (row ++ bit ∷ [])
chosen_more f condition bit d e first second row i in_first in_second h b =
    subst (λ xs. IsChosenRow f condition xs (take (i + 1) second) (row ++ bit ∷ [])) (sym (take_more first i d in_first))
    (subst (λ ys. IsChosenRow f condition (take i first ++ get_or first i d ∷ []) ys (row ++ bit ∷ [])) (sym (take_more second i e in_second))
    (chosen_push f condition (get_or first i d) (get_or second i e) bit (take i first) (take i second) row h b))

-- rows of rows so far
pub chosen_rows_none : (f : Formula) (condition : Bit) → AreChosenRows f condition [] [] []
chosen_rows_none f condition = record { long = refl; below = λ k d l. absurd (omega arith); same = λ bits met. same_either (bit_value bits condition) [] }
  where
    same_either : (c : Bool) (v : List (List Bool)) → v ≡ (if c then v else v)
    same_either true v = refl
    same_either false v = refl

pub chosen_rows_kept : (f g : Formula) (condition : Bit) (first second rows : List (List Bit)) → Extends f g → AreChosenRows f condition first second rows → AreChosenRows g condition first second rows
chosen_rows_kept f g condition first second rows e h = record { long = h.long; below = λ k d l. all_below_more f.vars g.vars _ e.grows (h.below k d l); same = λ bits met. h.same bits (e.keeps bits met) }

either_rows : (c : Bool) (front back : List (List Bool)) (a b : List Bool) → (if c then front else back) ++ (if c then a else b) ∷ [] ≡ (if c then front ++ a ∷ [] else back ++ b ∷ [])
either_rows true front back a b = refl
either_rows false front back a b = refl

pub chosen_rows_push : (f : Formula) (condition : Bit) (a b row : List Bit) (first second rows : List (List Bit)) → AreChosenRows f condition first second rows → IsChosenRow f condition a b row → AreChosenRows f condition (first ++ a ∷ []) (second ++ b ∷ []) (rows ++ row ∷ [])
chosen_rows_push f condition a b row first second rows h d = record {
  long = map-append (λ (r : List Bit). length r) rows (row ∷ []) ∙ ((λ i. h.long i ++ d.long i ∷ []) ∙ sym (map-append (λ (r : List Bit). length r) first (a ∷ [])));
  below = All-push (AreBitsBelow f.vars) rows row h.below d.below;
  same = λ bits met.
      let c = bit_value bits condition in
      map-append (row_values bits) rows (row ∷ [])
      ∙ ((λ i. h.same bits met i ++ d.same bits met i ∷ [])
      ∙ (either_rows c (map (row_values bits) first) (map (row_values bits) second) (row_values bits a) (row_values bits b)
      ∙ both c (map (row_values bits) first ++ row_values bits a ∷ []) (map (row_values bits) second ++ row_values bits b ∷ []) (map (row_values bits) (first ++ a ∷ [])) (map (row_values bits) (second ++ b ∷ [])) (sym (map-append (row_values bits) first (a ∷ []))) (sym (map-append (row_values bits) second (b ∷ [])))));
}

pub chosen_rows_more : (f : Formula) (condition : Bit) (row d e : List Bit) (first second rows : List (List Bit)) (i : ℕ) → i < length first → i < length second → AreChosenRows f condition (take i first) (take i second) rows → IsChosenRow f condition (get_or first i d) (get_or second i e) row → AreChosenRows f condition (take (i + 1) first) (take (i + 1) second) (rows ++ row ∷ [])
chosen_rows_more f condition row d e first second rows i in_first in_second h b =
    subst (λ xs. AreChosenRows f condition xs (take (i + 1) second) (rows ++ row ∷ [])) (sym (take_more first i d in_first))
    (subst (λ ys. AreChosenRows f condition (take i first ++ get_or first i d ∷ []) ys (rows ++ row ∷ [])) (sym (take_more second i e in_second))
    (chosen_rows_push f condition (get_or first i d) (get_or second i e) row (take i first) (take i second) rows h b))

-- rows at the same place of rows that are alike
pub record IsAlikeAt (count : ℕ) (first second : List (List Bit)) (i : ℕ) : Type 0 where
  pub in_second : i < length second
  pub long : length (get_or first i []) ≡ length (get_or second i [])
  pub first_below : AreBitsBelow count (get_or first i [])
  pub second_below : AreBitsBelow count (get_or second i [])

pub alike_at : (m n : ℕ) (first second : List (List Bit)) (i : ℕ) → m ≤ n → i < length first → AreAlike m first second → IsAlikeAt n first second i
alike_at m n first second i le below h =
    let many = sym (length-map first (λ (r : List Bit). length r)) ∙ (ap length h.long ∙ length-map second (λ (r : List Bit). length r)) in
    let in_second : i < length second = omega arith in
    record {
      in_second = in_second;
      long = sym (get_or-map (λ (r : List Bit). length r) first i [] 0 below) ∙ (ap (λ (ns : List ℕ). get_or ns i 0) h.long ∙ get_or-map (λ (r : List Bit). length r) second i [] 0 in_second);
      first_below = all_below_more m n _ le (h.first_below i [] below);
      second_below = all_below_more m n _ le (h.second_below i [] in_second);
    }

pub lists_length : (rows : List (Vec Bit Global)) → length (lists_of rows) ≡ length rows
lists_length rows = length-map rows (λ (row : Vec Bit Global). row.items)

pub lists_push : (rows : List (Vec Bit Global)) (row : Vec Bit Global) → lists_of (rows ++ row ∷ []) ≡ lists_of rows ++ row.items ∷ []
lists_push rows row = map-append (λ (r : Vec Bit Global). r.items) rows (row ∷ [])

pub chosen_picture_kept : (f g : Formula) (condition : Bit) (first second picture : Picture) → Extends f g → IsChosenPicture f condition first second picture → IsChosenPicture g condition first second picture
chosen_picture_kept f g condition first second picture e h = record { tables = chosen_rows_kept f g condition _ _ _ e h.tables; values = chosen_rows_kept f g condition _ _ _ e h.values }
