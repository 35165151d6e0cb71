-- Where no rule is broken, there is room for what is counted.
use Rattle.std.proofs.Common.{◌≡◌, ℕ, zero, suc, ◌+◌, ◌-◌, ◌<◌, ◌≤◌, List, [], ◌∷◌, ◌++◌, length, refl, arith, length-append}
use Rattle.dai_syntax.specs.declared.tree.Binder.{Binder}
use Rattle.dai_syntax.specs.Tree.{Statement, requirement, assignment, conditional, with_locals, Statements, no_statements, with_statement, Declaration}
use Rattle.dai_rules.specs.Names.{Context, with_inside, type_of}
use Rattle.dai_rules.specs.Sites.{Site, local_at, counted_at, type_at, as_value, Room, sentence_sites, locals_sites, relation_sites, statement_sites, statements_sites, room_after, room_after_each}
use Rattle.dai_rules.specs.Rules.{breaks_42}
use Rattle.dai_rules.proofs.Members.{in_head}
use Rattle.dai_sorts.specs.Statements.{locals_of, locals_in}
use Rattle.dai_sorts.specs.Sound.{AreUnbroken}
use Rattle.dai_sorts.proofs.Unbroken.{unbroken_left, unbroken_right, unbroken_tail, unbroken_behind}

-- one more may come
pub is_room : (room at : ℕ) (ss : List Site) → AreUnbroken (counted_at room at ∷ ss) → 0 < room
is_room zero at ss u = absurd (u (counted_at 0 at) (in_head (counted_at 0 at) ss) 42 at (breaks_42 refl (in_head at [])))
is_room (suc room) at ss u = omega arith

pub locals_room : (ctx : Context) (room : ℕ) (bs : List Binder) → AreUnbroken (locals_sites ctx room bs) → length bs ≤ room
locals_room ctx room [] u = omega arith
locals_room ctx room (b ∷ bs) u =
    let local = local_at ctx b.name in
    let counted = counted_at room b.name.at in
    let type = type_at ctx.declarations (type_of b) in
    let next = locals_sites (with_inside ctx (ctx.inside ++ b ∷ [])) (room - 1) bs in
    let here : 0 < room = is_room room b.name.at (type ∷ next) (unbroken_tail local (counted ∷ type ∷ next) u) in
    let rest : length bs ≤ room - 1 = locals_room (with_inside ctx (ctx.inside ++ b ∷ [])) (room - 1) bs (unbroken_behind counted type next (unbroken_tail local (counted ∷ type ∷ next) u)) in
    omega arith

pub relation_room : (ds : List Declaration) (room : ℕ) (bs : List Binder) → AreUnbroken (relation_sites ds room bs) → length bs ≤ room
relation_room ds room [] u = omega arith
relation_room ds room (b ∷ bs) u =
    let counted = counted_at room b.name.at in
    let type = type_at ds (type_of b) in
    let next = relation_sites ds (room - 1) bs in
    let here : 0 < room = is_room room b.name.at (type ∷ next) u in
    let rest : length bs ≤ room - 1 = relation_room ds (room - 1) bs (unbroken_behind counted type next u) in
    omega arith

mutual
  pub statement_room : (ctx : Context) (room : Room) (s : Statement) → AreUnbroken (statement_sites ctx room s) → length (locals_of s) + (room_after ctx room s).locals ≡ room.locals
  statement_room ctx room (requirement f) u = omega arith
  statement_room ctx room (assignment name args f) u = omega arith
  statement_room ctx room (conditional f first second) u =
      let condition = sentence_sites ctx (as_value []) f in
      let middle = room_after_each ctx room first in
      let one = statements_sites ctx room first in
      let two = statements_sites ctx middle second in
      let rest = unbroken_right condition (one ++ two) u in
      let a : length (locals_in first) + middle.locals ≡ room.locals = statements_room ctx room first (unbroken_left one two rest) in
      let b : length (locals_in second) + (room_after_each ctx middle second).locals ≡ middle.locals = statements_room ctx middle second (unbroken_right one two rest) in
      let both : length (locals_in first ++ locals_in second) ≡ length (locals_in first) + length (locals_in second) = length-append (locals_in first) (locals_in second) in
      let goal : length (locals_in first ++ locals_in second) + (room_after_each ctx middle second).locals ≡ room.locals = omega arith in
      goal
  statement_room ctx room (with_locals binders body) u =
      let inside = with_inside ctx (ctx.inside ++ binders) in
      let left : Room = record room { locals = room.locals - length binders } in
      let sites = locals_sites ctx room.locals binders in
      let code = statements_sites inside left body in
      let own = locals_room ctx room.locals binders (unbroken_left sites code u) in
      let a : length (locals_in body) + (room_after_each inside left body).locals ≡ room.locals - length binders = statements_room inside left body (unbroken_right sites code u) in
      let both : length (binders ++ locals_in body) ≡ length binders + length (locals_in body) = length-append binders (locals_in body) in
      let goal : length (binders ++ locals_in body) + (room_after_each inside left body).locals ≡ room.locals = omega arith in
      goal

  pub statements_room : (ctx : Context) (room : Room) (ss : Statements) → AreUnbroken (statements_sites ctx room ss) → length (locals_in ss) + (room_after_each ctx room ss).locals ≡ room.locals
  statements_room ctx room no_statements u = omega arith
  statements_room ctx room (with_statement s ss) u =
      let middle = room_after ctx room s in
      let one = statement_sites ctx room s in
      let two = statements_sites ctx middle ss in
      let a : length (locals_of s) + middle.locals ≡ room.locals = statement_room ctx room s (unbroken_left one two u) in
      let b : length (locals_in ss) + (room_after_each ctx middle ss).locals ≡ middle.locals = statements_room ctx middle ss (unbroken_right one two u) in
      let both : length (locals_of s ++ locals_in ss) ≡ length (locals_of s) + length (locals_in ss) = length-append (locals_of s) (locals_in ss) in
      let goal : length (locals_of s ++ locals_in ss) + (room_after_each ctx middle ss).locals ≡ room.locals = omega arith in
      goal
