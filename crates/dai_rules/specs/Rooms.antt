-- What the judge says of statements and declarations.
use Rattle.std.specs.Prelude.{◌≡◌, ℕ, ◌++◌, List}
use Rattle.dai_syntax.specs.declared.tree.Binder.{Binder}
use Rattle.dai_syntax.specs.Tree.{Statements, Declaration}
use Rattle.dai_rules.specs.Names.{with_inside}
use Rattle.dai_rules.specs.declared.judge.Judge.{Judge}
use Rattle.dai_rules.specs.declared.judge_statements.Room.{Room}
use Rattle.dai_rules.specs.declared.judge_statements.FileRoom.{FileRoom}
use Rattle.dai_rules.specs.Sites as Sites
use Rattle.dai_rules.specs.First.{judged}
use Rattle.dai_rules.specs.Tables.{AreNames, AddsNames}
use Rattle.dai_rules.specs.Views.{context_of}

abbrev pub room_of : Room → Sites.Room
room_of r = record { locals = r.locals; witnesses = r.witnesses }

abbrev pub file_room_of : FileRoom → Sites.FileRoom
file_room_of r = record {
  sorts = r.sorts;
  relations = r.relations;
  individuals = r.individuals;
  actions = r.actions;
  axioms = r.axioms;
  invariants = r.invariants;
  init = room_of r.init;
}

-- statements with these sites were judged, which leave this room and have parameters and locals of these names
pub record JudgesCode (sites : List Sites.Site) (room : Sites.Room) (names : List (List ℕ)) (left : Room) (old new : Judge) : Type 0 where
  pub room_is : room_of left ≡ room
  pub first : new.first ≡ judged old.first sites
  pub context : context_of new ≡ context_of old
  pub names_come : AddsNames names old.locals.keys new.locals.keys

-- the parameters and the body of an action were judged
pub record JudgesAction (parameters : List Binder) (body : Statements) (old new : Judge) : Type 0 where
  pub first : new.first ≡ judged old.first (Sites.locals_sites (context_of old) 6 parameters ++ Sites.statements_sites (with_inside (context_of old) parameters) Sites.block_room body)
  pub context : context_of new ≡ context_of old
  pub names_come : AddsNames (Sites.binder_names parameters ++ Sites.locals_in body) old.locals.keys new.locals.keys

-- a declaration was judged
pub record JudgesDeclaration (d : Declaration) (room left : FileRoom) (old new : Judge) : Type 0 where
  pub room_is : file_room_of left ≡ Sites.room_behind (context_of old) (file_room_of room) d
  pub first : (locals : List (List ℕ)) → AreNames locals old.locals.keys → new.first ≡ judged old.first (Sites.declaration_sites (context_of old) (file_room_of room) locals d)
  pub context : context_of new ≡ context_of old
  pub names_come : AddsNames (Sites.locals_by d) old.locals.keys new.locals.keys
