-- What a name stands for, as the program says it.
use Rattle.std.specs.Prelude.{List, [], ◌∷◌, Option, None, Some}
use Rattle.dai_syntax.specs.declared.tree.Name.{Name}
use Rattle.dai_syntax.specs.declared.tree.Binder.{Binder}
use Rattle.dai_rules.specs.declared.globals.Kind.{Kind}
use Rattle.dai_rules.specs.declared.globals.Kind.TheVariants.{Relation, Individual, Local, Neither}
use Rattle.dai_rules.specs.Names as Model

abbrev pub kind_value : Kind → Model.Kind
kind_value (Relation places) = Model.a_relation places.now
kind_value (Individual sort) = Model.an_individual sort.now
kind_value (Local sort) = Model.a_local sort.now
kind_value Neither = Model.neither

-- the type of the first of these places
abbrev pub type_at_place : List Binder → Option Name
type_at_place [] = None
type_at_place (place ∷ places) = Some (Model.type_of place)
