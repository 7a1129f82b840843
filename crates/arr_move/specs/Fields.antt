-- The fields that are moved out of a schema into a new one, or replaced in it ("The Arrow C Data Interface", "Moving child arrays").
use Rattle.std.specs.Prelude.{ℕ, List, [], ◌∷◌, map}
use Rattle.tree_model.specs.promise.TreeData.{Released, Live}
use Rattle.tree_model.specs.promise.TreeParts.{child_at}
use Rattle.raw_schema.specs.promise.Members.{SchemaTree}
use Rattle.arr_move.specs.TreeActs.{with_children}

-- the schema with the picked fields in the order of the picks
abbrev pub Fields : SchemaTree → List ℕ → SchemaTree
Fields s picks = with_children s (map (child_at s) picks)

-- ---- new fields over old ones

-- what is in a place: the new field, or the old one where there is no new one
abbrev pub new_or_old : SchemaTree → SchemaTree → SchemaTree
new_or_old Released old = old
new_or_old (Live members children dictionary) old = Live members children dictionary

-- new fields over old ones, place by place
abbrev pub fields_over : List SchemaTree → List SchemaTree → List SchemaTree
fields_over [] olds = []
fields_over (new ∷ news) [] = new ∷ news
fields_over (new ∷ news) (old ∷ olds) = new_or_old new old ∷ fields_over news olds
