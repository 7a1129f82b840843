use Rattle.tree_model.specs.Tree.{Depth}
use Rattle.data_types.specs.promise.TypedView.{typed_of}
use Rattle.arr_import.proofs.col.Col.+home_at.Given as goal

abbrev pub decreases-home_at : goal.decreases-home_at
decreases-home_at a = Depth (typed_of a.self.now.typed.now)
