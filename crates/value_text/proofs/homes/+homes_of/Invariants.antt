use Rattle.tree_model.specs.Tree.{Depth}
use Rattle.arr_import.specs.Cols.{window_of}
use Rattle.value_text.proofs.homes.+homes_of.Given as goal

abbrev pub decreases-homes_of : goal.decreases-homes_of
decreases-homes_of a = Depth (window_of a.col.now).typed
