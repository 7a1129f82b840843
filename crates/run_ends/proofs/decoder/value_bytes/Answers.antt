use Rattle.std.proofs.Common.{◌≡◌, ◌≢◌, ℕ, ℤ, List, subst, w64}
use Rattle.std.proofs.lemmas.Int.{to_z_pos}
use Rattle.arr_import.specs.Cols.{window_of}
use Rattle.arr_import.specs.Window.{item_at}
use Rattle.data_types.specs.promise.Value.{Bytes}
use Rattle.layout_rules.specs.promise.Layout.{natural}
use Rattle.data_types.specs.promise.TypedView.{typed_of}
use Rattle.run_ends.specs.RunCols.{array_in}
use Rattle.tree_model.specs.promise.TreeParts.{child_at}
use Rattle.run_ends.proofs.ItemsWalked.{no-bytes-at}
use Rattle.run_ends.proofs.decoder.value_bytes.Goals as goal

pub returns-in-None-clause-bytes : goal.returns-in-None-clause-bytes
returns-in-None-clause-bytes c =
    no-bytes-at (window_of c.values-values.result) (typed_of c.args.col.now.typed.now.values) (child_at (array_in c.args.col.now) 1) c.args.run
    c.values-values.ensures.window
    (subst (λ (z : ℤ). (bytes : List ℕ) → item_at (window_of c.values-values.result) (natural z) ≢ Bytes bytes) (to_z_pos w64 c.args.run c.requires.few)
    c.in-None.ensures.none)
