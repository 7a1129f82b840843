use Rattle.std.proofs.Common.{◌≡◌, ◌+◌, ◌∙◌, subst}
use Rattle.data_types.specs.promise.Value.{Value}
use Rattle.arr_import.specs.Window.{IsStructValue, item_at}
use Rattle.arr_import.specs.Cols.{window_of}
use Rattle.arr_import.proofs.Reading.{home-row}
use Rattle.arr_import.proofs.col.Col.row_is_there.Goals as goal

pub returns : goal.returns
returns c =
    let col = c.args.self.now in
    λ (v : Value) (is : v ≡ item_at (window_of col) c.args.i) (h : IsStructValue v).
    let row =
    home-row col.typed.now c.kinds_of_typed.ensures col.array.now (col.start + c.args.i) c.lawful_root.ensures.live c.requires (subst IsStructValue is h) in
    record {
      is_struct = row.0;
      fields = is ∙ row.1;
    }
