-- When a finished column is the encoding of values: each of its buffers is the whole of a block.
use Rattle.std.specs.Prelude.{◌≡◌, ℕ, pos, List, [], ◌∷◌, length, Option, None, Some}
use Rattle.buf_block.specs.declared.hold.BufView.{BufView}
use Rattle.buf_block.specs.declared.hold.TheConstants.{AMOUNT}
use Rattle.data_types.specs.promise.Value.{Value}
use Rattle.data_types.specs.declared.kind.DataType.{DataType}
use Rattle.col_build.specs.promise.Encoding.{encoded}
use Rattle.col_build.specs.declared.column.FinishedColumn.{FinishedColumn}

-- the view is the whole of a block of these bytes, by the block's first hold
pub record IsWhole (view : BufView) (content : List ℕ) : Type 0 where
  pub bytes : view.hold.bytes ≡ content
  pub amount : view.hold.amount ≡ AMOUNT
  pub start : view.start ≡ 0
  pub len : view.len ≡ length content

abbrev pub IsMade : Option BufView → Option (List ℕ) → Type 0
IsMade None None = Unit {0}
IsMade (Some view) (Some bytes) = IsWhole view bytes
IsMade _ _ = ⊥

abbrev pub AreMade : List (Option BufView) → List (Option (List ℕ)) → Type 0
AreMade [] [] = Unit {0}
AreMade (view ∷ views) (bytes ∷ buffers) = IsMade view bytes × AreMade views buffers
AreMade _ _ = ⊥

-- the finished column is the encoding of these values
pub record IsEncoded (column : FinishedColumn) (kind : DataType) (values : List Value) : Type 0 where
  pub length : column.length ≡ pos (encoded kind values).length
  pub null_count : column.null_count ≡ pos (encoded kind values).null_count
  pub buffers : AreMade column.buffers.items (encoded kind values).buffers
