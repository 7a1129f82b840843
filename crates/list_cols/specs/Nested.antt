-- What is handed on.
pub use Rattle.data_types.specs.promise.Groups.{same, distinct}
pub use Rattle.list_cols.specs.promise.Nested.{Explode, Nest, items_in, nested_value, rows_with}
