-- The bytes of a name.
use Rattle.std.specs.Prelude.{ℕ, List}
use Rattle.std.specs.Arc.{arc_value}
use Rattle.unit_pass.specs.declared.name.Bytes.{Bytes}
use Rattle.unit_pass.specs.declared.name.Bytes.TheVariants as bytes

-- they are the same whether the name has them alone or with its copies
abbrev pub name_bytes : Bytes → List ℕ
name_bytes (bytes.Own list) = list.items
name_bytes (bytes.Shared list) = (arc_value list).items
