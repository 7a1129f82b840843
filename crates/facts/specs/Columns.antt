-- A chunk with columns taken of it, and a struct column with a null.
use Rattle.std.specs.Prelude.{ℕ, pos, negsuc, true, List, [], ◌∷◌, None}
use Rattle.data_types.specs.declared.kind.DataType.TheVariants as kinds
use Rattle.data_types.specs.promise.Value.{Value, Fields, values}
use Rattle.tree_model.specs.promise.TreeData.{Live, no_trees, absent}
use Rattle.raw_array.specs.promise.Members.{ArrayTree}
use Rattle.data_types.specs.promise.KindTrees.{KindTree}
use Rattle.data_types.specs.ColumnKinds.{table_type}
use Rattle.facts.specs.Chunks.{bytes, chunk, n, shorts, struct, types}
use Rattle.array_laws.specs.Picking.{Packed, packed_types}

-- the octets, and behind them a struct of the texts and the shorts
abbrev pub pack : ArrayTree
pack = Packed chunk (1 ∷ []) (2 ∷ 0 ∷ [])

abbrev pub types_packed : List KindTree
types_packed = packed_types (1 ∷ []) (2 ∷ 0 ∷ []) types

abbrev pub held : Value → Value → Value
held a b = Fields (values (a ∷ b ∷ []))

-- a struct column with a null, which has nothing to unpack
abbrev pub holed : ArrayTree
holed = struct 2 (pos 0) 0 None (struct 2 (negsuc 0) 0 (bytes (1 ∷ [])) (shorts ∷ []) ∷ [])

abbrev pub holed_types : List KindTree
holed_types = table_type (Live (kinds.Int 16 true) no_trees absent ∷ []) ∷ []

abbrev pub one_held : ℕ → Value
one_held k = Fields (values (n k ∷ []))
