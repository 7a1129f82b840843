-- What contracts see of a union that is read in place.
use Rattle.raw_array.specs.promise.Members.{ArrayTree}
use Rattle.union_cols.specs.declared.column.UnionCol.{UnionCol}
use Rattle.union_cols.specs.promise.Unions.{UnionTree}
use Rattle.union_cols.specs.UnionAnswers.{union_of}

-- its kinds
abbrev pub kinds_in : UnionCol → UnionTree
kinds_in col = union_of col.typed.now

-- the array
abbrev pub array_in : UnionCol → ArrayTree
array_in col = col.node.array.now
