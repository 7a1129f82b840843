use Rattle.std.proofs.Common.{◌≡◌, ◌++◌}
use Rattle.union_cols.specs.Tags.{numbers}
use Rattle.union_cols.specs.promise.UnionFormats.{ids_before, keyword}
use Rattle.union_cols.proofs.tag_tops.numbered_format.Given as goal

-- the ids so far, each with its comma
abbrev pub invariant-loop-id : goal.invariant-loop-id
invariant-loop-id l = l.text.items ≡ keyword l.dense ++ ids_before (numbers l.id)
