use Rattle.std.proofs.Common.{◌≡◌, ◌∙◌, ◌++◌, sym}
use Rattle.data_types.specs.promise.Packed.{le_bytes}
use Rattle.union_cols.proofs.TagSteps.{four-bytes, starts-next}
use Rattle.union_cols.proofs.tag_ids.row_starts.Goals as goal

pub loop-i-preserved : goal.loop-i-preserved
loop-i-preserved c =
    let i = c.loop-i.i in
    let bytes : c.to_le_bytes.result ≡ le_bytes 4 i = c.to_le_bytes.ensures ∙ four-bytes i in
    c.in_ok-extend_from_slice.ensures.items ∙ (λ t. c.loop-i.invariant t ++ bytes t) ∙ sym (starts-next i)
