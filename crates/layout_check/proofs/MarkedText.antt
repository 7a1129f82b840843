-- What is cut between characters of a block that is marked as text is text.
use Rattle.std.proofs.Common.{◌≡◌, ℕ, ◌<◌, Bool, List, Option, None, Some, pos}
use Rattle.std.specs.Prelude.{IfSome, IsUtf8, get_or, ◌≤ℤ◌}
use Rattle.std.specs.Str.{IsCharBoundary}
use Rattle.std.proofs.lemmas.Str.{IsUtf8-between, IsUtf8-nil}
use Rattle.raw_array.specs.promise.Members.{ArrayMembers, bytes_in}
use Rattle.layout_rules.specs.promise.Layout.{items, first, end, natural, offset, bytes, bytes_or_none}
use Rattle.layout_rules.specs.promise.Rules.{offsets_fall}
use Rattle.layout_check.specs.Scans.{used_data}
use Rattle.layout_rules.proofs.TextData.{border-from, border-rise, natural-rise, not_below}

present-text : (buffer : Option (List ℕ)) → IfSome buffer IsUtf8 → IsUtf8 (bytes_or_none buffer)
present-text None h = IsUtf8-nil
present-text (Some bs) h = h

pub buffer-text : (own : ArrayMembers) (k : ℕ) → IfSome (bytes_in (get_or own.buffers k None)) IsUtf8 → IsUtf8 (bytes own k)
buffer-text own k h = present-text (bytes_in (get_or own.buffers k None)) h

-- the offset behind the last item, as the first, isn't below 0
pub border-to : (wide : Bool) (own : ArrayMembers) → offsets_fall wide own ≡ None → 0 < items own → pos 0 ≤ℤ offset wide own (end own)
border-to wide own rise some =
    not_below (offset wide own (first own)) (offset wide own (end own)) (border-from wide own rise some) (border-rise wide own rise some)

pub used-text : (wide : Bool) (own : ArrayMembers) → 0 < items own → offsets_fall wide own ≡ None → IsUtf8 (bytes own 2)
    → IsCharBoundary (bytes own 2) (natural (offset wide own (first own))) → IsCharBoundary (bytes own 2) (natural (offset wide own (end own)))
    → IsUtf8 (used_data wide own)
used-text wide own some rise text from to =
    let start = offset wide own (first own) in
    let stop = offset wide own (end own) in
    IsUtf8-between (bytes own 2) (natural start) (natural stop) text
    (natural-rise start stop (border-from wide own rise some) (border-rise wide own rise some)) from to
