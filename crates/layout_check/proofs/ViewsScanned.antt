-- What the scans over whole data buffers show of each view.
use Rattle.std.proofs.Common.{◌≡◌, ℕ, zero, suc, ◌+◌, ◌-◌, ◌<◌, ◌≤◌, ◌&&◌, not, Bool, true, false, pos, List, length, take, drop, None, refl, ap, ◌∙◌, sym}
use Rattle.std.proofs.Common.{subst, true≢false, arith}
use Rattle.std.specs.Prelude.{if◌then◌else◌, IsTrue, IsUtf8}
use Rattle.std.specs.Str.{IsCharBoundary, is_utf8}
use Rattle.std.specs.Str.Lossy.{utf8_valid_len}
use Rattle.std.proofs.lemmas.List.{drop-take, take-take}
use Rattle.std.proofs.lemmas.Str.{IsUtf8-between, is_utf8-from_IsUtf8}
use Rattle.raw_array.specs.promise.Members.{ArrayMembers}
use Rattle.layout_rules.specs.promise.Layout.{natural, bytes, is_valid, data_buffers, data_length, data_place}
use Rattle.layout_rules.specs.promise.Views.{view_length, view_buffer, view_offset, view_data, data_named, is_long}
use Rattle.layout_rules.specs.Views.{data_in_view}
use Rattle.layout_rules.specs.promise.Rules.{fault_if}
use Rattle.layout_rules.specs.Rules.{view_not_text}
use Rattle.layout_rules.specs.Within.{NamedWithin}
use Rattle.layout_check.specs.Scans.{sized_data, AreTexts}

-- ---- buffers, one more

pub AreTexts-none : (own : ArrayMembers) → AreTexts own 0
AreTexts-none own = record { at = λ k l. absurd (omega (arith, l)) }

last_or_before : (P : ℕ → Type 0) (i k d : ℕ) → k + d ≡ i → ((j : ℕ) → j < i → P j) → P i → P k
last_or_before P i k zero e h p = subst P (let same : i ≡ k = omega (arith, e) in same) p
last_or_before P i k (suc d) e h p = h k (omega (arith, e))

pub AreTexts-more : (own : ArrayMembers) (n : ℕ) → AreTexts own n → IsUtf8 (sized_data own n) → AreTexts own (n + 1)
AreTexts-more own n h b = record { at = λ k l. last_or_before (λ j. IsUtf8 (sized_data own j)) n k (n - k) (omega (arith, l)) h.at b }

pub ruleset buffers = (AreTexts-none, AreTexts-more)

-- ---- a part of a text between two borders

part : (d : List ℕ) (size from len : ℕ) → from + len ≤ size → take ((from + len) - from) (drop from (take size d)) ≡ take len (drop from d)
part d size from len h =
    let all : size ≡ from + (len + (size - (from + len))) = omega (arith, h) in
    let some : (from + len) - from ≡ len = omega arith in
    ap (λ n. take n (drop from (take size d))) some
    ∙ ap (λ n. take len (drop from (take n d))) all
    ∙ ap (take len) (drop-take from (len + (size - (from + len))) d)
    ∙ take-take len (len + (size - (from + len))) (drop from d) (omega arith)

long_data : (long : Bool) (named short : List ℕ) → IsTrue long → (if long then named else short) ≡ named
long_data true named short h = refl
long_data false named short h = absurd (true≢false (sym h))

text-passes : (valid : Bool) (text : List ℕ) (i : ℕ) → IsUtf8 text
    → fault_if (valid && not (is_utf8 text)) i (pos (utf8_valid_len text)) (pos (length text)) ≡ None
text-passes true text i h = ap (λ b. fault_if (not b) i (pos (utf8_valid_len text)) (pos (length text))) (is_utf8-from_IsUtf8 text h)
text-passes false text i h = refl

pub passes-text : (own : ArrayMembers) (i : ℕ) → IsUtf8 (view_data own i) → view_not_text own i ≡ None
passes-text own i h = text-passes (is_valid own i) (view_data own i) i h

-- of a part of the data buffer that is text
pub passes-part : (own : ArrayMembers) (i : ℕ) → IsTrue (is_long (view_length own i)) → NamedWithin own i
    → IsUtf8 (take (natural (view_length own i)) (drop (natural (view_offset own i)) (sized_data own (natural (view_buffer own i)))))
    → view_not_text own i ≡ None
passes-part own i long named text =
    let k = natural (view_buffer own i) in
    let start = natural (view_offset own i) in
    let len = natural (view_length own i) in
    let some : (start + len) - start ≡ len = omega arith in
    let same = ap (λ n. take n (drop start (sized_data own k))) (sym some) ∙ part (bytes own (data_place k)) (data_length own k) start len named.sized in
    let is : view_data own i ≡ data_named own i = long_data (is_long (view_length own i)) (data_named own i) (data_in_view own i) long in
    passes-text own i (subst IsUtf8 (sym is) (subst IsUtf8 same text))

pub passes-cut : (own : ArrayMembers) (i : ℕ) → AreTexts own (data_buffers own) → IsTrue (is_long (view_length own i)) → NamedWithin own i
    → IsCharBoundary (sized_data own (natural (view_buffer own i))) (natural (view_offset own i))
    → IsCharBoundary (sized_data own (natural (view_buffer own i))) (natural (view_offset own i) + natural (view_length own i))
    → view_not_text own i ≡ None
passes-cut own i texts long named from to =
    let k = natural (view_buffer own i) in
    let start = natural (view_offset own i) in
    let len = natural (view_length own i) in
    let whole = IsUtf8-between (sized_data own k) start (start + len) (texts.at k named.buffer) (omega arith) from to in
    let same = part (bytes own (data_place k)) (data_length own k) start len named.sized in
    let is : view_data own i ≡ data_named own i = long_data (is_long (view_length own i)) (data_named own i) (data_in_view own i) long in
    passes-text own i (subst IsUtf8 (sym is) (subst IsUtf8 same whole))

null_passes : (valid : Bool) (text : List ℕ) (i : ℕ) → valid ≡ false
    → fault_if (valid && not (is_utf8 text)) i (pos (utf8_valid_len text)) (pos (length text)) ≡ None
null_passes true text i h = absurd (true≢false h)
null_passes false text i h = refl

pub passes-null : (own : ArrayMembers) (i : ℕ) → is_valid own i ≡ false → view_not_text own i ≡ None
passes-null own i h = null_passes (is_valid own i) (view_data own i) i h

pub ruleset views = (passes-text, passes-cut, passes-null)
