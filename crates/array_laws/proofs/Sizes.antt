-- What the layouts say of a node with the same bytes.
use Rattle.std.proofs.Common.{◌≡◌, ℕ, ◌-◌, ◌*◌, Bool, true, false, length, None, refl, ap}
use Rattle.std.specs.Prelude.{if◌then◌else◌, nat_lt}
use Rattle.raw_array.specs.promise.Members.{ArrayMembers}
use Rattle.layout_rules.specs.declared.layout.Layout.{Layout}
use Rattle.layout_rules.specs.declared.layout.Layout.TheVariants.{NoBuffers, FixedWidth, TruthBits, ByOffsets, ListOffsets, FixedItems, ByChildren, Views}
use Rattle.layout_rules.specs.promise.Layout.{buffer_count, bytes_or_none, offset, offset_in}
use Rattle.layout_rules.specs.Layout.{named_need}
use Rattle.layout_rules.specs.promise.Rules.{null_count_wrong, null_count_wrong_in}
use Rattle.array_laws.proofs.PlaceRules.{Buffers, size_at}
use Rattle.array_laws.proofs.ShownParts.{SameBytes}

-- how many buffers a node must have
abbrev pub count_of : Layout → ArrayMembers → ℕ
count_of l m = buffer_count l (length m.buffers)

pub count-same : (l : Layout) (m w : ArrayMembers) → SameBytes m w → count_of l w ≡ count_of l m
count-same l m w s = ap (buffer_count l) s.count

pub offset-same : (wide : Bool) (m w : ArrayMembers) → SameBytes m w → (p : ℕ) → offset wide w p ≡ offset wide m p
offset-same wide m w s p = ap (λ b. offset_in wide (bytes_or_none b) p) (s.bytes 1)

abbrev named_at : Buffers → ℕ → ℕ → ℕ
named_at bs n k = if nat_lt k (n - 3) then size_at bs n k else (n - 3) * 8

pub named-same : (m w : ArrayMembers) → SameBytes m w → (k : ℕ) → named_need w k ≡ named_need m k
named-same m w s k = λ t. named_at (λ j. s.bytes j t) (s.count t) k

-- ---- layouts whose nulls are counted

abbrev pub counts_nulls : Layout → Bool
counts_nulls NoBuffers = false
counts_nulls _ = true

pub nulls-in : (l : Layout) (m : ArrayMembers) → null_count_wrong_in l m ≡ (if counts_nulls l then null_count_wrong m else None)
nulls-in NoBuffers m = refl
nulls-in (FixedWidth width) m = refl
nulls-in TruthBits m = refl
nulls-in (ByOffsets wide) m = refl
nulls-in (ListOffsets wide) m = refl
nulls-in (FixedItems size) m = refl
nulls-in ByChildren m = refl
nulls-in Views m = refl
