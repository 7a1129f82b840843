-- The number of null items is that of clear bits.
use Rattle.std.proofs.Common.{length, ◌≡◌, ℕ, zero, suc, ◌+◌, ◌-◌, ◌<◌, List, None, Some, refl, ap, ◌∙◌, arith}
use Rattle.std.specs.Prelude.{if◌then◌else◌, ◌==◌}
use Rattle.data_types.specs.promise.Packed.{bit}
use Rattle.data_types.specs.Packed.{clear_count}
use Rattle.raw_array.specs.promise.Members.{ArrayMembers}
use Rattle.layout_rules.specs.declared.layout.Layout.{Layout}
use Rattle.layout_rules.specs.declared.layout.Layout.TheVariants.{NoBuffers, FixedWidth, TruthBits, ByOffsets, ListOffsets, FixedItems, ByChildren, Views}
use Rattle.layout_rules.specs.promise.Layout.{buffer, buffer_count, first, is_valid_by}
use Rattle.layout_rules.specs.promise.Rules.{null_total, null_count_wrong, null_count_wrong_in}

clear_or : (b : ℕ) → b < 2 → (if b == 1 then 0 else 1) ≡ 1 - b
clear_or zero h = refl
clear_or (suc zero) h = refl
clear_or (suc (suc b)) h = absurd (omega (arith, h))

bit-bound : (bytes : List ℕ) (j : ℕ) → bit bytes j < 2
bit-bound bytes j = omega arith

pub null_total-clear : (own : ArrayMembers) (v : List ℕ) (n : ℕ) → buffer own 0 ≡ Some v → null_total own n ≡ clear_count v (first own) n
null_total-clear own v zero e = refl
null_total-clear own v (suc n) e =
    ap (λ b. null_total own n + (if is_valid_by b (first own + n) then 0 else 1)) e
    ∙ ap (λ a. a + (if bit v (first own + n) == 1 then 0 else 1)) (null_total-clear own v n e)
    ∙ ap (λ a. clear_count v (first own) n + a) (clear_or (bit v (first own + n)) (bit-bound v (first own + n)))

pub null_total-absent : (own : ArrayMembers) (n : ℕ) → buffer own 0 ≡ None → null_total own n ≡ 0
null_total-absent own zero e = refl
null_total-absent own (suc n) e = ap (λ b. null_total own n + (if is_valid_by b (first own + n) then 0 else 1)) e ∙ ap (λ a. a + 0) (null_total-absent own n e)

pub ruleset nulls = (null_total-clear, null_total-absent)

-- the count of nulls where the layout has no buffer, and where it has some

pub no_buffers : (layout : Layout) (own : ArrayMembers) → buffer_count layout (length own.buffers) ≡ 0 → null_count_wrong_in layout own ≡ None
no_buffers NoBuffers own e = refl
no_buffers (FixedWidth width) own e = absurd (omega (arith, e))
no_buffers TruthBits own e = absurd (omega (arith, e))
no_buffers (ByOffsets wide) own e = absurd (omega (arith, e))
no_buffers (ListOffsets wide) own e = absurd (omega (arith, e))
no_buffers (FixedItems size) own e = absurd (omega (arith, e))
no_buffers ByChildren own e = absurd (omega (arith, e))
no_buffers Views own e = absurd (omega (arith, e))

pub some_buffers : (layout : Layout) (own : ArrayMembers) → ¬ (buffer_count layout (length own.buffers) ≡ 0)
    → null_count_wrong_in layout own ≡ null_count_wrong own
some_buffers NoBuffers own e = absurd (e refl)
some_buffers (FixedWidth width) own e = refl
some_buffers TruthBits own e = refl
some_buffers (ByOffsets wide) own e = refl
some_buffers (ListOffsets wide) own e = refl
some_buffers (FixedItems size) own e = refl
some_buffers ByChildren own e = refl
some_buffers Views own e = refl

pub ruleset by_layout = (no_buffers, some_buffers)
