-- What a readable node of texts or of views has.
use Rattle.std.proofs.Common.{◌≡◌, ℕ, zero, suc, ◌+◌, ◌*◌, ◌<◌, ◌≤◌, ◌^◌, Bool, true, false, length, None, refl, subst, arith}
use Rattle.std.specs.Prelude.{max}
use Rattle.std.proofs.Math.Nat.{mul-le-mul_right}
use Rattle.data_types.specs.declared.kind.DataType.{DataType}
use Rattle.data_types.specs.declared.kind.DataType.TheVariants as kinds
use Rattle.data_types.specs.promise.Packed.{offset_width}
use Rattle.raw_array.specs.promise.Members.{ArrayMembers}
use Rattle.layout_rules.specs.declared.layout.Layout.{Layout}
use Rattle.layout_rules.specs.declared.layout.Layout.TheVariants.{ByOffsets, Views}
use Rattle.layout_rules.specs.promise.Layout.{bytes, buffer_count, offsets_need, data_need, items, first, end, view_width, data_lengths, lengths_need}
use Rattle.layout_rules.specs.Layout.{IsLongIfPresent}
use Rattle.layout_check.specs.NodeView.{AreReadable}
use Rattle.layout_rules.specs.promise.Rules.{texts_wrong}
use Rattle.layout_rules.specs.Within.{AreThere}
use Rattle.layout_rules.proofs.Long.{long-bytes, long-data, long-validity, some_views, long-views, long-lengths, long-named}

three : (n : ℕ) → n ≡ 3 → 2 < n
three n e = omega (arith, e)

some : 0 < 3
some = omega arith

some_more : (n : ℕ) → 0 < max 3 n
some_more n = omega arith

module _ (own : ArrayMembers) (layout : Layout) (wide : Bool) (at : layout ≡ ByOffsets wide)
    (counted : length own.buffers ≡ buffer_count layout (length own.buffers)) (readable : AreReadable layout own) where
  here : AreReadable (ByOffsets wide) own
  here = subst (λ l. AreReadable l own) at readable

  pub text-some : 2 < length own.buffers
  text-some = three (length own.buffers) (subst (λ l. length own.buffers ≡ buffer_count l (length own.buffers)) at counted)

  pub text-validity : IsLongIfPresent own
  text-validity = long-validity (ByOffsets wide) own here.enough some

  pub text-long : offsets_need wide (end own) ≤ length (bytes own 1)
  text-long = long-bytes wide own here.there here.enough

  pub text-data : data_need wide own ≤ length (bytes own 2)
  text-data = long-data wide own here.there here.enough

module _ (own : ArrayMembers) (layout : Layout) (at : layout ≡ Views)
    (counted : length own.buffers ≡ buffer_count layout (length own.buffers)) (readable : AreReadable layout own) where
  views : AreReadable Views own
  views = subst (λ l. AreReadable l own) at readable

  pub views-some : 3 ≤ length own.buffers
  views-some = some_views own (subst (λ l. length own.buffers ≡ buffer_count l (length own.buffers)) at counted)

  pub views-validity : IsLongIfPresent own
  views-validity = long-validity Views own views.enough (some_more (length own.buffers))

  pub views-long : end own * view_width ≤ length (bytes own 1)
  views-long = long-views own views.there views.enough

  pub views-lengths : lengths_need own ≤ length (data_lengths own)
  views-lengths = long-lengths own views.there views.enough

  pub views-named : AreThere own
  views-named = long-named own views.there views.enough

pub texts_other : (kind : DataType) (own : ArrayMembers) → ((wide : Bool) → ¬ (kind ≡ kinds.Utf8 wide)) → ¬ (kind ≡ kinds.Utf8View)
    → None ≡ texts_wrong kind own
texts_other (kinds.Utf8 wide) own h g = absurd (h wide refl)
texts_other kinds.Utf8View own h g = absurd (g refl)
texts_other _ own h g = refl

-- ---- offsets that are there

pub need_some : (wide : Bool) (n size : ℕ) → 0 < n → offsets_need wide n ≤ size → (n + 1) * offset_width wide ≤ size
need_some wide zero size l h = absurd (omega (arith, l))
need_some wide (suc n) size l h = h

pub end_some : (own : ArrayMembers) → 0 < items own → 0 < end own
end_some own l = omega (arith, l)

pub window : (own : ArrayMembers) (start stop : ℕ) → start ≡ first own → stop ≡ end own → start ≤ stop
window own start stop e f = omega (arith, e, f)

-- the offsets up to a place before one
pub offsets_before : (start stop width size : ℕ) → start ≤ stop → (stop + 1) * width ≤ size → (start + 1) * width ≤ size
offsets_before start stop width size l h =
    let less : start + 1 ≤ stop + 1 = omega (arith, l) in
    let room = mul-le-mul_right width less in
    omega (arith, room, h)

pub window_end : (own : ArrayMembers) (start len : ℕ) → start ≡ first own → len ≡ items own → start + len ≡ end own
window_end own start len e f = omega (arith, e, f)

pub few_offsets : (wide : Bool) (n size : ℕ) → n * offset_width wide ≤ size → size < 2 ^ 64 → n < 2 ^ 64
few_offsets true n size h l = omega (arith, h, l)
few_offsets false n size h l = omega (arith, h, l)
