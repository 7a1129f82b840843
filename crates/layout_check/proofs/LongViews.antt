-- What the numbers of a view that were read say of it.
use Rattle.std.proofs.Common.{◌≡◌, ℕ, ◌+◌, ◌<◌, ◌≤◌, ℤ, pos, Bool, true, false, List, length, take, w64, to_z, of_z, ap, subst, sym, ◌∙◌, arith}
use Rattle.std.proofs.lemmas.List.{length-take}
use Rattle.std.specs.Prelude.{IsTrue}
use Rattle.std.specs.Int.Signed.{mag, le_z}
use Rattle.raw_array.specs.promise.Members.{ArrayMembers}
use Rattle.layout_rules.specs.promise.Layout.{natural, is_valid, bytes, data_place, data_length}
use Rattle.layout_rules.specs.promise.Views.{view_length, view_buffer, view_offset, is_long}
use Rattle.layout_rules.specs.Within.{NamedWithin, DataWithin}
use Rattle.layout_check.specs.Scans.{sized_data}
use Rattle.layout_check.proofs.Casts.{is_longer}

-- what a valid long view names
module _ (own : ArrayMembers) (i : ℕ) (valid : Bool) (size : ℤ) (f : mag size < 9223372036854775808) (v : valid ≡ is_valid own i) (t : valid ≡ true)
    (e : size ≡ view_length own i) (l : le_z (to_z w64 (of_z w64 size)) (pos 12) ≡ false) (within : IsTrue (is_valid own i) → DataWithin own i) where
  pub view-long : IsTrue (is_long (view_length own i))
  view-long = is_longer size (view_length own i) f e l

  pub view-named : NamedWithin own i
  view-named = (within (sym v ∙ t)).named view-long

within_first : (xs : List ℕ) (n size : ℕ) → size ≤ n → size ≤ length xs → size ≤ length (take n xs)
within_first xs n size l k = simp length-take (omega (arith, l, k))

-- its data lie within the data buffer, as far as that goes
pub part-within : (own : ArrayMembers) (k i : ℕ) (data_of_k : List ℕ) (from size : ℕ) → natural (view_buffer own i) ≡ k → NamedWithin own i
    → data_of_k ≡ sized_data own k → from ≡ natural (view_offset own i) → size ≡ natural (view_length own i) → from + size ≤ length data_of_k
part-within own k i data_of_k from size names named is p q =
    let there = within_first (bytes own (data_place (natural (view_buffer own i)))) (data_length own (natural (view_buffer own i)))
    (natural (view_offset own i) + natural (view_length own i)) named.sized named.there in
    let here = subst (λ j. natural (view_offset own i) + natural (view_length own i) ≤ length (sized_data own j)) names there in
    let parts : from + size ≡ natural (view_offset own i) + natural (view_length own i) = ap (λ n. n + size) p ∙ ap (λ n. natural (view_offset own i) + n) q in
    subst (λ d. from + size ≤ length d) (sym is) (subst (λ n. n ≤ length (sized_data own k)) (sym parts) here)
