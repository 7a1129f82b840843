-- What a column that is cut to a window keeps.
use Rattle.std.proofs.Common.{arith, ◌≡◌, ◌≤ℤ◌, ℕ, ℤ, pos, negsuc, true, false, if◌then◌else◌, refl, sym, subst}
use Rattle.data_types.specs.promise.Table.{Kind, Flat, Dict, Columns as StructOf}
use Rattle.tree_model.specs.promise.TreeData.{Released, Live}
use Rattle.tree_model.specs.promise.TreeParts.{IsLive, children_of}
use Rattle.tree_model.specs.Tree.{dictionary_at}
use Rattle.raw_array.specs.promise.Members.{ArrayTree}
use Rattle.raw_array.specs.Members.{windowed}
use Rattle.raw_array.specs.Windows.{Window, is_whole}
use Rattle.layout_rules.specs.promise.Layout.{natural}
use Rattle.layout_rules.specs.promise.Values.{tree_items}
use Rattle.stream_face.specs.Lawful.{DictsAreFull, MemberDictsAreFull}

-- ---- its items
pub natural-is : (z : ℤ) → pos 0 ≤ℤ z → z ≡ pos (natural z)
natural-is (pos n) le = refl
natural-is (negsuc n) le = absurd (omega (arith, le))

-- the law of windows, on the number of items
abbrev pub ItemsLaw : Type 0
ItemsLaw = (t : ArrayTree) (off len : ℕ) → IsLive t → tree_items (Window t (pos off) (pos len)) ≡ len

windowed-live : (t : ArrayTree) (off len : ℤ) → IsLive t → IsLive (windowed t off len)
windowed-live Released off len live = absurd live
windowed-live (Live m ts d) off len live = tt

pub window-live : (t : ArrayTree) (off len : ℤ) → IsLive t → IsLive (Window t off len)
window-live t off len live =
    elim (is_whole t off len) as (λ w. IsLive (if w then t else windowed t off len)) [ true ↦ live | false ↦ windowed-live t off len live ]

-- ---- its dictionary and its children
windowed-dictionary : (t : ArrayTree) (off len : ℤ) → dictionary_at (windowed t off len) ≡ dictionary_at t
windowed-dictionary Released off len = refl
windowed-dictionary (Live m ts d) off len = refl

windowed-children : (t : ArrayTree) (off len : ℤ) → children_of (windowed t off len) ≡ children_of t
windowed-children Released off len = refl
windowed-children (Live m ts d) off len = refl

window-dictionary : (t : ArrayTree) (off len : ℤ) → dictionary_at (Window t off len) ≡ dictionary_at t
window-dictionary t off len =
    elim (is_whole t off len) as (λ w. dictionary_at (if w then t else windowed t off len) ≡ dictionary_at t)
    [ true ↦ refl | false ↦ windowed-dictionary t off len ]

pub window-children : (t : ArrayTree) (off len : ℤ) → children_of (Window t off len) ≡ children_of t
window-children t off len =
    elim (is_whole t off len) as (λ w. children_of (if w then t else windowed t off len) ≡ children_of t)
    [ true ↦ refl | false ↦ windowed-children t off len ]

pub dicts-window : (kind : Kind) (t : ArrayTree) (off len : ℤ) → DictsAreFull kind t → DictsAreFull kind (Window t off len)
dicts-window (Flat kind) t off len full = tt
dicts-window (Dict kind) t off len full = rw window-dictionary full
dicts-window (StructOf members) t off len full = subst (MemberDictsAreFull members) (sym (window-children t off len)) full
