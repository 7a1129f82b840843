-- The children that are moved out of a parent into a new one ("The Arrow C Data Interface", "Moving child arrays").
use Rattle.std.specs.Prelude.{◌≢◌, ℕ, get_or, ℤ, pos, ◌<◌, List, [], ◌∷◌, map, length, None}
use Rattle.tree_model.specs.promise.TreeData.{Tree, Live, Released, trees, absent}
use Rattle.tree_model.specs.promise.TreeParts.{child_at, children_of}
use Rattle.raw_array.specs.promise.Members.{ArrayMembers, ArrayTree, members_of}
use Rattle.raw_array.specs.Windows.{Window, FitsWindow}
use Rattle.raw_array.specs.declared.array.ReleaseKind.TheVariants.{Assembled}

-- no child is picked twice
abbrev pub Distinct : List ℕ → Type 0
Distinct picks = (i j : ℕ) → i < j → j < length picks → get_or picks i 0 ≢ get_or picks j 0

-- each pick is the place of a child
abbrev pub InRange : {M : Type 0} → Tree M → List ℕ → Type 0
InRange t picks = (k : ℕ) → k < length picks → get_or picks k 0 < length (children_of t)

-- each picked child is live and has the items of the window
abbrev pub FitWindow : ArrayTree → List ℕ → ℤ → ℤ → Type 0
FitWindow t picks off len = (k : ℕ) → k < length picks → FitsWindow (child_at t (get_or picks k 0)) off len

-- the window that an array is on the items of its children
abbrev pub FitParentWindow : ArrayTree → List ℕ → Type 0
FitParentWindow t picks = FitWindow t picks (members_of t).offset (members_of t).length

-- a child of an array, cut to a window
abbrev pub cut : ArrayTree → ℤ → ℤ → ℕ → ArrayTree
cut t off len pick = Window (child_at t pick) off len

-- a tree with other children
abbrev pub with_children : {M : Type 0} → Tree M → List (Tree M) → Tree M
with_children Released cs = Released
with_children (Live m ts d) cs = Live m (trees cs) d

-- the members of a struct array of this length, without nulls and without a validity bitmap
abbrev pub struct_members : ℤ → ArrayMembers
struct_members len = record { length = len; null_count = pos 0; offset = pos 0; buffers = None ∷ []; kind = Assembled }

-- a struct array of the picked columns in the order of the picks, each cut to the items that the array itself shows
abbrev pub Columns : ArrayTree → List ℕ → ArrayTree
Columns t picks =
    Live (struct_members (members_of t).length) (trees (map (cut t (members_of t).offset (members_of t).length) picks)) absent
