-- A window by its two cases; it is as deep as the array, and costs the same.
use Rattle.std.proofs.Common.{◌≡◌, ℤ, Bool, true, false, refl}
use Rattle.std.specs.Prelude.{pos, ◌&&◌, if◌then◌else◌}
use Rattle.std.specs.Ordering.{int_eq}
use Rattle.std.specs.Bool.{Decides}
use Rattle.std.proofs.lemmas.Bool.Decides.{Decides-int_eq}
use Rattle.tree_model.specs.promise.TreeData.{Released, Live}
use Rattle.tree_model.specs.Tree.{Depth}
use Rattle.raw_array.specs.promise.Members.{ArrayTree, members_of, Cost}
use Rattle.raw_array.specs.Members.{windowed}
use Rattle.raw_array.specs.Windows.{Window, is_whole}

all_of : (a b : Bool) (t w : ArrayTree) (P Q : Type 0) → Decides a P → Decides b Q → P → Q → t ≡ (if a && b then t else w)
all_of true true t w P Q p q x y = refl
all_of true false t w P Q p q x y = let e : false ≡ true = q.1 y in absurd (cc)
all_of false b t w P Q p q x y = let e : false ≡ true = p.1 x in absurd (cc)

part_of : (a b : Bool) (t w : ArrayTree) (P Q : Type 0) → Decides a P → Decides b Q → (P × Q → ⊥) → w ≡ (if a && b then t else w)
part_of true true t w P Q p q n = absurd (n (p.0 refl, q.0 refl))
part_of true false t w P Q p q n = refl
part_of false b t w P Q p q n = refl

pub whole_window : (t : ArrayTree) (off len : ℤ) → off ≡ pos 0 → len ≡ (members_of t).length → t ≡ Window t off len
whole_window t off len x y =
    all_of (int_eq off (pos 0)) (int_eq len (members_of t).length) t (windowed t off len) (off ≡ pos 0) (len ≡ (members_of t).length)
    (Decides-int_eq off (pos 0)) (Decides-int_eq len (members_of t).length) x y

pub part_window : (t : ArrayTree) (off len : ℤ) → ((off ≡ pos 0) × (len ≡ (members_of t).length) → ⊥) → windowed t off len ≡ Window t off len
part_window t off len n =
    part_of (int_eq off (pos 0)) (int_eq len (members_of t).length) t (windowed t off len) (off ≡ pos 0) (len ≡ (members_of t).length)
    (Decides-int_eq off (pos 0)) (Decides-int_eq len (members_of t).length) n

deep : (t : ArrayTree) (off len : ℤ) → Depth (windowed t off len) ≡ Depth t
deep Released off len = refl
deep (Live m ts d) off len = refl

chosen_depth : (b : Bool) (t w : ArrayTree) → Depth w ≡ Depth t → Depth (if b then t else w) ≡ Depth t
chosen_depth true t w e = refl
chosen_depth false t w e = e

pub Depth-Window : (t : ArrayTree) (off len : ℤ) → Depth (Window t off len) ≡ Depth t
Depth-Window t off len = chosen_depth (is_whole t off len) t (windowed t off len) (deep t off len)

cost : (t : ArrayTree) (off len : ℤ) → Cost (windowed t off len) ≡ Cost t
cost Released off len = refl
cost (Live m ts d) off len = refl

chosen_cost : (b : Bool) (t w : ArrayTree) → Cost w ≡ Cost t → Cost (if b then t else w) ≡ Cost t
chosen_cost true t w e = refl
chosen_cost false t w e = e

pub Cost-Window : (t : ArrayTree) (off len : ℤ) → Cost (Window t off len) ≡ Cost t
Cost-Window t off len = chosen_cost (is_whole t off len) t (windowed t off len) (cost t off len)

pub ruleset windows = (whole_window, part_window, Depth-Window, Cost-Window)
