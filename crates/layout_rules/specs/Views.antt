-- The parts of an item that lies in its view.
use Rattle.std.specs.Prelude.{ℕ, ◌+◌, ◌*◌, List, take, drop}
use Rattle.raw_array.specs.promise.Members.{ArrayMembers}
use Rattle.layout_rules.specs.promise.Layout.{natural, first, bytes, view_width}
use Rattle.layout_rules.specs.promise.Views.{view_length, view_number}

abbrev pub view_prefix : ArrayMembers → ℕ → ℕ
view_prefix a i = view_number a i 1

abbrev pub data_in_view : ArrayMembers → ℕ → List ℕ
data_in_view a i = take (natural (view_length a i)) (drop ((first a + i) * view_width + 4) (bytes a 1))
