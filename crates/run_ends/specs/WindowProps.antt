-- Two windows are the same in one way at most, so that a structure can keep the fact.
use Rattle.std.specs.Prelude.{◌≡◌, ℕ, refl}
use Rattle.std.specs.Coded.{Coded, Coded-set, code_by, coded×, coded_ℕ}
use Rattle.data_types.specs.contracts.kind.DataType as kinds
use Rattle.tree_model.specs.Stored.{coded_tree}
use Rattle.raw_array.specs.promise.Members.{ArrayTree}
use Rattle.raw_array.specs.Members.{coded_array}
use Rattle.data_types.specs.promise.KindTrees.{KindTree}
use Rattle.arr_import.specs.Window.{Window}

abbrev coded_kinds : Coded KindTree
coded_kinds = coded_tree kinds.the_row.coded

abbrev coded_window : Coded Window
coded_window =
    code_by (KindTree × (ArrayTree × (ℕ × ℕ))) (coded× coded_kinds (coded× coded_array (coded× coded_ℕ coded_ℕ)))
    (λ w. (w.typed, (w.array, (w.start, w.count))))
    (λ p. record { typed = p.0; array = p.1.0; start = p.1.1.0; count = p.1.1.1 })
    (λ _. refl)

pub window_prop : (v w : Window) → IsProp (v ≡ w)
window_prop v w = Coded-set coded_window v w
