-- That a window has all items of a dictionary is a fact with one proof at most.
use Rattle.std.specs.Prelude.{ℕ, Option, refl}
use Rattle.std.specs.Coded.{Coded, Coded-set, code_by, coded×, coded_ℕ, coded_option}
use Rattle.data_types.specs.contracts.kind.DataType as kinds
use Rattle.tree_model.specs.Stored.{coded_tree}
use Rattle.raw_array.specs.promise.Members.{ArrayTree}
use Rattle.raw_array.specs.Members.{coded_array}
use Rattle.data_types.specs.promise.KindTrees.{KindTree}
use Rattle.arr_import.specs.Window.{Window, IsDictionary}

abbrev coded_kinds : Coded KindTree
coded_kinds = coded_tree kinds.the_row.coded

abbrev coded_window : Coded Window
coded_window =
    code_by (KindTree × (ArrayTree × (ℕ × ℕ))) (coded× coded_kinds (coded× coded_array (coded× coded_ℕ coded_ℕ)))
    (λ w. (w.typed, (w.array, (w.start, w.count))))
    (λ p. record { typed = p.0; array = p.1.0; start = p.1.1.0; count = p.1.1.1 })
    (λ _. refl)

pub IsDictionary-prop : (w : Window) (dict : Option KindTree) (dictionary : Option ArrayTree) → IsProp (IsDictionary w dict dictionary)
IsDictionary-prop w dict dictionary =
    hlevel (Coded-set (coded_option coded_kinds), Coded-set (coded_option coded_array), Coded-set coded_window)
