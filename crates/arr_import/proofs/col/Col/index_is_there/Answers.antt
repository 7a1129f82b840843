use Rattle.std.proofs.Common.{◌≡◌, ◌+◌, ◌<◌, ap, ◌∙◌, sym, subst, arith}
use Rattle.raw_array.specs.promise.Members.{members_of}
use Rattle.data_types.specs.TypedView.{kind_of}
use Rattle.layout_rules.specs.promise.Values.{value_at, tree_items}
use Rattle.arr_import.specs.Cols.{window_of}
use Rattle.arr_import.specs.StoredItems.{IsIndexThere}
use Rattle.arr_import.specs.Window.{index_at}
use Rattle.arr_import.proofs.Reading.{index-int, index-there, value-entry}
use Rattle.arr_import.proofs.col.Col.index_is_there.Goals as goal

pub returns : goal.returns
returns c =
    let col = c.args.self.now in
    let t = col.typed.now in
    let own = members_of col.array.now in
    let j = col.start + c.args.i in
    let w = window_of c.args.dictionary.now in
    let d = c.requires.dictionary in
    let inside : j < tree_items col.array.now = omega (arith, col.within, c.requires.inside) in
    let int = index-int t c.kinds_of_typed.ensures w.typed d.typed col.valid in
    let all : w.count ≡ tree_items w.array = ap (λ a. a.count) d.whole in
    let from : w.start ≡ 0 = ap (λ a. a.start) d.whole in
    record {
      there =
          subst (λ n. IsIndexThere col.storage own j (index_at (kind_of t) own j) n) (sym all)
          (index-there (kind_of t) col.storage own j w.array col.storage_ok int c.requires.valid
          (c.lawful_items_lie_within.ensures.index j w.typed w.array inside d.typed d.array));
      value =
          ap (value_at w.typed w.array) (omega (arith, from))
          ∙ sym (value-entry t c.kinds_of_typed.ensures col.array.now j c.lawful_root.ensures.live c.requires.valid w.typed w.array d.typed d.array int);
    }
