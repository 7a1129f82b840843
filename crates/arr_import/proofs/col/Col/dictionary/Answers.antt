use Rattle.std.proofs.Common.{◌≡◌, Some, sym, subst}
use Rattle.data_types.specs.declared.typed.Typed.{out-Typed}
use Rattle.data_types.specs.KindTrees.{NodesOk}
use Rattle.data_types.specs.promise.TypedView.{typed_of}
use Rattle.arr_import.proofs.Reading.{dict-ok}
use Rattle.arr_import.proofs.col.Col.dictionary.Goals as goal

pub window-requires-clause-valid : goal.window-requires-clause-valid
window-requires-clause-valid c =
    let t = c.args.self.now.typed.now in
    let is : (out-Typed t).dict ≡ Some c.in-Some-Some.dict = cc in
    subst (λ u. ∥ NodesOk (typed_of u) ∥₁) (sym c.deref-in-Some-Some-2.ensures)
    (dict-ok t c.kinds_of_typed.ensures c.in-Some-Some.dict is c.args.self.now.valid)
