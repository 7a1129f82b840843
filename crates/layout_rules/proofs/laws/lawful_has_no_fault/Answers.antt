use Rattle.data_types.specs.promise.TypedView.{typed_of}
use Rattle.layout_rules.proofs.ReadWithin.{lawful-no_fault, no_fault-lawful}
use Rattle.layout_rules.proofs.laws.lawful_has_no_fault.Goals as goal

pub returns : goal.returns
returns c =
    let typed = typed_of c.args.typed.now in
    let array = c.args.array.now in
    (lawful-no_fault typed array, no_fault-lawful typed array)
