use Rattle.std.proofs.Common.{◌≡◌, ◌+◌, sym, subst, true}
use Rattle.layout_rules.specs.promise.Layout.{is_valid}
use Rattle.raw_array.specs.promise.Members.{members_of}
use Rattle.arr_import.specs.Shown.{Shows}
use Rattle.arr_import.proofs.Reading.{value-item}
use Rattle.arr_import.proofs.col.Col.own_value.Goals as goal

pub returns-then-is_valid : goal.returns-then-is_valid
returns-then-is_valid c =
    let col = c.args.self.now in
    let j = col.start + c.args.i in
    let valid : is_valid (members_of col.array.now) j ≡ true = cc in
    subst (λ v. Shows c.item.result v)
    (sym (value-item col.typed.now c.kinds_of_typed.ensures col.array.now j c.lawful_root.ensures.live valid (c.requires.own valid) col.storage col.storage_ok))
    c.item.ensures
