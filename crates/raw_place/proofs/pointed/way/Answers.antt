use Rattle.std.proofs.Common.{◌≡◌, ap, ◌∙◌, arith, length}
use lib.ListN.{get_or}
use Rattle.std.specs.Ptr.{ptr_add}
use Rattle.raw_place.specs.Led.{way}
use Rattle.raw_place.specs.contracts.pointed.way.{T-row}
use Rattle.raw_place.proofs.Leads.{as_many, way_at}
use Rattle.raw_place.proofs.pointed.way.Goals as goal

pub offset_bounds-as_slice-i : goal.offset_bounds-as_slice-i
offset_bounds-as_slice-i g c =
    let many = as_many c.args._values.now c.args.pointers.now.items c.requires.led in
    record { fits = omega (arith, many, ap length c.as_slice.ensures.items, c.as_slice.type_inv.1, c.requires.within) }

pub bounds-as_slice-i : goal.bounds-as_slice-i
bounds-as_slice-i g c =
    let many = as_many c.args._values.now c.args.pointers.now.items c.requires.led in
    rw c.as_slice.ensures.items (omega (arith, many, c.requires.within))

pub returns : goal.returns
returns g c =
    let values = c.args._values.now in let pointers = c.args.pointers.now.items in let pointer = c.index-as_slice-i.result in
    let is : pointer ≡ get_or pointers c.args.i pointer = c.index-as_slice-i.is ∙ ap (λ ps. get_or ps c.args.i pointer) c.as_slice.ensures.items in
    let its : way pointer ≡ (values.ptr, c.args.i) = ap way is ∙ way_at values pointers c.requires.led c.args.i pointer c.requires.within in
    c.at.ensures ∙ (λ k. ptr_add (T-row g.row.T) (its k).1 (its k).0)
