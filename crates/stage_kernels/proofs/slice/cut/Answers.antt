use Rattle.std.proofs.Common.{rules, ◌≡◌, pos, ℤ, to_z, of_z, w64, sym, subst}
use Rattle.raw_array.specs.Windows.{FitsWindow}
use Rattle.data_types.specs.promise.ColumnKinds.{type_of_columns}
use Rattle.stage_kernels.proofs.slice.cut.Goals as goal

pub slice-requires-clause-fits : goal.slice-requires-clause-fits
slice-requires-clause-fits c =
    let chunk = c.args.chunk in
    let from : to_z w64 (of_z w64 c.signed.result) ≡ pos c.args.start = search rules in
    let many : to_z w64 (of_z w64 c.signed-2.result) ≡ pos c.args.count = search rules in
    let typed = type_of_columns c.requires.chunk.0 in
    let fits = c.windows_are_parts.ensures.fits typed chunk c.args.start c.args.count tt c.requires.within c.requires.chunk.1.0 in
    let placed : FitsWindow chunk (to_z w64 (of_z w64 c.signed.result)) (pos c.args.count) =
    subst (λ (off : ℤ). FitsWindow chunk off (pos c.args.count)) (sym from) fits in
    subst (λ (len : ℤ). FitsWindow chunk (to_z w64 (of_z w64 c.signed.result)) len) (sym many) placed
