use Rattle.std.proofs.Common.{◌≡◌, ◌-◌}
use Rattle.arr_import.specs.Cols.{window_of}
use Rattle.stage_model.specs.declared.stage.Const.TheVariants as consts
use Rattle.stage_filter.specs.Kept.{equality, kept_numbers}
use Rattle.stage_filter.proofs.kept.kept_by_equality.Given as goal

-- the numbers so far that pass
abbrev pub invariant-loop-i : goal.invariant-loop-i
invariant-loop-i l = l.kept.items ≡ kept_numbers (equality l.equal) (consts.Bytes l.constant) (window_of l.items) l.from (l.i - l.from)
