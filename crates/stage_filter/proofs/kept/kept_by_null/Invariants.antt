use Rattle.std.proofs.Common.{◌≡◌, ◌-◌}
use Rattle.arr_import.specs.Cols.{window_of}
use Rattle.stage_model.specs.declared.stage.Const.{Const}
use Rattle.stage_filter.specs.Kept.{kept_numbers}
use Rattle.stage_filter.proofs.kept.kept_by_null.Given as goal

-- the numbers so far that pass
abbrev pub invariant-loop-i : goal.invariant-loop-i
invariant-loop-i l = (constant : Const) → l.kept.items ≡ kept_numbers l.test constant (window_of l.items) l.from (l.i - l.from)
