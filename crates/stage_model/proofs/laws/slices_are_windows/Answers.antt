use Rattle.stage_model.proofs.SliceWindow.{sliced-window, window-few, window-within}
use Rattle.stage_model.proofs.laws.slices_are_windows.Goals as goal

pub returns-clause-within : goal.returns-clause-within
returns-clause-within c = window-within

pub returns-clause-few : goal.returns-clause-few
returns-clause-few c = window-few

pub returns-clause-rows : goal.returns-clause-rows
returns-clause-rows c = sliced-window
