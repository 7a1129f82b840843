use Rattle.std.proofs.Common.{refl}
use Rattle.facts.proofs.structures.arrays.Goals as goal

pub returns : goal.returns
returns c =
    record {
      window = refl;
      window_is_lawful = refl;
      windows = refl;
      windows_are_lawful = refl;
      no_text_is_lawful = refl;
      no_values = refl;
      falling = refl;
      index_outside = refl;
      null_index_is_lawful = refl;
      null_index = refl;
      index_inside = refl;
      short_buffer = refl;
      short_child = refl;
      long_window = refl;
    }
