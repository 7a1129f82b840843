use Rattle.std.proofs.Common.{refl, arith, codes}
use Rattle.std.specs.Fmt.{digits}
use Rattle.facts.specs.Trees.{bits, one_and_two, falling, abc, index, rising, ab, view_bytes, data_bytes, size_bytes, hell, iell}
use Rattle.facts.proofs.SmallBytes.{are_bytes}
use Rattle.facts.proofs.trees.tree_texts.Goals as goal

pub returns : goal.returns
unfolding digits
returns c = record {
  small_tree = record {
    spelled = refl;
    schema_fits = (
      omega arith,
      record { format = are_bytes (codes "+s") refl; name = tt; metadata = tt; flags = refl; few_children = omega arith },
      (
        (
          omega arith,
          record { format = are_bytes (codes "i") refl; name = are_bytes (codes "n") refl; metadata = tt; flags = refl; few_children = omega arith },
          tt,
          tt,
        ),
        tt,
      ),
      tt,
    );
    array_fits = (
      omega arith,
      record {
        numbers =
            record { length = refl; null_count = refl; offset = refl; buffers = omega arith; few_children = omega arith };
        buffers = (tt, tt);
        kind = refl;
      },
      (
        (
          omega arith,
          record {
            numbers = record { length = refl; null_count = refl; offset = refl; buffers = omega arith; few_children = omega arith };
            buffers =
                ((are_bytes bits refl, refl), ((are_bytes one_and_two refl, refl), tt));
            kind = refl;
          },
          tt,
          tt,
        ),
        tt,
      ),
      tt,
    );
  };
  other_ends = record {
    spelled = refl;
    schema_fits = (
      omega arith,
      record { format = are_bytes (codes "+s") refl; name = tt; metadata = tt; flags = refl; few_children = omega arith },
      (
        (
          omega arith,
          record { format = are_bytes (codes "i") refl; name = are_bytes (codes "n") refl; metadata = tt; flags = refl; few_children = omega arith },
          tt,
          tt,
        ),
        tt,
      ),
      tt,
    );
    array_fits = (
      omega arith,
      record {
        numbers =
            record { length = refl; null_count = refl; offset = refl; buffers = omega arith; few_children = omega arith };
        buffers = (tt, tt);
        kind = refl;
      },
      (
        (
          omega arith,
          record {
            numbers = record { length = refl; null_count = refl; offset = refl; buffers = omega arith; few_children = omega arith };
            buffers =
                ((are_bytes bits refl, refl), ((are_bytes one_and_two refl, refl), tt));
            kind = refl;
          },
          tt,
          tt,
        ),
        tt,
      ),
      tt,
    );
  };
  cuts = (refl, (refl, (refl, (refl, (refl, (refl, (refl, refl)))))));
  one_line_more = refl;
  no_array = refl;
  report = refl;
  tokens = (refl, (refl, (refl, (refl, (refl, refl)))));
  numbers = (refl, (refl, (refl, (refl, (refl, (refl, refl))))));
  buffers = (refl, (refl, (refl, (refl, refl))));
  falling_offsets = (
    record {
      spelled = refl;
      schema_fits = (
        omega arith,
        record { format = are_bytes (codes "u") refl; name = tt; metadata = tt; flags = refl; few_children = omega arith },
        tt,
        tt,
      );
      array_fits = (
        omega arith,
        record {
          numbers = record { length = refl; null_count = refl; offset = refl; buffers = omega arith; few_children = omega arith };
          buffers =
              (tt, ((are_bytes falling refl, refl), ((are_bytes abc refl, refl), tt)));
          kind = refl;
        },
        tt,
        tt,
      );
    },
    refl,
  );
  index_outside = (
    record {
      spelled = refl;
      schema_fits = (
        omega arith,
        record { format = are_bytes (codes "i") refl; name = tt; metadata = tt; flags = refl; few_children = omega arith },
        tt,
        (omega arith, record { format = are_bytes (codes "u") refl; name = tt; metadata = tt; flags = refl; few_children = omega arith }, tt, tt),
      );
      array_fits = (
        omega arith,
        record {
          numbers = record { length = refl; null_count = refl; offset = refl; buffers = omega arith; few_children = omega arith };
          buffers =
              (tt, ((are_bytes index refl, refl), tt));
          kind = refl;
        },
        tt,
        (
          omega arith,
          record {
            numbers = record { length = refl; null_count = refl; offset = refl; buffers = omega arith; few_children = omega arith };
            buffers =
                (tt, ((are_bytes rising refl, refl), ((are_bytes ab refl, refl), tt)));
            kind = refl;
          },
          tt,
          tt,
        ),
      );
    },
    refl,
  );
  refused_format = record {
    spelled = refl;
    schema_fits = (
      omega arith,
      record { format = are_bytes (codes "q") refl; name = tt; metadata = tt; flags = refl; few_children = omega arith },
      tt,
      tt,
    );
    array_fits = omega arith;
  };
  views = (
    record {
      spelled = refl;
      schema_fits = (
        omega arith,
        record { format = are_bytes (codes "vu") refl; name = tt; metadata = tt; flags = refl; few_children = omega arith },
        tt,
        tt,
      );
      array_fits = (
        omega arith,
        record {
          numbers = record { length = refl; null_count = refl; offset = refl; buffers = omega arith; few_children = omega arith };
          buffers =
              (tt, ((are_bytes (view_bytes hell) refl, refl), ((are_bytes data_bytes refl, refl), ((are_bytes (size_bytes 13) refl, refl), tt))));
          kind = refl;
        },
        tt,
        tt,
      );
    },
    refl,
  );
  misplaced_view = (
    record {
      spelled = refl;
      schema_fits = (
        omega arith,
        record { format = are_bytes (codes "vu") refl; name = tt; metadata = tt; flags = refl; few_children = omega arith },
        tt,
        tt,
      );
      array_fits = (
        omega arith,
        record {
          numbers = record { length = refl; null_count = refl; offset = refl; buffers = omega arith; few_children = omega arith };
          buffers =
              (tt, ((are_bytes (view_bytes hell) refl, refl), ((are_bytes data_bytes refl, refl), ((are_bytes (size_bytes 12) refl, refl), tt))));
          kind = refl;
        },
        tt,
        tt,
      );
    },
    refl,
  );
  wrong_prefix = (
    record {
      spelled = refl;
      schema_fits = (
        omega arith,
        record { format = are_bytes (codes "vu") refl; name = tt; metadata = tt; flags = refl; few_children = omega arith },
        tt,
        tt,
      );
      array_fits = (
        omega arith,
        record {
          numbers = record { length = refl; null_count = refl; offset = refl; buffers = omega arith; few_children = omega arith };
          buffers =
              (tt, ((are_bytes (view_bytes iell) refl, refl), ((are_bytes data_bytes refl, refl), ((are_bytes (size_bytes 13) refl, refl), tt))));
          kind = refl;
        },
        tt,
        tt,
      );
    },
    refl,
  );
}
