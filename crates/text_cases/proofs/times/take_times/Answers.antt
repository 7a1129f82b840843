use Rattle.text_cases.proofs.times.take_times.Goals as goal

pub add_times-requires : goal.add_times-requires
add_times-requires c =
    let same = c.requires.same in
    record {
      takes = record {
        kind = same.0;
        values = same.1;
        holds = same.3;
        few = same.4;
        each = c.in_ok-push_each.ensures.taken same.0 same.1 same.2;
      };
    }
