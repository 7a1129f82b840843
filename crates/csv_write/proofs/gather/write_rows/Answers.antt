use Rattle.std.proofs.Common.{arith, ℕ, Err, Vec}
use Rattle.std.specs.Global.{Global}
use Rattle.std.proofs.lemmas.Grind.{common_steps}
use Rattle.csv_write.proofs.RunLemmas.{counted-still, on-row}
use Rattle.csv_write.proofs.gather.write_rows.Goals as goal

pub returns-in-Ok-finish : goal.returns-in-Ok-finish
returns-in-Ok-finish g c =
    record {
      text = λ mark written has. c.in-Ok-finish.ensures mark _ _ (c.in-Ok.ensures.text mark written has);
      ends = grind (arith, common_steps);
      row = grind (arith, common_steps);
      units = grind (arith, common_steps);
      counts = grind (arith, common_steps);
      refused_counts = λ _. tt;
      shows = grind (arith, common_steps);
      refused_shows = λ _. tt;
      shows_some = grind (arith, common_steps);
    }

pub returns-in-Err-finish : goal.returns-in-Err-finish
returns-in-Err-finish g c =
    record {
      text = grind (arith, common_steps);
      ends = grind (arith, common_steps);
      row = grind (arith, common_steps);
      units = grind (arith, common_steps);
      counts = grind (arith, common_steps);
      refused_counts = λ _. tt;
      shows = grind (arith, common_steps);
      refused_shows = λ _. tt;
      shows_some = grind (arith, common_steps);
    }

pub returns-in-Err : goal.returns-in-Err
returns-in-Err g c =
    record {
      text = grind (arith, common_steps);
      ends = grind (arith, common_steps);
      row = grind (arith, common_steps);
      units = grind (arith, common_steps);
      counts = grind (arith, common_steps);
      refused_counts = λ fresh. on-row {A = Vec ℕ Global} (Err c.in-Err.fault)
          (counted-still _ c.args.pass.now c.pull_all-pulled.new.pass c.release.new.pass c.release.ensures.blocks c.release.ensures.nodes)
          (c.in-Err.ensures.refused_counts fresh);
      shows = grind (arith, common_steps);
      refused_shows = c.in-Err.ensures.refused_shows;
      shows_some = grind (arith, common_steps);
    }
