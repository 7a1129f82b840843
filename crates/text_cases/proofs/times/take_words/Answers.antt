use Rattle.std.proofs.Common.{◌++◌, replicate, arith}
use Rattle.std.proofs.lemmas.List.{length-append, length-replicate}
use Rattle.col_build.specs.Items.{value_of}
use Rattle.text_cases.proofs.times.take_words.Goals as goal

pub loop-word-preserved : goal.loop-word-preserved
loop-word-preserved c =
    let held = c.loop-word.invariant in
    let v = value_of c.in_ok-item.item in (
      held.0,
      held.1 ++ replicate c.args.times v,
      c.in_ok-take_times.ensures.pushed held.0 held.1 held.2,
      c.in_ok-take_times.ensures.added held.0 held.1 held.3,
      omega (arith, held.4, c.requires.few, length-append held.1 (replicate c.args.times v), length-replicate c.args.times v),
    )
