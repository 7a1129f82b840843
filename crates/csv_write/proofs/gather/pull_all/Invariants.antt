use Rattle.std.proofs.Common.{◌≡◌, ℕ, List, length}
use Rattle.tree_model.specs.promise.TreeData.{Released}
use Rattle.csv_write.specs.CsvTexts.{HasText}
use Rattle.stream_face.specs.Meaning.{meaning}
use Rattle.csv_write.specs.Runs.{Ran}
use Rattle.csv_write.proofs.RunLemmas.{Wrote}
use Rattle.csv_write.proofs.gather.pull_all.Given as goal

-- how far the run has come, and what was added to the text
abbrev pub invariant-chunks : goal.invariant-chunks
invariant-chunks g l =
    let start = meaning g.U.ArrayStream.state l.fn.stream in
    let now = meaning g.U.ArrayStream.state l.stream in
    record {
      ran : Ran start now (g.T.Tap.seen l.fn.tap) (g.T.Tap.seen l.tap) l.fn.pass l.pass;
      wrote : (mark : List ℕ) (written : List ℕ) → HasText l.fn.text mark start.columns written → Wrote mark start.columns start now written l.text;
      units : l.pass.units ≡ l.fn.pass.units;
      chunk : l.chunk ≡ Released;
    }

abbrev pub decreases-chunks : goal.decreases-chunks
decreases-chunks g l = length (meaning g.U.ArrayStream.state l.stream).ahead
