use Rattle.std.proofs.Common.{ℕ, List, arith}
use Rattle.value_text.specs.Escapes.{CountsEscapes}
use Rattle.value_text.proofs.EscapeCounts.{piece-long}
use Rattle.value_text.proofs.views.piece_length.Goals as goal

pub returns : goal.returns
returns c = λ (all : List ℕ) (known : CountsEscapes c.args.counts.now all).
    let long = piece-long c.args.counts.now all c.args.from c.args.size known c.requires.there in
    omega (arith, long, c.escaped_length.ensures)
