use Rattle.std.proofs.Common.{◌∙◌, ap, refl}
use Rattle.stream_face.specs.Streams.{Stream}
use Rattle.number_stream.proofs.Fitting.{joints-beside}
use Rattle.number_stream.specs.Numbers.{number_stream}
use Rattle.number_stream.proofs.sum_of_window.Goals as goal

pub read-requires-clause-own_link : goal.read-requires-clause-own_link
read-requires-clause-own_link g c = λ _ _.
    let inner = c.in-Ok.numbers.inner in
    ap (λ (s : Stream). s.joints 1) c.start-window.ensures.means
    ∙ joints-beside _ (number_stream inner.next inner.wants inner.released) c.in-Ok.ensures.link refl
