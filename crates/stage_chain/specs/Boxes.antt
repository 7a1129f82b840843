-- What a stream in a place of its own means.
use Rattle.stream_face.specs.Streams.{Stream}
use Rattle.stage_chain.specs.declared.boxed.Boxed.{Boxed}

abbrev pub boxed_state : {S : Type 0} → (S → Stream) → Boxed S → Stream
boxed_state state boxed = state boxed.inner.value
