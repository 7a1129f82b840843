-- A run over a stream to its end, call by call.
use Rattle.std.specs.Prelude.{◌≡◌, ◌++◌, ℕ, List, Option}
use Rattle.stream_face.specs.promise.Calls.{Begins, IsMade}
use Rattle.stream_face.specs.promise.Shown.{Seen, Shown, grown, of_link}
use Rattle.stream_face.specs.promise.Streams.{Making}

-- a run has shown all tables of each link, each once and in order, and each after all that it is made of: at each moment no more was seen of a
-- link than what is made of what was seen of the one before it
pub record ShowsAll (joints : ℕ → List Shown) (makings : ℕ → Option Making) (before after : Option (List Seen)) : Type 0 where
  pub shown : List Seen
  pub told : after ≡ grown before shown
  pub all : (link : ℕ) → of_link link shown ≡ joints link
  pub in_order : (first rest : List Seen) → shown ≡ first ++ rest → (link : ℕ) → IsMade (makings link) link first

-- a run has shown the first tables of each link, in this order
pub record ShowsSome (joints : ℕ → List Shown) (makings : ℕ → Option Making) (before after : Option (List Seen)) : Type 0 where
  pub shown : List Seen
  pub told : after ≡ grown before shown
  pub begins : (link : ℕ) → Begins (of_link link shown) (joints link)
  pub in_order : (first rest : List Seen) → shown ≡ first ++ rest → (link : ℕ) → IsMade (makings link) link first
