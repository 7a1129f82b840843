-- How far a run over a stream has come between two moments, and what was counted.
use Rattle.std.specs.Prelude.{◌≡◌, ◌+◌, ◌++◌, ℕ, List, Option, None}
use Rattle.unit_pass.specs.promise.Tally.{risen}
use Rattle.unit_pass.specs.Tally.{Tally}
use Rattle.stream_face.specs.promise.Calls.{IsMade}
use Rattle.stream_face.specs.Calls.{GoesOn}
use Rattle.stream_face.specs.promise.Shown.{Seen, grown, of_link, rows_of_link}
use Rattle.stream_face.specs.Streams.{Keeps, Stream, Traffic}

-- this many blocks and nodes were counted
pub record Counted (made : Traffic) (before after : Tally) : Type 0 where
  pub blocks : after.blocks ≡ risen before.blocks made.blocks
  pub nodes : after.nodes ≡ risen before.nodes made.nodes

-- how far a run has come, from one moment to a later one, while each call answered 0
pub record Ran (old new : Stream) (seen shown_after : Option (List Seen)) (before after : Tally) : Type 0 where
  pub keeps : Keeps old new
  pub works : old.failure ≡ None → new.failure ≡ None
  pub shown : List Seen
  pub told : shown_after ≡ grown seen shown
  pub leaves : (link : ℕ) → old.joints link ≡ of_link link shown ++ new.joints link
  pub in_order : (first rest : List Seen) → shown ≡ first ++ rest → (link : ℕ) → IsMade (old.makings link) link first
  pub goes_on : (link : ℕ) → GoesOn (old.makings link) (new.makings link) new.joints shown (rows_of_link link shown)
  pub made : Traffic
  pub counted : Counted made before after
  pub fewer_blocks : old.due.blocks ≡ made.blocks + new.due.blocks
  pub fewer_nodes : old.due.nodes ≡ made.nodes + new.due.nodes
