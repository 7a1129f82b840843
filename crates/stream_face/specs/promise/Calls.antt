-- In which order tables are seen, of which others are made.
use Rattle.std.specs.Prelude.{◌≡◌, ◌++◌, ℕ, List, Option, Some, None}
use Rattle.stream_face.specs.promise.Shown.{Seen, rows_of_link}
use Rattle.stream_face.specs.promise.Streams.{Making}

-- ---- a lawful stream

-- the first list begins the second
abbrev pub Begins : {A : Type 0} → List A → List A → Type 0
Begins {A} xs ys = (more : List A) × (ys ≡ xs ++ more)

-- of a link no more was seen than what is made of what was seen of the link of whose tables its own are made
abbrev pub IsMade : Option Making → ℕ → List Seen → Type 0
IsMade None link seen = Unit {0}
IsMade (Some making) link seen = Begins (rows_of_link link seen) (making.makes (rows_of_link making.link seen))
