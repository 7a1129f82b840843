-- What a maker gives, what a round of it puts into the ring, and what is still to come of an `Ahead`.
use Rattle.std.specs.Prelude.{◌≡◌, ℕ, ◌≤◌, ◌*◌, Bool, true, false, List, [], ◌∷◌, ◌++◌, length}
use mathlib.Core.List.{IsPrefix}
use Rattle.rtrb.specs.Ring.{sent, received, known_items, producer_capacity, IsPair}
use Rattle.rtrb.specs.declared.consumer.Consumer.{Consumer}
use Rattle.rtrb.specs.declared.producer.Producer.{Producer}
use Rattle.ahead_ring.specs.declared.maker.Given.{Given}
use Rattle.ahead_ring.specs.declared.maker.Given.TheVariants as given
use Rattle.ahead_ring.specs.declared.round.Ending.{Ending}
use Rattle.ahead_ring.specs.declared.round.Ending.TheVariants as ending

-- what a maker answers, by what was to come before the call and is to come after it: the first item, which leaves; or that there
-- is none. Where memory runs out the maker says so of itself, and nothing is said of what is to come
abbrev pub Makes : {I : Type 0} → Type 0 → Given I → List I → List I → Type 0
Makes spent (given.Item x) before after = before ≡ x ∷ after
Makes spent given.Done before after = (before ≡ []) × (after ≡ [])
Makes spent given.NoMemory before after = spent

-- a maker itself answered that memory ran out
pub record RanOut {M : Type 0} (spent : M → Type 0) : Type 0 where
  pub maker : M
  pub is : spent maker

-- what contracts see of an `Ahead`: the items that are still to come, and whether out of memory is all that it will answer
pub record Coming (I : Type 0) : Type 0 where
  pub coming : List I
  pub refused : Bool

-- what an `Ahead` answers: the first item that is to come, which leaves; that there is none; or that memory ran out for the maker
-- itself (`ran`), which stays: no item is known then, and none was lost
abbrev pub Gives : {I : Type 0} → Type 0 → Given I → Coming I → Coming I → Type 0
Gives ran (given.Item x) before after = before.coming ≡ x ∷ after.coming
Gives ran given.Done before after = (before.coming ≡ []) × (after.coming ≡ [])
Gives ran given.NoMemory before after = ran × (after.refused ≡ true) × (after.coming ≡ before.coming)

-- no item is known, and memory ran out for the next
abbrev pub is_refused : {I : Type 0} → List I → Ending → Bool
is_refused [] ending.NoMemory = true
is_refused [] ending.Done = false
is_refused [] ending.Full = false
is_refused (x ∷ known) e = false

-- ---- a round

-- what ended a round of n items, by what it pushed, what was left then, and what is to come of the maker
abbrev pub Ends : {I : Type 0} → Type 0 → ℕ → Ending → List I → List I → List I → Type 0
Ends ran n ending.Full pushed left after = (length pushed ≡ n) × (left ≡ after)
Ends ran n ending.Done pushed left after = left ≡ []
Ends ran n ending.NoMemory pushed left after = ran

-- a round of at most n items, by what was to come and what was sent before it, and what is to come and what was sent after it
pub record IsRound {I : Type 0} (ran : Type 0) (n : ℕ) (e : Ending) (coming sent after sent' : List I) : Type 0 where
  pub pushed : List I
  pub left : List I
  pub from : coming ≡ pushed ++ left
  pub goes : sent' ≡ sent ++ pushed
  pub few : length pushed ≤ n
  pub ends : Ends ran n e pushed left after

-- ---- round upon round

-- the ends of a ring with places for two rounds; what was sent was received or is known
abbrev pub IsBeside : {T A P : Type 0} → ℕ → Producer T A P → Consumer T A P → Type 0
IsBeside n p c = IsPair p c × (sent p ≡ received c ++ known_items c) × (producer_capacity p ≡ 2 * n)

-- of all that a maker had to give at its start these items were sent, and what is to come of it is the rest; none is left; or some
-- may be
abbrev pub SentOf : {I : Type 0} → Type 0 → Ending → List I → List I → List I → Type 0
SentOf ran ending.Full all sent coming = all ≡ sent ++ coming
SentOf ran ending.Done all sent coming = all ≡ sent
SentOf ran ending.NoMemory all sent coming = ran × IsPrefix sent all

-- the same of the items that were received or are known, where no round is under way
abbrev pub GotOf : {I : Type 0} → Type 0 → Ending → List I → List I → Type 0
GotOf ran ending.Full all got = Unit {0}
GotOf ran ending.Done all got = all ≡ got
GotOf ran ending.NoMemory all got = ran
