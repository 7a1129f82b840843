-- Whole logs of the calls that are made with the passes of a desk: what each does to the units of the passes and to the live nodes, as its
-- contract says, and to the holds of a block, as the machine of holders does.
use Rattle.std.specs.Prelude.{◌≡◌, ◌≢◌, ◌↔◌, ℕ, zero, suc, ◌+◌, ◌≤◌, List, [], ◌∷◌, ◌++◌, length, sum}
use Rattle.std.specs.List.{AllByRecursion}
use Rattle.unit_pass.specs.declared.pass.TheConstants.{SUPPLY}
use Rattle.holder_core.specs.HolderMachine.{Holders, Step}
use Rattle.holder_core.specs.declared.Event.TheVariants.{Split, LetGo}
use Rattle.holder_core.specs.declared.Reply.{Reply}
use Rattle.holder_core.specs.declared.Reply.TheVariants.{NewHolder, Last, Refused}
use Rattle.buf_block.specs.declared.hold.TheConstants.{AMOUNT}

-- ---- a desk, and the calls
-- a block that was made: the amounts of its holds, 0 where one has let go, and how many of these calls answered Freed
pub record DeskBlock : Type 0 where
  pub amounts : List ℕ
  pub freed : ℕ

-- a desk between two calls: the units of each pass, how many nodes are live, and all blocks that were made
pub record DeskScene : Type 0 where
  pub passes : List ℕ
  pub nodes : ℕ
  pub blocks : List DeskBlock

-- the desk as it is opened
abbrev pub opened : DeskScene
opened = record { passes = SUPPLY ∷ []; nodes = 0; blocks = [] }

-- the calls, of whichever thread: make, take and let_go of a block; a node of a tree is built, or ended; a pass is split, or joined
pub data DeskStep : Type 0 where
  makes : DeskStep
  takes : DeskStep
  lets_go : DeskStep
  builds_node : DeskStep
  ends_node : DeskStep
  splits : DeskStep
  joins : DeskStep

-- one pass gives a unit
abbrev pub Draws : List ℕ → List ℕ → Type 0
Draws old new = (l : List ℕ) × (u : ℕ) × (r : List ℕ) × (old ≡ l ++ (u + 1) ∷ r) × (new ≡ l ++ u ∷ r)

-- one pass gives some of its units to a new one, which stands anywhere among the others
abbrev pub Parts : List ℕ → List ℕ → Type 0
Parts old new =
    (l : List ℕ) × (u : ℕ) × (v : ℕ) × (r : List ℕ) × (first : List ℕ) × (others : List ℕ)
    × (old ≡ l ++ (u + v) ∷ r) × (first ++ others ≡ l ++ u ∷ r) × (new ≡ first ++ v ∷ others)

-- a block as it is made, with one hold of the whole amount
abbrev pub made_block : DeskBlock
made_block = record { amounts = AMOUNT ∷ []; freed = 0 }

-- a hold with at least 2 gives 1 to a new one
abbrev pub Takes : List ℕ → List ℕ → Type 0
Takes old new = (l : List ℕ) × (a : ℕ) × (r : List ℕ) × (1 ≤ a) × (old ≡ l ++ (a + 1) ∷ r) × (new ≡ l ++ a ∷ (r ++ 1 ∷ []))

-- a hold gives all of its amount back
abbrev pub LetsGo : List ℕ → List ℕ → Type 0
LetsGo old new = (l : List ℕ) × (a : ℕ) × (r : List ℕ) × (1 ≤ a) × (old ≡ l ++ a ∷ r) × (new ≡ l ++ 0 ∷ r)

-- 1 where nothing is left of the block's amount, so that the answer is Freed
abbrev pub if_last : ℕ → ℕ
if_last zero = 1
if_last (suc n) = 0

-- one block changes so
abbrev pub OneBlock : (DeskBlock → DeskBlock → Type 0) → List DeskBlock → List DeskBlock → Type 0
OneBlock Changes old new =
    (l : List DeskBlock) × (b : DeskBlock) × (c : DeskBlock) × (r : List DeskBlock) × (old ≡ l ++ b ∷ r) × (new ≡ l ++ c ∷ r) × Changes b c

abbrev pub DeskDoes : DeskScene → DeskStep → DeskScene → Type 0
DeskDoes s makes t = Draws s.passes t.passes × (t.nodes ≡ s.nodes) × (t.blocks ≡ s.blocks ++ made_block ∷ [])
DeskDoes s takes t =
    Draws s.passes t.passes × (t.nodes ≡ s.nodes) × OneBlock (λ b c. Takes b.amounts c.amounts × (c.freed ≡ b.freed)) s.blocks t.blocks
DeskDoes s lets_go t =
    Draws t.passes s.passes × (t.nodes ≡ s.nodes)
    × OneBlock (λ b c. LetsGo b.amounts c.amounts × (c.freed ≡ b.freed + if_last (sum c.amounts))) s.blocks t.blocks
DeskDoes s builds_node t = Draws s.passes t.passes × (t.nodes ≡ s.nodes + 1) × (t.blocks ≡ s.blocks)
DeskDoes s ends_node t = Draws t.passes s.passes × (s.nodes ≡ t.nodes + 1) × (t.blocks ≡ s.blocks)
DeskDoes s splits t = Parts s.passes t.passes × (t.nodes ≡ s.nodes) × (t.blocks ≡ s.blocks)
DeskDoes s joins t = Parts t.passes s.passes × (t.nodes ≡ s.nodes) × (t.blocks ≡ s.blocks)

-- these calls, one after another, lead from s to t
abbrev pub DeskLog : DeskScene → List DeskStep → DeskScene → Type 0
DeskLog s [] t = s ≡ t
DeskLog s (e ∷ log) t = (m : DeskScene) × DeskDoes s e m × DeskLog m log t

abbrev pub made_by : DeskStep → ℕ
made_by makes = 1
made_by takes = 0
made_by lets_go = 0
made_by builds_node = 0
made_by ends_node = 0
made_by splits = 0
made_by joins = 0

-- how often a block was made
abbrev pub blocks_made : List DeskStep → ℕ
blocks_made [] = 0
blocks_made (e ∷ log) = made_by e + blocks_made log

-- one pass has all units, as `close` asks
abbrev pub CanClose : DeskScene → Type 0
CanClose s = (l : List ℕ) × (r : List ℕ) × (s.passes ≡ l ++ SUPPLY ∷ r)

-- ---- whatever the log
-- no hold has any of the block's amount, and one of them answered Freed
abbrev pub IsFreed : DeskBlock → Type 0
IsFreed b = (sum b.amounts ≡ 0) × (b.freed ≡ 1)

-- Where the desk can close no node is live, and each block that was made is freed, once.
abbrev pub ClosesWhole : Type 0
ClosesWhole = (log : List DeskStep) (t : DeskScene) → DeskLog opened log t → CanClose t
    → (t.nodes ≡ 0) × (length t.blocks ≡ blocks_made log) × AllByRecursion IsFreed t.blocks

-- the calls of a holder that hands a second hold to another thread, where both let go; each kind of call is among them
abbrev pub two_holders : List DeskStep
two_holders = makes ∷ takes ∷ builds_node ∷ splits ∷ lets_go ∷ ends_node ∷ joins ∷ lets_go ∷ []

-- and then the desk can close
abbrev pub CanEnd : Type 0
CanEnd = (t : DeskScene) × DeskLog opened two_holders t × CanClose t

-- ---- of one block
-- what the machine of holders does where a hold is split or lets go is one of these calls, and its answer is Last exactly where this one's is Freed
abbrev pub TakesAsTheMachine : Type 0
TakesAsTheMachine = (h t : Holders) (holder n : ℕ) → Step h (Split holder 1) (NewHolder n) t → Takes h.amounts t.amounts

abbrev pub LetsGoAsTheMachine : Type 0
LetsGoAsTheMachine = (h t : Holders) (holder : ℕ) (r : Reply) → Step h (LetGo holder) r t → r ≢ Refused
    → LetsGo h.amounts t.amounts × ((r ≡ Last) ↔ (if_last (sum t.amounts) ≡ 1))
