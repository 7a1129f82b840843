-- The links of a run: what it shows of them, and the blocks and the nodes that it makes.
use Rattle.std.specs.Prelude.{◌≡◌, ℕ, List, [], Option, Result, Ok, Err, if◌then◌else◌}
use Rattle.csv_model.specs.promise.Batches.{batches_in}
use Rattle.csv_model.specs.promise.Header.{header_of}
use Rattle.csv_model.specs.promise.Reading.{Record, behind_header, records_of}
use Rattle.stage_plan.specs.promise.Entries.{entries_of}
use Rattle.stage_chain.specs.promise.Chains.{ShowsFirst, ShowsLinks}
use Rattle.stage_model.specs.promise.Links.{Link, Links}
use Rattle.stage_model.specs.promise.Traffic.{run_blocks, run_nodes}
use Rattle.stage_model.specs.promise.Typing.{plan_of}
use Rattle.stream_face.specs.promise.Shown.{Seen}
use Rattle.tree_check.specs.promise.Checks.{CountsTrees}
use Rattle.unit_pass.specs.promise.Tally.{risen}
use Rattle.run_model.specs.promise.Answer.{Asks, Request, Table, Task, Tree}
use Rattle.run_model.specs.declared.fault.RunFault.{RunFault}
use Rattle.tree_check.specs.promise.Runs.{is_too_long}

-- what is made of what was read, where it was, and else nothing
abbrev pub or_none : {K F X : Type 0} → Result K F → (K → List X) → List X
or_none (Ok read) made = made read
or_none (Err fault) made = []

-- the links of a run over the records of a text, where the header is taken and the stages fit its columns
abbrev pub links_of : Request → List Record → List Link
links_of request records =
    or_none (header_of (entries_of request.entries) records) (λ columns.
    or_none (plan_of columns request.stages) (λ stages.
    Links columns (batches_in request.mark columns (behind_header records) request.batch) stages))

-- the counts of blocks and nodes rise by those of links
pub record LinksTraffic (links : List Link) (old_blocks old_nodes blocks nodes : ℕ) : Type 0 where
  pub blocks_are : blocks ≡ risen old_blocks (run_blocks links)
  pub nodes_are : nodes ≡ risen old_nodes (run_nodes links)

-- the counts rise by what a task makes over an input that isn't too long: the blocks and the nodes of its links, or those of
-- the trees of its text
abbrev pub CountsTask : Task → List ℕ → ℕ → ℕ → ℕ → ℕ → Type 0
CountsTask (Table request) bytes old_blocks old_nodes blocks nodes = LinksTraffic (links_of request (records_of bytes)) old_blocks old_nodes blocks nodes
CountsTask Tree bytes old_blocks old_nodes blocks nodes = CountsTrees bytes old_blocks old_nodes blocks nodes

-- the blocks and the nodes that a run with these words over these bytes makes, which stop at the last value of a count
abbrev pub IsTraffic : List (List ℕ) → List ℕ → ℕ → ℕ → Type 0
IsTraffic words bytes blocks nodes = (task : Task) × Asks words (Ok task) × CountsTask task bytes 0 0 blocks nodes

-- over an input that isn't too long each chunk of each link was shown, once and in order; the check of a tree shows nothing
abbrev pub ShowsTask : Task → List ℕ → Option (List Seen) → Option (List Seen) → Type 0
ShowsTask (Table request) bytes before after = ShowsLinks (links_of request (records_of bytes)) before after
ShowsTask Tree bytes before after = after ≡ before

-- a run with these words over these bytes has shown each chunk of each link, once and in order, and each after all that it is made of
abbrev pub IsShown : List (List ℕ) → List ℕ → Option (List Seen) → Option (List Seen) → Type 0
IsShown words bytes before after = (task : Task) × Asks words (Ok task) × ShowsTask task bytes before after

-- the first chunks of each link were shown, and nothing where there are no links; there are none where the input is too long
abbrev pub ShowsAsked : Result Task RunFault → List ℕ → Option (List Seen) → Option (List Seen) → Type 0
ShowsAsked (Ok (Table request)) bytes before after = ShowsFirst (if is_too_long bytes then [] else links_of request (records_of bytes)) before after
ShowsAsked (Ok Tree) bytes before after = after ≡ before
ShowsAsked (Err fault) bytes before after = after ≡ before

-- it has shown the first chunks of each link, and nothing where there are no links
abbrev pub IsShownInPart : List (List ℕ) → List ℕ → Option (List Seen) → Option (List Seen) → Type 0
IsShownInPart words bytes before after = (asked : Result Task RunFault) → Asks words asked → ShowsAsked asked bytes before after
