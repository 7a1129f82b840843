-- What a tree measures: its live nodes, the holds of their buffers, the units that both keep, and the levels of nodes.
use Rattle.std.specs.Prelude.{ℕ, ◌+◌}
use Rattle.tree_model.specs.promise.TreeData.{Tree, Released, Live, Trees, no_trees, more_trees, MaybeTree, absent, present}

-- the number of the live nodes' holds, where `holds` says how many a node's members have
abbrev mutual
  pub Holds : {M : Type 0} → (M → ℕ) → Tree M → ℕ
  Holds holds Released = 0
  Holds holds (Live members children dictionary) = holds members + (holds_of_all holds children + holds_of_maybe holds dictionary)

  pub holds_of_all : {M : Type 0} → (M → ℕ) → Trees M → ℕ
  holds_of_all holds no_trees = 0
  holds_of_all holds (more_trees t ts) = Holds holds t + holds_of_all holds ts

  pub holds_of_maybe : {M : Type 0} → (M → ℕ) → MaybeTree M → ℕ
  holds_of_maybe holds absent = 0
  holds_of_maybe holds (present t) = Holds holds t

-- the number of live nodes and of their holds
abbrev mutual
  pub Cost : {M : Type 0} → (M → ℕ) → Tree M → ℕ
  Cost holds Released = 0
  Cost holds (Live members children dictionary) = 1 + holds members + (cost_of_all holds children + cost_of_maybe holds dictionary)

  pub cost_of_all : {M : Type 0} → (M → ℕ) → Trees M → ℕ
  cost_of_all holds no_trees = 0
  cost_of_all holds (more_trees t ts) = Cost holds t + cost_of_all holds ts

  pub cost_of_maybe : {M : Type 0} → (M → ℕ) → MaybeTree M → ℕ
  cost_of_maybe holds absent = 0
  cost_of_maybe holds (present t) = Cost holds t

-- the number of live nodes: the cost where no node has a hold
abbrev pub no_holds : {M : Type 0} → M → ℕ
no_holds members = 0

abbrev pub Nodes : {M : Type 0} → Tree M → ℕ
Nodes t = Cost no_holds t
