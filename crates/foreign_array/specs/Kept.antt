-- A tree of a foreign producer with its owner, as their holder sees them ("The Arrow C Data Interface", "Memory management").
use Rattle.std.specs.Prelude.{◌≢◌, ℕ, ◌+◌, List, [], ◌∷◌, Option, None, Some}
use Rattle.tree_model.specs.promise.TreeParts.{IsLive}
use Rattle.tree_model.specs.promise.TreeData.{Released}
use Rattle.raw_array.specs.promise.Members.{ArrayTree, Cost}
use Rattle.foreign_array.specs.declared.pair.Pair.{Pair}

-- the tree and its owner, or nothing once they were moved away or released
abbrev pub Kept : Type 0 → Type 0
Kept O = Option (ArrayTree × O)

abbrev pub tree_in : {O : Type 0} → Kept O → ArrayTree
tree_in None = Released
tree_in (Some kept) = kept.0

-- only a live tree is kept
abbrev pub LiveIn : {O : Type 0} → Kept O → Type 0
LiveIn None = Unit {0}
LiveIn (Some kept) = IsLive kept.0

-- none of these is released
abbrev pub AreKept : {O : Type 0} → List (Kept O) → Type 0
AreKept [] = Unit {0}
AreKept (kept ∷ more) = (kept ≢ None) × AreKept more

-- what the owner owes, by what each owner does
abbrev pub owed : {O : Type 0} → (O → ℕ) → Kept O → ℕ
owed owes None = 0
owed owes (Some kept) = owes kept.1

-- the units that come back with the release: those of the tree and those that the owner owes
abbrev pub units_in : {O : Type 0} → (O → ℕ) → Kept O → ℕ
units_in owes kept = Cost (tree_in kept) + owed owes kept

-- The owner was released behind its tree: its release began with the units that the tree gave back. Nothing was called where nothing was.
abbrev pub OwnerReleased : {O : Type 0} → (O → ℕ → ℕ → Type 0) → Kept O → ℕ → ℕ → Type 0
OwnerReleased releases None before after = Unit {0}
OwnerReleased releases (Some kept) before after = releases kept.1 (before + Cost kept.0) after

abbrev pub units_of_all : {O : Type 0} → (O → ℕ) → List (Kept O) → ℕ
units_of_all owes [] = 0
units_of_all owes (kept ∷ more) = units_in owes kept + units_of_all owes more

-- a pair of a tree and its owner, as it is kept in memory
abbrev pub kept_of : {O : Type 0} → Option (Pair O) → Kept O
kept_of None = None
kept_of (Some pair) = Some (pair.array, pair.owner)
