-- Binary metadata, as the Arrow C data interface has it ("ArrowSchema.metadata"): the number of pairs, and
-- then for each pair the length of its key, the key, the length of its value and the value. A number takes
-- four bytes, least significant first, and is at least 0 as an int32.
use Rattle.std.specs.Prelude.{◌≡◌, ℕ, ◌<◌, ◌≤◌, ◌^◌, List, [], ◌++◌, length, take, Option, Some, None, IfSome}
use Rattle.std.specs.List.{flat_map, AllByRecursion}
use Rattle.std.specs.Int.{w32, to_le_bytes, from_le_bytes}
use Rattle.schema_meta.specs.declared.pair.Pair.{Pair}
use Rattle.schema_meta.specs.declared.fault.MetaFault.{MetaFault}
use Rattle.schema_meta.specs.declared.fault.MetaFault.TheVariants.{Short, Negative, Trailing, NoMemory}

-- ---- what is spelled

unfoldable pub number : ℕ → List ℕ
number n = to_le_bytes w32 n

-- a key or a value: its length, and its bytes
abbrev pub text : List ℕ → List ℕ
text bytes = number (length bytes) ++ bytes

abbrev pub pair : Pair → List ℕ
pair p = text p.key ++ text p.value

abbrev pub spelling : List Pair → List ℕ
spelling ps = number (length ps) ++ flat_map pair ps

-- what an int32 can count
abbrev pub IsCount : ℕ → Type 0
IsCount n = n < 2 ^ 31

pub record PairFits (p : Pair) : Type 0 where
  pub key : IsCount (length p.key)
  pub value : IsCount (length p.value)

-- The bytes are the spelling of the pairs.
pub record MetaIs (bytes : List ℕ) (ps : List Pair) : Type 0 where
  pub count : IsCount (length ps)
  pub pairs : AllByRecursion PairFits ps
  pub spelled : bytes ≡ spelling ps

-- ---- faults

-- What precedes a field of a pair: the number of pairs, the pairs that are done, and the next pair's key
-- where that is done too.
pub record Begun : Type 0 where
  pub count : ℕ
  pub done : List Pair
  pub key : Option (List ℕ)

abbrev pub key_text : Option (List ℕ) → List ℕ
key_text None = []
key_text (Some key) = text key

abbrev pub begun_text : Begun → List ℕ
begun_text b = number b.count ++ flat_map pair b.done ++ key_text b.key

-- one more pair is to come, so that these bytes begin a spelling
pub record BegunFits (b : Begun) : Type 0 where
  pub count : IsCount b.count
  pub more : length b.done < b.count
  pub pairs : AllByRecursion PairFits b.done
  pub key : IfSome b.key (λ key. IsCount (length key))

-- Where a field begins.
pub data Place : Type 0 where
  -- the number of pairs
  AtCount : Place
  -- the length of a key or a value
  AtLength : Begun → Place
  -- a key or a value of this length
  AtText : Begun → ℕ → Place

-- the bytes before the place
abbrev pub front : Place → List ℕ
front AtCount = []
front (AtLength b) = begun_text b
front (AtText b len) = begun_text b ++ number len

-- the bytes before the place begin a spelling
abbrev pub IsPlace : Place → Type 0
IsPlace AtCount = Unit {0}
IsPlace (AtLength b) = BegunFits b
IsPlace (AtText b len) = BegunFits b × IsCount len

-- how many bytes the field has
abbrev pub size : Place → ℕ
size AtCount = 4
size (AtLength b) = 4
size (AtText b len) = len

-- the field is a number
abbrev pub IsNumber : Place → Type 0
IsNumber AtCount = Unit {0}
IsNumber (AtLength b) = Unit {0}
IsNumber (AtText b len) = ⊥

-- A field begins behind the first p bytes, and rest is the bytes from there on.
pub record BeginsAt (bytes : List ℕ) (p : ℕ) (here : Place) (rest : List ℕ) : Type 0 where
  pub proper : IsPlace here
  pub split : bytes ≡ front here ++ rest
  pub place : length (front here) ≡ p

-- A field that doesn't lie in the bytes, a number below 0, or bytes behind the last pair.
abbrev pub MetaFaultIs : List ℕ → MetaFault → Type 0
MetaFaultIs bytes (Short p) = (here : Place) × (rest : List ℕ) × BeginsAt bytes p here rest × (length rest < size here)
MetaFaultIs bytes (Negative p) = (here : Place) × (rest : List ℕ) × BeginsAt bytes p here rest × IsNumber here × (4 ≤ length rest) × (2 ^ 31 ≤ from_le_bytes w32 (take 4 rest))
MetaFaultIs bytes (Trailing p) =
    (ps : List Pair) × (rest : List ℕ) × MetaIs (spelling ps) ps × (bytes ≡ spelling ps ++ rest) × (length (spelling ps) ≡ p) × (0 < length rest)
MetaFaultIs bytes NoMemory = ⊥
