-- The format strings of unions ("The Arrow C Data Interface", "Data type description -- format strings": `+ud:I,J,...` is a dense
-- union with these type ids, `+us:I,J,...` a sparse one).
use Rattle.std.specs.Prelude.{◌≡◌, ◌≢◌, ◌⊎◌, ℕ, ◌+◌, ◌<◌, ◌≤◌, Bool, true, false, List, [], ◌∷◌, ◌++◌, length, map, flat_map, codes, decimal, All, AllPairs, Contains}
use Rattle.fmt_string.specs.promise.FormatString.{comma, IsDigit, IsPrefix, NoNumber, NumberThen}

-- what a union's format says: whether it is dense, and the type id of each child
pub record UnionFormat : Type 0 where
  pub dense : Bool
  pub ids : List ℕ

abbrev pub keyword : Bool → List ℕ
keyword true = codes "+ud:"
keyword false = codes "+us:"

-- texts joined by commas
abbrev pub joined : List (List ℕ) → List ℕ
joined [] = []
joined (text ∷ []) = text
joined (text ∷ next ∷ rest) = text ++ comma ++ joined (next ∷ rest)

-- the ids of a union are distinct, and at most 127
pub record AreIds (ids : List ℕ) : Type 0 where
  pub small : All (λ id. id ≤ 127) ids
  pub distinct : AllPairs (λ a b. a ≢ b) ids

-- The text is the keyword, and the ids as decimal numbers joined by commas.
pub record UnionFormatIs (text : List ℕ) (format : UnionFormat) : Type 0 where
  pub spelled : text ≡ keyword format.dense ++ joined (map decimal format.ids)
  pub ids_are : AreIds format.ids

-- ---- the place of the first fault

-- ids with a comma behind each
abbrev pub ids_before : List ℕ → List ℕ
ids_before ids = flat_map (λ id. decimal id ++ comma) ids

-- No new id begins a text: no number does, or one that is above 127 or among the ids before it.
abbrev pub NoNewId : List ℕ → List ℕ → Type 0
NoNewId ids text = NoNumber text ⊎ ((digits more : List ℕ) × (n : ℕ) × NumberThen text digits more n × (127 < n ⊎ Contains ids n))

-- a byte that is no digit and no comma
abbrev pub StartsOtherwise : List ℕ → Type 0
StartsOtherwise [] = ⊥
StartsOtherwise (c ∷ cs) = (IsDigit c → ⊥) × (c ≢ 44)

-- Behind some ids, each with its comma, an id must begin and no new one does. The list alone may be empty.
pub record AtId (list : List ℕ) (place : ℕ) : Type 0 where
  pub ids : List ℕ
  pub rest : List ℕ
  pub split : list ≡ ids_before ids ++ rest
  pub ids_are : AreIds ids
  pub some : 0 < length list
  pub none : NoNewId ids rest
  pub place_is : place ≡ length (ids_before ids)

-- The digits of an id are followed by another byte than a comma.
pub record BehindId (list : List ℕ) (place : ℕ) : Type 0 where
  pub ids : List ℕ
  pub id : ℕ
  pub rest : List ℕ
  pub split : list ≡ ids_before ids ++ decimal id ++ rest
  pub ids_are : AreIds (ids ++ id ∷ [])
  pub other : StartsOtherwise rest
  pub place_is : place ≡ length (ids_before ids ++ decimal id)

-- The first fault of a text: place 0 without a keyword, else that of the list behind it.
abbrev pub UnionFormatFault : List ℕ → ℕ → Type 0
UnionFormatFault text place =
    (((dense : Bool) → IsPrefix (keyword dense) text → ⊥) × (place ≡ 0))
    ⊎ ((dense : Bool) × (list : List ℕ) × (p : ℕ) × (text ≡ keyword dense ++ list) × (AtId list p ⊎ BehindId list p) × (place ≡ 4 + p))
