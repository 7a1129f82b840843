-- Lines of the two trees are where they are expected.
use Rattle.std.proofs.Common.{◌≡◌, ℕ, ◌+◌, ◌≤◌, List, [], ◌∷◌, ◌++◌, length, map, replicate, Option, Some, None, refl, ap, ◌∙◌, arith}
use Rattle.std.proofs.Common.{append_assoc}
use Rattle.std.specs.List.{AllByRecursion}
use Rattle.std.specs.Option.{option_map}
use Rattle.std.proofs.lemmas.Bool.{le-leb}
use Rattle.raw_schema.specs.promise.Members.{SchemaMembers}
use Rattle.raw_array.specs.promise.Members.{Buffer, ArrayMembers, bytes_in, holds, holds_of}
use Rattle.tree_text.specs.promise.TreeText.{schema_line, array_line, numbers_of, array_node_lines}
use Rattle.tree_text.specs.TreeText.{schema_node_lines, buffer_line, released_schema, released_array}
use Rattle.tree_text.specs.promise.TreeText.{SchemaNodeFits, ArrayNodeFits, BufferFits, AreBytesIf, deepest_level}
use Rattle.tree_text.specs.promise.Standing.{Place, AtSchema, AtArray, AtBuffer, next, first_fault, fault_or, schema_parts}
use Rattle.tree_text.specs.promise.Standing.{array_parts}
use Rattle.tree_text.proofs.LineBack.{schema_back, array_back}
use Rattle.tree_text.proofs.BufferLines.{buffer_back}

pub stands : (place : Place) (parts places : List Place) (line : List ℕ) (rest : List (List ℕ)) (n : ℕ) → next place line ≡ Some parts
    → first_fault (place ∷ places) (line ∷ rest) n ≡ first_fault (parts ++ places) rest (n + 1)
stands place parts places line rest n is = ap (λ (o : Option (List Place)). fault_or n
    (option_map (λ (ps : List Place). first_fault (ps ++ places) rest (n + 1)) o)) is

pub stops : (place : Place) (places : List Place) (line : List ℕ) (rest : List (List ℕ)) (n : ℕ) → next place line ≡ None
    → first_fault (place ∷ places) (line ∷ rest) n ≡ Some n
stops place places line rest n is = ap (λ (o : Option (List Place)). fault_or n (option_map (λ (ps : List Place). first_fault (ps ++ places) rest (n + 1)) o))
    is

-- ---- the schema tree

pub schema_gone : (level : ℕ) (places : List Place) (rest : List (List ℕ)) (n : ℕ) → level ≤ deepest_level
    → first_fault (AtSchema level ∷ places) (released_schema ∷ rest) n ≡ first_fault places rest (n + 1)
schema_gone level places rest n low = stands (AtSchema level) [] places released_schema rest n (rw (le-leb level 100 low) refl)

pub schema_stands : (own : SchemaMembers) (c d level : ℕ) (places : List Place) (rest : List (List ℕ)) (n : ℕ) → level ≤ deepest_level → SchemaNodeFits own c
    → d ≤ 1
    → first_fault (AtSchema level ∷ places) (schema_node_lines own c d ++ rest) n
    ≡ first_fault (replicate (c + d) (AtSchema (level + 1)) ++ places) rest (n + length (schema_node_lines own c d))
schema_stands own c d level places rest n low fits one =
    stands (AtSchema level) (replicate (c + d) (AtSchema (level + 1))) places (schema_line own c d) rest n
    (rw (le-leb level 100 low) (ap (option_map (schema_parts level)) (schema_back own c d fits one)))

pub schema_some : (own : SchemaMembers) (c d : ℕ) → 1 + 0 ≤ length (schema_node_lines own c d)
schema_some own c d = omega arith

-- ---- the array tree

pub array_gone : (level : ℕ) (places : List Place) (rest : List (List ℕ)) (n : ℕ) → level ≤ deepest_level
    → first_fault (AtArray level ∷ places) (released_array ∷ rest) n ≡ first_fault places rest (n + 1)
array_gone level places rest n low = stands (AtArray level) [] places released_array rest n (rw (le-leb level 100 low) refl)

buffer_fits : (buffer : Option Buffer) → BufferFits buffer → AreBytesIf (bytes_in buffer)
buffer_fits None fits = tt
buffer_fits (Some buffer) fits = fits.0

pub buffers_stand : (bs : List (Option Buffer)) → AllByRecursion BufferFits bs → (places : List Place) (rest : List (List ℕ)) (n : ℕ)
    → first_fault (replicate (length bs) AtBuffer ++ places) (map buffer_line bs ++ rest) n ≡ first_fault places rest (n + length bs)
buffers_stand [] fits places rest n = ap (first_fault places rest) (omega arith)
buffers_stand (b ∷ bs) fits places rest n =
    let total : n + 1 + length bs ≡ n + length (b ∷ bs) = omega arith in
    let back = buffer_back (bytes_in b) (buffer_fits b fits.0) in
    stands AtBuffer [] (replicate (length bs) AtBuffer ++ places) (buffer_line b) (map buffer_line bs ++ rest) n
    (ap (option_map (λ (told : Option (List ℕ)). [])) back)
    ∙ buffers_stand bs fits.1 places rest (n + 1)
    ∙ ap (first_fault places rest) total

length-map : (bs : List (Option Buffer)) → length (map buffer_line bs) ≡ length bs
length-map [] = refl
length-map (b ∷ bs) = omega (arith, length-map bs)

pub array_stands : (own : ArrayMembers) (c d level : ℕ) (places : List Place) (rest : List (List ℕ)) (n : ℕ) → level ≤ deepest_level → ArrayNodeFits own c
    → d ≤ 1
    → first_fault (AtArray level ∷ places) (array_node_lines own c d ++ rest) n
    ≡ first_fault (replicate (c + d) (AtArray (level + 1)) ++ places) rest (n + length (array_node_lines own c d))
array_stands own c d level places rest n low fits one =
    let own_buffers = replicate (length own.buffers) AtBuffer in
    let below = replicate (c + d) (AtArray (level + 1)) in
    let total : n + 1 + length own.buffers ≡ n + length (array_node_lines own c d) = omega (arith, length-map own.buffers) in
    stands (AtArray level) (own_buffers ++ below) places (array_line (numbers_of own) c d) (map buffer_line own.buffers ++ rest) n
    (rw (le-leb level 100 low) (ap (option_map (array_parts level)) (array_back (numbers_of own) c d fits.numbers one)))
    ∙ ap (λ (ps : List Place). first_fault ps (map buffer_line own.buffers ++ rest) (n + 1)) (append_assoc own_buffers below places)
    ∙ buffers_stand own.buffers fits.buffers (below ++ places) rest (n + 1)
    ∙ ap (first_fault (below ++ places) rest) total

holds_le : (bs : List (Option Buffer)) → holds_of bs ≤ length bs
holds_le [] = omega arith
holds_le (None ∷ bs) = omega (arith, holds_le bs)
holds_le (Some b ∷ bs) = omega (arith, holds_le bs)

pub array_some : (own : ArrayMembers) (c d : ℕ) → 1 + holds own ≤ length (array_node_lines own c d)
array_some own c d = omega (arith, holds_le own.buffers, length-map own.buffers)
