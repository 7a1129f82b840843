-- A text has one reading: two trees, or one first fault.
use Rattle.std.proofs.Common.{◌≡◌, ℕ, ◌+◌, ◌≤◌, List, [], ◌∷◌, ◌++◌, length, map, Option, Some, None, Result, Ok, Err, refl, sym, ap, ◌∙◌, arith}
use Rattle.std.proofs.Common.{subst, append_assoc}
use Rattle.std.specs.Prelude.{codes, IfOk, IfErr}
use Rattle.std.specs.List.{AllByRecursion}
use Rattle.std.specs.Str.Lines.{lines}
use Rattle.std.proofs.lemmas.List.{append-nil}
use Rattle.tree_model.specs.promise.TreeData.{Tree, Released, Live, Trees, no_trees, more_trees, MaybeTree, absent, present, tree_list}
use Rattle.raw_schema.specs.promise.Members.{SchemaMembers, SchemaTree}
use Rattle.raw_array.specs.promise.Members.{Buffer, ArrayMembers, ArrayTree, bytes_in, whole}
use Rattle.tree_text.specs.declared.fault.TextFault.{TextFault}
use Rattle.tree_text.specs.declared.fault.TextFault.TheVariants.{Line, TooManyLines, NoMemory}
use Rattle.tree_text.specs.promise.TreeText.{TreeIs, lines_of, lines_of_all, lines_of_maybe, dictionaries, TreeFits, AllFit, MaybeFits}
use Rattle.tree_text.specs.TreeText.{schema_node_lines, released_schema, released_array, buffer_line}
use Rattle.tree_text.specs.promise.TreeText.{array_node_lines, SchemaNodeFits, ArrayNodeFits, ArrayNumbers, numbers_of, schema_line}
use Rattle.tree_text.specs.promise.TreeText.{array_line, BufferFits, AreBytesIf}
use Rattle.tree_text.specs.promise.Standing.{AtFirst, AtSchema, AtArray, NodeLine, ReleasedLine, LiveLine, first_fault, read_schema_line}
use Rattle.tree_text.specs.Standing.{all_places}
use Rattle.tree_text.specs.promise.Standing.{read_array_line, read_buffer_line}
use Rattle.tree_text.specs.promise.Answers.{Reads}
use Rattle.tree_text.specs.Answers.{Gives}
use Rattle.tree_text.proofs.LineBack.{schema_back, array_back}
use Rattle.tree_text.proofs.BufferLines.{buffer_back}
use Rattle.tree_text.proofs.Stands.{stands, schema_gone, schema_stands, array_gone, array_stands}
use Rattle.tree_text.proofs.TreeLaws.{tree_stands}

-- ---- first parts of lists of lines

abbrev first : List ℕ → List (List ℕ) → List ℕ
first d [] = d
first d (x ∷ xs) = x

abbrev rest : List (List ℕ) → List (List ℕ)
rest [] = []
rest (x ∷ xs) = xs

head_is : (x y : List ℕ) (xs ys : List (List ℕ)) → x ∷ xs ≡ y ∷ ys → (x ≡ y) × (xs ≡ ys)
head_is x y xs ys e = (ap (first x) e, ap rest e)

-- what a node's own lines tell
pub record OwnSame {M : Type 0} (m n : M) (c e d f : ℕ) (r s : List (List ℕ)) : Type 0 where
  pub own : m ≡ n
  pub children : c ≡ e
  pub dictionary : d ≡ f
  pub behind : r ≡ s

module _ {M : Type 0} (gone : List ℕ) (own_lines : M → ℕ → ℕ → List (List ℕ)) (NodeFits : M → ℕ → Type 0)
    (apart : (m : M) (c d : ℕ) (r s : List (List ℕ)) → NodeFits m c → d ≤ 1 → own_lines m c d ++ r ≡ gone ∷ s → ⊥)
    (same : (m n : M) (c e d f : ℕ) (r s : List (List ℕ)) → NodeFits m c → NodeFits n e → d ≤ 1 → f ≤ 1 → own_lines m c d ++ r ≡ own_lines n e f ++ s
    → OwnSame m n c e d f r s) where
  one_or_none : (d : MaybeTree M) → dictionaries d ≤ 1
  one_or_none absent = omega arith
  one_or_none (present t) = omega arith

  mutual
    pub one_tree : (level : ℕ) (t u : Tree M) (r s : List (List ℕ)) → TreeFits NodeFits level t → TreeFits NodeFits level u
        → lines_of gone own_lines t ++ r ≡ lines_of gone own_lines u ++ s → (t ≡ u) × (r ≡ s)
    one_tree level Released Released r s fits others e = (refl, (head_is gone gone r s e).1)
    one_tree level Released (Live n us g) r s fits others e =
        let below = lines_of_all gone own_lines us ++ lines_of_maybe gone own_lines g in
        let own = own_lines n (length (tree_list us)) (dictionaries g) in
        absurd (apart n (length (tree_list us)) (dictionaries g) (below ++ s) r others.1 (one_or_none g) (sym (append_assoc own below s) ∙ sym e))
    one_tree level (Live m ts d) Released r s fits others e =
        let below = lines_of_all gone own_lines ts ++ lines_of_maybe gone own_lines d in
        let own = own_lines m (length (tree_list ts)) (dictionaries d) in
        absurd (apart m (length (tree_list ts)) (dictionaries d) (below ++ r) s fits.1 (one_or_none d) (sym (append_assoc own below r) ∙ e))
    one_tree level (Live m ts d) (Live n us g) r s fits others e =
        let all_t = lines_of_all gone own_lines ts in
        let one_t = lines_of_maybe gone own_lines d in
        let all_u = lines_of_all gone own_lines us in
        let one_u = lines_of_maybe gone own_lines g in
        let own_t = own_lines m (length (tree_list ts)) (dictionaries d) in
        let own_u = own_lines n (length (tree_list us)) (dictionaries g) in
        let split : own_t ++ ((all_t ++ one_t) ++ r) ≡ own_u ++ ((all_u ++ one_u) ++ s) = sym (append_assoc own_t (all_t ++ one_t) r) ∙ e
        ∙ append_assoc own_u (all_u ++ one_u) s in
        let own = same m n (length (tree_list ts)) (length (tree_list us)) (dictionaries d) (dictionaries g) ((all_t ++ one_t) ++ r) ((all_u ++ one_u) ++ s)
        fits.1 others.1 (one_or_none d) (one_or_none g) split in
        let below : all_t ++ (one_t ++ r) ≡ all_u ++ (one_u ++ s) = sym (append_assoc all_t one_t r) ∙ own.behind ∙ append_assoc all_u one_u s in
        let children = all_trees (level + 1) ts us (one_t ++ r) (one_u ++ s) fits.2 others.2 own.children below in
        let dictionary = one_dictionary (level + 1) d g r s fits.3 others.3 own.dictionary children.1 in
        ((λ i. Live (own.own i) (children.0 i) (dictionary.0 i)), dictionary.1)

    all_trees : (level : ℕ) (ts us : Trees M) (r s : List (List ℕ)) → AllFit NodeFits level ts → AllFit NodeFits level us
        → length (tree_list ts) ≡ length (tree_list us)
        → lines_of_all gone own_lines ts ++ r ≡ lines_of_all gone own_lines us ++ s → (ts ≡ us) × (r ≡ s)
    all_trees level no_trees no_trees r s fits others count e = (refl, e)
    all_trees level no_trees (more_trees u us) r s fits others count e = absurd (omega (arith, count))
    all_trees level (more_trees t ts) no_trees r s fits others count e = absurd (omega (arith, count))
    all_trees level (more_trees t ts) (more_trees u us) r s fits others count e =
        let first_t = lines_of gone own_lines t in
        let more_t = lines_of_all gone own_lines ts in
        let first_u = lines_of gone own_lines u in
        let more_u = lines_of_all gone own_lines us in
        let split = sym (append_assoc first_t more_t r) ∙ e ∙ append_assoc first_u more_u s in
        let one = one_tree level t u (more_t ++ r) (more_u ++ s) fits.0 others.0 split in
        let more = all_trees level ts us r s fits.1 others.1 (omega (arith, count)) one.1 in
        ((λ i. more_trees (one.0 i) (more.0 i)), more.1)

    one_dictionary : (level : ℕ) (d g : MaybeTree M) (r s : List (List ℕ)) → MaybeFits NodeFits level d → MaybeFits NodeFits level g
        → dictionaries d ≡ dictionaries g
        → lines_of_maybe gone own_lines d ++ r ≡ lines_of_maybe gone own_lines g ++ s → (d ≡ g) × (r ≡ s)
    one_dictionary level absent absent r s fits others count e = (refl, e)
    one_dictionary level absent (present u) r s fits others count e = absurd (omega (arith, count))
    one_dictionary level (present t) absent r s fits others count e = absurd (omega (arith, count))
    one_dictionary level (present t) (present u) r s fits others count e =
        let one = one_tree level t u r s fits others e in
        (ap present one.0, one.1)

-- ---- lines that tell the same

abbrev own_or : {M : Type 0} → M → NodeLine M → M
own_or d ReleasedLine = d
own_or d (LiveLine m c e) = m

abbrev children_in : {M : Type 0} → NodeLine M → ℕ
children_in ReleasedLine = 0
children_in (LiveLine m c e) = c

abbrev dictionaries_in : {M : Type 0} → NodeLine M → ℕ
dictionaries_in ReleasedLine = 0
dictionaries_in (LiveLine m c e) = e

abbrev IsLiveLine : {M : Type 0} → NodeLine M → Type 0
IsLiveLine ReleasedLine = ⊥
IsLiveLine (LiveLine m c e) = Unit {0}

told_same : {M : Type 0} (x y : NodeLine M) → Some x ≡ Some y → x ≡ y
told_same x y e = search e

schema_apart : (m : SchemaMembers) (c d : ℕ) (r s : List (List ℕ)) → SchemaNodeFits m c → d ≤ 1 → schema_node_lines m c d ++ r ≡ released_schema ∷ s → ⊥
schema_apart m c d r s fits one e =
    let line = (head_is (schema_line m c d) released_schema r s e).0 in
    let told : Some (LiveLine m c d) ≡ Some ReleasedLine = sym (schema_back m c d fits one) ∙ ap read_schema_line line in
    subst IsLiveLine (told_same (LiveLine m c d) ReleasedLine told) tt

schema_same : (m n : SchemaMembers) (c e d f : ℕ) (r s : List (List ℕ)) → SchemaNodeFits m c → SchemaNodeFits n e → d ≤ 1 → f ≤ 1
    → schema_node_lines m c d ++ r ≡ schema_node_lines n e f ++ s → OwnSame m n c e d f r s
schema_same m n c e d f r s fits others one other_one q =
    let lines = head_is (schema_line m c d) (schema_line n e f) r s q in
    let told = told_same (LiveLine m c d) (LiveLine n e f) (sym (schema_back m c d fits one) ∙ ap read_schema_line lines.0
    ∙ schema_back n e f others other_one) in
    record { own = ap (own_or m) told; children = ap children_in told; dictionary = ap dictionaries_in told; behind = lines.1 }

array_apart : (m : ArrayMembers) (c d : ℕ) (r s : List (List ℕ)) → ArrayNodeFits m c → d ≤ 1 → array_node_lines m c d ++ r ≡ released_array ∷ s → ⊥
array_apart m c d r s fits one e =
    let line = (head_is (array_line (numbers_of m) c d) released_array (map buffer_line m.buffers ++ r) s e).0 in
    let told : Some (LiveLine (numbers_of m) c d) ≡ Some ReleasedLine = sym (array_back (numbers_of m) c d fits.numbers one) ∙ ap read_array_line line in
    subst IsLiveLine (told_same (LiveLine (numbers_of m) c d) ReleasedLine told) tt

buffer_bytes : (b : Option Buffer) → BufferFits b → AreBytesIf (bytes_in b)
buffer_bytes None fits = tt
buffer_bytes (Some b) fits = fits.0

with_bytes : Option (List ℕ) → Option Buffer
with_bytes None = None
with_bytes (Some bytes) = Some (record { bytes = bytes; amount = whole })

buffer_of_bytes : (b : Option Buffer) → BufferFits b → b ≡ with_bytes (bytes_in b)
unfolding with_bytes
buffer_of_bytes None fits = refl
buffer_of_bytes (Some b) fits = ap (λ (n : ℕ). Some (record { bytes = b.bytes; amount = n })) fits.1

one_buffer : (b g : Option Buffer) → BufferFits b → BufferFits g → buffer_line b ≡ buffer_line g → b ≡ g
one_buffer b g fits others e =
    let told : Some (bytes_in b) ≡ Some (bytes_in g) = sym (buffer_back (bytes_in b) (buffer_bytes b fits)) ∙ ap read_buffer_line e
    ∙ buffer_back (bytes_in g) (buffer_bytes g others) in
    let same : bytes_in b ≡ bytes_in g = search told in
    buffer_of_bytes b fits ∙ ap with_bytes same ∙ sym (buffer_of_bytes g others)

same_buffers : (bs gs : List (Option Buffer)) (r s : List (List ℕ)) → AllByRecursion BufferFits bs → AllByRecursion BufferFits gs → length bs ≡ length gs
    → map buffer_line bs ++ r ≡ map buffer_line gs ++ s → (bs ≡ gs) × (r ≡ s)
same_buffers [] [] r s fits others count e = (refl, e)
same_buffers [] (g ∷ gs) r s fits others count e = absurd (omega (arith, count))
same_buffers (b ∷ bs) [] r s fits others count e = absurd (omega (arith, count))
same_buffers (b ∷ bs) (g ∷ gs) r s fits others count e =
    let lines = head_is (buffer_line b) (buffer_line g) (map buffer_line bs ++ r) (map buffer_line gs ++ s) e in
    let more = same_buffers bs gs r s fits.1 others.1 (omega (arith, count)) lines.1 in
    ((λ i. one_buffer b g fits.0 others.0 lines.0 i ∷ more.0 i), more.1)

array_same : (m n : ArrayMembers) (c e d f : ℕ) (r s : List (List ℕ)) → ArrayNodeFits m c → ArrayNodeFits n e → d ≤ 1 → f ≤ 1
    → array_node_lines m c d ++ r ≡ array_node_lines n e f ++ s → OwnSame m n c e d f r s
array_same m n c e d f r s fits others one other_one q =
    let lines = head_is (array_line (numbers_of m) c d) (array_line (numbers_of n) e f) (map buffer_line m.buffers ++ r) (map buffer_line n.buffers ++ s) q in
    let told = told_same (LiveLine (numbers_of m) c d) (LiveLine (numbers_of n) e f) (sym (array_back (numbers_of m) c d fits.numbers one)
    ∙ ap read_array_line lines.0 ∙ array_back (numbers_of n) e f others.numbers other_one) in
    let numbers : numbers_of m ≡ numbers_of n = ap (own_or (numbers_of m)) told in
    let buffers = same_buffers m.buffers n.buffers r s fits.buffers others.buffers (ap (λ (x : ArrayNumbers). x.buffers) numbers) lines.1 in
    let kind = fits.kind ∙ sym others.kind in
    record {
      own = λ i. record { length = (numbers i).length; null_count = (numbers i).null_count; offset = (numbers i).offset; buffers = buffers.0 i; kind = kind i };
      children = ap children_in told;
      dictionary = ap dictionaries_in told;
      behind = buffers.1;
    }

-- ---- the whole text

trees_same : (bytes : List ℕ) (s t : SchemaTree) (a b : ArrayTree) → TreeIs bytes s a → TreeIs bytes t b → (s ≡ t) × (a ≡ b)
trees_same bytes s t a b first second =
    let tails = (head_is (codes "tree 1") (codes "tree 1") (lines_of released_schema schema_node_lines s ++ lines_of released_array array_node_lines a)
    (lines_of released_schema schema_node_lines t ++ lines_of released_array array_node_lines b) (sym first.spelled ∙ second.spelled)).1 in
    let schemas = one_tree released_schema schema_node_lines SchemaNodeFits schema_apart schema_same 1 s t (lines_of released_array array_node_lines a)
    (lines_of released_array array_node_lines b) first.schema_fits second.schema_fits tails in
    let arrays = one_tree released_array array_node_lines ArrayNodeFits array_apart array_same 1 a b [] [] first.array_fits second.array_fits
    (append-nil (lines_of released_array array_node_lines a) ∙ schemas.1 ∙ sym (append-nil (lines_of released_array array_node_lines b))) in
    (schemas.0, arrays.0)

no_fault : (bytes : List ℕ) (s : SchemaTree) (a : ArrayTree) → TreeIs bytes s a → first_fault all_places (lines bytes) 1 ≡ None
no_fault bytes s a is =
    let schema = lines_of released_schema schema_node_lines s in
    let array = lines_of released_array array_node_lines a in
    ap (λ (x : List (List ℕ)). first_fault all_places x 1) is.spelled
    ∙ stands AtFirst [] (AtSchema 1 ∷ AtArray 1 ∷ []) (codes "tree 1") (schema ++ array) 1 refl
    ∙ tree_stands released_schema schema_node_lines SchemaNodeFits AtSchema schema_gone schema_stands 1 s is.schema_fits (AtArray 1 ∷ []) array (1 + 1)
    ∙ ap (λ (x : List (List ℕ)). first_fault (AtArray 1 ∷ []) x (1 + 1 + length schema)) (sym (append-nil array))
    ∙ tree_stands released_array array_node_lines ArrayNodeFits AtArray array_gone array_stands 1 a is.array_fits [] [] (1 + 1 + length schema)

pub one_reading : (bytes : List ℕ) (first second : Result (SchemaTree × ArrayTree) TextFault) → Reads bytes first → Reads bytes second → first ≡ second
one_reading bytes (Ok x) (Ok y) a b = let same = trees_same bytes x.0 y.0 x.1 y.1 a.1 b.1 in λ i. Ok (same.0 i, same.1 i)
one_reading bytes (Ok x) (Err (Line n)) a b = let clash : None ≡ Some n = sym (no_fault bytes x.0 x.1 a.1) ∙ b.1 in absurd cc
one_reading bytes (Ok x) (Err TooManyLines) a b = absurd (omega (arith, a.0, b))
one_reading bytes (Ok x) (Err NoMemory) a b = absurd b
one_reading bytes (Err (Line n)) (Ok y) a b = let clash : None ≡ Some n = sym (no_fault bytes y.0 y.1 b.1) ∙ a.1 in absurd cc
one_reading bytes (Err (Line n)) (Err (Line m)) a b = let same : n ≡ m = search (sym a.1 ∙ b.1) in ap (λ (k : ℕ). Err (Line k)) same
one_reading bytes (Err (Line n)) (Err TooManyLines) a b = absurd (omega (arith, a.0, b))
one_reading bytes (Err (Line n)) (Err NoMemory) a b = absurd b
one_reading bytes (Err TooManyLines) (Ok y) a b = absurd (omega (arith, a, b.0))
one_reading bytes (Err TooManyLines) (Err (Line m)) a b = absurd (omega (arith, a, b.0))
one_reading bytes (Err TooManyLines) (Err TooManyLines) a b = refl
one_reading bytes (Err TooManyLines) (Err NoMemory) a b = absurd b
one_reading bytes (Err NoMemory) second a b = absurd a

-- an answer that is right is the only one
pub gives : (bytes : List ℕ) (r : Result (SchemaTree × ArrayTree) TextFault) → IfOk r (λ trees. Reads bytes (Ok (trees.0, trees.1)))
    → IfErr r (λ f. (f ≡ NoMemory → ⊥) → Reads bytes (Err f))
    → (read : Result (SchemaTree × ArrayTree) TextFault) → Reads bytes read → Gives r read
gives bytes (Ok trees) found fault read is = one_reading bytes read (Ok trees) is found
gives bytes (Err NoMemory) found fault read is = tt
gives bytes (Err (Line n)) found fault read is =
    one_reading bytes read (Err (Line n)) is (fault (λ e. let clash : ◌≡◌ {A = TextFault} (Line n) NoMemory = e in absurd cc))
gives bytes (Err TooManyLines) found fault read is =
    one_reading bytes read (Err TooManyLines) is (fault (λ e. let clash : ◌≡◌ {A = TextFault} TooManyLines NoMemory = e in absurd cc))
