-- A text has a reading: where each line may be, and none is missing, its lines are those of two trees.
use Rattle.std.proofs.Common.{◌≡◌, ℕ, zero, suc, ◌+◌, ◌≤◌, List, [], ◌∷◌, ◌++◌, length, map, replicate, Option, Some, None, Result, Ok, Err}
use Rattle.std.proofs.Common.{refl, sym, ap, ◌∙◌, arith, subst, append_assoc, inl, inr}
use Rattle.std.specs.Prelude.{codes}
use Rattle.std.specs.List.{AllByRecursion}
use Rattle.std.specs.Option.{option_map}
use Rattle.std.specs.Str.{bytes_eq}
use Rattle.std.specs.Str.Lines.{lines}
use Rattle.std.proofs.lemmas.Bool.{cases_Bool, cases_lt, lt-leb, le-leb}
use Rattle.std.proofs.lemmas.Slice.Eq.{bytes_eq-Decides}
use Rattle.std.proofs.lemmas.List.{append-nil}
use Rattle.tree_model.specs.promise.TreeData.{Tree, Released, Live, trees, maybe_tree, tree_list}
use Rattle.tree_model.proofs.Lists.{tree_list-trees}
use Rattle.raw_schema.specs.promise.Members.{SchemaMembers, SchemaTree}
use Rattle.raw_array.specs.promise.Members.{Buffer, ArrayMembers, ArrayTree, whole}
use Rattle.tree_text.specs.declared.fault.TextFault.{TextFault}
use Rattle.tree_text.specs.declared.fault.TextFault.TheVariants.{Line, TooManyLines}
use Rattle.tree_text.specs.promise.TreeText.{TreeIs, lines_of, lines_of_all, lines_of_maybe, dictionaries, TreeFits, AllFit, array_node_lines}
use Rattle.tree_text.specs.TreeText.{schema_node_lines, schema_lines, array_lines, released_schema, released_array, buffer_line}
use Rattle.tree_text.specs.promise.TreeText.{SchemaNodeFits, ArrayNodeFits, ArrayNumbers, ArrayNumbersFit, numbers_of, array_line}
use Rattle.tree_text.specs.promise.TreeText.{BufferFits, deepest_level}
use Rattle.tree_text.specs.promise.Standing.{Place, AtFirst, AtSchema, AtArray, AtBuffer, NodeLine, ReleasedLine, LiveLine, first_fault, next}
use Rattle.tree_text.specs.Standing.{all_places}
use Rattle.tree_text.specs.promise.Standing.{schema_parts, array_parts}
use Rattle.tree_text.specs.promise.Standing.{read_schema_line, read_array_line, read_buffer_line}
use Rattle.tree_text.specs.promise.Answers.{Reads, most_lines}
use Rattle.tree_text.specs.Cursors.{listed, with_buffers}
use Rattle.tree_text.proofs.LineBack.{SchemaTold, schema_read, ArrayTold, array_read}
use Rattle.tree_text.proofs.BufferLines.{BufferTold, buffer_read}
use Rattle.tree_text.proofs.Stands.{stands, stops, schema_gone, schema_stands, array_gone, array_stands}
use Rattle.tree_text.proofs.TreeLaws.{AllFit-front, AllFit-back}
use Rattle.tree_text.proofs.TreeSteps.{lines-listed, one-listed, fits-listed}

-- the first lines are those of one thing, and more may follow
pub record Group {X : Type 0} (lines_in : X → List (List ℕ)) (Fits : X → Type 0) (More : List (List ℕ) → Type 0) (ls : List (List ℕ)) : Type 0 where
  pub it : X
  pub rest : List (List ℕ)
  pub is : ls ≡ lines_in it ++ rest
  pub fits : Fits it
  pub more : More rest

-- lines that what is expected at places spells, one behind the other
abbrev Spelled : List Place → List (List ℕ) → Type 0
Spelled [] ls = ls ≡ []
Spelled (AtFirst ∷ places) ls = Group (λ (u : Unit {0}). codes "tree 1" ∷ []) (λ (u : Unit {0}). Unit {0}) (Spelled places) ls
Spelled (AtSchema level ∷ places) ls = Group (lines_of released_schema schema_node_lines) (TreeFits SchemaNodeFits level) (Spelled places) ls
Spelled (AtArray level ∷ places) ls = Group (lines_of released_array array_node_lines) (TreeFits ArrayNodeFits level) (Spelled places) ls
Spelled (AtBuffer ∷ places) ls = Group (λ (b : Option Buffer). buffer_line b ∷ []) BufferFits (Spelled places) ls

-- ---- a list of trees as children and a dictionary

record Parts {X : Type 0} (c d : ℕ) (xs : List X) : Type 0 where
  pub children : List X
  pub dictionary : Option X
  pub is : xs ≡ children ++ listed dictionary
  pub counted : length children ≡ c
  pub one : length (listed dictionary) ≡ d

parts_of : {X : Type 0} (c d : ℕ) (xs : List X) → d ≤ 1 → length xs ≡ c + d → Parts c d xs
parts_of zero d [] one count = record { children = []; dictionary = None; is = refl; counted = refl; one = omega (arith, count) }
parts_of zero d (x ∷ []) one count = record { children = []; dictionary = Some x; is = refl; counted = refl; one = omega (arith, count) }
parts_of zero d (x ∷ y ∷ xs) one count = absurd (omega (arith, one, count))
parts_of (suc c) d [] one count = absurd (omega (arith, count))
parts_of {X} (suc c) d (x ∷ xs) one count =
    let more = parts_of c d xs one (omega (arith, count)) in
    record {
      children = x ∷ more.children;
      dictionary = more.dictionary;
      is = ap (λ (ys : List X). x ∷ ys) more.is;
      counted = omega (arith, more.counted);
      one = more.one;
    }

-- ---- trees

module _ {M : Type 0} (gone : List ℕ) (own_lines : M → ℕ → ℕ → List (List ℕ)) (NodeFits : M → ℕ → Type 0) (at : ℕ → Place)
    (gone_stands : (level : ℕ) (places : List Place) (rest : List (List ℕ)) (n : ℕ) → level ≤ deepest_level
    → first_fault (at level ∷ places) (gone ∷ rest) n ≡ first_fault places rest (n + 1))
    (own_stands : (own : M) (c d level : ℕ) (places : List Place) (rest : List (List ℕ)) (n : ℕ) → level ≤ deepest_level → NodeFits own c → d ≤ 1
    → first_fault (at level ∷ places) (own_lines own c d ++ rest) n
    ≡ first_fault (replicate (c + d) (at (level + 1)) ++ places) rest (n + length (own_lines own c d)))
    (spelled_first : (level : ℕ) (places : List Place) (ls : List (List ℕ)) → Spelled (at level ∷ places) ls
    → Group (lines_of gone own_lines) (TreeFits NodeFits level) (Spelled places) ls) where
  -- this many trees on one level, one behind the other
  record TreesSpelled (level count : ℕ) (places : List Place) (ls : List (List ℕ)) : Type 0 where
    pub all : List (Tree M)
    pub rest : List (List ℕ)
    pub is : ls ≡ lines_of_all gone own_lines (trees all) ++ rest
    pub fits : AllFit NodeFits level (trees all)
    pub counted : length all ≡ count
    pub more : Spelled places rest

  gathered : (level count : ℕ) (places : List Place) (ls : List (List ℕ)) → Spelled (replicate count (at level) ++ places) ls
      → TreesSpelled level count places ls
  gathered level zero places ls spelled = record { all = []; rest = ls; is = refl; fits = tt; counted = refl; more = spelled }
  gathered level (suc count) places ls spelled =
      let one = spelled_first level (replicate count (at level) ++ places) ls spelled in
      let more = gathered level count places one.rest one.more in
      let here = lines_of gone own_lines one.it in
      record {
        all = one.it ∷ more.all;
        rest = more.rest;
        is = one.is ∙ ap (λ (x : List (List ℕ)). here ++ x) more.is ∙ sym (append_assoc here (lines_of_all gone own_lines (trees more.all)) more.rest);
        fits = (one.fits, more.fits);
        counted = omega (arith, more.counted);
        more = more.more;
      }

  -- a live node and what is below it
  pub live_spelled : (level c d : ℕ) (own : M) (places : List Place) (ls : List (List ℕ)) → level ≤ deepest_level → NodeFits own c → d ≤ 1
      → Spelled (replicate (c + d) (at (level + 1)) ++ places) ls
      → Group (lines_of gone own_lines) (TreeFits NodeFits level) (Spelled places) (own_lines own c d ++ ls)
  live_spelled level c d own places ls low fits one spelled =
      let below = gathered (level + 1) (c + d) places ls spelled in
      let parts = parts_of c d below.all one below.counted in
      let c_is : length (tree_list (trees parts.children)) ≡ c = ap length (tree_list-trees parts.children) ∙ parts.counted in
      let d_is : dictionaries (maybe_tree parts.dictionary) ≡ d = one-listed gone own_lines NodeFits at gone_stands own_stands parts.dictionary ∙ parts.one in
      let all_fit = subst (λ (xs : List (Tree M)). AllFit NodeFits (level + 1) (trees xs)) parts.is below.fits in
      let children = lines_of_all gone own_lines (trees parts.children) in
      let dictionary = lines_of_maybe gone own_lines (maybe_tree parts.dictionary) in
      let lines_is : lines_of_all gone own_lines (trees below.all) ≡ children ++ dictionary =
      ap (λ (xs : List (Tree M)). lines_of_all gone own_lines (trees xs)) parts.is
      ∙ lines-listed gone own_lines NodeFits at gone_stands own_stands parts.children parts.dictionary in
      record {
        it = Live own (trees parts.children) (maybe_tree parts.dictionary);
        rest = below.rest;
        is = ap (λ (x : List (List ℕ)). own_lines own c d ++ x) (below.is ∙ ap (λ (x : List (List ℕ)). x ++ below.rest) lines_is)
            ∙ sym (append_assoc (own_lines own c d) (children ++ dictionary) below.rest)
            ∙ (λ i. (own_lines own (sym c_is i) (sym d_is i) ++ (children ++ dictionary)) ++ below.rest);
        fits = (
          low,
          subst (NodeFits own) (sym c_is) fits,
          AllFit-front NodeFits (level + 1) parts.children (listed parts.dictionary) all_fit,
          fits-listed gone own_lines NodeFits at gone_stands own_stands (level + 1) parts.dictionary
              (AllFit-back NodeFits (level + 1) parts.children (listed parts.dictionary) all_fit),
        );
        more = below.more;
      }

-- ---- buffers

record BuffersSpelled (count : ℕ) (places : List Place) (ls : List (List ℕ)) : Type 0 where
  pub all : List (Option Buffer)
  pub rest : List (List ℕ)
  pub is : ls ≡ map buffer_line all ++ rest
  pub fits : AllByRecursion BufferFits all
  pub counted : length all ≡ count
  pub more : Spelled places rest

gathered_buffers : (count : ℕ) (places : List Place) (ls : List (List ℕ)) → Spelled (replicate count AtBuffer ++ places) ls → BuffersSpelled count places ls
gathered_buffers zero places ls spelled = record { all = []; rest = ls; is = refl; fits = tt; counted = refl; more = spelled }
gathered_buffers (suc count) places ls spelled =
    let more = gathered_buffers count places spelled.rest spelled.more in
    record {
      all = spelled.it ∷ more.all;
      rest = more.rest;
      is = spelled.is ∙ ap (λ (x : List (List ℕ)). buffer_line spelled.it ∷ x) more.is;
      fits = (spelled.fits, more.fits);
      counted = omega (arith, more.counted);
      more = more.more;
    }

-- ---- one line and what it announces

other_parts : {X : Type 0} (f : X → List Place) (told : X) (parts : List Place) → option_map f (Some told) ≡ Some parts → f told ≡ parts
other_parts f told parts e = search e

no_parts : {X : Type 0} (f : X → List Place) (told : Option X) (parts : List Place) → told ≡ None → option_map f told ≡ Some parts → ⊥
no_parts f told parts none e = let clash : None ≡ Some parts = sym (ap (option_map f) none) ∙ e in absurd cc

schema_told : (level : ℕ) (line : List ℕ) (places : List Place) (rest : List (List ℕ)) (told : NodeLine SchemaMembers) → level ≤ deepest_level
    → SchemaTold line told
    → Spelled (schema_parts level told ++ places) rest → Spelled (AtSchema level ∷ places) (line ∷ rest)
schema_told level line places rest ReleasedLine low is more = record {
  it = Released;
  rest = rest;
  is = ap (λ (l : List ℕ). l ∷ rest) is;
  fits = low;
  more =
      more;
}
schema_told level line places rest (LiveLine own c d) low is more =
    subst (λ (l : List ℕ). Spelled (AtSchema level ∷ places) (l ∷ rest)) (sym is.spelled)
    (live_spelled released_schema schema_node_lines SchemaNodeFits AtSchema schema_gone schema_stands (λ l ps ls spelled. spelled) level c d own places rest
    low is.fits is.one more)

array_told : (level : ℕ) (line : List ℕ) (places : List Place) (rest : List (List ℕ)) (told : NodeLine ArrayNumbers) → level ≤ deepest_level
    → ArrayTold line told
    → Spelled (array_parts level told ++ places) rest → Spelled (AtArray level ∷ places) (line ∷ rest)
array_told level line places rest ReleasedLine low is more = record {
  it = Released;
  rest = rest;
  is = ap (λ (l : List ℕ). l ∷ rest) is;
  fits = low;
  more =
      more;
}
array_told level line places rest (LiveLine own c d) low is more =
    let below = replicate (c + d) (AtArray (level + 1)) in
    let buffers = gathered_buffers own.buffers (below ++ places) rest
    (subst (λ (ps : List Place). Spelled ps rest) (append_assoc (replicate own.buffers AtBuffer) below places) more) in
    let made : ArrayMembers = with_buffers own buffers.all in
    let numbers : own ≡ numbers_of made = ap (λ (n : ℕ). record own { buffers = n }) (sym buffers.counted) in
    let fits : ArrayNodeFits made c = record {
      numbers = subst (λ (n : ArrayNumbers). ArrayNumbersFit n c) numbers is.fits;
      buffers = buffers.fits;
      kind =
          refl;
    } in
    let node = live_spelled released_array array_node_lines ArrayNodeFits AtArray array_gone array_stands (λ l ps ls spelled. spelled) level c d made places
    buffers.rest low fits is.one buffers.more in
    let first : line ≡ array_line (numbers_of made) c d = is.spelled ∙ ap (λ (n : ArrayNumbers). array_line n c d) numbers in
    subst (λ (ls : List (List ℕ)). Spelled (AtArray level ∷ places) ls) (λ i. sym first i ∷ sym buffers.is i) node

buffer_told : (line : List ℕ) (places : List Place) (rest : List (List ℕ)) (told : Option (List ℕ)) → BufferTold line told → Spelled places rest
    → Spelled (AtBuffer ∷ places) (line ∷ rest)
buffer_told line places rest None is more = record { it = None; rest = rest; is = ap (λ (l : List ℕ). l ∷ rest) is.spelled; fits = tt; more = more }
buffer_told line places rest (Some bytes) is more = record {
  it = Some (record { bytes = bytes; amount = whole });
  rest = rest;
  is = ap (λ (l : List ℕ). l ∷ rest) is.spelled;
  fits = (is.fit, refl);
  more = more;
}

at_schema : (level : ℕ) (line : List ℕ) (parts places : List Place) (rest : List (List ℕ)) (told : Option (NodeLine SchemaMembers)) → level ≤ deepest_level
    → read_schema_line line ≡ told
    → option_map (schema_parts level) told ≡ Some parts → Spelled (parts ++ places) rest → Spelled (AtSchema level ∷ places) (line ∷ rest)
at_schema level line parts places rest None low is announced more = let clash : None ≡ Some parts = announced in absurd cc
at_schema level line parts places rest (Some told) low is announced more =
    schema_told level line places rest told low (schema_read line told is)
    (subst (λ (ps : List Place). Spelled (ps ++ places) rest) (sym (other_parts (schema_parts level) told parts announced)) more)

at_array : (level : ℕ) (line : List ℕ) (parts places : List Place) (rest : List (List ℕ)) (told : Option (NodeLine ArrayNumbers)) → level ≤ deepest_level
    → read_array_line line ≡ told
    → option_map (array_parts level) told ≡ Some parts → Spelled (parts ++ places) rest → Spelled (AtArray level ∷ places) (line ∷ rest)
at_array level line parts places rest None low is announced more = let clash : None ≡ Some parts = announced in absurd cc
at_array level line parts places rest (Some told) low is announced more =
    array_told level line places rest told low (array_read line told is)
    (subst (λ (ps : List Place). Spelled (ps ++ places) rest) (sym (other_parts (array_parts level) told parts announced)) more)

at_buffer : (line : List ℕ) (parts places : List Place) (rest : List (List ℕ)) (told : Option (Option (List ℕ))) → read_buffer_line line ≡ told
    → option_map (λ (bytes : Option (List ℕ)). []) told ≡ Some parts → Spelled (parts ++ places) rest → Spelled (AtBuffer ∷ places) (line ∷ rest)
at_buffer line parts places rest None is announced more = let clash : None ≡ Some parts = announced in absurd cc
at_buffer line parts places rest (Some told) is announced more =
    buffer_told line places rest told (buffer_read line told is)
    (subst (λ (ps : List Place). Spelled (ps ++ places) rest) (sym (other_parts (λ (bytes : Option (List ℕ)). []) told parts announced)) more)

-- a line that may be there
at_place : (place : Place) (line : List ℕ) (parts places : List Place) (rest : List (List ℕ)) → next place line ≡ Some parts → Spelled (parts ++ places) rest
    → Spelled (place ∷ places) (line ∷ rest)
at_place AtFirst line parts places rest is more = elim (cases_Bool (bytes_eq line (codes "tree 1"))) [
  | inl same ↦
      let told : ◌≡◌ {A = Option (List Place)} (Some []) (Some parts) = sym (rw same refl) ∙ is in
      let none : [] ≡ parts = search told in
      record {
        it = tt;
        rest = rest;
        is = ap (λ (l : List ℕ). l ∷ rest) ((bytes_eq-Decides line (codes "tree 1")).0 same);
        fits = tt;
        more = subst (λ (ps : List Place). Spelled (ps ++ places) rest) (sym none) more;
      }
  | inr other ↦ let clash : None ≡ Some parts = sym (rw other refl) ∙ is in absurd cc
]
at_place (AtSchema level) line parts places rest is more = elim (cases_lt 100 level) [
  | inl deep ↦ let clash : None ≡ Some parts = sym (rw (lt-leb level 100 deep) refl) ∙ is in absurd cc
  | inr low ↦
      let told : option_map (schema_parts level) (read_schema_line line) ≡ Some parts = sym (rw (le-leb level 100 low) refl) ∙ is in
      at_schema level line parts places rest (read_schema_line line) low refl told more
]
at_place (AtArray level) line parts places rest is more = elim (cases_lt 100 level) [
  | inl deep ↦ let clash : None ≡ Some parts = sym (rw (lt-leb level 100 deep) refl) ∙ is in absurd cc
  | inr low ↦
      let told : option_map (array_parts level) (read_array_line line) ≡ Some parts = sym (rw (le-leb level 100 low) refl) ∙ is in
      at_array level line parts places rest (read_array_line line) low refl told more
]
at_place AtBuffer line parts places rest is more = at_buffer line parts places rest (read_buffer_line line) refl is more

one_line : (place : Place) (line : List ℕ) (places : List Place) (rest : List (List ℕ)) (n : ℕ) (told : Option (List Place)) → next place line ≡ told
    → first_fault (place ∷ places) (line ∷ rest) n ≡ None
    → ((parts : List Place) → first_fault (parts ++ places) rest (n + 1) ≡ None → Spelled (parts ++ places) rest) → Spelled (place ∷ places) (line ∷ rest)
one_line place line places rest n None is none later = let clash : None ≡ Some n = sym none ∙ stops place places line rest n is in absurd cc
one_line place line places rest n (Some parts) is none later =
    at_place place line parts places rest is (later parts (sym (stands place parts places line rest n is) ∙ none))

all_spelled : (places : List Place) (ls : List (List ℕ)) (n : ℕ) → first_fault places ls n ≡ None → Spelled places ls
all_spelled [] [] n none = refl
all_spelled [] (line ∷ rest) n none = let clash : None ≡ Some n = sym none in absurd cc
all_spelled (place ∷ places) [] n none = let clash : None ≡ Some n = sym none in absurd cc
all_spelled (place ∷ places) (line ∷ rest) n none =
    one_line place line places rest n (next place line) refl none (λ parts later. all_spelled (parts ++ places) rest (n + 1) later)

-- ---- the whole text

trees_of : (bytes : List ℕ) → first_fault all_places (lines bytes) 1 ≡ None → (t : SchemaTree × ArrayTree) × TreeIs bytes t.0 t.1
trees_of bytes none =
    let first = all_spelled all_places (lines bytes) 1 none in
    let schema = first.more in
    let array = schema.more in
    let end : array.rest ≡ [] = array.more in (
      (schema.it, array.it),
      record {
        spelled = first.is ∙ ap (λ (x : List (List ℕ)). codes "tree 1" ∷ x)
            (schema.is ∙ ap (λ (x : List (List ℕ)). schema_lines schema.it ++ x)
            (array.is ∙ ap (λ (x : List (List ℕ)). array_lines array.it ++ x) end ∙ append-nil (array_lines array.it)));
        schema_fits = schema.fits;
        array_fits = array.fits;
      },
    )

named : (bytes : List ℕ) (fault : Option ℕ) → length (lines bytes) ≤ most_lines → first_fault all_places (lines bytes) 1 ≡ fault
    → (read : Result (SchemaTree × ArrayTree) TextFault) × Reads bytes read
named bytes None few is = let found = trees_of bytes is in (Ok found.0, (few, found.1))
named bytes (Some n) few is = (Err (Line n), (few, is))

pub some_reading : (bytes : List ℕ) → (read : Result (SchemaTree × ArrayTree) TextFault) × Reads bytes read
some_reading bytes = elim (cases_lt most_lines (length (lines bytes))) [
  | inl many ↦ (Err TooManyLines, many)
  | inr few ↦ named bytes (first_fault all_places (lines bytes) 1) few refl
]
