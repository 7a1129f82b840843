-- What a turn of a step comes to: a call of the stream below it that answered 0, and what the step made of it.
use Rattle.std.proofs.Common.{arith, ◌≡◌, ◌∙◌, ◌<◌, ◌+◌, ◌++◌, ℕ, ℤ, pos, negsuc, of_z, w32, Bool, true, false, true≢false, IsTrue, List, [], ◌∷◌, length, map, get_or, refl, sym, ap, subst, inl, inr}
use Rattle.std.specs.Prelude.{Option, None, Some}
use Rattle.std.specs.List.{sum_by}
use Rattle.std.proofs.lemmas.Int.{ints}
use Rattle.std.proofs.lemmas.List.{append_assoc, append_cancel_right, map-append}
use Rattle.std.proofs.lemmas.List.Sums.{sum_by-cons}
use Rattle.data_types.specs.ColumnView.{column_of}
use Rattle.data_types.specs.promise.Table.{Column, Row}
use Rattle.data_types.specs.declared.kind.ColumnType.{ColumnType}
use Rattle.data_types.specs.declared.row_fault.RowFault.{RowFault}
use Rattle.tree_model.specs.promise.TreeParts.{IsLive}
use Rattle.tree_model.specs.promise.TreeData.{Live, Released}
use Rattle.raw_array.specs.promise.Members.{ArrayTree, Cost}
use Rattle.data_types.specs.promise.ColumnKinds.{type_of_columns}
use Rattle.data_types.specs.promise.KindTrees.{KindTree}
use Rattle.data_types.specs.KindTrees.{TypedOk}
use Rattle.unit_pass.specs.promise.Tally.{risen}
use Rattle.unit_pass.specs.Tally.{Tally}
use Rattle.stream_face.specs.Calls.{Answers, Counts, GoesOn, IsCode}
use Rattle.stream_face.specs.Lawful.{IsChunkOf, LawfulColumns, LawfulTables, total_rows}
use Rattle.stream_face.specs.promise.Shown.{Seen, Shown, of_link, rows_of_link, rows_shown}
use Rattle.stream_face.specs.Streams.{IsFresh, Stream, Traffic}
use Rattle.stages.specs.Steps.{GivesNothing, GivesOut, IsNext, TakesIn, Turns, due_by, stepped}
use Rattle.stream_face.proofs.Orders.{nil_part}
use Rattle.stages.proofs.Runs.{Called, Ran, Ran-fresh}

abbrev pub Tables : Type 0
Tables = List (List Row)

-- ---- codes

-- a code that a test found to be 0
pub zero_code : (code : ℤ) → IsCode code → of_z w32 code ≡ 0 → code ≡ pos 0
zero_code (pos n) is zero = ap pos zero
zero_code (negsuc n) is zero = absurd (omega (arith, ints, is.0))

-- ---- what is still to come

pub lawful-rest : (columns : List Column) (all : Tables) (rows : List Row) (more : Tables) → all ≡ rows ∷ more → LawfulTables columns all
    → LawfulTables columns more
lawful-rest columns all rows more is lawful =
    let here : LawfulTables columns (rows ∷ more) = subst (LawfulTables columns) is lawful in
    record { tables = here.tables.1; rows = omega (arith, here.rows) }

pub shorter : (old new : Tables) (rows : List Row) → old ≡ rows ∷ new → length new < length old
shorter old new rows e = let many = ap (length {A = List Row}) e in omega (arith, many)

-- a turn that gives nothing leaves all units
pub none-left : (a b d e chunk : ℕ) (given : ArrayTree) → e + Cost given ≡ d + chunk → given ≡ Released → d + chunk ≡ b → b ≡ a → e ≡ a
none-left a b d e chunk given turned gone called kept = let none = ap Cost gone in omega (arith, turned, none, called, kept)

none-if : {A : Type 0} (o : Option A) → ((x : A) → o ≡ Some x → ⊥) → o ≡ None
none-if None never = refl
none-if (Some x) never = absurd (never x refl)

-- a run after which the stream is fresh began with a fresh one
pub began-fresh : (s m : Stream) (seen later : Option (List Seen)) (before after : Tally) → IsTrue s.lawful → Ran s m seen later before after → IsFresh m
    → IsFresh s
began-fresh s m seen later before after lawful ran fresh = record {
  lawful = lawful;
  no_failure = none-if s.failure (λ refusal failed. let k : None ≡ Some refusal = sym fresh.no_failure ∙ ran.failed refusal failed in cc);
}

-- ---- what is made of the tables that were taken

total-append : (a b : Tables) → total_rows (a ++ b) ≡ total_rows a + total_rows b
total-append [] b = omega arith
total-append (rows ∷ a) b = let rest = total-append a b in omega (arith, rest)

pub lawful-first : (columns : List Column) (a b : Tables) → LawfulTables columns (a ++ b) → LawfulTables columns a
lawful-first columns [] b lawful = record { tables = tt; rows = omega arith }
lawful-first columns (rows ∷ a) b lawful =
    let total = total-append a b in
    let rest = lawful-first columns a b (record { tables = lawful.tables.1; rows = omega (arith, lawful.rows) }) in
    record { tables = (lawful.tables.0, rest.tables); rows = omega (arith, lawful.rows, total) }

-- from one moment to a later one: the tables that were taken, and that of any further ones the same is given as before of all
pub record Goes (takes : Tables → Type 0) (A0 A : Tables → Tables) (start now : Tables) : Type 0 where
  pub pulled : Tables
  pub all : start ≡ pulled ++ now
  pub on : (some rest : Tables) → now ≡ some ++ rest → takes some × (A0 (pulled ++ some) ≡ A some)

pub Goes-start : (takes : Tables → Type 0) (A : Tables → Tables) (start : Tables) → ((some rest : Tables) → start ≡ some ++ rest → takes some)
    → Goes takes A A start start
Goes-start takes A start can = record { pulled = []; all = refl; on = λ some rest e. (can some rest e, refl) }

pub Goes-next : (takes after : Tables → Type 0) (A0 A B : Tables → Tables) (start m n : Tables) (rows : List Row) → Goes takes A0 A start m → m ≡ rows ∷ n
    → ((some rest : Tables) → n ≡ some ++ rest → takes (rows ∷ some) → after some × (A (rows ∷ some) ≡ B some)) → Goes after A0 B start n
Goes-next takes after A0 A B start m n rows goes got law = record {
  pulled = goes.pulled ++ rows ∷ [];
  all = goes.all ∙ ap (λ l. goes.pulled ++ l) got ∙ sym (append_assoc goes.pulled (rows ∷ []) n);
  on = λ some rest e.
      let here = goes.on (rows ∷ some) rest (got ∙ ap (λ l. rows ∷ l) e) in
      let next = law some rest e here.0 in
      (next.0, ap A0 (append_assoc goes.pulled (rows ∷ []) some) ∙ here.1 ∙ next.1);
}

-- the tables that were taken are those that were seen
pub pulled-seen : (s n : Stream) (link : ℕ) (shown : List Seen) (pulled : Tables) → s.joints link ≡ of_link link shown ++ n.joints link
    → rows_shown (s.joints link) ≡ s.ahead → rows_shown (n.joints link) ≡ n.ahead → s.ahead ≡ pulled ++ n.ahead → rows_of_link link shown ≡ pulled
pulled-seen s n link shown pulled leaves at to all =
    append_cancel_right (rows_of_link link shown) pulled n.ahead (ap (λ l. rows_of_link link shown ++ l) (sym to)
    ∙ sym (map-append (λ (table : Shown). table.rows) (of_link link shown) (n.joints link)) ∙ ap rows_shown (sym leaves) ∙ at ∙ all)

-- what a call gives is what is made of those that were seen, where of any further ones it is followed by what is made of them then
module _ (s n : Stream) (link after : ℕ) (A0 B : Tables → Tables) (shown : List Seen) (given : Tables) (same : after ≡ link)
    (leaves : s.joints link ≡ of_link link shown ++ n.joints link) (at : rows_shown (s.joints link) ≡ s.ahead)
    (to : rows_shown (n.joints link) ≡ n.ahead) where
  gives-made : (pulled : Tables) → s.ahead ≡ pulled ++ n.ahead → ((some rest : Tables) → n.ahead ≡ some ++ rest → A0 (pulled ++ some) ≡ given ++ B some)
      → GoesOn (Some (record { link = link; makes = A0 })) (Some (record { link = after; makes = B })) n.joints shown given
  gives-made pulled all law = (
    same,
    λ more begins. ap (λ l. A0 (l ++ more)) (pulled-seen s n link shown pulled leaves at to all) ∙ law more begins.0 (sym to ∙ begins.1),
  )

  -- at the end
  pub gives-end : (m : Stream) (pulled : Tables) → s.ahead ≡ pulled ++ m.ahead → m.ahead ≡ [] → n.ahead ≡ [] → A0 s.ahead ≡ given ++ B n.ahead
      → GoesOn (Some (record { link = link; makes = A0 })) (Some (record { link = after; makes = B })) n.joints shown given
  gives-end m pulled all before behind is =
      let here : s.ahead ≡ pulled ++ n.ahead = all ∙ ap (λ l. pulled ++ l) (before ∙ sym behind) in
      gives-made pulled here (λ some rest e.
      let none : n.ahead ≡ some = behind ∙ sym (nil_part some rest (sym behind ∙ e)) in
      subst (λ l. A0 (pulled ++ l) ≡ given ++ B l) none (ap A0 (sym here) ∙ is))

  -- for a chunk
  pub gives-next : (m : Stream) (takes : Tables → Type 0) (A : Tables → Tables) (rows out : List Row) → Goes takes A0 A s.ahead m.ahead
      → m.ahead ≡ rows ∷ n.ahead → given ≡ out ∷ []
      → ((some rest : Tables) → n.ahead ≡ some ++ rest → takes (rows ∷ some) → A (rows ∷ some) ≡ out ∷ B some)
      → GoesOn (Some (record { link = link; makes = A0 })) (Some (record { link = after; makes = B })) n.joints shown given
  gives-next m takes A rows out goes got one law =
      gives-made (goes.pulled ++ rows ∷ []) (goes.all ∙ ap (λ l. goes.pulled ++ l) got ∙ sym (append_assoc goes.pulled (rows ∷ []) n.ahead))
      (λ some rest e.
      let here = goes.on (rows ∷ some) rest (got ∙ ap (λ l. rows ∷ l) e) in
      ap A0 (append_assoc goes.pulled (rows ∷ []) some) ∙ here.1 ∙ law some rest e here.0 ∙ ap (λ l. l ++ B some) (sym one))

-- of the first of the tables that are left
pub next-first : (columns : List Column) (rows : List Row) (all some rest : Tables) (typed : KindTree) (chunk : ArrayTree) → all ≡ some ++ rest
    → IsNext columns rows all typed chunk → IsNext columns rows some typed chunk
next-first columns rows all some rest typed chunk e next = record {
  columns = next.columns;
  tables = lawful-first columns (rows ∷ some) rest (subst (λ l. LawfulTables columns (rows ∷ l)) e next.tables);
  typed_is = next.typed_is;
  types = next.types;
  is = next.is;
  live = next.live;
}

-- ---- a run, and a call after it that answered 0

-- the table that the call gave
pub record IsGot (s m n : Stream) (chunk : ArrayTree) : Type 0 where
  pub rows : List Row
  pub ahead : m.ahead ≡ rows ∷ n.ahead
  pub is : IsChunkOf s.columns rows chunk

-- or the end
pub record IsEnd (s m n : Stream) : Type 0 where
  pub before_end : m.ahead ≡ []
  pub behind_end : n.ahead ≡ []
  pub ending : s.ending ≡ None

module _ (s m n : Stream) (code : ℤ) (chunk : ArrayTree) (seen middle later : Option (List Seen)) (a b d : Tally) (ran : Ran s m seen middle a b)
    (call : Called m n code chunk middle later b d) (works : code ≡ pos 0) (lawful : IsTrue s.lawful) (answers : IsFresh m → Answers m n code chunk) where
  pub first-fresh : IsFresh s
  first-fresh = began-fresh s m seen middle a b lawful ran (Ran-fresh s m n code chunk seen middle later a b d ran call works lawful)

  answer : Answers m n code chunk
  answer = answers (Ran-fresh s m n code chunk seen middle later a b d ran call works lawful)

  pub got : IsLive chunk → IsGot s m n chunk
  got live =
      let given = answer.chunk live in
      record { rows = given.0; ahead = given.1; is = subst (λ (cs : List Column). IsChunkOf cs given.0 chunk) ran.keeps.columns given.2 }

  pub ended : chunk ≡ Released → IsEnd s m n
  ended gone =
      let end = answer.finish works gone in
      record { before_end = end.0; behind_end = end.1; ending = sym ran.keeps.ending ∙ end.2 }

  pub is-next : (typed : KindTree) → typed ≡ type_of_columns n.columns → TypedOk typed → LawfulColumns s.columns → LawfulTables s.columns m.ahead
      → (live : IsLive chunk) → IsNext s.columns (got live).rows n.ahead typed chunk
  is-next typed is types columns tables live = record {
    columns = columns;
    tables = subst (LawfulTables s.columns) (got live).ahead tables;
    typed_is = is ∙ ap type_of_columns (call.keeps.columns ∙ ran.keeps.columns);
    types = types;
    is = (got live).is;
    live = live;
  }

-- ---- what is given

pub by-tree : {X : Type 0} (t : ArrayTree) → (t ≡ Released → X) → (IsLive t → X) → X
by-tree Released gone live = gone refl
by-tree (Live members children dictionary) gone live = live tt

-- an array that was found not to be released
pub is-live : (t : ArrayTree) (found : Bool) → (t ≡ Released → found ≡ true) → found ≡ false → IsLive t
is-live t found is other = by-tree t (λ gone. absurd (true≢false (sym (is gone) ∙ other))) (λ live. live)

-- a turn that puts an array in its place
pub turns-some : (none : Type 0) (some : ArrayTree → Type 0) (out given : ArrayTree) → out ≡ given → IsLive given → some given → Turns none some out
turns-some none some out given put live is = record {
  nothing = λ gone. absurd (subst IsLive (sym put ∙ gone) live);
  something = λ _. subst some (sym put) is;
}

-- where a call is done: nothing is left, or the next table is given
pub record IsDone (columns : List Column) (own_blocks own_nodes : List Row → ℕ) (besides : List Row → ArrayTree → Type 0) (old new : Tables)
    (ending : Option RowFault) (idle : Bool) (before after : Tally) (given : ArrayTree) : Type 0 where
  pub nothing : given ≡ Released → (old ≡ []) × (new ≡ []) × (ending ≡ None) × (after.blocks ≡ before.blocks) × (after.nodes ≡ before.nodes)
  pub something : IsLive given → GivesOut columns own_blocks own_nodes besides (λ _. old) (λ _. new) idle before after given
  pub rests : IsTrue idle

-- what a turn came to, of a step whose columns, counts and promises are those at the start of the run
module _ (columns : List ColumnType) (at : List ColumnType) (bl nd bl0 nd0 : List Row → ℕ) (besides besides0 : List Row → ArrayTree → Type 0)
    (A0 A B : Option RowFault → Tables → Tables) (can : Type 0) (idle : Bool) (s m n : Stream) (d e : Tally) (chunk given : ArrayTree)
    (same : A0 s.ending s.ahead ≡ A s.ending m.ahead) (kept : n.ending ≡ s.ending) (same_columns : at ≡ columns)
    (same_blocks : (rows : List Row) → bl rows ≡ bl0 rows) (same_nodes : (rows : List Row) → nd rows ≡ nd0 rows)
    (back : (rows : List Row) (t : ArrayTree) → besides rows t → besides0 rows t) (got : IsLive chunk → IsGot s m n chunk)
    (ended : chunk ≡ Released → IsEnd s m n)
    (pushed : (live : IsLive chunk) → Turns (TakesIn (λ ending. A ending ((got live).rows ∷ n.ahead)) (λ ending. B ending n.ahead) can d e)
    (GivesOut (map column_of at) bl nd besides (λ ending. A ending ((got live).rows ∷ n.ahead)) (λ ending. B ending n.ahead) idle d e) given)
    (finished : chunk ≡ Released → Turns (GivesNothing (A None []) (B None []) idle d e)
    (GivesOut (map column_of at) bl nd besides (λ _. A None []) (λ _. B None []) idle d e) given)
    (done : IsLive chunk → IsLive given) where
  given-of : (old new : Option RowFault → Tables) → GivesOut (map column_of at) bl nd besides old new idle d e given
      → (ending : Option RowFault) → A0 s.ending s.ahead ≡ old ending → new ending ≡ B n.ending n.ahead
      → GivesOut (map column_of columns) bl0 nd0 besides0 (λ _. A0 s.ending s.ahead) (λ _. B n.ending n.ahead) idle d e given
  given-of old new some ending first last = record {
    rows = some.rows;
    ahead = λ _. first ∙ some.ahead ending ∙ ap (λ (more : Tables). some.rows ∷ more) last;
    is = subst (λ (cs : List ColumnType). IsChunkOf (map column_of cs) some.rows given) same_columns some.is;
    live = some.live;
    gives = back some.rows given some.gives;
    rests = some.rests;
    blocks = some.blocks ∙ ap (risen d.blocks) (same_blocks some.rows);
    nodes = some.nodes ∙ ap (risen d.nodes) (same_nodes some.rows);
  }

  turned-live : IsLive chunk → IsDone (map column_of columns) bl0 nd0 besides0 (A0 s.ending s.ahead) (B n.ending n.ahead) s.ending idle d e given
  turned-live live =
      let turn = pushed live in
      let some = turn.something (done live) in
      record {
        nothing = λ gone. absurd (subst IsLive gone (done live));
        something = λ _. given-of (λ ending. A ending ((got live).rows ∷ n.ahead)) (λ ending. B ending n.ahead) some s.ending
            (same ∙ ap (A s.ending) (got live).ahead) (ap (λ (o : Option RowFault). B o n.ahead) (sym kept));
        rests = some.rests;
      }

  turned-gone : chunk ≡ Released → IsDone (map column_of columns) bl0 nd0 besides0 (A0 s.ending s.ahead) (B n.ending n.ahead) s.ending idle d e given
  turned-gone gone =
      let turn = finished gone in
      let end = ended gone in
      let first : A0 s.ending s.ahead ≡ A None [] = same ∙ (λ i. A (end.ending i) (end.before_end i)) in
      let none : n.ending ≡ None = kept ∙ end.ending in
      let last : B n.ending n.ahead ≡ B None [] = λ i. B (none i) (end.behind_end i) in
      record {
        nothing = λ left. let z = turn.nothing left in (first ∙ z.before_end, last ∙ z.behind_end, end.ending, z.blocks, z.nodes);
        something = λ live. given-of (λ _. A None []) (λ _. B None []) (turn.something live) None first (sym last);
        rests = by-tree given (λ left. (turn.nothing left).rests) (λ live. (turn.something live).rests);
      }

  pub turned : IsDone (map column_of columns) bl0 nd0 besides0 (A0 s.ending s.ahead) (B n.ending n.ahead) s.ending idle d e given
  turned = by-tree chunk turned-gone turned-live

-- a call below that was refused
pub refused-answers : (columns after : List ColumnType) (A0 A B : Option RowFault → Tables → Tables) (at to : ℕ) (s m n : Stream) (code told : ℤ)
    (out : ArrayTree) → told ≡ code → (code ≡ pos 0 → ⊥) → A0 s.ending s.ahead ≡ A s.ending m.ahead
    → ((fault : RowFault) → (A (Some fault) [] ≡ []) × (B (Some fault) [] ≡ [])) → m.ending ≡ s.ending → n.ending ≡ m.ending → Answers m n code out
    → out ≡ Released → Answers (stepped columns A0 at s) (stepped after B to n) told out
refused-answers columns after A0 A B at to s m n code told out is refused same law before behind answers gone = record {
  chunk = λ live. absurd (subst IsLive gone live);
  finish = λ zero _. absurd (refused (sym is ∙ zero));
  bad = λ e.
      let end = answers.bad (sym is ∙ e) in
      let first : s.ending ≡ Some end.2 = sym before ∙ end.3 in
      let last : n.ending ≡ Some end.2 = behind ∙ end.3 in (
        same ∙ (λ i. A (first i) (end.0 i)) ∙ (law end.2).0,
        (λ i. B (last i) (end.1 i)) ∙ (law end.2).1,
        end.2,
        first,
        end.4,
        end.5,
      );
  wants = λ e. answers.wants (sym is ∙ e);
  codes = elim answers.codes [ inl z ↦ inl (is ∙ z) | inr rest ↦ inr (elim rest [ inl z ↦ inl (is ∙ z) | inr z ↦ inr (is ∙ z) ]) ];
}

pub done-answers : (columns after : List ColumnType) (own_blocks own_nodes : List Row → ℕ) (besides : List Row → ArrayTree → Type 0)
    (A B : Option RowFault → Tables → Tables) (at to : ℕ) (s n : Stream) (idle : Bool) (before last : Tally) (given : ArrayTree)
    → IsDone (map column_of columns) own_blocks own_nodes besides (A s.ending s.ahead) (B n.ending n.ahead) s.ending idle before last given
    → Answers (stepped columns A at s) (stepped after B to n) (pos 0) given
done-answers columns after own_blocks own_nodes besides A B at to s n idle before last given done = record {
  chunk = λ live. let some = done.something live in (some.rows, some.ahead s.ending, some.is);
  finish = λ _ gone. let none = done.nothing gone in (none.0, none.1, none.2);
  bad = λ e. absurd (cc);
  wants = λ e. absurd (cc);
  codes = inl refl;
}

pub done-gives : (columns : List Column) (own_blocks own_nodes : List Row → ℕ) (besides : List Row → ArrayTree → Type 0) (old new : Tables)
    (ending : Option RowFault) (idle : Bool) (before after : Tally) (given : ArrayTree)
    → IsDone columns own_blocks own_nodes besides old new ending idle before after given → IsLive given → besides (get_or old 0 []) given
done-gives columns own_blocks own_nodes besides old new ending idle before after given done live =
    let some = done.something live in
    subst (λ (tables : Tables). besides (get_or tables 0 []) given) (sym (some.ahead ending)) some.gives

risen-more : (a b c m n : ℕ) → b ≡ risen a m → c ≡ risen b n → c ≡ risen a (m + n)
risen-more a b c m n e f = omega (arith, e, f)

-- the counts of the call below, where nothing was given and nothing is left
pub none-counted : (bl nd bl1 nd1 : List Row → ℕ) (old new : Tables) (due left : Traffic) (first before after : Tally) (given : ArrayTree) → old ≡ [] → new ≡ []
    → after.blocks ≡ before.blocks → after.nodes ≡ before.nodes → Counts due left first before given
    → Counts (due_by bl nd old due) (due_by bl1 nd1 new left) first after given
none-counted bl nd bl1 nd1 old new due left first before after given old_none new_none blocks nodes counts =
    let none_old = ap (sum_by bl) old_none in
    let none_new = ap (sum_by bl1) new_none in
    let none_old_nodes = ap (sum_by nd) old_none in
    let none_new_nodes = ap (sum_by nd1) new_none in
    record {
      made = counts.made;
      blocks = blocks ∙ counts.blocks;
      nodes = nodes ∙ counts.nodes;
      fewer_blocks = omega (arith, counts.fewer_blocks, none_old, none_new);
      fewer_nodes = omega (arith, counts.fewer_nodes, none_old_nodes, none_new_nodes);
      no_blocks = λ e. omega (arith, counts.no_blocks e, none_new);
      no_nodes = λ e. omega (arith, counts.no_nodes e, none_new_nodes);
    }

-- the counts of the call below with those of what is given
module _ (columns : List Column) (bl nd bl1 nd1 : List Row → ℕ) (besides : List Row → ArrayTree → Type 0) (old new : Tables) (ending : Option RowFault)
    (idle : Bool) (first before after : Tally) (given : ArrayTree) (due left : Traffic) (counts : Counts due left first before given)
    (done : IsDone columns bl nd besides old new ending idle before after given) (same_blocks : (rows : List Row) → bl1 rows ≡ bl rows)
    (same_nodes : (rows : List Row) → nd1 rows ≡ nd rows) where
  all-blocks : sum_by bl1 new ≡ sum_by bl new
  all-blocks = λ i. sum_by (λ rows. same_blocks rows i) new

  all-nodes : sum_by nd1 new ≡ sum_by nd new
  all-nodes = λ i. sum_by (λ rows. same_nodes rows i) new

  counts-none : given ≡ Released → Counts (due_by bl nd old due) (due_by bl1 nd1 new left) first after given
  counts-none gone =
      let none = done.nothing gone in none-counted bl nd bl1 nd1 old new due left first before after given none.0 none.1 none.3 none.4 counts

  counts-some : IsLive given → Counts (due_by bl nd old due) (due_by bl1 nd1 new left) first after given
  counts-some live =
      let some = done.something live in
      let more = ap (sum_by bl) (some.ahead ending) ∙ sum_by-cons bl some.rows new in
      let more_nodes = ap (sum_by nd) (some.ahead ending) ∙ sum_by-cons nd some.rows new in
      record {
        made = record { blocks = counts.made.blocks + bl some.rows; nodes = counts.made.nodes + nd some.rows };
        blocks = risen-more first.blocks before.blocks after.blocks counts.made.blocks (bl some.rows) counts.blocks some.blocks;
        nodes = risen-more first.nodes before.nodes after.nodes counts.made.nodes (nd some.rows) counts.nodes some.nodes;
        fewer_blocks = omega (arith, counts.fewer_blocks, more, all-blocks);
        fewer_nodes = omega (arith, counts.fewer_nodes, more_nodes, all-nodes);
        no_blocks = λ e. absurd (subst IsLive e live);
        no_nodes = λ e. absurd (subst IsLive e live);
      }

  pub done-counts : Counts (due_by bl nd old due) (due_by bl1 nd1 new left) first after given
  done-counts = by-tree given counts-none counts-some
