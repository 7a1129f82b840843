-- A run, call by call.
use Rattle.std.proofs.Common.{◌≡◌, ◌≢◌, ◌+◌, ◌++◌, ℕ, ℤ, pos, List, [], Option, Some, None, Result, Ok, Err, OnOk, refl, sym, ◌∙◌, ap, subst}
use Rattle.std.proofs.Common.{arith, IsTrue, map, negsuc, of_z, w32, true, false}
use Rattle.std.proofs.lemmas.Int.{ints}
use Rattle.std.proofs.lemmas.List.{append-nil, append_assoc, map-append}
use Rattle.std.proofs.lemmas.List.Folds.{concat-append}
use Rattle.std.specs.List.{concat}
use Rattle.csv.specs.Writing.{default_writer, row_text}
use Rattle.data_types.specs.Parts.{joined_rows}
use Rattle.data_types.specs.promise.Table.{Column, Row}
use Rattle.tree_model.specs.promise.TreeData.{Released}
use Rattle.tree_model.specs.promise.TreeParts.{IsLive}
use Rattle.raw_array.specs.promise.Members.{ArrayTree}
use Rattle.unit_pass.specs.promise.Tally.{risen}
use Rattle.unit_pass.specs.Tally.{Tally}
use Rattle.unit_pass.specs.declared.no_memory.NoMemory.{NoMemory}
use Rattle.csv_model.specs.promise.Text.{row_fields}
use Rattle.csv_model.specs.Text.{rows_text}
use Rattle.data_types.specs.promise.KindTrees.{KindTree}
use Rattle.layout_rules.specs.promise.Values.{rows_of}
use Rattle.data_types.specs.promise.ColumnKinds.{type_of_columns}
use Rattle.arr_import.specs.Window.{Window, whole}
use Rattle.csv_write.specs.CsvTexts.{HasText, rows_in}
use Rattle.csv_write.specs.declared.csv_text.CsvText.{CsvText}
use Rattle.stream_face.specs.promise.Calls.{IsMade}
use Rattle.stream_face.specs.Calls.{Answers, Counts, IsCode, GoesOn, Repeats, ShowsInOrder}
use Rattle.stream_face.specs.Codes.{enomem}
use Rattle.stream_face.specs.promise.Shown.{Seen, grown, of_link, rows_of_link}
use Rattle.stream_face.specs.Streams.{IsFresh, Keeps, Stream, Traffic}
use Rattle.stream_face.specs.Texts.{Refusal}
use Rattle.stream_face.proofs.Joints.{grown-append, had_memory, live_unless, of_link-append}
use Rattle.stream_face.proofs.Orders.{goes-both, goes-start, made-both, made-none, nil_part, rows-append}
use Rattle.csv_write.specs.Faults.{OnRow}
use Rattle.csv_write.specs.declared.fault.DriveFault.{DriveFault}
use Rattle.csv_write.specs.declared.fault.DriveFault.TheVariants as drives
use Rattle.csv_write.specs.promise.Runs.{ShowsAll, ShowsSome}
use Rattle.csv_write.specs.Runs.{Counted, Ran}

pub grown-nil : (seen : Option (List Seen)) → seen ≡ grown seen []
grown-nil None = refl
grown-nil (Some before) = ap Some (sym (append-nil before))

pub risen-add : (a b c m n : ℕ) → b ≡ risen a m → c ≡ risen b n → c ≡ risen a (m + n)
risen-add a b c m n e f = omega (arith, e, f)

-- ---- how a call goes on
pub zero_code : (code : ℤ) → IsCode code → of_z w32 code ≡ 0 → code ≡ pos 0
zero_code (pos n) is zero = ap pos zero
zero_code (negsuc n) is zero = absurd (omega (arith, ints, is.0))

pub is-live : (out : ArrayTree) → (out ≡ Released → IsTrue false) → IsLive out
is-live out held = live_unless out (λ gone. let e : false ≡ true = held gone in cc)

-- ---- calls that answer 0
-- no call was made yet
pub Ran-start : (s : Stream) (seen : Option (List Seen)) (t : Tally) → Ran s s seen seen t t
Ran-start s seen t = record {
  keeps = record { columns = refl; ending = refl; lawful = refl; held = refl; live = refl; schema = refl };
  works = λ e. e;
  shown = [];
  told = grown-nil seen;
  leaves = λ link. refl;
  in_order = λ first rest e link. made-none (s.makings link) link first (ap (rows_of_link link) (nil_part first rest e));
  goes_on = λ link. goes-start (s.makings link) s.joints;
  made = record { blocks = 0; nodes = 0 };
  counted = record { blocks = omega (arith, t.most_blocks); nodes = omega (arith, t.most_nodes) };
  fewer_blocks = omega arith;
  fewer_nodes = omega arith;
}

-- a call after them shows its chunks in order
made-after : (s m n : Stream) (before middle after : Option (List Seen)) (a b : Tally) (code : ℤ) (out : ArrayTree) (ran : Ran s m before middle a b)
    → (x : ShowsInOrder m n code out middle after) → (first rest : List Seen) → ran.shown ++ x.shows.shown ≡ first ++ rest → (link : ℕ)
    → IsMade (s.makings link) link first
made-after s m n before middle after a b code out ran x =
    made-both s.makings m.makings m.joints ran.shown x.shows.shown ran.in_order ran.goes_on x.shows.begins x.order.made

-- one more call that answered 0
pub Ran-next : (s m n : Stream) (before middle after : Option (List Seen)) (a b d e : Tally) (code : ℤ) (out : ArrayTree) → Ran s m before middle a b
    → code ≡ pos 0 → Keeps m n → n.failure ≡ None → ShowsInOrder m n code out middle after → Counts m.due n.due b d out → e.blocks ≡ d.blocks → e.nodes ≡ d.nodes
    → Ran s n before after a e
Ran-next s m n before middle after a b d e code out ran zero keeps works shows counts same_blocks same_nodes = record {
  keeps = record {
    columns = keeps.columns ∙ ran.keeps.columns;
    ending = keeps.ending ∙ ran.keeps.ending;
    lawful = keeps.lawful ∙ ran.keeps.lawful;
    held = keeps.held ∙ ran.keeps.held;
    live = keeps.live ∙ ran.keeps.live;
    schema = keeps.schema ∙ ran.keeps.schema;
  };
  works = λ _. works;
  shown = ran.shown ++ shows.shows.shown;
  told = shows.shows.told ∙ ap (λ seen. grown seen shows.shows.shown) ran.told ∙ grown-append before ran.shown shows.shows.shown;
  leaves = λ link.
      rw of_link-append (ran.leaves link ∙ ap (λ xs. of_link link ran.shown ++ xs) (shows.shows.leaves (had_memory code zero) link)
      ∙ sym (append_assoc (of_link link ran.shown) (of_link link shows.shows.shown) (n.joints link)));
  in_order = made-after s m n before middle after a b code out ran shows;
  goes_on = λ link.
      subst (GoesOn (s.makings link) (n.makings link) n.joints (ran.shown ++ shows.shows.shown)) (sym (rows-append link ran.shown shows.shows.shown))
      (goes-both (s.makings link) (m.makings link) (n.makings link) m.joints n.joints ran.shown shows.shows.shown (rows_of_link link ran.shown)
      (rows_of_link link shows.shows.shown) (shows.shows.leaves (had_memory code zero)) (ran.goes_on link)
      (shows.order.goes_on (had_memory code zero) link));
  made = record { blocks = ran.made.blocks + counts.made.blocks; nodes = ran.made.nodes + counts.made.nodes };
  counted = record {
    blocks = risen-add a.blocks b.blocks e.blocks ran.made.blocks counts.made.blocks ran.counted.blocks (same_blocks ∙ counts.blocks);
    nodes = risen-add a.nodes b.nodes e.nodes ran.made.nodes counts.made.nodes ran.counted.nodes (same_nodes ∙ counts.nodes);
  };
  fewer_blocks = omega (arith, ran.fewer_blocks, counts.fewer_blocks);
  fewer_nodes = omega (arith, ran.fewer_nodes, counts.fewer_nodes);
}

-- ---- the last call, and one that refuses
-- a call that refuses, or one behind which the run stops
refused_fresh : (s m n : Stream) (before middle after : Option (List Seen)) (a b : Tally) (code : ℤ) (out : ArrayTree) → Ran s m before middle a b
    → ShowsInOrder m n code out middle after → ShowsSome s.joints s.makings before after
refused_fresh s m n before middle after a b code out ran shows = record {
  shown = ran.shown ++ shows.shows.shown;
  told = shows.shows.told ∙ ap (λ seen. grown seen shows.shows.shown) ran.told ∙ grown-append before ran.shown shows.shows.shown;
  begins = λ link.
      let rest = shows.shows.begins link in (
        rest.0,
        rw of_link-append (ran.leaves link ∙ ap (λ xs. of_link link ran.shown ++ xs) rest.1
            ∙ sym (append_assoc (of_link link ran.shown) (of_link link shows.shows.shown) rest.0)),
      );
  in_order = made-after s m n before middle after a b code out ran shows;
}

-- one that refuses as it did before shows nothing more
refused_again : (s m : Stream) (before middle after : Option (List Seen)) (a b : Tally) → Ran s m before middle a b → after ≡ middle
    → ShowsSome s.joints s.makings before after
refused_again s m before middle after a b ran same = record {
  shown = ran.shown;
  told = same ∙ ran.told;
  begins = λ link. (m.joints link, ran.leaves link);
  in_order = ran.in_order;
}

refused_by : (failure : Option Refusal) (s m n : Stream) (before middle after : Option (List Seen)) (a b d e : Tally) (code : ℤ) (out : ArrayTree)
    → m.failure ≡ failure → IsTrue m.lawful → Ran s m before middle a b → (IsFresh m → ShowsInOrder m n code out middle after)
    → Repeats m n code d e middle after → ShowsSome s.joints s.makings before after
refused_by None s m n before middle after a b d e code out is lawful ran shows repeats =
    refused_fresh s m n before middle after a b code out ran (shows (record { lawful = lawful; no_failure = is }))
refused_by (Some refusal) s m n before middle after a b d e code out is lawful ran shows repeats =
    refused_again s m before middle after a b ran (repeats.shows refusal is)

pub Ran-refused : (s m n : Stream) (before middle after : Option (List Seen)) (a b d e : Tally) (code : ℤ) (out : ArrayTree)
    → IsTrue s.lawful → Ran s m before middle a b → (IsFresh m → ShowsInOrder m n code out middle after)
    → Repeats m n code d e middle after → ShowsSome s.joints s.makings before after
Ran-refused s m n before middle after a b d e code out lawful ran shows repeats =
    refused_by m.failure s m n before middle after a b d e code out refl (subst IsTrue (sym ran.keeps.lawful) lawful) ran shows repeats

-- a stream that had not refused before a run is fresh behind it
pub Ran-fresh : (s m : Stream) (before middle : Option (List Seen)) (a b : Tally) → Ran s m before middle a b → IsFresh s → IsFresh m
Ran-fresh s m before middle a b ran fresh = record {
  lawful = subst IsTrue (sym ran.keeps.lawful) fresh.lawful;
  no_failure = ran.works fresh.no_failure;
}

-- the last call of a run, which gave nothing: the end, or a record at fault
pub Ran-ends : (s m n : Stream) (before middle after : Option (List Seen)) (a b : Tally) (code : ℤ) (out : ArrayTree) → Ran s m before middle a b
    → code ≢ enomem → out ≡ Released → ShowsInOrder m n code out middle after → ShowsAll s.joints s.makings before after
Ran-ends s m n before middle after a b code out ran had ended shows = record {
  shown = ran.shown ++ shows.shows.shown;
  told = shows.shows.told ∙ ap (λ seen. grown seen shows.shows.shown) ran.told ∙ grown-append before ran.shown shows.shows.shown;
  all = λ link.
      rw of_link-append (sym (ran.leaves link ∙ ap (λ xs. of_link link ran.shown ++ xs) (shows.shows.leaves had link
      ∙ ap (λ xs. of_link link shows.shows.shown ++ xs) (shows.shows.ends had ended link) ∙ append-nil (of_link link shows.shows.shown))));
  in_order = made-after s m n before middle after a b code out ran shows;
}

ended-at : (a b d m n x y : ℕ) → b ≡ risen a m → d ≡ risen b n → x ≡ m + y → y ≡ n + 0 → d ≡ risen a x
ended-at a b d m n x y e f g h = omega (arith, e, f, g, h)

-- and what it has counted
pub Ran-counted : (s m n : Stream) (before middle : Option (List Seen)) (a b d : Tally) (out : ArrayTree) → Ran s m before middle a b → out ≡ Released
    → Counts m.due n.due b d out → Counted s.due a d
Ran-counted s m n before middle a b d out ran ended counts = record {
  blocks =
      ended-at a.blocks b.blocks d.blocks ran.made.blocks counts.made.blocks s.due.blocks m.due.blocks ran.counted.blocks counts.blocks ran.fewer_blocks
      (let z = counts.no_blocks ended in omega (arith, z, counts.fewer_blocks));
  nodes =
      ended-at a.nodes b.nodes d.nodes ran.made.nodes counts.made.nodes s.due.nodes m.due.nodes ran.counted.nodes counts.nodes ran.fewer_nodes
      (let z = counts.no_nodes ended in omega (arith, z, counts.fewer_nodes));
}

-- ---- a record is refused
pub at-row : {A P : Type 0} (r : Result A DriveFault) → P → OnRow r P
at-row (Ok made) p = tt
at-row (Err (drives.Row fault)) p = p
at-row (Err drives.NoMemory) p = tt

pub on-row : {A P Q : Type 0} (r : Result A DriveFault) → (P → Q) → OnRow r P → OnRow r Q
on-row (Ok made) f p = tt
on-row (Err (drives.Row fault)) f p = f p
on-row (Err drives.NoMemory) f p = tt

-- what was counted is counted where no more was
pub counted-still : (made : Traffic) (a b d : Tally) → d.blocks ≡ b.blocks → d.nodes ≡ b.nodes → Counted made a b → Counted made a d
counted-still made a b d blocks nodes counted = record { blocks = blocks ∙ counted.blocks; nodes = nodes ∙ counted.nodes }

-- ---- the text

-- what is written and what is still to be written are together the same as at the start
pub record Wrote (mark : List ℕ) (columns : List Column) (start now : Stream) (written : List ℕ) (text : CsvText) : Type 0 where
  pub so_far : List ℕ
  pub has : HasText text mark columns so_far
  pub all : so_far ++ rows_text mark columns (joined_rows now.ahead) ≡ written ++ rows_text mark columns (joined_rows start.ahead)

rows_text-append : (mark : List ℕ) (columns : List Column) (xs ys : List Row)
    → rows_text mark columns (xs ++ ys) ≡ rows_text mark columns xs ++ rows_text mark columns ys
rows_text-append mark columns xs ys =
    let line : Row → List ℕ = λ values. row_text default_writer (row_fields mark columns values) in
    ap concat (map-append line xs ys) ∙ concat-append (map line xs) (map line ys)

pub Wrote-next : (mark : List ℕ) (columns : List Column) (start m n : Stream) (written : List ℕ) (code : ℤ) (out : ArrayTree) (old new : CsvText)
    → m.columns ≡ columns → IsLive out → Answers m n code out → Wrote mark columns start m written old
    → ((so_far : List ℕ) → HasText old mark columns so_far
    → HasText new mark columns (so_far ++ rows_text mark columns (rows_of (type_of_columns columns) out)))
    → Wrote mark columns start n written new
Wrote-next mark columns start m n written code out old new same live answers wrote adds =
    let chunk = answers.chunk live in
    let rows = chunk.0 in
    let is : rows_of (type_of_columns columns) out ≡ rows = subst (λ cs. rows_of (type_of_columns cs) out ≡ rows) same chunk.2.rows_are in
    let ahead : joined_rows m.ahead ≡ rows ++ joined_rows n.ahead = ap joined_rows chunk.1 in
    record {
      so_far = wrote.so_far ++ rows_text mark columns rows;
      has = subst (λ rs. HasText new mark columns (wrote.so_far ++ rows_text mark columns rs)) is (adds wrote.so_far wrote.has);
      all =
          append_assoc wrote.so_far (rows_text mark columns rows) (rows_text mark columns (joined_rows n.ahead))
          ∙ ap (λ xs. wrote.so_far ++ xs) (sym (rows_text-append mark columns rows (joined_rows n.ahead)))
          ∙ ap (λ rs. wrote.so_far ++ rows_text mark columns rs) (sym ahead)
          ∙ wrote.all;
    }

pub Wrote-ends : (mark : List ℕ) (columns : List Column) (start m : Stream) (written : List ℕ) (text : CsvText) → m.ahead ≡ []
    → Wrote mark columns start m written text → HasText text mark columns (written ++ rows_text mark columns (joined_rows start.ahead))
Wrote-ends mark columns start m written text none wrote =
    let all : wrote.so_far ++ [] ≡ written ++ rows_text mark columns (joined_rows start.ahead) =
    ap (λ a. wrote.so_far ++ rows_text mark columns (joined_rows a)) (sym none) ∙ wrote.all in
    subst (HasText text mark columns) (sym (append-nil wrote.so_far) ∙ all) wrote.has

pub add-text : (result : Result (Unit {0}) NoMemory) (old new : CsvText) (w : Window) (typed : KindTree) (chunk : ArrayTree) → w ≡ whole typed chunk
    → OnOk result ((mark : List ℕ) (columns : List Column) (written : List ℕ) → HasText old mark columns written → w.typed ≡ type_of_columns columns
    → HasText new mark columns (written ++ rows_text mark columns (rows_in w)))
    → OnOk result ((mark : List ℕ) (columns : List Column) (written : List ℕ) → HasText old mark columns written → typed ≡ type_of_columns columns
    → HasText new mark columns (written ++ rows_text mark columns (rows_of typed chunk)))
add-text (Ok done) old new w typed chunk is adds = λ mark columns written has same.
    subst (λ v. HasText new mark columns (written ++ rows_text mark columns (rows_in v))) is
    (adds mark columns written has (ap (λ (v : Window). v.typed) is ∙ same))
add-text (Err e) old new w typed chunk is adds = tt
