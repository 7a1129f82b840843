-- What the links below a checked stream show.
use Rattle.std.proofs.Common.{◌≡◌, ◌≢◌, ◌==◌, ◌++◌, ℕ, ℤ, pos, true, false, List, [], ◌∷◌, Option, Some, None, IsSomeAnd, refl, sym, ◌∙◌, ap, subst, if◌then◌else◌, inl}
use Rattle.std.proofs.Common.{inr, IsTrue}
use Rattle.std.proofs.lemmas.Bool.Decides.{eqb_tells}
use Rattle.std.proofs.lemmas.List.{append-nil, append_assoc}
use Rattle.data_types.specs.promise.Table.{Column, Row}
use Rattle.tree_model.specs.promise.TreeData.{Tree, Released, Live}
use Rattle.tree_model.specs.promise.TreeParts.{IsLive}
use Rattle.unit_pass.specs.Tally.{Tally}
use Rattle.raw_array.specs.promise.Members.{ArrayTree}
use Rattle.raw_schema.specs.promise.Members.{SchemaTree}
use Rattle.data_types.specs.promise.KindTrees.{KindTree}
use Rattle.data_types.specs.promise.ColumnKinds.{type_of_columns}
use Rattle.schema_check.specs.promise.ColumnSchema.{SchemaOf}
use Rattle.schema_check.specs.promise.Schemas.{TypedOf}
use Rattle.stream_face.specs.promise.Calls.{Begins}
use Rattle.stream_face.specs.Calls.{Answers, Repeats, Shows, Tells}
use Rattle.stream_face.specs.Codes.{einval, enomem}
use Rattle.stream_face.specs.Raw.{raw_joints, raw_state, refusal_or}
use Rattle.stream_face.specs.promise.Shown.{Seen, Shown, grown, of_link, seen_of, shown_table, shown_tables}
use Rattle.stream_face.specs.Streams.{IsFresh, Stream, is_nil}
use Rattle.stream_face.specs.Texts.{Refusal}
use Rattle.stream_face.specs.declared.fault.Failure.{Failure}
use Rattle.stream_face.specs.declared.fault.StreamFault.{StreamFault}
use Rattle.stream_face.specs.declared.fault.StreamFault.TheVariants as faults
use Rattle.stream_face.specs.Failures.{why}
use Rattle.stream_face.specs.Faults.{IsOwnFault, code_of}

-- a call that answers 0 had memory
pub had_memory : (code : ℤ) → code ≡ pos 0 → code ≢ enomem
had_memory code zero e = let k : pos 0 ≡ enomem = sym zero ∙ e in cc

-- ---- what is seen of a link
pub nil : {A : Type 0} (xs : List A) → is_nil xs ≡ true → xs ≡ []
nil [] e = refl
nil (x ∷ xs) e = absurd (cc)

-- what was seen of a link in two parts
pub of_link-append : (link : ℕ) (a b : List Seen) → of_link link (a ++ b) ≡ of_link link a ++ of_link link b
of_link-append link [] b = refl
of_link-append link (seen ∷ a) b =
    elim (seen.link == link) as
    (λ t. (if t then seen.shown ∷ of_link link (a ++ b) else of_link link (a ++ b))
    ≡ (if t then seen.shown ∷ of_link link a else of_link link a) ++ of_link link b)
    [ true ↦ ap (λ r. seen.shown ∷ r) (of_link-append link a b) | false ↦ of_link-append link a b ]

-- what a tap has seen after two parts
pub grown-append : (seen : Option (List Seen)) (a b : List Seen) → grown (grown seen a) b ≡ grown seen (a ++ b)
grown-append None a b = refl
grown-append (Some before) a b = ap Some (append_assoc before a b)

-- only the empty list begins the empty list
pub Begins-nil : (xs : List Shown) → Begins xs [] → xs ≡ []
Begins-nil [] h = refl
Begins-nil (x ∷ xs) h = let e : [] ≡ x ∷ (xs ++ h.0) = h.1 in cc

abbrev pub Joints : Type 0
Joints = ℕ → List Shown

-- what a link shows that isn't below the stream
pub of_link-none : (old new : Joints) (link : ℕ) (code : ℤ) (out : ArrayTree) (before after : Option (List Seen)) → old link ≡ []
    → (shows : Shows old new code out before after) → of_link link shows.shown ≡ []
of_link-none old new link code out before after none shows =
    Begins-nil (of_link link shows.shown) (rw none at (shows.begins link))

-- a link that isn't below the stream stays so
pub joints-none : (old new : Joints) (link : ℕ) (out : ArrayTree) (before after : Option (List Seen)) → old link ≡ [] → Shows old new (pos 0) out before after
    → new link ≡ []
joints-none old new link out before after none shows =
    let h = shows.leaves (had_memory (pos 0) refl) link in
    let e = of_link-none old new link (pos 0) out before after none shows in
    let k : [] ≡ new link = sym none ∙ h ∙ ap (λ xs. xs ++ new link) e in
    sym k

-- ---- what a checked stream shows
-- what a call of the inner stream shows begins what is still to be shown below the checked stream
pub begins-raw : (s n : Stream) (link : ℕ) (code : ℤ) (out : ArrayTree) (before after : Option (List Seen)) → s.joints link ≡ []
    → (shows : Shows s.joints n.joints code out before after) → (k : ℕ) → Begins (of_link k shows.shown) (raw_joints link s k)
begins-raw s n link code out before after none shows k = elim (eqb_tells link k) [
  | inl h ↦ rw (h.0, ← h.1, of_link-none s.joints n.joints link code out before after none shows) (shown_tables s.columns s.ahead, refl)
  | inr h ↦ rw h.0 (shows.begins k)
]

-- where memory runs out, no more than its inner stream did
abbrev pub Shows-raw_wants : (s n : Stream) (link : ℕ) (code refusal : ℤ) (out left : ArrayTree) (before after : Option (List Seen)) → s.joints link ≡ []
    → refusal ≡ enomem → Shows s.joints n.joints code out before after → Shows (raw_joints link s) (raw_joints link n) refusal left before after
Shows-raw_wants s n link code refusal out left before after none wants shows = record {
  shown = shows.shown;
  told = shows.told;
  begins = begins-raw s n link code out before after none shows;
  leaves = λ e. absurd (e wants);
  ends = λ e. absurd (e wants);
}

-- where the inner stream gives nothing, it has come to its end or to its record, unless memory ran out
abbrev pub Shows-raw_ends : (s n : Stream) (link : ℕ) (code : ℤ) (out : ArrayTree) (before after : Option (List Seen)) → s.joints link ≡ []
    → (code ≢ enomem → (s.ahead ≡ []) × (n.ahead ≡ [])) → out ≡ Released → Shows s.joints n.joints code out before after
    → Shows (raw_joints link s) (raw_joints link n) code out before after
Shows-raw_ends s n link code out before after none ended released shows = record {
  shown = shows.shown;
  told = shows.told;
  begins = begins-raw s n link code out before after none shows;
  leaves = λ had k. elim (eqb_tells link k) [
    | inl h ↦ rw (h.0, ← h.1, of_link-none s.joints n.joints link code out before after none shows, (ended had).0, (ended had).1) refl
    | inr h ↦ rw h.0 (shows.leaves had k)
  ];
  ends = λ had _ k. elim (eqb_tells link k) [
    | inl h ↦ rw (h.0, (ended had).1) refl
    | inr h ↦ rw h.0 (shows.ends had released k)
  ];
}

abbrev pub seen_table : ℕ → List Column → List Row → Seen
seen_table link columns rows = record { link = link; shown = shown_table columns rows }

-- the link of a checked stream loses the table that was shown, and each link below it what it showed
pub leaves_chunk : (s n : Stream) (link : ℕ) (rows : List Row) (out : ArrayTree) (before after : Option (List Seen)) → s.joints link ≡ []
    → s.ahead ≡ rows ∷ n.ahead → n.columns ≡ s.columns → (shows : Shows s.joints n.joints (pos 0) out before after) → (k : ℕ)
    → raw_joints link s k ≡ of_link k (shows.shown ++ seen_table link s.columns rows ∷ []) ++ raw_joints link n k
leaves_chunk s n link rows out before after none gave same shows k =
    rw of_link-append (elim (eqb_tells link k) [
      | inl h ↦ rw (h.0, ← h.1, of_link-none s.joints n.joints link (pos 0) out before after none shows, gave, same) refl
      | inr h ↦ rw (h.0, append-nil) (shows.leaves (had_memory (pos 0) refl) k)
    ])

-- a chunk of the checked stream is shown after what its inner stream showed
abbrev pub Shows-raw_chunk : (s n : Stream) (link : ℕ) (rows : List Row) (out : ArrayTree) (before middle after : Option (List Seen)) → s.joints link ≡ []
    → s.ahead ≡ rows ∷ n.ahead → n.columns ≡ s.columns → Shows s.joints n.joints (pos 0) out before middle → IsLive out
    → after ≡ grown middle (seen_table link s.columns rows ∷ []) → Shows (raw_joints link s) (raw_joints link n) (pos 0) out before after
Shows-raw_chunk s n link rows out before middle after none gave same shows live told = record {
  shown = shows.shown ++ seen_table link s.columns rows ∷ [];
  told = told ∙ rw shows.told (grown-append before shows.shown (seen_table link s.columns rows ∷ []));
  begins = λ k. (raw_joints link n k, leaves_chunk s n link rows out before middle none gave same shows k);
  leaves = λ _ k. leaves_chunk s n link rows out before middle none gave same shows k;
  ends = λ _ e. absurd (subst IsLive e live);
}

-- ---- failures, answers and refusals
-- where the checked stream has not failed, nor has its inner stream
pub inner_works : (f : Option StreamFault) (inner said : Option Refusal) → refusal_or f inner said ≡ None → inner ≡ None
inner_works None inner said e = e
inner_works (Some fault) inner said e = absurd (cc)

-- a checked stream that works has no failure of its own
pub not_failed : (f : Option Failure) (inner said : Option Refusal) → refusal_or (why f) inner said ≡ None → f ≡ None
not_failed None inner said e = refl
not_failed (Some failure) inner said e = absurd (cc)

-- a stream that answers 0 has not failed before
pub works_before : (failure : Option Refusal) (code : ℤ) → ((refusal : Refusal) → failure ≡ Some refusal → code ≢ pos 0) → code ≡ pos 0 → failure ≡ None
works_before None code repeats works = refl
works_before (Some refusal) code repeats works = absurd (repeats refusal refl works)

pub live_unless : {M : Type 0} (t : Tree M) → (t ≡ Released → ⊥) → IsLive t
live_unless Released h = absurd (h refl)
live_unless (Live members children dictionary) h = tt

-- where a call answers 0, there is no refusal
pub tells_nothing : (code : ℤ) (said : Option Refusal) → Tells code said → code ≡ pos 0 → said ≡ None
tells_nothing code None tells zero = refl
tells_nothing code (Some refusal) tells zero = absurd (tells.1 zero)

-- where there is a refusal, a call doesn't answer 0
pub tells_refusal : (code : ℤ) (said : Option Refusal) (refusal : Refusal) → Tells code said → said ≡ Some refusal → code ≢ pos 0
tells_refusal code None refusal tells e = absurd (cc)
tells_refusal code (Some told) refusal tells e = tells.1

-- the kinds of the schema of columns are those of the columns
pub kinds_are : (schema : SchemaTree) (kinds : KindTree) (columns : List Column) → schema ≡ SchemaOf columns
    → TypedOf (SchemaOf columns) (type_of_columns columns)
    → ((k : KindTree) → TypedOf schema k → k ≡ kinds) → kinds ≡ type_of_columns columns
kinds_are schema kinds columns known typed only = sym (only (type_of_columns columns) (subst (λ t. TypedOf t (type_of_columns columns)) (sym known) typed))

-- a checked stream's own refusal has a code that isn't 0
pub own_code : (kinds : KindTree) (chunk : ArrayTree) (fault : StreamFault) → IsOwnFault kinds chunk fault → code_of fault ≢ pos 0
own_code kinds chunk (faults.Row row) own = absurd own
own_code kinds chunk (faults.Chunk layout) own = λ e. cc
own_code kinds chunk (faults.Code code) own = absurd own
own_code kinds chunk faults.NoMemory own = λ e. cc

-- out of memory has its own code
pub wants_code : (kept : Option StreamFault) (code r : ℤ) → IsSomeAnd kept (λ fault. code_of fault ≡ code)
    → IsSomeAnd kept (λ fault. fault ≡ faults.NoMemory) → r ≡ code → r ≡ enomem
wants_code None code r of is same_code = absurd of
wants_code (Some fault) code r of is same_code = same_code ∙ sym of ∙ ap code_of is

-- what a checked stream answers where its tap wants memory
pub raw_wants : (s n : Stream) (link nodes : ℕ) (kept : Option StreamFault) (code r : ℤ) (out : ArrayTree) → IsSomeAnd kept (λ fault. fault ≡ faults.NoMemory)
    → n.said ≡ None → IsSomeAnd kept (λ fault. code_of fault ≡ code) → r ≡ code → out ≡ Released
    → Answers s (raw_state link nodes kept n) r out
raw_wants s n link nodes None code r out is silent of same_code released = absurd is
raw_wants s n link nodes (Some fault) code r out is silent of same_code released =
    let twelve = wants_code (Some fault) code r of is same_code in
    record {
      chunk = λ live. absurd (subst IsLive released live);
      finish = λ e. absurd (let k : enomem ≡ pos 0 = sym twelve ∙ e in cc);
      bad = λ e. absurd (let k : enomem ≡ einval = sym twelve ∙ e in cc);
      wants = λ _. rw (is, silent) refl;
      codes = inr (inl twelve);
    }

-- a stream that answers 0 is fresh
pub fresh_at : (m n : Stream) (code : ℤ) (a b : Tally) (seen shown : Option (List Seen)) → IsTrue m.lawful → Repeats m n code a b seen shown
    → Tells code n.said → code ≡ pos 0 → IsFresh m
fresh_at m n code a b seen shown lawful repeats tells zero = record {
  lawful = lawful;
  no_failure = works_before m.failure code (λ refusal e. tells_refusal code n.said refusal tells (repeats.same refusal e).1) zero;
}
