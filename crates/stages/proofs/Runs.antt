-- Calls of a stream one after another, each of which answered 0, as one.
use Rattle.std.proofs.Common.{arith, ◌≡◌, ◌≢◌, ◌<◌, ◌+◌, ◌++◌, ◌^◌, ℕ, ℤ, pos, List, [], Option, Some, None, IsTrue, refl, sym, ◌∙◌, ap, subst}
use Rattle.std.proofs.lemmas.List.{append-nil, append_assoc}
use Rattle.tree_model.specs.promise.TreeData.{Released}
use Rattle.raw_array.specs.promise.Members.{ArrayTree}
use Rattle.unit_pass.specs.promise.Tally.{risen}
use Rattle.unit_pass.specs.Tally.{Tally}
use Rattle.stream_face.specs.promise.Calls.{Begins, IsMade}
use Rattle.stream_face.specs.Calls.{Counts, GoesOn, InOrder, Repeats, Shows, ShowsInOrder, Tells}
use Rattle.stream_face.specs.Codes.{enomem}
use Rattle.stream_face.specs.promise.Shown.{Seen, Shown, grown, of_link, rows_of_link, rows_shown}
use Rattle.stream_face.specs.promise.Streams.{Making}
use Rattle.stream_face.specs.Streams.{IsFresh, Keeps, Stream, Traffic}
use Rattle.stream_face.specs.Texts.{Refusal}
use Rattle.stream_face.proofs.Orders.{goes-both, goes-start, made-both, made-none, nil_part, rows-append}
use Rattle.stream_face.proofs.Joints.{grown-append, had_memory, of_link-append, tells_nothing, tells_refusal, works_before}

-- ---- runs and calls
-- what was shown and counted from one moment of a lawful stream to a later one
pub record Went (old new : Stream) (seen later : Option (List Seen)) (before after : Tally) : Type 0 where
  pub shown : List Seen
  pub told : later ≡ grown seen shown
  pub leaves : (link : ℕ) → old.joints link ≡ of_link link shown ++ new.joints link
  pub in_order : (first rest : List Seen) → shown ≡ first ++ rest → (link : ℕ) → IsMade (old.makings link) link first
  pub goes_on : (link : ℕ) → GoesOn (old.makings link) (new.makings link) new.joints shown (rows_of_link link shown)
  pub made : Traffic
  pub blocks : after.blocks ≡ risen before.blocks made.blocks
  pub nodes : after.nodes ≡ risen before.nodes made.nodes
  pub fewer_blocks : old.due.blocks ≡ made.blocks + new.due.blocks
  pub fewer_nodes : old.due.nodes ≡ made.nodes + new.due.nodes

-- the same of any stream: where a call has refused before, no call was made since
pub record Ran (old new : Stream) (seen later : Option (List Seen)) (before after : Tally) : Type 0 where
  pub keeps : Keeps old new
  pub works : old.failure ≡ None → new.failure ≡ None
  pub failed : (refusal : Refusal) → old.failure ≡ Some refusal → new.failure ≡ Some refusal
  pub fault : (refusal : Refusal) → old.failure ≡ Some refusal → new.fault ≡ old.fault
  pub counts : (refusal : Refusal) → old.failure ≡ Some refusal → after ≡ before
  pub shows : (refusal : Refusal) → old.failure ≡ Some refusal → later ≡ seen
  pub went : IsFresh old → Went old new seen later before after

-- a call of a stream, without what it gives
pub record Called (old new : Stream) (code : ℤ) (out : ArrayTree) (seen later : Option (List Seen)) (before after : Tally) : Type 0 where
  pub keeps : Keeps old new
  pub tells : Tells code new.said
  pub failure : new.failure ≡ new.said
  pub repeats : Repeats old new code before after seen later
  pub counts : IsFresh old → code ≢ enomem → Counts old.due new.due before after out
  pub shows : IsFresh old → ShowsInOrder old new code out seen later

pub kept-both : (s m n : Stream) → Keeps s m → Keeps m n → Keeps s n
kept-both s m n a b = record {
  columns = b.columns ∙ a.columns;
  ending = b.ending ∙ a.ending;
  lawful = b.lawful ∙ a.lawful;
  held = b.held ∙ a.held;
  live = b.live ∙ a.live;
  schema = b.schema ∙ a.schema;
}

-- a call that answers 0 is of a stream that has not refused
pub not-failed : (m n : Stream) (code : ℤ) (out : ArrayTree) (seen later : Option (List Seen)) (before after : Tally)
    → Called m n code out seen later before after → code ≡ pos 0 → m.failure ≡ None
not-failed m n code out seen later before after call zero =
    works_before m.failure code (λ refusal e. tells_refusal code n.said refusal call.tells (call.repeats.same refusal e).1) zero

grown-nil : (seen : Option (List Seen)) → seen ≡ grown seen []
grown-nil None = refl
grown-nil (Some before) = ap Some (sym (append-nil before))

risen-add : (a b c m n : ℕ) → b ≡ risen a m → c ≡ risen b n → c ≡ risen a (m + n)
risen-add a b c m n e f = omega (arith, e, f)

-- ---- the start of a run, and what it shows and counts
-- no call was made yet
pub Ran-start : (s : Stream) (seen : Option (List Seen)) (t : Tally) → t.blocks < 2 ^ 64 → t.nodes < 2 ^ 64 → Ran s s seen seen t t
Ran-start s seen t blocks nodes = record {
  keeps = record { columns = refl; ending = refl; lawful = refl; held = refl; live = refl; schema = refl };
  works = λ e. e;
  failed = λ refusal e. e;
  fault = λ refusal e. refl;
  counts = λ refusal e. refl;
  shows = λ refusal e. refl;
  went = λ fresh. record {
    shown = [];
    told = grown-nil seen;
    leaves = λ link. refl;
    in_order = λ first rest e link. made-none (s.makings link) link first (ap (rows_of_link link) (nil_part first rest e));
    goes_on = λ link. goes-start (s.makings link) s.joints;
    made = record { blocks = 0; nodes = 0 };
    blocks = omega (arith, blocks);
    nodes = omega (arith, nodes);
    fewer_blocks = omega arith;
    fewer_nodes = omega arith;
  };
}

-- what is shown by a run and by a call after it
abbrev pub Ran-shows : (s m n : Stream) (code done : ℤ) (out given : ArrayTree) (before middle after : Option (List Seen)) (a b : Tally)
    → Went s m before middle a b → Shows m.joints n.joints code out middle after → (done ≢ enomem → code ≢ enomem)
    → (done ≢ enomem → given ≡ Released → out ≡ Released)
    → Shows s.joints n.joints done given before after
Ran-shows s m n code done out given before middle after a b went shows had gone = record {
  shown = went.shown ++ shows.shown;
  told = shows.told ∙ ap (λ seen. grown seen shows.shown) went.told ∙ grown-append before went.shown shows.shown;
  begins = λ link.
      let rest = shows.begins link in (
        rest.0,
        rw of_link-append (went.leaves link ∙ ap (λ xs. of_link link went.shown ++ xs) rest.1
            ∙ sym (append_assoc (of_link link went.shown) (of_link link shows.shown) rest.0)),
      );
  leaves = λ e link. rw of_link-append (went.leaves link ∙ ap (λ xs. of_link link went.shown ++ xs) (shows.leaves (had e) link)
      ∙ sym (append_assoc (of_link link went.shown) (of_link link shows.shown) (n.joints link)));
  ends = λ e released. shows.ends (had e) (gone e released);
}

-- what each link still shows after it
pub Ran-leaves : (s m n : Stream) (code : ℤ) (out : ArrayTree) (before middle after : Option (List Seen)) (a b : Tally) (went : Went s m before middle a b)
    → (x : ShowsInOrder m n code out middle after) → code ≢ enomem → (link : ℕ) → s.joints link ≡ of_link link (went.shown ++ x.shows.shown) ++ n.joints link
Ran-leaves s m n code out before middle after a b went x had link = rw of_link-append (went.leaves link
    ∙ ap (λ xs. of_link link went.shown ++ xs) (x.shows.leaves had link)
    ∙ sym (append_assoc (of_link link went.shown) (of_link link x.shows.shown) (n.joints link)))

-- in the order of links
pub Ran-made : (s m n : Stream) (code : ℤ) (out : ArrayTree) (before middle after : Option (List Seen)) (a b : Tally) (went : Went s m before middle a b)
    → (x : ShowsInOrder m n code out middle after) → (first rest : List Seen) → went.shown ++ x.shows.shown ≡ first ++ rest → (link : ℕ)
    → IsMade (s.makings link) link first
Ran-made s m n code out before middle after a b went x =
    made-both s.makings m.makings m.joints went.shown x.shows.shown went.in_order went.goes_on x.shows.begins x.order.made

pub Ran-goes : (s m n : Stream) (code : ℤ) (out : ArrayTree) (before middle after : Option (List Seen)) (a b : Tally) (went : Went s m before middle a b)
    → (x : ShowsInOrder m n code out middle after) → code ≢ enomem → (link : ℕ)
    → GoesOn (s.makings link) (n.makings link) n.joints (went.shown ++ x.shows.shown) (rows_of_link link (went.shown ++ x.shows.shown))
Ran-goes s m n code out before middle after a b went x had link =
    subst (GoesOn (s.makings link) (n.makings link) n.joints (went.shown ++ x.shows.shown)) (sym (rows-append link went.shown x.shows.shown))
    (goes-both (s.makings link) (m.makings link) (n.makings link) m.joints n.joints went.shown x.shows.shown (rows_of_link link went.shown)
    (rows_of_link link x.shows.shown) (x.shows.leaves had) (went.goes_on link) (x.order.goes_on had link))

-- what is counted by both
pub Ran-counts : (s m n : Stream) (out given : ArrayTree) (before middle : Option (List Seen)) (a b d e : Tally)
    → Went s m before middle a b → Counts m.due n.due b d out → e.blocks ≡ d.blocks → e.nodes ≡ d.nodes → (given ≡ Released → out ≡ Released)
    → Counts s.due n.due a e given
Ran-counts s m n out given before middle a b d e went counts blocks nodes gone = record {
  made = record { blocks = went.made.blocks + counts.made.blocks; nodes = went.made.nodes + counts.made.nodes };
  blocks = risen-add a.blocks b.blocks e.blocks went.made.blocks counts.made.blocks went.blocks (blocks ∙ counts.blocks);
  nodes = risen-add a.nodes b.nodes e.nodes went.made.nodes counts.made.nodes went.nodes (nodes ∙ counts.nodes);
  fewer_blocks = omega (arith, went.fewer_blocks, counts.fewer_blocks);
  fewer_nodes = omega (arith, went.fewer_nodes, counts.fewer_nodes);
  no_blocks = λ released. counts.no_blocks (gone released);
  no_nodes = λ released. counts.no_nodes (gone released);
}

-- ---- refusals, and runs without one
-- a stream that has refused answers the same behind a run
pub Ran-repeats : (s m n : Stream) (code done : ℤ) (before middle after : Option (List Seen)) (a b d : Tally) → done ≡ code → Ran s m before middle a b
    → Repeats m n code b d middle after → Repeats s n done a d before after
Ran-repeats s m n code done before middle after a b d is ran repeats = record {
  same = λ refusal e.
      let told = repeats.same refusal (ran.failed refusal e) in
      (is ∙ told.0, told.1, told.2 ∙ ran.fault refusal e);
  counts = λ refusal e. repeats.counts refusal (ran.failed refusal e) ∙ ran.counts refusal e;
  shows = λ refusal e. repeats.shows refusal (ran.failed refusal e) ∙ ran.shows refusal e;
}

-- one that is fresh at the start of a run is fresh at its end
pub Ran-still : (s m : Stream) (before middle : Option (List Seen)) (a b : Tally) → Ran s m before middle a b → IsFresh s → IsFresh m
Ran-still s m before middle a b ran fresh = record {
  lawful = subst IsTrue (sym ran.keeps.lawful) fresh.lawful;
  no_failure = ran.works fresh.no_failure;
}

-- a run, and a call after it that answers 0
module _ (s m n : Stream) (code : ℤ) (out : ArrayTree) (before middle after : Option (List Seen)) (a b d : Tally) (ran : Ran s m before middle a b)
    (call : Called m n code out middle after b d) (zero : code ≡ pos 0) where
  -- the stream had not refused
  not-refused : (refusal : Refusal) → s.failure ≡ Some refusal → ⊥
  not-refused refusal failed =
      let works = not-failed m n code out middle after b d call zero in
      let has = ran.failed refusal failed in
      let k : None ≡ Some refusal = sym works ∙ has in cc

  pub Ran-works : (done : ℤ) (last : Option (List Seen)) (e : Tally) → Repeats s n done a e before last
  Ran-works done last e = record {
    same = λ refusal failed. absurd (not-refused refusal failed);
    counts = λ refusal failed. absurd (not-refused refusal failed);
    shows = λ refusal failed. absurd (not-refused refusal failed);
  }

  -- and was fresh before the call
  pub Ran-fresh : IsTrue s.lawful → IsFresh m
  Ran-fresh lawful = record {
    lawful = subst IsTrue (sym ran.keeps.lawful) lawful;
    no_failure = not-failed m n code out middle after b d call zero;
  }

  -- the run with the call
  pub Ran-next : (e : Tally) → IsTrue s.lawful → e.blocks ≡ d.blocks → e.nodes ≡ d.nodes → Ran s n before after a e
  Ran-next e lawful blocks nodes =
      let fresh = Ran-fresh lawful in
      let ordered = call.shows fresh in
      let shows = ordered.shows in
      let had = had_memory code zero in
      let counts = call.counts fresh had in
      record {
        keeps = kept-both s m n ran.keeps call.keeps;
        works = λ _. call.failure ∙ tells_nothing code n.said call.tells zero;
        failed = λ refusal failed. absurd (not-refused refusal failed);
        fault = λ refusal failed. absurd (not-refused refusal failed);
        counts = λ refusal failed. absurd (not-refused refusal failed);
        shows = λ refusal failed. absurd (not-refused refusal failed);
        went = λ start.
            let went = ran.went start in
            record {
              shown = went.shown ++ shows.shown;
              told = shows.told ∙ ap (λ seen. grown seen shows.shown) went.told ∙ grown-append before went.shown shows.shown;
              leaves = λ link. rw of_link-append (went.leaves link ∙ ap (λ xs. of_link link went.shown ++ xs) (shows.leaves had link)
                  ∙ sym (append_assoc (of_link link went.shown) (of_link link shows.shown) (n.joints link)));
              in_order = Ran-made s m n code out before middle after a b went ordered;
              goes_on = Ran-goes s m n code out before middle after a b went ordered had;
              made = record { blocks = went.made.blocks + counts.made.blocks; nodes = went.made.nodes + counts.made.nodes };
              blocks = risen-add a.blocks b.blocks e.blocks went.made.blocks counts.made.blocks went.blocks (blocks ∙ counts.blocks);
              nodes = risen-add a.nodes b.nodes e.nodes went.made.nodes counts.made.nodes went.nodes (nodes ∙ counts.nodes);
              fewer_blocks = omega (arith, went.fewer_blocks, counts.fewer_blocks);
              fewer_nodes = omega (arith, went.fewer_nodes, counts.fewer_nodes);
            };
      }
