-- Texts in a buffer, and what a table of them says of a part of it.
use Rattle.std.proofs.Common.{◌≡◌, ℕ, ◌+◌, ◌-◌, ◌<◌, ◌≤◌, List, length, take, drop, get_or, replicate, inl, inr, ap, ◌∙◌, sym, subst, arith}
use Rattle.std.specs.Prelude.{IsUtf8, slice_set}
use Rattle.std.specs.Str.{IsCharBoundary}
use Rattle.std.proofs.Math.Seq.{take-add}
use Rattle.std.proofs.lemmas.Bool.{cases_eq}
use Rattle.std.proofs.lemmas.List.{drop-take, take-take, drop-drop, length-set, length-replicate, length-take, get_or-replicate, get_or-set_other}
use Rattle.std.proofs.lemmas.Grind.{get_or-set_at}
use Rattle.std.proofs.lemmas.Str.{IsUtf8-append, IsUtf8-take, IsUtf8-drop, IsUtf8-nil}
use Rattle.layout_check.specs.declared.runs.Run.{Run}
use Rattle.raw_array.specs.promise.Members.{ArrayMembers}
use Rattle.layout_check.specs.declared.marks.Mark.{Mark}
use Rattle.layout_check.specs.Scans.{sized_data, no_mark, IsRun, AreMarks, MarksIn}

-- ---- a table

no_run-is : (bytes : List ℕ) → IsRun bytes no_mark.run
no_run-is bytes = record { order = omega arith; within = omega arith; text = IsUtf8-nil }

abbrev IsMark : ArrayMembers → Mark → Type 0
IsMark own mark = IsRun (sized_data own mark.buffer) mark.run

pub no-marks : (own : ArrayMembers) (n : ℕ) → AreMarks own (replicate n no_mark)
no-marks own n =
    record {
      at = λ j l. subst (IsMark own) (sym (get_or-replicate n j no_mark no_mark (omega (arith, l, length-replicate n no_mark))))
          (no_run-is (sized_data own no_mark.buffer));
    }

pub marks-set : (own : ArrayMembers) (marks : List Mark) (k : ℕ) (new : Mark) → AreMarks own marks → IsRun (sized_data own new.buffer) new.run
    → AreMarks own (slice_set marks k new)
marks-set own marks k new h is =
    record {
      at = λ j l.
          let inside : j < length marks = omega (arith, l, length-set marks k new) in
          elim (cases_eq j k) [
            | inl same ↦ subst (IsMark own) (sym (get_or-set_at marks k j new no_mark same (subst (λ n. n < length marks) same inside))) is
            | inr other ↦ subst (IsMark own) (sym (get_or-set_other marks k j new no_mark other)) (h.at j inside)
          ];
    }

pub marks-in : (own : ArrayMembers) (marks : List Mark) (bytes : List ℕ) (k : ℕ) → bytes ≡ sized_data own k → AreMarks own marks → MarksIn bytes k marks
marks-in own marks bytes k is h =
    record {
      at = λ j l e. subst (λ d. IsRun d (get_or marks j no_mark).run) (ap (sized_data own) e ∙ sym is) (h.at j l);
    }

pub ruleset noted = (marks-set)

pub ruleset marked = (marks-in)

-- ---- behind a border

cut-short : (d : List ℕ) (from begin size rest : ℕ) → size ≡ begin + rest → drop begin (take size (drop from d)) ≡ take rest (drop (from + begin) d)
cut-short d from begin size rest e =
    ap (λ n. drop begin (take n (drop from d))) e
    ∙ drop-take begin rest (drop from d)
    ∙ ap (take rest) (drop-drop begin from d)

pub run-rest : (bytes : List ℕ) (run : Run) (begin : ℕ) → IsRun bytes run → IsCharBoundary (take (run.to - run.from) (drop run.from bytes)) begin
    → IsRun bytes (record { from = run.from + begin; to = run.to })
run-rest bytes run begin h border =
    let long : length (take (run.to - run.from) (drop run.from bytes)) ≤ run.to - run.from = grind (arith, length-take) in
    let inside : begin ≤ run.to - run.from = omega (arith, long, border.0) in
    record {
      order = omega (arith, inside, h.order);
      within = h.within;
      text =
          subst IsUtf8
          (cut-short bytes run.from begin (run.to - run.from) (run.to - (run.from + begin)) (omega (arith, inside, h.order)))
          (IsUtf8-drop (take (run.to - run.from) (drop run.from bytes)) begin h.text border);
    }

pub ruleset cuts = (run-rest)

-- ---- text up to a border, and a text from there on that is cut at a border of its own

reach-text : (d : List ℕ) (from some more reach : ℕ) → more ≤ reach
    → IsUtf8 (take some (drop from d)) → IsUtf8 (take reach (drop (from + some) d)) → IsCharBoundary (take reach (drop (from + some) d)) more
    → IsUtf8 (take (some + more) (drop from d))
reach-text d from some more reach h a b c =
    let behind = IsUtf8-take (take reach (drop (from + some) d)) more b c in
    let cut = take-take more reach (drop (from + some) d) h ∙ ap (take more) (sym (drop-drop some from d)) in
    subst IsUtf8 (sym (take-add some more (drop from d)))
    (IsUtf8-append (take some (drop from d)) (take more (drop some (drop from d))) a (subst IsUtf8 cut behind))

pub part-text : (d : List ℕ) (from to at reach : ℕ) → from ≤ at → at ≤ to → to ≤ reach
    → IsUtf8 (take (at - from) (drop from d)) → IsUtf8 (take (reach - at) (drop at d)) → IsCharBoundary (take (reach - at) (drop at d)) (to - at)
    → IsUtf8 (take (to - from) (drop from d))
part-text d from to at reach h l m a b c =
    let place : at ≡ from + (at - from) = omega (arith, h) in
    let size : (at - from) + (to - at) ≡ to - from = omega (arith, h, l) in
    subst (λ n. IsUtf8 (take n (drop from d))) size
    (reach-text d from (at - from) (to - at) (reach - at) (omega (arith, m)) a
    (subst (λ n. IsUtf8 (take (reach - at) (drop n d))) place b)
    (subst (λ n. IsCharBoundary (take (reach - at) (drop n d)) (to - at)) place c))

pub ruleset parts = (part-text)
