-- What a producer's own stream proves of its calls: of a chunk that it gives, of its end, of a record at fault, of out of memory,
-- and of a call that counts and shows nothing.
use Rattle.std.proofs.Common.{◌≡◌, ◌≢◌, ◌<◌, ◌^◌, ◌∙◌, ◌⊎◌, ℕ, ℤ, pos, List, [], ◌∷◌, Option, None, Some, refl, sym, ap, subst, arith, inl, inr}
use Rattle.std.proofs.Common.{append-nil}
use Rattle.data_types.specs.promise.Table.{Row}
use Rattle.data_types.specs.declared.row_fault.RowFault.{RowFault}
use Rattle.raw_array.specs.promise.Members.{ArrayTree}
use Rattle.tree_model.specs.promise.TreeParts.{IsLive}
use Rattle.tree_model.specs.promise.TreeData.{Live, Released}
use Rattle.unit_pass.specs.promise.Tally.{risen}
use Rattle.unit_pass.specs.Tally.{Tally}
use Rattle.stream_face.specs.promise.Calls.{IsMade}
use Rattle.stream_face.specs.Calls.{Answers, Counts, GoesOn, Shows, ShowsInOrder}
use Rattle.stream_face.specs.Codes.{einval, enomem}
use Rattle.stream_face.specs.Lawful.{IsChunkOf}
use Rattle.stream_face.specs.promise.Shown.{Seen, Shown, grown}
use Rattle.stream_face.specs.promise.Streams.{Making}
use Rattle.stream_face.specs.Streams.{Stream, Traffic}
use Rattle.stream_face.specs.Texts.{refused_row, wanting}

pub not-released : (out : ArrayTree) → IsLive out → out ≡ Released → ⊥
not-released out live is = subst IsLive is live

pub live-or-released : (out : ArrayTree) → IsLive out ⊎ (out ≡ Released)
live-or-released Released = inr refl
live-or-released (Live members children dictionary) = inl tt

-- ---- what is answered

differ : (m n : ℕ) → (m ≡ n → ⊥) → pos m ≡ pos n → ⊥
differ m n other e = other (let one : m ≡ n = cc in one)

-- a chunk, or the end
pub given-answers : (s n : Stream) (out : ArrayTree) → (IsLive out → (rows : List Row) × (s.ahead ≡ rows ∷ n.ahead) × IsChunkOf s.columns rows out)
    → (out ≡ Released → (s.ahead ≡ []) × (n.ahead ≡ []) × (s.ending ≡ None)) → Answers s n (pos 0) out
given-answers s n out chunk end = record {
  chunk = chunk;
  finish = λ _ gone. end gone;
  bad = λ e. absurd (differ 0 22 (λ (d : 0 ≡ 22). omega (arith, d)) e);
  wants = λ e. absurd (differ 0 12 (λ (d : 0 ≡ 12). omega (arith, d)) e);
  codes = inl refl;
}

-- the record at which the stream ends
pub row-answers : (s n : Stream) (row : RowFault) (code : ℤ) (out : ArrayTree) → out ≡ Released → code ≡ einval
    → (s.ahead ≡ []) × (n.ahead ≡ []) × (s.ending ≡ Some row) → n.fault ≡ Some row → n.said ≡ Some (refused_row row) → Answers s n code out
row-answers s n row code out gone is ends fault said = record {
  chunk = λ live. absurd (not-released out live gone);
  finish = λ e _. absurd (differ 22 0 (λ (d : 22 ≡ 0). omega (arith, d)) (sym is ∙ e));
  bad = λ _. (ends.0, ends.1, row, ends.2, fault, said);
  wants = λ e. absurd (differ 22 12 (λ (d : 22 ≡ 12). omega (arith, d)) (sym is ∙ e));
  codes = inr (inr is);
}

-- out of memory
pub wanting-answers : (s n : Stream) (code : ℤ) (out : ArrayTree) → out ≡ Released → code ≡ enomem → n.said ≡ Some wanting → Answers s n code out
wanting-answers s n code out gone is said = record {
  chunk = λ live. absurd (not-released out live gone);
  finish = λ e _. absurd (differ 12 0 (λ (d : 12 ≡ 0). omega (arith, d)) (sym is ∙ e));
  bad = λ e. absurd (differ 12 22 (λ (d : 12 ≡ 22). omega (arith, d)) (sym is ∙ e));
  wants = λ _. said;
  codes = inr (inl is);
}

-- ---- what is counted

no-more : (n : ℕ) → n < 2 ^ 64 → n ≡ risen n 0
no-more n small = omega (arith, small)

-- nothing, so that as much is due as before, and nothing at the end
pub counts-nothing : (due : Traffic) (before after : Tally) (out : ArrayTree) → after.blocks ≡ before.blocks → after.nodes ≡ before.nodes
    → before.blocks < 2 ^ 64 → before.nodes < 2 ^ 64 → (out ≡ Released → due.blocks ≡ 0) → (out ≡ Released → due.nodes ≡ 0)
    → Counts due due before after out
counts-nothing due before after out blocks nodes few-blocks few-nodes no-blocks no-nodes = record {
  made = record { blocks = 0; nodes = 0 };
  blocks = blocks ∙ no-more before.blocks few-blocks;
  nodes = nodes ∙ no-more before.nodes few-nodes;
  fewer_blocks = omega arith;
  fewer_nodes = omega arith;
  no_blocks = no-blocks;
  no_nodes = no-nodes;
}

-- ---- what is shown

none-made : (x y : Option Making) (left : ℕ → List Shown) (seen : List Seen) (given : List (List Row)) → x ≡ None → y ≡ None → GoesOn x y left seen given
none-made None y left seen given old new = new
none-made (Some x) y left seen given old new = absurd (cc)

grown-none : (before : Option (List Seen)) → before ≡ grown before []
grown-none None = refl
grown-none (Some seen) = ap (λ (xs : List Seen). Some xs) (sym (append-nil seen))

-- nothing, which is all where no link shows more at the end
pub shows-nothing : (joints : ℕ → List Shown) (code : ℤ) (out : ArrayTree) (before : Option (List Seen))
    → (code ≢ enomem → out ≡ Released → (link : ℕ) → joints link ≡ []) → Shows joints joints code out before before
shows-nothing joints code out before end = record {
  shown = [];
  told = grown-none before;
  begins = λ link. (joints link, refl);
  leaves = λ _ link. refl;
  ends = end;
}

-- and so in order, where the stream is over no link
pub shows-no-link : (s n : Stream) (code : ℤ) (out : ArrayTree) (before : Option (List Seen)) → ((link : ℕ) → s.joints link ≡ []) → s.joints ≡ n.joints
    → s.making ≡ None → n.making ≡ None → ((link : ℕ) → (s.makings link ≡ None) × (n.makings link ≡ None)) → ShowsInOrder s n code out before before
shows-no-link s n code out before none same old new makings = record {
  shows = record {
    shown = [];
    told = grown-none before;
    begins = λ link. (s.joints link, refl);
    leaves = λ _ link. ap (λ (joints : ℕ → List Shown). joints link) same;
    ends = λ _ _ link. ap (λ (joints : ℕ → List Shown). joints link) (sym same) ∙ none link;
  };
  order = record {
    made = λ first rest _ link. subst (λ (m : Option Making). IsMade m link first) (sym (makings link).0) tt;
    goes_on = λ _ link. none-made (s.makings link) (n.makings link) n.joints [] [] (makings link).0 (makings link).1;
    gives = λ _ given _. none-made s.making n.making n.joints [] given old new;
  };
}
