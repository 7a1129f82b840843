-- What each way of a call of a checked stream gives, from what the call of its inner stream gave.
use Rattle.std.proofs.Common.{Bool, true, false, IsTrue, ◌≡◌, ◌≢◌, ◌+◌, ◌<◌, ℕ, ℤ, pos, negsuc, List, [], Option, Some, None, IsSomeAnd, w32, to_z, of_z, FitsSigned, refl, sym}
use Rattle.std.proofs.Common.{◌∙◌, ap, subst, inl, inr, arith}
use Rattle.std.specs.Int.Signed.{mag}
use Rattle.std.proofs.Math.Facts.{to_z-of_z}
use Rattle.tree_model.specs.promise.TreeData.{Released}
use Rattle.tree_model.specs.promise.TreeParts.{IsLive}
use Rattle.raw_array.specs.promise.Members.{ArrayTree}
use Rattle.unit_pass.specs.Tally.{Tally}
use Rattle.data_types.specs.promise.KindTrees.{KindTree}
use Rattle.layout_rules.specs.declared.rule.LayoutFault.{LayoutFault}
use Rattle.stream_face.specs.Calls.{Answers, IsCode, IsRowFault, IsTold, Repeats, Tells}
use Rattle.stream_face.specs.Codes.{enomem}
use Rattle.stream_face.specs.Failures.{why}
use Rattle.stream_face.specs.Faults.{IsOwnFault, IsWhy, code_of}
use Rattle.stream_face.specs.Raw.{raw_state, refusal_or, row_or}
use Rattle.stream_face.specs.promise.Shown.{Seen}
use Rattle.stream_face.specs.Streams.{IsFresh, Keeps, Stream}
use Rattle.stream_face.specs.Texts.{Refusal, refused_row, wanting}
use Rattle.stream_face.specs.declared.fault.Failure.{Failure}
use Rattle.stream_face.specs.declared.fault.StreamFault.{StreamFault}
use Rattle.stream_face.specs.declared.fault.StreamFault.TheVariants as faults
use Rattle.stream_face.proofs.Joints.{inner_works, own_code, tells_refusal}

-- ---- codes

pub same : (z : ℤ) → mag z < 2147483648 → to_z w32 (of_z w32 z) ≡ z
same z f = to_z-of_z (let fits : FitsSigned w32 z = record { sfits = f } in fits)

pub is_zero : (z : ℤ) → mag z < 2147483648 → of_z w32 z ≡ 0 → z ≡ pos 0
is_zero (pos n) f e = ap pos e
is_zero (negsuc n) f e = absurd (omega (arith, f, e))

pub zero_code : IsCode (pos 0)
zero_code = grind arith

own_fault_is_code : (kinds : KindTree) (chunk : ArrayTree) (fault : StreamFault) → IsOwnFault kinds chunk fault → IsCode (code_of fault)
own_fault_is_code kinds chunk (faults.Row row) own = absurd own
own_fault_is_code kinds chunk (faults.Chunk layout) own = grind arith
own_fault_is_code kinds chunk (faults.Code code) own = absurd own
own_fault_is_code kinds chunk faults.NoMemory own = grind arith

-- the code of a fault that is kept
abbrev pub HasCode : Option StreamFault → ℤ → Type 0
HasCode kept code = IsSomeAnd kept (λ fault. code_of fault ≡ code)

pub own_is_code : (kinds : KindTree) (chunk : ArrayTree) (kept : Option StreamFault) (code : ℤ) → IsSomeAnd kept (IsOwnFault kinds chunk) → HasCode kept code
    → IsCode code
own_is_code kinds chunk None code own of = absurd own
own_is_code kinds chunk (Some fault) code own of = subst IsCode of (own_fault_is_code kinds chunk fault own)

pub own_is_refusal : (kinds : KindTree) (chunk : ArrayTree) (kept : Option StreamFault) (code : ℤ) → IsSomeAnd kept (IsOwnFault kinds chunk) → HasCode kept code
    → code ≢ pos 0
own_is_refusal kinds chunk None code own of = absurd own
own_is_refusal kinds chunk (Some fault) code own of = λ z. own_code kinds chunk fault own (of ∙ z)

-- ---- each way

pub keeps-raw : (link nodes : ℕ) (f h : Option StreamFault) (s n : Stream) → Keeps s n → Keeps (raw_state link nodes f s) (raw_state link nodes h n)
keeps-raw link nodes f h s n k = record {
  columns = k.columns;
  ending = k.ending;
  lawful = k.lawful;
  held = ap (λ x. x + nodes) k.held;
  live = k.live;
  schema = k.schema;
}

pub inner_fresh : (link nodes : ℕ) (f : Option StreamFault) (s : Stream) → IsFresh (raw_state link nodes f s) → IsFresh s
inner_fresh link nodes f s fresh = record { lawful = fresh.lawful; no_failure = inner_works f s.failure s.said fresh.no_failure }

-- a stream that has not refused has no fault
pub no_fault : {X : Type 0} → (f : Option Failure) (fault : StreamFault) → f ≡ None → why f ≡ Some fault → X
no_fault None fault e q = absurd (cc)
no_fault (Some failure) fault e q = absurd (cc)

pub never_live : {X : Type 0} → (t : ArrayTree) → t ≡ Released → IsLive t → X
never_live t released live = absurd (subst IsLive released live)

-- ---- where the inner stream refuses

-- a refusal is answered, with its code
pub tells-kept : (kept : Option StreamFault) (said : Option Refusal) (code r : ℤ) → HasCode kept code → r ≡ code → code ≢ pos 0
    → Tells r (refusal_or kept said said)
tells-kept None said code r of same_code nonzero = absurd of
tells-kept (Some fault) said code r of same_code nonzero = (same_code ∙ sym of, λ z. nonzero (sym same_code ∙ z))

-- its refusal is that of the inner stream
pub same_refusal : (kept : Option StreamFault) (said : Option Refusal) (refusal : Refusal) (code : ℤ) → HasCode kept code → said ≡ Some refusal
    → code ≡ refusal.code → refusal_or kept said said ≡ Some refusal
same_refusal None said refusal code of e c = absurd of
same_refusal (Some fault) said refusal code of e c =
    ap (λ x. refusal_or (Some fault) x x) e ∙ ap (λ z. Some (let told : Refusal = record { code = z; text = refusal.text } in told)) (of ∙ c)

-- where a fault is kept there is a failure
pub kept_some : {X : Type 0} → (failure : Option Failure) (code : ℤ) → HasCode (why failure) code → failure ≡ None → X
kept_some None code of e = absurd of
kept_some (Some failure) code of e = absurd (cc)

-- a row at fault is the inner stream's, at which it ends
pub row_ends : (kept : Option StreamFault) (n : Stream) (code : ℤ) (fault : _) → row_or kept n.fault ≡ n.fault → IsRowFault code n.ending n.fault
    → kept ≡ Some (faults.Row fault) → n.ending ≡ Some fault
row_ends kept n code fault row faulted e =
    let is : Some fault ≡ n.fault = subst (λ x. row_or x n.fault ≡ n.fault) e row in
    (subst (IsRowFault code n.ending) (sym is) faulted).1

module _ (link nodes : ℕ) (f : Option Failure) (kept : Option StreamFault) (s n : Stream) (code r : ℤ) (e : f ≡ None) (same_code : r ≡ code)
    (of : HasCode kept r) (row : row_or kept n.fault ≡ n.fault) where
  pub repeats-refused : (before after : Tally) (seen shown : Option (List Seen)) → Repeats s n code before after seen shown
      → Repeats (raw_state link nodes (why f) s) (raw_state link nodes kept n) r before after seen shown
  repeats-refused before after seen shown again =
      let failed = λ (refusal : Refusal) (q : refusal_or (why f) s.failure s.said ≡ Some refusal).
      subst (λ h. refusal_or (why h) s.failure s.said ≡ Some refusal) e q in
      record {
        same = λ refusal q.
            let h = again.same refusal (failed refusal q) in (
              same_code ∙ h.0,
              same_refusal kept n.said refusal r of h.1 (same_code ∙ h.0),
              row ∙ h.2 ∙ sym (ap (λ x. row_or (why x) s.fault) e),
            );
        counts = λ refusal q. again.counts refusal (failed refusal q);
        shows = λ refusal q. again.shows refusal (failed refusal q);
      }

  pub answers-refused : (out : ArrayTree) → out ≡ Released → code ≢ pos 0 → Answers s n code out
      → Answers (raw_state link nodes (why f) s) (raw_state link nodes kept n) r out
  answers-refused out released nonzero a = record {
    chunk = λ live. never_live out released live;
    finish = λ z. absurd (nonzero (sym same_code ∙ z));
    bad = λ z.
        let h = a.bad (sym same_code ∙ z) in
        (h.0, h.1, h.2, h.3, row ∙ h.4, same_refusal kept n.said (refused_row h.2) r of h.5 z);
    wants = λ z. same_refusal kept n.said wanting r of (a.wants (sym same_code ∙ z)) z;
    codes = elim a.codes [ inl z ↦ inl (same_code ∙ z) | inr rest ↦ inr (elim rest [ inl z ↦ inl (same_code ∙ z) | inr z ↦ inr (same_code ∙ z) ]) ];
  }

-- a lawful stream that refuses while there is memory has come to its record
pub refused_ends : (s n : Stream) (code r : ℤ) (out : ArrayTree) → r ≡ code → code ≢ pos 0 → Answers s n code out → r ≢ enomem
    → (s.ahead ≡ []) × (n.ahead ≡ [])
refused_ends s n code r out same_code nonzero a had = elim a.codes [
  | inl z ↦ absurd (nonzero z)
  | inr rest ↦ elim rest [ inl z ↦ absurd (had (same_code ∙ z)) | inr z ↦ ((a.bad z).0, (a.bad z).1) ]
]

-- ---- where it answers 0

-- a stream that answers 0 has not refused before
pub repeats-never : (old new : Stream) (code : ℤ) (before after : Tally) (seen shown : Option (List Seen))
    → ((refusal : Refusal) → old.failure ≡ Some refusal → ⊥) → Repeats old new code before after seen shown
repeats-never old new code before after seen shown never = record {
  same = λ refusal q. absurd (never refusal q);
  counts = λ refusal q. absurd (never refusal q);
  shows = λ refusal q. absurd (never refusal q);
}

pub never_refused : (f : Option Failure) (s n : Stream) (code : ℤ) (before after : Tally) (seen shown : Option (List Seen)) → f ≡ None
    → Repeats s n code before after seen shown → Tells code n.said → code ≡ pos 0 → (refusal : Refusal) → refusal_or (why f) s.failure s.said ≡ Some refusal → ⊥
never_refused f s n code before after seen shown e again tells zero refusal q =
    let h = again.same refusal (subst (λ x. refusal_or (why x) s.failure s.said ≡ Some refusal) e q) in
    tells_refusal code n.said refusal tells h.1 zero

module _ (link nodes : ℕ) (f : Option Failure) (s n : Stream) (code : ℤ) (e : f ≡ None) (zero : code ≡ pos 0) where
  pub tells-working : Tells code n.said → Tells (pos 0) (refusal_or (why f) n.said n.said)
  tells-working tells = subst (λ x. Tells (pos 0) (refusal_or (why x) n.said n.said)) (sym e) (subst (λ z. Tells z n.said) zero tells)

  pub why-working : (kinds : KindTree) → IsWhy (pos 0) kinds s n (why f)
  why-working kinds = subst (λ x. IsWhy (pos 0) kinds s n (why x)) (sym e) refl

  pub faulted-working : IsRowFault code n.ending n.fault → IsRowFault (pos 0) n.ending (row_or (why f) n.fault)
  faulted-working faulted = subst (λ x. IsRowFault (pos 0) n.ending (row_or (why x) n.fault)) (sym e) (subst (λ z. IsRowFault z n.ending n.fault) zero faulted)

  pub answers-working : (out : ArrayTree) → Answers s n code out → Answers (raw_state link nodes (why f) s) (raw_state link nodes (why f) n) (pos 0) out
  answers-working out a = record {
    chunk = λ live. a.chunk live;
    finish = λ z released. a.finish zero released;
    bad = λ z. absurd (cc z);
    wants = λ z. absurd (cc z);
    codes = inl refl;
  }

-- ---- where the chunk is refused

-- what a stream that isn't lawful gave
abbrev Gave : Stream → Stream → ArrayTree → Type 0
Gave s n chunk = s.lawful ≡ false → n.gave ≡ Some chunk

-- over a lawful one the check doesn't refuse
abbrev Passes : Stream → StreamFault → Type 0
Passes s fault = IsTrue s.lawful → fault ≡ faults.NoMemory

not_lawful : (lawful : Bool) (layout : LayoutFault) → (IsTrue lawful → faults.Chunk layout ≡ faults.NoMemory) → lawful ≡ false
not_lawful true layout passes = absurd (let e = passes refl in cc)
not_lawful false layout passes = refl

why-own_fault : (kinds : KindTree) (chunk : ArrayTree) (s n : Stream) (fault : StreamFault) (r : ℤ) → IsOwnFault kinds chunk fault → r ≡ code_of fault
    → n.said ≡ None → Gave s n chunk → Passes s fault → IsTold s.chunk chunk → IsWhy r kinds s n (Some fault)
why-own_fault kinds chunk s n (faults.Row row) r own e silent gave passes told = absurd own
why-own_fault kinds chunk s n (faults.Chunk layout) r own e silent gave passes told =
    let other = not_lawful s.lawful layout passes in
    (e, silent, other, chunk, gave other, told, own)
why-own_fault kinds chunk s n (faults.Code code) r own e silent gave passes told = absurd own
why-own_fault kinds chunk s n faults.NoMemory r own e silent gave passes told = e

pub why-own : (kinds : KindTree) (chunk : ArrayTree) (s n : Stream) (kept : Option StreamFault) (r code : ℤ) → IsSomeAnd kept (IsOwnFault kinds chunk)
    → HasCode kept code → r ≡ code → n.said ≡ None → Gave s n chunk → (IsTrue s.lawful → IsSomeAnd kept (λ fault. fault ≡ faults.NoMemory))
    → IsTold s.chunk chunk → IsWhy r kinds s n kept
why-own kinds chunk s n None r code own of same_code silent gave passes told = absurd own
why-own kinds chunk s n (Some fault) r code own of same_code silent gave passes told =
    why-own_fault kinds chunk s n fault r own (same_code ∙ sym of) silent gave passes told

row-own_fault : (kinds : KindTree) (chunk : ArrayTree) (n : Stream) (fault : StreamFault) (r : ℤ) → IsOwnFault kinds chunk fault
    → IsRowFault r n.ending (row_or (Some fault) n.fault)
row-own_fault kinds chunk n (faults.Row row) r own = absurd own
row-own_fault kinds chunk n (faults.Chunk layout) r own = tt
row-own_fault kinds chunk n (faults.Code code) r own = absurd own
row-own_fault kinds chunk n faults.NoMemory r own = tt

pub row-own : (kinds : KindTree) (chunk : ArrayTree) (n : Stream) (kept : Option StreamFault) (r : ℤ) → IsSomeAnd kept (IsOwnFault kinds chunk)
    → IsRowFault r n.ending (row_or kept n.fault)
row-own kinds chunk n None r own = absurd own
row-own kinds chunk n (Some fault) r own = row-own_fault kinds chunk n fault r own
