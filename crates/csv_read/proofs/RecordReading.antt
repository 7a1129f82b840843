-- What one read does to a reader over a source that tells its bytes.
use Rattle.std.proofs.Common.{◌≡◌, ◌≤◌, ◌<◌, ◌+◌, ◌++◌, ◌∙◌, ℕ, true, false, List, [], ◌∷◌, length, Option, Some, None, refl, sym, ap, subst, arith, inl}
use Rattle.std.proofs.Common.{inr, length-append}
use Rattle.std.proofs.lemmas.Bool.{cases_Bool, false≢true, true≢false}
use Rattle.std.specs.Option.{unwrap_or}
use Rattle.std.specs.List.{concat}
use Rattle.csv.specs.Machine.{Read, ends_at_end, field_after, fields_after, is_end, next_record, step}
use Rattle.csv.specs.Reading.{NextIs, ReadRecord, ReadsNext, default_config, has_failed, is_bom, is_flexible, pending_of, reader_state, records_from, source_of}
use Rattle.csv.specs.Reading.{strip_bom, took_first}
use Rattle.csv.specs.declared.parser.Action.{Action}
use Rattle.csv.specs.declared.parser.Action.TheVariants as act
use Rattle.csv.specs.declared.parser.Config.{Config}
use Rattle.csv.specs.declared.parser.State.{State}
use Rattle.csv.specs.declared.parser.State.TheVariants as st
use Rattle.csv.specs.declared.reader.Reader.{Reader}
use Rattle.csv_model.specs.promise.Reading.{Record}
use Rattle.csv_read.specs.RecordReader.{IsReading, Takes, records_left, text_left}

next-is : (o : Option Read) (fields : Record) (s : State) (ys : List ℕ) → NextIs o true fields s ys → o ≡ Some (fields, s, ys)
next-is None fields s ys h = absurd (true≢false h)
next-is (Some p) fields s ys h = rw (h.1, h.2, h.3) refl

next-is-none : (o : Option Read) (fields : Record) (s : State) (ys : List ℕ) → NextIs o false fields s ys → o ≡ None
next-is-none None fields s ys h = refl
next-is-none (Some p) fields s ys h = absurd (false≢true h.0)

after-record : (cfg : Config) (s : State) (xs : List ℕ) (after : Option (List ℕ)) (fields : Record) (s2 : State)
    → ReadsNext cfg s (Some xs) after true fields s2
    → (ys : List ℕ) × (after ≡ Some ys) × (next_record cfg s [] [] xs ≡ Some (fields, s2, ys))
after-record cfg s xs None fields s2 h = absurd h
after-record cfg s xs (Some ys) fields s2 h = (ys, refl, next-is (next_record cfg s [] [] xs) fields s2 ys h)

after-end : (cfg : Config) (s : State) (xs : List ℕ) (after : Option (List ℕ)) (fields : Record) (s2 : State) → ReadsNext cfg s (Some xs) after false fields s2
    → next_record cfg s [] [] xs ≡ None
after-end cfg s xs None fields s2 h = absurd h
after-end cfg s xs (Some ys) fields s2 h = next-is-none (next_record cfg s [] [] xs) fields s2 ys h

-- what is left after a read is what is pending
pending-left : {R : Type 0} (rem : R → Option (List ℕ)) (reader : Reader R) → reader.bom_checked ≡ true
    → source_of rem reader ≡ pending_of (rem reader.rdr) reader
pending-left rem reader checked = rw checked refl

-- ---- a record has a field

some-same : (p q : Read) → ◌≡◌ {A = Option Read} (Some p) (Some q) → p ≡ q
some-same p q e = cc

ended-field : (a : Action) (fields : List (List ℕ)) (field : List ℕ) → is_end a ≡ true → 1 ≤ length (fields_after a fields field)
ended-field act.EndRecord fields field end = omega (arith, length-append fields (field ∷ []))
ended-field act.EndField fields field end = omega (arith, length-append fields (field ∷ []))
ended-field act.Skip fields field end = absurd (false≢true end)
ended-field act.Copy fields field end = absurd (false≢true end)

next-some : (cfg : Config) (s : State) (fields : List (List ℕ)) (field xs : List ℕ) (q : Read) → next_record cfg s fields field xs ≡ Some q → 1 ≤ length q.0
unfolding next_record
next-some cfg s fields field [] q e = elim (cases_Bool (ends_at_end s)) [
  | inl ends ↦
      let same = some-same (fields ++ (field ∷ []), st.StartRecord, []) q (rw ends at e) in
      subst (λ (r : Read). 1 ≤ length r.0) same (omega (arith, length-append fields (field ∷ [])))
  | inr goes ↦ let none : ◌≡◌ {A = Option Read} None (Some q) = rw goes at e in cc
]
next-some cfg s fields field (c ∷ rest) q e = elim (cases_Bool (is_end (step cfg s c).1)) [
  | inl ends ↦
      let same = some-same (fields_after (step cfg s c).1 fields field, (step cfg s c).0, rest) q (rw ends at e) in
      subst (λ (r : Read). 1 ≤ length r.0) same (ended-field (step cfg s c).1 fields field ends)
  | inr goes ↦
      next-some cfg (step cfg s c).0 (fields_after (step cfg s c).1 fields field) (field_after (step cfg s c).1 c field) rest q (rw goes at e)
]

-- ---- one read

-- what the law of reading records in turn says
pub record InTurn : Type 0 where
  pub next : (s : State) (xs : List ℕ) (q : Read) → ends_at_end s ≡ false → next_record default_config s [] [] xs ≡ Some q
      → records_from default_config (length xs + 1) s xs ≡ q.0 ∷ records_from default_config (length q.2 + 1) q.1 q.2
  pub end : (s : State) (xs : List ℕ) → next_record default_config s [] [] xs ≡ None → records_from default_config (length xs + 1) s xs ≡ []
  pub between : (s : State) (xs : List ℕ) (q : Read) → next_record default_config s [] [] xs ≡ Some q → ends_at_end q.1 ≡ false
  pub shorter : (s : State) (xs : List ℕ) (q : Read) → ends_at_end s ≡ false → next_record default_config s [] [] xs ≡ Some q → length q.2 < length xs
  pub bytes : (s : State) (xs : List ℕ) (q : Read) → next_record default_config s [] [] xs ≡ Some q → length (concat q.0) + length q.2 ≤ length xs
  pub count : (s : State) (xs : List ℕ) (q : Read) → next_record default_config s [] [] xs ≡ Some q → length q.0 + length q.2 ≤ length xs + 1

pub record Stepped {R : Type 0} (rem : R → Option (List ℕ)) (old new : Reader R) (fields : Record) : Type 0 where
  pub reading : IsReading rem new
  pub more : records_left rem old ≡ fields ∷ records_left rem new
  pub some : 1 ≤ length fields
  pub takes : Takes (length (text_left rem old)) fields (length (text_left rem new))

-- a record was read
pub stepped : InTurn → {R : Type 0} (rem : R → Option (List ℕ)) (old new : Reader R) (fields : Record) → IsReading rem old → ReadRecord rem old new true fields → took_first new ≡ true
    → is_flexible new ≡ is_flexible old → has_failed new ≡ has_failed old → Stepped rem old new fields
stepped law rem old new fields ready read first flexible failed =
    let here : ReadsNext default_config (reader_state old) (Some (text_left rem old)) (pending_of (rem new.rdr) new) true fields (reader_state new) =
    subst (λ (src : Option (List ℕ)). ReadsNext default_config (reader_state old) src (pending_of (rem new.rdr) new) true fields (reader_state new))
    ready.source
    (subst (λ (cfg : Config). ReadsNext cfg (reader_state old) (source_of rem old) (pending_of (rem new.rdr) new) true fields (reader_state new))
    ready.config read.0) in
    let after = after-record default_config (reader_state old) (text_left rem old) (pending_of (rem new.rdr) new) fields (reader_state new) here in
    let source : source_of rem new ≡ Some after.0 = pending-left rem new read.1 ∙ after.1 in
    let left : text_left rem new ≡ after.0 = ap (λ (o : Option (List ℕ)). unwrap_or o []) source in
    let next = after.2 in
    let q : Read = (fields, reader_state new, after.0) in
    let more = law.next (reader_state old) (text_left rem old) q ready.between next in
    record {
      reading = record {
        config = read.2 ∙ ready.config;
        trim = read.3 ∙ ready.trim;
        flexible = flexible ∙ ready.flexible;
        ready = inl first;
        fresh = failed ∙ ready.fresh;
        between = law.between (reader_state old) (text_left rem old) q next;
        source = source ∙ ap (λ (xs : List ℕ). Some xs) (sym left);
      };
      more = more ∙ ap (λ (xs : List ℕ). fields ∷ records_from default_config (length xs + 1) (reader_state new) xs) (sym left);
      some = next-some default_config (reader_state old) [] [] (text_left rem old) q next;
      takes = record {
        shorter = rw left (law.shorter (reader_state old) (text_left rem old) q ready.between next);
        bytes = rw left (law.bytes (reader_state old) (text_left rem old) q next);
        count = rw left (law.count (reader_state old) (text_left rem old) q next);
      };
    }

-- there was none
pub ended : InTurn → {R : Type 0} (rem : R → Option (List ℕ)) (old new : Reader R) (fields : Record) → IsReading rem old → ReadRecord rem old new false fields → records_left rem old ≡ []
ended law rem old new fields ready read =
    let here : ReadsNext default_config (reader_state old) (Some (text_left rem old)) (pending_of (rem new.rdr) new) false fields (reader_state new) =
    subst (λ (src : Option (List ℕ)). ReadsNext default_config (reader_state old) src (pending_of (rem new.rdr) new) false fields (reader_state new))
    ready.source
    (subst (λ (cfg : Config). ReadsNext cfg (reader_state old) (source_of rem old) (pending_of (rem new.rdr) new) false fields (reader_state new))
    ready.config read.0) in
    law.end (reader_state old) (text_left rem old) (after-end default_config (reader_state old) (text_left rem old) _ fields (reader_state new) here)

-- a mark at the start makes a text no longer
pub strip-shorter : (text : List ℕ) → length (strip_bom text) ≤ length text
unfolding strip_bom
strip-shorter [] = omega arith
strip-shorter (a ∷ []) = omega arith
strip-shorter (a ∷ b ∷ []) = omega arith
strip-shorter (a ∷ b ∷ c ∷ rest) = elim (cases_Bool (is_bom a b c)) [
  | inl mark ↦ rw mark (omega arith)
  | inr other ↦ rw other (omega arith)
]
