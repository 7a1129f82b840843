-- The array tree, read on from a cursor: buffers.
use Rattle.std.proofs.Common.{◌≡◌, ℕ, suc, ◌+◌, ◌-◌, ◌<◌, ◌≤◌, List, [], ◌∷◌, ◌++◌, length, map, replicate, Option, Some, None, refl, sym, ap, ◌∙◌}
use Rattle.std.proofs.Common.{arith, subst, append_assoc, length-append}
use Rattle.std.specs.Prelude.{slice_range}
use Rattle.std.specs.List.{AllByRecursion}
use Rattle.std.specs.Option.{option_map}
use Rattle.std.proofs.lemmas.List.{replicate-append-replicate, take_all, map-append}
use Rattle.buf_block.specs.declared.hold.BufView.{BufView}
use Rattle.raw_array.specs.promise.Members.{Buffer, whole, holds_of}
use Rattle.raw_array.specs.View.{buffer_of, buffer_if, buffers_of}
use Rattle.raw_array.proofs.Buffers.{buffer_lists, buffers_of-append}
use Rattle.tree_text.specs.declared.fault.TextFault.{TextFault}
use Rattle.tree_text.specs.declared.cursor.Cursor.{Cursor}
use Rattle.tree_text.specs.promise.TreeText.{BufferFits}
use Rattle.tree_text.specs.TreeText.{buffer_line}
use Rattle.tree_text.specs.promise.Standing.{Place, AtBuffer, read_buffer_line, next, first_fault}
use Rattle.tree_text.specs.Cursors.{left, IsCursor, StopsAt, Stops, Between, BufferLineRead, BufferRead, BuffersRead}
use Rattle.tree_text.proofs.BufferLines.{buffer_read}
use Rattle.tree_text.proofs.Stands.{buffers_stand}
use Rattle.tree_text.proofs.TreeSteps.{missing, refused, nothing_between, joined, stops_later}

pub ruleset views = (buffer_lists, buffers_of-append)

pub whole_range : (bytes : List ℕ) (n : ℕ) → n ≡ length bytes → slice_range bytes 0 (0 + n) ≡ bytes
whole_range bytes n e = take_all (0 + n - 0) bytes (omega (arith, e))

pub no_buffer : (line : List ℕ) → read_buffer_line line ≡ None → next AtBuffer line ≡ None
no_buffer line none = ap (option_map (λ (told : Option (List ℕ)). [])) none

pub ruleset line_steps = (missing, refused, no_buffer)

pub absent_is : (bytes : List ℕ) (from to : Cursor) → BufferLineRead bytes from to None → BufferRead bytes from to None
absent_is bytes from to read =
    let told = buffer_read read.line None read.is in
    record { between = record { spelled = read.here ∙ ap (λ (l : List ℕ). l ∷ left bytes to) told.spelled; cursor = read.cursor }; fits = tt }

pub present_is : (bytes : List ℕ) (from to : Cursor) (content : List ℕ) (v : BufView) → BufferLineRead bytes from to (Some content)
    → buffer_of v ≡ record { bytes = content; amount = whole }
    → BufferRead bytes from to (buffer_if (Some v))
present_is bytes from to content v read is =
    let told = buffer_read read.line (Some content) read.is in
    let made : Buffer = record { bytes = content; amount = whole } in
    let here : BufferRead bytes from to (Some made) =
    record { between = record { spelled = read.here ∙ ap (λ (l : List ℕ). l ∷ left bytes to) told.spelled; cursor = read.cursor }; fits = (told.fit, refl) } in
    subst (λ (b : Buffer). BufferRead bytes from to (Some b)) (sym is) here

pub no_buffers : (bytes : List ℕ) (cursor : Cursor) → IsCursor bytes cursor → BuffersRead bytes cursor cursor 0 []
no_buffers bytes cursor is = record { between = nothing_between bytes cursor is; fits = tt; counted = refl }

fits-append : (bs cs : List (Option Buffer)) → AllByRecursion BufferFits bs → AllByRecursion BufferFits cs → AllByRecursion BufferFits (bs ++ cs)
fits-append [] cs front back = back
fits-append (b ∷ bs) cs front back = (front.0, fits-append bs cs front.1 back)

pub one_buffer : (bytes : List ℕ) (from mid to : Cursor) (i : ℕ) (made : List (Option BufView)) (v : Option BufView)
    → BuffersRead bytes from mid i (buffers_of made) → BufferRead bytes mid to (buffer_if v)
    → BuffersRead bytes from to (i + 1) (buffers_of (made ++ v ∷ []))
one_buffer bytes from mid to i made v front back =
    let more : buffers_of (made ++ v ∷ []) ≡ buffers_of made ++ buffer_if v ∷ [] = buffers_of-append made (v ∷ []) in
    let lines : map buffer_line (buffers_of made ++ buffer_if v ∷ []) ≡ map buffer_line (buffers_of made) ++ buffer_line (buffer_if v) ∷ [] =
    map-append buffer_line (buffers_of made) (buffer_if v ∷ []) in
    subst (BuffersRead bytes from to (i + 1)) (sym more) (record {
      between = subst (Between bytes from to) (sym lines) (joined bytes from mid to (map buffer_line (buffers_of made)) (buffer_line (buffer_if v) ∷ [])
          front.between back.between);
      fits = fits-append (buffers_of made) (buffer_if v ∷ []) front.fits (back.fits, tt);
      counted = omega (arith, length-append (buffers_of made) (buffer_if v ∷ []), front.counted);
    })

length-lines : (bs : List (Option Buffer)) → length (map buffer_line bs) ≡ length bs
length-lines [] = refl
length-lines (b ∷ bs) = omega (arith, length-lines bs)

holds_le : (bs : List (Option Buffer)) → holds_of bs ≤ length bs
holds_le [] = omega arith
holds_le (None ∷ bs) = omega (arith, holds_le bs)
holds_le (Some b ∷ bs) = omega (arith, holds_le bs)

-- what is left of the lines
pub left_buffers : (bytes : List ℕ) (from to : Cursor) (count : ℕ) (bs : List (Option Buffer)) → BuffersRead bytes from to count bs
    → length (left bytes to) + holds_of bs ≤ length (left bytes from)
left_buffers bytes from to count bs read =
    let same : length (left bytes from) ≡ length (map buffer_line bs) + length (left bytes to) = ap length read.between.spelled
    ∙ length-append (map buffer_line bs) (left bytes to) in
    omega (arith, same, length-lines bs, holds_le bs)

pub buffers_stop : (bytes : List ℕ) (from mid : Cursor) (count : ℕ) (bs : List (Option Buffer)) (after : List Place) (f : TextFault) → IsCursor bytes from
    → BuffersRead bytes from mid count bs
    → Stops bytes mid after f → Stops bytes from (replicate count AtBuffer ++ after) f
buffers_stop bytes from mid count bs after f cursor read later =
    subst (λ (n : ℕ). Stops bytes from (replicate n AtBuffer ++ after) f) read.counted
    (stops_later bytes from mid (map buffer_line bs) (replicate (length bs) AtBuffer ++ after) after f cursor read.between
    (λ behind rest n. ap (λ (ps : List Place). first_fault ps (map buffer_line bs ++ rest) n) (append_assoc (replicate (length bs) AtBuffer) after behind)
    ∙ buffers_stand bs read.fits (after ++ behind) rest n ∙ ap (first_fault (after ++ behind) rest) (ap (λ (k : ℕ). n + k) (sym (length-lines bs))))
    later)

pub buffer_stops : (bytes : List ℕ) (from mid : Cursor) (count i : ℕ) (bs : List (Option Buffer)) (f : TextFault) → IsCursor bytes from
    → BuffersRead bytes from mid i bs → i < count
    → Stops bytes mid (AtBuffer ∷ []) f → Stops bytes from (replicate count AtBuffer) f
buffer_stops bytes from mid count i bs f cursor read more later =
    let rest = count - i - 1 in
    let parts : replicate i AtBuffer ++ replicate (suc rest) AtBuffer ≡ replicate count AtBuffer =
    replicate-append-replicate i (suc rest) AtBuffer ∙ ap (λ (n : ℕ). replicate n AtBuffer) (omega (arith, more)) in
    subst (λ (ps : List Place). Stops bytes from ps f) parts
    (buffers_stop bytes from mid i bs (replicate (suc rest) AtBuffer) f cursor read (λ behind. later (replicate rest AtBuffer ++ behind)))

-- more may be expected behind the places where the lines stop
pub stops_before : (bytes : List ℕ) (cursor : Cursor) (places after : List Place) (f : TextFault) → Stops bytes cursor places f
    → Stops bytes cursor (places ++ after) f
stops_before bytes cursor places after f stops behind =
    subst (λ (ps : List Place). StopsAt f (first_fault ps (left bytes cursor) cursor.line)) (sym (append_assoc places after behind)) (stops (after ++ behind))

pub ruleset buffer_steps = (left_buffers, buffer_lists)
