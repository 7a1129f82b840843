-- A text around the first byte of a kind, and its parts.
use Rattle.std.proofs.Common.{◌≡◌, ◌∙◌, ◌<◌, Bool, ◌-◌, ◌==◌, ℕ, zero, suc, true, false, true≢false, List, [], ◌∷◌, ◌++◌, length, take, drop, Option, Some}
use Rattle.std.proofs.Common.{None, option_map, ap, sym, subst, refl, arith, inl, inr, map, append_assoc, length-append}
use Rattle.std.specs.Borrow.{Bor}
use Rattle.std.specs.Prelude.{position, slice_index_or, All}
use Rattle.std.proofs.lemmas.Bool.{eqb-true, eq-eqb}
use Rattle.std.proofs.lemmas.List.{map-append, take_all}
use Rattle.std.proofs.lemmas.List.Quantifiers.{position-Some}
use Rattle.data_types.specs.declared.kind.DataType.{DataType}
use Rattle.stage_plan.specs.declared.types.TypeEntry.{TypeEntry}
use Rattle.stage_plan.specs.promise.Types.{parts, semicolon, colon, Lacks, CutsAt, TypeReads}
use Rattle.stage_plan.specs.Types.{EntryReads}

at_place : (byte : ℕ) (text : List ℕ) (i : ℕ) → i < length text → (slice_index_or text i 0 == byte) ≡ true
    → ((k : ℕ) → k < i → (slice_index_or text k 0 == byte) ≡ false)
    → CutsAt byte text (take i text) (drop 1 (drop i text))
at_place byte [] i within is before = absurd (omega arith)
at_place byte (b ∷ bs) zero within is before = record { first = tt; split = ap (λ (x : ℕ). x ∷ bs) (eqb-true b byte is) }
at_place byte (b ∷ bs) (suc i) within is before =
    let rest = at_place byte bs i (omega arith) is (λ k below. before (suc k) (omega arith)) in
    record { first = ((λ same. true≢false (sym (eq-eqb b byte same) ∙ before zero (omega arith))), rest.first); split = ap (λ (l : List ℕ). b ∷ l) rest.split }

pub cut_at : (byte : ℕ) (text : List ℕ) (i : ℕ) → position (λ b. b == byte) text ≡ Some i → CutsAt byte text (take i text) (drop 1 (drop i text))
cut_at byte text i is =
    let there = position-Some (λ b. b == byte) text i 0 is in
    at_place byte text i there.0 there.1 there.2

pub all_lack : (byte : ℕ) (text : List ℕ) → All (λ b. (b == byte) ≡ false) text → Lacks byte text
all_lack byte [] none = tt
all_lack byte (b ∷ bs) none =
    ((λ same. true≢false (sym (eq-eqb b byte same) ∙ none zero 0 (omega arith))), all_lack byte bs (λ k d within. none (suc k) d (omega arith)))

-- all but the first, as a slice from 1 on has it
pub tail_all : (l : List ℕ) → take (length l - 1) (drop 1 l) ≡ drop 1 l
tail_all [] = refl
tail_all (x ∷ xs) = take_all (length (x ∷ xs) - 1) xs (omega arith)

-- what is behind is shorter
pub shorter : (byte : ℕ) (text front behind : List ℕ) → CutsAt byte text front behind → length behind < length text
shorter byte text front behind cut = omega (arith, ap (λ (l : List ℕ). length l) cut.split, length-append front (byte ∷ behind))

-- ---- a text is cut in one way

pub lacks_cut : (byte : ℕ) (text front behind : List ℕ) → Lacks byte (front ++ byte ∷ behind) → ⊥
lacks_cut byte text [] behind lacks = lacks.0 refl
lacks_cut byte text (b ∷ front) behind lacks = lacks_cut byte text front behind lacks.1

pub cut_once : (byte : ℕ) (f g b c : List ℕ) → Lacks byte f → Lacks byte g → f ++ byte ∷ b ≡ g ++ byte ∷ c → (f ≡ g) × (b ≡ c)
cut_once byte [] [] b c p q same = (refl, cc)
cut_once byte [] (y ∷ g) b c p q same = let e : y ≡ byte = cc in absurd (q.0 e)
cut_once byte (x ∷ f) [] b c p q same = let e : x ≡ byte = cc in absurd (p.0 e)
cut_once byte (x ∷ f) (y ∷ g) b c p q same =
    let head : x ≡ y = cc in
    let tail : f ++ byte ∷ b ≡ g ++ byte ∷ c = cc in
    let rest = cut_once byte f g b c p.1 q.1 tail in
    ((λ i. head i ∷ rest.0 i), rest.1)

-- ---- parts

pub parts_last : (text : List ℕ) → Lacks semicolon text → parts text ≡ text ∷ []
parts_last [] lacks = refl
parts_last (b ∷ bs) lacks = go (b == semicolon) refl (parts_last bs lacks.1)
  where
    go : (c : Bool) → (b == semicolon) ≡ c → parts bs ≡ bs ∷ [] → parts (b ∷ bs) ≡ (b ∷ bs) ∷ []
    go true e rest = absurd (lacks.0 (eqb-true b semicolon e))
    go false e rest = rw (e, rest) refl

pub parts_more : (front behind : List ℕ) → Lacks semicolon front → parts (front ++ semicolon ∷ behind) ≡ front ∷ parts behind
parts_more [] behind lacks = refl
parts_more (b ∷ bs) behind lacks = go (b == semicolon) refl (parts_more bs behind lacks.1)
  where
    go : (c : Bool) → (b == semicolon) ≡ c → parts (bs ++ semicolon ∷ behind) ≡ bs ∷ parts behind
        → parts ((b ∷ bs) ++ semicolon ∷ behind) ≡ (b ∷ bs) ∷ parts behind
    go true e rest = absurd (lacks.0 (eqb-true b semicolon e))
    go false e rest = rw (e, rest) refl

-- ---- entries

abbrev pub entry : List ℕ → DataType → TypeEntry
entry name kind = record { name = name; kind = kind }

-- a part without a `:` is no entry
pub no_entry : (part : List ℕ) → Lacks colon part → (other : Option TypeEntry) → EntryReads part other → other ≡ None
no_entry part lacks None reads = refl
no_entry part lacks (Some e) (format, cut, reads) = absurd (lacks_cut colon part e.name format (subst (Lacks colon) cut.split lacks))

-- what the format reads as decides the part
pub one_entry : (part name format : List ℕ) (kind : Option DataType) → CutsAt colon part name format
    → ((other : Option DataType) → TypeReads format other → other ≡ kind)
    → (other : Option TypeEntry) → EntryReads part other → other ≡ option_map (entry name) kind
one_entry part name format kind cut only None (inl lacks) = absurd (lacks_cut colon part name format (subst (Lacks colon) cut.split lacks))
one_entry part name format kind cut only None (inr (n, f, other, reads)) =
    let same = cut_once colon n name f format other.first cut.first (sym other.split ∙ cut.split) in
    ap (option_map (entry name)) (only None (subst (λ (l : List ℕ). TypeReads l None) same.1 reads))
one_entry part name format kind cut only (Some e) (f, other, reads) =
    let same = cut_once colon e.name name f format other.first cut.first (sym other.split ∙ cut.split) in
    ap (λ (n : List ℕ). Some (entry n e.kind)) same.0
    ∙ ap (option_map (entry name)) (only (Some e.kind) (subst (λ (l : List ℕ). TypeReads l (Some e.kind)) same.1 reads))

-- ---- the loop over the parts

pub one_part_more : (done : List (Bor (List ℕ))) (part rest behind text : List ℕ) (p : Bor (List ℕ)) → p.now ≡ part → CutsAt semicolon rest part behind
    → map (λ q. q.now) done ++ parts rest ≡ parts text → map (λ q. q.now) (done ++ p ∷ []) ++ parts behind ≡ parts text
one_part_more done part rest behind text p is cut far =
    let here : parts rest ≡ p.now ∷ parts behind = ap parts cut.split ∙ parts_more part behind cut.first ∙ ap (λ (x : List ℕ). x ∷ parts behind) (sym is) in
    ap (λ (l : List (List ℕ)). l ++ parts behind) (map-append (λ q. q.now) done (p ∷ []))
    ∙ append_assoc (map (λ q. q.now) done) (p.now ∷ []) (parts behind)
    ∙ ap (λ (l : List (List ℕ)). map (λ q. q.now) done ++ l) (sym here) ∙ far

pub last_part : (done : List (Bor (List ℕ))) (rest text : List ℕ) (p : Bor (List ℕ)) → p.now ≡ rest → Lacks semicolon rest
    → map (λ q. q.now) done ++ parts rest ≡ parts text → map (λ q. q.now) (done ++ p ∷ []) ≡ parts text
last_part done rest text p is lacks far =
    let here : parts rest ≡ p.now ∷ [] = parts_last rest lacks ∙ ap (λ (x : List ℕ). x ∷ []) (sym is) in
    map-append (λ q. q.now) done (p ∷ []) ∙ ap (λ (l : List (List ℕ)). map (λ q. q.now) done ++ l) (sym here) ∙ far
