-- The rules of a node that is made of values, by its layout.
use Rattle.std.proofs.Common.{◌≡◌, ◌∙◌, ℕ, zero, suc, ◌^◌, ◌<◌, ◌≤◌, ℤ, pos, negsuc, Bool, false, not, ◌&&◌, List, [], ◌∷◌, length, refl, ap, arith, Option}
use Rattle.std.proofs.Common.{None, Some}
use Rattle.std.specs.Prelude.{is_some, nat_lt}
use Rattle.std.proofs.lemmas.Bool.{and_right, le-ltb}
use Rattle.std.proofs.lemmas.Bool.Decides.{Decides-int_eq}
use Rattle.std.specs.Option.{option_or}
use Rattle.std.specs.Ordering.{int_eq}
use Rattle.raw_array.specs.promise.Members.{Buffer, ArrayMembers, ArrayTree, bytes_in}
use Rattle.data_types.specs.promise.Value.{Value}
use Rattle.data_types.specs.declared.kind.DataType.{DataType}
use Rattle.col_build.specs.promise.Encoding.{if_some, null_total, validity_of}
use Rattle.data_types.specs.promise.KindTrees.{KindTree}
use Rattle.layout_rules.specs.promise.Layout.{buffer, buffer_count, bytes, bytes_or_none, end, layout_of, need}
use Rattle.layout_rules.specs.Layout.{bits_need}
use Rattle.layout_rules.specs.promise.Rules.{Node, buffer_absent, count_wrong, fault_if, first_below, in_order, indices_wrong, is_behind_offsets}
use Rattle.layout_rules.specs.Rules.{buffer_short}
use Rattle.layout_rules.specs.promise.Rules.{length_if, null_count_wrong, null_count_wrong_in, offsets_fall_if, one_if, prefixes_wrong, texts_wrong, views_misplaced}
use Rattle.layout_rules.specs.promise.Rules.{null_total as null_items}
use Rattle.data_types.specs.promise.Ways.{Steps}
use Rattle.layout_rules.specs.promise.Walk.{node_fault}
use Rattle.layout_rules.specs.declared.layout.Layout.{Layout}
use Rattle.layout_rules.specs.declared.rule.LayoutRule.TheVariants as rules
use Rattle.layout_rules.specs.declared.rule.Numbers.{Numbers}
use Rattle.layout_rules.proofs.NamedRules.{AreMet, none-fails}
use Rattle.arr_export.specs.promise.ArrayTrees.{made_if}
use Rattle.arr_export.proofs.Nulls.{nulls-are, own, validity-long}

pub both-none : {X : Type 0} → (a b : Option X) → a ≡ None → b ≡ None → option_or a b ≡ None
both-none a b e f = ap (λ o. option_or o b) e ∙ f

pub no-fault : (test : Bool) (place : ℕ) (left right : ℤ) → test ≡ false → fault_if test place left right ≡ None
no-fault test place left right e = ap (λ t. fault_if t place left right) e

-- no number below one fails
pub below-none : (f : ℕ → Option Numbers) (n : ℕ) → ((i : ℕ) → i < n → f i ≡ None) → first_below f n ≡ None
below-none f zero each = refl
below-none f (suc n) each = both-none (first_below f n) (f n) (below-none f n (λ i lt. each i (omega arith))) (each n (omega arith))

-- ---- buffers that are made of bytes

-- a buffer that is made only where there are bytes
pub data-back : (data' : List ℕ) → bytes_or_none (bytes_in (made_if (if_some data'))) ≡ data'
data-back [] = refl
data-back (byte ∷ rest) = refl

pub there-if : (data' : List ℕ) (needed : ℕ) → needed ≤ length data' → (not (is_some (bytes_in (made_if (if_some data')))) && nat_lt 0 needed) ≡ false
there-if [] needed le = le-ltb 0 needed le
there-if (byte ∷ rest) needed le = refl

pub long-if : (present : Bool) (found needed : ℕ) → needed ≤ found → (present && nat_lt found needed) ≡ false
long-if present found needed le = and_right present (nat_lt found needed) (le-ltb found needed le)

pub long-data : (present : Bool) (data' : List ℕ) (needed : ℕ) → needed ≤ length data'
    → (present && nat_lt (length (bytes_or_none (bytes_in (made_if (if_some data'))))) needed) ≡ false
long-data present data' needed le = long-if present _ needed (omega (arith, ap length (data-back data')))

validity-if : (o : Option (List ℕ)) (needed : ℕ) → ((validity : List ℕ) → o ≡ Some validity → needed ≤ length validity)
    → (is_some (bytes_in (made_if o)) && nat_lt (length (bytes_or_none (bytes_in (made_if o)))) needed) ≡ false
validity-if None needed long = refl
validity-if (Some validity) needed long = le-ltb (length validity) needed (long validity refl)

-- the validity bitmap is as long as it must be
pub validity-fits : (layout : Layout) (values : List Value) (rest : List (Option Buffer)) → buffer_short layout (own values rest) 0 ≡ None
validity-fits layout values rest =
    no-fault _ 0 _ _ (validity-if (validity_of values) (bits_need (end (own values rest))) (validity-long values))

same-int : (z : ℤ) → not (int_eq z z) ≡ false
same-int z = ap not ((Decides-int_eq z z).1 refl)

-- the count of nulls is that of the bitmap
pub nulls-fit : (values : List Value) (rest : List (Option Buffer)) → null_count_wrong (own values rest) ≡ None
nulls-fit values rest =
    let same : pos (null_items (own values rest) (length values)) ≡ pos (null_total values) = ap pos (nulls-are values rest) in
    no-fault (not (int_eq (pos (null_total values)) (negsuc 0)) && not (int_eq (pos (null_total values)) (pos (null_items (own values rest) (length values)))))
    0 (pos (null_total values)) (pos (null_items (own values rest) (length values)))
    (and_right (not (int_eq (pos (null_total values)) (negsuc 0))) _
    (ap (λ n. not (int_eq (pos (null_total values)) n)) same ∙ same-int (pos (null_total values))))

-- ---- a whole node

-- the rules of buffers hold
pub record BuffersOk (layout : Layout) (members : ArrayMembers) : Type 0 where
  pub count : count_wrong (length members.buffers) (buffer_count layout (length members.buffers)) ≡ None
  pub there : first_below (buffer_absent layout members) (buffer_count layout (length members.buffers)) ≡ None
  pub long : first_below (buffer_short layout members) (buffer_count layout (length members.buffers)) ≡ None
  pub rise : offsets_fall_if (is_behind_offsets layout) members ≡ None
  pub nulls : null_count_wrong_in layout members ≡ None
  pub views : views_misplaced layout members ≡ None
  pub prefixes : prefixes_wrong layout members ≡ None

-- a node without children that is made of values
abbrev pub node : DataType → Option KindTree → List Value → List (Option Buffer) → Option ArrayTree → Node
node kind dict values rest dictionary = record { kind = kind; kids = []; dict = dict; own = own values rest; children = []; dictionary = dictionary }

pub node-ok : (kind : DataType) (dict : Option KindTree) (values : List Value) (rest : List (Option Buffer)) (dictionary : Option ArrayTree)
    → length values ≤ 2 ^ 40
    → BuffersOk (layout_of kind) (own values rest) → texts_wrong kind (own values rest) ≡ None
    → count_wrong (one_if dictionary) (one_if dict) ≡ None → indices_wrong kind (own values rest) (length_if dictionary) ≡ None
    → (path : Steps) → node_fault path (Some (node kind dict values rest dictionary)) ≡ None
node-ok kind dict values rest dictionary few ok texts same indices path = none-fails path (node kind dict values rest dictionary) in_order met
  where
    short : nat_lt (2 ^ 40) (end (own values rest)) ≡ false
    short = le-ltb (2 ^ 40) (end (own values rest)) (omega (arith, few))

    met : AreMet (node kind dict values rest dictionary)
    met rules.BufferCount = ok.count
    met rules.Dictionary = same
    met rules.BufferAbsent = ok.there
    met rules.BufferShort = ok.long
    met rules.OffsetsFall = ok.rise
    met rules.NullCount = ok.nulls
    met rules.ViewPlace = ok.views
    met rules.ViewPrefix = ok.prefixes
    met rules.NotText = texts
    met rules.IndexRange = indices
    met rules.WindowTooLong = no-fault (nat_lt (2 ^ 40) (end (own values rest))) 0 (pos (end (own values rest))) (pos (2 ^ 40)) short
    met _ = refl

-- ---- the rules of one buffer

pub absent-none : (layout : Layout) (members : ArrayMembers) (k : ℕ)
    → (not (is_some (buffer members (suc k))) && nat_lt 0 (need layout members (suc k))) ≡ false → buffer_absent layout members (suc k) ≡ None
absent-none layout members k e = ap (λ t. fault_if t (suc k) (pos 0) (pos (need layout members (suc k)))) e

pub short-none : (layout : Layout) (members : ArrayMembers) (k : ℕ)
    → (is_some (buffer members k) && nat_lt (length (bytes members k)) (need layout members k)) ≡ false → buffer_short layout members k ≡ None
short-none layout members k e = ap (λ t. fault_if t k (pos (length (bytes members k))) (pos (need layout members k))) e
