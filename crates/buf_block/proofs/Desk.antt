-- Units, holds and amounts over whole logs of a desk.
use Rattle.std.proofs.Common.{◌≡◌, ◌≢◌, ℕ, zero, suc, ◌+◌, ◌-◌, ◌<◌, ◌≤◌, List, [], ◌∷◌, ◌++◌, length, arith, refl, sym, ap, ◌∙◌, subst}
use Rattle.std.specs.Prelude.{sum, slice_index, slice_set, ◌↔◌}
use Rattle.std.specs.List.{AllByRecursion}
use Rattle.std.proofs.lemmas.Grind.{common_steps}
use Rattle.std.proofs.lemmas.List.Sums.{sum_by-cons}
use Rattle.unit_pass.specs.declared.pass.TheConstants.{SUPPLY}
use Rattle.holder_core.specs.HolderMachine.{Holders, Step, amount_of}
use Rattle.holder_core.specs.declared.Event.TheVariants.{Split, LetGo}
use Rattle.holder_core.specs.declared.Reply.{Reply}
use Rattle.holder_core.specs.declared.Reply.TheVariants.{NewHolder, Last, Refused}
use Rattle.buf_block.specs.declared.hold.TheConstants.{AMOUNT}
use Rattle.buf_block.specs.DeskLog.{DeskBlock, DeskScene, opened, DeskStep, makes, takes, lets_go, builds_node, ends_node, splits, joins, Draws, Parts, made_block}
use Rattle.buf_block.specs.DeskLog.{Takes, LetsGo, if_last, DeskDoes, DeskLog, made_by, blocks_made, IsFreed, ClosesWhole, CanEnd}
use Rattle.buf_block.specs.DeskLog.{TakesAsTheMachine, LetsGoAsTheMachine}

-- ---- sums
-- 1 where there is some
abbrev flag : ℕ → ℕ
flag zero = 0
flag (suc n) = 1

flag-some : (n : ℕ) → 1 ≤ n → flag n ≡ 1
flag-some zero p = absurd (omega arith)
flag-some (suc n) p = refl

flag-last : (n : ℕ) → if_last n + flag n ≡ 1
flag-last zero = refl
flag-last (suc n) = refl

sum-cons : (u : ℕ) (r : List ℕ) → sum (u ∷ r) ≡ u + sum r
sum-cons u r = sum_by-cons (λ (n : ℕ). n) u r

sum-both : (l r : List ℕ) → sum (l ++ r) ≡ sum l + sum r
sum-both [] r = omega arith
sum-both (x ∷ l) r = let e = sum-both l r in let f = sum-cons x (l ++ r) in let g = sum-cons x l in omega arith

sum-in : (l : List ℕ) (u : ℕ) (r : List ℕ) → sum (l ++ u ∷ r) ≡ sum l + (u + sum r)
sum-in l u r = let e = sum-both l (u ∷ r) in let f = sum-cons u r in omega arith

-- the holds of a block that have an amount
abbrev holds : List ℕ → ℕ
holds [] = 0
holds (a ∷ more) = flag a + holds more

holds-in : (l : List ℕ) (u : ℕ) (r : List ℕ) → holds (l ++ u ∷ r) ≡ holds l + (flag u + holds r)
holds-in [] u r = omega arith
holds-in (x ∷ l) u r = let e = holds-in l u r in omega arith

abbrev all_holds : List DeskBlock → ℕ
all_holds [] = 0
all_holds (b ∷ bs) = holds b.amounts + all_holds bs

all_holds-in : (l : List DeskBlock) (b : DeskBlock) (r : List DeskBlock) → all_holds (l ++ b ∷ r) ≡ all_holds l + (holds b.amounts + all_holds r)
all_holds-in [] b r = omega arith
all_holds-in (x ∷ l) b r = let e = all_holds-in l b r in omega arith

length-in : (l : List DeskBlock) (b : DeskBlock) (r : List DeskBlock) → length (l ++ b ∷ r) ≡ length l + (1 + length r)
length-in [] b r = omega arith
length-in (x ∷ l) b r = let e = length-in l b r in omega arith

-- ---- one call
drawn : (old new : List ℕ) → Draws old new → sum old ≡ sum new + 1
drawn old new (l, u, r, before, after) =
    let a = ap sum before ∙ sum-in l (u + 1) r in
    let b = ap sum after ∙ sum-in l u r in
    omega arith

parted : (old new : List ℕ) → Parts old new → sum old ≡ sum new
parted old new (l, u, v, r, first, others, before, rest, after) =
    let a = ap sum before ∙ sum-in l (u + v) r in
    let b = ap sum after ∙ sum-in first v others in
    let c = sym (sum-both first others) ∙ ap sum rest ∙ sum-in l u r in
    omega arith

-- a block has an amount out, or it answered Freed once
abbrev IsKept : DeskBlock → Type 0
IsKept b = b.freed + flag (sum b.amounts) ≡ 1

-- a call changes the holds of a block by so many, and it stays kept
record Changed (b c : DeskBlock) (more less : ℕ) : Type 0 where
  held : holds c.amounts + less ≡ holds b.amounts + more
  kept : IsKept b → IsKept c

taken_one : (b c : DeskBlock) → Takes b.amounts c.amounts → c.freed ≡ b.freed → Changed b c 1 0
taken_one b c (l, a, r, some, before, after) same =
    let h = ap holds before ∙ holds-in l (a + 1) r in
    let k = ap holds after ∙ holds-in l a (r ++ 1 ∷ []) in
    let m = holds-in r 1 [] in
    let s = ap sum before ∙ sum-in l (a + 1) r in
    let t = ap sum after ∙ sum-in l a (r ++ 1 ∷ []) in
    let f = flag-some a some in
    let g = flag-some (a + 1) (omega arith) in
    let old = flag-some (sum b.amounts) (omega arith) in
    let new = flag-some (sum c.amounts) (omega arith) in
    record { held = omega arith; kept = λ kept. omega arith }

gave_back : (b c : DeskBlock) → LetsGo b.amounts c.amounts → c.freed ≡ b.freed + if_last (sum c.amounts) → Changed b c 0 1
gave_back b c (l, a, r, some, before, after) told =
    let h = ap holds before ∙ holds-in l a r in
    let k = ap holds after ∙ holds-in l 0 r in
    let s = ap sum before ∙ sum-in l a r in
    let f = flag-some a some in
    let old = flag-some (sum b.amounts) (omega arith) in
    let new = flag-last (sum c.amounts) in
    record { held = omega arith; kept = λ kept. omega arith }

-- and so all blocks
record Moved (old new : List DeskBlock) (more less : ℕ) : Type 0 where
  held : all_holds new + less ≡ all_holds old + more
  kept : AllByRecursion IsKept old → AllByRecursion IsKept new
  count : length new ≡ length old

kept-in : (l : List DeskBlock) (b c : DeskBlock) (r : List DeskBlock) → (IsKept b → IsKept c) → AllByRecursion IsKept (l ++ b ∷ r)
    → AllByRecursion IsKept (l ++ c ∷ r)
kept-in [] b c r so (here, rest) = (so here, rest)
kept-in (x ∷ l) b c r so (here, rest) = (here, kept-in l b c r so rest)

within : (l : List DeskBlock) (b c : DeskBlock) (r old new : List DeskBlock) (more less : ℕ) → old ≡ l ++ b ∷ r → new ≡ l ++ c ∷ r
    → Changed b c more less → Moved old new more less
within l b c r old new more less before after e =
    let h = ap all_holds before ∙ all_holds-in l b r in
    let k = ap all_holds after ∙ all_holds-in l c r in
    let m = ap length before ∙ length-in l b r in
    let n = ap length after ∙ length-in l c r in
    let held = e.held in
    record {
      held = omega arith;
      kept = λ all. subst (AllByRecursion IsKept) (sym after) (kept-in l b c r e.kept (subst (AllByRecursion IsKept) before all));
      count = omega arith;
    }

one_more : (bs : List DeskBlock) → AllByRecursion IsKept bs → AllByRecursion IsKept (bs ++ made_block ∷ [])
one_more [] all = (refl, tt)
one_more (b ∷ bs) (here, rest) = (here, one_more bs rest)

-- ---- what stays
-- each unit is in a pass, or with a node or a hold
record Adds (s : DeskScene) (made : ℕ) : Type 0 where
  units : sum s.passes + (s.nodes + all_holds s.blocks) ≡ SUPPLY
  count : length s.blocks ≡ made
  kept : AllByRecursion IsKept s.blocks

module _ (s t : DeskScene) (made : ℕ) (adds : Adds s made) where
  -- the blocks stay as they are
  same : t.blocks ≡ s.blocks → sum t.passes + t.nodes ≡ sum s.passes + s.nodes → Adds t (0 + made)
  same blocks units =
      let h = ap all_holds blocks in
      let k = ap length blocks in
      let x = adds.units in
      let y = adds.count in
      record { units = omega arith; count = omega arith; kept = subst (AllByRecursion IsKept) (sym blocks) adds.kept }

  -- the holds of one block change, and the units of the passes with them
  moved : (more less : ℕ) → Moved s.blocks t.blocks more less → t.nodes ≡ s.nodes → sum t.passes + more ≡ sum s.passes + less → Adds t (0 + made)
  moved more less m nodes units =
      let held = m.held in
      let count = m.count in
      let x = adds.units in
      let y = adds.count in
      record { units = omega arith; count = omega arith; kept = m.kept adds.kept }

  after : (e : DeskStep) → DeskDoes s e t → Adds t (made_by e + made)
  after makes (d, nodes, blocks) =
      let u = drawn s.passes t.passes d in
      let h = ap all_holds blocks ∙ all_holds-in s.blocks made_block [] in
      let k = ap length blocks ∙ length-in s.blocks made_block [] in
      let one : flag AMOUNT ≡ 1 = flag-some AMOUNT (omega arith) in
      let x = adds.units in
      let y = adds.count in
      record {
        units = omega arith;
        count = omega arith;
        kept = subst (AllByRecursion IsKept) (sym blocks) (one_more s.blocks adds.kept);
      }
  after takes (d, nodes, (l, b, c, r, before, next, (step, freed))) =
      let u = drawn s.passes t.passes d in
      moved 1 0 (within l b c r s.blocks t.blocks 1 0 before next (taken_one b c step freed)) nodes (omega arith)
  after lets_go (d, nodes, (l, b, c, r, before, next, (step, freed))) =
      let u = drawn t.passes s.passes d in
      moved 0 1 (within l b c r s.blocks t.blocks 0 1 before next (gave_back b c step freed)) nodes (omega arith)
  after builds_node (d, nodes, blocks) = let u = drawn s.passes t.passes d in same blocks (omega arith)
  after ends_node (d, nodes, blocks) = let u = drawn t.passes s.passes d in same blocks (omega arith)
  after splits (d, nodes, blocks) = let u = parted s.passes t.passes d in same blocks (omega arith)
  after joins (d, nodes, blocks) = let u = parted t.passes s.passes d in same blocks (omega arith)

adds-log : (s t : DeskScene) (made : ℕ) (log : List DeskStep) → Adds s made → DeskLog s log t → Adds t (blocks_made log + made)
adds-log s t made [] adds e =
    let same : made ≡ 0 + made = omega arith in
    subst (Adds t) same (subst (λ (x : DeskScene). Adds x made) e adds)
adds-log s t made (e ∷ log) adds (m, does, later) =
    let b = adds-log m t (made_by e + made) log (after s m made adds e does) later in
    let same : blocks_made log + (made_by e + made) ≡ (made_by e + blocks_made log) + made = omega arith in
    subst (Adds t) same b

-- ---- where the desk can close
-- no hold has an amount, so none is out
none_held : (b : List ℕ) → holds b ≡ 0 → sum b ≡ 0
none_held [] e = refl
none_held (zero ∷ more) e = let h = none_held more (omega arith) in let s = sum-cons 0 more in omega arith
none_held (suc a ∷ more) e = absurd (omega arith)

all_freed : (bs : List DeskBlock) → all_holds bs ≡ 0 → AllByRecursion IsKept bs → AllByRecursion IsFreed bs
all_freed [] e all = tt
all_freed (b ∷ bs) e (kept, rest) =
    let none : sum b.amounts ≡ 0 = none_held b.amounts (omega arith) in
    let flags : flag (sum b.amounts) ≡ 0 = ap flag none in
    ((none, omega arith), all_freed bs (omega arith) rest)

first : Adds opened 0
first = record { units = omega arith; count = refl; kept = tt }

pub closes_whole : ClosesWhole
closes_whole log t run (l, r, all) =
    let a = adds-log opened t 0 log first run in
    let units = a.units in
    let count = a.count in
    let full = ap sum all ∙ sum-in l SUPPLY r in
    (omega arith, omega arith, all_freed t.blocks (omega arith) a.kept)

-- ---- a log after which it can
abbrev scene : List ℕ → ℕ → List ℕ → ℕ → DeskScene
scene passes nodes amounts freed = record { passes = passes; nodes = nodes; blocks = record { amounts = amounts; freed = freed } ∷ [] }

abbrev end : DeskScene
end = scene (4294967296 ∷ []) 0 (0 ∷ 0 ∷ []) 1

pub can_end : CanEnd
can_end =
    let s1 = scene (4294967295 ∷ []) 0 (4294967296 ∷ []) 0 in
    let s2 = scene (4294967294 ∷ []) 0 (4294967295 ∷ 1 ∷ []) 0 in
    let s3 = scene (4294967293 ∷ []) 1 (4294967295 ∷ 1 ∷ []) 0 in
    let s4 = scene (4294967293 ∷ 0 ∷ []) 1 (4294967295 ∷ 1 ∷ []) 0 in
    let s5 = scene (4294967293 ∷ 1 ∷ []) 1 (4294967295 ∷ 0 ∷ []) 0 in
    let s6 = scene (4294967294 ∷ 1 ∷ []) 0 (4294967295 ∷ 0 ∷ []) 0 in
    let s7 = scene (4294967295 ∷ []) 0 (4294967295 ∷ 0 ∷ []) 0 in
    let d8 : DeskDoes s7 lets_go end = (([], 4294967295, [], refl, refl), refl, ([], _, _, [], refl, refl, (([], 4294967295, 0 ∷ [], omega arith, refl, refl), refl))) in
    let d7 : DeskDoes s6 joins s7 = (([], 4294967294, 1, [], 4294967294 ∷ [], [], refl, refl, refl), refl, refl) in
    let d6 : DeskDoes s5 ends_node s6 = (([], 4294967293, 1 ∷ [], refl, refl), refl, refl) in
    let d5 : DeskDoes s4 lets_go s5 =
    ((4294967293 ∷ [], 0, [], refl, refl), refl, ([], _, _, [], refl, refl, ((4294967295 ∷ [], 1, [], omega arith, refl, refl), refl))) in
    let d4 : DeskDoes s3 splits s4 = (([], 4294967293, 0, [], 4294967293 ∷ [], [], refl, refl, refl), refl, refl) in
    let d3 : DeskDoes s2 builds_node s3 = (([], 4294967293, [], refl, refl), refl, refl) in
    let d2 : DeskDoes s1 takes s2 = (([], 4294967294, [], refl, refl), refl, ([], _, _, [], refl, refl, (([], 4294967295, [], omega arith, refl, refl), refl))) in
    let d1 : DeskDoes opened makes s1 = (([], 4294967295, [], refl, refl), refl, refl) in
    (end, (s1, d1, (s2, d2, (s3, d3, (s4, d4, (s5, d5, (s6, d6, (s7, d7, (end, d8, refl)))))))), ([], [], refl))

-- ---- the machine of one block
record Found (xs : List ℕ) (i : ℕ) : Type 0 where
  l : List ℕ
  r : List ℕ
  is : xs ≡ l ++ slice_index xs i ∷ r
  with_it : (v : ℕ) → slice_set xs i v ≡ l ++ v ∷ r

found : (xs : List ℕ) (i : ℕ) → 1 ≤ slice_index xs i → Found xs i
found [] i p = absurd (omega arith)
found (x ∷ xs) zero p = record { l = []; r = xs; is = refl; with_it = λ v. refl }
found (x ∷ xs) (suc i) p =
    let f = found xs i p in
    record { l = x ∷ f.l; r = f.r; is = ap (λ (ys : List ℕ). x ∷ ys) f.is; with_it = λ v. ap (λ (ys : List ℕ). x ∷ ys) (f.with_it v) }

set-behind : (xs ys : List ℕ) (i v : ℕ) → 1 ≤ slice_index xs i → slice_set (xs ++ ys) i v ≡ slice_set xs i v ++ ys
set-behind [] ys i v p = absurd (omega arith)
set-behind (x ∷ xs) ys zero v p = refl
set-behind (x ∷ xs) ys (suc i) v p = ap (λ (zs : List ℕ). x ∷ zs) (set-behind xs ys i v p)

joined : (l : List ℕ) (a : ℕ) (r ys : List ℕ) → (l ++ a ∷ r) ++ ys ≡ l ++ a ∷ (r ++ ys)
joined [] a r ys = refl
joined (x ∷ l) a r ys = ap (λ (zs : List ℕ). x ∷ zs) (joined l a r ys)

split-is : (h t : Holders) (holder n : ℕ) → Step h (Split holder 1) (NewHolder n) t
    → (1 < amount_of h holder) × (t.amounts ≡ slice_set (h.amounts ++ 1 ∷ []) holder (amount_of h holder - 1))
split-is h t holder n step = grind (arith, common_steps)

let_go-is : (h t : Holders) (holder : ℕ) (r : Reply) → Step h (LetGo holder) r t → r ≢ Refused
    → (0 < amount_of h holder) × (t.amounts ≡ slice_set h.amounts holder 0) × ((r ≡ Last) ↔ (sum t.amounts ≡ 0))
let_go-is h t holder r step able = grind (arith, common_steps)

last-is : (n : ℕ) → (n ≡ 0) ↔ (if_last n ≡ 1)
last-is zero = (λ e. refl, λ e. refl)
last-is (suc n) = (λ e. absurd (omega arith), λ e. absurd (omega arith))

pub takes_as_the_machine : TakesAsTheMachine
takes_as_the_machine h t holder n step =
    let (more, set) = split-is h t holder n step in
    let f = found h.amounts holder (omega arith) in
    let amount = amount_of h holder in
    let one : amount ≡ (amount - 1) + 1 = omega arith in (
      f.l,
      amount - 1,
      f.r,
      omega arith,
      f.is ∙ ap (λ (a : ℕ). f.l ++ a ∷ f.r) one,
      set ∙ set-behind h.amounts (1 ∷ []) holder (amount - 1) (omega arith) ∙ ap (λ (ys : List ℕ). ys ++ 1 ∷ []) (f.with_it (amount - 1)) ∙ joined f.l (amount - 1) f.r (1 ∷ []),
    )

pub lets_go_as_the_machine : LetsGoAsTheMachine
lets_go_as_the_machine h t holder r step able =
    let (some, set, last) = let_go-is h t holder r step able in
    let f = found h.amounts holder (omega arith) in
    let flagged = last-is (sum t.amounts) in
    ((f.l, amount_of h holder, f.r, omega arith, f.is, set ∙ f.with_it 0), (λ e. flagged.0 (last.0 e), λ e. last.1 (flagged.1 e)))
