-- Trees that are equal but for amounts: their order, and how far shares lower them.
use Rattle.std.proofs.Common.{◌≡◌, ◌∙◌, ℕ, ◌+◌, ◌-◌, ◌≤◌, List, [], ◌∷◌, map, length, Option, None, Some, refl, ap, arith}
use Rattle.tree_model.specs.promise.TreeData.{Released, Live, Trees, no_trees, more_trees, MaybeTree, absent, present}
use Rattle.tree_model.specs.Tree.{Depth, map_trees, map_maybe, AllAlike, MaybeAlike}
use Rattle.tree_model.proofs.Likeness.{Alike-refl, Alike-map, Alike-trans, Alike-weaker, Alike-Cost, Alike-Depth, map_tree-same, map_tree-both}
use Rattle.raw_array.proofs.Shares.{OneLower-lowered}
use Rattle.raw_array.specs.promise.Members.{Buffer, ArrayMembers, ArrayTree}
use Rattle.raw_array.specs.Members.{lowered_buffer, lowered_members, Lowered, buffer_lowered_by, members_lowered_by, LoweredBy}
use Rattle.raw_array.specs.Members.{LikeBuffer, LikeBuffers, LikeMembers, Like, OneLowerBuffers, OneLowerMembers, OneLower, AllOneLower, MaybeOneLower}
use Rattle.raw_array.specs.promise.Members.{holds_of, holds, Cost}
use Rattle.raw_array.specs.Members.{least_of, LeastAmount, least_of_all, least_of_maybe}

-- ---- Like is reflexive and transitive

like_buffers-same : (bs : List (Option Buffer)) → LikeBuffers bs bs
like_buffers-same [] = tt
like_buffers-same (None ∷ bs) = (tt, like_buffers-same bs)
like_buffers-same (Some b ∷ bs) = ((refl, omega arith), like_buffers-same bs)

like_buffer-trans : (b c d : Option Buffer) → LikeBuffer b c → LikeBuffer c d → LikeBuffer b d
like_buffer-trans None None d x y = y
like_buffer-trans None (Some c) d x y = absurd x
like_buffer-trans (Some b) None d x y = absurd x
like_buffer-trans (Some b) (Some c) None x y = absurd y
like_buffer-trans (Some b) (Some c) (Some d) x y = (y.0 ∙ x.0, omega (arith, x.1, y.1))

like_buffers-trans : (bs cs ds : List (Option Buffer)) → LikeBuffers bs cs → LikeBuffers cs ds → LikeBuffers bs ds
like_buffers-trans [] [] ds x y = y
like_buffers-trans [] (c ∷ cs) ds x y = absurd x
like_buffers-trans (b ∷ bs) [] ds x y = absurd x
like_buffers-trans (b ∷ bs) (c ∷ cs) [] x y = absurd y
like_buffers-trans (b ∷ bs) (c ∷ cs) (d ∷ ds) x y = (like_buffer-trans b c d x.0 y.0, like_buffers-trans bs cs ds x.1 y.1)

-- members that differ in their buffers alone
like_members : (m : ArrayMembers) (f : List (Option Buffer) → List (Option Buffer)) → LikeBuffers m.buffers (f m.buffers)
    → LikeMembers m (record { length = m.length; null_count = m.null_count; offset = m.offset; buffers = f m.buffers; kind = m.kind })
like_members m f like = record { same_length = refl; same_null_count = refl; same_offset = refl; same_kind = refl; like_buffers = like }

like_members-trans : (l m n : ArrayMembers) → LikeMembers l m → LikeMembers m n → LikeMembers l n
like_members-trans l m n x y = record {
  same_length = y.same_length ∙ x.same_length;
  same_null_count = y.same_null_count ∙ x.same_null_count;
  same_offset = y.same_offset ∙ x.same_offset;
  same_kind = y.same_kind ∙ x.same_kind;
  like_buffers = like_buffers-trans l.buffers m.buffers n.buffers x.like_buffers y.like_buffers;
}

pub Like-same : (t : ArrayTree) → Like t t
Like-same t = Alike-refl LikeMembers (λ m. like_members m (λ bs. bs) (like_buffers-same m.buffers)) t

pub Like-trans : (t u v : ArrayTree) → Like t u → Like u v → Like t v
Like-trans t u v a b = Alike-trans LikeMembers like_members-trans t u v a b

-- ---- one share, a share that was refused, and any number of shares

like_buffers-one_lower : (bs cs : List (Option Buffer)) → OneLowerBuffers bs cs → LikeBuffers bs cs
like_buffers-one_lower [] [] a = tt
like_buffers-one_lower [] (c ∷ cs) a = absurd a
like_buffers-one_lower (b ∷ bs) [] a = absurd a
like_buffers-one_lower (None ∷ bs) (None ∷ cs) a = (tt, like_buffers-one_lower bs cs a.1)
like_buffers-one_lower (None ∷ bs) (Some c ∷ cs) a = absurd a.0
like_buffers-one_lower (Some b ∷ bs) (None ∷ cs) a = absurd a.0
like_buffers-one_lower (Some b ∷ bs) (Some c ∷ cs) a = ((a.0.0, a.0.1.0), like_buffers-one_lower bs cs a.1)

like_members-one_lower : (m n : ArrayMembers) → OneLowerMembers m n → LikeMembers m n
like_members-one_lower m n a = record {
  same_length = a.same_length;
  same_null_count = a.same_null_count;
  same_offset = a.same_offset;
  same_kind = a.same_kind;
  like_buffers = like_buffers-one_lower m.buffers n.buffers a.one_lower_buffers;
}

pub Like-one_lower : (t u : ArrayTree) → OneLower t u → Like t u
Like-one_lower t u a = Alike-weaker OneLowerMembers LikeMembers like_members-one_lower t u a

like_buffers-lowered : (bs : List (Option Buffer)) → LikeBuffers bs (map lowered_buffer bs)
like_buffers-lowered [] = tt
like_buffers-lowered (None ∷ bs) = (tt, like_buffers-lowered bs)
like_buffers-lowered (Some b ∷ bs) = ((refl, omega arith), like_buffers-lowered bs)

pub Like-lowered : (t : ArrayTree) → Like t (Lowered t)
Like-lowered t = Alike-map LikeMembers lowered_members (λ m. like_members m (map lowered_buffer) (like_buffers-lowered m.buffers)) t

like_buffers-by : (n : ℕ) (bs : List (Option Buffer)) → LikeBuffers bs (map (buffer_lowered_by n) bs)
like_buffers-by n [] = tt
like_buffers-by n (None ∷ bs) = (tt, like_buffers-by n bs)
like_buffers-by n (Some b ∷ bs) = ((refl, omega arith), like_buffers-by n bs)

pub Like-lowered_by : (n : ℕ) (t : ArrayTree) → Like t (LoweredBy n t)
Like-lowered_by n t = Alike-map LikeMembers (members_lowered_by n) (λ m. like_members m (map (buffer_lowered_by n)) (like_buffers-by n m.buffers)) t

-- ---- shares one after another

none_less : (a : ℕ) → a - 0 ≡ a
none_less a = omega arith

by_none : (bs : List (Option Buffer)) → map (buffer_lowered_by 0) bs ≡ bs
by_none [] = refl
by_none (None ∷ bs) = ap (λ cs. None ∷ cs) (by_none bs)
by_none (Some b ∷ bs) = λ i. Some (record { bytes = b.bytes; amount = none_less b.amount i }) ∷ by_none bs i

pub LoweredBy-none : (t : ArrayTree) → LoweredBy 0 t ≡ t
LoweredBy-none t =
    map_tree-same (members_lowered_by 0)
    (λ m. λ i. record { length = m.length; null_count = m.null_count; offset = m.offset; buffers = by_none m.buffers i; kind = m.kind }) t

one_less : (a n : ℕ) → a - n - 1 ≡ a - (n + 1)
one_less a n = omega arith

by_one_more : (n : ℕ) (bs : List (Option Buffer)) → map lowered_buffer (map (buffer_lowered_by n) bs) ≡ map (buffer_lowered_by (n + 1)) bs
by_one_more n [] = refl
by_one_more n (None ∷ bs) = ap (λ cs. None ∷ cs) (by_one_more n bs)
by_one_more n (Some b ∷ bs) = λ i. Some (record { bytes = b.bytes; amount = one_less b.amount n i }) ∷ by_one_more n bs i

pub LoweredBy-more : (n : ℕ) (t : ArrayTree) → Lowered (LoweredBy n t) ≡ LoweredBy (n + 1) t
LoweredBy-more n t =
    map_tree-both lowered_members (members_lowered_by n) (members_lowered_by (n + 1))
    (λ m. λ i. record { length = m.length; null_count = m.null_count; offset = m.offset; buffers = by_one_more n m.buffers i; kind = m.kind }) t

-- ---- what trees that are like another keep

length-like : (bs cs : List (Option Buffer)) → LikeBuffers bs cs → length cs ≡ length bs
length-like [] [] a = refl
length-like [] (c ∷ cs) a = absurd a
length-like (b ∷ bs) [] a = absurd a
length-like (b ∷ bs) (c ∷ cs) a = omega (arith, length-like bs cs a.1)

pub same_number : (m n : ArrayMembers) → LikeMembers m n → length n.buffers ≡ length m.buffers
same_number m n a = length-like m.buffers n.buffers a.like_buffers

holds_of-like : (bs cs : List (Option Buffer)) → LikeBuffers bs cs → holds_of cs ≡ holds_of bs
holds_of-like [] [] a = refl
holds_of-like [] (c ∷ cs) a = absurd a
holds_of-like (b ∷ bs) [] a = absurd a
holds_of-like (None ∷ bs) (None ∷ cs) a = holds_of-like bs cs a.1
holds_of-like (None ∷ bs) (Some c ∷ cs) a = absurd a.0
holds_of-like (Some b ∷ bs) (None ∷ cs) a = absurd a.0
holds_of-like (Some b ∷ bs) (Some c ∷ cs) a = omega (arith, holds_of-like bs cs a.1)

pub Cost-like : (t u : ArrayTree) → Like t u → Cost u ≡ Cost t
Cost-like t u a = Alike-Cost holds LikeMembers (λ m n like. holds_of-like m.buffers n.buffers like.like_buffers) t u a

pub Depth-like : (t u : ArrayTree) → Like t u → Depth u ≡ Depth t
Depth-like t u a = Alike-Depth LikeMembers t u a

-- ---- the least amount

least_of-by : (n : ℕ) (bs : List (Option Buffer)) → least_of bs ≤ least_of (map (buffer_lowered_by n) bs) + n
least_of-by n [] = omega arith
least_of-by n (None ∷ bs) = least_of-by n bs
least_of-by n (Some b ∷ bs) = let h = least_of-by n bs in omega arith

mutual
  pub LeastAmount-by : (n : ℕ) (t : ArrayTree) → LeastAmount t ≤ LeastAmount (LoweredBy n t) + n
  LeastAmount-by n Released = omega arith
  LeastAmount-by n (Live m ts d) =
      let a = least_of-by n m.buffers in let b = least_of_all-by n ts in let c = least_of_maybe-by n d in omega arith

  least_of_all-by : (n : ℕ) (ts : Trees ArrayMembers) → least_of_all ts ≤ least_of_all (map_trees (members_lowered_by n) ts) + n
  least_of_all-by n no_trees = omega arith
  least_of_all-by n (more_trees t ts) = let a = LeastAmount-by n t in let b = least_of_all-by n ts in omega arith

  least_of_maybe-by : (n : ℕ) (d : MaybeTree ArrayMembers) → least_of_maybe d ≤ least_of_maybe (map_maybe (members_lowered_by n) d) + n
  least_of_maybe-by n absent = omega arith
  least_of_maybe-by n (present t) = LeastAmount-by n t

least_of-one_lower : (bs cs : List (Option Buffer)) → OneLowerBuffers bs cs → least_of bs ≤ least_of cs + 1
least_of-one_lower [] [] a = omega arith
least_of-one_lower [] (c ∷ cs) a = absurd a
least_of-one_lower (b ∷ bs) [] a = absurd a
least_of-one_lower (None ∷ bs) (None ∷ cs) a = least_of-one_lower bs cs a.1
least_of-one_lower (None ∷ bs) (Some c ∷ cs) a = absurd a.0
least_of-one_lower (Some b ∷ bs) (None ∷ cs) a = absurd a.0
least_of-one_lower (Some b ∷ bs) (Some c ∷ cs) a = let h = least_of-one_lower bs cs a.1 in omega (arith, a.0.1.1)

mutual
  pub LeastAmount-one_lower : (t u : ArrayTree) → OneLower t u → LeastAmount t ≤ LeastAmount u + 1
  LeastAmount-one_lower Released Released a = omega arith
  LeastAmount-one_lower Released (Live n us e) a = absurd a
  LeastAmount-one_lower (Live m ts d) Released a = absurd a
  LeastAmount-one_lower (Live m ts d) (Live n us e) a =
      let x = least_of-one_lower m.buffers n.buffers a.0.one_lower_buffers in
      let y = least_of_all-one_lower ts us a.1.0 in
      let z = least_of_maybe-one_lower d e a.1.1 in
      omega arith

  least_of_all-one_lower : (ts us : Trees ArrayMembers) → AllOneLower ts us → least_of_all ts ≤ least_of_all us + 1
  least_of_all-one_lower no_trees no_trees a = omega arith
  least_of_all-one_lower no_trees (more_trees u us) a = absurd a
  least_of_all-one_lower (more_trees t ts) no_trees a = absurd a
  least_of_all-one_lower (more_trees t ts) (more_trees u us) a =
      let x = LeastAmount-one_lower t u a.0 in let y = least_of_all-one_lower ts us a.1 in omega arith

  least_of_maybe-one_lower : (d e : MaybeTree ArrayMembers) → MaybeOneLower d e → least_of_maybe d ≤ least_of_maybe e + 1
  least_of_maybe-one_lower absent absent a = omega arith
  least_of_maybe-one_lower absent (present u) a = absurd a
  least_of_maybe-one_lower (present t) absent a = absurd a
  least_of_maybe-one_lower (present t) (present u) a = LeastAmount-one_lower t u a

-- ---- the least amount of trees that are alike
least_of-like : (bs cs : List (Option Buffer)) → LikeBuffers bs cs → least_of cs ≤ least_of bs
least_of-like [] [] a = omega arith
least_of-like [] (c ∷ cs) a = absurd a
least_of-like (b ∷ bs) [] a = absurd a
least_of-like (None ∷ bs) (None ∷ cs) a = least_of-like bs cs a.1
least_of-like (None ∷ bs) (Some c ∷ cs) a = absurd a.0
least_of-like (Some b ∷ bs) (None ∷ cs) a = absurd a.0
least_of-like (Some b ∷ bs) (Some c ∷ cs) a = let h = least_of-like bs cs a.1 in omega (arith, a.0.1)

mutual
  pub LeastAmount-like : (t u : ArrayTree) → Like t u → LeastAmount u ≤ LeastAmount t
  LeastAmount-like Released Released a = omega arith
  LeastAmount-like Released (Live n us e) a = absurd a
  LeastAmount-like (Live m ts d) Released a = absurd a
  LeastAmount-like (Live m ts d) (Live n us e) a =
      let x = least_of-like m.buffers n.buffers a.0.like_buffers in
      let y = least_of_all-like ts us a.1.0 in
      let z = least_of_maybe-like d e a.1.1 in
      omega arith

  least_of_all-like : (ts us : Trees ArrayMembers) → AllAlike LikeMembers ts us → least_of_all us ≤ least_of_all ts
  least_of_all-like no_trees no_trees a = omega arith
  least_of_all-like no_trees (more_trees u us) a = absurd a
  least_of_all-like (more_trees t ts) no_trees a = absurd a
  least_of_all-like (more_trees t ts) (more_trees u us) a =
      let x = LeastAmount-like t u a.0 in let y = least_of_all-like ts us a.1 in omega arith

  least_of_maybe-like : (d e : MaybeTree ArrayMembers) → MaybeAlike LikeMembers d e → least_of_maybe e ≤ least_of_maybe d
  least_of_maybe-like absent absent a = omega arith
  least_of_maybe-like absent (present u) a = absurd a
  least_of_maybe-like (present t) absent a = absurd a
  least_of_maybe-like (present t) (present u) a = LeastAmount-like t u a

pub LeastAmount-lowered : (t : ArrayTree) → LeastAmount t ≤ LeastAmount (Lowered t) + 1
LeastAmount-lowered t = LeastAmount-one_lower t (Lowered t) (OneLower-lowered t)

pub ruleset amounts = (
  Like-same,
  Like-trans,
  Like-lowered,
  Like-lowered_by,
  Like-one_lower,
  Cost-like,
  Depth-like,
  LeastAmount-like,
  LoweredBy-none,
  LoweredBy-more,
  LeastAmount-lowered,
  LeastAmount-by,
  LeastAmount-one_lower,
)
