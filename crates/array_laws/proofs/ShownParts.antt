-- What is shown of a tree's parts, and which trees show the same.
use Rattle.std.proofs.Common.{◌≡◌, ℕ, zero, suc, List, [], ◌∷◌, length, map, get_or, Option, None, Some, refl, ap, sym}
use Rattle.std.proofs.lemmas.List.{length-map}
use Rattle.tree_model.specs.promise.TreeData.{Released, Live, Trees, no_trees, more_trees, MaybeTree, absent, present}
use Rattle.tree_model.specs.Tree.{map_tree, map_trees, map_maybe, Alike, AllAlike}
use Rattle.tree_model.specs.Tree.{MaybeAlike}
use Rattle.raw_array.specs.promise.Members.{Buffer, ArrayMembers, ArrayTree, bytes_in}
use Rattle.raw_array.specs.Members.{shared_buffer, lowered_buffer, shared_members, lowered_members, ShareOf, Lowered}
use Rattle.raw_array.specs.Members.{LoweredBy, buffer_lowered_by, members_lowered_by, LikeBuffers, LikeMembers, Like}
use Rattle.raw_array.specs.declared.array.ReleaseKind.TheVariants.{Assembled}
use Rattle.layout_rules.specs.promise.Layout.{buffer}
use Rattle.array_laws.specs.Shown.{shown_buffer, shown_members, SameShown}

pub funext : {X Y : Type 0} → {f g : X → Y} → ((x : X) → f x ≡ g x) → f ≡ g
funext same = λ t. λ x. same x t

-- the second node's buffers have the bytes of the first one's
pub record SameBytes (m w : ArrayMembers) : Type 0 where
  pub bytes : (k : ℕ) → buffer w k ≡ buffer m k
  pub count : length w.buffers ≡ length m.buffers

got : (bs : List (Option Buffer)) (k : ℕ) → bytes_in (get_or (map shown_buffer bs) k None) ≡ bytes_in (get_or bs k None)
got [] k = refl
got (None ∷ bs) zero = refl
got (Some b ∷ bs) zero = refl
got (b ∷ bs) (suc k) = got bs k

pub shown-bytes : (m : ArrayMembers) → SameBytes m (shown_members m)
shown-bytes m = record { bytes = got m.buffers; count = length-map m.buffers shown_buffer }

-- ---- members that show the same

pub record SameMembers (m n : ArrayMembers) : Type 0 where
  pub same_length : n.length ≡ m.length
  pub same_null_count : n.null_count ≡ m.null_count
  pub same_offset : n.offset ≡ m.offset
  pub same_buffers : map shown_buffer n.buffers ≡ map shown_buffer m.buffers

same-members : (m n : ArrayMembers) → SameMembers m n → shown_members n ≡ shown_members m
same-members m n s = λ i.
    record { length = s.same_length i; null_count = s.same_null_count i; offset = s.same_offset i; buffers = s.same_buffers i; kind = Assembled }

-- ---- changes of members that show the same

module _ (f : ArrayMembers → ArrayMembers) (same : (m : ArrayMembers) → shown_members (f m) ≡ shown_members m) where
  mutual
    mapped-shown : (t : ArrayTree) → SameShown (map_tree f t) t
    mapped-shown Released = refl
    mapped-shown (Live m ts d) = λ i. Live (same m i) (all-mapped ts i) (maybe-mapped d i)

    all-mapped : (ts : Trees ArrayMembers) → map_trees shown_members (map_trees f ts) ≡ map_trees shown_members ts
    all-mapped no_trees = refl
    all-mapped (more_trees t ts) = λ i. more_trees (mapped-shown t i) (all-mapped ts i)

    maybe-mapped : (d : MaybeTree ArrayMembers) → map_maybe shown_members (map_maybe f d) ≡ map_maybe shown_members d
    maybe-mapped absent = refl
    maybe-mapped (present t) = λ i. present (mapped-shown t i)

-- buffers that are changed one by one
each-buffer : (f : Option Buffer → Option Buffer) → ((b : Option Buffer) → shown_buffer (f b) ≡ shown_buffer b) → (bs : List (Option Buffer))
    → map shown_buffer (map f bs) ≡ map shown_buffer bs
each-buffer f same [] = refl
each-buffer f same (b ∷ bs) = λ i. same b i ∷ each-buffer f same bs i

one-shared : (b : Option Buffer) → shown_buffer (shared_buffer b) ≡ shown_buffer b
one-shared None = refl
one-shared (Some b) = refl

one-lowered : (b : Option Buffer) → shown_buffer (lowered_buffer b) ≡ shown_buffer b
one-lowered None = refl
one-lowered (Some b) = refl

one-lowered_by : (n : ℕ) (b : Option Buffer) → shown_buffer (buffer_lowered_by n b) ≡ shown_buffer b
one-lowered_by n None = refl
one-lowered_by n (Some b) = refl

pub shown-share : (t : ArrayTree) → SameShown (ShareOf t) t
shown-share t =
    mapped-shown shared_members
    (λ m. same-members m (shared_members m)
    (record { same_length = refl; same_null_count = refl; same_offset = refl; same_buffers = each-buffer shared_buffer one-shared m.buffers })) t

pub shown-lowered : (t : ArrayTree) → SameShown (Lowered t) t
shown-lowered t =
    mapped-shown lowered_members
    (λ m. same-members m (lowered_members m)
    (record { same_length = refl; same_null_count = refl; same_offset = refl; same_buffers = each-buffer lowered_buffer one-lowered m.buffers })) t

pub shown-lowered_by : (n : ℕ) (t : ArrayTree) → SameShown (LoweredBy n t) t
shown-lowered_by n t =
    mapped-shown (members_lowered_by n)
    (λ m. same-members m (members_lowered_by n m)
    (record {
      same_length = refl;
      same_null_count = refl;
      same_offset = refl;
      same_buffers = each-buffer (buffer_lowered_by n)
          (one-lowered_by n) m.buffers;
    })) t

-- ---- trees whose members show the same

module _ (R : ArrayMembers → ArrayMembers → Type 0) (same : (m n : ArrayMembers) → R m n → shown_members n ≡ shown_members m) where
  mutual
    alike-shown : (t u : ArrayTree) → Alike R t u → SameShown t u
    alike-shown Released Released a = refl
    alike-shown Released (Live n us e) a = absurd a
    alike-shown (Live m ts d) Released a = absurd a
    alike-shown (Live m ts d) (Live n us e) a = λ i. Live (sym (same m n a.0) i) (all-shown ts us a.1.0 i) (maybe-shown d e a.1.1 i)

    all-shown : (ts us : Trees ArrayMembers) → AllAlike R ts us → map_trees shown_members ts ≡ map_trees shown_members us
    all-shown no_trees no_trees a = refl
    all-shown no_trees (more_trees u us) a = absurd a
    all-shown (more_trees t ts) no_trees a = absurd a
    all-shown (more_trees t ts) (more_trees u us) a = λ i. more_trees (alike-shown t u a.0 i) (all-shown ts us a.1 i)

    maybe-shown : (d e : MaybeTree ArrayMembers) → MaybeAlike R d e → map_maybe shown_members d ≡ map_maybe shown_members e
    maybe-shown absent absent a = refl
    maybe-shown absent (present u) a = absurd a
    maybe-shown (present t) absent a = absurd a
    maybe-shown (present t) (present u) a = λ i. present (alike-shown t u a i)

one-buffer : (b c : Buffer) → c.bytes ≡ b.bytes → shown_buffer (Some c) ≡ shown_buffer (Some b)
one-buffer b c e = λ i. Some (record { bytes = e i; amount = 0 })

like-buffers : (bs cs : List (Option Buffer)) → LikeBuffers bs cs → map shown_buffer cs ≡ map shown_buffer bs
like-buffers [] [] l = refl
like-buffers [] (c ∷ cs) l = absurd l
like-buffers (b ∷ bs) [] l = absurd l
like-buffers (None ∷ bs) (None ∷ cs) l = ap (λ ds. None ∷ ds) (like-buffers bs cs l.1)
like-buffers (None ∷ bs) (Some c ∷ cs) l = absurd l.0
like-buffers (Some b ∷ bs) (None ∷ cs) l = absurd l.0
like-buffers (Some b ∷ bs) (Some c ∷ cs) l = λ i. one-buffer b c l.0.0 i ∷ like-buffers bs cs l.1 i

like-members : (m n : ArrayMembers) → LikeMembers m n → shown_members n ≡ shown_members m
like-members m n l =
    same-members m n (record {
      same_length = l.same_length;
      same_null_count = l.same_null_count;
      same_offset = l.same_offset;
      same_buffers = like-buffers m.buffers n.buffers l.like_buffers;
    })

pub shown-like : (t u : ArrayTree) → Like t u → SameShown t u
shown-like = alike-shown LikeMembers like-members
