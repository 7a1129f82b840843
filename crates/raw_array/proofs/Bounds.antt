-- A share, its source after it, and a window keep the bounds that every structure has.
use Rattle.std.proofs.Common.{◌≡◌, length, refl, arith}
use Rattle.std.proofs.lemmas.List.{length-map}
use Rattle.tree_model.specs.promise.TreeData.{Released, Live, Trees, no_trees, more_trees, tree_list}
use Rattle.tree_model.specs.Tree.{map_trees, AllAlike}
use Rattle.raw_array.specs.promise.Members.{ArrayMembers, ArrayTree}
use Rattle.raw_array.specs.Members.{Bounded, shared_buffer, shared_members, ShareOf, Lowered, LikeMembers, Like, OneLower}
use Rattle.raw_array.proofs.Amounts.{Depth-like, Like-lowered, Like-one_lower, same_number}
use Rattle.raw_array.proofs.Shares.{Depth-shared}

mapped : (f : ArrayMembers → ArrayMembers) (ts : Trees ArrayMembers) → length (tree_list (map_trees f ts)) ≡ length (tree_list ts)
mapped f no_trees = refl
mapped f (more_trees t ts) = omega (arith, mapped f ts)

alike : (ts us : Trees ArrayMembers) → AllAlike LikeMembers ts us → length (tree_list us) ≡ length (tree_list ts)
alike no_trees no_trees a = refl
alike no_trees (more_trees u us) a = absurd a
alike (more_trees t ts) no_trees a = absurd a
alike (more_trees t ts) (more_trees u us) a = omega (arith, alike ts us a.1)

pub Bounded-shared : (t : ArrayTree) → Bounded t → Bounded (ShareOf t)
Bounded-shared Released b = b
Bounded-shared (Live m ts d) b =
    (omega (arith, b.0, Depth-shared (Live m ts d)), (omega (arith, b.1.0, mapped shared_members ts), omega (arith, b.1.1, length-map m.buffers shared_buffer)))

pub Bounded-like : (t u : ArrayTree) → Like t u → Bounded t → Bounded u
Bounded-like Released Released a b = b
Bounded-like Released (Live m ts d) a b = absurd a
Bounded-like (Live m ts d) Released a b = absurd a
Bounded-like (Live m ts d) (Live n us e) a b =
    (omega (arith, b.0, Depth-like (Live m ts d) (Live n us e) a), (omega (arith, b.1.0, alike ts us a.1.0), omega (arith, b.1.1, same_number m n a.0)))

pub Bounded-lowered : (t : ArrayTree) → Bounded t → Bounded (Lowered t)
Bounded-lowered t b = Bounded-like t (Lowered t) (Like-lowered t) b

pub Bounded-one_lower : (t u : ArrayTree) → OneLower t u → Bounded t → Bounded u
Bounded-one_lower t u a b = Bounded-like t u (Like-one_lower t u a) b

pub ruleset bounds = (Bounded-shared, Bounded-lowered, Bounded-one_lower)
