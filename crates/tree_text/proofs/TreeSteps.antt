-- Reading on from a cursor: what was read so far, and where the lines stop.
use Rattle.std.proofs.Common.{◌≡◌, ℕ, suc, ◌+◌, ◌-◌, ◌<◌, ◌≤◌, List, [], ◌∷◌, ◌++◌, length, replicate, Option, Some, None, refl, sym, ap, ◌∙◌, arith}
use Rattle.std.proofs.Common.{subst, append_assoc, length-append}
use Rattle.std.proofs.lemmas.List.{replicate-append-replicate, append-nil}
use Rattle.tree_model.specs.promise.TreeData.{Tree, Live, trees, tree_list, maybe_tree}
use Rattle.tree_model.specs.promise.TreeCost.{cost_of_all, cost_of_maybe}
use Rattle.tree_model.specs.Tree.{depth_of_all, depth_of_maybe}
use Rattle.tree_model.proofs.Lists.{tree_list-trees}
use Rattle.tree_text.specs.declared.fault.TextFault.{TextFault}
use Rattle.tree_text.specs.declared.fault.TextFault.TheVariants.{Line}
use Rattle.tree_text.specs.declared.cursor.Cursor.{Cursor}
use Rattle.tree_text.specs.promise.TreeText.{lines_of, lines_of_all, lines_of_maybe, dictionaries, TreeFits, AllFit, MaybeFits, deepest_level}
use Rattle.tree_text.specs.promise.Standing.{Place, first_fault, next}
use Rattle.tree_text.specs.Cursors.{left, IsCursor, StopsAt, Stops, Between, listed}
use Rattle.tree_text.proofs.Stands.{stops}
use Rattle.tree_text.proofs.TreeLaws.{all_stand, lines_of_all-append, AllFit-front, AllFit-back}

-- ---- one line

pub missing : (bytes : List ℕ) (cursor : Cursor) (place : Place) → left bytes cursor ≡ [] → Stops bytes cursor (place ∷ []) (Line cursor.line)
missing bytes cursor place none behind = ap (λ (ls : List (List ℕ)). first_fault (place ∷ behind) ls cursor.line) none

pub refused : (bytes : List ℕ) (cursor : Cursor) (place : Place) (line : List ℕ) (rest : List (List ℕ)) → left bytes cursor ≡ line ∷ rest
    → next place line ≡ None → Stops bytes cursor (place ∷ []) (Line cursor.line)
refused bytes cursor place line rest here other behind =
    ap (λ (ls : List (List ℕ)). first_fault (place ∷ behind) ls cursor.line) here ∙ stops place behind line rest cursor.line other

-- the numbers of the lines
pub moved : (bytes : List ℕ) (from to : Cursor) (read : List (List ℕ)) → IsCursor bytes from → Between bytes from to read → from.line + length read ≡ to.line
moved bytes from to read cursor between =
    let same : length (left bytes from) ≡ length read + length (left bytes to) = ap length between.spelled ∙ length-append read (left bytes to) in
    omega (arith, same, cursor.counted, between.cursor.counted)

pub nothing_between : (bytes : List ℕ) (cursor : Cursor) → IsCursor bytes cursor → Between bytes cursor cursor []
nothing_between bytes cursor is = record { spelled = refl; cursor = is }

pub joined : (bytes : List ℕ) (from mid to : Cursor) (first second : List (List ℕ)) → Between bytes from mid first → Between bytes mid to second
    → Between bytes from to (first ++ second)
joined bytes from mid to first second a b = record {
  spelled = a.spelled ∙ ap (λ (ls : List (List ℕ)). first ++ ls) b.spelled ∙ sym (append_assoc first second (left bytes to));
  cursor = b.cursor;
}

-- what stops behind lines that may be there
pub stops_later : (bytes : List ℕ) (from mid : Cursor) (read : List (List ℕ)) (before after : List Place) (f : TextFault) → IsCursor bytes from
    → Between bytes from mid read
    → ((behind : List Place) (rest : List (List ℕ)) (n : ℕ) → first_fault (before ++ behind) (read ++ rest) n
    ≡ first_fault (after ++ behind) rest (n + length read))
    → Stops bytes mid after f → Stops bytes from before f
stops_later bytes from mid read before after f cursor between stand later behind =
    let path = ap (λ (ls : List (List ℕ)). first_fault (before ++ behind) ls from.line) between.spelled ∙ stand behind (left bytes mid) from.line
    ∙ ap (first_fault (after ++ behind) (left bytes mid)) (moved bytes from mid read cursor between) in
    subst (StopsAt f) (sym path) (later behind)

-- ---- children and a dictionary as one list

pub cost-listed : {M : Type 0} (holds : M → ℕ) (xs : List (Tree M)) (d : Option (Tree M))
    → cost_of_all holds (trees (xs ++ listed d)) ≡ cost_of_all holds (trees xs) + cost_of_maybe holds (maybe_tree d)
cost-listed holds [] None = omega arith
cost-listed holds [] (Some t) = omega arith
cost-listed holds (x ∷ xs) d = omega (arith, cost-listed holds xs d)

pub depth-listed : {M : Type 0} (most : ℕ) (xs : List (Tree M)) (d : Option (Tree M)) → depth_of_all (trees (xs ++ listed d)) ≤ most
    → (depth_of_all (trees xs) ≤ most) × (depth_of_maybe (maybe_tree d) ≤ most)
depth-listed most [] None low = (omega arith, omega arith)
depth-listed most [] (Some t) low = (omega arith, omega (arith, low))
depth-listed most (x ∷ xs) d low =
    let rest = depth-listed most xs d (omega (arith, low)) in
    (omega (arith, low, rest.0), rest.1)

module _ {M : Type 0} (gone : List ℕ) (own_lines : M → ℕ → ℕ → List (List ℕ)) (NodeFits : M → ℕ → Type 0) (at : ℕ → Place)
    (gone_stands : (level : ℕ) (places : List Place) (rest : List (List ℕ)) (n : ℕ) → level ≤ deepest_level
    → first_fault (at level ∷ places) (gone ∷ rest) n ≡ first_fault places rest (n + 1))
    (own_stands : (own : M) (c d level : ℕ) (places : List Place) (rest : List (List ℕ)) (n : ℕ) → level ≤ deepest_level → NodeFits own c → d ≤ 1
    → first_fault (at level ∷ places) (own_lines own c d ++ rest) n
    ≡ first_fault (replicate (c + d) (at (level + 1)) ++ places) rest (n + length (own_lines own c d))) where
  -- ---- a list of trees

  pub one_more : (bytes : List ℕ) (from mid to : Cursor) (made : List (Tree M)) (t : Tree M)
      → Between bytes from mid (lines_of_all gone own_lines (trees made)) → Between bytes mid to (lines_of gone own_lines t)
      → Between bytes from to (lines_of_all gone own_lines (trees (made ++ t ∷ [])))
  one_more bytes from mid to made t front back =
      let more : lines_of_all gone own_lines (trees (made ++ t ∷ [])) ≡ lines_of_all gone own_lines (trees made) ++ lines_of gone own_lines t =
      lines_of_all-append gone own_lines made (t ∷ []) ∙ ap (λ (ls : List (List ℕ)). lines_of_all gone own_lines (trees made) ++ ls)
      (append-nil (lines_of gone own_lines t)) in
      subst (Between bytes from to) (sym more) (joined bytes from mid to (lines_of_all gone own_lines (trees made)) (lines_of gone own_lines t) front back)

  pub stops_in_list : (bytes : List ℕ) (from to : Cursor) (level count i : ℕ) (made : List (Tree M)) (f : TextFault) → IsCursor bytes from
      → Between bytes from to (lines_of_all gone own_lines (trees made))
      → AllFit NodeFits level (trees made) → length made ≡ i → i < count → Stops bytes to (at level ∷ []) f → Stops bytes from (replicate count (at level)) f
  stops_in_list bytes from to level count i made f cursor between fit counted more later =
      let here = at level in
      let rest = count - i - 1 in
      let parts : replicate count here ≡ replicate (length (tree_list (trees made))) here ++ (here ∷ replicate rest here) =
      ap (λ (n : ℕ). replicate n here) (omega (arith, counted, more, ap length (tree_list-trees made)))
      ∙ sym (replicate-append-replicate (length (tree_list (trees made))) (suc rest) here) in
      subst (λ (ps : List Place). Stops bytes from ps f) (sym parts)
      (stops_later bytes from to (lines_of_all gone own_lines (trees made)) (replicate (length (tree_list (trees made))) here ++ (here ∷ replicate rest here))
      (here ∷ replicate rest here) f cursor between
      (λ behind ls n. ap (λ (ps : List Place). first_fault ps (lines_of_all gone own_lines (trees made) ++ ls) n)
      (append_assoc (replicate (length (tree_list (trees made))) here) (here ∷ replicate rest here) behind)
      ∙ all_stand gone own_lines NodeFits at gone_stands own_stands level (trees made) fit ((here ∷ replicate rest here) ++ behind) ls n)
      (λ behind. later (replicate rest here ++ behind)))

  -- ---- a live node

  pub lines-listed : (children : List (Tree M)) (d : Option (Tree M))
      → lines_of_all gone own_lines (trees (children ++ listed d)) ≡ lines_of_all gone own_lines (trees children)
      ++ lines_of_maybe gone own_lines (maybe_tree d)
  lines-listed children None = lines_of_all-append gone own_lines children []
  lines-listed children (Some t) =
      lines_of_all-append gone own_lines children (t ∷ []) ∙ ap (λ (ls : List (List ℕ)). lines_of_all gone own_lines (trees children) ++ ls)
      (append-nil (lines_of gone own_lines t))

  pub one-listed : (d : Option (Tree M)) → dictionaries (maybe_tree d) ≡ length (listed d)
  one-listed None = refl
  one-listed (Some t) = refl

  pub fits-listed : (level : ℕ) (d : Option (Tree M)) → AllFit NodeFits level (trees (listed d)) → MaybeFits NodeFits level (maybe_tree d)
  fits-listed level None fits = tt
  fits-listed level (Some t) fits = fits.0

  pub record NodeRead (bytes : List ℕ) (from to : Cursor) (level : ℕ) (t : Tree M) : Type 0 where
    pub between : Between bytes from to (lines_of gone own_lines t)
    pub fits : TreeFits NodeFits level t

  pub node_read : (bytes : List ℕ) (from mid to : Cursor) (level c d : ℕ) (own : M) (children : List (Tree M)) (dictionary : Option (Tree M))
      → level ≤ deepest_level → NodeFits own c
      → Between bytes from mid (own_lines own c d) → Between bytes mid to (lines_of_all gone own_lines (trees (children ++ listed dictionary)))
      → AllFit NodeFits (level + 1) (trees (children ++ listed dictionary)) → length children ≡ c → length (listed dictionary) ≡ d
      → NodeRead bytes from to level (Live own (trees children) (maybe_tree dictionary))
  node_read bytes from mid to level c d own children dictionary low own_fits first rest fits counted one =
      let c_is : length (tree_list (trees children)) ≡ c = ap length (tree_list-trees children) ∙ counted in
      let d_is : dictionaries (maybe_tree dictionary) ≡ d = one-listed dictionary ∙ one in
      let all = joined bytes from mid to (own_lines own c d) (lines_of_all gone own_lines (trees (children ++ listed dictionary))) first rest in
      record {
        between = subst (Between bytes from to) (λ i. own_lines own (sym c_is i) (sym d_is i) ++ lines-listed children dictionary i) all;
        fits = (
          low,
          subst (NodeFits own) (sym c_is) own_fits,
          AllFit-front NodeFits (level + 1) children (listed dictionary) fits,
          fits-listed (level + 1) dictionary (AllFit-back NodeFits (level + 1) children (listed dictionary) fits),
        );
      }

  pub stops_below : (bytes : List ℕ) (from mid : Cursor) (level c d : ℕ) (own : M) (f : TextFault) → IsCursor bytes from → level ≤ deepest_level
      → NodeFits own c → d ≤ 1 → Between bytes from mid (own_lines own c d)
      → Stops bytes mid (replicate (c + d) (at (level + 1))) f → Stops bytes from (at level ∷ []) f
  stops_below bytes from mid level c d own f cursor low fits one first later =
      stops_later bytes from mid (own_lines own c d) (at level ∷ []) (replicate (c + d) (at (level + 1))) f cursor first
      (λ behind rest n. own_stands own c d level behind rest n low fits one) later
