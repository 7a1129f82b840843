-- No fault of a walk, part by part.
use Rattle.std.proofs.Common.{◌≡◌, ℕ, suc, ◌+◌, ◌<◌, ◌&&◌, Bool, true, false, List, [], ◌∷◌, ◌++◌, length, map, Option, None, Some, refl, ap, ◌∙◌}
use Rattle.std.proofs.Common.{get_or, drop, arith}
use Rattle.std.proofs.lemmas.Bool.{false≢true}
use Rattle.std.specs.Prelude.{is_none}
use Rattle.std.specs.Option.{option_or}
use Rattle.tree_model.specs.promise.TreeData.{Released}
use Rattle.tree_model.specs.promise.TreeParts.{IsLive, children_of, dictionary_of}
use Rattle.raw_array.specs.promise.Members.{ArrayTree}
use Rattle.data_types.specs.declared.typed.Typed.{Typed, out-Typed}
use Rattle.layout_rules.specs.declared.rule.LayoutRule.{LayoutRule}
use Rattle.layout_rules.specs.declared.rule.Numbers.{Numbers}
use Rattle.data_types.specs.promise.TypedView.{typed_of}
use Rattle.data_types.specs.TypedView.{kids_of, dict_in}
use Rattle.layout_check.specs.NodeView.{live_node}
use Rattle.layout_rules.specs.promise.Rules.{Node, fails, first_below}
use Rattle.layout_rules.specs.Rules.{form_rules, buffer_rules, item_rules}
use Rattle.data_types.specs.promise.Ways.{Steps}
use Rattle.layout_rules.specs.promise.Walk.{fault_at}
use Rattle.layout_rules.specs.Walk.{fault_by, fault_from, rules_fault, own_fault, children_fault, dictionary_fault}
use Rattle.layout_check.proofs.Faults.{fault_from-typed, fault_from-typed_own, own_fault-typed, children_fault-step}

pub none-or : {X : Type 0} → (a b : Option X) → is_none (option_or a b) ≡ (is_none a && is_none b)
none-or None b = refl
none-or (Some x) b = refl

-- one more number has no fault
pub first_below-one_more : (f : ℕ → Option Numbers) (n : ℕ) → is_none (first_below f (n + 1)) ≡ (is_none (first_below f n) && is_none (f n))
first_below-one_more f n =
    let same : n + 1 ≡ suc n = omega arith in
    ap (λ m. is_none (first_below f m)) same ∙ none-or (first_below f n) (f n)

pub ruleset one_more = (first_below-one_more)

-- ---- the rules of a node

none-fault_at : (path : Steps) (rule : LayoutRule) (numbers : Option Numbers) → is_none (fault_at path rule numbers) ≡ is_none numbers
none-fault_at path rule None = refl
none-fault_at path rule (Some numbers) = refl

-- some rules hold of a node
abbrev pub rules_hold : List LayoutRule → Node → Bool
rules_hold [] node = true
rules_hold (rule ∷ rules) node = is_none (fails rule node) && rules_hold rules node

pub none-rules : (rules : List LayoutRule) (path : Steps) (node : Node) → is_none (rules_fault rules path node) ≡ rules_hold rules node
none-rules [] path node = refl
none-rules (rule ∷ rules) path node =
    none-or (fault_by path node rule) (rules_fault rules path node)
    ∙ ap (λ b. b && is_none (rules_fault rules path node)) (none-fault_at path rule (fails rule node))
    ∙ ap (λ b. is_none (fails rule node) && b) (none-rules rules path node)

-- the rules of a live node's form, then those of its buffers, then those of its items
pub none-own : (t : Typed) (path : Steps) (array : ArrayTree) → IsLive array
    → is_none (own_fault (typed_of t) path array)
    ≡ (is_none (rules_fault form_rules path (live_node t array))
    && (is_none (rules_fault buffer_rules path (live_node t array)) && is_none (rules_fault item_rules path (live_node t array))))
none-own t path array live =
    let form = rules_fault form_rules path (live_node t array) in
    let buffers = rules_fault buffer_rules path (live_node t array) in
    let items = rules_fault item_rules path (live_node t array) in
    ap is_none (own_fault-typed t path array live) ∙ none-or form (option_or buffers items) ∙ ap (λ b. is_none form && b) (none-or buffers items)

-- one more rule that holds
pub held : (a b r : Bool) → a ≡ true → r ≡ b → r ≡ (a && b)
held true b r e h = h
held false b r e h = absurd (false≢true e)

-- the last rule
pub held-last : (r b : Bool) → r ≡ b → r ≡ (b && true)
held-last r true h = h
held-last r false h = h

-- ---- the walk

-- a live node: its own rules, then its children, then its dictionary
pub none-live : (t : Typed) (path : Steps) (array : ArrayTree) → IsLive array
    → is_none (fault_from (typed_of t) path array)
    ≡ (is_none (own_fault (typed_of t) path array)
    && (is_none (children_fault (kids_of t) 0 path (children_of array)) && is_none (dictionary_fault (dict_in (out-Typed t).dict) path (dictionary_of array))))
none-live t path array live =
    let own = own_fault (typed_of t) path array in
    let children = children_fault (kids_of t) 0 path (children_of array) in
    let dictionary = dictionary_fault (dict_in (out-Typed t).dict) path (dictionary_of array) in
    ap is_none (fault_from-typed t path array live) ∙ none-or own (option_or children dictionary) ∙ ap (λ b. is_none own && b) (none-or children dictionary)

fault-of : {X : Type 0} → (o : Option X) → is_none o ≡ false → (x : X) × (o ≡ Some x)
fault-of None e = absurd (cc)
fault-of (Some x) e = (x, refl)

-- a fault of the node itself is one of the walk
pub some-own : (t : Typed) (path : Steps) (array : ArrayTree) → is_none (own_fault (typed_of t) path array) ≡ false
    → is_none (fault_from (typed_of t) path array) ≡ false
some-own t path array e =
    let fault = fault-of (own_fault (typed_of t) path array) e in
    ap is_none (fault_from-typed_own t path array fault.0 fault.1)

-- the children, one by one
pub none-step : (kids : List Typed) (i : ℕ) (d : Typed) (path : Steps) (children : List ArrayTree) → i < length kids → length children ≡ length kids
    → is_none (children_fault (drop i (map typed_of kids)) i path (drop i children))
    ≡ (is_none (fault_from (typed_of (get_or kids i d)) (path ++ i ∷ []) (get_or children i Released))
    && is_none (children_fault (drop (i + 1) (map typed_of kids)) (i + 1) path (drop (i + 1) children)))
none-step kids i d path children h same =
    ap is_none (children_fault-step kids i d path children h same)
    ∙ none-or (fault_from (typed_of (get_or kids i d)) (path ++ i ∷ []) (get_or children i Released))
    (children_fault (drop (i + 1) (map typed_of kids)) (i + 1) path (drop (i + 1) children))

pub ruleset node = (none-rules)

pub ruleset own = (none-own)

pub ruleset walks = (none-live, some-own)
