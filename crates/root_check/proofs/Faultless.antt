-- What holds of an array at which no rule fails.
use Rattle.std.proofs.Common.{◌≡◌, ℕ, Bool, true, false, ℤ, pos, negsuc, not, Option, None, Some, refl, arith}
use Rattle.std.specs.Prelude.{◌≤ℤ◌, ◌==◌}
use Rattle.std.proofs.lemmas.Bool.Decides.{nat_tests}
use Rattle.tree_model.specs.promise.TreeData.{Released, Live}
use Rattle.tree_model.specs.promise.TreeParts.{IsLive}
use Rattle.raw_array.specs.promise.Members.{ArrayTree, members_of}
use Rattle.layout_rules.specs.declared.rule.Numbers.{Numbers}
use Rattle.layout_rules.specs.promise.Rules.{fault_if, is_negative, count_wrong}
use Rattle.layout_rules.proofs.Lawful.{left-none, right-none}
use Rattle.root_check.specs.declared.own.OwnFault.{OwnFault}
use Rattle.root_check.specs.declared.own.OwnRule.{OwnRule}
use Rattle.root_check.specs.declared.own.OwnRule.TheVariants as rules
use Rattle.root_check.specs.promise.OwnRules.{released, own_fails, own_fault}
use Rattle.root_check.specs.OwnRules.{OwnHolds, own_found}

found-none : (rule : OwnRule) (fault : Option Numbers) → own_found rule fault ≡ None → fault ≡ None
found-none rule None e = refl
found-none rule (Some numbers) e = absurd (cc)

not_released : (array : ArrayTree) → released array ≡ None → IsLive array
not_released Released e = absurd (cc)
not_released (Live own children dictionary) e = tt

passes : (b : Bool) (place : ℕ) (left right : ℤ) → fault_if b place left right ≡ None → b ≡ false
passes false place left right e = refl
passes true place left right e = absurd (cc)

from_zero : (z : ℤ) → is_negative z ≡ false → pos 0 ≤ℤ z
from_zero (pos n) e = grind arith
from_zero (negsuc n) e = absurd (cc)

same_count : (found needed : ℕ) → count_wrong found needed ≡ None → found ≡ needed
same_count found needed e = let test = passes (not (found == needed)) 0 (pos found) (pos needed) e in grind (arith, nat_tests)

pub own-none : (buffers children : ℕ) (array : ArrayTree) → own_fault buffers children array ≡ None → OwnHolds buffers children array
own-none buffers children array e =
    let answer : OwnRule → Option OwnFault = λ rule. own_found rule (own_fails buffers children array rule) in
    let a = left-none (answer rules.Released) _ e in
    let e1 = right-none (answer rules.Released) _ a e in
    let b = left-none (answer rules.NegativeLength) _ e1 in
    let e2 = right-none (answer rules.NegativeLength) _ b e1 in
    let c = left-none (answer rules.NegativeOffset) _ e2 in
    let e3 = right-none (answer rules.NegativeOffset) _ c e2 in
    let d = left-none (answer rules.BufferCount) _ e3 in
    let e4 = right-none (answer rules.BufferCount) _ d e3 in
    let f = left-none (answer rules.ChildCount) _ e4 in
    let e5 = right-none (answer rules.ChildCount) _ f e4 in
    let g = left-none (answer rules.Dictionary) _ e5 in
    record {
      live = not_released array (found-none rules.Released _ a);
      sized = from_zero (members_of array).length (passes _ 0 (members_of array).length (pos 0) (found-none rules.NegativeLength _ b));
      placed = from_zero (members_of array).offset (passes _ 0 (members_of array).offset (pos 0) (found-none rules.NegativeOffset _ c));
      buffers_are = same_count _ buffers (found-none rules.BufferCount _ d);
      children_are = same_count _ children (found-none rules.ChildCount _ f);
      plain = same_count _ 0 (found-none rules.Dictionary _ g);
    }
