use Rattle.std.proofs.Common.{◌+◌, ◌*◌}
use Rattle.text_cases.proofs.items.+item.Given as goal

abbrev pub decreases-push_items : goal.decreases-push_items
decreases-push_items a = 3 * a.levels

abbrev pub decreases-push_fields : goal.decreases-push_fields
decreases-push_fields a = 3 * a.levels + 1

abbrev pub decreases-push_item : goal.decreases-push_item
decreases-push_item a = 3 * a.levels + 2
