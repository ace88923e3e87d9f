use Rattle.std.proofs.Common.{◌≡◌, ℕ, ◌+◌, ◌*◌, ◌≤◌, List, ◌++◌, length}
use Rattle.json.specs.Json.{items, members, value, parse_map}
use Rattle.serde_json.specs.Read.{of_items, of_members, converted}
use Rattle.wesl_json_form.specs.View.{members_view}
use Rattle.wesl_json_form.specs.Text.{items_at, members_at}
use Rattle.wesl_json_form.specs.declared.value.BorrowedValue.{BorrowedValue}
use Rattle.wesl_json_form.proofs.Lists.{Entry}
use Rattle.wesl_json_form.proofs.Views.{and_then_items}
use Rattle.wesl_json_form.proofs.read.+read.Given as goal

abbrev pub decreases-read : goal.decreases-read
decreases-read l = 2 * l.depth

abbrev pub decreases-read_items : goal.decreases-read_items
decreases-read_items l = 2 * l.depth + 1

abbrev pub decreases-read_members : goal.decreases-read_members
decreases-read_members l = 2 * l.depth + 1

-- the items found lie above what lay there, and then come those to come
abbrev pub invariant-read_items-items : goal.invariant-read_items-items
invariant-read_items-items l =
    (found : List BorrowedValue) × (n : ℕ) × (length l.reader ≤ n)
    × (items_at l.depth l.initial.reader ≡ parse_map (and_then_items found) (converted of_items (items (value l.depth) n l.reader)))
    × (length l.reader ≤ length l.initial.reader)
    × (l.stacks.items.items ≡ l.initial.stacks.items.items ++ found)
    × (l.stacks.members.items ≡ l.initial.stacks.members.items)

abbrev pub decreases-read_items-items : goal.decreases-read_items-items
decreases-read_items-items l = length l.reader

-- the members found lie above what lay there, and those to come go in after them
abbrev pub invariant-read_members-members : goal.invariant-read_members-members
invariant-read_members-members l =
    (found : List Entry) × (n : ℕ) × (length l.reader ≤ n)
    × (members_at l.depth l.initial.reader ≡ converted (λ ms. of_members ms (members_view found)) (members (value l.depth) n l.reader))
    × (length l.reader ≤ length l.initial.reader)
    × (l.stacks.items.items ≡ l.initial.stacks.items.items)
    × (l.stacks.members.items ≡ l.initial.stacks.members.items ++ found)

abbrev pub decreases-read_members-members : goal.decreases-read_members-members
decreases-read_members-members l = length l.reader
