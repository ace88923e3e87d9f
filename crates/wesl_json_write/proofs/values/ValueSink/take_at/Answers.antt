use Rattle.std.proofs.Common.{◌≡◌, Some, rules}
use Rattle.wesl_json_write.proofs.Builder.{member_taken, taken}
use Rattle.wesl_json_write.proofs.values.ValueSink.take_at.Goals as goal

pub returns-in-Some-with_item : goal.returns-in-Some-with_item
returns-in-Some-with_item c =
    let is : c.args.key ≡ Some c.in-Some.key = search rules in
    rw is (taken c.put.ensures (member_taken c.args.members c.in-Some-with_item.members c.in-Some.key c.args.value c.in-Some-with_item.ensures))
