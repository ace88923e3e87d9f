use Rattle.std.proofs.Common.{◌≡◌, ◌==◌, ◌∙◌, Some, length, option_and_then, false, ap, sym, rules}
use Rattle.serde_json.specs.Find.{as_array}
use Rattle.wesl_json_form.specs.View.{borrowed_view, items_view}
use Rattle.wesl_json_form.specs.Reading.{span_of_items}
use Rattle.wesl_json_read.proofs.Pairs.{no_pair}
use Rattle.wesl_json_read.proofs.fields.span_of.Goals as goal

pub returns-then-items-ne2 : goal.returns-then-items-ne2
returns-then-items-ne2 c =
    let is : as_array (borrowed_view c.args.value.now) ≡ Some (items_view c.in_ok-items.items.now) = search rules in
    let other : (length c.in_ok-items.items.now == 2) ≡ false = search rules in
    sym (ap (option_and_then span_of_items) is ∙ no_pair c.in_ok-items.items.now other)
