use Rattle.std.proofs.Common.{refl}
use Rattle.wesl_tree_syntax.specs.Tree.{absent, before, end, import_item, kind, leaf, present}
use Rattle.wesl_scope_occurrences.proofs.Views.{item_none, item_some}
use Rattle.wesl_scope_spans.proofs.Steps.{found, inside, met, none, viewed}
use Rattle.wesl_scope_spans.proofs.imports.in_item.Goals as goal

pub returns-in-None : goal.returns-in-None
returns-in-None c = viewed (item_none c.args.item.now c.in-None.is) (inside (kind import_item) refl (met c.meet.ensures (none (before (leaf (kind absent)) end) refl)))

pub returns-in-Some : goal.returns-in-Some
returns-in-Some c = viewed (item_some c.args.item.now c.in-Some.field-0 c.in-Some.is) (inside (kind import_item) refl (met c.meet.ensures (inside (kind present) refl (found c.meet-in-Some.ensures))))
