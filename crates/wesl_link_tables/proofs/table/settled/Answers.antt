use Rattle.std.proofs.Common.{◌∙◌, sym}
use Rattle.wesl_link_split.specs.ScopeView.{scope_view}
use Rattle.wesl_link_tables.proofs.Unsplit.{settled_plain}
use Rattle.wesl_link_tables.proofs.table.settled.Goals as goal

pub returns : goal.returns
returns c = settled_plain (scope_view c.args.scope.now) (sym c.has_split.ensures ∙ c.if-has_split.false) c.args.import.now
