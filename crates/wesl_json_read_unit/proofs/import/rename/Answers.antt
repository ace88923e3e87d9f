use Rattle.std.proofs.Common.{Option, ap, sym}
use Rattle.std.specs.Option.{is_some}
use Rattle.serde_json.specs.Data.{Data}
use Rattle.wesl_tree_syntax.specs.Tree.{binder}
use Rattle.wesl_json_read_unit.proofs.Imports.{not_renamed, renamed}
use Rattle.wesl_json_read_unit.proofs.import.rename.Goals as goal

pub returns-in-Some : goal.returns-in-Some
returns-in-Some c = renamed (ap (λ (o : Option Data). is_some o) (sym c.in-Some.ensures)) (c.ident_at.ensures binder)

pub returns-in-None : goal.returns-in-None
returns-in-None c = not_renamed (sym c.in-None.ensures)
