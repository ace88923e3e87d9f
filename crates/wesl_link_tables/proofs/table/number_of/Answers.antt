use Rattle.std.proofs.Common.{◌<◌, [], get_or, length, arith}
use Rattle.wesl_tree_base.specs.declared.ids.NameId.{NameId}
use Rattle.wesl_link_tables.specs.Numbering.{NameAt}
use Rattle.wesl_link_tables.specs.NumbersView.{numbering}
use Rattle.wesl_link_tables.proofs.Naming.{related_at}
use Rattle.wesl_link_tables.proofs.table.number_of.Goals as goal
use Rattle.wesl_link_split.proofs.Orders.{itself}

pub returns-then-ident-ids-clause-numbered : goal.returns-then-ident-ids-clause-numbered
returns-then-ident-ids-clause-numbered c =
    let ids = c.args.ids.now in
    let i = c.args.ident.0 in
    let none : NameId = record { 0 = 0 } in
    let there : i < length ids = omega (arith, c.if-ident-ids.true) in
    related_at (NameAt (numbering c.args.numbers.now)) ids c.args.names.now i (get_or ids i none) [] c.requires there (itself ids i none there)
