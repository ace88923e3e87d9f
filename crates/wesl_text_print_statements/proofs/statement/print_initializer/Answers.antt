use Rattle.std.proofs.Common.{◌≡◌, ap, rules, sym, ◌∙◌}
use Rattle.std.specs.Box.{box_value}
use Rattle.wesl_text_print.proofs.Adding.{told}
use Rattle.wesl_text_print_statements.specs.Bodies.{part_slots}
use Rattle.wesl_text_print_statements.specs.SimpleStatements.{simple_slots}
use Rattle.wesl_tree_syntax.specs.declared.span.Spanned.{Spanned}
use Rattle.wesl_tree_syntax.specs.declared.statement.Statement.{Statement}
use Rattle.wesl_text_print_statements.proofs.statement.print_initializer.Goals as goal

pub returns-in-Some : goal.returns-in-Some
returns-in-Some g c =
    let inner : c.deref.result.now ≡ box_value c.in-Some.statement = search rules in
    told (ap (λ (s : Spanned Statement). simple_slots c.args.names.now s.node) inner ∙ ap (part_slots c.args.names.now) (sym c.in-Some.is)) c.print_simple.ensures
