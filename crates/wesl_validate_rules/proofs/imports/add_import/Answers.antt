use Rattle.std.proofs.Common.{◌≡◌, ◌∙◌, ◌++◌, sym}
use Rattle.wesl_scope_strip.specs.Forests.{one_begins}
use Rattle.wesl_tree_syntax.specs.Tree.{before, end}
use Rattle.wesl_tree_syntax.specs.View.{attributes_tree, content_view, import_view}
use Rattle.wesl_validate_rules.specs.Names.{is_condition, imported_in}
use Rattle.wesl_validate_rules.specs.Gathered.{gathered}
use Rattle.wesl_validate_rules.proofs.Gathering.{added_plain, on_ok}
use Rattle.wesl_validate_rules.proofs.imports.add_import.Goals as goal

pub returns : goal.returns
returns c =
    let import = c.args.import.now in
    let old = c.args.numbers.now.items in
    let new = c.add_content.new.numbers.items in
    let content = before (content_view import.content) end in
    on_ok c.add_content.result (new ≡ gathered old content) (new ≡ old ++ imported_in (before (import_view import) end))
    (added_plain old new (one_begins is_condition (attributes_tree import.attributes).children) content (sym c.is_conditional.ensures ∙ c.if-is_conditional.false)) c.add_content.ensures
