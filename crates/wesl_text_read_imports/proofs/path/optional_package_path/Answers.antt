use Rattle.std.proofs.Common.{◌≡◌, true, rules}
use Rattle.wesl_tree_names.specs.Path.{path_view}
use Rattle.wesl_tree_syntax.specs.Tree.{before, end, leaf as tree_leaf, path}
use Rattle.wesl_text_form.specs.Productions.{a_path, leaf, nothing}
use Rattle.wesl_text_reading.specs.FirstTokens.{begins_path}
use Rattle.wesl_text_read.specs.Leads.{ahead}
use Rattle.wesl_text_read.proofs.Rows.{may_there, row_ends, row_leaf}
use Rattle.wesl_text_read_imports.proofs.path.optional_package_path.Goals as goal

pub returns : goal.returns
returns c =
    let first : begins_path true (ahead c.args.reader.now) ≡ true = search rules in
    let n = c.args.reader.now.levels in
    let label = path (path_view c.slashed_path.result) in
    may_there n (leaf (a_path true) nothing) (before (tree_leaf label) end) first (row_leaf n (a_path true) nothing label end c.slashed_path.ensures (row_ends n))
