use Rattle.std.proofs.Common.{◌≡◌, true, false, rules}
use Rattle.wesl_tree_names.specs.Path.{path_view}
use Rattle.wesl_tree_syntax.specs.Tree.{path}
use Rattle.wesl_text_read.specs.Leads.{ahead}
use Rattle.wesl_text_read_imports.specs.Slashes.{begins_keyword_path}
use Rattle.wesl_text_read_imports.proofs.Slashes.{keyword_read, package_begins}
use Rattle.wesl_text_read_imports.proofs.path.slashed_path.Goals as goal

pub returns-then-begins_keyword_path : goal.returns-then-begins_keyword_path
returns-then-begins_keyword_path c =
    let first : begins_keyword_path (ahead c.args.reader.now) ≡ true = search rules in
    keyword_read (path (path_view c.path.result)) first c.path.ensures

pub returns-else-begins_keyword_path : goal.returns-else-begins_keyword_path
returns-else-begins_keyword_path c =
    let first : begins_keyword_path (ahead c.args.reader.now) ≡ false = search rules in
    package_begins (path (path_view c.package_path.result)) c.requires first c.package_path.ensures
