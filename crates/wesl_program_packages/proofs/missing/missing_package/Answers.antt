use Rattle.wesl_tree_names.specs.Path.{path_view}
use Rattle.wesl_resolve_base.specs.Packages.{no_package}
use Rattle.wesl_resolve_base.proofs.ResultLemmas.{said-as}
use Rattle.wesl_program_packages.proofs.missing.missing_package.Goals as goal

pub returns : goal.returns
returns c =
    said-as (path_view c.args.path.now) (no_package c.args.whole.now) c.not_found_for.result c.format.result c.format.ensures.ok c.not_found_for.ensures
