use Rattle.wesl_tree.specs.Translation.{unit_view}
use Rattle.wesl_link_assembly.proofs.Shortened.{unit_shortened}
use Rattle.wesl_link_assembly.proofs.paths.drop_paths.Goals as goal

pub returns-then-replace-clause-pathless : goal.returns-then-replace-clause-pathless
returns-then-replace-clause-pathless c = unit_shortened (unit_view c.args.unit.now) (unit_view c.replace.new.self) c.replace.result c.replace.ensures.replaced c.if-replace.true
