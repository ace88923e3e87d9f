use Rattle.wesl_tree_names.specs.Path.{path_view}
use Rattle.wesl_resolve_base.proofs.ResultLemmas.{IfOk-to, OrMemory-to, refused-to}
use Rattle.wesl_program.specs.Hands.{found_in}
use Rattle.wesl_program.proofs.Found.{handed-of, missing-of, refused-of}
use Rattle.wesl_program.proofs.bundle_resolver.BundleSources.unit_at.Goals as goal

pub returns-in-Ok-clause-handed : goal.returns-in-Ok-clause-handed
returns-in-Ok-clause-handed c =
    IfOk-to _ _ (λ u h. handed-of (found_in c.args.self.now (path_view c.args.path.now)) _ c.in-Ok.ensures.found _ h) c.read_unit.result c.read_unit.ensures.read

pub returns-in-Ok-clause-refused : goal.returns-in-Ok-clause-refused
returns-in-Ok-clause-refused c =
    refused-to _ _ (λ e h. refused-of (path_view c.args.path.now) (found_in c.args.self.now (path_view c.args.path.now)) _ c.in-Ok.ensures.found e h) c.read_unit.result c.read_unit.ensures.refused

pub returns-in-Err-clause-refused : goal.returns-in-Err-clause-refused
returns-in-Err-clause-refused c =
    OrMemory-to _ _ (missing-of (path_view c.args.path.now) (found_in c.args.self.now (path_view c.args.path.now))) c.in-Err.refusal c.in-Err.ensures.missing
