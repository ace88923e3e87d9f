use Rattle.std.proofs.Common.{sym, ap}
use Rattle.std.specs.Option.{ok_or}
use Rattle.wesl_tree_names.specs.Path.{path_view}
use Rattle.wesl_resolve_base.proofs.PackagesLemmas.{said}
use Rattle.wesl_program.specs.Hands.{virtual_module}
use Rattle.wesl_program.proofs.bundle_resolver.own_value.Goals as goal

pub returns-in-Some-clause-found : goal.returns-in-Some-clause-found
returns-in-Some-clause-found c = ap (λ o. ok_or o virtual_module) (sym c.in-Some.ensures)

pub returns-in-None-clause-missing : goal.returns-in-None-clause-missing
returns-in-None-clause-missing c = said (path_view c.args.path.now) _ virtual_module c.not_found.result (ap (λ o. ok_or o virtual_module) (sym c.in-None.ensures)) c.not_found.ensures
