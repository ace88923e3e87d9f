use Rattle.std.proofs.Common.{map, refl, subst}
use Rattle.wesl_tree_names.specs.Path.{path_view}
use Rattle.wesl_link_paths.proofs.Lists.{path_of}
use Rattle.wesl_link_tables.specs.Aims.{Aims, spelled_binder}
use Rattle.wesl_link_tables.specs.Reading.{own_path}
use Rattle.wesl_link_tables.specs.Uses.{aims}
use Rattle.wesl_link_tables.specs.NumbersView.{numbering}
use Rattle.wesl_link_tables.proofs.Marking.{under_marked}
use Rattle.wesl_link_tables.proofs.marks.mark_under.Goals as goal

pub returns-clause-marked : goal.returns-clause-marked
returns-clause-marked c = λ bs same x n.
    let after = c.aim.new.numbers in
    let nb = numbering c.args.numbers.now in
    let r = c.args.reading.now in
    let aims_at = subst (λ o. Aims (numbering after) c.in_ok-aimed.aimed (aims o (map (spelled_binder nb) c.args.imports.now) (path_view c.args.path.now))) (path_of nb.paths r.own (own_path r) c.requires.numbered.own) c.in_ok-aimed.ensures.aims in
    under_marked c.args.reading.now (numbering c.args.numbers.now) (numbering after) after.names.different after.paths.different c.aim.ensures.grows c.requires.numbered c.args.here c.args.name x n c.args.imports.now bs same c.args.path.now
    c.in_ok-aimed.aimed aims_at c.args.found.now _ c.asked_at.result c.asked_at.ensures refl c.in_ok-push.ensures.items
