use Rattle.std.proofs.Common.{◌≡◌, ◌++◌, ◌∙◌, ap, length, map, subst, true}
use Rattle.wesl_tree_names.specs.Path.{path_view}
use Rattle.wesl_tree_syntax.specs.Tree.{tree_below}
use Rattle.wesl_tree_syntax.specs.View.{imports_tree, directives_tree, declarations_tree}
use Rattle.wesl_tree_syntax.specs.Unit.{trees_of}
use Rattle.wesl_tree.specs.Translation.{unit_view}
use Rattle.wesl_scope_occurrences.specs.Events.{events, paths_met}
use Rattle.wesl_scope_occurrences.specs.Views.{here_view}
use Rattle.wesl_scope_occurrences.proofs.Bounds.{unit_names}
use Rattle.wesl_scope_occurrences.proofs.Module.{unit_walked}
use Rattle.wesl_scope_occurrences.proofs.Steps.{lawful}
use Rattle.wesl_scope_occurrences.proofs.unit.walk_unit.Goals as goal

pub returns-clause-told : goal.returns-clause-told
returns-clause-told g c =
    let u = trees_of (unit_view c.args.unit.now) in
    let w = unit_walked (lawful g.met.H.Handler.none g.met.H.Handler.more) (here_view c.outermost-here.result) c.new-walk.result c.imports-2.new.self c.directives.new.self c.globals.new.self
    (imports_tree c.imports.result.now) (directives_tree c.global_directives.result.now) (declarations_tree c.global_declarations.result.now) u
    c.outermost-here.ensures c.new-walk.ensures.outer c.imports-2.ensures c.directives.ensures c.globals.ensures
    c.imports.ensures.imports c.global_directives.ensures.directives c.global_declarations.ensures.declarations c.if-walk.false in
    subst (λ h. g.H.Handler.after (events u) h c.globals.new.self.handler) c.new-walk.ensures.handler w.told

pub returns-clause-outer : goal.returns-clause-outer
returns-clause-outer g c =
    let u = trees_of (unit_view c.args.unit.now) in
    let w = unit_walked (lawful g.met.H.Handler.none g.met.H.Handler.more) (here_view c.outermost-here.result) c.new-walk.result c.imports-2.new.self c.directives.new.self c.globals.new.self
    (imports_tree c.imports.result.now) (directives_tree c.global_directives.result.now) (declarations_tree c.global_declarations.result.now) u
    c.outermost-here.ensures c.new-walk.ensures.outer c.imports-2.ensures c.directives.ensures c.globals.ensures
    c.imports.ensures.imports c.global_directives.ensures.directives c.global_declarations.ensures.declarations c.if-walk.false in
    w.outer

pub returns-clause-paths : goal.returns-clause-paths
returns-clause-paths g c =
    let u = trees_of (unit_view c.args.unit.now) in
    let w = unit_walked (lawful g.met.H.Handler.none g.met.H.Handler.more) (here_view c.outermost-here.result) c.new-walk.result c.imports-2.new.self c.directives.new.self c.globals.new.self
    (imports_tree c.imports.result.now) (directives_tree c.global_directives.result.now) (declarations_tree c.global_declarations.result.now) u
    c.outermost-here.ensures c.new-walk.ensures.outer c.imports-2.ensures c.directives.ensures c.globals.ensures
    c.imports.ensures.imports c.global_directives.ensures.directives c.global_declarations.ensures.declarations c.if-walk.false in
    w.paths ∙ ap (λ ps. map (λ p. path_view p.now) ps ++ paths_met (events u)) c.new-walk.ensures.paths

pub returns-clause-named : goal.returns-clause-named
returns-clause-named g c =
    let u = unit_view c.args.unit.now in
    let n = length u.names in
    unit_names n (trees_of u)
    (subst (λ t. tree_below n t ≡ true) c.imports.ensures.imports c.imports.ensures.below)
    (subst (λ t. tree_below n t ≡ true) c.global_directives.ensures.directives c.global_directives.ensures.below)
    (subst (λ t. tree_below n t ≡ true) c.global_declarations.ensures.declarations c.global_declarations.ensures.below)
