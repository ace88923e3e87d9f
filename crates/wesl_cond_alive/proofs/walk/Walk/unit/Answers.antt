use Rattle.std.proofs.Common.{◌∙◌, ap, false, map}
use Rattle.wesl_cond_chains.specs.Lists.{elements}
use Rattle.wesl_tree_syntax.specs.Tree.{Tree}
use Rattle.wesl_tree.specs.Translation.{unit_view}
use Rattle.wesl_cond_alive.specs.Sound.{outline_of}
use Rattle.wesl_cond_alive.specs.Views.{state_of}
use Rattle.wesl_cond_alive.specs.Walk.{all_choices, places_in}
use Rattle.wesl_cond_alive.proofs.Steps.{next_tree, none}
use Rattle.wesl_cond_alive.proofs.Nodes.{before_joined, unit_joined}
use Rattle.wesl_cond_alive.proofs.walk.Walk.unit.Goals as goal

pub returns-clause-found : goal.returns-clause-found
returns-clause-found c =
    let u = unit_view c.args.unit.now in
    let w = next_tree (next_tree (next_tree (none c.args.self.now) c.imports-imports.ensures.found) c.directives.ensures) c.globals-declarations.ensures.found in
    record {
      noted = w.noted;
      found = λ k. w.found k ∙ unit_joined (state_of c.args.self.now) _ _ _ u.imports u.directives u.declarations c.imports-statements.ensures.imports c.global_directives-directives.ensures.directives c.global_declarations-globals.ensures.declarations;
    }

pub returns-clause-imports : goal.returns-clause-imports
returns-clause-imports c = λ k.
    c.imports-imports.ensures.places (c.directives.ensures.noted (c.globals-declarations.ensures.found.noted k))
    ∙ ap (λ (t : Tree). places_in all_choices (map outline_of (elements false t.children)) (state_of c.args.self.now)) c.imports-statements.ensures.imports

pub returns-clause-declarations : goal.returns-clause-declarations
returns-clause-declarations c = λ k.
    let u = unit_view c.args.unit.now in
    let w = next_tree (next_tree (none c.args.self.now) c.imports-imports.ensures.found) c.directives.ensures in
    let m = c.globals-declarations.ensures.found.noted k in
    c.globals-declarations.ensures.places k
    ∙ (ap (λ (t : Tree). places_in all_choices (map outline_of (elements false t.children)) (state_of c.directives.new.self)) c.global_declarations-globals.ensures.declarations
    ∙ ap (places_in all_choices (map outline_of (elements false u.declarations.children)))
    (w.found m ∙ before_joined (state_of c.args.self.now) _ _ u.imports u.directives u.declarations c.imports-statements.ensures.imports c.global_directives-directives.ensures.directives))
