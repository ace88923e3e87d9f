use Rattle.std.proofs.Common.{◌<◌, ◌++◌, ◌∷◌, [], set, reverse, ap, sym, subst, ◌∙◌}
use Rattle.wesl_validate_rules.specs.Graphs.{graph_view}
use Rattle.wesl_validate_rules.specs.Searches.{IsSearch}
use Rattle.wesl_validate_rules.specs.declared.graph.Mark.TheVariants.{Open}
use Rattle.wesl_validate_rules.proofs.Turns.{starts}
use Rattle.wesl_validate_rules.proofs.graph.search_from.Goals as goal

pub go_on-requires-clause-begun : goal.go_on-requires-clause-begun
go_on-requires-clause-begun c =
    let g = graph_view c.args.graph.now in
    let n = c.args.start in
    let s = c.requires.begun in
    subst (IsSearch g (set c.args.marks.now n Open) c.args.left.now) (sym (ap reverse (c.in_ok-push-in-New.ensures.items ∙ ap (λ ws. ws ++ n ∷ []) c.requires.empty)))
    (starts g c.args.marks.now c.args.left.now n s (subst (λ x. n < x) s.marks_sized c.requires.inside) c.in-New.is)
