use Rattle.std.proofs.Common.{[], ◌∷◌, ◌++◌, map, ap, ◌∙◌}
use Rattle.std.proofs.lemmas.List.{map-append}
use Rattle.wesl_link_assembly.specs.Views.{denotation_view}
use Rattle.wesl_link_engine.specs.Holding.{declaration_tree}
use Rattle.wesl_link_engine.proofs.assemble.add_declaration.Goals as goal

pub returns-clause-added : goal.returns-clause-added
returns-clause-added c = λ e.
    let d = c.args.declaration in
    let (ds, denots, meant) = c.add_denotations.ensures.told (c.push.ensures.noted e) in
    record {
      meant = ds;
      declarations = ap (map declaration_tree) (c.push.ensures.pushed e ∙ ap (λ v. v.items ++ d ∷ []) c.add_denotations.ensures.same) ∙ map-append declaration_tree c.args.parts.now.declarations.items (d ∷ []);
      denotations = ap (λ v. map denotation_view v.items) c.push.ensures.same ∙ denots;
      means = meant;
    }

pub returns-clause-noted : goal.returns-clause-noted
returns-clause-noted c = λ e. c.add_denotations.ensures.noted (c.push.ensures.noted e)
