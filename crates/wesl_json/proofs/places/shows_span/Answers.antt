use Rattle.std.proofs.Common.{◌≡◌, codes, true, false, rules, ap, ◌∙◌}
use Rattle.wesl_tree_syntax.specs.View.{declarations_tree, directives_tree, imports_tree}
use Rattle.wesl_tree.specs.Translation.{unit_view}
use Rattle.wesl_json_form.specs.Schema.{a_declaration, a_directive, an_import}
use Rattle.wesl_json_words.specs.Values.{items_in}
use Rattle.wesl_json.proofs.PlaceLemmas.{same-list, shown, spans-told}
use Rattle.wesl_json.proofs.places.shows_span.Goals as goal

pub returns : goal.returns
returns c =
    let u = unit_view c.args.unit.now in
    let names = c.names-names.result.now in
    let i = imports_tree c.imports.result.now in
    let d = directives_tree c.global_directives.result.now in
    let g = declarations_tree c.global_declarations.result.now in
    let first : items_in true names an_import i.children ≡ items_in true u.names an_import u.imports.children = same-list an_import names u.names i u.imports (search rules) (search rules) in
    let second : items_in true names a_directive d.children ≡ items_in true u.names a_directive u.directives.children = same-list a_directive names u.names d u.directives (search rules) (search rules) in
    let third : items_in true names a_declaration g.children ≡ items_in true u.names a_declaration u.declarations.children = same-list a_declaration names u.names g u.declarations (search rules) (search rules) in
    let begun : c.new-out.result.sink.has ≡ false = ap (λ s. s.has) c.new-out.ensures.sink ∙ c.new.ensures in
    shown u c.end.result c.into_sink.result c.into_sink.ensures c.end.ensures.given c.end.ensures.noted
    (spans-told (codes "imports") (codes "directives") (codes "declarations") u _ _ _ first second third begun c.print_imports.ensures.told c.print_directives.ensures.told c.print_declarations.ensures.told)
