use Rattle.std.proofs.Common.{◌≡◌, codes, refl, rules}
use Rattle.serde_json.specs.Data.{no_members}
use Rattle.wesl_tree_syntax.specs.View.{declarations_tree, directives_tree, imports_tree}
use Rattle.wesl_tree.specs.Translation.{unit_view}
use Rattle.wesl_json_form.specs.Schema.{a_declaration, a_directive, an_import, second_form}
use Rattle.wesl_json_form.specs.Units.{written_as}
use Rattle.wesl_json_form.specs.Writing.{put_extra}
use Rattle.wesl_json_print_nodes.proofs.Adding.{lawful, then}
use Rattle.wesl_json_words.specs.Values.{bare, items_in, with_list}
use Rattle.wesl_json_words.proofs.Imports.{as-unit}
use Rattle.wesl_json_print.proofs.Printed.{form_added, unit_printed}
use Rattle.wesl_json_print.proofs.unit.print_unit_to.Goals as goal

pub returns : goal.returns
returns g c =
    let l = lawful g.met.S.Sink.none g.met.S.Sink.more in
    let u = unit_view c.args.unit.now in
    let names = c.names-names.result.now in
    let i = (imports_tree c.imports.result.now).children in
    let d = (directives_tree c.global_directives.result.now).children in
    let gd = (declarations_tree c.global_declarations.result.now).children in
    let is = items_in c.args.spans names an_import i in
    let ds = items_in c.args.spans names a_directive d in
    let gs = items_in c.args.spans names a_declaration gd in
    let v = bare (put_extra c.args.spans second_form (with_list (codes "imports") is (with_list (codes "directives") ds (with_list (codes "declarations") gs no_members)))) in
    let whole : v ≡ written_as c.args.spans u = as-unit c.args.spans u i d gd is ds gs v (search rules) (search rules) (search rules) (search rules) (search rules) (search rules) refl in
    let steps = then l c.begin.ensures (then l c.print_declarations.ensures (then l c.print_directives.ensures (then l (form_added c.args.spans c.print_form.ensures) (then l c.print_imports.ensures c.close.ensures)))) in
    unit_printed c.args.spans gs ds is (written_as c.args.spans u) whole steps
