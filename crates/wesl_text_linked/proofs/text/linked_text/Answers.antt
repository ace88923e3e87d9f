use Rattle.wesl_tree.specs.Translation.{unit_view}
use Rattle.wesl_source_map.specs.BasicView.{items}
use Rattle.wesl_text_linked.specs.declared.text.TextRefusal.TheVariants as refused
use Rattle.wesl_text_linked.proofs.Texts.{refuses_name}
use Rattle.wesl_text_linked.proofs.text.linked_text.Goals as goal

pub returns-in-Err-print_unit-clause-refused : goal.returns-in-Err-print_unit-clause-refused
returns-in-Err-print_unit-clause-refused g c =
    let l = c.in-Ok.linked in
    (unit_view l.unit, items l.map, c.in-Ok.ensures.linked, c.in-Ok.ensures.valid, c.in-Err-print_unit.ensures.unwritable)

pub returns-in-Err-print_unit-clause-texts : goal.returns-in-Err-print_unit-clause-texts
returns-in-Err-print_unit-clause-texts g c =
    let l = c.in-Ok.linked in
    refuses_name g.R.Resolver c.args.resolver.now c.args.root (g.M.Mangler.name_of c.args.mangler) c.args.request.now c.law_of_linked_text.ensures.linked_texts (refused.Text c.in-Err-print_unit.fault)
    (unit_view l.unit, items l.map, c.in-Ok.ensures.linked, c.in-Ok.ensures.valid, c.in-Err-print_unit.ensures.unwritable)
