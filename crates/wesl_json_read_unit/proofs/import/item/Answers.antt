use Rattle.std.proofs.Common.{refl, sym}
use Rattle.wesl_json_form.specs.View.{borrowed_view}
use Rattle.wesl_json_read_unit.proofs.Imports.{content-item, item-tree, item_role}
use Rattle.wesl_json_read.proofs.Noting.{may_next, needs_next, no_more, of_bare, seen_if, weaker}
use Rattle.wesl_json_read_unit.proofs.import.item.Goals as goal

pub returns : goal.returns
returns c =
    let d = borrowed_view c.args.value.now in
    seen_if (λ h. sym (item-tree c.ident_at.result c.rename.result _ (c.rename.ensures.read h).0))
    (of_bare (content-item c.args.reader.now.spans d c.requires) refl refl c.keys.ensures (needs_next refl (c.ident_at.ensures (item_role d)) (may_next refl (weaker (λ a b x. x.1) (λ x h. h) c.rename.ensures) no_more)))
