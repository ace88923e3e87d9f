use Rattle.std.proofs.Common.{◌≡◌, None, ap, codes, false, rules, sym, true}
use Rattle.std.specs.Option.{is_some}
use Rattle.serde_json.specs.Find.{get}
use Rattle.wesl_json_form.specs.Place.{find_field}
use Rattle.wesl_json_form.specs.View.{borrowed_view}
use Rattle.wesl_tree_syntax.specs.Tree.{binder}
use Rattle.wesl_json_read.proofs.Noting.{inner_next, many_next, may_next, needs_next, no_more, of_word}
use Rattle.wesl_json_read_statements.proofs.Spaces.{no-member, no_space, space-fields, space-keys, space_next, var-fields, var-keys}
use Rattle.wesl_json_read_statements.proofs.declared.variable.Goals as goal

pub returns-then-is_some : goal.returns-then-is_some
returns-then-is_some c =
    let spans = c.args.reader.now.spans in
    let d = borrowed_view c.args.value.now in
    let there : is_some (get (codes "space") d) ≡ true = search rules in
    let same = space-fields d there in
    of_word _ (sym (space-keys spans d there)) c.keys.ensures
    (many_next (ap (find_field (codes "attrs")) same) c.attributes-attributes.ensures
    (inner_next (space_next there (ap (find_field (codes "space")) same) (ap (find_field (codes "access")) same) c.space-space.ensures c.access-access.ensures)
    (needs_next (ap (find_field (codes "name")) same) (c.ident_at.ensures binder)
    (may_next (ap (find_field (codes "ty")) same) c.optional_type.ensures
    (may_next (ap (find_field (codes "init")) same) c.optional_expression.ensures no_more)))))

pub returns-else-is_some : goal.returns-else-is_some
returns-else-is_some c =
    let spans = c.args.reader.now.spans in
    let d = borrowed_view c.args.value.now in
    let other : is_some (get (codes "space") d) ≡ false = search rules in
    let absent : get (codes "space") d ≡ None = no-member (get (codes "space") d) other in
    let same = var-fields d absent in
    of_word _ (sym (var-keys spans d absent)) c.keys-else-is_some.ensures
    (many_next (ap (find_field (codes "attrs")) same) c.attributes.ensures
    (inner_next (no_space absent)
    (needs_next (ap (find_field (codes "name")) same) (c.ident_at-else-is_some.ensures binder)
    (may_next (ap (find_field (codes "ty")) same) c.optional_type-else-is_some.ensures
    (may_next (ap (find_field (codes "init")) same) c.optional_expression-else-is_some.ensures no_more)))))
