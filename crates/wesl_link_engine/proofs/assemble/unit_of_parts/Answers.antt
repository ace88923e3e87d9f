use Rattle.std.proofs.Common.{◌≡◌, false, List, ap, ◌∙◌, length, map, subst, rules}
use Rattle.wesl_tree_names.specs.Path.{Text}
use Rattle.wesl_tree.specs.Translation.{unit_view}
use Rattle.wesl_link_tables.specs.TextsView.{numbering_of_texts as numbering}
use Rattle.wesl_link_assembly.specs.Denotations.{printed_as}
use Rattle.wesl_link_assembly.specs.Linked.{nodes_of, IsLinkedAs}
use Rattle.wesl_link_assembly.specs.Views.{Meaning, denotation_view}
use Rattle.wesl_link_engine.specs.GivenView.{given}
use Rattle.wesl_link_engine.specs.Holding.{printed_by}
use Rattle.wesl_link_engine.proofs.Told.{if_ok}
use Rattle.wesl_link_engine.proofs.assemble.unit_of_parts.Goals as goal

pub linked_unit-requires : goal.linked_unit-requires
linked_unit-requires c = let calm : c.args.parts.is_refused ≡ false = search rules in record { one_each = ap length c.deref.ensures.value ∙ c.requires.one_each calm }

pub returns-clause-linked : goal.returns-clause-linked
returns-clause-linked c =
    let calm : c.args.parts.is_refused ≡ false = search rules in
    let print : Meaning → Text = printed_as (printed_by (numbering c.args.numbers.now) (given c.args.given.now)) in
    if_ok c.linked_unit.result
    (λ unit linked. (calm, subst (λ (ds : List Meaning). IsLinkedAs print (nodes_of c.args.directives c.args.parts.declarations) ds (unit_view unit)) (ap (map denotation_view) c.deref.ensures.value) linked))
    c.linked_unit.ensures.linked
