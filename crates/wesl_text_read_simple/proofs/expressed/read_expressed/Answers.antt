use Rattle.std.proofs.Common.{◌∷◌, [], sym}
use Rattle.wesl_tree_syntax.specs.Tree.{branch, call_statement}
use Rattle.wesl_tree_syntax.specs.View.{attributes_tree, call_view, statement_view}
use Rattle.wesl_text_read.proofs.Expressions.{viewed}
use Rattle.wesl_text_read.proofs.Leading.{stay}
use Rattle.wesl_text_read_simple.specs.declared.expressed.FirstPart.TheVariants as held
use Rattle.wesl_text_read_simple.proofs.Parts.{expressed_read}
use Rattle.wesl_text_read_simple.proofs.Views.{view-call}
use Rattle.wesl_text_read_simple.proofs.expressed.read_expressed.Goals as goal

pub returns-in-Call : goal.returns-in-Call
returns-in-Call c =
    let a = attributes_tree c.attributes-attributes.result in
    let call = c.in-Call.call in
    viewed _ _ (sym (view-call c.attributes-attributes.result call))
    (expressed_read a (branch call_statement (a ∷ call_view call ∷ [])) (held.Call call) c.requires c.attributes-attributes.ensures (c.in-Call.ensures {u = tt}) stay)

pub returns-in-Place : goal.returns-in-Place
returns-in-Place c =
    let a = attributes_tree c.attributes-attributes.result in
    expressed_read a (statement_view c.changed.result) (held.Place c.in-Place.expression c.in-Place.change) c.requires c.attributes-attributes.ensures (c.in-Place.ensures {u = tt}) c.changed.ensures
