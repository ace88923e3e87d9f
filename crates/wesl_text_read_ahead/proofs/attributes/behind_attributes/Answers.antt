use Rattle.std.proofs.Common.{refl, sym, subst}
use Rattle.wesl_tree_syntax.specs.View.{attributes_tree}
use Rattle.wesl_text_read.specs.Leads.{ahead}
use Rattle.wesl_text_read_ahead.specs.Ahead.{LooksBehind}
use Rattle.wesl_text_read_ahead.proofs.Looking.{come_back, fault_there}
use Rattle.wesl_text_read_ahead.proofs.attributes.behind_attributes.Goals as goal
use Rattle.wesl_text_read_ahead.proofs.attributes.behind_attributes.Goals.{then-is_none, else-is_none}

pub returns : goal.returns
returns c =
    let tree = attributes_tree c.attributes-attributes.result in
    let behind = ahead c.attributes-attributes.new.self in
    elim c.if-is_none.branch as (λ _. LooksBehind behind c.args.reader.now c.if-is_none.reader) [
      | then-is_none w ↦ subst (λ z. LooksBehind behind c.args.reader.now z) (sym w.reader-is) (come_back tree refl refl refl refl c.attributes-attributes.ensures)
      | else-is_none w ↦ subst (λ z. LooksBehind behind c.args.reader.now z) (sym w.reader-is) (fault_there tree c.attributes-attributes.ensures (w.if-is_none.ensures {u = tt}))
    ]
