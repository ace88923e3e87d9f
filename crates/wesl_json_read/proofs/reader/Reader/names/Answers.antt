use Rattle.std.proofs.Common.{refl, sym, ◌∙◌}
use Rattle.wesl_json_read.proofs.NameLists.{all_names, names_stopped, no_name_list, no_names, one_name}
use Rattle.wesl_json_read.proofs.Noting.{is_clear}
use Rattle.wesl_json_read.proofs.reader.Reader.names.Goals as goal
use Rattle.wesl_json_read.proofs.reader.Reader.names.Goals.{else-not-is_stopped, then-not-is_stopped}

pub loop-index-init : goal.loop-index-init
loop-index-init c = no_names c.in-Some.ensures.same c.room-names.ensures.empty c.room-names.ensures.noted

pub loop-index-preserved : goal.loop-index-preserved
loop-index-preserved c =
    elim c.if-not-is_stopped.branch [
      | then-not-is_stopped w ↦ rw (w.self-is, w.names-is) (one_name w.text_of-name.result c.loop-index-test.true c.index-items-index.is c.loop-index.invariant (is_clear _ (sym c.is_stopped.ensures ∙ w.if-not-is_stopped.true)) w.text_of-name.ensures w.put.ensures.put w.put.ensures.noted)
      | else-not-is_stopped w ↦ rw (w.self-is, w.names-is) (names_stopped (sym c.is_stopped.ensures ∙ w.if-not-is_stopped.false) c.loop-index.invariant)
    ]

pub returns : goal.returns
returns c = all_names refl c.in-Some.ensures.there c.loop-index-test.false c.loop-index.invariant c.within.ensures

pub returns-in_default : goal.returns-in_default
returns-in_default c = no_name_list c.new.ensures.items c.in_default.ensures.lacks
