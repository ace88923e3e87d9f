use Rattle.std.proofs.Common.{◌∙◌, map, string_bytes, sym, ap, append-nil}
use Rattle.wesl_tree_base.proofs.Texts.{map-AllZip, copied_more}
use Rattle.wesl_tree_base.proofs.writing.copied_texts.Goals as goal

pub loop-text-init : goal.loop-text-init
loop-text-init c = map-AllZip _ _ _ c.in_ok-texts.ensures.ok ∙ sym (append-nil (map string_bytes c.args.first.now))

pub loop-text-preserved : goal.loop-text-preserved
loop-text-preserved c =
    copied_more string_bytes string_bytes (map string_bytes c.args.first.now) c.args.more.now c.loop-text.text-index c.text-item.result c.loop-text.texts.items c.push.new.self.items c.in_ok-clone.field-0
    c.loop-text-test.true (c.in_ok-clone.ensures.cases ∙ ap string_bytes c.text-item.is) c.in_ok-push.ensures.items c.loop-text.invariant
