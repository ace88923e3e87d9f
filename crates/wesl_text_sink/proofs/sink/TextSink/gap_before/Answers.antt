use Rattle.std.proofs.Common.{◌<◌, ◌-◌, length, get_or, List, ◌≡◌, sym, subst}
use Rattle.wesl_text_sink.specs.declared.kind.Mark.{Mark}
use Rattle.wesl_text_sink.proofs.Marks.{apart_touching, last_marked}
use Rattle.wesl_text_sink.proofs.sink.TextSink.gap_before.Goals as goal

pub returns-then-may_touch : goal.returns-then-may_touch
returns-then-may_touch c e =
    let ms : List Mark = c.args.self.now.marks.items in
    let same : c.deref.result.now ≡ ms = c.deref.ensures.value in
    let some : 0 < length ms = subst (λ (xs : List Mark). 0 < length xs) same c.in-Some.ensures.item.3.0 in
    let item : (d : Mark) → c.in-Some.last.now ≡ get_or ms (length ms - 1) d = subst (λ (xs : List Mark). (d : Mark) → c.in-Some.last.now ≡ get_or xs (length xs - 1) d) same c.in-Some.ensures.item.3.1 in
    apart_touching ms c.in-Some.last.now c.args.kind (last_marked ms c.in-Some.last.now some item) (sym c.if-may_touch.ensures)
