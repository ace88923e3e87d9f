use Rattle.std.proofs.Common.{◌≡◌, false, take}
use Rattle.wesl_link_tables.specs.TextsView.{numbering_of_texts as numbering}
use Rattle.wesl_link_engine.proofs.Adding.{AllMeant}
use Rattle.wesl_link_engine.proofs.assemble.add_denotations.Given as goal

abbrev pub invariant-loop-mark : goal.invariant-loop-mark
invariant-loop-mark l =
    (l.parts.is_refused ≡ false → AllMeant (numbering l.numbers) l.linked l.table l.initial.parts.denotations.items (take l.mark-index l.marks) l.parts.denotations.items)
    × (l.parts.declarations ≡ l.initial.parts.declarations)
    × (l.parts.is_refused ≡ false → l.initial.parts.is_refused ≡ false)
