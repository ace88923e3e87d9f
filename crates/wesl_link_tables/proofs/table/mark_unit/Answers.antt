use Rattle.std.proofs.Common.{sym, subst, refl}
use Rattle.wesl_tree_syntax.specs.Unit.{spelled}
use Rattle.wesl_tree.specs.Translation.{unit_view}
use Rattle.wesl_scope_occurrences.specs.Pieces.{declarations_in}
use Rattle.wesl_link_tables.specs.Numbering.{AreRelated, NameAt}
use Rattle.wesl_link_tables.specs.NumbersView.{numbering}
use Rattle.wesl_link_tables.specs.Reading.{AreNumbersOfNames}
use Rattle.wesl_link_tables.proofs.table.mark_unit.Goals as goal

pub add_declarations-requires-clause-read : goal.add_declarations-requires-clause-read
add_declarations-requires-clause-read c =
    record { own = c.requires.asked; label = refl; senses = c.in_ok-senses.ensures }

pub add_declarations-requires-clause-numbered : goal.add_declarations-requires-clause-numbered
add_declarations-requires-clause-numbered c =
    let u = unit_view c.args.unit.now in
    let n = numbering c.args.numbers.now in
    record {
      own = c.requires.held;
      scope = c.requires.scope;
      ids = subst (λ is. AreRelated (NameAt n) is u.names) (sym c.deref.ensures.value) c.requires.numbered.ids;
    }

pub add_declarations-requires-clause-named : goal.add_declarations-requires-clause-named
add_declarations-requires-clause-named c =
    subst (λ ns. AreNumbersOfNames (numbering c.args.numbers.now) ns (declarations_in (spelled (unit_view c.args.unit.now)))) (sym c.deref-2.ensures.value) c.requires.numbered.names
