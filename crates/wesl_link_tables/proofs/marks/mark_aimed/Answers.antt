use Rattle.std.proofs.Common.{[], ap, sym, subst}
use Rattle.wesl_tree_names.specs.Path.{origin_view}
use Rattle.wesl_link_tables.specs.NumbersView.{numbering}
use Rattle.wesl_link_tables.specs.Numbering.{NameAt}
use Rattle.wesl_link_tables.specs.Reading.{IsPackage, Marks}
use Rattle.wesl_link_tables.proofs.Added.{numbered_later}
use Rattle.wesl_link_tables.proofs.Marking.{aimed_absolute, aimed_relative}
use Rattle.wesl_link_tables.proofs.Related.{name_later}
use Rattle.wesl_link_tables.proofs.marks.mark_aimed.Goals as goal
use Rattle.wesl_link_split.proofs.Anywhere.{if_ok}

pub mark_through-requires-clause-numbered : goal.mark_through-requires-clause-numbered
mark_through-requires-clause-numbered c = numbered_later (numbering c.args.numbers.now) (numbering c.name.new.self) c.name.ensures.grows c.args.reading.now c.requires.numbered

pub mark_through-requires-clause-first : goal.mark_through-requires-clause-first
mark_through-requires-clause-first c =
    let nb = numbering c.name.new.self in
    let first = c.in_ok-first-in-Package.first in
    subst (λ o. IsPackage nb first (origin_view o)) (sym c.in-Package.is) (subst (λ x. NameAt nb first x) c.deref.ensures c.in_ok-first-in-Package.ensures.numbered)

pub returns-in_ok-first-in-Package-clause-marked : goal.returns-in_ok-first-in-Package-clause-marked
returns-in_ok-first-in-Package-clause-marked c =
    let a = numbering c.args.numbers.now in
    let b = numbering c.name.new.self in
    if_ok c.mark_through.result (λ m f x n. f x (name_later a b c.name.ensures.grows c.args.name x n)) c.mark_through.ensures.marked

pub returns-in-Absolute-clause-marked : goal.returns-in-Absolute-clause-marked
returns-in-Absolute-clause-marked c =
    let e = ap origin_view c.in-Absolute.is in
    if_ok c.mark_under.result
    (λ m f x n. subst (Marks (numbering c.mark_under.new.numbers) m c.args.found.now c.mark_under.new.found) (sym (aimed_absolute c.args.reading.now c.args.here c.args.path.now x e)) (f [] tt x n)) c.mark_under.ensures.marked

pub returns-in-Relative-clause-marked : goal.returns-in-Relative-clause-marked
returns-in-Relative-clause-marked c =
    let e = ap origin_view c.in-Relative.is in
    if_ok c.mark_under-in-Relative.result
    (λ m f x n. subst (Marks (numbering c.mark_under-in-Relative.new.numbers) m c.args.found.now c.mark_under-in-Relative.new.found)
    (sym (aimed_relative c.args.reading.now c.args.here c.args.path.now x c.in-Relative.field-0 e)) (f [] tt x n)) c.mark_under-in-Relative.ensures.marked
