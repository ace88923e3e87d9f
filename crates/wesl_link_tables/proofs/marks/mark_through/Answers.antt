use Rattle.std.proofs.Common.{[], ◌∷◌, sym, subst, take}
use Rattle.wesl_tree_names.specs.Path.{path_view}
use Rattle.wesl_link_split.specs.Split.{seen_imports}
use Rattle.wesl_link_tables.specs.NumbersView.{numbering}
use Rattle.wesl_link_tables.specs.Reading.{Marks, scope_in}
use Rattle.wesl_link_tables.specs.Uses.{texts}
use Rattle.wesl_link_tables.proofs.Added.{marks_unclear}
use Rattle.wesl_link_tables.proofs.Alike.{known_all, package_is}
use Rattle.wesl_link_tables.proofs.Marking.{start_several, start_nothing, start_one, aimed_unclear, aimed_first, aimed_none}
use Rattle.wesl_link_tables.proofs.Walked.{if_on}
use Rattle.wesl_link_tables.proofs.marks.mark_through.Goals as goal
use Rattle.wesl_link_split.proofs.Anywhere.{if_ok}

pub returns-in-Several-clause-marked : goal.returns-in-Several-clause-marked
returns-in-Several-clause-marked c =
    let numbers = c.args.numbers.now in
    let nb = numbering numbers in
    let r = c.args.reading.now in
    let (y, e, at) = package_is nb c.args.first (path_view c.args.path.now).origin c.requires.first in
    let two = start_several r nb numbers.names.different numbers.paths.different c.requires.numbered c.args.here c.args.first y at c.in_ok-start.start c.in_ok-start.ensures c.in-Several.is in
    if_on c.mark_unclear.result
    (λ m m_is more x n. subst (Marks nb m c.args.found.now c.mark_unclear.new.found) (sym (aimed_unclear r c.args.here c.args.path.now x y e two))
    (marks_unclear nb c.args.name c.args.first x y c.args.found.now c.mark_unclear.new.found m n at m_is c.mark_unclear.ensures.references more)) c.mark_unclear.ensures.mark c.mark_unclear.ensures.unclear

pub returns-in-Nothing-clause-marked : goal.returns-in-Nothing-clause-marked
returns-in-Nothing-clause-marked c =
    let numbers = c.args.numbers.now in
    let nb = numbering numbers in
    let r = c.args.reading.now in
    let (y, e, at) = package_is nb c.args.first (path_view c.args.path.now).origin c.requires.first in
    let none = start_nothing r nb numbers.names.different numbers.paths.different c.requires.numbered c.args.here c.args.first y at c.in_ok-start.start c.in_ok-start.ensures c.in-Nothing.is in
    if_ok c.mark_under.result
    (λ m f x n. subst (Marks (numbering c.mark_under.new.numbers) m c.args.found.now c.mark_under.new.found) (sym (aimed_none r c.args.here c.args.path.now x y e none)) (f [] tt x n)) c.mark_under.ensures.marked

pub mark_under-requires-in-One-clause-known : goal.mark_under-requires-in-One-clause-known
mark_under-requires-in-One-clause-known c =
    let numbers = c.args.numbers.now in
    let nb = numbering numbers in
    let r = c.args.reading.now in
    let b = c.in-One.import in
    let (y, e, at) = package_is nb c.args.first (path_view c.args.path.now).origin c.requires.first in
    let (one, same) = start_one r nb numbers.names.different numbers.paths.different c.requires.numbered c.args.here c.args.first y at c.in_ok-start.start c.in_ok-start.ensures b c.in-One.is in
    known_all nb (b ∷ []) (take 1 (seen_imports texts (scope_in r) y c.args.here)) same

pub returns-in-One-clause-marked : goal.returns-in-One-clause-marked
returns-in-One-clause-marked c =
    let numbers = c.args.numbers.now in
    let nb = numbering numbers in
    let r = c.args.reading.now in
    let b = c.in-One.import in
    let (y, e, at) = package_is nb c.args.first (path_view c.args.path.now).origin c.requires.first in
    let (one, same) = start_one r nb numbers.names.different numbers.paths.different c.requires.numbered c.args.here c.args.first y at c.in_ok-start.start c.in_ok-start.ensures b c.in-One.is in
    if_ok c.mark_under-in-One.result
    (λ m f x n. subst (Marks (numbering c.mark_under-in-One.new.numbers) m c.args.found.now c.mark_under-in-One.new.found) (sym (aimed_first r c.args.here c.args.path.now x y e one))
    (f (take 1 (seen_imports texts (scope_in r) y c.args.here)) same x n)) c.mark_under-in-One.ensures.marked
