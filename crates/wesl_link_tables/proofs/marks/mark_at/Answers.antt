use Rattle.std.proofs.Common.{◌<◌, length, subst, sym}
use Rattle.wesl_link_tables.specs.NumbersView.{numbering}
use Rattle.wesl_link_tables.proofs.Seen.{mark_there, below_there, id_there, name_there}
use Rattle.wesl_link_tables.proofs.marks.mark_at.Goals as goal
use Rattle.wesl_link_split.proofs.Anywhere.{if_ok}

pub id_of-name-requires : goal.id_of-name-requires
id_of-name-requires c =
    let r = c.args.reading.now in
    subst (λ n. n < length r.ids.now) (sym c.ident.ensures) (id_there r c.requires.read c.args.index c.index.result.now c.requires.inside c.index.ensures (numbering c.args.numbers.now) c.requires.numbered)

pub mark_read-requires-clause-below : goal.mark_read-requires-clause-below
mark_read-requires-clause-below c = below_there c.args.reading.now c.requires.read c.args.index c.index.result.now c.requires.inside c.index.ensures

pub returns-clause-marked : goal.returns-clause-marked
returns-clause-marked c =
    let r = c.args.reading.now in
    let a = numbering c.args.numbers.now in
    let s = c.index.result.now in
    let at = name_there r c.requires.read c.args.index s c.requires.inside c.index.ensures a c.requires.numbered c.ident.result.0 c.id_of-name.result c.ident.ensures c.id_of-name.ensures in
    if_ok c.mark_read.result (λ m f. mark_there r c.requires.read c.args.index s c.requires.inside c.index.ensures (numbering c.mark_read.new.numbers) m c.args.found.now c.mark_read.new.found (f _ at)) c.mark_read.ensures.marked
