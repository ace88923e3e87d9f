use Rattle.std.proofs.Common.{◌∙◌, arith, sym}
use Rattle.wesl_link_split.proofs.Grouping.{held_at, get_below, name_at, none_named}
use Rattle.wesl_link_split.proofs.sight.Sight.group.Goals as goal

pub index-requires : goal.index-requires
index-requires c =
    let s = c.args.self.now in
    omega (arith, get_below s.names.keys c.in-Some.index c.args.name (name_at c.args.name s.names.keys c.in-Some.index (sym c.in-Some.ensures.index)), s.grouped.long, s.groups.ok.0)

pub returns-in-Some : goal.returns-in-Some
returns-in-Some c =
    let s = c.args.self.now in
    let at = name_at c.args.name s.names.keys c.in-Some.index (sym c.in-Some.ensures.index) in
    let below = get_below s.names.keys c.in-Some.index c.args.name at in
    c.deref.ensures.value ∙ s.grouped.each c.in-Some.index c.args.name c.index.result.now at (held_at s.groups.items c.in-Some.index c.index.result.now (omega (arith, below, s.grouped.long)) c.index.ensures)

pub returns-in-None : goal.returns-in-None
returns-in-None c = let s = c.args.self.now in sym (none_named s.binders.items s.names.keys s.groups.items s.grouped c.args.name (sym c.in-None.ensures.found))
