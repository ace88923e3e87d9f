use Rattle.std.proofs.Common.{arith, ap, sym}
use Rattle.wesl_link_split.specs.Grouped.{facts_of}
use Rattle.wesl_link_split.proofs.Grouping.{name_at, none_named, facts_below, facts_at}
use Rattle.wesl_link_split.proofs.sight.Sight.facts.Goals as goal

pub index-requires : goal.index-requires
index-requires c =
    let s = c.args.self.now in
    let at = name_at c.args.name s.names.keys c.in-Some.index (sym c.in-Some.ensures.index) in
    omega (arith, facts_below s.binders.items s.names.keys s.groups.items s.grouped s.facts.items s.facts_are c.args.name c.in-Some.index at, s.facts.ok.0)

pub returns-in-Some : goal.returns-in-Some
returns-in-Some c =
    let s = c.args.self.now in
    let at = name_at c.args.name s.names.keys c.in-Some.index (sym c.in-Some.ensures.index) in
    facts_at s.binders.items s.names.keys s.groups.items s.grouped s.facts.items s.facts_are c.args.name c.in-Some.index at c.index.result.now c.index.ensures

pub returns-in-None : goal.returns-in-None
returns-in-None c =
    let s = c.args.self.now in
    sym (ap facts_of (none_named s.binders.items s.names.keys s.groups.items s.grouped c.args.name (sym c.in-None.ensures.found)))
