use Rattle.std.proofs.Common.{◌∙◌, ap, map}
use Rattle.wesl_tree_names.specs.Path.{path_view}
use Rattle.wesl_tree.specs.Translation.{unit_view}
use Rattle.wesl_scope_meanings.proofs.Meant.{meant, senses_named, spelled_still}
use Rattle.wesl_scope_meanings.proofs.whole.meanings_of.Goals as goal

pub keys-requires : goal.keys-requires
keys-requires c =
    senses_named (unit_view c.args.unit.now) c.in_ok-reader.reader c.in_ok-read.read.handler c.names.result.now c.names-2.result.now c.names.ensures.names c.in_ok-reader.ensures c.in_ok-read.ensures.told
    c.if-reader.false c.if-reader-2.false c.in_ok-read.ensures.named c.names-2.ensures.names

pub returns-clause-keys : goal.returns-clause-keys
returns-clause-keys c =
    let r = c.in_ok-read.read in
    (meant c.law_of_ways.ensures c.law_of_occurrences.ensures.spelling c.law_of_events.ensures (unit_view c.args.unit.now) r.found.outer.items r.found.all.items c.in_ok-reader.reader r.handler
    (map (λ p. path_view p.now) c.deref.result.now) c.in_ok-keys.keys.items c.names.result.now c.names-2.result.now
    (c.law_of_open_binders.ensures.meanings c.args.unit.now) c.names.ensures.names c.in_ok-reader.ensures c.in_ok-read.ensures.told c.if-reader.false c.if-reader-2.false c.in_ok-read.ensures.named
    c.in_ok-read.ensures.nested c.in_ok-read.ensures.blocks c.in_ok-read.ensures.all (ap (map (λ p. path_view p.now)) c.deref.ensures.value ∙ c.in_ok-read.ensures.paths) c.names-2.ensures.names c.in_ok-keys.ensures).are

pub returns-clause-below : goal.returns-clause-below
returns-clause-below c =
    let r = c.in_ok-read.read in
    (meant c.law_of_ways.ensures c.law_of_occurrences.ensures.spelling c.law_of_events.ensures (unit_view c.args.unit.now) r.found.outer.items r.found.all.items c.in_ok-reader.reader r.handler
    (map (λ p. path_view p.now) c.deref.result.now) c.in_ok-keys.keys.items c.names.result.now c.names-2.result.now
    (c.law_of_open_binders.ensures.meanings c.args.unit.now) c.names.ensures.names c.in_ok-reader.ensures c.in_ok-read.ensures.told c.if-reader.false c.if-reader-2.false c.in_ok-read.ensures.named
    c.in_ok-read.ensures.nested c.in_ok-read.ensures.blocks c.in_ok-read.ensures.all (ap (map (λ p. path_view p.now)) c.deref.ensures.value ∙ c.in_ok-read.ensures.paths) c.names-2.ensures.names c.in_ok-keys.ensures).below

pub returns-clause-spelled : goal.returns-clause-spelled
returns-clause-spelled c =
    spelled_still (unit_view c.args.unit.now) c.in_ok-reader.reader c.in_ok-read.read.handler c.names.result.now c.len-spellings.result c.names.ensures.names c.in_ok-reader.ensures c.in_ok-read.ensures.told
    c.if-reader.false c.if-reader-2.false c.in_ok-read.ensures.named (c.len-spellings.ensures ∙ c.in_ok-read.read.handler.declared.ok.0)
