use Rattle.std.proofs.Common.{◌≡◌, sym, subst}
use Rattle.wesl_source_map_entries.specs.Records.{SameItems}
use Rattle.wesl_source_map.specs.BasicView.{items, sources, default_text}
use Rattle.wesl_source_map.specs.Recording.{GainsSources}
use Rattle.wesl_link.proofs.mapped.found.Goals as goal

pub returns-in-Ok-clause-decls : goal.returns-in-Ok-clause-decls
returns-in-Ok-clause-decls g c = subst (λ m. SameItems g.S.Start.items (items m)) (sym c.without_resolver.ensures.record) c.link_at.ensures.stays_ready.1.decls

pub returns-in-Ok-clause-sources : goal.returns-in-Ok-clause-sources
returns-in-Ok-clause-sources g c =
    subst (λ m. GainsSources g.S.Start.sources g.S.Start.gives g.S.Start.shows (sources m)) (sym c.without_resolver.ensures.record) c.link_at.ensures.stays_ready.1.modules

pub returns-in-Ok-clause-default : goal.returns-in-Ok-clause-default
returns-in-Ok-clause-default g c = subst (λ m. default_text m ≡ g.S.Start.default) (sym c.without_resolver.ensures.record) c.link_at.ensures.stays_ready.1.default
