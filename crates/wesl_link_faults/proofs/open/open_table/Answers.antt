use Rattle.std.proofs.Common.{◌<◌, rules, subst, sym, ◌∙◌}
use Rattle.wesl_link_symbols.specs.declared.ids.PathId.{PathId}
use Rattle.wesl_link_faults.specs.Opened.{IsOpened}
use Rattle.wesl_link_faults.specs.Opening.{opened_in}
use Rattle.wesl_link_faults.proofs.Opening.{begins_with, loaded_start, opens}
use Rattle.wesl_link_faults.proofs.open.open_table.Goals as goal

pub load_all-requires : goal.load_all-requires
load_all-requires g c =
    let some : 0 < c.args.max_modules = search rules in
    record { sound = loaded_start _ _ c.args.root c.path.ensures (sym c.is_crowded.ensures ∙ c.if-is_crowded.false) c.requires some c.in_ok-loaded.ensures }

pub returns-clause-opened : goal.returns-clause-opened
returns-clause-opened g c =
    subst (λ (p : PathId). IsOpened (g.L.Loader.hands c.load_all.new.loader) (g.L.Loader.refuses c.load_all.new.loader) c.args.root (record { root = p; kept = c.args.kept.items; is_eager = c.args.is_eager })
    c.args.max_modules (opened_in c.args.max_modules c.in_ok-opened.opened)) c.path.ensures
    (opens (g.L.Loader.hands c.load_all.new.loader) (g.L.Loader.refuses c.load_all.new.loader) (g.L.Loader.ready c.load_all.new.loader) _ c.load_all.new.loaded c.in_ok-found.found c.in_ok-opened.opened
    c.in_ok-found.ensures.sound c.in_ok-found.ensures.found c.in_ok-found.ensures.there c.in_ok-opened.ensures c.args.root
    (begins_with _ _ _ c.args.root c.in_ok-found.ensures.sound.root c.in_ok-loaded.ensures.tables c.in_ok-found.ensures.on c.in_ok-found.ensures.sound.root_first))
