use Rattle.std.proofs.Common.{List, subst, sym, refl}
use Rattle.wesl_link_symbols.specs.declared.ids.PathId.{PathId}
use Rattle.wesl_tree_base.specs.declared.ids.NameId.{NameId}
use Rattle.wesl_link_symbols.specs.Tables.{Table}
use Rattle.wesl_link_reach.specs.Keeping.{IsKept}
use Rattle.wesl_link_reach.proofs.Turns.{kept_by, linked_by}
use Rattle.wesl_link_reach.proofs.link.link.Goals as goal

pub invariant_of-result : goal.invariant_of-result
invariant_of-result g c =
    let all = c.in_ok-tables.ensures in
    subst (λ (ts : List (Table PathId NameId)). IsKept ts c.in_ok-reach.reach.loaded.symbols.keys c.in_ok-reach.reach.loaded.answers.entries) (sym all)
    (kept_by c.args.request c.in_ok-reach.reach.loaded c.in_ok-reach.ensures.sound c.in_ok-reach.ensures.modules c.in_ok-reach.ensures.symbols)

pub returns-clause-linked : goal.returns-clause-linked
returns-clause-linked g c =
    let all = c.in_ok-tables.ensures in
    linked_by (g.L.Loader.refuses c.reach_all.new.loader) c.args.request c.in_ok-reach.reach.loaded _ c.in_ok-reach.ensures.sound c.in_ok-reach.ensures.kept c.in_ok-reach.ensures.modules c.in_ok-reach.ensures.symbols
    all refl c.in_ok-reach.ensures.turns
