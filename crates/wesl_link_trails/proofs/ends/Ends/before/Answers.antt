use Rattle.std.proofs.Common.{◌≡◌, Contains, subst, rules}
use Rattle.wesl_link_symbols.specs.declared.ids.PathId.{PathId}
use Rattle.wesl_tree_base.specs.declared.ids.NameId.{NameId}
use Rattle.wesl_link_symbols.specs.declared.symbols.Symbol.{Symbol}
use Rattle.wesl_link_trails.proofs.ends.Ends.before.Goals as goal

pub returns-in-Some : goal.returns-in-Some
returns-in-Some g c =
    let same : c.in-Some.found.asked ≡ c.args.question = search rules in (
      c.in-Some.found.until,
      search rules,
      subst (λ (q : Symbol PathId NameId). Contains c.args.self.now.kept.entries (c.args.next, record { asked = q; end = c.in-Some.found.end; until = c.in-Some.found.until })) same c.in-Some.ensures.found,
    )
