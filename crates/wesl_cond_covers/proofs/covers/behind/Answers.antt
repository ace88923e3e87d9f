use Rattle.std.proofs.Common.{◌≤◌, ◌+◌, ◌-◌, option_copied, Contains, List, arith, sym, subst}
use Rattle.std.proofs.lemmas.List.Elements.{Contains-get_or}
use Rattle.wesl_cond_covers.specs.declared.level.Level.{Level}
use Rattle.wesl_cond_covers.proofs.Passes.{pass_level}
use Rattle.wesl_cond_covers.proofs.covers.behind.Goals as goal

pub returns-then-passes-clause-apart : goal.returns-then-passes-clause-apart
returns-then-passes-clause-apart c =
    let levels : List Level = c.args.levels.now in
    let l : Level = c.index-levels-i.result in
    let there : Contains levels l = subst (Contains levels) (sym c.index-levels-i.is) (Contains-get_or levels (c.levels.i - 1) l (omega (arith, c.levels.invariant))) in
    let within : c.saturating_add.result ≤ c.args.index + l.span = omega (arith, c.saturating_add.ensures) in
    pass_level levels l (option_copied c.args.set) c.args.index c.saturating_add.result (c.args.index + l.span) there (c.passes.ensures c.if-passes.true) within
