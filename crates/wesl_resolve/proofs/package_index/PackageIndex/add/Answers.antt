use Rattle.std.proofs.Common.{sym, ◌∙◌}
use Rattle.wesl_resolve.proofs.Placing.{is-first}
use Rattle.wesl_resolve.proofs.package_index.PackageIndex.add.Goals as goal

pub returns-then-not-has_slash-clause-noted : goal.returns-then-not-has_slash-clause-noted
returns-then-not-has_slash-clause-noted c = λ k at found noted.
    c.note_package.ensures c.args.packages.now.items (is-first c.args.packages.now.items c.args.number k c.in-Some.«package».now c.as_str.result.now c.in-Some.ensures at found (sym c.has_slash.ensures ∙ c.if-not-has_slash.true) c.as_str.ensures.value) noted
