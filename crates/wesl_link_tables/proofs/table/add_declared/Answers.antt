use Rattle.std.proofs.Common.{◌≡◌, ◌∙◌, ap, sym, arith, ◌+◌, ◌++◌, get_or, take, None}
use Rattle.wesl_link_tables.specs.Split.{declared_from, declares_as}
use Rattle.wesl_link_tables.proofs.Alike.{declared_next}
use Rattle.wesl_link_tables.proofs.table.add_declared.Goals as goal
use Rattle.wesl_link_split.proofs.Lists.{taken_all}
use Rattle.wesl_link_split.proofs.Orders.{itself}

pub loop-i-preserved : goal.loop-i-preserved
loop-i-preserved c =
    let own = c.args.own in
    let names = c.args.names.now in
    let i = c.loop-i.i in
    let name = get_or names i None in
    let number : 0 + i ≡ i = omega arith in
    c.in_ok-add_own.ensures
    ∙ (ap (λ l. l ++ declares_as own i name) c.loop-i.invariant
    ∙ (ap (λ k. declared_from own 0 (take i names) ++ declares_as own k name) (sym number) ∙ sym (declared_next own 0 names i name c.loop-i-test.true (itself names i None c.loop-i-test.true))))

pub returns : goal.returns
returns c = c.loop-i.invariant ∙ ap (declared_from c.args.own 0) (taken_all c.args.names.now c.loop-i.i c.loop-i-test.false)
