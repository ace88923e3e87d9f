use Rattle.wesl_validate_builtins.proofs.Strings.{kept_next}
use Rattle.wesl_validate_builtins.proofs.builtins.keep_all.Goals as goal

pub loop-name-preserved : goal.loop-name-preserved
loop-name-preserved c = λ before kept n.
    kept_next before c.deref-name-items.result.now c.args.names.now.items c.deref-name-items.ensures.value c.loop-name.name-index c.name-item.result c.as_str.result.now n.now _ _ c.loop-name-test.true c.name-item.is c.as_str.ensures.value (c.loop-name.invariant before kept n) (c.in_ok-insert.ensures.updates.0 n)
