use Rattle.std.proofs.Common.{inl, inr, refl, subst}
use Rattle.wesl_tree_names.specs.Errors.{IsBare}
use Rattle.wesl_link_engine.specs.Asking.{request_view, task_for}
use Rattle.wesl_link_engine.specs.Keeping.{modules_of, turns_of}
use Rattle.wesl_link_engine.specs.Linking.{asked_root}
use Rattle.wesl_link.proofs.Along.{AreAlike, linked-over, refused-over}
use Rattle.wesl_link.proofs.conditional.link_at.Goals as goal

pub returns-in-Ok-link_root-clause-linked : goal.returns-in-Ok-link_root-clause-linked
returns-in-Ok-link_root-clause-linked g c =
    let new = c.resolve_module.new.self in
    let q = request_view c.args.request.now in
    let root = asked_root q c.in-Ok.unit in
    let alike : AreAlike (g.R.Resolver.hands new) (g.R.Resolver.hands c.args.resolver.now) (g.R.Resolver.refuses new) (g.R.Resolver.refuses c.args.resolver.now) =
    record { to = λ p u. (c.resolve_module.ensures.same.units p u).0; on = λ p e. (c.resolve_module.ensures.same.faults p e).0; back = λ p e. (c.resolve_module.ensures.same.faults p e).1 } in
    let r = c.in-Ok-link_root.found in
    (root, (refl, c.in-Ok.ensures.handed), linked-over _ _ _ _ alike root (task_for q) c.args.request.now.max_modules (turns_of r) (modules_of r) c.in-Ok-link_root.ensures.linked, c.in-Ok-link_root.ensures.order)

pub returns-in-Err-link_root-clause-refused : goal.returns-in-Err-link_root-clause-refused
returns-in-Err-link_root-clause-refused g c =
    let new = c.resolve_module.new.self in
    let q = request_view c.args.request.now in
    let root = asked_root q c.in-Ok.unit in
    let alike : AreAlike (g.R.Resolver.hands new) (g.R.Resolver.hands c.args.resolver.now) (g.R.Resolver.refuses new) (g.R.Resolver.refuses c.args.resolver.now) =
    record { to = λ p u. (c.resolve_module.ensures.same.units p u).0; on = λ p e. (c.resolve_module.ensures.same.faults p e).0; back = λ p e. (c.resolve_module.ensures.same.faults p e).1 } in
    inr (root, (refl, c.in-Ok.ensures.handed), refused-over _ _ _ _ alike root (task_for q) c.args.request.now.max_modules c.in-Err-link_root.diagnostic c.in-Err-link_root.ensures.refused)

pub returns-in-Err-clause-refused : goal.returns-in-Err-clause-refused
returns-in-Err-clause-refused g c = inl (c.in-Err.fault, c.in-Err.ensures.refused, subst (λ e. IsBare e c.of.result) c.of_resolve.ensures c.of.ensures)
