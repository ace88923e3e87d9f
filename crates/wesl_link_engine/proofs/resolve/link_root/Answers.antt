use Rattle.std.proofs.Common.{◌≡◌, Bool, false, refl, sym, subst, ◌∙◌}
use Rattle.std.proofs.lemmas.Result.{IfOk-weaker, IfErr-weaker}
use Rattle.wesl_link_engine.specs.Asking.{request_view, kept_of}
use Rattle.wesl_tree_names.specs.Path.{is_relative}
use Rattle.wesl_link_engine.specs.Refusal.{TellsFault}
use Rattle.wesl_link_engine.specs.Resolved.{module_at}
use Rattle.wesl_link_engine.specs.Keeping.{modules_of, turns_of}
use Rattle.wesl_link_engine.specs.Worlds.{Module, task_of, IsLinked, IsModuleOrder, IsRefused}
use Rattle.wesl_link_engine.proofs.Readying.{means_itself, means_on}
use Rattle.wesl_link_engine.proofs.resolve.link_root.Goals as goal

pub reach_modules-requires-clause-asked : goal.reach_modules-requires-clause-asked
reach_modules-requires-clause-asked g c = subst (λ (m : Module). is_relative m.path ≡ false) (sym c.in-Some.ensures.module) c.requires.asked

pub reach_modules-requires-clause-kept : goal.reach_modules-requires-clause-kept
reach_modules-requires-clause-kept g c = (kept_of (request_view c.args.request.now), c.in-Some.ensures.kept)

pub returns-clause-linked : goal.returns-clause-linked
returns-clause-linked g c =
    let hands = g.R.Resolver.hands c.args.resolver.now in
    let refuses = g.R.Resolver.refuses c.args.resolver.now in
    let keep = kept_of (request_view c.args.request.now) in
    let old = c.in-Some.tabled.root in
    let rm = module_at c.args.request.now.root.now c.args.unit in
    IfOk-weaker c.reach_modules.result _ _ (λ r h.
    subst (λ (b : Bool). IsLinked hands refuses rm (task_of rm keep b) c.args.request.now.max_modules (turns_of r) (modules_of r)) c.in-Some.ensures.eager
    (subst (λ (m : Module). IsLinked hands refuses m (task_of m keep old.is_eager) c.args.request.now.max_modules (turns_of r) (modules_of r)) c.in-Some.ensures.module
    (h.linked keep c.in-Some.ensures.kept))) c.reach_modules.ensures.reached

pub returns-clause-order : goal.returns-clause-order
returns-clause-order g c = IfOk-weaker c.reach_modules.result _ _ (λ r h. subst (λ (m : Module). IsModuleOrder m (modules_of r)) c.in-Some.ensures.module h.order) c.reach_modules.ensures.reached

pub returns-clause-kept : goal.returns-clause-kept
returns-clause-kept g c = IfOk-weaker c.reach_modules.result _ _ (λ r h. h.kept (kept_of (request_view c.args.request.now)) c.in-Some.ensures.kept) c.reach_modules.ensures.reached

pub returns-clause-eager : goal.returns-clause-eager
returns-clause-eager g c = IfOk-weaker c.reach_modules.result _ _ (λ r h. h.eager ∙ c.in-Some.ensures.eager) c.reach_modules.ensures.reached

pub returns-clause-refused : goal.returns-clause-refused
returns-clause-refused g c =
    let hands = g.R.Resolver.hands c.args.resolver.now in
    let refuses = g.R.Resolver.refuses c.args.resolver.now in
    let keep = kept_of (request_view c.args.request.now) in
    let old = c.in-Some.tabled.root in
    let rm = module_at c.args.request.now.root.now c.args.unit in
    IfErr-weaker c.reach_modules.result _ _ (λ d h.
    subst (λ (b : Bool). TellsFault (IsRefused hands refuses rm (task_of rm keep b) c.args.request.now.max_modules) d) c.in-Some.ensures.eager
    (subst (λ (m : Module). TellsFault (IsRefused hands refuses m (task_of m keep old.is_eager) c.args.request.now.max_modules) d) c.in-Some.ensures.module h))
    (c.reach_modules.ensures.refused keep c.in-Some.ensures.kept)

pub returns-clause-sound : goal.returns-clause-sound
returns-clause-sound g c = IfOk-weaker c.reach_modules.result _ _ (λ r h. h.sound) c.reach_modules.ensures.reached

pub returns-clause-names : goal.returns-clause-names
returns-clause-names g c = IfOk-weaker c.reach_modules.result _ _ (λ r h. h.names) c.reach_modules.ensures.reached

pub reach_modules-requires-clause-stays : goal.reach_modules-requires-clause-stays
reach_modules-requires-clause-stays g c =
    let hands = g.R.Resolver.hands in
    let refuses = g.R.Resolver.refuses in
    let source = g.R.Resolver.source in
    let lacks = g.R.Resolver.lacks in
    let shown = g.R.Resolver.shown in
    record { here = means_itself hands refuses source lacks shown c.args.resolver.now; on = λ a b m n. means_on hands refuses source lacks shown c.args.resolver.now a b m n; held = refl }
