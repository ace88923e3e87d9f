use Rattle.std.proofs.Common.{◌∙◌, ap, length, map, subst}
use Rattle.std.specs.Prelude.{Result, Ok, Err, IfOk}
use Rattle.wesl_tree_syntax.specs.View.{directive_view}
use Rattle.wesl_scope_occurrences.specs.Collected.{nothing}
use Rattle.wesl_scope_occurrences.specs.Events.{events_in}
use Rattle.wesl_scope_occurrences.specs.Shown.{Collects}
use Rattle.wesl_scope_occurrences.specs.Views.{here_view}
use Rattle.wesl_scope_occurrences.specs.declared.occurrence.Occurrence.{Occurrence}
use Rattle.wesl_scope_occurrences.proofs.Module.{words_collected}
use Rattle.wesl_scope_occurrences.proofs.whole.words_of.Goals as goal

if_ok : {X E : Type 0} {P Q : X → Type 0} (r : Result X E) → ((x : X) → P x → Q x) → IfOk r P → IfOk r Q
if_ok (Ok x) f h = f x h
if_ok (Err e) f h = tt

pub returns : goal.returns
returns c =
    let walk = c.directive.new.self in
    let k = c.if-walk.false in
    let h = here_view c.outermost.result in
    let q = length c.new-walk.result.outer.items in
    let told = subst (λ z. Collects (events_in h q (directive_view c.args.directive.now.node)) z walk.handler) c.new-walk.ensures.handler (c.directive.ensures.steps.told k) in
    let shown = told.shown c.if-walk-2.false nothing c.new.ensures in
    let one = ap length (c.new-walk.ensures.outer (c.directive.ensures.steps.noted k)) in
    if_ok c.idents.result
    (λ found e. e ∙ (ap (map (λ (o : Occurrence). o.ident.0)) c.deref.ensures.value ∙ words_collected h q walk.handler.found.items c.args.directive.now one shown.found))
    c.idents.ensures
