use Rattle.std.proofs.Common.{◌++◌, length, ◌∙◌, ap, sym}
use Rattle.std.specs.Prelude.{Result, Ok, Err, IfOk}
use Rattle.wesl_tree.specs.Translation.{unit_view}
use Rattle.wesl_tree_syntax.specs.Unit.{trees_of}
use Rattle.wesl_scope_spans.specs.Spans.{nowhere, spans}
use Rattle.wesl_scope_spans.proofs.Counted.{same_length}
use Rattle.wesl_scope_spans.proofs.Steps.{beside, viewed}
use Rattle.wesl_scope_spans.proofs.whole.identifier_spans.Goals as goal

of_ok : {A E : Type 0} {P Q : A → Type 0} (r : Result A E) → ((x : A) → P x → Q x) → IfOk r P → IfOk r Q
of_ok (Ok x) f p = f x p
of_ok (Err e) f p = p

pub returns-clause-innermost : goal.returns-clause-innermost
returns-clause-innermost c =
    let u = trees_of (unit_view c.args.unit.now) in
    let walked = beside (viewed (sym c.imports.ensures.imports) (c.in_imports.ensures nowhere)) (beside (viewed (sym c.global_directives.ensures.directives) (c.in_directives.ensures nowhere)) (viewed (sym c.global_declarations.ensures.declarations) (c.in_declarations.ensures nowhere))) in
    of_ok c.end.result (λ found e. e.1 ∙ ((walked.gains.added e.0).1 ∙ ap (λ l. l ++ spans u) c.new-places.ensures.none)) c.end.ensures

pub returns-clause-in_step : goal.returns-clause-in_step
returns-clause-in_step c = of_ok c.end.result (λ found e. ap length e ∙ same_length (trees_of (unit_view c.args.unit.now))) (returns-clause-innermost c)
