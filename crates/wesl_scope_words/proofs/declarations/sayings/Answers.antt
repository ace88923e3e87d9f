use Rattle.std.proofs.Common.{◌++◌, ◌∙◌, ap, sym}
use Rattle.std.specs.Prelude.{Result, Ok, Err, IfOk}
use Rattle.wesl_tree.specs.Translation.{unit_view}
use Rattle.wesl_tree_syntax.specs.Unit.{trees_of}
use Rattle.wesl_scope_words.specs.Said.{sayings}
use Rattle.wesl_scope_words.proofs.Attributes.{directives_quiet}
use Rattle.wesl_scope_words.proofs.Steps.{beside, beyond, viewed}
use Rattle.wesl_scope_words.proofs.declarations.sayings.Goals as goal

of_ok : {A E : Type 0} {P Q : A → Type 0} (r : Result A E) → ((x : A) → P x → Q x) → IfOk r P → IfOk r Q
of_ok (Ok x) f p = f x p
of_ok (Err e) f p = p

pub returns : goal.returns
returns c =
    let u = unit_view c.args.unit.now in
    let walked = beside (viewed (sym c.imports.ensures.imports) c.in_imports.ensures) (beyond u.directives (directives_quiet c.args.unit.now.directives) (viewed (sym c.global_declarations.ensures.declarations) c.in_declarations.ensures)) in
    of_ok c.end.result (λ said e. e.1 ∙ ((walked.added e.0).1 ∙ ap (λ l. l ++ sayings (trees_of u)) c.new-names.ensures.none)) c.end.ensures
