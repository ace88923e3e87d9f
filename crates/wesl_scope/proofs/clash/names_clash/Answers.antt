use Rattle.std.proofs.Common.{◌≡◌, ◌∙◌, ap, sym}
use Rattle.std.specs.Prelude.{◌&&◌}
use Rattle.wesl_tree.specs.Translation.{unit_view}
use Rattle.wesl_scope.proofs.Faithless.{no_clash}
use Rattle.wesl_scope.proofs.clash.names_clash.Goals.{then-read, else-read}
use Rattle.wesl_scope.proofs.clash.names_clash.Goals as goal

pub returns-clause-exact : goal.returns-clause-exact
returns-clause-exact c =
    let s = c.in_ok-read.read.are_names_apart in
    let t = c.in_ok-read.read.are_references_right in
    let both : c.if-read.result ≡ (s && t) = elim c.if-read.branch [
      | then-read w ↦ w.result-is ∙ ap (λ x. x && t) (sym w.if-read.true)
      | else-read w ↦ w.result-is ∙ (w.if-read.false ∙ ap (λ x. x && t) (sym w.if-read.false))
    ] in
    no_clash c.if-read.result s t _ _ both c.in_ok-read.ensures.apart c.in_ok-read.ensures.right (c.law_of_faith.ensures.test (unit_view c.args.unit.now))
