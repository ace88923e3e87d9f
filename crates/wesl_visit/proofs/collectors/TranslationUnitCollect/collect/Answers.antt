use Rattle.std.proofs.Common.{refl, sym}
use Rattle.wesl_tree_syntax.specs.Tree.{kind, unit}
use Rattle.wesl_visit_collect.proofs.Adds.{beside, inside, viewed}
use Rattle.wesl_visit_collect.proofs.Ends.{listed_below}
use Rattle.wesl_visit_rewrite.specs.Holders.{unit_tree}
use Rattle.wesl_tree.specs.Translation.{unit_view}
use Rattle.wesl_visit.proofs.collectors.TranslationUnitCollect.collect.Goals as goal

pub returns-clause-listed : goal.returns-clause-listed
returns-clause-listed g c =
    listed_below (unit_tree (unit_view c.args.self.now)) c.end.result refl c.new-found.ensures (inside (kind unit) refl (λ f. refl) (beside (viewed (sym c.imports.ensures.imports) c.in_imports.ensures)
    (beside (viewed (sym c.global_directives.ensures.directives) c.in_directives.ensures) (viewed (sym c.global_declarations.ensures.declarations) c.in_declarations.ensures)))) c.end.ensures.listed
