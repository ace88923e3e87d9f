use Rattle.std.proofs.Common.{◌≡◌, false, ◌∙◌}
use Rattle.wesl_tree.specs.Parts.{parts_view}
use Rattle.wesl_tree.specs.Translation.{unit_view}
use Rattle.wesl_tree.proofs.Clones.{is_made, same_parts, told_same}
use Rattle.wesl_tree.proofs.unit.TranslationUnit.try_clone.Goals as goal

pub returns-in-Some-clause-equal : goal.returns-in-Some-clause-equal
returns-in-Some-clause-equal c =
    let v = unit_view c.args.self.now in
    let parts = parts_view c.in_ok-names.names c.imports-imports.result c.directives-directives.result c.globals-declarations.result in
    let same : c.globals-declarations.new.self.is_refused ≡ false → parts ≡ v =
    same_parts v c.in_ok-names.names (c.in_ok-names.ensures.equal ∙ c.names.ensures.names) c.imports.ensures.imports c.global_directives.ensures.directives c.global_declarations.ensures.declarations
    c.of-copying.ensures.keeps c.imports-imports.ensures c.directives-directives.ensures c.globals-declarations.ensures in
    told_same v parts c.from_parts.result c.in-Some.unit _ c.unless_refused.result same c.in-Some.is c.from_parts.ensures c.unless_refused.ensures.given c.unless_refused.ensures.noted

pub prove-unreachable-requires : goal.prove-unreachable-requires
prove-unreachable-requires c =
    let v = unit_view c.args.self.now in
    let parts = parts_view c.in_ok-names.names c.imports-imports.result c.directives-directives.result c.globals-declarations.result in
    let same : parts ≡ v =
    same_parts v c.in_ok-names.names (c.in_ok-names.ensures.equal ∙ c.names.ensures.names) c.imports.ensures.imports c.global_directives.ensures.directives c.global_declarations.ensures.declarations
    c.of-copying.ensures.keeps c.imports-imports.ensures c.directives-directives.ensures c.globals-declarations.ensures c.if-prove.true in
    is_made v parts c.from_parts.result c.names.ensures.below same c.in-None.is c.from_parts.ensures
