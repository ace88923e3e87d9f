-- The slots of a unit by its parts.
use Rattle.std.proofs.Common.{◌≡◌, List, Some, [], Vec, Global, refl, ap, ◌∙◌}
use Rattle.wesl_tree_names.specs.Path.{Text}
use Rattle.wesl_tree_syntax.specs.Tree.{Tree}
use Rattle.wesl_tree_syntax.specs.Unit.{UnitView, spelled}
use Rattle.wesl_tree_syntax.specs.View.{declarations_tree, directives_tree, imports_tree}
use Rattle.wesl_tree_syntax.specs.declared.span.Spanned.{Spanned}
use Rattle.wesl_tree_syntax.specs.declared.import.ImportStatement.{ImportStatement}
use Rattle.wesl_tree_syntax.specs.declared.declaration.GlobalDeclaration.{GlobalDeclaration}
use Rattle.wesl_tree_syntax.specs.declared.declaration.GlobalDirective.{GlobalDirective}
use Rattle.wesl_text_form.specs.Productions.{a_declaration, a_directive, an_import}
use Rattle.wesl_text_form.specs.Spelling.{Slots, followed, slots}
use Rattle.wesl_text_print_statements.specs.Parts.{all_in}

abbrev view_of : List Text → Tree → Tree → Tree → UnitView
view_of ns i d g = record { names = ns; imports = i; directives = d; declarations = g }

module _ (ns : List Text) (i : Vec (Spanned ImportStatement) Global) (d : Vec (Spanned GlobalDirective) Global) (g : Vec (Spanned GlobalDeclaration) Global) where
  abbrev parts : Slots
  parts = followed (all_in ns an_import (imports_tree i).children) (followed (all_in ns a_directive (directives_tree d).children) (followed (all_in ns a_declaration (declarations_tree g).children) (Some [])))

  by_parts : parts ≡ slots (spelled (view_of ns (imports_tree i) (directives_tree d) (declarations_tree g)))
  by_parts = refl

  pub unit_printed : (u : UnitView) → ns ≡ u.names → imports_tree i ≡ u.imports → directives_tree d ≡ u.directives → declarations_tree g ≡ u.declarations → parts ≡ slots (spelled u)
  unit_printed u n e f h =
      by_parts
      ∙ ap (λ x. slots (spelled (view_of x (imports_tree i) (directives_tree d) (declarations_tree g)))) n
      ∙ ap (λ x. slots (spelled (view_of u.names x (directives_tree d) (declarations_tree g)))) e
      ∙ ap (λ x. slots (spelled (view_of u.names u.imports x (declarations_tree g)))) f
      ∙ ap (λ x. slots (spelled (view_of u.names u.imports u.directives x))) h
