-- The slots of declarations, in the order in which they are printed.
use Rattle.std.proofs.Common.{◌≡◌, List, [], ◌∷◌, true, not, ◌&&◌, if◌then◌else◌, Option, Some, None, Vec, Global, string_bytes, codes, length, ◌<◌, arith, map, refl, sym, ap, ◌∙◌}
use Rattle.wesl_tree_names.specs.Path.{Text}
use Rattle.wesl_tree_syntax.specs.Tree.{attribute_node, attributes, branch, let_kind, member_node}
use Rattle.wesl_tree_syntax.specs.Unit.{name_in}
use Rattle.wesl_tree_syntax.specs.View.{attribute_view, attributes_tree, compound_view, declaration_view, function_view, member_view, optional as optional_tree, parameter_view, placed, type_view}
use Rattle.wesl_tree_syntax.specs.declared.span.Spanned.{Spanned}
use Rattle.wesl_tree_syntax.specs.declared.attribute.Attribute.{Attribute}
use Rattle.wesl_tree_syntax.specs.declared.expression.TypeExpression.{TypeExpression}
use Rattle.wesl_tree_syntax.specs.declared.declaration.Declaration.{Declaration}
use Rattle.wesl_tree_syntax.specs.declared.declaration.FormalParameter.{FormalParameter}
use Rattle.wesl_tree_syntax.specs.declared.declaration.Function.{Function}
use Rattle.wesl_tree_syntax.specs.declared.declaration.StructMember.{StructMember}
use Rattle.wesl_tree_syntax.specs.declared.statement.CompoundStatement.{CompoundStatement}
use Rattle.wesl_text_tokens.specs.declared.symbol.Symbol.TheVariants as is
use Rattle.wesl_text_form.specs.Productions.{a_bare_declaration, a_bare_member, a_body, a_member, a_parameter, a_type, nothing, sym as sign, own, optional, arrow, attrs}
use Rattle.wesl_text_form.specs.Spelling.{Slots, followed, is_end, is_kind, named, signed}
use Rattle.wesl_text_print.specs.Printing.{comma_slots, name_slots, only_if, slots_in}
use Rattle.wesl_text_print.proofs.Adding.{followed_twice, nothing_behind, shows, shows_before, shows_behind}
use Rattle.wesl_text_print_statements.specs.Parts.{attributes_slots, row_below, row_in}
use Rattle.wesl_text_operands.specs.Targets.{spelled_attributes}
use Rattle.wesl_text_print_statements.specs.Variables.{has_what_it_needs, kind_label, unended_in, variable_slots}
use Rattle.wesl_text_print_statements.proofs.Variables.{ended_is, ending, label_named, row_with, stands_ended, unended_is}
use Rattle.wesl_text_print_unit.specs.Units.{declared_slots, result_slots}

module _ (names : List Text) where
  abbrev type_at : TypeExpression → Slots
  type_at t = slots_in names a_type (type_view t)

  abbrev attrs_of : Vec (Spanned Attribute) Global → Slots
  attrs_of a = attributes_slots names a

  -- ---- variables and values

  global_ended : (d : Declaration) → followed (only_if (not (is_kind let_kind (kind_label d.kind))) (variable_slots names d)) ending ≡ slots_in names a_bare_declaration (declaration_view d)
  global_ended d =
      stands_ended names d (not (is_kind let_kind (kind_label d.kind)))
      ∙ ap (λ l. if has_what_it_needs names d && not (is_kind let_kind l) then row_below names (row_with names (sign is.Semicolon nothing)) (declaration_view d) else None) (label_named names d.kind)

  pub global_printed : (d : Declaration) → only_if (not (is_kind let_kind (kind_label d.kind))) (variable_slots names d) ≡ unended_in names a_bare_declaration (declaration_view d)
  global_printed d = unended_is names a_bare_declaration (declaration_view d) _ (global_ended d)

  pub whole_global : (d : Declaration) → followed (unended_in names a_bare_declaration (declaration_view d)) ending ≡ slots_in names a_bare_declaration (declaration_view d)
  whole_global d = ended_is names a_bare_declaration (declaration_view d) _ (global_ended d)

  -- ---- members and parameters

  pub type_ends : (a n : Slots) (t : TypeExpression) → followed a (followed n (declared_slots names t)) ≡ followed a (followed n (followed (Some (signed is.Colon ∷ [])) (followed (type_at t) (Some []))))
  type_ends a n t = ap (λ r. followed a (followed n (followed (Some (signed is.Colon ∷ [])) r))) (sym (nothing_behind (type_at t)))

  typed_shows : (a n : Slots) (t : TypeExpression) → shows (followed a (followed n (followed (Some (signed is.Colon ∷ [])) (followed (type_at t) (Some []))))) ≡ true
  typed_shows a n t = shows_behind a _ (shows_behind n _ (shows_before (Some (signed is.Colon ∷ [])) (followed (type_at t) (Some [])) refl))

  pub member_shows : (m : Spanned StructMember) → shows (slots_in names a_member (placed member_view member_node m)) ≡ true
  member_shows m = shows_before (slots_in names a_bare_member (member_view m.node)) (Some []) (typed_shows (attrs_of m.node.attributes) (name_slots (string_bytes m.node.name)) m.node.ty)

  pub parameter_shows : (p : FormalParameter) → shows (slots_in names a_parameter (parameter_view p)) ≡ true
  parameter_shows p = typed_shows (attrs_of p.attributes) (name_slots (name_in names p.ident.0)) p.ty

  -- ---- functions

  pub no_place : (xs : List (Spanned Attribute)) → 0 < length xs → None ≡ only_if (is_end (spelled_attributes [] xs)) (Some [])
  no_place [] some = absurd (omega arith)
  no_place (x ∷ xs) some = refl

  abbrev body : CompoundStatement → Slots
  body b = slots_in names a_body (compound_view b)

  no_result : (xs : List (Spanned Attribute)) (b : CompoundStatement)
      → followed (only_if (is_end (spelled_attributes [] xs)) (Some [])) (followed (body b) (Some []))
      ≡ row_in names (arrow (attrs (optional (own a_type nothing) (own a_body nothing)))) (branch attributes (map (placed attribute_view attribute_node) xs) ∷ optional_tree type_view None ∷ compound_view b ∷ [])
  no_result [] b = refl
  no_result (x ∷ xs) b = refl

  result_then : (a : Vec (Spanned Attribute) Global) (o : Option TypeExpression) (b : CompoundStatement)
      → followed (result_slots names a o) (followed (body b) (Some []))
      ≡ row_in names (arrow (attrs (optional (own a_type nothing) (own a_body nothing)))) (attributes_tree a ∷ optional_tree type_view o ∷ compound_view b ∷ [])
  result_then a None b = no_result a.items b
  result_then a (Some t) b =
      followed_twice (Some (signed is.Arrow ∷ [])) (followed (attrs_of a) (type_at t)) (followed (body b) (Some []))
      ∙ ap (followed (Some (signed is.Arrow ∷ []))) (followed_twice (attrs_of a) (type_at t) (followed (body b) (Some [])))
      ∙ ap (λ r. followed (Some (signed is.Arrow ∷ [])) (followed (attrs_of a) (followed r (followed (body b) (Some []))))) (sym (nothing_behind (type_at t)))

  pub function_printed : (f : Function)
      → followed (attrs_of f.attributes) (followed (Some (named (codes "fn") ∷ [])) (followed (name_slots (name_in names f.ident.0)) (followed (Some (signed is.ParenLeft ∷ []))
      (followed (comma_slots names a_parameter (map parameter_view f.parameters.items)) (followed (Some (signed is.ParenRight ∷ [])) (followed (result_slots names f.return_attributes f.return_type) (followed (body f.body) (Some []))))))))
      ≡ slots_in names a_bare_declaration (function_view f)
  function_printed f =
      ap (λ r. followed (attrs_of f.attributes) (followed (Some (named (codes "fn") ∷ [])) (followed (name_slots (name_in names f.ident.0)) (followed (Some (signed is.ParenLeft ∷ [])) (followed (comma_slots names a_parameter (map parameter_view f.parameters.items)) (followed (Some (signed is.ParenRight ∷ [])) r))))))
      (result_then f.return_attributes f.return_type f.body)
