-- Declarations fit their form.
use Rattle.std.proofs.Common.{ℕ, Bool, List, [], ◌∷◌, map, Option, Some, None, codes, refl, Vec, Global}
use Rattle.wesl_tree_names.specs.Path.{Text}
use Rattle.wesl_tree_names.specs.declared.names.Ident.{Ident}
use Rattle.wesl_tree_syntax.specs.Tree.{Kind, kind, ident, binder, present, space, end, tree, before, forest_of, declaration_node, statement_node, member_node, declaration, const_kind, override_kind, let_kind, var_kind, const_assert, void, type_alias, struct, member, members, parameter}
use Rattle.wesl_tree_syntax.specs.Shown.{shown_forest}
use Rattle.wesl_tree_syntax.specs.View.{attributes_tree, expression_tree, type_view, placed, optional, declaration_view, kind_tree, space_tree, access_tree, assert_view, alias_view, struct_view, member_view, parameter_view}
use Rattle.wesl_tree_syntax.specs.declared.span.Spanned.{Spanned}
use Rattle.wesl_tree_syntax.specs.declared.attribute.Attribute.{Attribute}
use Rattle.wesl_tree_syntax.specs.declared.expression.Expression.{Expression}
use Rattle.wesl_tree_syntax.specs.declared.expression.TypeExpression.{TypeExpression}
use Rattle.wesl_tree_syntax.specs.declared.declaration.AddressSpace.{AddressSpace}
use Rattle.wesl_tree_syntax.specs.declared.declaration.AccessMode.{AccessMode}
use Rattle.wesl_tree_syntax.specs.declared.declaration.DeclarationKind.{DeclarationKind}
use Rattle.wesl_tree_syntax.specs.declared.declaration.DeclarationKind.TheVariants as kinds
use Rattle.wesl_tree_syntax.specs.declared.declaration.Declaration.{Declaration}
use Rattle.wesl_tree_syntax.specs.declared.declaration.TypeAlias.{TypeAlias}
use Rattle.wesl_tree_syntax.specs.declared.declaration.StructMember.{StructMember}
use Rattle.wesl_tree_syntax.specs.declared.declaration.Struct.{Struct}
use Rattle.wesl_tree_syntax.specs.declared.declaration.FormalParameter.{FormalParameter}
use Rattle.wesl_tree_syntax.specs.declared.declaration.ConstAssert.{ConstAssert}
use Rattle.wesl_json_form.specs.Schema.{Spelled, SpelledForest, SpelledLabel, a_declaration, a_statement, a_member, a_parameter, a_type, leaf, list_of, node, fixed, Row, nothing, needs, may, many, one_of, a_name, an_ident}
use Rattle.wesl_json_form.specs.Words.{access_words}
use Rattle.wesl_json_form.specs.Nodes.{declaration_words, statement_words, declared, space_row, typed_row, attrs, operand, expression}
use Rattle.wesl_json_light.proofs.Fitting.{Fits, a_leaf, plain_node, node_at, label_shown, an_identifier, name_text, a_word, AreFits, no_more, one_more, FitsRow, all_there, needed, listed, within, nowhere, somewhere, tree_of}
use Rattle.wesl_json_light.proofs.Worded.{space_word, access_word}
use Rattle.wesl_json_light.proofs.Expressions.{worded_fits, plain_row, inner_row, chosen_by, spelled_as, node_fits, type_node_fits}
use Rattle.wesl_json_light.proofs.Attributes.{option_fits, with_attributes}

module _ (spans : Bool) (f : ℕ → Text) where
  abbrev pub attributes_of : Vec (Spanned Attribute) Global → Spelled
  attributes_of a = spelled_as spans f (attributes_tree a)

  -- the space of a variable
  space_fits : (s : Option (AddressSpace × Option AccessMode)) → FitsRow spans (kind var_kind) space_row (before (spelled_as spans f (optional space_tree s)) end)
  space_fits None = nowhere all_there
  space_fits (Some (s, a)) = somewhere (space_word s) refl (option_fits spans f access_tree (space s) (codes "access") (leaf (one_of access_words)) nothing end (λ x. a_leaf (a_word (access_word x) refl)) all_there a) all_there

  abbrev tail_row : Row
  tail_row = needs (codes "name") (leaf (an_ident binder)) (may (codes "ty") (node a_type) (may (codes "init") expression nothing))

  abbrev tail_trees : Ident → Option TypeExpression → Option (Spanned Expression) → SpelledForest
  tail_trees i t e = tree (ident binder (f i.0)) end (before (spelled_as spans f (optional type_view t)) (before (spelled_as spans f (optional expression_tree e)) end))

  tail_fits : (i : Ident) (t : Option TypeExpression) (e : Option (Spanned Expression)) → FitsRow spans (kind declaration) tail_row (tail_trees i t e)
  tail_fits i t e = needed (a_leaf an_identifier) (option_fits spans f type_view (kind declaration) (codes "ty") (node a_type) (may (codes "init") expression nothing) _ (λ x. type_node_fits spans f (kind present) x)
      (option_fits spans f expression_tree (kind declaration) (codes "init") expression nothing end (λ x. node_fits spans f (kind present) x) all_there e) t)

  abbrev declared_trees : Vec (Spanned Attribute) Global → DeclarationKind → Ident → Option TypeExpression → Option (Spanned Expression) → SpelledForest
  declared_trees a k i t e = before (attributes_of a) (before (spelled_as spans f (kind_tree k)) (tail_trees i t e))

  abbrev plain_kind_row : Kind → Row
  plain_kind_row k = declared k nothing

  abbrev var_row : Row
  var_row = declared var_kind space_row

  declared_declaration : (a : Vec (Spanned Attribute) Global) (k : DeclarationKind) (i : Ident) (t : Option TypeExpression) (e : Option (Spanned Expression)) (place : ℕ × ℕ) (p : SpelledLabel) → Fits spans p (node a_declaration) (tree_of (label_shown spans declaration_node place) (tree (kind declaration) (declared_trees a k i t e) end))
  declared_declaration a kinds.Const i t e place p = worded_fits spans a_declaration declaration_node place (codes "const") (fixed (kind declaration)) (plain_kind_row const_kind) (kind declaration) (declared_trees a kinds.Const i t e) (record { long = refl; fits = refl; apart = refl }) (λ ms. chosen_by (declaration_words spans) None (codes "const") _ ms refl) refl refl
      (with_attributes spans f (kind declaration) (codes "attrs") _ _ a (within refl refl all_there (tail_fits i t e))) p
  declared_declaration a kinds.Override i t e place p = worded_fits spans a_declaration declaration_node place (codes "override") (fixed (kind declaration)) (plain_kind_row override_kind) (kind declaration) (declared_trees a kinds.Override i t e) (record { long = refl; fits = refl; apart = refl }) (λ ms. chosen_by (declaration_words spans) None (codes "override") _ ms refl) refl refl
      (with_attributes spans f (kind declaration) (codes "attrs") _ _ a (within refl refl all_there (tail_fits i t e))) p
  declared_declaration a kinds.Let i t e place p = worded_fits spans a_declaration declaration_node place (codes "let") (fixed (kind declaration)) (plain_kind_row let_kind) (kind declaration) (declared_trees a kinds.Let i t e) (record { long = refl; fits = refl; apart = refl }) (λ ms. chosen_by (declaration_words spans) None (codes "let") _ ms refl) refl refl
      (with_attributes spans f (kind declaration) (codes "attrs") _ _ a (within refl refl all_there (tail_fits i t e))) p
  declared_declaration a (kinds.Var s) i t e place p = worded_fits spans a_declaration declaration_node place (codes "var") (fixed (kind declaration)) var_row (kind declaration) (declared_trees a (kinds.Var s) i t e) (record { long = refl; fits = refl; apart = refl }) (λ ms. chosen_by (declaration_words spans) None (codes "var") _ ms refl) refl refl
      (with_attributes spans f (kind declaration) (codes "attrs") _ _ a (within refl refl (space_fits s) (tail_fits i t e))) p

  pub declaration_as_declaration : (d : Declaration) (place : ℕ × ℕ) (p : SpelledLabel) → Fits spans p (node a_declaration) (tree_of (label_shown spans declaration_node place) (before (spelled_as spans f (declaration_view d)) end))
  declaration_as_declaration d place p = declared_declaration d.attributes d.kind d.ident d.ty d.initializer place p

  pub assert_as_declaration : (c : ConstAssert) (place : ℕ × ℕ) (p : SpelledLabel) → Fits spans p (node a_declaration) (tree_of (label_shown spans declaration_node place) (before (spelled_as spans f (assert_view c)) end))
  assert_as_declaration c place p = worded_fits spans a_declaration declaration_node place (codes "assert") (fixed (kind const_assert)) (attrs operand) (kind const_assert) (before (attributes_of c.attributes) (before (spelled_as spans f (expression_tree c.expression)) end)) (record { long = refl; fits = refl; apart = refl }) (λ ms. chosen_by (declaration_words spans) None (codes "assert") _ ms refl) refl refl
      (with_attributes spans f (kind const_assert) (codes "attrs") _ _ c.attributes (needed (node_fits spans f (kind const_assert) c.expression) all_there)) p

  pub void_as_declaration : (place : ℕ × ℕ) (p : SpelledLabel) → Fits spans p (node a_declaration) (tree_of (label_shown spans declaration_node place) (tree (kind void) end end))
  void_as_declaration place p = worded_fits spans a_declaration declaration_node place (codes "void") (fixed (kind void)) nothing (kind void) end (record { long = refl; fits = refl; apart = refl }) (λ ms. chosen_by (declaration_words spans) None (codes "void") _ ms refl) refl refl all_there p

  declared_statement : (a : Vec (Spanned Attribute) Global) (k : DeclarationKind) (i : Ident) (t : Option TypeExpression) (e : Option (Spanned Expression)) (place : ℕ × ℕ) (p : SpelledLabel) → Fits spans p (node a_statement) (tree_of (label_shown spans statement_node place) (tree (kind declaration) (declared_trees a k i t e) end))
  declared_statement a kinds.Const i t e place p = worded_fits spans a_statement statement_node place (codes "const") (fixed (kind declaration)) (plain_kind_row const_kind) (kind declaration) (declared_trees a kinds.Const i t e) (record { long = refl; fits = refl; apart = refl }) (λ ms. chosen_by (statement_words spans) None (codes "const") _ ms refl) refl refl
      (with_attributes spans f (kind declaration) (codes "attrs") _ _ a (within refl refl all_there (tail_fits i t e))) p
  declared_statement a kinds.Override i t e place p = worded_fits spans a_statement statement_node place (codes "override") (fixed (kind declaration)) (plain_kind_row override_kind) (kind declaration) (declared_trees a kinds.Override i t e) (record { long = refl; fits = refl; apart = refl }) (λ ms. chosen_by (statement_words spans) None (codes "override") _ ms refl) refl refl
      (with_attributes spans f (kind declaration) (codes "attrs") _ _ a (within refl refl all_there (tail_fits i t e))) p
  declared_statement a kinds.Let i t e place p = worded_fits spans a_statement statement_node place (codes "let") (fixed (kind declaration)) (plain_kind_row let_kind) (kind declaration) (declared_trees a kinds.Let i t e) (record { long = refl; fits = refl; apart = refl }) (λ ms. chosen_by (statement_words spans) None (codes "let") _ ms refl) refl refl
      (with_attributes spans f (kind declaration) (codes "attrs") _ _ a (within refl refl all_there (tail_fits i t e))) p
  declared_statement a (kinds.Var s) i t e place p = worded_fits spans a_statement statement_node place (codes "var") (fixed (kind declaration)) var_row (kind declaration) (declared_trees a (kinds.Var s) i t e) (record { long = refl; fits = refl; apart = refl }) (λ ms. chosen_by (statement_words spans) None (codes "var") _ ms refl) refl refl
      (with_attributes spans f (kind declaration) (codes "attrs") _ _ a (within refl refl (space_fits s) (tail_fits i t e))) p

  pub declaration_as_statement : (d : Declaration) (place : ℕ × ℕ) (p : SpelledLabel) → Fits spans p (node a_statement) (tree_of (label_shown spans statement_node place) (before (spelled_as spans f (declaration_view d)) end))
  declaration_as_statement d place p = declared_statement d.attributes d.kind d.ident d.ty d.initializer place p

  pub assert_as_statement : (c : ConstAssert) (place : ℕ × ℕ) (p : SpelledLabel) → Fits spans p (node a_statement) (tree_of (label_shown spans statement_node place) (before (spelled_as spans f (assert_view c)) end))
  assert_as_statement c place p = worded_fits spans a_statement statement_node place (codes "assert") (fixed (kind const_assert)) (attrs operand) (kind const_assert) (before (attributes_of c.attributes) (before (spelled_as spans f (expression_tree c.expression)) end)) (record { long = refl; fits = refl; apart = refl }) (λ ms. chosen_by (statement_words spans) None (codes "assert") _ ms refl) refl refl
      (with_attributes spans f (kind const_assert) (codes "attrs") _ _ c.attributes (needed (node_fits spans f (kind const_assert) c.expression) all_there)) p

  pub void_as_statement : (place : ℕ × ℕ) (p : SpelledLabel) → Fits spans p (node a_statement) (tree_of (label_shown spans statement_node place) (tree (kind void) end end))
  void_as_statement place p = worded_fits spans a_statement statement_node place (codes "void") (fixed (kind void)) nothing (kind void) end (record { long = refl; fits = refl; apart = refl }) (λ ms. chosen_by (statement_words spans) None (codes "void") _ ms refl) refl refl all_there p

  pub alias_fits : (x : TypeAlias) (place : ℕ × ℕ) (p : SpelledLabel) → Fits spans p (node a_declaration) (tree_of (label_shown spans declaration_node place) (before (spelled_as spans f (alias_view x)) end))
  alias_fits x place p = worded_fits spans a_declaration declaration_node place (codes "alias") (fixed (kind type_alias)) (typed_row (an_ident binder)) (kind type_alias) (before (attributes_of x.attributes) (tree (ident binder (f x.ident.0)) end (before (spelled_as spans f (type_view x.ty)) end))) (record { long = refl; fits = refl; apart = refl }) (λ ms. chosen_by (declaration_words spans) None (codes "alias") _ ms refl) refl refl
      (with_attributes spans f (kind type_alias) (codes "attrs") _ _ x.attributes (needed (a_leaf an_identifier) (needed (type_node_fits spans f (kind type_alias) x.ty) all_there))) p

  member_fits : (p : SpelledLabel) (x : Spanned StructMember) → Fits spans p (node a_member) (spelled_as spans f (placed member_view member_node x))
  member_fits p x = node_at member_node (x.span.start, x.span.end) None (inner_row (fixed (kind member)) (typed_row a_name)) (record { long = refl; fits = refl; apart = refl }) (plain_row (fixed (kind member)) (typed_row a_name) nothing) (λ ms there. refl)
      (within refl refl (with_attributes spans f (kind member) (codes "attrs") _ _ x.node.attributes (needed (a_leaf (name_text refl)) (needed (type_node_fits spans f (kind member) x.node.ty) all_there))) all_there)

  members_fit : (p : SpelledLabel) (xs : List (Spanned StructMember)) → AreFits spans p a_member (shown_forest spans f (forest_of (map (placed member_view member_node) xs)))
  members_fit p [] = no_more
  members_fit p (x ∷ xs) = one_more (member_fits p x) (members_fit p xs)

  abbrev struct_row : Row
  struct_row = attrs (needs (codes "name") (leaf (an_ident binder)) (many (codes "members") (list_of members a_member) nothing))

  pub struct_fits : (x : Struct) (place : ℕ × ℕ) (p : SpelledLabel) → Fits spans p (node a_declaration) (tree_of (label_shown spans declaration_node place) (before (spelled_as spans f (struct_view x)) end))
  struct_fits x place p = worded_fits spans a_declaration declaration_node place (codes "struct") (fixed (kind struct)) struct_row (kind struct) _ (record { long = refl; fits = refl; apart = refl }) (λ ms. chosen_by (declaration_words spans) None (codes "struct") _ ms refl) refl refl
      (with_attributes spans f (kind struct) (codes "attrs") _ _ x.attributes (needed (a_leaf an_identifier) (listed (members_fit (kind members) x.members.items) all_there))) p

  parameter_fits : (p : SpelledLabel) (x : FormalParameter) → Fits spans p (node a_parameter) (spelled_as spans f (parameter_view x))
  parameter_fits p x = plain_node (typed_row (an_ident binder)) (record { long = refl; fits = refl; apart = refl }) (record { same_row = refl; no_mark = λ ms. refl }) refl refl
      (with_attributes spans f (kind parameter) (codes "attrs") _ _ x.attributes (needed (a_leaf an_identifier) (needed (type_node_fits spans f (kind parameter) x.ty) all_there)))

  pub parameters_fit : (p : SpelledLabel) (xs : List FormalParameter) → AreFits spans p a_parameter (shown_forest spans f (forest_of (map parameter_view xs)))
  parameters_fit p [] = no_more
  parameters_fit p (x ∷ xs) = one_more (parameter_fits p x) (parameters_fit p xs)
