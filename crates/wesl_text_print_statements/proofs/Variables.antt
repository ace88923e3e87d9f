-- The slots of declarations, in the order in which they are printed.
use Rattle.std.proofs.Common.{◌≡◌, List, [], ◌∷◌, ◌++◌, Bool, true, false, not, ◌&&◌, ◌||◌, if◌then◌else◌, Option, Some, None, is_some, option_map, codes, Vec, Global, refl, sym, ap, ◌∙◌}
use Rattle.wesl_tree_names.specs.Path.{Text}
use Rattle.wesl_tree_names.specs.declared.names.Ident.{Ident}
use Rattle.wesl_tree_syntax.specs.Tree.{Tree, binder, branch, declaration, kind, override_kind, respell_forest, respell_label, var_kind}
use Rattle.wesl_tree_syntax.specs.Unit.{name_in}
use Rattle.wesl_tree_syntax.specs.View.{access_tree, attributes_tree, declaration_view, expression_tree, ident_tree, kind_tree, optional as optional_tree, space_tree, type_view}
use Rattle.wesl_tree_syntax.specs.declared.span.Spanned.{Spanned}
use Rattle.wesl_tree_syntax.specs.declared.attribute.Attribute.{Attribute}
use Rattle.wesl_tree_syntax.specs.declared.expression.Expression.{Expression}
use Rattle.wesl_tree_syntax.specs.declared.expression.TypeExpression.{TypeExpression}
use Rattle.wesl_tree_syntax.specs.declared.declaration.AccessMode.{AccessMode}
use Rattle.wesl_tree_syntax.specs.declared.declaration.AddressSpace.{AddressSpace}
use Rattle.wesl_tree_syntax.specs.declared.declaration.Declaration.{Declaration}
use Rattle.wesl_tree_syntax.specs.declared.declaration.DeclarationKind.{DeclarationKind}
use Rattle.wesl_tree_syntax.specs.declared.declaration.DeclarationKind.TheVariants as kinds
use Rattle.wesl_text_tokens.specs.declared.symbol.Symbol.TheVariants as is
use Rattle.wesl_text_form.specs.Operators.{space_word}
use Rattle.wesl_text_form.specs.Productions.{Sort, an_ident, a_bare_statement, a_kind, a_space, Row, nothing, sym as sign, leaf, own, optional, attrs}
use Rattle.wesl_text_form.specs.Slots.{Slot}
use Rattle.wesl_text_form.specs.Spelling.{Slots, fits, followed, is_kind, named, signed, without_last}
use Rattle.wesl_text_print.specs.Printing.{name_slots, only_if, slots_in}
use Rattle.wesl_text_print.proofs.Adding.{followed_twice, nothing_before}
use Rattle.wesl_text_print_statements.specs.Parts.{attributes_slots, option_in, row_below, row_in}
use Rattle.wesl_text_print_statements.specs.Variables.{has_what_it_needs, kind_label, mode_row, space_row, typed_row, unended_in, valued_row, variable_row, variable_slots}
use Rattle.wesl_text_print_statements.proofs.Rows.{option_then}

-- ---- without the last slot

all_but_last : (ys : List Slot) (s : Slot) → without_last (ys ++ s ∷ []) ≡ ys
all_but_last [] s = refl
all_but_last (y ∷ []) s = refl
all_but_last (x ∷ y ∷ ys) s = ap (λ zs. x ∷ zs) (all_but_last (y ∷ ys) s)

ended : (Y : Slots) (s : Slot) → option_map without_last (followed Y (Some (s ∷ []))) ≡ Y
ended None s = refl
ended (Some ys) s = ap Some (all_but_last ys s)

abbrev pub ending : Slots
ending = Some (signed is.Semicolon ∷ [])

module _ (names : List Text) (s : Sort) (t : Tree) where
  pub unended_is : (Y : Slots) → followed Y ending ≡ slots_in names s t → Y ≡ unended_in names s t
  unended_is Y whole = sym (ended Y (signed is.Semicolon)) ∙ ap (option_map without_last) whole

  pub ended_is : (Y : Slots) → followed Y ending ≡ slots_in names s t → followed (unended_in names s t) ending ≡ slots_in names s t
  ended_is Y whole = ap (λ y. followed y ending) (sym (unended_is Y whole)) ∙ whole

-- ---- what a declaration begins with

pub space_printed : (s : AddressSpace × Option AccessMode) → followed (Some (named (space_word s.0) ∷ [])) (followed (option_in [] mode_row access_tree s.1) (Some [])) ≡ slots_in [] a_space (space_tree s)
space_printed s = ap (followed (Some (named (space_word s.0) ∷ []))) (option_then [] access_tree mode_row nothing s.1 [])

pub var_printed : (s : Option (AddressSpace × Option AccessMode)) → followed (Some (named (codes "var") ∷ [])) (followed (option_in [] space_row space_tree s) (Some [])) ≡ slots_in [] a_kind (kind_tree (kinds.Var s))
var_printed s = ap (followed (Some (named (codes "var") ∷ []))) (option_then [] space_tree space_row nothing s [])

module _ (names : List Text) where
  kind_named : (k : DeclarationKind) → slots_in [] a_kind (kind_tree k) ≡ slots_in names a_kind (kind_tree k)
  kind_named kinds.Const = refl
  kind_named kinds.Override = refl
  kind_named kinds.Let = refl
  kind_named (kinds.Var None) = refl
  kind_named (kinds.Var (Some (s, None))) = refl
  kind_named (kinds.Var (Some (s, Some m))) = refl

  pub label_named : (k : DeclarationKind) → kind_label k ≡ Some (respell_label (name_in names) (kind_tree k).label)
  label_named kinds.Const = refl
  label_named kinds.Override = refl
  label_named kinds.Let = refl
  label_named (kinds.Var s) = refl

  abbrev tree_by : Vec (Spanned Attribute) Global → DeclarationKind → Ident → Option TypeExpression → Option (Spanned Expression) → Tree
  tree_by a k i t o = branch declaration (attributes_tree a ∷ kind_tree k ∷ ident_tree binder i ∷ optional_tree type_view t ∷ optional_tree expression_tree o ∷ [])

  needs_by : (a : Vec (Spanned Attribute) Global) (k : DeclarationKind) (i : Ident) (t : Option TypeExpression) (o : Option (Spanned Expression))
      → (is_some o || (is_kind var_kind (kind_label k) || is_kind override_kind (kind_label k))) ≡ fits (kind declaration) (respell_forest (name_in names) (tree_by a k i t o).children)
  needs_by a k i t None = ap (λ l. is_kind var_kind l || is_kind override_kind l) (label_named k)
  needs_by a k i t (Some e) = refl

  pub needs : (d : Declaration) → (is_some d.initializer || (is_kind var_kind (kind_label d.kind) || is_kind override_kind (kind_label d.kind))) ≡ has_what_it_needs names d
  needs d = needs_by d.attributes d.kind d.ident d.ty d.initializer

  -- ---- declarations

  abbrev pub parts : Declaration → Slots → Slots
  parts d rest = followed (attributes_slots names d.attributes) (followed (slots_in [] a_kind (kind_tree d.kind)) (followed (name_slots (name_in names d.ident.0)) (followed (option_in names typed_row type_view d.ty) (followed (option_in names valued_row expression_tree d.initializer) rest))))

  abbrev pub row_with : Row → Row
  row_with rest = attrs (own a_kind (leaf (an_ident binder) (optional typed_row (optional valued_row rest))))

  parts_by : (d : Declaration) (rest : Row) → parts d (row_in names rest []) ≡ row_below names (row_with rest) (declaration_view d)
  parts_by d rest =
      ap (λ r. followed (attributes_slots names d.attributes) (followed (slots_in [] a_kind (kind_tree d.kind)) (followed (name_slots (name_in names d.ident.0)) r)))
      (ap (followed (option_in names typed_row type_view d.ty)) (option_then names expression_tree valued_row rest d.initializer [])
      ∙ option_then names type_view typed_row (optional valued_row rest) d.ty (optional_tree expression_tree d.initializer ∷ []))
      ∙ ap (λ k. followed (attributes_slots names d.attributes) (followed k (followed (name_slots (name_in names d.ident.0)) (row_in names (optional typed_row (optional valued_row rest)) (optional_tree type_view d.ty ∷ optional_tree expression_tree d.initializer ∷ []))))) (kind_named d.kind)

  pub variable_printed : (d : Declaration) → has_what_it_needs names d ≡ true → parts d (Some []) ≡ variable_slots names d
  variable_printed d has = parts_by d nothing ∙ ap (λ b. only_if b (row_below names variable_row (declaration_view d))) (sym has)

  five_ended : (a b c d e r : Slots) → followed (followed a (followed b (followed c (followed d (followed e (Some [])))))) r ≡ followed a (followed b (followed c (followed d (followed e r))))
  five_ended a b c d e r = simp (followed_twice, nothing_before)

  row_ended : (d : Declaration) → followed (row_below names variable_row (declaration_view d)) ending ≡ row_below names (row_with (sign is.Semicolon nothing)) (declaration_view d)
  row_ended d = ap (λ y. followed y ending) (sym (parts_by d nothing)) ∙ five_ended (attributes_slots names d.attributes) (slots_in [] a_kind (kind_tree d.kind)) (name_slots (name_in names d.ident.0)) (option_in names typed_row type_view d.ty) (option_in names valued_row expression_tree d.initializer) ending ∙ parts_by d (sign is.Semicolon nothing)

  both_tests : (n f : Bool) (x y : Slots) → followed x ending ≡ y → followed (only_if n (only_if f x)) ending ≡ (if f && n then y else None)
  both_tests true true x y is = is
  both_tests true false x y is = refl
  both_tests false true x y is = refl
  both_tests false false x y is = refl

  -- a declaration of a sort where its kind may stand
  pub stands_ended : (d : Declaration) (n : Bool) → followed (only_if n (variable_slots names d)) ending ≡ (if has_what_it_needs names d && n then row_below names (row_with (sign is.Semicolon nothing)) (declaration_view d) else None)
  stands_ended d n = both_tests n (has_what_it_needs names d) (row_below names variable_row (declaration_view d)) (row_below names (row_with (sign is.Semicolon nothing)) (declaration_view d)) (row_ended d)

  pub local_ended : (d : Declaration) → followed (only_if (not (is_kind override_kind (kind_label d.kind))) (variable_slots names d)) ending ≡ slots_in names a_bare_statement (declaration_view d)
  local_ended d = stands_ended d (not (is_kind override_kind (kind_label d.kind))) ∙ ap (λ l. if has_what_it_needs names d && not (is_kind override_kind l) then row_below names (row_with (sign is.Semicolon nothing)) (declaration_view d) else None) (label_named d.kind)
