-- What declarations say of their names.
use Rattle.std.proofs.Common.{◌≡◌, ℕ, List, [], ◌∷◌, ◌++◌, refl, sym, ap, ◌∙◌, Option, None, Some}
use Rattle.wesl_tree_names.specs.Path.{Text}
use Rattle.wesl_tree_names.specs.declared.names.Ident.{Ident}
use Rattle.wesl_tree_names.specs.declared.path.ModulePath.{ModulePath}
use Rattle.wesl_tree_syntax.specs.Tree.{Forest, end, tree, before, ident, binder}
use Rattle.wesl_tree_syntax.specs.View.{attributes_tree, declaration_view, expression_tree, type_view, item_view, kind_tree, space_tree, optional, path_tree}
use Rattle.wesl_tree_syntax.specs.declared.declaration.AccessMode.{AccessMode}
use Rattle.wesl_tree_syntax.specs.declared.declaration.AddressSpace.{AddressSpace}
use Rattle.wesl_tree_syntax.specs.declared.declaration.Declaration.{Declaration}
use Rattle.wesl_tree_syntax.specs.declared.declaration.DeclarationKind.{DeclarationKind}
use Rattle.wesl_tree_syntax.specs.declared.declaration.DeclarationKind.TheVariants as kinds
use Rattle.wesl_tree_syntax.specs.declared.expression.Expression.{Expression}
use Rattle.wesl_tree_syntax.specs.declared.expression.TypeExpression.{TypeExpression}
use Rattle.wesl_tree_syntax.specs.declared.import.ImportItem.{ImportItem}
use Rattle.wesl_tree_syntax.specs.declared.span.Spanned.{Spanned}
use Rattle.wesl_scope_words.specs.Said.{words_of_var, said}
use Rattle.wesl_scope_words.specs.Adds.{Adds, Notes}
use Rattle.wesl_scope_words.specs.declared.sayings.Sayings.{Sayings}
use Rattle.wesl_scope_words.proofs.Quiet.{IsQuiet}
use Rattle.wesl_scope_words.proofs.Attributes.{attributes_quiet, optional_node_quiet, optional_type_quiet}
use Rattle.wesl_scope_words.proofs.Steps.{alone, skip}

-- of an import, its path
pub path_quiet : (o : Option ModulePath) → IsQuiet (optional path_tree o)
path_quiet None = refl
path_quiet (Some p) = refl

space_quiet : (s : AddressSpace) (o : Option AccessMode) → IsQuiet (space_tree (s, o))
space_quiet s None = refl
space_quiet s (Some a) = refl

kind_quiet : (k : DeclarationKind) → IsQuiet (kind_tree k)
kind_quiet kinds.Const = refl
kind_quiet kinds.Override = refl
kind_quiet kinds.Let = refl
kind_quiet (kinds.Var None) = refl
kind_quiet (kinds.Var (Some m)) = rw (space_quiet m.0 m.1) refl

-- no other field says words
rest_words : (t : Option TypeExpression) (e : Option (Spanned Expression)) → words_of_var (before (optional type_view t) (before (optional expression_tree e) end)) ≡ []
rest_words None None = refl
rest_words None (Some e) = refl
rest_words (Some t) None = refl
rest_words (Some t) (Some e) = refl

abbrev fields : Declaration → Forest
fields d = before (attributes_tree d.attributes) (before (kind_tree d.kind) (tree (ident binder d.ident.0) end (before (optional type_view d.ty) (before (optional expression_tree d.initializer) end))))

all_words : (k : DeclarationKind) (i : ℕ) (t : Option TypeExpression) (e : Option (Spanned Expression))
    → words_of_var (before (kind_tree k) (tree (ident binder i) end (before (optional type_view t) (before (optional expression_tree e) end)))) ≡ words_of_var (before (kind_tree k) end)
all_words kinds.Const i t e = rest_words t e
all_words kinds.Override i t e = rest_words t e
all_words kinds.Let i t e = rest_words t e
all_words (kinds.Var m) i t e = refl

said_fields : (ws : List Text) (d : Declaration) → said ws (fields d) ≡ ws ∷ []
said_fields ws d =
    let after_name : Forest = before (optional type_view d.ty) (before (optional expression_tree d.initializer) end) in
    let named : Forest = tree (ident binder d.ident.0) end after_name in
    skip ws (attributes_tree d.attributes) (before (kind_tree d.kind) named) (attributes_quiet d.attributes)
    ∙ (skip ws (kind_tree d.kind) named (kind_quiet d.kind)
    ∙ ap (λ z. ws ∷ z) (skip ws (optional type_view d.ty) (before (optional expression_tree d.initializer) end) (optional_type_quiet d.ty) ∙ skip ws (optional expression_tree d.initializer) end (optional_node_quiet d.initializer)))

-- of its name a declaration says what its `var` says
pub said_declaration : (d : Declaration) (ws : List Text) → ws ≡ words_of_var (before (kind_tree d.kind) end) → said [] (before (declaration_view d) end) ≡ ws ∷ []
said_declaration d ws is = ap (λ z. z ++ []) (said_fields (words_of_var (fields d)) d) ∙ ap (λ z. z ∷ []) (all_words d.kind d.ident.0 d.ty d.initializer ∙ sym is)

pub declared : {a b : Sayings} {ws : List Text} (d : Declaration) → ws ≡ words_of_var (before (kind_tree d.kind) end) → Notes a ws b → Adds a (before (declaration_view d) end) b
declared {ws = ws} d is n = alone (before (declaration_view d) end) (said_declaration d ws is) n

-- an imported item binds one name
one_item : (i : Ident) (r : Option Ident) → said [] (before (item_view (record { ident = i; rename = r })) end) ≡ [] ∷ []
one_item i None = refl
one_item i (Some r) = refl

pub named_item : {a b : Sayings} (i : ImportItem) → Notes a [] b → Adds a (before (item_view i) end) b
named_item i n = alone (before (item_view i) end) (one_item i.ident i.rename) n
