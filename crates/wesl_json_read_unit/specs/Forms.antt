-- What is read of a declaration or a directive by its word at `k`.
use Rattle.std.specs.Prelude.{◌≡◌, Bool, true, false, List, [], ◌∷◌, Some, None, codes}
use Rattle.serde_json.specs.Data.{Data}
use Rattle.serde_json.specs.Find.{get}
use Rattle.wesl_tree_names.specs.Path.{Text}
use Rattle.wesl_tree_names.specs.declared.errors.Error as error
use Rattle.wesl_tree_syntax.specs.Tree.{Kind, kind, Tree, binder, members, declaration_node, directive_node, type_alias, struct, function, enable_directive, requires_directive, diagnostic_directive}
use Rattle.wesl_json_form.specs.Schema.{fixed, Row, nothing, needs, many, second_form, Node, leaf, list_of, an_ident, a_member}
use Rattle.wesl_json_form.specs.Nodes.{attrs, typed_row, function_row, names_row, severity_row}
use Rattle.wesl_json_form.specs.Reading.{is_extra}
use Rattle.wesl_json_form.specs.Pointer.{key, pointer_text}
use Rattle.wesl_json_read.specs.Faults.{IfPlace}
use Rattle.wesl_json_read.specs.Forms.{ReadsWorded, worded_node}
use Rattle.wesl_json_read_statements.specs.Forms.{declared_text, declared_kind, declared_row}
use Rattle.wesl_json_read_unit.specs.declared.words.DeclarationWord.{DeclarationWord}
use Rattle.wesl_json_read_unit.specs.declared.words.DeclarationWord.TheVariants as globals
use Rattle.wesl_json_read_unit.specs.declared.words.DirectiveWord.{DirectiveWord}
use Rattle.wesl_json_read_unit.specs.declared.words.DirectiveWord.TheVariants as directed

-- ---- declarations

-- the word at `k` of each kind of global declaration
abbrev pub declaration_text : DeclarationWord → Text
declaration_text globals.Alias = codes "alias"
declaration_text globals.Struct = codes "struct"
declaration_text globals.Function = codes "fn"
declaration_text (globals.Declared w) = declared_text w

-- the kind of its node
abbrev pub declaration_kind : DeclarationWord → Kind
declaration_kind globals.Alias = type_alias
declaration_kind globals.Struct = struct
declaration_kind globals.Function = function
declaration_kind (globals.Declared w) = declared_kind w

-- its members besides `k` and `span`, in document order
abbrev pub declaration_row : DeclarationWord → Row
declaration_row globals.Alias = typed_row (an_ident binder)
declaration_row globals.Struct = attrs (needs (codes "name") (leaf (an_ident binder)) (many (codes "members") (list_of members a_member) nothing))
declaration_row globals.Function = function_row
declaration_row (globals.Declared w) = declared_row w

module _ (spans : Bool) where
  -- the node that an object with this word of a global declaration is
  abbrev pub declaration_of : DeclarationWord → Node
  declaration_of w = worded_node spans declaration_node (declaration_text w) (fixed (kind (declaration_kind w))) (declaration_row w)

  -- an object has only the members of a declaration with this word, and is read as the tree, but for its span
  abbrev pub ReadsDeclaration : DeclarationWord → Data → Tree → List Text → List Text → Type 0
  ReadsDeclaration w = ReadsWorded spans (declaration_text w) (fixed (kind (declaration_kind w))) (declaration_row w)

-- ---- directives

-- the word at `k` of each kind of directive
abbrev pub directive_text : DirectiveWord → Text
directive_text directed.Enable = codes "enable"
directive_text directed.Requires = codes "requires"
directive_text directed.Diagnostic = codes "diagnostic"

-- the kind of its node
abbrev pub directive_kind : DirectiveWord → Kind
directive_kind directed.Enable = enable_directive
directive_kind directed.Requires = requires_directive
directive_kind directed.Diagnostic = diagnostic_directive

-- its members besides `k` and `span`, in document order
abbrev pub directive_row : DirectiveWord → Row
directive_row directed.Enable = attrs names_row
directive_row directed.Requires = attrs names_row
directive_row directed.Diagnostic = attrs severity_row

module _ (spans : Bool) where
  -- the node that an object with this word of a directive is
  abbrev pub directive_of : DirectiveWord → Node
  directive_of w = worded_node spans directive_node (directive_text w) (fixed (kind (directive_kind w))) (directive_row w)

  -- an object has only the members of a directive with this word, and is read as the tree, but for its span
  abbrev pub ReadsDirective : DirectiveWord → Data → Tree → List Text → List Text → Type 0
  ReadsDirective w = ReadsWorded spans (directive_text w) (fixed (kind (directive_kind w))) (directive_row w)

-- ---- units

-- what stands at `form` is 2, or nothing stands there
abbrev pub has_its_form : Data → Bool
has_its_form d = elim (get (codes "form") d) as (λ _. Bool) [ None ↦ true | Some v ↦ is_extra second_form v ]

-- memory was refused, or the error tells that what stands at `form` is not 2
abbrev pub LocatesForm : Data → error.Error → Type 0
LocatesForm d e = IfPlace e (λ place. (place ≡ pointer_text (key (codes "form") ∷ [])) × (has_its_form d ≡ false))
