-- What a sink was told by a printer.
use Rattle.std.specs.Prelude.{List, [], ◌∷◌, ◌++◌, Bool, None, Option, Some, Vec, String, codes}
use Rattle.std.specs.Box.{box_value}
use Rattle.std.specs.Global.{Box}
use Rattle.std.specs.declared.alloc.Global.{Global}
use Rattle.wesl_json_print_nodes.specs.Events.{Event, events, key}
use Rattle.serde_json.specs.Data.{Data, array, string, Items, Members, no_members, member}
use Rattle.wesl_tree_base.specs.declared.span.Span.{Span}
use Rattle.wesl_tree_names.specs.Path.{Text}
use Rattle.wesl_tree_names.specs.declared.names.Ident.{Ident}
use Rattle.wesl_tree_names.specs.declared.path.ModulePath.{ModulePath}
use Rattle.wesl_tree_syntax.specs.Tree.{Kind, Tree, absent, access, assignment, attribute_node, branch, custom, expression_node, kind, leaf, list, literal, reference, space, statement_node, text, type_expression}
use Rattle.wesl_tree_syntax.specs.View.{attributes_tree, boxed_path, expression_tree, ident_tree, listed, literal_tree, optional, statement_tree, texts_of}
use Rattle.wesl_tree_syntax.specs.declared.expression.Expression.{Expression}
use Rattle.wesl_tree_syntax.specs.declared.expression.Literal.{Literal}
use Rattle.wesl_tree_syntax.specs.declared.statement.AssignmentOperator.{AssignmentOperator}
use Rattle.wesl_tree_syntax.specs.declared.statement.Statement.{Statement}
use Rattle.wesl_tree_syntax.specs.declared.attribute.Attribute.{Attribute}
use Rattle.wesl_tree_syntax.specs.declared.span.Spanned.{Spanned}
use Rattle.wesl_tree_syntax.specs.declared.declaration.AccessMode.{AccessMode}
use Rattle.wesl_tree_syntax.specs.declared.declaration.DeclarationKind.{DeclarationKind}
use Rattle.wesl_tree_syntax.specs.declared.declaration.DeclarationKind.TheVariants as kinds
use Rattle.wesl_json_form.specs.Schema.{Name, a_path, an_expression, leaf as leaf_form, node}
use Rattle.wesl_json_form.specs.Words.{access_words, space_words}
use Rattle.wesl_json_form.specs.Writing.{put_list, texts_value}
use Rattle.wesl_json_words.specs.Values.{assigned, bare, call_members, expression_data, place_label, value_in, with_attributes, with_list, with_member, with_option, with_place, word_value, worded, workgroup_size}
use Rattle.wesl_json_print_nodes.specs.declared.printer.Printer.{Printer}

module _ {S : Type 0} where
  -- the sink was told these events
  pub record PrintsEvents (after : List Event → S → S → Type 0) (old new : Printer S) (es : List Event) : Type 0 where
    pub told : after es old.sink new.sink

-- a value is printed
abbrev pub Prints : {S : Type 0} → (List Event → S → S → Type 0) → Printer S → Printer S → Data → Type 0
Prints after old new d = PrintsEvents after old new (events d)

-- what a node at a place is written as, by what it is where it has none; a text in it stands at `k`
abbrev pub at_place : Bool → Kind → Span → Data → Data
at_place spans k s d = with_place spans (place_label spans k s) (codes "k") d

-- the same of an expression, where a text stands at `name`
abbrev pub named_at : Bool → Span → Data → Data
named_at spans s d = with_place spans (place_label spans expression_node s) (codes "name") d

-- members as they stand in an object, one behind another
abbrev pub inside : Members → List Event
inside no_members = []
inside (member k d ms) = key k ∷ (events d ++ inside ms)

-- members of an object are printed
abbrev pub PrintsMembers : {S : Type 0} → (List Event → S → S → Type 0) → Printer S → Printer S → Members → Type 0
PrintsMembers after old new ms = PrintsEvents after old new (inside ms)

-- a value at a key
abbrev pub PrintsMember : {S : Type 0} → (List Event → S → S → Type 0) → Printer S → Printer S → Text → Data → Type 0
PrintsMember after old new k d = PrintsMembers after old new (member k d no_members)

-- an attribute at a place is printed
abbrev pub PrintsAttribute : {S : Type 0} → (List Event → S → S → Type 0) → Printer S → Printer S → Bool → Span → Data → Type 0
PrintsAttribute after old new spans s d = Prints after old new (at_place spans attribute_node s d)

-- a statement at a place is printed
abbrev pub PrintsStatement : {S : Type 0} → (List Event → S → S → Type 0) → Printer S → Printer S → Bool → Span → Data → Type 0
PrintsStatement after old new spans s d = Prints after old new (at_place spans statement_node s d)

-- a node at a key, an option: nothing where it is not there
abbrev pub PrintsOption : {S A : Type 0} → (List Event → S → S → Type 0) → Printer S → Printer S → Text → Bool → List Text → Name → (A → Tree) → Option A → Type 0
PrintsOption after old new k spans names m view x = PrintsMembers after old new (with_option k spans names (node m) (optional view x) no_members)

-- a list at a key, unless it is empty
abbrev pub PrintsList : {S : Type 0} → (List Event → S → S → Type 0) → Printer S → Printer S → Text → Items → Type 0
PrintsList after old new k ds = PrintsMembers after old new (put_list k (array ds) no_members)

-- a type without arguments
abbrev pub plain_type_tree : Option (Box ModulePath) → Ident → Tree
plain_type_tree p i = branch type_expression (optional boxed_path p ∷ ident_tree reference i ∷ leaf (kind absent) ∷ [])

-- an attribute of another name, from its name and its arguments, an option
abbrev pub custom_tree : Text → Option (Vec (Spanned Expression) Global) → Tree
custom_tree s o = branch custom (leaf (text s) ∷ optional (listed expression_tree list) o ∷ [])

-- an expression that is a literal
abbrev pub literal_view : Literal → Tree
literal_view l = branch literal (literal_tree l ∷ [])

-- a statement in a box, which the parts of a `for` are
abbrev pub boxed_statement : Box (Spanned Statement) → Tree
boxed_statement s = statement_tree (box_value s)

-- a node, by the name of its form
abbrev pub node_in : Bool → List Text → Name → Tree → Data
node_in spans names m t = value_in spans names (node m) t

-- an attribute with one operand, from its word and the operand
abbrev pub with_operand : Bool → List Text → Text → Spanned Expression → Data
with_operand spans names w e = worded w (with_member (codes "expr") (expression_data spans names e) no_members)

-- an attribute with a name, from its word and the name
abbrev pub named : Text → Text → Data
named w s = worded w (with_member (codes "name") (string s) no_members)

-- an interpolation, from its names
abbrev pub interpolated : Vec (String Global) Global → Data
interpolated texts = worded (codes "interpolate") (with_list (codes "names") (texts_value (texts_of texts)) no_members)

-- a workgroup's size, from its expressions, of which the second and the third are options
abbrev pub sized : Bool → List Text → Spanned Expression → Option (Spanned Expression) → Option (Spanned Expression) → Data
sized spans names x y z = workgroup_size spans names x (optional expression_tree y) (optional expression_tree z)

-- an assignment by an operator, from its attributes and its sides
abbrev pub assigned_by : Bool → List Text → AssignmentOperator → Vec (Spanned Attribute) Global → Spanned Expression → Spanned Expression → Data
assigned_by spans names o a l r = assigned spans names (assignment o) (attributes_tree a).children l r

-- a statement that is a word alone, from its word and its attributes
abbrev pub jumped : Bool → List Text → Text → Vec (Spanned Attribute) Global → Data
jumped spans names w a = worded w (with_attributes spans names a no_members)

-- an increment or a decrement, from its word, its attributes and its operand
abbrev pub stepped : Bool → List Text → Text → Vec (Spanned Attribute) Global → Spanned Expression → Data
stepped spans names w a e = worded w (with_attributes spans names a (with_member (codes "expr") (expression_data spans names e) no_members))

-- a return, from its attributes and its expression, an option
abbrev pub returned : Bool → List Text → Vec (Spanned Attribute) Global → Option (Spanned Expression) → Data
returned spans names a e =
    worded (codes "return") (with_attributes spans names a (with_option (codes "expr") spans names (node an_expression) (optional expression_tree e) no_members))

-- a call as a statement
abbrev pub called : Bool → List Text → Vec (Spanned Attribute) Global → Tree → Data
called spans names a c = worded (codes "call") (with_attributes spans names a (with_member (codes "call") (bare (call_members spans names c)) no_members))

-- a diagnostic, from its severity and its rule
abbrev pub diagnosed : Text → Text → Data
diagnosed severity rule = worded (codes "diagnostic") (with_member (codes "severity") (string severity) (with_member (codes "rule") (string rule) no_members))

-- the path of a type, an option
abbrev pub path_member : Bool → List Text → Option (Box ModulePath) → Members
path_member spans names p = with_option (codes "path") spans names (leaf_form a_path) (optional boxed_path p) no_members

-- an access mode, an option
abbrev pub mode_member : Option AccessMode → Members
mode_member None = no_members
mode_member (Some m) = member (codes "access") (word_value access_words (access m)) no_members

-- the access mode of a variable, where it has one
abbrev pub access_member : DeclarationKind → Members
access_member (kinds.Var (Some p)) = mode_member p.1
access_member _ = no_members

-- the address space of a variable, where it has one
abbrev pub space_member : DeclarationKind → Members
space_member (kinds.Var (Some p)) = member (codes "space") (word_value space_words (space p.0)) no_members
space_member _ = no_members
