-- The tokens of each declaration, in the order in which they are printed.
use Rattle.std.proofs.Common.{◌≡◌, List, [], ◌∷◌, Option, Some, None, Bool, true, false, codes, string_bytes, refl, sym, ap, ◌∙◌}
use Rattle.std.specs.Prelude.{is_none}
use Rattle.wesl_json_print_nodes.specs.Events.{begins, Event, events}
use Rattle.serde_json.specs.Data.{Data, null, object, string, Members, no_members}
use Rattle.wesl_json_form.specs.Schema.{node, a_member, a_parameter, a_type, an_attribute, an_expression}
use Rattle.wesl_json_form.specs.Words.{access_words, space_words}
use Rattle.wesl_json_print_nodes.specs.Printing.{PrintsEvents, Prints, access_member, at_place, inside, space_member}
use Rattle.wesl_json_print_nodes.specs.declared.printer.Printer.{Printer}
use Rattle.wesl_json_print_nodes.proofs.Adding.{told}
use Rattle.wesl_json_print_nodes.proofs.Parts.{Part, part, arranged, by_parts, events_of, list_part, object_events, option_part, option_put, put_part, puts, puts_before, span_part}
use Rattle.wesl_json_print_nodes.proofs.Statements.{at_key, attrs, body, expression_option, word}
use Rattle.wesl_json_words.specs.Values.{declaration_at, declaration_in, items_in, kind_text, placed_at, statement_at, statement_in, value_in, with_list, with_member, with_option, with_row, with_space, word_value, worded}
use Rattle.wesl_json_words.proofs.Blocks.{Attributes, children_of}
use Rattle.wesl_json_words.proofs.Declarations.{as-alias, as-function, as-global, as-global-assert, as-local, as-local-assert, as-member, as-parameter, as-struct, declared, written-global-void, written-local-void}
use Rattle.wesl_json_words.proofs.Placed.{placed-declaration, placed-member, placed-statement}
use Rattle.wesl_tree_base.specs.declared.span.Span.{Span}
use Rattle.wesl_tree_names.specs.Path.{Text}
use Rattle.wesl_tree_syntax.specs.Tree.{Kind, Tree, access, branch, declaration_node, member_node, members, parameters, space, statement_node, void}
use Rattle.wesl_tree_syntax.specs.Unit.{name_in}
use Rattle.wesl_tree_syntax.specs.View.{alias_view, assert_view, declaration_view, expression_tree, function_view, kind_tree, listed, member_view, optional, parameter_view, placed, struct_view, type_view}
use Rattle.wesl_tree_syntax.specs.declared.expression.TypeExpression.{TypeExpression}
use Rattle.wesl_tree_syntax.specs.declared.declaration.AccessMode.{AccessMode}
use Rattle.wesl_tree_syntax.specs.declared.declaration.DeclarationKind.{DeclarationKind}
use Rattle.wesl_tree_syntax.specs.declared.declaration.DeclarationKind.TheVariants as kinds
use Rattle.wesl_tree_syntax.specs.declared.declaration.Declaration.{Declaration}
use Rattle.wesl_tree_syntax.specs.declared.declaration.TypeAlias.{TypeAlias}
use Rattle.wesl_tree_syntax.specs.declared.declaration.Struct.{Struct}
use Rattle.wesl_tree_syntax.specs.declared.declaration.StructMember.{StructMember}
use Rattle.wesl_tree_syntax.specs.declared.declaration.FormalParameter.{FormalParameter}
use Rattle.wesl_tree_syntax.specs.declared.declaration.Function.{Function}
use Rattle.wesl_tree_syntax.specs.declared.declaration.ConstAssert.{ConstAssert}

-- ---- the space and the access mode of a variable

abbrev has_no_space : DeclarationKind → Bool
has_no_space (kinds.Var (Some p)) = false
has_no_space _ = true

abbrev space_value : DeclarationKind → Data
space_value (kinds.Var (Some p)) = word_value space_words (space p.0)
space_value _ = null

abbrev pub space_part : DeclarationKind → Part
space_part k = part (codes "space") (has_no_space k) (space_value k)

abbrev mode_value : Option AccessMode → Data
mode_value None = null
mode_value (Some m) = word_value access_words (access m)

abbrev has_no_access : DeclarationKind → Bool
has_no_access (kinds.Var (Some p)) = is_none p.1
has_no_access _ = true

abbrev access_value : DeclarationKind → Data
access_value (kinds.Var (Some p)) = mode_value p.1
access_value _ = null

abbrev pub access_part : DeclarationKind → Part
access_part k = part (codes "access") (has_no_access k) (access_value k)

space_inside : (k : DeclarationKind) → inside (space_member k) ≡ inside (put_part (space_part k) no_members)
space_inside kinds.Const = refl
space_inside kinds.Override = refl
space_inside kinds.Let = refl
space_inside (kinds.Var None) = refl
space_inside (kinds.Var (Some p)) = refl

access_inside : (k : DeclarationKind) → inside (access_member k) ≡ inside (put_part (access_part k) no_members)
access_inside kinds.Const = refl
access_inside kinds.Override = refl
access_inside kinds.Let = refl
access_inside (kinds.Var None) = refl
access_inside (kinds.Var (Some (s, None))) = refl
access_inside (kinds.Var (Some (s, Some m))) = refl

pub space_added : {S : Type 0} {after : List Event → S → S → Type 0} {a b : Printer S} (k : DeclarationKind) → PrintsEvents after a b (inside (space_member k)) → PrintsEvents after a b (inside (put_part (space_part k) no_members))
space_added k h = told (space_inside k) h

pub access_added : {S : Type 0} {after : List Event → S → S → Type 0} {a b : Printer S} (k : DeclarationKind) → PrintsEvents after a b (inside (access_member k)) → PrintsEvents after a b (inside (put_part (access_part k) no_members))
access_added k h = told (access_inside k) h

module _ (spans : Bool) (names : List Text) where
  both_put : (k : DeclarationKind) (ms : Members) → put_part (space_part k) (put_part (access_part k) ms) ≡ with_space spans names (kind_tree k) ms
  unfolding with_row
  both_put kinds.Const ms = refl
  both_put kinds.Override ms = refl
  both_put kinds.Let ms = refl
  both_put (kinds.Var None) ms = refl
  both_put (kinds.Var (Some (s, None))) ms = refl
  both_put (kinds.Var (Some (s, Some m))) ms = refl

  abbrev pub name : Text → Part
  name t = part (codes "name") false (string t)

  abbrev pub type_at : Text → TypeExpression → Part
  type_at k t = part k false (value_in spans names (node a_type) (type_view t))

  abbrev pub type_option : Text → Option TypeExpression → Part
  type_option k o = option_part spans names k (node a_type) type_view o

  -- an object with its span
  module _ (s : Span) where
    abbrev pub span_and : Kind → List Part → List Part
    span_and k ps = arranged (span_part spans k s ∷ ps)

    global : {S : Type 0} {after : List Event → S → S → Type 0} {a z : Printer S} (t : Tree) (d : Data) → d ≡ declaration_in spans names t → Prints after a z (at_place spans declaration_node s d) → Prints after a z (declaration_at spans names s t)
    global t d is h = told (ap events (ap (at_place spans declaration_node s) is ∙ sym (placed-declaration spans names s t (codes "k")))) h

    local : {S : Type 0} {after : List Event → S → S → Type 0} {a z : Printer S} (t : Tree) (d : Data) → d ≡ statement_in spans names t → Prints after a z (at_place spans statement_node s d) → Prints after a z (statement_at spans names s t)
    local t d is h = told (ap events (ap (at_place spans statement_node s) is ∙ sym (placed-statement spans names s t (codes "k")))) h

    pub global_void : {S : Type 0} {after : List Event → S → S → Type 0} {a z : Printer S} → PrintsEvents after a z (begins ∷ events_of (span_and declaration_node (word (codes "void") ∷ []))) → Prints after a z (declaration_at spans names s (branch void []))
    unfolding with_member
    global_void h = global (branch void []) _ (sym (written-global-void spans names)) (by_parts spans declaration_node s (word (codes "void") ∷ []) _ refl refl h)

    pub local_void : {S : Type 0} {after : List Event → S → S → Type 0} {a z : Printer S} → PrintsEvents after a z (begins ∷ events_of (span_and statement_node (word (codes "void") ∷ []))) → Prints after a z (statement_at spans names s (branch void []))
    unfolding with_member
    local_void h = local (branch void []) _ (sym (written-local-void spans names)) (by_parts spans statement_node s (word (codes "void") ∷ []) _ refl refl h)

    abbrev pub asserted : ConstAssert → List Part
    asserted x = word (codes "assert") ∷ attrs spans names x.attributes ∷ at_key spans names (codes "expr") x.expression ∷ []

    pub global_assert : {S : Type 0} {after : List Event → S → S → Type 0} {a z : Printer S} (x : ConstAssert) → PrintsEvents after a z (begins ∷ events_of (span_and declaration_node (asserted x))) → Prints after a z (declaration_at spans names s (assert_view x))
    unfolding with_member with_list
    global_assert x h = global (assert_view x) _ (as-global-assert spans names x _ refl) (by_parts spans declaration_node s (asserted x) _ refl refl h)

    pub local_assert : {S : Type 0} {after : List Event → S → S → Type 0} {a z : Printer S} (x : ConstAssert) → PrintsEvents after a z (begins ∷ events_of (span_and statement_node (asserted x))) → Prints after a z (statement_at spans names s (assert_view x))
    unfolding with_member with_list
    local_assert x h = local (assert_view x) _ (as-local-assert spans names x _ refl) (by_parts spans statement_node s (asserted x) _ refl refl h)

    abbrev pub declared_parts : Declaration → Text → Text → List Part
    declared_parts d w n =
        word w ∷ attrs spans names d.attributes ∷ space_part d.kind ∷ access_part d.kind ∷ name n ∷ type_option (codes "ty") d.ty ∷ expression_option spans names (codes "init") d.initializer ∷ []

    declared_put : (d : Declaration) → object (puts (declared_parts d (kind_text d.kind) (name_in names d.ident.0))) ≡ worded (kind_text d.kind) (declared spans names (children_of d.attributes) d.kind d.ident (optional type_view d.ty) (optional expression_tree d.initializer))
    unfolding with_member with_list
    declared_put d =
        let n = name_in names d.ident.0 in
        let front = word (kind_text d.kind) ∷ attrs spans names d.attributes ∷ [] in
        let init = with_option (codes "init") spans names (node an_expression) (optional expression_tree d.initializer) no_members in
        let ty = with_option (codes "ty") spans names (node a_type) (optional type_view d.ty) init in
        ap (λ ms. object (puts_before (word (kind_text d.kind) ∷ attrs spans names d.attributes ∷ space_part d.kind ∷ access_part d.kind ∷ name n ∷ type_option (codes "ty") d.ty ∷ []) ms)) (option_put spans names (codes "init") (node an_expression) expression_tree d.initializer no_members)
        ∙ ap (λ ms. object (puts_before (word (kind_text d.kind) ∷ attrs spans names d.attributes ∷ space_part d.kind ∷ access_part d.kind ∷ name n ∷ []) ms)) (option_put spans names (codes "ty") (node a_type) type_view d.ty init)
        ∙ ap (λ ms. object (puts_before front ms)) (both_put d.kind (put_part (name n) ty))

    renamed : (d : Declaration) (w n : Text) → w ≡ kind_text d.kind → n ≡ name_in names d.ident.0 → object (puts (declared_parts d w n)) ≡ worded (kind_text d.kind) (declared spans names (children_of d.attributes) d.kind d.ident (optional type_view d.ty) (optional expression_tree d.initializer))
    renamed d w n first second = ap (λ v. object (puts (declared_parts d v n))) first ∙ ap (λ v. object (puts (declared_parts d (kind_text d.kind) v))) second ∙ declared_put d

    pub global_declaration : {S : Type 0} {after : List Event → S → S → Type 0} {a z : Printer S} (d : Declaration) (w n : Text) → w ≡ kind_text d.kind → n ≡ name_in names d.ident.0 → PrintsEvents after a z (begins ∷ events_of (span_and declaration_node (declared_parts d w n))) → Prints after a z (declaration_at spans names s (declaration_view d))
    global_declaration d w n first second h = global (declaration_view d) _ (as-global spans names d _ refl) (by_parts spans declaration_node s (declared_parts d w n) _ refl (renamed d w n first second) h)

    pub local_declaration : {S : Type 0} {after : List Event → S → S → Type 0} {a z : Printer S} (d : Declaration) (w n : Text) → w ≡ kind_text d.kind → n ≡ name_in names d.ident.0 → PrintsEvents after a z (begins ∷ events_of (span_and statement_node (declared_parts d w n))) → Prints after a z (statement_at spans names s (declaration_view d))
    local_declaration d w n first second h = local (declaration_view d) _ (as-local spans names d _ refl) (by_parts spans statement_node s (declared_parts d w n) _ refl (renamed d w n first second) h)

    abbrev pub typed : Attributes → Text → TypeExpression → List Part
    typed a n t = attrs spans names a ∷ name n ∷ type_at (codes "ty") t ∷ []

    pub alias_printed : {S : Type 0} {after : List Event → S → S → Type 0} {a z : Printer S} (x : TypeAlias) (n : Text) → n ≡ name_in names x.ident.0 → PrintsEvents after a z (begins ∷ events_of (span_and declaration_node (word (codes "alias") ∷ typed x.attributes n x.ty))) → Prints after a z (declaration_at spans names s (alias_view x))
    unfolding with_member with_list
    alias_printed x n is h = global (alias_view x) _ (as-alias spans names x _ refl) (by_parts spans declaration_node s (word (codes "alias") ∷ typed x.attributes n x.ty) _ refl (ap (λ v. object (puts (word (codes "alias") ∷ typed x.attributes v x.ty))) is) h)

    abbrev pub struct_parts : Struct → Text → List Part
    struct_parts x n = word (codes "struct") ∷ attrs spans names x.attributes ∷ name n ∷ list_part (codes "members") (items_in spans names a_member (listed (placed member_view member_node) members x.members).children) ∷ []

    pub struct_printed : {S : Type 0} {after : List Event → S → S → Type 0} {a z : Printer S} (x : Struct) (n : Text) → n ≡ name_in names x.ident.0 → PrintsEvents after a z (begins ∷ events_of (span_and declaration_node (struct_parts x n))) → Prints after a z (declaration_at spans names s (struct_view x))
    unfolding with_member with_list
    struct_printed x n is h = global (struct_view x) _ (as-struct spans names x _ refl) (by_parts spans declaration_node s (struct_parts x n) _ refl (ap (λ v. object (puts (struct_parts x v))) is) h)

    abbrev function_front : Function → Text → List Part
    function_front x n =
        word (codes "fn") ∷ attrs spans names x.attributes ∷ name n ∷ list_part (codes "params") (items_in spans names a_parameter (listed parameter_view parameters x.parameters).children)
        ∷ list_part (codes "ret_attrs") (items_in spans names an_attribute (children_of x.return_attributes)) ∷ []

    abbrev pub function_parts : Function → Text → List Part
    function_parts x n =
        word (codes "fn") ∷ attrs spans names x.attributes ∷ name n ∷ list_part (codes "params") (items_in spans names a_parameter (listed parameter_view parameters x.parameters).children)
        ∷ list_part (codes "ret_attrs") (items_in spans names an_attribute (children_of x.return_attributes)) ∷ type_option (codes "ret") x.return_type ∷ body spans names x.body ∷ []

    pub function_printed : {S : Type 0} {after : List Event → S → S → Type 0} {a z : Printer S} (x : Function) (n : Text) → n ≡ name_in names x.ident.0 → PrintsEvents after a z (begins ∷ events_of (span_and declaration_node (function_parts x n))) → Prints after a z (declaration_at spans names s (function_view x))
    unfolding with_member with_list
    function_printed x n is h =
        global (function_view x) _ (as-function spans names x _ refl)
        (by_parts spans declaration_node s (function_parts x n) _ refl
        (ap (λ v. object (puts (function_parts x v))) is
        ∙ ap (λ ms. object (puts_before (function_front x (name_in names x.ident.0)) ms)) (option_put spans names (codes "ret") (node a_type) type_view x.return_type (put_part (body spans names x.body) no_members)))
        h)

    pub member_printed : {S : Type 0} {after : List Event → S → S → Type 0} {a z : Printer S} (x : StructMember) → PrintsEvents after a z (begins ∷ events_of (span_and member_node (typed x.attributes (string_bytes x.name) x.ty))) → Prints after a z (placed_at spans names a_member member_node s (member_view x))
    unfolding with_member with_list
    member_printed x h =
        told (ap events (ap (at_place spans member_node s) (as-member spans names x _ refl) ∙ sym (placed-member spans names s (member_view x) (codes "k")))) (by_parts spans member_node s (typed x.attributes (string_bytes x.name) x.ty) _ refl refl h)

  abbrev pub parameter_parts : FormalParameter → Text → List Part
  parameter_parts x n = attrs spans names x.attributes ∷ name n ∷ type_at (codes "ty") x.ty ∷ []

  pub parameter_printed : {S : Type 0} {after : List Event → S → S → Type 0} {a z : Printer S} (x : FormalParameter) (n : Text) → n ≡ name_in names x.ident.0 → PrintsEvents after a z (begins ∷ events_of (arranged (parameter_parts x n))) → Prints after a z (value_in spans names (node a_parameter) (parameter_view x))
  unfolding with_member with_list
  parameter_printed x n is h = told (object_events (parameter_parts x n) refl ∙ ap events (ap (λ v. object (puts (parameter_parts x v))) is ∙ as-parameter spans names x _ refl)) h
