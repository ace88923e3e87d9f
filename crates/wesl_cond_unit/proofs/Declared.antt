-- Faults in imports, directives and declarations, from the faults in their parts.
use Rattle.std.proofs.Common.{◌≡◌, ℕ, false, true, List, [], ◌∷◌, map, Option, Result, Ok, Err, refl, sym, ap, ◌∙◌, subst}
use Rattle.wesl_cond_chains.specs.Places.{list_places}
use Rattle.wesl_cond_chains.specs.Faults.{list_at}
use Rattle.wesl_cond_chains.specs.Judging.{IsClear, Checks, RefusesIn}
use Rattle.wesl_cond_chains.specs.Lists.{elements, alone, judged, is_entered, holds_body}
use Rattle.wesl_cond_unit.proofs.Checked.{clear_optional}
use Rattle.wesl_cond_unit.proofs.Levels.{type_label}
use Rattle.wesl_cond_unit.proofs.Standing.{stay, list_checked, list_refused, first_refused, next_checked, skip}
use Rattle.wesl_cond_unit.proofs.Walked.{clear_nodes}
use Rattle.wesl_cond_chains.specs.Evaluation.{Judges, Refuses}
use Rattle.wesl_cond_features.specs.Features.{Replies, known}
use Rattle.wesl_tree_names.specs.Path.{Text}
use Rattle.wesl_tree_names.specs.declared.errors.Diagnostic.{Diagnostic}
use Rattle.wesl_tree_syntax.specs.Tree.{Tree, Label, Forest, end, tree, kind, at, before, branch, binder, forest_of, imports, import_node, directive_list, directive_node, declarations, declaration_node, struct, members, member_node, function, parameters}
use Rattle.wesl_tree_syntax.specs.View.{attributes_tree, compound_view, directive_view, function_view, global_view, ident_tree, import_view, listed, member_view, optional, parameter_view, placed, struct_view, type_view}
use Rattle.wesl_tree_syntax.specs.declared.declaration.Function.{Function}
use Rattle.wesl_tree_syntax.specs.declared.declaration.FormalParameter.{FormalParameter}
use Rattle.wesl_tree_syntax.specs.declared.declaration.GlobalDeclaration.{GlobalDeclaration}
use Rattle.wesl_tree_syntax.specs.declared.declaration.GlobalDirective.{GlobalDirective}
use Rattle.wesl_tree_syntax.specs.declared.declaration.Struct.{Struct}
use Rattle.wesl_tree_syntax.specs.declared.declaration.StructMember.{StructMember}
use Rattle.wesl_tree_syntax.specs.declared.expression.TypeExpression.{TypeExpression}
use Rattle.wesl_tree_syntax.specs.declared.import.ImportStatement.{ImportStatement}
use Rattle.wesl_tree_syntax.specs.declared.span.Spanned.{Spanned}

module _ (reply : Replies ℕ) (names : List Text) where
  -- a list of nodes that hold no list
  module _ {A R : Type 0} (view : A → Tree) (leaf : (x : A) → is_entered (view x).label ≡ false) (l : Label) (xs : List A) where
    leaves_judged : is_entered l ≡ true → list_at false l (forest_of (map view xs)) ≡ elements false (forest_of (map view xs)) → holds_body false l ≡ false → judged (stay reply) false l (forest_of (map view xs)) ≡ alone (stay reply) (forest_of (map view xs))
        → (r : Result R Diagnostic) → Judges names (list_places reply false (elements false (forest_of (map view xs)))) r → Checks names reply (tree l (forest_of (map view xs)) end) r
    leaves_judged en its apart all (Ok x) h =
        list_checked reply names l (forest_of (map view xs)) (Ok x) en (ap (list_places reply false) its ∙ h) apart
        (subst (IsClear reply) (sym all) (clear_nodes reply view leaf xs))
    leaves_judged en its apart all (Err e) h = list_refused reply names l (forest_of (map view xs)) e en (subst (λ ys. Refuses names (list_places reply false ys) e) (sym its) h)

  module _ {R : Type 0} (r : Result R Diagnostic) where
    abbrev Good : Tree → Type 0
    Good t = Checks names reply (before t end) r

    pub imports_judged : (xs : List (Spanned ImportStatement)) → Judges names (list_places reply false (elements false (forest_of (map (placed import_view import_node) xs)))) r → Good (branch imports (map (placed import_view import_node) xs))
    imports_judged xs h = leaves_judged (placed import_view import_node) (λ x. refl) (kind imports) xs refl refl refl refl r h

    pub directives_judged : (xs : List (Spanned GlobalDirective)) → Judges names (list_places reply false (elements false (forest_of (map (placed directive_view directive_node) xs)))) r → Good (branch directive_list (map (placed directive_view directive_node) xs))
    directives_judged xs h = leaves_judged (placed directive_view directive_node) (λ x. refl) (kind directive_list) xs refl refl refl refl r h

    members_judged : (xs : List (Spanned StructMember)) → Judges names (list_places reply false (elements false (forest_of (map (placed member_view member_node) xs)))) r → Good (branch members (map (placed member_view member_node) xs))
    members_judged xs h = leaves_judged (placed member_view member_node) (λ x. refl) (kind members) xs refl refl refl refl r h

    parameters_judged : (xs : List FormalParameter) → Judges names (list_places reply false (elements false (forest_of (map parameter_view xs)))) r → Good (branch parameters (map parameter_view xs))
    parameters_judged xs h = leaves_judged parameter_view (λ x. refl) (kind parameters) xs refl refl refl refl r h

    pub struct_judged : (s : Struct) → Judges names (list_places reply false (elements false (forest_of (map (placed member_view member_node) s.members.items)))) r → Good (struct_view s)
    struct_judged s h =
        let m = listed (placed member_view member_node) members s.members in
        list_checked reply names (kind struct) (forest_of (attributes_tree s.attributes ∷ ident_tree binder s.ident ∷ m ∷ [])) r refl refl refl
        (skip reply names (attributes_tree s.attributes) (forest_of (ident_tree binder s.ident ∷ m ∷ [])) r refl (skip reply names (ident_tree binder s.ident) (before m end) r refl (members_judged s.members.items h)))

    pub declarations_checked : (xs : List (Spanned GlobalDeclaration)) → list_places reply false (elements false (forest_of (map (placed global_view declaration_node) xs))) ≡ []
        → Checks names reply (alone (stay reply) (forest_of (map (placed global_view declaration_node) xs))) r → Good (branch declarations (map (placed global_view declaration_node) xs))
    declarations_checked xs clear h = list_checked reply names (kind declarations) (forest_of (map (placed global_view declaration_node) xs)) r refl clear refl h

    pub global_checked : (n : Spanned GlobalDeclaration) → Good (global_view n.node) → Good (placed global_view declaration_node n)
    global_checked n h = list_checked reply names (at declaration_node n.span.start n.span.end) (before (global_view n.node) end) r refl refl refl h

  -- a function
  module _ (f : Function) where
    abbrev its_parameters : Tree
    its_parameters = listed parameter_view parameters f.parameters

    abbrev after : Forest
    after = forest_of (attributes_tree f.return_attributes ∷ optional type_view f.return_type ∷ compound_view f.body ∷ [])

    around : {R : Type 0} (r : Result R Diagnostic) → Checks names reply (before its_parameters after) r → Checks names reply (before (function_view f) end) r
    around r h =
        list_checked reply names (kind function) (before (attributes_tree f.attributes) (before (ident_tree binder f.ident) (before its_parameters after))) r refl refl refl
        (skip reply names (attributes_tree f.attributes) (before (ident_tree binder f.ident) (before its_parameters after)) r refl (skip reply names (ident_tree binder f.ident) (before its_parameters after) r refl h))

    clear_type : (o : Option TypeExpression) → IsClear reply (before (optional type_view o) end)
    clear_type o = clear_optional reply names type_view (λ t. ap is_entered (type_label (known reply) t)) o

    pub function_refused : (e : Diagnostic) → Refuses names (list_places reply false (elements false (forest_of (map parameter_view f.parameters.items)))) e → RefusesIn names reply (before (function_view f) end) e
    function_refused e h = around {R = ℕ} (Err e) (first_refused reply names its_parameters after e (parameters_judged {R = ℕ} (Err e) f.parameters.items h))

    pub function_checked : {R : Type 0} (r : Result R Diagnostic) → list_places reply false (elements false (forest_of (map parameter_view f.parameters.items))) ≡ [] → Checks names reply (before (compound_view f.body) end) r → Checks names reply (before (function_view f) end) r
    function_checked r clear h =
        around r (next_checked reply names its_parameters after r (parameters_judged {R = ℕ} (Ok 0) f.parameters.items clear)
        (skip reply names (attributes_tree f.return_attributes) (forest_of (optional type_view f.return_type ∷ compound_view f.body ∷ [])) r refl
        (next_checked reply names (optional type_view f.return_type) (before (compound_view f.body) end) r (clear_type f.return_type) h)))
