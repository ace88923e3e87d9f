-- What is left of a node, from what is left of its parts.
use Rattle.std.proofs.Common.{◌≡◌, ℕ, true, false, cond, List, [], ◌∷◌, ◌++◌, map, Option, Some, None, Vec, Global, refl, sym, ap, ◌∙◌}
use Rattle.wesl_cond_chains.specs.Chains.{residual_list}
use Rattle.wesl_cond_chains.specs.Lists.{Element, element, elements, back, option_of, alone, closed, judged, is_entered, holds_body, through}
use Rattle.wesl_cond_chains.specs.Nodes.{as_element, optional_elements, optional_forest}
use Rattle.wesl_cond_chains.specs.Residual.{residual_tree}
use Rattle.wesl_cond_features.specs.Answers.{Answers}
use Rattle.wesl_tree_syntax.specs.Tree.{Forest, Tree, end, tree, kind, branch, before, forest_of, compound, statements, list, clauses, loop, continuing, present, type_expression, imports, import_node, directive_list, directive_node, declarations, members, member_node, parameters}
use Rattle.wesl_tree_syntax.specs.View.{attributes_tree, optional, placed, import_view, directive_view, member_view, parameter_view, type_view, expression_step, call_step, argument_step, type_step}
use Rattle.wesl_tree_syntax.specs.declared.expression.TypeExpression.{TypeExpression}
use Rattle.wesl_tree_syntax.specs.declared.expression.Expression.TheFolds.{fold_out-TypeExpression}
use Rattle.wesl_tree_syntax.specs.declared.import.ImportStatement.{ImportStatement}
use Rattle.wesl_tree_syntax.specs.declared.declaration.GlobalDirective.{GlobalDirective}
use Rattle.wesl_tree_syntax.specs.declared.declaration.StructMember.{StructMember}
use Rattle.wesl_tree_syntax.specs.declared.declaration.FormalParameter.{FormalParameter}
use Rattle.wesl_tree_syntax.specs.declared.attribute.Attribute.{Attribute}
use Rattle.wesl_tree_syntax.specs.declared.span.Spanned.{Spanned}

module _ (known : Answers ℕ) where
  abbrev judge : List (Element ℕ) → List (Element ℕ)
  judge = residual_list element known

  abbrev left : Tree → Tree
  left = residual_tree known

  pub each_left : (ts : List Tree) → through judge false (forest_of ts) ≡ forest_of (map left ts)
  each_left [] = refl
  each_left (t ∷ ts) = ap (λ f. before (left t) f) (each_left ts)

  -- a list that is not judged
  pub listed_left : (ts : List Tree) → left (branch list ts) ≡ branch list (map left ts)
  listed_left ts = ap (λ f. record { label = kind list; children = f }) (each_left ts)

  -- the list of a switch's clauses, and a body
  pub clauses_left : (ts us vs : List Tree) → us ≡ map left ts → forest_of vs ≡ alone judge (forest_of us) → branch clauses vs ≡ left (branch clauses ts)
  clauses_left ts us vs e d = ap (λ f. record { label = kind clauses; children = f }) (d ∙ ap (λ xs. alone judge (forest_of xs)) e ∙ ap (alone judge) (sym (each_left ts)))

  pub body_left : (a : Vec (Spanned Attribute) Global) (ts us vs : List Tree) → us ≡ map left ts → forest_of vs ≡ alone judge (forest_of us)
      → branch compound (attributes_tree a ∷ branch statements vs ∷ []) ≡ left (branch compound (attributes_tree a ∷ branch statements ts ∷ []))
  body_left a ts us vs e d =
      ap (λ f. record { label = kind compound; children = before (attributes_tree a) (tree (kind statements) f end) })
      (d ∙ ap (λ xs. alone judge (forest_of xs)) e ∙ ap (alone judge) (sym (each_left ts)))

  -- What a loop and a continuing block hold.
  back_open : {A B : Type 0} (view : A → Tree) (last : B → Tree) (xs : List A) (o : Option B) → back false (map (λ x. as_element false (view x)) xs ++ optional_elements true last o) ≡ forest_of (map view xs)
  back_open view last [] None = refl
  back_open view last [] (Some y) = refl
  back_open view last (x ∷ xs) o = ap (before (view x)) (back_open view last xs o)

  back_closing : {A B : Type 0} (view : A → Tree) (last : B → Tree) (xs : List A) (o : Option B) → back true (map (λ x. as_element false (view x)) xs ++ optional_elements true last o) ≡ optional_forest last o
  back_closing view last [] None = refl
  back_closing view last [] (Some y) = refl
  back_closing view last (x ∷ xs) o = back_closing view last xs o

  option_back : {B : Type 0} (last : B → Tree) (o : Option B) → option_of (optional_forest last o) end ≡ before (optional last o) end
  option_back last None = refl
  option_back last (Some y) = refl

  -- what closes a list, judged inside
  abbrev pub inner : {B : Type 0} → (B → Tree) → Option B → Forest
  inner last None = end
  inner last (Some y) = before (left (last y)) end

  pub inner_left : {B : Type 0} (last : B → Tree) (o p : Option B) → optional last p ≡ left (optional last o) → optional_forest last p ≡ inner last o
  inner_left last None None e = refl
  inner_left last None (Some z) e = ap (λ t. t.children) e
  inner_left last (Some y) None e = ap (λ t. t.children) e
  inner_left last (Some y) (Some z) e = ap (λ t. t.children) e

  abbrev rebuilt : Vec (Spanned Attribute) Global → Vec (Spanned Attribute) Global → List (Element ℕ) → Forest
  rebuilt a b kept = before (attributes_tree a) (tree (kind compound) (before (attributes_tree b) (tree (kind statements) (back false kept) end)) (option_of (back true kept) end))

  closed_parts : {B : Type 0} (a b : Vec (Spanned Attribute) Global) (ts : List Tree) (last : B → Tree) (o : Option B)
      → closed judge (through judge true (forest_of (attributes_tree a ∷ branch compound (attributes_tree b ∷ branch statements ts ∷ []) ∷ optional last o ∷ [])))
      ≡ rebuilt a b (judge (elements false (forest_of (map left ts)) ++ elements true (inner last o)))
  closed_parts a b ts last None = ap (λ f. rebuilt a b (judge (elements false f ++ []))) (each_left ts)
  closed_parts a b ts last (Some y) = ap (λ f. rebuilt a b (judge (elements false f ++ elements true (before (left (last y)) end)))) (each_left ts)

  module _ {A B : Type 0} (view : A → Tree) (last : B → Tree) (a b : Vec (Spanned Attribute) Global) where
    abbrev pub parts : List A → Option B → List Tree
    parts xs o = attributes_tree a ∷ branch compound (attributes_tree b ∷ branch statements (map view xs) ∷ []) ∷ optional last o ∷ []

    kept_parts : (xs : List A) (o : Option B) (kept : List (Element ℕ)) → map (λ x. as_element false (view x)) xs ++ optional_elements true last o ≡ kept → forest_of (parts xs o) ≡ rebuilt a b kept
    kept_parts xs o kept e =
        ap (λ f. before (attributes_tree a) (tree (kind compound) (before (attributes_tree b) (tree (kind statements) f end)) (before (optional last o) end))) (sym (back_open view last xs o) ∙ ap (back false) e)
        ∙ ap (λ f. before (attributes_tree a) (tree (kind compound) (before (attributes_tree b) (tree (kind statements) (back false kept) end)) f)) (sym (option_back last o) ∙ ap (λ f. option_of f end) (sym (back_closing view last xs o) ∙ ap (back true) e))

    -- xs and o before, ys and p judged inside, zs and q what stays
    closed_left : (xs ys zs : List A) (o p q : Option B) → map view ys ≡ map left (map view xs) → optional_forest last p ≡ inner last o
        → map (λ x. as_element false (view x)) zs ++ optional_elements true last q ≡ judge (elements false (forest_of (map view ys)) ++ elements true (optional_forest last p))
        → forest_of (parts zs q) ≡ closed judge (through judge true (forest_of (parts xs o)))
    closed_left xs ys zs o p q e d kept =
        kept_parts zs q _ (kept ∙ ap (λ ts. judge (elements false (forest_of ts) ++ elements true (optional_forest last p))) e ∙ ap (λ f. judge (elements false (forest_of (map left (map view xs))) ++ elements true f)) d)
        ∙ sym (closed_parts a b (map view xs) last o)

    pub loop_left : (xs ys zs : List A) (o p q : Option B) → map view ys ≡ map left (map view xs) → optional_forest last p ≡ inner last o
        → map (λ x. as_element false (view x)) zs ++ optional_elements true last q ≡ judge (elements false (forest_of (map view ys)) ++ elements true (optional_forest last p))
        → branch loop (parts zs q) ≡ left (branch loop (parts xs o))
    loop_left xs ys zs o p q e d kept = ap (λ f. record { label = kind loop; children = f }) (closed_left xs ys zs o p q e d kept)

    pub continuing_left : (xs ys zs : List A) (o p q : Option B) → map view ys ≡ map left (map view xs) → optional_forest last p ≡ inner last o
        → map (λ x. as_element false (view x)) zs ++ optional_elements true last q ≡ judge (elements false (forest_of (map view ys)) ++ elements true (optional_forest last p))
        → branch continuing (parts zs q) ≡ left (branch continuing (parts xs o))
    continuing_left xs ys zs o p q e d kept = ap (λ f. record { label = kind continuing; children = f }) (closed_left xs ys zs o p q e d kept)

  -- a list of nodes of one kind that holds no list
  pub nodes_left : {A : Type 0} (view : A → Tree) (same : (x : A) → left (view x) ≡ view x) (xs : List A) → map left (map view xs) ≡ map view xs
  nodes_left view same [] = refl
  nodes_left view same (x ∷ xs) = rw (same x, nodes_left view same xs) refl

  pub type_label : (t : TypeExpression) → (type_view t).label ≡ kind type_expression
  type_label t = ap (λ u. u.label) (fold_out-TypeExpression Tree Tree Tree Tree expression_step call_step argument_step type_step t)

  pub type_left : (o : Option TypeExpression) → optional type_view o ≡ left (optional type_view o)
  type_left None = refl
  type_left (Some t) = let e : is_entered (type_view t).label ≡ false = ap is_entered (type_label t) in
      ap (λ b. record { label = kind present; children = tree (type_view t).label (cond b (judged judge false (type_view t).label (through judge (holds_body false (type_view t).label) (type_view t).children)) (type_view t).children) end }) (sym e)

  pub imports_left : (xs ys : List (Spanned ImportStatement)) → forest_of (map (placed import_view import_node) ys) ≡ alone judge (forest_of (map (placed import_view import_node) xs))
      → branch imports (map (placed import_view import_node) ys) ≡ left (branch imports (map (placed import_view import_node) xs))
  imports_left xs ys e = ap (λ f. record { label = kind imports; children = f }) (e ∙ ap (alone judge) (sym (each_left (map (placed import_view import_node) xs) ∙ ap forest_of (nodes_left (placed import_view import_node) (λ x. refl) xs))))

  pub directives_left : (xs ys : List (Spanned GlobalDirective)) → forest_of (map (placed directive_view directive_node) ys) ≡ alone judge (forest_of (map (placed directive_view directive_node) xs))
      → branch directive_list (map (placed directive_view directive_node) ys) ≡ left (branch directive_list (map (placed directive_view directive_node) xs))
  directives_left xs ys e = ap (λ f. record { label = kind directive_list; children = f }) (e ∙ ap (alone judge) (sym (each_left (map (placed directive_view directive_node) xs) ∙ ap forest_of (nodes_left (placed directive_view directive_node) (λ x. refl) xs))))

  pub declarations_left : (ts us vs : List Tree) → us ≡ map left ts → forest_of vs ≡ alone judge (forest_of us) → branch declarations vs ≡ left (branch declarations ts)
  declarations_left ts us vs e d = ap (λ f. record { label = kind declarations; children = f }) (d ∙ ap (λ xs. alone judge (forest_of xs)) e ∙ ap (alone judge) (sym (each_left ts)))

  pub members_left : (xs ys : List (Spanned StructMember)) → forest_of (map (placed member_view member_node) ys) ≡ alone judge (forest_of (map (placed member_view member_node) xs))
      → branch members (map (placed member_view member_node) ys) ≡ left (branch members (map (placed member_view member_node) xs))
  members_left xs ys e = ap (λ f. record { label = kind members; children = f }) (e ∙ ap (alone judge) (sym (each_left (map (placed member_view member_node) xs) ∙ ap forest_of (nodes_left (placed member_view member_node) (λ x. refl) xs))))

  pub parameters_left : (xs ys : List FormalParameter) → forest_of (map parameter_view ys) ≡ alone judge (forest_of (map parameter_view xs))
      → branch parameters (map parameter_view ys) ≡ left (branch parameters (map parameter_view xs))
  parameters_left xs ys e = ap (λ f. record { label = kind parameters; children = f }) (e ∙ ap (alone judge) (sym (each_left (map parameter_view xs) ∙ ap forest_of (nodes_left parameter_view (λ x. refl) xs))))
