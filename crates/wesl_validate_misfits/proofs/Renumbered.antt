-- Calls of a module that has other numbers.
use Rattle.std.proofs.Common.{◌≡◌, ℕ, zero, suc, ◌++◌, Bool, true, false, List, [], ◌∷◌, length, map, get_or, refl, ap, ◌∙◌, sym}
use Rattle.std.specs.Prelude.{if◌then◌else◌, flat_map}
use Rattle.std.proofs.lemmas.List.{map-append}
use Rattle.wesl_tree_syntax.specs.Nodes.{all_nodes, is_attributes, is_expression, is_formula, is_import_or_directive, is_statement, without_attributes, without_words}
use Rattle.wesl_tree_syntax.specs.Tree.{Label, Forest, Tree, end, tree, trees, kind, at, ident, absent, attributes, call_expression, call_statement, type_expression, expression_node, statement_node, if_attribute, elif_attribute, import_statement, diagnostic_directive, enable_directive, requires_directive, respell, respell_forest, respell_label}
use Rattle.wesl_validate_rules.specs.Calls.{CallOf, call_by, called_in, called_now, calls_in}

module _ (g : ℕ → ℕ) where
  abbrev respelt : Forest → Forest
  respelt f = respell_forest g f

  abbrev pub call_as : CallOf ℕ → CallOf ℕ
  call_as c = record { callee = g c.callee; arguments = c.arguments }

  abbrev pub calls_as : List (CallOf ℕ) → List (CallOf ℕ)
  calls_as cs = map call_as cs

  pub size_as : (f : Forest) → length (trees (respelt f)) ≡ length (trees f)
  size_as end = refl
  size_as (tree l children others) = ap suc (size_as others)

  call_by_as : (f : Forest) → call_by (respelt f) ≡ calls_as (call_by f)
  call_by_as (tree (kind type_expression) (tree (kind absent) a (tree (ident r x) b c)) (tree d arguments e)) = ap (λ n. record { callee = g x; arguments = n } ∷ []) (size_as arguments)
  call_by_as f = refl

  called_now_as : (f : Forest) → called_now (respelt f) ≡ calls_as (called_now f)
  called_now_as end = refl
  called_now_as (tree l fields others) = call_by_as fields

  called_in_as : (f : Forest) → called_in (respelt f) ≡ calls_as (called_in f)
  called_in_as (tree (kind call_expression) (tree l fields o) p) = call_by_as fields
  called_in_as (tree (kind call_statement) (tree l a others) p) = called_now_as others
  called_in_as f = refl

  gathered_as : (ts : List Tree) → flat_map (λ (t : Tree). called_in t.children) (map (respell g) ts) ≡ calls_as (flat_map (λ (t : Tree). called_in t.children) ts)
  gathered_as [] = refl
  gathered_as (t ∷ ts) =
      let rest = flat_map (λ (t : Tree). called_in t.children) ts in
      ap (λ cs. cs ++ flat_map (λ (t : Tree). called_in t.children) (map (respell g) ts)) (called_in_as t.children)
      ∙ (ap (λ cs. calls_as (called_in t.children) ++ cs) (gathered_as ts) ∙ sym (map-append call_as (called_in t.children) rest))

  attributes_as : (l : Label) → is_attributes (respell_label g l) ≡ is_attributes l
  attributes_as (kind attributes) = refl
  attributes_as l = refl

  formula_as : (l : Label) → is_formula (respell_label g l) ≡ is_formula l
  formula_as (kind if_attribute) = refl
  formula_as (kind elif_attribute) = refl
  formula_as l = refl

  directive_as : (l : Label) → is_import_or_directive (respell_label g l) ≡ is_import_or_directive l
  directive_as (kind import_statement) = refl
  directive_as (kind diagnostic_directive) = refl
  directive_as (kind enable_directive) = refl
  directive_as (kind requires_directive) = refl
  directive_as l = refl

  expression_as : (l : Label) → is_expression (respell_label g l) ≡ is_expression l
  expression_as (at expression_node s e) = refl
  expression_as l = refl

  statement_as : (l : Label) → is_statement (respell_label g l) ≡ is_statement l
  statement_as (at statement_node s e) = refl
  statement_as l = refl

  emptied_as : (t : Bool) (f : Forest) → (if t then end else respelt f) ≡ respelt (if t then end else f)
  emptied_as true f = refl
  emptied_as false f = refl

  bare_as : (f : Forest) → without_attributes (respelt f) ≡ respelt (without_attributes f)
  bare_as end = refl
  bare_as (tree l children others) =
      ap (λ t. tree (respell_label g l) (if t then end else respelt children) (without_attributes (respelt others))) (attributes_as l)
      ∙ (ap (λ f. tree (respell_label g l) f (without_attributes (respelt others))) (emptied_as (is_attributes l) children)
      ∙ ap (λ f. tree (respell_label g l) (respelt (if is_attributes l then end else children)) f) (bare_as others))

  chosen_as : (s t : Bool) (a b : Forest) → (if s then end else if t then respelt a else respelt b) ≡ respelt (if s then end else if t then a else b)
  chosen_as true t a b = refl
  chosen_as false true a b = refl
  chosen_as false false a b = refl

  words_as : (f : Forest) → without_words (respelt f) ≡ respelt (without_words f)
  words_as end = refl
  words_as (tree l children others) =
      let m = respell_label g l in
      let c = without_words children in
      let o = without_words (respelt others) in
      ap (λ s. tree m (if s then end else if is_import_or_directive m then without_attributes (without_words (respelt children)) else without_words (respelt children)) o) (formula_as l)
      ∙ (ap (λ t. tree m (if is_formula l then end else if t then without_attributes (without_words (respelt children)) else without_words (respelt children)) o) (directive_as l)
      ∙ (ap (λ f. tree m (if is_formula l then end else if is_import_or_directive l then without_attributes f else f) o) (words_as children)
      ∙ (ap (λ f. tree m (if is_formula l then end else if is_import_or_directive l then f else respelt c) o) (bare_as c)
      ∙ (ap (λ f. tree m f o) (chosen_as (is_formula l) (is_import_or_directive l) (without_attributes c) c)
      ∙ ap (λ f. tree m (respelt (if is_formula l then end else if is_import_or_directive l then without_attributes c else c)) f) (words_as others)))))

  module _ (p : Label → Bool) (same : (l : Label) → p (respell_label g l) ≡ p l) where
    here_as : (t : Bool) (l : Label) (children : Forest) → (if t then record { label = respell_label g l; children = respelt children } ∷ [] else []) ≡ map (respell g) (if t then record { label = l; children = children } ∷ [] else [])
    here_as true l children = refl
    here_as false l children = refl

    nodes_as : (f : Forest) → all_nodes p (respelt f) ≡ map (respell g) (all_nodes p f)
    nodes_as end = refl
    nodes_as (tree l children others) =
        let a : List Tree = if p l then record { label = l; children = children } ∷ [] else [] in
        let b = all_nodes p children in
        let c = all_nodes p others in
        ap (λ t. (if t then record { label = respell_label g l; children = respelt children } ∷ [] else []) ++ all_nodes p (respelt children) ++ all_nodes p (respelt others)) (same l)
        ∙ (ap (λ ts. ts ++ all_nodes p (respelt children) ++ all_nodes p (respelt others)) (here_as (p l) l children)
        ∙ (ap (λ ts. map (respell g) a ++ ts ++ all_nodes p (respelt others)) (nodes_as children)
        ∙ (ap (λ ts. map (respell g) a ++ map (respell g) b ++ ts) (nodes_as others)
        ∙ (ap (λ ts. ts ++ map (respell g) c) (sym (map-append (respell g) a b)) ∙ sym (map-append (respell g) (a ++ b) c)))))

  pub calls_in_as : (f : Forest) → calls_in (respelt f) ≡ calls_as (calls_in f)
  calls_in_as f =
      let e = flat_map (λ (t : Tree). called_in t.children) (all_nodes is_expression (without_words f)) in
      let s = flat_map (λ (t : Tree). called_in t.children) (all_nodes is_statement f) in
      ap (λ w. flat_map (λ (t : Tree). called_in t.children) (all_nodes is_expression w) ++ flat_map (λ (t : Tree). called_in t.children) (all_nodes is_statement (respelt f))) (words_as f)
      ∙ (ap (λ ts. flat_map (λ (t : Tree). called_in t.children) ts ++ flat_map (λ (t : Tree). called_in t.children) (all_nodes is_statement (respelt f))) (nodes_as is_expression expression_as (without_words f))
      ∙ (ap (λ cs. cs ++ flat_map (λ (t : Tree). called_in t.children) (all_nodes is_statement (respelt f))) (gathered_as (all_nodes is_expression (without_words f)))
      ∙ (ap (λ ts. calls_as e ++ flat_map (λ (t : Tree). called_in t.children) ts) (nodes_as is_statement statement_as f)
      ∙ (ap (λ cs. calls_as e ++ cs) (gathered_as (all_nodes is_statement f)) ∙ sym (map-append call_as e s)))))

  node_as : (f : Forest) (j : ℕ) → get_or (map (λ (t : Tree). t.children) (trees (respelt f))) j end ≡ respelt (get_or (map (λ (t : Tree). t.children) (trees f)) j end)
  node_as end j = refl
  node_as (tree l children others) zero = refl
  node_as (tree l children others) (suc j) = node_as others j

  -- those of one declaration
  pub calls_at_as : (f : Forest) (j : ℕ) → calls_as (calls_in (get_or (map (λ (t : Tree). t.children) (trees f)) j end)) ≡ calls_in (get_or (map (λ (t : Tree). t.children) (trees (respelt f))) j end)
  calls_at_as f j = sym (ap calls_in (node_as f j) ∙ calls_in_as (get_or (map (λ (t : Tree). t.children) (trees f)) j end))
