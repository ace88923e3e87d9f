-- What the walk finds is what visits are to find.
use Rattle.std.proofs.Common.{◌≡◌, Bool, true, false, List, [], ◌∷◌, ◌++◌, refl, sym, ap, ◌∙◌, if◌then◌else◌}
use Rattle.wesl_tree_syntax.specs.Tree.{Label, Forest, Tree, end, tree, before, kind, at, expression_node, statement_node, attributes, type_expression, if_attribute, elif_attribute, import_statement, diagnostic_directive, enable_directive, requires_directive}
use Rattle.wesl_tree_syntax.specs.Nodes.{all_nodes, outermost, is_formula, is_import_or_directive, without_attributes, without_words}
use Rattle.wesl_visit_collect.specs.Sought.{Sought, expressions, types, statements, attribute_lists, test}
use Rattle.wesl_visit_collect.specs.Seen.{seen, below, inside}
use Rattle.wesl_visit_collect.specs.Walk.{chosen, sight, sight_below, strictly}
use Rattle.wesl_visit_collect.specs.Picks.{picks}
use Rattle.wesl_visit_collect.proofs.Labels.{sight_whole}

pub agrees : (k : Sought) (l : Label) → test k l ≡ picks k l
agrees expressions (at expression_node s e) = refl
agrees expressions (at statement_node s e) = refl
agrees expressions (kind type_expression) = refl
agrees expressions (kind attributes) = refl
agrees expressions _ = refl
agrees types (at expression_node s e) = refl
agrees types (at statement_node s e) = refl
agrees types (kind type_expression) = refl
agrees types (kind attributes) = refl
agrees types _ = refl
agrees statements (at expression_node s e) = refl
agrees statements (at statement_node s e) = refl
agrees statements (kind type_expression) = refl
agrees statements (kind attributes) = refl
agrees statements _ = refl
agrees attribute_lists (at expression_node s e) = refl
agrees attribute_lists (at statement_node s e) = refl
agrees attribute_lists (kind type_expression) = refl
agrees attribute_lists (kind attributes) = refl
agrees attribute_lists _ = refl

expressions_below : (l : Label) (f : Forest) → (if is_formula l then end else if is_import_or_directive l then without_attributes f else f) ≡ sight_below expressions l f
expressions_below (kind if_attribute) f = refl
expressions_below (kind elif_attribute) f = refl
expressions_below (kind import_statement) f = refl
expressions_below (kind diagnostic_directive) f = refl
expressions_below (kind enable_directive) f = refl
expressions_below (kind requires_directive) f = refl
expressions_below _ f = refl

types_below : (l : Label) (f : Forest) → (if is_formula l then end else if is_import_or_directive l then without_attributes f else f) ≡ sight_below types l f
types_below (kind if_attribute) f = refl
types_below (kind elif_attribute) f = refl
types_below (kind import_statement) f = refl
types_below (kind diagnostic_directive) f = refl
types_below (kind enable_directive) f = refl
types_below (kind requires_directive) f = refl
types_below _ f = refl

expressions_seen : (f : Forest) → without_words f ≡ sight expressions f
expressions_seen end = refl
expressions_seen (tree l children others) = rw (expressions_seen children, expressions_seen others, expressions_below l (sight expressions children)) refl

types_seen : (f : Forest) → without_words f ≡ sight types f
types_seen end = refl
types_seen (tree l children others) = rw (types_seen children, types_seen others, types_below l (sight types children)) refl

pub all_seen : (k : Sought) (f : Forest) → seen k f ≡ sight k f
all_seen expressions f = expressions_seen f
all_seen types f = types_seen f
all_seen statements f = sym (sight_whole statements f refl)
all_seen attribute_lists f = sym (sight_whole attribute_lists f refl)

outermost_here : (a b : Bool) (t : Tree) (c d e f : List Tree) → a ≡ b → c ≡ d → e ≡ f → (if a then t ∷ [] else c) ++ e ≡ (if b then t ∷ (if false then d else []) else d) ++ f
outermost_here a b t c d e f p q r = rw (p, q, r) refl

outermost_chosen : (k : Sought) (f : Forest) → outermost (test k) f ≡ chosen k false f
outermost_chosen k end = refl
outermost_chosen k (tree l children others) =
    outermost_here (test k l) (picks k l) (record { label = l; children = children }) (outermost (test k) children) (chosen k false children) (outermost (test k) others) (chosen k false others)
    (agrees k l) (outermost_chosen k children) (outermost_chosen k others)

all_here : (b : Bool) (t : Tree) (d f : List Tree) → (if b then t ∷ [] else []) ++ d ++ f ≡ (if b then t ∷ d else d) ++ f
all_here true t d f = refl
all_here false t d f = refl

all_chosen : (k : Sought) (f : Forest) → all_nodes (test k) f ≡ chosen k true f
all_chosen k end = refl
all_chosen k (tree l children others) = rw (agrees k l, all_chosen k children, all_chosen k others) (all_here (picks k l) (record { label = l; children = children }) (chosen k true children) (chosen k true others))

pub outermost_found : (k : Sought) (t : Tree) → strictly k false t ≡ outermost (test k) (below k t)
outermost_found k t = ap (λ f. chosen k false (inside f)) (sym (all_seen k (before t end))) ∙ sym (outermost_chosen k (below k t))

pub all_found_below : (k : Sought) (t : Tree) → strictly k true t ≡ all_nodes (test k) (below k t)
all_found_below k t = ap (λ f. chosen k true (inside f)) (sym (all_seen k (before t end))) ∙ sym (all_chosen k (below k t))
