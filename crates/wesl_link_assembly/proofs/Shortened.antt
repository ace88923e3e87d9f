-- What a rewriting leaves that takes the path away from each type expression.
use Rattle.std.proofs.Common.{◌≡◌, ℕ, Bool, true, false, ◌&&◌, refl, sym, ◌∙◌, ap}
use Rattle.std.specs.Prelude.{if◌then◌else◌}
use Rattle.wesl_tree_syntax.specs.Tree.{Kind, Label, Forest, Tree, tree, kind, at, ident, text, texts, truth, unary, binary, assignment, space, access, path, expression_node, statement_node, attribute_node, member_node, import_node, directive_node, declaration_node, literal, parenthesized, named_component, indexing, call_expression, call, type_or_identifier, type_expression, template_argument, list, present, absent, attributes, statements, clauses, members, parameters, align, binding, blend_src, builtin, const_attribute, diagnostic, group, id, interpolate, invariant_attribute, location, must_use, size, workgroup_size, vertex, fragment, compute, publish, if_attribute, elif_attribute, else_attribute, custom, void, compound_statement, compound, increment, decrement, if_statement, if_clause, else_if_clause, else_clause, switch, switch_clause, default_case, expression_case, loop, continuing, break_if, for_loop, while_loop, break, continue, return, discard, call_statement, const_assert, import_statement, import_item, import_collection, import_entry, diagnostic_directive, enable_directive, requires_directive, type_alias, struct, member, function, parameter, declaration, const_kind, override_kind, let_kind, var_kind, imports, directive_list, declarations, unit}
use Rattle.wesl_tree_syntax.specs.Nodes.{is_type}
use Rattle.wesl_visit_collect.specs.Sought.{types}
use Rattle.wesl_visit_rewrite.specs.Replaced.{Rule, rule, Replaced, nothing, word, other, as_it_stands, inner_first, ReplacedBelow, of_word, of_other}
use Rattle.wesl_tree_syntax.specs.Unit.{UnitView, forest_of_unit, trees_of}
use Rattle.wesl_visit_rewrite.specs.Holders.{unit_tree}
use Rattle.wesl_visit_rewrite.specs.Went.{WentBelow, WentBelowBy}
use Rattle.wesl_link_assembly.specs.Pathless.{without_path, has_words, without_paths, pathless}

-- no node of words is a type expression
one_of_two : (k : Kind) → (is_type {I = ℕ} (kind k) && has_words {I = ℕ} (kind k)) ≡ false
one_of_two expression_node = refl
one_of_two statement_node = refl
one_of_two attribute_node = refl
one_of_two member_node = refl
one_of_two import_node = refl
one_of_two directive_node = refl
one_of_two declaration_node = refl
one_of_two literal = refl
one_of_two parenthesized = refl
one_of_two named_component = refl
one_of_two indexing = refl
one_of_two call_expression = refl
one_of_two call = refl
one_of_two type_or_identifier = refl
one_of_two type_expression = refl
one_of_two template_argument = refl
one_of_two list = refl
one_of_two present = refl
one_of_two absent = refl
one_of_two attributes = refl
one_of_two statements = refl
one_of_two clauses = refl
one_of_two members = refl
one_of_two parameters = refl
one_of_two align = refl
one_of_two binding = refl
one_of_two blend_src = refl
one_of_two builtin = refl
one_of_two const_attribute = refl
one_of_two diagnostic = refl
one_of_two group = refl
one_of_two id = refl
one_of_two interpolate = refl
one_of_two invariant_attribute = refl
one_of_two location = refl
one_of_two must_use = refl
one_of_two size = refl
one_of_two workgroup_size = refl
one_of_two vertex = refl
one_of_two fragment = refl
one_of_two compute = refl
one_of_two publish = refl
one_of_two if_attribute = refl
one_of_two elif_attribute = refl
one_of_two else_attribute = refl
one_of_two custom = refl
one_of_two void = refl
one_of_two compound_statement = refl
one_of_two compound = refl
one_of_two increment = refl
one_of_two decrement = refl
one_of_two if_statement = refl
one_of_two if_clause = refl
one_of_two else_if_clause = refl
one_of_two else_clause = refl
one_of_two switch = refl
one_of_two switch_clause = refl
one_of_two default_case = refl
one_of_two expression_case = refl
one_of_two loop = refl
one_of_two continuing = refl
one_of_two break_if = refl
one_of_two for_loop = refl
one_of_two while_loop = refl
one_of_two break = refl
one_of_two continue = refl
one_of_two return = refl
one_of_two discard = refl
one_of_two call_statement = refl
one_of_two const_assert = refl
one_of_two import_statement = refl
one_of_two import_item = refl
one_of_two import_collection = refl
one_of_two import_entry = refl
one_of_two diagnostic_directive = refl
one_of_two enable_directive = refl
one_of_two requires_directive = refl
one_of_two type_alias = refl
one_of_two struct = refl
one_of_two member = refl
one_of_two function = refl
one_of_two parameter = refl
one_of_two declaration = refl
one_of_two const_kind = refl
one_of_two override_kind = refl
one_of_two let_kind = refl
one_of_two var_kind = refl
one_of_two imports = refl
one_of_two directive_list = refl
one_of_two declarations = refl
one_of_two unit = refl

exclusive : (l : Label) → (is_type l && has_words l) ≡ false
exclusive (kind k) = one_of_two k
exclusive (at k s e) = refl
exclusive (ident r x) = refl
exclusive (text v) = refl
exclusive (texts v) = refl
exclusive (truth v) = refl
exclusive (unary v) = refl
exclusive (binary v) = refl
exclusive (assignment v) = refl
exclusive (space v) = refl
exclusive (access v) = refl
exclusive (path v) = refl

of_words : (a b : Bool) (f g : Forest) → b ≡ true → (a && b) ≡ false → f ≡ (if a then without_path g else if b then f else g)
of_words true true f g h e = absurd (let x : ⊥ = cc in x)
of_words false true f g h e = refl
of_words a false f g h e = absurd (let x : ⊥ = cc in x)

of_others : (a b : Bool) (f g h : Forest) → b ≡ false → a ≡ false → h ≡ g → h ≡ (if a then without_path g else if b then f else g)
of_others false false f g h d e same = same
of_others true b f g h d e same = absurd (let x : ⊥ = cc in x)
of_others false true f g h d e same = absurd (let x : ⊥ = cc in x)

of_types : (a b : Bool) (f g h : Forest) → a ≡ true → h ≡ without_path g → h ≡ (if a then without_path g else if b then f else g)
of_types true b f g h e same = same
of_types false b f g h e same = absurd (let x : ⊥ = cc in x)

abbrev pub shorter : Rule
shorter = rule types (λ before after. after ≡ pathless before) true

pub shortened : (f g : Forest) → Replaced shorter f g → g ≡ without_paths f
shortened _ _ nothing = refl
shortened _ _ (word {l = l} {f = f} {g = g} {h = h} e r) =
    ap (λ x. tree l x h) (of_words (is_type l) (has_words l) f (without_paths f) e (exclusive l)) ∙ ap (λ x. tree l (if is_type l then without_path (without_paths f) else if has_words l then f else without_paths f) x) (shortened g h r)
shortened _ _ (other {l = l} {f = f} {f' = f'} {g = g} {h = h} e t s r) =
    ap (λ x. tree l x h) (of_others (is_type l) (has_words l) f (without_paths f) f' e t (shortened f f' s)) ∙ ap (λ x. tree l (if is_type l then without_path (without_paths f) else if has_words l then f else without_paths f) x) (shortened g h r)
shortened _ _ (as_it_stands t i turn r) = absurd (let x : ⊥ = cc in x)
shortened _ _ (inner_first {l = l} {m = m} {f = f} {f' = f'} {f'' = f''} {g = g} {h = h} t i s turn r) =
    let same_label : m ≡ l = ap (λ (x : Tree). x.label) turn in
    let children : f'' ≡ without_path (without_paths f) = ap (λ (x : Tree). x.children) turn ∙ ap without_path (shortened f f' s) in
    ap (λ x. tree x f'' h) same_label
    ∙ (ap (λ x. tree l x h) (of_types (is_type l) (has_words l) f (without_paths f) f'' t children)
    ∙ ap (λ x. tree l (if is_type l then without_path (without_paths f) else if has_words l then f else without_paths f) x) (shortened g h r))

below : (s t : Tree) → s.label ≡ kind unit → ReplacedBelow shorter s t → t.children ≡ without_paths s.children
below _ _ e (of_word {l = l} {f = f} w) = absurd (let x : has_words l ≡ false = ap has_words e in let y : true ≡ false = sym w ∙ x in let z : ⊥ = cc in z)
below _ _ e (of_other {l = l} {f = f} {g = g} w r) = shortened f g r

finished : (s t : Tree) (b : Bool) → WentBelowBy shorter s b t → b ≡ true → ReplacedBelow shorter s t
finished s t true w e = w
finished s t false w e = absurd (let x : ⊥ = cc in x)

pub unit_shortened : (u v : UnitView) (b : Bool) → WentBelow shorter (unit_tree u) b (unit_tree v) → b ≡ true → forest_of_unit (trees_of v) ≡ without_paths (forest_of_unit (trees_of u))
unit_shortened u v b w e = below (unit_tree u) (unit_tree v) refl (finished (unit_tree u) (unit_tree v) b w.went e)
