-- The slots of statements that may stand in a `for`, in the order in which they are printed.
use Rattle.std.proofs.Common.{◌≡◌, List, [], ◌∷◌, Bool, true, false, ◌&&◌, if◌then◌else◌, Some, None, codes, refl, sym, ap, ◌∙◌}
use Rattle.wesl_tree_names.specs.Path.{Text}
use Rattle.wesl_tree_syntax.specs.Tree.{Tree, at, branch, decrement, expression_node, increment, call_statement, respell_label}
use Rattle.wesl_tree_syntax.specs.Unit.{name_in}
use Rattle.wesl_tree_syntax.specs.View.{attributes_tree, call_view, declaration_view, expression_tree, statement_view}
use Rattle.wesl_tree_syntax.specs.declared.span.Spanned.{Spanned}
use Rattle.wesl_tree_syntax.specs.declared.expression.Expression.{Expression}
use Rattle.wesl_tree_syntax.specs.declared.expression.FunctionCall.{FunctionCall}
use Rattle.wesl_tree_syntax.specs.declared.declaration.Declaration.{Declaration}
use Rattle.wesl_tree_syntax.specs.declared.statement.AssignmentOperator.{AssignmentOperator}
use Rattle.wesl_tree_syntax.specs.declared.statement.AssignmentOperator.TheVariants as operators
use Rattle.wesl_tree_syntax.specs.declared.statement.Statement.{Statement}
use Rattle.wesl_tree_syntax.specs.declared.statement.Statement as made
use Rattle.wesl_text_tokens.specs.declared.symbol.Symbol.TheVariants as is
use Rattle.wesl_text_form.specs.Operators.{assignment_symbol}
use Rattle.wesl_text_form.specs.Productions.{a_bare_statement, a_call}
use Rattle.wesl_text_form.specs.Spelling.{Slots, followed, is_simple, is_wildcard, named, signed}
use Rattle.wesl_text_print.specs.Printing.{expression_slots, only_if, slots_in}
use Rattle.wesl_text_print.proofs.Adding.{followed_twice, none_after, nothing_before}
use Rattle.wesl_text_print_statements.specs.Parts.{attributes_slots}
use Rattle.wesl_text_operands.specs.Targets.{are_apart_in, is_target_in, spelled_in}
use Rattle.wesl_text_print_statements.specs.Variables.{unended_in}
use Rattle.wesl_text_print_statements.specs.SimpleStatements.{assigned_slots, assignment_tree, simple_slots, stepped_slots, target_slots}
use Rattle.wesl_text_print_statements.proofs.Variables.{ended_is, ending, local_ended, unended_is}
use Rattle.wesl_text_print_statements.proofs.Views.{Attributes}
use Rattle.wesl_tree_syntax.proofs.Views.{view_assignment, view_call_statement, view_decrement, view_increment, view_local}

-- ---- shapes

four_ended : (a b c d r : Slots) → followed (followed a (followed b (followed c (followed d (Some []))))) r ≡ followed a (followed b (followed c (followed d r)))
four_ended a b c d r = simp (followed_twice, nothing_before)

three_ended : (a b c r : Slots) → followed (followed a (followed b c)) r ≡ followed a (followed b (followed c r))
three_ended a b c r = simp followed_twice

no_second : (a b : Slots) → followed a (followed None b) ≡ None
no_second a b = none_after a

equal_shape : (b w t : Bool) (A U E O R : Slots) → followed (only_if b (followed A (followed (if w then U else only_if t E) (followed O (followed R (Some [])))))) ending ≡ (if b && true then followed A (if w then followed U (followed O (followed R ending)) else if t then followed E (followed O (followed R ending)) else None) else None)
equal_shape true true t A U E O R = four_ended A U O R ending
equal_shape true false true A U E O R = four_ended A E O R ending
equal_shape true false false A U E O R = ap (λ x. followed x ending) (no_second A (followed O (followed R (Some [])))) ∙ sym (none_after A)
equal_shape false w t A U E O R = refl

other_shape : (b t : Bool) (A E O R : Slots) → followed (only_if b (followed A (followed (only_if t E) (followed O (followed R (Some [])))))) ending ≡ (if (t && b) && true then followed A (followed E (followed O (followed R ending))) else None)
other_shape true true A E O R = four_ended A E O R ending
other_shape true false A E O R = ap (λ x. followed x ending) (no_second A (followed O (followed R (Some []))))
other_shape false true A E O R = refl
other_shape false false A E O R = refl

step_shape : (b t : Bool) (A E S : Slots) → followed (only_if b (followed A (followed (only_if t E) S))) ending ≡ (if (t && b) && true then followed A (followed E (followed S ending)) else None)
step_shape true true A E S = three_ended A E S ending
step_shape true false A E S = ap (λ x. followed x ending) (no_second A S)
step_shape false true A E S = refl
step_shape false false A E S = refl

module _ (names : List Text) where
  -- ---- assignments

  abbrev pub assignment_slots : Attributes → AssignmentOperator → Spanned Expression → Spanned Expression → Slots
  assignment_slots a o l r = only_if (are_apart_in names a l.node) (followed (attributes_slots names a) (followed (assigned_slots names o l.node) (followed (Some (signed (assignment_symbol o) ∷ [])) (followed (expression_slots names r.node) (Some [])))))

  other : (a : Attributes) (o : AssignmentOperator) (l r : Spanned Expression)
      → followed (only_if (are_apart_in names a l.node) (followed (attributes_slots names a) (followed (target_slots names l.node) (followed (Some (signed (assignment_symbol o) ∷ [])) (followed (expression_slots names r.node) (Some [])))))) ending
      ≡ (if (is_target_in names l.node && are_apart_in names a l.node) && true then followed (attributes_slots names a) (followed (expression_slots names l.node) (followed (Some (signed (assignment_symbol o) ∷ [])) (followed (expression_slots names r.node) ending))) else None)
  other a o l r = other_shape (are_apart_in names a l.node) (is_target_in names l.node) (attributes_slots names a) (expression_slots names l.node) (Some (signed (assignment_symbol o) ∷ [])) (expression_slots names r.node)

  pub assignment_ended : (a : Attributes) (o : AssignmentOperator) (l r : Spanned Expression) → followed (assignment_slots a o l r) ending ≡ slots_in names a_bare_statement (assignment_tree a o l r)
  assignment_ended a operators.Equal l r = equal_shape (are_apart_in names a l.node) (is_wildcard (at expression_node 0 0) (spelled_in names l.node)) (is_target_in names l.node) (attributes_slots names a) (Some (named (codes "_") ∷ [])) (expression_slots names l.node) (Some (signed is.Equal ∷ [])) (expression_slots names r.node)
  assignment_ended a operators.PlusEqual l r = other a operators.PlusEqual l r
  assignment_ended a operators.MinusEqual l r = other a operators.MinusEqual l r
  assignment_ended a operators.TimesEqual l r = other a operators.TimesEqual l r
  assignment_ended a operators.DivisionEqual l r = other a operators.DivisionEqual l r
  assignment_ended a operators.ModuloEqual l r = other a operators.ModuloEqual l r
  assignment_ended a operators.AndEqual l r = other a operators.AndEqual l r
  assignment_ended a operators.OrEqual l r = other a operators.OrEqual l r
  assignment_ended a operators.XorEqual l r = other a operators.XorEqual l r
  assignment_ended a operators.ShiftLeftAssign l r = other a operators.ShiftLeftAssign l r
  assignment_ended a operators.ShiftRightAssign l r = other a operators.ShiftRightAssign l r

  pub assignment_printed : (a : Attributes) (o : AssignmentOperator) (l r : Spanned Expression) → assignment_slots a o l r ≡ unended_in names a_bare_statement (assignment_tree a o l r)
  assignment_printed a o l r = unended_is names a_bare_statement (assignment_tree a o l r) (assignment_slots a o l r) (assignment_ended a o l r)

  -- ---- increments and decrements

  increment_ended : (a : Attributes) (e : Spanned Expression) → followed (stepped_slots names a e.node is.PlusPlus) ending ≡ slots_in names a_bare_statement (branch increment (attributes_tree a ∷ expression_tree e ∷ []))
  increment_ended a e = step_shape (are_apart_in names a e.node) (is_target_in names e.node) (attributes_slots names a) (expression_slots names e.node) (Some (signed is.PlusPlus ∷ []))

  decrement_ended : (a : Attributes) (e : Spanned Expression) → followed (stepped_slots names a e.node is.MinusMinus) ending ≡ slots_in names a_bare_statement (branch decrement (attributes_tree a ∷ expression_tree e ∷ []))
  decrement_ended a e = step_shape (are_apart_in names a e.node) (is_target_in names e.node) (attributes_slots names a) (expression_slots names e.node) (Some (signed is.MinusMinus ∷ []))

  -- ---- calls

  abbrev pub called_slots : Attributes → FunctionCall → Slots
  called_slots a c = followed (attributes_slots names a) (slots_in names a_call (call_view c))

  call_ended : (a : Attributes) (c : FunctionCall) → followed (called_slots a c) ending ≡ slots_in names a_bare_statement (branch call_statement (attributes_tree a ∷ call_view c ∷ []))
  call_ended a c = followed_twice (attributes_slots names a) (slots_in names a_call (call_view c)) ending

  -- ---- any of them

  abbrev simple_tree : Tree → Slots
  simple_tree t = only_if (is_simple (Some (respell_label (name_in names) t.label))) (unended_in names a_bare_statement t)

  -- a statement of this tree, without its `;`
  abbrev IsPart : Statement → Slots → Type 0
  IsPart s Y = (Y ≡ simple_slots names s) × (followed (simple_slots names s) ending ≡ slots_in names a_bare_statement (statement_view s))

  by_tree : (s : Statement) (t : Tree) (Y : Slots) → statement_view s ≡ t → is_simple (Some (respell_label (name_in names) t.label)) ≡ true → followed Y ending ≡ slots_in names a_bare_statement t → IsPart s Y
  by_tree s t Y is simple whole = (
    unended_is names a_bare_statement t Y whole ∙ sym (ap (λ b. only_if b (unended_in names a_bare_statement t)) simple) ∙ ap simple_tree (sym is),
    ap (λ u. followed (simple_tree u) ending) is ∙ ap (λ b. followed (only_if b (unended_in names a_bare_statement t)) ending) simple ∙ ended_is names a_bare_statement t Y whole ∙ ap (slots_in names a_bare_statement) (sym is),
  )

  pub assignment_part : (a : Attributes) (o : AssignmentOperator) (l r : Spanned Expression) → IsPart (made.Assignment a o l r) (assignment_slots a o l r)
  assignment_part a o l r = by_tree (made.Assignment a o l r) (assignment_tree a o l r) (assignment_slots a o l r) (view_assignment a o l r) refl (assignment_ended a o l r)

  pub assignment_unended : (a : Attributes) (o : AssignmentOperator) (l r : Spanned Expression) → unended_in names a_bare_statement (assignment_tree a o l r) ≡ simple_slots names (made.Assignment a o l r)
  assignment_unended a o l r = sym (assignment_printed a o l r) ∙ (assignment_part a o l r).0

  pub increment_part : (a : Attributes) (e : Spanned Expression) → IsPart (made.Increment a e) (stepped_slots names a e.node is.PlusPlus)
  increment_part a e = by_tree (made.Increment a e) (branch increment (attributes_tree a ∷ expression_tree e ∷ [])) (stepped_slots names a e.node is.PlusPlus) (view_increment a e) refl (increment_ended a e)

  pub decrement_part : (a : Attributes) (e : Spanned Expression) → IsPart (made.Decrement a e) (stepped_slots names a e.node is.MinusMinus)
  decrement_part a e = by_tree (made.Decrement a e) (branch decrement (attributes_tree a ∷ expression_tree e ∷ [])) (stepped_slots names a e.node is.MinusMinus) (view_decrement a e) refl (decrement_ended a e)

  pub call_part : (a : Attributes) (c : FunctionCall) → IsPart (made.FunctionCall a c) (called_slots a c)
  call_part a c = by_tree (made.FunctionCall a c) (branch call_statement (attributes_tree a ∷ call_view c ∷ [])) (called_slots a c) (view_call_statement a c) refl (call_ended a c)

  pub local_part : (d : Declaration) → IsPart (made.Declaration d) (unended_in names a_bare_statement (declaration_view d))
  local_part d = by_tree (made.Declaration d) (declaration_view d) (unended_in names a_bare_statement (declaration_view d)) (view_local d) refl (ended_is names a_bare_statement (declaration_view d) _ (local_ended names d))
