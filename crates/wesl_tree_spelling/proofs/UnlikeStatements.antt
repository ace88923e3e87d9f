-- A statement of another variant has another tree.
use Rattle.std.proofs.Common.{◌≡◌, ℕ, Bool, false, ◌&&◌, refl, sym, ap, ◌∙◌, Global, Option, Vec}
use Rattle.std.specs.Global.{Box}
use Rattle.wesl_tree_names.specs.Path.{Text}
use Rattle.wesl_tree_syntax.specs.Tree.{Label, Tree, assignment, break, call_statement, compound_statement, const_assert, continue, declaration, decrement, discard, for_loop, if_statement, increment, loop, return, switch, void, while_loop, kind}
use Rattle.wesl_tree_syntax.specs.View.{clause_step, clause_view, compound_step, compound_view, continuing_step, continuing_view, else_if_step, else_if_view, else_step, else_view, if_step, if_view, statement_step, statement_view}
use Rattle.wesl_tree_syntax.specs.declared.attribute.Attribute.{Attribute}
use Rattle.wesl_tree_syntax.specs.declared.declaration.ConstAssert.{ConstAssert}
use Rattle.wesl_tree_syntax.specs.declared.declaration.Declaration.{Declaration}
use Rattle.wesl_tree_syntax.specs.declared.expression.Expression.{Expression}
use Rattle.wesl_tree_syntax.specs.declared.expression.FunctionCall.{FunctionCall}
use Rattle.wesl_tree_syntax.specs.declared.span.Spanned.{Spanned}
use Rattle.wesl_tree_syntax.specs.declared.statement.AssignmentOperator.{AssignmentOperator}
use Rattle.wesl_tree_syntax.specs.declared.statement.CompoundStatement.{CompoundStatement}
use Rattle.wesl_tree_syntax.specs.declared.statement.ContinuingStatement.{ContinuingStatement}
use Rattle.wesl_tree_syntax.specs.declared.statement.ElseClause.{ElseClause}
use Rattle.wesl_tree_syntax.specs.declared.statement.ElseIfClause.{ElseIfClause}
use Rattle.wesl_tree_syntax.specs.declared.statement.IfClause.{IfClause}
use Rattle.wesl_tree_syntax.specs.declared.statement.SwitchClause.{SwitchClause}
use Rattle.wesl_tree_syntax.specs.declared.statement.Statement.{Statement, map-Statement, out-Statement, roll-Statement}
use Rattle.wesl_tree_syntax.specs.declared.statement.Statement as made
use Rattle.wesl_tree_syntax.specs.declared.statement.Statement.TheFolds.{fold-roll-Statement}
use Rattle.wesl_tree_syntax.specs.declared.statement.Statement.TheOpen.{Statement-F}
use Rattle.wesl_tree_syntax.specs.declared.statement.Statement.TheViews.{roll-out-Statement, rolls-Void, rolls-Compound, rolls-Assignment, rolls-Increment, rolls-Decrement, rolls-If, rolls-Switch, rolls-Loop, rolls-For, rolls-While, rolls-Break, rolls-Continue, rolls-Return, rolls-Discard, rolls-FunctionCall, rolls-ConstAssert, rolls-Declaration}
use Rattle.wesl_tree_spelling.specs.Groups.{is_jump, is_step, is_action, is_if, is_switch, is_plain_loop, is_for}
use Rattle.wesl_tree_spelling.specs.Same.{same_label, same_tree}
use mathlib.Core.Bool.{and-false}
use Rattle.wesl_tree_spelling.proofs.UnlikeExpressions.{by_labels}

abbrev Attributes : Type 0
Attributes = Vec (Spanned Attribute) Global

-- one level
abbrev Layer : Type 0
Layer = Statement-F Statement CompoundStatement ContinuingStatement ElseClause ElseIfClause IfClause SwitchClause

abbrev label_at : Layer → Label
label_at Statement-F.Void = kind void
label_at (Statement-F.Compound b) = kind compound_statement
label_at (Statement-F.Assignment a o l r) = assignment o
label_at (Statement-F.Increment a e) = kind increment
label_at (Statement-F.Decrement a e) = kind decrement
label_at (Statement-F.If a i es e) = kind if_statement
label_at (Statement-F.Switch a e b cs) = kind switch
label_at (Statement-F.Loop a b c) = kind loop
label_at (Statement-F.For a i c u b) = kind for_loop
label_at (Statement-F.While a e b) = kind while_loop
label_at (Statement-F.Break a) = kind break
label_at (Statement-F.Continue a) = kind continue
label_at (Statement-F.Return a e) = kind return
label_at (Statement-F.Discard a) = kind discard
label_at (Statement-F.FunctionCall a c) = kind call_statement
label_at (Statement-F.ConstAssert c) = kind const_assert
label_at (Statement-F.Declaration d) = kind declaration

label_seen : (layer : Layer) → (statement_step (map-Statement Statement CompoundStatement ContinuingStatement ElseClause ElseIfClause IfClause SwitchClause Tree Tree Tree Tree Tree Tree Tree statement_view compound_view continuing_view else_view else_if_view if_view clause_view layer)).label ≡ label_at layer
label_seen Statement-F.Void = refl
label_seen (Statement-F.Compound b) = refl
label_seen (Statement-F.Assignment a o l r) = refl
label_seen (Statement-F.Increment a e) = refl
label_seen (Statement-F.Decrement a e) = refl
label_seen (Statement-F.If a i es e) = refl
label_seen (Statement-F.Switch a e b cs) = refl
label_seen (Statement-F.Loop a b c) = refl
label_seen (Statement-F.For a i c u b) = refl
label_seen (Statement-F.While a e b) = refl
label_seen (Statement-F.Break a) = refl
label_seen (Statement-F.Continue a) = refl
label_seen (Statement-F.Return a e) = refl
label_seen (Statement-F.Discard a) = refl
label_seen (Statement-F.FunctionCall a c) = refl
label_seen (Statement-F.ConstAssert c) = refl
label_seen (Statement-F.Declaration d) = refl

label_rolled : (layer : Layer) → (statement_view (roll-Statement layer)).label ≡ label_at layer
label_rolled layer = ap (λ t. t.label) (fold-roll-Statement Tree Tree Tree Tree Tree Tree Tree statement_step compound_step continuing_step else_step else_if_step if_step clause_step layer) ∙ label_seen layer

label_of : (x : Statement) → (statement_view x).label ≡ label_at (out-Statement x)
label_of x = ap (λ y. (statement_view y).label) (sym (roll-out-Statement x)) ∙ label_rolled (out-Statement x)

label_made : (x : Statement) (layer : Layer) → x ≡ roll-Statement layer → (statement_view x).label ≡ label_at layer
label_made x layer is = ap (λ y. (statement_view y).label) is ∙ label_rolled layer

-- where the left one is of no group, and where the two differ
pub group_left : (test : Label → Bool) (s : Tree) (b : Bool) → test s.label ≡ false → false ≡ (test s.label && b)
group_left test s b h = rw h refl

pub group_right : (test : Label → Bool) (s : Tree) (b : Bool) → false ≡ b → false ≡ (test s.label && b)
group_right test s b h = rw (← h) (sym (and-false _))

module _ (places : Bool) (f g : ℕ → Text) where
  differs_Void : (layer : Layer) → (layer ≡ Statement-F.Void → ⊥) → same_label places f g (kind void) (label_at layer) ≡ false
  differs_Void Statement-F.Void h = absurd (h refl)
  differs_Void _ h = refl

  pub unlike_Void : (x y : Statement) → x ≡ made.Void → (y ≡ made.Void → ⊥) → false ≡ same_tree places f g (statement_view x) (statement_view y)
  unlike_Void x y is h =
      by_labels places f g (statement_view x) (statement_view y) (kind void) (label_at (out-Statement y)) (label_made x Statement-F.Void (is ∙ sym (rolls-Void))) (label_of y)
      (differs_Void (out-Statement y) (λ same. h (sym (roll-out-Statement y) ∙ ap roll-Statement same ∙ rolls-Void)))

  differs_Compound : (layer : Layer) → ((b' : CompoundStatement) → layer ≡ Statement-F.Compound b' → ⊥) → same_label places f g (kind compound_statement) (label_at layer) ≡ false
  differs_Compound (Statement-F.Compound b') h = absurd (h b' refl)
  differs_Compound _ h = refl

  pub unlike_Compound : (x y : Statement) (b : CompoundStatement) → x ≡ made.Compound b → ((b' : CompoundStatement) → y ≡ made.Compound b' → ⊥) → false ≡ same_tree places f g (statement_view x) (statement_view y)
  unlike_Compound x y b is h =
      by_labels places f g (statement_view x) (statement_view y) (kind compound_statement) (label_at (out-Statement y)) (label_made x (Statement-F.Compound b) (is ∙ sym (rolls-Compound b))) (label_of y)
      (differs_Compound (out-Statement y) (λ b' same. h b' (sym (roll-out-Statement y) ∙ ap roll-Statement same ∙ rolls-Compound b')))

  differs_Assignment : (o : AssignmentOperator) (layer : Layer) → ((a' : Attributes) (o' : AssignmentOperator) (l' : Spanned Expression) (r' : Spanned Expression) → layer ≡ Statement-F.Assignment a' o' l' r' → ⊥) → same_label places f g (assignment o) (label_at layer) ≡ false
  differs_Assignment o (Statement-F.Assignment a' o' l' r') h = absurd (h a' o' l' r' refl)
  differs_Assignment o _ h = refl

  pub unlike_Assignment : (x y : Statement) (a : Attributes) (o : AssignmentOperator) (l : Spanned Expression) (r : Spanned Expression) → x ≡ made.Assignment a o l r → ((a' : Attributes) (o' : AssignmentOperator) (l' : Spanned Expression) (r' : Spanned Expression) → y ≡ made.Assignment a' o' l' r' → ⊥) → false ≡ same_tree places f g (statement_view x) (statement_view y)
  unlike_Assignment x y a o l r is h =
      by_labels places f g (statement_view x) (statement_view y) (assignment o) (label_at (out-Statement y)) (label_made x (Statement-F.Assignment a o l r) (is ∙ sym (rolls-Assignment a o l r))) (label_of y)
      (differs_Assignment o (out-Statement y) (λ a' o' l' r' same. h a' o' l' r' (sym (roll-out-Statement y) ∙ ap roll-Statement same ∙ rolls-Assignment a' o' l' r')))

  differs_Increment : (layer : Layer) → ((a' : Attributes) (e' : Spanned Expression) → layer ≡ Statement-F.Increment a' e' → ⊥) → same_label places f g (kind increment) (label_at layer) ≡ false
  differs_Increment (Statement-F.Increment a' e') h = absurd (h a' e' refl)
  differs_Increment _ h = refl

  pub unlike_Increment : (x y : Statement) (a : Attributes) (e : Spanned Expression) → x ≡ made.Increment a e → ((a' : Attributes) (e' : Spanned Expression) → y ≡ made.Increment a' e' → ⊥) → false ≡ same_tree places f g (statement_view x) (statement_view y)
  unlike_Increment x y a e is h =
      by_labels places f g (statement_view x) (statement_view y) (kind increment) (label_at (out-Statement y)) (label_made x (Statement-F.Increment a e) (is ∙ sym (rolls-Increment a e))) (label_of y)
      (differs_Increment (out-Statement y) (λ a' e' same. h a' e' (sym (roll-out-Statement y) ∙ ap roll-Statement same ∙ rolls-Increment a' e')))

  differs_Decrement : (layer : Layer) → ((a' : Attributes) (e' : Spanned Expression) → layer ≡ Statement-F.Decrement a' e' → ⊥) → same_label places f g (kind decrement) (label_at layer) ≡ false
  differs_Decrement (Statement-F.Decrement a' e') h = absurd (h a' e' refl)
  differs_Decrement _ h = refl

  pub unlike_Decrement : (x y : Statement) (a : Attributes) (e : Spanned Expression) → x ≡ made.Decrement a e → ((a' : Attributes) (e' : Spanned Expression) → y ≡ made.Decrement a' e' → ⊥) → false ≡ same_tree places f g (statement_view x) (statement_view y)
  unlike_Decrement x y a e is h =
      by_labels places f g (statement_view x) (statement_view y) (kind decrement) (label_at (out-Statement y)) (label_made x (Statement-F.Decrement a e) (is ∙ sym (rolls-Decrement a e))) (label_of y)
      (differs_Decrement (out-Statement y) (λ a' e' same. h a' e' (sym (roll-out-Statement y) ∙ ap roll-Statement same ∙ rolls-Decrement a' e')))

  differs_If : (layer : Layer) → ((a' : Attributes) (i' : IfClause) (es' : Vec ElseIfClause Global) (e' : Option ElseClause) → layer ≡ Statement-F.If a' i' es' e' → ⊥) → same_label places f g (kind if_statement) (label_at layer) ≡ false
  differs_If (Statement-F.If a' i' es' e') h = absurd (h a' i' es' e' refl)
  differs_If _ h = refl

  pub unlike_If : (x y : Statement) (a : Attributes) (i : IfClause) (es : Vec ElseIfClause Global) (e : Option ElseClause) → x ≡ made.If a i es e → ((a' : Attributes) (i' : IfClause) (es' : Vec ElseIfClause Global) (e' : Option ElseClause) → y ≡ made.If a' i' es' e' → ⊥) → false ≡ same_tree places f g (statement_view x) (statement_view y)
  unlike_If x y a i es e is h =
      by_labels places f g (statement_view x) (statement_view y) (kind if_statement) (label_at (out-Statement y)) (label_made x (Statement-F.If a i es e) (is ∙ sym (rolls-If a i es e))) (label_of y)
      (differs_If (out-Statement y) (λ a' i' es' e' same. h a' i' es' e' (sym (roll-out-Statement y) ∙ ap roll-Statement same ∙ rolls-If a' i' es' e')))

  differs_Switch : (layer : Layer) → ((a' : Attributes) (e' : Spanned Expression) (b' : Attributes) (cs' : Vec SwitchClause Global) → layer ≡ Statement-F.Switch a' e' b' cs' → ⊥) → same_label places f g (kind switch) (label_at layer) ≡ false
  differs_Switch (Statement-F.Switch a' e' b' cs') h = absurd (h a' e' b' cs' refl)
  differs_Switch _ h = refl

  pub unlike_Switch : (x y : Statement) (a : Attributes) (e : Spanned Expression) (b : Attributes) (cs : Vec SwitchClause Global) → x ≡ made.Switch a e b cs → ((a' : Attributes) (e' : Spanned Expression) (b' : Attributes) (cs' : Vec SwitchClause Global) → y ≡ made.Switch a' e' b' cs' → ⊥) → false ≡ same_tree places f g (statement_view x) (statement_view y)
  unlike_Switch x y a e b cs is h =
      by_labels places f g (statement_view x) (statement_view y) (kind switch) (label_at (out-Statement y)) (label_made x (Statement-F.Switch a e b cs) (is ∙ sym (rolls-Switch a e b cs))) (label_of y)
      (differs_Switch (out-Statement y) (λ a' e' b' cs' same. h a' e' b' cs' (sym (roll-out-Statement y) ∙ ap roll-Statement same ∙ rolls-Switch a' e' b' cs')))

  differs_Loop : (layer : Layer) → ((a' : Attributes) (b' : CompoundStatement) (c' : Option ContinuingStatement) → layer ≡ Statement-F.Loop a' b' c' → ⊥) → same_label places f g (kind loop) (label_at layer) ≡ false
  differs_Loop (Statement-F.Loop a' b' c') h = absurd (h a' b' c' refl)
  differs_Loop _ h = refl

  pub unlike_Loop : (x y : Statement) (a : Attributes) (b : CompoundStatement) (c : Option ContinuingStatement) → x ≡ made.Loop a b c → ((a' : Attributes) (b' : CompoundStatement) (c' : Option ContinuingStatement) → y ≡ made.Loop a' b' c' → ⊥) → false ≡ same_tree places f g (statement_view x) (statement_view y)
  unlike_Loop x y a b c is h =
      by_labels places f g (statement_view x) (statement_view y) (kind loop) (label_at (out-Statement y)) (label_made x (Statement-F.Loop a b c) (is ∙ sym (rolls-Loop a b c))) (label_of y)
      (differs_Loop (out-Statement y) (λ a' b' c' same. h a' b' c' (sym (roll-out-Statement y) ∙ ap roll-Statement same ∙ rolls-Loop a' b' c')))

  differs_For : (layer : Layer) → ((a' : Attributes) (i' : Option (Box (Spanned Statement))) (c' : Option (Spanned Expression)) (u' : Option (Box (Spanned Statement))) (b' : CompoundStatement) → layer ≡ Statement-F.For a' i' c' u' b' → ⊥) → same_label places f g (kind for_loop) (label_at layer) ≡ false
  differs_For (Statement-F.For a' i' c' u' b') h = absurd (h a' i' c' u' b' refl)
  differs_For _ h = refl

  pub unlike_For : (x y : Statement) (a : Attributes) (i : Option (Box (Spanned Statement))) (c : Option (Spanned Expression)) (u : Option (Box (Spanned Statement))) (b : CompoundStatement) → x ≡ made.For a i c u b → ((a' : Attributes) (i' : Option (Box (Spanned Statement))) (c' : Option (Spanned Expression)) (u' : Option (Box (Spanned Statement))) (b' : CompoundStatement) → y ≡ made.For a' i' c' u' b' → ⊥) → false ≡ same_tree places f g (statement_view x) (statement_view y)
  unlike_For x y a i c u b is h =
      by_labels places f g (statement_view x) (statement_view y) (kind for_loop) (label_at (out-Statement y)) (label_made x (Statement-F.For a i c u b) (is ∙ sym (rolls-For a i c u b))) (label_of y)
      (differs_For (out-Statement y) (λ a' i' c' u' b' same. h a' i' c' u' b' (sym (roll-out-Statement y) ∙ ap roll-Statement same ∙ rolls-For a' i' c' u' b')))

  differs_While : (layer : Layer) → ((a' : Attributes) (e' : Spanned Expression) (b' : CompoundStatement) → layer ≡ Statement-F.While a' e' b' → ⊥) → same_label places f g (kind while_loop) (label_at layer) ≡ false
  differs_While (Statement-F.While a' e' b') h = absurd (h a' e' b' refl)
  differs_While _ h = refl

  pub unlike_While : (x y : Statement) (a : Attributes) (e : Spanned Expression) (b : CompoundStatement) → x ≡ made.While a e b → ((a' : Attributes) (e' : Spanned Expression) (b' : CompoundStatement) → y ≡ made.While a' e' b' → ⊥) → false ≡ same_tree places f g (statement_view x) (statement_view y)
  unlike_While x y a e b is h =
      by_labels places f g (statement_view x) (statement_view y) (kind while_loop) (label_at (out-Statement y)) (label_made x (Statement-F.While a e b) (is ∙ sym (rolls-While a e b))) (label_of y)
      (differs_While (out-Statement y) (λ a' e' b' same. h a' e' b' (sym (roll-out-Statement y) ∙ ap roll-Statement same ∙ rolls-While a' e' b')))

  differs_Break : (layer : Layer) → ((a' : Attributes) → layer ≡ Statement-F.Break a' → ⊥) → same_label places f g (kind break) (label_at layer) ≡ false
  differs_Break (Statement-F.Break a') h = absurd (h a' refl)
  differs_Break _ h = refl

  pub unlike_Break : (x y : Statement) (a : Attributes) → x ≡ made.Break a → ((a' : Attributes) → y ≡ made.Break a' → ⊥) → false ≡ same_tree places f g (statement_view x) (statement_view y)
  unlike_Break x y a is h =
      by_labels places f g (statement_view x) (statement_view y) (kind break) (label_at (out-Statement y)) (label_made x (Statement-F.Break a) (is ∙ sym (rolls-Break a))) (label_of y)
      (differs_Break (out-Statement y) (λ a' same. h a' (sym (roll-out-Statement y) ∙ ap roll-Statement same ∙ rolls-Break a')))

  differs_Continue : (layer : Layer) → ((a' : Attributes) → layer ≡ Statement-F.Continue a' → ⊥) → same_label places f g (kind continue) (label_at layer) ≡ false
  differs_Continue (Statement-F.Continue a') h = absurd (h a' refl)
  differs_Continue _ h = refl

  pub unlike_Continue : (x y : Statement) (a : Attributes) → x ≡ made.Continue a → ((a' : Attributes) → y ≡ made.Continue a' → ⊥) → false ≡ same_tree places f g (statement_view x) (statement_view y)
  unlike_Continue x y a is h =
      by_labels places f g (statement_view x) (statement_view y) (kind continue) (label_at (out-Statement y)) (label_made x (Statement-F.Continue a) (is ∙ sym (rolls-Continue a))) (label_of y)
      (differs_Continue (out-Statement y) (λ a' same. h a' (sym (roll-out-Statement y) ∙ ap roll-Statement same ∙ rolls-Continue a')))

  differs_Return : (layer : Layer) → ((a' : Attributes) (e' : Option (Spanned Expression)) → layer ≡ Statement-F.Return a' e' → ⊥) → same_label places f g (kind return) (label_at layer) ≡ false
  differs_Return (Statement-F.Return a' e') h = absurd (h a' e' refl)
  differs_Return _ h = refl

  pub unlike_Return : (x y : Statement) (a : Attributes) (e : Option (Spanned Expression)) → x ≡ made.Return a e → ((a' : Attributes) (e' : Option (Spanned Expression)) → y ≡ made.Return a' e' → ⊥) → false ≡ same_tree places f g (statement_view x) (statement_view y)
  unlike_Return x y a e is h =
      by_labels places f g (statement_view x) (statement_view y) (kind return) (label_at (out-Statement y)) (label_made x (Statement-F.Return a e) (is ∙ sym (rolls-Return a e))) (label_of y)
      (differs_Return (out-Statement y) (λ a' e' same. h a' e' (sym (roll-out-Statement y) ∙ ap roll-Statement same ∙ rolls-Return a' e')))

  differs_Discard : (layer : Layer) → ((a' : Attributes) → layer ≡ Statement-F.Discard a' → ⊥) → same_label places f g (kind discard) (label_at layer) ≡ false
  differs_Discard (Statement-F.Discard a') h = absurd (h a' refl)
  differs_Discard _ h = refl

  pub unlike_Discard : (x y : Statement) (a : Attributes) → x ≡ made.Discard a → ((a' : Attributes) → y ≡ made.Discard a' → ⊥) → false ≡ same_tree places f g (statement_view x) (statement_view y)
  unlike_Discard x y a is h =
      by_labels places f g (statement_view x) (statement_view y) (kind discard) (label_at (out-Statement y)) (label_made x (Statement-F.Discard a) (is ∙ sym (rolls-Discard a))) (label_of y)
      (differs_Discard (out-Statement y) (λ a' same. h a' (sym (roll-out-Statement y) ∙ ap roll-Statement same ∙ rolls-Discard a')))

  differs_FunctionCall : (layer : Layer) → ((a' : Attributes) (c' : FunctionCall) → layer ≡ Statement-F.FunctionCall a' c' → ⊥) → same_label places f g (kind call_statement) (label_at layer) ≡ false
  differs_FunctionCall (Statement-F.FunctionCall a' c') h = absurd (h a' c' refl)
  differs_FunctionCall _ h = refl

  pub unlike_FunctionCall : (x y : Statement) (a : Attributes) (c : FunctionCall) → x ≡ made.FunctionCall a c → ((a' : Attributes) (c' : FunctionCall) → y ≡ made.FunctionCall a' c' → ⊥) → false ≡ same_tree places f g (statement_view x) (statement_view y)
  unlike_FunctionCall x y a c is h =
      by_labels places f g (statement_view x) (statement_view y) (kind call_statement) (label_at (out-Statement y)) (label_made x (Statement-F.FunctionCall a c) (is ∙ sym (rolls-FunctionCall a c))) (label_of y)
      (differs_FunctionCall (out-Statement y) (λ a' c' same. h a' c' (sym (roll-out-Statement y) ∙ ap roll-Statement same ∙ rolls-FunctionCall a' c')))

  differs_ConstAssert : (layer : Layer) → ((c' : ConstAssert) → layer ≡ Statement-F.ConstAssert c' → ⊥) → same_label places f g (kind const_assert) (label_at layer) ≡ false
  differs_ConstAssert (Statement-F.ConstAssert c') h = absurd (h c' refl)
  differs_ConstAssert _ h = refl

  pub unlike_ConstAssert : (x y : Statement) (c : ConstAssert) → x ≡ made.ConstAssert c → ((c' : ConstAssert) → y ≡ made.ConstAssert c' → ⊥) → false ≡ same_tree places f g (statement_view x) (statement_view y)
  unlike_ConstAssert x y c is h =
      by_labels places f g (statement_view x) (statement_view y) (kind const_assert) (label_at (out-Statement y)) (label_made x (Statement-F.ConstAssert c) (is ∙ sym (rolls-ConstAssert c))) (label_of y)
      (differs_ConstAssert (out-Statement y) (λ c' same. h c' (sym (roll-out-Statement y) ∙ ap roll-Statement same ∙ rolls-ConstAssert c')))

  differs_Declaration : (layer : Layer) → ((d' : Declaration) → layer ≡ Statement-F.Declaration d' → ⊥) → same_label places f g (kind declaration) (label_at layer) ≡ false
  differs_Declaration (Statement-F.Declaration d') h = absurd (h d' refl)
  differs_Declaration _ h = refl

  pub unlike_Declaration : (x y : Statement) (d : Declaration) → x ≡ made.Declaration d → ((d' : Declaration) → y ≡ made.Declaration d' → ⊥) → false ≡ same_tree places f g (statement_view x) (statement_view y)
  unlike_Declaration x y d is h =
      by_labels places f g (statement_view x) (statement_view y) (kind declaration) (label_at (out-Statement y)) (label_made x (Statement-F.Declaration d) (is ∙ sym (rolls-Declaration d))) (label_of y)
      (differs_Declaration (out-Statement y) (λ d' same. h d' (sym (roll-out-Statement y) ∙ ap roll-Statement same ∙ rolls-Declaration d')))

no_is_jump : (layer : Layer) → ((a' : Attributes) → layer ≡ Statement-F.Break a' → ⊥) → ((a' : Attributes) → layer ≡ Statement-F.Continue a' → ⊥) → ((a' : Attributes) (e' : Option (Spanned Expression)) → layer ≡ Statement-F.Return a' e' → ⊥) → ((a' : Attributes) → layer ≡ Statement-F.Discard a' → ⊥) → is_jump (label_at layer) ≡ false
no_is_jump (Statement-F.Break a') h0 h1 h2 h3 = absurd (h0 a' refl)
no_is_jump (Statement-F.Continue a') h0 h1 h2 h3 = absurd (h1 a' refl)
no_is_jump (Statement-F.Return a' e') h0 h1 h2 h3 = absurd (h2 a' e' refl)
no_is_jump (Statement-F.Discard a') h0 h1 h2 h3 = absurd (h3 a' refl)
no_is_jump _ h0 h1 h2 h3 = refl

pub not_is_jump : (x : Statement) → ((a' : Attributes) → x ≡ made.Break a' → ⊥) → ((a' : Attributes) → x ≡ made.Continue a' → ⊥) → ((a' : Attributes) (e' : Option (Spanned Expression)) → x ≡ made.Return a' e' → ⊥) → ((a' : Attributes) → x ≡ made.Discard a' → ⊥) → is_jump (statement_view x).label ≡ false
not_is_jump x h0 h1 h2 h3 = ap is_jump (label_of x) ∙ no_is_jump (out-Statement x) (λ a' same. h0 a' (sym (roll-out-Statement x) ∙ ap roll-Statement same ∙ rolls-Break a')) (λ a' same. h1 a' (sym (roll-out-Statement x) ∙ ap roll-Statement same ∙ rolls-Continue a')) (λ a' e' same. h2 a' e' (sym (roll-out-Statement x) ∙ ap roll-Statement same ∙ rolls-Return a' e')) (λ a' same. h3 a' (sym (roll-out-Statement x) ∙ ap roll-Statement same ∙ rolls-Discard a'))

no_is_step : (layer : Layer) → ((a' : Attributes) (e' : Spanned Expression) → layer ≡ Statement-F.Increment a' e' → ⊥) → ((a' : Attributes) (e' : Spanned Expression) → layer ≡ Statement-F.Decrement a' e' → ⊥) → is_step (label_at layer) ≡ false
no_is_step (Statement-F.Increment a' e') h0 h1 = absurd (h0 a' e' refl)
no_is_step (Statement-F.Decrement a' e') h0 h1 = absurd (h1 a' e' refl)
no_is_step _ h0 h1 = refl

pub not_is_step : (x : Statement) → ((a' : Attributes) (e' : Spanned Expression) → x ≡ made.Increment a' e' → ⊥) → ((a' : Attributes) (e' : Spanned Expression) → x ≡ made.Decrement a' e' → ⊥) → is_step (statement_view x).label ≡ false
not_is_step x h0 h1 = ap is_step (label_of x) ∙ no_is_step (out-Statement x) (λ a' e' same. h0 a' e' (sym (roll-out-Statement x) ∙ ap roll-Statement same ∙ rolls-Increment a' e')) (λ a' e' same. h1 a' e' (sym (roll-out-Statement x) ∙ ap roll-Statement same ∙ rolls-Decrement a' e'))

no_is_action : (layer : Layer) → ((a' : Attributes) (o' : AssignmentOperator) (l' : Spanned Expression) (r' : Spanned Expression) → layer ≡ Statement-F.Assignment a' o' l' r' → ⊥) → ((a' : Attributes) (c' : FunctionCall) → layer ≡ Statement-F.FunctionCall a' c' → ⊥) → is_action (label_at layer) ≡ false
no_is_action (Statement-F.Assignment a' o' l' r') h0 h1 = absurd (h0 a' o' l' r' refl)
no_is_action (Statement-F.FunctionCall a' c') h0 h1 = absurd (h1 a' c' refl)
no_is_action _ h0 h1 = refl

pub not_is_action : (x : Statement) → ((a' : Attributes) (o' : AssignmentOperator) (l' : Spanned Expression) (r' : Spanned Expression) → x ≡ made.Assignment a' o' l' r' → ⊥) → ((a' : Attributes) (c' : FunctionCall) → x ≡ made.FunctionCall a' c' → ⊥) → is_action (statement_view x).label ≡ false
not_is_action x h0 h1 = ap is_action (label_of x) ∙ no_is_action (out-Statement x) (λ a' o' l' r' same. h0 a' o' l' r' (sym (roll-out-Statement x) ∙ ap roll-Statement same ∙ rolls-Assignment a' o' l' r')) (λ a' c' same. h1 a' c' (sym (roll-out-Statement x) ∙ ap roll-Statement same ∙ rolls-FunctionCall a' c'))

no_is_if : (layer : Layer) → ((a' : Attributes) (i' : IfClause) (es' : Vec ElseIfClause Global) (e' : Option ElseClause) → layer ≡ Statement-F.If a' i' es' e' → ⊥) → is_if (label_at layer) ≡ false
no_is_if (Statement-F.If a' i' es' e') h0 = absurd (h0 a' i' es' e' refl)
no_is_if _ h0 = refl

pub not_is_if : (x : Statement) → ((a' : Attributes) (i' : IfClause) (es' : Vec ElseIfClause Global) (e' : Option ElseClause) → x ≡ made.If a' i' es' e' → ⊥) → is_if (statement_view x).label ≡ false
not_is_if x h0 = ap is_if (label_of x) ∙ no_is_if (out-Statement x) (λ a' i' es' e' same. h0 a' i' es' e' (sym (roll-out-Statement x) ∙ ap roll-Statement same ∙ rolls-If a' i' es' e'))

no_is_switch : (layer : Layer) → ((a' : Attributes) (e' : Spanned Expression) (b' : Attributes) (cs' : Vec SwitchClause Global) → layer ≡ Statement-F.Switch a' e' b' cs' → ⊥) → is_switch (label_at layer) ≡ false
no_is_switch (Statement-F.Switch a' e' b' cs') h0 = absurd (h0 a' e' b' cs' refl)
no_is_switch _ h0 = refl

pub not_is_switch : (x : Statement) → ((a' : Attributes) (e' : Spanned Expression) (b' : Attributes) (cs' : Vec SwitchClause Global) → x ≡ made.Switch a' e' b' cs' → ⊥) → is_switch (statement_view x).label ≡ false
not_is_switch x h0 = ap is_switch (label_of x) ∙ no_is_switch (out-Statement x) (λ a' e' b' cs' same. h0 a' e' b' cs' (sym (roll-out-Statement x) ∙ ap roll-Statement same ∙ rolls-Switch a' e' b' cs'))

no_is_plain_loop : (layer : Layer) → ((a' : Attributes) (b' : CompoundStatement) (c' : Option ContinuingStatement) → layer ≡ Statement-F.Loop a' b' c' → ⊥) → ((a' : Attributes) (e' : Spanned Expression) (b' : CompoundStatement) → layer ≡ Statement-F.While a' e' b' → ⊥) → is_plain_loop (label_at layer) ≡ false
no_is_plain_loop (Statement-F.Loop a' b' c') h0 h1 = absurd (h0 a' b' c' refl)
no_is_plain_loop (Statement-F.While a' e' b') h0 h1 = absurd (h1 a' e' b' refl)
no_is_plain_loop _ h0 h1 = refl

pub not_is_plain_loop : (x : Statement) → ((a' : Attributes) (b' : CompoundStatement) (c' : Option ContinuingStatement) → x ≡ made.Loop a' b' c' → ⊥) → ((a' : Attributes) (e' : Spanned Expression) (b' : CompoundStatement) → x ≡ made.While a' e' b' → ⊥) → is_plain_loop (statement_view x).label ≡ false
not_is_plain_loop x h0 h1 = ap is_plain_loop (label_of x) ∙ no_is_plain_loop (out-Statement x) (λ a' b' c' same. h0 a' b' c' (sym (roll-out-Statement x) ∙ ap roll-Statement same ∙ rolls-Loop a' b' c')) (λ a' e' b' same. h1 a' e' b' (sym (roll-out-Statement x) ∙ ap roll-Statement same ∙ rolls-While a' e' b'))

no_is_for : (layer : Layer) → ((a' : Attributes) (i' : Option (Box (Spanned Statement))) (c' : Option (Spanned Expression)) (u' : Option (Box (Spanned Statement))) (b' : CompoundStatement) → layer ≡ Statement-F.For a' i' c' u' b' → ⊥) → is_for (label_at layer) ≡ false
no_is_for (Statement-F.For a' i' c' u' b') h0 = absurd (h0 a' i' c' u' b' refl)
no_is_for _ h0 = refl

pub not_is_for : (x : Statement) → ((a' : Attributes) (i' : Option (Box (Spanned Statement))) (c' : Option (Spanned Expression)) (u' : Option (Box (Spanned Statement))) (b' : CompoundStatement) → x ≡ made.For a' i' c' u' b' → ⊥) → is_for (statement_view x).label ≡ false
not_is_for x h0 = ap is_for (label_of x) ∙ no_is_for (out-Statement x) (λ a' i' c' u' b' same. h0 a' i' c' u' b' (sym (roll-out-Statement x) ∙ ap roll-Statement same ∙ rolls-For a' i' c' u' b'))
