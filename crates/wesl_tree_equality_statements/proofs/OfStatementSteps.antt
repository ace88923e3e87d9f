-- The test of two statements is one level over the tests of what they hold.
use Rattle.std.proofs.Common.{◌≡◌, Bool, false, refl, ◌∙◌}
use denote.Enum.Compared.{Each, by}
use denote.Hole.Carrier.{Values}
use Rattle.wesl_tree_syntax.specs.contracts.statement.Statement as statement
use Rattle.wesl_tree_syntax.specs.contracts.statement.StatementPartialEq.TheImpl as statements
use Rattle.wesl_tree_syntax.specs.declared.statement.Statement.{Statement, out-Statement}
use Rattle.wesl_tree_syntax.specs.declared.statement.CompoundStatement.{CompoundStatement}
use Rattle.wesl_tree_syntax.specs.declared.statement.ContinuingStatement.{ContinuingStatement}
use Rattle.wesl_tree_syntax.specs.declared.statement.ElseClause.{ElseClause}
use Rattle.wesl_tree_syntax.specs.declared.statement.ElseIfClause.{ElseIfClause}
use Rattle.wesl_tree_syntax.specs.declared.statement.IfClause.{IfClause}
use Rattle.wesl_tree_syntax.specs.declared.statement.SwitchClause.{SwitchClause}
use Rattle.wesl_tree_syntax.specs.declared.statement.Statement.TheBlock.{the_members, the_sigs, the_carrier, member-Statement, member-CompoundStatement, member-ContinuingStatement, member-ElseClause, member-ElseIfClause, member-IfClause, member-SwitchClause, split-Statement}
use Rattle.wesl_tree_syntax.specs.declared.statement.Statement.TheOpen.{Statement-F}
use Rattle.wesl_tree_equality_statements.proofs.OfStatementLayers.{same_statement}

-- a test at each of the seven
abbrev pub Family : Type 0
Family = (j : the_members) → Values the_members the_sigs the_carrier j → Values the_members the_sigs the_carrier j → Bool

abbrev Layer : Type 0
Layer = Statement-F Statement CompoundStatement ContinuingStatement ElseClause ElseIfClause IfClause SwitchClause

-- a test of one form before those of others
abbrev beside : {A B : Type 0} → A → B → A × B
beside test others = (test, others)

module _ (F : Family) where
  abbrev same : Layer → Layer → Bool
  same = same_statement (F member-Statement) (F member-CompoundStatement) (F member-ContinuingStatement) (F member-ElseClause) (F member-ElseIfClause) (F member-IfClause) (F member-SwitchClause)

  -- the test of two statements of one form, by what they hold
  abbrev tests : Each Bool (statement.enum).parts
  tests =
      beside (λ a b. same Statement-F.Void Statement-F.Void)
      (beside (λ a b. same (Statement-F.Compound a.0) (Statement-F.Compound b.0))
      (beside (λ a b. same (Statement-F.Assignment a.0 a.1.0 a.1.1.0 a.1.1.1.0) (Statement-F.Assignment b.0 b.1.0 b.1.1.0 b.1.1.1.0))
      (beside (λ a b. same (Statement-F.Increment a.0 a.1.0) (Statement-F.Increment b.0 b.1.0))
      (beside (λ a b. same (Statement-F.Decrement a.0 a.1.0) (Statement-F.Decrement b.0 b.1.0))
      (beside (λ a b. same (Statement-F.If a.0 a.1.0 a.1.1.0 a.1.1.1.0) (Statement-F.If b.0 b.1.0 b.1.1.0 b.1.1.1.0))
      (beside (λ a b. same (Statement-F.Switch a.0 a.1.0 a.1.1.0 a.1.1.1.0) (Statement-F.Switch b.0 b.1.0 b.1.1.0 b.1.1.1.0))
      (beside (λ a b. same (Statement-F.Loop a.0 a.1.0 a.1.1.0) (Statement-F.Loop b.0 b.1.0 b.1.1.0))
      (beside (λ a b. same (Statement-F.For a.0 a.1.0 a.1.1.0 a.1.1.1.0 a.1.1.1.1.0) (Statement-F.For b.0 b.1.0 b.1.1.0 b.1.1.1.0 b.1.1.1.1.0))
      (beside (λ a b. same (Statement-F.While a.0 a.1.0 a.1.1.0) (Statement-F.While b.0 b.1.0 b.1.1.0))
      (beside (λ a b. same (Statement-F.Break a.0) (Statement-F.Break b.0))
      (beside (λ a b. same (Statement-F.Continue a.0) (Statement-F.Continue b.0))
      (beside (λ a b. same (Statement-F.Return a.0 a.1.0) (Statement-F.Return b.0 b.1.0))
      (beside (λ a b. same (Statement-F.Discard a.0) (Statement-F.Discard b.0))
      (beside (λ a b. same (Statement-F.FunctionCall a.0 a.1.0) (Statement-F.FunctionCall b.0 b.1.0))
      (beside (λ a b. same (Statement-F.ConstAssert a.0) (Statement-F.ConstAssert b.0))
      (beside (λ a b. same (Statement-F.Declaration a.0) (Statement-F.Declaration b.0))
      tt))))))))))))))))

  -- that of any two: those of different forms are told apart by computing
  abbrev by_form : Layer → Layer → Bool
  by_form x w = by false false (statement.enum).parts tests (split-Statement (Values the_members the_sigs the_carrier) x) (split-Statement (Values the_members the_sigs the_carrier) w)

  form_level : (x w : Layer) → by_form x w ≡ same x w
  form_level Statement-F.Void Statement-F.Void = refl
  form_level (Statement-F.Compound a) (Statement-F.Compound g) = refl
  form_level (Statement-F.Assignment a b c d) (Statement-F.Assignment g h i j) = refl
  form_level (Statement-F.Increment a b) (Statement-F.Increment g h) = refl
  form_level (Statement-F.Decrement a b) (Statement-F.Decrement g h) = refl
  form_level (Statement-F.If a b c d) (Statement-F.If g h i j) = refl
  form_level (Statement-F.Switch a b c d) (Statement-F.Switch g h i j) = refl
  form_level (Statement-F.Loop a b c) (Statement-F.Loop g h i) = refl
  form_level (Statement-F.For a b c d e) (Statement-F.For g h i j k) = refl
  form_level (Statement-F.While a b c) (Statement-F.While g h i) = refl
  form_level (Statement-F.Break a) (Statement-F.Break g) = refl
  form_level (Statement-F.Continue a) (Statement-F.Continue g) = refl
  form_level (Statement-F.Return a b) (Statement-F.Return g h) = refl
  form_level (Statement-F.Discard a) (Statement-F.Discard g) = refl
  form_level (Statement-F.FunctionCall a b) (Statement-F.FunctionCall g h) = refl
  form_level (Statement-F.ConstAssert a) (Statement-F.ConstAssert g) = refl
  form_level (Statement-F.Declaration a) (Statement-F.Declaration g) = refl
  form_level _ _ = refl

  pub statement_level : (m n : Statement) (x w : Layer) → out-Statement m ≡ x → out-Statement n ≡ w → statements.the_step F member-Statement m n ≡ same x w
  statement_level m n x w p q = (λ i. by_form (p i) (q i)) ∙ form_level x w
