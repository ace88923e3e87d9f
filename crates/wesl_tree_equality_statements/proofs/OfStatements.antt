-- Equality of statements and of what they are made of.
use Rattle.std.proofs.Common.{◌≡◌, Bool, true, ◌∙◌}
use Rattle.std.specs.Bool.{Decides}
use denote.Hole.Carrier.{Values}
use denote.Hole.Compared.{compared_is}
use Rattle.wesl_tree_syntax.specs.Tree.{Tree}
use Rattle.wesl_tree_syntax.specs.View.{statement_step, compound_step, continuing_step, else_step, else_if_step, if_step, clause_step, statement_view, compound_view, continuing_view, else_view, else_if_view, if_view, clause_view}
use Rattle.wesl_tree_syntax.specs.contracts.statement.StatementPartialEq.TheImpl as statements
use Rattle.wesl_tree_syntax.specs.contracts.statement.CompoundStatementPartialEq.TheImpl as compounds
use Rattle.wesl_tree_syntax.specs.contracts.statement.ContinuingStatementPartialEq.TheImpl as continuings
use Rattle.wesl_tree_syntax.specs.contracts.statement.ElseClausePartialEq.TheImpl as elses
use Rattle.wesl_tree_syntax.specs.contracts.statement.ElseIfClausePartialEq.TheImpl as else_ifs
use Rattle.wesl_tree_syntax.specs.contracts.statement.IfClausePartialEq.TheImpl as ifs
use Rattle.wesl_tree_syntax.specs.contracts.statement.SwitchClausePartialEq.TheImpl as clauses
use Rattle.wesl_tree_syntax.specs.contracts.statement.StatementPartialEq.TheImpl.Laws as laws
use Rattle.wesl_tree_syntax.specs.declared.statement.Statement.{Statement, out-Statement, roll-Statement}
use Rattle.wesl_tree_syntax.specs.declared.statement.CompoundStatement.{CompoundStatement}
use Rattle.wesl_tree_syntax.specs.declared.statement.ContinuingStatement.{ContinuingStatement}
use Rattle.wesl_tree_syntax.specs.declared.statement.ElseClause.{ElseClause}
use Rattle.wesl_tree_syntax.specs.declared.statement.ElseIfClause.{ElseIfClause}
use Rattle.wesl_tree_syntax.specs.declared.statement.IfClause.{IfClause}
use Rattle.wesl_tree_syntax.specs.declared.statement.SwitchClause.{SwitchClause}
use Rattle.wesl_tree_syntax.specs.declared.statement.Statement.TheBlock.{the_members, the_sigs, the_carrier, the_depth, member-Statement, member-CompoundStatement, member-ContinuingStatement, member-ElseClause, member-ElseIfClause, member-IfClause, member-SwitchClause}
use Rattle.wesl_tree_syntax.specs.declared.statement.Statement.TheOpen.{Statement-F, CompoundStatement-F, ContinuingStatement-F, ElseClause-F, ElseIfClause-F, IfClause-F, SwitchClause-F}
use Rattle.wesl_tree_syntax.specs.declared.statement.Statement.TheFolds.{ind-Statement, ind-CompoundStatement, ind-ContinuingStatement, ind-ElseClause, ind-ElseIfClause, ind-IfClause, ind-SwitchClause, fold-roll-Statement, fold-roll-CompoundStatement, fold-roll-ContinuingStatement, fold-roll-ElseClause, fold-roll-ElseIfClause, fold-roll-IfClause, fold-roll-SwitchClause}
use Rattle.wesl_tree_syntax.specs.declared.statement.Statement.TheViews.{out-roll-Statement, roll-out-Statement, out-CompoundStatement, roll-CompoundStatement, out-roll-CompoundStatement, roll-out-CompoundStatement, out-ContinuingStatement, roll-ContinuingStatement, out-roll-ContinuingStatement, roll-out-ContinuingStatement, out-ElseClause, roll-ElseClause, out-roll-ElseClause, roll-out-ElseClause, out-ElseIfClause, roll-ElseIfClause, out-roll-ElseIfClause, roll-out-ElseIfClause, out-IfClause, roll-IfClause, out-roll-IfClause, roll-out-IfClause, out-SwitchClause, roll-SwitchClause, out-roll-SwitchClause, roll-out-SwitchClause}
use Rattle.wesl_tree_equality.specs.Numbered.{numbered}
use Rattle.wesl_tree_equality.proofs.Trees.{Decided, rolled}
use Rattle.wesl_tree_equality_statements.proofs.OfStatementLayers.{Part, same_statement, statement_seen, plain_statement, same_compound, compound_seen, plain_compound, compound_each, same_continuing, continuing_seen, plain_continuing, continuing_each, same_else, else_seen, plain_else, else_each, same_else_if, else_if_seen, plain_else_if, else_if_each, same_if, if_seen, plain_if, if_each, same_clause, clause_seen, plain_clause, clause_each}
use Rattle.wesl_tree_equality_statements.proofs.OfStatementCases.{statement_each}
use Rattle.wesl_tree_equality_statements.proofs.OfStatementSteps.{Family, statement_level}

-- one level of each
abbrev StatementLayer : Type 0
StatementLayer = Statement-F Statement CompoundStatement ContinuingStatement ElseClause ElseIfClause IfClause SwitchClause

abbrev CompoundLayer : Type 0
CompoundLayer = CompoundStatement-F Statement CompoundStatement ContinuingStatement ElseClause ElseIfClause IfClause SwitchClause

abbrev ContinuingLayer : Type 0
ContinuingLayer = ContinuingStatement-F Statement CompoundStatement ContinuingStatement ElseClause ElseIfClause IfClause SwitchClause

abbrev ElseLayer : Type 0
ElseLayer = ElseClause-F Statement CompoundStatement ContinuingStatement ElseClause ElseIfClause IfClause SwitchClause

abbrev ElseIfLayer : Type 0
ElseIfLayer = ElseIfClause-F Statement CompoundStatement ContinuingStatement ElseClause ElseIfClause IfClause SwitchClause

abbrev IfLayer : Type 0
IfLayer = IfClause-F Statement CompoundStatement ContinuingStatement ElseClause ElseIfClause IfClause SwitchClause

abbrev ClauseLayer : Type 0
ClauseLayer = SwitchClause-F Statement CompoundStatement ContinuingStatement ElseClause ElseIfClause IfClause SwitchClause

abbrev statement_shown : StatementLayer → Tree
statement_shown = statement_seen statement_view compound_view continuing_view else_view else_if_view if_view clause_view

abbrev compound_shown : CompoundLayer → Tree
compound_shown = compound_seen statement_view compound_view continuing_view else_view else_if_view if_view clause_view

abbrev continuing_shown : ContinuingLayer → Tree
continuing_shown = continuing_seen statement_view compound_view continuing_view else_view else_if_view if_view clause_view

abbrev else_shown : ElseLayer → Tree
else_shown = else_seen statement_view compound_view continuing_view else_view else_if_view if_view clause_view

abbrev else_if_shown : ElseIfLayer → Tree
else_if_shown = else_if_seen statement_view compound_view continuing_view else_view else_if_view if_view clause_view

abbrev if_shown : IfLayer → Tree
if_shown = if_seen statement_view compound_view continuing_view else_view else_if_view if_view clause_view

abbrev clause_shown : ClauseLayer → Tree
clause_shown = clause_seen statement_view compound_view continuing_view else_view else_if_view if_view clause_view

module _ (F : Family) where
  abbrev statement_test : StatementLayer → StatementLayer → Bool
  statement_test = same_statement (F member-Statement) (F member-CompoundStatement) (F member-ContinuingStatement) (F member-ElseClause) (F member-ElseIfClause) (F member-IfClause) (F member-SwitchClause)

  abbrev compound_test : CompoundLayer → CompoundLayer → Bool
  compound_test = same_compound (F member-Statement) (F member-CompoundStatement) (F member-ContinuingStatement) (F member-ElseClause) (F member-ElseIfClause) (F member-IfClause) (F member-SwitchClause)

  abbrev continuing_test : ContinuingLayer → ContinuingLayer → Bool
  continuing_test = same_continuing (F member-Statement) (F member-CompoundStatement) (F member-ContinuingStatement) (F member-ElseClause) (F member-ElseIfClause) (F member-IfClause) (F member-SwitchClause)

  abbrev else_test : ElseLayer → ElseLayer → Bool
  else_test = same_else (F member-Statement) (F member-CompoundStatement) (F member-ContinuingStatement) (F member-ElseClause) (F member-ElseIfClause) (F member-IfClause) (F member-SwitchClause)

  abbrev else_if_test : ElseIfLayer → ElseIfLayer → Bool
  else_if_test = same_else_if (F member-Statement) (F member-CompoundStatement) (F member-ContinuingStatement) (F member-ElseClause) (F member-ElseIfClause) (F member-IfClause) (F member-SwitchClause)

  abbrev if_test : IfLayer → IfLayer → Bool
  if_test = same_if (F member-Statement) (F member-CompoundStatement) (F member-ContinuingStatement) (F member-ElseClause) (F member-ElseIfClause) (F member-IfClause) (F member-SwitchClause)

  abbrev clause_test : ClauseLayer → ClauseLayer → Bool
  clause_test = same_clause (F member-Statement) (F member-CompoundStatement) (F member-ContinuingStatement) (F member-ElseClause) (F member-ElseIfClause) (F member-IfClause) (F member-SwitchClause)

-- each test is one level over the tests of what is held
record IsLevel (F : Family) : Type 0 where
  pub statements : (x y : StatementLayer) → F member-Statement (roll-Statement x) (roll-Statement y) ≡ statement_test F x y
  pub compounds : (x y : CompoundLayer) → F member-CompoundStatement (roll-CompoundStatement x) (roll-CompoundStatement y) ≡ compound_test F x y
  pub continuings : (x y : ContinuingLayer) → F member-ContinuingStatement (roll-ContinuingStatement x) (roll-ContinuingStatement y) ≡ continuing_test F x y
  pub elses : (x y : ElseLayer) → F member-ElseClause (roll-ElseClause x) (roll-ElseClause y) ≡ else_test F x y
  pub else_ifs : (x y : ElseIfLayer) → F member-ElseIfClause (roll-ElseIfClause x) (roll-ElseIfClause y) ≡ else_if_test F x y
  pub ifs : (x y : IfLayer) → F member-IfClause (roll-IfClause x) (roll-IfClause y) ≡ if_test F x y
  pub clauses : (x y : ClauseLayer) → F member-SwitchClause (roll-SwitchClause x) (roll-SwitchClause y) ≡ clause_test F x y

level : IsLevel laws.family
level = record {
  statements = λ x y. compared_is the_members (Values the_members the_sigs the_carrier) the_depth Bool true statements.the_step laws.local member-Statement (roll-Statement x) (roll-Statement y) ∙ statement_level laws.family (roll-Statement x) (roll-Statement y) x y (out-roll-Statement x) (out-roll-Statement y);
  compounds = λ x y. compared_is the_members (Values the_members the_sigs the_carrier) the_depth Bool true statements.the_step laws.local member-CompoundStatement (roll-CompoundStatement x) (roll-CompoundStatement y) ∙ (λ i. compound_test laws.family (out-roll-CompoundStatement x i) (out-roll-CompoundStatement y i));
  continuings = λ x y. compared_is the_members (Values the_members the_sigs the_carrier) the_depth Bool true statements.the_step laws.local member-ContinuingStatement (roll-ContinuingStatement x) (roll-ContinuingStatement y) ∙ (λ i. continuing_test laws.family (out-roll-ContinuingStatement x i) (out-roll-ContinuingStatement y i));
  elses = λ x y. compared_is the_members (Values the_members the_sigs the_carrier) the_depth Bool true statements.the_step laws.local member-ElseClause (roll-ElseClause x) (roll-ElseClause y) ∙ (λ i. else_test laws.family (out-roll-ElseClause x i) (out-roll-ElseClause y i));
  else_ifs = λ x y. compared_is the_members (Values the_members the_sigs the_carrier) the_depth Bool true statements.the_step laws.local member-ElseIfClause (roll-ElseIfClause x) (roll-ElseIfClause y) ∙ (λ i. else_if_test laws.family (out-roll-ElseIfClause x i) (out-roll-ElseIfClause y i));
  ifs = λ x y. compared_is the_members (Values the_members the_sigs the_carrier) the_depth Bool true statements.the_step laws.local member-IfClause (roll-IfClause x) (roll-IfClause y) ∙ (λ i. if_test laws.family (out-roll-IfClause x i) (out-roll-IfClause y i));
  clauses = λ x y. compared_is the_members (Values the_members the_sigs the_carrier) the_depth Bool true statements.the_step laws.local member-SwitchClause (roll-SwitchClause x) (roll-SwitchClause y) ∙ (λ i. clause_test laws.family (out-roll-SwitchClause x i) (out-roll-SwitchClause y i));
}

-- ---- by induction

module _ (F : Family) (level : IsLevel F) where
  abbrev AtStatement : Statement → Type 0
  AtStatement = Decided statement_view (F member-Statement)

  abbrev AtCompound : CompoundStatement → Type 0
  AtCompound = Decided compound_view (F member-CompoundStatement)

  abbrev AtContinuing : ContinuingStatement → Type 0
  AtContinuing = Decided continuing_view (F member-ContinuingStatement)

  abbrev AtElse : ElseClause → Type 0
  AtElse = Decided else_view (F member-ElseClause)

  abbrev AtElseIf : ElseIfClause → Type 0
  AtElseIf = Decided else_if_view (F member-ElseIfClause)

  abbrev AtIf : IfClause → Type 0
  AtIf = Decided if_view (F member-IfClause)

  abbrev AtClause : SwitchClause → Type 0
  AtClause = Decided clause_view (F member-SwitchClause)

  abbrev OfStatement : Type 0
  OfStatement = (x : Statement) × AtStatement x

  abbrev OfCompound : Type 0
  OfCompound = (x : CompoundStatement) × AtCompound x

  abbrev OfContinuing : Type 0
  OfContinuing = (x : ContinuingStatement) × AtContinuing x

  abbrev OfElse : Type 0
  OfElse = (x : ElseClause) × AtElse x

  abbrev OfElseIf : Type 0
  OfElseIf = (x : ElseIfClause) × AtElseIf x

  abbrev OfIf : Type 0
  OfIf = (x : IfClause) × AtIf x

  abbrev OfClause : Type 0
  OfClause = (x : SwitchClause) × AtClause x

  abbrev statement_part : Part Statement OfStatement
  statement_part = record { view = statement_view; same = F member-Statement; plain = λ x. x.0; decided = λ x. x.1 }

  abbrev compound_part : Part CompoundStatement OfCompound
  compound_part = record { view = compound_view; same = F member-CompoundStatement; plain = λ x. x.0; decided = λ x. x.1 }

  abbrev continuing_part : Part ContinuingStatement OfContinuing
  continuing_part = record { view = continuing_view; same = F member-ContinuingStatement; plain = λ x. x.0; decided = λ x. x.1 }

  abbrev else_part : Part ElseClause OfElse
  else_part = record { view = else_view; same = F member-ElseClause; plain = λ x. x.0; decided = λ x. x.1 }

  abbrev else_if_part : Part ElseIfClause OfElseIf
  else_if_part = record { view = else_if_view; same = F member-ElseIfClause; plain = λ x. x.0; decided = λ x. x.1 }

  abbrev if_part : Part IfClause OfIf
  if_part = record { view = if_view; same = F member-IfClause; plain = λ x. x.0; decided = λ x. x.1 }

  abbrev clause_part : Part SwitchClause OfClause
  clause_part = record { view = clause_view; same = F member-SwitchClause; plain = λ x. x.0; decided = λ x. x.1 }

  abbrev statement_plain : Statement-F OfStatement OfCompound OfContinuing OfElse OfElseIf OfIf OfClause → StatementLayer
  statement_plain = plain_statement statement_part compound_part continuing_part else_part else_if_part if_part clause_part

  abbrev compound_plain : CompoundStatement-F OfStatement OfCompound OfContinuing OfElse OfElseIf OfIf OfClause → CompoundLayer
  compound_plain = plain_compound statement_part compound_part continuing_part else_part else_if_part if_part clause_part

  abbrev continuing_plain : ContinuingStatement-F OfStatement OfCompound OfContinuing OfElse OfElseIf OfIf OfClause → ContinuingLayer
  continuing_plain = plain_continuing statement_part compound_part continuing_part else_part else_if_part if_part clause_part

  abbrev else_plain : ElseClause-F OfStatement OfCompound OfContinuing OfElse OfElseIf OfIf OfClause → ElseLayer
  else_plain = plain_else statement_part compound_part continuing_part else_part else_if_part if_part clause_part

  abbrev else_if_plain : ElseIfClause-F OfStatement OfCompound OfContinuing OfElse OfElseIf OfIf OfClause → ElseIfLayer
  else_if_plain = plain_else_if statement_part compound_part continuing_part else_part else_if_part if_part clause_part

  abbrev if_plain : IfClause-F OfStatement OfCompound OfContinuing OfElse OfElseIf OfIf OfClause → IfLayer
  if_plain = plain_if statement_part compound_part continuing_part else_part else_if_part if_part clause_part

  abbrev clause_plain : SwitchClause-F OfStatement OfCompound OfContinuing OfElse OfElseIf OfIf OfClause → ClauseLayer
  clause_plain = plain_clause statement_part compound_part continuing_part else_part else_if_part if_part clause_part

  statement_up : (x : StatementLayer) (y : Statement-F OfStatement OfCompound OfContinuing OfElse OfElseIf OfIf OfClause) → statement_plain y ≡ x → AtStatement (roll-Statement x)
  statement_up = rolled statement_view (F member-Statement) roll-Statement out-Statement roll-out-Statement statement_shown (fold-roll-Statement Tree Tree Tree Tree Tree Tree Tree statement_step compound_step continuing_step else_step else_if_step if_step clause_step) (statement_test F) level.statements statement_plain (statement_each statement_part compound_part continuing_part else_part else_if_part if_part clause_part)

  compound_up : (x : CompoundLayer) (y : CompoundStatement-F OfStatement OfCompound OfContinuing OfElse OfElseIf OfIf OfClause) → compound_plain y ≡ x → AtCompound (roll-CompoundStatement x)
  compound_up = rolled compound_view (F member-CompoundStatement) roll-CompoundStatement out-CompoundStatement roll-out-CompoundStatement compound_shown (fold-roll-CompoundStatement Tree Tree Tree Tree Tree Tree Tree statement_step compound_step continuing_step else_step else_if_step if_step clause_step) (compound_test F) level.compounds compound_plain (compound_each statement_part compound_part continuing_part else_part else_if_part if_part clause_part)

  continuing_up : (x : ContinuingLayer) (y : ContinuingStatement-F OfStatement OfCompound OfContinuing OfElse OfElseIf OfIf OfClause) → continuing_plain y ≡ x → AtContinuing (roll-ContinuingStatement x)
  continuing_up = rolled continuing_view (F member-ContinuingStatement) roll-ContinuingStatement out-ContinuingStatement roll-out-ContinuingStatement continuing_shown (fold-roll-ContinuingStatement Tree Tree Tree Tree Tree Tree Tree statement_step compound_step continuing_step else_step else_if_step if_step clause_step) (continuing_test F) level.continuings continuing_plain (continuing_each statement_part compound_part continuing_part else_part else_if_part if_part clause_part)

  else_up : (x : ElseLayer) (y : ElseClause-F OfStatement OfCompound OfContinuing OfElse OfElseIf OfIf OfClause) → else_plain y ≡ x → AtElse (roll-ElseClause x)
  else_up = rolled else_view (F member-ElseClause) roll-ElseClause out-ElseClause roll-out-ElseClause else_shown (fold-roll-ElseClause Tree Tree Tree Tree Tree Tree Tree statement_step compound_step continuing_step else_step else_if_step if_step clause_step) (else_test F) level.elses else_plain (else_each statement_part compound_part continuing_part else_part else_if_part if_part clause_part)

  else_if_up : (x : ElseIfLayer) (y : ElseIfClause-F OfStatement OfCompound OfContinuing OfElse OfElseIf OfIf OfClause) → else_if_plain y ≡ x → AtElseIf (roll-ElseIfClause x)
  else_if_up = rolled else_if_view (F member-ElseIfClause) roll-ElseIfClause out-ElseIfClause roll-out-ElseIfClause else_if_shown (fold-roll-ElseIfClause Tree Tree Tree Tree Tree Tree Tree statement_step compound_step continuing_step else_step else_if_step if_step clause_step) (else_if_test F) level.else_ifs else_if_plain (else_if_each statement_part compound_part continuing_part else_part else_if_part if_part clause_part)

  if_up : (x : IfLayer) (y : IfClause-F OfStatement OfCompound OfContinuing OfElse OfElseIf OfIf OfClause) → if_plain y ≡ x → AtIf (roll-IfClause x)
  if_up = rolled if_view (F member-IfClause) roll-IfClause out-IfClause roll-out-IfClause if_shown (fold-roll-IfClause Tree Tree Tree Tree Tree Tree Tree statement_step compound_step continuing_step else_step else_if_step if_step clause_step) (if_test F) level.ifs if_plain (if_each statement_part compound_part continuing_part else_part else_if_part if_part clause_part)

  clause_up : (x : ClauseLayer) (y : SwitchClause-F OfStatement OfCompound OfContinuing OfElse OfElseIf OfIf OfClause) → clause_plain y ≡ x → AtClause (roll-SwitchClause x)
  clause_up = rolled clause_view (F member-SwitchClause) roll-SwitchClause out-SwitchClause roll-out-SwitchClause clause_shown (fold-roll-SwitchClause Tree Tree Tree Tree Tree Tree Tree statement_step compound_step continuing_step else_step else_if_step if_step clause_step) (clause_test F) level.clauses clause_plain (clause_each statement_part compound_part continuing_part else_part else_if_part if_part clause_part)

  statements_by : (x : Statement) → AtStatement x
  statements_by = ind-Statement AtStatement AtCompound AtContinuing AtElse AtElseIf AtIf AtClause statement_up compound_up continuing_up else_up else_if_up if_up clause_up

  compounds_by : (x : CompoundStatement) → AtCompound x
  compounds_by = ind-CompoundStatement AtStatement AtCompound AtContinuing AtElse AtElseIf AtIf AtClause statement_up compound_up continuing_up else_up else_if_up if_up clause_up

  continuings_by : (x : ContinuingStatement) → AtContinuing x
  continuings_by = ind-ContinuingStatement AtStatement AtCompound AtContinuing AtElse AtElseIf AtIf AtClause statement_up compound_up continuing_up else_up else_if_up if_up clause_up

  elses_by : (x : ElseClause) → AtElse x
  elses_by = ind-ElseClause AtStatement AtCompound AtContinuing AtElse AtElseIf AtIf AtClause statement_up compound_up continuing_up else_up else_if_up if_up clause_up

  else_ifs_by : (x : ElseIfClause) → AtElseIf x
  else_ifs_by = ind-ElseIfClause AtStatement AtCompound AtContinuing AtElse AtElseIf AtIf AtClause statement_up compound_up continuing_up else_up else_if_up if_up clause_up

  ifs_by : (x : IfClause) → AtIf x
  ifs_by = ind-IfClause AtStatement AtCompound AtContinuing AtElse AtElseIf AtIf AtClause statement_up compound_up continuing_up else_up else_if_up if_up clause_up

  clauses_by : (x : SwitchClause) → AtClause x
  clauses_by = ind-SwitchClause AtStatement AtCompound AtContinuing AtElse AtElseIf AtIf AtClause statement_up compound_up continuing_up else_up else_if_up if_up clause_up

pub statements_decided : (x y : Statement) → Decides ((statements.ghosts).eq x y) (numbered (statement_view x) ≡ numbered (statement_view y))
statements_decided = statements_by laws.family level

pub compounds_decided : (x y : CompoundStatement) → Decides ((compounds.ghosts).eq x y) (numbered (compound_view x) ≡ numbered (compound_view y))
compounds_decided = compounds_by laws.family level

pub continuings_decided : (x y : ContinuingStatement) → Decides ((continuings.ghosts).eq x y) (numbered (continuing_view x) ≡ numbered (continuing_view y))
continuings_decided = continuings_by laws.family level

pub elses_decided : (x y : ElseClause) → Decides ((elses.ghosts).eq x y) (numbered (else_view x) ≡ numbered (else_view y))
elses_decided = elses_by laws.family level

pub else_ifs_decided : (x y : ElseIfClause) → Decides ((else_ifs.ghosts).eq x y) (numbered (else_if_view x) ≡ numbered (else_if_view y))
else_ifs_decided = else_ifs_by laws.family level

pub ifs_decided : (x y : IfClause) → Decides ((ifs.ghosts).eq x y) (numbered (if_view x) ≡ numbered (if_view y))
ifs_decided = ifs_by laws.family level

pub clauses_decided : (x y : SwitchClause) → Decides ((clauses.ghosts).eq x y) (numbered (clause_view x) ≡ numbered (clause_view y))
clauses_decided = clauses_by laws.family level
