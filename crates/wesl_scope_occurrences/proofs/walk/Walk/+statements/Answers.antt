use Rattle.std.proofs.Common.{◌≡◌, ◌∙◌, ap, refl, [], ◌∷◌, length, map}
use Rattle.wesl_tree_syntax.specs.Tree.{statements, branch, for_loop, loop, continuing, while_loop, compound_statement, if_clause, else_if_clause, else_clause, switch_clause, list}
use Rattle.wesl_tree_syntax.specs.View.{statement_view, compound_view, continuing_view, break_if_view, selector_view, attributes_tree, listed, statement_tree, optional, expression_tree, else_view, else_if_view, clause_view}
use Rattle.wesl_tree_syntax.specs.declared.statement.CompoundStatement.{out-CompoundStatement}
use Rattle.wesl_tree_syntax.specs.declared.statement.ContinuingStatement.{out-ContinuingStatement}
use Rattle.wesl_tree_syntax.specs.declared.statement.ElseClause.{out-ElseClause}
use Rattle.wesl_tree_syntax.specs.declared.statement.ElseIfClause.{out-ElseIfClause}
use Rattle.wesl_tree_syntax.specs.declared.statement.IfClause.{out-IfClause}
use Rattle.wesl_tree_syntax.specs.declared.statement.SwitchClause.{out-SwitchClause}
use Rattle.wesl_scope_occurrences.specs.Views.{here_view}
use Rattle.wesl_scope_occurrences.proofs.Steps.{all_passed, at, begin, begun, gone_on, inside, lawful, next, next_within, none, numbers, over, over_kept, over_within, step, tells}
use Rattle.wesl_scope_occurrences.proofs.Nodes.{body_joined, continuing_joined, for_joined, for_tree, held_joined, inner_statement, loop_joined, stepped_joined}
use Rattle.wesl_scope_occurrences.proofs.walk.Walk.+statements.Goals as goal
use Rattle.wesl_tree_syntax.proofs.Views.{view_assignment, view_block, view_call_statement, view_clause, view_compound, view_const_assert, view_continuing, view_else, view_else_if, view_for, view_if, view_if_clause, view_local, view_loop, view_return, view_switch, view_void, view_while}

pub statement-returns-in-For : goal.statement-returns-in-For
statement-returns-in-For g t c =
    let l = lawful g.met.H.Handler.none g.met.H.Handler.more in
    let f = c.in-For in
    let parts = attributes_tree (out-CompoundStatement f.body).attributes ∷ listed statement_tree statements (out-CompoundStatement f.body).statements ∷ [] in
    let is : statement_view c.args.statement.now ≡ for_tree f.attributes f.initializer f.condition f.update parts =
    ap statement_view f.is ∙ (view_for f.attributes f.initializer f.condition f.update f.body ∙ ap (λ b. branch for_loop (attributes_tree f.attributes ∷ optional inner_statement f.initializer ∷ optional expression_tree f.condition ∷ optional inner_statement f.update ∷ b ∷ [])) (view_compound f.body)) in
    let h = here_view c.args.here.now in
    let x = next l (next l (next l (numbers l (step l (none l c.args.self.now) c.open-here-in-For.ensures.opened) c.number-below.ensures.numbered) c.attributes-in-For.ensures) c.optional_statement.ensures) c.optional_node.ensures in
    let y = tells l (next l (next_within l x c.update.ensures) c.compound-in-For.ensures) c.close-in-For.ensures in
    over_kept h y is
    (λ k. for_joined h (here_view c.open-here-in-For.result) (here_view c.inside-inner.result) (here_view c.number-below.result) (here_view c.inside-in-For.result) (begin c.args.self.now) (length c.open-here-in-For.new.self.outer.items)
    f.attributes f.initializer f.condition f.update parts (compound_view f.body) (view_compound f.body)
    c.open-here-in-For.ensures.here c.inside-inner.ensures
    (ap length (c.open-here-in-For.ensures.opened.outer (c.number-below.ensures.numbered.noted (c.attributes-in-For.ensures.steps.noted (c.optional_statement.ensures.steps.noted (c.optional_node.ensures.steps.noted (c.update.ensures.steps.noted (c.compound-in-For.ensures.steps.noted (c.close-in-For.ensures.noted k)))))))))
    c.number-below.ensures.here c.inside-in-For.ensures)

pub statement-returns-in-Compound : goal.statement-returns-in-Compound
statement-returns-in-Compound g t c =
    let l = lawful g.met.H.Handler.none g.met.H.Handler.more in
    let v = c.in-Compound in
    let h = here_view c.args.here.now in
    over h (tells l (next l (step l (none l c.args.self.now) c.open-here.ensures.opened) c.compound.ensures) c.close.ensures) (ap statement_view v.is ∙ view_block v.body)
    (held_joined h (here_view c.open-here.result) (begin c.args.self.now) compound_statement (compound_view v.body ∷ []) refl c.open-here.ensures.here)

pub statement-returns-in-Assignment : goal.statement-returns-in-Assignment
statement-returns-in-Assignment g t c =
    let l = lawful g.met.H.Handler.none g.met.H.Handler.more in
    let v = c.in-Assignment in
    over (here_view c.args.here.now) (next l (next l (next l (none l c.args.self.now) c.attributes.ensures) c.node.ensures) c.node-in-Assignment.ensures)
    (ap statement_view v.is ∙ view_assignment v.attributes v.operator v.lhs v.rhs) refl

pub statement-returns-in-If : goal.statement-returns-in-If
statement-returns-in-If g t c =
    let l = lawful g.met.H.Handler.none g.met.H.Handler.more in
    let v = c.in-If in
    over (here_view c.args.here.now) (next l (next l (next l (next l (none l c.args.self.now) c.attributes-in-If.ensures) c.if_clause.ensures) c.else_if_clauses.ensures) c.optional_else_clause.ensures)
    (ap statement_view v.is ∙ view_if v.attributes v.if_clause v.else_if_clauses v.else_clause) refl

pub statement-returns-in-Switch : goal.statement-returns-in-Switch
statement-returns-in-Switch g t c =
    let l = lawful g.met.H.Handler.none g.met.H.Handler.more in
    let v = c.in-Switch in
    over (here_view c.args.here.now) (next l (next l (next l (next l (none l c.args.self.now) c.attributes-in-Switch.ensures) c.node-in-Switch.ensures) c.attributes-in-Switch-2.ensures) c.clauses.ensures)
    (ap statement_view v.is ∙ view_switch v.attributes v.expression v.body_attributes v.clauses) refl

pub statement-returns-in-Loop : goal.statement-returns-in-Loop
statement-returns-in-Loop g t c =
    let l = lawful g.met.H.Handler.none g.met.H.Handler.more in
    let v = c.in-Loop in
    let h = here_view c.args.here.now in
    let parts = attributes_tree (out-CompoundStatement v.body).attributes ∷ listed statement_tree statements (out-CompoundStatement v.body).statements ∷ [] in
    over h (tells l (next l (next l (next l (step l (none l c.args.self.now) c.open-here-in-Loop.ensures.opened) c.attributes-in-Loop.ensures) (at (λ z. z) (view_compound v.body) c.compound-in-Loop.ensures)) c.optional_continuing.ensures) c.close-in-Loop.ensures)
    (ap statement_view v.is ∙ (view_loop v.attributes v.body v.continuing ∙ ap (λ b. branch loop (attributes_tree v.attributes ∷ b ∷ optional continuing_view v.continuing ∷ [])) (view_compound v.body)))
    (loop_joined continuing_view h (here_view c.open-here-in-Loop.result) (here_view c.inside.result) (begin c.args.self.now) v.attributes parts v.continuing c.open-here-in-Loop.ensures.here c.inside.ensures)

pub statement-returns-in-While : goal.statement-returns-in-While
statement-returns-in-While g t c =
    let l = lawful g.met.H.Handler.none g.met.H.Handler.more in
    let v = c.in-While in
    let h = here_view c.args.here.now in
    over h (tells l (next l (next l (next l (step l (none l c.args.self.now) c.open-here-in-While.ensures.opened) c.attributes-in-While.ensures) c.node-in-While.ensures) c.compound-in-While.ensures) c.close-in-While.ensures)
    (ap statement_view v.is ∙ view_while v.attributes v.condition v.body)
    (held_joined h (here_view c.open-here-in-While.result) (begin c.args.self.now) while_loop (attributes_tree v.attributes ∷ expression_tree v.condition ∷ compound_view v.body ∷ []) refl c.open-here-in-While.ensures.here)

pub statement-returns-in-Return : goal.statement-returns-in-Return
statement-returns-in-Return g t c =
    let l = lawful g.met.H.Handler.none g.met.H.Handler.more in
    let v = c.in-Return in
    over (here_view c.args.here.now) (next l (next l (none l c.args.self.now) c.attributes-in-Return.ensures) c.optional_node-in-Return.ensures) (ap statement_view v.is ∙ view_return v.attributes v.expression) refl

pub statement-returns-in-FunctionCall : goal.statement-returns-in-FunctionCall
statement-returns-in-FunctionCall g t c =
    let l = lawful g.met.H.Handler.none g.met.H.Handler.more in
    let v = c.in-FunctionCall in
    over (here_view c.args.here.now) (next l (next l (none l c.args.self.now) c.attributes-in-FunctionCall.ensures) c.call.ensures) (ap statement_view v.is ∙ view_call_statement v.attributes v.call) refl

pub if_clause-returns : goal.if_clause-returns
if_clause-returns g t c =
    let l = lawful g.met.H.Handler.none g.met.H.Handler.more in
    let v = out-IfClause c.args.clause.now in
    let h = here_view c.args.here.now in
    over h (tells l (next l (next l (step l (none l c.args.self.now) c.open-here.ensures.opened) c.node.ensures) c.compound.ensures) c.close.ensures) (view_if_clause c.args.clause.now)
    (held_joined h (here_view c.open-here.result) (begin c.args.self.now) if_clause (expression_tree v.expression ∷ compound_view v.body ∷ []) refl c.open-here.ensures.here)

pub else_if_clause-returns : goal.else_if_clause-returns
else_if_clause-returns g t c =
    let l = lawful g.met.H.Handler.none g.met.H.Handler.more in
    let v = out-ElseIfClause c.args.clause.now in
    let h = here_view c.args.here.now in
    over h (tells l (next l (next l (next l (step l (none l c.args.self.now) c.open-here.ensures.opened) c.attributes.ensures) c.node.ensures) c.compound.ensures) c.close.ensures) (view_else_if c.args.clause.now)
    (held_joined h (here_view c.open-here.result) (begin c.args.self.now) else_if_clause (attributes_tree v.attributes ∷ expression_tree v.expression ∷ compound_view v.body ∷ []) refl c.open-here.ensures.here)

pub else_clause-returns : goal.else_clause-returns
else_clause-returns g t c =
    let l = lawful g.met.H.Handler.none g.met.H.Handler.more in
    let v = out-ElseClause c.args.clause.now in
    let h = here_view c.args.here.now in
    over h (tells l (next l (next l (step l (none l c.args.self.now) c.open-here.ensures.opened) c.attributes.ensures) c.compound.ensures) c.close.ensures) (view_else c.args.clause.now)
    (held_joined h (here_view c.open-here.result) (begin c.args.self.now) else_clause (attributes_tree v.attributes ∷ compound_view v.body ∷ []) refl c.open-here.ensures.here)

pub clause-returns : goal.clause-returns
clause-returns g t c =
    let l = lawful g.met.H.Handler.none g.met.H.Handler.more in
    let v = out-SwitchClause c.args.clause.now in
    let h = here_view c.args.here.now in
    over h (tells l (next l (next l (next l (step l (none l c.args.self.now) c.open-here.ensures.opened) c.attributes.ensures) c.selectors.ensures) c.compound.ensures) c.close.ensures) (view_clause c.args.clause.now)
    (held_joined h (here_view c.open-here.result) (begin c.args.self.now) switch_clause (attributes_tree v.attributes ∷ listed selector_view list v.case_selectors ∷ compound_view v.body ∷ []) refl c.open-here.ensures.here)

pub continuing-returns : goal.continuing-returns
continuing-returns g t c =
    let l = lawful g.met.H.Handler.none g.met.H.Handler.more in
    let v = out-ContinuingStatement c.args.continuing.now in
    let h = here_view c.args.here.now in
    let parts = attributes_tree (out-CompoundStatement v.body).attributes ∷ listed statement_tree statements (out-CompoundStatement v.body).statements ∷ [] in
    over h (tells l (next l (next l (next l (step l (none l c.args.self.now) c.open-here.ensures.opened) c.attributes.ensures) (at (λ z. z) (view_compound v.body) c.compound.ensures)) c.optional_break_if.ensures) c.close.ensures)
    (view_continuing c.args.continuing.now ∙ ap (λ b. branch continuing (attributes_tree v.attributes ∷ b ∷ optional break_if_view v.break_if ∷ [])) (view_compound v.body))
    (continuing_joined break_if_view h (here_view c.open-here.result) (here_view c.inside.result) (begin c.args.self.now) v.attributes parts v.break_if c.open-here.ensures.here c.inside.ensures)

pub optional_continuing-returns-in-Some : goal.optional_continuing-returns-in-Some
optional_continuing-returns-in-Some g t c =
    let l = lawful g.met.H.Handler.none g.met.H.Handler.more in
    let v = c.in-Some in
    over (here_view c.args.here.now) (next l (none l c.args.self.now) c.continuing.ensures) (ap (optional continuing_view) v.is) refl

pub optional_else_clause-returns-in-Some : goal.optional_else_clause-returns-in-Some
optional_else_clause-returns-in-Some g t c =
    let l = lawful g.met.H.Handler.none g.met.H.Handler.more in
    let v = c.in-Some in
    over (here_view c.args.here.now) (next l (none l c.args.self.now) c.else_clause.ensures) (ap (optional else_view) v.is) refl

pub compound-returns : goal.compound-returns
compound-returns g t c =
    let l = lawful g.met.H.Handler.none g.met.H.Handler.more in
    let v = out-CompoundStatement c.args.body.now in
    let h = here_view c.args.here.now in
    over h (next l (next l (none l c.args.self.now) c.attributes.ensures) c.statements.ensures) (view_compound c.args.body.now)
    (body_joined h (here_view c.inside.result) (begin c.args.self.now) v.attributes (map statement_tree v.statements.items) c.inside.ensures)

pub statements-loop-node-init : goal.statements-loop-node-init
statements-loop-node-init g t c =
    let l = lawful g.met.H.Handler.none g.met.H.Handler.more in
    begun l statement_tree (here_view c.args.here.now)

pub statements-loop-node-preserved : goal.statements-loop-node-preserved
statements-loop-node-preserved g t c =
    let l = lawful g.met.H.Handler.none g.met.H.Handler.more in
    gone_on l statement_tree (here_view c.args.here.now) c.node-item.result c.loop-node-test.true c.node-item.is c.loop-node.invariant (inside (here_view c.args.here.now) c.statement.ensures refl refl)

pub statements-returns : goal.statements-returns
statements-returns g t c = all_passed statement_tree (here_view c.args.here.now) c.loop-node-test.false c.deref-node-items.ensures.value refl c.loop-node.invariant

pub else_if_clauses-loop-clause-init : goal.else_if_clauses-loop-clause-init
else_if_clauses-loop-clause-init g t c =
    let l = lawful g.met.H.Handler.none g.met.H.Handler.more in
    begun l else_if_view (here_view c.args.here.now)

pub else_if_clauses-loop-clause-preserved : goal.else_if_clauses-loop-clause-preserved
else_if_clauses-loop-clause-preserved g t c =
    let l = lawful g.met.H.Handler.none g.met.H.Handler.more in
    gone_on l else_if_view (here_view c.args.here.now) c.clause-item.result c.loop-clause-test.true c.clause-item.is c.loop-clause.invariant c.else_if_clause.ensures

pub else_if_clauses-returns : goal.else_if_clauses-returns
else_if_clauses-returns g t c = all_passed else_if_view (here_view c.args.here.now) c.loop-clause-test.false c.deref-clause-items.ensures.value refl c.loop-clause.invariant

pub clauses-loop-clause-init : goal.clauses-loop-clause-init
clauses-loop-clause-init g t c =
    let l = lawful g.met.H.Handler.none g.met.H.Handler.more in
    begun l clause_view (here_view c.args.here.now)

pub clauses-loop-clause-preserved : goal.clauses-loop-clause-preserved
clauses-loop-clause-preserved g t c =
    let l = lawful g.met.H.Handler.none g.met.H.Handler.more in
    gone_on l clause_view (here_view c.args.here.now) c.clause-item.result c.loop-clause-test.true c.clause-item.is c.loop-clause.invariant c.clause.ensures

pub clauses-returns : goal.clauses-returns
clauses-returns g t c = all_passed clause_view (here_view c.args.here.now) c.loop-clause-test.false c.deref-clause-items.ensures.value refl c.loop-clause.invariant

pub statement-returns-in-ConstAssert : goal.statement-returns-in-ConstAssert
statement-returns-in-ConstAssert g t c =
    let l = lawful g.met.H.Handler.none g.met.H.Handler.more in
    let v = c.in-ConstAssert in
    over (here_view c.args.here.now) (next l (none l c.args.self.now) c.assertion.ensures) (ap statement_view v.is ∙ view_const_assert v.assertion) refl

pub statement-returns-in-Declaration : goal.statement-returns-in-Declaration
statement-returns-in-Declaration g t c =
    let l = lawful g.met.H.Handler.none g.met.H.Handler.more in
    let v = c.in-Declaration in
    over (here_view c.args.here.now) (next l (none l c.args.self.now) c.declaration.ensures) (ap statement_view v.is ∙ view_local v.declaration) refl

pub update-returns : goal.update-returns
update-returns g t c =
    let l = lawful g.met.H.Handler.none g.met.H.Handler.more in
    over_within (optional inner_statement c.args.node.now) (here_view c.args.here.now) (tells l (next l (tells l (none l c.args.self.now) c.enter.ensures) c.optional_statement.ensures) c.close.ensures)

pub statement-returns-in-Void : goal.statement-returns-in-Void
statement-returns-in-Void g t c =
    let l = lawful g.met.H.Handler.none g.met.H.Handler.more in
    over (here_view c.args.here.now) (none l c.args.self.now) (ap statement_view c.in-Void.is ∙ view_void) refl

pub optional_statement-returns-in-None : goal.optional_statement-returns-in-None
optional_statement-returns-in-None g t c =
    let l = lawful g.met.H.Handler.none g.met.H.Handler.more in
    over (here_view c.args.here.now) (none l c.args.self.now) (ap (optional inner_statement) c.in-None.is) refl

pub optional_statement-returns-in-Some : goal.optional_statement-returns-in-Some
optional_statement-returns-in-Some g t c =
    let l = lawful g.met.H.Handler.none g.met.H.Handler.more in
    over (here_view c.args.here.now) (next l (none l c.args.self.now) (at (λ z. statement_view z.node) c.deref.ensures c.statement.ensures)) (ap (optional inner_statement) c.in-Some.is) refl

pub optional_else_clause-returns-in-None : goal.optional_else_clause-returns-in-None
optional_else_clause-returns-in-None g t c =
    let l = lawful g.met.H.Handler.none g.met.H.Handler.more in
    over (here_view c.args.here.now) (none l c.args.self.now) (ap (optional else_view) c.in-None.is) refl

pub optional_continuing-returns-in-None : goal.optional_continuing-returns-in-None
optional_continuing-returns-in-None g t c =
    let l = lawful g.met.H.Handler.none g.met.H.Handler.more in
    over (here_view c.args.here.now) (none l c.args.self.now) (ap (optional continuing_view) c.in-None.is) refl

pub statement-returns-in-Increment : goal.statement-returns-in-Increment
statement-returns-in-Increment g t c =
    let l = lawful g.met.H.Handler.none g.met.H.Handler.more in
    let v = c.in-Increment in
    over (here_view c.args.here.now) (next l (next l (none l c.args.self.now) c.attributes-in-Increment.ensures) c.node-in-Increment.ensures) refl (stepped_joined (here_view c.args.here.now) (begin c.args.self.now) c.args.statement.now v.attributes v.expression v.is)
