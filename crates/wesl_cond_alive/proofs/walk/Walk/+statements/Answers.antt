use Rattle.std.proofs.Common.{◌∙◌, ap, refl, sym, arith, ℕ, ◌<◌, ◌≤◌, length, drop, [], ◌∷◌, map}
use Rattle.std.proofs.lemmas.List.{length-map}
use Rattle.wesl_tree_syntax.specs.Tree.{before, branch, continuing, end, forest_of, loop, statement_node}
use Rattle.wesl_tree_syntax.specs.View.{attributes_tree, optional, statement_view, compound_view, continuing_view, break_if_view, statement_tree, else_if_view, clause_view}
use Rattle.wesl_tree_syntax.specs.declared.statement.CompoundStatement.{out-CompoundStatement}
use Rattle.wesl_tree_syntax.specs.declared.statement.ContinuingStatement.{out-ContinuingStatement}
use Rattle.wesl_cond_alive.specs.Walk.{body, last, listed, standing, walk, whole_here}
use Rattle.wesl_cond_alive.specs.Noted.{below, standing_by}
use Rattle.wesl_cond_alive.specs.Views.{state_of, here_view, spot_view}
use Rattle.wesl_cond_alive.proofs.Steps.{all_passed, begun, listed_passed, from, gone_on, judged_passed, next_tree, none, over, walked_as}
use Rattle.wesl_cond_alive.proofs.Nodes.{as_open, body_joined, closed_joined, continuing_joined, loop_joined, next_listed, in_place, in_span, stepped}
use Rattle.wesl_cond_alive.proofs.walk.Walk.+statements.Goals as goal
use Rattle.wesl_tree_syntax.proofs.Views.{view_assignment, view_call_statement, view_clause, view_compound, view_continuing, view_else, view_else_if, view_for, view_if, view_if_clause, view_loop, view_return, view_switch, view_while}

pub statement-returns-in-Assignment : goal.statement-returns-in-Assignment
statement-returns-in-Assignment t c =
    let v = c.in-Assignment in
    over (here_view c.args.here.now) (next_tree (next_tree (next_tree (none c.args.self.now) c.attributes.ensures) c.node.ensures) c.node-in-Assignment.ensures)
    (ap statement_view v.is ∙ view_assignment v.attributes v.operator v.lhs v.rhs) refl

pub statement-returns-in-If : goal.statement-returns-in-If
statement-returns-in-If t c =
    let v = c.in-If in
    over (here_view c.args.here.now) (next_tree (next_tree (next_tree (next_tree (none c.args.self.now) c.attributes-in-If.ensures) c.if_clause.ensures) c.else_if_clauses.ensures) c.optional_else_clause.ensures)
    (ap statement_view v.is ∙ view_if v.attributes v.if_clause v.else_if_clauses v.else_clause) refl

pub statement-returns-in-Switch : goal.statement-returns-in-Switch
statement-returns-in-Switch t c =
    let v = c.in-Switch in
    over (here_view c.args.here.now) (next_tree (next_tree (next_tree (next_tree (none c.args.self.now) c.attributes-in-Switch.ensures) c.node-in-Switch.ensures) (from c.whole.ensures c.attributes-in-Switch-2.ensures)) c.clauses.ensures)
    (ap statement_view v.is ∙ view_switch v.attributes v.expression v.body_attributes v.clauses) refl

pub statement-returns-in-Return : goal.statement-returns-in-Return
statement-returns-in-Return t c =
    let v = c.in-Return in
    over (here_view c.args.here.now) (next_tree (next_tree (none c.args.self.now) c.attributes-in-Return.ensures) c.optional_node-in-Return.ensures) (ap statement_view v.is ∙ view_return v.attributes v.expression) refl

pub statement-returns-in-FunctionCall : goal.statement-returns-in-FunctionCall
statement-returns-in-FunctionCall t c =
    let v = c.in-FunctionCall in
    over (here_view c.args.here.now) (next_tree (next_tree (none c.args.self.now) c.attributes-in-FunctionCall.ensures) c.call.ensures) (ap statement_view v.is ∙ view_call_statement v.attributes v.call) refl

pub statement-returns-in-For : goal.statement-returns-in-For
statement-returns-in-For t c =
    let f = c.in-For in
    let h = here_view c.args.here.now in
    over h (next_tree (next_tree (next_tree (next_tree (next_tree (none c.args.self.now) c.attributes-in-For.ensures) (from c.whole-in-For.ensures c.optional_statement.ensures)) (as_open _ c.optional_node.ensures)) (from c.whole-in-For-2.ensures c.optional_statement-in-For.ensures)) (from c.whole-in-For-3.ensures c.compound-in-For.ensures))
    (ap statement_view f.is ∙ view_for f.attributes f.initializer f.condition f.update f.body) refl

pub statement-returns-in-While : goal.statement-returns-in-While
statement-returns-in-While t c =
    let v = c.in-While in
    over (here_view c.args.here.now) (next_tree (next_tree (next_tree (none c.args.self.now) c.attributes-in-While.ensures) c.node-in-While.ensures) (from c.whole-in-While.ensures c.compound-in-While.ensures))
    (ap statement_view v.is ∙ view_while v.attributes v.condition v.body) refl

pub statement-returns-in-Loop : goal.statement-returns-in-Loop
statement-returns-in-Loop t c =
    let v = c.in-Loop in
    let b = out-CompoundStatement v.body in
    let h = here_view c.args.here.now in
    let places = map here_view c.judge_both-places.result.items in
    record {
      noted = λ k. c.judge_both-places.ensures.noted (c.attributes-in-Loop.ensures.noted (c.closed_body.ensures.noted (c.optional_continuing.ensures.noted k)));
      found = λ k.
          let k3 = c.optional_continuing.ensures.noted k in
          let k2 = c.closed_body.ensures.noted k3 in
          let k1 = c.attributes-in-Loop.ensures.noted k2 in
          loop_joined continuing_view h (state_of c.args.self.now) (state_of c.judge_both-places.new.self) (state_of c.attributes-in-Loop.new.self) (state_of c.closed_body.new.self) (state_of c.optional_continuing.new.self)
          c.len.result places v.attributes b.attributes (map statement_tree b.statements.items) v.continuing (omega (arith, c.len.ensures, b.statements.ok.0, length-map b.statements.items statement_tree))
          (c.judge_both-places.ensures.found k1) (c.judge_both-places.ensures.told k1) (c.attributes-in-Loop.ensures.found k2)
          (c.closed_body.ensures.found k3 ∙ (ap (λ ps. walk (below c.args.here.now (body (map here_view ps))) (state_of c.attributes-in-Loop.new.self) (before (compound_view v.body) end)) c.deref.ensures.value
          ∙ ap (λ y. walk (record { here = whole_here h; ahead = body places }) (state_of c.attributes-in-Loop.new.self) (before y end)) (view_compound v.body)))
          (c.optional_continuing.ensures.found k ∙ ap (λ ps. walk (below c.args.here.now (last (drop c.len.result (map here_view ps)))) (state_of c.closed_body.new.self) (before (optional continuing_view v.continuing) end)) c.deref-in-Loop.ensures.value)
          ∙ ap (walked_as (listed []) h (state_of c.args.self.now)) (sym (ap statement_view v.is ∙ (view_loop v.attributes v.body v.continuing ∙ ap (λ y. branch loop (attributes_tree v.attributes ∷ y ∷ optional continuing_view v.continuing ∷ [])) (view_compound v.body))));
    }

pub compound-returns : goal.compound-returns
compound-returns t c =
    let b = out-CompoundStatement c.args.body.now in
    let h = here_view c.args.here.now in
    record {
      noted = λ k. c.attributes.ensures.noted (c.judge_list-places.ensures.noted (c.statements.ensures.noted k));
      found = λ k.
          let k2 = c.statements.ensures.noted k in
          let k1 = c.judge_list-places.ensures.noted k2 in
          body_joined h (state_of c.args.self.now) (state_of c.attributes.new.self) (state_of c.judge_list-places.new.self) (state_of c.statements.new.self) (map here_view c.judge_list-places.result.items)
          b.attributes (map statement_tree b.statements.items)
          (c.attributes.ensures.found k1) (c.judge_list-places.ensures.found k2) (c.judge_list-places.ensures.told k2)
          (c.statements.ensures.found k ∙ ap (λ ps. walk (standing_by c.args.here.now ps) (state_of c.judge_list-places.new.self) (forest_of (map statement_tree b.statements.items))) c.deref.ensures.value)
          ∙ ap (walked_as (listed []) h (state_of c.args.self.now)) (sym (view_compound c.args.body.now));
    }

pub closed_body-returns : goal.closed_body-returns
closed_body-returns t c =
    let v = out-CompoundStatement c.args.body.now in
    let h = spot_view c.args.here.now in
    let places = map here_view c.args.places.now in
    let listing = from c.whole.ensures c.attributes.ensures in
    record {
      noted = λ k. c.attributes.ensures.noted (c.statements.ensures.noted k);
      found = λ k.
          closed_joined h (state_of c.args.self.now) (state_of c.attributes.new.self) (state_of c.statements.new.self) places v.attributes (map statement_tree v.statements.items)
          (listing.found (c.statements.ensures.noted k)) (c.statements.ensures.found k)
          ∙ ap (λ b. walk (record { here = h; ahead = body places }) (state_of c.args.self.now) (before b end)) (sym (view_compound c.args.body.now));
    }

pub continuing-returns : goal.continuing-returns
continuing-returns t c =
    let v = out-ContinuingStatement c.args.continuing.now in
    let b = out-CompoundStatement v.body in
    let h = here_view c.args.here.now in
    let places = map here_view c.judge_both-places.result.items in
    record {
      noted = λ k. c.judge_both-places.ensures.noted (c.attributes.ensures.noted (c.closed_body.ensures.noted (c.optional_break_if.ensures.noted k)));
      found = λ k.
          let k3 = c.optional_break_if.ensures.noted k in
          let k2 = c.closed_body.ensures.noted k3 in
          let k1 = c.attributes.ensures.noted k2 in
          continuing_joined break_if_view h (state_of c.args.self.now) (state_of c.judge_both-places.new.self) (state_of c.attributes.new.self) (state_of c.closed_body.new.self) (state_of c.optional_break_if.new.self)
          c.len.result places v.attributes b.attributes (map statement_tree b.statements.items) v.break_if (omega (arith, c.len.ensures, b.statements.ok.0, length-map b.statements.items statement_tree))
          (c.judge_both-places.ensures.found k1) (c.judge_both-places.ensures.told k1) (c.attributes.ensures.found k2)
          (c.closed_body.ensures.found k3 ∙ (ap (λ ps. walk (below c.args.here.now (body (map here_view ps))) (state_of c.attributes.new.self) (before (compound_view v.body) end)) c.deref.ensures.value
          ∙ ap (λ y. walk (record { here = whole_here h; ahead = body places }) (state_of c.attributes.new.self) (before y end)) (view_compound v.body)))
          (c.optional_break_if.ensures.found k ∙ ap (λ ps. walk (below c.args.here.now (last (drop c.len.result (map here_view ps)))) (state_of c.closed_body.new.self) (before (optional break_if_view v.break_if) end)) c.deref-2.ensures.value)
          ∙ ap (walked_as (listed []) h (state_of c.args.self.now)) (sym (view_continuing c.args.continuing.now ∙ ap (λ y. branch continuing (attributes_tree v.attributes ∷ y ∷ optional break_if_view v.break_if ∷ [])) (view_compound v.body)));
    }

pub clause-returns : goal.clause-returns
clause-returns t c =
    over (here_view c.args.here.now) (next_tree (next_tree (next_tree (none c.args.self.now) c.attributes.ensures) c.selectors.ensures) (from c.whole.ensures c.compound.ensures)) (view_clause c.args.clause.now) refl

pub else_if_clause-returns : goal.else_if_clause-returns
else_if_clause-returns t c =
    over (spot_view c.args.here.now) (next_tree (next_tree (next_tree (none c.args.self.now) (from c.whole.ensures c.attributes.ensures)) c.node.ensures) (from c.whole-2.ensures c.compound.ensures)) (view_else_if c.args.clause.now) refl

pub else_clause-returns : goal.else_clause-returns
else_clause-returns t c =
    over (spot_view c.args.here.now) (next_tree (next_tree (none c.args.self.now) (from c.whole.ensures c.attributes.ensures)) (from c.whole-2.ensures c.compound.ensures)) (view_else c.args.clause.now) refl

pub if_clause-returns : goal.if_clause-returns
if_clause-returns t c =
    over (spot_view c.args.here.now) (next_tree (next_tree (none c.args.self.now) c.node.ensures) (from c.whole.ensures c.compound.ensures)) (view_if_clause c.args.clause.now) refl

pub statements-loop-i-preserved : goal.statements-loop-i-preserved
statements-loop-i-preserved t c =
    let xs = c.args.nodes.now.items in
    let i = c.loop-i.i in
    let x = c.index.result.now in
    let h = spot_view c.args.here.now in
    let hs = map here_view c.args.places.now in
    let bound : i < length xs = omega (arith, c.loop-i-test.true, c.len-i-end.ensures, c.args.nodes.now.ok.0) in
    gone_on statement_tree h x bound c.index.ensures c.loop-i.invariant (next_listed hs i _)
    (stepped c.statement.ensures (in_span h (here_view c.place.result) hs i statement_node x.span.start x.span.end (state_of c.loop-i.self) (statement_view x.node) refl
    (c.place.ensures ∙ ap (λ p. standing {I = ℕ} p (listed (drop i hs)) end) c.whole-whole.ensures)))

pub statements-returns : goal.statements-returns
statements-returns t c =
    let xs = c.args.nodes.now.items in
    let le : length xs ≤ c.loop-i.i = omega (arith, c.loop-i-test.false, c.len-i-end.ensures, c.args.nodes.now.ok.0) in
    listed_passed statement_tree c.args.here.now c.args.places.now le c.loop-i.invariant

pub clauses-loop-i-preserved : goal.clauses-loop-i-preserved
clauses-loop-i-preserved t c =
    let xs = c.args.all.now.items in
    let i = c.loop-i.i in
    let x = c.index.result.now in
    let h = spot_view c.args.here.now in
    let hs = map here_view c.judge_list-places.result.items in
    let bound : i < length xs = omega (arith, c.loop-i-test.true, c.len-i-end.ensures, c.args.all.now.ok.0) in
    gone_on clause_view h x bound c.index.ensures c.loop-i.invariant (next_listed hs i _)
    (stepped c.clause.ensures (in_place h (here_view c.place.result) hs i (state_of c.loop-i.self) (clause_view x)
    (c.place.ensures ∙ ap (λ ps. standing {I = ℕ} (here_view c.whole-whole.result) (listed (drop i (map here_view ps))) end) c.deref.ensures.value ∙ ap (λ p. standing {I = ℕ} p (listed (drop i hs)) end) c.whole-whole.ensures)))

pub clauses-returns : goal.clauses-returns
clauses-returns t c = judged_passed clause_view (spot_view c.args.here.now) c.judge_list-places.ensures c.loop-i.invariant (omega (arith, c.loop-i-test.false, c.len-i-end.ensures, c.args.all.now.ok.0)) refl

pub else_if_clauses-loop-clause-init : goal.else_if_clauses-loop-clause-init
else_if_clauses-loop-clause-init t c = begun else_if_view (spot_view c.args.here.now)

pub else_if_clauses-loop-clause-preserved : goal.else_if_clauses-loop-clause-preserved
else_if_clauses-loop-clause-preserved t c = gone_on else_if_view (spot_view c.args.here.now) c.clause-item.result c.loop-clause-test.true c.clause-item.is c.loop-clause.invariant refl (stepped c.else_if_clause.ensures refl)

pub else_if_clauses-returns : goal.else_if_clauses-returns
else_if_clauses-returns t c = all_passed else_if_view (spot_view c.args.here.now) c.loop-clause-test.false c.deref-clause-items.ensures.value refl c.loop-clause.invariant
