use Rattle.std.proofs.Common.{◌∙◌, ◌<◌, ◌≤◌, ◌++◌, ◌==◌, ◌∷◌, [], length, ap, arith}
use Rattle.std.specs.Prelude.{if◌then◌else◌}
use Rattle.wesl_scope_graph.proofs.Growing.{pushed_at, closed_at}
use Rattle.wesl_scope_graph.proofs.edges.add_edge.Goals as goal

pub returns-clause-added : goal.returns-clause-added
returns-clause-added c =
    let first = c.in_ok-grow.ensures.there in
    let more = c.in_ok-grow-2.ensures.more in
    let inside : c.args.from < length c.grow-2.new.graph.items = omega (arith, first, more) in
    λ a. pushed_at c.grow-2.new.graph.items c.args.from c.args.to a c.index_mut.result.now c.push.new.self inside c.index_mut.ensures.value c.in_ok-push.ensures.items
    ∙ ap (λ xs. xs ++ (if c.args.from == a then c.args.to ∷ [] else [])) (c.in_ok-grow-2.ensures.same a ∙ c.in_ok-grow.ensures.same a)

pub returns-clause-closed : goal.returns-clause-closed
returns-clause-closed c =
    let first = c.in_ok-grow.ensures.more in
    let more = c.in_ok-grow-2.ensures.more in
    let later : length c.args.graph.now.items ≤ length c.grow-2.new.graph.items = omega (arith, first, more) in
    closed_at c.args.graph.now.items c.grow-2.new.graph.items c.args.from c.args.to c.push.new.self (returns-clause-added c) later c.in_ok-grow-2.ensures.there
