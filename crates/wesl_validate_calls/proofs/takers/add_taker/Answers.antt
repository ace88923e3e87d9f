use Rattle.std.proofs.Common.{refl, sym, subst}
use Rattle.wesl_validate_rules.specs.Graphs.{graph_view}
use Rattle.wesl_validate_rules.specs.Calls.{open_alias, alias_of, other}
use Rattle.wesl_validate_calls.specs.Ends.{AddsTaker}
use Rattle.wesl_validate_calls.specs.Views.{shape_view}
use Rattle.wesl_validate_calls.proofs.Taking.{adds_function, adds_struct, adds_nothing}
use Rattle.wesl_validate_calls.proofs.takers.add_taker.Goals as goal

pub returns-in_ok-add_edge-in-Function : goal.returns-in_ok-add_edge-in-Function
returns-in_ok-add_edge-in-Function c =
    let old = graph_view c.args.takers.now.items in
    let new = graph_view c.add_edge.new.graph.items in
    subst (λ s. AddsTaker (shape_view s) c.args.number old new) (sym c.in-Function.is) (adds_function c.in-Function.count c.args.number old new c.in_ok-add_edge-in-Function.ensures.added)

pub returns-in_ok-add_edge-in-Struct-2 : goal.returns-in_ok-add_edge-in-Struct-2
returns-in_ok-add_edge-in-Struct-2 c =
    let old = graph_view c.args.takers.now.items in
    let now = graph_view c.add_edge-in-Struct.new.graph.items in
    let new = graph_view c.add_edge-in-Struct-2.new.graph.items in
    subst (λ s. AddsTaker (shape_view s) c.args.number old new) (sym c.in-Struct.is) (adds_struct c.in-Struct.count c.args.number old now new c.in_ok-add_edge-in-Struct.ensures.added c.in_ok-add_edge-in-Struct-2.ensures.added)

pub returns-in-OpenAlias : goal.returns-in-OpenAlias
returns-in-OpenAlias c =
    let old = graph_view c.args.takers.now.items in
    subst (λ s. AddsTaker (shape_view s) c.args.number old old) (sym c.in-OpenAlias.is) (adds_nothing open_alias c.args.number old (λ k. refl))

pub returns-in-Alias : goal.returns-in-Alias
returns-in-Alias c =
    let old = graph_view c.args.takers.now.items in
    subst (λ s. AddsTaker (shape_view s) c.args.number old old) (sym c.in-Alias.is) (adds_nothing (alias_of c.in-Alias.field-0) c.args.number old (λ k. refl))

pub returns-in-Other : goal.returns-in-Other
returns-in-Other c =
    let old = graph_view c.args.takers.now.items in
    subst (λ s. AddsTaker (shape_view s) c.args.number old old) (sym c.in-Other.is) (adds_nothing other c.args.number old (λ k. refl))
