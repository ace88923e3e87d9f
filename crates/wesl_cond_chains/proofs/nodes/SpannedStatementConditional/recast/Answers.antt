use Rattle.std.proofs.Common.{ap, rules}
use Rattle.wesl_cond_chains.specs.Nodes.{answers}
use Rattle.wesl_tree_syntax.specs.Tree.{at, end, statement_node, tree}
use Rattle.wesl_tree_syntax.specs.declared.statement.Statement.{the_lemmas}
use Rattle.wesl_cond_chains.proofs.Views.{compound_recast}
use Rattle.wesl_cond_chains.proofs.nodes.SpannedStatementConditional.recast.Goals as goal

pub returns-in-Compound : goal.returns-in-Compound
returns-in-Compound c =
    let span = c.args.self.now.span in
    ap (λ f. tree (at statement_node span.start span.end) f end) (compound_recast (answers c.args.names.now c.args.features.now) c.args.role c.args.self.now.node _ c.in-Compound.body _ c.recast.new.attributes c.in-Compound.is c.in-Compound.body-is (search (rules, the_lemmas)) c.recast.ensures)
