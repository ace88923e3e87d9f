-- The tree of a body, by the trees of its parts, and of a body in a role.
use Rattle.std.proofs.Common.{◌≡◌, ℕ, [], ◌∷◌, Global, Vec, ap, sym, ◌∙◌}
use Rattle.wesl_cond_chains.specs.Conditions.{recast, with_attributes}
use Rattle.wesl_cond_chains.specs.Nodes.{attributes_forest}
use Rattle.wesl_cond_features.specs.Answers.{Answers}
use Rattle.wesl_cond_features.specs.declared.chain.Role.{Role}
use Rattle.wesl_tree_syntax.specs.Tree.{attributes, before, branch, compound, compound_statement, end, kind, statements, tree, Forest}
use Rattle.wesl_tree_syntax.specs.View.{listed, statement_tree, statement_view}
use Rattle.wesl_tree_syntax.specs.declared.attribute.Attribute.{Attribute}
use Rattle.wesl_tree_syntax.specs.declared.span.Spanned.{Spanned}
use Rattle.wesl_tree_syntax.specs.declared.statement.CompoundStatement.{CompoundStatement, out-CompoundStatement}
use Rattle.wesl_tree_syntax.specs.declared.statement.Statement.{Statement}
use Rattle.wesl_tree_syntax.specs.declared.statement.Statement.TheViews as made
use Rattle.wesl_tree_syntax.specs.declared.statement.Statement.TheViews.{roll-CompoundStatement}
use Rattle.wesl_tree_syntax.proofs.Views.{view_block, view_compound, view_compound_of}

-- a statement that is a body, with the body's attributes in a role
pub compound_recast : (known : Answers ℕ) (role : Role) (s t : Statement) (b b0 : CompoundStatement) (a : Vec (Spanned Attribute) Global) → s ≡ made.Compound b → b0 ≡ b
    → t ≡ made.Compound (roll-CompoundStatement (record { attributes = a; statements = (out-CompoundStatement b0).statements }))
    → attributes_forest a.items ≡ recast known role (attributes_forest (out-CompoundStatement b0).attributes.items)
    → before (statement_view t) end ≡ with_attributes (recast known role) (before (statement_view s) end)
compound_recast known role s t b b0 a is k new e =
    let v = (out-CompoundStatement b0).statements in
    ap (λ x. before (statement_view x) end) new
    ∙ ap (λ t. before t end) (view_block (roll-CompoundStatement (record { attributes = a; statements = v })))
    ∙ ap (λ t. before (branch compound_statement (t ∷ [])) end) (view_compound_of a v)
    ∙ ap (λ (f : Forest). tree (kind compound_statement) (tree (kind compound) (tree (kind attributes) f (before (listed statement_tree statements v) end)) end) end) e
    ∙ ap (λ t. with_attributes (recast known role) (before (branch compound_statement (t ∷ [])) end)) (sym (view_compound b0))
    ∙ ap (λ t. with_attributes (recast known role) (before t end)) (sym (view_block b0))
    ∙ ap (λ x. with_attributes (recast known role) (before (statement_view (made.Compound x)) end)) k
    ∙ ap (λ x. with_attributes (recast known role) (before (statement_view x) end)) (sym is)
