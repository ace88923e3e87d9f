use Rattle.std.proofs.lemmas.Result.{IfErr-weaker}
use Rattle.wesl_tree_base.specs.Borrowed.{texts}
use Rattle.wesl_tree_names.specs.Path.{path_view}
use Rattle.wesl_link.specs.Keeping.{resolved}
use Rattle.wesl_text_linked.proofs.Asked.{all_ok, found_eagerly, refused_eagerly, found_lazily, refused_lazily}
use Rattle.wesl_text_linked.proofs.linking.resolutions.Goals as goal

pub returns-then-is_eager-clause-found : goal.returns-then-is_eager-clause-found
returns-then-is_eager-clause-found g c =
    let q = c.args.request.now in
    let e = c.resolve_eager.ensures in
    all_ok c.resolve_eager.result _ _ _ _ _
    (λ r linked order kept eager. found_eagerly g.R.Resolver c.args.resolver.now c.args.unit (path_view q.root.now) (texts q.keep.now) q.max_modules q.is_eager c.if-is_eager.true (resolved r) linked order kept eager)
    e.linked e.order e.kept e.eager

pub returns-then-is_eager-clause-refused : goal.returns-then-is_eager-clause-refused
returns-then-is_eager-clause-refused g c =
    let q = c.args.request.now in
    IfErr-weaker c.resolve_eager.result _ _
    (λ d h. refused_eagerly g.R.Resolver c.args.resolver.now c.args.unit (path_view q.root.now) (texts q.keep.now) q.max_modules q.is_eager c.if-is_eager.true d h)
    c.resolve_eager.ensures.refused

pub returns-else-is_eager-clause-found : goal.returns-else-is_eager-clause-found
returns-else-is_eager-clause-found g c =
    let q = c.args.request.now in
    let e = c.resolve_lazy.ensures in
    all_ok c.resolve_lazy.result _ _ _ _ _
    (λ r linked order kept eager. found_lazily g.R.Resolver c.args.resolver.now c.args.unit (path_view q.root.now) (texts q.keep.now) q.max_modules q.is_eager c.if-is_eager.false (resolved r) linked order kept eager)
    e.linked e.order e.kept e.lazy

pub returns-else-is_eager-clause-refused : goal.returns-else-is_eager-clause-refused
returns-else-is_eager-clause-refused g c =
    let q = c.args.request.now in
    IfErr-weaker c.resolve_lazy.result _ _
    (λ d h. refused_lazily g.R.Resolver c.args.resolver.now c.args.unit (path_view q.root.now) (texts q.keep.now) q.max_modules q.is_eager c.if-is_eager.false d h)
    c.resolve_lazy.ensures.refused
