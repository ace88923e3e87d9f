use Rattle.std.proofs.Common.{◌≡◌, ◌↔◌, option_copied, sym, subst}
use Rattle.std.proofs.lemmas.Result.{IfOk-weaker, IfErr-weaker}
use Rattle.wesl_tree_base.specs.Borrowed.{texts}
use Rattle.wesl_tree_names.specs.Path.{path_view}
use Rattle.wesl_link.specs.Keeping.{modules_of, turns_of}
use Rattle.wesl_cond.specs.Conditioned.{IsConditioned}
use Rattle.wesl_link.proofs.Along.{left-alike, links-over, refuses-over}
use Rattle.wesl_link.proofs.conditional.link_judged.Goals as goal

pub returns-clause-linked : goal.returns-clause-linked
returns-clause-linked g c =
    let inner = c.new-judged.result.resolver in
    let same : inner ≡ c.args.resolver = c.new-judged.ensures.resolver in
    let stored : c.new-judged.result.preprocess ≡ c.args.judge = c.new-judged.ensures.preprocess in
    let alike =
    left-alike (g.R.Resolver.hands inner) (g.R.Resolver.hands c.args.resolver) (g.R.Resolver.refuses inner) (g.R.Resolver.refuses c.args.resolver)
    (λ p u. (subst (λ s. g.R.Resolver.hands s p u) same, subst (λ s. g.R.Resolver.hands s p u) (sym same)))
    (λ p e. (subst (λ s. g.R.Resolver.refuses s p e) same, subst (λ s. g.R.Resolver.refuses s p e) (sym same)))
    (option_copied c.args.features) (λ given answer. g.F.Fn.post c.new-judged.result.preprocess (given, tt) answer)
    (λ given answer. subst (λ f. g.F.Fn.post f (given, tt) answer ↔ IsConditioned (option_copied c.args.features) given answer) (sym stored) (c.requires.judges given answer)) in
    IfOk-weaker c.link_at.result _ _
    (λ r h. links-over _ _ _ _ alike (path_view c.args.request.now.root.now) (texts c.args.request.now.keep.now) c.args.request.now.is_eager c.args.request.now.max_modules (turns_of r) (modules_of r) h)
    c.link_at.ensures.linked

pub returns-clause-refused : goal.returns-clause-refused
returns-clause-refused g c =
    let inner = c.new-judged.result.resolver in
    let same : inner ≡ c.args.resolver = c.new-judged.ensures.resolver in
    let stored : c.new-judged.result.preprocess ≡ c.args.judge = c.new-judged.ensures.preprocess in
    let alike =
    left-alike (g.R.Resolver.hands inner) (g.R.Resolver.hands c.args.resolver) (g.R.Resolver.refuses inner) (g.R.Resolver.refuses c.args.resolver)
    (λ p u. (subst (λ s. g.R.Resolver.hands s p u) same, subst (λ s. g.R.Resolver.hands s p u) (sym same)))
    (λ p e. (subst (λ s. g.R.Resolver.refuses s p e) same, subst (λ s. g.R.Resolver.refuses s p e) (sym same)))
    (option_copied c.args.features) (λ given answer. g.F.Fn.post c.new-judged.result.preprocess (given, tt) answer)
    (λ given answer. subst (λ f. g.F.Fn.post f (given, tt) answer ↔ IsConditioned (option_copied c.args.features) given answer) (sym stored) (c.requires.judges given answer)) in
    IfErr-weaker c.link_at.result _ _
    (λ d h. refuses-over _ _ _ _ alike (path_view c.args.request.now.root.now) (texts c.args.request.now.keep.now) c.args.request.now.is_eager c.args.request.now.max_modules d h)
    c.link_at.ensures.refused
