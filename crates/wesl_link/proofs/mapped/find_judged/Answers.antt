use Rattle.std.proofs.Common.{◌≡◌, ◌↔◌, option_copied, inl, refl, sym, subst, rules}
use Rattle.std.proofs.lemmas.Result.{IfErr-weaker}
use Rattle.wesl_tree_names.specs.Errors.{IsBare}
use Rattle.wesl_tree_names.specs.declared.errors.Error as error
use Rattle.wesl_cond.specs.Conditioned.{IsConditioned}
use Rattle.wesl_link_engine.specs.Asking.{request_view}
use Rattle.wesl_link.specs.Keeping.{modules_of, turns_of}
use Rattle.wesl_link.specs.Linking.{hands_left, refuses_left}
use Rattle.wesl_link.proofs.Along.{left-alike, links-over, refuses-over}
use Rattle.wesl_link.proofs.Recorded.{memory_refuses}
use Rattle.wesl_link.proofs.mapped.find_judged.Goals as goal

pub returns-in-Ok-clause-found : goal.returns-in-Ok-clause-found
returns-in-Ok-clause-found g c =
    let features = option_copied c.args.features in
    let inner = c.new.result.resolver in
    let outer = c.args.mapper.resolver in
    let same : inner ≡ outer = c.new.ensures.resolver in
    let stored : c.new.result.preprocess ≡ c.args.judge = c.new.ensures.preprocess in
    let alike =
    left-alike (g.R.Resolver.hands inner) (g.R.Resolver.hands outer) (g.R.Resolver.refuses inner) (g.R.Resolver.refuses outer)
    (λ p u. (subst (λ s. g.R.Resolver.hands s p u) same, subst (λ s. g.R.Resolver.hands s p u) (sym same)))
    (λ p e. (subst (λ s. g.R.Resolver.refuses s p e) same, subst (λ s. g.R.Resolver.refuses s p e) (sym same)))
    features (λ given answer. g.F.Fn.post c.new.result.preprocess (given, tt) answer)
    (λ given answer. subst (λ f. g.F.Fn.post f (given, tt) answer ↔ IsConditioned features given answer) (sym stored) (c.requires.judges given answer)) in
    let q = request_view c.args.request.now in
    let f = c.in-Ok.found in
    record {
      links = links-over _ _ _ _ alike q.root q.keep q.is_eager q.limit (turns_of f.resolutions) (modules_of f.resolutions) c.in-Ok.ensures.linked;
      kept = c.in-Ok.ensures.kept;
      eager = c.in-Ok.ensures.eager;
      names = c.in-Ok.ensures.names;
      recorded = c.in-Ok.ensures.decls;
    }

pub returns-in-Err-clause-refused : goal.returns-in-Err-clause-refused
returns-in-Err-clause-refused g c =
    let features = option_copied c.args.features in
    let inner = c.new.result.resolver in
    let outer = c.args.mapper.resolver in
    let same : inner ≡ outer = c.new.ensures.resolver in
    let stored : c.new.result.preprocess ≡ c.args.judge = c.new.ensures.preprocess in
    let alike =
    left-alike (g.R.Resolver.hands inner) (g.R.Resolver.hands outer) (g.R.Resolver.refuses inner) (g.R.Resolver.refuses outer)
    (λ p u. (subst (λ s. g.R.Resolver.hands s p u) same, subst (λ s. g.R.Resolver.hands s p u) (sym same)))
    (λ p e. (subst (λ s. g.R.Resolver.refuses s p e) same, subst (λ s. g.R.Resolver.refuses s p e) (sym same)))
    features (λ given answer. g.F.Fn.post c.new.result.preprocess (given, tt) answer)
    (λ given answer. subst (λ f. g.F.Fn.post f (given, tt) answer ↔ IsConditioned features given answer) (sym stored) (c.requires.judges given answer)) in
    let q = request_view c.args.request.now in
    refuses-over _ _ _ _ alike q.root q.keep q.is_eager q.limit c.in-Err.diagnostic c.in-Err.ensures.refused

pub returns-in_err-at-clause-refused : goal.returns-in_err-at-clause-refused
returns-in_err-at-clause-refused g c =
    let features = option_copied c.args.features in
    let outer = c.args.mapper.resolver in
    let hands = hands_left (g.R.Resolver.hands outer) (g.R.Resolver.refuses outer) features in
    let refuses = refuses_left (g.R.Resolver.hands outer) (g.R.Resolver.refuses outer) features in
    let q = request_view c.args.request.now in
    IfErr-weaker c.from_residual.result (IsBare error.Memory) _ (λ d is. memory_refuses hands refuses q.root q.keep q.is_eager q.limit d is) (search rules)

pub found-requires-clause-start : goal.found-requires-clause-start
found-requires-clause-start g c = record {
  decls = λ name. refl;
  names = λ p item. refl;
  default = refl;
  modules = record { none_lost = λ p s is. (s, is); none_invented = λ p s is. inl is };
  gives = λ p text h. h;
  shows = λ p name h. h;
}
