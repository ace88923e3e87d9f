use Rattle.std.proofs.Common.{◌≡◌, map, ap, ◌∙◌, rules}
use Rattle.std.specs.Map.Iter.{deref_pair}
use Rattle.std.proofs.lemmas.Map.Iter.{iter_end}
use Rattle.wesl_resolve.specs.Texts.{texts_of}
use Rattle.wesl_resolve.proofs.TextsLemmas.{shown, listed-more}
use Rattle.wesl_resolve.proofs.virtual_resolver.list.Goals as goal

pub loop-path-init : goal.loop-path-init
loop-path-init c = ap (map shown) c.requires.empty

pub loop-path-preserved : goal.loop-path-preserved
loop-path-preserved c = listed-more c.loop-path.listed.items c.push.new.self.items c.loop-path.yielded c.in-Some.path c.in-Some.text c.as_str.result c.in_ok-push.ensures.items c.loop-path.invariant c.as_str.ensures.value

pub returns-clause-done : goal.returns-clause-done
returns-clause-done c =
    let all : map deref_pair c.loop-path.yielded ≡ c.args.modules.now.entries = search (rules, iter_end) in
    c.loop-path.invariant ∙ ap texts_of all
