use Rattle.std.proofs.Common.{string_bytes, option_map, IfOk, subst}
use Rattle.wesl_tree_names.specs.Path.{Path, path_view}
use Rattle.wesl_resolve_base.proofs.SuffixLemmas.{rooted-at}
use Rattle.wesl_resolve_base.proofs.suffixes.name_after.Goals as goal

pub path_after-requires : goal.path_after-requires
path_after-requires g c = c.requires.within

pub display_name-requires-clause-asked : goal.display_name-requires-clause-asked
display_name-requires-clause-asked g c = c.requires.asked

pub display_name-requires-clause-rooted : goal.display_name-requires-clause-rooted
display_name-requires-clause-rooted g c = rooted-at c.args.count (path_view c.args.path.now) c.in-Some.after c.in-Some.ensures

pub returns-in-Some-clause-named : goal.returns-in-Some-clause-named
returns-in-Some-clause-named g c =
    let At : Path → Type 0 = λ p. IfOk c.display_name.result (λ name. g.R.Resolver.shown c.args.resolver.now p (option_map string_bytes name)) in
    subst At c.in-Some.ensures c.display_name.ensures.named

pub returns-in-Some-clause-refused : goal.returns-in-Some-clause-refused
returns-in-Some-clause-refused g c = c.display_name.ensures.refused
