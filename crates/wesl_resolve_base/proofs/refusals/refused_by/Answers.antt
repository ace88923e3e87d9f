use Rattle.std.proofs.Common.{◌≡◌, option_map, string_bytes, inl}
use Rattle.wesl_tree_names.specs.Path.{path_view}
use Rattle.wesl_resolve_base.proofs.RefusalLemmas.{refusal-shown}
use Rattle.wesl_resolve_base.proofs.refusals.refused_by.Goals as goal

pub display_name-requires-clause-asked : goal.display_name-requires-clause-asked
display_name-requires-clause-asked g c = c.requires.asked

pub display_name-requires-clause-rooted : goal.display_name-requires-clause-rooted
display_name-requires-clause-rooted g c = c.requires.rooted

pub returns-in-Ok : goal.returns-in-Ok
returns-in-Ok g c =
    let p = path_view c.args.path.now in
    refusal-shown (λ e. e ≡ c.args.fault) p (g.R.Resolver.shown c.args.resolver.now p) (option_map string_bytes c.in-Ok.display) c.in-Ok.ensures.named c.refused.result c.refused.ensures.error c.refused.ensures.told

pub returns-in-Err : goal.returns-in-Err
returns-in-Err g c = inl c.in-Err.ensures.refused
