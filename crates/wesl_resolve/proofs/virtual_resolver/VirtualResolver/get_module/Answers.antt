use Rattle.std.proofs.Common.{◌∙◌, ap, sym, string_bytes, option_map, Some, inl, inr, ⊎_elim}
use Rattle.wesl_resolve.proofs.TextsLemmas.{text_at-lookup}
use Rattle.wesl_resolve.proofs.virtual_resolver.VirtualResolver.get_module.Goals as goal

pub returns-in-Some-clause-found : goal.returns-in-Some-clause-found
returns-in-Some-clause-found g c =
    text_at-lookup c.args.path.now c.args.self.now.modules.entries ∙ ap (option_map string_bytes) (sym c.in-Some.ensures.value) ∙ ap Some (sym c.as_str.ensures.value)

pub returns-in-None-clause-missing : goal.returns-in-None-clause-missing
returns-in-None-clause-missing g c =
    ⊎_elim inl (λ r. inr (text_at-lookup c.args.path.now c.args.self.now.modules.entries ∙ ap (option_map string_bytes) (sym c.in-None.ensures.value), r)) c.not_found.ensures
