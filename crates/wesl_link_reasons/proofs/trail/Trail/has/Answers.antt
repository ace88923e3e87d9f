use Rattle.std.proofs.Common.{◌↔◌, IsTrue, List, Contains, subst}
use Rattle.wesl_link_symbols.specs.declared.ids.PathId.{PathId}
use Rattle.wesl_tree_base.specs.declared.ids.NameId.{NameId}
use Rattle.wesl_link_symbols.specs.declared.symbols.LookUp.{LookUp}
use Rattle.wesl_link_reasons.proofs.trail.Trail.has.Goals as goal

pub returns : goal.returns
returns c =
    let same = c.self.invariant c.args.look_up in
    subst (λ (k : List (LookUp PathId NameId)). IsTrue c.has_key.result ↔ Contains k c.args.look_up) c.self.view_is
    (λ h. same.1 (c.has_key.ensures.0 h), λ h. c.has_key.ensures.1 (same.0 h))
