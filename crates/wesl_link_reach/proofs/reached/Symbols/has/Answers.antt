use Rattle.std.proofs.Common.{◌↔◌, IsTrue, Contains, subst}
use Rattle.wesl_link_symbols.specs.declared.ids.PathId.{PathId}
use Rattle.wesl_tree_base.specs.declared.ids.NameId.{NameId}
use Rattle.wesl_link_reach.specs.Reached.{SymbolKeys}
use Rattle.wesl_link_reach.proofs.reached.Symbols.has.Goals as goal

pub returns : goal.returns
returns c =
    let same = c.self.invariant c.args.symbol in
    subst (λ (k : SymbolKeys PathId NameId). IsTrue c.has_key.result ↔ Contains k.keys c.args.symbol) c.self.view_is
    (λ h. same.1 (c.has_key.ensures.0 h), λ h. c.has_key.ensures.1 (same.0 h))
