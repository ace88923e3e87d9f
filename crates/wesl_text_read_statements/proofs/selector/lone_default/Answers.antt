use Rattle.std.proofs.Common.{◌≡◌, [], ◌∷◌, None, rules}
use Rattle.wesl_tree_syntax.specs.declared.statement.CaseSelector.TheVariants as selector
use Rattle.wesl_text_read_statements.proofs.Selectors.{lone_selected}
use Rattle.wesl_text_read_statements.proofs.selector.lone_default.Goals as goal

pub returns : goal.returns
returns c =
    let put : c.put.new.self.fault ≡ None → c.put.new.list.items ≡ selector.Default ∷ [] = search rules in
    lone_selected c.put.new.list.items c.requires c.step.ensures.skips put c.put.ensures.keeps
