use Rattle.std.proofs.Common.{refl}
use Rattle.wesl_tree_names.proofs.Texts.{starts_with-texts}
use Rattle.wesl_tree_names.proofs.path.ModulePath.starts_with.Goals as goal

pub returns-then-is_same : goal.returns-then-is_same
returns-then-is_same c =
    rw (c.starts_with.ensures.value, c.deref.ensures.value, c.deref-then-is_same.ensures.value, starts_with-texts c.args.self.now.components.items c.args.prefix.now.components.items, ← c.is_same.ensures, c.if-is_same.true) refl
