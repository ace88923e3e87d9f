use Rattle.std.proofs.Common.{refl, string_bytes}
use Rattle.std.proofs.lemmas.List.{take-map}
use Rattle.wesl_tree_names.proofs.path.ModulePath.join_path.Goals as goal

pub returns-clause-joined : goal.returns-clause-joined
returns-clause-joined c =
    rw (c.in_ok-origin.ensures.value, c.in_ok-components.ensures, c.kept.ensures, c.deref.ensures.value, c.deref-2.ensures.value, ← take-map string_bytes _ c.args.self.now.components.items) refl
