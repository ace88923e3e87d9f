-- Where what is left of a path begins.
use Rattle.std.proofs.Common.{◌≡◌, ℕ, false, ap}
use Rattle.wesl_tree_names.specs.Path.{Path, path_view, is_relative}
use Rattle.wesl_tree_names.specs.declared.path.ModulePath.{ModulePath}
use Rattle.wesl_resolve_base.specs.Suffixes.{suffix}

-- what is left of a path begins at the root
pub rooted-at : (n : ℕ) (p : Path) (after : ModulePath) → path_view after ≡ suffix n p → is_relative (path_view after) ≡ false
rooted-at n p after is = ap is_relative is
