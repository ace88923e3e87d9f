use Rattle.std.proofs.Common.{◌++◌, ap, ◌∙◌, List, ℕ, map, take, string_bytes, rules}
use Rattle.std.proofs.Output.{has_written_append, has_written_of_eq}
use lib.Chars.{codes}
use Rattle.wesl_tree_names.specs.Path.{origin_view}
use Rattle.wesl_tree_base.specs.Pieces.{joined}
use Rattle.wesl_tree_names.specs.PathText.{origin_pieces}
use Rattle.wesl_tree_names.proofs.Supers.{text-more, origin-some}
use Rattle.wesl_tree_names.proofs.path_text.ModulePathDisplay.fmt.Goals as goal

pub loop-component-preserved : goal.loop-component-preserved
loop-component-preserved g c =
    let o = origin_view c.args.self.now.origin in
    let items = c.deref-component-items.result.now in
    let i = c.loop-component.component-index in
    let so_far = joined (origin_pieces o ++ map string_bytes (take i items)) in
    λ plain.
    let written = c.loop-component.invariant plain in
    let colons = c.write_str.ensures.writes written.plain (search rules) in
    let name = c.write_str-in-loop-component.ensures.writes colons.plain (search rules) in
    let longer = ap (λ (t : List ℕ). so_far ++ codes "::" ++ t) c.as_str.ensures.value
    ∙ text-more string_bytes (origin_pieces o) items i c.component-item.result (origin-some o) c.loop-component-test.true c.component-item.is in
    has_written_of_eq _ _ _ _ _ longer (has_written_append _ _ _ _ _ _ (has_written_append _ _ _ _ _ _ written colons) name)
