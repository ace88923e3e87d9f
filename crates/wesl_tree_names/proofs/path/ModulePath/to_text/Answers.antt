use Rattle.std.proofs.Common.{◌++◌, ap, ◌∙◌, List, ℕ, map, take, string_bytes}
use lib.Chars.{codes}
use Rattle.std.proofs.lemmas.List.{take_all}
use Rattle.wesl_tree_names.specs.Path.{origin_view, path_view}
use Rattle.wesl_tree_names.proofs.Written.{written-read_back}
use Rattle.wesl_tree_base.specs.Pieces.{joined}
use Rattle.wesl_tree_names.specs.PathText.{origin_pieces, parse}
use Rattle.wesl_tree_names.proofs.Supers.{text-more, origin-some}
use Rattle.wesl_tree_names.proofs.path.ModulePath.to_text.Goals as goal

pub loop-component-preserved : goal.loop-component-preserved
loop-component-preserved c =
    let o = origin_view c.args.self.now.origin in
    let items = c.deref-component-items.result.now in
    let i = c.loop-component.component-index in
    c.in_ok-push_str-2.ensures.bytes
    ∙ ap (λ (t : List ℕ). t ++ c.as_str.result.now) (c.in_ok-push_str.ensures.bytes ∙ ap (λ (t : List ℕ). t ++ codes "::") c.loop-component.invariant)
    ∙ ap (λ (t : List ℕ). joined (origin_pieces o ++ map string_bytes (take i items)) ++ codes "::" ++ t) c.as_str.ensures.value
    ∙ text-more string_bytes (origin_pieces o) items i c.component-item.result (origin-some o) c.loop-component-test.true c.component-item.is

pub returns-clause-read_back : goal.returns-clause-read_back
returns-clause-read_back c =
    let p = path_view c.args.self.now in
    let items = c.deref-component-items.result.now in
    let all = take_all c.loop-component.component-index items c.loop-component-test.false ∙ c.deref-component-items.ensures.value in
    λ k. ap parse (c.loop-component.invariant ∙ ap (λ xs. joined (origin_pieces p.origin ++ map string_bytes xs)) all) ∙ written-read_back p k
