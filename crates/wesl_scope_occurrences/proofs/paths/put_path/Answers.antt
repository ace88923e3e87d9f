use Rattle.std.proofs.Common.{arith, length, refl, ◌<◌, ◌≤◌}
use Rattle.wesl_tree_names.specs.Path.{path_view}
use Rattle.wesl_scope_occurrences.proofs.Patching.{put_past, put_set}
use Rattle.wesl_scope_occurrences.proofs.paths.put_path.Goals as goal

pub returns-then-place-len : goal.returns-then-place-len
returns-then-place-len c =
    let xs = c.args.found.now.items in
    let h : c.args.place < length xs = omega (arith, c.len.ensures, c.args.found.now.ok.0, c.if-place-len.true) in
    put_set c.args.place (path_view c.args.path.now) xs _ c.index_mut.result.now h c.index_mut.ensures.value refl

pub returns-else-place-len : goal.returns-else-place-len
returns-else-place-len c =
    let xs = c.args.found.now.items in
    let h : length xs ≤ c.args.place = omega (arith, c.len.ensures, c.args.found.now.ok.0, c.if-place-len.false) in
    put_past c.args.place (path_view c.args.path.now) xs h
