use Rattle.std.proofs.Common.{◌≡◌, ◌++◌, true, length, map, take, drop}
use Rattle.std.specs.List.{join_by}
use Rattle.wesl_tree_syntax.specs.Tree.{forest_of, forest_below}
use Rattle.wesl_tree_syntax.specs.View.{argument_view}
use Rattle.wesl_mangle_forms.specs.Written.{AddsText}
use Rattle.wesl_mangle_forms.specs.TypeText.{opening, between, tree_text, is_normal}
use Rattle.wesl_mangle_forms.proofs.types.+written.Given as goal

abbrev pub invariant-push_arguments-loop-place : goal.invariant-push_arguments-loop-place
invariant-push_arguments-loop-place l =
    let rest = forest_of (map argument_view (drop l.place l.argument-items)) in
    record {
      text : AddsText l.fn.text l.text (opening ++ join_by (λ t. t) between (map (λ a. tree_text l.names (argument_view a)) (take l.place l.argument-items)));
      below : forest_below (length l.names) rest ≡ true;
      normal : is_normal rest ≡ true;
    }
