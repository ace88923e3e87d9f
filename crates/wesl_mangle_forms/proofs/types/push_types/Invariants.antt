use Rattle.std.proofs.Common.{◌≡◌, ◌++◌, true, length, map, take, drop}
use Rattle.std.specs.List.{join_by, list_all}
use Rattle.wesl_tree_syntax.specs.Tree.{tree_below}
use Rattle.wesl_tree_syntax.specs.View.{type_view}
use Rattle.wesl_mangle_forms.specs.Written.{AddsText}
use Rattle.wesl_mangle_forms.specs.TypeText.{opening, between, tree_text, is_normal_type}
use Rattle.wesl_mangle_forms.proofs.types.push_types.Given as goal

abbrev pub invariant-loop-place : goal.invariant-loop-place
invariant-loop-place l =
    let rest = map type_view (drop l.place l.types) in
    record {
      text : AddsText l.fn.text l.text (opening ++ join_by (λ t. t) between (map (λ x. tree_text l.names (type_view x)) (take l.place l.types)));
      below : list_all (tree_below (length l.names)) rest ≡ true;
      normal : list_all is_normal_type rest ≡ true;
    }
