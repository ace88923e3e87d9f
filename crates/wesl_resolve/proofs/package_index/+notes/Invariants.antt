use Rattle.std.proofs.Common.{◌≡◌, take, Bor, bytes_eq}
use Rattle.std.specs.HashSet.{contains}
use Rattle.std.specs.List.{list_any}
use Rattle.wesl_tree_names.specs.Path.{Text, path_view}
use Rattle.wesl_resolve_base.specs.Packages.{has_name}
use Rattle.wesl_resolve_base.specs.declared.packages.CodegenModule.{out-CodegenModule}
use Rattle.wesl_resolve.specs.Places.{NoteBelow}
use Rattle.wesl_resolve.proofs.package_index.+notes.Given as goal

abbrev pub invariant-note_below-loop-submodule : goal.invariant-note_below-loop-submodule
invariant-note_below-loop-submodule l = record {
  counted : l.number ≡ l.submodule-index;
  seen : (n : Bor Text) → contains (λ a b. bytes_eq a.now b.now) l.seen n ≡ list_any (has_name n.now) (take l.submodule-index l.modules.items);
  noted : NoteBelow (path_view l.path) l.place.items (λ m. (out-CodegenModule m).submodules.items ≡ l.modules.items) l.initial.places l.places;
}
