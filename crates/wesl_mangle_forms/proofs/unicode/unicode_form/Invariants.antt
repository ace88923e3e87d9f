use Rattle.std.proofs.Common.{◌++◌, map, take, string_bytes}
use Rattle.wesl_tree_names.specs.Path.{origin_view}
use Rattle.wesl_mangle_forms.specs.Unicode.{from_words, origin_words}
use Rattle.wesl_mangle_forms.specs.Written.{Says}
use Rattle.wesl_mangle_forms.proofs.unicode.unicode_form.Given as goal

abbrev pub invariant-loop-component : goal.invariant-loop-component
invariant-loop-component l = Says l.text (from_words (origin_words (origin_view l.path.origin) ++ map string_bytes (take l.component-index l.component-items)))
