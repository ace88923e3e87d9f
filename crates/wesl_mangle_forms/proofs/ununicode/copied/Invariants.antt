use Rattle.std.proofs.Common.{◌≡◌, take}
use Rattle.wesl_tree_base.specs.Borrowed.{texts}
use Rattle.wesl_tree_syntax.specs.View.{texts_of}
use Rattle.wesl_mangle_forms.proofs.ununicode.copied.Given as goal

abbrev pub invariant-loop-word : goal.invariant-loop-word
invariant-loop-word l = texts_of l.names ≡ texts (take l.word-index l.words)
