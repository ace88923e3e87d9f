use Rattle.std.proofs.Common.{◌≡◌, map, take}
use Rattle.wesl_tree_syntax.specs.View.{texts_of}
use Rattle.wesl_link_assembly.proofs.Words.{word_of}
use Rattle.wesl_link_assembly.proofs.directives.words.Given as goal

abbrev pub invariant-loop-ident : goal.invariant-loop-ident
invariant-loop-ident l = texts_of l.words ≡ map (word_of l.names) (take l.ident-index l.ident-items)
