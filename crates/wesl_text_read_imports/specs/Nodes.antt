-- Nodes of a known kind.
use Rattle.std.specs.Prelude.{ℕ, Some}
use Rattle.wesl_tree_syntax.specs.Tree.{Kind, kind}
use Rattle.wesl_text_form.specs.Productions.{Sort}
use Rattle.wesl_text_reading.specs.Reading.{Reader, read_node}
use Rattle.wesl_text_read.specs.Levels.{inner}
use Rattle.wesl_text_read.specs.Parts.{row_at}

-- a node of this kind in the place of a sort, by its row
abbrev pub kind_at : ℕ → Sort → Kind → Reader
kind_at n s k = read_node (inner n) (row_at n) s (Some (kind k))
