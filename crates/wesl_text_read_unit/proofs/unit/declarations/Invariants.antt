use Rattle.std.proofs.Common.{◌≡◌}
use Rattle.wesl_tree_syntax.specs.Tree.{declaration_node, declarations}
use Rattle.wesl_tree_syntax.specs.View.{global_view, placed}
use Rattle.wesl_text_form.specs.Productions.{a_declaration, nothing}
use Rattle.wesl_text_read.specs.Leads.{ahead}
use Rattle.wesl_text_read_unit.proofs.Wholes.{Parts, is_left}
use Rattle.wesl_text_read_unit.proofs.unit.declarations.Given as goal

abbrev pub invariant-declarations : goal.invariant-declarations
invariant-declarations l = record {
  parts : Parts (placed global_view declaration_node) declarations a_declaration nothing (λ n. is_left) l.goes_on l.room l.declarations.items l.fn.reader l.reader;
  left : l.goes_on ≡ is_left (ahead l.reader);
}

abbrev pub decreases-declarations : goal.decreases-declarations
decreases-declarations l = l.room
