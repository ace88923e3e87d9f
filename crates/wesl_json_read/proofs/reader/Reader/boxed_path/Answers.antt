use Rattle.std.proofs.Common.{subst}
use Rattle.std.specs.Prelude.{codes}
use Rattle.wesl_tree_syntax.specs.View.{optional, path_tree}
use Rattle.wesl_json_form.specs.Schema.{a_path, leaf}
use Rattle.wesl_json_form.specs.View.{borrowed_view}
use Rattle.wesl_json_read.specs.Noted.{NotesMay}
use Rattle.wesl_json_read.proofs.Boxes.{path_in_box}
use Rattle.wesl_json_read.proofs.reader.Reader.boxed_path.Goals as goal

pub returns-in-Some : goal.returns-in-Some
returns-in-Some c =
    path_in_box c.in-Some.path _ (subst (λ o. NotesMay (codes "path") (leaf a_path) (borrowed_view c.args.value.now) (optional path_tree o) c.args.self.now c.path.new.self) c.in-Some.is c.path.ensures) c.boxed.ensures.same c.boxed.ensures.refused
