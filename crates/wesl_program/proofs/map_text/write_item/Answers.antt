use Rattle.std.proofs.Common.{rules}
use Rattle.std.proofs.lemmas.Result.{on_ok_weaker}
use Rattle.json.specs.Token.{begin_array, end_array, string}
use Rattle.wesl_tree_names.specs.Path.{path_view}
use Rattle.wesl_tree_names.specs.PathText.{to_text}
use Rattle.wesl_program.proofs.Maps.{four-written}
use Rattle.wesl_program.proofs.map_text.write_item.Goals as goal

pub returns-clause-written : goal.returns-clause-written
returns-clause-written c =
    on_ok_weaker c.end_array.result (λ h. four-written begin_array (string (to_text (path_view c.args.path.now))) (string c.args.item.now) end_array c.args.out.now.tokens c.begin_array.new.self.tokens c.string.new.self.tokens c.string-2.new.self.tokens c.end_array.new.self.tokens (search rules) (search rules) (search rules) h) (search rules)
