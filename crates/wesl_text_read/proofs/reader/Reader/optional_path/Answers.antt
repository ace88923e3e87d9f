use Rattle.std.proofs.Common.{◌≡◌, true, false, rules}
use Rattle.wesl_text_reading.specs.FirstTokens.{begins_path}
use Rattle.wesl_text_read.specs.Leads.{ahead}
use Rattle.wesl_text_read.proofs.Paths.{path_boxed}
use Rattle.wesl_text_read.proofs.reader.Reader.optional_path.Goals as goal

pub returns : goal.returns
returns c =
    let is : begins_path false (ahead c.args.self.now) ≡ true = search rules in
    path_boxed c.path-path.result c.boxed.result is c.path-path.ensures c.boxed.ensures.same c.boxed.ensures.refused
