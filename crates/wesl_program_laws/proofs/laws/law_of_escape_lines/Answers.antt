use Rattle.wesl_program_laws.proofs.Lines.{escaped_says}
use Rattle.wesl_program_laws.proofs.laws.law_of_escape_lines.Goals as goal

pub returns : goal.returns
returns c = escaped_says c.law_of_bundle_links.ensures c.law_of_escape_names.ensures.linked
