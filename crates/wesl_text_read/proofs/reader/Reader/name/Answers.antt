use Rattle.wesl_text_read.proofs.Naming.{name_made, no_name}
use Rattle.wesl_text_read.proofs.reader.Reader.name.Goals as goal

pub returns-in-Some : goal.returns-in-Some
returns-in-Some c = name_made _ _ _ _ _ c.in-Some.ensures.read c.own.ensures

pub returns-in-None : goal.returns-in-None
returns-in-None c = no_name _ _ _ c.in-None.ensures.none c.in-None.ensures.nothing
