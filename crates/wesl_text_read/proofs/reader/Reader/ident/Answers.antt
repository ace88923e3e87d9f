use Rattle.wesl_text_read.proofs.Naming.{ident_numbered, no_ident}
use Rattle.wesl_text_read.proofs.reader.Reader.ident.Goals as goal

pub returns-in-Some : goal.returns-in-Some
returns-in-Some c = λ role. ident_numbered role _ _ _ _ _ c.in-Some.ensures.read c.number.ensures

pub returns-in-None : goal.returns-in-None
returns-in-None c = λ role. no_ident role _ _ _ c.in-None.ensures.none c.in-None.ensures.nothing
