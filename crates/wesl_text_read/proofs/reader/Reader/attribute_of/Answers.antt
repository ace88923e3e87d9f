use Rattle.std.proofs.Common.{sym, subst}
use Rattle.wesl_tree_syntax.specs.View.{attribute_view}
use Rattle.wesl_text_read.specs.Attributes.{attribute_at}
use Rattle.wesl_text_read.specs.Leads.{Reads}
use Rattle.wesl_text_read.proofs.reader.Reader.attribute_of.Goals as goal

pub returns-in-Some : goal.returns-in-Some
returns-in-Some c = subst (λ z. Reads (attribute_at c.args.self.now.levels z) (attribute_view c.known_attribute.result) c.args.self.now c.known_attribute.new.self) (sym c.in-Some.ensures.text) c.known_attribute.ensures
