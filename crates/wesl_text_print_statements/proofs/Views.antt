-- The attributes of a node, by a short name.
use Rattle.std.proofs.Common.{Vec, Global}
use Rattle.wesl_tree_syntax.specs.declared.span.Spanned.{Spanned}
use Rattle.wesl_tree_syntax.specs.declared.attribute.Attribute.{Attribute}

abbrev pub Attributes : Type 0
Attributes = Vec (Spanned Attribute) Global
