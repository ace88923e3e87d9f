-- Attributes in an expression's place with so many levels in it.
use Rattle.std.specs.Prelude.{ℕ, List, ◌∷◌, length, Some}
use Rattle.wesl_tree_names.specs.Path.{Text}
use Rattle.wesl_tree_syntax.specs.Tree.{Kind, kind}
use Rattle.wesl_text_tokens.specs.declared.symbol.Symbol.TheVariants as is
use Rattle.wesl_text_tokens.specs.Tokens.{Token, name, symbol}
use Rattle.wesl_text_form.specs.Productions.{Sort, a_bare_attribute}
use Rattle.wesl_text_reading.specs.Leaves.{after}
use Rattle.wesl_text_reading.specs.Reading.{Reader, all_of, begins_child, node_of}
use Rattle.wesl_text_read.specs.Levels.{inner}

-- nodes of a sort behind one another, as one tree of a kind
abbrev pub run_at : ℕ → Kind → Sort → Reader
run_at n k s ts =
    after (all_of (begins_child (inner n) s) (inner n s) (length ts) ts) (λ f us. Some (node_of (kind k) f, us))

-- an attribute with this word behind `@`, by the tokens behind the word
abbrev pub attribute_at : ℕ → Text → Reader
attribute_at n t ts = inner n a_bare_attribute (symbol is.At ∷ name t ∷ ts)
