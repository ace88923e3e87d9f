-- The parts of attributes and statements: the slots of trees side by side, by a row of the grammar.
use Rattle.std.specs.Prelude.{List, [], ◌∷◌, Option, Some, None, Vec, String, codes}
use Rattle.std.specs.declared.alloc.Global.{Global}
use Rattle.wesl_tree_names.specs.Path.{Text}
use Rattle.wesl_tree_syntax.specs.Tree.{Tree, Forest, branch, custom, forest_of, leaf as single, list, respell_forest, text}
use Rattle.wesl_tree_syntax.specs.Unit.{name_in}
use Rattle.wesl_tree_syntax.specs.View.{attribute_view, attributes_tree, expression_tree, listed, optional, texts_of}
use Rattle.wesl_tree_syntax.specs.declared.expression.Expression.{Expression}
use Rattle.wesl_tree_syntax.specs.declared.span.Spanned.{Spanned}
use Rattle.wesl_tree_syntax.specs.declared.attribute.Attribute.{Attribute}
use Rattle.wesl_text_tokens.specs.declared.symbol.Symbol.TheVariants as is
use Rattle.wesl_text_form.specs.Names.{are_words}
use Rattle.wesl_text_print.specs.Printing.{slots_in}
use Rattle.wesl_text_form.specs.Productions.{Sort, a_bare_attribute, an_attribute, an_expression, a_word, a_rule, Row, nothing, sym, may_sym, says, own, leaf, commas}
use Rattle.wesl_text_form.specs.Spelling.{Slots, named, parted, provided, signed, spells, trailing}

-- trees side by side by a row, where each identifier is its name in a table
abbrev pub row_in : List Text → Row → List Tree → Slots
row_in names row ts = (spells (respell_forest (name_in names) (forest_of ts))).row row

-- the trees below one by a row
abbrev pub row_below : List Text → Row → Tree → Slots
row_below names row t = (spells (respell_forest (name_in names) t.children)).row row

-- trees in the place of a sort, one behind the other
abbrev pub all_in : List Text → Sort → Forest → Slots
all_in names s ts = (spells (respell_forest (name_in names) ts)).all s

-- the row of what an option holds; nothing where it holds nothing
abbrev pub option_in : {A : Type 0} → List Text → Row → (A → Tree) → Option A → Slots
option_in names row view None = Some []
option_in names row view (Some x) = row_in names row (view x ∷ [])

-- the attributes of a node
abbrev pub attributes_slots : List Text → Vec (Spanned Attribute) Global → Slots
attributes_slots names a = all_in names an_attribute (attributes_tree a).children

-- an attribute's `@` and its word
abbrev pub plain_slots : Text → Slots
plain_slots w = Some (signed is.At ∷ named w ∷ [])

-- an attribute with one operand, by its word
abbrev pub operand_row : Text → Row
operand_row w = sym is.At (says w (sym is.ParenLeft (own an_expression (may_sym is.Comma (sym is.ParenRight nothing)))))

-- an attribute without its place
abbrev pub attribute_slots : List Text → Attribute → Slots
attribute_slots names a = slots_in names a_bare_attribute (attribute_view a)

-- `@builtin` with its word
abbrev pub builtin_row : Row
builtin_row = sym is.At (says (codes "builtin") (sym is.ParenLeft (leaf a_word (may_sym is.Comma (sym is.ParenRight nothing)))))

-- a severity and a rule in parentheses
abbrev pub diagnosed_row : Row
diagnosed_row = sym is.ParenLeft (leaf a_word (sym is.Comma (leaf a_rule (may_sym is.Comma (sym is.ParenRight nothing)))))

-- this severity and this rule in parentheses
abbrev pub diagnosed_slots : Text → Text → Slots
diagnosed_slots severity rule = row_in [] diagnosed_row (single (text severity) ∷ single (text rule) ∷ [])

-- a size behind another one
abbrev pub size_row : Row
size_row = sym is.Comma (own an_expression nothing)

-- the arguments of an attribute of another name
abbrev pub arguments_row : Row
arguments_row = sym is.ParenLeft (commas list an_expression (sym is.ParenRight nothing))

-- words with commas between and perhaps one behind
abbrev pub words_slots : Vec (String Global) Global → Slots
words_slots ws = provided (are_words (texts_of ws)) (trailing (parted is.Comma (texts_of ws)))

-- an attribute of another name, from its name and its arguments, an option
abbrev pub custom_tree : Text → Option (Vec (Spanned Expression) Global) → Tree
custom_tree t o = branch custom (single (text t) ∷ optional (listed expression_tree list) o ∷ [])
