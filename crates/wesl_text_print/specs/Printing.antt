-- What a printer of nodes gives a sink: the slots of trees, with the names of their identifiers.
use Rattle.std.specs.Prelude.{List, [], ◌∷◌, Bool, false, if◌then◌else◌, Option, Some, None}
use Rattle.std.specs.Prelude.{option_map, string_bytes}
use Rattle.std.specs.Box.{box_value}
use Rattle.std.specs.Global.{Box}
use Rattle.wesl_tree_names.specs.Path.{Origin, Text, path_view}
use Rattle.wesl_tree_names.specs.declared.names.Ident.{Ident}
use Rattle.wesl_tree_names.specs.declared.path.ModulePath.{ModulePath}
use Rattle.wesl_tree_syntax.specs.Tree.{Tree, Forest, LabelOf, at, expression_node, forest_of, respell, respell_forest, truth, text, path, end}
use Rattle.wesl_tree_syntax.specs.Unit.{name_in}
use Rattle.wesl_tree_syntax.specs.View.{expression_view}
use Rattle.wesl_tree_syntax.specs.declared.expression.Expression.{Expression}
use Rattle.wesl_tree_syntax.specs.declared.expression.Literal.{Literal}
use Rattle.wesl_tree_syntax.specs.declared.expression.Literal.TheVariants as literals
use Rattle.wesl_text_tokens.specs.declared.symbol.Symbol.TheVariants as is
use Rattle.wesl_text_tokens.specs.Tokens.{symbol, open_list, close_list}
use Rattle.wesl_text_form.specs.Names.{is_name, is_origin}
use Rattle.wesl_text_form.specs.Operators.{Class, class_of}
use Rattle.wesl_text_form.specs.Slots.{may, must}
use Rattle.wesl_text_form.specs.Productions.{Sort, a_path, an_argument, an_expression}
use Rattle.wesl_text_form.specs.Spelling.{Slots, followed, leaf_slots, named, origin_slots, provided, signed, slots_as, spells, trailing}

-- What the sink was given fills these slots; where there are none, it noted a fault.
pub record Prints {S : Type 0} (after : Slots → S → S → Type 0) (old new : S) (ss : Slots) : Type 0 where
  pub given : after ss old new

-- the slots of a tree in the place of a sort, where each identifier is its name in a table
abbrev pub slots_in : List Text → Sort → Tree → Slots
slots_in names s t = slots_as s (respell (name_in names) t)

-- the same of an expression with its span, which does not matter
abbrev pub expression_slots : List Text → Expression → Slots
expression_slots names x = slots_in names an_expression (record { label = at expression_node 0 0; children = forest_of (expression_view x ∷ []) })

-- the same of trees side by side, with commas between them
abbrev pub separate_in : List Text → Sort → Forest → Slots
separate_in names s ts = (spells (respell_forest (name_in names) ts)).separate s

-- trees side by side with commas between them, and one that may stand behind them
abbrev pub comma_slots : List Text → Sort → List Tree → Slots
comma_slots names s ts = option_map trailing (separate_in names s (forest_of ts))

-- the slot of a name; none where a text is no name
abbrev pub name_slots : Text → Slots
name_slots t = provided (is_name t) (named t ∷ [])

-- a comma before an item that is not the first
abbrev pub comma_unless : Bool → Slots
comma_unless is_first = if is_first then Some [] else Some (signed is.Comma ∷ [])

-- the comma that may stand behind items, if there are any
abbrev pub last_comma_unless : Bool → Slots
last_comma_unless is_empty = if is_empty then Some [] else Some (may (symbol is.Comma) ∷ [])

-- slots where a test holds, else none
abbrev pub only_if : Bool → Slots → Slots
only_if b ss = if b then ss else None

-- how tightly an expression holds together
abbrev pub class_at_node : Expression → Class
class_at_node x = class_of (Some (expression_view x).label)

-- an operand without parentheses; none where its operator takes no such class
abbrev pub operand_slots : (Class → Bool) → List Text → Expression → Slots
operand_slots is_taken names x = only_if (is_taken (class_at_node x)) (expression_slots names x)

-- the label of a literal
abbrev pub literal_label : Literal → LabelOf Text
literal_label (literals.Bool b) = truth b
literal_label (literals.Text s) = text (string_bytes s)

-- the slots of the path before a name, an option
abbrev pub path_slots : Option (Box ModulePath) → Slots
path_slots None = Some []
path_slots (Some p) = leaf_slots (a_path false) (path (path_view (box_value p))) end

-- where a path before a name begins; none where the name of a package is no name
abbrev pub beginning_slots : Origin → Slots
beginning_slots o = provided (is_origin false o) (origin_slots false o)

-- a name with its path before it
abbrev pub path_and_name : List Text → Option (Box ModulePath) → Ident → Slots
path_and_name names p i = followed (path_slots p) (name_slots (name_in names i.0))

-- a template list with its brackets; none where it is empty
abbrev pub list_slots : List Text → List Tree → Slots
list_slots names [] = None
list_slots names (t ∷ ts) = followed (Some (must open_list ∷ [])) (followed (comma_slots names an_argument (t ∷ ts)) (Some (must close_list ∷ [])))
