-- The parts of declarations, imports and directives.
use Rattle.std.specs.Prelude.{true, List, map, [], ◌∷◌, Option, Some, None, Vec, String, codes}
use Rattle.std.specs.declared.alloc.Global.{Global}
use Rattle.wesl_tree_names.specs.Path.{Origin, Text}
use Rattle.wesl_tree_syntax.specs.Tree.{binder, member_node}
use Rattle.wesl_tree_syntax.specs.View.{attributes_tree, member_view, names_tree, placed, type_view}
use Rattle.wesl_tree_syntax.specs.declared.span.Spanned.{Spanned}
use Rattle.wesl_tree_syntax.specs.declared.attribute.Attribute.{Attribute}
use Rattle.wesl_tree_syntax.specs.declared.declaration.StructMember.{StructMember}
use Rattle.wesl_tree_syntax.specs.declared.expression.TypeExpression.{TypeExpression}
use Rattle.wesl_text_tokens.specs.declared.symbol.Symbol.TheVariants as is
use Rattle.wesl_text_form.specs.Names.{is_origin}
use Rattle.wesl_text_form.specs.Productions.{a_member, a_path, a_type, an_ident, some_words, Row, nothing, sym, says, leaf, attrs}
use Rattle.wesl_text_form.specs.Spelling.{Slots, followed, is_end, origin_slots, provided, signed}
use Rattle.wesl_text_print.specs.Printing.{comma_slots, only_if, slots_in}
use Rattle.wesl_text_print_statements.specs.Parts.{attributes_slots, row_in}
use Rattle.wesl_text_operands.specs.Targets.{spelled_attributes}

-- the type behind the name of a member or a parameter
abbrev pub declared_slots : List Text → TypeExpression → Slots
declared_slots names t = followed (Some (signed is.Colon ∷ [])) (slots_in names a_type (type_view t))

-- members with commas between them
abbrev pub members_slots : List Text → Vec (Spanned StructMember) Global → Slots
members_slots names ms = comma_slots names a_member (map (placed member_view member_node) ms.items)

-- the `}` of a structure
abbrev pub closing_slots : Slots
closing_slots = Some (signed is.BraceRight ∷ [])

-- a result that is not there has no attributes
abbrev pub no_result_slots : Vec (Spanned Attribute) Global → Slots
no_result_slots a = only_if (is_end (spelled_attributes [] a.items)) (Some [])

-- the type of a result with its attributes, an option
abbrev pub result_slots : List Text → Vec (Spanned Attribute) Global → Option TypeExpression → Slots
result_slots names a None = no_result_slots a
result_slots names a (Some t) = followed (Some (signed is.Arrow ∷ [])) (followed (attributes_slots names a) (slots_in names a_type (type_view t)))

-- the path of an import
abbrev pub import_path_row : Row
import_path_row = leaf (a_path true) nothing

-- where the path of an import begins; none where a part of the name of a package is no name
abbrev pub import_beginning_slots : Origin → Slots
import_beginning_slots o = provided (is_origin true o) (origin_slots true o)

-- the new name of an item
abbrev pub renamed_row : Row
renamed_row = says (codes "as") (leaf (an_ident binder) nothing)

-- a directive of a keyword and words
abbrev pub listing_row : Text → Row
listing_row w = attrs (says w (leaf some_words (sym is.Semicolon nothing)))

-- such a directive, from its keyword, its attributes and its words
abbrev pub listing_slots : List Text → Text → Vec (Spanned Attribute) Global → Vec (String Global) Global → Slots
listing_slots names w a ws = row_in names (listing_row w) (attributes_tree a ∷ names_tree ws ∷ [])
