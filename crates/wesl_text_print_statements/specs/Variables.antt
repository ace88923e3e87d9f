-- Declarations of variables and values, with and without their `;`.
use Rattle.std.specs.Prelude.{Bool, List, [], Option, Some, option_map}
use Rattle.wesl_tree_names.specs.Path.{Text}
use Rattle.wesl_tree_syntax.specs.Tree.{Tree, binder, declaration, kind, respell_forest, respell_label}
use Rattle.wesl_tree_syntax.specs.Unit.{name_in}
use Rattle.wesl_tree_syntax.specs.View.{declaration_view, kind_tree}
use Rattle.wesl_tree_syntax.specs.declared.declaration.Declaration.{Declaration}
use Rattle.wesl_tree_syntax.specs.declared.declaration.DeclarationKind.{DeclarationKind}
use Rattle.wesl_text_tokens.specs.declared.symbol.Symbol.TheVariants as is
use Rattle.wesl_text_form.specs.Productions.{Sort, an_access, an_expression, an_ident, a_kind, a_space, a_type, Row, nothing, sym, may_sym, opens, closes, own, leaf, optional, attrs}
use Rattle.wesl_text_form.specs.Spelling.{Label, Slots, fits, without_last}
use Rattle.wesl_text_print.specs.Printing.{only_if, slots_in}
use Rattle.wesl_text_print_statements.specs.Parts.{row_below}

-- a statement or a declaration without its last slot, the `;`
abbrev pub unended_in : List Text → Sort → Tree → Slots
unended_in names s t = option_map without_last (slots_in names s t)

-- what a declaration begins with, as a label
abbrev pub kind_label : DeclarationKind → Option Label
kind_label k = Some (respell_label (name_in []) (kind_tree k).label)

-- whether a declaration has a value, or is one that needs none
abbrev pub has_what_it_needs : List Text → Declaration → Bool
has_what_it_needs names d = fits (kind declaration) (respell_forest (name_in names) (declaration_view d).children)

-- the type behind a name
abbrev pub typed_row : Row
typed_row = sym is.Colon (own a_type nothing)

-- the value of a declaration
abbrev pub valued_row : Row
valued_row = sym is.Equal (own an_expression nothing)

-- a declaration without its `;`
abbrev pub variable_row : Row
variable_row = attrs (own a_kind (leaf (an_ident binder) (optional typed_row (optional valued_row nothing))))

-- the same of one that has what it needs
abbrev pub variable_slots : List Text → Declaration → Slots
variable_slots names d = only_if (has_what_it_needs names d) (row_below names variable_row (declaration_view d))

-- an address space in the brackets of a template list
abbrev pub space_row : Row
space_row = opens (own a_space (may_sym is.Comma (closes nothing)))

-- an access mode behind an address space
abbrev pub mode_row : Row
mode_row = sym is.Comma (own an_access nothing)
