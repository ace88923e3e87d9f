-- Rows of declarations and statements, and how their parts are read.
use Rattle.std.specs.Prelude.{Bool, ◌&&◌, List, Some, codes}
use Rattle.wesl_tree_names.specs.Path.{Text}
use Rattle.wesl_tree_syntax.specs.Tree.{Forest, binder, declaration, kind, respell_forest}
use Rattle.wesl_tree_syntax.specs.Unit.{name_in}
use Rattle.wesl_tree_syntax.specs.View.{declaration_view}
use Rattle.wesl_tree_syntax.specs.declared.declaration.Declaration.{Declaration}
use Rattle.wesl_text_tokens.specs.declared.symbol.Symbol.TheVariants as is
use Rattle.wesl_text_form.specs.Productions.{Sort, Row, a_kind, a_type, an_expression, an_ident, attrs, leaf, nothing, optional, own, says, sym}
use Rattle.wesl_text_form.specs.Spelling.{Forest as SpelledForest, fits, stands_as}
use Rattle.wesl_text_read.specs.declared.reader.Reader.{Reader}
use Rattle.wesl_text_read.specs.Leads.{Leads, ahead}
use Rattle.wesl_text_read.specs.Parts.{row_at}

-- the trees of a row are read, spelled by the names of the table and without their spans
abbrev pub ReadsParts : Row → Forest → Reader → Reader → Type 0
ReadsParts row f old new =
    Leads (λ _. row_at old.levels row (ahead old)) (λ names. Some (respell_forest (name_in names) f, ahead new)) old new

-- the declaration of a variable without the `;` that it ends with
abbrev pub variable_row : Row
variable_row =
    attrs (own a_kind (leaf (an_ident binder) (optional (sym is.Colon (own a_type nothing))
    (optional (sym is.Equal (own an_expression nothing)) nothing))))

-- an assertion
abbrev pub assertion_row : Row
assertion_row = attrs (says (codes "const_assert") (own an_expression (sym is.Semicolon nothing)))

-- what is below a declaration, where each identifier is its name
abbrev pub declared_in : List Text → Declaration → SpelledForest
declared_in names d = respell_forest (name_in names) (declaration_view d).children

-- whether the declaration of these parts may stand in the place of a sort
abbrev pub may_stand : Sort → SpelledForest → Bool
may_stand s f = fits (kind declaration) f && stands_as s (kind declaration) f
