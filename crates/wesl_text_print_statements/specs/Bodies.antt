-- Bodies and clauses, and the parts of statements that have them.
use Rattle.std.specs.Prelude.{not, if◌then◌else◌, List, [], ◌∷◌, map, Option, Some, None, Vec, codes}
use Rattle.std.specs.Box.{box_value}
use Rattle.std.specs.Global.{Box}
use Rattle.std.specs.declared.alloc.Global.{Global}
use Rattle.wesl_tree_names.specs.Path.{Text}
use Rattle.wesl_tree_syntax.specs.Tree.{clauses, forest_of, respell_forest, statements}
use Rattle.wesl_tree_syntax.specs.Unit.{name_in}
use Rattle.wesl_tree_syntax.specs.View.{clause_view, expression_tree, listed, selector_view, statement_tree}
use Rattle.wesl_tree_syntax.specs.declared.span.Spanned.{Spanned}
use Rattle.wesl_tree_syntax.specs.declared.expression.Expression.{Expression}
use Rattle.wesl_tree_syntax.specs.declared.statement.CaseSelector.{CaseSelector}
use Rattle.wesl_tree_syntax.specs.declared.statement.Statement.{Statement}
use Rattle.wesl_tree_syntax.specs.declared.statement.SwitchClause.{SwitchClause}
use Rattle.wesl_text_tokens.specs.declared.symbol.Symbol.TheVariants as is
use Rattle.wesl_text_form.specs.Productions.{a_break_if, a_clause, a_continuing, a_selector, a_statement, an_else, an_expression, Row, nothing, sym, says, own, run, attrs}
use Rattle.wesl_text_form.specs.Slots.{alone}
use Rattle.wesl_text_form.specs.Spelling.{Forest, Slots, followed, is_end, is_lone_default, named, signed}
use Rattle.wesl_text_print.specs.Printing.{comma_slots, expression_slots, only_if}
use Rattle.wesl_text_print_statements.specs.Parts.{all_in, option_in, row_in}
use Rattle.wesl_text_print_statements.specs.SimpleStatements.{simple_slots}

-- a body without its `}`
abbrev pub opened_row : Row
opened_row = attrs (sym is.BraceLeft (run statements a_statement nothing))

-- statements one behind the other
abbrev pub statements_slots : List Text → Vec (Spanned Statement) Global → Slots
statements_slots names ss = all_in names a_statement (listed statement_tree statements ss).children

-- its `}`
abbrev pub closing_slots : Slots
closing_slots = Some (signed is.BraceRight ∷ [])

-- what an option holds: an expression, an `else`, a `continuing`, a `break if`
abbrev pub the_expression : Row
the_expression = own an_expression nothing

abbrev pub the_else : Row
the_else = own an_else nothing

abbrev pub the_continuing : Row
the_continuing = own a_continuing nothing

abbrev pub the_break_if : Row
the_break_if = own a_break_if nothing

-- a statement that may stand in a `for`, with its `;`
abbrev pub ended_slots : List Text → Statement → Slots
ended_slots names s = followed (simple_slots names s) (Some (signed is.Semicolon ∷ []))

-- a keyword and an expression
abbrev pub headed_slots : List Text → Text → Expression → Slots
headed_slots names w x = followed (Some (named w ∷ [])) (expression_slots names x)

-- a statement that is one word
abbrev pub jump_row : Text → Row
jump_row w = attrs (says w (sym is.Semicolon nothing))

-- the clauses of a `switch` in braces
abbrev pub clauses_row : Row
clauses_row = sym is.BraceLeft (run clauses a_clause (sym is.BraceRight nothing))

-- these clauses in braces
abbrev pub braced_clauses_slots : List Text → Vec SwitchClause Global → Slots
braced_clauses_slots names cs = row_in names clauses_row (listed clause_view clauses cs ∷ [])

-- clauses one behind the other
abbrev pub clauses_slots : List Text → Vec SwitchClause Global → Slots
clauses_slots names cs = all_in names a_clause (listed clause_view clauses cs).children

-- selectors, where each identifier is its name
abbrev pub spelled_selectors : List Text → Vec CaseSelector Global → Forest
spelled_selectors names ss = respell_forest (name_in names) (forest_of (map selector_view ss.items))

-- the same of one
abbrev pub spelled_selector : List Text → CaseSelector → Forest
spelled_selector names s = respell_forest (name_in names) (forest_of (selector_view s ∷ []))

-- `default`, or `case` with selectors; none where there are no selectors
abbrev pub selectors_slots : List Text → Vec CaseSelector Global → Slots
selectors_slots names ss =
    only_if (not (is_end (spelled_selectors names ss)))
    (if is_lone_default (spelled_selectors names ss) then Some (alone ∷ [])
    else followed (Some (named (codes "case") ∷ [])) (comma_slots names a_selector (map selector_view ss.items)))

-- a statement in a `for`, without its `;`, an option
abbrev pub part_slots : List Text → Option (Box (Spanned Statement)) → Slots
part_slots names None = Some []
part_slots names (Some s) = simple_slots names (box_value s).node

-- the parts of a `for` in parentheses
abbrev pub for_slots : List Text → Option (Box (Spanned Statement)) → Option (Spanned Expression)
    → Option (Box (Spanned Statement)) → Slots
for_slots names initializer condition update =
    followed (Some (signed is.ParenLeft ∷ [])) (followed (part_slots names initializer)
    (followed (Some (signed is.Semicolon ∷ [])) (followed (option_in names the_expression expression_tree condition)
    (followed (Some (signed is.Semicolon ∷ [])) (followed (part_slots names update) (Some (signed is.ParenRight ∷ [])))))))
