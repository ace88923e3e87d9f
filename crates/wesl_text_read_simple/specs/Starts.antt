-- The labels of statements, by what they begin with.
use Rattle.std.specs.Prelude.{◌≡◌, Bool, true, if◌then◌else◌, Option, Some, None, codes, bytes_eq}
use Rattle.wesl_tree_names.specs.Path.{Text}
use Rattle.wesl_tree_syntax.specs.Tree.{kind, assignment, void, compound_statement, if_statement, switch, loop, for_loop, while_loop, break, continue, return, discard, const_assert, declaration}
use Rattle.wesl_tree_syntax.specs.declared.statement.AssignmentOperator.TheVariants as assignment_operator
use Rattle.wesl_text_tokens.specs.Symbols.{look_up}
use Rattle.wesl_text_form.specs.Spelling.{Label, is_simple}
use Rattle.wesl_text_reading.specs.FirstTokens.{declaration_label, labelled, statement_label, words_of_statements}
use Rattle.wesl_text_reading.specs.Reading.{behind_attributes}
use Rattle.wesl_text_read.specs.declared.reader.Reader.{Reader}
use Rattle.wesl_text_read.specs.Leads.{ahead}
use Rattle.wesl_text_read.specs.Levels.{inner}
use Rattle.wesl_text_read_simple.specs.declared.starts.PartStart.{PartStart}
use Rattle.wesl_text_read_simple.specs.declared.starts.PartStart.TheVariants as parts
use Rattle.wesl_text_read_simple.specs.declared.starts.SimpleStart.{SimpleStart}
use Rattle.wesl_text_read_simple.specs.declared.starts.SimpleStart.TheVariants as simples
use Rattle.wesl_text_read_simple.specs.declared.starts.StatementStart.{StatementStart}
use Rattle.wesl_text_read_simple.specs.declared.starts.StatementStart.TheVariants as starts

-- the label of a statement by what it begins with; none where that is an expression's, or nothing's
abbrev pub part_label : PartStart → Option Label
part_label parts.Declaration = Some (kind declaration)
part_label parts.Wildcard = Some (assignment assignment_operator.Equal)
part_label parts.Expression = None

abbrev pub simple_label : SimpleStart → Option Label
simple_label (simples.Part p) = part_label p
simple_label simples.Void = Some (kind void)
simple_label simples.ConstAssert = Some (kind const_assert)
simple_label simples.Break = Some (kind break)
simple_label simples.Continue = Some (kind continue)
simple_label simples.Discard = Some (kind discard)
simple_label simples.Return = Some (kind return)

abbrev pub start_label : StatementStart → Option Label
start_label (starts.Simple s) = simple_label s
start_label starts.Compound = Some (kind compound_statement)
start_label starts.If = Some (kind if_statement)
start_label starts.Switch = Some (kind switch)
start_label starts.Loop = Some (kind loop)
start_label starts.For = Some (kind for_loop)
start_label starts.While = Some (kind while_loop)

-- whether a statement with this label, which its first token tells, may be a part of a `for`
abbrev pub may_be_part : Option Label → Bool
may_be_part None = true
may_be_part (Some l) = is_simple (Some l)

-- the label of a statement by its first word
abbrev pub word_label : Text → Option Label
word_label t =
    if bytes_eq (codes "_") t then Some (assignment assignment_operator.Equal)
    else labelled kind (look_up t words_of_statements)

-- unless a fault is noted, the first token behind the attributes that come first tells this label: of a statement, and of a
-- declaration outside of functions
abbrev pub StatementBegins : Option Label → Reader → Type 0
StatementBegins l r = r.fault ≡ None → l ≡ statement_label (behind_attributes (inner r.levels) (ahead r))

abbrev pub DeclarationBegins : Option Label → Reader → Type 0
DeclarationBegins l r = r.fault ≡ None → l ≡ declaration_label (behind_attributes (inner r.levels) (ahead r))
