-- The results of functions.
use Rattle.std.specs.Prelude.{ℕ, true, false, [], Some}
use Rattle.wesl_tree_syntax.specs.Tree.{Tree, absent, attributes, before, branch, end, present, respell}
use Rattle.wesl_tree_syntax.specs.Unit.{name_in}
use Rattle.wesl_text_tokens.specs.declared.symbol.Symbol.TheVariants as is
use Rattle.wesl_text_form.specs.Productions.{Row, a_type, attrs, inside, nothing, own}
use Rattle.wesl_text_form.specs.Spelling.{Forest}
use Rattle.wesl_text_reading.specs.FirstTokens.{begins_sign, behind_first}
use Rattle.wesl_text_reading.specs.Leaves.{Read}
use Rattle.wesl_text_reading.specs.Reading.{ForestReader}
use Rattle.wesl_text_read.specs.declared.reader.Reader.{Reader}
use Rattle.wesl_text_read.specs.Leads.{Leads, ahead}
use Rattle.wesl_text_read.specs.Parts.{row_at}

-- attributes and a type, which is there
abbrev pub result_row : Row
result_row = attrs (inside present (own a_type nothing) nothing)

-- what stands between the parameters of a function and its body: `->`, attributes and a type, or nothing
abbrev pub result_at : ℕ → ForestReader
result_at n ts = elim (begins_sign is.Arrow ts) as (λ _. Read Forest) [
  | false ↦ Some (before (branch attributes []) (before (branch absent []) end), ts)
  | true ↦ row_at n result_row (behind_first ts)
]

-- two trees are read, spelled by the names of the table and without their spans
abbrev pub ReadsPair : (ℕ → ForestReader) → Tree → Tree → Reader → Reader → Type 0
ReadsPair f t u old new =
    Leads (λ _. f old.levels (ahead old))
    (λ names. Some (before (respell (name_in names) t) (before (respell (name_in names) u) end), ahead new)) old new
