-- What is read of all tokens that are left.
use Rattle.std.specs.Prelude.{ℕ, Bool, List, [], Option, Some, None, option_map}
use Rattle.wesl_tree_syntax.specs.Tree.{Tree, before, declarations, directive_list, respell}
use Rattle.wesl_tree_syntax.specs.Unit.{name_in}
use Rattle.wesl_text_tokens.specs.Tokens.{Token}
use Rattle.wesl_text_form.specs.Productions.{Row, a_declaration, a_directive, nothing, run}
use Rattle.wesl_text_form.specs.Spelling.{Forest}
use Rattle.wesl_text_reading.specs.Leaves.{Read, after}
use Rattle.wesl_text_reading.specs.Reading.{attributes_first}
use Rattle.wesl_text_read.specs.declared.reader.Reader.{Reader}
use Rattle.wesl_text_read.specs.Leads.{Leads, ahead}
use Rattle.wesl_text_read.specs.Levels.{inner}
use Rattle.wesl_text_read.specs.Parts.{row_at}

-- how many levels of nodes a text may nest
abbrev pub most_levels : ℕ
most_levels = 127

-- the parts of a unit behind its imports, and behind its directives
abbrev pub declarations_row : Row
declarations_row = run declarations a_declaration nothing

abbrev pub directives_row : Row
directives_row = run directive_list a_directive declarations_row

-- what was read, where nothing is left
abbrev pub to_the_end : Read Forest → Option Forest
to_the_end (Some (f, [])) = Some f
to_the_end _ = None

-- the trees of a row, where nothing is left behind it
abbrev pub whole_at : ℕ → Row → List Token → Option Forest
whole_at n row ts = to_the_end (row_at n row ts)

-- The first tree of a row is read, and the others are those of a later row. Attributes that cannot be read are no part of
-- any row, so this is said of rows to the end.
abbrev pub ReadsPart : Row → Row → Tree → Reader → Reader → Type 0
ReadsPart row later t old new =
    Leads (λ _. whole_at old.levels row (ahead old))
    (λ names. option_map (before (respell (name_in names) t)) (whole_at old.levels later (ahead new))) old new

-- whether something begins is told, by what stands behind attributes, and all is still to be read; unless they are no attributes
abbrev pub TellsBehind : (List Token → Bool) → Bool → Reader → Reader → Type 0
TellsBehind begins b old new =
    Leads {A = Bool × List Token}
    (λ _. after (attributes_first (inner old.levels) (ahead old)) (λ f us. Some (begins us, ahead old)))
    (λ _. Some (b, ahead new)) old new
