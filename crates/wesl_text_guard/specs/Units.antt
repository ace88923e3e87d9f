-- Parentheses in whole units.
use Rattle.std.specs.Prelude.{Bool}
use Rattle.wesl_tree_syntax.specs.Unit.{UnitOf}
use Rattle.wesl_text_guard.specs.Parentheses.{tree_with_parentheses}

-- a unit with all parentheses that its operands need, and with those of comparisons where these are guarded
abbrev pub unit_with_parentheses : {I : Type 0} → Bool → UnitOf I → UnitOf I
unit_with_parentheses comparisons u = record {
  imports = tree_with_parentheses comparisons u.imports;
  directives = tree_with_parentheses comparisons u.directives;
  declarations = tree_with_parentheses comparisons u.declarations;
}
