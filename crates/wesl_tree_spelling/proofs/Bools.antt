-- Facts on tests.
use mathlib.Core.Bool.{and-false, and-true}

pub ruleset steps = (and-true, and-false)
