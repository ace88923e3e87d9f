-- Which expressions may stand at a place.
use Rattle.std.specs.Prelude.{Bool}
use Rattle.wesl_text_form.specs.Operators.{Class, is_tight, operator_class, takes_right}
use Rattle.wesl_text_reading.specs.Reading.{any}
use Rattle.wesl_text_read.specs.declared.within.Within.{Within}
use Rattle.wesl_text_read.specs.declared.within.Within.TheVariants as within

-- whether an expression of a class may stand at a place
abbrev pub allows : Within → Class → Bool
allows within.Anything = any
allows within.Prefix = is_tight
allows (within.Right o) = takes_right (operator_class o)
