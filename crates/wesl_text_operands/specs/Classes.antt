-- How tightly expressions hold together, as the code tells it.
use Rattle.wesl_text_form.specs.Operators.{Class, primary, prefixed, product, sum, shift, comparison, bit_and, bit_or, bit_xor, both, either}
use Rattle.wesl_text_operands.specs.declared.class.Class.{Class as HeldClass}
use Rattle.wesl_text_operands.specs.declared.class.Class.TheVariants as held

-- the class that a value of the code is
abbrev pub class_view : HeldClass → Class
class_view held.Primary = primary
class_view held.Prefixed = prefixed
class_view held.Product = product
class_view held.Sum = sum
class_view held.Shift = shift
class_view held.Comparison = comparison
class_view held.BitAnd = bit_and
class_view held.BitOr = bit_or
class_view held.BitXor = bit_xor
class_view held.Both = both
class_view held.Either = either
