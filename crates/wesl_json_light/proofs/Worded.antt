-- Each operator, space and access mode has a word that says it.
use Rattle.std.proofs.Common.{codes, refl}
use Rattle.wesl_tree_syntax.specs.Tree.{unary, binary, assignment, space, access}
use Rattle.wesl_tree_syntax.specs.declared.expression.UnaryOperator.{UnaryOperator}
use Rattle.wesl_tree_syntax.specs.declared.expression.UnaryOperator.TheVariants as unary_operator
use Rattle.wesl_tree_syntax.specs.declared.expression.BinaryOperator.{BinaryOperator}
use Rattle.wesl_tree_syntax.specs.declared.expression.BinaryOperator.TheVariants as binary_operator
use Rattle.wesl_tree_syntax.specs.declared.statement.AssignmentOperator.{AssignmentOperator}
use Rattle.wesl_tree_syntax.specs.declared.statement.AssignmentOperator.TheVariants as assignment_operator
use Rattle.wesl_tree_syntax.specs.declared.declaration.AddressSpace.{AddressSpace}
use Rattle.wesl_tree_syntax.specs.declared.declaration.AddressSpace.TheVariants as address_space
use Rattle.wesl_tree_syntax.specs.declared.declaration.AccessMode.{AccessMode}
use Rattle.wesl_tree_syntax.specs.declared.declaration.AccessMode.TheVariants as access_mode
use Rattle.wesl_json_form.specs.Words.{unary_words, binary_words, assignment_words, space_words, access_words}
use Rattle.wesl_json_light.proofs.Fitting.{IsWord}

pub unary_word : (o : UnaryOperator) → IsWord unary_words (unary o)
unary_word unary_operator.LogicalNegation = record { word = codes "!"; written = refl; read = refl }
unary_word unary_operator.Negation = record { word = codes "-"; written = refl; read = refl }
unary_word unary_operator.BitwiseComplement = record { word = codes "~"; written = refl; read = refl }
unary_word unary_operator.AddressOf = record { word = codes "&"; written = refl; read = refl }
unary_word unary_operator.Indirection = record { word = codes "*"; written = refl; read = refl }

pub binary_word : (o : BinaryOperator) → IsWord binary_words (binary o)
binary_word binary_operator.ShortCircuitOr = record { word = codes "||"; written = refl; read = refl }
binary_word binary_operator.ShortCircuitAnd = record { word = codes "&&"; written = refl; read = refl }
binary_word binary_operator.Addition = record { word = codes "+"; written = refl; read = refl }
binary_word binary_operator.Subtraction = record { word = codes "-"; written = refl; read = refl }
binary_word binary_operator.Multiplication = record { word = codes "*"; written = refl; read = refl }
binary_word binary_operator.Division = record { word = codes "/"; written = refl; read = refl }
binary_word binary_operator.Remainder = record { word = codes "%"; written = refl; read = refl }
binary_word binary_operator.Equality = record { word = codes "=="; written = refl; read = refl }
binary_word binary_operator.Inequality = record { word = codes "!="; written = refl; read = refl }
binary_word binary_operator.LessThan = record { word = codes "<"; written = refl; read = refl }
binary_word binary_operator.LessThanEqual = record { word = codes "<="; written = refl; read = refl }
binary_word binary_operator.GreaterThan = record { word = codes ">"; written = refl; read = refl }
binary_word binary_operator.GreaterThanEqual = record { word = codes ">="; written = refl; read = refl }
binary_word binary_operator.BitwiseOr = record { word = codes "|"; written = refl; read = refl }
binary_word binary_operator.BitwiseAnd = record { word = codes "&"; written = refl; read = refl }
binary_word binary_operator.BitwiseXor = record { word = codes "^"; written = refl; read = refl }
binary_word binary_operator.ShiftLeft = record { word = codes "<<"; written = refl; read = refl }
binary_word binary_operator.ShiftRight = record { word = codes ">>"; written = refl; read = refl }

pub assignment_word : (o : AssignmentOperator) → IsWord assignment_words (assignment o)
assignment_word assignment_operator.Equal = record { word = codes "="; written = refl; read = refl }
assignment_word assignment_operator.PlusEqual = record { word = codes "+="; written = refl; read = refl }
assignment_word assignment_operator.MinusEqual = record { word = codes "-="; written = refl; read = refl }
assignment_word assignment_operator.TimesEqual = record { word = codes "*="; written = refl; read = refl }
assignment_word assignment_operator.DivisionEqual = record { word = codes "/="; written = refl; read = refl }
assignment_word assignment_operator.ModuloEqual = record { word = codes "%="; written = refl; read = refl }
assignment_word assignment_operator.AndEqual = record { word = codes "&="; written = refl; read = refl }
assignment_word assignment_operator.OrEqual = record { word = codes "|="; written = refl; read = refl }
assignment_word assignment_operator.XorEqual = record { word = codes "^="; written = refl; read = refl }
assignment_word assignment_operator.ShiftLeftAssign = record { word = codes "<<="; written = refl; read = refl }
assignment_word assignment_operator.ShiftRightAssign = record { word = codes ">>="; written = refl; read = refl }

pub space_word : (o : AddressSpace) → IsWord space_words (space o)
space_word address_space.Function = record { word = codes "function"; written = refl; read = refl }
space_word address_space.Private = record { word = codes "private"; written = refl; read = refl }
space_word address_space.Workgroup = record { word = codes "workgroup"; written = refl; read = refl }
space_word address_space.Uniform = record { word = codes "uniform"; written = refl; read = refl }
space_word address_space.Storage = record { word = codes "storage"; written = refl; read = refl }
space_word address_space.Handle = record { word = codes "handle"; written = refl; read = refl }

pub access_word : (o : AccessMode) → IsWord access_words (access o)
access_word access_mode.Read = record { word = codes "read"; written = refl; read = refl }
access_word access_mode.Write = record { word = codes "write"; written = refl; read = refl }
access_word access_mode.ReadWrite = record { word = codes "read_write"; written = refl; read = refl }
