-- The words of operators, spaces and access modes, and of attributes without operand.
use Rattle.std.specs.Prelude.{[], ◌∷◌, codes}
use Rattle.wesl_tree_syntax.specs.Tree.{kind, unary, binary, assignment, space, access, const_attribute, invariant_attribute, must_use, vertex, fragment, compute, publish, else_attribute}
use Rattle.wesl_tree_syntax.specs.declared.expression.UnaryOperator.TheVariants as unary_operator
use Rattle.wesl_tree_syntax.specs.declared.expression.BinaryOperator.TheVariants as binary_operator
use Rattle.wesl_tree_syntax.specs.declared.statement.AssignmentOperator.TheVariants as assignment_operator
use Rattle.wesl_tree_syntax.specs.declared.declaration.AddressSpace.TheVariants as address_space
use Rattle.wesl_tree_syntax.specs.declared.declaration.AccessMode.TheVariants as access_mode
use Rattle.wesl_json_form.specs.Schema.{Words}

-- the words at `op` of a `unary`, and the operator that each stands for
abbrev pub unary_words : Words
unary_words =
    (codes "!", unary unary_operator.LogicalNegation)
    ∷ (codes "-", unary unary_operator.Negation)
    ∷ (codes "~", unary unary_operator.BitwiseComplement)
    ∷ (codes "&", unary unary_operator.AddressOf)
    ∷ (codes "*", unary unary_operator.Indirection)
    ∷ []

-- the words at `op` of a `binary`, and the operator that each stands for
abbrev pub binary_words : Words
binary_words =
    (codes "||", binary binary_operator.ShortCircuitOr)
    ∷ (codes "&&", binary binary_operator.ShortCircuitAnd)
    ∷ (codes "+", binary binary_operator.Addition)
    ∷ (codes "-", binary binary_operator.Subtraction)
    ∷ (codes "*", binary binary_operator.Multiplication)
    ∷ (codes "/", binary binary_operator.Division)
    ∷ (codes "%", binary binary_operator.Remainder)
    ∷ (codes "==", binary binary_operator.Equality)
    ∷ (codes "!=", binary binary_operator.Inequality)
    ∷ (codes "<", binary binary_operator.LessThan)
    ∷ (codes "<=", binary binary_operator.LessThanEqual)
    ∷ (codes ">", binary binary_operator.GreaterThan)
    ∷ (codes ">=", binary binary_operator.GreaterThanEqual)
    ∷ (codes "|", binary binary_operator.BitwiseOr)
    ∷ (codes "&", binary binary_operator.BitwiseAnd)
    ∷ (codes "^", binary binary_operator.BitwiseXor)
    ∷ (codes "<<", binary binary_operator.ShiftLeft)
    ∷ (codes ">>", binary binary_operator.ShiftRight)
    ∷ []

-- the words at `op` of an `assign`, and the assignment that each stands for
abbrev pub assignment_words : Words
assignment_words =
    (codes "=", assignment assignment_operator.Equal)
    ∷ (codes "+=", assignment assignment_operator.PlusEqual)
    ∷ (codes "-=", assignment assignment_operator.MinusEqual)
    ∷ (codes "*=", assignment assignment_operator.TimesEqual)
    ∷ (codes "/=", assignment assignment_operator.DivisionEqual)
    ∷ (codes "%=", assignment assignment_operator.ModuloEqual)
    ∷ (codes "&=", assignment assignment_operator.AndEqual)
    ∷ (codes "|=", assignment assignment_operator.OrEqual)
    ∷ (codes "^=", assignment assignment_operator.XorEqual)
    ∷ (codes "<<=", assignment assignment_operator.ShiftLeftAssign)
    ∷ (codes ">>=", assignment assignment_operator.ShiftRightAssign)
    ∷ []

-- the words at `space` of a `var`, and the address space that each stands for
abbrev pub space_words : Words
space_words =
    (codes "function", space address_space.Function)
    ∷ (codes "private", space address_space.Private)
    ∷ (codes "workgroup", space address_space.Workgroup)
    ∷ (codes "uniform", space address_space.Uniform)
    ∷ (codes "storage", space address_space.Storage)
    ∷ (codes "handle", space address_space.Handle)
    ∷ []

-- the words at `access` of a `var`, and the access mode that each stands for
abbrev pub access_words : Words
access_words =
    (codes "read", access access_mode.Read)
    ∷ (codes "write", access access_mode.Write)
    ∷ (codes "read_write", access access_mode.ReadWrite)
    ∷ []

-- the words of the attributes without operand: each stands as a text, and in form 2 also at `k` of an object
abbrev pub attribute_words : Words
attribute_words =
    (codes "const", kind const_attribute)
    ∷ (codes "invariant", kind invariant_attribute)
    ∷ (codes "must_use", kind must_use)
    ∷ (codes "vertex", kind vertex)
    ∷ (codes "fragment", kind fragment)
    ∷ (codes "compute", kind compute)
    ∷ (codes "publish", kind publish)
    ∷ (codes "else", kind else_attribute)
    ∷ []
