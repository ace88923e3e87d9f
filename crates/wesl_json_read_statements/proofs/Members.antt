-- Labels that are spelled as they are.
use Rattle.std.proofs.Common.{refl}
use Rattle.wesl_tree_syntax.specs.Tree.{assignment, space, access}
use Rattle.wesl_tree_syntax.specs.declared.statement.AssignmentOperator.{AssignmentOperator}
use Rattle.wesl_tree_syntax.specs.declared.declaration.AddressSpace.{AddressSpace}
use Rattle.wesl_tree_syntax.specs.declared.declaration.AccessMode.{AccessMode}
use Rattle.wesl_json_read.proofs.Rows.{IsPlain}

pub plain-assignment : (o : AssignmentOperator) → IsPlain (assignment o) (assignment o)
plain-assignment o = record { spells = λ names. refl; below = λ n. refl; counts = λ c ts. refl }

pub plain-space : (s : AddressSpace) → IsPlain (space s) (space s)
plain-space s = record { spells = λ names. refl; below = λ n. refl; counts = λ c ts. refl }

pub plain-access : (s : AccessMode) → IsPlain (access s) (access s)
plain-access s = record { spells = λ names. refl; below = λ n. refl; counts = λ c ts. refl }
