-- A large worked module, of a test of `retarget_idents`: which of its identifiers have one number.
use Rattle.std.specs.Prelude.{◌≡◌, ℕ, true, Option, Some, None, List, [], ◌∷◌, codes}
use Rattle.wesl_tree_names.specs.Path.{Text, from_package}
use Rattle.wesl_tree_syntax.specs.Tree.{increment}
use Rattle.wesl_tree_syntax.specs.declared.statement.AssignmentOperator.TheVariants.{Equal}
use Rattle.wesl_tree_syntax.specs.declared.declaration.AddressSpace.TheVariants.{Private}
use Rattle.wesl_tree_syntax.specs.Unit.{UnitOf}
use Rattle.wesl_link_laws.specs.Builders.{
  none,
  some,
  plain_type,
  type_with,
  name,
  plus,
  item,
  collection,
  entry,
  path_of,
  import_of,
  declare,
  alias,
  member_of,
  struct_of,
  parameter_of,
  statement,
  body,
  function_of,
  assert_of,
  block,
  assign,
  step,
  switch_of,
  clause,
  case_of,
  loop_of,
  continue_with,
  break_when,
  for_of,
  var_of,
  var_in,
  const_value,
  let_value,
  module_of,
}
use Rattle.wesl_link_laws.specs.Canonical.{canonical_numbers, numbers_agree}

-- The module of a test of `retarget_idents`. Its names had digits, equal exactly where they mean one thing: these are left out.
abbrev pub retarget_module : UnitOf Text
retarget_module =
    module_of
    ((import_of [] none (item (codes "i")))
    ∷ (import_of [] (path_of (from_package (codes "i")) [])
    (collection ((entry [] (item (codes "i"))) ∷ (entry [] (item (codes "i"))) ∷ (entry [] (item (codes "j"))) ∷ [])))
    ∷ []) []
    ((assert_of [] (plus (plus (plus (plus (name (codes "i")) (name (codes "c"))) (name (codes "v"))) (name (codes "a"))) (name (codes "s"))))
    ∷ (declare [] const_value (codes "c") (some (plain_type (codes "c")))
    (some (plus (plus (plus (plus (name (codes "i")) (name (codes "c"))) (name (codes "v"))) (name (codes "a"))) (name (codes "s")))))
    ∷ (declare [] (var_in Private) (codes "v") (some (plain_type (codes "v")))
    (some (plus (plus (plus (plus (name (codes "i")) (name (codes "c"))) (name (codes "v"))) (name (codes "a"))) (name (codes "s")))))
    ∷ (alias [] (codes "a") (type_with (codes "a") ((name (codes "i")) ∷ (name (codes "c")) ∷ (name (codes "v")) ∷ (name (codes "a")) ∷ [])))
    ∷ (struct_of [] (codes "s") ((member_of [] (codes "m") (plain_type (codes "m"))) ∷ []))
    ∷ (function_of [] (codes "f") ((parameter_of [] (codes "p") (plain_type (codes "p"))) ∷ []) [] none
    (body []
    ((declare [] let_value (codes "x") none
    (some (plus (plus (plus (plus (name (codes "i")) (name (codes "c"))) (name (codes "v"))) (name (codes "a"))) (name (codes "s")))))
    ∷ (declare [] let_value (codes "x") none (some (name (codes "x"))))
    ∷ (declare [] let_value (codes "i") none
    (some (plus (plus (plus (plus (name (codes "i")) (name (codes "c"))) (name (codes "v"))) (name (codes "a"))) (name (codes "s")))))
    ∷ (declare [] let_value (codes "c") none
    (some (plus (plus (plus (plus (name (codes "i")) (name (codes "c"))) (name (codes "v"))) (name (codes "a"))) (name (codes "s")))))
    ∷ (declare [] let_value (codes "v") none
    (some (plus (plus (plus (plus (name (codes "i")) (name (codes "c"))) (name (codes "v"))) (name (codes "a"))) (name (codes "s")))))
    ∷ (declare [] let_value (codes "a") none
    (some (plus (plus (plus (plus (name (codes "i")) (name (codes "c"))) (name (codes "v"))) (name (codes "a"))) (name (codes "s")))))
    ∷ (declare [] let_value (codes "s") none
    (some (plus (plus (plus (plus (name (codes "i")) (name (codes "c"))) (name (codes "v"))) (name (codes "a"))) (name (codes "s")))))
    ∷ (declare [] let_value (codes "x") none
    (some (plus (plus (plus (plus (name (codes "i")) (name (codes "c"))) (name (codes "v"))) (name (codes "a"))) (name (codes "s")))))
    ∷ (block
    (body []
    ((declare [] let_value (codes "x") none
    (some (plus (plus (plus (plus (plus (name (codes "i")) (name (codes "c"))) (name (codes "v"))) (name (codes "a"))) (name (codes "s"))) (name (codes "x")))))
    ∷ (declare [] let_value (codes "x") none (some (name (codes "x"))))
    ∷ (for_of [] (some (statement (declare [] let_value (codes "x") none (some (name (codes "x")))))) (some (name (codes "x")))
    (some (statement (step increment [] (name (codes "x")))))
    (body [] ((declare [] let_value (codes "x") (some (plain_type (codes "x"))) (some (name (codes "x")))) ∷ [])))
    ∷ (loop_of []
    (body [] ((declare [] var_of (codes "x") none (some (name (codes "x")))) ∷ (declare [] const_value (codes "y") none (some (name (codes "x")))) ∷ []))
    (some
    (continue_with [] (body [] ((declare [] let_value (codes "x") none (some (name (codes "x")))) ∷ []))
    (some (break_when [] (plus (name (codes "x")) (name (codes "y"))))))))
    ∷ [])))
    ∷ (switch_of [] (name (codes "x")) []
    ((clause [] ((case_of (name (codes "x"))) ∷ (case_of (name (codes "f"))) ∷ (case_of (name (codes "g"))) ∷ [])
    (body [] ((assign [] Equal (name (codes "x")) (name (codes "x"))) ∷ [])))
    ∷ []))
    ∷ [])))
    ∷ (function_of [] (codes "f") [] [] none (body [] [])) ∷ (function_of [] (codes "g") [] [] none (body [] []))
    ∷ [])

-- the digits of the names, in document order, and `None` of a name without digits
abbrev pub digits : List (Option ℕ)
digits =
    Some 0 ∷ Some 0 ∷ Some 0 ∷ None ∷ Some 0 ∷ Some 1 ∷ Some 2 ∷ Some 3 ∷ Some 4 ∷ Some 1 ∷ Some 1 ∷ Some 0 ∷ Some 1 ∷ Some 2 ∷ Some 3 ∷ Some 4 ∷ Some 2
    ∷ Some 2 ∷ Some 0 ∷ Some 1 ∷ Some 2 ∷ Some 3 ∷ Some 4 ∷ Some 3 ∷ Some 3 ∷ Some 0 ∷ Some 1 ∷ Some 2 ∷ Some 3 ∷ Some 4 ∷ Some 5 ∷ Some 18 ∷ None ∷ Some 6
    ∷ Some 7 ∷ Some 0 ∷ Some 1 ∷ Some 2 ∷ Some 3 ∷ Some 4 ∷ Some 7 ∷ Some 7 ∷ Some 8 ∷ Some 0 ∷ Some 1 ∷ Some 2 ∷ Some 3 ∷ Some 4 ∷ Some 9 ∷ Some 8 ∷ Some 1
    ∷ Some 2 ∷ Some 3 ∷ Some 4 ∷ Some 10 ∷ Some 8 ∷ Some 9 ∷ Some 2 ∷ Some 3 ∷ Some 4 ∷ Some 11 ∷ Some 8 ∷ Some 9 ∷ Some 10 ∷ Some 3 ∷ Some 4 ∷ Some 12 ∷ Some 8
    ∷ Some 9 ∷ Some 10 ∷ Some 11 ∷ Some 4 ∷ Some 7 ∷ Some 8 ∷ Some 9 ∷ Some 10 ∷ Some 11 ∷ Some 12 ∷ Some 13 ∷ Some 8 ∷ Some 9 ∷ Some 10 ∷ Some 11 ∷ Some 12
    ∷ Some 7 ∷ Some 13 ∷ Some 13 ∷ Some 14 ∷ Some 13 ∷ Some 14 ∷ Some 14 ∷ Some 14 ∷ Some 14 ∷ Some 14 ∷ Some 15 ∷ Some 13 ∷ Some 17 ∷ Some 15 ∷ Some 16
    ∷ Some 15 ∷ Some 16 ∷ Some 17 ∷ Some 7 ∷ Some 7 ∷ Some 18 ∷ Some 19 ∷ Some 7 ∷ Some 7 ∷ Some 18 ∷ Some 19 ∷ []

-- two identifiers whose names have digits have one canonical number exactly where the digits are the same
abbrev pub RetargetRow : Type 0
RetargetRow = numbers_agree digits (canonical_numbers retarget_module) ≡ true
