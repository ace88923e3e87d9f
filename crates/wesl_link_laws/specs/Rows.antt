-- Worked rows: the canonical numbers of small modules.
use Rattle.std.specs.Prelude.{◌≡◌, [], ◌∷◌, codes}
use Rattle.wesl_tree_names.specs.Path.{Text, absolute, relative, from_package}
use Rattle.wesl_tree_syntax.specs.Tree.{increment, if_attribute, elif_attribute, else_attribute, compute, size, location}
use Rattle.wesl_tree_syntax.specs.declared.statement.AssignmentOperator.TheVariants.{Equal}
use Rattle.wesl_tree_syntax.specs.declared.expression.UnaryOperator.TheVariants.{LogicalNegation}
use Rattle.wesl_tree_syntax.specs.declared.expression.BinaryOperator.TheVariants.{ShortCircuitAnd, ShortCircuitOr}
use Rattle.wesl_tree_syntax.specs.Unit.{UnitOf}
use Rattle.wesl_link_laws.specs.Builders.{
  none,
  some,
  plain_type,
  path_type,
  type_with,
  of_type,
  name,
  literal_text,
  operate,
  apply,
  plus,
  called,
  plain,
  with_operand,
  workgroup,
  item,
  renamed,
  collection,
  entry,
  path_of,
  import_of,
  declare,
  parameter_of,
  statement,
  body,
  function_of,
  block,
  assign,
  step,
  choose,
  when,
  or_when,
  otherwise,
  switch_of,
  clause,
  case_of,
  default,
  loop_of,
  continue_with,
  break_when,
  for_of,
  while_of,
  call_now,
  var_of,
  const_value,
  let_value,
  enable_of,
  module_of,
}
use Rattle.wesl_link_laws.specs.Canonical.{canonical_numbers}

-- const x; fn f() { for (let x = x; x; x++) { let x: x = x; } }
abbrev pub for_loop : UnitOf Text
for_loop =
    module_of [] []
    ((declare [] const_value (codes "x") none none)
    ∷ (function_of [] (codes "f") [] [] none
    (body []
    ((for_of [] (some (statement (declare [] let_value (codes "x") none (some (name (codes "x")))))) (some (name (codes "x")))
    (some (statement (step increment [] (name (codes "x")))))
    (body [] ((declare [] let_value (codes "x") (some (plain_type (codes "x"))) (some (name (codes "x")))) ∷ [])))
    ∷ [])))
    ∷ [])

-- each definition that ends in `_row` says what the canonical numbers of the module above it are, in document order:
abbrev pub for_loop_row : Type 0
for_loop_row = canonical_numbers for_loop ≡ (0 ∷ 1 ∷ 2 ∷ 0 ∷ 2 ∷ 2 ∷ 2 ∷ 2 ∷ 2 ∷ [])

-- const x; fn f() { loop { var x = x; const y = x; continuing { let x = x; break if x + y; } } }
abbrev pub loop_with_continuing : UnitOf Text
loop_with_continuing =
    module_of [] []
    ((declare [] const_value (codes "x") none none)
    ∷ (function_of [] (codes "f") [] [] none
    (body []
    ((loop_of []
    (body [] ((declare [] var_of (codes "x") none (some (name (codes "x")))) ∷ (declare [] const_value (codes "y") none (some (name (codes "x")))) ∷ []))
    (some
    (continue_with [] (body [] ((declare [] let_value (codes "x") none (some (name (codes "x")))) ∷ []))
    (some (break_when [] (plus (name (codes "x")) (name (codes "y"))))))))
    ∷ [])))
    ∷ [])

abbrev pub loop_with_continuing_row : Type 0
loop_with_continuing_row = canonical_numbers loop_with_continuing ≡ (0 ∷ 1 ∷ 2 ∷ 0 ∷ 3 ∷ 2 ∷ 4 ∷ 2 ∷ 4 ∷ 3 ∷ [])

-- fn f() { a::b(); a::b(); b(); }
abbrev pub paths : UnitOf Text
paths =
    module_of [] []
    ((function_of [] (codes "f") [] [] none
    (body []
    ((call_now [] (called (path_type (from_package (codes "a")) [] (codes "b")) []))
    ∷ (call_now [] (called (path_type (from_package (codes "a")) [] (codes "b")) [])) ∷ (call_now [] (called (plain_type (codes "b")) []))
    ∷ [])))
    ∷ [])

abbrev pub paths_row : Type 0
paths_row = canonical_numbers paths ≡ (0 ∷ 1 ∷ 1 ∷ 2 ∷ [])

-- @if(x) const x = x;
abbrev pub word_first : UnitOf Text
word_first = module_of [] [] ((declare ((with_operand if_attribute (name (codes "x"))) ∷ []) const_value (codes "x") none (some (name (codes "x")))) ∷ [])

abbrev pub word_first_row : Type 0
word_first_row = canonical_numbers word_first ≡ (0 ∷ 1 ∷ 1 ∷ [])

-- const x; fn f(x: x) -> x { let x = x; x(); }
abbrev pub parameters_and_body : UnitOf Text
parameters_and_body =
    module_of [] []
    ((declare [] const_value (codes "x") none none)
    ∷ (function_of [] (codes "f") ((parameter_of [] (codes "x") (plain_type (codes "x"))) ∷ []) [] (some (plain_type (codes "x")))
    (body [] ((declare [] let_value (codes "x") none (some (name (codes "x")))) ∷ (call_now [] (called (plain_type (codes "x")) [])) ∷ [])))
    ∷ [])

abbrev pub parameters_and_body_row : Type 0
parameters_and_body_row = canonical_numbers parameters_and_body ≡ (0 ∷ 1 ∷ 2 ∷ 0 ∷ 0 ∷ 2 ∷ 2 ∷ 2 ∷ [])

-- const x; @compute @workgroup_size(x) fn f(@size(x) x: x) -> @location(x) x { }
abbrev pub function_attributes : UnitOf Text
function_attributes =
    module_of [] []
    ((declare [] const_value (codes "x") none none)
    ∷ (function_of ((plain compute) ∷ (workgroup (name (codes "x")) none none) ∷ []) (codes "f")
    ((parameter_of ((with_operand size (name (codes "x"))) ∷ []) (codes "x") (plain_type (codes "x"))) ∷ []) ((with_operand location (name (codes "x"))) ∷ [])
    (some (plain_type (codes "x"))) (body [] []))
    ∷ [])

abbrev pub function_attributes_row : Type 0
function_attributes_row = canonical_numbers function_attributes ≡ (0 ∷ 0 ∷ 1 ∷ 0 ∷ 2 ∷ 0 ∷ 0 ∷ 0 ∷ [])

-- const x; fn f() { if x { let x = x; } else if x { let x = x; x(); } else { x(); let x = 1; } x(); }
abbrev pub branches : UnitOf Text
branches =
    module_of [] []
    ((declare [] const_value (codes "x") none none)
    ∷ (function_of [] (codes "f") [] [] none
    (body []
    ((choose [] (when (name (codes "x")) (body [] ((declare [] let_value (codes "x") none (some (name (codes "x")))) ∷ [])))
    ((or_when [] (name (codes "x"))
    (body [] ((declare [] let_value (codes "x") none (some (name (codes "x")))) ∷ (call_now [] (called (plain_type (codes "x")) [])) ∷ [])))
    ∷ [])
    (some
    (otherwise []
    (body [] ((call_now [] (called (plain_type (codes "x")) [])) ∷ (declare [] let_value (codes "x") none (some (literal_text (codes "1")))) ∷ [])))))
    ∷ (call_now [] (called (plain_type (codes "x")) []))
    ∷ [])))
    ∷ [])

abbrev pub branches_row : Type 0
branches_row = canonical_numbers branches ≡ (0 ∷ 1 ∷ 0 ∷ 2 ∷ 0 ∷ 0 ∷ 3 ∷ 0 ∷ 3 ∷ 0 ∷ 4 ∷ 0 ∷ [])

-- const x; fn f() { while x { let x = x; } { let x = x; { x(); } }
-- switch x { case x, default { let x = x; } case x { x(); } } x(); }
abbrev pub bodies : UnitOf Text
bodies =
    module_of [] []
    ((declare [] const_value (codes "x") none none)
    ∷ (function_of [] (codes "f") [] [] none
    (body []
    ((while_of [] (name (codes "x")) (body [] ((declare [] let_value (codes "x") none (some (name (codes "x")))) ∷ [])))
    ∷ (block
    (body []
    ((declare [] let_value (codes "x") none (some (name (codes "x")))) ∷ (block (body [] ((call_now [] (called (plain_type (codes "x")) [])) ∷ []))) ∷ [])))
    ∷ (switch_of [] (name (codes "x")) []
    ((clause [] ((case_of (name (codes "x"))) ∷ default ∷ []) (body [] ((declare [] let_value (codes "x") none (some (name (codes "x")))) ∷ [])))
    ∷ (clause [] ((case_of (name (codes "x"))) ∷ []) (body [] ((call_now [] (called (plain_type (codes "x")) [])) ∷ [])))
    ∷ []))
    ∷ (call_now [] (called (plain_type (codes "x")) []))
    ∷ [])))
    ∷ [])

abbrev pub bodies_row : Type 0
bodies_row = canonical_numbers bodies ≡ (0 ∷ 1 ∷ 0 ∷ 2 ∷ 0 ∷ 3 ∷ 0 ∷ 3 ∷ 0 ∷ 0 ∷ 4 ∷ 0 ∷ 0 ∷ 0 ∷ 0 ∷ [])

-- const x; fn f() { for (var x = 0; x; x = x) { x(); } x(); }
abbrev pub update_below : UnitOf Text
update_below =
    module_of [] []
    ((declare [] const_value (codes "x") none none)
    ∷ (function_of [] (codes "f") [] [] none
    (body []
    ((for_of [] (some (statement (declare [] var_of (codes "x") none (some (literal_text (codes "0")))))) (some (name (codes "x")))
    (some (statement (assign [] Equal (name (codes "x")) (name (codes "x"))))) (body [] ((call_now [] (called (plain_type (codes "x")) [])) ∷ [])))
    ∷ (call_now [] (called (plain_type (codes "x")) []))
    ∷ [])))
    ∷ [])

abbrev pub update_below_row : Type 0
update_below_row = canonical_numbers update_below ≡ (0 ∷ 1 ∷ 2 ∷ 2 ∷ 2 ∷ 2 ∷ 2 ∷ 0 ∷ [])

-- fn f() { let x = x; let x = x; { let x = x; x(); } x(); }
abbrev pub declared_again : UnitOf Text
declared_again =
    module_of [] []
    ((function_of [] (codes "f") [] [] none
    (body []
    ((declare [] let_value (codes "x") none (some (name (codes "x"))))
    ∷ (declare [] let_value (codes "x") none (some (name (codes "x"))))
    ∷ (block (body [] ((declare [] let_value (codes "x") none (some (name (codes "x")))) ∷ (call_now [] (called (plain_type (codes "x")) [])) ∷ [])))
    ∷ (call_now [] (called (plain_type (codes "x")) []))
    ∷ [])))
    ∷ [])

abbrev pub declared_again_row : Type 0
declared_again_row = canonical_numbers declared_again ≡ (0 ∷ 1 ∷ 2 ∷ 1 ∷ 1 ∷ 3 ∷ 1 ∷ 3 ∷ 1 ∷ [])

-- fn f() { x(); let x = 1; x(); } const x = 2;
abbrev pub used_before : UnitOf Text
used_before =
    module_of [] []
    ((function_of [] (codes "f") [] [] none
    (body []
    ((call_now [] (called (plain_type (codes "x")) []))
    ∷ (declare [] let_value (codes "x") none (some (literal_text (codes "1")))) ∷ (call_now [] (called (plain_type (codes "x")) []))
    ∷ [])))
    ∷ (declare [] const_value (codes "x") none (some (literal_text (codes "2"))))
    ∷ [])

abbrev pub used_before_row : Type 0
used_before_row = canonical_numbers used_before ≡ (0 ∷ 1 ∷ 2 ∷ 2 ∷ 1 ∷ [])

-- const x; fn f() { @size(x) var x: array<x> = x; x(); }
abbrev pub typed_and_attributed : UnitOf Text
typed_and_attributed =
    module_of [] []
    ((declare [] const_value (codes "x") none none)
    ∷ (function_of [] (codes "f") [] [] none
    (body []
    ((declare ((with_operand size (name (codes "x"))) ∷ []) var_of (codes "x") (some (type_with (codes "array") ((name (codes "x")) ∷ [])))
    (some (name (codes "x"))))
    ∷ (call_now [] (called (plain_type (codes "x")) []))
    ∷ [])))
    ∷ [])

abbrev pub typed_and_attributed_row : Type 0
typed_and_attributed_row = canonical_numbers typed_and_attributed ≡ (0 ∷ 1 ∷ 0 ∷ 2 ∷ 3 ∷ 0 ∷ 0 ∷ 2 ∷ [])

-- import package::a::{b, c as d}; import e; const f = b + c + d + e + a::b + package::a::b + self::b;
abbrev pub imports : UnitOf Text
imports =
    module_of
    ((import_of [] (path_of absolute ((codes "a") ∷ [])) (collection ((entry [] (item (codes "b"))) ∷ (entry [] (renamed (codes "c") (codes "d"))) ∷ [])))
    ∷ (import_of [] none (item (codes "e")))
    ∷ []) []
    ((declare [] const_value (codes "f") none
    (some
    (plus
    (plus
    (plus (plus (plus (plus (name (codes "b")) (name (codes "c"))) (name (codes "d"))) (name (codes "e")))
    (of_type (path_type (from_package (codes "a")) [] (codes "b")))) (of_type (path_type absolute ((codes "a") ∷ []) (codes "b"))))
    (of_type (path_type (relative 0) [] (codes "b"))))))
    ∷ [])

abbrev pub imports_row : Type 0
imports_row = canonical_numbers imports ≡ (0 ∷ 1 ∷ 2 ∷ 3 ∷ 4 ∷ 0 ∷ 1 ∷ 2 ∷ 3 ∷ 5 ∷ 6 ∷ 7 ∷ [])

-- @if(x && y) import package::x; @elif(!y) enable z; fn f(x: x) { @if(x) x(); @elif(y || x) { let y = x; } @else x(); y(); }
abbrev pub word_kinds : UnitOf Text
word_kinds =
    module_of
    ((import_of ((with_operand if_attribute (operate ShortCircuitAnd (name (codes "x")) (name (codes "y")))) ∷ []) (path_of absolute []) (item (codes "x")))
    ∷ []) ((enable_of ((with_operand elif_attribute (apply LogicalNegation (name (codes "y")))) ∷ []) ((codes "z") ∷ [])) ∷ [])
    ((function_of [] (codes "f") ((parameter_of [] (codes "x") (plain_type (codes "x"))) ∷ []) [] none
    (body []
    ((call_now ((with_operand if_attribute (name (codes "x"))) ∷ []) (called (plain_type (codes "x")) []))
    ∷ (block
    (body ((with_operand elif_attribute (operate ShortCircuitOr (name (codes "y")) (name (codes "x")))) ∷ [])
    ((declare [] let_value (codes "y") none (some (name (codes "x")))) ∷ [])))
    ∷ (call_now ((plain else_attribute) ∷ []) (called (plain_type (codes "x")) [])) ∷ (call_now [] (called (plain_type (codes "y")) []))
    ∷ [])))
    ∷ [])

abbrev pub word_kinds_row : Type 0
word_kinds_row = canonical_numbers word_kinds ≡ (0 ∷ 1 ∷ 2 ∷ 1 ∷ 3 ∷ 4 ∷ 2 ∷ 0 ∷ 4 ∷ 1 ∷ 0 ∷ 5 ∷ 4 ∷ 4 ∷ 1 ∷ [])

-- const x; fn f() { loop { let x = x; @size(x) continuing { x(); } } x(); }
abbrev pub continuing_attributes : UnitOf Text
continuing_attributes =
    module_of [] []
    ((declare [] const_value (codes "x") none none)
    ∷ (function_of [] (codes "f") [] [] none
    (body []
    ((loop_of [] (body [] ((declare [] let_value (codes "x") none (some (name (codes "x")))) ∷ []))
    (some (continue_with ((with_operand size (name (codes "x"))) ∷ []) (body [] ((call_now [] (called (plain_type (codes "x")) [])) ∷ [])) none)))
    ∷ (call_now [] (called (plain_type (codes "x")) []))
    ∷ [])))
    ∷ [])

abbrev pub continuing_attributes_row : Type 0
continuing_attributes_row = canonical_numbers continuing_attributes ≡ (0 ∷ 1 ∷ 2 ∷ 0 ∷ 2 ∷ 2 ∷ 0 ∷ [])

-- const x; fn f() { for (;;) { let x = x; x(); } x(); }
abbrev pub for_without_parts : UnitOf Text
for_without_parts =
    module_of [] []
    ((declare [] const_value (codes "x") none none)
    ∷ (function_of [] (codes "f") [] [] none
    (body []
    ((for_of [] none none none
    (body [] ((declare [] let_value (codes "x") none (some (name (codes "x")))) ∷ (call_now [] (called (plain_type (codes "x")) [])) ∷ [])))
    ∷ (call_now [] (called (plain_type (codes "x")) []))
    ∷ [])))
    ∷ [])

abbrev pub for_without_parts_row : Type 0
for_without_parts_row = canonical_numbers for_without_parts ≡ (0 ∷ 1 ∷ 2 ∷ 0 ∷ 2 ∷ 0 ∷ [])

-- fn f(a: b) { let b = a; } fn b(b: b) { let a = b; f(); } const a = f;
abbrev pub nested_functions : UnitOf Text
nested_functions =
    module_of [] []
    ((function_of [] (codes "f") ((parameter_of [] (codes "a") (plain_type (codes "b"))) ∷ []) [] none
    (body [] ((declare [] let_value (codes "b") none (some (name (codes "a")))) ∷ [])))
    ∷ (function_of [] (codes "b") ((parameter_of [] (codes "b") (plain_type (codes "b"))) ∷ []) [] none
    (body [] ((declare [] let_value (codes "a") none (some (name (codes "b")))) ∷ (call_now [] (called (plain_type (codes "f")) [])) ∷ [])))
    ∷ (declare [] const_value (codes "a") none (some (name (codes "f"))))
    ∷ [])

abbrev pub nested_functions_row : Type 0
nested_functions_row = canonical_numbers nested_functions ≡ (0 ∷ 1 ∷ 2 ∷ 3 ∷ 1 ∷ 2 ∷ 4 ∷ 2 ∷ 5 ∷ 4 ∷ 0 ∷ 6 ∷ 0 ∷ [])

-- fn f() { for (; ; let x = x) { x(); } x(); }
abbrev pub declared_update : UnitOf Text
declared_update =
    module_of [] []
    ((function_of [] (codes "f") [] [] none
    (body []
    ((for_of [] none none (some (statement (declare [] let_value (codes "x") none (some (name (codes "x"))))))
    (body [] ((call_now [] (called (plain_type (codes "x")) [])) ∷ [])))
    ∷ (call_now [] (called (plain_type (codes "x")) []))
    ∷ [])))
    ∷ [])

abbrev pub declared_update_row : Type 0
declared_update_row = canonical_numbers declared_update ≡ (0 ∷ 1 ∷ 2 ∷ 2 ∷ 2 ∷ [])
