-- Worked rows: whether the names of linked units and of units made by hand read as their numbers say.
use Rattle.std.specs.Prelude.{◌≡◌, true, false, [], ◌∷◌, codes}
use Rattle.wesl_tree_syntax.specs.Unit.{UnitView}
use Rattle.wesl_link_laws.specs.Builders.{
  none,
  some,
  plain_type,
  of_type,
  literal_text,
  plus,
  called,
  declare,
  parameter_of,
  statement,
  body,
  function_of,
  block,
  loop_of,
  continue_with,
  for_of,
  call_now,
  var_of,
  module_of,
  const_value,
  let_value,
}
use Rattle.wesl_scope_numbers.specs.Test.{is_faithful}
use Rattle.wesl_link_laws.specs.Units.{unit_of, call_of, is_retargeted}

-- const x = 1; fn f(x: i32) { let y = x; }
abbrev pub shadowed : UnitView
shadowed =
    unit_of ((codes "x") ∷ (codes "f") ∷ (codes "x") ∷ (codes "i32") ∷ (codes "y") ∷ [])
    (module_of [] []
    ((declare [] const_value 0 none (some (literal_text (codes "1"))))
    ∷ (function_of [] 1 ((parameter_of [] 2 (plain_type 3)) ∷ []) [] none (body [] ((declare [] let_value 4 none (some (of_type (plain_type 2)))) ∷ [])))
    ∷ []))

-- each definition that ends in `_row` says of the unit above it whether its names, read by plain scoping, mean what its
-- numbers say:
abbrev pub shadowed_row : Type 0
shadowed_row = is_faithful shadowed ≡ true

-- fn main(package_a_f: i32) { package_a_f(); } fn package_a_f() {} where the call means the function
abbrev pub parameter_clash : UnitView
parameter_clash =
    unit_of ((codes "main") ∷ (codes "package_a_f") ∷ (codes "i32") ∷ (codes "package_a_f") ∷ [])
    (module_of [] []
    ((function_of [] 0 ((parameter_of [] 1 (plain_type 2)) ∷ []) [] none (body [] ((call_now [] (called (plain_type 3) [])) ∷ [])))
    ∷ (function_of [] 3 [] [] none (body [] []))
    ∷ []))

abbrev pub parameter_clash_row : Type 0
parameter_clash_row = is_faithful parameter_clash ≡ false

-- fn main(q: i32) { package_a_f(); } fn package_a_f() {}
abbrev pub parameter_apart : UnitView
parameter_apart =
    unit_of ((codes "main") ∷ (codes "q") ∷ (codes "i32") ∷ (codes "package_a_f") ∷ [])
    (module_of [] []
    ((function_of [] 0 ((parameter_of [] 1 (plain_type 2)) ∷ []) [] none (body [] ((call_now [] (called (plain_type 3) [])) ∷ [])))
    ∷ (function_of [] 3 [] [] none (body [] []))
    ∷ []))

abbrev pub parameter_apart_row : Type 0
parameter_apart_row = is_faithful parameter_apart ≡ true

-- const helper = 1; const main = helper + package_a_k; const package_a_k = helper; where the last `helper` is free
abbrev pub free_clash : UnitView
free_clash =
    unit_of ((codes "helper") ∷ (codes "main") ∷ (codes "package_a_k") ∷ (codes "helper") ∷ [])
    (module_of [] []
    ((declare [] const_value 0 none (some (literal_text (codes "1"))))
    ∷ (declare [] const_value 1 none (some (plus (of_type (plain_type 0)) (of_type (plain_type 2)))))
    ∷ (declare [] const_value 2 none (some (of_type (plain_type 3))))
    ∷ []))

abbrev pub free_clash_row : Type 0
free_clash_row = is_faithful free_clash ≡ false

-- the same, where the names of the root are mangled: no declaration is spelled as the free `helper`
abbrev pub free_apart : UnitView
free_apart =
    unit_of ((codes "package_main_helper") ∷ (codes "package_main_main") ∷ (codes "package_a_k") ∷ (codes "helper") ∷ [])
    (module_of [] []
    ((declare [] const_value 0 none (some (literal_text (codes "1"))))
    ∷ (declare [] const_value 1 none (some (plus (of_type (plain_type 0)) (of_type (plain_type 2)))))
    ∷ (declare [] const_value 2 none (some (of_type (plain_type 3))))
    ∷ []))

abbrev pub free_apart_row : Type 0
free_apart_row = is_faithful free_apart ≡ true

-- const k = k; const k = 1; where the first constant refers to the second, of another module, and nothing is mangled
abbrev pub unmangled : UnitView
unmangled =
    unit_of ((codes "k") ∷ (codes "k") ∷ [])
    (module_of [] [] ((declare [] const_value 0 none (some (of_type (plain_type 1)))) ∷ (declare [] const_value 1 none (some (literal_text (codes "1")))) ∷ []))

abbrev pub unmangled_row : Type 0
unmangled_row = is_faithful unmangled ≡ false

-- const package_m_k = package_a_f + package_a_f; const package_a_f = 1; where the first package_a_f is a free name
abbrev pub free_mangled : UnitView
free_mangled =
    unit_of ((codes "package_m_k") ∷ (codes "package_a_f") ∷ (codes "package_a_f") ∷ [])
    (module_of [] []
    ((declare [] const_value 0 none (some (plus (of_type (plain_type 1)) (of_type (plain_type 2)))))
    ∷ (declare [] const_value 2 none (some (literal_text (codes "1"))))
    ∷ []))

abbrev pub free_mangled_row : Type 0
free_mangled_row = is_faithful free_mangled ≡ false

-- In the next five units `main` has the body shown, and the name of the function `f` of package::a prints as package_a_f.
-- let package_a_f = package::a::f();
abbrev pub used_in_value_of_local : UnitView
used_in_value_of_local =
    unit_of ((codes "main") ∷ (codes "package_a_f") ∷ (codes "package_a_f") ∷ [])
    (module_of [] []
    ((function_of [] 0 [] [] none (body [] ((declare [] let_value 1 none (some (call_of (plain_type 2) []))) ∷ [])))
    ∷ (function_of [] 2 [] [] none (body [] []))
    ∷ []))

abbrev pub used_in_value_of_local_row : Type 0
used_in_value_of_local_row = is_faithful used_in_value_of_local ≡ true

-- package::a::f(); let package_a_f = 1;
abbrev pub used_before_local : UnitView
used_before_local =
    unit_of ((codes "main") ∷ (codes "package_a_f") ∷ (codes "package_a_f") ∷ [])
    (module_of [] []
    ((function_of [] 0 [] [] none (body [] ((call_now [] (called (plain_type 1) [])) ∷ (declare [] let_value 2 none (some (literal_text (codes "1")))) ∷ [])))
    ∷ (function_of [] 1 [] [] none (body [] []))
    ∷ []))

abbrev pub used_before_local_row : Type 0
used_before_local_row = is_faithful used_before_local ≡ true

-- { let package_a_f = 1; } package::a::f();
abbrev pub used_after_block_with_local : UnitView
used_after_block_with_local =
    unit_of ((codes "main") ∷ (codes "package_a_f") ∷ (codes "package_a_f") ∷ [])
    (module_of [] []
    ((function_of [] 0 [] [] none
    (body [] ((block (body [] ((declare [] let_value 1 none (some (literal_text (codes "1")))) ∷ []))) ∷ (call_now [] (called (plain_type 2) [])) ∷ [])))
    ∷ (function_of [] 2 [] [] none (body [] []))
    ∷ []))

abbrev pub used_after_block_with_local_row : Type 0
used_after_block_with_local_row = is_faithful used_after_block_with_local ≡ true

-- loop { let package_a_f = 1; continuing { package::a::f(); } }
abbrev pub used_in_continuing : UnitView
used_in_continuing =
    unit_of ((codes "main") ∷ (codes "package_a_f") ∷ (codes "package_a_f") ∷ [])
    (module_of [] []
    ((function_of [] 0 [] [] none
    (body []
    ((loop_of [] (body [] ((declare [] let_value 1 none (some (literal_text (codes "1")))) ∷ []))
    (some (continue_with [] (body [] ((call_now [] (called (plain_type 2) [])) ∷ [])) none)))
    ∷ [])))
    ∷ (function_of [] 2 [] [] none (body [] []))
    ∷ []))

abbrev pub used_in_continuing_row : Type 0
used_in_continuing_row = is_faithful used_in_continuing ≡ false

-- for (var package_a_f = 0; ; ) { package::a::f(); }
abbrev pub used_in_for : UnitView
used_in_for =
    unit_of ((codes "main") ∷ (codes "package_a_f") ∷ (codes "package_a_f") ∷ [])
    (module_of [] []
    ((function_of [] 0 [] [] none
    (body []
    ((for_of [] (some (statement (declare [] var_of 1 none (some (literal_text (codes "0")))))) none none
    (body [] ((call_now [] (called (plain_type 2) [])) ∷ [])))
    ∷ [])))
    ∷ (function_of [] 2 [] [] none (body [] []))
    ∷ []))

abbrev pub used_in_for_row : Type 0
used_in_for_row = is_faithful used_in_for ≡ false

-- fn f() { { let x = 1; } let y = x; } where both x have one number
abbrev pub free_with_binders_number : UnitView
free_with_binders_number =
    unit_of ((codes "f") ∷ (codes "x") ∷ (codes "y") ∷ [])
    (module_of [] []
    ((function_of [] 0 [] [] none
    (body []
    ((block (body [] ((declare [] let_value 1 none (some (literal_text (codes "1")))) ∷ [])))
    ∷ (declare [] let_value 2 none (some (of_type (plain_type 1))))
    ∷ [])))
    ∷ []))

abbrev pub free_with_binders_number_row : Type 0
free_with_binders_number_row = is_faithful free_with_binders_number ≡ false

-- fn f() { let x = 1; let y = x; let x = 2; } where the last x has a number of its own
abbrev pub two_locals_one_after : UnitView
two_locals_one_after =
    unit_of ((codes "f") ∷ (codes "x") ∷ (codes "y") ∷ (codes "x") ∷ [])
    (module_of [] []
    ((function_of [] 0 [] [] none
    (body []
    ((declare [] let_value 1 none (some (literal_text (codes "1"))))
    ∷ (declare [] let_value 2 none (some (of_type (plain_type 1)))) ∷ (declare [] let_value 3 none (some (literal_text (codes "2"))))
    ∷ [])))
    ∷ []))

abbrev pub two_locals_one_after_row : Type 0
two_locals_one_after_row = is_faithful two_locals_one_after ≡ true

-- fn f() { let x = 1; let x = 2; let y = x; } where the first x has a number of its own
abbrev pub two_locals_both_before : UnitView
two_locals_both_before =
    unit_of ((codes "f") ∷ (codes "x") ∷ (codes "x") ∷ (codes "y") ∷ [])
    (module_of [] []
    ((function_of [] 0 [] [] none
    (body []
    ((declare [] let_value 1 none (some (literal_text (codes "1"))))
    ∷ (declare [] let_value 2 none (some (literal_text (codes "2")))) ∷ (declare [] let_value 3 none (some (of_type (plain_type 2))))
    ∷ [])))
    ∷ []))

abbrev pub two_locals_both_before_row : Type 0
two_locals_both_before_row = is_faithful two_locals_both_before ≡ false

-- const x = 1; const x = 2; where the two constants have two numbers
abbrev pub two_module_names : UnitView
two_module_names =
    unit_of ((codes "x") ∷ (codes "x") ∷ [])
    (module_of [] []
    ((declare [] const_value 0 none (some (literal_text (codes "1")))) ∷ (declare [] const_value 1 none (some (literal_text (codes "2")))) ∷ []))

abbrev pub two_module_names_row : Type 0
two_module_names_row = is_faithful two_module_names ≡ false

-- fn f() { let x = 1; let x = 2; x(); } where the two locals have two numbers, and the call that of the first
abbrev pub first_of_two_locals : UnitView
first_of_two_locals =
    unit_of ((codes "f") ∷ (codes "x") ∷ (codes "x") ∷ [])
    (module_of [] []
    ((function_of [] 0 [] [] none
    (body []
    ((declare [] let_value 1 none (some (literal_text (codes "1"))))
    ∷ (declare [] let_value 2 none (some (literal_text (codes "2")))) ∷ (call_now [] (called (plain_type 1) []))
    ∷ [])))
    ∷ []))

abbrev pub first_of_two_locals_row : Type 0
first_of_two_locals_row = is_faithful first_of_two_locals ≡ false

-- const x = k; const k; where both k have one number: the use comes before the declaration
abbrev pub global_after_use : UnitView
global_after_use =
    unit_of ((codes "x") ∷ (codes "k") ∷ [])
    (module_of [] [] ((declare [] const_value 0 none (some (of_type (plain_type 1)))) ∷ (declare [] const_value 1 none none) ∷ []))

abbrev pub global_after_use_row : Type 0
global_after_use_row = is_faithful global_after_use ≡ true

-- fn f() { let y = x; let x = 1; } where both x have one number
abbrev pub free_with_a_later_local_number : UnitView
free_with_a_later_local_number =
    unit_of ((codes "f") ∷ (codes "y") ∷ (codes "x") ∷ [])
    (module_of [] []
    ((function_of [] 0 [] [] none
    (body [] ((declare [] let_value 1 none (some (of_type (plain_type 2)))) ∷ (declare [] let_value 2 none (some (literal_text (codes "1")))) ∷ [])))
    ∷ []))

abbrev pub free_with_a_later_local_number_row : Type 0
free_with_a_later_local_number_row = is_faithful free_with_a_later_local_number ≡ false

-- fn f(x: i32, x: i32) { x(); } where the two parameters have two numbers, and the call that of the first
abbrev pub two_parameters : UnitView
two_parameters =
    unit_of ((codes "f") ∷ (codes "x") ∷ (codes "i32") ∷ (codes "x") ∷ [])
    (module_of [] []
    ((function_of [] 0 ((parameter_of [] 1 (plain_type 2)) ∷ (parameter_of [] 3 (plain_type 2)) ∷ []) [] none
    (body [] ((call_now [] (called (plain_type 1) [])) ∷ [])))
    ∷ []))

abbrev pub two_parameters_row : Type 0
two_parameters_row = is_faithful two_parameters ≡ false

-- `retarget_idents` leaves each of these units as it is exactly where its names do not clash. The unit `two_locals_one_after`
-- is not among them: there they do not clash, but two numbers stand for one name of one block.
abbrev pub shadowed_retargeted : Type 0
shadowed_retargeted = is_retargeted shadowed ≡ true

abbrev pub parameter_clash_retargeted : Type 0
parameter_clash_retargeted = is_retargeted parameter_clash ≡ false

abbrev pub parameter_apart_retargeted : Type 0
parameter_apart_retargeted = is_retargeted parameter_apart ≡ true

abbrev pub free_clash_retargeted : Type 0
free_clash_retargeted = is_retargeted free_clash ≡ false

abbrev pub free_apart_retargeted : Type 0
free_apart_retargeted = is_retargeted free_apart ≡ true

abbrev pub unmangled_retargeted : Type 0
unmangled_retargeted = is_retargeted unmangled ≡ false

abbrev pub free_mangled_retargeted : Type 0
free_mangled_retargeted = is_retargeted free_mangled ≡ false

abbrev pub used_in_value_of_local_retargeted : Type 0
used_in_value_of_local_retargeted = is_retargeted used_in_value_of_local ≡ true

abbrev pub used_before_local_retargeted : Type 0
used_before_local_retargeted = is_retargeted used_before_local ≡ true

abbrev pub used_after_block_with_local_retargeted : Type 0
used_after_block_with_local_retargeted = is_retargeted used_after_block_with_local ≡ true

abbrev pub used_in_continuing_retargeted : Type 0
used_in_continuing_retargeted = is_retargeted used_in_continuing ≡ false

abbrev pub used_in_for_retargeted : Type 0
used_in_for_retargeted = is_retargeted used_in_for ≡ false

abbrev pub free_with_binders_number_retargeted : Type 0
free_with_binders_number_retargeted = is_retargeted free_with_binders_number ≡ false

abbrev pub two_locals_both_before_retargeted : Type 0
two_locals_both_before_retargeted = is_retargeted two_locals_both_before ≡ false

abbrev pub two_module_names_retargeted : Type 0
two_module_names_retargeted = is_retargeted two_module_names ≡ false

abbrev pub first_of_two_locals_retargeted : Type 0
first_of_two_locals_retargeted = is_retargeted first_of_two_locals ≡ false

abbrev pub global_after_use_retargeted : Type 0
global_after_use_retargeted = is_retargeted global_after_use ≡ true

abbrev pub free_with_a_later_local_number_retargeted : Type 0
free_with_a_later_local_number_retargeted = is_retargeted free_with_a_later_local_number ≡ false

abbrev pub two_parameters_retargeted : Type 0
two_parameters_retargeted = is_retargeted two_parameters ≡ false
