-- Whether two kinds, or two roles, are one: each has a number of its own.
use Rattle.std.specs.Prelude.{ℕ, Bool, ◌==◌}
use Rattle.wesl_tree_syntax.specs.Tree.{Kind, Role, binder, reference, word, expression_node, statement_node, attribute_node, member_node, import_node, directive_node, declaration_node, literal, parenthesized, named_component, indexing, call_expression, call, type_or_identifier, type_expression, template_argument, list, present, absent, attributes, statements, clauses, members, parameters, align, binding, blend_src, builtin, const_attribute, diagnostic, group, id, interpolate, invariant_attribute, location, must_use, size, workgroup_size, vertex, fragment, compute, publish, if_attribute, elif_attribute, else_attribute, custom, void, compound_statement, compound, increment, decrement, if_statement, if_clause, else_if_clause, else_clause, switch, switch_clause, default_case, expression_case, loop, continuing, break_if, for_loop, while_loop, break, continue, return, discard, call_statement, const_assert, import_statement, import_item, import_collection, import_entry, diagnostic_directive, enable_directive, requires_directive, type_alias, struct, member, function, parameter, declaration, const_kind, override_kind, let_kind, var_kind, imports, directive_list, declarations, unit}

-- each kind has a number of its own
abbrev pub kind_number : Kind → ℕ
kind_number expression_node = 0
kind_number statement_node = 1
kind_number attribute_node = 2
kind_number member_node = 3
kind_number import_node = 4
kind_number directive_node = 5
kind_number declaration_node = 6
kind_number literal = 7
kind_number parenthesized = 8
kind_number named_component = 9
kind_number indexing = 10
kind_number call_expression = 11
kind_number call = 12
kind_number type_or_identifier = 13
kind_number type_expression = 14
kind_number template_argument = 15
kind_number list = 16
kind_number present = 17
kind_number absent = 18
kind_number attributes = 19
kind_number statements = 20
kind_number clauses = 21
kind_number members = 22
kind_number parameters = 23
kind_number align = 24
kind_number binding = 25
kind_number blend_src = 26
kind_number builtin = 27
kind_number const_attribute = 28
kind_number diagnostic = 29
kind_number group = 30
kind_number id = 31
kind_number interpolate = 32
kind_number invariant_attribute = 33
kind_number location = 34
kind_number must_use = 35
kind_number size = 36
kind_number workgroup_size = 37
kind_number vertex = 38
kind_number fragment = 39
kind_number compute = 40
kind_number publish = 41
kind_number if_attribute = 42
kind_number elif_attribute = 43
kind_number else_attribute = 44
kind_number custom = 45
kind_number void = 46
kind_number compound_statement = 47
kind_number compound = 48
kind_number increment = 49
kind_number decrement = 50
kind_number if_statement = 51
kind_number if_clause = 52
kind_number else_if_clause = 53
kind_number else_clause = 54
kind_number switch = 55
kind_number switch_clause = 56
kind_number default_case = 57
kind_number expression_case = 58
kind_number loop = 59
kind_number continuing = 60
kind_number break_if = 61
kind_number for_loop = 62
kind_number while_loop = 63
kind_number break = 64
kind_number continue = 65
kind_number return = 66
kind_number discard = 67
kind_number call_statement = 68
kind_number const_assert = 69
kind_number import_statement = 70
kind_number import_item = 71
kind_number import_collection = 72
kind_number import_entry = 73
kind_number diagnostic_directive = 74
kind_number enable_directive = 75
kind_number requires_directive = 76
kind_number type_alias = 77
kind_number struct = 78
kind_number member = 79
kind_number function = 80
kind_number parameter = 81
kind_number declaration = 82
kind_number const_kind = 83
kind_number override_kind = 84
kind_number let_kind = 85
kind_number var_kind = 86
kind_number imports = 87
kind_number directive_list = 88
kind_number declarations = 89
kind_number unit = 90

-- whether two kinds are one
abbrev pub same_kind : Kind → Kind → Bool
same_kind a b = kind_number a == kind_number b

-- each role has a number of its own
abbrev pub role_number : Role → ℕ
role_number binder = 0
role_number reference = 1
role_number word = 2

-- whether two roles are one
abbrev pub same_role : Role → Role → Bool
same_role r s = role_number r == role_number s
