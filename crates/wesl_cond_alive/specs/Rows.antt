-- Rows.
use Rattle.std.specs.Prelude.{◌≡◌, true, false, [], ◌∷◌, length}
use Rattle.wesl_tree_names.specs.Path.{Text}
use Rattle.wesl_tree_syntax.specs.Tree.{ForestOf, end, tree, kind, at, ident, absent, present, binder, word, branch, attributes, if_attribute, elif_attribute, else_attribute, expression_node, statement_node, type_or_identifier, type_expression, declaration as declaration_kind, declaration_node, attribute_node, imports, directive_list, declarations, function, parameters, compound, statements, loop, continuing, discard, break_if}
use Rattle.wesl_tree_syntax.specs.Unit.{UnitOf}
use Rattle.wesl_cond_choices.specs.declared.place.Place.TheVariants.{Always, Import, Declaration, Name}
use Rattle.wesl_cond_alive.specs.Choices.{flags}
use Rattle.wesl_cond_alive.specs.Alive.{alive_of, are_together}
use Rattle.wesl_cond_alive.specs.Positions.{are_alive_together}

-- what the rows are made of: the flags X and Y, the name `a`, a flag as a formula, and conditional attributes
abbrev pub X : Text
X = 88 ∷ []

abbrev pub Y : Text
Y = 89 ∷ []

abbrev pub a : Text
a = 97 ∷ []

abbrev pub flag : Text → ForestOf Text
flag x = tree (at expression_node 0 0) (tree (kind type_or_identifier) (tree (kind type_expression) (tree (kind absent) end (tree (ident word x) end (tree (kind absent) end end))) end) end) end

abbrev pub attribute : ForestOf Text → ForestOf Text → ForestOf Text
attribute x others = tree (at attribute_node 0 0) x others

abbrev pub on_flag : Text → ForestOf Text
on_flag x = attribute (tree (kind if_attribute) (flag x) end) end

abbrev pub on_elif : Text → ForestOf Text
on_elif x = attribute (tree (kind elif_attribute) (flag x) end) end

abbrev pub on_else : ForestOf Text
on_else = attribute (tree (kind else_attribute) end end) end

-- a constant with attributes
abbrev pub constant : ForestOf Text → ForestOf Text → ForestOf Text
constant own others = tree (at declaration_node 0 0) (tree (kind declaration_kind) (tree (kind attributes) own (tree (ident binder a) end end)) end) others

-- a unit that has these declarations alone
abbrev pub unit : ForestOf Text → UnitOf Text
unit ds = record { imports = branch imports []; directives = branch directive_list []; declarations = record { label = kind declarations; children = ds } }

-- @if(X) const a; @else const a;
abbrev pub two : UnitOf Text
two = unit (constant (on_flag X) (constant on_else end))

-- @if(X) const a; @else const a; @else const a;
abbrev pub broken : UnitOf Text
broken = unit (constant (on_flag X) (constant on_else (constant on_else end)))

-- the flags and the places of these units, and which places some choice keeps together
pub record PlaceRows : Type 0 where
  pub one_flag : flags two ≡ X ∷ []
  pub alive : alive_of two ≡ (Declaration 1 ∷ Name 2 ∷ []) ∷ (Declaration 0 ∷ Name 1 ∷ []) ∷ []
  pub use_of_first : are_together two (Declaration 0) (Name 1) ≡ true
  pub apart : are_together two (Declaration 0) (Declaration 1) ≡ false
  pub from_outside : are_together two Always (Declaration 1) ≡ true
  pub not_there : are_together two Always (Import 0) ≡ false
  pub broken_stays : are_together broken (Declaration 0) (Declaration 1) ≡ true

-- statements and what closes them
abbrev pub statement : ForestOf Text → ForestOf Text → ForestOf Text
statement own others = tree (at statement_node 0 0) (tree (kind discard) (tree (kind attributes) own end) end) others

abbrev pub body : ForestOf Text → ForestOf Text → ForestOf Text
body ss others = tree (kind compound) (tree (kind attributes) end (tree (kind statements) ss end)) others

-- @else continuing { discard; @if(Y) break if; }
abbrev pub ending : ForestOf Text
ending = tree (kind continuing) (tree (kind attributes) on_else (body (statement end end) (tree (kind present) (tree (kind break_if) (tree (kind attributes) (on_flag Y) end) end) end))) end

-- fn g() { loop { @if(X) discard; @elif(Y) discard; @else continuing { .. } } }
abbrev pub looping : ForestOf Text
looping =
    tree (at declaration_node 0 0) (tree (kind function) (tree (kind attributes) end (tree (ident binder a) end (tree (kind parameters) end (tree (kind attributes) end (tree (kind absent) end
    (body (tree (at statement_node 0 0) (tree (kind loop) (tree (kind attributes) end
    (body (statement (on_flag X) (statement (on_elif Y) end)) (tree (kind present) ending end))) end) end) end)))))) end) end

-- @if(X) const a; @else const a; fn g() ..
abbrev pub looped : UnitOf Text
looped = unit (constant (on_flag X) (constant on_else looping))

-- which nodes of the last unit some choice keeps together
pub record PositionRows : Type 0 where
  pub two_flags : length (flags looped) ≡ 2
  pub apart : are_alive_together looped (2 ∷ 0 ∷ []) (2 ∷ 1 ∷ []) ≡ false
  pub under : are_alive_together looped (2 ∷ 0 ∷ []) (2 ∷ 2 ∷ 5 ∷ 1 ∷ 0 ∷ 1 ∷ 1 ∷ 0 ∷ []) ≡ true
  pub in_turn : are_alive_together looped (2 ∷ 0 ∷ []) (2 ∷ 2 ∷ 5 ∷ 1 ∷ 0 ∷ 1 ∷ 1 ∷ 1 ∷ []) ≡ false
  pub ends : are_alive_together looped (2 ∷ 1 ∷ []) (2 ∷ 2 ∷ 5 ∷ 1 ∷ 0 ∷ 2 ∷ []) ≡ true
  pub ends_apart : are_alive_together looped (2 ∷ 0 ∷ []) (2 ∷ 2 ∷ 5 ∷ 1 ∷ 0 ∷ 2 ∷ []) ≡ false
  pub breaks_apart : are_alive_together looped (2 ∷ 1 ∷ []) (2 ∷ 2 ∷ 5 ∷ 1 ∷ 0 ∷ 2 ∷ 2 ∷ []) ≡ false
  pub gone : are_alive_together looped (2 ∷ 5 ∷ []) [] ≡ false
  pub whole : are_alive_together looped [] [] ≡ true
