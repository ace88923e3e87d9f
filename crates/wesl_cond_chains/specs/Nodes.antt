-- The nodes of the code as nodes of a judged list.
use Rattle.std.specs.Prelude.{ℕ, Bool, true, false, List, [], ◌∷◌, ◌++◌, map, Option, Some, None}
use Rattle.wesl_cond_features.specs.declared.chain.Role.{Role}
use Rattle.wesl_cond_chains.specs.declared.conditions.Condition.{Condition as Lent}
use Rattle.wesl_cond_chains.specs.declared.conditions.Condition.TheVariants as lent
use Rattle.wesl_cond_chains.specs.Chains.{Condition, none, on, else_on, otherwise, recast_condition}
use Rattle.wesl_cond_chains.specs.Conditions.{first_spot, condition_at, attribute_of}
use Rattle.wesl_cond_chains.specs.Lists.{Element, elements}
use Rattle.wesl_cond_features.specs.Answers.{Answers}
use Rattle.wesl_cond_features.specs.Features.{Replies, answer_to, known, by_number}
use Rattle.wesl_cond_features.specs.declared.features.Features.{Features}
use Rattle.wesl_tree_names.specs.Path.{Text}
use Rattle.wesl_tree_syntax.specs.Tree.{Tree, Forest, end, before, forest_of, attribute_node}
use Rattle.wesl_tree_syntax.specs.View.{attribute_view, expression_tree, placed}
use Rattle.wesl_tree_syntax.specs.declared.attribute.Attribute.{Attribute}
use Rattle.wesl_tree_syntax.specs.declared.span.Spanned.{Spanned}

-- what a set of features answers for the flags of a table
abbrev pub replies : List Text → Features → Replies ℕ
replies names features = by_number names (answer_to features)

-- what these answers say of the flags: true, false or undecided
abbrev pub answers : List Text → Features → Answers ℕ
answers names features = known (replies names features)

-- an attribute of the code as a tree, with its span
abbrev pub attribute_tree : Spanned Attribute → Tree
attribute_tree = placed attribute_view attribute_node

-- the attributes of the code as trees side by side
abbrev pub attributes_forest : List (Spanned Attribute) → Forest
attributes_forest xs = forest_of (map attribute_tree xs)

-- the condition that an attribute is
abbrev pub condition_of_attribute : Attribute → Condition ℕ
condition_of_attribute a = condition_at (before (attribute_view a) end)

-- a condition as it is lent, if there is one
abbrev pub condition_view : Option Lent → Condition ℕ
condition_view None = none
condition_view (Some (lent.If e)) = on (first_spot (before (expression_tree e.now) end))
condition_view (Some (lent.Elif e)) = else_on (first_spot (before (expression_tree e.now) end))
condition_view (Some lent.Else) = otherwise

-- an attribute as a new condition, where it was one and one is left
abbrev pub remade : Forest → Condition ℕ → Condition ℕ → Forest
remade a none d = a
remade a (on x) none = a
remade a (on x) (on y) = attribute_of (on y)
remade a (on x) (else_on y) = attribute_of (else_on y)
remade a (on x) otherwise = attribute_of otherwise
remade a (else_on x) none = a
remade a (else_on x) (on y) = attribute_of (on y)
remade a (else_on x) (else_on y) = attribute_of (else_on y)
remade a (else_on x) otherwise = attribute_of otherwise
remade a otherwise none = a
remade a otherwise (on y) = attribute_of (on y)
remade a otherwise (else_on y) = attribute_of (else_on y)
remade a otherwise otherwise = attribute_of otherwise

-- an attribute in a role, with what is left of its formula; where the role leaves no condition, as it was
abbrev pub marked : Answers ℕ → Role → Forest → Forest
marked known role a = remade a (condition_at a) (recast_condition known role (condition_at a))

-- what takes the place of an attribute, or else the attribute
abbrev pub instead : Option Attribute → Forest → Forest
instead None a = a
instead (Some b) a = before (attribute_view b) end

-- the node of an attribute, with the attribute marked
abbrev pub marked_tree : Answers ℕ → Role → Tree → Tree
marked_tree known role t = record { label = t.label; children = marked known role t.children }

-- whether there is a condition
abbrev pub is_any : Condition ℕ → Bool
is_any none = false
is_any (on x) = true
is_any (else_on x) = true
is_any otherwise = true

-- whether there are two conditions, one of which may be seen already
abbrev pub several_after : Bool → List (Condition ℕ) → Bool
several_after seen [] = false
several_after false (c ∷ cs) = several_after true cs
several_after true (c ∷ cs) = true

-- whether these are two conditions or more
abbrev pub is_several : List (Condition ℕ) → Bool
is_several cs = several_after false cs

-- a node of a judged list, or what closes one
abbrev pub as_element : Bool → Tree → Element ℕ
as_element closes t = record { closes = closes; label = t.label; children = t.children }

-- the nodes of a list of the code
abbrev pub nodes_forest : {A : Type 0} → (A → Tree) → List A → Forest
nodes_forest view xs = forest_of (map view xs)

-- nodes of the code as nodes of a judged list, or as what closes one
abbrev pub as_elements : {A : Type 0} → Bool → (A → Tree) → List A → List (Element ℕ)
as_elements closes view xs = map (λ x. as_element closes (view x)) xs

-- what closes a list, if there is anything
abbrev pub optional_elements : {A : Type 0} → Bool → (A → Tree) → Option A → List (Element ℕ)
optional_elements closes view None = []
optional_elements closes view (Some x) = as_element closes (view x) ∷ []

-- a node of the code as a tree, if it is there
abbrev pub optional_forest : {A : Type 0} → (A → Tree) → Option A → Forest
optional_forest view None = end
optional_forest view (Some x) = before (view x) end

-- a list of the code as a judged list
abbrev pub nodes_in : {A : Type 0} → (A → Tree) → List A → List (Element ℕ)
nodes_in view xs = elements false (nodes_forest view xs)

-- a list of the code, and then what closes it, if there is anything, as one judged list
abbrev pub closed_nodes : {A B : Type 0} → (A → Tree) → List A → (B → Tree) → Option B → List (Element ℕ)
closed_nodes view xs last_view last = nodes_in view xs ++ elements true (optional_forest last_view last)
