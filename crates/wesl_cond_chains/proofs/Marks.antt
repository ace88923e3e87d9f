-- The conditions among attributes, in a role.
use Rattle.std.proofs.Common.{◌≡◌, ◌⊎◌, ℕ, Bool, true, false, not, cond, inl, inr, List, [], ◌∷◌, map, refl, sym, ap, ◌∙◌, subst}
use Rattle.std.specs.List.{filter}
use Rattle.wesl_cond_features.specs.declared.chain.Role.{Role}
use Rattle.wesl_cond_features.specs.declared.chain.Role.TheVariants.{Plain, If, Elif, Else}
use Rattle.wesl_cond_chains.specs.Chains.{Condition, none, on, else_on, otherwise, recast_condition}
use Rattle.wesl_cond_chains.specs.Conditions.{condition_at, replaced, recast}
use Rattle.wesl_cond_chains.specs.Nodes.{attribute_tree, attributes_forest, condition_of_attribute, remade, marked, marked_tree, is_any}
use Rattle.wesl_cond_features.specs.Answers.{Answers}
use Rattle.wesl_tree_syntax.specs.Tree.{Label, Forest, Tree, end, tree, before, forest_of}
use Rattle.wesl_tree_syntax.specs.declared.attribute.Attribute.{Attribute}
use Rattle.wesl_tree_syntax.specs.declared.span.Spanned.{Spanned}

-- an attributes list without its conditions
abbrev pub unconditional : Forest → Forest
unconditional end = end
unconditional (tree l attribute others) = cond (is_any (condition_at attribute)) (unconditional others) (tree l attribute (unconditional others))

-- A plain node has no condition left.
plain_at : (known : Answers ℕ) (l : Label) (a : Forest) (c : Condition ℕ) (others left : Forest) → left ≡ others → cond (is_any c) left (tree l a left) ≡ replaced l a c none others
plain_at known l a none others left e = ap (tree l a) e
plain_at known l a (on x) others left e = e
plain_at known l a (else_on x) others left e = e
plain_at known l a otherwise others left e = e

pub recast_plain : (known : Answers ℕ) (al : Forest) → unconditional al ≡ recast known Plain al
recast_plain known end = refl
recast_plain known (tree l a others) = plain_at known l a (condition_at a) (recast known Plain others) (unconditional others) (recast_plain known others)

-- whether a role keeps a condition
abbrev pub Keeps : Role → Type 0
Keeps Plain = ⊥
Keeps If = Unit {0}
Keeps Elif = Unit {0}
Keeps Else = Unit {0}

pub keeps_any : (role : Role) → (role ≡ If) ⊎ ((role ≡ Elif) ⊎ (role ≡ Else)) → Keeps role
keeps_any role (inl e) = subst Keeps (sym e) (tt {0})
keeps_any role (inr (inl e)) = subst Keeps (sym e) (tt {0})
keeps_any role (inr (inr e)) = subst Keeps (sym e) (tt {0})

kept_at : (known : Answers ℕ) (role : Role) → Keeps role → (l : Label) (a : Forest) (c : Condition ℕ) (others : Forest) → tree l (remade a c (recast_condition known role c)) others ≡ replaced l a c (recast_condition known role c) others
kept_at known Plain h l a c others = absurd h
kept_at known If h l a none others = refl
kept_at known If h l a (on x) others = refl
kept_at known If h l a (else_on x) others = refl
kept_at known If h l a otherwise others = refl
kept_at known Elif h l a none others = refl
kept_at known Elif h l a (on x) others = refl
kept_at known Elif h l a (else_on x) others = refl
kept_at known Elif h l a otherwise others = refl
kept_at known Else h l a none others = refl
kept_at known Else h l a (on x) others = refl
kept_at known Else h l a (else_on x) others = refl
kept_at known Else h l a otherwise others = refl

-- each attribute marked is the list in the role
pub recast_each : (known : Answers ℕ) (role : Role) → Keeps role → (ts : List Tree) → forest_of (map (marked_tree known role) ts) ≡ recast known role (forest_of ts)
recast_each known role h [] = refl
recast_each known role h (t ∷ ts) =
    ap (tree t.label (marked known role t.children)) (recast_each known role h ts)
    ∙ kept_at known role h t.label t.children (condition_at t.children) (recast known role (forest_of ts))

pub recast_list : (known : Answers ℕ) (role : Role) → Keeps role → (xs ys : List (Spanned Attribute)) → map attribute_tree ys ≡ map (marked_tree known role) (map attribute_tree xs) → attributes_forest ys ≡ recast known role (attributes_forest xs)
recast_list known role h xs ys e = ap forest_of e ∙ recast_each known role h (map attribute_tree xs)

-- a list without its conditions
map_cond : (b : Bool) (x : Spanned Attribute) (xs : List (Spanned Attribute)) (left : Forest) → attributes_forest xs ≡ left → attributes_forest (cond (not b) (x ∷ xs) xs) ≡ cond b left (before (attribute_tree x) left)
map_cond true x xs left e = e
map_cond false x xs left e = ap (before (attribute_tree x)) e

abbrev pub conditional : Spanned Attribute → Bool
conditional x = is_any (condition_of_attribute x.node)

pub without_conditions : (xs : List (Spanned Attribute)) → attributes_forest (filter (λ x. not (conditional x)) xs) ≡ unconditional (attributes_forest xs)
without_conditions [] = refl
without_conditions (x ∷ xs) = map_cond (conditional x) x (filter (λ y. not (conditional y)) xs) (unconditional (attributes_forest xs)) (without_conditions xs)
