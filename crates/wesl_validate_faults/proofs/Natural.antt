-- Names of a module that has other numbers.
use Rattle.std.proofs.Common.{◌≡◌, ℕ, ◌||◌, ◌++◌, Bool, true, false, List, [], ◌∷◌, map, refl, ap, ◌∙◌, sym}
use Rattle.std.specs.Prelude.{if◌then◌else◌}
use Rattle.std.proofs.lemmas.List.{map-append}
use Rattle.wesl_scope_strip.specs.Forests.{begins, first_children, one_begins, own_identifiers}
use Rattle.wesl_tree_syntax.specs.Tree.{Label, Forest, end, tree, kind, ident, binder, if_attribute, elif_attribute, else_attribute, respell_forest, respell_label}
use Rattle.wesl_validate_rules.specs.Names.{binders_in, content, declared, declared_in, imported, imported_in, is_condition, is_conditional}

module _ (g : ℕ → ℕ) where
  abbrev respelt : Forest → Forest
  respelt f = respell_forest g f

  -- names
  condition_as : (l : Label) → is_condition (respell_label g l) ≡ is_condition l
  condition_as (kind if_attribute) = refl
  condition_as (kind elif_attribute) = refl
  condition_as (kind else_attribute) = refl
  condition_as l = refl

  begins_as : (f : Forest) → begins is_condition (respelt f) ≡ begins is_condition f
  begins_as end = refl
  begins_as (tree l children others) = condition_as l

  one_begins_as : (f : Forest) → one_begins is_condition (respelt f) ≡ one_begins is_condition f
  one_begins_as end = refl
  one_begins_as (tree l children others) = ap (λ b. b || one_begins is_condition (respelt others)) (begins_as children) ∙ ap (λ b. begins is_condition children || b) (one_begins_as others)

  first_as : (f : Forest) → first_children (respelt f) ≡ respelt (first_children f)
  first_as end = refl
  first_as (tree l children others) = refl

  conditional_as : (node : Forest) → is_conditional (respelt node) ≡ is_conditional node
  conditional_as node =
      ap (λ f. one_begins is_condition (first_children f)) (first_as node)
      ∙ (ap (one_begins is_condition) (first_as (first_children node)) ∙ one_begins_as (first_children (first_children node)))

  own_as : (f : Forest) → own_identifiers (respelt f) ≡ map g (own_identifiers f)
  own_as end = refl
  own_as (tree (ident r x) children others) = ap (λ ns. g x ∷ ns) (own_as others)
  own_as (tree l children others) = own_as others

  both_as : (a b : List ℕ) (children others : Forest) → a ≡ map g (binders_in children) → b ≡ map g (binders_in others) → a ++ b ≡ map g (binders_in children ++ binders_in others)
  both_as a b children others p q = ap (λ ns. ns ++ b) p ∙ (ap (λ ns. map g (binders_in children) ++ ns) q ∙ sym (map-append g (binders_in children) (binders_in others)))

  binders_as : (f : Forest) → binders_in (respelt f) ≡ map g (binders_in f)
  binders_as end = refl
  binders_as (tree (ident binder x) children others) = ap (λ ns. g x ∷ ns) (binders_as others)
  binders_as (tree l children others) = both_as _ _ children others (binders_as children) (binders_as others)

  content_as : (f : Forest) → content (respelt f) ≡ respelt (content f)
  content_as (tree l children (tree m below others)) = refl
  content_as f = refl

  unless_as : (t : Bool) (ns : List ℕ) → (if t then [] else map g ns) ≡ map g (if t then [] else ns)
  unless_as true ns = refl
  unless_as false ns = refl

  imported_in_as : (node : Forest) → imported_in (respelt node) ≡ map g (imported_in node)
  imported_in_as node =
      ap (λ t. if t then [] else binders_in (content (first_children (respelt node)))) (conditional_as node)
      ∙ (ap (λ f. if is_conditional node then [] else binders_in (content f)) (first_as node)
      ∙ (ap (λ f. if is_conditional node then [] else binders_in f) (content_as (first_children node))
      ∙ (ap (λ ns. if is_conditional node then [] else ns) (binders_as (content (first_children node))) ∙ unless_as (is_conditional node) (binders_in (content (first_children node))))))

  declared_in_as : (node : Forest) → declared_in (respelt node) ≡ map g (declared_in node)
  declared_in_as node =
      ap (λ t. if t then [] else own_identifiers (first_children (respelt node))) (conditional_as node)
      ∙ (ap (λ f. if is_conditional node then [] else own_identifiers f) (first_as node)
      ∙ (ap (λ ns. if is_conditional node then [] else ns) (own_as (first_children node)) ∙ unless_as (is_conditional node) (own_identifiers (first_children node))))

  pub imported_as : (f : Forest) → imported (respelt f) ≡ map g (imported f)
  imported_as end = refl
  imported_as (tree l node others) = ap (λ ns. ns ++ imported (respelt others)) (imported_in_as node) ∙ (ap (λ ns. map g (imported_in node) ++ ns) (imported_as others) ∙ sym (map-append g (imported_in node) (imported others)))

  pub declared_as : (f : Forest) → declared (respelt f) ≡ map g (declared f)
  declared_as end = refl
  declared_as (tree l node others) = ap (λ ns. ns ++ declared (respelt others)) (declared_in_as node) ∙ (ap (λ ns. map g (declared_in node) ++ ns) (declared_as others) ∙ sym (map-append g (declared_in node) (declared others)))
