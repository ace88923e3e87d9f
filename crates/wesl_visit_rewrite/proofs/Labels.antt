-- What is told of a node by its label.
use Rattle.std.proofs.Common.{◌≡◌, Bool, true, false, ◌||◌, refl}
use Rattle.wesl_tree_syntax.specs.Tree.{Label, kind, if_attribute, elif_attribute, import_statement, diagnostic_directive, enable_directive, requires_directive}
use Rattle.wesl_tree_syntax.specs.Nodes.{is_formula, is_import_or_directive}
use Rattle.wesl_visit_collect.specs.Held.{hollow_label}
use Rattle.wesl_visit_rewrite.specs.Replaced.{is_passed_over}
use Rattle.wesl_visit_collect.specs.Sought.{Sought, expressions, types, statements, attribute_lists}

abbrev pub words : Label → Bool
words l = is_formula l || is_import_or_directive l

pub no_word : (k : Sought) (l : Label) → words l ≡ false → is_passed_over k l ≡ false
no_word expressions l h = h
no_word types l h = h
no_word statements l h = refl
no_word attribute_lists l h = refl

pub hollow_words : (l : Label) → hollow_label l ≡ true → words l ≡ false
hollow_words (kind if_attribute) h = absurd (let x : ⊥ = cc in x)
hollow_words (kind elif_attribute) h = absurd (let x : ⊥ = cc in x)
hollow_words (kind import_statement) h = absurd (let x : ⊥ = cc in x)
hollow_words (kind diagnostic_directive) h = absurd (let x : ⊥ = cc in x)
hollow_words (kind enable_directive) h = absurd (let x : ⊥ = cc in x)
hollow_words (kind requires_directive) h = absurd (let x : ⊥ = cc in x)
hollow_words _ h = refl
