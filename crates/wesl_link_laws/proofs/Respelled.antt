-- Trees as the grammar has them are so with names in place of numbers.
use Rattle.std.proofs.Common.{◌≡◌, Bool, false, not, ◌||◌, ◌&&◌, refl, ap, ap₂, ◌∙◌, List, [], ◌∷◌, map}
use Rattle.wesl_tree_syntax.specs.Tree.{LabelOf, ForestOf, end, tree, trees, forest_of, kind, at, ident, binder, reference as reference_role, word as word_role, respell_label, respell_forest, directive_node}
use Rattle.wesl_tree_syntax.specs.Unit.{UnitOf, spelled, name_in}
use Rattle.wesl_tree_syntax.specs.View.{placed as placed_view, directive_view}
use Rattle.wesl_tree_syntax.specs.declared.span.Spanned.{Spanned}
use Rattle.wesl_tree_syntax.specs.declared.declaration.GlobalDirective.{GlobalDirective}
use Rattle.wesl_tree_syntax.specs.declared.declaration.GlobalDirective.TheVariants as directives
use Rattle.std.specs.Prelude.{if◌then◌else◌}
use Rattle.wesl_tree_names.specs.Path.{Text}
use Rattle.wesl_tree.specs.Translation.{unit_view}
use Rattle.wesl_tree.specs.declared.unit.TranslationUnit.{TranslationUnit}
use Rattle.wesl_link_laws.proofs.Alike.{is_ident, shape_in}
use Rattle.wesl_link_laws.proofs.Shaped.{typed_at_respelled, type_respelled}
use Rattle.wesl_link_laws.proofs.Grammar.{is_name, is_parameter, is_declaration, is_simple, sober, quiet, plainly, nameless, once_named, Parameters, no_parameter, one_parameter, FunctionFields, fields_of, Globals, no_more, a_function, another}
use Rattle.wesl_link_laws.proofs.Typed.{globals_there, attributes_sober}
use Rattle.wesl_link_laws.proofs.Wordy.{Directives, no_directive, one_directive}
use Rattle.wesl_link_laws.proofs.Parts.{AreNodes}
use Rattle.wesl_link_laws.proofs.Modules.{IsModule}

module _ {I J : Type 0} (g : I → J) where
  name_respelled : (l : LabelOf I) → is_name (respell_label g l) ≡ is_name l
  name_respelled (ident binder x) = refl
  name_respelled (ident reference_role x) = refl
  name_respelled (ident word_role x) = refl
  name_respelled _ = refl

  parameter_respelled : (l : LabelOf I) → is_parameter (respell_label g l) ≡ is_parameter l
  parameter_respelled (kind k) = refl
  parameter_respelled _ = refl

  declaration_respelled : (l : LabelOf I) → is_declaration (respell_label g l) ≡ is_declaration l
  declaration_respelled (kind k) = refl
  declaration_respelled _ = refl

  ident_respelled : (l : LabelOf I) → is_ident (respell_label g l) ≡ is_ident l
  ident_respelled (ident r x) = refl
  ident_respelled _ = refl

  shape_respelled : (l : LabelOf I) → shape_in (respell_label g l) ≡ shape_in l
  shape_respelled (kind k) = refl
  shape_respelled _ = refl

  sober_respelled : (f : ForestOf I) → sober (respell_forest g f) ≡ sober f
  sober_respelled end = refl
  sober_respelled (tree l c o) =
      ap₂ (λ a b. a && b)
      (ap₂ (λ a b. a && b)
      (ap₂ (λ a b. a && b) (ap₂ (λ a b. not a && not b) (name_respelled l) (parameter_respelled l)) (typed_at_respelled g l c))
      (sober_respelled c))
      (sober_respelled o)

  quiet_respelled : (d : Bool) (f : ForestOf I) → quiet d (respell_forest g f) ≡ quiet d f
  quiet_respelled d end = refl
  quiet_respelled d (tree l c o) =
      ap₂ (λ a b. a && b)
      (ap₂ (λ a b. a && b)
      (ap₂ (λ a b. a && b) (ap₂ (λ a b. (d || not a) && not b) (name_respelled l) (parameter_respelled l)) (typed_at_respelled g l c))
      (ap (λ b. quiet b (respell_forest g c)) (declaration_respelled l) ∙ quiet_respelled (is_declaration l) c))
      (quiet_respelled d o)

  plainly_respelled : (f : ForestOf I) → plainly (respell_forest g f) ≡ plainly f
  plainly_respelled end = refl
  plainly_respelled (tree l c o) = ap₂ (λ a b. a && b) (ap₂ (λ a b. a && b) (typed_at_respelled g l c) (sober_respelled c)) (plainly_respelled o)

  nameless_respelled : (f : ForestOf I) → nameless (respell_forest g f) ≡ nameless f
  nameless_respelled end = refl
  nameless_respelled (tree l c o) = ap₂ (λ a b. not a && b) (name_respelled l) (nameless_respelled o)

  once_respelled : (f : ForestOf I) → once_named (respell_forest g f) ≡ once_named f
  once_respelled end = refl
  once_respelled (tree l c o) =
      ap (λ b. if b then nameless (respell_forest g o) else once_named (respell_forest g o)) (name_respelled l)
      ∙ ap₂ (λ a b. if is_name l then a else b) (nameless_respelled o) (once_respelled o)

  parameters_respelled : (f : ForestOf I) → Parameters f → Parameters (respell_forest g f)
  parameters_respelled _ no_parameter = no_parameter
  parameters_respelled _ (one_parameter {l = l} {m = m} {x = x} {c = c} {d = d} {o = o} h k rest) =
      one_parameter (sober_respelled (tree l c end) ∙ h) (sober_respelled (tree m d end) ∙ k) (parameters_respelled o rest)

  function_respelled : (f : ForestOf I) → FunctionFields f → FunctionFields (respell_forest g f)
  function_respelled _ (fields_of {l = l} {m = m} {n = n} {r = r} {x = x} {c = c} {d = d} {e = e} {g = b} {ps = ps} {ss = ss} hl hp hm hn ht hs) =
      fields_of (sober_respelled (tree l c end) ∙ hl) (parameters_respelled ps hp) (sober_respelled (tree m d end) ∙ hm) (sober_respelled (tree n e end) ∙ hn) (sober_respelled (tree r b end) ∙ ht) (quiet_respelled false ss ∙ hs)

  pub globals_respelled : (f : ForestOf I) → Globals f → Globals (respell_forest g f)
  globals_respelled _ no_more = no_more
  globals_respelled _ (a_function {f = f} {o = o} h rest) = a_function (function_respelled f h) (globals_respelled o rest)
  globals_respelled _ (another {l = l} {f = f} {o = o} n y sh h once rest) =
      another (ident_respelled l ∙ n) (type_respelled g l ∙ y) (ap is_simple (shape_respelled l) ∙ sh) (plainly_respelled f ∙ h) (once_respelled f ∙ once) (globals_respelled o rest)

  directives_respelled : (f : ForestOf I) → Directives f → Directives (respell_forest g f)
  directives_respelled _ no_directive = no_directive
  directives_respelled _ (one_directive {k = k} {c = c} {o = o} sh h rest) = one_directive sh (sober_respelled c ∙ h) (directives_respelled o rest)

-- ---- the directives of modules
directives_there : (xs : List (Spanned GlobalDirective)) → Directives (forest_of (map (placed_view directive_view directive_node) xs))
directives_there [] = no_directive
directives_there (x ∷ xs) = by x.node (directives_there xs)
  where
    by : (d : GlobalDirective) → Directives (forest_of (map (placed_view directive_view directive_node) xs)) → Directives (tree (at directive_node x.span.start x.span.end) (forest_of (directive_view d ∷ [])) (forest_of (map (placed_view directive_view directive_node) xs)))
    by (directives.Diagnostic a s r) rest = one_directive refl (rw (attributes_sober a.items) refl) rest
    by (directives.Enable a ns) rest = one_directive refl (rw (attributes_sober a.items) refl) rest
    by (directives.Requires a ns) rest = one_directive refl (rw (attributes_sober a.items) refl) rest

-- a module as the grammar has it
pub record IsGrammatical (u : UnitOf Text) : Type 0 where
  pub shaped : IsModule u
  pub globals : Globals u.declarations.children
  pub directives : Directives u.directives.children

pub grammatical : (t : TranslationUnit) → IsGrammatical (spelled (unit_view t))
grammatical t = record {
  shaped = record { imports = refl; directives = refl; declarations = refl };
  globals = globals_respelled (name_in (unit_view t).names) (unit_view t).declarations.children (globals_there t.declarations.items);
  directives = directives_respelled (name_in (unit_view t).names) (unit_view t).directives.children (directives_there t.directives.items);
}

pub global_nodes : {I : Type 0} (f : ForestOf I) → Globals f → AreNodes (trees f)
global_nodes _ no_more = tt
global_nodes _ (a_function {o = o} h rest) = (refl, global_nodes o rest)
global_nodes _ (another {o = o} n y sh h once rest) = (refl, global_nodes o rest)
