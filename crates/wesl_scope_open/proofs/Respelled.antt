-- Trees with names in place of numbers are such as those with numbers are.
use Rattle.std.proofs.Common.{◌≡◌, ◌&&◌, refl, ap, ap₂, ◌∙◌}
use Rattle.wesl_tree_syntax.specs.Tree.{LabelOf, ForestOf, end, tree, kind, ident, binder, reference, word, respell_label, respell_forest}
use Rattle.wesl_scope_open.proofs.Forests.{is_ident, shape_in, allows, calm, calm_tree}
use Rattle.wesl_scope_open.proofs.Lively.{Lively, none, calm_one, at_node, other_node, a_declaration, a_body, one_before, two_before, a_loop, a_for}
use Rattle.wesl_scope_open.proofs.Functions.{Parameters, no_parameter, one_parameter}
use Rattle.wesl_scope_open.proofs.Units.{FunctionFields, fields_of, is_airy, airy, Globals, no_more, a_function, another}

module _ {I J : Type 0} (g : I → J) where
  ident_respelled : (l : LabelOf I) → is_ident (respell_label g l) ≡ is_ident l
  ident_respelled (ident r x) = refl
  ident_respelled _ = refl

  shape_respelled : (l : LabelOf I) → shape_in (respell_label g l) ≡ shape_in l
  shape_respelled (kind k) = refl
  shape_respelled _ = refl

  allows_respelled : (l : LabelOf I) → allows (respell_label g l) ≡ allows l
  allows_respelled (kind k) = refl
  allows_respelled (ident binder x) = refl
  allows_respelled (ident reference x) = refl
  allows_respelled (ident word x) = refl
  allows_respelled _ = refl

  calm_respelled : (f : ForestOf I) → calm (respell_forest g f) ≡ calm f
  calm_respelled end = refl
  calm_respelled (tree l c o) = ap₂ (λ a b. a && b) (ap₂ (λ a b. a && b) (allows_respelled l) (calm_respelled c)) (calm_respelled o)

  calm_tree_respelled : (l : LabelOf I) (c : ForestOf I) → calm_tree (respell_label g l) (respell_forest g c) ≡ calm_tree l c
  calm_tree_respelled (ident r x) c = refl
  calm_tree_respelled (kind k) c = ap (λ b. allows {I = I} (kind k) && b) (calm_respelled c)
  calm_tree_respelled _ c = calm_respelled c

  pub airy_respelled : (f : ForestOf I) → airy (respell_forest g f) ≡ airy f
  airy_respelled end = refl
  airy_respelled (tree l c o) = ap₂ (λ a b. a && b) (ap₂ (λ a b. a && b) (ap is_airy (shape_respelled l)) (airy_respelled c)) (airy_respelled o)

  lively_respelled : (f : ForestOf I) → Lively f → Lively (respell_forest g f)
  lively_respelled _ none = none
  lively_respelled _ (calm_one {l = l} {c = c} {o = o} h rest) = calm_one (calm_tree_respelled l c ∙ h) (lively_respelled o rest)
  lively_respelled _ (at_node {c = c} {o = o} h rest) = at_node (lively_respelled c h) (lively_respelled o rest)
  lively_respelled _ (other_node {c = c} {o = o} e h rest) = other_node e (lively_respelled c h) (lively_respelled o rest)
  lively_respelled _ (a_declaration {l = l} {m = m} {x = x} {c = c} {d = d} {e = e} {r = r} {o = o} hl hm hr rest) =
      a_declaration (calm_tree_respelled l c ∙ hl) (calm_tree_respelled m d ∙ hm) (calm_respelled r ∙ hr) (lively_respelled o rest)
  lively_respelled _ (a_body {d = d} {ss = ss} {o = o} e hd hs rest) = a_body e (calm_respelled d ∙ hd) (lively_respelled ss hs) (lively_respelled o rest)
  lively_respelled _ (one_before {l = l} {c = c} {d = d} {ss = ss} {o = o} e hl hd hs rest) = one_before e (calm_tree_respelled l c ∙ hl) (calm_respelled d ∙ hd) (lively_respelled ss hs) (lively_respelled o rest)
  lively_respelled _ (two_before {l = l} {m = m} {c = c} {e = g0} {d = d} {ss = ss} {o = o} e hl hm hd hs rest) =
      two_before e (calm_tree_respelled l c ∙ hl) (calm_tree_respelled m g0 ∙ hm) (calm_respelled d ∙ hd) (lively_respelled ss hs) (lively_respelled o rest)
  lively_respelled _ (a_loop {l = l} {n = n} {c = c} {d = d} {ss = ss} {v = v} {o = o} e hl hd hs hn hv rest) =
      a_loop e (calm_tree_respelled l c ∙ hl) (calm_respelled d ∙ hd) (lively_respelled ss hs) (ident_respelled n ∙ hn) (lively_respelled (tree n v end) hv) (lively_respelled o rest)
  lively_respelled _ (a_for {l = l} {i = i} {j = j} {m = m} {c = c} {ci = ci} {cj = cj} {cm = cm} {d = d} {ss = ss} {o = o} hl ni hi nj hj nm hm hd hs rest) =
      a_for (calm_tree_respelled l c ∙ hl) (ident_respelled i ∙ ni) (lively_respelled (tree i ci end) hi) (ident_respelled j ∙ nj) (lively_respelled (tree j cj end) hj) (ident_respelled m ∙ nm) (lively_respelled (tree m cm end) hm)
      (calm_respelled d ∙ hd) (lively_respelled ss hs) (lively_respelled o rest)

  parameters_respelled : (f : ForestOf I) → Parameters f → Parameters (respell_forest g f)
  parameters_respelled _ no_parameter = no_parameter
  parameters_respelled _ (one_parameter {l = l} {m = m} {c = c} {d = d} {o = o} h k rest) = one_parameter (calm_tree_respelled l c ∙ h) (calm_tree_respelled m d ∙ k) (parameters_respelled o rest)

  function_respelled : (f : ForestOf I) → FunctionFields f → FunctionFields (respell_forest g f)
  function_respelled _ (fields_of {l = l} {x = x} {a = a} {e = e} {ps = ps} {ra = ra} {c = c} {d = d} {ss = ss} ha hp hr hl hd hs) =
      fields_of (calm_respelled a ∙ ha) (parameters_respelled ps hp) (calm_respelled ra ∙ hr) (calm_tree_respelled l c ∙ hl) (calm_respelled d ∙ hd) (lively_respelled ss hs)

  pub globals_respelled : (f : ForestOf I) → Globals f → Globals (respell_forest g f)
  globals_respelled _ no_more = no_more
  globals_respelled _ (a_function {f = f} {o = o} h rest) = a_function (function_respelled f h) (globals_respelled o rest)
  globals_respelled _ (another {c = c} {o = o} h rest) = another (airy_respelled c ∙ h) (globals_respelled o rest)
