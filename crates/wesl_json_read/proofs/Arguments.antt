-- A template argument is read as the expression in it.
use Rattle.std.proofs.Common.{◌≡◌, inl, inr, ℕ, suc, zero, List, [], ◌∷◌, Bool, Option, Some, None, option_map, refl, sym, ap, ◌∙◌, subst}
use Rattle.std.specs.Option.{is_some}
use Rattle.serde_json.specs.Data.{Data, Members}
use Rattle.serde_json.specs.Find.{as_object}
use Rattle.wesl_tree_names.specs.Path.{Text}
use Rattle.wesl_tree_syntax.specs.Tree.{kind, Tree, end, before, branch, template_argument}
use Rattle.wesl_json_form.specs.Schema.{Spelled, SpelledForest, node, an_expression, a_template_argument, within}
use Rattle.wesl_json_form.specs.Nodes.{whole_form}
use Rattle.wesl_json_form.specs.Reading.{reading}
use Rattle.wesl_json_form.specs.Place.{find_field, fields_of, member_form, IsWrongValue, BreaksAt, IsBroken}
use Rattle.wesl_json_form.specs.Pointer.{Part, key, index}
use Rattle.wesl_json_read.specs.Faults.{Locates}
use Rattle.wesl_json_read.proofs.Places.{IfPlace-more}
use Rattle.wesl_tree_names.specs.declared.errors.Error as error
use Rattle.wesl_json_read.specs.Numbers.{AreReadAs, ReadsForm}
use Rattle.wesl_json_read.proofs.Rows.{over, plain-kind}
use Rattle.wesl_json_read.proofs.Wraps.{expression_node_in, node-wraps, same-fields, value-case, wrapped, wrong-node}

module _ (spans : Bool) where
  argument-read : (n : ℕ) (d : Data) (t : Spelled) → reading (whole_form spans) n (node an_expression) d ≡ Some t → reading (whole_form spans) n (node a_template_argument) d ≡ Some (wrapped template_argument t)
  argument-read zero d t h = cc
  argument-read (suc n) d t h = value-case template_argument spans (is_some (as_object d)) (reading (whole_form spans) n) d t h

  one-case : (n : ℕ) (d : Data) (o : Option Spelled) (us : SpelledForest) → reading (whole_form spans) n (node an_expression) d ≡ o → option_map (λ u. before u end) o ≡ Some us → reading (whole_form spans) n (node a_template_argument) d ≡ Some (record { label = kind template_argument; children = us })
  one-case n d None us is h = cc
  one-case n d (Some u) us is h = let same : before u end ≡ us = cc in argument-read n d u is ∙ ap (λ cs. Some (record { label = kind template_argument; children = cs })) same

  one-step : (n : ℕ) (d : Data) (us : SpelledForest) → option_map (λ u. before u end) (reading (whole_form spans) n (node an_expression) d) ≡ Some us → reading (whole_form spans) n (node a_template_argument) d ≡ Some (record { label = kind template_argument; children = us })
  one-step n d us h = one-case n d (reading (whole_form spans) n (node an_expression) d) us refl h

  pub argument-form : (d : Data) (t : Tree) (a b : List Text) → ReadsForm spans (node an_expression) d t a b → ReadsForm spans (node a_template_argument) d (branch template_argument (t ∷ [])) a b
  argument-form d t a b h =
      let one = λ (n : ℕ). option_map (λ u. before u end) (reading (whole_form spans) n (node an_expression) d) in
      let children : AreReadAs one _ (before t end) a b = record {
        spelled = λ n names low later. ap (option_map (λ u. before u end)) (h.spelled n names low later);
        numbered = h.numbered;
        closed = h.closed;
        begins = h.begins;
      } in
      over one (λ n. reading (whole_form spans) n (node a_template_argument) d) _ (kind template_argument) (kind template_argument) (before t end) a b (plain-kind template_argument) (λ n us low is. one-step n d us is) children

  -- ---- places

  wrong-value : (d : Data) (o : Option Members) → IsWrongValue (whole_form spans) an_expression d o → IsWrongValue (whole_form spans) a_template_argument d o
  wrong-value d None h = ap (option_map (λ u. wrapped template_argument u)) h
  wrong-value d (Some ms) h = wrong-node template_argument spans d (expression_node_in spans d) (node-wraps template_argument spans d) h

  argument-fields : (d : Data) → fields_of (whole_form spans) a_template_argument d ≡ fields_of (whole_form spans) an_expression d
  argument-fields d = same-fields template_argument d (expression_node_in spans d) (node-wraps template_argument spans d)

  argument-breaks : (path : List Part) (d : Data) → BreaksAt (whole_form spans) path (Some (node an_expression)) d → BreaksAt (whole_form spans) path (Some (node a_template_argument)) d
  argument-breaks [] d h = wrong-value d (as_object d) h
  argument-breaks (key k ∷ path) d (e, found, inl h) =
      let same : member_form (whole_form spans) (node an_expression) k d ≡ member_form (whole_form spans) (node a_template_argument) k d = ap (λ fs. option_map (λ x. x.form) (find_field k fs)) (sym (argument-fields d)) in
      (e, found, inl (subst (λ o. BreaksAt (whole_form spans) path o e) same h))
  argument-breaks (key k ∷ path) d (e, found, inr h) = (e, found, inr (h.0, (h.1.0, ap (option_map (within template_argument)) h.1.1)))
  argument-breaks (index i ∷ path) d h = h

  pub argument-place : (d : Data) (e : error.Error) → Locates spans (node an_expression) d e → Locates spans (node a_template_argument) d e
  argument-place d e h = IfPlace-more (IsBroken (whole_form spans) (node an_expression) d) (IsBroken (whole_form spans) (node a_template_argument) d) e (λ place w. (w.0, w.1, argument-breaks w.0 d w.2)) h
