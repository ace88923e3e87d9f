-- The tokens of each attribute, in the order in which they are printed.
use Rattle.std.proofs.Common.{◌≡◌, List, [], ◌∷◌, Option, Some, None, Vec, Global, Bool, true, false, codes, refl, sym, ap, ◌∙◌}
use Rattle.wesl_json_print_nodes.specs.Events.{begins, Event, events}
use Rattle.serde_json.specs.Data.{Data, array, object, string, Items, no_members}
use Rattle.wesl_json_form.specs.Schema.{SpelledLabel, node, an_expression}
use Rattle.wesl_json_form.specs.Writing.{is_placed}
use Rattle.wesl_json_print_nodes.specs.Printing.{PrintsEvents, Prints, at_place, custom_tree, diagnosed}
use Rattle.wesl_json_print_nodes.specs.declared.printer.Printer.{Printer}
use Rattle.wesl_json_print_nodes.proofs.Adding.{told}
use Rattle.wesl_json_print_nodes.proofs.Parts.{Part, part, arranged, by_parts, events_of, list_part, option_part, option_put, placed_events, puts, puts_before, span_part}
use Rattle.wesl_json_words.specs.Values.{attribute_at, attribute_in, expression_data, items_in, place_label, placed_data, with_list, with_member, with_option, with_place, workgroup_size, worded}
use Rattle.wesl_json_words.proofs.Imports.{as-custom, as-named}
use Rattle.wesl_json_words.proofs.PlacedShort.{placed-attribute}
use Rattle.wesl_tree_base.specs.declared.span.Span.{Span}
use Rattle.wesl_tree_names.specs.Path.{Text}
use Rattle.wesl_tree_syntax.specs.Tree.{attribute_node, list}
use Rattle.wesl_tree_syntax.specs.View.{attribute_view, expression_tree, listed, optional}
use Rattle.wesl_tree_syntax.specs.declared.span.Spanned.{Spanned}
use Rattle.wesl_tree_syntax.specs.declared.attribute.Attribute.{Attribute}
use Rattle.wesl_tree_syntax.specs.declared.expression.Expression.{Expression}

abbrev word : Text → Part
word w = part (codes "k") false (string w)

abbrev name : Text → Part
name t = part (codes "name") false (string t)

module _ (spans : Bool) (s : Span) where
  abbrev label : SpelledLabel
  label = place_label spans attribute_node s

  abbrev pub with_span : List Part → List Part
  with_span ps = arranged (span_part spans attribute_node s ∷ ps)

  pub named_printed : {S : Type 0} {after : List Event → S → S → Type 0} {a z : Printer S} (w t : Text) → PrintsEvents after a z (begins ∷ events_of (with_span (word w ∷ name t ∷ []))) → Prints after a z (at_place spans attribute_node s (worded w (with_member (codes "name") (string t) no_members)))
  unfolding with_member
  named_printed w t h = by_parts spans attribute_node s (word w ∷ name t ∷ []) _ refl refl h

  turned : (w : Text) → is_placed spans label ≡ true → at_place spans attribute_node s (object (puts (word w ∷ []))) ≡ at_place spans attribute_node s (string w)
  unfolding with_place placed_data
  turned w is = rw is refl

  pub placed_word : {S : Type 0} {after : List Event → S → S → Type 0} {a z : Printer S} (w : Text) → is_placed spans label ≡ true → PrintsEvents after a z (begins ∷ events_of (with_span (word w ∷ []))) → Prints after a z (at_place spans attribute_node s (string w))
  placed_word w is h = told (placed_events spans attribute_node s (codes "k") (word w ∷ []) refl ∙ ap events (turned w is)) h

  no_place : (w : Text) → is_placed spans label ≡ false → string w ≡ at_place spans attribute_node s (string w)
  unfolding with_place
  no_place w is = rw is refl

  pub bare_word : {S : Type 0} {after : List Event → S → S → Type 0} {a z : Printer S} (w : Text) → is_placed spans label ≡ false → Prints after a z (string w) → Prints after a z (at_place spans attribute_node s (string w))
  bare_word w is h = told (ap events (no_place w is)) h

  abbrev pub diagnostic_parts : Text → Text → List Part
  diagnostic_parts severity rule = word (codes "diagnostic") ∷ part (codes "severity") false (string severity) ∷ part (codes "rule") false (string rule) ∷ []

  pub diagnostic_printed : {S : Type 0} {after : List Event → S → S → Type 0} {a z : Printer S} (severity rule : Text) → PrintsEvents after a z (begins ∷ events_of (with_span (diagnostic_parts severity rule))) → Prints after a z (at_place spans attribute_node s (diagnosed severity rule))
  unfolding with_member
  diagnostic_printed severity rule h = by_parts spans attribute_node s (diagnostic_parts severity rule) _ refl refl h

  pub interpolate_printed : {S : Type 0} {after : List Event → S → S → Type 0} {a z : Printer S} (ds : Items) → PrintsEvents after a z (begins ∷ events_of (with_span (word (codes "interpolate") ∷ list_part (codes "names") ds ∷ []))) → Prints after a z (at_place spans attribute_node s (worded (codes "interpolate") (with_list (codes "names") ds no_members)))
  unfolding with_member with_list
  interpolate_printed ds h = by_parts spans attribute_node s (word (codes "interpolate") ∷ list_part (codes "names") ds ∷ []) _ refl refl h

  module _ (names : List Text) where
    abbrev at_key : Text → Spanned Expression → Part
    at_key k e = part k false (expression_data spans names e)

    abbrev option_at : Text → Option (Spanned Expression) → Part
    option_at k o = option_part spans names k (node an_expression) expression_tree o

    pub operand_printed : {S : Type 0} {after : List Event → S → S → Type 0} {a z : Printer S} (w : Text) (e : Spanned Expression) → PrintsEvents after a z (begins ∷ events_of (with_span (word w ∷ at_key (codes "expr") e ∷ []))) → Prints after a z (at_place spans attribute_node s (worded w (with_member (codes "expr") (expression_data spans names e) no_members)))
    unfolding with_member
    operand_printed w e h = by_parts spans attribute_node s (word w ∷ at_key (codes "expr") e ∷ []) _ refl refl h

    abbrev pub workgroup_parts : Spanned Expression → Option (Spanned Expression) → Option (Spanned Expression) → List Part
    workgroup_parts x y z = word (codes "workgroup_size") ∷ at_key (codes "x") x ∷ option_at (codes "y") y ∷ option_at (codes "z") z ∷ []

    pub workgroup_printed : {S : Type 0} {after : List Event → S → S → Type 0} {p q : Printer S} (x : Spanned Expression) (y z : Option (Spanned Expression)) → PrintsEvents after p q (begins ∷ events_of (with_span (workgroup_parts x y z))) → Prints after p q (at_place spans attribute_node s (workgroup_size spans names x (optional expression_tree y) (optional expression_tree z)))
    unfolding with_member
    workgroup_printed x y z h =
        by_parts spans attribute_node s (workgroup_parts x y z) _ refl
        (ap (λ ms. object (puts_before (word (codes "workgroup_size") ∷ at_key (codes "x") x ∷ option_at (codes "y") y ∷ []) ms)) (option_put spans names (codes "z") (node an_expression) expression_tree z no_members)
        ∙ ap (λ ms. object (puts_before (word (codes "workgroup_size") ∷ at_key (codes "x") x ∷ []) ms)) (option_put spans names (codes "y") (node an_expression) expression_tree y (with_option (codes "z") spans names (node an_expression) (optional expression_tree z) no_members)))
        h

    pub bare_custom : {S : Type 0} {after : List Event → S → S → Type 0} {a z : Printer S} (t : Text) (o : Option (Vec (Spanned Expression) Global)) → o ≡ None → Prints after a z (at_place spans attribute_node s (worded (codes "custom") (with_member (codes "name") (string t) no_members)))
        → Prints after a z (at_place spans attribute_node s (attribute_in spans names (custom_tree t o)))
    bare_custom t o is h = told (ap (λ d. events (at_place spans attribute_node s d)) (as-named spans names t o _ is refl)) h

    abbrev pub custom_parts : Text → Items → List Part
    custom_parts t ds = word (codes "custom") ∷ name t ∷ part (codes "args") false (array ds) ∷ []

    pub custom_printed : {S : Type 0} {after : List Event → S → S → Type 0} {a z : Printer S} (t : Text) (o : Option (Vec (Spanned Expression) Global)) (es : Vec (Spanned Expression) Global) → o ≡ Some es → PrintsEvents after a z (begins ∷ events_of (with_span (custom_parts t (items_in spans names an_expression (listed expression_tree list es).children))))
        → Prints after a z (at_place spans attribute_node s (attribute_in spans names (custom_tree t o)))
    unfolding with_member
    custom_printed t o es is h =
        by_parts spans attribute_node s (custom_parts t (items_in spans names an_expression (listed expression_tree list es).children)) _ refl (as-custom spans names t o es _ _ is refl refl) h

    -- an attribute, by what it is where it has no place
    pub attribute_printed : {S : Type 0} {after : List Event → S → S → Type 0} {a z : Printer S} (x y : Attribute) (d : Data) → x ≡ y → d ≡ attribute_in spans names (attribute_view y) → Prints after a z (at_place spans attribute_node s d) → Prints after a z (attribute_at spans names s (attribute_view x))
    attribute_printed x y d is inside_it h =
        told (ap events (ap (at_place spans attribute_node s) (inside_it ∙ ap (λ u. attribute_in spans names (attribute_view u)) (sym is)) ∙ sym (placed-attribute spans names s x))) h
