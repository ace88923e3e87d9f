-- The events of a unit's value, list by list.
use Rattle.std.proofs.Common.{◌≡◌, Bool, true, false, not, List, [], ◌∷◌, codes, refl, sym, ap, ◌∙◌}
use Rattle.serde_json.specs.Data.{Data, number, object, unsigned, Items, Members, no_members}
use Rattle.wesl_json_form.specs.Schema.{second_form}
use Rattle.wesl_json_form.specs.Writing.{put_extra}
use Rattle.wesl_json_print_nodes.specs.Events.{Event, begins, events}
use Rattle.wesl_json_print_nodes.specs.Printing.{PrintsEvents, Prints, PrintsMembers, inside}
use Rattle.wesl_json_print_nodes.specs.declared.printer.Printer.{Printer}
use Rattle.wesl_json_print_nodes.proofs.Adding.{told}
use Rattle.wesl_json_print_nodes.proofs.Parts.{Part, part, arranged, events_of, list_part, object_events, put_part, puts_before}
use Rattle.wesl_json_words.specs.Values.{bare, with_list}

module _ (spans : Bool) where
  abbrev form_part : Part
  form_part = part (codes "form") (not spans) (number (unsigned 2))

  form_put : (b : Bool) (ms : Members) → put_part (part (codes "form") (not b) (number (unsigned 2))) ms ≡ put_extra b second_form ms
  form_put true ms = refl
  form_put false ms = refl

  pub form_added : {S : Type 0} {after : List Event → S → S → Type 0} {a b : Printer S} → PrintsMembers after a b (put_extra spans second_form no_members) → PrintsEvents after a b (inside (put_part form_part no_members))
  form_added h = told (ap inside (sym (form_put spans no_members))) h

  abbrev pub unit_parts : Items → Items → Items → List Part
  unit_parts gs ds is = form_part ∷ list_part (codes "imports") is ∷ list_part (codes "directives") ds ∷ list_part (codes "declarations") gs ∷ []

  pub unit_printed : {S : Type 0} {after : List Event → S → S → Type 0} {a z : Printer S} (gs ds is : Items) (v : Data) → bare (put_extra spans second_form (with_list (codes "imports") is (with_list (codes "directives") ds (with_list (codes "declarations") gs no_members)))) ≡ v
      → PrintsEvents after a z (begins ∷ events_of (arranged (unit_parts gs ds is))) → Prints after a z v
  unfolding with_list
  unit_printed gs ds is v same h =
      told (object_events (unit_parts gs ds is) refl ∙ ap events (ap object (form_put spans (puts_before (list_part (codes "imports") is ∷ list_part (codes "directives") ds ∷ list_part (codes "declarations") gs ∷ []) no_members)) ∙ same)) h
