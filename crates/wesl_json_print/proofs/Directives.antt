-- The events of each directive, in the order in which they are printed.
use Rattle.std.proofs.Common.{◌≡◌, List, [], ◌∷◌, String, Vec, Global, Bool, false, codes, string_bytes, refl, sym, ap, ◌∙◌}
use Rattle.serde_json.specs.Data.{Data, string}
use Rattle.wesl_json_form.specs.Schema.{a_directive}
use Rattle.wesl_json_form.specs.Writing.{texts_value}
use Rattle.wesl_json_print_nodes.specs.Events.{Event, begins, events}
use Rattle.wesl_json_print_nodes.specs.Printing.{PrintsEvents, Prints, at_place}
use Rattle.wesl_json_print_nodes.specs.declared.printer.Printer.{Printer}
use Rattle.wesl_json_print_nodes.proofs.Adding.{told}
use Rattle.wesl_json_print_nodes.proofs.Parts.{Part, part, arranged, by_parts, events_of, list_part, span_part}
use Rattle.wesl_json_print_nodes.proofs.Statements.{attrs, word}
use Rattle.wesl_json_print.specs.Members.{attributed, names_members, rule_members}
use Rattle.wesl_json_words.specs.Values.{items_in, placed_at, placed_in, with_list, with_member}
use Rattle.wesl_json_words.proofs.Blocks.{Attributes}
use Rattle.wesl_json_words.proofs.Placed.{placed-directive}
use Rattle.wesl_tree_base.specs.declared.span.Span.{Span}
use Rattle.wesl_tree_names.specs.Path.{Text}
use Rattle.wesl_tree_syntax.specs.Tree.{directive_node}
use Rattle.wesl_tree_syntax.specs.View.{directive_view, texts_of}
use Rattle.wesl_tree_syntax.specs.declared.declaration.GlobalDirective.{GlobalDirective}
use Rattle.wesl_tree_syntax.specs.declared.declaration.GlobalDirective.TheVariants as directives

module _ (spans : Bool) (names : List Text) (s : Span) where
  abbrev with_span : List Part → List Part
  with_span ps = arranged (span_part spans directive_node s ∷ ps)

  abbrev diagnostic_parts : Attributes → Text → Text → List Part
  diagnostic_parts a severity rule = word (codes "diagnostic") ∷ attrs spans names a ∷ part (codes "severity") false (string severity) ∷ part (codes "rule") false (string rule) ∷ []

  pub diagnostic_printed : {S : Type 0} {after : List Event → S → S → Type 0} {p z : Printer S} (a : Attributes) (severity rule : Text) → PrintsEvents after p z (begins ∷ events_of (with_span (diagnostic_parts a severity rule))) → Prints after p z (at_place spans directive_node s (attributed spans names (codes "diagnostic") a (rule_members severity rule)))
  unfolding with_member with_list
  diagnostic_printed a severity rule h = by_parts spans directive_node s (diagnostic_parts a severity rule) _ refl refl h

  abbrev extension_parts : Text → Attributes → Vec (String Global) Global → List Part
  extension_parts w a ns = word w ∷ attrs spans names a ∷ list_part (codes "names") (texts_value (texts_of ns)) ∷ []

  pub extensions_printed : {S : Type 0} {after : List Event → S → S → Type 0} {p z : Printer S} (w : Text) (a : Attributes) (ns : Vec (String Global) Global) → PrintsEvents after p z (begins ∷ events_of (with_span (extension_parts w a ns))) → Prints after p z (at_place spans directive_node s (attributed spans names w a (names_members ns)))
  unfolding with_member with_list
  extensions_printed w a ns h = by_parts spans directive_node s (extension_parts w a ns) _ refl refl h

  -- a directive, by what it is where it has no place
  directive_printed : {S : Type 0} {after : List Event → S → S → Type 0} {p z : Printer S} (x y : GlobalDirective) (d : Data) → x ≡ y → d ≡ placed_in spans names a_directive directive_node (directive_view y) → Prints after p z (at_place spans directive_node s d) → Prints after p z (placed_at spans names a_directive directive_node s (directive_view x))
  directive_printed x y d is inside_it h =
      told (ap events (ap (at_place spans directive_node s) (inside_it ∙ ap (λ u. placed_in spans names a_directive directive_node (directive_view u)) (sym is)) ∙ sym (placed-directive spans names s (directive_view x) (codes "k")))) h

  pub diagnostic_directive : {S : Type 0} {after : List Event → S → S → Type 0} {p z : Printer S} (x : GlobalDirective) (a : Attributes) (severity rule : String Global) (t u : Text) → x ≡ directives.Diagnostic a severity rule → t ≡ string_bytes severity → u ≡ string_bytes rule
      → Prints after p z (at_place spans directive_node s (attributed spans names (codes "diagnostic") a (rule_members t u))) → Prints after p z (placed_at spans names a_directive directive_node s (directive_view x))
  unfolding placed_in placed_at with_member with_list items_in
  diagnostic_directive x a severity rule t u is first second h =
      directive_printed x (directives.Diagnostic a severity rule) _ is (ap (λ v. attributed spans names (codes "diagnostic") a (rule_members v u)) first ∙ ap (λ v. attributed spans names (codes "diagnostic") a (rule_members (string_bytes severity) v)) second) h

  pub enable_directive : {S : Type 0} {after : List Event → S → S → Type 0} {p z : Printer S} (x : GlobalDirective) (a : Attributes) (ns : Vec (String Global) Global) → x ≡ directives.Enable a ns → Prints after p z (at_place spans directive_node s (attributed spans names (codes "enable") a (names_members ns))) → Prints after p z (placed_at spans names a_directive directive_node s (directive_view x))
  unfolding placed_in placed_at with_member with_list items_in
  enable_directive x a ns is h = directive_printed x (directives.Enable a ns) _ is refl h

  pub requires_directive : {S : Type 0} {after : List Event → S → S → Type 0} {p z : Printer S} (x : GlobalDirective) (a : Attributes) (ns : Vec (String Global) Global) → x ≡ directives.Requires a ns → Prints after p z (at_place spans directive_node s (attributed spans names (codes "requires") a (names_members ns))) → Prints after p z (placed_at spans names a_directive directive_node s (directive_view x))
  unfolding placed_in placed_at with_member with_list items_in
  requires_directive x a ns is h = directive_printed x (directives.Requires a ns) _ is refl h
