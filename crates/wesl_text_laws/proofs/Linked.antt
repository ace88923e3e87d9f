-- A linked unit of writable modules is writable.
use Rattle.std.proofs.Common.{◌≡◌, ◌↔◌, ◌⊎◌, true, List, [], ◌∷◌, Some, None, map, Contains, refl, sym as turned, inl, inr, ap, ◌∙◌, subst}
use Rattle.wesl_tree_names.specs.Path.{Text, Path}
use Rattle.wesl_tree_syntax.specs.Tree.{TreeOf, trees}
use Rattle.wesl_tree_syntax.specs.Unit.{UnitOf, UnitView, forest_of_unit, trees_of as numbered, name_in, spelled}
use Rattle.wesl_text_form.specs.Spelling.{Slots, slots, unit_row}
use Rattle.wesl_text_form.specs.Says.{TextSays, IsWritable}
use Rattle.wesl_text_reading.proofs.Filled.{no_true}
use Rattle.wesl_text_writable.proofs.Writable.{said_are_writable}
use Rattle.wesl_text_respell.specs.Joined.{IsPartOf}
use Rattle.wesl_text_respell.specs.Respelled.{IsRespelled}
use Rattle.wesl_text_respell.proofs.Writable.{are_writable, respelled_units}
use Rattle.wesl_text_respell.proofs.Units.{joined_units}
use Rattle.wesl_cond_unit.specs.Left.{left_of}
use Rattle.wesl_text_judged.specs.Within.{all_end_within}
use Rattle.wesl_text_judged.proofs.Units.{left_views}
use Rattle.wesl_link_reach.specs.World.{Task}
use Rattle.wesl_link_reach.proofs.Lists.{contains_map}
use Rattle.wesl_link_assembly.specs.Denotations.{printed_as}
use Rattle.wesl_link_assembly.specs.Linked.{shape}
use Rattle.wesl_link_assembly.specs.Pathless.{without_paths}
use Rattle.wesl_link_engine.specs.Worlds.{Module, tables, task_of}
use Rattle.wesl_link_engine.specs.Linked.{Placed, unit_of, IsAssembled}
use Rattle.wesl_link_engine.specs.Resolved.{Resolved, IsAssembledOf, AssemblesTo}
use Rattle.wesl_text_laws.specs.Laws.{are_named, AreWritable, IsJudged, HasNames, LinkedAreWritable, LinkedTexts, LinkedJudged}
use Rattle.wesl_text_laws.proofs.Good.{Good, is_good, rows_are_good}
use Rattle.wesl_text_laws.proofs.Needed.{rows_are_named}
use Rattle.wesl_text_laws.proofs.Shaped.{respelled_by_shape, spelled_unplaced, spelled_shape}
use Rattle.wesl_text_laws.proofs.Modules.{directive_of, declaration_of}
use Rattle.wesl_link_tables.proofs.Nodes.{trees-forest_of}

-- ---- the parts, before names are given

module _ (w : List Module) (task : Task Path Text) (names : Path → Text → Text) (unit : UnitView) (writable : AreWritable w) (a : IsAssembled w task names unit) where
  abbrev source : UnitOf Text
  source = unit_of a.directives a.held

  of_module : (part : UnitOf Text → TreeOf Text) (t : TreeOf Text) → (m : Module) × Contains w m × Contains (trees (part m.unit).children) t → IsPartOf part t
  of_module part t x = (x.0.unit, writable x.0 x.1, x.2)

  directives_so : (t : TreeOf Text) → Contains (trees source.directives.children) t → IsPartOf (λ v. v.directives) t
  directives_so t c = of_module (λ v. v.directives) t (directive_of w a.directives t a.thinned (subst (λ z. Contains z t) (trees-forest_of a.directives) c))

  declarations_so : (t : TreeOf Text) → Contains (trees source.declarations.children) t → IsPartOf (λ v. v.declarations) t
  declarations_so t c =
      let x : (d : Placed) × Contains a.held d × (d.declaration ≡ t) = contains_map (λ (d : Placed). d.declaration) a.held t (subst (λ z. Contains z t) (trees-forest_of (map (λ (d : Placed). d.declaration) a.held)) c) in
      subst (λ z. IsPartOf (λ v. v.declarations) z) x.2 (of_module (λ v. v.declarations) x.0.declaration (declaration_of (tables w) task w a.held x.0 a.holds x.1))

  source_writable : IsWritable source ≡ true
  source_writable = joined_units source (record { imports = refl; directives = refl; declarations = refl }) refl directives_so declarations_so

  -- ---- with names

  source_good : is_good (forest_of_unit source) ≡ true
  source_good = by (slots source) (rows_are_good (forest_of_unit source) unit_row refl) source_writable where
    by : (s : Slots) → Good (is_good (forest_of_unit source)) s → are_writable s ≡ true → is_good (forest_of_unit source) ≡ true
    by None g h = absurd (no_true h)
    by (Some ss) g h = g

  unit_shape : shape (forest_of_unit (spelled unit)) ≡ shape (without_paths (forest_of_unit source))
  unit_shape = ap (λ z. shape (forest_of_unit z)) a.linked.named ∙ (spelled_shape (printed_as names) (forest_of_unit a.linked.linked) ∙ a.linked.same_shape)

  unit_respelled : HasNames unit → IsRespelled (forest_of_unit source) (forest_of_unit (spelled unit))
  unit_respelled h =
      respelled_by_shape (forest_of_unit source) (forest_of_unit (spelled unit)) source_good (spelled_unplaced (name_in unit.names) (forest_of_unit (numbered unit))) h unit_shape

-- what is writable has names
names_needed : (u : UnitOf Text) → IsWritable u ≡ true → are_named 0 (forest_of_unit u) ≡ true
names_needed u h = by (slots u) (rows_are_named (forest_of_unit u) unit_row refl refl) h where
  by : (s : Slots) → Good (are_named 0 (forest_of_unit u)) s → are_writable s ≡ true → are_named 0 (forest_of_unit u) ≡ true
  by None g h = absurd (no_true h)
  by (Some ss) g h = g

pub linked_are_writable : LinkedAreWritable
linked_are_writable w task names unit writable a =
    (names_needed (spelled unit), λ h. respelled_units (source w task names unit writable a) (spelled unit) (unit_respelled w task names unit writable a h) (source_writable w task names unit writable a))

-- so of the modules of a `Resolutions`
linked_of : (r : Resolved) (unit : UnitView) → AreWritable r.modules → AssemblesTo r unit → (IsWritable (spelled unit) ≡ true) ↔ HasNames unit
linked_of r unit writable a = by r.modules writable a where
  by : (w : List Module) → AreWritable w → IsAssembledOf r w unit → (IsWritable (spelled unit) ≡ true) ↔ HasNames unit
  by [] s e = (names_needed (spelled unit), λ h. ap (λ z. IsWritable (spelled z)) e)
  by (root ∷ others) s e = linked_are_writable (root ∷ others) (task_of root r.kept r.is_eager) r.names unit s e

pub linked_texts : LinkedTexts
linked_texts r unit said a = linked_of r unit (λ m c. said_are_writable (said m c).0 m.unit (said m c).1) a

-- ---- modules whose conditions were judged

judged_writable : (u : UnitOf Text) → IsJudged u → IsWritable u ≡ true
judged_writable u x =
    let apart : all_end_within (forest_of_unit (spelled (left_of x.reply x.read))) ≡ true = turned (ap (λ z. all_end_within (forest_of_unit z)) x.left) ∙ x.apart in
    ap (λ z. IsWritable z) x.left ∙ (left_views x.reply x.read (said_are_writable x.text (spelled x.read) x.said) x.faultless).1 apart

pub linked_judged : LinkedJudged
linked_judged r unit judged a = linked_of r unit (λ m c. by m.unit (judged m c)) a where
  by : (u : UnitOf Text) → ((t : Text) × TextSays t u) ⊎ IsJudged u → IsWritable u ≡ true
  by u (inl x) = said_are_writable x.0 u x.1
  by u (inr x) = judged_writable u x
