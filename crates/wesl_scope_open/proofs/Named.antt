-- Events of trees with names in place of numbers, and rows by the numbers of names.
use Rattle.std.proofs.Common.{◌≡◌, ℕ, ◌+◌, ◌<◌, Bool, true, false, Option, Some, None, List, [], ◌∷◌, ◌++◌, map, length, get_or, set, refl, sym, ◌∙◌, ap, ap₂, subst, arith}
use Rattle.std.specs.Prelude.{bytes_eq, if◌then◌else◌}
use Rattle.std.proofs.lemmas.Slice.Eq.{bytes_eq-Decides}
use Rattle.std.proofs.lemmas.List.{get_or-set_same, get_or-set_other, length-set}
use Rattle.wesl_tree_names.specs.Path.{Text, Path}
use Rattle.wesl_tree_syntax.specs.Tree.{Role, LabelOf, ForestOf, end, tree, ident, binder, reference, word, path, respell_label, respell_forest}
use Rattle.wesl_tree_syntax.specs.Unit.{UnitView, spelled, trees_of, name_in, forest_of_unit}
use Rattle.wesl_scope_occurrences.specs.Occurrences.{Standing, module_name, parameter, local, reference as reference_standing, word as word_standing, Shape, of_type, opens as opens_in, fields, node_by, here_in, standing, path_of, blocks_in}
use Rattle.wesl_scope_occurrences.specs.Walk.{Here, numbers_at, outermost}
use Rattle.wesl_scope_occurrences.specs.Events.{EventOf, meets, opens, closes, ends, Level, Part, of_none, of_module, part_of, next_part, is_second, is_of_module, is_some, beginning, within, ending, after_level, plain_level, events_from, events}
use Rattle.wesl_scope_open.specs.Open.{Readings, Open, with_visible, taken_back, stepped}
use Rattle.wesl_scope_open.specs.Table.{Row, row, outer_rows, Opens, Declares, Closes}
use Rattle.wesl_scope_open.specs.declared.table.OpenBinders.{OpenBinders}
use Rattle.wesl_scope_open.specs.Named.{event_as, AreDistinct, Stands, AllStand, StandsOpen}
use Rattle.wesl_scope_open.proofs.Runs.{map_append}
use Rattle.wesl_scope_open.proofs.Forests.{is_ident, shape_in, Seen, a_binder, a_reference, a_word, no_ident, seen, level_by, blocks_unfold, events_unfold}

module _ {I J : Type 0} (f : I → J) where
  ident_respelled : (l : LabelOf I) → is_ident (respell_label f l) ≡ is_ident l
  ident_respelled (ident r x) = refl
  ident_respelled _ = refl

  shape_respelled : (l : LabelOf I) → shape_in (respell_label f l) ≡ shape_in l
  shape_respelled (ident r x) = refl
  shape_respelled _ = refl

  path_respelled : (sh : Shape) (c : ForestOf I) → path_of sh (respell_forest f c) ≡ path_of sh c
  path_respelled of_type end = refl
  path_respelled of_type (tree l end o) = refl
  path_respelled of_type (tree l (tree (path p) c u) o) = refl
  path_respelled of_type (tree l (tree _ c u) o) = refl
  path_respelled _ c = refl

  blocks_one : (l : LabelOf I) → Seen l → (c o : ForestOf I) → blocks_in (respell_forest f c) ≡ blocks_in c → blocks_in (respell_forest f o) ≡ blocks_in o → blocks_in (respell_forest f (tree l c o)) ≡ blocks_in (tree l c o)
  blocks_one _ (a_binder x) c o e g = g
  blocks_one _ (a_reference x) c o e g = g
  blocks_one _ (a_word x) c o e g = g
  blocks_one _ (no_ident l n) c o e g =
      blocks_unfold (respell_label f l) (respell_forest f c) (respell_forest f o) (ident_respelled l ∙ n)
      ∙ (ap (λ s. opens_in s + blocks_in (respell_forest f c) + blocks_in (respell_forest f o)) (shape_respelled l) ∙ (ap₂ (λ a b. opens_in (shape_in l) + a + b) e g ∙ sym (blocks_unfold l c o n)))

  blocks_respelled : (c : ForestOf I) → blocks_in (respell_forest f c) ≡ blocks_in c
  blocks_respelled end = refl
  blocks_respelled (tree l c o) = blocks_one l (seen l) c o (blocks_respelled c) (blocks_respelled o)

  within_as : (b : Bool) (es : List (EventOf I)) → map (event_as f) (within b es) ≡ within b (map (event_as f) es)
  within_as true es = ap (λ y. opens ∷ y) (map_append (event_as f) es (closes ∷ []))
  within_as false es = refl

  beginning_as : (b : Bool) → map (event_as f) (beginning b) ≡ beginning b
  beginning_as true = refl
  beginning_as false = refl

  ending_as : (h : Here) (r : Standing) (x : I) → map (event_as f) (ending h r x) ≡ ending h r (f x)
  ending_as h (local e) x = refl
  ending_as h module_name x = refl
  ending_as h parameter x = refl
  ending_as h (reference_standing y) x = refl
  ending_as h word_standing x = refl

  abbrev AreAs : ForestOf I → Type 0
  AreAs c = (level : Level) (q : ℕ) → map (event_as f) (events_from level q c) ≡ events_from level q (respell_forest f c)

  one_ident : (r : Role) (x : I) (c o : ForestOf I) → AreAs o → AreAs (tree (ident r x) c o)
  one_ident r x c o h level q =
      let st = standing r level.node 0 in
      let here = here_in level.node in
      let one : List (EventOf I) = meets here st x ∷ [] in
      map_append (event_as f) (beginning level.is_global) (within (is_second (next_part level.parts)) one ++ (events_from (after_level level) q o ++ ending here st x))
      ∙ ap₂ (λ a b. a ++ b) (beginning_as level.is_global)
      (map_append (event_as f) (within (is_second (next_part level.parts)) one) (events_from (after_level level) q o ++ ending here st x)
      ∙ ap₂ (λ a b. a ++ b) (within_as (is_second (next_part level.parts)) one)
      (map_append (event_as f) (events_from (after_level level) q o) (ending here st x) ∙ ap₂ (λ a b. a ++ b) (h (after_level level) q) (ending_as here st x)))

  abbrev level_with : Shape → Option Path → ℕ → Here → Part → Level
  level_with sh by q here part = record { node = record (node_by {I = I} sh end (numbers_at q) here) { path = by }; parts = map part_of (fields sh); is_global = is_of_module part }

  one_node : (l : LabelOf I) → is_ident l ≡ false → (c o : ForestOf I) → AreAs c → AreAs o → AreAs (tree l c o)
  one_node l n c o hc ho level q =
      let sh = shape_in l in
      let here = here_in level.node in
      let part = next_part level.parts in
      let c' = respell_forest f c in
      let o' = respell_forest f o in
      let inner = events_from (level_by sh c q here part) (q + opens_in sh) c in
      let rest = events_from (after_level level) (q + opens_in sh + blocks_in c) o in
      let same_inner : map (event_as f) inner ≡ events_from (level_by sh c' q here part) (q + opens_in sh) c' =
      hc (level_by sh c q here part) (q + opens_in sh) ∙ ap (λ y. events_from (level_with sh y q here part) (q + opens_in sh) c') (sym (path_respelled sh c)) in
      let same_rest : map (event_as f) rest ≡ events_from (after_level level) (q + opens_in sh + blocks_in c') o' =
      ho (after_level level) (q + opens_in sh + blocks_in c) ∙ ap (λ y. events_from (after_level level) (q + opens_in sh + y) o') (sym (blocks_respelled c)) in
      ap (map (event_as f)) (events_unfold l c o level q n)
      ∙ (map_append (event_as f) (beginning level.is_global) (within (is_second part) (within (is_some (opens_in sh)) inner) ++ rest)
      ∙ (ap₂ (λ a b. a ++ b) (beginning_as level.is_global)
      (map_append (event_as f) (within (is_second part) (within (is_some (opens_in sh)) inner)) rest
      ∙ ap₂ (λ a b. a ++ b) (within_as (is_second part) (within (is_some (opens_in sh)) inner) ∙ ap (within (is_second part)) (within_as (is_some (opens_in sh)) inner ∙ ap (within (is_some (opens_in sh))) same_inner)) same_rest)
      ∙ (ap (λ s. beginning level.is_global ++ (within (is_second part) (within (is_some (opens_in s)) (events_from (level_by s c' q here part) (q + opens_in s) c')) ++ events_from (after_level level) (q + opens_in s + blocks_in c') o')) (sym (shape_respelled l))
      ∙ sym (events_unfold (respell_label f l) c' o' level q (ident_respelled l ∙ n)))))

  one_as : (l : LabelOf I) → Seen l → (c o : ForestOf I) → AreAs c → AreAs o → AreAs (tree l c o)
  one_as _ (a_binder x) c o hc ho = one_ident binder x c o ho
  one_as _ (a_reference x) c o hc ho = one_ident reference x c o ho
  one_as _ (a_word x) c o hc ho = one_ident word x c o ho
  one_as _ (no_ident l n) c o hc ho = one_node l n c o hc ho

  pub events_as : (c : ForestOf I) → AreAs c
  events_as end = λ level q. refl
  events_as (tree l c o) = one_as l (seen l) c o (events_as c) (events_as o)

-- the events of a unit with names in place of numbers
pub events_spelled : (u : UnitView) → map (event_as (name_in u.names)) (events (trees_of u)) ≡ events (spelled u)
events_spelled u = events_as (name_in u.names) (forest_of_unit (trees_of u)) (plain_level outermost (of_none ∷ of_none ∷ of_module ∷ [])) 1

-- ---- rows
pub row_declared : (names : List Text) → AreDistinct names → (r : Row) (v : Readings) (k b : ℕ) → k < length names → Stands names r v → Stands names (set r k (Some b)) (with_visible (name_in names k) b v)
row_declared names apart r v k b h s = record { as_wide = length-set r k (Some b) ∙ s.as_wide; reads = λ j i. by j i (bytes_eq (name_in names k) (name_in names j)) refl }
  where
    by : (j : ℕ) → j < length names → (t : Bool) → bytes_eq (name_in names k) (name_in names j) ≡ t → get_or (set r k (Some b)) j None ≡ (if bytes_eq (name_in names k) (name_in names j) then Some b else v (name_in names j))
    by j i true e =
        let same : k ≡ j = apart k j h i ((bytes_eq-Decides (name_in names k) (name_in names j)).0 e) in
        ap (λ y. get_or (set r k (Some b)) y None) (sym same) ∙ (get_or-set_same r k (Some b) None (omega (arith, h, s.as_wide)) ∙ sym (ap (λ t. if t then Some b else v (name_in names j)) e))
    by j i false e =
        let other : j ≡ k → ⊥ = λ f. let g : false ≡ true = sym e ∙ (bytes_eq-Decides (name_in names k) (name_in names j)).1 (ap (name_in names) (sym f)) in let z : ⊥ = cc in z in
        get_or-set_other r k j (Some b) None other ∙ (s.reads j i ∙ sym (ap (λ t. if t then Some b else v (name_in names j)) e))

-- ---- what the table does at events is what the events do
module _ (names : List Text) (old new : OpenBinders ℕ) (s : Open) (kept : new.is_refused ≡ false) (is : StandsOpen names (row old) (outer_rows old) s) where
  pub at_opening : Opens old new → StandsOpen names (row new) (outer_rows new) (stepped s opens)
  at_opening o = record {
    now = subst (λ r. Stands names r s.reads) (sym o.reads) is.now;
    outer = subst (λ rs. AllStand names rs (s.reads ∷ s.outer)) (sym (o.outer kept)) (is.now, is.outer);
  }

  pub at_end : AreDistinct names → (k : ℕ) → k < length names → (here : Here) → Declares old new k here.block → StandsOpen names (row new) (outer_rows new) (stepped s (ends here (name_in names k)))
  at_end apart k h here d = record {
    now = subst (λ r. Stands names r (with_visible (name_in names k) here.block s.reads)) (sym d.reads) (row_declared names apart (row old) s.reads k here.block h is.now);
    outer = subst (λ rs. AllStand names rs s.outer) (sym (d.outer kept)) is.outer;
  }

  pub at_parameter : AreDistinct names → (k : ℕ) → k < length names → (here : Here) → Declares old new k here.block → StandsOpen names (row new) (outer_rows new) (stepped s (meets here parameter (name_in names k)))
  at_parameter apart k h here d = record {
    now = subst (λ r. Stands names r (with_visible (name_in names k) here.block s.reads)) (sym d.reads) (row_declared names apart (row old) s.reads k here.block h is.now);
    outer = subst (λ rs. AllStand names rs s.outer) (sym (d.outer kept)) is.outer;
  }

  pub at_closing : (v : Readings) (vs : List Readings) → s.outer ≡ v ∷ vs → Closes old new → StandsOpen names (row new) (outer_rows new) (stepped s closes)
  at_closing v vs e c = by (outer_rows old) refl (subst (AllStand names (outer_rows old)) e is.outer)
    where
      by : (rs : List Row) → outer_rows old ≡ rs → AllStand names rs (v ∷ vs) → StandsOpen names (row new) (outer_rows new) (stepped s closes)
      by (r ∷ rs) f g =
          let t = c.taken_back r rs f in
          subst (λ o. StandsOpen names (row new) (outer_rows new) (taken_back o s)) (sym e)
          (record { now = subst (λ y. Stands names y v) (sym t.0) g.0; outer = subst (λ ys. AllStand names ys vs) (sym t.1) g.1 })
      by [] f g = absurd g
