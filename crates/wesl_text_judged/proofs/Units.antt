-- What answers leave of a writable unit in which no fault stands.
use Rattle.std.proofs.Common.{◌≡◌, ◌↔◌, Bool, true, false, not, ◌&&◌, ◌||◌, if◌then◌else◌, [], Some, None, is_some, refl, sym as turned, ap, ap₂, subst}
use Rattle.std.proofs.lemmas.Bool.{and_parts}
use Rattle.wesl_tree_names.specs.Path.{Text}
use Rattle.wesl_tree_syntax.specs.Tree.{Tree, at, end, tree, respell, statement_node, imports as imports_kind, directive_list, declarations as declarations_kind}
use Rattle.wesl_tree_syntax.specs.Unit.{UnitOf, UnitView, forest_of_unit, name_in, spelled}
use Rattle.wesl_text_form.specs.Productions.{Sort, an_import, a_directive, a_declaration}
use Rattle.wesl_text_form.specs.Spelling.{Label, Forest, Slots, spells, followed, slots, unit_row, is_kind, is_end, below_first, from_place, ends_open, begins_enclosed, are_apart}
use Rattle.wesl_text_form.specs.Says.{IsWritable}
use Rattle.wesl_text_reading.proofs.KindsAgain.{end_is, label_is}
use Rattle.wesl_text_respell.specs.Joined.{IsUnit, AreParts, AreWritableAs}
use Rattle.wesl_text_respell.proofs.Units.{units_of_parts, where_there}
use Rattle.wesl_cond_features.specs.Features.{Replies, known, by_number}
use Rattle.wesl_cond_chains.specs.Conditions.{is_list}
use Rattle.wesl_cond_chains.specs.Laws.{IsFaultless}
use Rattle.wesl_cond_chains.specs.Residual.{first_tree, residual_tree, residual_unit}
use Rattle.wesl_cond_chains.proofs.Clear.{Clear, clear_first, clear_others}
use Rattle.wesl_cond_chains.proofs.Natural.{through_natural}
use Rattle.wesl_cond_chains.proofs.NaturalFaults.{spelling_tells_faults}
use Rattle.wesl_cond_unit.specs.Left.{left_of}
use Rattle.wesl_text_left.specs.Apart.{is_of_list, has_target, ends_before_target}
use Rattle.wesl_text_left.proofs.Read.{both_there}
use Rattle.wesl_text_left.proofs.Marks.{there_writable}
use Rattle.wesl_text_judged.specs.Within.{all_end_within, is_bare, all_bare_within}
use Rattle.wesl_text_judged.specs.Laws.{LeftUnits, BareUnits, LeftViews}
use Rattle.wesl_text_judged.proofs.There.{there_in}
use Rattle.wesl_text_judged.proofs.Follow.{Follow, follow}
use Rattle.wesl_text_judged.proofs.Through.{within, list_left}

-- a unit that is writable is one of imports, directives and declarations
whole_unit : (u : UnitOf Text) → is_some (slots u) ≡ true → IsUnit u
whole_unit u h =
    let g : Slots = (spells u.declarations.children).all a_declaration in
    let d : Slots = (spells u.directives.children).all a_directive in
    let i : Slots = (spells u.imports.children).all an_import in
    let last : Slots = if is_kind declarations_kind (Some u.declarations.label) then followed g (Some []) else None in
    let middle : Slots = if is_kind directive_list (Some u.directives.label) then followed d last else None in
    let x : (is_kind imports_kind (Some u.imports.label) ≡ true) × (is_some (followed i middle) ≡ true) = where_there (is_kind imports_kind (Some u.imports.label)) (followed i middle) h in
    let y : (is_kind directive_list (Some u.directives.label) ≡ true) × (is_some (followed d last) ≡ true) = where_there (is_kind directive_list (Some u.directives.label)) (followed d last) (both_there i middle x.1).1 in
    let z : (is_kind declarations_kind (Some u.declarations.label) ≡ true) × (is_some (followed g (Some [])) ≡ true) = where_there (is_kind declarations_kind (Some u.declarations.label)) (followed g (Some [])) (both_there d last y.1).1 in
    record { imports = label_is imports_kind u.imports.label x.0; directives = label_is directive_list u.directives.label y.0; declarations = label_is declarations_kind u.declarations.label z.0 }

-- what is printed has statements whose attributes end before their targets
pub units_in : (u : UnitOf Text) → IsWritable u ≡ true → all_end_within (forest_of_unit u) ≡ true
units_in u h = (there_in (forest_of_unit u)).0 unit_row (there_writable (slots u) h)

module _ (reply : Replies Text) where
  -- the list of a unit, as it is left
  part_left : (s : Sort) → is_of_list s ≡ true → (l : Label) (c : Forest) → is_list l ≡ true → Clear reply false (tree l c end) → AreWritableAs s c → all_end_within (within reply l c) ≡ true → AreWritableAs s (within reply l c)
  part_left s i l c j h w e = let x : Follow reply true c (within reply l c) = follow reply (list_left reply l c j h) in (x e).parts s i w

  -- of the three lists side by side
  three_end : (a b c : Label) (i d g : Forest) → all_end_within (tree a i (tree b d (tree c g end))) ≡ true → (all_end_within i ≡ true) × (all_end_within d ≡ true) × (all_end_within g ≡ true)
  three_end a b c i d g h =
      let x : (all_end_within i ≡ true) × (all_end_within (tree b d (tree c g end)) ≡ true) = and_parts (all_end_within i) (all_end_within (tree b d (tree c g end))) (and_parts (ends_before_target a i) (all_end_within i && all_end_within (tree b d (tree c g end))) h).1 in
      let y : (all_end_within d ≡ true) × (all_end_within (tree c g end) ≡ true) = and_parts (all_end_within d) (all_end_within (tree c g end)) (and_parts (ends_before_target b d) (all_end_within d && all_end_within (tree c g end)) x.1).1 in
      let z : (all_end_within g ≡ true) × (true ≡ true) = and_parts (all_end_within g) true (and_parts (ends_before_target c g) (all_end_within g && true) y.1).1 in
      (x.0, y.0, z.0)

  unit_left : (u : UnitOf Text) → IsWritable u ≡ true → IsFaultless reply u → all_end_within (forest_of_unit (residual_unit (known reply) u)) ≡ true → IsWritable (residual_unit (known reply) u) ≡ true
  unit_left u h clear e =
      let n : IsUnit u = whole_unit u (there_writable (slots u) h) in
      let v : UnitOf Text = residual_unit (known reply) u in
      let m : IsUnit v = record { imports = n.imports; directives = n.directives; declarations = n.declarations } in
      let w : AreParts u = (units_of_parts u n).0 h in
      let x : (all_end_within v.imports.children ≡ true) × (all_end_within v.directives.children ≡ true) × (all_end_within v.declarations.children ≡ true)
      = three_end v.imports.label v.directives.label v.declarations.label v.imports.children v.directives.children v.declarations.children e in
      let behind : Clear reply false (tree u.directives.label u.directives.children (tree u.declarations.label u.declarations.children end))
      = clear_others reply false u.imports.label u.imports.children (tree u.directives.label u.directives.children (tree u.declarations.label u.declarations.children end)) clear in
      (units_of_parts v m).1 (record {
        imports = part_left an_import refl u.imports.label u.imports.children (ap is_list n.imports) (clear_first reply false u.imports.label u.imports.children (tree u.directives.label u.directives.children (tree u.declarations.label u.declarations.children end)) clear) w.imports x.0;
        directives = part_left a_directive refl u.directives.label u.directives.children (ap is_list n.directives) (clear_first reply false u.directives.label u.directives.children (tree u.declarations.label u.declarations.children end) behind) w.directives x.1;
        declarations = part_left a_declaration refl u.declarations.label u.declarations.children (ap is_list n.declarations)
            (clear_others reply false u.directives.label u.directives.children (tree u.declarations.label u.declarations.children end) behind) w.declarations x.2;
      })

pub left_units : LeftUnits
left_units reply u h clear = ((λ w. units_in (residual_unit (known reply) u) w), (λ e. unit_left reply u h clear e))

-- ---- where no statement that assigns has attributes

bare_ends : (l : Label) (c : Forest) → is_bare l c ≡ true → ends_before_target l c ≡ true
bare_ends (at statement_node a b) end h = refl
bare_ends (at statement_node a b) (tree m c o) h = by (has_target m) h where
  apart : is_end (below_first c) ≡ true → are_apart c ≡ true
  apart e = ap (λ z. not (ends_open z && begins_enclosed (from_place 1 c))) (end_is (below_first c) e)

  by : (z : Bool) → (not z || is_end (below_first c)) ≡ true → (not z || are_apart c) ≡ true
  by true g = apart g
  by false g = refl
bare_ends l c h = refl

bare_within : (f : Forest) → all_bare_within f ≡ true → all_end_within f ≡ true
bare_within end h = refl
bare_within (tree l c o) h =
    let x : (is_bare l c ≡ true) × ((all_bare_within c && all_bare_within o) ≡ true) = and_parts (is_bare l c) (all_bare_within c && all_bare_within o) h in
    let y : (all_bare_within c ≡ true) × (all_bare_within o ≡ true) = and_parts (all_bare_within c) (all_bare_within o) x.1 in
    ap₂ (λ a b. a && b) (bare_ends l c x.0) (ap₂ (λ a b. a && b) (bare_within c y.0) (bare_within o y.1))

pub bare_units : BareUnits
bare_units reply u h clear b = unit_left reply u h clear (bare_within (forest_of_unit (residual_unit (known reply) u)) b)

-- ---- by the spelling

spelled_left : (reply : Replies Text) (u : UnitView) → spelled (left_of reply u) ≡ residual_unit (known reply) (spelled u)
spelled_left reply u =
    let one : (t : Tree) → respell (name_in u.names) (residual_tree (known (by_number u.names reply)) t) ≡ residual_tree (known reply) (respell (name_in u.names) t)
    = λ t. turned (ap (first_tree (respell (name_in u.names) t)) (through_natural (name_in u.names) (known (by_number u.names reply)) (known reply) (λ i. refl) false (tree t.label t.children end))) in
    rw (one u.imports, one u.directives, one u.declarations) refl

pub left_views : LeftViews
left_views reply u h clear =
    subst (λ v. (IsWritable v ≡ true) ↔ (all_end_within (forest_of_unit v) ≡ true)) (turned (spelled_left reply u)) (left_units reply (spelled u) h ((spelling_tells_faults reply u).0 clear))
