-- A unit is writable exactly where each of its parts is.
use Rattle.std.proofs.Common.{◌≡◌, ◌<◌, ℕ, zero, suc, Bool, true, false, if◌then◌else◌, List, [], ◌∷◌, ◌++◌, length, Some, None, is_some, refl, sym as turned, ap, ◌∙◌, subst, append_assoc, arith, get_or}
use Rattle.std.specs.List.{Contains}
use Rattle.wesl_tree_names.specs.Path.{Text}
use Rattle.wesl_tree_syntax.specs.Tree.{kind, TreeOf, end, tree, trees, imports, directive_list, declarations}
use Rattle.wesl_tree_syntax.specs.Unit.{UnitOf}
use Rattle.wesl_text_form.specs.Slots.{Slot, must, may, alone, slot_tokens, fewest}
use Rattle.wesl_text_form.specs.Productions.{Sort, an_import, a_directive, a_declaration, Row, nothing, run}
use Rattle.wesl_text_form.specs.Spelling.{Label, Forest, Slots, spells, followed, first_slots, is_kind, slots, unit_row}
use Rattle.wesl_text_form.specs.Says.{IsWritable, spelling_as}
use Rattle.wesl_text_reading.proofs.Filled.{no_true}
use Rattle.wesl_text_reading.proofs.KindsAgain.{label_is}
use Rattle.wesl_text_writable.proofs.Quiet.{mark_first, filled_is}
use Rattle.wesl_text_writable.proofs.Clear.{are_hard, are_clear, clear_filled}
use Rattle.wesl_text_writable.proofs.HardTrees.{rows_are_hard}
use Rattle.wesl_text_writable.proofs.ClearTrees.{rows_are_clear}
use Rattle.wesl_text_writable.proofs.MadeApart.{AreMeant}
use Rattle.wesl_text_respell.specs.Joined.{IsUnit, AreWritableAs, IsPartOf}
use Rattle.wesl_text_respell.specs.Laws.{UnitsOfParts, JoinedUnits}
use Rattle.wesl_text_respell.proofs.Rests.{unknown, rests}
use Rattle.wesl_text_respell.proofs.Lists.{rest_fewest, Comes}
use Rattle.wesl_text_respell.proofs.Parts.{import_comes, directive_comes, declaration_comes}
use Rattle.wesl_text_respell.proofs.Joined.{meant_joined, meant_apart}
use Rattle.wesl_text_respell.proofs.Writable.{are_writable, meant_of_writable, writable_of_meant}

-- ---- slots and others

pub fewest_joined : (ss us : List Slot) → fewest (ss ++ us) ≡ fewest ss ++ fewest us
fewest_joined [] us = refl
fewest_joined (must t ∷ ss) us = ap (λ z. t ∷ z) (fewest_joined ss us)
fewest_joined (may t ∷ ss) us = fewest_joined ss us
fewest_joined (alone ∷ ss) us = ap (λ z. slot_tokens alone ++ z) (fewest_joined ss us)

-- what is printed begins with no sign on which what comes before may depend
abbrev Unmarked : Slots → Type 0
Unmarked None = Unit {0}
Unmarked (Some us) = mark_first (fewest us) ≡ false

unmarked : (a : Slots) → are_hard true a ≡ true → are_clear true a ≡ true → Unmarked a
unmarked None h c = tt
unmarked (Some us) h c = (filled_is us (fewest us) c (clear_filled us c)).1 h

both_writable : (a c : Slots) → Comes unknown a rests → Unmarked c → are_writable a ≡ true → are_writable c ≡ true → are_writable (followed a c) ≡ true
both_writable None c q m h g = absurd (no_true h)
both_writable (Some ss) None q m h g = absurd (no_true g)
both_writable (Some ss) (Some us) q m h g =
    writable_of_meant (ss ++ us) (subst AreMeant (turned (fewest_joined ss us)) (meant_joined (fewest ss) (fewest us) (rest_fewest ss unknown ∙ q) m (meant_of_writable ss h) (meant_of_writable us g)))

each_writable : (a c : Slots) → Comes unknown a rests → Unmarked c → are_writable (followed a c) ≡ true → (are_writable a ≡ true) × (are_writable c ≡ true)
each_writable None c q m h = absurd (no_true h)
each_writable (Some ss) None q m h = absurd (no_true h)
each_writable (Some ss) (Some us) q m h =
    let x : AreMeant (fewest ss) × AreMeant (fewest us) = meant_apart (fewest ss) (fewest us) (rest_fewest ss unknown ∙ q) m (subst AreMeant (fewest_joined ss us) (meant_of_writable (ss ++ us) h)) in
    (writable_of_meant ss x.0, writable_of_meant us x.1)

followed_again : (a b c : Slots) → followed (followed a b) c ≡ followed a (followed b c)
followed_again None b c = refl
followed_again (Some ss) None c = refl
followed_again (Some ss) (Some us) None = refl
followed_again (Some ss) (Some us) (Some ts) = ap (λ z. Some z) (append_assoc ss us ts)

nothing_first : (a : Slots) → followed (Some []) a ≡ a
nothing_first None = refl
nothing_first (Some ss) = refl

-- ---- parts of a sort, and what is behind them

module _ (s : Sort) (comes : (l : Label) (c : Forest) → Comes unknown (first_slots l c (spells c) s) rests) (behind : Slots) (plain : (f : Forest) → Unmarked (followed ((spells f).all s) behind)) where
  all_writable : (f : Forest) → AreWritableAs s f → are_writable behind ≡ true → are_writable (followed ((spells f).all s) behind) ≡ true
  all_writable end a h = ap are_writable (nothing_first behind) ∙ h
  all_writable (tree l c o) a h =
      ap are_writable (followed_again (first_slots l c (spells c) s) ((spells o).all s) behind)
      ∙ both_writable (first_slots l c (spells c) s) (followed ((spells o).all s) behind) (comes l c) (plain o) a.0 (all_writable o a.1 h)

  each_part : (f : Forest) → are_writable (followed ((spells f).all s) behind) ≡ true → AreWritableAs s f × (are_writable behind ≡ true)
  each_part end h = (tt, turned (ap are_writable (nothing_first behind)) ∙ h)
  each_part (tree l c o) h =
      let x : (are_writable (first_slots l c (spells c) s) ≡ true) × (are_writable (followed ((spells o).all s) behind) ≡ true)
      = each_writable (first_slots l c (spells c) s) (followed ((spells o).all s) behind) (comes l c) (plain o) (turned (ap are_writable (followed_again (first_slots l c (spells c) s) ((spells o).all s) behind)) ∙ h) in
      let y : AreWritableAs s o × (are_writable behind ≡ true) = each_part o x.1 in
      ((x.0, y.0), y.1)

-- ---- units

-- declarations, and what stands before them
abbrev declared : Forest → Slots
declared g = followed ((spells g).all a_declaration) (Some [])

abbrev directed : Forest → Forest → Slots
directed d g = followed ((spells d).all a_directive) (declared g)

abbrev imported : Forest → Forest → Forest → Slots
imported i d g = followed ((spells i).all an_import) (directed d g)

abbrev last_row : Row
last_row = run declarations a_declaration nothing

abbrev middle_row : Row
middle_row = run directive_list a_directive last_row

declared_plain : (g : Forest) → Unmarked (declared g)
declared_plain g = unmarked (declared g) (rows_are_hard (tree (kind declarations) g end) last_row true refl) (rows_are_clear (tree (kind declarations) g end) last_row true refl)

directed_plain : (d g : Forest) → Unmarked (directed d g)
directed_plain d g = unmarked (directed d g) (rows_are_hard (tree (kind directive_list) d (tree (kind declarations) g end)) middle_row true refl) (rows_are_clear (tree (kind directive_list) d (tree (kind declarations) g end)) middle_row true refl)

imported_plain : (i d g : Forest) → Unmarked (imported i d g)
imported_plain i d g =
    unmarked (imported i d g) (rows_are_hard (tree (kind imports) i (tree (kind directive_list) d (tree (kind declarations) g end))) unit_row true refl)
    (rows_are_clear (tree (kind imports) i (tree (kind directive_list) d (tree (kind declarations) g end))) unit_row true refl)

abbrev unit_slots : Label → Label → Label → Forest → Forest → Forest → Slots
unit_slots a b c i d g = (spells (tree a i (tree b d (tree c g end)))).row unit_row

parts_joined : (i d g : Forest) → AreWritableAs an_import i → AreWritableAs a_directive d → AreWritableAs a_declaration g → are_writable (imported i d g) ≡ true
parts_joined i d g x y z =
    all_writable an_import (λ l c. import_comes l c unknown) (directed d g) (λ f. imported_plain f d g) i x
    (all_writable a_directive (λ l c. directive_comes l c unknown) (declared g) (λ f. directed_plain f g) d y
    (all_writable a_declaration (λ l c. declaration_comes l c unknown) (Some []) declared_plain g z refl))

parts_apart : (i d g : Forest) → are_writable (imported i d g) ≡ true → AreWritableAs an_import i × AreWritableAs a_directive d × AreWritableAs a_declaration g
parts_apart i d g h =
    let x : AreWritableAs an_import i × (are_writable (directed d g) ≡ true) = each_part an_import (λ l c. import_comes l c unknown) (directed d g) (λ f. imported_plain f d g) i h in
    let y : AreWritableAs a_directive d × (are_writable (declared g) ≡ true) = each_part a_directive (λ l c. directive_comes l c unknown) (declared g) (λ f. directed_plain f g) d x.1 in
    (x.0, y.0, (each_part a_declaration (λ l c. declaration_comes l c unknown) (Some []) declared_plain g y.1).0)

slots_are : (u : UnitOf Text) → IsUnit u → slots u ≡ imported u.imports.children u.directives.children u.declarations.children
slots_are u n =
    ap (λ z. unit_slots z u.directives.label u.declarations.label u.imports.children u.directives.children u.declarations.children) n.imports
    ∙ (ap (λ z. unit_slots (kind imports) z u.declarations.label u.imports.children u.directives.children u.declarations.children) n.directives
    ∙ ap (λ z. unit_slots (kind imports) (kind directive_list) z u.imports.children u.directives.children u.declarations.children) n.declarations)

pub units_of_parts : UnitsOfParts
units_of_parts u n = (
  (λ h.
      let x : AreWritableAs an_import u.imports.children × AreWritableAs a_directive u.directives.children × AreWritableAs a_declaration u.declarations.children
      = parts_apart u.imports.children u.directives.children u.declarations.children (turned (ap are_writable (slots_are u n)) ∙ h) in
      record { imports = x.0; directives = x.1; declarations = x.2 }),
  (λ p. ap are_writable (slots_are u n) ∙ parts_joined u.imports.children u.directives.children u.declarations.children p.imports p.directives p.declarations),
)

-- ---- a unit that is writable is one

-- slots by a test are there where it holds
where_so : (b : Bool) (x : Slots) → are_writable (if b then x else None) ≡ true → (b ≡ true) × (are_writable x ≡ true)
where_so true x h = (refl, h)
where_so false x h = absurd (no_true h)

behind_there : (a c : Slots) → are_writable (followed a c) ≡ true → is_some c ≡ true
behind_there None c h = absurd (no_true h)
behind_there (Some ss) None h = absurd (no_true h)
behind_there (Some ss) (Some us) h = refl

pub where_there : (b : Bool) (x : Slots) → is_some (if b then x else None) ≡ true → (b ≡ true) × (is_some x ≡ true)
where_there true x h = (refl, h)
where_there false x h = absurd (no_true h)

last_there : (a c : Slots) → is_some (followed a c) ≡ true → is_some c ≡ true
last_there None c h = absurd (no_true h)
last_there (Some ss) None h = absurd (no_true h)
last_there (Some ss) (Some us) h = refl

is_unit : (u : UnitOf Text) → IsWritable u ≡ true → IsUnit u
is_unit u h =
    let i : Forest = u.imports.children in
    let d : Forest = u.directives.children in
    let g : Forest = u.declarations.children in
    let last : Slots = if is_kind declarations (Some u.declarations.label) then followed ((spells g).all a_declaration) (Some []) else None in
    let middle : Slots = if is_kind directive_list (Some u.directives.label) then followed ((spells d).all a_directive) last else None in
    let x : (is_kind imports (Some u.imports.label) ≡ true) × (are_writable (followed ((spells i).all an_import) middle) ≡ true) = where_so (is_kind imports (Some u.imports.label)) (followed ((spells i).all an_import) middle) h in
    let y : (is_kind directive_list (Some u.directives.label) ≡ true) × (is_some (followed ((spells d).all a_directive) last) ≡ true)
    = where_there (is_kind directive_list (Some u.directives.label)) (followed ((spells d).all a_directive) last) (behind_there ((spells i).all an_import) middle x.1) in
    let z : (is_kind declarations (Some u.declarations.label) ≡ true) × (is_some (followed ((spells g).all a_declaration) (Some [])) ≡ true)
    = where_there (is_kind declarations (Some u.declarations.label)) (followed ((spells g).all a_declaration) (Some [])) (last_there ((spells d).all a_directive) last y.1) in
    record { imports = label_is imports u.imports.label x.0; directives = label_is directive_list u.directives.label y.0; declarations = label_is declarations u.declarations.label z.0 }

-- ---- parts of writable units

one_of : (s : Sort) (f : Forest) (t : TreeOf Text) → AreWritableAs s f → Contains (trees f) t → is_some (spelling_as s t) ≡ true
one_of s end t a c = absurd (let z : ⊥ = omega (arith, c.1) in z)
one_of s (tree l x o) t a c = by (λ d. one_of s o t a.1 d) c.0 c.1 c.2 where
  by : (Contains (trees o) t → is_some (spelling_as s t) ≡ true) → (k : ℕ) → k < suc (length (trees o)) → get_or (record { label = l; children = x } ∷ trees o) k t ≡ t → is_some (spelling_as s t) ≡ true
  by f zero h e = ap (λ z. is_some (spelling_as s z)) (turned e) ∙ a.0
  by f (suc k) h e = f (k, omega (arith, h), e)

all_of : (s : Sort) (f : Forest) → ((t : TreeOf Text) → Contains (trees f) t → is_some (spelling_as s t) ≡ true) → AreWritableAs s f
all_of s end h = tt
all_of s (tree l x o) h = (h (record { label = l; children = x }) (zero, omega arith, refl), all_of s o (λ t c. h t (suc c.0, omega (arith, c.1), c.2)))

pub joined_units : JoinedUnits
joined_units u n none d g =
    (units_of_parts u n).1 (record {
      imports = subst (AreWritableAs an_import) (turned none) tt;
      directives = all_of a_directive u.directives.children (λ t c.
          let x : IsPartOf (λ v. v.directives) t = d t c in
          one_of a_directive x.0.directives.children t ((units_of_parts x.0 (is_unit x.0 x.1)).0 x.1).directives x.2);
      declarations = all_of a_declaration u.declarations.children (λ t c.
          let x : IsPartOf (λ v. v.declarations) t = g t c in
          one_of a_declaration x.0.declarations.children t ((units_of_parts x.0 (is_unit x.0 x.1)).0 x.1).declarations x.2);
    })
