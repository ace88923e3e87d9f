-- A unit that is read of what a unit was written as is what the form shows of that unit.
use Rattle.std.specs.Prelude.{option_map}
use Rattle.std.proofs.Common.{◌≡◌, ℕ, suc, ◌<◌, Bool, true, false, if◌then◌else◌, Option, Some, None, refl, sym, ap, ap₂, ◌∙◌, subst, arith, All, ◌++◌, ◌∷◌}
use Rattle.serde_json.specs.Data.{Data, depth}
use Rattle.wesl_tree_names.specs.Path.{Text}
use Rattle.wesl_tree_names.specs.declared.errors.Error as error
use Rattle.wesl_tree_syntax.specs.Tree.{LabelOf, ForestOf, end, tree, kind, at, ident, text, texts, truth, unary, binary, assignment, space, access, path, unit, respell_label, respell_forest}
use Rattle.wesl_tree_syntax.specs.Shown.{placed, shown_label, shown_forest}
use Rattle.wesl_tree_syntax.specs.Unit.{UnitOf, UnitView, forest_of_unit, spelled, name_in, trees_of}
use Rattle.wesl_tree.specs.Translation.{unit_view}
use Rattle.wesl_tree.specs.declared.unit.TranslationUnit.{TranslationUnit}
use Rattle.wesl_json_form.specs.Schema.{Spelled, SpelledForest, node, a_unit}
use Rattle.wesl_json_form.specs.Reading.{reading}
use Rattle.wesl_json_form.specs.Units.{form_of, shown_unit, unit_tree, written_as, IsNoUnit, IsUnitOf}
use Rattle.wesl_json_light.specs.Readable as laws
use Rattle.wesl_json_light.specs.Readable.{are_readable, IsReadable, UnitsReadBack}
use Rattle.wesl_json_read.specs.Faults.{IfPlace}
use Rattle.wesl_json.specs.UnitTexts.{IsSpelled, bare}
use Rattle.wesl_resolve_base.specs.UnitText as resolved
use Rattle.wesl_resolve_base.specs.UnitText.{HasTextPaths}

-- ---- a unit is one with its tree

no_unit : UnitOf Text
no_unit =
    let leaf : Spelled = record { label = kind unit; children = end } in
    record { imports = leaf; directives = leaf; declarations = leaf }

abbrev unit_from : SpelledForest → UnitOf Text
unit_from (tree i is (tree d ds (tree g gs end))) = record { imports = record { label = i; children = is }; directives = record { label = d; children = ds }; declarations = record { label = g; children = gs } }
unit_from _ = no_unit

unit_tree-one : (u v : UnitOf Text) → unit_tree u ≡ unit_tree v → u ≡ v
unit_tree-one u v e = ap (λ (t : Spelled). unit_from t.children) e

abbrev of_some : Spelled → Option Spelled → Spelled
of_some t None = t
of_some t (Some s) = s

-- ---- two readings of one value

-- what is read of the value, at each number of levels above its depth
abbrev pub IsReading : Data → Option Spelled → Type 0
IsReading d o = (n : ℕ) → depth d < n → reading (form_of d) n (node a_unit) d ≡ o

one-reading : (d : Data) (o p : Option Spelled) → IsReading d o → IsReading d p → o ≡ p
one-reading d o p first second =
    let low : depth d < suc (depth d) = omega arith in
    sym (first (suc (depth d)) low) ∙ second (suc (depth d)) low

if-read : (b : Bool) (u v : UnitOf Text) → Some (unit_tree v) ≡ (if b then Some (unit_tree u) else None) → (b ≡ true) × (v ≡ u)
if-read true u v e = (refl, unit_tree-one v u (ap (of_some (unit_tree v)) e))
if-read false u v e = absurd (let x : ⊥ = cc in x)

if-unread : (b : Bool) (u : UnitOf Text) → None ≡ (if b then Some (unit_tree u) else None) → b ≡ true → ⊥
if-unread true u e r = cc
if-unread false u e r = cc

-- ---- the law, at a spelling and a value

-- two words for the paths of a tree
same-paths : (t : ForestOf Text) → resolved.paths t ≡ laws.paths t
same-paths end = refl
same-paths (tree (kind k) children others) = ap₂ (λ xs ys. xs ++ ys) (same-paths children) (same-paths others)
same-paths (tree (at k a b) children others) = ap₂ (λ xs ys. xs ++ ys) (same-paths children) (same-paths others)
same-paths (tree (ident r x) children others) = ap₂ (λ xs ys. xs ++ ys) (same-paths children) (same-paths others)
same-paths (tree (text x) children others) = ap₂ (λ xs ys. xs ++ ys) (same-paths children) (same-paths others)
same-paths (tree (texts xs) children others) = ap₂ (λ xs ys. xs ++ ys) (same-paths children) (same-paths others)
same-paths (tree (truth b) children others) = ap₂ (λ xs ys. xs ++ ys) (same-paths children) (same-paths others)
same-paths (tree (unary o) children others) = ap₂ (λ xs ys. xs ++ ys) (same-paths children) (same-paths others)
same-paths (tree (binary o) children others) = ap₂ (λ xs ys. xs ++ ys) (same-paths children) (same-paths others)
same-paths (tree (assignment o) children others) = ap₂ (λ xs ys. xs ++ ys) (same-paths children) (same-paths others)
same-paths (tree (space s) children others) = ap₂ (λ xs ys. xs ++ ys) (same-paths children) (same-paths others)
same-paths (tree (access m) children others) = ap₂ (λ xs ys. xs ++ ys) (same-paths children) (same-paths others)
same-paths (tree (path p) children others) = ap₂ (λ xs ys. p ∷ (xs ++ ys)) (same-paths children) (same-paths others)

have-texts : (s : UnitOf Text) → HasTextPaths s → All laws.HasText (laws.paths (forest_of_unit s))
have-texts s h = subst (All laws.HasText) (same-paths (forest_of_unit s)) h

-- what the law says of a unit that is spelled and shown so, and of the value that it is written as
abbrev IsLaw : UnitOf Text → UnitOf Text → Data → Type 0
IsLaw s t d = All laws.HasText (laws.paths (forest_of_unit s)) → IsReading d (if are_readable (kind unit) (forest_of_unit t) then Some (unit_tree t) else None)

along : (s t : UnitOf Text) (d e : Data) → IsLaw s t e → d ≡ e → IsLaw s t d
along s t d e law same = subst (IsLaw s t) (sym same) law

read-as : (s t v : UnitOf Text) (d e : Data) → IsLaw s t e → d ≡ e → HasTextPaths s → IsReading d (Some (unit_tree v)) → IsReadable t × (v ≡ t)
read-as s t v d e law same paths r = if-read (are_readable (kind unit) (forest_of_unit t)) t v (one-reading d _ _ r (along s t d e law same (have-texts s paths)))

not-unread : (s t : UnitOf Text) (d e : Data) → IsLaw s t e → d ≡ e → HasTextPaths s → IsNoUnit d → IsReadable t → ⊥
not-unread s t d e law same paths none r = if-unread (are_readable (kind unit) (forest_of_unit t)) t (one-reading d _ _ (λ n _. none n) (along s t d e law same (have-texts s paths))) r

-- ---- the law, at a unit

pub read-written : UnitsReadBack → (spans : Bool) (u : TranslationUnit) (d : Data) → d ≡ written_as spans (unit_view u) → HasTextPaths (spelled (unit_view u)) → (v : UnitOf Text) → IsReading d (Some (unit_tree v))
    → IsReadable (shown_unit spans (unit_view u)) × (v ≡ shown_unit spans (unit_view u))
read-written back spans u d same paths v r = read-as (spelled (unit_view u)) (shown_unit spans (unit_view u)) v d (written_as spans (unit_view u)) (back spans u) same paths r

pub readable-read : UnitsReadBack → (spans : Bool) (u : TranslationUnit) (d : Data) → d ≡ written_as spans (unit_view u) → HasTextPaths (spelled (unit_view u)) → IsNoUnit d → IsReadable (shown_unit spans (unit_view u)) → ⊥
readable-read back spans u d same paths none r = not-unread (spelled (unit_view u)) (shown_unit spans (unit_view u)) d (written_as spans (unit_view u)) (back spans u) same paths none r

-- ---- spans aside

module _ {I : Type 0} (f : I → Text) where
  bare_label : (l : LabelOf I) → respell_label (λ s. s) (shown_label true f l) ≡ respell_label f l
  bare_label (kind k) = refl
  bare_label (at k s e) = refl
  bare_label (ident r i) = refl
  bare_label (text x) = refl
  bare_label (texts xs) = refl
  bare_label (truth b) = refl
  bare_label (unary o) = refl
  bare_label (binary o) = refl
  bare_label (assignment o) = refl
  bare_label (space s) = refl
  bare_label (access a) = refl
  bare_label (path p) = refl

  bare_forest : (ts : ForestOf I) → respell_forest (λ s. s) (shown_forest true f ts) ≡ respell_forest f ts
  bare_forest end = refl
  bare_forest (tree l children others) = rw (bare_label l, bare_forest children, bare_forest others) refl

  twice_label : (l : LabelOf I) → respell_label (λ s. s) (respell_label f l) ≡ respell_label f l
  twice_label (kind k) = refl
  twice_label (at k s e) = refl
  twice_label (ident r i) = refl
  twice_label (text x) = refl
  twice_label (texts xs) = refl
  twice_label (truth b) = refl
  twice_label (unary o) = refl
  twice_label (binary o) = refl
  twice_label (assignment o) = refl
  twice_label (space s) = refl
  twice_label (access a) = refl
  twice_label (path p) = refl

  twice_forest : (ts : ForestOf I) → respell_forest (λ s. s) (respell_forest f ts) ≡ respell_forest f ts
  twice_forest end = refl
  twice_forest (tree l children others) = rw (twice_label l, twice_forest children, twice_forest others) refl

bare_placed : (u : UnitView) → bare (unit_tree (placed u)) ≡ unit_tree (spelled u)
bare_placed u = ap (λ (ts : SpelledForest). record { label = kind unit; children = ts }) (bare_forest (name_in u.names) (forest_of_unit (trees_of u)))

-- what a value stands for is spelled so
pub spelled-read : (d : Data) (u : UnitView) → IsUnitOf d u → IsSpelled d (spelled u)
spelled-read d u h = λ n low. ap (option_map bare) (h.read n low) ∙ ap Some (bare_placed u)

bare_spelled : (u : UnitView) → bare (unit_tree (spelled u)) ≡ unit_tree (spelled u)
bare_spelled u = ap (λ (ts : SpelledForest). record { label = kind unit; children = ts }) (twice_forest (name_in u.names) (forest_of_unit (trees_of u)))

-- what a form shows of a unit is its spelling, spans aside
bare_shown : (spans : Bool) (u : UnitView) → bare (unit_tree (shown_unit spans u)) ≡ unit_tree (spelled u)
bare_shown false u = bare_spelled u
bare_shown true u = bare_placed u

bare-if : (b : Bool) (t s : Spelled) → bare t ≡ s → option_map bare (if b then Some t else None) ≡ (if b then Some s else None)
bare-if true t s e = ap Some e
bare-if false t s e = refl

-- what is read, spans aside, of what a unit was written as is its spelling
pub spelled-written : UnitsReadBack → (spans : Bool) (u : TranslationUnit) (d : Data) → d ≡ written_as spans (unit_view u) → HasTextPaths (spelled (unit_view u)) → (v : UnitOf Text) → IsSpelled d v → v ≡ spelled (unit_view u)
spelled-written back spans u d same paths v r =
    let s : UnitOf Text = spelled (unit_view u) in
    let t : UnitOf Text = shown_unit spans (unit_view u) in
    let b : Bool = are_readable (kind unit) (forest_of_unit t) in
    let low : depth d < suc (depth d) = omega arith in
    let law = along s t d (written_as spans (unit_view u)) (back spans u) same (have-texts s paths) in
    (if-read b s v (sym (r (suc (depth d)) low) ∙ (ap (option_map bare) (law (suc (depth d)) low) ∙ bare-if b (unit_tree t) (unit_tree s) (bare_shown spans (unit_view u))))).1

-- ---- an error that tells no place

pub is-memory : (e : error.Error) (P : Type 0) → IfPlace e (λ _. P) → (P → ⊥) → e ≡ error.Memory
is-memory error.Memory P h never = refl
is-memory (error.BadTree s) P h never = absurd (never h)
is-memory _ P h never = absurd h
