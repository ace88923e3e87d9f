-- What becomes of units in which parentheses are put.
use Rattle.std.proofs.Common.{◌≡◌, ℕ, Bool, true, false, if◌then◌else◌, List, sym as turned, ap, ◌∙◌}
use Rattle.wesl_tree_names.specs.Path.{Text}
use Rattle.wesl_tree_syntax.specs.Tree.{TreeOf, respell}
use Rattle.wesl_tree_syntax.specs.Unit.{UnitOf, UnitView, name_in, spelled, trees_of}
use Rattle.wesl_text_form.specs.Says.{IsWritable}
use Rattle.wesl_text_guard.specs.Parentheses.{tree_with_parentheses}
use Rattle.wesl_text_guard.specs.Units.{unit_with_parentheses}
use Rattle.wesl_text_guard.proofs.Absorbed.{tree_absorbed}
use Rattle.wesl_text_guarded.proofs.Respelled.{tree_respelled}
use Rattle.wesl_text_guarded.specs.Guarded.{guarded}

abbrev unit_of : {I : Type 0} → TreeOf I → TreeOf I → TreeOf I → UnitOf I
unit_of i d e = record { imports = i; directives = d; declarations = e }

-- with all of them, units are those that have all already
pub unit_absorbed : {I : Type 0} (b : Bool) (u : UnitOf I) → unit_with_parentheses true (unit_with_parentheses b u) ≡ unit_with_parentheses true u
unit_absorbed b u =
    ap (λ t. unit_of t (tree_with_parentheses true (tree_with_parentheses b u.directives)) (tree_with_parentheses true (tree_with_parentheses b u.declarations))) (tree_absorbed b u.imports)
    ∙ (ap (λ t. unit_of (tree_with_parentheses true u.imports) t (tree_with_parentheses true (tree_with_parentheses b u.declarations))) (tree_absorbed b u.directives)
    ∙ ap (λ t. unit_of (tree_with_parentheses true u.imports) (tree_with_parentheses true u.directives) t) (tree_absorbed b u.declarations))

-- units by the names of their identifiers
abbrev named_by : List Text → UnitOf ℕ → UnitOf Text
named_by names w = record { imports = respell (name_in names) w.imports; directives = respell (name_in names) w.directives; declarations = respell (name_in names) w.declarations }

named_with : (b : Bool) (names : List Text) (w : UnitOf ℕ) → named_by names (unit_with_parentheses b w) ≡ unit_with_parentheses b (named_by names w)
named_with b names w =
    ap (λ t. unit_of t (respell (name_in names) (tree_with_parentheses b w.directives)) (respell (name_in names) (tree_with_parentheses b w.declarations))) (turned (tree_respelled (name_in names) b w.imports))
    ∙ (ap (λ t. unit_of (tree_with_parentheses b (respell (name_in names) w.imports)) t (respell (name_in names) (tree_with_parentheses b w.declarations))) (turned (tree_respelled (name_in names) b w.directives))
    ∙ ap (λ t. unit_of (tree_with_parentheses b (respell (name_in names) w.imports)) (tree_with_parentheses b (respell (name_in names) w.directives)) t) (turned (tree_respelled (name_in names) b w.declarations)))

pub spelled_with : (b : Bool) (v w : UnitView) → w.names ≡ v.names → trees_of w ≡ unit_with_parentheses b (trees_of v) → spelled w ≡ unit_with_parentheses b (spelled v)
spelled_with b v w n e = ap (λ names. named_by names (trees_of w)) n ∙ (ap (named_by v.names) e ∙ named_with b v.names (trees_of v))

-- what is guarded
pub as_it_was : (u : UnitOf Text) → IsWritable u ≡ true → guarded u ≡ u
as_it_was u h = ap (λ (z : Bool). if z then u else (if IsWritable (unit_with_parentheses false u) then unit_with_parentheses false u else unit_with_parentheses true u)) h

pub with_all : (u : UnitOf Text) → IsWritable u ≡ false → IsWritable (unit_with_parentheses false u) ≡ false → guarded u ≡ unit_with_parentheses true u
with_all u h g =
    ap (λ (z : Bool). if z then u else (if IsWritable (unit_with_parentheses false u) then unit_with_parentheses false u else unit_with_parentheses true u)) h
    ∙ ap (λ (z : Bool). if z then unit_with_parentheses false u else unit_with_parentheses true u) g

-- what becomes of a unit that no text says with the parentheses of operands alone
pub after_all : (u m n : UnitOf Text) → IsWritable u ≡ false → m ≡ unit_with_parentheses false u → false ≡ IsWritable m → n ≡ unit_with_parentheses true m → n ≡ guarded u
after_all u m n h e w f = f ∙ (ap (unit_with_parentheses true) e ∙ (unit_absorbed false u ∙ turned (with_all u h (ap IsWritable (turned e) ∙ turned w))))
