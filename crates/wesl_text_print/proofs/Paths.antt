-- The slots of paths, in the order in which they are printed.
use Rattle.std.proofs.Common.{◌≡◌, ℕ, zero, suc, ◌+◌, List, [], ◌∷◌, ◌++◌, Bool, true, false, ◌&&◌, Some, codes, map, String, Global, string_bytes, arith, refl, ap, ◌∙◌}
use Rattle.wesl_text_tokens.specs.declared.symbol.Symbol.TheVariants as sign
use Rattle.wesl_text_form.specs.Names.{are_names, is_name, is_origin}
use Rattle.wesl_text_form.specs.Productions.{a_path}
use Rattle.wesl_text_form.specs.Slots.{Slot}
use Rattle.wesl_text_form.specs.Spelling.{Slots, followed, leaf_slots, named, origin_slots, provided, signed, stepped}
use Rattle.wesl_text_print.specs.Printing.{beginning_slots, name_slots}
use Rattle.wesl_text_print.proofs.Lists.{all_slots}
use Rattle.wesl_tree_base.specs.Pieces.{supers}
use Rattle.wesl_tree_names.specs.Path.{Path, Text, origin_view, relative}
use Rattle.wesl_tree_names.specs.declared.path.PathOrigin.{PathOrigin}
use Rattle.wesl_tree_syntax.specs.Tree.{end, path}

-- two tests, and what stands behind one another
pub provided_both : (a b : Bool) (ss us : List Slot) → followed (provided a ss) (provided b us) ≡ provided (a && b) (ss ++ us)
provided_both true true ss us = refl
provided_both true false ss us = refl
provided_both false b ss us = refl

pub provided_then : (a : Bool) (ss us : List Slot) → followed (provided a ss) (Some us) ≡ provided a (ss ++ us)
provided_then true ss us = refl
provided_then false ss us = refl

-- where a path begins, as the code holds it
abbrev pub origin_printed : PathOrigin → Slots
origin_printed o = beginning_slots (origin_view o)

-- a path: where it begins, and its components
pub path_printed : (p : Path) → followed (beginning_slots p.origin) (provided (are_names p.components) (stepped p.components)) ≡ leaf_slots (a_path false) (path p) end
path_printed p = provided_both (is_origin false p.origin) (are_names p.components) (origin_slots false p.origin) (stepped p.components)

-- one more name, with `::` behind it
abbrev pub step_slots : String Global → Slots
step_slots s = followed (name_slots (string_bytes s)) (Some (signed sign.ColonColon ∷ []))

step_more : (a b : Bool) (t : Text) (us : List Slot) → followed (followed (provided a (named t ∷ [])) (Some (signed sign.ColonColon ∷ []))) (provided b us) ≡ provided (a && b) (named t ∷ signed sign.ColonColon ∷ us)
step_more true true t us = refl
step_more true false t us = refl
step_more false b t us = refl

pub steps_printed : (xs : List (String Global)) → all_slots step_slots xs ≡ provided (are_names (map string_bytes xs)) (stepped (map string_bytes xs))
steps_printed [] = refl
steps_printed (x ∷ xs) = ap (followed (step_slots x)) (steps_printed xs) ∙ step_more (is_name (string_bytes x)) (are_names (map string_bytes xs)) (string_bytes x) (stepped (map string_bytes xs))

-- ---- `super`

supers_end : (n : ℕ) → stepped (supers n) ++ stepped (codes "super" ∷ []) ≡ stepped (supers (suc n))
supers_end zero = refl
supers_end (suc n) = ap (λ ss. named (codes "super") ∷ signed sign.ColonColon ∷ ss) (supers_end n)

pub one_super_more : (n : ℕ) → followed (Some (stepped (supers n))) (Some (stepped (codes "super" ∷ []))) ≡ Some (stepped (supers (n + 1)))
one_super_more n =
    let e : suc n ≡ n + 1 = omega arith in
    ap Some (supers_end n) ∙ ap (λ (m : ℕ). Some (stepped (supers m))) e

pub self_printed : (n : ℕ) → n ≡ 0 → Some (stepped (codes "self" ∷ [])) ≡ Some (origin_slots false (relative n))
self_printed n is = rw is refl

pub supers_printed : (n : ℕ) → (n ≡ 0 → ⊥) → Some (stepped (supers n)) ≡ Some (origin_slots false (relative n))
supers_printed zero some = absurd (some refl)
supers_printed (suc n) some = refl
