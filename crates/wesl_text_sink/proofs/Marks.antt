-- The last of the marks, and blanks behind blanks.
use Rattle.std.proofs.Common.{◌≡◌, ◌-◌, ◌<◌, true, false, List, [], ◌∷◌, ◌++◌, length, get_or, Option, Some, refl, ap, sym, ◌∙◌, append_assoc, arith}
use Rattle.std.proofs.lemmas.Bool.{and_from, and_parts}
use Rattle.wesl_tree_base.specs.Pieces.{is_empty}
use Rattle.wesl_tree_names.specs.Path.{Text}
use Rattle.wesl_text_tokens.specs.Characters.{is_one_of}
use Rattle.wesl_text_sink.specs.declared.kind.Kind.{Kind}
use Rattle.wesl_text_sink.specs.declared.kind.Mark.{Mark}
use Rattle.wesl_text_sink.specs.Layout.{are_apart, are_blanks, last_kind}
use Rattle.wesl_text_sink.specs.Touching.{may_touch}
use Rattle.wesl_text_sink.specs.Filling.{Parted}

last_got : (m : Mark) (ms : List Mark) (d : Mark) → last_kind (m ∷ ms) ≡ Some (get_or (m ∷ ms) (length ms) d).kind
last_got m [] d = refl
last_got m (n ∷ ms) d = last_got n ms d

-- the kind of the item that comes last
pub last_marked : (ms : List Mark) (m : Mark) → 0 < length ms → ((d : Mark) → m ≡ get_or ms (length ms - 1) d) → last_kind ms ≡ Some m.kind
last_marked [] m l h = absurd (omega arith)
last_marked (n ∷ ms) m l h =
    let one : length (n ∷ ms) - 1 ≡ length ms = omega arith in
    last_got n ms n ∙ ap (λ (x : Mark). let o : Option Kind = Some x.kind in o) (sym (h n ∙ ap (λ k. get_or (n ∷ ms) k n) one))

-- what may touch stands apart with nothing between
pub apart_touching : (ms : List Mark) (m : Mark) (k : Kind) → last_kind ms ≡ Some m.kind → may_touch m.kind k ≡ true → are_apart (last_kind ms) [] k ≡ true
apart_touching ms m k e h = ap (λ (o : Option Kind). are_apart o [] k) e ∙ h

pub blanks_both : (xs ys : Text) → are_blanks xs ≡ true → are_blanks ys ≡ true → are_blanks (xs ++ ys) ≡ true
blanks_both [] ys h g = g
blanks_both (x ∷ xs) ys h g =
    let p : (is_one_of (32 ∷ 10 ∷ []) x ≡ true) × (are_blanks xs ≡ true) = and_parts _ _ h in
    and_from (is_one_of (32 ∷ 10 ∷ []) x) (are_blanks (xs ++ ys)) p.0 (blanks_both xs ys p.1 g)

some_both : (xs ys : Text) → is_empty xs ≡ false → is_empty (xs ++ ys) ≡ false
some_both [] ys h = let z : is_empty ys ≡ false = absurd (cc h) in z
some_both (x ∷ xs) ys h = refl

-- more blanks
pub parted_more : (a b c : Text) (ys : Text) → are_blanks ys ≡ true → c ≡ b ++ ys → Parted a b → Parted a c
parted_more a b c ys g e p = record {
  blanks = p.blanks ++ ys;
  text = e ∙ ap (λ z. z ++ ys) p.text ∙ append_assoc a p.blanks ys;
  are_blanks = blanks_both p.blanks ys p.are_blanks g;
  are_some = some_both p.blanks ys p.are_some;
}
