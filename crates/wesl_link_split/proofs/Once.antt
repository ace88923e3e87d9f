-- Of several equal elements the first stands for all.
use Rattle.std.proofs.Common.{◌≡◌, zero, suc, Bool, true, false, List, [], ◌∷◌, take, arith, refl, ap, ◌∙◌}
use Rattle.std.specs.Prelude.{Contains, not, ◌&&◌, ◌||◌, bytes_eq}
use Rattle.std.specs.List.{list_any}
use Rattle.std.proofs.lemmas.Slice.Eq.{bytes_eq-Decides}
use Rattle.wesl_tree_names.specs.Path.{Text, Path}
use Rattle.wesl_tree_names.specs.PathOrder.{same_path}
use Rattle.wesl_tree_names.proofs.Order.{same_path-decides}
use Rattle.wesl_cond_choices.specs.Places.{same_place}
use Rattle.wesl_link_symbols.specs.declared.symbols.Reference.{Reference}
use Rattle.wesl_link_split.specs.Laws.{AsksForAll, AimsAsEach}
use Rattle.wesl_link_split.specs.Split as split
use Rattle.wesl_link_split.specs.Split.{Binder, Scope}
use Rattle.wesl_link_split.specs.Uses.{texts, module_in_place}
use Rattle.wesl_link_split.proofs.Targets.{unlike, not_any, positive, both_true, place_is}

module _ {X : Type 0} (t : X → X → Bool) where
  pub alike_first : (x : X) (xs : List X) → unlike t (x ∷ xs) ≡ false → (y : X) → Contains (x ∷ xs) y → t x y ≡ true
  alike_first x xs h y c =
      positive (t x y) (not_any (λ z. not (t x z)) (x ∷ xs) (not_any (λ w. list_any (λ z. not (t w z)) (x ∷ xs)) (x ∷ xs) h x (0, omega arith, refl)) y c)

  first_of_all : ((x y : X) → t x y ≡ true → x ≡ y) → (xs : List X) → unlike t xs ≡ false → (y : X) → Contains xs y → Contains (take 1 xs) y
  first_of_all equal [] h y (k, l, e) = absurd (omega (arith, l))
  first_of_all equal (x ∷ xs) h y c = (0, omega arith, equal x y (alike_first x xs h y c))

first_held : {X : Type 0} (xs : List X) (y : X) → Contains (take 1 xs) y → Contains xs y
first_held [] y (k, l, e) = absurd (omega (arith, l))
first_held (x ∷ xs) y (zero, l, e) = (0, omega arith, e)
first_held (x ∷ xs) y (suc k, l, e) = absurd (omega (arith, l))

-- ---- names

reference_is : (a b : Reference Path Text) → split.same_reference texts a b ≡ true → a ≡ b
reference_is a b e =
    let (target, from) = both_true (same_path a.path b.path && bytes_eq a.name b.name) (same_place a.from b.from) e in
    let (path, name) = both_true (same_path a.path b.path) (bytes_eq a.name b.name) target in
    let f : a.path ≡ b.path = (same_path-decides a.path b.path).0 path in
    let g : a.name ≡ b.name = (bytes_eq-Decides a.name b.name).0 name in
    ap (λ x. record { path = x; name = a.name; from = a.from }) f
    ∙ (ap (λ x. record { path = b.path; name = x; from = a.from }) g ∙ ap (λ x. record { path = b.path; name = b.name; from = x }) (place_is a.from b.from from))

right_false : (a b : Bool) → (a || b) ≡ false → b ≡ false
right_false true b e = absurd (let z : ⊥ = cc in z)
right_false false b e = e

pub asks_for_all : AsksForAll
asks_for_all s n here clear r =
    let rs : List (Reference Path Text) = split.aimed_plain texts s n here in (
      first_held rs r,
      first_of_all (split.same_reference texts) reference_is rs (right_false (split.has_two_targets texts (split.seen texts s n here)) (unlike (split.same_reference texts) rs) clear) r,
    )

-- ---- paths

in_place_same : (p : Path) (b c : Binder Path Text) → split.same_target texts b c ≡ true → module_in_place p b ≡ module_in_place p c
in_place_same p b c e =
    let (path, item) = both_true (same_path b.path c.path) (bytes_eq b.item c.item) e in
    let f : b.path ≡ c.path = (same_path-decides b.path c.path).0 path in
    let g : b.item ≡ c.item = (bytes_eq-Decides b.item c.item).0 item in
    ap (λ (x : Path). module_in_place p (record { bound = b.bound; path = x; item = b.item; declares = b.declares; stands = b.stands })) f
    ∙ ap (λ (x : Text). module_in_place p (record { bound = b.bound; path = c.path; item = x; declares = b.declares; stands = b.stands })) g

pub aims_as_each : AimsAsEach
aims_as_each own p [] h b (k, l, e) = absurd (omega (arith, l))
aims_as_each own p (x ∷ xs) h b c = ap (λ q. q ∷ []) (in_place_same p x b (alike_first (split.same_target texts) x xs h b c))
