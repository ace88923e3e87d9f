-- What a name asks for where all its binders that are seen have one target.
use Rattle.std.proofs.Common.{◌≡◌, zero, suc, true, false, List, [], ◌∷◌, map, take, arith, refl, sym, subst, ap, ap₂, ◌∙◌}
use Rattle.std.specs.Prelude.{Contains, nat_lt, not, ◌&&◌, ◌||◌, ◌==◌, if◌then◌else◌}
use Rattle.std.specs.List.{filter, list_any}
use Rattle.std.proofs.lemmas.Bool.Decides.{Decides-eqb}
use Rattle.wesl_cond_choices.specs.declared.place.Place.{Place}
use Rattle.wesl_cond_choices.specs.declared.place.Place.TheVariants as places
use Rattle.wesl_cond_choices.specs.declared.place.Place.TheVariants.{Always}
use Rattle.wesl_cond_choices.specs.Places.{same_place}
use Rattle.wesl_tree_base.specs.declared.ids.NameId.{NameId}
use Rattle.wesl_link_symbols.specs.declared.ids.PathId.{PathId}
use Rattle.wesl_link_symbols.specs.declared.symbols.Reference.{Reference}
use Rattle.wesl_link_split.specs.Grouped.{ids, are_unlike, has_declaration, IsStart}
use Rattle.wesl_link_split.specs.Split as split
use Rattle.wesl_link_split.specs.Split.{Binder, Scope}
use Rattle.wesl_link_split.specs.declared.binders.Start.TheVariants as starts
use Rattle.wesl_link_split.proofs.Aims.{path_id_is}
use Rattle.wesl_link_split.proofs.Grouping.{id_is}
use Rattle.wesl_link_split.proofs.Once.{alike_first}
use Rattle.wesl_link_split.proofs.Orders.{filter_alike}
use Rattle.wesl_link_split.proofs.Targets.{both_true, none_false, references_equal, unlike_none}
use Rattle.wesl_link_split.proofs.Unsplit.{aimed_declared, aimed_imported, filter_all}

abbrev Ours : Type 0
Ours = Binder PathId NameId

abbrev Asked : Type 0
Asked = Reference PathId NameId

map_constant : {X Y : Type 0} (f : X → Y) (y : Y) (xs : List X) → ((x : X) → Contains xs x → f x ≡ y) → map f xs ≡ map (λ x. y) xs
map_constant f y [] h = refl
map_constant {X} {Y} f y (x ∷ xs) h = ap₂ (λ (z : Y) zs. z ∷ zs) (h x (0, omega arith, refl)) (map_constant f y xs (λ w (k, l, e). h w (suc k, omega (arith, l), e)))

constant_in : {X Y : Type 0} (y : Y) (xs : List X) (z : Y) → Contains (map (λ x. y) xs) z → y ≡ z
constant_in y [] z (k, l, e) = absurd (omega (arith, l))
constant_in y (x ∷ xs) z (zero, l, e) = e
constant_in y (x ∷ xs) z (suc k, l, e) = constant_in y xs z (k, omega (arith, l), e)

first_constant : {X Y : Type 0} (y : Y) (xs : List X) (x : X) → take 1 xs ≡ x ∷ [] → take 1 (map (λ z. y) xs) ≡ y ∷ []
first_constant y [] x e = absurd (let z : ⊥ = cc in z)
first_constant y (w ∷ xs) x e = refl

place_itself : (p : Place) → same_place p p ≡ true
place_itself places.Always = refl
place_itself (places.Import j) = (Decides-eqb j j).1 refl
place_itself (places.Declaration j) = (Decides-eqb j j).1 refl
place_itself (places.Name j) = (Decides-eqb j j).1 refl

reference_itself : (r : Asked) → split.same_reference ids r r ≡ true
reference_itself r =
    ap₂ (λ x y. x && y) (ap₂ (λ x y. x && y) ((Decides-eqb r.path.0 r.path.0).1 refl) ((Decides-eqb r.name.0 r.name.0).1 refl)) (place_itself r.from)

-- all have the target of the first
alike_of : (bs : List Ours) (first : Ours) → IsStart (starts.One first) bs → (b : Ours) → Contains bs b → split.same_target ids first b ≡ true
alike_of [] first (two, e) b c = absurd (let z : ⊥ = cc in z)
alike_of (x ∷ xs) first (two, e) b c =
    let same : x ≡ first = cc in subst (λ (z : Ours). split.same_target ids z b ≡ true) same (alike_first (split.same_target ids) x xs two b c)

module _ (s : Scope PathId NameId) (n : NameId) (here : Place) where
  abbrev bs : List Ours
  bs = split.seen ids s n here

  -- it asks for this alone
  abbrev pub AsksFor : List Asked → Type 0
  AsksFor rs = (split.is_unclear_plain ids s n here ≡ false) × (split.asked_plain ids s n here ≡ rs)

  -- what it leads to is one thing
  asks_one : (rs : List Asked) (r : Asked) → split.has_two_targets ids bs ≡ false → split.aimed_plain ids s n here ≡ rs → are_unlike rs ≡ false → take 1 rs ≡ r ∷ [] → AsksFor (r ∷ [])
  asks_one rs r two aimed alike first = (ap₂ (λ a b. a || b) two (ap are_unlike aimed ∙ alike), ap (take 1) aimed ∙ first)

  pub asks_none : IsStart starts.Nothing bs → AsksFor []
  asks_none none =
      let aimed : split.aimed_plain ids s n here ≡ [] = ap (λ l. split.aimed_of ids s n here (filter (λ b. b.declares) l) l) none in
      (ap₂ (λ a b. a || b) (ap (split.has_two_targets ids) none) (ap are_unlike aimed), ap (take 1) aimed)

  pub asks_several : IsStart starts.Several bs → split.is_unclear_plain ids s n here ≡ true
  asks_several two = ap (λ b. b || are_unlike (split.aimed_plain ids s n here)) two

  module _ (first : Ours) (one : IsStart (starts.One first) bs) where
    pub asks_own : has_declaration bs ≡ true → AsksFor (split.under ids s n here s.own ∷ [])
    asks_own h =
        let r : Asked = split.under ids s n here s.own in
        asks_one (r ∷ []) r one.0 (aimed_declared s n here bs h) (ap (λ x. (not x || false) || false) (reference_itself r)) refl

    module _ (imported : has_declaration bs ≡ false) (away : split.is_own_split ids s first.path first.item ≡ false) where
      abbrev reference : Asked
      reference = record { path = first.path; name = first.item; from = Always }

      target : (b : Ours) → Contains bs b → (first.path ≡ b.path) × (first.item ≡ b.item)
      target b c =
          let (path, item) = both_true (first.path.0 == b.path.0) (first.item.0 == b.item.0) (alike_of bs first one b c) in
          (path_id_is first.path b.path path, id_is first.item b.item item)

      away_too : (b : Ours) → Contains bs b → split.is_own_split ids s b.path b.item ≡ false
      away_too b c = let (path, item) = target b c in ap₂ (split.is_own_split ids s) (sym path) (sym item) ∙ away

      order_two : (b : Ours) → Contains bs b → split.order_of ids (split.finding ids s b) ≡ 2
      order_two b c = ap (λ x. split.order_of ids (if x then split.found_of ids s b (split.seen ids s b.item b.stands) else split.one b.path b.item [])) (away_too b c)

      all_lowest : split.lowest ids s bs ≡ bs
      all_lowest =
          filter_alike (λ b. not (list_any (λ c. nat_lt (split.order_of ids (split.finding ids s c)) (split.order_of ids (split.finding ids s b))) bs)) (λ b. true) bs
          (λ b c. ap not (none_false (λ d. nat_lt (split.order_of ids (split.finding ids s d)) (split.order_of ids (split.finding ids s b))) bs (λ d e. ap₂ nat_lt (order_two d e) (order_two b c))))
          ∙ filter_all (λ b. true) bs (λ b. refl)

      aims_there : (b : Ours) → Contains bs b → split.aim_of ids s b ≡ reference
      aims_there b c =
          let (path, item) = target b c in
          ap (λ x. record { path = b.path; name = b.item; from = if x then (split.asker_of ids s b).stands else Always }) (away_too b c)
          ∙ (ap (λ p. record { path = p; name = b.item; from = Always }) (sym path) ∙ ap (λ m. record { path = first.path; name = m; from = Always }) (sym item))

      pub asks_elsewhere : AsksFor (reference ∷ [])
      asks_elsewhere =
          let all : List Asked = map (λ b. reference) bs in
          asks_one all reference one.0
          (aimed_imported s n here bs imported ∙ (ap (map (split.aim_of ids s)) all_lowest ∙ map_constant (split.aim_of ids s) reference bs aims_there))
          (unlike_none (split.same_reference ids) references_equal all reference (λ y c. subst (λ (z : Asked). split.same_reference ids reference z ≡ true) (constant_in reference bs y c) (reference_itself reference)))
          (first_constant reference bs first one.1)
