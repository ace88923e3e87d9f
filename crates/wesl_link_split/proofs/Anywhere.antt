-- What names with one target ask for, from wherever they are used.
use Rattle.std.proofs.Common.{◌≡◌, ◌⊎◌, inl, inr, ℕ, Bool, true, false, ◌||◌, Some, Option, None, List, [], ◌∷◌, ◌++◌, length, take, refl, subst, sym, ap, ap₂, ◌∙◌, append-nil}
use Rattle.std.specs.Prelude.{not, ◌&&◌, ◌==◌, if◌then◌else◌, slice_get, IfOk, IfSome, Result, Ok, Err}
use Rattle.std.specs.List.{filter, list_any}
use Rattle.wesl_cond_choices.specs.declared.place.Place.{Place}
use Rattle.wesl_cond_choices.specs.declared.place.Place.TheVariants.{Always}
use Rattle.wesl_tree_base.specs.declared.ids.NameId.{NameId}
use Rattle.wesl_link_symbols.specs.declared.ids.PathId.{PathId}
use Rattle.wesl_link_symbols.specs.declared.symbols.Reference.{Reference}
use Rattle.wesl_link_split.specs.Grouped.{ids, one_of, aim_elsewhere, AddsUnless}
use Rattle.wesl_link_split.specs.SightView.{aim_in, sight_view, AreAnswers, IsAnswered}
use Rattle.wesl_link_split.specs.Split as split
use Rattle.wesl_link_split.specs.Split.{Binder, Scope}
use Rattle.wesl_link_split.specs.declared.binders.Answered.{Answered}
use Rattle.wesl_link_split.specs.declared.sight.Sight.{Sight}
use Rattle.wesl_tree_interner.proofs.Different.{get_cases}
use Rattle.wesl_link_targets.proofs.Passed.{and_false}
use Rattle.wesl_link_split.proofs.Unsplit.{seen_anywhere}

abbrev Ours : Type 0
Ours = Binder PathId NameId

abbrev Asked : Type 0
Asked = Reference PathId NameId

-- ---- lists

pub if_ok : {X E : Type 0} {P Q : X → Type 0} (r : Result X E) → ((x : X) → P x → Q x) → IfOk r P → IfOk r Q
if_ok (Ok x) f h = f x h
if_ok (Err e) f h = tt

one_first : (xs ys : List Asked) (b : Bool) → ys ≡ (if b then [] else take 1 xs) → one_of (slice_get ys 0) ≡ (if b then [] else take 1 xs)
one_first xs ys true e = ap (λ (l : List Asked). one_of (slice_get l 0)) e
one_first [] ys false e = ap (λ (l : List Asked). one_of (slice_get l 0)) e
one_first (x ∷ xs) ys false e = ap (λ (l : List Asked). one_of (slice_get l 0)) e

pub adds_answer : (b x u : Bool) (old new asked more : List Asked) → b ≡ x → x ≡ u → new ≡ old ++ asked → asked ≡ (if x then [] else more) → AddsUnless b u old new more
adds_answer b x u old new asked more p q e f = (p ∙ q, e ∙ (ap (λ l. old ++ l) f ∙ (by x ∙ ap (λ y. if y then old else old ++ more) (sym p))))
  where
    by : (y : Bool) → old ++ (if y then [] else more) ≡ (if y then old else old ++ more)
    by true = append-nil old
    by false = refl

-- ---- names with one target

module _ (s : Scope PathId NameId) (n : NameId) (one : split.is_split ids s.binders n ≡ false) (here : Place) where
  own_unsplit : split.is_own_split ids s s.own n ≡ false
  own_unsplit = ap (λ b. (s.own.0 == s.own.0) && b) one ∙ and_false (s.own.0 == s.own.0)

  abbrev named : List Ours
  named = split.of_name ids n s.binders

  under_anywhere : (p : Place) → split.under ids s n p s.own ≡ record { path = s.own; name = n; from = Always }
  under_anywhere p = ap (λ x. record { path = s.own; name = n; from = if x then p else Always }) own_unsplit

  aimed_anywhere : split.aimed_plain ids s n here ≡ split.aimed_plain ids s n Always
  aimed_anywhere =
      ap (λ bs. split.aimed_of ids s n here (filter (λ b. b.declares) bs) bs) (seen_anywhere s n one here)
      ∙ (by (filter (λ b. b.declares) named) ∙ sym (ap (λ bs. split.aimed_of ids s n Always (filter (λ b. b.declares) bs) bs) (seen_anywhere s n one Always)))
    where
      by : (ds : List Ours) → split.aimed_of ids s n here ds named ≡ split.aimed_of ids s n Always ds named
      by [] = refl
      by (d ∷ ds) = ap (λ (r : Asked). r ∷ []) (under_anywhere here ∙ sym (under_anywhere Always))

  pub asked_anywhere : split.asked_plain ids s n Always ≡ split.asked_plain ids s n here
  asked_anywhere = ap (take 1) (sym aimed_anywhere)

  abbrev differ : List Asked → Bool
  differ rs = list_any (λ x. list_any (λ y. not (split.same_reference ids x y)) rs) rs

  pub unclear_anywhere : split.is_unclear_plain ids s n Always ≡ split.is_unclear_plain ids s n here
  unclear_anywhere = ap₂ (λ x y. x || y) (ap (split.has_two_targets ids) (seen_anywhere s n one Always ∙ sym (seen_anywhere s n one here))) (ap differ (sym aimed_anywhere))

-- what is asked for from everywhere is asked for from anywhere
pub answered : (s : Scope PathId NameId) (n : NameId) (b : Bool) (old found : List Asked) → AddsUnless b (split.is_unclear_plain ids s n Always) old found (split.asked_plain ids s n Always) → old ≡ []
    → split.is_split ids s.binders n ≡ false → (a : Answered) → a.is_unclear ≡ b → a.asked ≡ slice_get found 0 → IsAnswered s n a
answered s n b old found (u, e) empty one a p q here =
    let is : found ≡ (if b then [] else split.asked_plain ids s n Always) = e ∙ ap (λ l. if b then l else l ++ split.asked_plain ids s n Always) empty in (
      p ∙ (u ∙ unclear_anywhere s n one here),
      ap one_of q ∙ (one_first (split.aimed_plain ids s n Always) found b is ∙ (ap (λ y. if y then [] else split.asked_plain ids s n Always) (sym p) ∙ ap (λ l. if a.is_unclear then [] else l) (asked_anywhere s n one here))),
    )

-- ---- what is asked for by each name

pub answers_none : (s : Sight) (answers : List Answered) → answers ≡ [] → AreAnswers s answers
answers_none s answers e i n a named at one = absurd (let got : slice_get [] i ≡ Some a = ap (λ (l : List Answered). slice_get l i) (sym e) ∙ at in let z : ⊥ = cc in z)

pub answers_next : (s : Sight) (old new : List Answered) (a : Answered) (i : ℕ) → length old ≡ i → AreAnswers s old
    → ((n : NameId) → slice_get s.names.keys i ≡ Some n → split.is_split ids (sight_view s).binders n ≡ false → IsAnswered (sight_view s) n a) → new ≡ old ++ a ∷ [] → AreAnswers s new
answers_next s old new a i long h mine e k n b named at one = by (get_cases old a k b (ap (λ (l : List Answered). slice_get l k) (sym e) ∙ at))
  where
    by : (slice_get old k ≡ Some b) ⊎ ((k ≡ length old) × (a ≡ b)) → IsAnswered (sight_view s) n b
    by (inl got) = h k n b named got one
    by (inr (l, f)) = subst (λ (x : Answered). IsAnswered (sight_view s) n x) f (mine n (ap (slice_get s.names.keys) (sym (l ∙ long)) ∙ named) one)

pub if_some : {X : Type 0} {P : X → Type 0} (o : Option X) → ((x : X) → o ≡ Some x → P x) → IfSome o P
if_some None f = tt
if_some (Some x) f = f x refl

-- ---- what aims elsewhere

pub aims_elsewhere : (s : Scope PathId NameId) (b : Ours) → split.is_own_split ids s b.path b.item ≡ false → aim_elsewhere b ≡ aim_in s b
aims_elsewhere s b own =
    sym (ap (λ x. record {
      reference = record { path = b.path; name = b.item; from = if x then (split.asker_of ids s b).stands else Always };
      order = split.order_of ids (if x then split.found_of ids s b (split.seen ids s b.item b.stands) else split.one b.path b.item []);
    }) own)
