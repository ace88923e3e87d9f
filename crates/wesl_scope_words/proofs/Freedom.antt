-- There are no clashes exactly where no word means a declaration of the module.
use Rattle.std.proofs.Common.{◌≡◌, ℕ, suc, List, [], ◌∷◌, ◌++◌, refl, arith, Option, None, Some}
use Rattle.std.specs.Prelude.{slice_index_or}
use Rattle.std.specs.List.{All, cons_option, flat_map}
use Rattle.std.specs.Option.{option_map}
use Rattle.std.proofs.lemmas.List.Elements.{All-cons, All-nil}
use Rattle.wesl_tree_names.specs.Path.{Text}
use Rattle.wesl_tree_syntax.specs.Unit.{UnitView, trees_of}
use Rattle.wesl_scope_occurrences.specs.Occurrences.{Occurrence}
use Rattle.wesl_scope_words.specs.Captured.{captured, read_as, spoken, told}
use Rattle.wesl_scope_words.specs.Free.{IsFreeAt, NoneIsFree}

both_empty : {X : Type 0} (a b : List X) → a ++ b ≡ [] → (a ≡ []) × (b ≡ [])
both_empty [] b h = (refl, h)
both_empty (x ∷ a) b h = cc

each_empty : {X Y : Type 0} (f : X → List Y) (xs : List X) → flat_map f xs ≡ [] → All (λ x. f x ≡ []) xs
each_empty f [] h = All-nil (λ x. f x ≡ [])
each_empty f (x ∷ xs) h = let b = both_empty (f x) (flat_map f xs) h in All-cons (λ x. f x ≡ []) x xs b.0 (each_empty f xs b.1)

all_empty : {X Y : Type 0} (f : X → List Y) (xs : List X) → All (λ x. f x ≡ []) xs → flat_map f xs ≡ []
all_empty f [] h = refl
all_empty f (x ∷ xs) h = rw (h 0 x (omega arith), all_empty f xs (λ k d l. h (suc k) d (omega (arith, l)))) refl

module _ (u : UnitView) (v : Occurrence ℕ) where
  free_where_none : (ws : List Text) → captured u (ws, v) ≡ [] → All (IsFreeAt u v) ws
  free_where_none [] h = All-nil (IsFreeAt u v)
  free_where_none (w ∷ ws) h = by (read_as u v w) refl h (free_where_none ws)
    where
      by : (o : Option (Occurrence Text)) → read_as u v w ≡ o → cons_option (option_map (told u v w) o) (captured u (ws, v)) ≡ [] → (captured u (ws, v) ≡ [] → All (IsFreeAt u v) ws) → All (IsFreeAt u v) (w ∷ ws)
      by None e k more = All-cons (IsFreeAt u v) w ws e (more k)
      by (Some b) e k more = absurd (let z : ⊥ = cc in z)

  none_where_free : (ws : List Text) → All (IsFreeAt u v) ws → captured u (ws, v) ≡ []
  none_where_free [] h = refl
  none_where_free (w ∷ ws) h = rw (h 0 w (omega arith), none_where_free ws (λ k d l. h (suc k) d (omega (arith, l)))) refl

pub none_is_free : NoneIsFree
none_is_free u =
    let all = spoken (trees_of u) in (
      (λ e k d l. free_where_none u (slice_index_or all k d).1 (slice_index_or all k d).0 (each_empty (captured u) all e k d l)),
      (λ h. all_empty (captured u) all (λ k d l. none_where_free u (slice_index_or all k d).1 (slice_index_or all k d).0 (h k d l))),
    )
