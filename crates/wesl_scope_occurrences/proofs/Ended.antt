-- The end of a declaration.
use Rattle.std.proofs.Common.{◌≡◌, ℕ, zero, suc, ◌<◌, ◌≤◌, List, [], ◌∷◌, length, get_or, set, map, refl, ap, arith, sym, ◌∙◌, subst}
use Rattle.wesl_scope_occurrences.specs.Walk.{Found, ended_as, ended_at}
use Rattle.wesl_scope_occurrences.specs.Views.{standing_view, occurrence_view}
use Rattle.wesl_scope_occurrences.specs.declared.occurrence.Standing.{Standing}
use Rattle.wesl_scope_occurrences.specs.declared.occurrence.Occurrence.{Occurrence}

module _ {A : Type 0} (view : A → Found) (e : ℕ) where
  pub ended_set : (p : ℕ) (xs : List A) (w d : A) → p < length xs → view w ≡ record (view (get_or xs p d)) { role = ended_as e (view (get_or xs p d)).role } → map view (set xs p w) ≡ ended_at e p (map view xs)
  ended_set p [] w d h is = absurd (omega arith)
  ended_set zero (x ∷ xs) w d h is = ap (λ o. o ∷ map view xs) is
  ended_set (suc p) (x ∷ xs) w d h is = ap (λ os. view x ∷ os) (ended_set p xs w d (omega arith) is)

  pub ended_past : (p : ℕ) (xs : List A) → length xs ≤ p → map view xs ≡ ended_at e p (map view xs)
  ended_past p [] h = refl
  ended_past zero (x ∷ xs) h = absurd (omega arith)
  ended_past (suc p) (x ∷ xs) h = ap (λ os. view x ∷ os) (ended_past p xs (omega arith))

pub other_default : {X : Type 0} (xs : List X) (p : ℕ) (d e : X) → p < length xs → get_or xs p d ≡ get_or xs p e
other_default [] p d e h = absurd (omega arith)
other_default (x ∷ xs) zero d e h = refl
other_default (x ∷ xs) (suc p) d e h = other_default xs p d e (omega arith)

-- the item that was read, with its standing changed
pub ended_item : (xs : List Occurrence) (p e n : ℕ) (o i : Occurrence) (st : Standing) → p < length xs → o ≡ get_or xs p o → i ≡ get_or xs p i → n ≡ e → standing_view st ≡ ended_as n (standing_view i.standing)
    → map occurrence_view (set xs p (record { standing = st; ident = o.ident; place = o.place; block = o.block; declaration = o.declaration; is_excused = o.is_excused })) ≡ ended_at e p (map occurrence_view xs)
ended_item xs p e n o i st h is_o is_i ne is =
    let w : Occurrence = record { standing = st; ident = o.ident; place = o.place; block = o.block; declaration = o.declaration; is_excused = o.is_excused } in
    let same : i ≡ o = is_i ∙ (other_default xs p i o h ∙ sym is_o) in
    let role : standing_view st ≡ ended_as e (standing_view o.standing) = is ∙ (ap (λ k. ended_as k (standing_view i.standing)) ne ∙ ap (λ y. ended_as e (standing_view y.standing)) same) in
    let here : occurrence_view w ≡ record (occurrence_view o) { role = ended_as e (occurrence_view o).role } = ap (λ r. record (occurrence_view o) { role = r }) role in
    ended_set occurrence_view e p xs w o h (subst (λ y. occurrence_view w ≡ record (occurrence_view y) { role = ended_as e (occurrence_view y).role }) is_o here)
