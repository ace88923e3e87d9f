-- The test of faith says what the words say.
use Rattle.std.proofs.Common.{◌≡◌, ◌≢◌, ℕ, Bool, true, false, List, [], ◌∷◌, refl, sym, ◌∙◌}
use Rattle.std.specs.Prelude.{not, ◌&&◌, ◌||◌, ◌==◌, bytes_eq, if◌then◌else◌}
use mathlib.Core.Bool.{true≢false}
use Rattle.std.specs.Bool.{Decides}
use Rattle.std.specs.List.{All, list_all, list_any}
use Rattle.std.proofs.lemmas.Bool.Decides.{Decides-by_and, Decides-and, Decides-not, Decides-eqb}
use Rattle.std.proofs.lemmas.Slice.Eq.{bytes_eq-Decides}
use Rattle.wesl_tree_names.specs.Path.{Text}
use Rattle.wesl_tree_syntax.specs.Unit.{UnitView, name_in, trees_of}
use Rattle.wesl_scope_occurrences.specs.Occurrences.{Occurrence, occurrences, is_binder, is_unqualified}
use Rattle.wesl_scope_numbers.specs.Faithful.{is_global, name_of, binders_of, AgreeOn, ReadRight, IsFaithful}
use Rattle.wesl_scope_numbers.specs.Test.{is_named, shares_number, are_apart, has_number, agree_on, reads_right, all_read_right, is_faithful}

pub all_decides : {X : Type 0} (p : X → Bool) (P : X → Type 0) → ((x : X) → Decides (p x) (P x)) → (xs : List X) → Decides (list_all p xs) (All P xs)
all_decides p P each xs = Decides-by_and p P (list_all p) each refl (λ _ _. refl) xs

-- asked only where a test passes
pub if_decides : {P : Type 0} (t r : Bool) → Decides r P → Decides (if t then r else true) (t ≡ true → P)
if_decides true r d = (λ e _. d.0 e, λ f. d.1 (f refl))
if_decides false r d = (λ _ e. absurd (true≢false (sym e)), λ _. refl)

both_decide : (t q r : Bool) {Q R : Type 0} → Decides q Q → Decides r R → Decides (if t && q then r else true) (t ≡ true → Q → R)
both_decide true true r dq d = (λ e _ _. d.0 e, λ f. d.1 (f refl (dq.0 refl)))
both_decide true false r dq d = (λ _ _ x. absurd (true≢false (sym (dq.1 x))), λ _. refl)
both_decide false q r dq d = (λ _ e. absurd (true≢false (sym e)), λ _. refl)

not_both : (t r : Bool) {P : Type 0} → Decides r P → Decides (not (t && r)) (t ≡ true → ¬ P)
not_both true r d = let n = Decides-not r d in (λ e _. n.0 e, λ f. n.1 (f refl))
not_both false r d = (λ _ e. absurd (true≢false (sym e)), λ _. refl)

-- no element passes where each fails
none_is : {X : Type 0} (p : X → Bool) (xs : List X) → not (list_any p xs) ≡ list_all (λ x. not (p x)) xs
none_is p [] = refl
none_is p (x ∷ xs) = by (p x) (none_is p xs)
  where
    by : (t : Bool) → not (list_any p xs) ≡ list_all (λ y. not (p y)) xs → not (t || list_any p xs) ≡ (not t && list_all (λ y. not (p y)) xs)
    by true e = refl
    by false e = e

same_decides : {P : Type 0} {r s : Bool} → r ≡ s → Decides s P → Decides r P
same_decides e d = (λ x. d.0 (sym e ∙ x), λ p. e ∙ d.1 p)

module _ (names : List Text) (all : List (Occurrence ℕ)) where
  abbrev IsOne : Occurrence ℕ → Occurrence ℕ → Type 0
  IsOne a b = is_global b ≡ true → name_of names all b ≡ name_of names all a → b.name ≡ a.name

  one_decides : (a : Occurrence ℕ) → Decides (shares_number names all a) (is_global a ≡ true → All (IsOne a) all)
  one_decides a =
      if_decides (is_global a) (list_all (λ b. if is_named names (name_in names a.name) b then b.name == a.name else true) all)
      (all_decides (λ b. if is_named names (name_in names a.name) b then b.name == a.name else true) (IsOne a)
      (λ b. both_decide (is_global b) (bytes_eq (name_in names b.name) (name_in names a.name)) (b.name == a.name) (bytes_eq-Decides (name_in names b.name) (name_in names a.name)) (Decides-eqb b.name a.name))
      all)

  agree_decides : (m : ℕ) (os : List (Occurrence ℕ)) → Decides (agree_on all m os) (AgreeOn names all m os)
  agree_decides m [] =
      same_decides (none_is (has_number m) all)
      (all_decides (λ o. not (has_number m o)) (λ o. is_binder o.role ≡ true → o.name ≢ m) (λ o. not_both (is_binder o.role) (o.name == m) (Decides-eqb o.name m)) all)
  agree_decides m (x ∷ xs) = all_decides (λ o. o.name == m) (λ o. o.name ≡ m) (λ o. Decides-eqb o.name m) (x ∷ xs)

  right_decides : (r : Occurrence ℕ) → Decides (reads_right names all r) (is_unqualified r.role ≡ true → AgreeOn names all r.name (binders_of names all (name_of names all r) r.place r.block))
  right_decides r =
      if_decides (is_unqualified r.role) (agree_on all r.name (binders_of names all (name_in names r.name) r.place r.block)) (agree_decides r.name (binders_of names all (name_in names r.name) r.place r.block))

  read_decides : Decides (are_apart names all && all_read_right names all) (ReadRight names all)
  read_decides =
      let first = all_decides (shares_number names all) (λ a. is_global a ≡ true → All (IsOne a) all) one_decides all in
      let second = all_decides (reads_right names all) (λ r. is_unqualified r.role ≡ true → AgreeOn names all r.name (binders_of names all (name_of names all r) r.place r.block)) right_decides all in
      let both = Decides-and (are_apart names all) (all_read_right names all) first second in
      (λ e. let h = both.0 e in record { module_names_apart = h.0; references_read_right = h.1 }, λ f. both.1 (f.module_names_apart, f.references_read_right))

pub faith_decides : (u : UnitView) → Decides (is_faithful u) (IsFaithful u)
faith_decides u = read_decides u.names (occurrences (trees_of u))
