-- Faithful units read as they are meant.
use Rattle.std.proofs.Common.{◌≡◌, ℕ, zero, suc, ◌<◌, List, [], ◌∷◌, length, get_or, map, refl, sym, ap, ◌∙◌, arith}
use Rattle.std.specs.List.{All}
use Rattle.std.proofs.lemmas.List.Elements.{All-filter}
use Rattle.wesl_tree_names.specs.Path.{Text}
use Rattle.wesl_tree_syntax.specs.Numbers.{AreNumbers, number_at}
use Rattle.wesl_scope_occurrences.specs.Occurrences.{Block, Occurrence}
use Rattle.wesl_scope_meanings.specs.Scopes.{binds}
use Rattle.wesl_scope_meanings.specs.Keys.{named}
use Rattle.wesl_scope_numbers.specs.Faithful.{first_filled, name_of, binders_in, binders_of, AgreeOn, ReadRight}
use Rattle.wesl_link_laws.specs.Reading.{StandFor, ReadsAsMeant}
use Rattle.wesl_link_laws.proofs.Meaning.{one_number}

number_of : (all : List (Occurrence ℕ)) (i : ℕ) (d : Occurrence ℕ) → i < length all → number_at (map (λ o. o.name) all) i ≡ (get_or all i d).name
number_of [] i d h = absurd (omega (arith, h))
number_of (x ∷ xs) zero d h = refl
number_of (x ∷ xs) (suc i) d h = number_of xs i d (omega (arith, h))

numbers_length : (all : List (Occurrence ℕ)) → length (map (λ o. o.name) all) ≡ length all
numbers_length [] = refl
numbers_length (x ∷ xs) = ap suc (numbers_length xs)

-- what holds of all identifiers holds of those that a name picks
module _ (names : List Text) (all : List (Occurrence ℕ)) (P : Occurrence ℕ → Type 0) (h : All P all) where
  filled : (xs ys : List (Occurrence ℕ)) → All P xs → All P ys → All P (first_filled xs ys)
  filled [] ys a b = b
  filled (x ∷ xs) ys a b = a

  pub all_picked : (n : Text) (p : ℕ) (b : Block) → All P (binders_of names all n p b)
  all_picked n p [] = All-filter (λ o. binds [] n p (named names o)) P all h
  all_picked n p (k ∷ outer) = filled (binders_in names all n p (k ∷ outer)) (binders_of names all n p outer) (All-filter (λ o. binds (k ∷ outer) n p (named names o)) P all h) (all_picked n p outer)

module _ {K : Type 0} (names : List Text) (all : List (Occurrence ℕ)) (means : ℕ → K) (ks : List K) (numbered : AreNumbers ks (map (λ o. o.name) all)) (denoted : map means (map (λ o. o.name) all) ≡ ks) where
  pub apart : (i j : ℕ) (d e : Occurrence ℕ) → i < length all → j < length all → means (get_or all i d).name ≡ means (get_or all j e).name → (get_or all i d).name ≡ (get_or all j e).name
  apart i j d e hi hj same =
      let l = numbers_length all in
      let at_i = number_of all i d hi in
      let at_j = number_of all j e hj in
      sym at_i ∙ (one_number means ks (map (λ o. o.name) all) numbered denoted i j (omega (arith, hi, l)) (omega (arith, hj, l)) (ap means at_i ∙ (same ∙ sym (ap means at_j))) ∙ at_j)

  stand_for : (m : ℕ) (os : List (Occurrence ℕ)) → All (λ o. means o.name ≡ means m → o.name ≡ m) all → AgreeOn names all m os → StandFor names all means (means m) os
  stand_for m [] one a = λ i d h b same. a i d h b (one i d h same)
  stand_for m (x ∷ xs) one a = λ i d h. ap means (a i d h)

  agree_on : (m : ℕ) (os : List (Occurrence ℕ)) → All (λ o. means o.name ≡ means m → o.name ≡ m) os → StandFor names all means (means m) os → AgreeOn names all m os
  agree_on m [] one a = λ i d h b same. a i d h b (ap means same)
  agree_on m (x ∷ xs) one a = λ i d h. one i d h (a i d h)

  pub reads_as_meant : ReadRight names all → ReadsAsMeant names all means
  reads_as_meant r = record {
    module_names_apart = λ i d hi ga j e hj gb n. ap means (r.module_names_apart i d hi ga j e hj gb n);
    references_read_so = λ i d hi u.
        stand_for (get_or all i d).name (binders_of names all (name_of names all (get_or all i d)) (get_or all i d).place (get_or all i d).block) (λ j e hj. apart j i e d hj hi) (r.references_read_right i d hi u);
  }

  pub reads_right : ReadsAsMeant names all means → ReadRight names all
  reads_right r = record {
    module_names_apart = λ i d hi ga j e hj gb n. apart j i e d hj hi (r.module_names_apart i d hi ga j e hj gb n);
    references_read_right = λ i d hi u.
        let o = get_or all i d in
        agree_on o.name (binders_of names all (name_of names all o) o.place o.block) (all_picked names all (λ x. means x.name ≡ means o.name → x.name ≡ o.name) (λ j e hj. apart j i e d hj hi) (name_of names all o) o.place o.block) (r.references_read_so i d hi u);
  }
