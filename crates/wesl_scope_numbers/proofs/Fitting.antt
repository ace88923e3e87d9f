-- What the parts of `numbers_by_meaning` say together.
use Rattle.std.proofs.Common.{◌≡◌, ℕ, ◌<◌, List, [], ◌∷◌, length, map, refl, sym, ◌∙◌, ap, subst, arith, ◌↔◌}
use Rattle.std.specs.Prelude.{Some, None, Option}
use Rattle.std.specs.List.{All, Contains}
use Rattle.std.proofs.lemmas.List.{length-map}
use Rattle.wesl_tree_names.specs.Path.{Text}
use Rattle.wesl_tree_syntax.specs.Unit.{UnitView, trees_of, spelled, numbers, name_in}
use Rattle.wesl_tree_syntax.specs.Numbers.{AreNumbers}
use Rattle.wesl_scope_occurrences.specs.Occurrences.{Standing, module_name, parameter, local, reference, word, Occurrence, occurrences}
use Rattle.wesl_scope_occurrences.specs.Ways.{AreNested, way}
use Rattle.wesl_scope_occurrences.specs.Laws.{WaysLeadOutwards, SpellingKeepsOccurrences, OccurrencesAreIdentifiers}
use Rattle.wesl_scope_meanings.specs.Scopes.{Key, meaning, binder_of, key_as, key_of, keys}
use Rattle.wesl_scope_numbers.specs.Canonical.{canonical}
use Rattle.wesl_scope_meanings.specs.declared.keys.Key.{Key as FoundKey}
use Rattle.wesl_scope_meanings.specs.declared.keys.Key.TheVariants as made
use Rattle.wesl_scope_meanings.specs.Keys.{named, key_view, flat, key_name, IsKeyBelow}
use Rattle.wesl_scope_numbers.specs.Numbering.{distinct}
use Rattle.wesl_scope_meanings.proofs.Keying.{numbers_moved}
use Rattle.wesl_scope_numbers.proofs.Numbered.{names_of_numbers, numbers_below, all_numbers, one_number_each, each_stands}

abbrev named_by : {I : Type 0} → Occurrence I → I
named_by o = o.name

-- a key has the name of its identifier
meaning_name : (n : Text) (o : Option (Occurrence Text)) → key_name (meaning n o) ≡ n
meaning_name n (Some o) = refl
meaning_name n None = refl

key_has_name : (all : List (Occurrence Text)) (o : Occurrence Text) (r : Standing) → key_name (key_as all o r) ≡ o.name
key_has_name all o module_name = refl
key_has_name all o parameter = refl
key_has_name all o (local e) = refl
key_has_name all o (reference (Some path)) = refl
key_has_name all o (reference None) = meaning_name o.name (binder_of all o.name o.place o.block)
key_has_name all o word = refl

keys_have_names : (all os : List (Occurrence Text)) → map key_name (map (key_of all) os) ≡ map named_by os
keys_have_names all [] = refl
keys_have_names all (o ∷ os) = ap (λ n. n ∷ map key_name (map (key_of all) os)) (key_has_name all o o.role) ∙ ap (λ ns. o.name ∷ ns) (keys_have_names all os)

names_named : (names : List Text) (os : List (Occurrence ℕ)) → map named_by (map (named names) os) ≡ map (name_in names) (map named_by os)
names_named names [] = refl
names_named names (o ∷ os) = ap (λ ns. name_in names o.name ∷ ns) (names_named names os)

flat_names : (outer : List ℕ) (ks : List FoundKey) → map key_name (map flat ks) ≡ map key_name (map (key_view (way outer)) ks)
flat_names outer [] = refl
flat_names outer (made.Bound b n ∷ ks) = ap (λ ns. n.now ∷ ns) (flat_names outer ks)
flat_names outer (made.Free n ∷ ks) = ap (λ ns. n.now ∷ ns) (flat_names outer ks)
flat_names outer (made.Qualified p n ∷ ks) = ap (λ ns. n.now ∷ ns) (flat_names outer ks)

module _ (ways : WaysLeadOutwards) (spelling : SpellingKeepsOccurrences) (identified : OccurrencesAreIdentifiers) (v : UnitView) (outer : List ℕ) (ns : AreNested outer) (ks : List FoundKey) (meant : map (key_view (way outer)) ks ≡ keys (occurrences (spelled v))) (below : All (IsKeyBelow (length outer)) ks)
    (given : List ℕ) (given_is : given ≡ canonical (map flat ks)) (names : List Text) (names_is : names ≡ map key_name (distinct (map flat ks))) where
  named_ids : map key_name (map flat ks) ≡ map (name_in v.names) (numbers v)
  named_ids =
      flat_names outer ks
      ∙ (ap (map key_name) meant
      ∙ (keys_have_names (occurrences (spelled v)) (occurrences (spelled v))
      ∙ (ap (map named_by) (spelling v)
      ∙ (names_named v.names (occurrences (trees_of v))
      ∙ ap (map (name_in v.names)) (identified (trees_of v))))))

  one_each : length given ≡ length (numbers v)
  one_each =
      ap length given_is ∙ (one_number_each [] (map flat ks) ∙ (sym (length-map (map flat ks) key_name) ∙ (ap length named_ids ∙ length-map (numbers v) (name_in v.names))))

  one_name_each : length names ≡ length (distinct (map flat ks))
  one_name_each = ap length names_is ∙ length-map (distinct (map flat ks)) key_name

  numbers_fit : All (λ m. m < length names) given
  numbers_fit =
      subst (λ xs. All (λ m. m < length names) xs) (sym given_is)
      (subst (λ l. All (λ m. m < l) (canonical (map flat ks))) (sym one_name_each) (all_numbers (length (distinct (map flat ks))) (canonical (map flat ks)) (numbers_below [] (map flat ks))))

  all_used : (m : ℕ) → (m < length names) ↔ Contains given m
  all_used m = (
    λ h. subst (λ xs. Contains xs m) (sym given_is) (each_stands [] (map flat ks) m (omega arith) (subst (λ n. m < n) one_name_each h)),
    λ c. subst (λ k. k < length names) c.2 (numbers_fit c.0 m c.1),
  )

  names_fit : map (name_in names) given ≡ map (name_in v.names) (numbers v)
  names_fit =
      ap (map (name_in names)) given_is
      ∙ (ap (λ xs. map (name_in xs) (canonical (map flat ks))) names_is ∙ (names_of_numbers [] (map flat ks) ∙ named_ids))

  are_numbers : AreNumbers (map flat ks) (canonical (map flat ks)) → AreNumbers (keys (occurrences (spelled v))) given
  are_numbers a =
      subst (λ xs. AreNumbers (keys (occurrences (spelled v))) xs) (sym given_is)
      (subst (λ xs. AreNumbers xs (canonical (map flat ks))) meant (numbers_moved ways outer ns ks (canonical (map flat ks)) below a))

-- what the call hands on
pub record Fits (v : UnitView) (given : List ℕ) (names : List Text) : Type 0 where
  pub one_each_is : length given ≡ length (numbers v)
  pub below_is : All (λ m. m < length names) given
  pub used_is : (m : ℕ) → (m < length names) ↔ Contains given m
  pub named_is : map (name_in names) given ≡ map (name_in v.names) (numbers v)
  pub numbers_are : AreNumbers (keys (occurrences (spelled v))) given

pub fits : WaysLeadOutwards → SpellingKeepsOccurrences → OccurrencesAreIdentifiers → (v : UnitView) (outer : List ℕ) (ks : List FoundKey) (given : List ℕ) (names : List Text) (slice : List FoundKey)
    → AreNested outer → map (key_view (way outer)) ks ≡ keys (occurrences (spelled v)) → All (IsKeyBelow (length outer)) ks
    → slice ≡ ks → given ≡ canonical (map flat slice) → names ≡ map key_name (distinct (map flat slice))
    → ((xs : List Key) → AreNumbers xs (canonical xs)) → Fits v given names
fits ways spelling identified v outer ks given names slice ns meant below same ge te law =
    let gf : given ≡ canonical (map flat ks) = ge ∙ ap (λ m. canonical (map flat m)) same in
    let tf : names ≡ map key_name (distinct (map flat ks)) = te ∙ ap (λ m. map key_name (distinct (map flat m))) same in
    record {
      one_each_is = one_each ways spelling identified v outer ns ks meant below given gf names tf;
      below_is = numbers_fit ways spelling identified v outer ns ks meant below given gf names tf;
      used_is = all_used ways spelling identified v outer ns ks meant below given gf names tf;
      named_is = names_fit ways spelling identified v outer ns ks meant below given gf names tf;
      numbers_are = are_numbers ways spelling identified v outer ns ks meant below given gf names tf (law (map flat ks));
    }
