-- What is known of modules, in a table.
use Rattle.std.proofs.Common.{◌≡◌, List, [], ◌∷◌, ◌++◌, Bool, true, false, Bor, Option, Some, None, option_map, map, String, refl, sym, subst, ap, ◌∙◌, ⊎_elim}
use Rattle.std.specs.declared.alloc.Global.{Global}
use Rattle.std.specs.Cmp.{IsEquivalence, both_ways}
use Rattle.std.specs.List.{IsDistinct}
use Rattle.std.specs.Map.{lookup, keys_of, update, update_all, KeepsOthers, IsKeyTest, AreApart}
use Rattle.std.proofs.lemmas.Bool.{cases_Bool, cond-true, cond-false}
use Rattle.std.proofs.lemmas.List.{map-append}
use Rattle.std.proofs.lemmas.Map.{update_all_push}
use Rattle.std.proofs.lemmas.Map.Made.{update_all_none}
use Rattle.wesl_tree_names.specs.Path.{Path, path_view}
use Rattle.wesl_tree_names.specs.PathLaws.{path_eq}
use Rattle.wesl_tree_names.specs.PathOrder.{same_path}
use Rattle.wesl_tree_names.specs.declared.path.ModulePath.{ModulePath}
use Rattle.wesl_tree_names.proofs.Order.{path_eq-view, path_eq-test, same_path-decides}
use Rattle.wesl_source_map_entries.specs.Records.{Source, WritesSource, source_view}
use Rattle.wesl_source_map_entries.specs.Tables.{sources_in}
use Rattle.wesl_source_map_entries.proofs.Seen.{seen, lookup-seen, distinct-seen}

abbrev pub Said : Type 0
Said = Option (String Global) × String Global

abbrev pub entry_seen : ModulePath × Said → Path × Source
entry_seen = seen path_view source_view

-- `same_path` is an equivalence
same_path-symm : (p q : Path) → same_path p q ≡ same_path q p
same_path-symm p q =
    both_ways (same_path p q) (same_path q p)
    (λ e. (same_path-decides q p).1 (sym ((same_path-decides p q).0 e)))
    (λ e. (same_path-decides p q).1 (sym ((same_path-decides q p).0 e)))

same_path-congr : (p q r : Path) → same_path p q ≡ true → same_path p r ≡ same_path q r
same_path-congr p q r e = ap (λ x. same_path x r) ((same_path-decides p q).0 e)

same_path-laws : IsEquivalence same_path
same_path-laws = record { refl = λ p. (same_path-decides p p).1 refl; symm = same_path-symm; congr = same_path-congr }

-- the look-up of a path of the code
pub sources_in-get : (p : ModulePath) (es : List (ModulePath × Said)) → sources_in es (path_view p) ≡ option_map source_view (lookup (path_eq p) es)
sources_in-get p es = ap (λ (test : ModulePath → Bool). option_map source_view (lookup test es)) (sym (path_eq-test p))

-- the test by which what is said of a module is looked up
abbrev finds : Path → ModulePath → Bool
finds q k = same_path q (path_view k)

finds-is : (q : Path) → IsKeyTest path_eq (finds q)
finds-is q x y h = same_path-congr q (path_view x) (path_view y) h ∙ sym (path_eq-view x y)

finds-apart : (k : ModulePath) (q : Path) → same_path (path_view k) q ≡ false → AreApart (path_eq k) (finds q)
finds-apart k q n x h =
    same_path-symm q (path_view x) ∙ sym (same_path-congr (path_view k) (path_view x) q (sym (path_eq-view k x) ∙ h)) ∙ n

others : (k : ModulePath) (old new : List (ModulePath × Said)) → KeepsOthers path_eq (path_eq k) old new → (q : Path) → same_path (path_view k) q ≡ false → lookup (finds q) new ≡ lookup (finds q) old
unfolding KeepsOthers
others k old new h q n = h (finds q) (finds-is q) (finds-apart k q n)

-- what one write makes of a table
pub sources_in-updates : (k : ModulePath) (v : Said) (old new : List (ModulePath × Said)) → lookup (path_eq k) new ≡ Some v → KeepsOthers path_eq (path_eq k) old new
    → (q : Path) → sources_in new q ≡ update same_path (sources_in old) (path_view k) (Some (source_view v)) q
sources_in-updates k v old new here kept q =
    ⊎_elim
    (λ y. subst (λ r. sources_in new r ≡ Some (source_view v)) ((same_path-decides (path_view k) q).0 y) (sources_in-get k new ∙ ap (option_map source_view) here)
    ∙ sym (cond-true (same_path (path_view k) q) (Some (source_view v)) (sources_in old q) y))
    (λ n. ap (option_map source_view) (others k old new kept q n) ∙ sym (cond-false (same_path (path_view k) q) (Some (source_view v)) (sources_in old q) n))
    (cases_Bool (same_path (path_view k) q))

-- the entries, written one after another, make a table that has the same
pub sources_in-all : (es : List (ModulePath × Said)) → IsDistinct path_eq (keys_of es) → (q : Path) → update_all same_path (λ _. None) (map entry_seen es) q ≡ sources_in es q
sources_in-all es h q =
    update_all_none same_path-laws same_path (λ x y. refl) (map entry_seen es) q (distinct-seen path_view source_view path_eq same_path path_eq-view es h)
    ∙ lookup-seen path_view source_view (same_path q) es

lent : (r : Option (Bor Said)) → option_map (λ (x : Bor Said). source_view x.now) r ≡ option_map source_view (option_map (λ (x : Bor Said). x.now) r)
lent None = refl
lent (Some x) = refl

-- one more entry is written
pub sources_in-more : (old new : List (ModulePath × Said)) (es : List (ModulePath × Said)) (e : ModulePath × Said) (written : Path × Source)
    → ((q : Path) → sources_in old q ≡ update_all same_path (λ _. None) (map entry_seen es) q)
    → WritesSource written.0 written.1 (sources_in old) (sources_in new) → written ≡ entry_seen e
    → (q : Path) → sources_in new q ≡ update_all same_path (λ _. None) (map entry_seen (es ++ e ∷ [])) q
sources_in-more old new es e written so_far h is q =
    h q
    ∙ update_all_push same_path (λ _. None) (sources_in old) (map entry_seen es) written q (so_far q)
    ∙ ap (λ (x : Path × Source). update_all same_path (λ _. None) (map entry_seen es ++ x ∷ []) q) is
    ∙ ap (λ (xs : List (Path × Source)). update_all same_path (λ _. None) xs q) (sym (map-append entry_seen es (e ∷ [])))

-- what a look-up lends says what is known of the module
pub sources_in-lent : (p : ModulePath) (es : List (ModulePath × Said)) (r : Option (Bor Said)) → option_map (λ (x : Bor Said). x.now) r ≡ lookup (path_eq p) es
    → option_map (λ (x : Bor Said). source_view x.now) r ≡ sources_in es (path_view p)
sources_in-lent p es r h = lent r ∙ ap (option_map source_view) h ∙ sym (sources_in-get p es)
