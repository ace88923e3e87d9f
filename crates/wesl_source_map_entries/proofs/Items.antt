-- The items that names stand for, in a table.
use Rattle.std.proofs.Common.{◌≡◌, List, [], ◌∷◌, ◌++◌, Bool, true, false, cond, Option, Some, None, option_map, map, String, string_bytes, refl, sym, ap, ◌∙◌}
use Rattle.std.specs.declared.alloc.Global.{Global}
use Rattle.std.specs.Str.{bytes_eq}
use Rattle.std.specs.Cmp.Lexicographic.{slice_cmp, nat_list_eq_equiv}
use Rattle.std.specs.Ordering.{nat_cmp, eq_by_cmp}
use Rattle.std.specs.String.{string_cmp}
use Rattle.std.specs.BTreeMap.{BTreeMap, UpdatesBy, IsOrdered, get_by_text}
use Rattle.std.specs.Map.{lookup, keys_of, update, update_all}
use Rattle.std.proofs.lemmas.Map.Keys.{IsDistinct-from_sorted}
use Rattle.std.proofs.lemmas.List.{map-append}
use Rattle.std.proofs.lemmas.Map.{update_all_push}
use Rattle.std.proofs.lemmas.Map.Made.{update_all_none}
use Rattle.std.proofs.lemmas.Map.Text.{btree_map_updates_text, is_eq-slice_cmp}
use Rattle.wesl_tree_names.specs.Path.{Text}
use Rattle.wesl_tree_names.specs.declared.path.ModulePath.{ModulePath}
use Rattle.wesl_source_map_entries.specs.Records.{Item, WritesItem, item_view}
use Rattle.wesl_source_map_entries.specs.Listed.{IsListing}
use Rattle.wesl_source_map_entries.specs.Tables.{items_in}
use Rattle.wesl_source_map_entries.proofs.Seen.{seen, lookup-seen, distinct-seen, sorted-seen}

abbrev pub Entry : Type 0
Entry = String Global × (ModulePath × String Global)

-- what an entry says
abbrev pub entry_seen : Entry → Text × Item
entry_seen = seen string_bytes item_view

view-cond : (b : Bool) (v : ModulePath × String Global) (o : Option (ModulePath × String Global)) → option_map item_view (cond b (Some v) o) ≡ cond b (Some (item_view v)) (option_map item_view o)
view-cond true v o = refl
view-cond false v o = refl

-- what one write makes of a table
pub items_in-updates : (name : Text) (old new : BTreeMap (String Global) (ModulePath × String Global)) (v : ModulePath × String Global)
    → UpdatesBy string_cmp (λ k. slice_cmp nat_cmp name (string_bytes k)) old new (Some v)
    → (q : Text) → items_in new q ≡ update bytes_eq (items_in old) name (Some (item_view v)) q
items_in-updates name old new v h q = ap (option_map item_view) (btree_map_updates_text name old new (Some v) h q) ∙ view-cond (bytes_eq name q) v (get_by_text old q)

-- a look-up in the table is one among the entries as they are seen
pub items_in-lookup : (table : BTreeMap (String Global) (ModulePath × String Global)) (q : Text) → lookup (bytes_eq q) (map entry_seen table.entries) ≡ items_in table q
items_in-lookup table q =
    lookup-seen string_bytes item_view (bytes_eq q) table.entries
    ∙ ap (λ (test : String Global → Bool). option_map item_view (lookup test table.entries)) (λ i k. sym (is_eq-slice_cmp q (string_bytes k)) i)

-- the entries as they are seen list what the table has
pub items_in-listing : (table : BTreeMap (String Global) (ModulePath × String Global)) → IsOrdered string_cmp table → IsListing (items_in table) (map entry_seen table.entries)
items_in-listing table h = record {
  ascend = sorted-seen string_bytes item_view string_cmp (slice_cmp nat_cmp) (λ x y. refl) table.entries h;
  all = items_in-lookup table;
}

-- the entries, written one after another, make a table that has the same
pub items_in-all : (table : BTreeMap (String Global) (ModulePath × String Global)) → IsOrdered string_cmp table
    → (q : Text) → update_all bytes_eq (λ _. None) (map entry_seen table.entries) q ≡ items_in table q
items_in-all table h q =
    update_all_none nat_list_eq_equiv bytes_eq (λ x y. refl) (map entry_seen table.entries) q
    (distinct-seen string_bytes item_view (eq_by_cmp string_cmp) bytes_eq (λ x y. is_eq-slice_cmp (string_bytes x) (string_bytes y)) table.entries (IsDistinct-from_sorted string_cmp (keys_of table.entries) h))
    ∙ items_in-lookup table q

-- one more entry is written
pub items_in-more : (old new : BTreeMap (String Global) (ModulePath × String Global)) (es : List Entry) (e : Entry) (written : Text × Item)
    → ((q : Text) → items_in old q ≡ update_all bytes_eq (λ _. None) (map entry_seen es) q)
    → WritesItem written.0 written.1 (items_in old) (items_in new) → written ≡ entry_seen e
    → (q : Text) → items_in new q ≡ update_all bytes_eq (λ _. None) (map entry_seen (es ++ e ∷ [])) q
items_in-more old new es e written so_far h is q =
    h q
    ∙ update_all_push bytes_eq (λ _. None) (items_in old) (map entry_seen es) written q (so_far q)
    ∙ ap (λ (x : Text × Item). update_all bytes_eq (λ _. None) (map entry_seen es ++ x ∷ []) q) is
    ∙ ap (λ (xs : List (Text × Item)). update_all bytes_eq (λ _. None) xs q) (sym (map-append entry_seen es (e ∷ [])))
