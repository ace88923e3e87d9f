-- Imports are read.
use Rattle.std.proofs.Common.{◌≡◌, ◌⊎◌, ℕ, zero, suc, Bool, true, false, not, ◌&&◌, ◌||◌, if◌then◌else◌, List, [], ◌∷◌, ◌++◌, length, Some, None, option_map, refl, sym as turned, inl, inr, ap, ◌∙◌, subst, codes, bytes_eq}
use Rattle.std.proofs.lemmas.Slice.Eq.{bytes_eq-Decides}
use Rattle.wesl_tree_base.specs.Pieces.{cut, slash}
use Rattle.wesl_tree_names.specs.Path.{Text, Origin, absolute, relative, from_package}
use Rattle.wesl_tree_syntax.specs.Tree.{Kind, binder, word, kind, at, ident, texts, path, end, tree, absent, present, list, import_node, import_statement, import_item, import_collection, import_entry}
use Rattle.wesl_tree_syntax.specs.Kinds.{same_kind, same_role}
use Rattle.wesl_text_tokens.specs.declared.symbol.Symbol.TheVariants as is
use Rattle.wesl_text_tokens.specs.Tokens.{Token, name, symbol}
use Rattle.wesl_text_form.specs.Slots.{left}
use Rattle.wesl_text_form.specs.Names.{is_word, is_free, is_name, are_names, is_path, is_origin}
use Rattle.wesl_text_form.specs.Productions.{Sort, an_attribute, a_content, an_entry, an_import, a_bare_import, an_ident, an_item, steps, a_path, Row, nothing, sym, says, own, leaf, commas, optional, attrs, row_of, rows_of_content}
use Rattle.wesl_text_form.specs.Spelling.{Label, Forest, spells, followed, named, signed, stepped, parted, trailing, origin_slots, item_role, leaf_slots, first_slots, fits, stands_as, is_kind, is_end}
use Rattle.wesl_text_reading.specs.Leaves.{are_free, slashed, free_path, super_path, path_of, path_behind, where_path, where_so, item_role_by, read_leaf}
use Rattle.wesl_text_reading.specs.FirstTokens.{begins_name, begins_sign, begins_word, begins_path}
use Rattle.wesl_text_reading.specs.Reading.{Reader, node_of, node, any, begins_child, separate_of, read_part, ranked, at_level, reading}
use Rattle.wesl_text_reading.proofs.Filled.{no_some, of_some, no_true, fill, parts, one, stands}
use Rattle.wesl_text_reading.proofs.Takes.{chosen, where_true, first_parts}
use Rattle.wesl_text_reading.proofs.KindsAgain.{kind_is, role_is, label_is}
use Rattle.wesl_text_reading.proofs.Within.{Within, within_below}
use Rattle.wesl_text_reading.proofs.RowReads.{RowOk, row_reads}
use Rattle.wesl_text_reading.proofs.Loops.{separate_reads}
use Rattle.wesl_text_reading.proofs.Types.{must_first, no_step, steps_read, free_is, supers_read, up_one, names_free, origin_word, origin_rest, path_tokens}
use Rattle.wesl_text_reading.proofs.Chains.{nothing_row, row_token}
use Rattle.wesl_text_reading.proofs.Operands.{InRows, in_rows, only_row, row_optional, leaf_first, own_first}
use Rattle.wesl_text_reading.proofs.Complete.{ReadsSort, node_from, node_by}
use Rattle.wesl_text_reading.proofs.Attributes.{with_between, between_again, cut_filled, row_word}
use Rattle.wesl_text_reading.proofs.Runs.{Unopened, Named, binder_reads, attributes_at}
use Rattle.wesl_text_reading.proofs.Worded.{worded_ok}
use Rattle.std.proofs.lemmas.Bool.{and_parts}

-- ---- paths with slashes

-- words with `/` between, before `::`
slashed_all : (a : Text) (ws : List Text) (ts vs xs : List Token) → left (parted is.Slash (a ∷ ws)) ts ≡ Some vs → vs ≡ symbol is.ColonColon ∷ xs
    → (begins_path true ts ≡ true) × (slashed ts ≡ (with_between slash (a ∷ ws), symbol is.ColonColon ∷ xs))
slashed_all a [] ts vs xs h q =
    let y : (us : List Token) × (ts ≡ name a ∷ us) × (left [] us ≡ Some vs) = must_first (name a) [] ts vs h in
    let e : ts ≡ name a ∷ symbol is.ColonColon ∷ xs = y.1 ∙ ap (λ z. name a ∷ z) (of_some y.0 vs y.2 ∙ q) in
    (ap (λ z. begins_path true z) e, ap slashed e)
slashed_all a (b ∷ ws) ts vs xs h q =
    let y : (us : List Token) × (ts ≡ name a ∷ us) × (left (signed is.Slash ∷ parted is.Slash (b ∷ ws)) us ≡ Some vs) = must_first (name a) (signed is.Slash ∷ parted is.Slash (b ∷ ws)) ts vs h in
    let z : (us : List Token) × (y.0 ≡ symbol is.Slash ∷ us) × (left (parted is.Slash (b ∷ ws)) us ≡ Some vs) = must_first (symbol is.Slash) (parted is.Slash (b ∷ ws)) y.0 vs y.2 in
    let e : ts ≡ name a ∷ symbol is.Slash ∷ z.0 = y.1 ∙ ap (λ s. name a ∷ s) z.1 in
    more z.0 e (slashed_all b ws z.0 vs xs z.2 q) where
      more : (us : List Token) → ts ≡ name a ∷ symbol is.Slash ∷ us → (begins_path true us ≡ true) × (slashed us ≡ (with_between slash (b ∷ ws), symbol is.ColonColon ∷ xs)) → (begins_path true ts ≡ true) × (slashed ts ≡ (with_between slash (a ∷ b ∷ ws), symbol is.ColonColon ∷ xs))
      more (name u ∷ us) e g = (ap (λ s. begins_path true s) e, ap slashed e ∙ ap (λ s. let p : Text × List Token = (a ++ slash ∷ s.0, s.1) in p) g.1)
      more us e g = absurd (no_true g.0)

-- a name of free words between slashes is none of these
not_among : (q u : Text) → are_free (cut slash q) ≡ true → are_free (cut slash u) ≡ false → bytes_eq q u ≡ false
not_among q u h k = at (bytes_eq q u) refl where
  at : (b : Bool) → bytes_eq q u ≡ b → b ≡ false
  at false e = refl
  at true e = absurd (no_true (turned k ∙ (ap (λ z. are_free (cut slash z)) (turned ((bytes_eq-Decides q u).0 e)) ∙ h)))

-- a package with slashes in its name is the origin that it is of
package_again : (q : Text) (ws : List Text) → are_free (cut slash q) ≡ true → are_free ws ≡ true → path_of true q ws ≡ Some (record { origin = from_package q; components = ws })
package_again q ws g f =
    ap (λ b. if b then free_path absolute ws else if bytes_eq q (codes "self") then free_path (relative 0) ws else if bytes_eq q (codes "super") then super_path 1 ws else if are_free (cut slash q) then free_path (from_package q) ws else None) (not_among q (codes "package") g refl)
    ∙ (ap (λ b. if b then free_path (relative 0) ws else if bytes_eq q (codes "super") then super_path 1 ws else if are_free (cut slash q) then free_path (from_package q) ws else None) (not_among q (codes "self") g refl)
    ∙ (ap (λ b. if b then super_path 1 ws else if are_free (cut slash q) then free_path (from_package q) ws else None) (not_among q (codes "super") g refl)
    ∙ (ap (λ b. if b then free_path (from_package q) ws else None) g ∙ free_is (from_package q) ws f)))

-- what is read of a path
abbrev PathReads : List Token → Origin → List Text → List Token → Type 0
PathReads ts o ws vs = (begins_path true ts ≡ true) × (read_leaf (a_path true) ts ≡ Some (path (record { origin = o; components = ws }), vs))

-- one that begins with a word of its own
worded_path : (o : Origin) (ws : List Text) (ts vs : List Token) → path_of true (origin_word o) (origin_rest o ++ ws) ≡ Some (record { origin = o; components = ws }) → left (origin_slots false o ++ stepped ws) ts ≡ Some vs → no_step vs ≡ true → PathReads ts o ws vs
worded_path o ws ts vs k h e =
    let y : (us : List Token) × (ts ≡ name (origin_word o) ∷ symbol is.ColonColon ∷ us) × (left (stepped (origin_rest o ++ ws)) us ≡ Some vs) = path_tokens (record { origin = o; components = ws }) ts vs h in (
      ap (λ z. begins_path true z) y.1,
      ap (λ z. read_leaf (a_path true) z) y.1
          ∙ (ap (λ z. where_path (path_of true (origin_word o) z.0) z.1) (steps_read (origin_rest o ++ ws) y.0 vs y.2 e)
          ∙ ap (λ z. where_path z vs) k),
    )

-- one of a package
package_path : (q : Text) (ws : List Text) (ts vs : List Token) → are_free (cut slash q) ≡ true → are_free ws ≡ true → left (origin_slots true (from_package q) ++ stepped ws) ts ≡ Some vs → no_step vs ≡ true → PathReads ts (from_package q) ws vs
package_path q ws ts vs g f h e = by (cut_filled slash q) where
  by : ((p : Text) × (ps : List Text) × (cut slash q ≡ p ∷ ps)) → PathReads ts (from_package q) ws vs
  by c =
      let x : (us : List Token) × (left (parted is.Slash (cut slash q) ++ signed is.ColonColon ∷ []) ts ≡ Some us) × (left (stepped ws) us ≡ Some vs) = parts (Some (parted is.Slash (cut slash q) ++ signed is.ColonColon ∷ [])) (Some (stepped ws)) ts vs h in
      let y : (us : List Token) × (left (parted is.Slash (cut slash q)) ts ≡ Some us) × (left (signed is.ColonColon ∷ []) us ≡ Some x.0) = parts (Some (parted is.Slash (cut slash q))) (Some (signed is.ColonColon ∷ [])) ts x.0 x.1 in
      let z : y.0 ≡ symbol is.ColonColon ∷ x.0 = stands (symbol is.ColonColon) y.0 x.0 (one (signed is.ColonColon) y.0 x.0 y.2) in
      let s : (begins_path true ts ≡ true) × (slashed ts ≡ (with_between slash (c.0 ∷ c.1), symbol is.ColonColon ∷ x.0)) = slashed_all c.0 c.1 ts y.0 x.0 (ap (λ a. left (parted is.Slash a) ts) (turned c.2) ∙ y.1) z in
      let t : slashed ts ≡ (q, symbol is.ColonColon ∷ x.0) = s.1 ∙ ap (λ a. let p : Text × List Token = (a, symbol is.ColonColon ∷ x.0) in p) (ap (with_between slash) (turned c.2) ∙ between_again slash q) in (
        s.0,
        ap (λ a. path_behind true a.0 a.1) t ∙ (ap (λ a. where_path (path_of true q a.0) a.1) (steps_read ws x.0 vs x.2 e) ∙ ap (λ a. where_path a vs) (package_again q ws g f)),
      )

any_path : (o : Origin) (ws : List Text) (ts vs : List Token) → is_origin true o ≡ true → are_free ws ≡ true → left (origin_slots true o ++ stepped ws) ts ≡ Some vs → no_step vs ≡ true → PathReads ts o ws vs
any_path absolute ws ts vs g f h e = worded_path absolute ws ts vs (free_is absolute ws f) h e
any_path (relative zero) ws ts vs g f h e = worded_path (relative zero) ws ts vs (free_is (relative 0) ws f) h e
any_path (relative (suc n)) ws ts vs g f h e = worded_path (relative (suc n)) ws ts vs (supers_read n 1 ws f ∙ ap (λ z. Some (record { origin = relative z; components = ws })) (up_one n)) h e
any_path (from_package q) ws ts vs g f h e = package_path q ws ts vs (names_free (cut slash q) g) f h e

path_reads : (l : Label) (o : Forest) (ts vs : List Token) → fill (leaf_slots (a_path true) l o) ts ≡ Some vs → no_step vs ≡ true → (begins_path true ts ≡ true) × (read_leaf (a_path true) ts ≡ Some (l, vs))
path_reads (path p) o ts vs h e =
    let x : (is_path true p ≡ true) × (left (origin_slots true p.origin ++ stepped p.components) ts ≡ Some vs) = where_true (is_path true p) (Some (origin_slots true p.origin ++ stepped p.components)) ts vs h in
    let y : (is_origin true p.origin ≡ true) × (are_names p.components ≡ true) = and_parts (is_origin true p.origin) (are_names p.components) x.0 in
    any_path p.origin p.components ts vs y.0 (names_free p.components y.1) x.1 e
path_reads (kind k) o ts vs h e = absurd (no_some vs h)
path_reads l o ts vs h e = absurd (no_some vs h)

-- ---- what an import brings in

-- what may come behind it: no new name, and nothing that makes its name a step
abbrev pub Behind : List Token → Type 0
Behind us = (begins_word (codes "as") us ≡ false) × (begins_sign is.ColonColon us ≡ false) × (begins_sign is.Slash us ≡ false)

abbrev as_row : Row
as_row = says (codes "as") (leaf (an_ident binder) nothing)

abbrev item_row : Row
item_row = leaf an_item (optional as_row nothing)

abbrev list_row : Row
list_row = sym is.BraceLeft (commas list an_entry (sym is.BraceRight nothing))

-- its role, by what comes behind
role_same : (o : Forest) (vs us : List Token) → fill ((spells o).row (optional as_row nothing)) vs ≡ Some us → Behind us → item_role_by vs ≡ item_role o
role_same end vs us h e = absurd (no_some us h)
role_same (tree l c o) vs us h e = by (chosen (is_kind absent (Some l) && is_end c) ((spells o).row nothing) (if is_kind present (Some l) then followed ((spells c).row as_row) ((spells o).row nothing) else None) vs us h) where
  by : (((is_kind absent (Some l) && is_end c) ≡ true) × (fill ((spells o).row nothing) vs ≡ Some us)) ⊎ (((is_kind absent (Some l) && is_end c) ≡ false) × (fill (if is_kind present (Some l) then followed ((spells c).row as_row) ((spells o).row nothing) else None) vs ≡ Some us)) → item_role_by vs ≡ item_role (tree l c o)
  by (inl x) =
      let y : is_kind absent (Some l) ≡ true = (and_parts (is_kind absent (Some l)) (is_end c) x.0).0 in
      ap item_role_by (nothing_row o vs us x.1).1 ∙ (ap (λ b. if b then word else binder) e.0 ∙ ap (λ b. if b then binder else word) (turned y))
  by (inr x) =
      let y : (is_kind present (Some l) ≡ true) × (fill (followed ((spells c).row as_row) ((spells o).row nothing)) vs ≡ Some us) = where_true (is_kind present (Some l)) (followed ((spells c).row as_row) ((spells o).row nothing)) vs us x.1 in
      let z : (ws : List Token) × (fill ((spells c).row as_row) vs ≡ Some ws) × (fill ((spells o).row nothing) ws ≡ Some us) = parts ((spells c).row as_row) ((spells o).row nothing) vs us y.1 in
      ap item_role_by (row_word c (codes "as") (leaf (an_ident binder) nothing) vs z.0 z.1).1 ∙ ap (λ a. if is_kind absent (Some a) then binder else word) (turned (label_is present l y.0))

item_reads : (l : Label) (o : Forest) (ts vs us : List Token) → fill (leaf_slots an_item l o) ts ≡ Some vs → fill ((spells o).row (optional as_row nothing)) vs ≡ Some us → Behind us → Named ts × (read_leaf an_item ts ≡ Some (l, vs))
item_reads (ident q t) o ts vs us h g e =
    let x : ((same_role (item_role o) q && is_name t) ≡ true) × (fill (Some (named t ∷ [])) ts ≡ Some vs) = where_true (same_role (item_role o) q && is_name t) (Some (named t ∷ [])) ts vs h in
    let y : (same_role (item_role o) q ≡ true) × (is_name t ≡ true) = and_parts (same_role (item_role o) q) (is_name t) x.0 in
    let z : ts ≡ name t ∷ vs = stands (name t) ts vs (one (named t) ts vs x.1) in (
      (t, vs, z),
      ap (λ a. read_leaf an_item a) z ∙ (ap (λ b. if b then Some (ident (item_role_by vs) t, vs) else None) (and_parts (is_word t) (is_free t) y.1).1
          ∙ ap (λ a. Some (ident a t, vs)) (role_same o vs us g e ∙ role_is (item_role o) q y.0)),
    )
item_reads (kind k) o ts vs us h g e = absurd (no_some vs h)
item_reads l o ts vs us h g e = absurd (no_some vs h)

-- no step goes on behind an item
item_stops : (o : Forest) (vs us : List Token) → fill ((spells o).row (optional as_row nothing)) vs ≡ Some us → Behind us → (begins_sign is.ColonColon vs ≡ false) × (begins_sign is.Slash vs ≡ false)
item_stops o vs us h e = by (row_optional o as_row nothing vs us h) where
  by : ((g : Forest) × (fill ((spells g).row nothing) vs ≡ Some us)) ⊎ ((d : Forest) × (g : Forest) × (ws : List Token) × (fill ((spells d).row as_row) vs ≡ Some ws) × (fill ((spells g).row nothing) ws ≡ Some us)) → (begins_sign is.ColonColon vs ≡ false) × (begins_sign is.Slash vs ≡ false)
  by (inl x) = let q : vs ≡ us = (nothing_row x.0 vs us x.1).1 in (ap (λ z. begins_sign is.ColonColon z) q ∙ e.1, ap (λ z. begins_sign is.Slash z) q ∙ e.2)
  by (inr x) = let y : (ws : List Token) × (vs ≡ name (codes "as") ∷ ws) × (fill ((spells x.0).row (leaf (an_ident binder) nothing)) ws ≡ Some x.2) = row_word x.0 (codes "as") (leaf (an_ident binder) nothing) vs x.2 x.3 in
      (ap (λ z. begins_sign is.ColonColon z) y.1, ap (λ z. begins_sign is.Slash z) y.1)

item_named : (l : Label) (o : Forest) (ts vs : List Token) → fill (leaf_slots an_item l o) ts ≡ Some vs → (t : Text) × (ts ≡ name t ∷ vs)
item_named (ident q t) o ts vs h = (t, stands (name t) ts vs (one (named t) ts vs (where_true (same_role (item_role o) q && is_name t) (Some (named t ∷ [])) ts vs h).1))
item_named (kind k) o ts vs h = absurd (no_some vs h)
item_named l o ts vs h = absurd (no_some vs h)

-- whether what an import brings in begins, or steps to it
abbrev begins_content : List Token → Bool
begins_content ts = begins_name ts || begins_sign is.BraceLeft ts

-- no step goes on to it
abbrev Stops : List Token → Type 0
Stops ts = (no_step ts ≡ true) × (begins_path true ts ≡ false)

content_begins : (l : Label) (c : Forest) (ts us : List Token) → fill (first_slots l c (spells c) a_content) ts ≡ Some us → (begins_content ts ≡ true) × (Behind us → Stops ts)
content_begins (kind k) c ts us h =
    let x : (r : Row) × (row_of {I = Text} a_content (kind k) ≡ Some r) × ((fits (kind k) c && stands_as a_content (kind k) c) ≡ true) × (fill ((spells c).row r) ts ≡ Some us) = first_parts (kind k) c (spells c) a_content ts us h in by x.0 x.3 (in_rows rows_of_content k x.0 x.1) where
      by : (r : Row) → fill ((spells c).row r) ts ≡ Some us → InRows rows_of_content k r → (begins_content ts ≡ true) × (Behind us → Stops ts)
      by r g (inl q) =
          let y : (l : Label) × (o : Forest) × (vs : List Token) × (fill (leaf_slots an_item l o) ts ≡ Some vs) × (fill ((spells o).row (optional as_row nothing)) vs ≡ Some us) = leaf_first c an_item (optional as_row nothing) ts us (subst (λ z. fill ((spells c).row z) ts ≡ Some us) (turned q.1) g) in
          let z : (t : Text) × (ts ≡ name t ∷ y.2) = item_named y.0 y.1 ts y.2 y.3 in (
            ap begins_content z.1,
            λ e. let v : (begins_sign is.ColonColon y.2 ≡ false) × (begins_sign is.Slash y.2 ≡ false) = item_stops y.1 y.2 us y.4 e in
                (ap no_step z.1 ∙ ap not v.0, ap (λ a. begins_path true a) z.1 ∙ (ap (λ b. b || (true && begins_sign is.Slash y.2)) v.0 ∙ v.1)),
          )
      by r g (inr (inl q)) = let y : (vs : List Token) × (ts ≡ symbol is.BraceLeft ∷ vs) × (fill ((spells c).row (commas list an_entry (sym is.BraceRight nothing))) vs ≡ Some us) = row_token c is.BraceLeft (commas list an_entry (sym is.BraceRight nothing)) ts us (subst (λ z. fill ((spells c).row z) ts ≡ Some us) (turned q.1) g) in
          (ap begins_content y.1, λ e. (ap no_step y.1, ap (λ a. begins_path true a) y.1))
      by r g (inr (inr q)) = absurd q
content_begins (at k zero zero) c ts us h = absurd (no_some us h)
content_begins (at k zero (suc f)) c ts us h = absurd (no_some us h)
content_begins (at k (suc s) f) c ts us h = absurd (no_some us h)
content_begins l c ts us h = absurd (no_some us h)

-- ---- entries

abbrev entry_row : Row
entry_row = leaf steps (own a_content nothing)

entry_is : (l : Label) (r : Row) → row_of an_entry l ≡ Some r → (l ≡ kind import_entry) × (entry_row ≡ r)
entry_is (kind k) r h = let x : (k ≡ import_entry) × (entry_row ≡ r) = only_row import_entry entry_row k r h in (ap (λ z. let l : Label = kind z in l) x.0, x.1)
entry_is (at k zero zero) r h = absurd (no_some r h)
entry_is (at k zero (suc e)) r h = absurd (no_some r h)
entry_is (at k (suc s) e) r h = absurd (no_some r h)
entry_is l r h = absurd (no_some r h)

steps_reads : (l : Label) (o : Forest) (ts vs : List Token) → fill (leaf_slots steps l o) ts ≡ Some vs → (begins_content vs ≡ true → begins_content ts ≡ true) × (no_step vs ≡ true → read_leaf steps ts ≡ Some (l, vs))
steps_reads (texts ws) o ts vs h =
    let x : (are_names ws ≡ true) × (left (stepped ws) ts ≡ Some vs) = where_true (are_names ws) (Some (stepped ws)) ts vs h in
    (begins ws x.1, λ e. ap (λ z. where_so (are_free z.0) (texts z.0) z.1) (steps_read ws ts vs x.1 e) ∙ ap (λ z. if z then Some (texts ws, vs) else None) (names_free ws x.0)) where
      begins : (ws : List Text) → left (stepped ws) ts ≡ Some vs → begins_content vs ≡ true → begins_content ts ≡ true
      begins [] g b = ap begins_content (of_some ts vs g) ∙ b
      begins (w ∷ ws) g b = ap begins_content (must_first (name w) (signed is.ColonColon ∷ stepped ws) ts vs g).1
steps_reads (kind k) o ts vs h = absurd (no_some vs h)
steps_reads l o ts vs h = absurd (no_some vs h)

-- what stands behind the steps of an entry
behind_steps : (o : Forest) (row : Row) (vs us : List Token) → fill ((spells o).row (own a_content row)) vs ≡ Some us → (begins_content vs ≡ true) × (((g : Forest) (ws : List Token) → fill ((spells g).row row) ws ≡ Some us → Behind ws) → Stops vs)
behind_steps o row vs us h =
    let y : (l : Label) × (c : Forest) × (x : Forest) × (ws : List Token) × (o ≡ tree l c x) × (fill (first_slots l c (spells c) a_content) vs ≡ Some ws) × (fill ((spells x).row row) ws ≡ Some us) = own_first o a_content row vs us h in
    let z : (begins_content vs ≡ true) × (Behind y.3 → Stops vs) = content_begins y.0 y.1 vs y.3 y.5 in
    (z.0, λ k. z.1 (k y.2 y.3 y.6))

module _ (child : Sort → Reader) (n : ℕ) where
  entry_begins : (l : Label) (c : Forest) (ts us : List Token) → fill (first_slots l c (spells c) an_entry) ts ≡ Some us → begins_child child an_entry ts ≡ true
  entry_begins l c ts us h =
      let x : (r : Row) × (row_of an_entry l ≡ Some r) × ((fits l c && stands_as an_entry l c) ≡ true) × (fill ((spells c).row r) ts ≡ Some us) = first_parts l c (spells c) an_entry ts us h in
      let y : (j : Label) × (o : Forest) × (vs : List Token) × (fill (leaf_slots steps j o) ts ≡ Some vs) × (fill ((spells o).row (own a_content nothing)) vs ≡ Some us) = leaf_first c steps (own a_content nothing) ts us (subst (λ z. fill ((spells c).row z) ts ≡ Some us) (turned (entry_is l x.0 x.1).1) x.3) in
      (steps_reads y.0 y.1 ts y.2 y.3).0 (behind_steps y.1 nothing y.2 us y.4).0

  entry_reads : ReadsSort child n a_content Behind (child a_content) → (l : Label) (c : Forest) (ts us : List Token) → fill (first_slots l c (spells c) an_entry) ts ≡ Some us → Within n c → Behind us → node child an_entry ts ≡ Some (node_of l c, us)
  entry_reads contents l c ts us h w e =
      node_by child n an_entry l (kind import_entry) c entry_row Behind ts us h refl (entry_is l) (
        (λ l o ts vs us h g b. (steps_reads l o ts vs h).1 ((behind_steps o nothing vs us g).1 (λ g ws q. subst Behind (turned (nothing_row g ws us q).1) b)).0),
        ((λ l c ts vs g v rest. contents l c ts vs g v (subst Behind (turned (nothing_row rest.0 vs rest.1 rest.2).1) rest.4)), tt),
      ) w e

  module _ (entries : ReadsSort child n an_entry Behind (child an_entry)) where
    item_ok : RowOk child (read_part child) n Behind item_row
    item_ok = (
      (λ l o ts vs us h g e. (item_reads l o ts vs us h g e).1),
      (
        (λ vs rest. ap (λ z. begins_word (codes "as") z) (nothing_row rest.0 vs rest.1 rest.2).1 ∙ rest.4.0),
        (λ f ts vs h w rest. ap (λ z. begins_word (codes "as") z) (row_word f (codes "as") (leaf (an_ident binder) nothing) ts vs h).1),
        ((λ l o ts vs us h g e. (binder_reads l o ts vs h).1), tt),
        tt,
      ),
    )

    -- what may come behind a list of entries
    list_ok : RowOk child (read_part child) n Behind list_row
    list_ok = (
      (λ g ts vs h w rest.
          let x : (ws : List Token) × (vs ≡ symbol is.BraceRight ∷ ws) × (fill ((spells rest.0).row nothing) ws ≡ Some rest.1) = row_token rest.0 is.BraceRight nothing vs rest.1 rest.2 in
          entries_read g ts vs x.0 h w x.1),
      tt,
    ) where
      -- an entry before a comma, or before `}`
      entries_read : (g : Forest) (ts vs ws : List Token) → fill (option_map trailing ((spells g).separate an_entry)) ts ≡ Some vs → Within n g → vs ≡ symbol is.BraceRight ∷ ws → separate_of (begins_child child an_entry) (child an_entry) (length ts) ts ≡ Some (g, vs)
      entries_read g ts vs ws h w q =
          separate_reads (begins_child child an_entry) (child an_entry) an_entry n Behind entries (λ l c ts us h w. entry_begins l c ts us h) (λ us. (refl, refl, refl)) g ts vs h w
          (ap (λ z. begins_child child an_entry z) q) (ap (λ z. begins_sign is.Comma z) q) (subst Behind (turned q) (refl, refl, refl))

    abbrev content_label : Bool → Label
    content_label b = kind (if b then import_collection else import_item)

    content_of_row : (k : Kind) (c : Forest) (r : Row) (ts us : List Token) → row_of {I = Text} a_content (kind k) ≡ Some r → (fits (kind k) c && stands_as a_content (kind k) c) ≡ true → fill ((spells c).row r) ts ≡ Some us → Within n c → Behind us
        → InRows rows_of_content k r → node child a_content ts ≡ Some (node_of (kind k) c, us)
    content_of_row k c r ts us o f h w e (inl q) =
        let g : fill ((spells c).row item_row) ts ≡ Some us = subst (λ z. fill ((spells c).row z) ts ≡ Some us) (turned q.1) h in
        let y : (l : Label) × (o : Forest) × (vs : List Token) × (fill (leaf_slots an_item l o) ts ≡ Some vs) × (fill ((spells o).row (optional as_row nothing)) vs ≡ Some us) = leaf_first c an_item (optional as_row nothing) ts us g in
        node_from child a_content (kind k) c item_row ts us (o ∙ ap (λ z. Some z) (turned q.1)) f (ap (λ z. Some (content_label (begins_sign is.BraceLeft z))) (item_named y.0 y.1 ts y.2 y.3).1 ∙ ap (λ z. Some (kind z)) (turned q.0))
        (row_reads child (read_part child) n c item_row Behind item_ok ts us g w e)
    content_of_row k c r ts us o f h w e (inr (inl q)) =
        let g : fill ((spells c).row list_row) ts ≡ Some us = subst (λ z. fill ((spells c).row z) ts ≡ Some us) (turned q.1) h in
        node_from child a_content (kind k) c list_row ts us (o ∙ ap (λ z. Some z) (turned q.1)) f (ap (λ z. Some (content_label (begins_sign is.BraceLeft z))) (row_token c is.BraceLeft (commas list an_entry (sym is.BraceRight nothing)) ts us g).1 ∙ ap (λ z. Some (kind z)) (turned q.0))
        (row_reads child (read_part child) n c list_row Behind list_ok ts us g w e)
    content_of_row k c r ts us o f h w e (inr (inr q)) = absurd q

    content_reads : ReadsSort child n a_content Behind (node child a_content)
    content_reads (kind k) c ts us h w e =
        let x : (r : Row) × (row_of {I = Text} a_content (kind k) ≡ Some r) × ((fits (kind k) c && stands_as a_content (kind k) c) ≡ true) × (fill ((spells c).row r) ts ≡ Some us) = first_parts (kind k) c (spells c) a_content ts us h in
        content_of_row k c x.0 ts us x.1 x.2 x.3 (within_below (kind k) c end n w) e (in_rows rows_of_content k x.0 x.1)
    content_reads (at k zero zero) c ts us h w e = absurd (no_some us h)
    content_reads (at k zero (suc f)) c ts us h w e = absurd (no_some us h)
    content_reads (at k (suc s) f) c ts us h w e = absurd (no_some us h)
    content_reads l c ts us h w e = absurd (no_some us h)

  -- ---- imports

  abbrev Always : List Token → Type 0
  Always us = Unit {0}

  abbrev from_row : Row
  from_row = own a_content (sym is.Semicolon nothing)

  abbrev pub import_row : Row
  import_row = optional (leaf (a_path true) nothing) from_row

  -- no step goes on to what is brought in
  brought_stops : (o : Forest) (vs us : List Token) → fill ((spells o).row from_row) vs ≡ Some us → Stops vs
  brought_stops o vs us h = (behind_steps o (sym is.Semicolon nothing) vs us h).1 (λ g ws q. subst Behind (turned (row_token g is.Semicolon nothing ws us q).1) (refl, refl, refl))

  import_ok : ReadsSort child n a_content Behind (child a_content) → RowOk child (read_part child) n Always import_row
  import_ok contents = (
    (λ vs rest. (brought_stops rest.0 vs rest.1 rest.2).1),
    (λ f ts vs h w rest. let x : (l : Label) × (o : Forest) × (ws : List Token) × (fill (leaf_slots (a_path true) l o) ts ≡ Some ws) × (fill ((spells o).row nothing) ws ≡ Some vs) = leaf_first f (a_path true) nothing ts vs h in
        (path_reads x.0 x.1 ts x.2 x.3 (ap no_step (nothing_row x.1 x.2 vs x.4).1 ∙ (brought_stops rest.0 vs rest.1 rest.2).0)).0),
    ((λ l o ts vs us h g rest. (path_reads l o ts vs h (ap no_step (nothing_row o vs us g).1 ∙ (brought_stops rest.0 us rest.1 rest.2).0)).1), tt),
    (
      (λ l c ts vs g v rest. contents l c ts vs g v (subst Behind (turned (row_token rest.0 is.Semicolon nothing vs rest.1 rest.2).1) (refl, refl, refl))),
      tt,
    ),
  )

  pub import_label : (l : Label) (r : Row) → row_of a_bare_import l ≡ Some r → (l ≡ kind import_statement) × (attrs (says (codes "import") import_row) ≡ r)
  import_label (kind k) r h = let x : (k ≡ import_statement) × (attrs (says (codes "import") import_row) ≡ r) = only_row import_statement (attrs (says (codes "import") import_row)) k r h in (ap (λ z. let l : Label = kind z in l) x.0, x.1)
  import_label (at k zero zero) r h = absurd (no_some r h)
  import_label (at k zero (suc e)) r h = absurd (no_some r h)
  import_label (at k (suc s) e) r h = absurd (no_some r h)
  import_label l r h = absurd (no_some r h)

  pub bare_import_reads : ReadsSort child n an_attribute Unopened (child an_attribute) → ReadsSort child n a_content Behind (child a_content) → ReadsSort child n a_bare_import Always (node child a_bare_import)
  bare_import_reads one_attribute contents l c ts us h w e =
      node_by child n a_bare_import l (kind import_statement) c (attrs (says (codes "import") import_row)) Always ts us h refl (import_label l)
      (worded_ok child n one_attribute Always (codes "import") import_row (import_ok contents)) (within_below l c end n w) tt

  pub import_is : (l : Label) (r : Row) → row_of an_import l ≡ Some r → (l ≡ at import_node 0 0) × (own a_bare_import nothing ≡ r)
  import_is (at k zero zero) r h = by (same_kind import_node k) refl h where
    by : (b : Bool) → same_kind import_node k ≡ b → (if b then Some (own a_bare_import nothing) else None) ≡ Some r → ((let l : Label = at k 0 0 in l) ≡ at import_node 0 0) × (own a_bare_import nothing ≡ r)
    by true e g = (ap (λ z. let l : Label = at z 0 0 in l) (turned (kind_is import_node k e)), of_some (own a_bare_import nothing) r g)
    by false e g = absurd (no_some r g)
  import_is (kind k) r h = absurd (no_some r h)
  import_is l r h = absurd (no_some r h)

  import_reads : ReadsSort child n a_bare_import Always (child a_bare_import) → ReadsSort child n an_import Always (node child an_import)
  import_reads bare l c ts us h w e =
      node_by child n an_import l (at import_node 0 0) c (own a_bare_import nothing) Always ts us h refl (import_is l)
      ((λ l c ts vs g v rest. bare l c ts vs g v tt), tt) (within_below l c end n w) tt

-- ---- all levels

entries_read : (n : ℕ) → ReadsSort (at_level n any) n an_entry Behind (at_level n any an_entry)
entries_read zero l c ts us h w e =
    let x : (r : Row) × (row_of an_entry l ≡ Some r) × ((fits l c && stands_as an_entry l c) ≡ true) × (fill ((spells c).row r) ts ≡ Some us) = first_parts l c (spells c) an_entry ts us h in
    absurd (subst (λ z. Within 0 (tree z c end)) (entry_is l x.0 x.1).0 w).0
entries_read (suc n) l c ts us h w e =
    let x : (r : Row) × (row_of an_entry l ≡ Some r) × ((fits l c && stands_as an_entry l c) ≡ true) × (fill ((spells c).row r) ts ≡ Some us) = first_parts l c (spells c) an_entry ts us h in
    entry_reads (ranked (at_level n any) 6) n (λ l c ts us h w e. content_reads (ranked (at_level n any) 0) n (λ l c ts us h w e. entries_read n l c ts us h w e) l c ts us h w e)
    l c ts us h (subst (λ z. Within (suc n) (tree z c end)) (entry_is l x.0 x.1).0 w).0 e

pub content_reads_at : (n : ℕ) (l : Label) (c : Forest) (ts us : List Token) → fill (first_slots l c (spells c) a_content) ts ≡ Some us → Within n (tree l c end) → Behind us → reading n a_content ts ≡ Some (node_of l c, us)
content_reads_at n l c ts us h w e = content_reads (ranked (at_level n any) 0) n (λ l c ts us h w e. entries_read n l c ts us h w e) l c ts us h w e

-- an import that is said is read
pub import_reads_at : (n : ℕ) (l : Label) (c : Forest) (ts us : List Token) → fill (first_slots l c (spells c) an_import) ts ≡ Some us → Within n (tree l c end) → Unit {0} → reading n an_import ts ≡ Some (node_of l c, us)
import_reads_at n l c ts us h w e =
    import_reads (ranked (at_level n any) 3) n (λ l c ts us h w e. bare_import_reads (ranked (at_level n any) 2) n (attributes_at n) (λ l c ts us h w e. content_reads_at n l c ts us h w e) l c ts us h w e) l c ts us h w e

pub entry_reads_at : (n : ℕ) (l : Label) (c : Forest) (ts us : List Token) → fill (first_slots l c (spells c) an_entry) ts ≡ Some us → Within n (tree l c end) → Behind us → reading n an_entry ts ≡ Some (node_of l c, us)
entry_reads_at n l c ts us h w e = entries_read n l c ts us h w e
