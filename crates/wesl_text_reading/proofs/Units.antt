-- Units are read.
use Rattle.std.proofs.Common.{◌≡◌, ℕ, zero, suc, true, false, not, ◌&&◌, is_some, List, [], ◌∷◌, Some, refl, sym as turned, inl, inr, ap, ◌∙◌, subst, codes}
use Rattle.wesl_tree_names.specs.Path.{Text}
use Rattle.wesl_tree_syntax.specs.Tree.{Kind, kind, at, end, tree, directive_list, declarations}
use Rattle.wesl_tree_syntax.specs.Unit.{UnitOf, forest_of_unit}
use Rattle.wesl_text_tokens.specs.Tokens.{Token, name}
use Rattle.wesl_text_form.specs.Productions.{Sort, an_attribute, a_member, a_parameter, a_body, an_import, a_bare_import, a_directive, a_bare_directive, a_declaration, a_bare_declaration, Row, nothing, says, run, attrs, row_of, rows_of_bare_directive}
use Rattle.wesl_text_form.specs.Spelling.{Label, Forest, spells, followed, first_slots, fits, stands_as, is_kind, unit_row}
use Rattle.wesl_text_reading.specs.FirstTokens.{begins_word, begins_sort, by_word, words_of_directives}
use Rattle.wesl_text_reading.specs.Reading.{Reader, node_of, any, behind_attributes, begins_child, read_part, ranked, at_level, reading, where_all_is_read, reading_of_unit}
use Rattle.wesl_text_reading.proofs.Filled.{no_some, of_some, fill, parts}
use Rattle.wesl_text_reading.proofs.Takes.{where_true, first_parts}
use Rattle.wesl_text_reading.proofs.Within.{Within, within_below}
use Rattle.wesl_text_reading.proofs.RowReads.{RowOk, row_reads}
use Rattle.wesl_text_reading.proofs.Chains.{Ends, nothing_row}
use Rattle.wesl_text_reading.proofs.Operands.{InRows, in_rows, own_first}
use Rattle.wesl_text_reading.proofs.Complete.{ReadsSort}
use Rattle.wesl_text_reading.proofs.Runs.{Unopened, attribute_reads_at, parameter_reads_at, member_reads_at}
use Rattle.wesl_text_reading.proofs.Worded.{word_behind, run_reads}
use Rattle.wesl_text_reading.proofs.Directives.{rule_row, words_row, directive_is, directive_reads_at}
use Rattle.wesl_text_reading.proofs.Imports.{import_row, import_is, import_label, import_reads_at}
use Rattle.wesl_text_reading.proofs.Blocks.{Always}
use Rattle.wesl_text_reading.proofs.Levels.{inner, inner_attributes, inner_parted, inner_expressions, inner_kinds, inner_types, levels_at}
use Rattle.wesl_text_reading.proofs.Declarations.{Declares, bare_declaration_reads, declaration_behind, declaration_reads}

-- ---- imports and directives begin with their words, behind attributes

module _ (child : Sort → Reader) (n : ℕ) (one_attribute : ReadsSort child n an_attribute Unopened (child an_attribute)) where
  import_begins : (l : Label) (c : Forest) (ts us : List Token) → fill (first_slots l c (spells c) an_import) ts ≡ Some us → Within n (tree l c end) → begins_child child an_import ts ≡ true
  import_begins l c ts us h w =
      let x : (r : Row) × (row_of an_import l ≡ Some r) × ((fits l c && stands_as an_import l c) ≡ true) × (fill ((spells c).row r) ts ≡ Some us) = first_parts l c (spells c) an_import ts us h in
      let y : (j : Label) × (d : Forest) × (o : Forest) × (vs : List Token) × (c ≡ tree j d o) × (fill (first_slots j d (spells d) a_bare_import) ts ≡ Some vs) × (fill ((spells o).row nothing) vs ≡ Some us)
      = own_first c a_bare_import nothing ts us (subst (λ z. fill ((spells c).row z) ts ≡ Some us) (turned (import_is child n l x.0 x.1).1) x.3) in
      let z : (r : Row) × (row_of a_bare_import y.0 ≡ Some r) × ((fits y.0 y.1 && stands_as a_bare_import y.0 y.1) ≡ true) × (fill ((spells y.1).row r) ts ≡ Some y.3) = first_parts y.0 y.1 (spells y.1) a_bare_import ts y.3 y.5 in
      ap (λ a. begins_sort an_import a) (word_behind child n one_attribute y.1 (codes "import") (import_row child n) ts y.3 (subst (λ a. fill ((spells y.1).row a) ts ≡ Some y.3) (turned (import_label child n y.0 z.0 z.1).1) z.3) (within_below y.0 y.1 y.2 n (subst (λ a. Within n a) y.4 (within_below l c end n w)))).2

  -- what the word of a directive tells
  abbrev Directs : List Token → Type 0
  Directs vs = (is_some (by_word words_of_directives vs) ≡ true) × (begins_word (codes "import") vs ≡ false)

  directive_behind : (l : Label) (c : Forest) (ts us : List Token) → fill (first_slots l c (spells c) a_directive) ts ≡ Some us → Within n (tree l c end) → Directs (behind_attributes child ts)
  directive_behind l c ts us h w =
      let x : (r : Row) × (row_of a_directive l ≡ Some r) × ((fits l c && stands_as a_directive l c) ≡ true) × (fill ((spells c).row r) ts ≡ Some us) = first_parts l c (spells c) a_directive ts us h in
      let y : (j : Label) × (d : Forest) × (o : Forest) × (vs : List Token) × (c ≡ tree j d o) × (fill (first_slots j d (spells d) a_bare_directive) ts ≡ Some vs) × (fill ((spells o).row nothing) vs ≡ Some us)
      = own_first c a_bare_directive nothing ts us (subst (λ z. fill ((spells c).row z) ts ≡ Some us) (turned (directive_is child n l x.0 x.1).1) x.3) in
      bare y.0 y.1 y.3 y.5 (within_below y.0 y.1 y.2 n (subst (λ a. Within n a) y.4 (within_below l c end n w))) where
        worded : (w : Text) (row r : Row) (d : Forest) (vs : List Token) → attrs (says w row) ≡ r → fill ((spells d).row r) ts ≡ Some vs → Within n d → ((ws : List Token) → Directs (name w ∷ ws)) → Directs (behind_attributes child ts)
        worded w row r d vs q g v t = let b : (o : Forest) × (ws : List Token) × (behind_attributes child ts ≡ name w ∷ ws) × (fill ((spells o).row row) ws ≡ Some vs) = word_behind child n one_attribute d w row ts vs (subst (λ z. fill ((spells d).row z) ts ≡ Some vs) (turned q) g) v in subst Directs (turned b.2) (t b.1)

        by : (k : Kind) (r : Row) (d : Forest) (vs : List Token) → fill ((spells d).row r) ts ≡ Some vs → Within n d → InRows rows_of_bare_directive k r → Directs (behind_attributes child ts)
        by k r d vs g v (inl q) = worded (codes "diagnostic") (rule_row child n) r d vs q.1 g v (λ ws. (refl, refl))
        by k r d vs g v (inr (inl q)) = worded (codes "enable") (words_row child n) r d vs q.1 g v (λ ws. (refl, refl))
        by k r d vs g v (inr (inr (inl q))) = worded (codes "requires") (words_row child n) r d vs q.1 g v (λ ws. (refl, refl))
        by k r d vs g v (inr (inr (inr q))) = absurd q

        bare : (j : Label) (d : Forest) (vs : List Token) → fill (first_slots j d (spells d) a_bare_directive) ts ≡ Some vs → Within n d → Directs (behind_attributes child ts)
        bare (kind k) d vs g v =
            let z : (r : Row) × (row_of {I = Text} a_bare_directive (kind k) ≡ Some r) × ((fits (kind k) d && stands_as a_bare_directive (kind k) d) ≡ true) × (fill ((spells d).row r) ts ≡ Some vs) = first_parts (kind k) d (spells d) a_bare_directive ts vs g in
            by k z.0 d vs z.3 v (in_rows rows_of_bare_directive k z.0 z.1)
        bare (at k zero zero) d vs g v = absurd (no_some vs g)
        bare (at k zero (suc f)) d vs g v = absurd (no_some vs g)
        bare (at k (suc s) f) d vs g v = absurd (no_some vs g)
        bare j d vs g v = absurd (no_some vs g)

-- ---- declarations at each number of levels

inner_members : (n : ℕ) → ReadsSort (inner n) n a_member Ends (inner n a_member)
inner_members n l c ts us h w e = member_reads_at n l c ts us h w e

inner_parameters : (n : ℕ) → ReadsSort (inner n) n a_parameter Ends (inner n a_parameter)
inner_parameters n l c ts us h w e = parameter_reads_at n l c ts us h w e

inner_bodies : (n : ℕ) → ReadsSort (inner n) n a_body Always (inner n a_body)
inner_bodies n l c ts us h w e = (levels_at n).0 l c ts us h w

pub bare_declarations_at : (n : ℕ) (l : Label) (c : Forest) (ts us : List Token) → fill (first_slots l c (spells c) a_bare_declaration) ts ≡ Some us → Within n (tree l c end) → reading n a_bare_declaration ts ≡ Some (node_of l c, us)
bare_declarations_at n l c ts us h w = (bare_declaration_reads (inner n) n (inner_attributes n) (inner_parted n) (inner_expressions n) (inner_kinds n) (inner_types n) (inner_members n) (inner_parameters n) (inner_bodies n) l c ts us h w).1

pub declarations_at : (n : ℕ) (l : Label) (c : Forest) (ts us : List Token) → fill (first_slots l c (spells c) a_declaration) ts ≡ Some us → Within n (tree l c end) → reading n a_declaration ts ≡ Some (node_of l c, us)
declarations_at n l c ts us h w = declaration_reads (ranked (at_level n any) 5) n (λ l c ts us h w e. bare_declarations_at n l c ts us h w) l c ts us h w tt

behind_at : (n : ℕ) (l : Label) (c : Forest) (ts us : List Token) → fill (first_slots l c (spells c) a_declaration) ts ≡ Some us → Within n (tree l c end) → (vs : List Token) × (behind_attributes (reading n) ts ≡ vs) × Declares vs
behind_at n l c ts us h w = declaration_behind (inner n) n (inner_attributes n) (inner_parted n) (inner_expressions n) (inner_kinds n) (inner_types n) (inner_members n) (inner_parameters n) (inner_bodies n) l c ts us h w

reading_attributes : (n : ℕ) → ReadsSort (reading n) n an_attribute Unopened (reading n an_attribute)
reading_attributes n l c ts us h w e = attribute_reads_at n l c ts us h w e

-- ---- units

abbrev declarations_row : Row
declarations_row = run declarations a_declaration nothing

abbrev directives_row : Row
directives_row = run directive_list a_directive declarations_row

-- what may come behind a unit
abbrev AtEnd : List Token → Type 0
AtEnd us = us ≡ []

module _ (n : ℕ) where
  -- neither an import nor a directive begins
  abbrev Apart : List Token → Type 0
  Apart vs = (begins_child (reading n) an_import vs ≡ false) × (begins_child (reading n) a_directive vs ≡ false)

  declarations_apart : (f : Forest) (vs us : List Token) → fill ((spells f).row declarations_row) vs ≡ Some us → Within n f → AtEnd us → Apart vs
  declarations_apart end vs us h w e = absurd (no_some us h)
  declarations_apart (tree l c o) vs us h w e =
      let y : (is_kind declarations (Some l) ≡ true) × (fill (followed ((spells c).all a_declaration) ((spells o).row nothing)) vs ≡ Some us) = where_true (is_kind declarations (Some l)) (followed ((spells c).all a_declaration) ((spells o).row nothing)) vs us h in
      let z : (ws : List Token) × (fill ((spells c).all a_declaration) vs ≡ Some ws) × (fill ((spells o).row nothing) ws ≡ Some us) = parts ((spells c).all a_declaration) ((spells o).row nothing) vs us y.1 in
      by c z.0 z.1 (within_below l c o n w) ((nothing_row o z.0 us z.2).1 ∙ e) where
        by : (c : Forest) (ws : List Token) → fill ((spells c).all a_declaration) vs ≡ Some ws → Within n c → ws ≡ [] → Apart vs
        by end ws g v q = subst Apart (turned (of_some vs ws g ∙ q)) (refl, refl)
        by (tree j d p) ws g v q =
            let x : (xs : List Token) × (fill (first_slots j d (spells d) a_declaration) vs ≡ Some xs) × (fill ((spells p).all a_declaration) xs ≡ Some ws) = parts (first_slots j d (spells d) a_declaration) ((spells p).all a_declaration) vs ws g in
            let b : (xs : List Token) × (behind_attributes (reading n) vs ≡ xs) × Declares xs = behind_at n j d vs x.0 x.1 (v.0, tt) in
            (ap (λ s. begins_sort an_import s) b.1 ∙ b.2.1, ap (λ s. begins_sort a_directive s) b.1 ∙ b.2.2)

  directives_apart : (f : Forest) (vs us : List Token) → fill ((spells f).row directives_row) vs ≡ Some us → Within n f → AtEnd us → begins_child (reading n) an_import vs ≡ false
  directives_apart end vs us h w e = absurd (no_some us h)
  directives_apart (tree l c o) vs us h w e =
      let y : (is_kind directive_list (Some l) ≡ true) × (fill (followed ((spells c).all a_directive) ((spells o).row declarations_row)) vs ≡ Some us) = where_true (is_kind directive_list (Some l)) (followed ((spells c).all a_directive) ((spells o).row declarations_row)) vs us h in
      let z : (ws : List Token) × (fill ((spells c).all a_directive) vs ≡ Some ws) × (fill ((spells o).row declarations_row) ws ≡ Some us) = parts ((spells c).all a_directive) ((spells o).row declarations_row) vs us y.1 in
      by c z.0 z.1 z.2 (within_below l c o n w) where
        by : (c : Forest) (ws : List Token) → fill ((spells c).all a_directive) vs ≡ Some ws → fill ((spells o).row declarations_row) ws ≡ Some us → Within n c → begins_child (reading n) an_import vs ≡ false
        by end ws g k v = ap (λ s. begins_child (reading n) an_import s) (of_some vs ws g) ∙ (declarations_apart o ws us k w.1 e).0
        by (tree j d p) ws g k v =
            let x : (xs : List Token) × (fill (first_slots j d (spells d) a_directive) vs ≡ Some xs) × (fill ((spells p).all a_directive) xs ≡ Some ws) = parts (first_slots j d (spells d) a_directive) ((spells p).all a_directive) vs ws g in
            (directive_behind (reading n) n (reading_attributes n) j d vs x.0 x.1 (v.0, tt)).1

  unit_ok : RowOk (reading n) (read_part (reading n)) n AtEnd unit_row
  unit_ok = (
    (λ g ts vs h w more.
        run_reads (reading n) n an_import Always (λ l c ts us h w e. import_reads_at n l c ts us h w e) (λ l c ts us h w. import_begins (reading n) n (reading_attributes n) l c ts us h w) (λ l c ts us h w. tt) g ts vs h w
        (directives_apart more.0 vs more.1 more.2 more.3 more.4) tt),
    (
      (λ g ts vs h w more.
          run_reads (reading n) n a_directive Always (λ l c ts us h w e. directive_reads_at n l c ts us h w e) (λ l c ts us h w. (directive_behind (reading n) n (reading_attributes n) l c ts us h w).0) (λ l c ts us h w. tt) g ts vs h w
          (declarations_apart more.0 vs more.1 more.2 more.3 more.4).1 tt),
      (
        (λ g ts vs h w more.
            run_reads (reading n) n a_declaration Always (λ l c ts us h w e. declarations_at n l c ts us h w)
            (λ l c ts us h w. let b : (xs : List Token) × (behind_attributes (reading n) ts ≡ xs) × Declares xs = behind_at n l c ts us h w in ap (λ s. begins_sort a_declaration s) b.1 ∙ ap not b.2.0) (λ l c ts us h w. tt) g ts vs h w
            (ap (λ s. begins_child (reading n) a_declaration s) ((nothing_row more.0 vs more.1 more.2).1 ∙ more.4)) tt),
        tt,
      ),
    ),
  )

  -- a unit that is said is read
  pub unit_reads : (u : UnitOf Text) (ts : List Token) → fill ((spells (forest_of_unit u)).row unit_row) ts ≡ Some [] → Within n (forest_of_unit u) → reading_of_unit n ts ≡ Some u
  unit_reads u ts h w = ap (λ r. where_all_is_read r) (row_reads (reading n) (read_part (reading n)) n (forest_of_unit u) unit_row AtEnd unit_ok ts [] h w refl)
