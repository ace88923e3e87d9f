-- Clauses of `switch` are read where bodies are.
use Rattle.std.proofs.Common.{◌≡◌, ◌⊎◌, ℕ, zero, suc, Bool, true, false, not, ◌&&◌, if◌then◌else◌, List, [], ◌∷◌, Some, None, option_map, refl, sym as turned, inl, inr, ap, ◌∙◌, subst, codes}
use Rattle.wesl_tree_names.specs.Path.{Text}
use Rattle.wesl_tree_syntax.specs.Tree.{kind, at, end, tree, list, switch_clause, default_case}
use Rattle.wesl_text_tokens.specs.declared.symbol.Symbol.TheVariants as is
use Rattle.wesl_text_tokens.specs.Tokens.{Token, name, symbol}
use Rattle.wesl_text_form.specs.Slots.{alone, same_token, comes_first, behind_if_there, behind_alone}
use Rattle.wesl_text_form.specs.Productions.{Sort, an_expression, an_attribute, a_body, a_clause, a_selector, Row, nothing, may_sym, own, selectors, attrs, row_of, rows_of_selector}
use Rattle.wesl_text_form.specs.Spelling.{Label, Forest, spells, followed, named, trailing, first_slots, fits, stands_as, is_kind, is_lone_default}
use Rattle.wesl_text_reading.specs.FirstTokens.{begins_sign, begins_sort, begins_expression}
use Rattle.wesl_text_reading.specs.Reading.{Reader, node_of, node, behind_attributes, begins_child, lone_default, read_selectors}
use Rattle.wesl_text_reading.proofs.Filled.{no_some, of_some, no_true, fill, parts, one, stands, same_is}
use Rattle.wesl_text_reading.proofs.Takes.{chosen, first_parts}
use Rattle.wesl_text_reading.proofs.Within.{Within, within_below}
use Rattle.wesl_text_reading.proofs.RowReads.{selector_slots}
use Rattle.wesl_text_reading.proofs.Loops.{separate_reads}
use Rattle.wesl_text_reading.proofs.Operands.{InRows, in_rows, Ended, only_row, own_first, begins_one}
use Rattle.wesl_text_reading.proofs.Complete.{ReadsSort, node_by}
use Rattle.wesl_text_reading.proofs.Attributes.{row_word}
use Rattle.wesl_text_reading.proofs.Runs.{Unopened}
use Rattle.wesl_text_reading.proofs.KindsRead.{row_may}
use Rattle.wesl_text_reading.proofs.Worded.{Apart, attrs_ok, behind_them}
use Rattle.wesl_text_reading.proofs.Blocks.{Always, body_first}
use Rattle.std.proofs.lemmas.Bool.{and_parts}

-- a selector begins with `default` or with an expression
selector_begins : (l : Label) (c : Forest) (ts us : List Token) → fill (first_slots l c (spells c) a_selector) ts ≡ Some us → begins_expression ts ≡ true
selector_begins (kind k) c ts us h =
    let x : (r : Row) × (row_of {I = Text} a_selector (kind k) ≡ Some r) × ((fits (kind k) c && stands_as a_selector (kind k) c) ≡ true) × (fill ((spells c).row r) ts ≡ Some us) = first_parts (kind k) c (spells c) a_selector ts us h in
    by x.0 x.3 (in_rows rows_of_selector k x.0 x.1) where
      by : (r : Row) → fill ((spells c).row r) ts ≡ Some us → InRows rows_of_selector k r → begins_expression ts ≡ true
      by r g (inl q) = ap begins_expression (row_word c (codes "default") nothing ts us (subst (λ z. fill ((spells c).row z) ts ≡ Some us) (turned q.1) g)).1
      by r g (inr (inl q)) =
          let y : (l : Label) × (d : Forest) × (x : Forest) × (vs : List Token) × (c ≡ tree l d x) × (fill (first_slots l d (spells d) an_expression) ts ≡ Some vs) × (fill ((spells x).row nothing) vs ≡ Some us) = own_first c an_expression nothing ts us (subst (λ z. fill ((spells c).row z) ts ≡ Some us) (turned q.1) g) in
          begins_one y.0 y.1 ts y.3 y.5
      by r g (inr (inr q)) = absurd q
selector_begins (at k zero zero) c ts us h = absurd (no_some us h)
selector_begins (at k zero (suc f)) c ts us h = absurd (no_some us h)
selector_begins (at k (suc s) f) c ts us h = absurd (no_some us h)
selector_begins l c ts us h = absurd (no_some us h)

-- what comes behind selectors: `:`, or a body
abbrev Stopped : List Token → Type 0
Stopped vs = (begins_expression vs ≡ false) × (begins_sign is.Comma vs ≡ false) × Ended vs

colon_or_body : (vs ws xs : List Token) → behind_if_there (symbol is.Colon) vs ≡ ws → (ws ≡ symbol is.At ∷ xs) ⊎ (ws ≡ symbol is.BraceLeft ∷ xs) → Stopped vs
colon_or_body [] ws xs e q = (refl, refl, (refl, ((refl, refl), refl), refl))
colon_or_body (symbol is.Colon ∷ vs) ws xs e q = (refl, refl, (refl, ((refl, refl), refl), refl))
colon_or_body (v ∷ vs) ws xs e (inl q) = subst Stopped (turned (e ∙ q)) (refl, refl, (refl, ((refl, refl), refl), refl))
colon_or_body (v ∷ vs) ws xs e (inr q) = subst Stopped (turned (e ∙ q)) (refl, refl, (refl, ((refl, refl), refl), refl))

abbrev behind_row : Row
behind_row = may_sym is.Colon (own a_body nothing)

behind_selectors : (f : Forest) (vs us : List Token) → fill ((spells f).row behind_row) vs ≡ Some us → Stopped vs
behind_selectors f vs us h =
    let x : (ws : List Token) × (behind_if_there (symbol is.Colon) vs ≡ ws) × (fill ((spells f).row (own a_body nothing)) ws ≡ Some us) = row_may f is.Colon (own a_body nothing) vs us h in
    let y : (j : Label) × (d : Forest) × (p : Forest) × (ws : List Token) × (f ≡ tree j d p) × (fill (first_slots j d (spells d) a_body) x.0 ≡ Some ws) × (fill ((spells p).row nothing) ws ≡ Some us) = own_first f a_body nothing x.0 us x.2 in
    let z : (ws : List Token) × ((x.0 ≡ symbol is.At ∷ ws) ⊎ (x.0 ≡ symbol is.BraceLeft ∷ ws)) = body_first y.0 y.1 x.0 y.3 y.5 in
    colon_or_body vs x.0 z.0 x.1 z.1

-- `default` alone: one word, or two
abbrev Alone : List Token → List Token → Type 0
Alone ts vs = (ts ≡ name (codes "default") ∷ vs) ⊎ ((zs : List Token) × (ts ≡ name (codes "case") ∷ name (codes "default") ∷ zs) × (behind_if_there (symbol is.Comma) zs ≡ vs))

alone_is : (ts vs : List Token) → behind_alone ts ≡ Some vs → Alone ts vs
alone_is [] vs h = absurd (no_some vs h)
alone_is (t ∷ ts) vs h = at (same_token (name (codes "default")) t) refl h where
  second : (us : List Token) → comes_first (name (codes "default")) us ≡ true → Some (behind_if_there (symbol is.Comma) (behind_if_there (name (codes "default")) us)) ≡ Some vs → (zs : List Token) × (us ≡ name (codes "default") ∷ zs) × (behind_if_there (symbol is.Comma) zs ≡ vs)
  second [] e g = absurd (no_true e)
  second (u ∷ us) e g =
      let q : name (codes "default") ≡ u = same_is (name (codes "default")) u e in
      (us, ap (λ z. z ∷ us) (turned q), ap (λ b. behind_if_there (symbol is.Comma) (if b then us else u ∷ us)) (turned e) ∙ of_some (behind_if_there (symbol is.Comma) (behind_if_there (name (codes "default")) (u ∷ us))) vs g)

  later : (b : Bool) → (same_token (name (codes "case")) t && comes_first (name (codes "default")) ts) ≡ b → (if b then Some (behind_if_there (symbol is.Comma) (behind_if_there (name (codes "default")) ts)) else None) ≡ Some vs → Alone (t ∷ ts) vs
  later false e g = absurd (no_some vs g)
  later true e g =
      let x : (same_token (name (codes "case")) t ≡ true) × (comes_first (name (codes "default")) ts ≡ true) = and_parts (same_token (name (codes "case")) t) (comes_first (name (codes "default")) ts) e in
      let y : (zs : List Token) × (ts ≡ name (codes "default") ∷ zs) × (behind_if_there (symbol is.Comma) zs ≡ vs) = second ts x.1 g in
      inr (y.0, ap (λ z. z ∷ ts) (turned (same_is (name (codes "case")) t x.0)) ∙ ap (λ z. name (codes "case") ∷ z) y.1, y.2)

  at : (b : Bool) → same_token (name (codes "default")) t ≡ b → (if b then Some ts else if same_token (name (codes "case")) t && comes_first (name (codes "default")) ts then Some (behind_if_there (symbol is.Comma) (behind_if_there (name (codes "default")) ts)) else None) ≡ Some vs → Alone (t ∷ ts) vs
  at true e g = inl (ap (λ z. z ∷ ts) (turned (same_is (name (codes "default")) t e)) ∙ ap (λ z. name (codes "default") ∷ z) (of_some ts vs g))
  at false e g = later (same_token (name (codes "case")) t && comes_first (name (codes "default")) ts) refl g

pub lone_is : (child : Sort → Reader) (c : Forest) → is_lone_default c ≡ true → c ≡ lone_default child
lone_is child (tree (kind default_case) end end) h = refl
lone_is child c h = absurd (no_true h)

-- selectors begin with `case` or `default`
selectors_first : (f : Forest) (row : Row) (ts us : List Token) → fill ((spells f).row (selectors row)) ts ≡ Some us → (vs : List Token) × ((ts ≡ name (codes "case") ∷ vs) ⊎ (ts ≡ name (codes "default") ∷ vs))
selectors_first end row ts us h = absurd (no_some us h)
selectors_first (tree l c o) row ts us h = by (is_kind list (Some l)) (is_lone_default c) h where
  lone : (vs : List Token) → Alone ts vs → (vs : List Token) × ((ts ≡ name (codes "case") ∷ vs) ⊎ (ts ≡ name (codes "default") ∷ vs))
  lone vs (inl q) = (vs, inr q)
  lone vs (inr q) = (name (codes "default") ∷ q.0, inl q.1)

  by : (a b : Bool) → fill (if not a then None else if b then followed (Some (alone ∷ [])) ((spells o).row row) else followed (Some (named (codes "case") ∷ [])) (followed (option_map trailing ((spells c).separate a_selector)) ((spells o).row row))) ts ≡ Some us
      → (vs : List Token) × ((ts ≡ name (codes "case") ∷ vs) ⊎ (ts ≡ name (codes "default") ∷ vs))
  by false b g = absurd (no_some us g)
  by true true g = let x : (vs : List Token) × (fill (Some (alone ∷ [])) ts ≡ Some vs) × (fill ((spells o).row row) vs ≡ Some us) = parts (Some (alone ∷ [])) ((spells o).row row) ts us g in lone x.0 (alone_is ts x.0 (one alone ts x.0 x.1))
  by true false g =
      let x : (vs : List Token) × (fill (Some (named (codes "case") ∷ [])) ts ≡ Some vs) × (fill (followed (option_map trailing ((spells c).separate a_selector)) ((spells o).row row)) vs ≡ Some us) = parts (Some (named (codes "case") ∷ [])) (followed (option_map trailing ((spells c).separate a_selector)) ((spells o).row row)) ts us g in
      (x.0, inl (stands (name (codes "case")) ts x.0 (one (named (codes "case")) ts x.0 x.1)))

selectors_apart : (f : Forest) (row : Row) (ts us : List Token) → fill ((spells f).row (selectors row)) ts ≡ Some us → Apart ts
selectors_apart f row ts us h = let x : (vs : List Token) × ((ts ≡ name (codes "case") ∷ vs) ⊎ (ts ≡ name (codes "default") ∷ vs)) = selectors_first f row ts us h in by x.0 x.1 where
  by : (vs : List Token) → (ts ≡ name (codes "case") ∷ vs) ⊎ (ts ≡ name (codes "default") ∷ vs) → Apart ts
  by vs (inl q) = subst Apart (turned q) (refl, refl)
  by vs (inr q) = subst Apart (turned q) (refl, refl)

selectors_begin : (f : Forest) (row : Row) (ts us : List Token) → fill ((spells f).row (selectors row)) ts ≡ Some us → begins_sort a_clause ts ≡ true
selectors_begin f row ts us h = let x : (vs : List Token) × ((ts ≡ name (codes "case") ∷ vs) ⊎ (ts ≡ name (codes "default") ∷ vs)) = selectors_first f row ts us h in by x.0 x.1 where
  by : (vs : List Token) → (ts ≡ name (codes "case") ∷ vs) ⊎ (ts ≡ name (codes "default") ∷ vs) → begins_sort a_clause ts ≡ true
  by vs (inl q) = ap (λ z. begins_sort a_clause z) q
  by vs (inr q) = ap (λ z. begins_sort a_clause z) q

abbrev clause_row : Row
clause_row = attrs (selectors behind_row)

pub clause_is : (l : Label) (r : Row) → row_of a_clause l ≡ Some r → (l ≡ kind switch_clause) × (clause_row ≡ r)
clause_is (kind k) r h = let x : (k ≡ switch_clause) × (clause_row ≡ r) = only_row switch_clause clause_row k r h in (ap (λ z. let l : Label = kind z in l) x.0, x.1)
clause_is (at k zero zero) r h = absurd (no_some r h)
clause_is (at k zero (suc e)) r h = absurd (no_some r h)
clause_is (at k (suc s) e) r h = absurd (no_some r h)
clause_is l r h = absurd (no_some r h)

module _ (child : Sort → Reader) (n : ℕ) (one_attribute : ReadsSort child n an_attribute Unopened (child an_attribute)) (bodies : ReadsSort child n a_body Always (child a_body)) (one_selector : ReadsSort child n a_selector Ended (child a_selector)) where
  case_reads : (c : Forest) (xs vs : List Token) → fill (option_map trailing ((spells c).separate a_selector)) xs ≡ Some vs → Within n c → Stopped vs → read_selectors child (name (codes "case") ∷ xs) ≡ Some (c, vs)
  case_reads c xs vs h w s =
      separate_reads (begins_child child a_selector) (child a_selector) a_selector n Ended one_selector (λ l c ts us h w. selector_begins l c ts us h) (λ us. (refl, ((refl, refl), refl), refl)) c xs vs h w s.0 s.1 s.2

  selectors_read : (c : Forest) (ts vs : List Token) → fill (selector_slots c) ts ≡ Some vs → Within n c → Stopped vs → read_selectors child ts ≡ Some (c, vs)
  selectors_read c ts vs h w s = by (chosen (is_lone_default c) (Some (alone ∷ [])) (followed (Some (named (codes "case") ∷ [])) (option_map trailing ((spells c).separate a_selector))) ts vs h) where
    lone : Alone ts vs → c ≡ lone_default child → read_selectors child ts ≡ Some (c, vs)
    lone (inl q) e = ap (λ z. read_selectors child z) q ∙ ap (λ z. Some (z, vs)) (turned e)
    lone (inr q) e =
        ap (λ z. read_selectors child z) q.1
        ∙ (case_reads (lone_default child) (name (codes "default") ∷ q.0) vs (ap (λ z. Some z) q.2) (subst (λ z. Within n z) e w) s ∙ ap (λ z. Some (z, vs)) (turned e))

    by : ((is_lone_default c ≡ true) × (fill (Some (alone ∷ [])) ts ≡ Some vs)) ⊎ ((is_lone_default c ≡ false) × (fill (followed (Some (named (codes "case") ∷ [])) (option_map trailing ((spells c).separate a_selector))) ts ≡ Some vs)) → read_selectors child ts ≡ Some (c, vs)
    by (inl x) = lone (alone_is ts vs (one alone ts vs x.1)) (lone_is child c x.0)
    by (inr x) =
        let y : (xs : List Token) × (fill (Some (named (codes "case") ∷ [])) ts ≡ Some xs) × (fill (option_map trailing ((spells c).separate a_selector)) xs ≡ Some vs) = parts (Some (named (codes "case") ∷ [])) (option_map trailing ((spells c).separate a_selector)) ts vs x.1 in
        ap (λ z. read_selectors child z) (stands (name (codes "case")) ts y.0 (one (named (codes "case")) ts y.0 y.1)) ∙ case_reads c y.0 vs y.2 w s

  pub clause_reads : (l : Label) (c : Forest) (ts us : List Token) → fill (first_slots l c (spells c) a_clause) ts ≡ Some us → Within n c → node child a_clause ts ≡ Some (node_of l c, us)
  clause_reads l c ts us h w =
      node_by child n a_clause l (kind switch_clause) c clause_row Always ts us h refl (clause_is l)
      (attrs_ok child n one_attribute Always (selectors behind_row) (λ f vs us g u k. selectors_apart f behind_row vs us g)
      ((λ c ts vs h w more. selectors_read c ts vs h w (behind_selectors more.0 vs more.1 more.2)), ((λ l c ts vs g v more. bodies l c ts vs g v tt), tt))) w tt

module _ (child : Sort → Reader) (n : ℕ) (one_attribute : ReadsSort child n an_attribute Unopened (child an_attribute)) where
  -- a clause begins with `case` or `default`, behind its attributes
  pub clause_begins : (l : Label) (c : Forest) (ts us : List Token) → fill (first_slots l c (spells c) a_clause) ts ≡ Some us → Within n (tree l c end) → begins_child child a_clause ts ≡ true
  clause_begins l c ts us h w =
      let x : (r : Row) × (row_of a_clause l ≡ Some r) × ((fits l c && stands_as a_clause l c) ≡ true) × (fill ((spells c).row r) ts ≡ Some us) = first_parts l c (spells c) a_clause ts us h in
      let y : (o : Forest) × (vs : List Token) × (behind_attributes child ts ≡ vs) × (fill ((spells o).row (selectors behind_row)) vs ≡ Some us) × Within n o
      = behind_them child n one_attribute c (selectors behind_row) ts us (subst (λ z. fill ((spells c).row z) ts ≡ Some us) (turned (clause_is l x.0 x.1).1) x.3) (within_below l c end n w) (λ o vs g u. selectors_apart o behind_row vs us g) in
      ap (λ z. begins_sort a_clause z) y.2 ∙ selectors_begin y.0 behind_row y.1 us y.3
