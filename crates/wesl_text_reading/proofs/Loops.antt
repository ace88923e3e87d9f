-- Trees behind one another, and with commas between, are read where each is.
use Rattle.std.proofs.Common.{◌≡◌, ◌⊎◌, ℕ, zero, suc, ◌≤◌, ◌<◌, Bool, true, false, if◌then◌else◌, List, [], ◌∷◌, length, Option, Some, None, option_and_then, option_map, refl, sym as turned, inl, inr, ap, ◌∙◌, subst, le_refl, le_trans, le_of_suc-le-suc, le_of_lt, lt_of_lt_of_le, not-suc-le-zero}
use Rattle.wesl_tree_syntax.specs.Tree.{end, tree}
use Rattle.wesl_text_tokens.specs.declared.symbol.Symbol.TheVariants as is
use Rattle.wesl_text_tokens.specs.Tokens.{Token, symbol}
use Rattle.wesl_text_form.specs.Slots.{may, behind_token, behind_if_there, same_token, left}
use Rattle.wesl_text_form.specs.Productions.{Sort}
use Rattle.wesl_text_form.specs.Spelling.{Label, Forest, Slots, spells, signed, trailing, first_slots}
use Rattle.wesl_text_reading.specs.Leaves.{Read, after}
use Rattle.wesl_text_reading.specs.FirstTokens.{begins_sign, behind_first}
use Rattle.wesl_text_reading.specs.Reading.{Reader, node_of, and_others, all_of, separate_of}
use Rattle.wesl_text_reading.proofs.Filled.{no_some, of_some, fill, parts, stands, left_joined, same_is}
use Rattle.wesl_text_reading.proofs.Takes.{first_lt_of}
use Rattle.wesl_text_reading.proofs.Within.{Within}
use Rattle.wesl_text_reading.proofs.RowReads.{joined}

-- fewer than none, or fewer than one more
fuel_left : {T : Type 0} (a b k : ℕ) → a < b → b ≤ k → ((m : ℕ) → k ≡ suc m → a ≤ m → T) → T
fuel_left a b zero h g f = absurd (not-suc-le-zero (lt_of_lt_of_le h g))
fuel_left a b (suc m) h g f = f m refl (le_of_suc-le-suc (lt_of_lt_of_le h g))

no_end : (l : Label) (c o : Forest) → (let f : Forest = tree l c o in f) ≡ end → ⊥
no_end l c o e = let z : ⊥ = cc in z

module _ (begins : List Token → Bool) (reader : Reader) (s : Sort) (n : ℕ) where
  -- none is read where none begins
  none_begins : (k : ℕ) (ts : List Token) → begins ts ≡ false → all_of begins reader k ts ≡ Some (end, ts)
  none_begins zero ts h = ap (λ b. if b then None else Some (end, ts)) h
  none_begins (suc k) ts h = ap (λ b. elim b as (λ _. Read Forest) [ false ↦ Some (end, ts) | true ↦ after (reader ts) (λ t us. and_others t (all_of begins reader k us)) ]) h

  module _ (B : Label → Forest → List Token → Type 0)
      (item : (l : Label) (c : Forest) (ts us : List Token) → fill (first_slots l c (spells c) s) ts ≡ Some us → Within n (tree l c end) → B l c us → reader ts ≡ Some (node_of l c, us))
      (starts : (l : Label) (c : Forest) (ts us : List Token) → fill (first_slots l c (spells c) s) ts ≡ Some us → Within n (tree l c end) → begins ts ≡ true)
      (next : (k : Label) (d : Forest) (l : Label) (c : Forest) (ts us : List Token) → fill (first_slots l c (spells c) s) ts ≡ Some us → Within n (tree l c end) → B k d ts) where
    -- what may come behind the last of them
    abbrev pub Last : Forest → List Token → Type 0
    Last end us = Unit {0}
    Last (tree l c end) us = B l c us
    Last (tree l c (tree k d o)) us = Last (tree k d o) us

    behind : (l : Label) (c o : Forest) (vs us : List Token) → fill ((spells o).all s) vs ≡ Some us → Within n o → Last (tree l c o) us → B l c vs
    behind l c end vs us h w b = subst (λ z. B l c z) (turned (of_some vs us h)) b
    behind l c (tree k d o) vs us h w b =
        let x : (ws : List Token) × (fill (first_slots k d (spells d) s) vs ≡ Some ws) × (fill ((spells o).all s) ws ≡ Some us) = parts (first_slots k d (spells d) s) ((spells o).all s) vs us h in
        next l c k d vs x.0 x.1 (w.0, tt)

    last_of : (l : Label) (c o : Forest) (us : List Token) → Last (tree l c o) us → Last o us
    last_of l c end us b = tt
    last_of l c (tree k d o) us b = b

    pub all_reads : (g : Forest) (k : ℕ) (ts us : List Token) → length ts ≤ k → fill ((spells g).all s) ts ≡ Some us → Within n g → begins us ≡ false → Last g us → all_of begins reader k ts ≡ Some (g, us)
    all_reads end k ts us f h w b e = let q : ts ≡ us = of_some ts us h in none_begins k ts (ap begins q ∙ b) ∙ ap (λ z. Some (end, z)) q
    all_reads (tree l c o) k ts us f h w b e =
        let x : (vs : List Token) × (fill (first_slots l c (spells c) s) ts ≡ Some vs) × (fill ((spells o).all s) vs ≡ Some us) = parts (first_slots l c (spells c) s) ((spells o).all s) ts us h in
        fuel_left (length x.0) (length ts) k (first_lt_of l c s ts x.0 x.1) f (λ m q y.
        ap (λ z. all_of begins reader z ts) q
        ∙ (ap (λ b. elim b as (λ _. Read Forest) [ false ↦ Some (end, ts) | true ↦ after (reader ts) (λ t us. and_others t (all_of begins reader m us)) ]) (starts l c ts x.0 x.1 (w.0, tt))
        ∙ joined (λ t. t) (reader ts) (node_of l c) x.0 (all_of begins reader m) o us (item l c ts x.0 x.1 (w.0, tt) (behind l c o x.0 us x.2 w.1 e)) (all_reads o m x.0 us y x.2 w.1 b (last_of l c o us e))))

  -- the same with commas
  none_separate : (k : ℕ) (ts : List Token) → begins ts ≡ false → separate_of begins reader k ts ≡ Some (end, ts)
  none_separate zero ts h = ap (λ b. if b then None else Some (end, ts)) h
  none_separate (suc k) ts h = ap (λ b. elim b as (λ _. Read Forest) [ false ↦ Some (end, ts) | true ↦ after (reader ts) (λ t us. and_others t (elim (begins_sign is.Comma us) as (λ _. Read Forest) [ false ↦ Some (end, us) | true ↦ separate_of begins reader k (behind_first us) ])) ]) h

  -- what is read behind one of them
  abbrev tail : ℕ → List Token → Read Forest
  tail k us = elim (begins_sign is.Comma us) as (λ _. Read Forest) [ false ↦ Some (end, us) | true ↦ separate_of begins reader k (behind_first us) ]

  -- a comma, and slots behind it
  comma_first : (b : Slots) (ts us : List Token) → fill (option_map (λ ss. signed is.Comma ∷ ss) b) ts ≡ Some us → (vs : List Token) × (ts ≡ symbol is.Comma ∷ vs) × (fill b vs ≡ Some us)
  comma_first None ts us h = absurd (no_some us h)
  comma_first (Some ss) ts us h = at (behind_token (symbol is.Comma) ts) refl h where
    at : (o : Option (List Token)) → behind_token (symbol is.Comma) ts ≡ o → option_and_then (left ss) o ≡ Some us → (vs : List Token) × (ts ≡ symbol is.Comma ∷ vs) × (left ss vs ≡ Some us)
    at None e g = absurd (no_some us g)
    at (Some vs) e g = (vs, stands (symbol is.Comma) ts vs e, g)

  -- slots and a comma that may stand behind them
  trail : (a : Slots) (ts us : List Token) → fill (option_map trailing a) ts ≡ Some us → (vs : List Token) × (fill a ts ≡ Some vs) × ((vs ≡ us) ⊎ (behind_if_there (symbol is.Comma) vs ≡ us))
  trail None ts us h = absurd (no_some us h)
  trail (Some []) ts us h = (us, h, inl refl)
  trail (Some (x ∷ xs)) ts us h = at (left (x ∷ xs) ts) refl (turned (left_joined (x ∷ xs) (may (symbol is.Comma) ∷ []) ts) ∙ h) where
    at : (o : Option (List Token)) → left (x ∷ xs) ts ≡ o → option_and_then (left (may (symbol is.Comma) ∷ [])) o ≡ Some us → (vs : List Token) × (left (x ∷ xs) ts ≡ Some vs) × ((vs ≡ us) ⊎ (behind_if_there (symbol is.Comma) vs ≡ us))
    at None e g = absurd (no_some us g)
    at (Some vs) e g = (vs, e, inr (of_some (behind_if_there (symbol is.Comma) vs) us g))

  -- where a comma may stand, it is passed
  tail_ends : (vs us : List Token) → begins us ≡ false → begins_sign is.Comma us ≡ false → (vs ≡ us) ⊎ (behind_if_there (symbol is.Comma) vs ≡ us) → (k : ℕ) → tail k vs ≡ Some (end, us)
  tail_ends vs us b c (inl q) k = ap (λ z. tail k z) q ∙ ap (λ z. elim z as (λ _. Read Forest) [ false ↦ Some (end, us) | true ↦ separate_of begins reader k (behind_first us) ]) c
  tail_ends [] us b c (inr q) k = ap (λ z. Some (end, z)) q
  tail_ends (v ∷ vs) us b c (inr q) k = at (same_token (symbol is.Comma) v) q where
    at : (z : Bool) → (if z then vs else v ∷ vs) ≡ us → elim z as (λ _. Read Forest) [ false ↦ Some (end, v ∷ vs) | true ↦ separate_of begins reader k vs ] ≡ Some (end, us)
    at true g = none_separate k vs (ap begins g ∙ b) ∙ ap (λ z. Some (end, z)) g
    at false g = ap (λ z. Some (end, z)) g

  module _ (B : List Token → Type 0)
      (item : (l : Label) (c : Forest) (ts us : List Token) → fill (first_slots l c (spells c) s) ts ≡ Some us → Within n (tree l c end) → B us → reader ts ≡ Some (node_of l c, us))
      (starts : (l : Label) (c : Forest) (ts us : List Token) → fill (first_slots l c (spells c) s) ts ≡ Some us → Within n (tree l c end) → begins ts ≡ true)
      (comma : (us : List Token) → B (symbol is.Comma ∷ us)) where
    several : (g : Forest) (k : ℕ) (ts vs us : List Token) → length ts ≤ k → fill ((spells g).separate s) ts ≡ Some vs → Within n g → (g ≡ end → ⊥) → B vs → ((m : ℕ) → tail m vs ≡ Some (end, us)) → separate_of begins reader k ts ≡ Some (g, us)
    several end k ts vs us f h w z b t = absurd (z refl)
    several (tree l c end) k ts vs us f h w z b t =
        fuel_left (length vs) (length ts) k (first_lt_of l c s ts vs h) f (λ m q y.
        ap (λ z. separate_of begins reader z ts) q
        ∙ (ap (λ b. elim b as (λ _. Read Forest) [ false ↦ Some (end, ts) | true ↦ after (reader ts) (λ t us. and_others t (tail m us)) ]) (starts l c ts vs h w)
        ∙ joined (λ t. t) (reader ts) (node_of l c) vs (tail m) end us (item l c ts vs h w b) (t m)))
    several (tree l c (tree k0 d o)) k ts vs us f h w z b t =
        let x : (ws : List Token) × (fill (first_slots l c (spells c) s) ts ≡ Some ws) × (fill (option_map (λ ss. signed is.Comma ∷ ss) ((spells (tree k0 d o)).separate s)) ws ≡ Some vs) = parts (first_slots l c (spells c) s) (option_map (λ ss. signed is.Comma ∷ ss) ((spells (tree k0 d o)).separate s)) ts vs h in
        let y : (xs : List Token) × (x.0 ≡ symbol is.Comma ∷ xs) × (fill ((spells (tree k0 d o)).separate s) xs ≡ Some vs) = comma_first ((spells (tree k0 d o)).separate s) x.0 vs x.2 in
        fuel_left (length x.0) (length ts) k (first_lt_of l c s ts x.0 x.1) f (λ m q le.
        ap (λ z. separate_of begins reader z ts) q
        ∙ (ap (λ b. elim b as (λ _. Read Forest) [ false ↦ Some (end, ts) | true ↦ after (reader ts) (λ t us. and_others t (tail m us)) ]) (starts l c ts x.0 x.1 (w.0, tt))
        ∙ joined (λ t. t) (reader ts) (node_of l c) x.0 (tail m) (tree k0 d o) us
        (item l c ts x.0 x.1 (w.0, tt) (subst (λ z. B z) (turned y.1) (comma y.0)))
        (ap (λ z. tail m z) y.1 ∙ several (tree k0 d o) m y.0 vs us (le_trans (le_of_lt (subst (λ z. length y.0 < length z) (turned y.1) (le_refl (suc (length y.0))))) le) y.2 w.1 (no_end k0 d o) b t)))

    -- with commas between, and perhaps one behind
    pub separate_reads : (g : Forest) (ts us : List Token) → fill (option_map trailing ((spells g).separate s)) ts ≡ Some us → Within n g → begins us ≡ false → begins_sign is.Comma us ≡ false → B us → separate_of begins reader (length ts) ts ≡ Some (g, us)
    separate_reads end ts us h w b c e = let q : ts ≡ us = of_some ts us h in none_separate (length ts) ts (ap begins q ∙ b) ∙ ap (λ z. Some (end, z)) q
    separate_reads (tree l d o) ts us h w b c e =
        let x : (vs : List Token) × (fill ((spells (tree l d o)).separate s) ts ≡ Some vs) × ((vs ≡ us) ⊎ (behind_if_there (symbol is.Comma) vs ≡ us)) = trail ((spells (tree l d o)).separate s) ts us h in
        several (tree l d o) (length ts) ts x.0 us (le_refl (length ts)) x.1 w (no_end l d o) (last x.0 x.2) (tail_ends x.0 us b c x.2) where
          last : (vs : List Token) → (vs ≡ us) ⊎ (behind_if_there (symbol is.Comma) vs ≡ us) → B vs
          last vs (inl q) = subst (λ z. B z) (turned q) e
          last [] (inr q) = subst (λ z. B z) (turned q) e
          last (v ∷ vs) (inr q) = at (same_token (symbol is.Comma) v) refl q where
            at : (z : Bool) → same_token (symbol is.Comma) v ≡ z → (if z then vs else v ∷ vs) ≡ us → B (v ∷ vs)
            at true g r = subst (λ t. B (t ∷ vs)) (same_is (symbol is.Comma) v g) (comma vs)
            at false g r = subst (λ z. B z) (turned r) e
