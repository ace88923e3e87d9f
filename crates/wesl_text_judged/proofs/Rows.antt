-- What is left of trees in their places is meant where the trees are, row by row.
use Rattle.std.proofs.Common.{◌≡◌, ℕ, suc, Bool, true, false, not, ◌&&◌, ◌||◌, if◌then◌else◌, List, [], ◌∷◌, ◌++◌, Option, Some, None, option_map, option_and_then, is_some, refl, sym as turned, inr, ap, ap₂, ◌∙◌, subst, codes}
use Rattle.std.proofs.lemmas.Bool.{and_parts}
use Rattle.wesl_tree_syntax.specs.Tree.{Kind, ident, end, tree, attributes, present, absent, list, statements, clauses, members, parameters}
use Rattle.wesl_text_tokens.specs.declared.symbol.Symbol.{Symbol}
use Rattle.wesl_text_tokens.specs.declared.symbol.Symbol.TheVariants as is
use Rattle.wesl_text_tokens.specs.Tokens.{Token, symbol}
use Rattle.wesl_text_tokens.specs.Brackets.{Known, nothing_known, known_from}
use Rattle.wesl_text_form.specs.Slots.{may, alone}
use Rattle.wesl_text_form.specs.Productions.{Sort, an_attribute, an_else_if, a_clause, a_member, a_parameter, a_selector, a_statement, an_ident, Row, nothing, sym, may_sym, says, own, leaf, run, commas, optional, selectors, unended, arrow, row_of}
use Rattle.wesl_text_form.specs.Says.{token_bits}
use Rattle.wesl_text_form.specs.Spelling.{Label, Forest, Slots, spells, followed, named, signed, trailing, leaf_slots, first_slots, row_slots, row_of_none, fits, stands_as, is_kind, is_end, is_lone_default, is_absent_at}
use Rattle.wesl_text_reading.proofs.Filled.{no_true}
use Rattle.wesl_text_reading.proofs.KindsAgain.{label_is}
use Rattle.wesl_text_writable.proofs.HardTrees.{is_hard, rows_are_hard}
use Rattle.wesl_text_writable.proofs.Grouped.{number_behind}
use Rattle.wesl_text_writable.proofs.LeftOut.{number_of, state, done_here}
use Rattle.wesl_text_respell.proofs.Rests.{Rests, rests}
use Rattle.wesl_text_respell.proofs.Joined.{Settled}
use Rattle.wesl_text_respell.proofs.Lists.{Comes, ident_rests}
use Rattle.wesl_cond_chains.specs.Conditions.{is_list}
use Rattle.wesl_cond_chains.specs.Lists.{is_closed, is_entered}
use Rattle.wesl_text_judged.proofs.Flagged.{FollowsAt, Brings, Calm, Same, brings_nothing, brings_comes, calm_hard, at_self, at_weaker, at_asked, at_both, at_kept, at_behind, at_trailing, same_trailing, at_where, at_either}
use Rattle.wesl_text_judged.proofs.Resting.{attributes_rest}
use Rattle.wesl_text_judged.proofs.Relation.{is_part}
use Rattle.wesl_text_judged.proofs.Walks.{is_fixed, asks, behind, is_part_at, SameShape, walks, row_moves, fits_left, stands_left}

-- ---- behind parts that stay nothing is pending, where that is told

-- behind an opening parenthesis
settled_on : (ts : List Token) (t : Token) (i : ℕ) (k : Known) → state i k (ts ++ t ∷ []) ≡ known_from (number_of i ts) (state i k ts) (token_bits t)
settled_on [] t i k = refl
settled_on (u ∷ ts) t i k = settled_on ts t (number_behind i (token_bits u)) (known_from i k (token_bits u))

opened_settled : (ts : List Token) → Settled ts → Settled (ts ++ symbol is.ParenLeft ∷ [])
opened_settled ts h = subst Rests (turned (settled_on ts (symbol is.ParenLeft) 0 nothing_known)) (by (state 0 nothing_known ts) (done_here ts) h) where
  by : (k : Known) → k.is_passed ≡ false → Rests k → Rests (known_from (number_of 0 ts) k (token_bits (symbol is.ParenLeft)))
  by k q r = ap (λ z. (if z then record k { is_passed = false; behind_name = false } else record k { behind_name = false; depth = suc k.depth }).pending) q ∙ r

pub brings_sign : (b : Bool) (s : Symbol) → Brings b (behind b s) (Some (signed s ∷ []))
brings_sign b is.Semicolon = brings_comes b (Some (signed is.Semicolon ∷ [])) refl
brings_sign b is.BraceLeft = brings_comes b (Some (signed is.BraceLeft ∷ [])) refl
brings_sign b is.Colon = brings_comes b (Some (signed is.Colon ∷ [])) refl
brings_sign b is.ParenLeft = λ ts vs m p e. opened_settled ts (p e)
brings_sign true is.At = brings_comes true (Some (signed is.At ∷ [])) refl
brings_sign false is.At = brings_nothing false (Some (signed is.At ∷ []))
brings_sign b s = brings_nothing b (Some (signed s ∷ []))

-- where nothing is told of what comes before, nothing is behind
brings_same : (b : Bool) (a : Slots) → Comes rests a rests → Brings b b a
brings_same true a h = brings_comes true a h
brings_same false a h = brings_nothing false a

-- ---- what is told of a tree that stays in its place

pub record StaysFirst (l : Label) (c d : Forest) : Type 0 where
  pub first : (s : Sort) → FollowsAt (asks s) (first_slots l c (spells c) s) (first_slots l d (spells d) s)
  pub fixed : (s : Sort) → is_fixed s ≡ true → Same (first_slots l c (spells c) s) (first_slots l d (spells d) s)
  pub attributes : is_kind attributes (Some l) ≡ true → c ≡ d
  pub statements : is_kind statements (Some l) ≡ true → FollowsAt true ((spells c).all a_statement) ((spells d).all a_statement)
  pub clauses : is_kind clauses (Some l) ≡ true → FollowsAt true ((spells c).all a_clause) ((spells d).all a_clause)
  pub members : is_kind members (Some l) ≡ true → FollowsAt true ((spells c).separate a_member) ((spells d).separate a_member)
  pub parameters : is_kind parameters (Some l) ≡ true → FollowsAt true ((spells c).separate a_parameter) ((spells d).separate a_parameter)
  pub else_ifs : is_kind list (Some l) ≡ true → FollowsAt false ((spells c).all an_else_if) ((spells d).all an_else_if)
  pub selectors : is_kind list (Some l) ≡ true → Same ((spells c).separate a_selector) ((spells d).separate a_selector)
  pub ended : is_end c ≡ true → is_end d ≡ true
  pub lone : is_kind list (Some l) ≡ true → is_lone_default d ≡ is_lone_default c
  pub option : is_kind present (Some l) ≡ true → (s : Sort) → walks false c (own s nothing) ≡ true → FollowsAt false ((spells c).row (own s nothing)) ((spells d).row (own s nothing))
  pub part : is_part l c ≡ true → c ≡ d

abbrev pub RowsFollow : Forest → Forest → Type 0
RowsFollow f g = (r : Row) (b : Bool) → walks b f r ≡ true → FollowsAt b ((spells f).row r) ((spells g).row r)

pub none_follow : RowsFollow end end
none_follow r b h = at_self b (row_of_none r)

asked_so : (a b : Bool) → (not a || b) ≡ true → a ≡ true → b ≡ true
asked_so true b h e = h
asked_so false b h e = absurd (no_true e)

module _ (l : Label) (c d o p : Forest) (x : StaysFirst l c d) (absent_same : is_absent_at 0 p ≡ is_absent_at 0 o) (later : RowsFollow o p) where
  calm_later : (row : Row) → is_hard true row ≡ true → Calm ((spells o).row row)
  calm_later row h = calm_hard ((spells o).row row) (rows_are_hard o row true h)

  -- a list in which nodes go and change, and what is behind it
  list_follows : (k : Kind) (b : Bool) (old new : Slots) (row : Row) → (is_kind k (Some l) ≡ true → FollowsAt b old new) → (is_hard true row && walks false o row) ≡ true
      → FollowsAt b (if is_kind k (Some l) then followed old ((spells o).row row) else None) (if is_kind k (Some l) then followed new ((spells p).row row) else None)
  list_follows k b old new row f h =
      let y : (is_hard true row ≡ true) × (walks false o row ≡ true) = and_parts (is_hard true row) (walks false o row) h in
      at_either b (is_kind k (Some l)) (is_kind k (Some l)) (followed old ((spells o).row row)) None (followed new ((spells p).row row)) None refl
      (λ e. at_both b false old new ((spells o).row row) ((spells p).row row) (calm_later row y.0) (f e) (brings_nothing b new) (later row false y.1)) (λ e. tt)

  -- one that is asked to stand where nothing is pending
  told_follows : (k : Kind) (b : Bool) (old new : Slots) (row : Row) → (is_kind k (Some l) ≡ true → FollowsAt true old new) → (b && (is_hard true row && walks false o row)) ≡ true
      → FollowsAt b (if is_kind k (Some l) then followed old ((spells o).row row) else None) (if is_kind k (Some l) then followed new ((spells p).row row) else None)
  told_follows k b old new row f h =
      let y : (b ≡ true) × ((is_hard true row && walks false o row) ≡ true) = and_parts b (is_hard true row && walks false o row) h in
      list_follows k b old new row (λ e. subst (λ z. FollowsAt z old new) (turned y.0) (f e)) y.1

  own_follows : (b : Bool) (s : Sort) (row : Row) → (z : Bool) → is_fixed s ≡ z → (if z then walks false o row else (not (asks s) || b) && (is_hard true row && walks false o row)) ≡ true
      → FollowsAt b (followed (first_slots l c (spells c) s) ((spells o).row row)) (followed (first_slots l d (spells d) s) ((spells p).row row))
  own_follows b s row true e h =
      at_kept b false (first_slots l c (spells c) s) (first_slots l d (spells d) s) ((spells o).row row) ((spells p).row row) (x.fixed s e) (brings_nothing b (first_slots l c (spells c) s)) (later row false h)
  own_follows b s row false e h =
      let y : ((not (asks s) || b) ≡ true) × ((is_hard true row && walks false o row) ≡ true) = and_parts (not (asks s) || b) (is_hard true row && walks false o row) h in
      let z : (is_hard true row ≡ true) × (walks false o row ≡ true) = and_parts (is_hard true row) (walks false o row) y.1 in
      at_both b false (first_slots l c (spells c) s) (first_slots l d (spells d) s) ((spells o).row row) ((spells p).row row) (calm_later row z.0)
      (at_asked (asks s) b (first_slots l c (spells c) s) (first_slots l d (spells d) s) (asked_so (asks s) b y.0) (x.first s)) (brings_nothing b (first_slots l d (spells d) s)) (later row false z.1)

  -- an option by its row, of which what is there follows
  option_follows : (b : Bool) (ins row : Row) → walks false o row ≡ true
      → (is_kind present (Some l) ≡ true → FollowsAt b (followed ((spells c).row ins) ((spells o).row row)) (followed ((spells d).row ins) ((spells p).row row)))
      → FollowsAt b (row_slots l c o (spells c) (spells o) (optional ins row)) (row_slots l d p (spells d) (spells p) (optional ins row))
  option_follows b ins row h f = by (is_kind absent (Some l)) refl where
    held : Forest → Forest → Slots
    held z q = if is_kind present (Some l) then followed ((spells z).row ins) ((spells q).row row) else None

    missing : is_kind absent (Some l) ≡ true → FollowsAt b (if is_end c then (spells o).row row else held c o) (if is_end d then (spells p).row row else held d p)
    missing e =
        let n : is_kind present (Some l) ≡ false = ap (λ m. is_kind present (Some m)) (label_is absent l e) in
        let none : (z q : Forest) → held z q ≡ None = λ z q. ap (λ (i : Bool). let a : Slots = if i then followed ((spells z).row ins) ((spells q).row row) else None in a) n in
        subst (λ y. FollowsAt b (if is_end c then (spells o).row row else y) (if is_end d then (spells p).row row else held d p)) (turned (none c o))
        (subst (λ y. FollowsAt b (if is_end c then (spells o).row row else None) (if is_end d then (spells p).row row else y)) (turned (none d p))
        (at_where b (is_end c) (is_end d) ((spells o).row row) ((spells p).row row) (λ g i. (x.ended g, at_weaker b ((spells o).row row) ((spells p).row row) (later row false h)))))

    by : (z : Bool) → is_kind absent (Some l) ≡ z → FollowsAt b (if z && is_end c then (spells o).row row else held c o) (if z && is_end d then (spells p).row row else held d p)
    by true e = missing e
    by false e = at_either b (is_kind present (Some l)) (is_kind present (Some l)) (followed ((spells c).row ins) ((spells o).row row)) None (followed ((spells d).row ins) ((spells p).row row)) None refl f (λ g. tt)

  -- one that holds what stays as it is
  part_follows : (b : Bool) (row : Row) → is_part_at 0 (tree l c o) ≡ true → walks false o row ≡ true
      → FollowsAt b (row_slots l c o (spells c) (spells o) (optional (unended a_statement nothing) row)) (row_slots l d p (spells d) (spells p) (optional (unended a_statement nothing) row))
  part_follows b row i h = option_follows b (unended a_statement nothing) row h held where
    ins : Forest → Slots
    ins f = (spells f).row (unended a_statement nothing)

    held : is_kind present (Some l) ≡ true → FollowsAt b (followed (ins c) ((spells o).row row)) (followed (ins d) ((spells p).row row))
    held g =
        let q : c ≡ d = x.part (turned (ap (λ m. is_kind absent (Some m) || is_part l c) (label_is present l g)) ∙ i) in
        at_kept b false (ins c) (ins d) ((spells o).row row) ((spells p).row row) (inr (ap ins q)) (brings_nothing b (ins c)) (later row false h)

  selectors_follow : (b : Bool) (row : Row) → walks false o row ≡ true → FollowsAt b (row_slots l c o (spells c) (spells o) (selectors row)) (row_slots l d p (spells d) (spells p) (selectors row))
  selectors_follow b row h = by (is_kind list (Some l)) refl where
    old : Slots
    old = option_map trailing ((spells c).separate a_selector)

    new : Slots
    new = option_map trailing ((spells d).separate a_selector)

    both : is_kind list (Some l) ≡ true → FollowsAt b (if is_lone_default c then followed (Some (alone ∷ [])) ((spells o).row row) else followed (Some (named (codes "case") ∷ [])) (followed old ((spells o).row row)))
        (if is_lone_default d then followed (Some (alone ∷ [])) ((spells p).row row) else followed (Some (named (codes "case") ∷ [])) (followed new ((spells p).row row)))
    both e =
        at_either b (is_lone_default c) (is_lone_default d) (followed (Some (alone ∷ [])) ((spells o).row row)) (followed (Some (named (codes "case") ∷ [])) (followed old ((spells o).row row)))
        (followed (Some (alone ∷ [])) ((spells p).row row)) (followed (Some (named (codes "case") ∷ [])) (followed new ((spells p).row row))) (x.lone e)
        (λ g. at_behind b false (Some (alone ∷ [])) ((spells o).row row) ((spells p).row row) (brings_nothing b (Some (alone ∷ []))) (later row false h))
        (λ g. at_behind b false (Some (named (codes "case") ∷ [])) (followed old ((spells o).row row)) (followed new ((spells p).row row)) (brings_nothing b (Some (named (codes "case") ∷ [])))
        (at_kept false false old new ((spells o).row row) ((spells p).row row) (same_trailing ((spells c).separate a_selector) ((spells d).separate a_selector) (x.selectors e)) (brings_nothing false old) (later row false h)))

    by : (z : Bool) → is_kind list (Some l) ≡ z
        → FollowsAt b (if not z then None else if is_lone_default c then followed (Some (alone ∷ [])) ((spells o).row row) else followed (Some (named (codes "case") ∷ [])) (followed old ((spells o).row row)))
        (if not z then None else if is_lone_default d then followed (Some (alone ∷ [])) ((spells p).row row) else followed (Some (named (codes "case") ∷ [])) (followed new ((spells p).row row)))
    by true e = both e
    by false e = tt

  abbrev old_row : Row → Slots
  old_row r = row_slots l c o (spells c) (spells o) r

  abbrev new_row : Row → Slots
  new_row r = row_slots l d p (spells d) (spells p) r

  pub tree_follows : (r : Row) (b : Bool) → walks b (tree l c o) r ≡ true → FollowsAt b (old_row r) (new_row r)
  tree_follows nothing b h = tt
  tree_follows (sym s row) b h = at_behind b (behind b s) (Some (signed s ∷ [])) (old_row row) (new_row row) (brings_sign b s) (tree_follows row (behind b s) h)
  tree_follows (may_sym s row) b h = at_behind b b (Some (may (symbol s) ∷ [])) (old_row row) (new_row row) (brings_same b (Some (may (symbol s) ∷ [])) refl) (tree_follows row b h)
  tree_follows (says w row) b h = at_behind b b (Some (named w ∷ [])) (old_row row) (new_row row) (brings_same b (Some (named w ∷ [])) refl) (tree_follows row b h)
  tree_follows (own s row) b h = own_follows b s row (is_fixed s) refl h
  tree_follows (leaf (an_ident r) row) b h =
      at_where b (is_end c) (is_end d) (followed (leaf_slots (an_ident r) l o) ((spells o).row row)) (followed (leaf_slots (an_ident r) l p) ((spells p).row row))
      (λ e g. (x.ended e, at_kept b b (leaf_slots (an_ident r) l o) (leaf_slots (an_ident r) l p) ((spells o).row row) ((spells p).row row) (inr (ident_same l)) (brings_same b (leaf_slots (an_ident r) l o) (ident_rests r l o)) (later row b h))) where
        ident_same : (m : Label) → leaf_slots (an_ident r) m o ≡ leaf_slots (an_ident r) m p
        ident_same (ident q t) = refl
        ident_same m = refl
  tree_follows (run attributes an_attribute row) b h =
      at_either b (is_kind attributes (Some l)) (is_kind attributes (Some l)) (followed ((spells c).all an_attribute) ((spells o).row row)) None (followed ((spells d).all an_attribute) ((spells p).row row)) None refl
      (λ e. at_kept b b ((spells c).all an_attribute) ((spells d).all an_attribute) ((spells o).row row) ((spells p).row row) (inr (ap (λ z. (spells z).all an_attribute) (x.attributes e)))
      (brings_same b ((spells c).all an_attribute) (attributes_rest c)) (later row b h)) (λ e. tt)
  tree_follows (run statements a_statement row) b h = told_follows statements b ((spells c).all a_statement) ((spells d).all a_statement) row x.statements h
  tree_follows (run clauses a_clause row) b h = told_follows clauses b ((spells c).all a_clause) ((spells d).all a_clause) row x.clauses h
  tree_follows (run list an_else_if row) b h = list_follows list b ((spells c).all an_else_if) ((spells d).all an_else_if) row (λ e. at_weaker b ((spells c).all an_else_if) ((spells d).all an_else_if) (x.else_ifs e)) h
  tree_follows (commas members a_member row) b h =
      told_follows members b (option_map trailing ((spells c).separate a_member)) (option_map trailing ((spells d).separate a_member)) row (λ e. at_trailing true ((spells c).separate a_member) ((spells d).separate a_member) (x.members e)) h
  tree_follows (commas parameters a_parameter row) b h =
      told_follows parameters b (option_map trailing ((spells c).separate a_parameter)) (option_map trailing ((spells d).separate a_parameter)) row
      (λ e. at_trailing true ((spells c).separate a_parameter) ((spells d).separate a_parameter) (x.parameters e)) h
  tree_follows (optional (own s nothing) row) b h =
      let y : ((is_fixed s || not (asks s)) ≡ true) × ((is_hard true row && walks false o row) ≡ true) = and_parts (is_fixed s || not (asks s)) (is_hard true row && walks false o row) h in
      let z : (is_hard true row ≡ true) × (walks false o row ≡ true) = and_parts (is_hard true row) (walks false o row) y.1 in
      option_follows b (own s nothing) row z.1 (λ g. at_both b false ((spells c).row (own s nothing)) ((spells d).row (own s nothing)) ((spells o).row row) ((spells p).row row) (calm_later row z.0)
      (at_weaker b ((spells c).row (own s nothing)) ((spells d).row (own s nothing)) (x.option g s (by (is_fixed s) (asks s) y.0))) (brings_nothing b ((spells d).row (own s nothing))) (later row false z.1)) where
        by : (i a : Bool) → (i || not a) ≡ true → (if i then true else (not a || false) && true) ≡ true
        by true a h = refl
        by false true h = absurd (no_true h)
        by false false h = refl
  tree_follows (optional (unended a_statement nothing) row) b h =
      let y : (is_part_at 0 (tree l c o) ≡ true) × (walks false o row ≡ true) = and_parts (is_part_at 0 (tree l c o)) (walks false o row) h in
      part_follows b row y.0 y.1
  tree_follows (selectors row) b h = selectors_follow b row h
  tree_follows (arrow row) b h =
      at_either b (is_absent_at 0 o) (is_absent_at 0 p) (if is_end c then old_row row else None) (followed (Some (signed is.Arrow ∷ [])) (old_row row)) (if is_end d then new_row row else None) (followed (Some (signed is.Arrow ∷ [])) (new_row row)) absent_same
      (λ e. at_where b (is_end c) (is_end d) (old_row row) (new_row row) (λ g i. (x.ended g, at_weaker b (old_row row) (new_row row) (tree_follows row false h))))
      (λ e. at_behind b false (Some (signed is.Arrow ∷ [])) (old_row row) (new_row row) (brings_nothing b (Some (signed is.Arrow ∷ []))) (tree_follows row false h))
  tree_follows r b h = absurd (no_true h)

-- ---- nodes in which lists may lie

pub entered_first : (l : Label) (c d : Forest) → is_entered l ≡ true → (is_list l || is_closed l) ≡ false → SameShape c d → RowsFollow c d → (s : Sort)
    → FollowsAt (asks s) (first_slots l c (spells c) s) (first_slots l d (spells d) s)
entered_first l c d e n x f s = by (row_of s l) (λ r q h g. (fits_left s l c d r x q e g h, f r (asks s) (row_moves s l c r q e n h g))) where
  by : (o : Option Row) → ((r : Row) → o ≡ Some r → fits l c ≡ true → is_some ((spells c).row r) ≡ true → (fits l d ≡ true) × FollowsAt (asks s) ((spells c).row r) ((spells d).row r))
      → FollowsAt (asks s) (option_and_then (λ r. if fits l c && stands_as s l c then (spells c).row r else None) o) (option_and_then (λ r. if fits l d && stands_as s l d then (spells d).row r else None) o)
  by None g = tt
  by (Some r) g = at_where (asks s) (fits l c && stands_as s l c) (fits l d && stands_as s l d) ((spells c).row r) ((spells d).row r) (λ b h.
      let y : (fits l c ≡ true) × (stands_as s l c ≡ true) = and_parts (fits l c) (stands_as s l c) b in
      let z : (fits l d ≡ true) × FollowsAt (asks s) ((spells c).row r) ((spells d).row r) = g r refl y.0 h in
      (ap₂ (λ a b. a && b) z.0 (stands_left s l c d e ∙ y.1), z.1))
