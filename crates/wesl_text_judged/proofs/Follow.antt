-- What is left of trees is meant where the trees are, where the attributes of statements that assign end before their targets.
use Rattle.std.proofs.Common.{◌≡◌, ℕ, zero, suc, Bool, true, false, cond, ◌&&◌, ◌||◌, if◌then◌else◌, [], ◌∷◌, Option, Some, None, option_map, option_and_then, refl, sym as turned, inl, inr, ap, ap₂, ◌∙◌, subst}
use Rattle.std.proofs.lemmas.Bool.{and_parts}
use Rattle.wesl_tree_names.specs.Path.{Text}
use Rattle.wesl_tree_syntax.specs.Nodes.{is_attributes}
use Rattle.wesl_tree_syntax.specs.Tree.{Kind, kind, at, end, tree, attributes, present, absent, list, imports, directive_list, declarations, statements, clauses, members, parameters, statement_node, default_case, loop, continuing}
use Rattle.wesl_text_tokens.specs.declared.symbol.Symbol.TheVariants as is
use Rattle.wesl_text_form.specs.Productions.{Sort, an_else_if, a_clause, a_member, a_parameter, a_selector, a_statement, Row, nothing, own, row_of}
use Rattle.wesl_text_form.specs.Spelling.{Label, Forest, Slots, spells, followed, signed, with_comma, first_slots, fits, stands_as, label_at, below_first, is_kind, is_end, is_simple, is_simple_at, is_empty_at, is_lone_default}
use Rattle.wesl_text_reading.proofs.Filled.{no_true}
use Rattle.wesl_text_reading.proofs.KindsAgain.{label_is}
use Rattle.wesl_text_reading.proofs.ForParts.{no_slots}
use Rattle.wesl_cond_features.specs.Features.{Replies, known}
use Rattle.wesl_cond_chains.specs.Conditions.{recast, is_list, with_attributes}
use Rattle.wesl_cond_chains.specs.Lists.{is_closed, option_of, is_entered}
use Rattle.wesl_text_left.specs.Apart.{ends_before_target}
use Rattle.wesl_text_left.proofs.Begins.{children_left}
use Rattle.wesl_text_judged.specs.Within.{all_end_within}
use Rattle.wesl_text_judged.proofs.Flagged.{FollowsAt, Same, brings_nothing, at_self, at_same, at_both}
use Rattle.wesl_text_judged.proofs.Relation.{body, is_part, IsLeft, ends, whole, entered, listed, bodied, shapeless, gone, stays}
use Rattle.wesl_text_judged.proofs.Walks.{is_fixed, asks, is_part_at, SameShape, listed_row, fixed_row}
use Rattle.wesl_text_judged.proofs.Rows.{StaysFirst, RowsFollow, none_follow, tree_follows, entered_first}
use Rattle.wesl_text_judged.proofs.Lists.{all_calm, ListFollows, none_left, gone_follows, stays_follows, role_follows}
use Rattle.wesl_text_judged.proofs.Bodies.{bodied_first, shapeless_none}

-- ---- what is asked of assignments: of all in the lists that are judged, and of none before the first of these

-- of the first tree down to the first list, nothing is asked
abbrev pub all_end_behind : Forest → Bool
all_end_behind end = true
all_end_behind (tree l children others) = cond (is_attributes l) true (cond (is_list l) (all_end_within children) (all_end_behind children)) && all_end_within others

three_parts : (a b c : Bool) → (a && (b && c)) ≡ true → (a ≡ true) × (b ≡ true) × (c ≡ true)
three_parts a b c h = let x : (a ≡ true) × ((b && c) ≡ true) = and_parts a (b && c) h in let y : (b ≡ true) × (c ≡ true) = and_parts b c x.1 in (x.0, y.0, y.1)

pub less_behind : (f : Forest) → all_end_within f ≡ true → all_end_behind f ≡ true
less_behind end h = refl
less_behind (tree l c o) h =
    let x : (ends_before_target l c ≡ true) × (all_end_within c ≡ true) × (all_end_within o ≡ true) = three_parts (ends_before_target l c) (all_end_within c) (all_end_within o) h in
    ap₂ (λ a b. a && b) (by (is_attributes l) (is_list l) x.1 (less_behind c x.1)) x.2 where
      by : (a i : Bool) → all_end_within c ≡ true → all_end_behind c ≡ true → cond a true (cond i (all_end_within c) (all_end_behind c)) ≡ true
      by true i g h = refl
      by false true g h = g
      by false false g h = h

-- attributes have no bearing
same_behind : (change : Forest → Forest) (f : Forest) → all_end_behind (with_attributes change f) ≡ all_end_behind f
same_behind change end = refl
same_behind change (tree l c o) = ap (λ z. z && all_end_within o) (by (is_attributes l) (is_list l) (same_behind change c)) where
  by : (a i : Bool) → all_end_behind (with_attributes change c) ≡ all_end_behind c
      → cond a true (cond i (all_end_within (cond a (change c) (cond i c (with_attributes change c)))) (all_end_behind (cond a (change c) (cond i c (with_attributes change c))))) ≡ cond a true (cond i (all_end_within c) (all_end_behind c))
  by true i e = refl
  by false true e = refl
  by false false e = e

-- ---- labels

-- what is told of a label is told of its kind
told_by : (q : Label → Bool) (k : Kind) (l : Label) (b : Bool) → q l ≡ b → is_kind k (Some l) ≡ true → q (kind k) ≡ b
told_by q k l b h e = ap q (turned (label_is k l e)) ∙ h

list_entered : (l : Label) → is_list l ≡ true → (is_entered l ≡ true) × (is_attributes l ≡ false)
list_entered (kind imports) h = (refl, refl)
list_entered (kind directive_list) h = (refl, refl)
list_entered (kind declarations) h = (refl, refl)
list_entered (kind members) h = (refl, refl)
list_entered (kind parameters) h = (refl, refl)
list_entered (kind statements) h = (refl, refl)
list_entered (kind clauses) h = (refl, refl)
list_entered l h = absurd (no_true h)

closed_entered : (l : Label) → is_closed l ≡ true → (is_entered l ≡ true) × (is_attributes l ≡ false) × (is_list l ≡ false)
closed_entered (kind loop) h = (refl, refl, refl)
closed_entered (kind continuing) h = (refl, refl, refl)
closed_entered l h = absurd (no_true h)

entered_plain : (l : Label) → is_entered l ≡ true → is_attributes l ≡ false
entered_plain (kind attributes) h = absurd (no_true h)
entered_plain l h = refl

no_part : (q : Label → Bool) → q (kind present) ≡ false → (l : Label) (c : Forest) → q l ≡ true → is_part l c ≡ true → ⊥
no_part q n (kind present) c h e = no_true (turned n ∙ h)
no_part q n l c h e = no_true e

-- ---- shapes

module _ (l : Label) (c d o p : Forest) (x : SameShape o p) where
  lone_same : is_lone_default (tree l c p) ≡ is_lone_default (tree l c o)
  lone_same = by l c o p x.ended where
    by : (l : Label) (c o p : Forest) → is_end p ≡ is_end o → is_lone_default (tree l c p) ≡ is_lone_default (tree l c o)
    by (kind default_case) end end end e = refl
    by (kind default_case) end end (tree m y q) e = absurd (no_true e)
    by (kind default_case) end (tree m y q) end e = absurd (no_true (turned e))
    by l c o p e = refl

  lone_none : is_entered l ≡ true → is_lone_default (tree l d p) ≡ is_lone_default (tree l c o)
  lone_none e = by l c d o p e where
    by : (l : Label) (c d o p : Forest) → is_entered l ≡ true → is_lone_default (tree l d p) ≡ is_lone_default (tree l c o)
    by (kind default_case) c d o p e = absurd (no_true e)
    by l c d o p e = refl

  shape_of : is_lone_default (tree l d p) ≡ is_lone_default (tree l c o) → (is_kind list (Some l) ≡ true → is_end d ≡ is_end c) → (is_part l c ≡ true → c ≡ d) → SameShape (tree l c o) (tree l d p)
  shape_of lone empty part = record {
    ended = refl;
    lone = lone;
    label = λ n. labels n;
    empty = λ n. empties n;
    simple = λ n. simples n;
  } where
    labels : (n : ℕ) → label_at n (tree l d p) ≡ label_at n (tree l c o)
    labels zero = refl
    labels (suc n) = x.label n

    empties : (n : ℕ) → is_kind list (label_at n (tree l c o)) ≡ true → is_empty_at n (tree l d p) ≡ is_empty_at n (tree l c o)
    empties zero e = empty e
    empties (suc n) e = x.empty n e

    held : (z : Bool) → is_kind absent (Some l) ≡ z → (z || is_part l c) ≡ true → is_simple_at 0 (tree l d p) ≡ true
    held true q e = ap (λ z. z || is_simple (label_at 0 (below_first d))) q
    held false q e = subst (λ z. is_simple_at 0 (tree l z p) ≡ true) (part e) (simple_part l c e) where
      simple_part : (l : Label) (c : Forest) → is_part l c ≡ true → is_simple_at 0 (tree l c p) ≡ true
      simple_part (kind present) (tree (at statement_node a b) (tree m y end) end) e = e
      simple_part l c e = absurd (no_true e)

    simples : (n : ℕ) → is_part_at n (tree l c o) ≡ true → is_simple_at n (tree l d p) ≡ true
    simples zero e = held (is_kind absent (Some l)) refl e
    simples (suc n) e = x.simple n e

no_shape : SameShape end end
no_shape = record { ended = refl; lone = refl; label = λ n. refl; empty = λ n e. refl; simple = λ n e. absurd (no_part_none n e) } where
  no_part_none : (n : ℕ) → is_part_at n end ≡ true → ⊥
  no_part_none n e = no_true e

-- ---- trees in their places

pub record TreesFollow (f g : Forest) : Type 0 where
  pub row : RowsFollow f g
  pub first : (s : Sort) → FollowsAt (asks s) ((spells f).first s) ((spells g).first s)
  pub elses : FollowsAt false ((spells f).all an_else_if) ((spells g).all an_else_if)
  pub separate : (s : Sort) → is_fixed s ≡ true → Same ((spells f).separate s) ((spells g).separate s)

no_trees : TreesFollow end end
no_trees = record { row = none_follow; first = λ s. tt; elses = at_self false (Some []); separate = λ s i. inr refl }

same_followed : (a x c d : Slots) → Same a x → Same c d → Same (followed a c) (followed x d)
same_followed a x c d (inl e) s = inl (ap (λ z. followed z c) e)
same_followed a x c d (inr e) (inl q) = inl (ap (followed a) q ∙ no_slots a)
same_followed a x c d (inr e) (inr q) = inr (ap₂ followed e q)

same_comma : (a x c d : Slots) (o p : Forest) → is_end p ≡ is_end o → Same a x → Same c d → Same (with_comma a o c) (with_comma x p d)
same_comma a x c d end end e s t = s
same_comma a x c d end (tree m y q) e s t = absurd (no_true e)
same_comma a x c d (tree m y q) end e s t = absurd (no_true (turned e))
same_comma a x c d (tree m y q) (tree k z r) e s t = same_followed a x (option_map (λ ss. signed is.Comma ∷ ss) c) (option_map (λ ss. signed is.Comma ∷ ss) d) s (mapped t) where
  mapped : Same c d → Same (option_map (λ ss. signed is.Comma ∷ ss) c) (option_map (λ ss. signed is.Comma ∷ ss) d)
  mapped (inl e) = inl (ap (λ z. option_map (λ ss. signed is.Comma ∷ ss) z) e)
  mapped (inr e) = inr (ap (λ z. option_map (λ ss. signed is.Comma ∷ ss) z) e)

trees_of : (l : Label) (c d o p : Forest) → StaysFirst l c d → SameShape o p → TreesFollow o p → TreesFollow (tree l c o) (tree l d p)
trees_of l c d o p x h later = record {
  row = tree_follows l c d o p x (ap (λ z. is_kind absent z) (h.label 0)) later.row;
  first = x.first;
  elses = at_both false false (first_slots l c (spells c) an_else_if) (first_slots l d (spells d) an_else_if) ((spells o).all an_else_if) ((spells p).all an_else_if) (all_calm an_else_if o) (x.first an_else_if) (brings_nothing false (first_slots l d (spells d) an_else_if)) later.elses;
  separate = λ s i. same_comma (first_slots l c (spells c) s) (first_slots l d (spells d) s) ((spells o).separate s) ((spells p).separate s) o p h.ended (x.fixed s i) (later.separate s i);
}

-- ---- one tree in its place

whole_stays : (l : Label) (c : Forest) → StaysFirst l c c
whole_stays l c = record {
  first = λ s. at_self (asks s) (first_slots l c (spells c) s);
  fixed = λ s i. inr refl;
  attributes = λ e. refl;
  statements = λ e. at_self true ((spells c).all a_statement);
  clauses = λ e. at_self true ((spells c).all a_clause);
  members = λ e. at_self true ((spells c).separate a_member);
  parameters = λ e. at_self true ((spells c).separate a_parameter);
  else_ifs = λ e. at_self false ((spells c).all an_else_if);
  selectors = λ e. inr refl;
  ended = λ e. e;
  lone = λ e. refl;
  option = λ e s h. at_self false ((spells c).row (own s nothing));
  part = λ e. refl;
}

row_none : (s : Sort) (l : Label) (c : Forest) → ((r : Row) → row_of s l ≡ Some r → ⊥) → first_slots l c (spells c) s ≡ None
row_none s l c f = by (row_of s l) f where
  by : (o : Option Row) → ((r : Row) → o ≡ Some r → ⊥) → option_and_then (λ r. if fits l c && stands_as s l c then (spells c).row r else None) o ≡ None
  by None f = refl
  by (Some r) f = absurd (f r refl)

entered_stays : (l : Label) (c d : Forest) → is_entered l ≡ true → (is_list l || is_closed l) ≡ false → is_part l c ≡ false → SameShape c d → TreesFollow c d → StaysFirst l c d
entered_stays l c d e n i h x =
    let q : (k : Kind) → (is_list {I = Text} (kind k) || is_closed {I = Text} (kind k)) ≡ true → is_kind k (Some l) ≡ true → ⊥ = λ k t g. no_true (turned (told_by (λ z. is_list z || is_closed z) k l false n g) ∙ t) in
    record {
      first = entered_first l c d e n h x.row;
      fixed = λ s j. inl (row_none s l c (λ r g. fixed_row s l r j e g));
      attributes = λ g. absurd (no_true (told_by is_entered attributes l true e g));
      statements = λ g. absurd (q statements refl g);
      clauses = λ g. absurd (q clauses refl g);
      members = λ g. absurd (q members refl g);
      parameters = λ g. absurd (q parameters refl g);
      else_ifs = λ g. x.elses;
      selectors = λ g. x.separate a_selector refl;
      ended = λ g. h.ended ∙ g;
      lone = λ g. h.lone;
      option = λ g s w. x.row (own s nothing) false w;
      part = λ g. absurd (no_true (turned i ∙ g));
    }

listed_stays : (l : Label) (c d : Forest) → is_list l ≡ true → ListFollows c d → StaysFirst l c d
listed_stays l c d i x = record {
  first = λ s. at_same (asks s) (first_slots l c (spells c) s) (first_slots l d (spells d) s) (inl (row_none s l c (λ r g. listed_row s l r i g)));
  fixed = λ s j. inl (row_none s l c (λ r g. listed_row s l r i g));
  attributes = λ g. absurd (no_true (told_by is_list attributes l true i g));
  statements = λ g. x.all a_statement refl;
  clauses = λ g. x.all a_clause refl;
  members = λ g. x.separate a_member refl;
  parameters = λ g. x.separate a_parameter refl;
  else_ifs = λ g. absurd (no_true (told_by is_list list l true i g));
  selectors = λ g. absurd (no_true (told_by is_list list l true i g));
  ended = x.ended;
  lone = λ g. absurd (no_true (told_by is_list list l true i g));
  option = λ g. absurd (no_true (told_by is_list present l true i g));
  part = λ g. absurd (no_part is_list refl l c i g);
}

closed_stays : (l : Label) (c d : Forest) → is_closed l ≡ true → (is_end c ≡ true → is_end d ≡ true) → ((s : Sort) → FollowsAt (asks s) (first_slots l c (spells c) s) (first_slots l d (spells d) s)) → StaysFirst l c d
closed_stays l c d i e f = record {
  first = f;
  fixed = λ s j. inl (row_none s l c (λ r g. fixed_row s l r j (closed_entered l i).0 g));
  attributes = λ g. absurd (no_true (told_by is_closed attributes l true i g));
  statements = λ g. absurd (no_true (told_by is_closed statements l true i g));
  clauses = λ g. absurd (no_true (told_by is_closed clauses l true i g));
  members = λ g. absurd (no_true (told_by is_closed members l true i g));
  parameters = λ g. absurd (no_true (told_by is_closed parameters l true i g));
  else_ifs = λ g. absurd (no_true (told_by is_closed list l true i g));
  selectors = λ g. absurd (no_true (told_by is_closed list l true i g));
  ended = e;
  lone = λ g. absurd (no_true (told_by is_closed list l true i g));
  option = λ g. absurd (no_true (told_by is_closed present l true i g));
  part = λ g. absurd (no_part is_closed refl l c i g);
}

-- ---- all trees

module _ (reply : Replies Text) where
  -- trees in their places, and the nodes of a list
  abbrev pub Follow : Bool → Forest → Forest → Type 0
  Follow false f g = SameShape f g × (all_end_behind g ≡ true → TreesFollow f g)
  Follow true f g = all_end_within g ≡ true → ListFollows f g

  -- of a tree in its place
  placed : (l : Label) (c d o p : Forest) → is_lone_default (tree l d p) ≡ is_lone_default (tree l c o) → (is_kind list (Some l) ≡ true → is_end d ≡ is_end c) → (is_part l c ≡ true → c ≡ d)
      → (cond (is_attributes l) true (cond (is_list l) (all_end_within d) (all_end_behind d)) ≡ true → StaysFirst l c d) → Follow false o p → Follow false (tree l c o) (tree l d p)
  placed l c d o p lone empty part x y = (
    shape_of l c d o p y.0 lone empty part,
    λ h.
        let a : Bool = cond (is_attributes l) true (cond (is_list l) (all_end_within d) (all_end_behind d)) in
        let z : (a ≡ true) × (all_end_within p ≡ true) = and_parts a (all_end_within p) h in
        trees_of l c d o p (x z.0) y.0 (y.1 (less_behind p z.1)),
  )

  -- what is asked of the children of a node that is no list, and of a list
  inner_end : (l : Label) (d : Forest) → is_attributes l ≡ false → is_list l ≡ false → cond (is_attributes l) true (cond (is_list l) (all_end_within d) (all_end_behind d)) ≡ true → all_end_behind d ≡ true
  inner_end l d a i h = turned (ap₂ (λ x y. cond x true (cond y (all_end_within d) (all_end_behind d))) a i) ∙ h

  list_end : (l : Label) (d : Forest) → is_attributes l ≡ false → is_list l ≡ true → cond (is_attributes l) true (cond (is_list l) (all_end_within d) (all_end_behind d)) ≡ true → all_end_within d ≡ true
  list_end l d a i h = turned (ap₂ (λ x y. cond x true (cond y (all_end_within d) (all_end_behind d))) a i) ∙ h

  option_end : (final : Forest) → all_end_within (option_of final end) ≡ true → all_end_within final ≡ true
  option_end end h = refl
  option_end (tree l c o) h = (and_parts (all_end_within (tree l c o)) true h).0

  body_end : (x near rest final : Forest) → all_end_behind (body x near rest (option_of final end)) ≡ true → (all_end_within rest ≡ true) × (all_end_within final ≡ true)
  body_end x near rest final h =
      let y : ((all_end_within near && (all_end_within rest && true)) ≡ true) × (all_end_within (option_of final end) ≡ true)
      = and_parts (all_end_within near && (all_end_within rest && true)) (all_end_within (option_of final end)) h in
      ((three_parts (all_end_within near) (all_end_within rest) true y.0).1, option_end final y.1)

  list_not : (l : Label) → (is_list l || is_closed l) ≡ false → is_list l ≡ false
  list_not l h = by (is_list l) h where
    by : (b : Bool) → (b || is_closed l) ≡ false → b ≡ false
    by true h = absurd (no_true (turned h))
    by false h = refl

  pub follow : {b : Bool} {f g : Forest} → IsLeft reply b f g → Follow b f g
  follow {b = true} ends = λ h. none_left
  follow {b = false} ends = (no_shape, λ h. no_trees)
  follow (whole {o = o} {p = p} l c y) = let later : Follow false o p = follow y in placed l c c o p (lone_same l c c o p later.0) (λ e. refl) (λ e. refl) (λ h. whole_stays l c) later
  follow (entered {c = c} {d = d} {o = o} {p = p} l e n i x y) =
      let later : Follow false o p = follow y in
      let below : Follow false c d = follow x in
      placed l c d o p (lone_none l c d o p later.0 e) (λ g. below.0.ended) (λ g. absurd (no_true (turned i ∙ g)))
      (λ h. entered_stays l c d e n i below.0 (below.1 (inner_end l d (entered_plain l e) (list_not l n) h))) later
  follow (listed {c = c} {d = d} {o = o} {p = p} l i x y) =
      let later : Follow false o p = follow y in
      let below : Follow true c d = follow x in
      let z : (is_entered l ≡ true) × (is_attributes l ≡ false) = list_entered l i in
      placed l c d o p (lone_none l c d o p later.0 z.0) (λ g. absurd (no_true (told_by is_list list l true i g))) (λ g. absurd (no_part is_list refl l c i g))
      (λ h. listed_stays l c d i (below (list_end l d z.1 i h))) later
  follow (bodied {items = items} {rest = rest} {last = last} {final = final} {o = o} {p = p} l m x near i q u v y) =
      let later : Follow false o p = follow y in
      let inner : Follow true items rest = follow u in
      let closing : Follow true last final = follow v in
      let c : Forest = body x near items (tree m last end) in
      let d : Forest = body x near rest (option_of final end) in
      let z : (is_entered l ≡ true) × (is_attributes l ≡ false) × (is_list l ≡ false) = closed_entered l i in
      placed l c d o p (lone_none l c d o p later.0 z.0) (λ g. absurd (no_true (told_by is_closed list l true i g))) (λ g. absurd (no_part is_closed refl l c i g))
      (λ h.
      let w : (all_end_within rest ≡ true) × (all_end_within final ≡ true) = body_end x near rest final (inner_end l d z.1 z.2 h) in
      closed_stays l c d i (λ g. absurd (no_true g)) (bodied_first items rest last final (inner w.0) (closing w.1) l i m q near x)) later
  follow (shapeless {c = c} {d = d} {o = o} {p = p} l i n e y) =
      let later : Follow false o p = follow y in
      placed l c d o p (lone_none l c d o p later.0 (closed_entered l i).0) (λ g. absurd (no_true (told_by is_closed list l true i g))) (λ g. absurd (no_part is_closed refl l c i g))
      (λ h. closed_stays l c d i e (λ s. at_same (asks s) (first_slots l c (spells c) s) (first_slots l d (spells d) s) (inl (shapeless_none l c i n s)))) later
  follow (gone {o = o} {p = p} l c y) = let later : Follow true o p = follow y in λ h. gone_follows l c o p (later h)
  follow (stays {c = c} {d = d} {o = o} {p = p} l role x q y) =
      let later : Follow true o p = follow y in
      let inner : Follow false (tree l c end) (tree l d end) = follow x in
      let n : Forest = children_left reply role l d in
      λ h.
      let z : (ends_before_target l n ≡ true) × (all_end_within n ≡ true) × (all_end_within p ≡ true) = three_parts (ends_before_target l n) (all_end_within n) (all_end_within p) h in
      let w : all_end_behind (tree l d end) ≡ true = turned (same_behind (recast (known reply) role) (tree l d end)) ∙ less_behind (tree l n end) (ap₂ (λ a b. a && (b && true)) z.0 z.1) in
      stays_follows l c o p (later z.2) n (λ s i. role_follows reply role l c d q z.0 s i ((inner.1 w).first s))
