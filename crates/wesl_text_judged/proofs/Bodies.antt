-- Loops and continuing blocks: their statements, and what closes them.
use Rattle.std.proofs.Common.{◌≡◌, Bool, true, false, ◌&&◌, if◌then◌else◌, [], ◌∷◌, Some, None, is_some, refl, sym as turned, ap, ◌∙◌, subst, codes}
use Rattle.std.proofs.lemmas.Bool.{and_parts}
use Rattle.wesl_tree_names.specs.Path.{Text}
use Rattle.wesl_tree_syntax.specs.Tree.{kind, end, tree, attributes, compound, statements, present, absent, loop, continuing}
use Rattle.wesl_text_tokens.specs.declared.symbol.Symbol.TheVariants as is
use Rattle.wesl_text_form.specs.Productions.{Sort, an_attribute, a_bare_statement, a_break_if, a_continuing, a_statement, Row, nothing, sym, says, own, run, optional, inside, attrs}
use Rattle.wesl_text_form.specs.Spelling.{Label, Forest, Slots, spells, followed, named, signed, first_slots, is_kind, is_end}
use Rattle.wesl_text_reading.proofs.Filled.{no_true}
use Rattle.wesl_text_reading.proofs.KindsAgain.{end_is, label_is}
use Rattle.wesl_text_writable.proofs.HardTrees.{rows_are_hard}
use Rattle.wesl_text_respell.proofs.Ended.{rows_are_ended}
use Rattle.wesl_text_respell.proofs.Rests.{unknown}
use Rattle.wesl_text_respell.proofs.Units.{where_there}
use Rattle.wesl_cond_chains.specs.Lists.{is_closed, is_option, option_of}
use Rattle.wesl_cond_chains.proofs.Bodies.{option_cases}
use Rattle.wesl_text_left.specs.Apart.{is_of_list}
use Rattle.wesl_text_left.proofs.Read.{both_there, behind_sign, no_more}
use Rattle.wesl_text_judged.proofs.Flagged.{FollowsAt, Brings, brings_nothing, brings_comes, calm_hard, at_self, at_behind, at_before, at_both}
use Rattle.wesl_text_judged.proofs.Resting.{ended_rest}
use Rattle.wesl_text_judged.proofs.Relation.{body, is_body}
use Rattle.wesl_text_judged.proofs.Walks.{asks, word_there, attrs_there}
use Rattle.wesl_text_judged.proofs.Rows.{brings_sign}
use Rattle.wesl_text_judged.proofs.Lists.{ListFollows, closing_slots}

-- ---- rows

abbrev braced_row : Row
braced_row = attrs (sym is.BraceLeft (run statements a_statement nothing))

abbrev last_row : Sort → Row
last_row s = optional (own s nothing) (sym is.BraceRight nothing)

abbrev held_row : Sort → Row
held_row s = inside compound braced_row (last_row s)

abbrev closed_row : Text → Sort → Row
closed_row w s = attrs (says w (held_row s))

-- ---- a body whose list is judged with what closes it

abbrev brace : Slots
brace = Some (signed is.BraceRight ∷ [])

option_is : (s : Sort) (final : Forest) → (spells (option_of final end)).row (last_row s) ≡ followed (closing_slots s final) brace
option_is s end = refl
option_is s (tree l c o) = refl

module _ (items rest last final : Forest) (x : ListFollows items rest) (y : ListFollows last final) where
  option_follows : (s : Sort) → is_of_list s ≡ true → (m : Label) → is_option m ≡ true → FollowsAt true ((spells (tree m last end)).row (last_row s)) (followed (closing_slots s final) brace)
  option_follows s i = option_cases (λ m. FollowsAt true ((spells (tree m last end)).row (last_row s)) (followed (closing_slots s final) brace))
      (at_before true ((spells last).row (own s nothing)) (closing_slots s final) brace (λ vs m. refl) (y.closing s i))
      (by last y.ended) where
        by : (f : Forest) → (is_end f ≡ true → is_end final ≡ true) → FollowsAt true (if is_end f then brace else None) (followed (closing_slots s final) brace)
        by end e = subst (λ z. FollowsAt true brace (followed (closing_slots s z) brace)) (turned (end_is final (e refl))) (at_self true brace)
        by (tree l c o) e = tt

  abbrev braced : Forest → Forest → Forest
  braced near list = tree (kind attributes) near (tree (kind statements) list end)

  braced_follows : (near : Forest) → FollowsAt false ((spells (braced near items)).row braced_row) ((spells (braced near rest)).row braced_row)
  braced_follows near =
      at_behind false false ((spells near).all an_attribute) (followed (Some (signed is.BraceLeft ∷ [])) (followed ((spells items).all a_statement) (Some []))) (followed (Some (signed is.BraceLeft ∷ [])) (followed ((spells rest).all a_statement) (Some [])))
      (brings_nothing false ((spells near).all an_attribute))
      (at_behind false true (Some (signed is.BraceLeft ∷ [])) (followed ((spells items).all a_statement) (Some [])) (followed ((spells rest).all a_statement) (Some [])) (brings_sign false is.BraceLeft)
      (at_before true ((spells items).all a_statement) ((spells rest).all a_statement) (Some []) (λ vs m. m) (x.all a_statement refl)))

  braced_brings : (near : Forest) → Brings false true ((spells (braced near rest)).row braced_row)
  braced_brings near = brings_comes false ((spells (braced near rest)).row braced_row) (ended_rest unknown ((spells (braced near rest)).row braced_row) (rows_are_ended (braced near rest) braced_row false refl))

  pub body_follows : (w : Text) (s : Sort) → is_of_list s ≡ true → (m : Label) → is_option m ≡ true → (near above : Forest)
      → FollowsAt false ((spells (body above near items (tree m last end))).row (closed_row w s)) ((spells (body above near rest (option_of final end))).row (closed_row w s))
  body_follows w s i m e near above =
      let old : Slots = (spells (tree m last end)).row (last_row s) in
      let new : Slots = (spells (option_of final end)).row (last_row s) in
      let a : Slots = (spells (braced near items)).row braced_row in
      let b : Slots = (spells (braced near rest)).row braced_row in
      at_behind false false ((spells above).all an_attribute) (followed (Some (named w ∷ [])) (followed a old)) (followed (Some (named w ∷ [])) (followed b new)) (brings_nothing false ((spells above).all an_attribute))
      (at_behind false false (Some (named w ∷ [])) (followed a old) (followed b new) (brings_nothing false (Some (named w ∷ [])))
      (at_both false true a b old new (calm_hard old (rows_are_hard (tree m last end) (last_row s) true refl)) (braced_follows near) (braced_brings near)
      (subst (λ z. FollowsAt true old z) (turned (option_is s final)) (option_follows s i m e))))

  pub bodied_first : (l : Label) → is_closed l ≡ true → (m : Label) → is_option m ≡ true → (near above : Forest) (s : Sort)
      → FollowsAt (asks s) (first_slots l (body above near items (tree m last end)) (spells (body above near items (tree m last end))) s)
      (first_slots l (body above near rest (option_of final end)) (spells (body above near rest (option_of final end))) s)
  bodied_first (kind loop) e m q near above a_bare_statement = body_follows (codes "loop") a_continuing refl m q near above
  bodied_first (kind loop) e m q near above s = tt
  bodied_first (kind continuing) e m q near above a_continuing = body_follows (codes "continuing") a_break_if refl m q near above
  bodied_first (kind continuing) e m q near above s = tt
  bodied_first l e m q near above s = absurd (no_true e)

-- ---- what is no such body cannot be printed

abbrev InBody : Forest → Type 0
InBody y = (near : Forest) × (items : Forest) × (y ≡ tree (kind attributes) near (tree (kind statements) items end))

abbrev InOption : Forest → Type 0
InOption q = (m : Label) × (last : Forest) × (is_option m ≡ true) × (q ≡ tree m last end)

list_there : (z : Forest) → is_some ((spells z).row (run statements a_statement nothing)) ≡ true → (items : Forest) × (z ≡ tree (kind statements) items end)
list_there end h = absurd (no_true h)
list_there (tree e items t) h =
    let a : Slots = (spells items).all a_statement in
    let x : (is_kind statements (Some e) ≡ true) × (is_some (followed a ((spells t).row nothing)) ≡ true) = where_there (is_kind statements (Some e)) (followed a ((spells t).row nothing)) h in
    (items, ap (λ m. tree m items t) (label_is statements e x.0) ∙ ap (λ w. tree (kind statements) items w) (no_more t (both_there a ((spells t).row nothing) x.1).1))

braced_there : (y : Forest) → is_some ((spells y).row braced_row) ≡ true → InBody y
braced_there end h = absurd (no_true h)
braced_there (tree d near z) h =
    let row : Row = sym is.BraceLeft (run statements a_statement nothing) in
    let x : is_kind attributes (Some d) ≡ true = (where_there (is_kind attributes (Some d)) (followed ((spells near).all an_attribute) ((spells z).row row)) h).0 in
    let y : (items : Forest) × (z ≡ tree (kind statements) items end) = list_there z (behind_sign is.BraceLeft z (run statements a_statement nothing) (attrs_there (tree d near z) row h)) in
    (near, y.0, ap (λ m. tree m near z) (label_is attributes d x) ∙ ap (λ w. tree (kind attributes) near w) y.1)

brace_there : (t : Forest) → is_some ((spells t).row (sym is.BraceRight nothing)) ≡ true → t ≡ end
brace_there end h = refl
brace_there (tree l c o) h = absurd (no_true h)

closing_there : (s : Sort) (q : Forest) → is_some ((spells q).row (last_row s)) ≡ true → InOption q
closing_there s end h = absurd (no_true h)
closing_there s (tree m last t) h = by (is_kind absent (Some m) && is_end last) refl h where
  held : Slots
  held = (spells last).row (own s nothing)

  behind : Slots
  behind = (spells t).row (sym is.BraceRight nothing)

  an_option : is_option m ≡ true → is_some behind ≡ true → InOption (tree m last t)
  an_option i g = (m, last, i, ap (λ w. tree m last w) (brace_there t g))

  by : (z : Bool) → (is_kind absent (Some m) && is_end last) ≡ z → is_some (if z then behind else if is_kind present (Some m) then followed held behind else None) ≡ true → InOption (tree m last t)
  by true e g = an_option (ap is_option (label_is absent m (and_parts (is_kind absent (Some m)) (is_end last) e).0)) g
  by false e g =
      let x : (is_kind present (Some m) ≡ true) × (is_some (followed held behind) ≡ true) = where_there (is_kind present (Some m)) (followed held behind) g in
      an_option (ap is_option (label_is present m x.0)) (both_there held behind x.1).1

body_there : (c : Forest) (w : Text) (s : Sort) → is_some ((spells c).row (closed_row w s)) ≡ true → is_body c ≡ true
body_there end w s h = absurd (no_true h)
body_there (tree a above end) w s h = absurd (no_true (word_there w end (held_row s) (attrs_there (tree a above end) (says w (held_row s)) h)))
body_there (tree a above (tree b y q)) w s h =
    let o : Forest = tree b y q in
    let first : is_kind attributes (Some a) ≡ true = (where_there (is_kind attributes (Some a)) (followed ((spells above).all an_attribute) ((spells o).row (says w (held_row s)))) h).0 in
    let held : is_some ((spells o).row (held_row s)) ≡ true = word_there w o (held_row s) (attrs_there (tree a above o) (says w (held_row s)) h) in
    let x : (is_kind compound (Some b) ≡ true) × (is_some (followed ((spells y).row braced_row) ((spells q).row (last_row s))) ≡ true) = where_there (is_kind compound (Some b)) (followed ((spells y).row braced_row) ((spells q).row (last_row s))) held in
    let z : (is_some ((spells y).row braced_row) ≡ true) × (is_some ((spells q).row (last_row s)) ≡ true) = both_there ((spells y).row braced_row) ((spells q).row (last_row s)) x.1 in
    let u : InBody y = braced_there y z.0 in
    let v : InOption q = closing_there s q z.1 in
    ap (λ m. is_body (tree m above o)) (label_is attributes a first)
    ∙ (ap (λ m. is_body (tree (kind attributes) above (tree m y q))) (label_is compound b x.0)
    ∙ (ap (λ m. is_body (tree (kind attributes) above (tree (kind compound) m q))) u.2
    ∙ (ap (λ m. is_body (body above u.0 u.1 m)) v.3 ∙ v.2)))

not_there : (a : Slots) → (is_some a ≡ true → ⊥) → a ≡ None
not_there None h = refl
not_there (Some ss) h = absurd (h refl)

pub shapeless_none : (l : Label) (c : Forest) → is_closed l ≡ true → is_body c ≡ false → (s : Sort) → first_slots l c (spells c) s ≡ None
shapeless_none (kind loop) c e n a_bare_statement = not_there ((spells c).row (closed_row (codes "loop") a_continuing)) (λ h. no_true (turned n ∙ body_there c (codes "loop") a_continuing h))
shapeless_none (kind loop) c e n s = refl
shapeless_none (kind continuing) c e n a_continuing = not_there ((spells c).row (closed_row (codes "continuing") a_break_if)) (λ h. no_true (turned n ∙ body_there c (codes "continuing") a_break_if h))
shapeless_none (kind continuing) c e n s = refl
shapeless_none l c e n s = absurd (no_true e)
