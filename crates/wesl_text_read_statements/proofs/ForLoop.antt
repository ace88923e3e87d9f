-- `for`: what stands in its parentheses are simple statements.
use Rattle.std.proofs.Common.{◌≡◌, List, [], Bool, true, false, ◌&&◌, if◌then◌else◌, Option, Some, None, codes, refl, ap, ◌∙◌}
use Rattle.std.specs.Option.{option_and_then}
use Rattle.wesl_tree_names.specs.Path.{Text}
use Rattle.wesl_tree_syntax.specs.Tree.{TreeOf, absent, at, attributes, before, branch, end, for_loop, kind, present, statement_node}
use Rattle.wesl_text_tokens.specs.declared.symbol.Symbol.TheVariants as is
use Rattle.wesl_text_tokens.specs.Tokens.{Token, name, symbol}
use Rattle.wesl_text_form.specs.Slots.{behind_token}
use Rattle.wesl_text_form.specs.Spelling.{Forest as SpelledForest, Label, fits, is_simple, is_simple_at, label_at, stands_as}
use Rattle.wesl_text_form.specs.Productions.{Row, Sort, a_bare_statement, a_body, a_statement, an_expression, attrs, nothing, optional, own, row_of, says, sym as sign, unended}
use Rattle.wesl_text_reading.specs.FirstTokens.{begins_part}
use Rattle.wesl_text_reading.specs.Leaves.{Read, after, where_so}
use Rattle.wesl_text_reading.specs.Reading.{ForestReader, Reader as TreeReader, and_others, attributes_first, begins_child, label_first, node_of, read_node, read_part, read_row, without_end}

-- the parts of `for`, from the last to the first
abbrev pub for_end : Row
for_end = sign is.ParenRight (own a_body nothing)

abbrev pub for_update : Row
for_update = optional (unended a_statement nothing) for_end

abbrev pub for_condition : Row
for_condition = optional (own an_expression nothing) (sign is.Semicolon for_update)

abbrev pub for_start : Row
for_start = optional (unended a_statement nothing) (sign is.Semicolon for_condition)

abbrev pub for_row : Row
for_row = attrs (says (codes "for") (sign is.ParenLeft for_start))

-- ---- what is so of trees that are read

-- nothing is read, or trees that pass a test
abbrev so : (SpelledForest → Bool) → Read SpelledForest → Bool
so p None = true
so p (Some x) = p x.0

so-always : (p : SpelledForest → Bool) (r : Read SpelledForest) → ((f : SpelledForest) → p f ≡ true) → so p r ≡ true
so-always p None h = refl
so-always p (Some x) h = h x.0

so-others : (p : SpelledForest → Bool) (t : TreeOf Text) (r : Read SpelledForest) → so (λ f. p (before t f)) r ≡ true → so p (and_others t r) ≡ true
so-others p t None h = refl
so-others p t (Some x) h = h

so-after : {A : Type 0} (p : SpelledForest → Bool) (r : Read A) (k : A → List Token → Read SpelledForest) → ((x : A) (us : List Token) → so p (k x us) ≡ true) → so p (after r k) ≡ true
so-after p None k h = refl
so-after p (Some x) k h = h x.0 x.1

so-then : (p : SpelledForest → Bool) (o : Option (List Token)) (k : List Token → Read SpelledForest) → ((us : List Token) → so p (k us) ≡ true) → so p (option_and_then k o) ≡ true
so-then p None k h = refl
so-then p (Some us) k h = h us

-- ---- parts

-- nothing is read, or a simple statement
abbrev is_simple_in : Read (TreeOf Text) → Bool
is_simple_in None = true
is_simple_in (Some x) = is_simple (label_at 0 x.0.children)

module _ (child : Sort → TreeReader) where
  abbrev rows : Row → ForestReader
  rows = read_row child (read_part child)

  abbrev placed : TreeOf Text → List Token → Read (TreeOf Text)
  placed t us = Some (node_of (at statement_node 0 0) (before t end), us)

  test-by : (l : Label) (f : SpelledForest) (us : List Token) (b : Bool) → is_simple (Some l) ≡ true → is_simple_in (after (where_so b (node_of l f) us) placed) ≡ true
  test-by l f us true h = h
  test-by l f us false h = refl

  made-by : (l : Label) (r : Read SpelledForest) → is_simple (Some l) ≡ true → is_simple_in (after (after r (λ f us. where_so (fits l f && stands_as a_bare_statement l f) (node_of l f) us)) placed) ≡ true
  made-by l None h = refl
  made-by l (Some x) h = test-by l x.0 x.1 (fits l x.0 && stands_as a_bare_statement l x.0) h

  row-by : (l : Label) (ts : List Token) (o : Option Row) → is_simple (Some l) ≡ true
      → is_simple_in (after (option_and_then (λ row. after (read_row child (λ t us. None) (without_end child row) ts) (λ f us. where_so (fits l f && stands_as a_bare_statement l f) (node_of l f) us)) o) placed) ≡ true
  row-by l ts None h = refl
  row-by l ts (Some row) h = made-by l (read_row child (λ t us. None) (without_end child row) ts) h

  simple-by : (l : Label) (ts : List Token) (b : Bool) → is_simple (Some l) ≡ b
      → is_simple_in (if b then after (read_node child (λ row. read_row child (λ t us. None) (without_end child row)) a_bare_statement (Some l) ts) placed else None) ≡ true
  simple-by l ts true h = row-by l ts (row_of a_bare_statement l) h
  simple-by l ts false h = refl

  label-by : (ts : List Token) (o : Option Label)
      → is_simple_in (elim o as (λ _. Read (TreeOf Text)) [
        | None ↦ None
        | Some l ↦ if is_simple (Some l) then after (read_node child (λ row. read_row child (λ t us. None) (without_end child row)) a_bare_statement (Some l) ts) placed else None
      ]) ≡ true
  label-by ts None = refl
  label-by ts (Some l) = simple-by l ts (is_simple (Some l)) refl

  part-simple : (ts : List Token) → is_simple_in (read_part child a_statement ts) ≡ true
  part-simple ts = label-by ts (label_first child a_bare_statement ts)

  -- ---- the row

  so-same : (q : SpelledForest → Bool) (b : Bool) (r : Read SpelledForest) → b ≡ true → so q r ≡ true → so (λ f. b && q f) r ≡ true
  so-same q b r h p = ap (λ (c : Bool). so (λ f. c && q f) r) h ∙ p

  so-equal : (p q : SpelledForest → Bool) (r : Read SpelledForest) → ((f : SpelledForest) → p f ≡ q f) → so q r ≡ true → so p r ≡ true
  so-equal p q None same h = refl
  so-equal p q (Some x) same h = same x.0 ∙ h

  -- a part that need not stand, behind which trees pass another test
  module _ (p q : SpelledForest → Bool) (row : Row) (left_out : (g : SpelledForest) → p (before (branch absent []) g) ≡ q g) (behind : (us : List Token) → so q (rows row us) ≡ true) where
    left-out : (ts : List Token) → so p (and_others (branch absent []) (rows row ts)) ≡ true
    left-out ts = so-others p (branch absent []) (rows row ts) (so-equal (λ f. p (before (branch absent []) f)) q (rows row ts) left_out (behind ts))

    module _ (there : (t : TreeOf Text) (g : SpelledForest) → p (before (node_of (kind present) (before t end)) g) ≡ (is_simple (label_at 0 t.children) && q g)) where
      there-by : (r : Read (TreeOf Text)) → is_simple_in r ≡ true
          → so p (after (after r (λ t us. and_others t (let f : Read SpelledForest = Some (end, us) in f))) (λ f us. and_others (node_of (kind present) f) (rows row us))) ≡ true
      there-by None h = refl
      there-by (Some x) h =
          so-others p (node_of (kind present) (before x.0 end)) (rows row x.1)
          (so-equal (λ f. p (before (node_of (kind present) (before x.0 end)) f)) (λ f. is_simple (label_at 0 x.0.children) && q f) (rows row x.1) (there x.0)
          (so-same q (is_simple (label_at 0 x.0.children)) (rows row x.1) h (behind x.1)))

      may-by : (ts : List Token) (b : Bool)
          → so p (elim b as (λ _. Read SpelledForest) [
            | false ↦ and_others (branch absent []) (rows row ts)
            | true ↦ after (rows (unended a_statement nothing) ts) (λ f us. and_others (node_of (kind present) f) (rows row us))
          ]) ≡ true
      may-by ts false = left-out ts
      may-by ts true = there-by (read_part child a_statement ts) (part-simple ts)

      part-may : (ts : List Token) → so p (rows (optional (unended a_statement nothing) row) ts) ≡ true
      part-may ts = may-by ts (begins_part ts)

    -- the same of an expression
    module _ (there : (f g : SpelledForest) → p (before (node_of (kind present) f) g) ≡ q g) where
      expression-by : (ts : List Token) (b : Bool)
          → so p (elim b as (λ _. Read SpelledForest) [
            | false ↦ and_others (branch absent []) (rows row ts)
            | true ↦ after (rows (own an_expression nothing) ts) (λ f us. and_others (node_of (kind present) f) (rows row us))
          ]) ≡ true
      expression-by ts false = left-out ts
      expression-by ts true = so-after p (rows (own an_expression nothing) ts) (λ f us. and_others (node_of (kind present) f) (rows row us))
          (λ f us. so-others p (node_of (kind present) f) (rows row us) (so-equal (λ g. p (before (node_of (kind present) f) g)) q (rows row us) (there f) (behind us)))

      expression-may : (ts : List Token) → so p (rows (optional (own an_expression nothing) row) ts) ≡ true
      expression-may ts = expression-by ts (begins_child child an_expression ts)

  and-true : (b : Bool) → b ≡ (b && true)
  and-true true = refl
  and-true false = refl

  -- the tests of the trees behind each other
  abbrev first_simple : SpelledForest → Bool
  first_simple f = is_simple_at 0 f

  abbrev second_simple : SpelledForest → Bool
  second_simple f = is_simple_at 1 f

  abbrev both_simple : SpelledForest → Bool
  both_simple f = is_simple_at 0 f && is_simple_at 2 f

  update-so : (ts : List Token) → so first_simple (rows for_update ts) ≡ true
  update-so ts = part-may first_simple (λ f. true) for_end (λ g. refl) (λ us. so-always (λ f. true) (rows for_end us) (λ f. refl)) (λ t g. and-true (is_simple (label_at 0 t.children))) ts

  condition-so : (ts : List Token) → so second_simple (rows for_condition ts) ≡ true
  condition-so ts = expression-may second_simple first_simple (sign is.Semicolon for_update) (λ g. refl) (λ us. so-then first_simple (behind_token (symbol is.Semicolon) us) (rows for_update) update-so) (λ f g. refl) ts

  start-so : (ts : List Token) → so both_simple (rows for_start ts) ≡ true
  start-so ts = part-may both_simple second_simple (sign is.Semicolon for_condition) (λ g. refl) (λ us. so-then second_simple (behind_token (symbol is.Semicolon) us) (rows for_condition) condition-so) (λ t g. refl) ts

  abbrev worded : List Token → Read SpelledForest
  worded us = option_and_then (λ vs. option_and_then (rows for_start) (behind_token (symbol is.ParenLeft) vs)) (behind_token (name (codes "for")) us)

  worded-so : (us : List Token) → so both_simple (worded us) ≡ true
  worded-so us = so-then both_simple (behind_token (name (codes "for")) us) (λ vs. option_and_then (rows for_start) (behind_token (symbol is.ParenLeft) vs)) (λ vs. so-then both_simple (behind_token (symbol is.ParenLeft) vs) (rows for_start) start-so)

  for-so : (ts : List Token) → so (λ f. fits (kind for_loop) f) (rows for_row ts) ≡ true
  for-so ts = so-after (λ f. fits (kind for_loop) f) (attributes_first child ts) (λ f us. and_others (node_of (kind attributes) f) (worded us)) (λ f us. so-others (λ g. fits (kind for_loop) g) (node_of (kind attributes) f) (worded us) (worded-so us))

  fit-by : (r : Read SpelledForest) → so (λ f. fits (kind for_loop) f) r ≡ true → after r (λ f us. where_so (fits (kind for_loop) f && true) (node_of (kind for_loop) f) us) ≡ after r (λ f us. Some (node_of (kind for_loop) f, us))
  fit-by None h = refl
  fit-by (Some x) h = ap (λ (b : Bool). where_so (b && true) (node_of (kind for_loop) x.0) x.1) h

  pub for-read : (ts : List Token) → read_node child rows a_bare_statement (Some (kind for_loop)) ts ≡ after (rows for_row ts) (λ f us. Some (node_of (kind for_loop) f, us))
  for-read ts = fit-by (rows for_row ts) (for-so ts)
