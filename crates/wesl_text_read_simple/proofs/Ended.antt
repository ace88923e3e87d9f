-- A row that ends with `;`, read as what is before the `;` and the `;`.
use Rattle.std.proofs.Common.{◌≡◌, List, [], Bool, true, false, Option, Some, None, refl, sym as turned, ap, ◌∙◌, length}
use Rattle.std.specs.Option.{option_and_then}
use Rattle.wesl_tree_names.specs.Path.{Text}
use Rattle.wesl_tree_syntax.specs.Tree.{TreeOf, absent, before, branch, kind, leaf as tree_leaf, present}
use Rattle.wesl_text_tokens.specs.declared.symbol.Symbol.TheVariants as is
use Rattle.wesl_text_tokens.specs.Tokens.{Token, symbol}
use Rattle.wesl_text_form.specs.Slots.{behind_token}
use Rattle.wesl_text_form.specs.Productions.{Row, Sort, leaf, nothing, optional, own, run, sym, target}
use Rattle.wesl_text_form.specs.Spelling.{Forest}
use Rattle.wesl_text_reading.specs.Leaves.{Read, after, read_leaf, where_so}
use Rattle.wesl_text_reading.specs.Reading.{ForestReader, Reader as TreeReader, all_of, and_others, begins_child, begins_row, node_of, read_row, read_target, without_end}
use Rattle.wesl_text_reading.proofs.Filled.{no_true}
use Rattle.wesl_text_reading.proofs.Unended.{ends_with}

-- what is read, and `;` behind it
abbrev pub then_end : {A : Type 0} → A → List Token → Read A
then_end x us = option_and_then (λ vs. Some (x, vs)) (behind_token (symbol is.Semicolon) us)

ends_by : {A B : Type 0} (f : A → B) (x : A) (o : Option (List Token)) → after (let r : Read A = option_and_then (λ vs. Some (x, vs)) o in r) (λ y us. Some (f y, us)) ≡ option_and_then (λ vs. Some (f x, vs)) o
ends_by f x None = refl
ends_by f x (Some vs) = refl

-- a tree before what is read
others-ended : (t : TreeOf Text) (q : Read Forest) → and_others t (after q then_end) ≡ after (and_others t q) then_end
others-ended t None = refl
others-ended t (Some x) = ends_by (λ g. before t g) x.0 (behind_token (symbol is.Semicolon) x.1)

token-ended : (o : Option (List Token)) (p q : ForestReader) → ((us : List Token) → p us ≡ after (q us) then_end) → option_and_then p o ≡ after (option_and_then q o) then_end
token-ended None p q same = refl
token-ended (Some us) p q same = same us

part-ended : {A : Type 0} (r : Read A) (made : A → TreeOf Text) (p q : ForestReader) → ((us : List Token) → p us ≡ after (q us) then_end) → after r (λ x us. and_others (made x) (p us)) ≡ after (after r (λ x us. and_others (made x) (q us))) then_end
part-ended None made p q same = refl
part-ended (Some x) made p q same = ap (and_others (made x.0)) (same x.1) ∙ others-ended (made x.0) (q x.1)

module _ (child part : Sort → TreeReader) where
  may-ended : (b : Bool) (ins : List Token → Read Forest) (ts : List Token) (p q : ForestReader) → ((us : List Token) → p us ≡ after (q us) then_end)
      → elim b as (λ _. Read Forest) [ false ↦ and_others (branch absent []) (p ts) | true ↦ after (ins ts) (λ f us. and_others (node_of (kind present) f) (p us)) ]
      ≡ after (elim b as (λ _. Read Forest) [ false ↦ and_others (branch absent []) (q ts) | true ↦ after (ins ts) (λ f us. and_others (node_of (kind present) f) (q us)) ]) then_end
  may-ended false ins ts p q same = ap (and_others (branch absent [])) (same ts) ∙ others-ended (branch absent []) (q ts)
  may-ended true ins ts p q same = part-ended (ins ts) (node_of (kind present)) p q same

  pub row-ended : (row : Row) → ends_with row ≡ true → (ts : List Token) → read_row child part row ts ≡ after (read_row child part (without_end child row) ts) then_end
  row-ended (sym is.Semicolon nothing) h ts = refl
  row-ended (sym s nothing) h ts = absurd (no_true h)
  row-ended (sym s row) h ts = token-ended (behind_token (symbol s) ts) (read_row child part row) (read_row child part (without_end child row)) (λ us. row-ended row h us)
  row-ended (own s row) h ts = part-ended (child s ts) (λ t. t) (read_row child part row) (read_row child part (without_end child row)) (λ us. row-ended row h us)
  row-ended (leaf f row) h ts = part-ended (read_leaf f ts) (λ l. tree_leaf l) (read_row child part row) (read_row child part (without_end child row)) (λ us. row-ended row h us)
  row-ended (run k s row) h ts = part-ended (all_of (begins_child child s) (child s) (length ts) ts) (node_of (kind k)) (read_row child part row) (read_row child part (without_end child row)) (λ us. row-ended row h us)
  row-ended (optional ins row) h ts = may-ended (begins_row child ins ts) (read_row child part ins) ts (read_row child part row) (read_row child part (without_end child row)) (λ us. row-ended row h us)
  row-ended (target row) h ts = part-ended (read_target child ts) (λ t. t) (read_row child part row) (read_row child part (without_end child row)) (λ us. row-ended row h us)
  row-ended r h ts = absurd (no_true h)

-- a test of what is read, and then `;`
ended-by : (b : Bool) (f : Forest) (o : Option (List Token)) (test : Forest → Bool) (made : Forest → TreeOf Text) → test f ≡ b
    → after (let r : Read Forest = option_and_then (λ vs. Some (f, vs)) o in r) (λ g us. where_so (test g) (made g) us)
    ≡ elim b as (λ _. Read (TreeOf Text)) [ true ↦ option_and_then (λ vs. Some (made f, vs)) o | false ↦ None ]
ended-by true f None test made h = refl
ended-by false f None test made h = refl
ended-by true f (Some vs) test made h = ap (λ c. where_so c (made f) vs) h
ended-by false f (Some vs) test made h = ap (λ c. where_so c (made f) vs) h

test-by : (b : Bool) (f : Forest) (us : List Token) (test : Forest → Bool) (made : Forest → TreeOf Text) → test f ≡ b
    → after (let r : Read Forest = option_and_then (λ vs. Some (f, vs)) (behind_token (symbol is.Semicolon) us) in r) (λ g us. where_so (test g) (made g) us) ≡ after (where_so (test f) (made f) us) then_end
test-by true f us test made h = ended-by true f (behind_token (symbol is.Semicolon) us) test made h ∙ turned (ap (λ c. after (where_so c (made f) us) then_end) h)
test-by false f us test made h = ended-by false f (behind_token (symbol is.Semicolon) us) test made h ∙ turned (ap (λ c. after (where_so c (made f) us) then_end) h)

pub tested-ended : (r : Read Forest) (test : Forest → Bool) (made : Forest → TreeOf Text)
    → after (after r then_end) (λ f us. where_so (test f) (made f) us) ≡ after (after r (λ f us. where_so (test f) (made f) us)) then_end
tested-ended None test made = refl
tested-ended (Some x) test made = test-by (test x.0) x.0 x.1 test made refl
