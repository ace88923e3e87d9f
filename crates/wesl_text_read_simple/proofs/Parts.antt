-- Statements without `;`, read part by part.
use Rattle.std.proofs.Common.{◌≡◌, not, ℕ, List, [], ◌∷◌, Bool, true, false, Option, Some, None, codes, refl, sym as turned, ap, ◌∙◌, subst, true≢false}
use Rattle.std.specs.Option.{option_and_then, is_some}
use Rattle.wesl_tree_names.specs.Path.{Text}
use Rattle.wesl_tree_syntax.specs.declared.expression.Expression.{Expression}
use Rattle.wesl_tree_syntax.specs.declared.span.Spanned.{Spanned}
use Rattle.wesl_tree_syntax.specs.declared.statement.AssignmentOperator.{AssignmentOperator}
use Rattle.wesl_tree_syntax.specs.Tree.{Tree, TreeOf, assignment, attributes, branch, call_expression, forest_of, kind, respell}
use Rattle.wesl_tree_syntax.specs.Unit.{name_in}
use Rattle.wesl_tree_syntax.specs.View.{expression_tree, expression_view}
use Rattle.wesl_text_tokens.specs.declared.symbol.Symbol.{Symbol}
use Rattle.wesl_text_tokens.specs.Tokens.{Token, name, symbol}
use Rattle.wesl_text_form.specs.Operators.{assignment_symbol}
use Rattle.wesl_text_form.specs.Slots.{behind_token}
use Rattle.wesl_text_form.specs.Productions.{a_call, an_attribute, an_expression}
use Rattle.wesl_text_form.specs.Spelling.{Forest}
use Rattle.wesl_text_reading.specs.Leaves.{Read, after, where_so}
use Rattle.wesl_text_reading.specs.Reading.{attributes_first, behind_attributes, expression, node_of, wildcard}
use Rattle.wesl_text_read.specs.declared.reader.Reader.{Reader}
use Rattle.wesl_text_read.specs.Attributes.{run_at}
use Rattle.wesl_text_read.specs.Leads.{Begins, Leads, Numbers, Reads, Refuses, Skips, ahead, names_of}
use Rattle.wesl_text_read.specs.Levels.{inner}
use Rattle.wesl_text_read.proofs.Leading.{begins_itself, next, nothing_there, once_clear, seen, under}
use Rattle.wesl_text_read.proofs.Levels.{after-one}
use Rattle.wesl_text_read_ahead.proofs.Behind.{behind_them, in_fault, nothing-expressed}
use Rattle.wesl_text_read_ahead.proofs.Looking.{put_back}
use Rattle.wesl_text_read_simple.specs.declared.expressed.Change.{Change}
use Rattle.wesl_text_read_simple.specs.declared.expressed.Change.TheVariants as changes
use Rattle.wesl_text_read_simple.specs.declared.expressed.FirstPart.{FirstPart as HeldPart}
use Rattle.wesl_text_read_simple.specs.Simple.{FirstPart, a_call_alone, a_place, change_first, changed_at, may_change, part_at, part_view, read_wildcard, unended_at}
use Rattle.wesl_text_read_simple.specs.Starts.{StatementBegins}
use Rattle.wesl_text_read_simple.proofs.Views.{named_alone}
use Rattle.wesl_text_read_simple.proofs.Calls.{expressed-call}
use Rattle.wesl_text_read_simple.proofs.FirstParts.{expressed-read, of_part}

-- the same of what has been read, where no fault is noted, by the names of the table
pub once_known : {A : Type 0} {f g k : List Text → Option A} {s e : Reader} → (e.fault ≡ None → (ns : List Text) → Begins (names_of e) ns → g ns ≡ k ns) → Leads f g s e → Leads f k s e
once_known {A} {f} {g} {k} {s} {e} right p = record {
  read = λ clear ns b. p.read clear ns b ∙ right clear ns b;
  refused = p.refused;
  kept = p.kept;
  begins = p.begins;
  levels = p.levels;
  fewer = p.fewer;
}

-- nothing is noted where a test holds, and else there is nothing to be read
pub guarded : {A : Type 0} {f g : List Text → Option A} {s k e : Reader} (h : Reader → List Text → Option A) (b : Bool)
    → (not b ≡ true → Refuses s k) → (not b ≡ false → k ≡ s)
    → (b ≡ true → (ns : List Text) → f ns ≡ h s ns) → (b ≡ false → (ns : List Text) → f ns ≡ None)
    → Leads (h k) g k e → Leads f g s e
guarded {A} {f} {g} {s} {k} {e} h true refused same holds none p = seen (holds refl) (λ ns. refl) (subst (λ z. Leads (h z) g z e) (same refl) p)
guarded {A} {f} {g} {s} {k} {e} h false refused same holds none p = next (nothing_there (refused refl) (none refl)) p

-- ---- attributes

abbrev after_attributes : {A : Type 0} → (TreeOf Text → List Token → Read A) → ℕ → List Token → Read A
after_attributes g n ts = after (attributes_first (inner n) ts) (λ f us. g (node_of (kind attributes) f) us)

-- what is behind attributes is read with them
pub attributes_then : {A : Type 0} {h : List Text → Read A} {s m e : Reader} (g : TreeOf Text → List Token → Read A) (t : Tree) → Reads (run_at s.levels attributes an_attribute) t s m
    → Leads (λ ns. g (respell (name_in ns) t) (ahead m)) h m e → Leads (λ ns. after_attributes g s.levels (ahead s)) h s e
attributes_then {A} {h} {s} {m} {e} g t p q =
    next (seen (λ ns. after-one (attributes_first (inner s.levels) (ahead s)) (node_of (kind attributes)) g) (λ ns. refl) (under (λ ns (r : Read (TreeOf Text)). after r g) (λ ns. refl) p)) q

run-by : (r : Read Forest) (t : TreeOf Text) (us : List Token) → ◌≡◌ {A = Read (TreeOf Text)} (after r (λ f vs. Some (node_of (kind attributes) f, vs))) (Some (t, us)) → behind_them r ≡ us
run-by None t us h = cc
run-by (Some x) t us h = ap (λ (o : Read (TreeOf Text)). elim o as (λ _. List Token) [ None ↦ [] | Some y ↦ y.1 ]) h

-- the tokens behind them are those that are left
pub attributes_known : {s m : Reader} (t : Tree) → Reads (run_at s.levels attributes an_attribute) t s m → m.fault ≡ None → behind_attributes (inner s.levels) (ahead s) ≡ ahead m
attributes_known {s} {m} t p clear = run-by (attributes_first (inner s.levels) (ahead s)) (respell (name_in (names_of m)) t) (ahead m) (p.read clear (names_of m) (begins_itself (names_of m)))

-- ---- the first part of a statement

abbrev first_by : ℕ → List Token → TreeOf Text → List Token → Option Change → Read FirstPart
first_by n ts e us o = elim o as (λ _. Read FirstPart) [
  | None ↦ after (inner n a_call ts) (λ c vs. Some (a_call_alone c, vs))
  | Some c ↦ Some (a_place e c, us)
]

module _ {s m : Reader} (made : Spanned Expression) (read : Reads (inner s.levels an_expression) (expression_tree made) s m) where
  first_on : Leads (λ _. part_at s.levels (ahead s)) (λ ns. first_by s.levels (ahead s) (respell (name_in ns) (expression_tree made)) (ahead m) (change_first (ahead m))) s m
  first_on = under (λ ns (r : Read (TreeOf Text)). after r (λ e us. first_by s.levels (ahead s) e us (change_first us))) (λ ns. refl) read

  -- what is assigned to
  pub place_first : (c : Change) → change_first (ahead m) ≡ Some c → Leads (λ _. part_at s.levels (ahead s)) (λ ns. Some (a_place (respell (name_in ns) (expression_tree made)) c, ahead m)) s m
  place_first c h = seen (λ ns. refl) (λ ns. ap (first_by s.levels (ahead s) (respell (name_in ns) (expression_tree made)) (ahead m)) h) first_on

  module _ (none : change_first (ahead m) ≡ None) where
    call_on : Leads (λ _. part_at s.levels (ahead s)) (λ ns. after (inner s.levels a_call (ahead s)) (λ c vs. Some (a_call_alone c, vs))) s m
    call_on = seen (λ ns. refl) (λ ns. ap (first_by s.levels (ahead s) (respell (name_in ns) (expression_tree made)) (ahead m)) none) first_on

    -- a call that was read as an expression
    pub call_first : (c : Tree) → expression_view made.node ≡ branch call_expression (c ∷ []) → Leads (λ _. part_at s.levels (ahead s)) (λ ns. Some (a_call_alone (respell (name_in ns) c), ahead m)) s m
    call_first c h =
        once_known (λ clear ns b. ap (λ (r : Read (TreeOf Text)). after r (λ t vs. Some (a_call_alone t, vs)))
        (expressed-call s.levels (ahead s) (respell (name_in ns) c) (ahead m)
        (read.read clear ns b ∙ ap (λ z. let r : Read (TreeOf Text) = Some (expression (respell (name_in ns) z), ahead m) in r) h))) call_on

    -- another expression, which is read again as a call
    pub call_again : {k e : Reader} (c : Tree) → k.fault ≡ m.fault → k.names ≡ m.names → k.levels ≡ m.levels → ahead k ≡ ahead s → Reads (inner k.levels a_call) c k e
        → Leads (λ _. part_at s.levels (ahead s)) (λ ns. Some (a_call_alone (respell (name_in ns) c), ahead e)) s e
    call_again {k} {e} c fault names levels tokens again =
        let here : Reads (inner s.levels a_call) c k e = subst (λ (l : ℕ). Reads (inner l a_call) c k e) (levels ∙ read.levels) again in
        let F : List Text → Read (TreeOf Text) → Read FirstPart = λ ns r. after r (λ t vs. Some (a_call_alone t, vs)) in
        next (seen (λ ns. refl) (λ ns. ap (λ z. F ns (inner s.levels a_call z)) (turned tokens)) (put_back fault names levels tokens call_on))
        (under F (λ ns. refl) here)

    -- a fault is noted
    pub call_faulty : {e : Reader} (c : Tree) → is_some m.fault ≡ true → Reads (inner m.levels a_call) c m e
        → Leads (λ _. part_at s.levels (ahead s)) (λ ns. Some (a_call_alone (respell (name_in ns) c), ahead e)) s e
    call_faulty {e} c faulty again =
        let here : Reads (inner s.levels a_call) c m e = subst (λ (l : ℕ). Reads (inner l a_call) c m e) read.levels again in
        let F : List Text → Read (TreeOf Text) → Read FirstPart = λ ns r. after r (λ t vs. Some (a_call_alone t, vs)) in
        next (once_clear (λ clear ns. absurd (true≢false (turned faulty ∙ ap is_some clear))) call_on)
        (under F (λ ns. refl) here)

-- ---- what is behind a target

module _ {m k : Reader} (a e : Tree) (b : Bool) (may : (ns : List Text) → b ≡ may_change (respell (name_in ns) a) (respell (name_in ns) e)) (refused : not b ≡ true → Refuses m k) (same : not b ≡ false → k ≡ m) where
  none-counted : (c : Bool) (t : TreeOf Text) (o : Option (List Token)) → c ≡ false → option_and_then (λ us. where_so c t us) o ≡ None
  none-counted c t None h = refl
  none-counted c t (Some us) h = ap (λ d. where_so d t us) h

  all-counted : (c : Bool) (t : TreeOf Text) (o : Option (List Token)) → c ≡ true → option_and_then (λ us. where_so c t us) o ≡ option_and_then (λ us. Some (t, us)) o
  all-counted c t None h = refl
  all-counted c t (Some us) h = ap (λ d. where_so d t us) h

  -- `++` or `--`
  pub counted_read : {j : Reader} (t : Tree) (x : Symbol) → Skips (behind_token (symbol x)) k j
      → Leads (λ ns. option_and_then (λ us. where_so (may_change (respell (name_in ns) a) (respell (name_in ns) e)) (respell (name_in ns) t) us) (behind_token (symbol x) (ahead m))) (λ ns. Some (respell (name_in ns) t, ahead j)) m j
  counted_read {j} t x skip =
      guarded (λ z ns. option_and_then (λ us. let r : Read (TreeOf Text) = Some (respell (name_in ns) t, us) in r) (behind_token (symbol x) (ahead z))) b refused same
      (λ true_is ns. all-counted (may_change (respell (name_in ns) a) (respell (name_in ns) e)) (respell (name_in ns) t) (behind_token (symbol x) (ahead m)) (turned (may ns) ∙ true_is))
      (λ false_is ns. none-counted (may_change (respell (name_in ns) a) (respell (name_in ns) e)) (respell (name_in ns) t) (behind_token (symbol x) (ahead m)) (turned (may ns) ∙ false_is))
      (under (λ ns (o : Option (List Token)). option_and_then (λ us. let r : Read (TreeOf Text) = Some (respell (name_in ns) t, us) in r) o) (λ ns. refl) skip)

  abbrev assigned : AssignmentOperator → TreeOf Text → TreeOf Text → TreeOf Text → TreeOf Text
  assigned o l r x = record { label = assignment o; children = forest_of (l ∷ r ∷ x ∷ []) }

  none-value : (o : AssignmentOperator) (l r : TreeOf Text) (q : Read (TreeOf Text)) → after q (λ x vs. where_so false (assigned o l r x) vs) ≡ None
  none-value o l r None = refl
  none-value o l r (Some x) = refl

  value-of : (c d : Bool) (o : AssignmentOperator) (n : ℕ) (l r : TreeOf Text) (q : Option (List Token)) → c ≡ d
      → option_and_then (λ us. after (inner n an_expression us) (λ x vs. where_so c (assigned o l r x) vs)) q ≡ option_and_then (λ us. after (inner n an_expression us) (λ x vs. where_so d (assigned o l r x) vs)) q
  value-of c d o n l r q h = ap (λ z. option_and_then (λ us. after (inner n an_expression us) (λ x vs. where_so z (assigned o l r x) vs)) q) h

  none-of : (o : AssignmentOperator) (n : ℕ) (l r : TreeOf Text) (q : Option (List Token)) → option_and_then (λ us. after (inner n an_expression us) (λ x vs. where_so false (assigned o l r x) vs)) q ≡ None
  none-of o n l r None = refl
  none-of o n l r (Some us) = none-value o l r (inner n an_expression us)

  -- an operator and a value
  pub assigned_read : {j i : Reader} (o : AssignmentOperator) (v : Tree) → Skips (behind_token (symbol (assignment_symbol o))) k j → Reads (inner j.levels an_expression) v j i
      → Leads (λ ns. changed_at m.levels (changes.Assignment o) (respell (name_in ns) a) (respell (name_in ns) e) (ahead m))
      (λ ns. Some (respell (name_in ns) (record { label = assignment o; children = forest_of (a ∷ e ∷ v ∷ []) }), ahead i)) m i
  assigned_read {j} {i} o v skip read =
      let n : ℕ = k.levels in
      let here : Reads (inner n an_expression) v j i = subst (λ (l : ℕ). Reads (inner l an_expression) v j i) skip.levels read in
      let F : List Text → Read (TreeOf Text) → Read (TreeOf Text) = λ ns r. after r (λ x vs. Some (assigned o (respell (name_in ns) a) (respell (name_in ns) e) x, vs)) in
      let H : Reader → List Text → Read (TreeOf Text) = λ z ns. option_and_then (λ us. F ns (inner z.levels an_expression us)) (behind_token (symbol (assignment_symbol o)) (ahead z)) in
      guarded H b refused same
      (λ true_is ns. value-of (may_change (respell (name_in ns) a) (respell (name_in ns) e)) true o m.levels (respell (name_in ns) a) (respell (name_in ns) e) (behind_token (symbol (assignment_symbol o)) (ahead m)) (turned (may ns) ∙ true_is))
      (λ false_is ns. value-of (may_change (respell (name_in ns) a) (respell (name_in ns) e)) false o m.levels (respell (name_in ns) a) (respell (name_in ns) e) (behind_token (symbol (assignment_symbol o)) (ahead m)) (turned (may ns) ∙ false_is)
      ∙ none-of o m.levels (respell (name_in ns) a) (respell (name_in ns) e) (behind_token (symbol (assignment_symbol o)) (ahead m)))
      (next (under (λ ns (q : Option (List Token)). option_and_then (λ us. F ns (inner n an_expression us)) q) (λ ns. refl) skip) (under F (λ ns. refl) here))

-- ---- statements that begin with an expression

-- what is behind the attributes and the target of a statement is read, with them
abbrev pub Changes : Change → Tree → Tree → Tree → Reader → Reader → Type 0
Changes c a e t old new =
    Leads (λ ns. changed_at old.levels c (respell (name_in ns) a) (respell (name_in ns) e) (ahead old)) (λ ns. Some (respell (name_in ns) t, ahead new)) old new

pub expressed_read : {s m k e : Reader} (a t : Tree) (x : HeldPart) → StatementBegins None s
    → Reads (run_at s.levels attributes an_attribute) a s m
    → Leads (λ _. part_at m.levels (ahead m)) (λ ns. Some (part_view ns x, ahead k)) m k
    → Leads (λ ns. of_part (inner k.levels) (respell (name_in ns) a) (part_view ns x) (ahead k)) (λ ns. Some (respell (name_in ns) t, ahead e)) k e
    → Reads (unended_at s.levels) t s e
expressed_read {s} {m} {k} {e} a t x begins read first behind =
    let n : ℕ = s.levels in
    let here : Leads (λ _. part_at n (ahead m)) (λ ns. Some (part_view ns x, ahead k)) m k = subst (λ (l : ℕ). Leads (λ _. part_at l (ahead m)) (λ ns. Some (part_view ns x, ahead k)) m k) read.levels first in
    let last : Leads (λ ns. of_part (inner n) (respell (name_in ns) a) (part_view ns x) (ahead k)) (λ ns. Some (respell (name_in ns) t, ahead e)) k e
    = subst (λ (l : ℕ). Leads (λ ns. of_part (inner l) (respell (name_in ns) a) (part_view ns x) (ahead k)) (λ ns. Some (respell (name_in ns) t, ahead e)) k e) (first.levels ∙ read.levels) behind in
    let whole : Leads (λ ns. after (attributes_first (inner n) (ahead s)) (λ f us. after (part_at n us) (of_part (inner n) (node_of (kind attributes) f)))) (λ ns. Some (respell (name_in ns) t, ahead e)) s e
    = attributes_then (λ u us. after (part_at n us) (of_part (inner n) u)) a read (next (under (λ ns (r : Read FirstPart). after r (of_part (inner n) (respell (name_in ns) a))) (λ ns. refl) here) last) in
    in_fault whole (λ clear. seen (λ ns. expressed-read (inner n) (ahead s) (nothing-expressed n) (begins clear)) (λ ns. refl) whole)

-- ---- `_`

pub wildcard_read : {s m e : Reader} (t : Tree) (i : ℕ) → ((f : ℕ → Text) → respell f t ≡ named_alone (f i)) → Skips (behind_token (name (codes "_"))) s m → Numbers (codes "_") i m e → Reads read_wildcard t s e
wildcard_read {s} {m} {e} t i is skip number =
    let F : List Text → Read Text → Read (TreeOf Text) = λ ns r. after r (λ x us. Some (named_alone x, us)) in
    next (under (λ ns (o : Option (List Token)). option_and_then (λ us. let r : Read (TreeOf Text) = Some (wildcard (λ s vs. None), us) in r) o) (λ ns. refl) skip)
    (seen (λ ns. refl) (λ ns. ap (λ z. let r : Read (TreeOf Text) = Some (z, ahead e) in r) (turned (is (name_in ns)))) (under F (λ ns. refl) number))
