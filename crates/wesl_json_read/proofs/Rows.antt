-- What is read of an object, member by member.
use Rattle.std.proofs.Common.{◌≡◌, ◌&&◌, ℕ, ◌+◌, ◌≤◌, List, [], ◌∷◌, ◌++◌, Bool, true, false, if◌then◌else◌, codes, length, Option, Some, None, option_map, option_and_then, refl, sym, ap, ◌∙◌, subst, inl, inr, append_assoc, append-nil, length-append, arith}
use Rattle.std.specs.Option.{is_some}
use Rattle.serde_json.specs.Data.{Data, depth}
use Rattle.serde_json.specs.Find.{get}
use Rattle.wesl_tree_names.specs.Path.{Text, Path}
use Rattle.wesl_tree_syntax.specs.Tree.{Kind, Label, kind, at, ident, text, texts, truth, unary, binary, assignment, space, access, path, Tree, Forest, end, tree, before, leaf as leaf_tree, identifiers, label_below, forest_below, present}
use Rattle.wesl_tree_syntax.specs.Unit.{name_in}
use Rattle.wesl_tree_syntax.specs.Shown.{shown_label, shown_forest}
use Rattle.wesl_tree_syntax.specs.declared.expression.UnaryOperator.{UnaryOperator}
use Rattle.wesl_tree_syntax.specs.declared.expression.BinaryOperator.{BinaryOperator}
use Rattle.wesl_json_form.specs.Schema.{Spelled, SpelledForest, SpelledLabel, leaf_of, Form, Head, chosen, Row, nothing, marked, needs, may, many, given, inner, beside, Extra, a_span}
use Rattle.wesl_json_form.specs.Reading.{reading, children_in, extra_key, has_extra, label_in, span_in, span_of}
use Rattle.wesl_json_form.specs.Units.{NumberedFrom}
use Rattle.wesl_json_form.specs.Nodes.{whole_form}
use Rattle.wesl_json_read.specs.Numbers.{Begins, IsReadAs, AreReadAs, ReadsMember, ReadsOptional, ReadsList, ReadsRow}

-- ---- tables and numbers

pub Begins-then : (a b c : List Text) → Begins a b → Begins b c → Begins a c
Begins-then a b c (x, e) (y, h) = (x ++ y, h ∙ ap (λ r. r ++ y) e ∙ append_assoc a x y)

pub Begins-length : (a b : List Text) → Begins a b → length a ≤ length b
Begins-length a b (x, e) = let grown : length b ≡ length a + length x = ap length e ∙ length-append a x in omega arith

pub Begins-same : (a : List Text) → Begins a a
Begins-same a = ([], sym (append-nil a))

pub NumberedFrom-append : (n k m : ℕ) (is js : List ℕ) → NumberedFrom n is k → NumberedFrom k js m → NumberedFrom n (is ++ js) m
NumberedFrom-append n k m [] js h next = subst (λ x. NumberedFrom x js m) h next
NumberedFrom-append n k m (i ∷ is) js (inl h) next = inl (h.0, NumberedFrom-append n k m is js h.1 next)
NumberedFrom-append n k m (i ∷ is) js (inr h) next = inr (h.0, NumberedFrom-append (n + 1) k m is js h.1 next)

regroup : (is js : List ℕ) → is ++ js ≡ (is ++ []) ++ js
regroup is js = ap (λ r. r ++ js) (sym (append-nil is))

by_label : (l : Label) (c ts : Forest) → identifiers (tree l c ts) ≡ identifiers (tree l c end) ++ identifiers ts
by_label (kind k) c ts = regroup (identifiers c) (identifiers ts)
by_label (at k s e) c ts = regroup (identifiers c) (identifiers ts)
by_label (ident r i) c ts = refl
by_label (text s) c ts = regroup (identifiers c) (identifiers ts)
by_label (texts s) c ts = regroup (identifiers c) (identifiers ts)
by_label (truth b) c ts = regroup (identifiers c) (identifiers ts)
by_label (unary o) c ts = regroup (identifiers c) (identifiers ts)
by_label (binary o) c ts = regroup (identifiers c) (identifiers ts)
by_label (assignment o) c ts = regroup (identifiers c) (identifiers ts)
by_label (space s) c ts = regroup (identifiers c) (identifiers ts)
by_label (access a) c ts = regroup (identifiers c) (identifiers ts)
by_label (path p) c ts = regroup (identifiers c) (identifiers ts)

-- the identifiers of a tree before others
pub identifiers-before : (t : Tree) (ts : Forest) → identifiers (before t ts) ≡ identifiers (before t end) ++ identifiers ts
identifiers-before t ts = by_label t.label t.children ts

pub numbered-before : (n k m : ℕ) (t : Tree) (ts : Forest) → NumberedFrom n (identifiers (before t end)) k → NumberedFrom k (identifiers ts) m → NumberedFrom n (identifiers (before t ts)) m
numbered-before n k m t ts h next = subst (λ is. NumberedFrom n is m) (sym (identifiers-before t ts)) (NumberedFrom-append n k m _ (identifiers ts) h next)

-- a label that holds no identifier, and its spelling
pub record IsPlain (l : Label) (s : SpelledLabel) : Type 0 where
  pub spells : (names : List Text) → shown_label true (name_in names) l ≡ s
  pub below : (n : ℕ) → label_below n l ≡ true
  pub counts : (c ts : Forest) → identifiers (tree l c ts) ≡ identifiers c ++ identifiers ts

pub plain-kind : (k : Kind) → IsPlain (kind k) (kind k)
plain-kind k = record { spells = λ names. refl; below = λ n. refl; counts = λ c ts. refl }

pub plain-at : (k : Kind) (s e : ℕ) → IsPlain (at k s e) (at k s e)
plain-at k s e = record { spells = λ names. refl; below = λ n. refl; counts = λ c ts. refl }

pub plain-unary : (o : UnaryOperator) → IsPlain (unary o) (unary o)
plain-unary o = record { spells = λ names. refl; below = λ n. refl; counts = λ c ts. refl }

pub plain-binary : (o : BinaryOperator) → IsPlain (binary o) (binary o)
plain-binary o = record { spells = λ names. refl; below = λ n. refl; counts = λ c ts. refl }

pub plain-text : (x : Text) → IsPlain (text x) (text x)
plain-text x = record { spells = λ names. refl; below = λ n. refl; counts = λ c ts. refl }

pub plain-texts : (xs : List Text) → IsPlain (texts xs) (texts xs)
plain-texts xs = record { spells = λ names. refl; below = λ n. refl; counts = λ c ts. refl }

pub plain-truth : (b : Bool) → IsPlain (truth b) (truth b)
plain-truth b = record { spells = λ names. refl; below = λ n. refl; counts = λ c ts. refl }

pub plain-path : (p : Path) → IsPlain (path p) (path p)
plain-path p = record { spells = λ names. refl; below = λ n. refl; counts = λ c ts. refl }

-- ---- trees of children

-- a node over read children
pub over : (read : ℕ → Option SpelledForest) (outer : ℕ → Option Spelled) (least : ℕ) (l : Label) (s : SpelledLabel) (ts : Forest) (a b : List Text) → IsPlain l s → ((n : ℕ) (us : SpelledForest) → least ≤ n → read n ≡ Some us → outer n ≡ Some (record { label = s; children = us })) → AreReadAs read least ts a b → IsReadAs outer least (record { label = l; children = ts }) a b
over read outer least l s ts a b plain step h = record {
  spelled = λ n names low later. step n _ low (h.spelled n names low later) ∙ ap (λ x. Some (record { label = x; children = shown_forest true (name_in names) ts })) (sym (plain.spells names));
  numbered = subst (λ is. NumberedFrom (length a) is (length b)) (sym (plain.counts ts end ∙ append-nil (identifiers ts))) h.numbered;
  closed = λ n low. ap (λ x. (x && forest_below n ts) && true) (plain.below n) ∙ ap (λ x. (true && x) && true) (h.closed n low);
  begins = h.begins;
}

-- a tree, and the trees after it
pub and-then : (first : ℕ → Option Spelled) (rest all : ℕ → Option SpelledForest) (least : ℕ) (t : Tree) (ts : Forest) (a b c : List Text) → ((n : ℕ) (u : Spelled) (us : SpelledForest) → first n ≡ Some u → rest n ≡ Some us → all n ≡ Some (before u us)) → IsReadAs first least t a b → AreReadAs rest least ts b c → AreReadAs all least (before t ts) a c
and-then first rest all least t ts a b c step h k = record {
  spelled = λ n names low later. step n _ _ (h.spelled n names low (Begins-then b c names k.begins later)) (k.spelled n names low later);
  numbered = numbered-before _ _ _ t ts h.numbered k.numbered;
  closed = λ n low. ap (λ x. (label_below n t.label && forest_below n t.children) && x) (k.closed n low) ∙ h.closed n (let longer = Begins-length b c k.begins in omega arith);
  begins = Begins-then a b c h.begins k.begins;
}

pub none-read : (read : ℕ → Option SpelledForest) (least : ℕ) (a : List Text) → ((n : ℕ) → read n ≡ Some end) → AreReadAs read least end a a
none-read read least a is = record { spelled = λ n names low later. is n; numbered = refl; closed = λ n low. refl; begins = Begins-same a }

-- ---- spans

-- the object's span is in order, where spans are read
abbrev pub is_placed : Bool → Data → Bool
is_placed spans d = if spans then has_extra a_span (get (codes "span") d) else true

placed-case : (o : Option Data) (p : ℕ × ℕ) → (elim o as (λ _. Option (ℕ × ℕ)) [ None ↦ Some (0, 0) | Some v ↦ span_of v ]) ≡ Some p → has_extra a_span o ≡ true
placed-case None p h = refl
placed-case (Some v) p h = ap is_some h

span-there : (spans : Bool) (d : Data) (p : ℕ × ℕ) → span_in spans d ≡ Some p → is_placed spans d ≡ true
span-there false d p h = refl
span-there true d p h = placed-case (get (codes "span") d) p h

-- ---- rows

inner-step : (l : Option SpelledLabel) (s : SpelledLabel) (is rest : Option SpelledForest) (u : Spelled) (us : SpelledForest) → l ≡ Some s → option_map (λ vs. record { label = s; children = vs }) is ≡ Some u → rest ≡ Some us → option_and_then (λ x. option_and_then (λ vs. option_and_then (λ ts. Some (tree x vs ts)) rest) is) l ≡ Some (before u us)
inner-step l s None rest u us labelled one others = cc
inner-step l s (Some vs) rest u us labelled one others =
    let same : record { label = s; children = vs } ≡ u = cc in
    rw (labelled, others) (ap (λ x. Some (before x us)) same)

module _ (spans : Bool) (d : Data) where
  pub row-nothing : (a : List Text) → ReadsRow spans nothing d end a a
  row-nothing a = none-read _ (depth d) a (λ n. refl)

  pub row-needs : (k : Text) (f : Form) (row : Row) (t : Tree) (ts : Forest) (a b c : List Text) → ReadsMember spans k f d t a b → ReadsRow spans row d ts b c → ReadsRow spans (needs k f row) d (before t ts) a c
  row-needs k f row t ts a b c h rest = and-then _ _ _ (depth d) t ts a b c (λ n u us one others. rw (one, others)) h rest

  pub row-may : (k : Text) (f : Form) (row : Row) (t : Tree) (ts : Forest) (a b c : List Text) → ReadsOptional spans k f d t a b → ReadsRow spans row d ts b c → ReadsRow spans (may k f row) d (before t ts) a c
  row-may k f row t ts a b c h rest = and-then _ _ _ (depth d) t ts a b c (λ n u us one others. rw (one, others)) h rest

  pub row-many : (k : Text) (f : Form) (row : Row) (t : Tree) (ts : Forest) (a b c : List Text) → ReadsList spans k f d t a b → ReadsRow spans row d ts b c → ReadsRow spans (many k f row) d (before t ts) a c
  row-many k f row t ts a b c h rest = and-then _ _ _ (depth d) t ts a b c (λ n u us one others. rw (one, others)) h rest

  pub row-given : (l : Label) (s : SpelledLabel) (row : Row) (ts : Forest) (a b : List Text) → IsPlain l s → ReadsRow spans row d ts a b → ReadsRow spans (given s row) d (tree l end ts) a b
  row-given l s row ts a b plain rest =
      let this : IsReadAs (λ n. Some (leaf_of s)) (depth d) (leaf_tree l) a a = over (λ n. Some end) _ (depth d) l s end a a plain (λ n us low is. ap (λ x. Some (record { label = s; children = x })) (cc)) (none-read _ (depth d) a (λ n. refl)) in
      and-then (λ n. Some (leaf_of s)) _ _ (depth d) (leaf_tree l) ts a a b (λ n u us one others. let same : leaf_of s ≡ u = cc in rw others (ap (λ x. Some (before x us)) same)) this rest

  pub row-inner : (h : Head) (ins row : Row) (l : Label) (s : SpelledLabel) (is ts : Forest) (a b c : List Text) → IsPlain l s → label_in h d ≡ Some s → ReadsRow spans ins d is a b → ReadsRow spans row d ts b c → ReadsRow spans (inner h ins row) d (tree l is ts) a c
  row-inner h ins row l s is ts a b c plain labelled inside rest =
      let read = λ (n : ℕ). children_in (reading (whole_form spans) n) ins d in
      let outer = λ (n : ℕ). option_map (λ us. record { label = s; children = us }) (read n) in
      let this : IsReadAs outer (depth d) (record { label = l; children = is }) a b = over read outer (depth d) l s is a b plain (λ n us low e. ap (option_map (λ vs. record { label = s; children = vs })) e) inside in
      and-then outer _ _ (depth d) (record { label = l; children = is }) ts a b c (λ n u us one others. inner-step (label_in h d) s (read n) (children_in (reading (whole_form spans) n) row d) u us labelled one others) this rest

  pub row-marked : (k w : Text) (row : Row) (ts : Forest) (a b : List Text) → label_in (chosen k ((w, kind present) ∷ [])) d ≡ Some (kind present) → ReadsRow spans row d ts a b → ReadsRow spans (marked k w row) d ts a b
  row-marked k w row ts a b word h = record {
    spelled = λ n names low later. rw word (h.spelled n names low later);
    numbered = h.numbered;
    closed = h.closed;
    begins = h.begins;
  }

  -- what stands beside is there, where it must be
  pub row-beside : (x : Extra) (row : Row) (ts : Forest) (a b : List Text) → (if spans then has_extra x (get (extra_key x) d) else true) ≡ true → ReadsRow spans row d ts a b → ReadsRow spans (beside spans x row) d ts a b
  row-beside x row ts a b there h = record {
    spelled = λ n names low later. ap (λ c. if c then children_in (reading (whole_form spans) n) row d else None) there ∙ h.spelled n names low later;
    numbered = h.numbered;
    closed = h.closed;
    begins = h.begins;
  }

  pub row-placed : (p : ℕ × ℕ) (row : Row) (ts : Forest) (a b : List Text) → span_in spans d ≡ Some p → ReadsRow spans row d ts a b → ReadsRow spans (beside spans a_span row) d ts a b
  row-placed p row ts a b span h = row-beside a_span row ts a b (span-there spans d p span) h
