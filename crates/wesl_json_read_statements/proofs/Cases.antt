-- A value of `case` other than `default` is read as the expression in it.
use Rattle.std.proofs.Common.{◌≡◌, inl, inr, ℕ, suc, zero, List, [], ◌∷◌, Bool, true, false, if◌then◌else◌, Option, Some, None, option_map, option_and_then, codes, refl, sym, ap, ◌∙◌, subst, map}
use Rattle.std.specs.Option.{is_some}
use Rattle.std.specs.Str.{bytes_eq}
use Rattle.std.proofs.lemmas.Slice.Eq.{bytes_eq-Decides}
use Rattle.serde_json.specs.Data.{Data, Members}
use Rattle.serde_json.specs.Find.{get, as_object, as_str}
use Rattle.wesl_tree_names.specs.Path.{Text}
use Rattle.wesl_tree_syntax.specs.Tree.{kind, Tree, end, before, branch, default_case, expression_case}
use Rattle.wesl_json_form.specs.Schema.{Spelled, SpelledForest, look, node, an_expression, a_case, nothing, Node, within}
use Rattle.wesl_json_form.specs.Nodes.{NodeWords, a_default_case, nodes_of, short_expression, type_or_identifier_node, all_expression_words, whole_form}
use Rattle.wesl_json_form.specs.Reading.{reading, node_in}
use Rattle.wesl_json_form.specs.Keys.{has_only}
use Rattle.wesl_json_form.specs.Place.{Field, fields, find_field, fields_of, member_form, IsWrongNode, IsWrongValue, BreaksAt, IsBroken}
use Rattle.wesl_json_form.specs.Pointer.{Part, key, index}
use Rattle.wesl_json_read.specs.Faults.{IsAtRoot, Locates}
use Rattle.wesl_json_read.proofs.Places.{IfPlace-more, node-row, row-keys}
use Rattle.wesl_tree_names.specs.declared.errors.Error as error
use Rattle.wesl_json_read.specs.Forms.{HasWord}
use Rattle.wesl_json_read.specs.Numbers.{AreReadAs, Reads, ReadsForm}
use Rattle.wesl_json_read.proofs.Rows.{over, plain-kind, row-marked, row-nothing}
use Rattle.wesl_json_read.proofs.Wraps.{expression_node_in, node-wraps, same-fields, value-case, wrapped, wrong-node}
use Rattle.wesl_json_read.proofs.Members.{form-of-node, node-of-row, word-label}
use Rattle.wesl_json_read.proofs.Steps.{picked, word-object}
use Rattle.wesl_json_read_statements.specs.Forms.{has_default}
use Rattle.wesl_json_read.specs.Noted.{NotesForm, NotesKeys}
use Rattle.wesl_json_read.specs.declared.reader.Reader.{Reader}
use Rattle.wesl_json_read.proofs.Noting.{weaker}

abbrev case_words : Bool → NodeWords
case_words spans = (codes "default", a_default_case) ∷ map (λ p. (p.0, within expression_case p.1)) (all_expression_words spans)

-- ---- the node that is not `default`

if-map : (b : Bool) (f : Node → Node) (x : Node) (rest : Option Node) (mapped : Option Node) → mapped ≡ option_map f rest → (if b then Some (f x) else mapped) ≡ option_map f (if b then Some x else rest)
if-map true f x rest mapped h = refl
if-map false f x rest mapped h = h

look-map : (f : Node → Node) (words : NodeWords) (s : Text) → look (map (λ p. (p.0, f p.1)) words) s ≡ option_map f (look words s)
look-map f [] s = refl
look-map f (p ∷ ps) s = if-map (bytes_eq s p.0) f p.1 (look ps s) (look (map (λ q. (q.0, f q.1)) ps) s) (look-map f ps s)

module _ (spans : Bool) where
  case-of-text : (o : Option Text) → (elim o as (λ _. Bool) [ None ↦ false | Some s ↦ bytes_eq s (codes "default") ]) ≡ false → option_and_then (look (case_words spans)) o ≡ option_map (within expression_case) (option_and_then (look (all_expression_words spans)) o)
  case-of-text None h = refl
  case-of-text (Some s) h = rw h (look-map (within expression_case) (all_expression_words spans) s)

  case-of-member : (o : Option Data) → (elim (option_and_then as_str o) as (λ _. Bool) [ None ↦ false | Some s ↦ bytes_eq s (codes "default") ]) ≡ false → (elim o as (λ _. Option Node) [ None ↦ Some (within expression_case (type_or_identifier_node spans)) | Some w ↦ option_and_then (look (case_words spans)) (as_str w) ]) ≡ option_map (within expression_case) (elim o as (λ _. Option Node) [ None ↦ Some (type_or_identifier_node spans) | Some w ↦ option_and_then (look (all_expression_words spans)) (as_str w) ])
  case-of-member None h = refl
  case-of-member (Some w) h = case-of-text (as_str w) h

  case-node : (d : Data) → has_default d ≡ false → nodes_of spans a_case d ≡ option_map (within expression_case) (expression_node_in spans d)
  case-node d h = case-of-member (get (codes "k") d) h

module _ (spans : Bool) where
  case-read : (n : ℕ) (d : Data) (t : Spelled) → has_default d ≡ false → reading (whole_form spans) n (node an_expression) d ≡ Some t → reading (whole_form spans) n (node a_case) d ≡ Some (wrapped expression_case t)
  case-read zero d t other h = cc
  case-read (suc n) d t other h = ap (λ o. if is_some (as_object d) then option_and_then (node_in (reading (whole_form spans) n) d) o else option_map (λ u. wrapped expression_case u) (short_expression d)) (case-node spans d other) ∙ value-case expression_case spans (is_some (as_object d)) (reading (whole_form spans) n) d t h

  one-case : (n : ℕ) (d : Data) (o : Option Spelled) (us : SpelledForest) → has_default d ≡ false → reading (whole_form spans) n (node an_expression) d ≡ o → option_map (λ u. before u end) o ≡ Some us → reading (whole_form spans) n (node a_case) d ≡ Some (record { label = kind expression_case; children = us })
  one-case n d None us other is h = cc
  one-case n d (Some u) us other is h = let same : before u end ≡ us = cc in case-read n d u other is ∙ ap (λ cs. Some (record { label = kind expression_case; children = cs })) same

  one-step : (n : ℕ) (d : Data) (us : SpelledForest) → has_default d ≡ false → option_map (λ u. before u end) (reading (whole_form spans) n (node an_expression) d) ≡ Some us → reading (whole_form spans) n (node a_case) d ≡ Some (record { label = kind expression_case; children = us })
  one-step n d us other h = one-case n d (reading (whole_form spans) n (node an_expression) d) us other refl h

  case-form : (d : Data) (t : Tree) (a b : List Text) → has_default d ≡ false → ReadsForm spans (node an_expression) d t a b → ReadsForm spans (node a_case) d (branch expression_case (t ∷ [])) a b
  case-form d t a b other h =
      let one = λ (n : ℕ). option_map (λ u. before u end) (reading (whole_form spans) n (node an_expression) d) in
      let children : AreReadAs one _ (before t end) a b = record {
        spelled = λ n names low later. ap (option_map (λ u. before u end)) (h.spelled n names low later);
        numbered = h.numbered;
        closed = h.closed;
        begins = h.begins;
      } in
      over one (λ n. reading (whole_form spans) n (node a_case) d) _ (kind expression_case) (kind expression_case) (before t end) a b (plain-kind expression_case) (λ n us low is. one-step n d us other is) children

  -- ---- places

  wrong-value : (d : Data) (o : Option Members) → has_default d ≡ false → IsWrongValue (whole_form spans) an_expression d o → IsWrongValue (whole_form spans) a_case d o
  wrong-value d None other h = ap (option_map (λ u. wrapped expression_case u)) h
  wrong-value d (Some ms) other h = subst (λ o. IsWrongNode (whole_form spans) o d) (sym (case-node spans d other)) (wrong-node expression_case spans d (expression_node_in spans d) (node-wraps expression_case spans d) h)

  case-fields : (d : Data) → has_default d ≡ false → fields_of (whole_form spans) a_case d ≡ fields_of (whole_form spans) an_expression d
  case-fields d other = ap (λ o. elim o as (λ _. List Field) [ None ↦ [] | Some n ↦ fields n.row d ]) (case-node spans d other) ∙ same-fields expression_case d (expression_node_in spans d) (node-wraps expression_case spans d)

  case-breaks : (path : List Part) (d : Data) → has_default d ≡ false → BreaksAt (whole_form spans) path (Some (node an_expression)) d → BreaksAt (whole_form spans) path (Some (node a_case)) d
  case-breaks [] d other h = wrong-value d (as_object d) other h
  case-breaks (key k ∷ path) d other (e, found, inl h) =
      let same : member_form (whole_form spans) (node an_expression) k d ≡ member_form (whole_form spans) (node a_case) k d = ap (λ fs. option_map (λ x. x.form) (find_field k fs)) (sym (case-fields d other)) in
      (e, found, inl (subst (λ o. BreaksAt (whole_form spans) path o e) same h))
  case-breaks (key k ∷ path) d other (e, found, inr h) = (e, found, inr (h.0, (h.1.0, case-node spans d other ∙ ap (option_map (within expression_case)) h.1.1)))
  case-breaks (index i ∷ path) d other h = h

  case-place : (d : Data) (e : error.Error) → has_default d ≡ false → Locates spans (node an_expression) d e → Locates spans (node a_case) d e
  case-place d e other h = IfPlace-more (IsBroken (whole_form spans) (node an_expression) d) (IsBroken (whole_form spans) (node a_case) d) e (λ place w. (w.0, w.1, case-breaks w.0 d other w.2)) h

-- ---- `default`

default-case : (o : Option Text) → (elim o as (λ _. Bool) [ None ↦ false | Some s ↦ bytes_eq s (codes "default") ]) ≡ true → o ≡ Some (codes "default")
default-case None h = cc
default-case (Some s) h = ap Some ((bytes_eq-Decides s (codes "default")).0 h)

default-word : (d : Data) → has_default d ≡ true → HasWord (codes "default") d
default-word d h = default-case (option_and_then as_str (get (codes "k") d)) h

module _ (spans : Bool) where
  default-node : (d : Data) → HasWord (codes "default") d → nodes_of spans a_case d ≡ Some a_default_case
  default-node d word = picked (case_words spans) (Some (within expression_case (type_or_identifier_node spans))) d (codes "default") a_default_case word refl

module _ {spans : Bool} where
  default-reads : (d : Data) (a : List Text) → has_default d ≡ true → has_only (codes "k" ∷ []) d ≡ true → Reads spans (node a_case) d (branch default_case []) a a
  default-reads d a is known =
      let word = default-word d is in
      record { form = form-of-node spans a_case a_default_case d (branch default_case []) a a (word-object d (codes "default") word) (default-node spans d word) (node-of-row spans a_default_case d (kind default_case) (kind default_case) end a a (plain-kind default_case) refl known (row-marked spans d (codes "k") (codes "default") nothing end a a (word-label (codes "default") d word) (row-nothing spans d a))) }

module _ (spans : Bool) where
  default-keys : (d : Data) (e : error.Error) → has_default d ≡ true → has_only (codes "k" ∷ []) d ≡ false → IsAtRoot e → Locates spans (node a_case) d e
  default-keys d e is wrong at_root =
      let word = default-word d is in
      node-row spans a_case d a_default_case e (word-object d (codes "default") word) (default-node spans d word) (row-keys spans a_default_case.row d e wrong at_root)

-- ---- what is noted of them

pub default-noted : {d : Data} {s e : Reader} → has_default d ≡ true → NotesKeys false (codes "k" ∷ []) d s e → NotesForm (node a_case) d (branch default_case []) s e
default-noted {d} {s} {e} is keys =
    weaker {Q = λ spans. Reads spans (node a_case) d (branch default_case [])} (λ a b y. subst (λ z. Reads s.spans (node a_case) d (branch default_case []) a z) (sym y.0) (default-reads d a is y.1)) (λ x y. default-keys s.spans d x is y.1 y.0) keys

pub case-noted : {d : Data} {t : Tree} {s e : Reader} → has_default d ≡ false → NotesForm (node an_expression) d t s e → NotesForm (node a_case) d (branch expression_case (t ∷ [])) s e
case-noted {d} {t} {s} {e} other n =
    weaker {Q = λ spans. Reads spans (node a_case) d (branch expression_case (t ∷ []))} (λ a b h. record { form = case-form s.spans d t a b other h.form }) (λ x h. case-place s.spans d x other h) n
