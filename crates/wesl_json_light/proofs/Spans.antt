-- Spans that are written and read again.
use Rattle.std.proofs.Common.{◌≡◌, ◌⊎◌, ℕ, List, [], Bool, true, false, not, ◌&&◌, if◌then◌else◌, Option, Some, None, option_map, refl, ap, ◌∙◌, inl, inr}
use Rattle.std.specs.Prelude.{nat_le, ◌==◌}
use Rattle.std.specs.Option.{is_some}
use Rattle.std.proofs.lemmas.Bool.{and_parts, eqb-true}
use Rattle.serde_json.specs.Data.{Data, object, Members, put}
use Rattle.serde_json.specs.Find.{get_member}
use Rattle.serde_json.proofs.Views.{get_member-put}
use Rattle.wesl_tree_names.specs.Path.{Text}
use Rattle.wesl_tree_syntax.specs.Tree.{Kind, kind, at}
use Rattle.wesl_json_form.specs.Schema.{SpelledLabel, a_span, placed}
use Rattle.wesl_json_form.specs.Reading.{ordered, span_of, span_in, label_in, has_extra, extra_keys}
use Rattle.wesl_json_form.specs.Keys.{all_known}
use Rattle.wesl_json_form.specs.Writing.{span_value, is_nowhere, put_span, is_placed, unless_placed}
use Rattle.wesl_json_light.specs.Readable.{is_readable}
use Rattle.wesl_json_light.proofs.Guards.{guard}
use Rattle.wesl_json_light.proofs.Rows.{span_key, is_in}
use Rattle.wesl_json_light.proofs.Keys.{here, known_put}
use Rattle.wesl_json_light.proofs.Fitting.{label_shown}

nowhere_zeros : (s e : ℕ) → is_nowhere s e ≡ true → (s ≡ 0) × (e ≡ 0)
nowhere_zeros s e is = let h = and_parts (s == 0) (e == 0) is in (eqb-true s 0 h.0, eqb-true e 0 h.1)

-- a span is no place, or is written
nowhere_or_placed : (s e : ℕ) → ((s ≡ 0) × (e ≡ 0)) ⊎ (is_nowhere s e ≡ false)
nowhere_or_placed s e = at_test (is_nowhere s e) refl
  where
    at_test : (b : Bool) → is_nowhere s e ≡ b → ((s ≡ 0) × (e ≡ 0)) ⊎ (is_nowhere s e ≡ false)
    at_test true is = inl (nowhere_zeros s e is)
    at_test false is = inr is

abbrev place_label : Kind → ℕ → ℕ → SpelledLabel
place_label k s e = at k s e

abbrev from_member : Option Data → Option (ℕ × ℕ)
from_member o = elim o as (λ _. Option (ℕ × ℕ)) [ None ↦ Some (0, 0) | Some v ↦ span_of v ]

span_if : (b : Bool) (s e : ℕ) (ms : Members) → is_nowhere s e ≡ b → get_member span_key ms ≡ None → from_member (get_member span_key (if b then ms else put span_key (span_value s e) ms)) ≡ ordered s e
span_if true s e ms is none = let zeros = nowhere_zeros s e is in rw (none, zeros.0, zeros.1) refl
span_if false s e ms is none = rw (get_member-put span_key (span_value s e) ms) refl

-- the span that an object has is read, where the others have none
span_back : (spans : Bool) (k : Kind) (o : ℕ × ℕ) (M others : Members) → get_member span_key M ≡ get_member span_key (put_span spans (label_shown spans k o) others) → get_member span_key others ≡ None
    → span_in spans (object M) ≡ ordered (if spans then o.0 else 0) (if spans then o.1 else 0)
span_back false k o M others same none = refl
span_back true k o M others same none = ap from_member same ∙ span_if (is_nowhere o.0 o.1) o.0 o.1 others refl none

ordered_label : (k : Kind) (s e : ℕ) → option_map (λ q. place_label k q.0 q.1) (ordered s e) ≡ guard (is_some (ordered s e)) (place_label k s e)
ordered_label k s e = at_test (nat_le s e && nat_le e 4294967295)
  where
    pair_if : Bool → Option (ℕ × ℕ)
    pair_if b = if b then Some (s, e) else None

    at_test : (b : Bool) → option_map (λ q. place_label k q.0 q.1) (pair_if b) ≡ guard (is_some (pair_if b)) (place_label k s e)
    at_test true = refl
    at_test false = refl

pub placed_label_back : (spans : Bool) (k : Kind) (o : ℕ × ℕ) (M others : Members) → get_member span_key M ≡ get_member span_key (put_span spans (label_shown spans k o) others) → get_member span_key others ≡ None
    → label_in (placed spans k) (object M) ≡ guard (is_readable (kind k) (label_shown spans k o)) (label_shown spans k o)
placed_label_back spans k o M others same none =
    ap (λ x. option_map (λ q. place_label k q.0 q.1) x) (span_back spans k o M others same none) ∙ ordered_label k (if spans then o.0 else 0) (if spans then o.1 else 0)

has_span : (o : Option Data) → has_extra a_span o ≡ is_some (from_member o)
has_span None = refl
has_span (Some v) = refl

abbrev pub has_span_beside : Bool → Members → Bool
has_span_beside spans M = if spans then has_extra a_span (get_member span_key M) else true

pub span_beside : (spans : Bool) (k : Kind) (o : ℕ × ℕ) (M others : Members) → get_member span_key M ≡ get_member span_key (put_span spans (label_shown spans k o) others) → get_member span_key others ≡ None
    → has_span_beside spans M ≡ is_readable (kind k) (label_shown spans k o)
span_beside false k o M others same none = refl
span_beside true k o M others same none = has_span (get_member span_key M) ∙ ap (λ x. is_some x) (span_back true k o M others same none)

pub known_span : (ks : List Text) (spans : Bool) (k : Kind) (o : ℕ × ℕ) (ms : Members) → ((q : Text) → is_in q (extra_keys spans a_span) ≡ true → is_in q ks ≡ true) → all_known ks ms ≡ true → all_known ks (put_span spans (label_shown spans k o) ms) ≡ true
known_span ks false k o ms among known = known
known_span ks true k o ms among known = at_test (is_nowhere o.0 o.1)
  where
    at_test : (b : Bool) → all_known ks (if b then ms else put span_key (span_value o.0 o.1) ms) ≡ true
    at_test true = known
    at_test false = known_put ks span_key (span_value o.0 o.1) ms (among span_key (here span_key [])) known

-- ---- short forms, which show no span

pub nowhere_or_shown : (spans : Bool) (k : Kind) (place : ℕ × ℕ) → (label_shown spans k place ≡ place_label k 0 0) ⊎ (is_placed spans (label_shown spans k place) ≡ true)
nowhere_or_shown false k place = inl refl
nowhere_or_shown true k place = at_test (nowhere_or_placed place.0 place.1)
  where
    at_test : ((place.0 ≡ 0) × (place.1 ≡ 0)) ⊎ (is_nowhere place.0 place.1 ≡ false) → (place_label k place.0 place.1 ≡ place_label k 0 0) ⊎ (not (is_nowhere place.0 place.1) ≡ true)
    at_test (inl zeros) = inl (rw (zeros.0, zeros.1) refl)
    at_test (inr is) = inr (rw is refl)

pub unless_nowhere : (spans : Bool) (k : Kind) (d : Data) → unless_placed spans (place_label k 0 0) (Some d) ≡ Some d
unless_nowhere false k d = refl
unless_nowhere true k d = refl

-- no short form where a span is shown
pub long_where_placed : (spans : Bool) (l : SpelledLabel) (o : Option Data) → is_placed spans l ≡ true → unless_placed spans l o ≡ None
long_where_placed spans l None is = refl
long_where_placed spans l (Some d) is = rw is refl

pub shown_where_placed : (spans : Bool) (l : SpelledLabel) → is_placed spans l ≡ true → spans ≡ true
shown_where_placed true l is = refl
shown_where_placed false l is = is
