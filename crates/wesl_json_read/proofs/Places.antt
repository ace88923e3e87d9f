-- Where the fault of a member is one of the object.
use Rattle.std.proofs.Common.{◌≡◌, ◌⊎◌, ℕ, List, [], ◌∷◌, ◌++◌, Bool, true, false, Option, Some, None, if◌then◌else◌, option_map, codes, string_bytes, refl, sym, ap, ◌∙◌, subst, inl, inr}
use Rattle.std.specs.Option.{is_some}
use Rattle.std.specs.Str.{bytes_eq}
use Rattle.serde_json.specs.Data.{Data, Members, null, boolean, number, string, array, object}
use Rattle.serde_json.specs.Find.{get, at, as_object}
use Rattle.wesl_tree_names.specs.Path.{Text}
use Rattle.wesl_tree_names.specs.declared.errors.Error as error
use Rattle.wesl_json_form.specs.Schema.{Form, node, leaf, list_of, Leaf, Name, Row, nothing, marked, needs, may, many, given, inner, inner_where, beside, Extra, a_span, extra, Node}
use Rattle.wesl_json_form.specs.Nodes.{shorts_of}
use Rattle.wesl_json_form.specs.Reading.{any_leaf, extra_key, known_keys, span_in, span_of}
use Rattle.wesl_json_form.specs.Keys.{has_only}
use Rattle.wesl_json_form.specs.Place.{Field, field, fields, extra_fields, find_field, fields_of, member_form, IsWrongLeaf, IsWrongNode, IsWrongValue, IsWrongObject, BreaksAt, IsBroken}
use Rattle.wesl_json_form.specs.Pointer.{Part, key, index, part_text, pointer_text}
use Rattle.wesl_json_form.specs.Nodes.{whole_form, nodes_of}
use Rattle.wesl_json_read.specs.Faults.{place_of, IfPlace, IsAtRoot, IsUnder, IsUnderPart, LocatesHere, LocatesSpan, IsTextBroken, LocatesText, IsInside, LocatesInside, IsMemberBroken, LocatesMember, IsRowBroken, LocatesRow, Locates}

-- an error that tells this place
told : (P : Text → Type 0) (place : Text) (e : error.Error) → place_of e ≡ Some place → P place → IfPlace e P
told P place (error.BadTree s) is holds = let same : place ≡ string_bytes s = cc in subst P same holds
told P place _ is holds = cc

pub IfPlace-more : (P Q : Text → Type 0) (e : error.Error) → ((place : Text) → P place → Q place) → IfPlace e P → IfPlace e Q
IfPlace-more P Q error.Memory more h = tt
IfPlace-more P Q (error.BadTree s) more h = more (string_bytes s) h
IfPlace-more P Q _ more h = absurd h

pub memory : (P : Text → Type 0) (e : error.Error) → e ≡ error.Memory → IfPlace e P
memory P e is = subst (λ x. IfPlace x P) (sym is) tt

-- the same fault, one part further out
pub further : (part : Part) (P Q : Text → Type 0) (inside outside : error.Error) → ((place : Text) → P place → Q ((47 ∷ part_text part) ++ place)) → IfPlace inside P → (outside ≡ error.Memory) ⊎ (outside ≡ inside) × (place_of inside ≡ None) ⊎ (p : Text) × (place_of inside ≡ Some p) × (place_of outside ≡ Some ((47 ∷ part_text part) ++ p)) → IfPlace outside Q
further part P Q error.Memory outside more h (inl m) = memory Q outside m
further part P Q error.Memory outside more h (inr (inl s)) = memory Q outside s.0
further part P Q error.Memory outside more h (inr (inr s)) = cc (s.1)
further part P Q (error.BadTree t) outside more h (inl m) = memory Q outside m
further part P Q (error.BadTree t) outside more h (inr (inl s)) = cc (s.1)
further part P Q (error.BadTree t) outside more h (inr (inr s)) =
    let same : string_bytes t ≡ s.0 = cc (s.1) in
    told Q ((47 ∷ part_text part) ++ s.0) outside s.2 (subst (λ p. Q ((47 ∷ part_text part) ++ p)) same (more (string_bytes t) h))
further part P Q _ outside more h u = absurd h

-- ---- members

pub root : (P : Text → Type 0) (e : error.Error) → IsAtRoot e → P [] → IfPlace e P
root P e is h = told P [] e is h

pub text-lacks : {A : Type 0} (read : Data → Option A) (k : Text) (d : Data) (e : error.Error) → get k d ≡ None → IsAtRoot e → LocatesText read k d e
text-lacks read k d e lacks is = told (IsTextBroken read k d) [] e is (inl (lacks, refl))

pub text-under : {A : Type 0} (read : Data → Option A) (k : Text) (d v : Data) (inside outside : error.Error) → get k d ≡ Some v → LocatesHere (read v) inside → IsUnder k inside outside → LocatesText read k d outside
text-under read k d v inside outside found h u =
    further (key k) (λ place. (place ≡ []) × (read v ≡ None)) (IsTextBroken read k d) inside outside (λ place w. inr (v, found, w.1, ap (λ p. (47 ∷ part_text (key k)) ++ p) w.0)) h u

module _ (spans : Bool) where
  pub inside-under : (k : Text) (f : Form) (d v : Data) (inside outside : error.Error) → get k d ≡ Some v → Locates spans f v inside → IsUnder k inside outside → LocatesInside spans k f d outside
  inside-under k f d v inside outside found h u =
      further (key k) (IsBroken (whole_form spans) f v) (IsInside spans k f d) inside outside (λ place w. (v, w.0, found, ap (λ p. (47 ∷ part_text (key k)) ++ p) w.1, w.2)) h u

  pub member-lacks : (k : Text) (f : Form) (d : Data) (e : error.Error) → get k d ≡ None → IsAtRoot e → LocatesMember spans k f d e
  member-lacks k f d e lacks is = told (IsMemberBroken spans k f d) [] e is (inl (lacks, refl))

  pub member-inside : (k : Text) (f : Form) (d : Data) (e : error.Error) → LocatesInside spans k f d e → LocatesMember spans k f d e
  member-inside k f d e h = IfPlace-more (IsInside spans k f d) (IsMemberBroken spans k f d) e (λ place w. inr w) h

  -- an item of a list
  pub item-under : (kd : _) (m : Name) (i : ℕ) (d v : Data) (inside outside : error.Error) → at i d ≡ Some v → Locates spans (node m) v inside → IsUnderPart (index i) inside outside → Locates spans (list_of kd m) d outside
  item-under kd m i d v inside outside found h u =
      further (index i) (IsBroken (whole_form spans) (node m) v) (IsBroken (whole_form spans) (list_of kd m) d) inside outside (λ place w. (index i ∷ w.0, ap (λ p. (47 ∷ part_text (index i)) ++ p) w.1, (v, found, w.2))) h u

-- ---- rows

-- the field of a member that is not the one beside
abbrev pub look_field : Text → Row → Data → Option Field
look_field k (beside b x row) d = if bytes_eq k (extra_key x) then None else find_field k (fields row d)
look_field k row d = find_field k (fields row d)

other-field : (b c : Bool) (x : Extra) (k : Text) (fs : List Field) (f : Field) → bytes_eq k (extra_key x) ≡ c → (if c then None else find_field k fs) ≡ Some f → find_field k (extra_fields b x ++ fs) ≡ Some f
other-field false true x k fs f same h = cc
other-field false false x k fs f same h = h
other-field true true x k fs f same h = cc
other-field true false x k fs f same h = rw same h

field-of : (k : Text) (row : Row) (d : Data) (f : Field) → look_field k row d ≡ Some f → find_field k (fields row d) ≡ Some f
field-of k nothing d f h = h
field-of k (marked l w row) d f h = h
field-of k (needs l g row) d f h = h
field-of k (may l g row) d f h = h
field-of k (many l g row) d f h = h
field-of k (given l row) d f h = h
field-of k (inner hd ins row) d f h = h
field-of k (inner_where l hd ins row) d f h = h
field-of k (beside b x row) d f h = other-field b (bytes_eq k (extra_key x)) x k (fields row d) f refl h

module _ (spans : Bool) where
  pub row-keys : (row : Row) (d : Data) (e : error.Error) → has_only (known_keys row d) d ≡ false → IsAtRoot e → LocatesRow spans row d e
  row-keys row d e wrong is = told (IsRowBroken spans row d) [] e is (inl (refl, inl wrong))

lacking_field : (row : Row) (k : Text) (d : Data) (f : Form) → look_field k row d ≡ Some (field k true f) → get k d ≡ None → IsWrongObject row d
lacking_field row k d f there lacks = inr (k, ap (option_map (λ x. x.is_required)) (field-of k row d (field k true f) there), lacks)

module _ (spans : Bool) where
  text-case : {A : Type 0} (row : Row) (read : Data → Option A) (k : Text) (l : Leaf) (d : Data) (place : Text) → look_field k row d ≡ Some (field k true (leaf l)) → ((v : Data) → read v ≡ None → IsWrongLeaf (whole_form spans) l v) → IsTextBroken read k d place → IsRowBroken spans row d place
  text-case row read k l d place there wrong (inl w) = inl (w.1, lacking_field row k d (leaf l) there w.0)
  text-case row read k l d place there wrong (inr w) = inr (k, field k true (leaf l), field-of k row d (field k true (leaf l)) there, (w.0, [], w.1, w.3, wrong w.0 w.2))

  pub row-text : {A : Type 0} (row : Row) (read : Data → Option A) (k : Text) (l : Leaf) (d : Data) (e : error.Error) → look_field k row d ≡ Some (field k true (leaf l)) → ((v : Data) → read v ≡ None → IsWrongLeaf (whole_form spans) l v) → LocatesText read k d e → LocatesRow spans row d e
  row-text row read k l d e there wrong h = IfPlace-more (IsTextBroken read k d) (IsRowBroken spans row d) e (λ place w. text-case row read k l d place there wrong w) h

  pub row-inside : (row : Row) (k : Text) (must : Bool) (f : Form) (d : Data) (e : error.Error) → look_field k row d ≡ Some (field k must f) → LocatesInside spans k f d e → LocatesRow spans row d e
  row-inside row k must f d e there h = IfPlace-more (IsInside spans k f d) (IsRowBroken spans row d) e (λ place w. inr (k, field k must f, field-of k row d (field k must f) there, w)) h

  member-case : (row : Row) (k : Text) (f : Form) (d : Data) (place : Text) → look_field k row d ≡ Some (field k true f) → IsMemberBroken spans k f d place → IsRowBroken spans row d place
  member-case row k f d place there (inl w) = inl (w.1, lacking_field row k d f there w.0)
  member-case row k f d place there (inr w) = inr (k, field k true f, field-of k row d (field k true f) there, w)

  pub row-member : (row : Row) (k : Text) (f : Form) (d : Data) (e : error.Error) → look_field k row d ≡ Some (field k true f) → LocatesMember spans k f d e → LocatesRow spans row d e
  row-member row k f d e there h = IfPlace-more (IsMemberBroken spans k f d) (IsRowBroken spans row d) e (λ place w. member-case row k f d place there w) h

  -- ---- nodes

  wrong_node : (m : Name) (d : Data) (nd : Node) (o : Option Members) → is_some o ≡ true → nodes_of spans m d ≡ Some nd → IsWrongObject nd.row d → IsWrongValue (whole_form spans) m d o
  wrong_node m d nd None object_like is wrong = cc
  wrong_node m d nd (Some ms) object_like is wrong = subst (λ n. IsWrongNode (whole_form spans) n d) (sym is) wrong

  fields-of-node : (m : Name) (d : Data) (nd : Node) → nodes_of spans m d ≡ Some nd → fields_of (whole_form spans) m d ≡ fields nd.row d
  fields-of-node m d nd is = ap (λ o. elim o as (λ _. List Field) [ None ↦ [] | Some n ↦ fields n.row d ]) is

  pub node-case : (m : Name) (d : Data) (nd : Node) (place : Text) → is_some (as_object d) ≡ true → nodes_of spans m d ≡ Some nd → IsRowBroken spans nd.row d place → IsBroken (whole_form spans) (node m) d place
  node-case m d nd place object_like is (inl w) = ([], w.0, wrong_node m d nd (as_object d) object_like is w.1)
  node-case m d nd place object_like is (inr (k, f, there, w)) =
      let form : member_form (whole_form spans) (node m) k d ≡ Some f.form = ap (λ fs. option_map (λ x. x.form) (find_field k fs)) (fields-of-node m d nd is) ∙ ap (option_map (λ x. x.form)) there in
      (key k ∷ w.1, w.3, (w.0, w.2, inl (subst (λ o. BreaksAt (whole_form spans) w.1 o w.0) (sym form) w.4)))

  pub node-row : (m : Name) (d : Data) (nd : Node) (e : error.Error) → is_some (as_object d) ≡ true → nodes_of spans m d ≡ Some nd → LocatesRow spans nd.row d e → Locates spans (node m) d e
  node-row m d nd e object_like is h = IfPlace-more (IsRowBroken spans nd.row d) (IsBroken (whole_form spans) (node m) d) e (λ place w. node-case m d nd place object_like is w) h

  -- an unknown word
  pub unknown-word : (m : Name) (d v : Data) (inside outside : error.Error) → get (codes "k") d ≡ Some v → nodes_of spans m d ≡ None → IsAtRoot inside → IsUnder (codes "k") inside outside → Locates spans (node m) d outside
  unknown-word m d v inside outside found none is u =
      let P : Text → Type 0 = λ place. place ≡ [] in
      further (key (codes "k")) P (IsBroken (whole_form spans) (node m) d) inside outside
      (λ place w. (key (codes "k") ∷ [], ap (λ p. (47 ∷ part_text (key (codes "k"))) ++ p) w, (v, found, inr (refl, (refl, none)))))
      (told P [] inside is refl) u

  -- a value that is no object
  pub no-object : (m : Name) (d : Data) (e : error.Error) → as_object d ≡ None → shorts_of m d ≡ None → IsAtRoot e → Locates spans (node m) d e
  no-object m d e is short at_root =
      let wrong : IsWrongValue (whole_form spans) m d (as_object d) = rw is short in
      told (IsBroken (whole_form spans) (node m) d) [] e at_root ([], refl, wrong)

no_object_case : (o : Option Members) → is_some o ≡ false → o ≡ None
no_object_case None h = refl
no_object_case (Some ms) h = cc

pub is-no-object : (d : Data) → is_some (as_object d) ≡ false → as_object d ≡ None
is-no-object d h = no_object_case (as_object d) h

module _ (spans : Bool) where
  pub root-value : (m : Name) (d : Data) (e : error.Error) → IsWrongValue (whole_form spans) m d (as_object d) → IsAtRoot e → Locates spans (node m) d e
  root-value m d e wrong is = told (IsBroken (whole_form spans) (node m) d) [] e is ([], refl, wrong)

  pub leaf-under : {A : Type 0} (read : Data → Option A) (k : Text) (l : Leaf) (d v : Data) (inside outside : error.Error) → get k d ≡ Some v → ((x : Data) → read x ≡ None → IsWrongLeaf (whole_form spans) l x) → LocatesHere (read v) inside → IsUnder k inside outside → LocatesInside spans k (leaf l) d outside
  leaf-under read k l d v inside outside found wrong h u =
      further (key k) (λ place. (place ≡ []) × (read v ≡ None)) (IsInside spans k (leaf l) d) inside outside (λ place w. (v, [], found, ap (λ p. (47 ∷ part_text (key k)) ++ p) w.0, wrong v w.1)) h u

  keys-case : (m : Name) (nd : Node) (d : Data) (e : error.Error) (b : Bool) → is_some (as_object d) ≡ b → nodes_of spans m d ≡ Some nd → shorts_of m d ≡ None → has_only (known_keys nd.row d) d ≡ false → IsAtRoot e → Locates spans (node m) d e
  keys-case m nd d e true object_like is short wrong at_root = node-row spans m d nd e object_like is (row-keys spans nd.row d e wrong at_root)
  keys-case m nd d e false object_like is short wrong at_root = no-object spans m d e (is-no-object d object_like) short at_root

  -- a key too many, or no object
  pub keys-place : (m : Name) (nd : Node) (d : Data) (e : error.Error) → nodes_of spans m d ≡ Some nd → shorts_of m d ≡ None → has_only (known_keys nd.row d) d ≡ false → IsAtRoot e → Locates spans (node m) d e
  keys-place m nd d e is short wrong at_root = keys-case m nd d e (is_some (as_object d)) refl is short wrong at_root

-- ---- spans

pub get-object : (k : Text) (d e : Data) → get k d ≡ Some e → is_some (as_object d) ≡ true
get-object k null e h = cc
get-object k (boolean b) e h = cc
get-object k (number n) e h = cc
get-object k (string s) e h = cc
get-object k (array ds) e h = cc
get-object k (object ms) e h = refl

-- what stands at `span` is no span
bad-case : (d : Data) (o : Option Data) → get (codes "span") d ≡ o → (elim o as (λ _. Option (ℕ × ℕ)) [ None ↦ Some (0, 0) | Some v ↦ span_of v ]) ≡ None → (v : Data) × (get (codes "span") d ≡ Some v) × (span_of v ≡ None)
bad-case d None found bad = cc
bad-case d (Some v) found bad = (v, found, bad)

bad-span : (d : Data) → span_in true d ≡ None → (v : Data) × (get (codes "span") d ≡ Some v) × (span_of v ≡ None)
bad-span d bad = bad-case d (get (codes "span") d) refl bad

span-case : (spans : Bool) (m : Name) (nd : Node) (row : Row) (d : Data) (place : Text) → nodes_of spans m d ≡ Some nd → nd.row ≡ beside spans a_span row → place ≡ pointer_text (key (codes "span") ∷ []) → span_in spans d ≡ None → IsBroken (whole_form spans) (node m) d place
span-case false m nd row d place is same at_span bad = cc
span-case true m nd row d place is same at_span bad =
    let (v, found, none) = bad-span d bad in
    node-case true m d nd place (get-object (codes "span") d v found) is (subst (λ r. IsRowBroken true r d place) (sym same) (inr (codes "span", field (codes "span") false (leaf (extra a_span)), refl, (v, [], found, at_span, ap (λ x. any_leaf (is_some x)) none))))

-- the fault of a span is one of the object that may have it
pub span-place : (spans : Bool) (m : Name) (nd : Node) (row : Row) (d : Data) (e : error.Error) → nodes_of spans m d ≡ Some nd → nd.row ≡ beside spans a_span row → LocatesSpan spans d e → Locates spans (node m) d e
span-place spans m nd row d e is same h = IfPlace-more (λ place. (place ≡ pointer_text (key (codes "span") ∷ [])) × (span_in spans d ≡ None)) (IsBroken (whole_form spans) (node m) d) e (λ place w. span-case spans m nd row d place is same w.0 w.1) h
