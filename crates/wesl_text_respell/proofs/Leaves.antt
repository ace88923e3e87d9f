-- Leaves with other names, and paths before names.
use Rattle.std.proofs.Common.{◌≡◌, zero, suc, Bool, true, false, ◌&&◌, if◌then◌else◌, List, [], ◌∷◌, ◌++◌, Some, None, refl, sym as turned, inl, inr, ap, ◌∙◌, subst, codes}
use Rattle.wesl_tree_base.specs.Pieces.{supers}
use Rattle.wesl_tree_names.specs.Path.{Text, Path, Origin, absolute, relative, from_package}
use Rattle.wesl_tree_syntax.specs.Tree.{Role, binder, word, ident, text, texts, truth, path, absent, end, tree}
use Rattle.wesl_tree_syntax.specs.Kinds.{same_role}
use Rattle.wesl_text_tokens.specs.Tokens.{name}
use Rattle.wesl_text_form.specs.Slots.{Slot, must}
use Rattle.wesl_text_form.specs.Names.{is_name, is_path}
use Rattle.wesl_text_form.specs.Productions.{Leaf, an_ident, an_item, a_name, a_word, a_custom, a_literal, a_rule, some_words, one_or_two, steps, a_path, Row, leaf}
use Rattle.wesl_text_form.specs.Spelling.{Label, Forest, Slots, spells, followed, provided, named, stepped, origin_slots, is_end, item_role, leaf_slots}
use Rattle.wesl_text_respell.specs.Respelled.{MayBecome, IsRespelled}
use Rattle.wesl_text_respell.proofs.Kept.{kind_kept}
use Rattle.wesl_text_respell.proofs.Related.{IsLike, none, other, like_stepped, Follows}
use Rattle.wesl_text_reading.proofs.Types.{stepped_joined}

-- the same leaf, before other trees
pub leaf_kept : {o p : Forest} (f : Leaf) (l : Label) → IsRespelled o p → leaf_slots f l p ≡ leaf_slots f l o
leaf_kept (an_ident x) (ident q t) r = refl
leaf_kept an_item (ident q t) r = ap (λ z. provided (same_role (if z then binder else word) q && is_name t) (named t ∷ [])) (kind_kept absent 0 r)
leaf_kept a_name (text t) r = refl
leaf_kept a_word (text t) r = refl
leaf_kept a_custom (text t) r = refl
leaf_kept a_literal (truth b) r = refl
leaf_kept a_literal (text t) r = refl
leaf_kept a_rule (text t) r = refl
leaf_kept some_words (texts ts) r = refl
leaf_kept one_or_two (texts ts) r = refl
leaf_kept steps (texts ts) r = refl
leaf_kept (a_path slashes) (path p) r = refl
leaf_kept f l r = refl

-- a name stays one
name_stays : (x y : Text) → MayBecome x y → is_name x ≡ true → is_name y ≡ true
name_stays x y (inl h) e = h
name_stays x y (inr q) e = ap is_name q ∙ e

named_follows : (b : Bool) (x y : Text) → MayBecome x y → Follows (provided (b && is_name x) (named x ∷ [])) (provided (b && is_name y) (named y ∷ []))
named_follows false x y h = tt
named_follows true x y h = by (is_name x) refl where
  by : (z : Bool) → is_name x ≡ z → Follows (if z then Some (named x ∷ []) else None) (if is_name y then Some (named y ∷ []) else None)
  by false e = tt
  by true e = subst (λ z. Follows (Some (named x ∷ [])) (if z then Some (named y ∷ []) else None)) (turned (name_stays x y h e)) (other x y none)

-- an identifier under another name
pub leaf_renamed : {o p : Forest} (f : Leaf) (r : Role) (x y : Text) → MayBecome x y → IsRespelled o p → Follows (leaf_slots f (ident r x) o) (leaf_slots f (ident r y) p)
leaf_renamed (an_ident q) r x y h k = named_follows (same_role q r) x y h
leaf_renamed {o = o} an_item r x y h k =
    subst (λ z. Follows (leaf_slots an_item (ident r x) o) (provided (same_role (if z then binder else word) r && is_name y) (named y ∷ []))) (turned (kind_kept absent 0 k)) (named_follows (same_role (item_role o) r) x y h)
leaf_renamed f r x y h k = tt

-- ---- paths

-- the words of a path's beginning
abbrev origin_words : Origin → List Text
origin_words absolute = codes "package" ∷ []
origin_words (relative zero) = codes "self" ∷ []
origin_words (relative (suc n)) = supers (suc n)
origin_words (from_package p) = p ∷ []

origin_stepped : (o : Origin) → origin_slots false o ≡ stepped (origin_words o)
origin_stepped absolute = refl
origin_stepped (relative zero) = refl
origin_stepped (relative (suc n)) = refl
origin_stepped (from_package p) = refl

-- slots that begin with a name, where there are any
abbrev pub Begin : Slots → Type 0
Begin None = Unit {0}
Begin (Some ss) = (x : Text) × (rest : List Slot) × (ss ≡ must (name x) ∷ rest)

-- the path before them is gone
pub path_gone : (q : Path) (a b : Slots) → Begin a → Follows a b
    → Follows (followed (followed (provided (is_path false q) (origin_slots false q.origin ++ stepped q.components)) (Some [])) a) b
path_gone q a b n p = by (is_path false q) a n p where
  words : List Text
  words = origin_words q.origin ++ q.components

  path_is : origin_slots false q.origin ++ stepped q.components ≡ stepped words
  path_is = ap (λ z. z ++ stepped q.components) (origin_stepped q.origin) ∙ stepped_joined (origin_words q.origin) q.components

  ended : (ss : List Slot) → ss ++ [] ≡ ss
  ended [] = refl
  ended (s ∷ ss) = ap (λ z. s ∷ z) (ended ss)

  begun : (ss us : List Slot) (x : Text) (rest : List Slot) → ss ≡ must (name x) ∷ rest → IsLike ss us → IsLike (((origin_slots false q.origin ++ stepped q.components) ++ []) ++ ss) us
  begun ss us x rest e p =
      subst (λ z. IsLike (z ++ ss) us) (turned (ended (origin_slots false q.origin ++ stepped q.components) ∙ path_is))
      (subst (λ z. IsLike (stepped words ++ z) us) (turned e) (like_stepped words x (subst (λ z. IsLike z us) e p)))

  by : (z : Bool) (a : Slots) → Begin a → Follows a b → Follows (followed (followed (if z then Some (origin_slots false q.origin ++ stepped q.components) else None) (Some [])) a) b
  by false a n p = tt
  by true None n p = tt
  by true (Some ss) n p = at b p where
    at : (b : Slots) → Follows (Some ss) b → Follows (Some (((origin_slots false q.origin ++ stepped q.components) ++ []) ++ ss)) b
    at None p = absurd p
    at (Some us) p = begun ss us n.0 n.1 n.2 p

-- what begins with an identifier begins with a name
pub ident_begins : (f : Forest) (r : Role) (row : Row) → Begin ((spells f).row (leaf (an_ident r) row))
ident_begins end r row = tt
ident_begins (tree l c o) r row = by (is_end c) l ((spells o).row row) where
  after : (x : Text) (z : Bool) (b : Slots) → Begin (followed (provided z (named x ∷ [])) b)
  after x false b = tt
  after x true None = tt
  after x true (Some us) = (x, us, refl)

  by : (z : Bool) (l : Label) (b : Slots) → Begin (if z then followed (leaf_slots (an_ident r) l o) b else None)
  by false l b = tt
  by true (ident q t) b = after t (same_role r q && is_name t) b
  by true l b = tt
