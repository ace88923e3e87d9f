-- Marks, and the references that are added with them.
use Rattle.std.proofs.Common.{◌≡◌, ℕ, Bool, true, false, List, [], ◌∷◌, ◌++◌, length, drop, arith, refl, sym, subst, ap, ◌∙◌, append_assoc, append-nil}
use Rattle.std.specs.Prelude.{flat_map}
use Rattle.std.proofs.Math.Seq.{drop-append_seam}
use Rattle.std.proofs.lemmas.Grind.{flat_map-append}
use Rattle.wesl_tree_names.specs.Path.{Text, Path}
use Rattle.wesl_link_symbols.specs.declared.ids.PathId.{PathId}
use Rattle.wesl_tree_base.specs.declared.ids.NameId.{NameId}
use Rattle.wesl_link_symbols.specs.declared.symbols.Reference.{Reference}
use Rattle.wesl_link_tables.specs.Marks.{IsMark}
use Rattle.wesl_link_split.specs.ScopeView.{scope_view}
use Rattle.wesl_link_tables.specs.Numbering.{Numbering, AreRelated, SameReference, Grows, NameAt, PathAt, AreNumberedNames, AreNumberedReferences}
use Rattle.wesl_link_tables.specs.Reading.{mark_of, own_path, AddsReferences, AddsNames, Marks, IsNumberedBy, scope_in, view_in}
use Rattle.wesl_link_tables.specs.Uses.{Use, declares, refers, unclear, local, said, asked, unclear_in}
use Rattle.wesl_link_tables.specs.declared.marks.Asked.{Asked}
use Rattle.wesl_link_tables.specs.declared.marks.Mark.{Mark}
use Rattle.wesl_link_tables.specs.declared.reading.Reading.{Reading}
use Rattle.wesl_link_tables.specs.declared.marks.Mark.TheVariants as marks
use Rattle.wesl_link_tables.proofs.Lists.{related_more, related_append}
use Rattle.wesl_link_tables.proofs.Related.{name_later, path_later, reference_later, references_one, scope_later}

pub adds_none : (nb : Numbering) (rs : List (Reference PathId NameId)) → AddsReferences nb rs rs []
adds_none nb rs = ([], sym (append-nil rs), tt)

pub names_none : (nb : Numbering) (old new : List NameId) → new ≡ old → AddsNames nb old new []
names_none nb old new e = ([], e ∙ sym (append-nil old), tt)

-- ---- the mark of a name by what was added for it

marked_by : (nb : Numbering) (n : NameId) (x : Text) (added : List (Reference PathId NameId)) (ss : List (Reference Path Text)) → NameAt nb n x → AreNumberedReferences nb added ss → IsMark nb (mark_of n added) (refers x ss)
marked_by nb n x [] [] at h = at
marked_by nb n x [] (s ∷ ss) at h = absurd h
marked_by nb n x (r ∷ rs) [] at h = absurd h
marked_by nb n x (r ∷ rs) (s ∷ ss) at h = (s, (0, omega arith, refl), h.0)

pub marks_after : (nb : Numbering) (n : NameId) (x : Text) (old new : Asked) (items added : List (Reference PathId NameId)) (b : ℕ) (m : Mark) (ss : List (Reference Path Text)) → NameAt nb n x → new.unclear.items ≡ old.unclear.items
    → b ≡ length old.references.items → new.references.items ≡ old.references.items ++ added → items ≡ new.references.items → m ≡ mark_of n (drop b items) → AreNumberedReferences nb added ss → Marks nb m old new (refers x ss)
marks_after nb n x old new items added b m ss at same b_is new_is items_is m_is h =
    let rs : List (Reference PathId NameId) = old.references.items in
    let rest : drop b items ≡ added = ap (drop b) (items_is ∙ new_is) ∙ (ap (λ k. drop k (rs ++ added)) b_is ∙ drop-append_seam rs added) in
    record {
      mark = subst (λ k. IsMark nb k (refers x ss)) (sym (m_is ∙ ap (mark_of n) rest)) (marked_by nb n x added ss at h);
      added = (added, new_is, h);
      unclear = names_none nb old.unclear.items new.unclear.items same;
    }

-- the mark of a name that stands for two things, or whose path does
pub marks_unclear : (nb : Numbering) (n k : NameId) (x y : Text) (old new : Asked) (m : Mark) → NameAt nb n x → NameAt nb k y → m ≡ marks.Unclear n → new.references.items ≡ old.references.items → new.unclear.items ≡ old.unclear.items ++ k ∷ []
    → Marks nb m old new (unclear x y)
marks_unclear nb n k x y old new m at at_k m_is same more = record {
  mark = subst (λ j. IsMark nb j (unclear x y)) (sym m_is) at;
  added = ([], same ∙ sym (append-nil old.references.items), tt);
  unclear = (k ∷ [], more, (at_k, tt));
}

-- what is said of a name, by whether it stands for two things
pub said_unclear : (x y : Text) (b : Bool) (rs : List (Reference Path Text)) → b ≡ true → said x y b rs ≡ unclear x y
said_unclear x y b rs e = ap (λ c. said x y c rs) e

pub said_clear : (x y : Text) (b : Bool) (rs : List (Reference Path Text)) → b ≡ false → said x y b rs ≡ refers x rs
said_clear x y b rs e = ap (λ c. said x y c rs) e

module _ (nb : Numbering) (n : NameId) (x : Text) (old : Asked) (at : NameAt nb n x) where
  pub marks_declared : Marks nb (marks.Declares n) old old (declares x)
  marks_declared = record { mark = at; added = adds_none nb old.references.items; unclear = names_none nb old.unclear.items old.unclear.items refl }

  pub marks_word : Marks nb (marks.Free n) old old (refers x [])
  marks_word = record { mark = at; added = adds_none nb old.references.items; unclear = names_none nb old.unclear.items old.unclear.items refl }

  pub marks_local : (b : ℕ) → Marks nb (marks.Local b n) old old (local b x)
  marks_local b = record { mark = (refl, at); added = adds_none nb old.references.items; unclear = names_none nb old.unclear.items old.unclear.items refl }

-- ---- one more

-- a reference more that says this
pub adds_next : (a b : Numbering) → Grows a b → (r : Reference PathId NameId) (s : Reference Path Text) (from found : List (Reference PathId NameId)) (so_far : List (Reference Path Text)) → AddsReferences a from found so_far
    → SameReference (PathAt b) (NameAt b) r s → AddsReferences b from (found ++ r ∷ []) (so_far ++ s ∷ [])
adds_next a b g r s from found so_far (added, e, k) same =
    (added ++ r ∷ [], ap (λ l. l ++ r ∷ []) e ∙ append_assoc from added (r ∷ []), references_one a b g added so_far r s k same)

-- what one more adds
module _ {X Y U : Type 0} (R S : X → Y → Type 0) (later : (x : X) (y : Y) → R x y → S x y) (f : U → List Y) where
  related_flat : (old new : List X) (us : List U) (u : U) → AreRelated R old (flat_map f us) → (added : List X) × (new ≡ old ++ added) × AreRelated S added (f u) → AreRelated S new (flat_map f (us ++ u ∷ []))
  related_flat old new us u h (added, e, k) =
      let all : flat_map f (us ++ u ∷ []) ≡ flat_map f us ++ f u = flat_map-append f us (u ∷ []) ∙ ap (λ l. flat_map f us ++ l) (append-nil (f u)) in
      subst (λ xs. AreRelated S xs (flat_map f (us ++ u ∷ []))) (sym e) (subst (λ ys. AreRelated S (old ++ added) ys) (sym all) (related_append R S later old added (flat_map f us) (f u) h k))

module _ (a b : Numbering) (g : Grows a b) (us : List (Use Path Text)) (u : Use Path Text) where
  -- what one identifier more asks for
  pub asked_next : (old new : List (Reference PathId NameId)) → AreNumberedReferences a old (flat_map asked us) → AddsReferences b old new (asked u) → AreNumberedReferences b new (flat_map asked (us ++ u ∷ []))
  asked_next old new h k = related_flat (SameReference (PathAt a) (NameAt a)) (SameReference (PathAt b) (NameAt b)) (reference_later a b g) asked old new us u h k

  -- and the name that stands for two things
  pub unclear_next : (old new : List NameId) → AreNumberedNames a old (flat_map unclear_in us) → AddsNames b old new (unclear_in u) → AreNumberedNames b new (flat_map unclear_in (us ++ u ∷ []))
  unclear_next old new h k = related_flat (NameAt a) (NameAt b) (name_later a b g) unclear_in old new us u h k

-- ---- marks keep what they say as names and paths are added

pub mark_later : (a b : Numbering) → Grows a b → (m : Mark) (u : Use Path Text) → IsMark a m u → IsMark b m u
mark_later a b g (marks.Declares i) (declares x) h = name_later a b g i x h
mark_later a b g (marks.Declares i) (refers x ss) h = absurd h
mark_later a b g (marks.Declares i) (unclear x y) h = absurd h
mark_later a b g (marks.Declares i) (local k x) h = absurd h
mark_later a b g (marks.Asks r) (declares x) h = absurd h
mark_later a b g (marks.Asks r) (refers x ss) (s, c, same) = (s, c, reference_later a b g r s same)
mark_later a b g (marks.Asks r) (unclear x y) h = absurd h
mark_later a b g (marks.Asks r) (local k x) h = absurd h
mark_later a b g (marks.Unclear i) (declares x) h = absurd h
mark_later a b g (marks.Unclear i) (refers x ss) h = absurd h
mark_later a b g (marks.Unclear i) (unclear x y) h = name_later a b g i x h
mark_later a b g (marks.Unclear i) (local k x) h = absurd h
mark_later a b g (marks.Local k i) (declares x) h = absurd h
mark_later a b g (marks.Local k i) (refers x ss) h = absurd h
mark_later a b g (marks.Local k i) (unclear x y) h = absurd h
mark_later a b g (marks.Local k i) (local l x) h = (h.0, name_later a b g i x h.1)
mark_later a b g (marks.Free i) (declares x) h = absurd h
mark_later a b g (marks.Free i) (refers x []) h = name_later a b g i x h
mark_later a b g (marks.Free i) (refers x (s ∷ ss)) h = absurd h
mark_later a b g (marks.Free i) (unclear x y) h = absurd h
mark_later a b g (marks.Free i) (local k x) h = absurd h

pub marks_one : (a b : Numbering) → Grows a b → (ms : List Mark) (us : List (Use Path Text)) (m : Mark) (u : Use Path Text) → AreRelated (IsMark a) ms us → IsMark b m u → AreRelated (IsMark b) (ms ++ m ∷ []) (us ++ u ∷ [])
marks_one a b g ms us m u h k = related_append (IsMark a) (IsMark b) (mark_later a b g) ms (m ∷ []) us (u ∷ []) h (k, tt)

-- and so do the numbers of a module that is read
pub numbered_later : (a b : Numbering) → Grows a b → (r : Reading) → IsNumberedBy a r → IsNumberedBy b r
numbered_later a b g r h = record {
  own = path_later a b g r.own (own_path r) h.own;
  scope = scope_later a b g (scope_view r.scope.now) (scope_in r) h.scope;
  ids = related_more (NameAt a) (NameAt b) (name_later a b g) r.ids.now (view_in r).names h.ids;
}
