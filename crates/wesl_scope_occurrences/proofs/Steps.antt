-- Steps of the walk, one after the other.
use Rattle.std.proofs.Common.{◌≡◌, ℕ, ◌+◌, ◌<◌, ◌≤◌, true, false, List, [], ◌∷◌, ◌++◌, length, get_or, drop, refl, ap, ◌∙◌, sym, subst, append_assoc, append-nil}
use Rattle.std.proofs.lemmas.List.{drop_all}
use Rattle.wesl_tree_names.specs.Path.{Path}
use Rattle.std.specs.Prelude.{Some}
use Rattle.std.specs.Global.{Vec}
use Rattle.wesl_tree_syntax.specs.Tree.{Tree, Forest, before, end}
use Rattle.wesl_tree_syntax.specs.View.{global_view, declarations_tree}
use Rattle.wesl_tree_syntax.specs.declared.span.Spanned.{Spanned}
use Rattle.wesl_tree_syntax.specs.declared.declaration.GlobalDeclaration.{GlobalDeclaration}
use Rattle.wesl_scope_occurrences.specs.Walk.{Here}
use Rattle.wesl_scope_occurrences.specs.Outer.{outers_in}
use Rattle.wesl_scope_occurrences.specs.Events.{Event, begins, meets, opens, closes, ends, within, path_met, paths_met, Level, plain_level, of_module, events_in}
use Rattle.wesl_scope_occurrences.specs.Noted.{IfKept, paths_of, Notes, Steps, Walks, WalksWithin, WalksModule}
use Rattle.wesl_scope_occurrences.specs.declared.walk.Walk.{Walk}
use Rattle.wesl_scope_occurrences.proofs.Listed.{all_told, told_next, globals_told, global_next}
use Rattle.wesl_scope_occurrences.proofs.Telling.{Told, say, tell, told_by, told_tree, outer_tree, told_forest, outer_forest}

pub paths_append : (es fs : List Event) → paths_met (es ++ fs) ≡ paths_met es ++ paths_met fs
paths_append [] fs = refl
paths_append (begins ∷ es) fs = paths_append es fs
paths_append (meets here r x ∷ es) fs = ap (λ ps. path_met r ++ ps) (paths_append es fs) ∙ sym (append_assoc (path_met r) (paths_met es) (paths_met fs))
paths_append (opens ∷ es) fs = paths_append es fs
paths_append (closes ∷ es) fs = paths_append es fs
paths_append (ends here x ∷ es) fs = paths_append es fs

module _ {H : Type 0} where
  -- where a walk begins, nothing is told
  abbrev pub begin : Walk H → Told
  begin w = record { told = []; outer = w.outer.items }

  module _ (after : List Event → H → H → Type 0) where
    -- what any handler keeps to
    pub record Lawful : Type 0 where
      pub none : (h : H) → after [] h h
      pub more : (es fs : List Event) (a b c : H) → after es a b → after fs b c → after (es ++ fs) a c

    -- steps after which this is told
    pub record Becomes (old new : Walk H) (s : Told) : Type 0 where
      pub noted : IfKept new (old.is_refused ≡ false)
      pub outer : IfKept new (new.outer.items ≡ s.outer)
      pub paths : IfKept new (paths_of new ≡ paths_of old ++ paths_met s.told)
      pub told : IfKept new (after s.told old.handler new.handler)

  pub lawful : {after : List Event → H → H → Type 0} → ((h : H) → after [] h h) → ((es fs : List Event) (a b c : H) → after es a b → after fs b c → after (es ++ fs) a c) → Lawful after
  lawful none more = record { none = none; more = more }

  module _ {after : List Event → H → H → Type 0} (laws : Lawful after) where
    -- none at all
    pub none : (w : Walk H) → Becomes after w w (begin w)
    none w = record { noted = λ k. k; outer = λ k. refl; paths = λ k. sym (append-nil (paths_of w)); told = λ k. laws.none w.handler }

    -- some more
    pub step : {a b c : Walk H} {s : Told} {es : List Event} {more : List ℕ} → Becomes after a b s → Steps after b c es more → Becomes after a c (record { told = s.told ++ es; outer = s.outer ++ more })
    step {a} {b} {c} {s} {es} {more} x y = record {
      noted = λ k. x.noted (y.noted k);
      outer = λ k. y.outer k ∙ ap (λ o. o ++ more) (x.outer (y.noted k));
      paths = λ k. y.paths k ∙ (ap (λ ps. ps ++ paths_met es) (x.paths (y.noted k)) ∙ (append_assoc (paths_of a) (paths_met s.told) (paths_met es) ∙ ap (λ ps. paths_of a ++ ps) (sym (paths_append s.told es))));
      told = λ k. laws.more s.told es a.handler b.handler c.handler (x.told (y.noted k)) (y.told k);
    }

    -- some events more
    pub tells : {a b c : Walk H} {s : Told} {es : List Event} → Becomes after a b s → Steps after b c es [] → Becomes after a c (say es s)
    tells {a} {b} {c} {s} x y = let z = step x y in record { noted = z.noted; outer = λ k. z.outer k ∙ append-nil s.outer; paths = z.paths; told = z.told }

    -- a number more
    pub numbers : {a b c : Walk H} {s : Told} {more : List ℕ} → Becomes after a b s → Steps after b c [] more → Becomes after a c (record s { outer = s.outer ++ more })
    numbers {a} {b} {c} {s} x y =
        let z = step x y in
        let e : s.told ++ [] ≡ s.told = append-nil s.told in
        record {
          noted = z.noted;
          outer = z.outer;
          paths = λ k. z.paths k ∙ ap (λ es. paths_of a ++ paths_met es) e;
          told = λ k. subst (λ es. after es a.handler c.handler) e (z.told k);
        }

    -- one tree more
    pub next : {here : Here} {a b c : Walk H} {s : Told} {t : Tree} → Becomes after a b s → Walks after here b c t → Becomes after a c (told_by here s t)
    next {here} {a} {b} {c} {s} {t} x y =
        let z = step x y.steps in
        let is : IfKept c (length b.outer.items ≡ length s.outer) = λ k. ap length (x.outer (y.steps.noted k)) in
        let told : IfKept c ((told_by here s t).told ≡ s.told ++ events_in here (length b.outer.items) t) =
        λ k. told_tree here s t ∙ ap (λ n. s.told ++ events_in here n t) (sym (is k)) in
        record {
          noted = z.noted;
          outer = λ k. z.outer k ∙ (ap (λ n. s.outer ++ outers_in here n t) (is k) ∙ sym (outer_tree here s t));
          paths = λ k. z.paths k ∙ ap (λ es. paths_of a ++ paths_met es) (sym (told k));
          told = λ k. subst (λ es. after es a.handler c.handler) (sym (told k)) (z.told k);
        }

    -- one tree more, with a block round it
    pub next_within : {here : Here} {a b c : Walk H} {s : Told} {t : Tree} → Becomes after a b s → WalksWithin after here b c t → Becomes after a c (say (closes ∷ []) (told_by here (say (opens ∷ []) s) t))
    next_within {here} {a} {b} {c} {s} {t} x y =
        let z = step x y.steps in
        let is : IfKept c (length b.outer.items ≡ length s.outer) = λ k. ap length (x.outer (y.steps.noted k)) in
        let round : (n : ℕ) → n ≡ length s.outer → (told_by here (say (opens ∷ []) s) t).told ++ closes ∷ [] ≡ s.told ++ within true (events_in here n t) =
        λ n e. ap (λ es. es ++ closes ∷ []) (told_tree here (say (opens ∷ []) s) t)
        ∙ (append_assoc (s.told ++ opens ∷ []) (events_in here (length s.outer) t) (closes ∷ [])
        ∙ (append_assoc s.told (opens ∷ []) (events_in here (length s.outer) t ++ closes ∷ []) ∙ ap (λ m. s.told ++ within true (events_in here m t)) (sym e))) in
        let told : IfKept c ((told_by here (say (opens ∷ []) s) t).told ++ closes ∷ [] ≡ s.told ++ within true (events_in here (length b.outer.items) t)) = λ k. round (length b.outer.items) (is k) in
        record {
          noted = z.noted;
          outer = λ k. z.outer k ∙ (ap (λ n. s.outer ++ outers_in here n t) (is k) ∙ sym (outer_tree here (say (opens ∷ []) s) t));
          paths = λ k. z.paths k ∙ ap (λ es. paths_of a ++ paths_met es) (sym (told k));
          told = λ k. subst (λ es. after es a.handler c.handler) (sym (told k)) (z.told k);
        }

  -- a step that the handler alone makes
  pub alone : {after : List Event → H → H → Type 0} {w : Walk H} {h : H} {es : List Event} → paths_met es ≡ [] → after es w.handler h → Steps after w (record w { handler = h }) es []
  alone {after} {w} {h} {es} none t = record {
    noted = λ k. k;
    outer = λ k. sym (append-nil w.outer.items);
    paths = λ k. sym (ap (λ ps. paths_of w ++ ps) none ∙ append-nil (paths_of w));
    told = λ k. t;
  }

  -- and one of which the path was noted before
  pub noted_alone : {after : List Event → H → H → Type 0} {w v : Walk H} {h : H} {es : List Event} {more : List Path} → Notes w v more → paths_met es ≡ more → after es v.handler h → Steps after w (record v { handler = h }) es []
  noted_alone {after} {w} {v} {h} {es} {more} n is t = record {
    noted = n.noted;
    outer = λ k. n.outer ∙ sym (append-nil w.outer.items);
    paths = λ k. n.paths k ∙ ap (λ ps. paths_of w ++ ps) (sym is);
    told = λ k. subst (λ x. after es x h) n.handler t;
  }

  module _ {after : List Event → H → H → Type 0} where
    -- they are these
    pub are : {a b : Walk H} {s : Told} {es : List Event} {more : List ℕ} → Becomes after a b s → IfKept b (s.told ≡ es) → IfKept b (s.outer ≡ a.outer.items ++ more) → Steps after a b es more
    are {a} {b} x told outer = record {
      noted = x.noted;
      outer = λ k. x.outer k ∙ outer k;
      paths = λ k. x.paths k ∙ ap (λ es. paths_of a ++ paths_met es) (told k);
      told = λ k. subst (λ es. after es a.handler b.handler) (told k) (x.told k);
    }

    -- they are those over a tree
    pub over_kept : {a b : Walk H} {s : Told} {t u : Tree} (here : Here) → Becomes after a b s → t ≡ u → IfKept b (s ≡ told_by here (begin a) u) → Walks after here a b t
    over_kept {a} {b} {s} {t} {u} here x is e =
        let n : ℕ = length a.outer.items in
        record {
          steps = are x (λ k. ap (λ z. z.told) (e k) ∙ (told_tree here (begin a) u ∙ ap (events_in here n) (sym is)))
              (λ k. ap (λ z. z.outer) (e k) ∙ (outer_tree here (begin a) u ∙ ap (λ z. a.outer.items ++ outers_in here n z) (sym is)));
        }

    pub over : {a b : Walk H} {s : Told} {t u : Tree} (here : Here) → Becomes after a b s → t ≡ u → s ≡ told_by here (begin a) u → Walks after here a b t
    over here x is e = over_kept here x is (λ k. e)

    -- those over a tree with a block round it
    pub over_within : {a b : Walk H} (t : Tree) (here : Here) → Becomes after a b (say (closes ∷ []) (told_by here (say (opens ∷ []) (begin a)) t)) → WalksWithin after here a b t
    over_within {a} {b} t here x = record { steps = are x (λ k. ap (λ es. es ++ closes ∷ []) (told_tree here (say (opens ∷ []) (begin a)) t)) (λ k. outer_tree here (say (opens ∷ []) (begin a)) t) }

    -- those over one tree alone
    pub only : {a b : Walk H} {t : Tree} (here : Here) → Walks after here a b t → Becomes after a b (told_by here (begin a) t)
    only {a} {b} {t} here w =
        let told : (told_by here (begin a) t).told ≡ events_in here (length a.outer.items) t = told_tree here (begin a) t in
        record {
          noted = w.steps.noted;
          outer = λ k. w.steps.outer k ∙ sym (outer_tree here (begin a) t);
          paths = λ k. w.steps.paths k ∙ ap (λ es. paths_of a ++ paths_met es) (sym told);
          told = λ k. subst (λ es. after es a.handler b.handler) (sym told) (w.steps.told k);
        }

    -- the steps over a node that is known to be this one
    pub at : {X : Type 0} {here : Here} {a b : Walk H} {x y : X} (view : X → Tree) → x ≡ y → Walks after here a b (view x) → Walks after here a b (view y)
    at {X} {here} {a} {b} view e w = subst (λ z. Walks after here a b (view z)) e w

    -- the steps over a node in another
    pub inside : {a b : Walk H} {t u v : Tree} (here : Here) → Walks after here a b t → v ≡ u → told_by here (begin a) t ≡ told_by here (begin a) u → Walks after here a b v
    inside here w is e = over here (only here w) is e

-- ---- a loop over nodes

module _ {H X : Type 0} (after : List Event → H → H → Type 0) (view : X → Tree) (here : Here) where
  -- as far as it has come
  pub record Passed (old new : Walk H) (xs : List X) (i : ℕ) : Type 0 where
    pub so_far : Told
    pub is : Becomes after old new so_far
    pub ahead : all_told view here (begin old) xs ≡ all_told view here so_far (drop i xs)

module _ {H X : Type 0} {after : List Event → H → H → Type 0} (laws : Lawful after) (view : X → Tree) (here : Here) where
  pub begun : {w : Walk H} {xs : List X} → Passed after view here w w xs 0
  begun {w} = record { so_far = begin w; is = none laws w; ahead = refl }

  pub gone_on : {a b c : Walk H} {xs : List X} {i : ℕ} (x : X) → i < length xs → x ≡ get_or xs i x → Passed after view here a b xs i → Walks after here b c (view x) → Passed after view here a c xs (i + 1)
  gone_on {a} {b} {c} {xs} {i} x h is p w = record {
    so_far = told_by here p.so_far (view x);
    is = next laws p.is w;
    ahead = p.ahead ∙ told_next view here p.so_far xs i x h is;
  }

module _ {H X : Type 0} {after : List Event → H → H → Type 0} (view : X → Tree) (here : Here) where
  pub all_passed : {a b : Walk H} {xs ys : List X} {i : ℕ} {t : Tree} → length xs ≤ i → xs ≡ ys → told_by here (begin a) t ≡ all_told view here (begin a) ys → Passed after view here a b xs i → Walks after here a b t
  all_passed {a} {b} {xs} {ys} {i} {t} h e is p =
      let done : p.so_far ≡ told_by here (begin a) t = sym (is ∙ (ap (all_told view here (begin a)) (sym e) ∙ (p.ahead ∙ ap (all_told view here p.so_far) (drop_all i xs h)))) in
      over {t = t} here p.is refl done

-- ---- the loop over global declarations

module _ {H : Type 0} (after : List Event → H → H → Type 0) (here : Here) where
  pub record Begun (old new : Walk H) (xs : List (Spanned GlobalDeclaration)) (i : ℕ) : Type 0 where
    pub so_far : Told
    pub is : Becomes after old new so_far
    pub ahead : globals_told here 0 (begin old) xs ≡ globals_told here i so_far (drop i xs)

module _ {H : Type 0} {after : List Event → H → H → Type 0} (laws : Lawful after) (here : Here) where
  pub none_begun : {w : Walk H} {xs : List (Spanned GlobalDeclaration)} → Begun after here w w xs 0
  none_begun {w} = record { so_far = begin w; is = none laws w; ahead = refl }

  pub next_begun : {a b c : Walk H} {xs : List (Spanned GlobalDeclaration)} {i : ℕ} (x : Spanned GlobalDeclaration) → i < length xs → x ≡ get_or xs i x → Begun after here a b xs i
      → Steps after b c (begins ∷ events_in (record here { declaration = Some i }) (length b.outer.items) (global_view x.node)) (outers_in (record here { declaration = Some i }) (length b.outer.items) (global_view x.node))
      → Begun after here a c xs (i + 1)
  next_begun {a} {b} {c} {xs} {i} x h is p w =
      let inner : Here = record here { declaration = Some i } in
      let t : Tree = global_view x.node in
      let s : Told = p.so_far in
      let z = step laws p.is w in
      let told : IfKept c ((told_by inner (say (begins ∷ []) s) t).told ≡ s.told ++ (begins ∷ events_in inner (length b.outer.items) t)) =
      λ k. told_tree inner (say (begins ∷ []) s) t ∙ (append_assoc s.told (begins ∷ []) (events_in inner (length s.outer) t) ∙ ap (λ o. s.told ++ (begins ∷ events_in inner (length o) t)) (sym (p.is.outer (w.noted k)))) in
      record {
        so_far = told_by inner (say (begins ∷ []) s) t;
        is = record {
          noted = z.noted;
          outer = λ k. z.outer k ∙ (ap (λ o. s.outer ++ outers_in inner (length o) t) (p.is.outer (w.noted k)) ∙ sym (outer_tree inner (say (begins ∷ []) s) t));
          paths = λ k. z.paths k ∙ ap (λ es. paths_of a ++ paths_met es) (sym (told k));
          told = λ k. subst (λ es. after es a.handler c.handler) (sym (told k)) (z.told k);
        };
        ahead = p.ahead ∙ global_next here s xs i x h is;
      }

module _ {H : Type 0} {after : List Event → H → H → Type 0} (here : Here) where
  pub all_begun : {a b : Walk H} {i : ℕ} (d : Vec (Spanned GlobalDeclaration)) → length d.items ≤ i → Begun after here a b d.items i → WalksModule after here a b (declarations_tree d)
  all_begun {a} {b} {i} d h p =
      let level : Level = plain_level here (of_module ∷ []) in
      let f : Forest = before (declarations_tree d) end in
      let done : p.so_far ≡ tell level [] (begin a) f = sym (p.ahead ∙ ap (globals_told here i p.so_far) (drop_all i d.items h)) in
      record { steps = are p.is (λ k. ap (λ z. z.told) done ∙ told_forest level (begin a) f) (λ k. ap (λ z. z.outer) done ∙ outer_forest level (begin a) f) }
