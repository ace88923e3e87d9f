-- Why something is held in a link, in numbers as in texts.
use Rattle.std.proofs.Common.{◌≡◌, ◌⊎◌, inl, inr, ◌↔◌, Option, Some, None, List, [], ◌∷◌, map, Contains, IfSome, IfNone, refl, sym, subst, ap, ◌∙◌}
use Rattle.std.specs.Prelude.{Vec}
use Rattle.std.specs.declared.alloc.Global.{Global}
use Rattle.wesl_tree_names.specs.Path.{Text, Path, path_view}
use Rattle.wesl_link_symbols.specs.declared.ids.PathId.{PathId}
use Rattle.wesl_tree_base.specs.declared.ids.NameId.{NameId}
use Rattle.wesl_link_symbols.specs.Tables.{Table}
use Rattle.wesl_link_symbols.proofs.Lists.{at_contains, contains_cases, contains_first, contains_later, contains_nil}
use Rattle.wesl_link_reach.specs.World.{Task}
use Rattle.wesl_link_reach.specs.Faults.{AreDistinct}
use Rattle.wesl_link_reach.specs.Faults.AreDistinct.{none as none_distinct, one_more as one_distinct}
use Rattle.wesl_link_reach.specs.Linking.{paths}
use Rattle.wesl_link_reach.proofs.Lists.{contains_map, map_contains}
use Rattle.wesl_link_reasons.specs.declared.node.Node.{Node}
use Rattle.wesl_link_reasons.specs.declared.node.Node.TheVariants.{KeptName, Module, Item}
use Rattle.wesl_link_reasons.specs.Reasons.{IsReason, IsHeld, IsUnbroken, task_from}
use Rattle.wesl_link_reasons.proofs.Holding.{reason_held}
use Rattle.wesl_link_tables.specs.Numbering.{Numbering, AreRelated, NameAt, PathAt, SameTable}
use Rattle.wesl_link_tables.specs.TextsView.{numbering_of_texts as numbering}
use Rattle.wesl_link_engine.specs.Worlds.{table, tables}
use Rattle.wesl_link_engine.specs.Given.{Given}
use Rattle.wesl_link_engine.specs.Keeping.{name_text, module_of, all_loaded, modules_in, IsLinkOf, task_in, resolved_of}
use Rattle.wesl_link_engine.specs.Reasons.{IsHeldIn, TellsReason, steps_told, told_node, HasTexts, HaveTexts, IsNodeOf, HoldsIn, IsReasonOf}
use Rattle.wesl_link_engine.specs.declared.link.Link.{Link}
use Rattle.wesl_link_engine.specs.declared.steps.Step.{Step}
use Rattle.wesl_link_engine.proofs.Built.{paths_one, names_one}
use Rattle.wesl_link_engine.proofs.Carried.{Back, IsOneToOne, one_back, related_in, related_back, table_back, SameTask, Covers}
use Rattle.wesl_link_engine.proofs.Chained.{SameNode, reason_to, held_to}
use Rattle.wesl_link_engine.proofs.Texts.{path_is, name_is}

-- of tables whose paths stand once each, one stands at a path
one_table : {P N : Type 0} (w : List (Table P N)) → AreDistinct (paths w) → (t u : Table P N) → Contains w t → Contains w u → t.path ≡ u.path → t ≡ u
one_table [] d t u c k e = absurd (contains_nil t c)
one_table {P} {N} (z ∷ w) (one_distinct _ _ fresh d) t u c k e = by (one_table w d t u) (contains_cases z t w c) (contains_cases z u w k)
  where
    by : (Contains w t → Contains w u → t.path ≡ u.path → t ≡ u) → (z ≡ t) ⊎ Contains w t → (z ≡ u) ⊎ Contains w u → t ≡ u
    by rest (inl f) (inl g) = sym f ∙ g
    by rest (inl f) (inr h) = absurd (fresh (subst (λ (p : P). Contains (paths w) p) (sym (ap (λ (x : Table P N). x.path) f ∙ e)) (map_contains (λ (x : Table P N). x.path) w u h)))
    by rest (inr h) (inl g) = absurd (fresh (subst (λ (p : P). Contains (paths w) p) (e ∙ sym (ap (λ (x : Table P N). x.path) g)) (map_contains (λ (x : Table P N). x.path) w t h)))
    by rest (inr h) (inr i) = rest h i e

module _ (nb : Numbering) where
  text_of : (x : Node PathId NameId) (y : Node Path Text) → SameNode (PathAt nb) (NameAt nb) x y → told_node nb x ≡ y
  text_of (KeptName n) (KeptName m) h = ap KeptName (name_is nb n m h)
  text_of (Module p) (Module q) h = ap Module (path_is nb p q h)
  text_of (Item s) (Item u) h =
      ap (λ (q : Path). Item (record { path = q; name = name_text nb s.name })) (path_is nb s.path u.path h.path) ∙ ap (λ (m : Text). Item (record { path = u.path; name = m })) (name_is nb s.name u.name h.name)
  text_of (KeptName n) (Module q) h = absurd h
  text_of (KeptName n) (Item u) h = absurd h
  text_of (Module p) (KeptName m) h = absurd h
  text_of (Module p) (Item u) h = absurd h
  text_of (Item s) (KeptName m) h = absurd h
  text_of (Item s) (Module q) h = absurd h

  texts_of : (xs : List (Node PathId NameId)) (ys : List (Node Path Text)) → AreRelated (SameNode (PathAt nb) (NameAt nb)) xs ys → map (told_node nb) xs ≡ ys
  texts_of [] [] h = refl
  texts_of (x ∷ xs) (y ∷ ys) h = ap (λ (z : Node Path Text). z ∷ map (told_node nb) xs) (text_of x y h.0) ∙ ap (λ (zs : List (Node Path Text)). y ∷ zs) (texts_of xs ys h.1)
  texts_of [] (y ∷ ys) h = absurd h
  texts_of (x ∷ xs) [] h = absurd h

  has_texts : (x : Node PathId NameId) (y : Node Path Text) → SameNode (PathAt nb) (NameAt nb) x y → HasTexts nb x
  has_texts (KeptName n) (KeptName m) h = (m, h)
  has_texts (Module p) (Module q) h = (q, h)
  has_texts (Item s) (Item u) h = ((u.path, h.path), (u.name, h.name))
  has_texts (KeptName n) (Module q) h = absurd h
  has_texts (KeptName n) (Item u) h = absurd h
  has_texts (Module p) (KeptName m) h = absurd h
  has_texts (Module p) (Item u) h = absurd h
  has_texts (Item s) (KeptName m) h = absurd h
  has_texts (Item s) (Module q) h = absurd h

  have_texts : (xs : List (Node PathId NameId)) (ys : List (Node Path Text)) → AreRelated (SameNode (PathAt nb) (NameAt nb)) xs ys → HaveTexts nb xs
  have_texts xs ys h x c = let (y, d, k) = related_in (SameNode (PathAt nb) (NameAt nb)) xs ys x h c in has_texts x y k

  same_text : (x : Node PathId NameId) → HasTexts nb x → SameNode (PathAt nb) (NameAt nb) x (told_node nb x)
  same_text (KeptName n) (y, at) = subst (λ (z : Text). NameAt nb n z) (sym (name_is nb n y at)) at
  same_text (Module p) (q, at) = subst (λ (z : Path). PathAt nb p z) (sym (path_is nb p q at)) at
  same_text (Item s) ((q, at), (y, named)) = record {
    path = subst (λ (z : Path). PathAt nb s.path z) (sym (path_is nb s.path q at)) at;
    name = subst (λ (z : Text). NameAt nb s.name z) (sym (name_is nb s.name y named)) named;
  }

  turned : (y : Node Path Text) (x : Node PathId NameId) → SameNode (Back (PathAt nb)) (Back (NameAt nb)) y x → SameNode (PathAt nb) (NameAt nb) x y
  turned (KeptName m) (KeptName n) h = h
  turned (Module q) (Module p) h = h
  turned (Item u) (Item s) h = record { path = h.path; name = h.name }
  turned (KeptName m) (Module p) h = absurd h
  turned (KeptName m) (Item s) h = absurd h
  turned (Module q) (KeptName n) h = absurd h
  turned (Module q) (Item s) h = absurd h
  turned (Item u) (KeptName n) h = absurd h
  turned (Item u) (Module p) h = absurd h

  module _ (rs : IsOneToOne (PathAt nb)) (ss : IsOneToOne (NameAt nb)) where
    other_node : (x z : Node PathId NameId) (y : Node Path Text) → SameNode (PathAt nb) (NameAt nb) x y → SameNode (PathAt nb) (NameAt nb) z y → x ≡ z
    other_node (KeptName n) (KeptName m) (KeptName y) h k = ap KeptName (ss.other n m y h k)
    other_node (Module p) (Module q) (Module y) h k = ap Module (rs.other p q y h k)
    other_node (Item s) (Item u) (Item y) h k =
        ap (λ (q : PathId). Item (record { path = q; name = s.name })) (rs.other s.path u.path y.path h.path k.path) ∙ ap (λ (m : NameId). Item (record { path = u.path; name = m })) (ss.other s.name u.name y.name h.name k.name)
    other_node (KeptName n) z (Module y) h k = absurd h
    other_node (KeptName n) z (Item y) h k = absurd h
    other_node (Module p) z (KeptName y) h k = absurd h
    other_node (Module p) z (Item y) h k = absurd h
    other_node (Item s) z (KeptName y) h k = absurd h
    other_node (Item s) z (Module y) h k = absurd h
    other_node (KeptName n) (Module q) (KeptName y) h k = absurd k
    other_node (KeptName n) (Item u) (KeptName y) h k = absurd k
    other_node (Module p) (KeptName m) (Module y) h k = absurd k
    other_node (Module p) (Item u) (Module y) h k = absurd k
    other_node (Item s) (KeptName m) (Item y) h k = absurd k
    other_node (Item s) (Module q) (Item y) h k = absurd k

    told_apart : (x : Node PathId NameId) (xs : List (Node PathId NameId)) → HaveTexts nb (x ∷ xs) → (Contains xs x → ⊥) → Contains (map (told_node nb) xs) (told_node nb x) → ⊥
    told_apart x xs named fresh c =
        let (z, held, e) = contains_map (told_node nb) xs (told_node nb x) c in
        let there : SameNode (PathAt nb) (NameAt nb) z (told_node nb x) =
        subst (λ (y : Node Path Text). SameNode (PathAt nb) (NameAt nb) z y) e (same_text z (named z (contains_later x z xs held))) in
        fresh (subst (λ (g : Node PathId NameId). Contains xs g) (other_node z x (told_node nb x) there (same_text x (named x (contains_first x xs)))) held)

    pub told_once : (xs : List (Node PathId NameId)) → HaveTexts nb xs → AreDistinct xs → AreDistinct (map (told_node nb) xs)
    told_once [] named d = none_distinct
    told_once (x ∷ xs) named (one_distinct _ _ fresh d) = one_distinct (told_node nb x) (map (told_node nb) xs) (told_apart x xs named fresh) (told_once xs (λ z c. named z (contains_later x z xs c)) d)

module _ (l : Link) (sound : IsLinkOf (task_in l) l) (root : PathId) (root_at : PathAt (numbering l.numbers) root (path_view l.root.path)) where
  abbrev nb : Numbering
  nb = numbering l.numbers

  abbrev a : Task PathId NameId
  a = task_from root l.kept.items l.is_eager

  rs : IsOneToOne (PathAt nb)
  rs = paths_one nb l.numbers.paths.different

  ss : IsOneToOne (NameAt nb)
  ss = names_one nb l.numbers.names.different

  covers : Covers (PathAt nb) (NameAt nb) l.linked.tables (tables (modules_in l))
  covers = record { covered = λ t c. let (m, d, f) = sound.covered t c in (table (module_of m), map_contains table (modules_in l) (module_of m) (map_contains module_of (all_loaded l) m d), f) }

  covers_back : Covers (Back (PathAt nb)) (Back (NameAt nb)) (tables (modules_in l)) l.linked.tables
  covers_back = record {
    covered = λ u c.
        let (n, d, e) = contains_map table (modules_in l) u c in
        let (m, held, f) = contains_map module_of (all_loaded l) n d in
        let (t, at, same_t, marked_t) = sound.tabled m held in
        let named : table (module_of m) ≡ u = ap table f ∙ e in
        (t, at_contains l.linked.tables m.place t at, subst (λ x. SameTable (Back (PathAt nb)) (Back (NameAt nb)) x t) named (table_back (PathAt nb) (NameAt nb) t (table (module_of m)) same_t));
  }

  same_task : SameTask (PathAt nb) (NameAt nb) a (task_in l)
  same_task = record { root = root_at; kept = sound.kept; eager = refl }

  same_task_back : SameTask (Back (PathAt nb)) (Back (NameAt nb)) (task_in l) a
  same_task_back = record { root = root_at; kept = related_back (NameAt nb) (Back (NameAt nb)) (λ x y z. z) l.kept.items (task_in l).kept sound.kept; eager = refl }

  pub unbroken : IsUnbroken l.linked.tables a
  unbroken = record { one_table = one_table l.linked.tables sound.tables_once; no_missing = λ look p n follows lacks. sound.no_missing root look p n root_at follows lacks }

  -- a chain in numbers is one in texts
  pub chain_named : (x : Node PathId NameId) (xs : List (Node PathId NameId)) → IsReason l.linked.tables a x xs → HaveTexts nb xs
  chain_named x xs h =
      let (y, ys, same_y, all, there) = reason_to (PathAt nb) (NameAt nb) rs ss l.linked.tables (tables (modules_in l)) covers a (task_in l) same_task x xs h in have_texts nb xs ys all

  pub chain_told : (x : Node PathId NameId) (xs : List (Node PathId NameId)) → IsReason l.linked.tables a x xs → IsReasonOf l (told_node nb x) (map (told_node nb) xs)
  chain_told x xs h =
      let (y, ys, same_y, all, there) = reason_to (PathAt nb) (NameAt nb) rs ss l.linked.tables (tables (modules_in l)) covers a (task_in l) same_task x xs h in
      subst (λ (z : Node Path Text). IsReasonOf l z (map (told_node nb) xs)) (sym (text_of nb x y same_y)) (subst (λ (zs : List (Node Path Text)). IsReasonOf l y zs) (sym (texts_of nb xs ys all)) there)

  pub chain_once : (x : Node PathId NameId) (xs : List (Node PathId NameId)) → IsReason l.linked.tables a x xs → AreDistinct xs → AreDistinct (map (told_node nb) xs)
  chain_once x xs h d = told_once nb rs ss xs (chain_named x xs h) d

  -- what is held in texts is so in numbers
  pub held_back : (y : Node Path Text) → HoldsIn l y → (x : Node PathId NameId) × SameNode (PathAt nb) (NameAt nb) x y × IsHeld l.linked.tables a x
  held_back y h =
      let (x, same_x, there) = held_to (Back (PathAt nb)) (Back (NameAt nb)) (one_back (PathAt nb) rs) (one_back (NameAt nb) ss) (tables (modules_in l)) l.linked.tables covers_back (task_in l) a same_task_back y h in
      (x, turned nb y x same_x, there)

  pub denied : (x : Node PathId NameId) → HasTexts nb x → (IsHeld l.linked.tables a x → ⊥) → HoldsIn l (told_node nb x) → ⊥
  denied x named none h =
      let (z, same_z, there) = held_back (told_node nb x) h in
      none (subst (λ (g : Node PathId NameId). IsHeld l.linked.tables a g) (other_node nb rs ss z x (told_node nb x) same_z (same_text nb x named)) there)

  pub unnumbered : (y : Node Path Text) → ((x : Node PathId NameId) → IsNodeOf nb y x → ⊥) → HoldsIn l y → ⊥
  unnumbered y none h = let (x, same_x, there) = held_back y h in none x (has_texts nb x y same_x, text_of nb x y same_x)

-- there is no answer exactly where it is not held
pub none_exactly : {X : Type 0} (l : Link) (y : Node Path Text) (chain : X → List (Node Path Text)) (o : Option X)
    → IfSome o (λ s. IsReasonOf l y (chain s)) → IfNone o (HoldsIn l y → ⊥) → (o ≡ None) ↔ (HoldsIn l y → ⊥)
none_exactly l y chain None told none = ((λ e. none), (λ h. refl))
none_exactly l y chain (Some s) told none =
    ((λ e. absurd (cc)), (λ h. absurd (h (reason_held (tables (modules_in l)) (task_in l) y (chain s, told)))))

-- the same of what is told of a link that is kept, and where nothing is linked
module _ (names : Given) (x : Node Path Text) (answer : Option (Vec Step Global)) where
  pub reason_told : (o : Option Link) (l : Link) → o ≡ Some l → IfSome answer (λ steps. IsReasonOf l x (steps_told steps.items)) → TellsReason (resolved_of o names) x answer
  reason_told o l is told = subst (λ (z : Option Link). TellsReason (resolved_of z names) x answer) (sym is) told

  pub none_told : (o : Option Link) (l : Link) → o ≡ Some l → IfSome answer (λ steps. IsReasonOf l x (steps_told steps.items)) → IfNone answer (HoldsIn l x → ⊥)
      → (answer ≡ None) ↔ (IsHeldIn (resolved_of o names) x → ⊥)
  none_told o l is told none = subst (λ (z : Option Link). (answer ≡ None) ↔ (IsHeldIn (resolved_of z names) x → ⊥)) (sym is) (none_exactly l x (λ steps. steps_told steps.items) answer told none)
