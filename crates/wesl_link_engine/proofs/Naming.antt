-- The names that a mangler gave to the symbols of a link.
use Rattle.std.proofs.Common.{◌≡◌, ◌⊎◌, inl, inr, ℕ, zero, suc, ◌<◌, length, take, get_or, arith, Bool, true, false, Option, Some, None, List, [], ◌∷◌, ◌++◌, Contains, refl, sym, subst, ap, ◌∙◌}
use Rattle.std.specs.Prelude.{not, ◌&&◌, if◌then◌else◌}
use Rattle.std.proofs.lemmas.List.Elements.{Contains-append_cases, Contains-append_left}
use Rattle.wesl_tree_names.specs.Path.{Text, Path, path_view}
use Rattle.wesl_tree_names.specs.PathOrder.{same_path}
use Rattle.wesl_tree_names.proofs.Order.{same_path-decides}
use Rattle.wesl_link_symbols.specs.declared.ids.PathId.{PathId}
use Rattle.wesl_tree_base.specs.declared.ids.NameId.{NameId}
use Rattle.wesl_link_symbols.specs.Tables.{Table}
use Rattle.wesl_link_symbols.specs.Names.{Declares}
use Rattle.wesl_link_reach.specs.Faults.{AreDistinct}
use Rattle.wesl_link_reach.specs.Faults.AreDistinct.{one_more as one_distinct}
use Rattle.wesl_link_symbols.proofs.Lists.{contains_nil, contains_first, contains_later, contains_cases}
use Rattle.wesl_link_reach.proofs.Lists.{contains_one, contains_map, map_contains}
use Rattle.wesl_link_tables.specs.Numbering.{Numbering, NameAt, PathAt, AreDifferent, IsNumbered, SameDeclaration}
use Rattle.wesl_link_tables.specs.TextsView.{numbering_of_texts as numbering}
use Rattle.wesl_link_engine.specs.Given.{Given, AreNamed, GivesNames, KeepsOthers, Keeps}
use Rattle.wesl_link_engine.specs.Worlds.{Module, table}
use Rattle.wesl_link_engine.specs.Resolved.{mangled, paths_of, IsMangled}
use Rattle.wesl_link_engine.specs.Keeping.{IsSoundLink, IsSound, resolved, resolved_of, or_own, name_text, name_under, module_of, loaded_modules, all_loaded, modules_in, IsLinkOf, task_in}
use Rattle.wesl_link_engine.specs.Holding.{printed_by, IsGivenAll}
use Rattle.wesl_link_engine.specs.declared.loaded.LoadedModule.{LoadedModule}
use Rattle.wesl_link_engine.specs.declared.link.Link.{Link}
use Rattle.wesl_link_engine.specs.declared.resolutions.Resolutions.{Resolutions}
use Rattle.wesl_link_engine.specs.GivenView.{given}
use Rattle.wesl_link_engine.specs.declared.given.GivenNames.{GivenNames}
use Rattle.wesl_link_engine.proofs.Carried.{related_in, related_back, option_of, option_back, declares_from, IsOneToOne}
use Rattle.wesl_link_engine.proofs.Built.{paths_one, names_one}
use Rattle.wesl_link_engine.proofs.Named.{GivesTo, IsFreshAfter, AreOnlyRoot}
use Rattle.wesl_link_engine.proofs.Texts.{name_is, name_by}
use Rattle.wesl_link_engine.proofs.Lists.{item_held}
use Rattle.std.proofs.lemmas.Bool.{false_from_ne_true}

-- each declared name of a numbered table has a text
pub all_named : (nb : Numbering) (t : Table PathId NameId) (m : Module) → IsNumbered nb t (table m) → AreNamed nb t
all_named nb t m same n (d, c, e) =
    let (f, held, k) = related_in (SameDeclaration (PathAt nb) (NameAt nb)) t.declarations (table m).declarations d same.declarations c in
    let (x, is, also) = option_of (NameAt nb) d.name f.name n k.name e in
    (x, also)

pub gives_none : (nb : Numbering) (name_of : Path → Text → Text) (given : Given) → ((p : PathId) (n : NameId) → given (record { path = p; name = n }) ≡ None) → GivesTo nb [] name_of given
gives_none nb name_of given h = record { names = λ m p n x c. absurd (contains_nil m c); none = λ p n f. h p n }

module _ (nb : Numbering) (different_paths : AreDifferent nb.paths) (different_names : AreDifferent nb.names) (name_of now : Path → Text → Text) (same_names : (p : Path) (x : Text) → now p x ≡ name_of p x)
    (ms : List LoadedModule) (m : LoadedModule) (fresh : (k : LoadedModule) → Contains ms k → path_view k.path ≡ path_view m.path → ⊥) (t : Table PathId NameId) (same : IsNumbered nb t (table (module_of m))) (old new : Given)
    (s : GivesTo nb ms name_of old) (gives : GivesNames nb (now (path_view m.path)) t old new) (others : KeepsOthers t.path old new) (keeps : Keeps old new) where
  P : IsOneToOne (PathAt nb)
  P = paths_one nb different_paths

  here : (p : PathId) (n : NameId) (x : Text) → Declares (table (module_of m)) x → PathAt nb p (path_view m.path) → NameAt nb n x → new (record { path = p; name = n }) ≡ Some (name_of (path_view m.path) x)
  here p n x d at named =
      let is : t.path ≡ p = P.other t.path p (path_view m.path) same.path at in
      let none : old (record { path = t.path; name = n }) ≡ None = s.none t.path n (λ k c there. fresh k c (P.one t.path (path_view k.path) (path_view m.path) there same.path)) in
      let got : new (record { path = t.path; name = n }) ≡ Some (now (path_view m.path) x) = gives n x (declares_from (PathAt nb) (NameAt nb) P (names_one nb different_names) t (table (module_of m)) same n x named d) named none in
      ap (λ q. new (record { path = q; name = n })) (sym is) ∙ (got ∙ ap Some (same_names (path_view m.path) x))

  pub gives_more : GivesTo nb (ms ++ m ∷ []) name_of new
  gives_more = record {
    names = λ k p n x c d at named. by k p n x (Contains-append_cases ms (m ∷ []) k c) d at named;
    none = λ p n f.
        others (record { path = p; name = n }) (λ e. f m (last_held ms) (subst (λ (q : PathId). PathAt nb q (path_view m.path)) (sym e) same.path)) ∙ s.none p n (λ k c at. f k (first_held k c) at);
  }
    where
      by : (k : LoadedModule) (p : PathId) (n : NameId) (x : Text) → Contains ms k ⊎ Contains (m ∷ []) k → Declares (table (module_of k)) x → PathAt nb p (path_view k.path) → NameAt nb n x → new (record { path = p; name = n }) ≡ Some (name_of (path_view k.path) x)
      by k p n x (inl c) d at named = keeps (record { path = p; name = n }) (name_of (path_view k.path) x) (s.names k p n x c d at named)
      by k p n x (inr c) d at named =
          let e : m ≡ k = contains_one m k c in
          subst (λ (z : LoadedModule). Declares (table (module_of z)) x → PathAt nb p (path_view z.path) → new (record { path = p; name = n }) ≡ Some (name_of (path_view z.path) x)) e (λ d2 at2. here p n x d2 at2 named) d at

      last_held : (xs : List LoadedModule) → Contains (xs ++ m ∷ []) m
      last_held [] = contains_first m []
      last_held (x ∷ xs) = contains_later x m (xs ++ m ∷ []) (last_held xs)

      first_held : (k : LoadedModule) → Contains ms k → Contains (ms ++ m ∷ []) k
      first_held k c = Contains-append_left ms (m ∷ []) k c

-- ---- all modules

never : (b : Bool) → (b && not true) ≡ false
never true = refl
never false = refl

module _ (l : Link) (name_of : Path → Text → Text) (given : Given) where
  -- the root's too
  pub given_all : GivesTo (numbering l.numbers) (all_loaded l) name_of given → IsGivenAll l true name_of given
  given_all s m c p n x d at named =
      let root : Path = path_view l.root.path in
      let plain : mangled root true name_of (path_view m.path) x ≡ name_of (path_view m.path) x = ap (λ b. if b then x else name_of (path_view m.path) x) (never (same_path (path_view m.path) root)) in
      ap (or_own (name_text (numbering l.numbers) n)) (s.names m p n x c d at named) ∙ sym plain

  -- but the root's
  pub given_others : AreDistinct (paths_of (modules_in l)) → GivesTo (numbering l.numbers) l.others.items name_of given → IsGivenAll l false name_of given
  given_others (one_distinct _ _ fresh distinct) s m c p n x d at named = by (contains_cases l.root m l.others.items c)
    where
      apart : (k : LoadedModule) → Contains l.others.items k → path_view k.path ≡ path_view l.root.path → ⊥
      apart k held e = fresh (subst (λ (q : Path). Contains (paths_of (loaded_modules l.others.items)) q) e (map_contains (λ (z : Module). z.path) (loaded_modules l.others.items) (module_of k) (map_contains module_of l.others.items k held)))

      by : (l.root ≡ m) ⊎ Contains l.others.items m → printed_by (numbering l.numbers) given p n ≡ mangled (path_view l.root.path) false name_of (path_view m.path) x
      by (inl e) =
          let same : same_path (path_view m.path) (path_view l.root.path) ≡ true = (same_path-decides (path_view m.path) (path_view l.root.path)).1 (ap (λ (z : LoadedModule). path_view z.path) (sym e)) in
          let none : given (record { path = p; name = n }) ≡ None = s.none p n (λ k held there. apart k held ((paths_one (numbering l.numbers) l.numbers.paths.different).one p (path_view k.path) (path_view l.root.path) there (subst (λ (z : LoadedModule). PathAt (numbering l.numbers) p (path_view z.path)) (sym e) at))) in
          ap (or_own (name_text (numbering l.numbers) n)) none ∙ (name_is (numbering l.numbers) n x named ∙ sym (ap (λ b. if b && not false then x else name_of (path_view m.path) x) same))
      by (inr held) =
          let other : same_path (path_view m.path) (path_view l.root.path) ≡ false = false_from_ne_true (same_path (path_view m.path) (path_view l.root.path)) (λ e. apart m held ((same_path-decides (path_view m.path) (path_view l.root.path)).0 e)) in
          ap (or_own (name_text (numbering l.numbers) n)) (s.names m p n x held d at named) ∙ sym (ap (λ b. if b && not false then x else name_of (path_view m.path) x) other)

-- what modules declare prints as was given
pub names_given : (l : Link) → IsLinkOf (task_in l) l → (given : Given) (mangle_root : Bool) (name_of : Path → Text → Text) → IsGivenAll l mangle_root name_of given
    → (m : Module) (x : Text) → Contains (modules_in l) m → Declares (table m) x → name_under (numbering l.numbers) given m.path x ≡ mangled (path_view l.root.path) mangle_root name_of m.path x
names_given l sound given mangle_root name_of h m x c d =
    let (k, held, e) = contains_map module_of (all_loaded l) m c in
    subst (λ (z : Module). Declares (table z) x → name_under (numbering l.numbers) given z.path x ≡ mangled (path_view l.root.path) mangle_root name_of z.path x) e (by k held) d
  where
    by : (k : LoadedModule) → Contains (all_loaded l) k → Declares (table (module_of k)) x → name_under (numbering l.numbers) given (path_view k.path) x ≡ mangled (path_view l.root.path) mangle_root name_of (path_view k.path) x
    by k held declared =
        let (t, at, same, marked) = sound.tabled k held in
        let (e, there, is_x) = declared in
        let (f, in_t, row) = related_in (λ a b. SameDeclaration (PathAt (numbering l.numbers)) (NameAt (numbering l.numbers)) b a) (table (module_of k)).declarations t.declarations e
        (related_back (SameDeclaration (PathAt (numbering l.numbers)) (NameAt (numbering l.numbers))) (λ a b. SameDeclaration (PathAt (numbering l.numbers)) (NameAt (numbering l.numbers)) b a) (λ a b y. y) t.declarations (table (module_of k)).declarations same.declarations) there in
        let (n, is_n, also) = option_of (λ a b. NameAt (numbering l.numbers) b a) e.name f.name x (option_back (NameAt (numbering l.numbers)) f.name e.name row.name) is_x in
        name_by (numbering l.numbers) l.numbers.paths.different l.numbers.names.different given t.path n (path_view k.path) x same.path also ∙ h k held t.path n x declared same.path also

-- ---- one module after the other

fresh_next : (ys : List LoadedModule) → AreDistinct (paths_of (loaded_modules ys)) → (j : ℕ) (m k : LoadedModule) → j < length ys → m ≡ get_or ys j m → Contains (take j ys) k → path_view k.path ≡ path_view m.path → ⊥
fresh_next [] d j m k b e c same = absurd (omega arith)
fresh_next (y ∷ ys) d zero m k b e c same = contains_nil k c
fresh_next (y ∷ ys) (one_distinct _ _ fresh d) (suc j) m k b e c same = by (contains_cases y k (take j ys) c) (λ held. fresh_next ys d j m k (omega arith) e held same)
  where
    there : Contains (paths_of (loaded_modules ys)) (path_view m.path)
    there = map_contains (λ (z : Module). z.path) (loaded_modules ys) (module_of m) (map_contains module_of ys m (item_held ys j m (omega arith) e))

    by : (y ≡ k) ⊎ Contains (take j ys) k → (Contains (take j ys) k → ⊥) → ⊥
    by (inl is) rest = fresh (subst (λ (q : Path). Contains (paths_of (loaded_modules ys)) q) (sym same ∙ ap (λ (z : LoadedModule). path_view z.path) (sym is)) there)
    by (inr held) rest = rest held

-- no module before has the path of the next of the others
pub fresh_other : (l : Link) → AreDistinct (paths_of (modules_in l)) → (ms : List LoadedModule) → AreOnlyRoot l ms → (i : ℕ) (m : LoadedModule) → i < length l.others.items → m ≡ get_or l.others.items i m → IsFreshAfter (ms ++ take i l.others.items) m
fresh_other l distinct ms only i m b e k c same = elim (Contains-append_cases ms (take i l.others.items) k c) [
  | inl h ↦ fresh_next (all_loaded l) distinct (suc i) m k (omega arith) e (subst (λ (z : LoadedModule). Contains (l.root ∷ take i l.others.items) z) (sym (only k h)) (contains_first l.root (take i l.others.items))) same
  | inr h ↦ fresh_next (all_loaded l) distinct (suc i) m k (omega arith) e (contains_later l.root k (take i l.others.items) h) same
]

-- ---- a mangling

pub mangled_some : (l : Link) → IsLinkOf (task_in l) l → (before after : Given) (mangle_root : Bool) (name_of : Path → Text → Text) → IsGivenAll l mangle_root name_of after
    → IsMangled name_of mangle_root (resolved_of (Some l) before) (resolved_of (Some l) after)
mangled_some l sound before after mangle_root name_of h = record {
  modules = refl;
  kept = refl;
  eager = refl;
  turns = refl;
  names = λ root is m x c d.
      let at : path_view l.root.path ≡ root = cc in
      names_given l sound after mangle_root name_of h m x c d ∙ ap (λ p. mangled p mangle_root name_of m.path x) at;
}

pub mangled_none : (before after : Given) (mangle_root : Bool) (name_of : Path → Text → Text) → IsMangled name_of mangle_root (resolved_of None before) (resolved_of None after)
mangled_none before after mangle_root name_of = record { modules = refl; kept = refl; eager = refl; turns = refl; names = λ root is m x c d. absurd (contains_nil m c) }

pub mangled_found : (r q : Resolutions) (l : Link) (n : GivenNames) (mangle_root : Bool) (name_of : Path → Text → Text) → r.link ≡ Some l → IsSound r → q.link ≡ r.link → q.given ≡ n → IsGivenAll l mangle_root name_of (given n) → IsMangled name_of mangle_root (resolved r) (resolved q)
mangled_found r q l n mangle_root name_of is sound same_link same_given h =
    subst (λ (o : Option Link). IsMangled name_of mangle_root (resolved_of o (given r.given)) (resolved q)) (sym is)
    (subst (λ (o : Option Link). IsMangled name_of mangle_root (resolved_of (Some l) (given r.given)) (resolved_of o (given q.given))) (sym (same_link ∙ is))
    (subst (λ (x : GivenNames). IsMangled name_of mangle_root (resolved_of (Some l) (given r.given)) (resolved_of (Some l) (given x))) (sym same_given)
    (mangled_some l (subst (λ (o : Option Link). IsSoundLink o) is sound) (given r.given) (given n) mangle_root name_of h)))

pub mangled_nothing : (r q : Resolutions) (mangle_root : Bool) (name_of : Path → Text → Text) → ((l : Link) → r.link ≡ Some l → ⊥) → q ≡ r → IsMangled name_of mangle_root (resolved r) (resolved q)
mangled_nothing r q mangle_root name_of none same = subst (λ (x : Resolutions). IsMangled name_of mangle_root (resolved r) (resolved x)) (sym same) (by r.link refl)
  where
    by : (o : Option Link) → r.link ≡ o → IsMangled name_of mangle_root (resolved r) (resolved r)
    by None e = subst (λ (o : Option Link). IsMangled name_of mangle_root (resolved_of o (given r.given)) (resolved_of o (given r.given))) (sym e) (mangled_none (given r.given) (given r.given) mangle_root name_of)
    by (Some l) e = absurd (none l e)
