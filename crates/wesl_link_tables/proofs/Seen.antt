-- What an identifier is among all of its module, as the code sees it.
use Rattle.std.proofs.Common.{◌≡◌, ℕ, zero, suc, ◌+◌, ◌<◌, ◌≤◌, Bool, true, false, None, List, [], ◌∷◌, map, length, get_or, arith, refl, sym, subst, ap, ◌∙◌}
use Rattle.std.proofs.lemmas.List.{length-map, drop_all}
use denote.Ref.{Bor}
use Rattle.wesl_tree_names.specs.Path.{Text, Path, path_view}
use Rattle.wesl_tree_names.specs.declared.names.Ident.{Ident}
use Rattle.wesl_tree_names.specs.declared.path.ModulePath.{ModulePath}
use Rattle.wesl_tree_syntax.specs.Tree.{TreeOf}
use Rattle.wesl_tree_syntax.specs.Unit.{name_in}
use Rattle.wesl_cond_choices.specs.declared.place.Place.{Place}
use Rattle.wesl_cond_choices.specs.declared.place.Place.TheVariants.{Name}
use Rattle.wesl_tree_base.specs.declared.ids.NameId.{NameId}
use Rattle.wesl_scope_occurrences.specs.Occurrences as spec
use Rattle.wesl_scope_occurrences.specs.Occurrences.{Standing, module_name, parameter, local as local_name, reference, word, occurrences}
use Rattle.wesl_scope_occurrences.specs.Ways.{way}
use Rattle.wesl_scope_occurrences.proofs.Joined.{way_module, way_unfolds}
use Rattle.wesl_scope_meanings.specs.Scopes.{Key, bound, key_of}
use Rattle.wesl_scope_meanings.specs.Sensed as read_as
use Rattle.wesl_scope_meanings.specs.Sensed.{of_module, number_in}
use Rattle.wesl_scope_meanings.specs.Senses.{IsSenseBelow, sense_view, key_in, by_name, first_path, manner_as, manner_of, manner_in}
use Rattle.wesl_scope_meanings.specs.Read.{senses_in, paths_read, name_read, told_by, is_declared_in, meaning_read}
use Rattle.wesl_scope_meanings.specs.declared.sense.Sense.{Sense}
use Rattle.wesl_scope_meanings.specs.declared.sense.Sense.TheVariants as made
use Rattle.wesl_scope_meanings.proofs.Keyed.{first_at}
use Rattle.wesl_link_symbols.specs.Tables.{Declaration}
use Rattle.wesl_link_split.specs.Split.{Scope}
use Rattle.wesl_link_tables.specs.Numbering.{Numbering, NameAt}
use Rattle.wesl_link_tables.specs.Reading.{IsRead, IsNumberedBy, Marks, view_in, unit_in, scope_in, all_uses, use_at, plain_in, aimed_in, use_read, used_as}
use Rattle.wesl_link_tables.specs.Tables.{declaration_of, declarations_from}
use Rattle.wesl_link_tables.specs.Uses.{Use, local, meant, use_as, use_of}
use Rattle.wesl_link_tables.specs.declared.marks.Asked.{Asked}
use Rattle.wesl_link_tables.specs.declared.marks.Mark.{Mark}
use Rattle.wesl_link_tables.specs.declared.reading.Reading.{Reading}
use Rattle.wesl_link_tables.proofs.Lists.{get_mapped}
use Rattle.wesl_link_tables.proofs.Naming.{related_length, related_at}
use Rattle.wesl_link_tables.proofs.Placed.{place_there}

-- ---- the declarations of a table

module _ (s : Scope Path Text) where
  pub declarations_length : (n : ℕ) (ts : List (TreeOf Text)) (us : List (List (Use Path Text))) → length ts ≡ length us → length (declarations_from s n ts us) ≡ length ts
  declarations_length n [] [] e = refl
  declarations_length n [] (u ∷ us) e = refl
  declarations_length n (t ∷ ts) [] e = absurd (omega (arith, e))
  declarations_length n (t ∷ ts) (u ∷ us) e = ap suc (declarations_length (suc n) ts us (omega (arith, e)))

  pub declarations_at : (n : ℕ) (ts : List (TreeOf Text)) (us : List (List (Use Path Text))) (i : ℕ) (t : TreeOf Text) (u : List (Use Path Text)) (z : Declaration Path Text) → i < length ts → i < length us → t ≡ get_or ts i t → u ≡ get_or us i u
      → get_or (declarations_from s n ts us) i z ≡ declaration_of s (n + i) t u
  declarations_at n [] us i t u z h k e f = absurd (omega (arith, h))
  declarations_at n (a ∷ ts) [] i t u z h k e f = absurd (omega (arith, k))
  declarations_at n (a ∷ ts) (b ∷ us) zero t u z h k e f = let m : n + zero ≡ n = omega arith in ap (λ x. declaration_of s n x b) (sym e) ∙ (ap (declaration_of s n t) (sym f) ∙ ap (λ j. declaration_of s j t u) (sym m))
  declarations_at n (a ∷ ts) (b ∷ us) (suc i) t u z h k e f = let m : suc n + i ≡ n + suc i = omega arith in declarations_at (suc n) ts us i t u z (omega (arith, h)) (omega (arith, k)) e f ∙ ap (λ j. declaration_of s j t u) m

-- ---- the identifiers of a module that is read

use_manner : (s : Scope Path Text) (here : Place) (r : Standing) (x : Text) (k : Key) → use_as s here r x k ≡ use_read s here (manner_as r) x k
use_manner s here module_name x k = refl
use_manner s here parameter x k = refl
use_manner s here (local_name e) x k = refl
use_manner s here (reference p) x k = refl
use_manner s here word x k = refl

any_one : spec.Occurrence Text
any_one = record { role = word; name = []; place = 0; block = []; declaration = None; excused = false }

module _ (r : Reading) (read : IsRead r) where
  abbrev all : List Sense
  all = r.senses.now.all.items

  abbrev os : List (spec.Occurrence Text)
  os = occurrences (unit_in r)

  count_is : length os ≡ length all
  count_is = sym (length-map os manner_of) ∙ (ap length (sym read.senses.manners) ∙ (length-map (senses_in r.senses.now) manner_in ∙ length-map all sense_view))

  pub uses_length : length (all_uses r) ≡ length all
  uses_length = length-map os _ ∙ count_is

  module _ (i : ℕ) (s : Sense) (bound_i : i < length all) (at : s ≡ get_or all i s) where
    abbrev o : spec.Occurrence Text
    o = get_or os i any_one

    view_there : get_or (senses_in r.senses.now) i (sense_view s) ≡ sense_view s
    view_there = get_mapped sense_view all i s bound_i (sense_view s) ∙ ap sense_view (sym at)

    -- what is the same for each is the same for this one
    same_at : {X : Type 0} (f : read_as.Sense → X) (g : spec.Occurrence Text → X) → map f (senses_in r.senses.now) ≡ map g os → f (sense_view s) ≡ g o
    same_at f g e =
        let d = f (sense_view s) in
        let read_bound : i < length (senses_in r.senses.now) = omega (arith, bound_i, length-map all sense_view) in
        ap f (sym view_there) ∙ (sym (get_mapped f (senses_in r.senses.now) i (sense_view s) read_bound d) ∙ (ap (λ l. get_or l i d) e ∙ get_mapped g os i any_one (omega (arith, bound_i, count_is)) d))

    pub use_there : use_at r i ≡ used_as r (Name i) (sense_view s) (name_read (view_in r) (sense_view s))
    use_there =
        let sc = scope_in r in
        let x = name_read (view_in r) (sense_view s) in
        let m = manner_in (sense_view s) in
        let one : use_at r i ≡ use_read sc (Name o.place) (manner_of o) o.name (key_of os o) = get_mapped (use_of sc os) os i any_one (omega (arith, bound_i, count_is)) (local 0 []) ∙ use_manner sc (Name o.place) o.role o.name (key_of os o) in
        one
        ∙ (ap (λ p. use_read sc (Name p) (manner_of o) o.name (key_of os o)) (place_there (view_in r) i any_one (omega (arith, bound_i, count_is)))
        ∙ (ap (λ n. use_read sc (Name i) n o.name (key_of os o)) (sym (same_at manner_in manner_of read.senses.manners))
        ∙ (ap (λ n. use_read sc (Name i) m n (key_of os o)) (sym (same_at (name_read (view_in r)) (λ u. u.name) read.senses.names))
        ∙ ap (λ k. use_read sc (Name i) m x k) (sym (same_at (meaning_read (view_in r) r.senses.now) (key_of os) read.senses.keys)))))

    -- the mark of an identifier that is read so is its mark among all
    pub mark_there : (nb : Numbering) (m : Mark) (old new : Asked) → Marks nb m old new (used_as r (Name i) (sense_view s) (name_read (view_in r) (sense_view s))) → Marks nb m old new (use_at r i)
    mark_there nb m old new marked = subst (Marks nb m old new) (sym use_there) marked

    pub number_there : number_in (sense_view s) < length (view_in r).names
    number_there = subst (λ x. number_in x < length (view_in r).names) view_there (read.senses.named i (sense_view s) (omega (arith, bound_i, length-map all sense_view)))

    pub below_there : IsSenseBelow (length r.senses.now.outer.items) (sense_view s)
    below_there = subst (IsSenseBelow (length r.senses.now.outer.items)) view_there (read.senses.below i (sense_view s) (omega (arith, bound_i, length-map all sense_view)))

    module _ (nb : Numbering) (q : IsNumberedBy nb r) where
      pub id_there : number_in (sense_view s) < length r.ids.now
      id_there = omega (arith, number_there, related_length (NameAt nb) r.ids.now (view_in r).names q.ids)

      pub name_there : (n : ℕ) (id : NameId) → n ≡ number_in (sense_view s) → id ≡ get_or r.ids.now n id → NameAt nb id (name_read (view_in r) (sense_view s))
      name_there n id e f = related_at (NameAt nb) r.ids.now (view_in r).names (number_in (sense_view s)) id [] q.ids id_there (f ∙ ap (λ k. get_or r.ids.now k id) e)

-- ---- what names ask for, by how they are read

module _ (r : Reading) (here : Place) (x : Text) (s : Sense) where
  abbrev block_way : ℕ → spec.Block
  block_way = way r.senses.now.outer.items

  way_first : (outer : List ℕ) → way outer 0 ≡ []
  way_first [] = refl
  way_first (b ∷ outer) = way_module (b ∷ outer) (omega arith)

  pub read_module : (i : Ident) → s ≡ made.OfModule i → used_as r here (sense_view s) x ≡ plain_in r here x
  read_module i e = ap (λ k. used_as r here (sense_view k) x) e ∙ by (is_declared_in (view_in r) i.0)
    where
      by : (known : Bool) → meant (scope_in r) here x (told_by block_way (key_in (λ k. known) (view_in r).names (paths_read r.senses.now) (of_module i.0))) ≡ plain_in r here x
      by true = ap (λ w. meant (scope_in r) here x (bound w (name_in (view_in r).names i.0))) (way_first r.senses.now.outer.items)
      by false = refl

  pub read_outer : (i : Ident) (b : ℕ) → s ≡ made.OfBlock i b → b ≤ 0 → used_as r here (sense_view s) x ≡ plain_in r here x
  read_outer i b e h =
      let z : b ≡ 0 = omega (arith, h) in
      ap (λ k. used_as r here (sense_view k) x) e
      ∙ (ap (λ k. meant (scope_in r) here x (bound (block_way k) (name_in (view_in r).names i.0))) z
      ∙ ap (λ w. meant (scope_in r) here x (bound w (name_in (view_in r).names i.0))) (way_first r.senses.now.outer.items))

  pub read_local : IsRead r → (i : Ident) (b : ℕ) → s ≡ made.OfBlock i b → 0 < b → IsSenseBelow (length r.senses.now.outer.items) (sense_view s) → used_as r here (sense_view s) x ≡ local b x
  read_local read i b e h below =
      let some : b < length r.senses.now.outer.items = subst (λ k. IsSenseBelow (length r.senses.now.outer.items) (sense_view k)) e below in
      ap (λ k. used_as r here (sense_view k) x) e
      ∙ ap (λ w. meant (scope_in r) here x (bound w (name_in (view_in r).names i.0))) (way_unfolds r.senses.now.outer.items b read.senses.nested h some)

  abbrev by_path_at : ℕ → List Path → Use Path Text
  by_path_at i qs = meant (scope_in r) here x (told_by block_way (by_name (name_in (view_in r).names i) (first_path qs)))

  pub read_aimed : (i : Ident) (n : ℕ) (p : Bor ModulePath) → s ≡ made.ByPath i n → n < length r.senses.now.paths.items → p ≡ get_or r.senses.now.paths.items n p → used_as r here (sense_view s) x ≡ aimed_in r here p.now x
  read_aimed i n p e h at =
      ap (λ k. used_as r here (sense_view k) x) e
      ∙ ap (λ o. meant (scope_in r) here x (told_by block_way (by_name (name_in (view_in r).names i.0) o))) (first_at (λ q. path_view q.now) r.senses.now.paths.items n p h at)

  pub read_past : (i : Ident) (n : ℕ) → s ≡ made.ByPath i n → length r.senses.now.paths.items ≤ n → used_as r here (sense_view s) x ≡ plain_in r here x
  read_past i n e h =
      ap (λ k. used_as r here (sense_view k) x) e
      ∙ ap (by_path_at i.0) (drop_all n (paths_read r.senses.now) (omega (arith, h, length-map r.senses.now.paths.items (λ q. path_view q.now))))
