-- Links whose symbols print under escape names.
use Rattle.std.proofs.Common.{◌≡◌, ◌⊎◌, inl, inr, zero, suc, Bool, true, false, ◌&&◌, Option, Some, None, List, [], ◌∷◌, map, get_or, string_bytes, String, Contains, refl, sym, ap, ◌∙◌, subst}
use Rattle.std.specs.Prelude.{◌≢◌, ℕ, slice_get, if◌then◌else◌}
use Rattle.std.specs.Global.{Global}
use Rattle.wesl_tree_names.specs.Path.{Text, Path}
use Rattle.wesl_tree_names.specs.PathOrder.{same_path}
use Rattle.wesl_tree_syntax.specs.Unit.{UnitView, trees_of}
use Rattle.wesl_link_symbols.specs.declared.ids.PathId.{PathId}
use Rattle.wesl_tree_base.specs.declared.ids.NameId.{NameId}
use Rattle.wesl_link_symbols.specs.declared.symbols.Symbol.{Symbol}
use Rattle.wesl_link_symbols.specs.declared.symbols.LookUp.{LookUp}
use Rattle.wesl_link_symbols.specs.Tables.{Table}
use Rattle.wesl_link_symbols.specs.Names.{Declares}
use Rattle.wesl_link_reach.specs.World.{Task, IsAt, Finds, Entered, Reached, led_to, declared}
use Rattle.wesl_link_symbols.proofs.Lists.{contains_nil, contains_first, contains_later, contains_cases}
use Rattle.wesl_link_reach.proofs.Lists.{contains_map}
use Rattle.wesl_scope_occurrences.specs.Laws.{WaysLeadOutwards, OccurrencesAreIdentifiers}
use Rattle.wesl_scope_occurrences.specs.Occurrences.{Occurrence, occurrences}
use Rattle.wesl_scope_numbers.specs.Faithful.{name_of, IsFaithful}
use Rattle.wesl_link_tables.specs.Numbering.{Numbering, NameAt, PathAt, AreRelated, IsRelatedOption, SameDeclaration, IsNumbered}
use Rattle.wesl_link_tables.specs.TextsView.{numbering_of_texts as numbering}
use Rattle.wesl_link_assembly.specs.Denotations.{symbol, printed_as}
use Rattle.wesl_mangle_forms.specs.Escape.{escape, unescape}
use Rattle.wesl_mangle_forms.specs.Laws.{IsShort, HasShortNames, RoundTrip}
use Rattle.wesl_mangle_forms.proofs.Writing.{text_small, short-names}
use Rattle.wesl_link_engine.specs.Given.{Given}
use Rattle.wesl_link_engine.specs.Worlds.{Module, table, tables, task_of}
use Rattle.wesl_link_engine.specs.Linked.{Denotation, IsAssembled}
use Rattle.wesl_link_engine.specs.Resolved.{Resolved, AssemblesTo, IsMangled, NamesAgree, first_path}
use Rattle.wesl_link_engine.specs.Keeping.{module_of, all_loaded, modules_in, task_in, IsSoundLink, resolved_of, name_under}
use Rattle.wesl_link_engine.specs.declared.link.Link.{Link}
use Rattle.wesl_link_laws.specs.Apart.{OfLocalsAndFree}
use Rattle.wesl_link_laws.specs.Linked.{IsFound, AreEntered, IsEntered}
use Rattle.wesl_link_laws.specs.Escaped.{Holds, HoldsSymbol, AreReadBack, AreReversible, SpellsNoEscape, LeavesEscapes}
use Rattle.wesl_link_laws.proofs.Symbols.{IsHeldSymbol}
use Rattle.wesl_link_laws.proofs.Numbered.{faithful_where_distinct}
use Rattle.wesl_link_laws.proofs.Distinct.{not_so}
use Rattle.wesl_link_laws.proofs.Links.{found_grammatical, kept_found, empty_faithful}

-- ---- the names of a link's modules are short, as each text of code is
related_right : {X Y : Type 0} (R : X → Y → Type 0) (xs : List X) (ys : List Y) → AreRelated R xs ys → (y : Y) → Contains ys y → (x : X) × Contains xs x × R x y
related_right R [] [] h y held = absurd (contains_nil y held)
related_right R [] (z ∷ ys) h y held = absurd h
related_right R (x ∷ xs) [] h y held = absurd h
related_right {X = X} R (x ∷ xs) (z ∷ ys) h y held = by (contains_cases z y ys held) (related_right R xs ys h.1 y)
  where
    by : (z ≡ y) ⊎ Contains ys y → (Contains ys y → (v : X) × Contains xs v × R v y) → (v : X) × Contains (x ∷ xs) v × R v y
    by (inl e) rest = (x, contains_first x xs, subst (λ u. R x u) e h.0)
    by (inr k) rest = let (v, there, r) = rest k in (v, contains_later x v xs there, r)

keys_short : (keys : List (String Global)) (i : ℕ) (n : Text) → slice_get (map string_bytes keys) i ≡ Some n → IsShort n
keys_short [] i n e = absurd (let z : ⊥ = cc in z)
keys_short (k ∷ keys) zero n e =
    let whole : Some (string_bytes k) ≡ Some n = e in
    let same : string_bytes k ≡ n = cc in
    subst IsShort same (text_small k)
keys_short (k ∷ keys) (suc i) n e = keys_short keys i n e

module _ (nb : Numbering) (short : (i : ℕ) (n : Text) → slice_get nb.names i ≡ Some n → IsShort n) where
  numbered_short : (o : Option NameId) (p : Option Text) (n : Text) → IsRelatedOption (NameAt nb) o p → p ≡ Some n → IsShort n
  numbered_short (Some i) (Some x) n r e = let same : x ≡ n = cc in subst IsShort same (short i.0 x r)
  numbered_short (Some i) None n r e = absurd r
  numbered_short None (Some x) n r e = absurd r
  numbered_short None None n r e = absurd (let z : ⊥ = cc in z)

  declared_short : (t : Table PathId NameId) (v : Table Path Text) → IsNumbered nb t v → (n : Text) → Declares v n → IsShort n
  declared_short t v numbered n (d, held, named) =
      let (c, inside, same) = related_right (SameDeclaration (PathAt nb) (NameAt nb)) t.declarations v.declarations numbered.declarations d held in
      numbered_short c.name d.name n same.name named

module _ (l : Link) (sound : IsSoundLink (Some l)) where
  link_short : (m : Module) → Contains (modules_in l) m → (n : Text) → Declares (table m) n → HasShortNames m.path n
  link_short m held n declares =
      let (x, inside, e) = contains_map module_of (all_loaded l) m held in
      let (t, at, numbered, marked) = sound.tabled x inside in
      subst (λ (k : Module). Declares (table k) n → HasShortNames k.path n) e
      (λ d. short-names x.path n (declared_short (numbering l.numbers) (keys_short l.numbers.names.texts.items) t (table (module_of x)) numbered n d)) declares

-- ---- escape names
-- different symbols have different ones, where they are read back
escapes_differ : (p q : Path) (n m : Text) → unescape (escape p n) ≡ Some (p, n) → unescape (escape q m) ≡ Some (q, m) → escape p n ≡ escape q m → (p ≡ q) × (n ≡ m)
escapes_differ p q n m rp rq e = by (p, n) (q, m) (sym rp ∙ (ap unescape e ∙ rq))
  where
    by : (x y : Path × Text) → Some x ≡ Some y → (x.0 ≡ y.0) × (x.1 ≡ y.1)
    by x y h = let same : x ≡ y = cc in (ap (λ (z : Path × Text). z.0) same, ap (λ (z : Path × Text). z.1) same)

abbrev held_symbol : Path → Text → Symbol Path Text
held_symbol p n = record { path = p; name = n }

-- what a link reaches is declared by the module at its path
abbrev IsDeclared : List Module → Symbol Path Text → Type 0
IsDeclared w s = (m : Module) × Contains w m × (m.path ≡ s.path) × Declares (table m) s.name

declared_at : (w : List Module) (s : Symbol Path Text) (t : Table Path Text) → IsAt (tables w) s.path t → Declares t s.name → IsDeclared w s
declared_at w s t at declares =
    let (m, inside, e) = contains_map table w t at.0 in
    (m, inside, ap (λ (x : Table Path Text). x.path) e ∙ at.1, subst (λ (x : Table Path Text). Declares x s.name) (sym e) declares)

found_declared : (w : List Module) (l : LookUp Path Text) (s : Symbol Path Text) → Finds (tables w) l s → IsDeclared w s
found_declared w l s (t, at, answers, e) =
    let (d, inside, named, sees) = answers.0 in
    subst (IsDeclared w) (sym e) (declared_at w (record { path = l.path; name = l.name }) t at (d, inside, named))

reached_declared : (w : List Module) (task : Task Path Text) (s : Symbol Path Text) → Reached (tables w) task s → IsDeclared w s
reached_declared w task s (led_to l _ followed (a, reaches, finds)) = found_declared w a s finds
reached_declared w task s (declared _ t eager entered at declares) = declared_at w s t at declares

module _ (w : List Module) (task : Task Path Text) (names : Path → Text → Text) (agree : NamesAgree w names escape) where
  prints_symbol : (d : Denotation) (h : IsHeldSymbol w task d) → printed_as names d ≡ escape h.home.path h.name
  prints_symbol d h = ap (printed_as names) h.stands_for ∙ agree h.home h.name h.held_home h.declares

  symbols_differ : AreReadBack (Holds w task) → (d e : Denotation) → IsHeldSymbol w task d → IsHeldSymbol w task e → printed_as names d ≡ printed_as names e → d ≡ e
  symbols_differ back d e h k same =
      let both = escapes_differ h.home.path k.home.path h.name k.name (back (held_symbol h.home.path h.name) h.reached) (back (held_symbol k.home.path k.name) k.reached) (sym (prints_symbol d h) ∙ (same ∙ prints_symbol e k)) in
      h.stands_for ∙ (ap (λ p. symbol p h.name) both.0 ∙ (ap (λ n. symbol k.home.path n) both.1 ∙ sym k.stands_for))

  prints_escape : (s : Symbol Path Text) → Holds w task s → names s.path s.name ≡ escape s.path s.name
  prints_escape s reached =
      let (m, inside, at, declares) = reached_declared w task s reached in
      subst (λ p. names p s.name ≡ escape p s.name) at (agree m s.name inside declares)

  module _ (u : UnitView) where
    abbrev all_in : List (Occurrence ℕ)
    all_in = occurrences (trees_of u)

    spells_none : (o : Occurrence ℕ) → SpellsNoEscape (Holds w task) u.names all_in o → (s : Symbol Path Text) → Holds w task s → name_of u.names all_in o ≢ names s.path s.name
    spells_none o free s reached = λ same. not_so (name_of u.names all_in o) (escape s.path s.name) (free s reached) (same ∙ prints_escape s reached)

    leaves_names : LeavesEscapes (Holds w task) u → OfLocalsAndFree u.names all_in (λ o. (s : Symbol Path Text) → Holds w task s → name_of u.names all_in o ≢ names s.path s.name)
    leaves_names others = record {
      locals = λ k d h binds inner. spells_none (get_or all_in k d) (others.locals k d h binds inner);
      free_names = λ k d h unqualified unbound. spells_none (get_or all_in k d) (others.free_names k d h unqualified unbound);
    }

pub linked_escaped : WaysLeadOutwards → OccurrencesAreIdentifiers → (w : List Module) (task : Task Path Text) (names : Path → Text → Text) (unit : UnitView) → IsFound w task → IsAssembled w task names unit
    → NamesAgree w names escape → AreReadBack (Holds w task) → LeavesEscapes (Holds w task) unit → IsFaithful unit
linked_escaped lead identified w task names unit found a agree back others =
    faithful_where_distinct lead identified w task names unit a (found_grammatical w task found) found.once found.entered (symbols_differ w task names agree back) (leaves_names w task names agree unit others)

-- ---- of a `Resolutions`
root_too : (b : Bool) (x y : Text) → (if b && false then x else y) ≡ y
root_too true x y = refl
root_too false x y = refl

same_entered : (a b : Resolved) (ms : List Module) → a.kept ≡ b.kept → a.is_eager ≡ b.is_eager → AreEntered b ms → AreEntered a ms
same_entered a b [] kept eager h = tt
same_entered a b (root ∷ others) kept eager h = λ m c.
    subst (λ e. Entered (tables (root ∷ others)) (task_of root a.kept e) m.path) (sym eager)
    (subst (λ k. Entered (tables (root ∷ others)) (task_of root k b.is_eager) m.path) (sym kept) (h m c))

still_entered : (a b : Resolved) → a.modules ≡ b.modules → a.kept ≡ b.kept → a.is_eager ≡ b.is_eager → IsEntered b → IsEntered a
still_entered a b modules kept eager h = same_entered a b a.modules kept eager (subst (AreEntered b) (sym modules) h)

module _ (trip : RoundTrip) (before : Resolved) (l : Link) (given : Given) (sound : IsSoundLink (Some l)) (escaped : IsMangled escape true before (resolved_of (Some l) given)) where
  kept_agree : NamesAgree (modules_in l) (name_under (numbering l.numbers) given) escape
  kept_agree m n held declares =
      let root = (module_of l.root).path in
      escaped.names root (ap first_path (sym escaped.modules)) m n held declares ∙ root_too (same_path m.path root) n (escape m.path n)

  kept_read_back : AreReversible (Holds (modules_in l) (task_in l)) → AreReadBack (Holds (modules_in l) (task_in l))
  kept_read_back reversible s reached =
      let (m, inside, at, declares) = reached_declared (modules_in l) (task_in l) s reached in
      trip s.path s.name (subst (λ p. HasShortNames p s.name) at (link_short l sound m inside s.name declares)) (reversible s reached)

pub kept_escaped : WaysLeadOutwards → OccurrencesAreIdentifiers → RoundTrip → (before : Resolved) (l : Option Link) (given : Given) (unit : UnitView) → IsSoundLink l → IsEntered before → IsMangled escape true before (resolved_of l given)
    → AssemblesTo (resolved_of l given) unit → AreReversible (HoldsSymbol (resolved_of l given)) → LeavesEscapes (HoldsSymbol (resolved_of l given)) unit → IsFaithful unit
kept_escaped lead identified trip before None given unit sound entered escaped a reversible others = subst IsFaithful (sym a) empty_faithful
kept_escaped lead identified trip before (Some l) given unit sound entered escaped a reversible others =
    linked_escaped lead identified (modules_in l) (task_in l) (name_under (numbering l.numbers) given) unit
    (kept_found l given sound (still_entered (resolved_of (Some l) given) before escaped.modules escaped.kept escaped.eager entered)) a
    (kept_agree trip before l given sound escaped) (kept_read_back trip before l given sound escaped reversible) others
