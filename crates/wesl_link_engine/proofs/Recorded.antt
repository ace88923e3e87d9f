-- The record that a mangler keeps as the modules of a link are mangled.
use Rattle.std.proofs.Common.{◌≡◌, Bool, true, false, Option, Some, None, List, [], ◌∷◌, ◌++◌, refl, sym, ap, subst, ◌∙◌}
use Rattle.std.specs.Prelude.{filter_map}
use Rattle.std.proofs.lemmas.Option.{get_or_from_slice_get}
use Rattle.wesl_tree_names.specs.Path.{Text, Path, path_view}
use Rattle.wesl_link_symbols.specs.declared.ids.PathId.{PathId}
use Rattle.wesl_tree_base.specs.declared.ids.NameId.{NameId}
use Rattle.wesl_link_symbols.specs.Tables.{Declaration, Table}
use Rattle.wesl_link_tables.specs.Numbering.{Numbering, NameAt, PathAt, AreRelated, AreDifferent, IsNumbered, SameDeclaration, IsRelatedOption}
use Rattle.wesl_link_engine.specs.Given.{Given}
use Rattle.wesl_link_engine.specs.Recorded.{Record, Write, IsRecordedBy, all_written, firsts, writes_of, declared_texts, text_of, HasNone}
use Rattle.wesl_link_engine.proofs.Recording.{written_more}
use Rattle.wesl_link_engine.specs.Worlds.{Module, table}
use Rattle.wesl_link_engine.specs.Resolved.{declared_names, writes_from, writes}
use Rattle.wesl_link_engine.specs.Keeping.{module_of, modules_in, modules_of, resolved_of}
use Rattle.wesl_link_engine.specs.declared.loaded.LoadedModule.{LoadedModule}
use Rattle.wesl_link_engine.specs.declared.link.Link.{Link}
use Rattle.wesl_link_engine.specs.declared.resolutions.Resolutions.{Resolutions}
use Rattle.wesl_link_engine.specs.GivenView.{given}
use Rattle.wesl_link_engine.proofs.Built.{paths_one}
use Rattle.wesl_link_engine.proofs.Named.{GivesTo, IsFreshAfter}
use Rattle.wesl_scope_occurrences.proofs.Cutting.{append_nil}

text_is : (nb : Numbering) (n : NameId) (x : Text) → NameAt nb n x → text_of nb n ≡ x
text_is nb n x at = get_or_from_slice_get nb.names n.0 x [] at

-- options that are related, by other words for them
related_as : (nb : Numbering) (o p : Option NameId) (q r : Option Text) → o ≡ p → q ≡ r → IsRelatedOption (NameAt nb) o q → IsRelatedOption (NameAt nb) p r
related_as nb o p q r a b h = subst (λ (z : Option NameId). IsRelatedOption (NameAt nb) z r) a (subst (λ (z : Option Text). IsRelatedOption (NameAt nb) o z) b h)

-- the names of declarations and their texts
names_are : (nb : Numbering) (ds : List (Declaration PathId NameId)) (es : List (Declaration Path Text)) → AreRelated (SameDeclaration (PathAt nb) (NameAt nb)) ds es → declared_texts nb ds ≡ filter_map (λ e. e.name) es
names_are nb [] [] h = refl
names_are nb (d ∷ ds) (e ∷ es) h = by d.name e.name refl refl h.0.name (names_are nb ds es h.1)
  where
    by : (o : Option NameId) (q : Option Text) → d.name ≡ o → e.name ≡ q → IsRelatedOption (NameAt nb) d.name e.name → declared_texts nb ds ≡ filter_map (λ (k : Declaration Path Text). k.name) es → declared_texts nb (d ∷ ds) ≡ filter_map (λ (k : Declaration Path Text). k.name) (e ∷ es)
    by None None f k s rest =
        ap (λ (o : Option NameId). declared_texts nb (record { name = o; place = d.place; references = d.references; unclear = d.unclear } ∷ ds)) f ∙ (rest
        ∙ sym (ap (λ (q : Option Text). filter_map (λ (k : Declaration Path Text). k.name) (record { name = q; place = e.place; references = e.references; unclear = e.unclear } ∷ es)) k))
    by (Some n) (Some x) f k s rest =
        let t : IsRelatedOption (NameAt nb) (Some n) (Some x) = related_as nb d.name (Some n) e.name (Some x) f k s in
        ap (λ (o : Option NameId). declared_texts nb (record { name = o; place = d.place; references = d.references; unclear = d.unclear } ∷ ds)) f
        ∙ (ap (λ (y : Text). y ∷ declared_texts nb ds) (text_is nb n x t) ∙ (ap (λ (ys : List Text). x ∷ ys) rest
        ∙ sym (ap (λ (q : Option Text). filter_map (λ (k : Declaration Path Text). k.name) (record { name = q; place = e.place; references = e.references; unclear = e.unclear } ∷ es)) k)))
    by None (Some x) f k s rest = absurd (related_as nb d.name None e.name (Some x) f k s)
    by (Some n) None f k s rest = absurd (related_as nb d.name (Some n) e.name None f k s)
names_are nb [] (e ∷ es) h = absurd h
names_are nb (d ∷ ds) [] h = absurd h

-- of a module none of whose names was given each declared name is written
pub module_recorded : (nb : Numbering) → AreDifferent nb.paths → (name_of now : Path → Text → Text) → ((p : Path) (x : Text) → now p x ≡ name_of p x) → (ms : List LoadedModule) (m : LoadedModule) → IsFreshAfter ms m
    → (t : Table PathId NameId) → IsNumbered nb t (table (module_of m)) → (old : Given) → GivesTo nb ms name_of old → (w : Bool) (before after : Record)
    → (HasNone t.path old → IsRecordedBy w (writes_of now (path_view m.path) (firsts (declared_texts nb t.declarations))) before after)
    → IsRecordedBy w (writes_of name_of (path_view m.path) (declared_names (module_of m))) before after
module_recorded nb different name_of now same ms m fresh t numbered old s w before after wrote x =
    let none : HasNone t.path old = λ n. s.none t.path n (λ k c there. fresh k c ((paths_one nb different).one t.path (path_view k.path) (path_view m.path) there numbered.path)) in
    let names : now ≡ name_of = λ i p y. same p y i in
    wrote none x ∙ (ap (λ (f : Path → Text → Text). all_written w (writes_of f (path_view m.path) (firsts (declared_texts nb t.declarations))) before x) names
    ∙ ap (λ (ns : List Text). all_written w (writes_of name_of (path_view m.path) (firsts ns)) before x) (names_are nb t.declarations (table (module_of m)).declarations numbered.declarations))

-- one part after the other
pub recorded_then : (w : Bool) (xs ys : List Write) (before now after : Record) → IsRecordedBy w xs before now → IsRecordedBy w ys now after → IsRecordedBy w (xs ++ ys) before after
recorded_then w xs ys before now after h k x =
    let e : now ≡ all_written w xs before = λ i y. h y i in
    k x ∙ (ap (λ (q : Record). all_written w ys q x) e ∙ sym (ap (λ (q : Record). q x) (written_more w xs ys before)))

assoc : {X : Type 0} (xs ys zs : List X) → (xs ++ ys) ++ zs ≡ xs ++ (ys ++ zs)
assoc [] ys zs = refl
assoc (x ∷ xs) ys zs = ap (λ ws. x ∷ ws) (assoc xs ys zs)

pub writes_more : (f : Path → Text → Text) (ms : List Module) (m : Module) → writes_from f (ms ++ m ∷ []) ≡ writes_from f ms ++ writes_of f m.path (declared_names m)
writes_more f [] m = append_nil (writes_of f m.path (declared_names m))
writes_more f (k ∷ ms) m =
    ap (λ (ws : List Write). writes_of f k.path (declared_names k) ++ ws) (writes_more f ms m) ∙ sym (assoc (writes_of f k.path (declared_names k)) (writes_from f ms) (writes_of f m.path (declared_names m)))

-- nothing is written of no module
pub recorded_nothing : (w : Bool) (f : Path → Text → Text) (mangle_root : Bool) (items : Record) → IsRecordedBy w (writes f mangle_root []) items items
recorded_nothing w f true items x = refl
recorded_nothing w f false items x = refl

-- the modules of what is kept
pub recorded_found : (r : Resolutions) (l : Link) → r.link ≡ Some l → (w : Bool) (f : Path → Text → Text) (b : Bool) (old new : Record) → IsRecordedBy w (writes f b (modules_in l)) old new → IsRecordedBy w (writes f b (modules_of r)) old new
recorded_found r l e w f b old new h = subst (λ (o : Option Link). IsRecordedBy w (writes f b (resolved_of o (given r.given)).modules) old new) (sym e) h

pub recorded_none : (r : Resolutions) → ((l : Link) → r.link ≡ Some l → ⊥) → (w : Bool) (f : Path → Text → Text) (b : Bool) (items : Record) → IsRecordedBy w (writes f b (modules_of r)) items items
recorded_none r none w f b items = by r.link refl
  where
    by : (o : Option Link) → r.link ≡ o → IsRecordedBy w (writes f b (resolved_of r.link (given r.given)).modules) items items
    by None e = subst (λ (o : Option Link). IsRecordedBy w (writes f b (resolved_of o (given r.given)).modules) items items) (sym e) (recorded_nothing w f b items)
    by (Some l) e = absurd (none l e)
