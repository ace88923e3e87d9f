-- The names that a mangler gives to the modules of a link one after the other, and what it records.
use Rattle.std.proofs.Common.{◌≡◌, ℕ, ◌<◌, ◌+◌, Bool, true, false, None, List, [], ◌∷◌, ◌++◌, take, length, get_or, refl, sym, ap, subst, ◌∙◌, append_assoc}
use Rattle.std.proofs.lemmas.List.{map-append}
use Rattle.wesl_tree_names.specs.Path.{Text, Path, path_view}
use Rattle.wesl_link_symbols.specs.declared.ids.PathId.{PathId}
use Rattle.wesl_tree_base.specs.declared.ids.NameId.{NameId}
use Rattle.wesl_link_symbols.specs.Tables.{Table}
use Rattle.wesl_link_symbols.proofs.Lists.{contains_nil}
use Rattle.wesl_link_reach.specs.Faults.{AreDistinct}
use Rattle.wesl_link_reach.proofs.Lists.{contains_one}
use Rattle.wesl_link_tables.specs.Numbering.{IsNumbered}
use Rattle.wesl_link_tables.specs.TextsView.{numbering_of_texts as numbering}
use Rattle.wesl_link_tables.proofs.Lists.{take_next}
use Rattle.wesl_link_engine.specs.Given.{Given, GivesNames, KeepsOthers, Keeps}
use Rattle.wesl_link_engine.specs.Recorded.{Record, Write, IsRecordedBy, HasNone, all_written, firsts, writes_of, declared_texts}
use Rattle.wesl_link_engine.specs.Worlds.{Module, table}
use Rattle.wesl_link_engine.specs.Resolved.{paths_of, declared_names, writes}
use Rattle.wesl_link_engine.specs.Keeping.{module_of, loaded_modules, modules_in}
use Rattle.wesl_link_engine.specs.Holding.{IsGivenAll}
use Rattle.wesl_link_engine.specs.declared.loaded.LoadedModule.{LoadedModule}
use Rattle.wesl_link_engine.specs.declared.link.Link.{Link}
use Rattle.wesl_link_engine.proofs.Named.{GivesTo, IsFreshAfter, AreOnlyRoot}
use Rattle.wesl_link_engine.proofs.Naming.{gives_none, gives_more, given_all, given_others, fresh_other}
use Rattle.wesl_link_engine.proofs.Recorded.{module_recorded, recorded_then, writes_more}

-- the root, where it is to be mangled
abbrev pub begun : Bool → LoadedModule → List LoadedModule
begun true root = root ∷ []
begun false root = []

-- These of the other modules have the names that the mangler gives, after the root where it is to be mangled; and so it was
-- recorded.
pub record Mangles (l : Link) (mangle_root : Bool) (name_of : Path → Text → Text) (w : Bool) (start : Record) (ms : List LoadedModule) (given : Given) (now : Path → Text → Text) (record_now : Record) : Type 0 where
  pub names : GivesTo (numbering l.numbers) (begun mangle_root l.root ++ ms) name_of given
  pub recorded : IsRecordedBy w (writes name_of mangle_root (module_of l.root ∷ loaded_modules ms)) start record_now
  pub same : (p : Path) (x : Text) → now p x ≡ name_of p x

begun_root : (l : Link) (b : Bool) → AreOnlyRoot l (begun b l.root)
begun_root l true k h = sym (contains_one l.root k h)
begun_root l false k h = absurd (contains_nil k h)

writes_next : (f : Path → Text → Text) (b : Bool) (root : Module) (ms : List Module) (m : Module) → writes f b (root ∷ (ms ++ m ∷ [])) ≡ writes f b (root ∷ ms) ++ writes_of f m.path (declared_names m)
writes_next f true root ms m = writes_more f (root ∷ ms) m
writes_next f false root ms m = writes_more f ms m

-- a module's names are given, and recorded
pub record GivesTable (l : Link) (w : Bool) (m : LoadedModule) (now : Path → Text → Text) (old new : Given) (before after : Record) : Type 0 where
  pub t : Table PathId NameId
  pub numbered : IsNumbered (numbering l.numbers) t (table (module_of m))
  pub gives : GivesNames (numbering l.numbers) (now (path_view m.path)) t old new
  pub others : KeepsOthers t.path old new
  pub keeps : Keeps old new
  pub wrote : HasNone t.path old → IsRecordedBy w (writes_of now (path_view m.path) (firsts (declared_texts (numbering l.numbers) t.declarations))) before after

module _ (l : Link) (f : Path → Text → Text) (w : Bool) where
  given_next : (ms : List LoadedModule) (m : LoadedModule) → IsFreshAfter ms m → (now : Path → Text → Text) → ((p : Path) (x : Text) → now p x ≡ f p x) → (old new : Given) (before after : Record)
      → GivesTable l w m now old new before after → GivesTo (numbering l.numbers) ms f old → GivesTo (numbering l.numbers) (ms ++ m ∷ []) f new
  given_next ms m fresh now same old new before after h s =
      gives_more (numbering l.numbers) l.numbers.paths.different l.numbers.names.different f now same ms m fresh h.t h.numbered old new s h.gives h.others h.keeps

  recorded_one : (ms : List LoadedModule) (m : LoadedModule) → IsFreshAfter ms m → (now : Path → Text → Text) → ((p : Path) (x : Text) → now p x ≡ f p x) → (old new : Given) (before after : Record)
      → GivesTable l w m now old new before after → GivesTo (numbering l.numbers) ms f old → IsRecordedBy w (writes_of f (path_view m.path) (declared_names (module_of m))) before after
  recorded_one ms m fresh now same old new before after h s =
      module_recorded (numbering l.numbers) l.numbers.paths.different f now same ms m fresh h.t h.numbered old s w before after h.wrote

  -- nothing is named yet
  pub begins : (given : Given) → ((p : PathId) (n : NameId) → given (record { path = p; name = n }) ≡ None) → (start : Record) → Mangles l false f w start [] given f start
  begins given none start = record { names = gives_none (numbering l.numbers) f given none; recorded = λ x. refl; same = λ p x. refl }

  -- the root's names are given
  pub begins_root : (old new : Given) → ((p : PathId) (n : NameId) → old (record { path = p; name = n }) ≡ None) → (next : Path → Text → Text) → ((p : Path) (x : Text) → next p x ≡ f p x) → (before after : Record)
      → GivesTable l w l.root f old new before after → Mangles l true f w before [] new next after
  begins_root old new none next same before after h =
      let first = gives_none (numbering l.numbers) f old none in
      let fresh : IsFreshAfter [] l.root = λ k c. absurd (contains_nil k c) in
      record {
        names = given_next [] l.root fresh f (λ p x. refl) old new before after h first;
        recorded = λ x. recorded_one [] l.root fresh f (λ p x. refl) old new before after h first x ∙ ap (λ (ws : List Write). all_written w ws before x) (sym (writes_more f [] (module_of l.root)));
        same = same;
      }

  module _ (distinct : AreDistinct (paths_of (modules_in l))) (b : Bool) (start : Record) where
    -- those of the next of the other modules are
    pub goes_on : (xs : List LoadedModule) → xs ≡ l.others.items → (i : ℕ) (m : LoadedModule) → i < length xs → m ≡ get_or xs i m → (old new : Given) (now next : Path → Text → Text) → ((p : Path) (x : Text) → next p x ≡ now p x)
        → (before after : Record) → GivesTable l w m now old new before after → Mangles l b f w start (take i xs) old now before → Mangles l b f w start (take (i + 1) xs) new next after
    goes_on xs are i m below is old new now next on before after h s =
        let fresh : IsFreshAfter (begun b l.root ++ take i xs) m =
        subst (λ (ys : List LoadedModule). IsFreshAfter (begun b l.root ++ take i ys) m) (sym are)
        (fresh_other l distinct (begun b l.root) (begun_root l b) i m (subst (λ (ys : List LoadedModule). i < length ys) are below) (subst (λ (ys : List LoadedModule). m ≡ get_or ys i m) are is)) in
        let more = given_next (begun b l.root ++ take i xs) m fresh now s.same old new before after h s.names in
        let wrote = recorded_one (begun b l.root ++ take i xs) m fresh now s.same old new before after h s.names in
        record {
          names = subst (λ (ys : List LoadedModule). GivesTo (numbering l.numbers) ys f new) (append_assoc (begun b l.root) (take i xs) (m ∷ []) ∙ ap (λ ys. begun b l.root ++ ys) (sym (take_next xs i m below is))) more;
          recorded = λ x.
              recorded_then w (writes f b (module_of l.root ∷ loaded_modules (take i xs))) (writes_of f (path_view m.path) (declared_names (module_of m))) start before after s.recorded wrote x
              ∙ ap (λ (ws : List Write). all_written w ws start x) (sym (ap (λ (ys : List LoadedModule). writes f b (module_of l.root ∷ loaded_modules ys)) (take_next xs i m below is)
              ∙ (ap (λ (ns : List Module). writes f b (module_of l.root ∷ ns)) (map-append module_of (take i xs) (m ∷ [])) ∙ writes_next f b (module_of l.root) (loaded_modules (take i xs)) (module_of m))));
          same = λ p x. on p x ∙ s.same p x;
        }

    -- those of all are
    pub ends : (ms : List LoadedModule) → ms ≡ l.others.items → (given : Given) (now : Path → Text → Text) (end : Record) → Mangles l b f w start ms given now end → IsGivenAll l b f given
    ends ms are given now end s = by b (subst (λ (ys : List LoadedModule). GivesTo (numbering l.numbers) (begun b l.root ++ ys) f given) are s.names)
      where
        by : (c : Bool) → GivesTo (numbering l.numbers) (begun c l.root ++ l.others.items) f given → IsGivenAll l c f given
        by true h = given_all l f given h
        by false h = given_others l f given distinct h

    pub ends_recorded : (ms : List LoadedModule) → ms ≡ l.others.items → (given : Given) (now : Path → Text → Text) (end : Record) → Mangles l b f w start ms given now end → IsRecordedBy w (writes f b (modules_in l)) start end
    ends_recorded ms are given now end s = subst (λ (ys : List LoadedModule). IsRecordedBy w (writes f b (module_of l.root ∷ loaded_modules ys)) start end) are s.recorded
