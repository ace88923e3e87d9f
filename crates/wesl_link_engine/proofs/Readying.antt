-- A loader may be asked for what a numbered table names, and keeps what it handed out as it learns more.
use Rattle.std.proofs.Common.{◌≡◌, ◌↔◌, ◌⊎◌, inl, inr, ℕ, Option, Some, Result, Ok, Err, IfOk, OnErr, List, [], Contains, subst, sym, ◌∙◌}
use Rattle.wesl_tree_names.specs.Path.{Text, Path}
use Rattle.wesl_tree_names.specs.declared.errors.ResolveError.{ResolveError}
use Rattle.wesl_tree_syntax.specs.Unit.{UnitOf, spelled}
use Rattle.wesl_tree.specs.Translation.{unit_view}
use Rattle.wesl_tree.specs.declared.unit.TranslationUnit.{TranslationUnit}
use Rattle.wesl_resolve_base.specs.Resolver.{MeansTheSame}
use Rattle.wesl_link_symbols.specs.declared.ids.PathId.{PathId}
use Rattle.wesl_tree_base.specs.declared.ids.NameId.{NameId}
use Rattle.wesl_link_symbols.specs.Tables.{Table}
use Rattle.wesl_link_reach.specs.Loader.{IsReady, OnlyAdds}
use Rattle.wesl_link_reach.specs.declared.loader.LoadError.{LoadError}
use Rattle.wesl_link_symbols.proofs.Lists.{contains_nil}
use Rattle.wesl_link_tables.specs.Tables.{table_at, uses}
use Rattle.wesl_link_tables.specs.Numbering.{Numbering, Grows, NameAt, PathAt, IsNumbered, SameImport, SameReference, SameDeclaration}
use Rattle.wesl_link_tables.proofs.Related.{path_later, table_later, grows_itself, grows_trans}
use Rattle.wesl_link_engine.specs.Handing.{Follows, StaysOne, HaveOne, AreHanded, Keeps, IsReadyPath, IsHandedTable, IsMarkedAt, IsRefusedPath, PutsUnit, KeepsUnit}
use Rattle.wesl_link_engine.specs.declared.loaded.Held.{Held}
use Rattle.wesl_link_engine.proofs.Carried.{related_in}
use Rattle.wesl_link_engine.proofs.Marked.{marks_later}

pub ready_table : (K : Type 0) → K → (nb : Numbering) (t : Table PathId NameId) (u : Table Path Text) → IsNumbered nb t u → IsReady (λ p. IsReadyPath nb p × K) t
ready_table K keeps nb t u same = record {
  imports = λ i held. let (j, c, k) = related_in (SameImport (PathAt nb) (NameAt nb)) t.imports u.imports i same.imports held in ((j.path, k.path), keeps);
  references = λ d r in_t in_d.
      let (f, c, k) = related_in (SameDeclaration (PathAt nb) (NameAt nb)) t.declarations u.declarations d same.declarations in_t in
      let (s, x, l) = related_in (SameReference (PathAt nb) (NameAt nb)) d.references f.references r k.references in_d in
      ((s.path, l.path), keeps);
}

-- more names, more paths and more units
pub adds_more : (J K : Type 0) → (J → K) → (hands : Path → UnitOf Text → Type 0) (refuses : Path → ResolveError → Type 0) (a b : Numbering) (units more : List (PathId × Held)) → Grows a b
    → ((p : PathId) (u : Held) → Contains units (p, u) → Contains more (p, u))
    → OnlyAdds (IsHandedTable hands a units) (IsRefusedPath refuses a) (λ p. IsReadyPath a p × J) (IsHandedTable hands b more) (IsRefusedPath refuses b) (λ p. IsReadyPath b p × K)
adds_more J K on hands refuses a b units more g keeps = record {
  hands = λ p t (q, unit, at, kept, given, numbered). (q, unit, path_later a b g p q at, keeps p unit kept, given, table_later a b g t (table_at q (spelled (unit_view unit.unit))) numbered);
  refuses = λ p e (q, at, why). (q, path_later a b g p q at, why);
  ready = λ p ((q, at), j). ((q, path_later a b g p q at), on j);
}

-- a path that had no unit has one now, and the others keep theirs
pub put_keeps : (units more : List (PathId × Held)) (id : PathId) (unit : Held) → ((u : Held) → Contains units (id, u) → ⊥) → PutsUnit units id unit more
    → (p : PathId) (u : Held) → Contains units (p, u) → Contains more (p, u)
put_keeps units more id unit absent puts p u held = by (puts.keeps p u held)
  where
    by : (p ≡ id) ⊎ Contains more (p, u) → Contains more (p, u)
    by (inl e) = absurd (absent u (subst (λ (q : PathId). Contains units (q, u)) e held))
    by (inr h) = h

pub put_one : (units more : List (PathId × Held)) (id : PathId) (unit : Held) → HaveOne units → PutsUnit units id unit more → HaveOne more
put_one units more id unit one puts p u w a b = by (puts.only p u a) (puts.only p w b)
  where
    by : ((p ≡ id) × (u ≡ unit)) ⊎ ((p ≡ id → ⊥) × Contains units (p, u)) → ((p ≡ id) × (w ≡ unit)) ⊎ ((p ≡ id → ⊥) × Contains units (p, w)) → u ≡ w
    by (inl (e, f)) (inl (g, h)) = f ∙ sym h
    by (inl (e, f)) (inr (g, h)) = absurd (g e)
    by (inr (e, f)) (inl (g, h)) = absurd (e g)
    by (inr (e, f)) (inr (g, h)) = one p u w f h

pub handed_more : (hands : Path → UnitOf Text → Type 0) (a b : Numbering) (units : List (PathId × Held)) → Grows a b → AreHanded hands a units → AreHanded hands b units
handed_more hands a b units g all p u held = let (q, at, given, marked) = all p u held in (q, path_later a b g p q at, given, marks_later a b g u.marks.items (uses q (spelled (unit_view u.unit))) marked)

pub handed_put : (hands : Path → UnitOf Text → Type 0) (nb : Numbering) (units more : List (PathId × Held)) (id : PathId) (unit : Held) (q : Path) → PathAt nb id q → hands q (spelled (unit_view unit.unit))
    → IsMarkedAt nb q unit → AreHanded hands nb units → PutsUnit units id unit more → AreHanded hands nb more
handed_put hands nb units more id unit q at given marked all puts p u held = by (puts.only p u held)
  where
    by : ((p ≡ id) × (u ≡ unit)) ⊎ ((p ≡ id → ⊥) × Contains units (p, u)) → (x : Path) × PathAt nb p x × hands x (spelled (unit_view u.unit)) × IsMarkedAt nb x u
    by (inl (e, f)) = (q, subst (λ (y : PathId). PathAt nb y q) (sym e) at, subst (λ (y : Held). hands q (spelled (unit_view y.unit))) (sym f) given, subst (λ (y : Held). IsMarkedAt nb q y) (sym f) marked)
    by (inr (e, h)) = all p u h

-- the relations of a resolver are the same after a call
pub follows_on : (hands hands2 fixed : Path → UnitOf Text → Type 0) (refuses refuses2 also : Path → ResolveError → Type 0) → Follows hands refuses fixed also
    → ((p : Path) (u : UnitOf Text) → hands2 p u ↔ hands p u) → ((p : Path) (e : ResolveError) → refuses2 p e ↔ refuses p e) → Follows hands2 refuses2 fixed also
follows_on hands hands2 fixed refuses refuses2 also f h r = record { hands = λ p u x. f.hands p u ((h p u).0 x); refuses = λ p e x. f.refuses p e ((r p e).0 x) }

-- the resolver is one of the same after a call
pub stays_on : {R : Type 0} (hands : R → Path → UnitOf Text → Type 0) (refuses : R → Path → ResolveError → Type 0) (source : R → Path → Text → Type 0) (lacks : R → Path → ResolveError → Type 0) (shown : R → Path → Option Text → Type 0) (these : R → Type 0) (loan : ℕ) (old new : R) (name name2 : ℕ)
    → StaysOne hands refuses source lacks shown these loan old name → MeansTheSame hands refuses source lacks shown old new → name2 ≡ name → StaysOne hands refuses source lacks shown these loan new name2
stays_on hands refuses source lacks shown these loan old new name name2 s m e = record { here = s.on old new s.here m; on = s.on; held = e ∙ s.held }

-- one means the same as itself
pub means_itself : {R : Type 0} (hands : R → Path → UnitOf Text → Type 0) (refuses : R → Path → ResolveError → Type 0) (source : R → Path → Text → Type 0) (lacks : R → Path → ResolveError → Type 0) (shown : R → Path → Option Text → Type 0) (a : R) → MeansTheSame hands refuses source lacks shown a a
means_itself hands refuses source lacks shown a = record { units = λ p u. (λ h. h, λ h. h); faults = λ p e. (λ h. h, λ h. h); sources = λ p t. (λ h. h, λ h. h); missing = λ p e. (λ h. h, λ h. h); names = λ p n. (λ h. h, λ h. h) }

-- and what means the same as one that means the same does
pub means_on : {R : Type 0} (hands : R → Path → UnitOf Text → Type 0) (refuses : R → Path → ResolveError → Type 0) (source : R → Path → Text → Type 0) (lacks : R → Path → ResolveError → Type 0) (shown : R → Path → Option Text → Type 0) (a b c : R)
    → MeansTheSame hands refuses source lacks shown a b → MeansTheSame hands refuses source lacks shown b c → MeansTheSame hands refuses source lacks shown a c
means_on hands refuses source lacks shown a b c m n = record {
  units = λ p u. (λ h. (m.units p u).0 ((n.units p u).0 h), λ h. (n.units p u).1 ((m.units p u).1 h));
  faults = λ p e. (λ h. (m.faults p e).0 ((n.faults p e).0 h), λ h. (n.faults p e).1 ((m.faults p e).1 h));
  sources = λ p t. (λ h. (m.sources p t).0 ((n.sources p t).0 h), λ h. (n.sources p t).1 ((m.sources p t).1 h));
  missing = λ p e. (λ h. (m.missing p e).0 ((n.missing p e).0 h), λ h. (n.missing p e).1 ((m.missing p e).1 h));
  names = λ p x. (λ h. (m.names p x).0 ((n.names p x).0 h), λ h. (n.names p x).1 ((m.names p x).1 h));
}

-- a unit that was handed out is kept
pub keeps_put : (handed handed2 handed_there : Path → UnitOf Text → Type 0) (refused refused2 refused_there : Path → ResolveError → Type 0) (first a b : Numbering) (units more : List (PathId × Held)) (id : PathId) (unit : Held) (q : Path)
    → Keeps handed refused handed_there refused_there first a units → ((p : Path) (u : UnitOf Text) → handed2 p u ↔ handed p u) → ((p : Path) (e : ResolveError) → refused2 p e ↔ refused p e) → Grows a b → PathAt a id q
    → handed q (spelled (unit_view unit.unit)) → IsMarkedAt b q unit → PutsUnit units id unit more → Keeps handed2 refused2 handed_there refused_there first b more
keeps_put handed handed2 handed_there refused refused2 refused_there first a b units more id unit q k h r g at given marked puts = record {
  follows = follows_on handed handed2 handed_there refused refused2 refused_there k.follows h r;
  grows = grows_trans first a b k.grows g;
  one_unit = put_one units more id unit k.one_unit puts;
  handed_out = handed_put handed_there b units more id unit q (path_later a b g id q at) (k.follows.hands q (spelled (unit_view unit.unit)) given) marked (handed_more handed_there a b units g k.handed_out) puts;
}

-- nothing is kept that was not before
pub keeps_on : (handed handed2 handed_there : Path → UnitOf Text → Type 0) (refused refused2 refused_there : Path → ResolveError → Type 0) (first a b : Numbering) (units more : List (PathId × Held))
    → Keeps handed refused handed_there refused_there first a units → ((p : Path) (u : UnitOf Text) → handed2 p u ↔ handed p u) → ((p : Path) (e : ResolveError) → refused2 p e ↔ refused p e) → Grows a b → more ≡ units
    → Keeps handed2 refused2 handed_there refused_there first b more
keeps_on handed handed2 handed_there refused refused2 refused_there first a b units more k h r g e = record {
  follows = follows_on handed handed2 handed_there refused refused2 refused_there k.follows h r;
  grows = grows_trans first a b k.grows g;
  one_unit = subst (λ (us : List (PathId × Held)). HaveOne us) (sym e) k.one_unit;
  handed_out = subst (λ (us : List (PathId × Held)). AreHanded handed_there b us) (sym e) (handed_more handed_there a b units g k.handed_out);
}

-- a unit that was handed out is kept, unless there was no memory for it
pub keeps_kept : (handed handed2 handed_there : Path → UnitOf Text → Type 0) (refused refused2 refused_there : Path → ResolveError → Type 0) (first a b : Numbering) (units more : List (PathId × Held)) (id : PathId) (unit : TranslationUnit) (q : Path)
    → Keeps handed refused handed_there refused_there first a units → ((p : Path) (u : UnitOf Text) → handed2 p u ↔ handed p u) → ((p : Path) (e : ResolveError) → refused2 p e ↔ refused p e) → Grows a b → PathAt a id q
    → handed q (spelled (unit_view unit)) → (r : Result (Table PathId NameId) (LoadError ResolveError)) → IfOk r (λ t. KeepsUnit b units id q unit t more) → OnErr r (more ≡ units) → Keeps handed2 refused2 handed_there refused_there first b more
keeps_kept handed handed2 handed_there refused refused2 refused_there first a b units more id unit q k h r g at given (Ok t) kept same =
    keeps_put handed handed2 handed_there refused refused2 refused_there first a b units more id (record { unit = unit; marks = kept.marks }) q k h r g at given kept.marked kept.puts
keeps_kept handed handed2 handed_there refused refused2 refused_there first a b units more id unit q k h r g at given (Err e) kept same =
    keeps_on handed handed2 handed_there refused refused2 refused_there first a b units more k h r g same

-- what was kept is kept still
pub kept_keeps : (b : Numbering) (units more : List (PathId × Held)) (id : PathId) (q : Path) (unit : TranslationUnit) → ((u : Held) → Contains units (id, u) → ⊥)
    → (r : Result (Table PathId NameId) (LoadError ResolveError)) → IfOk r (λ t. KeepsUnit b units id q unit t more) → OnErr r (more ≡ units) → (p : PathId) (u : Held) → Contains units (p, u) → Contains more (p, u)
kept_keeps b units more id q unit absent (Ok t) kept same p u held = put_keeps units more id (record { unit = unit; marks = kept.marks }) absent kept.puts p u held
kept_keeps b units more id q unit absent (Err e) kept same p u held = subst (λ (us : List (PathId × Held)). Contains us (p, u)) (sym same) held

-- the table of what is kept was handed out
pub kept_handed : (hands : Path → UnitOf Text → Type 0) (b : Numbering) (units more : List (PathId × Held)) (id : PathId) (q : Path) (unit : TranslationUnit) (t : Table PathId NameId)
    → PathAt b id q → hands q (spelled (unit_view unit)) → KeepsUnit b units id q unit t more → IsHandedTable hands b more id t
kept_handed hands b units more id q unit t at given kept = (q, record { unit = unit; marks = kept.marks }, at, kept.puts.has, given, kept.numbered)

-- nothing is loaded yet
pub keeps_nothing : (handed handed_there : Path → UnitOf Text → Type 0) (refused refused_there : Path → ResolveError → Type 0) (first nb : Numbering) (units : List (PathId × Held)) → Follows handed refused handed_there refused_there
    → first ≡ nb → units ≡ [] → Keeps handed refused handed_there refused_there first nb units
keeps_nothing handed handed_there refused refused_there first nb units f e n = record {
  follows = f;
  grows = subst (λ (x : Numbering). Grows first x) e (grows_itself first);
  one_unit = λ p u w a b. absurd (contains_nil (p, u) (subst (λ (us : List (PathId × Held)). Contains us (p, u)) n a));
  handed_out = λ p u a. absurd (contains_nil (p, u) (subst (λ (us : List (PathId × Held)). Contains us (p, u)) n a));
}

-- a unit that is kept was handed out, and so was its table
pub handed_again : (hands : Path → UnitOf Text → Type 0) (a b : Numbering) (units : List (PathId × Held)) (p : PathId) (u : Held) (q : Path) (t : Table PathId NameId) → Grows a b → AreHanded hands a units → Contains units (p, u) → PathAt a p q
    → IsNumbered b t (table_at q (spelled (unit_view u.unit))) → IsHandedTable hands b units p t
handed_again hands a b units p u q t g all kept at numbered =
    let (r, at2, given, marked) = all p u kept in
    let f : Some r ≡ Some q = sym at2 ∙ at in
    let e : r ≡ q = cc in
    (q, u, path_later a b g p q at, kept, subst (λ (x : Path). hands x (spelled (unit_view u.unit))) e given, numbered)

pub in_ok : {A E : Type 0} (P Q : A → Type 0) (r : Result A E) → ((a : A) → P a → Q a) → IfOk r P → IfOk r Q
in_ok P Q (Ok a) h p = h a p
in_ok P Q (Err e) h p = tt

pub itself : {A B : Type 0} (X : A → B → Type 0) (a : A) (b : B) → X a b ↔ X a b
itself X a b = ((λ h. h), (λ h. h))
