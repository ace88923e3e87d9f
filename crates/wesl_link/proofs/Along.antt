-- A link over relations that mean the same.
use Rattle.std.proofs.Common.{◌⊎◌, ◌↔◌, Option, ℕ, Bool, List, Result, Ok, Err, IfOk, inl, inr, ⊎_elim}
use Rattle.wesl_tree_names.specs.Path.{Text, Path}
use Rattle.wesl_tree_names.specs.declared.errors.Error as error
use Rattle.wesl_tree_names.specs.declared.errors.Diagnostic.{Diagnostic}
use Rattle.wesl_tree_names.specs.declared.errors.ResolveError.{ResolveError}
use Rattle.wesl_tree_names.specs.declared.errors.ResolveError as resolve_error
use Rattle.wesl_cond_features.specs.declared.features.Features.{Features}
use Rattle.wesl_tree.specs.declared.unit.TranslationUnit.{TranslationUnit}
use Rattle.wesl_tree_names.specs.Errors.{IsRefusedFor, OrMemory}
use Rattle.wesl_resolve.specs.Preprocessor.{IsMade, IsMadeFault, AnyName}
use Rattle.wesl_cond.specs.Conditioned.{IsConditioned}
use Rattle.wesl_tree_syntax.specs.Unit.{UnitOf}
use Rattle.wesl_link_symbols.specs.Tables.{Table}
use Rattle.wesl_link_reach.specs.World.{Task}
use Rattle.wesl_link_reach.specs.Faults.{Fault, duplicate, refused, missing, private, ambiguous, too_many_flags, too_many, Stands}
use Rattle.wesl_link_engine.specs.Worlds.{Module, tables, task_of, IsWorld, IsLinked, IsRefused}
use Rattle.wesl_link.specs.Linking.{Links, RefusesLink, kept_names, hands_left, refuses_left}
use Rattle.wesl_link_engine.specs.Refusal.{TellsFault}
use Rattle.wesl_link_engine.proofs.Refusing.{fault_over}

stands-over : (refuses others : Path → ResolveError → Type 0) → ((p : Path) (e : ResolveError) → refuses p e → others p e) → (task : Task Path Text) (limit : ℕ) (ts : List (Table Path Text)) (fault : Fault Path Text ResolveError) → Stands refuses task limit ts fault → Stands others task limit ts fault
stands-over refuses others to task limit ts (duplicate p n) h = h
stands-over refuses others to task limit ts (refused e) h = (h.0, h.1, h.2, to h.0 e h.3)
stands-over refuses others to task limit ts (missing p n) h = h
stands-over refuses others to task limit ts (private n p) h = h
stands-over refuses others to task limit ts (ambiguous n) h = h
stands-over refuses others to task limit ts (too_many_flags p) h = h
stands-over refuses others to task limit ts (too_many k) h = h

world-over : (hands others : Path → UnitOf Text → Type 0) → ((p : Path) (u : UnitOf Text) → hands p u → others p u) → (root : Module) (w : List Module) → IsWorld hands root w → IsWorld others root w
world-over hands others to root w h = record { root_in = h.root_in; handed = λ m c. ⊎_elim inl (λ x. inr (to m.path m.unit x)) (h.handed m c); one_unit = h.one_unit; no_relative = h.no_relative }

-- relations that mean the same
pub record AreAlike (hands hands2 : Path → UnitOf Text → Type 0) (refuses refuses2 : Path → ResolveError → Type 0) : Type 0 where
  pub to : (p : Path) (u : UnitOf Text) → hands p u → hands2 p u
  pub on : (p : Path) (e : ResolveError) → refuses p e → refuses2 p e
  pub back : (p : Path) (e : ResolveError) → refuses2 p e → refuses p e

module _ (hands hands2 : Path → UnitOf Text → Type 0) (refuses refuses2 : Path → ResolveError → Type 0) (alike : AreAlike hands hands2 refuses refuses2) where
  pub linked-over : (root : Module) (task : Task Path Text) (limit turns : ℕ) (w : List Module) → IsLinked hands refuses root task limit turns w → IsLinked hands2 refuses2 root task limit turns w
  linked-over root task limit turns w h = record { world = world-over hands hands2 alike.to root w h.world; once = h.once; paths = h.paths; no_fault = λ fault s. h.no_fault fault (stands-over refuses2 refuses alike.back task limit (tables w) fault s); turns = h.turns }

  pub refused-over : (root : Module) (task : Task Path Text) (limit : ℕ) (d : Diagnostic) → TellsFault (IsRefused hands refuses root task limit) d → TellsFault (IsRefused hands2 refuses2 root task limit) d
  refused-over root task limit = fault_over (IsRefused hands refuses root task limit) (IsRefused hands2 refuses2 root task limit)
      (λ f h. (h.0, world-over hands hands2 alike.to root h.0 h.1, stands-over refuses refuses2 alike.on task limit (tables h.0) f h.2))

  or-memory-over : (p : Path) (e : ResolveError) → OrMemory (refuses p) e → OrMemory (refuses2 p) e
  or-memory-over p e (inl h) = inl h
  or-memory-over p e (inr h) = inr (alike.on p e h)

  pub links-over : (p : Path) (keep : List Text) (is_eager : Bool) (limit turns : ℕ) (w : List Module) → Links hands refuses p keep is_eager limit turns w → Links hands2 refuses2 p keep is_eager limit turns w
  links-over p keep is_eager limit turns w (root, at_root, linked, order) = (root, (at_root.0, alike.to p root.unit at_root.1), linked-over root (task_of root (kept_names is_eager keep) is_eager) limit turns w linked, order)

  pub refuses-over : (p : Path) (keep : List Text) (is_eager : Bool) (limit : ℕ) (d : Diagnostic) → RefusesLink hands refuses p keep is_eager limit d → RefusesLink hands2 refuses2 p keep is_eager limit d
  refuses-over p keep is_eager limit d (inl h) = inl (h.0, or-memory-over p h.0 h.1, h.2)
  refuses-over p keep is_eager limit d (inr h) = inr (h.0, (h.1.0, alike.to p h.0.unit h.1.1), refused-over h.0 (task_of h.0 (kept_names is_eager keep) is_eager) limit d h.2)

pub both-ok : {T E : Type 0} (r : Result T E) (P Q R : T → Type 0) → ((x : T) → P x → Q x → R x) → IfOk r P → IfOk r Q → IfOk r R
both-ok (Ok x) P Q R f h k = f x h k
both-ok (Err e) P Q R f h k = tt

-- what a stored function hands out that leaves what the features leave
module _ (hands hands2 : Path → UnitOf Text → Type 0) (refuses refuses2 : Path → ResolveError → Type 0) (units : (p : Path) (u : UnitOf Text) → hands p u ↔ hands2 p u) (faults : (p : Path) (e : ResolveError) → refuses p e ↔ refuses2 p e)
    (features : Option Features) (answers : TranslationUnit → Result TranslationUnit error.Error → Type 0) (same : (given : TranslationUnit) (answer : Result TranslationUnit error.Error) → answers given answer ↔ IsConditioned features given answer) where
  made : (p : Path) (u : UnitOf Text) → IsMade (hands p) answers u → hands_left hands2 refuses2 features p u
  made p u (given, left, handed, answered, spells) = (given, left, (units p _).0 handed, (same given (Ok left)).0 answered, spells)

  faulty : (P Q : error.Error → Type 0) → ((e : error.Error) → P e → Q e) → (e : ResolveError) → IsRefusedFor P e → IsRefusedFor Q e
  faulty P Q f (resolve_error.Error' at fault declaration place display span source) h = (f fault h.0, h.1)
  faulty P Q f (resolve_error.ModuleNotFound q text) h = absurd h
  faulty P Q f (resolve_error.FileNotFound file text) h = absurd h
  faulty P Q f resolve_error.Memory h = absurd h

  fault-to : (p : Path) (e : ResolveError) → refuses p e ⊎ IsMadeFault (hands p) answers p AnyName e → refuses_left hands2 refuses2 features p e
  fault-to p e (inl h) = inl ((faults p e).0 h)
  fault-to p e (inr h) = inr (h.0, (units p _).0 h.1, (h.2.0, tt, (faulty _ _ (λ fault k. (same h.0 (Err fault)).0 k) e h.2.2.0, h.2.2.1)))

  fault-back : (p : Path) (e : ResolveError) → refuses_left hands2 refuses2 features p e → refuses p e ⊎ IsMadeFault (hands p) answers p AnyName e
  fault-back p e (inl h) = inl ((faults p e).1 h)
  fault-back p e (inr h) = inr (h.0, (units p _).1 h.1, (h.2.0, tt, (faulty _ _ (λ fault k. (same h.0 (Err fault)).1 k) e h.2.2.0, h.2.2.1)))

  pub left-alike : AreAlike (λ p u. IsMade (hands p) answers u) (hands_left hands2 refuses2 features) (λ p e. refuses p e ⊎ IsMadeFault (hands p) answers p AnyName e) (refuses_left hands2 refuses2 features)
  left-alike = record { to = made; on = fault-to; back = fault-back }
