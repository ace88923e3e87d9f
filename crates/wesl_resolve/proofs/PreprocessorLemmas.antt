-- What a preprocessor means, once its resolver was asked.
use Rattle.std.proofs.Common.{◌≡◌, ◌⊎◌, Option, Result, Err, subst, sym, ⊎_elim, inl, inr}
use Rattle.wesl_tree_names.specs.Path.{Text, Path}
use Rattle.wesl_tree_names.specs.Errors.{OrMemory, IsRefusedFor}
use Rattle.wesl_tree_names.specs.declared.errors.Error.{Error}
use Rattle.wesl_tree_names.specs.declared.errors.ResolveError as resolve_error
use Rattle.wesl_tree_syntax.specs.Unit.{UnitOf, spelled}
use Rattle.wesl_tree.specs.Translation.{unit_view}
use Rattle.wesl_tree.specs.declared.unit.TranslationUnit.{TranslationUnit}
use Rattle.wesl_resolve_base.specs.Resolver.{MeansTheSame}
use Rattle.wesl_resolve_base.specs.Refusals.{IsShownRefusal}
use Rattle.wesl_resolve.specs.Preprocessor.{IsMade, IsMadeFault, AnyName, preprocessor_refuses, preprocessor_tells, PreprocessorMeans}
use Rattle.wesl_resolve.specs.declared.preprocessor.Preprocessor.{Preprocessor}
use Rattle.wesl_resolve_base.proofs.ResultLemmas.{either-iff, OrMemory-to}

IsRefusedFor-to : (P Q : Error → Type 0) → ((e : Error) → P e → Q e) → (e : resolve_error.ResolveError) → IsRefusedFor P e → IsRefusedFor Q e
IsRefusedFor-to P Q f (resolve_error.FileNotFound a b) h = h
IsRefusedFor-to P Q f (resolve_error.ModuleNotFound a b) h = h
IsRefusedFor-to P Q f (resolve_error.Error' p fault declaration place display span source) h = (f fault h.0, h.1)
IsRefusedFor-to P Q f resolve_error.Memory h = h

module _ (answers : TranslationUnit → Result TranslationUnit Error → Type 0) where
  IsMade-to : (hands others : UnitOf Text → Type 0) → ((u : UnitOf Text) → hands u → others u) → (u : UnitOf Text) → IsMade hands answers u → IsMade others answers u
  IsMade-to hands others f u h = (h.0, h.1, f _ h.2, h.3, h.4)

  IsMadeFault-to : (hands others : UnitOf Text → Type 0) → ((u : UnitOf Text) → hands u → others u) → (p : Path) (shows : Option Text → Type 0) (e : resolve_error.ResolveError) → IsMadeFault hands answers p shows e → IsMadeFault others answers p shows e
  IsMadeFault-to hands others f p shows e h = (h.0, f _ h.1, h.2)

  -- the name that is told is one of any
  IsMadeFault-any : (hands : UnitOf Text → Type 0) (p : Path) (shows : Option Text → Type 0) (e : resolve_error.ResolveError) → IsMadeFault hands answers p shows e → IsMadeFault hands answers p AnyName e
  IsMadeFault-any hands p shows e h = (h.0, h.1, (h.2.0, tt, h.2.2))

module _ {R F : Type 0} (hands : R → Path → UnitOf Text → Type 0) (refuses : R → Path → resolve_error.ResolveError → Type 0) (source : R → Path → Text → Type 0) (lacks : R → Path → resolve_error.ResolveError → Type 0) (shown : R → Path → Option Text → Type 0)
    (answers : F → TranslationUnit → Result TranslationUnit Error → Type 0) where
  -- the resolver means what it did, and the function is the same
  pub Preprocessor-same : (s : Preprocessor R F) (after : R) → MeansTheSame hands refuses source lacks shown s.resolver after
      → PreprocessorMeans answers hands refuses source lacks shown s (record { resolver = after; preprocess = s.preprocess })
  Preprocessor-same s after same =
      record {
        units = λ p u. (IsMade-to (answers s.preprocess) (hands after p) (hands s.resolver p) (λ v. (same.units p v).0) u, IsMade-to (answers s.preprocess) (hands s.resolver p) (hands after p) (λ v. (same.units p v).1) u);
        faults = λ p e.
            either-iff (same.faults p e)
            (IsMadeFault-to (answers s.preprocess) (hands after p) (hands s.resolver p) (λ v. (same.units p v).0) p AnyName e, IsMadeFault-to (answers s.preprocess) (hands s.resolver p) (hands after p) (λ v. (same.units p v).1) p AnyName e);
        sources = same.sources;
        missing = same.missing;
        names = same.names;
      }

  -- the function's refusal of a unit that was handed out is told
  pub Preprocessor-tells : (s : Preprocessor R F) (after : R) → MeansTheSame hands refuses source lacks shown s.resolver after
      → (p : Path) (given : TranslationUnit) (fault : Error) (e : resolve_error.ResolveError) → hands s.resolver p (spelled (unit_view given)) → answers s.preprocess given (Err fault)
      → OrMemory (IsShownRefusal (λ x. x ≡ fault) p (shown after p)) e
      → OrMemory (preprocessor_tells answers hands refuses shown s p) e
  Preprocessor-tells s after same p given fault e handed answered refused =
      let Answer : Error → Type 0 = λ x. answers s.preprocess given (Err x) in
      ⊎_elim inl
      (λ r. inr (inr (given, handed, (r.0, (same.names p r.0).0 r.1, (IsRefusedFor-to (λ x. x ≡ fault) Answer (λ x is. subst Answer (sym is) answered) e r.2.0, r.2.1)))))
      refused

  -- what is told is a refusal
  pub Preprocessor-refuses : (s : Preprocessor R F) (p : Path) (e : resolve_error.ResolveError) → OrMemory (preprocessor_tells answers hands refuses shown s p) e → OrMemory (preprocessor_refuses answers hands refuses s p) e
  Preprocessor-refuses s p e =
      OrMemory-to (preprocessor_tells answers hands refuses shown s p) (preprocessor_refuses answers hands refuses s p)
      (λ x. ⊎_elim inl (λ made. inr (IsMadeFault-any (answers s.preprocess) (hands s.resolver p) p (shown s.resolver p) x made))) e
