-- What is handed out of texts, and refused.
use Rattle.std.proofs.Common.{◌≡◌, ◌⊎◌, Option, None, Result, Err, false, true≢false, sym, ap, ◌∙◌, subst, inl, inr}
use Rattle.wesl_tree_names.specs.Path.{Path, Text}
use Rattle.wesl_tree_names.specs.Errors.{IsRefusedFor, IsRefusedWith, OrMemory, is_memory}
use Rattle.wesl_tree_names.specs.declared.errors.Error as error
use Rattle.wesl_tree_names.specs.declared.errors.ResolveError as resolve_error
use Rattle.wesl_tree_syntax.specs.Unit.{UnitOf, spelled}
use Rattle.wesl_tree.specs.Translation.{unit_view}
use Rattle.wesl_tree.specs.declared.unit.TranslationUnit.{TranslationUnit}
use Rattle.wesl_cond.specs.Conditioned.{IsConditioned}
use Rattle.wesl_cond_features.specs.declared.features.Features.{Features}
use Rattle.wesl_link.specs.Conditions.{RefusesLeft}
use Rattle.wesl_resolve_base.specs.Packages.{IsSaid}
use Rattle.wesl_resolve_base.specs.Refusals.{TellsModule}
use Rattle.serde_json.specs.Data.{Data}
use Rattle.wesl_text_program.specs.Texts.{IsUnsaid}

-- a refusal for an error of which something holds, unless it is want of memory
refused-with : (P : error.Error → Type 0) (d : error.Error) → (d ≡ error.Memory) ⊎ P d → (e : resolve_error.ResolveError) → IsRefusedFor (λ x. x ≡ d) e → IsRefusedWith P e
refused-with P d (inr holds) (resolve_error.Error' at fault declaration place display span source) (is, other) = subst P (sym is) holds
refused-with P d (inl memory) (resolve_error.Error' at fault declaration place display span source) (is, other) = absurd (true≢false (sym (ap is_memory (is ∙ memory)) ∙ other))
refused-with P d told (resolve_error.FileNotFound file reason) h = absurd h
refused-with P d told (resolve_error.ModuleNotFound q reason) h = absurd h
refused-with P d told resolve_error.Memory h = absurd h

pub refused-by : (P : error.Error → Type 0) (d : error.Error) → (d ≡ error.Memory) ⊎ P d → (e : resolve_error.ResolveError) → OrMemory (IsRefusedFor (λ x. x ≡ d)) e → OrMemory (IsRefusedWith P) e
refused-by P d told e (inl memory) = inl memory
refused-by P d told e (inr h) = inr (refused-with P d told e h)

refused-for : (P : error.Error → Type 0) (d : error.Error) → P d → (e : resolve_error.ResolveError) → IsRefusedFor (λ x. x ≡ d) e → IsRefusedFor P e
refused-for P d holds (resolve_error.Error' at fault declaration place display span source) (is, other) = (subst P (sym is) holds, other)
refused-for P d holds (resolve_error.FileNotFound file reason) h = absurd h
refused-for P d holds (resolve_error.ModuleNotFound q reason) h = absurd h
refused-for P d holds resolve_error.Memory h = absurd h

-- a refusal for an error that is not want of memory
never-memory : (d : error.Error) → is_memory d ≡ false → (e : resolve_error.ResolveError) → IsRefusedWith (λ x. x ≡ d) e → IsRefusedFor (λ x. x ≡ d) e
never-memory d other (resolve_error.Error' at fault declaration place display span source) is = (is, ap is_memory is ∙ other)
never-memory d other (resolve_error.FileNotFound file reason) h = absurd h
never-memory d other (resolve_error.ModuleNotFound q reason) h = absurd h
never-memory d other resolve_error.Memory h = absurd h

pub refused-never : (d : error.Error) → is_memory d ≡ false → (e : resolve_error.ResolveError) → OrMemory (IsRefusedWith (λ x. x ≡ d)) e → OrMemory (IsRefusedFor (λ x. x ≡ d)) e
refused-never d other e (inl memory) = inl memory
refused-never d other e (inr h) = inr (never-memory d other e h)

-- the refusal of a unit in which a fault of a condition stands
pub left-refused : (features : Option Features) (hands : UnitOf Text → Type 0) (p : Path) (given : TranslationUnit) → hands (spelled (unit_view given)) → (fault : error.Error) → IsConditioned features given (Err fault)
    → (e : resolve_error.ResolveError) → OrMemory (IsRefusedFor (λ x. x ≡ fault)) e → OrMemory (TellsModule p None None) e → OrMemory (RefusesLeft features hands p) e
left-refused features hands p given handed fault judged e (inl memory) told = inl memory
left-refused features hands p given handed fault judged e (inr h) (inl memory) = inl memory
left-refused features hands p given handed fault judged e (inr h) (inr told) = inr (given, handed, (None, tt, (refused-for (λ x. IsConditioned features given (Err x)) fault judged e h, told)))

-- where nothing is found, what is said of that refuses the path
pub missing-unsaid : (p : Path) (found : Result Data Text) (e : resolve_error.ResolveError) → IsSaid p found e → IsUnsaid p found e
missing-unsaid p found e (message, is, h) = subst (λ f. IsUnsaid p f e) (sym is) h
