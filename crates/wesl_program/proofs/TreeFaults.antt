-- Faults of trees.
use Rattle.std.proofs.Common.{◌≡◌, ◌⊎◌, ◌∙◌, refl, sym, ap, subst, inl, inr, string_bytes}
use Rattle.std.proofs.lemmas.Bool.{false≢true}
use Rattle.serde_json.specs.Data.{Data}
use Rattle.wesl_tree_names.specs.declared.errors.Error as error
use Rattle.wesl_tree_names.specs.declared.errors.ResolveError as resolve_error
use Rattle.wesl_tree_names.specs.Errors.{IsRefusedFor, IsRefusedWith, OrMemory, is_memory}
use Rattle.wesl_json_form.specs.Units.{IsBrokenUnit, IsNoUnit}
use Rattle.wesl_json_read.specs.Faults.{IfPlace}
use Rattle.wesl_json.specs.UnitTexts.{IsTreeFault}

pub tree-fault : (d : Data) (e : error.Error) → IfPlace e (IsBrokenUnit d) → IfPlace e (λ _. IsNoUnit d) → (e ≡ error.Memory) ⊎ IsTreeFault d e
tree-fault d error.Memory p q = inl refl
tree-fault d (error.BadTree s) p q = inr (string_bytes s, refl, p, q)
tree-fault d _ p q = absurd p

wider : {P Q : error.Error → Type 0} → ((g : error.Error) → P g → Q g) → (e : resolve_error.ResolveError) → IsRefusedWith P e → IsRefusedWith Q e
wider so (resolve_error.Error' p fault declaration place display span source) h = so fault h
wider so (resolve_error.FileNotFound file message) h = absurd h
wider so (resolve_error.ModuleNotFound path message) h = absurd h
wider so resolve_error.Memory h = absurd h

-- the refusal for a fault of a tree
pub refused-with : (d : Data) (f : error.Error) (e : resolve_error.ResolveError) → (f ≡ error.Memory) ⊎ IsTreeFault d f → OrMemory (IsRefusedFor (λ g. g ≡ f)) e → OrMemory (IsRefusedWith (IsTreeFault d)) e
refused-with d f e fault (inl memory) = inl memory
refused-with d f e (inl memory) (inr h) = inr (wider (λ g is. absurd (false≢true (sym is.1 ∙ ap is_memory (is.0 ∙ memory)))) e h)
refused-with d f e (inr fault) (inr h) = inr (wider (λ g is. subst (IsTreeFault d) (sym is.0) fault) e h)
