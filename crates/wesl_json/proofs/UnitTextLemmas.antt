-- What a text says of a unit, from what is told of its value.
use Rattle.std.proofs.Common.{◌≡◌, ◌⊎◌, inl, inr, Bool, Option, Result, Ok, Err, IfErr, Some, None, false, refl, sym, ap, ◌∙◌, subst, string_bytes, ⊎_elim}
use Rattle.serde_json.specs.Data.{Data}
use Rattle.serde_json.specs.Read.{read}
use Rattle.serde_json.specs.Written.{compact_text, has_float}
use Rattle.wesl_tree_names.specs.Path.{Text}
use Rattle.wesl_tree_names.specs.declared.errors.Error as error
use Rattle.wesl_tree_syntax.specs.Shown.{placed}
use Rattle.wesl_tree_syntax.specs.Unit.{UnitView, spelled}
use Rattle.wesl_tree.specs.Translation.{unit_view}
use Rattle.wesl_tree.specs.declared.unit.TranslationUnit.{TranslationUnit}
use Rattle.wesl_json_form.specs.Units.{written_as, IsBrokenUnit, IsNoUnit}
use Rattle.wesl_json_light.specs.Readable.{IsReadable, UnitsReadBack}
use Rattle.wesl_json.specs.ReadAgain.{OfWritten}
use Rattle.wesl_json.specs.Texts.{IsNoJson, IsTextOf}
use Rattle.wesl_json_read.specs.Faults.{IfPlace}
use Rattle.wesl_json.proofs.Again.{spelled-written}
use Rattle.wesl_json.specs.UnitTexts.{chosen_value, shows_span, IsUnreadable, OfText, PrintsAs}

pub both-err : {T E : Type 0} {P Q R : E → Type 0} (r : Result T E) → IfErr r P → IfErr r Q → ((e : E) → P e → Q e → R e) → IfErr r R
both-err (Ok x) h k f = tt
both-err (Err e) h k f = f e h k

pub unreadable : (text : Text) (d : Data) (e : error.Error) → read text ≡ Some d → IfPlace e (IsBrokenUnit d) → IfPlace e (λ _. IsNoUnit d) → (e ≡ error.Memory) ⊎ IsUnreadable text e
unreadable text d error.Memory r p q = inl refl
unreadable text d (error.BadTree s) r p q = inr (inr (d, r, (string_bytes s, refl, p, q)))
unreadable text d _ r p q = absurd p

pub no-json : (text : Text) (e : error.Error) → IsNoJson text e → (e ≡ error.Memory) ⊎ IsUnreadable text e
no-json text e h = ⊎_elim inl (λ k. inr (inl k)) h

-- the value of a text is one
abbrev of_some : Data → Option Data → Data
of_some d None = d
of_some d (Some e) = e

pub of-value : (text : Text) (d : Data) (P : Data → Type 0) → read text ≡ Some d → P d → OfText text P
of-value text d P is h = λ e also. subst P (ap (of_some d) (sym is ∙ also)) h

not-both : (o : Option Data) (d : Data) → o ≡ None → o ≡ Some d → ⊥
not-both o d none is = cc

-- a text without a value
pub no-value : (text : Text) (e : error.Error) → IsNoJson text e → OfText text (λ d. OfWritten d (λ u. IsReadable u → e ≡ error.Memory))
no-value text e (inl memory) = λ d is spans u w paths readable. memory
no-value text e (inr h) = λ d is spans u w paths readable. absurd (not-both (read text) d h.1 is)

-- a value that is written in the form that is chosen
pub chosen : (u : UnitView) (spans : Bool) (d : Data) → spans ≡ shows_span (placed u) → d ≡ written_as spans u → d ≡ chosen_value u
chosen u spans d is w = w ∙ ap (λ b. written_as b u) is

-- and its text
pub chosen-text : (u : UnitView) (spans : Bool) (d : Data) (text : Text) → spans ≡ shows_span (placed u) → d ≡ written_as spans u → has_float d ≡ false → IsTextOf d text → text ≡ compact_text (chosen_value u)
chosen-text u spans d text is w whole h = h.compact whole ∙ ap compact_text (chosen u spans d is w)

pub printed : UnitsReadBack → (t : TranslationUnit) (spans : Bool) (d : Data) (text : Text) → spans ≡ shows_span (placed (unit_view t)) → d ≡ written_as spans (unit_view t) → has_float d ≡ false → IsTextOf d text → PrintsAs (spelled (unit_view t)) text
printed back t spans d text is w whole h = record {
  compact = (unit_view t, refl, chosen-text (unit_view t) spans d text is w whole h);
  read_back = λ paths v r. spelled-written back spans t r.0 (h.read_as r.0 r.1 ∙ w) paths v r.2;
}
