-- The line of a text, and of a refusal.
use Rattle.std.proofs.Common.{◌≡◌, [], ◌∷◌, ◌++◌, Bool, true, false, codes, List, ℕ, refl, sym, ap, subst, ◌∙◌, append_assoc, inl, inr}
use Rattle.serde_json.specs.Data.{Data, string}
use Rattle.serde_json.specs.Written.{compact_text}
use Rattle.serde_json.proofs.OnLiterals.{serde_json_on_literals}
use Rattle.std.specs.Global.{Global}
use Rattle.std.specs.Prelude.{String}
use Rattle.wesl_tree_names.specs.Path.{Text}
use Rattle.wesl_tree_names.specs.Errors.{IsBare}
use Rattle.wesl_tree_names.specs.declared.errors.Diagnostic.{Diagnostic, out-Diagnostic}
use Rattle.wesl_tree_names.specs.declared.errors.Error as error
use Rattle.wesl_text_sink.specs.Words.{is_limit}
use Rattle.wesl_text_sink.specs.declared.fault.PrintFault.{PrintFault}
use Rattle.wesl_text_linked.specs.declared.text.TextRefusal.{TextRefusal}
use Rattle.wesl_text_linked.specs.declared.text.TextRefusal.TheVariants as refused
use Rattle.wesl_program_bundle.specs.Bundle.{Bundle}
use Rattle.wesl_program.specs.Fault.{Fault, fault_of}
use Rattle.wesl_program.specs.Line.{IsBundleOf, IsNoBundle, IsUnread, TellsFault, answer_beginning, line_of, memory, told_value}
use Rattle.wesl_program.specs.Places.{nowhere}
use Rattle.wesl_text_program.specs.Answers.{RefusesBundle, RefusesBytes, TellsRefusal}
use Rattle.wesl_text_program.specs.Line.{IsLineAnywhere, IsLineOfNoText, IsTextFaultLine, IsUnreadIn, TellsTextFault, answer_value, no_text}

abbrev between : Text
between = codes ",\"text\":"

line-of : (clash : Bool) (map : Data) (text : Text) → answer_beginning clash ++ (compact_text map ++ (between ++ (compact_text (string text) ++ codes "}\n"))) ≡ line_of (answer_value clash map text)
unfolding serde_json_on_literals
line-of true map text =
    ap (λ r. answer_beginning true ++ r)
    (sym (append_assoc (compact_text map) (between ++ (compact_text (string text) ++ 125 ∷ [])) (10 ∷ []) ∙ ap (λ r. compact_text map ++ (between ++ r)) (append_assoc (compact_text (string text)) (125 ∷ []) (10 ∷ []))))
line-of false map text =
    ap (λ r. answer_beginning false ++ r)
    (sym (append_assoc (compact_text map) (between ++ (compact_text (string text) ++ 125 ∷ [])) (10 ∷ []) ∙ ap (λ r. compact_text map ++ (between ++ r)) (append_assoc (compact_text (string text)) (125 ∷ []) (10 ∷ []))))

-- the line, from its beginning and its map, the text as JSON, and its end
pub line-made : (clash : Bool) (map : Data) (text : Text) (mapped named printed closed : Text) → mapped ≡ answer_beginning clash ++ compact_text map → named ≡ mapped ++ between → printed ≡ named ++ compact_text (string text) → closed ≡ printed ++ codes "}\n"
    → closed ≡ line_of (answer_value clash map text)
line-made clash map text mapped named printed closed first second third fourth =
    let a = answer_beginning clash in
    let m = compact_text map in
    let t = compact_text (string text) in
    fourth ∙ ap (λ r. r ++ codes "}\n") (third ∙ ap (λ r. r ++ t) (second ∙ ap (λ r. r ++ between) first))
    ∙ append_assoc (((a ++ m) ++ between)) t (codes "}\n")
    ∙ append_assoc (a ++ m) between (t ++ codes "}\n")
    ∙ append_assoc a m (between ++ (t ++ codes "}\n"))
    ∙ line-of clash map text

-- ---- refusals

-- a diagnostic of a text that says no unit tells its own fault
pub told-there : (d : Diagnostic) (reason : String Global) → (out-Diagnostic d).error ≡ error.BadTree reason → IsUnreadIn d d
told-there d reason is = record { same = refl; unread = ap (λ e. (fault_of e).named) is }

-- and one that holds such a diagnostic tells the same
pub told-deeper : (d inner told : Diagnostic) → fault_of (out-Diagnostic inner).error ≡ fault_of (out-Diagnostic d).error → IsUnreadIn inner told → IsUnreadIn d told
told-deeper d inner told is h = record { same = h.same ∙ is; unread = sym (ap (λ f. f.named) is) ∙ h.unread }

-- its line is one of the fault that is told
pub unread-told : (d told : Diagnostic) → IsUnreadIn d told → (line : Text) → IsLineAnywhere (fault_of (out-Diagnostic told).error) line → TellsTextFault (fault_of (out-Diagnostic d).error) line
unread-told d told h line (inl memory) = inl memory
unread-told d told h line (inr (p, is)) = inr (p, inr h.unread, subst (λ f. line ≡ line_of (told_value f p)) h.same is)

-- the line of a refusal that tells no more than others do
pub told-as-others : (f : Fault) (line : Text) → TellsFault true f line → TellsTextFault f line
told-as-others f line (inl memory) = inl memory
told-as-others f line (inr (p, stands, is)) = inr (p, inl stands, is)

-- a unit that no text says is told by its line
pub no-text-told : (f : PrintFault) → is_limit f ≡ false → (line : Text) → IsLineOfNoText line → TellsRefusal (refused.Text f) line
no-text-told f unlimited line (inl memory) = inl memory
no-text-told f unlimited line (inr (reason, is)) = inr (unlimited, (reason, is))

-- ---- of bytes

-- a bundle that is refused
pub bundle-refused : (bytes : List ℕ) (b : Bundle) → IsBundleOf bytes b → (e : TextRefusal) → RefusesBundle b e → RefusesBytes bytes e
bundle-refused bytes b is (refused.Link d) h = inr (inr (b, is, h))
bundle-refused bytes b is (refused.Text f) h = (b, is, h)

-- bytes that are no bundle
pub unread-refused : (bytes : List ℕ) (e : error.Error) (d : Diagnostic) → IsUnread bytes e → IsBare e d → RefusesBytes bytes (refused.Link d)
unread-refused bytes e d told bare = by told where
  is : (out-Diagnostic d).error ≡ e
  is = ap (λ r. r.error) bare

  by : IsUnread bytes e → RefusesBytes bytes (refused.Link d)
  by (inl wanting) = inl (ap fault_of (is ∙ wanting))
  by (inr none) = inr (inl (subst (λ x. IsNoBundle bytes (fault_of x)) (sym is) none))

-- the line of a refusal is one that the bytes may have
pub fault-line-told : (bytes : List ℕ) (e : TextRefusal) (line : Text) → RefusesBytes bytes e → TellsRefusal e line → IsTextFaultLine bytes line
fault-line-told bytes (refused.Link d) line (inl wanting) told = (fault_of (out-Diagnostic d).error, inl wanting, told)
fault-line-told bytes (refused.Link d) line (inr (inl none)) told = (fault_of (out-Diagnostic d).error, inr (inl none), told)
fault-line-told bytes (refused.Link d) line (inr (inr (b, is, h))) told = (fault_of (out-Diagnostic d).error, inr (inr (b, is, inl ((out-Diagnostic d).error, h, refl))), told)
fault-line-told bytes (refused.Text f) line h (inl wanting) = (memory, inl refl, inl wanting)
fault-line-told bytes (refused.Text f) line (b, is, lacks) (inr (unlimited, (reason, told))) = (no_text reason, inr (inr (b, is, inr (reason, lacks unlimited, refl))), inr (nowhere, inl (inl refl), told))
